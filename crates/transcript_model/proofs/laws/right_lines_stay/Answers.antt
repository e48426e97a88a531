use Rattle.transcript_model.proofs.Stays.{all_stay}
use Rattle.transcript_model.proofs.laws.right_lines_stay.Goals as goal

pub returns : goal.returns
returns c = λ terms now commands end whole deeds events leaves right. all_stay terms now commands end whole deeds leaves
    _ events right
