use Rattle.std.proofs.Common.{◌++◌, ◌∷◌, [], ◌∙◌, ap, inr, sym}
use Rattle.std.proofs.lemmas.List.{append-nil}
use Rattle.resp_reader.proofs.begun.Begun.end_word.Goals as goal

-- the word that was next is whole
pub returns-clause-grows : goal.returns-clause-grows
returns-clause-grows c =
    let old = c.args.self.now.room in
    inr (
      [],
      [],
      ap (λ r. r.words) c.in_ok-end_word.ensures.ok ∙ ap (λ w. old.words ++ w ∷ [])
          (sym (append-nil old.word)),
    )
