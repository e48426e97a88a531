-- The worked layouts, computed.
use Rattle.std.proofs.Common.{◌≡◌, refl}
use Rattle.std.specs.Fmt.{digits}
use Rattle.std.specs.List.{AllByRecursion}
use Rattle.reply_layout.specs.Frames.{frame_from}
use Rattle.reply_layout.specs.Worked.{Row, rows}

pub rows_are_laid_out : AllByRecursion
    (λ (row : Row). (frame_from row.threshold row.free row.command row.deeds).segments ≡ row.segments) rows
unfolding digits
rows_are_laid_out = (refl, (refl, (refl, (refl, (refl, (refl, (refl, (refl, (refl, tt)))))))))
