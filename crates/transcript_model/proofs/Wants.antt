-- A call that met want of memory.
use Rattle.std.proofs.Common.{◌≡◌, true, List, [], ◌∷◌, ◌++◌, refl, lit<, lit≤}
use Rattle.std.specs.Fmt.{digits}
use Rattle.transcript_model.specs.Lines.{LineEvent, posted, sent, at_end, reaped}
use Rattle.transcript_model.specs.Standing.{Standing, at_first}
use Rattle.transcript_model.specs.Right.{AreRight}
use Rattle.transcript_model.specs.Worked.{one, wants_memory}
use Rattle.transcript_model.proofs.Stays.{right-append}
use Rattle.transcript_model.proofs.Judge.{all_ok, last_of, all_right, ok, after, post_ok, post_after, gather_ok}
use Rattle.transcript_model.proofs.Judge.{reap_ok, fits, none_fits, are_segs, is_seg, all_buffers}

none_gone_passes : all_ok (wants_memory []).terms at_first (wants_memory (reaped 0 0 ∷ [])).events ≡ true
unfolding digits all_ok ok after post_ok post_after gather_ok reap_ok fits none_fits are_segs is_seg all_buffers
none_gone_passes = refl

-- it reaped none
pub none_gone : (last : Standing) × AreRight (wants_memory []).terms at_first (wants_memory (reaped 0 0 ∷ [])).events
    last
none_gone = (
  last_of (wants_memory []).terms at_first (wants_memory (reaped 0 0 ∷ [])).events,
  all_right
      (wants_memory []).terms at_first (wants_memory (reaped 0 0 ∷ [])).events none_gone_passes,
)

abbrev front : List LineEvent
front = posted 0 0 (one 1048576 7) [] ∷ posted 1 0 (one 1049088 7) [] ∷ sent 0 7 ∷ sent 1 7 ∷ []

front_passes : all_ok (wants_memory []).terms at_first front ≡ true
unfolding digits all_ok ok after post_ok post_after gather_ok fits none_fits are_segs is_seg all_buffers
front_passes = refl

-- it reaped the first frame
pub one_gone : (last : Standing) × AreRight (wants_memory []).terms at_first (wants_memory (reaped 1 0 ∷ [])).events
    last
unfolding digits last_of after post_after
one_gone =
    let terms = (wants_memory []).terms in
    let middle = last_of terms at_first front in
    let said : Standing = record middle { reaped = 1; ended = true } in
    let last : Standing = record middle { reaped = 2; ended = true } in (
      last,
      right-append terms at_first said last (front ++ at_end ∷ []) (reaped 1 0)
          (right-append terms at_first middle said front at_end (all_right terms at_first front front_passes)
          (record { freed = 1; served = refl; known = refl; may = tt; gathered = lit≤ tt; leaves = refl }))
          (record { frame = _; next = refl; gathered = lit< tt; posted_is = refl; recycles = lit≤ tt; leaves = refl }),
    )
