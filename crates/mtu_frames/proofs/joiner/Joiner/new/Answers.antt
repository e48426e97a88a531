use Rattle.std.proofs.Common.{List, sym, subst, ap, arith}
use Rattle.mtu_frames.specs.Joining.{Joining}
use Rattle.mtu_frames.specs.Held.{Entry, frames_in}
use Rattle.mtu_frames.specs.Kept.{AreKept, AreBefore}
use Rattle.mtu_frames.proofs.Keeping.{none_kept, none_before}
use Rattle.mtu_frames.proofs.joiner.Joiner.new.Goals as goal

pub missing_from-missing-requires-clause-kept : goal.missing_from-missing-requires-clause-kept
missing_from-missing-requires-clause-kept c =
    subst (λ (e : List Entry). AreKept (frames_in e)) (sym c.new-held.ensures.empty) none_kept

pub missing_from-missing-requires-clause-before : goal.missing_from-missing-requires-clause-before
missing_from-missing-requires-clause-before c =
    subst (λ (e : List Entry). AreBefore (frames_in e) 0 0) (sym c.new-held.ensures.empty) none_before

pub invariant_of-result : goal.invariant_of-result
invariant_of-result c = (
  c.requires.0,
  subst (λ (e : List Entry). AreKept (frames_in e)) (sym c.new-held.ensures.empty) none_kept,
  c.missing_from-missing.ensures,
)
