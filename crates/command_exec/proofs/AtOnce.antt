-- A command without parts.
use Rattle.std.proofs.Common.{◌≡◌, ℕ, List, [], None, length, refl, ap, sym, subst, arith}
use Rattle.pin_core.specs.declared.sizes.Sizes.{Sizes}
use Rattle.flake_base.specs.declared.segment.Seg.{Seg}
use Rattle.flake_model.specs.Command.{Command, ping, ping_with, fault, parts}
use Rattle.reply_layout.specs.Pieces.{pieces_of}
use Rattle.reply_planner.specs.Laid.{pieces_in}
use Rattle.reply_planner.specs.Planned.{Planned}
use Rattle.command_exec.specs.Alike.{Alike}
use Rattle.command_exec.specs.Kinds.{HasNoParts}
use Rattle.command_exec.specs.Passes.{PassView}
use Rattle.command_exec.specs.Running.{HasReply}
use Rattle.command_exec.proofs.Growing.{run_none}

no_parts : (command : Command) → HasNoParts command → 0 ≡ length (parts command)
no_parts ping none = refl
no_parts (ping_with bytes) none = refl
no_parts (fault kind) none = refl
no_parts command none = absurd none

pub at_once : (z : Sizes) (shards call : ℕ) (command : Command) (pass : PassView) (segs : List Seg) (p q : Planned)
    → HasNoParts command → q.base ≡ p.base → q.begun ≡ None → Alike p.base.threshold (pieces_in q.taken)
    (pieces_of command [])
    → HasReply z shards call command pass pass segs segs q
at_once z shards call command pass segs p q none base begun alike = record {
  outcomes = [];
  ran = run_none z shards call (parts command) pass segs;
  whole = no_parts command none;
  pieces = subst (λ n. Alike n (pieces_in q.taken) (pieces_of command [])) (ap (λ b. b.threshold) (sym base)) alike;
  paid = omega arith;
  begun = begun;
}
