-- What a session that took a dump has seen.
use Rattle.std.proofs.Common.{◌≡◌, ℕ, List, sym, ap, ◌∙◌}
use Rattle.view_sums.proofs.Eachs.{each-imp}
use Rattle.flake_model.specs.Deed.{Deed}
use Rattle.order_book.specs.Closed.{IsShared, deeds_by, session_deeds_in}
use Rattle.dump_model.specs.Seen.{ShardSeen, list_seen, list_with}
use Rattle.pin_dump.specs.Taken.{TakenIsSeen}

pub is_seen : TakenIsSeen
is_seen shards before old new last points text later taken number looks told below behind = record {
  front = old.looks;
  seen = taken.seen;
  looks_are = looks ∙ taken.looks_are;
  numbered = taken.numbered;
  points_are = taken.points_are;
  text_is = taken.text_is;
  earlier = new.told;
  later = later;
  deeds_are = told;
  calls_before = below;
  calls_behind = behind;
  shared = each-imp (λ (look : ShardSeen). IsShared (list_seen look) old)
      (λ (look : ShardSeen). deeds_by last.number (list_seen look) ≡ session_deeds_in look.0 (list_with last new.told))
      (λ look shared. ap (λ n. deeds_by n (list_seen look)) (number ∙ taken.number_is) ∙ shared.deeds
      ∙ ap (λ (deeds : List (ℕ × Deed)). session_deeds_in look.0 (list_with last deeds)) (sym taken.told_is))
      taken.seen taken.shared;
}
