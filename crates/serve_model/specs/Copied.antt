-- Wrong outcomes: the answer to a command had a byte or two of a value, the threshold is 1, and yet no pinned hold came
-- back.
use Rattle.std.specs.Prelude.{◌≡◌, ℕ, true, false, List, [], ◌∷◌, codes, pos}
use Rattle.flake_base.specs.declared.journal.Entry.{Entry}
use Rattle.flake_base.specs.declared.session.End.TheVariants.{Clean}
use Rattle.pin_core.specs.declared.sizes.Sizes.{Sizes}
use Rattle.pinned_pool.specs.Ends.{End}
use Rattle.flake_model.specs.Command.{Command, get, set, get_range}
use Rattle.flake_model.specs.Session.{Session}
use Rattle.flake_model.specs.Store.{always, if_missing}
use Rattle.shard_core.specs.CallDemand.{pieces_from}
use Rattle.serve_model.specs.Shown.{pins_found, IsCounted}

-- a session that sets a key to two bytes, and asks for them
abbrev pub asking_session : List ℕ → ℕ → Command → Session
asking_session given taken asks = record {
  given = given;
  ended = true;
  commands = set always false (codes "k") (codes "xy") ∷ asks ∷ [];
  end = record { end = Clean; taken = taken; replies = 2; failed = false };
  begun = 0;
}

-- both were done
abbrev pub asking_journal : List (List Entry)
asking_journal =
    (record { session = 0; call = 0; part = 0 } ∷ record { session = 0; call = 1; part = 0 } ∷ []) ∷ []

abbrev pub asks_all : Command
asks_all = get (codes "k")

abbrev pub asks_one : Command
asks_one = get_range (codes "k") (pos 1) (pos 1)

-- a SET that stores only where the key is missing, and asks for its value
abbrev pub asks_old : Command
asks_old = set if_missing true (codes "k") (codes "z")

-- and one that stores, whose answer has the holds of the value that it replaces
abbrev pub asks_replaced : Command
asks_replaced = set always true (codes "k") (codes "z")

-- An end of a pool without a pinned hold that came back isn't counted right, whatever the rest of it is; with a
-- threshold above the bytes of the answer nothing is said.
pub record CopiedIsNone (given : List ℕ) (taken : ℕ) : Type 0 where
  pub not_all : (z : Sizes) (end : End) → end.seat.returns ≡ 0
      → IsCounted z 1 (asking_session given taken asks_all ∷ []) asking_journal end → ⊥
  pub not_one : (z : Sizes) (end : End) → end.seat.returns ≡ 0
      → IsCounted z 1 (asking_session given taken asks_one ∷ []) asking_journal end → ⊥
  pub not_old : (z : Sizes) (end : End) → end.seat.returns ≡ 0
      → IsCounted z 1 (asking_session given taken asks_old ∷ []) asking_journal end → ⊥
  pub none_replaced : pins_found 1 (asking_session given taken asks_replaced ∷ []) asking_journal ≡ 0
  -- an answer that begins with the last byte of a fragment has a piece in each of two
  pub two_pieces : pieces_from 4095 (codes "xy") ≡ codes "x" ∷ codes "y" ∷ []
  pub none_above : pins_found 3 (asking_session given taken asks_all ∷ []) asking_journal ≡ 0
