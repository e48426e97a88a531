-- Wrong outcomes: 200 small buffers and a large one, of which two writes of a long value and one of a short value all
-- found the large one held, and none was stored.
use Rattle.std.specs.Prelude.{◌≡◌, ℕ, List, [], ◌∷◌, true, false, codes, replicate}
use Rattle.flake_base.specs.declared.journal.Entry.{Entry}
use Rattle.flake_base.specs.declared.session.End.TheVariants.{Clean}
use Rattle.pin_core.specs.declared.sizes.Sizes.{Sizes}
use Rattle.pinned_pool.specs.Ends.{End}
use Rattle.pinned_pool.specs.Views.{view}
use Rattle.flake_model.specs.Command.{Command, set, append}
use Rattle.flake_model.specs.Run.{missing_writes}
use Rattle.flake_model.specs.Session.{Session}
use Rattle.flake_model.specs.Store.{always}
use Rattle.serve_model.specs.Shown.{IsCounted}

abbrev pub mixed_pool : Sizes
mixed_pool = record { small = 200; large = 1; credits = 4 }

abbrev pub long_write : Command
long_write = set always false (codes "b") (replicate 513 0)

abbrev pub short_write : Command
short_write = set always false (codes "c") (codes "x")

abbrev pub mixed_session : List ℕ → ℕ → Session
mixed_session given taken = record {
  given = given;
  ended = true;
  commands = long_write ∷ long_write ∷ short_write ∷ [];
  end = record { end = Clean; taken = taken; replies = 3; failed = false };
  begun = 0;
}

-- one shard that did nothing
abbrev pub mixed_journal : List (List Entry)
mixed_journal = [] ∷ []

abbrev pub mixed_end : End
mixed_end = record {
  seat = view [] 4 (200 ∷ []) ((200, 1) ∷ (200, 1) ∷ (200, 1) ∷ []) 0 [];
  small = 0;
  large = 0;
}

-- a claim of a buffer that a pool of these sizes doesn't have
abbrev pub far_end : End
far_end = record { seat = view [] 4 (201 ∷ []) [] 0 []; small = 0; large = 0 }

-- a session whose only write needs a large buffer alone
abbrev pub long_session : List ℕ → ℕ → Session
long_session given taken = record {
  given = given;
  ended = true;
  commands = long_write ∷ [];
  end = record { end = Clean; taken = taken; replies = 1; failed = false };
  begun = 0;
}

-- a buffer of each class, of which the small one was found held, and the large one wasn't looked at
abbrev pub small_pool : Sizes
small_pool = record { small = 1; large = 1; credits = 4 }

abbrev pub small_end : End
small_end = record { seat = view [] 4 (0 ∷ []) ((0, 1) ∷ []) 0 []; small = 0; large = 0 }

-- a session of a write that may need both classes and a write that needs no buffer
abbrev pub empty_session : List ℕ → ℕ → Session
empty_session given taken = record {
  given = given;
  ended = true;
  commands = append (codes "b") (codes "xx") ∷ set always false (codes "c") [] ∷ [];
  end = record { end = Clean; taken = taken; replies = 2; failed = false };
  begun = 0;
}

-- where both buffers were found held
abbrev pub both_end : End
both_end = record { seat = view [] 4 (0 ∷ 1 ∷ []) ((0, 1) ∷ (1, 1) ∷ []) 0 []; small = 0; large = 0 }

-- Both writes are missing, and the second one didn't miss either buffer.
pub record EmptyIsNone (given : List ℕ) (taken : ℕ) : Type 0 where
  pub missing : missing_writes (empty_session given taken ∷ []) mixed_journal ≡ 2
  pub not_so : (threshold : ℕ)
      → IsCounted small_pool threshold (empty_session given taken ∷ []) mixed_journal both_end → ⊥

-- The long write is missing, and it didn't miss the small buffer.
pub record SmallIsNone (given : List ℕ) (taken : ℕ) : Type 0 where
  pub missing : missing_writes (long_session given taken ∷ []) mixed_journal ≡ 1
  pub not_so : (threshold : ℕ)
      → IsCounted small_pool threshold (long_session given taken ∷ []) mixed_journal small_end → ⊥

-- All three writes are missing, and such an end isn't counted right, whatever the bytes were.
pub record MixedIsNone (given : List ℕ) (taken : ℕ) : Type 0 where
  pub missing : missing_writes (mixed_session given taken ∷ []) mixed_journal ≡ 3
  pub not_so : (threshold : ℕ)
      → IsCounted mixed_pool threshold (mixed_session given taken ∷ []) mixed_journal mixed_end → ⊥
  pub not_far : (threshold : ℕ) (sessions : List Session) (journal : List (List Entry))
      → IsCounted mixed_pool threshold sessions journal far_end → ⊥
