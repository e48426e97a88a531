-- The seven events, and what each makes of a plain list of holds. Lists of holds and of credits are compared by how
-- often each item stands in them.
use Rattle.std.specs.Prelude.{◌≡◌, ℕ, ◌+◌, ◌<◌, ◌≤◌, List, [], ◌∷◌, ◌++◌, true, if◌then◌else◌, length, replicate, ⊤}
use Rattle.std.specs.Prelude.{slice_set}
use Rattle.view_sums.specs.Total.{SameItems, Adds}
use Rattle.pin_core.specs.Buffers.{buffers, buffer_words, start}
use Rattle.pin_core.specs.Holding.{Holding, Key, IsMeant, fresh, shared, pinned_copy, written}
use Rattle.pin_core.specs.Pins.{Owned, Pins, own, count_at}
use Rattle.pin_core.specs.declared.sizes.Sizes.{Sizes}

pub data Event (H : Type 0) : Type 0 where
  -- of a buffer, by a holder
  claim : ℕ → H → Event H
  -- to a buffer, by a holder, at an index, of a word
  put : ℕ → H → ℕ → ℕ → Event H
  load : ℕ → H → ℕ → Event H
  -- of a buffer, from a holder to another
  pin : ℕ → H → H → Event H
  unpin : Key → H → Event H
  move : Key → H → H → Event H
  -- from a holder to another, so many credits
  give : H → H → ℕ → Event H

module _ {H : Type 0} where
  -- the new hold is exclusive, not pinned, and has an empty front
  pub record IsClaim (b : ℕ) (p : H) (old new : Pins H) : Type 0 where
    pub free : count_at b old.holds ≡ 0
    pub claimed : Adds (own p (fresh b)) old.holds new.holds
    pub words : new.words ≡ old.words
    pub credits : SameItems new.credits old.credits

  -- the front becomes its first i words and the new one
  pub record IsPut (z : Sizes) (b : ℕ) (p : H) (i x : ℕ) (old new : Pins H) : Type 0 where
    pub hold : Holding
    pub rest : List (Owned H)
    pub of_buffer : hold.buffer ≡ b
    pub held : Adds (own p hold) rest old.holds
    pub exclusive : hold.exclusive ≡ true
    pub in_front : i ≤ length hold.front
    pub in_buffer : i < buffer_words z b
    pub put : Adds (own p (written i x hold)) rest new.holds
    pub words : new.words ≡ slice_set old.words (start z b + i) x
    pub credits : SameItems new.credits old.credits

  pub record IsLoad (b : ℕ) (p : H) (i : ℕ) (old new : Pins H) : Type 0 where
    pub hold : Holding
    pub rest : List (Owned H)
    pub of_buffer : hold.buffer ≡ b
    pub held : Adds (own p hold) rest old.holds
    pub in_front : i < length hold.front
    pub holds : SameItems new.holds old.holds
    pub words : new.words ≡ old.words
    pub credits : SameItems new.credits old.credits

  -- the taker gets a pinned hold with the same front, for one of its credits, and both holds are shared
  pub record IsPin (b : ℕ) (p taker : H) (old new : Pins H) : Type 0 where
    pub hold : Holding
    pub rest : List (Owned H)
    pub of_buffer : hold.buffer ≡ b
    pub held : Adds (own p hold) rest old.holds
    pub pinned : SameItems new.holds (own taker (pinned_copy hold) ∷ own p (shared hold) ∷ rest)
    pub words : new.words ≡ old.words
    pub credits : Adds taker new.credits old.credits

  -- a hold ends, and a pinned one gives a credit back to its holder
  pub record IsUnpin (k : Key) (p : H) (old new : Pins H) : Type 0 where
    pub hold : Holding
    pub meant : IsMeant k hold
    pub unpinned : Adds (own p hold) new.holds old.holds
    pub words : new.words ≡ old.words
    pub credits : SameItems new.credits (if k.pinned then p ∷ old.credits else old.credits)

  pub record IsMove (k : Key) (p taker : H) (old new : Pins H) : Type 0 where
    pub hold : Holding
    pub rest : List (Owned H)
    pub meant : IsMeant k hold
    pub held : Adds (own p hold) rest old.holds
    pub moved : Adds (own taker hold) rest new.holds
    pub words : new.words ≡ old.words
    pub credits : SameItems new.credits old.credits

  pub record IsGive (p taker : H) (n : ℕ) (old new : Pins H) : Type 0 where
    pub rest : List H
    pub had : SameItems old.credits (replicate n p ++ rest)
    pub given : SameItems new.credits (replicate n taker ++ rest)
    pub holds : SameItems new.holds old.holds
    pub words : new.words ≡ old.words

  abbrev pub PinStep : Sizes → Pins H → Event H → Pins H → Type 0
  PinStep z old (claim b p) new = IsClaim b p old new
  PinStep z old (put b p i x) new = IsPut z b p i x old new
  PinStep z old (load b p i) new = IsLoad b p i old new
  PinStep z old (pin b p taker) new = IsPin b p taker old new
  PinStep z old (unpin k p) new = IsUnpin k p old new
  PinStep z old (move k p taker) new = IsMove k p taker old new
  PinStep z old (give p taker n) new = IsGive p taker n old new

  -- the buffer that the event names is one of the pool's
  abbrev pub IsNear : Sizes → Event H → Type 0
  IsNear z (claim b _) = b < buffers z
  IsNear z (put b _ _ _) = b < buffers z
  IsNear z (load b _ _) = b < buffers z
  IsNear z (pin b _ _) = b < buffers z
  IsNear z (unpin k _) = k.buffer < buffers z
  IsNear z (move k _ _) = k.buffer < buffers z
  IsNear z (give _ _ _) = ⊤

  -- the same holds and credits, each as often, and the same words
  pub record SamePins (old new : Pins H) : Type 0 where
    pub holds : SameItems new.holds old.holds
    pub words : new.words ≡ old.words
    pub credits : SameItems new.credits old.credits

  -- the events in turn
  abbrev pub PinSteps : Sizes → Pins H → List (Event H) → Pins H → Type 0
  PinSteps z old [] new = SamePins old new
  PinSteps z old (e ∷ es) new = (mid : Pins H) × PinStep z old e mid × PinSteps z mid es new

  -- the event can happen
  abbrev pub HasStep : Sizes → Pins H → Event H → Type 0
  HasStep z old e = (new : Pins H) × PinStep z old e new
