-- What is put on a wire of any type, where `put_may` and `flush_may` say what a put and a flush may do and answer.
use Rattle.std.specs.Prelude.{◌≡◌, ℕ, ◌<◌, ◌≤◌, Bool, true, false, List, [], ◌∷◌, ◌++◌, length, ⊤}
use Rattle.std.specs.Borrow.{Bor}
use Rattle.view_sums.specs.Total.{Each}

-- what is done to a wire
pub data WireStep : Type 0 where
  puts : List ℕ → WireStep
  flushes : WireStep

abbrev pub step_bytes : WireStep → List ℕ
step_bytes (puts piece) = piece
step_bytes flushes = []

-- the bytes that the steps put, joined
abbrev pub steps_bytes : List WireStep → List ℕ
steps_bytes [] = []
steps_bytes (step ∷ steps) = step_bytes step ++ steps_bytes steps

-- a put has from 1 to 512 bytes
abbrev pub IsShortPut : WireStep → Type 0
IsShortPut (puts piece) = (0 < length piece) × (length piece ≤ 512)
IsShortPut flushes = ⊤

module _ {W : Type 0} (put_may : W → Bor (List ℕ) → (W × Bool) → Type 0) where
  -- the piece is put, where nothing has failed
  abbrev pub Puts : Bool → Bool → List ℕ → W → W → Type 0
  Puts true now piece w end = (end ≡ w) × (now ≡ true)
  Puts false now piece w end = (p : Bor (List ℕ)) × (p.now ≡ piece) × put_may w p (end, now)

module _ {W : Type 0} (flush_may : W → (W × Bool) → Type 0) where
  -- the wire is flushed, where nothing has failed
  abbrev pub Flushes : Bool → Bool → W → W → Type 0
  Flushes true now w end = (end ≡ w) × (now ≡ true)
  Flushes false now w end = flush_may w (end, now)

module _
    {W : Type 0}
    (put_may : W → Bor (List ℕ) → (W × Bool) → Type 0)
    (flush_may : W → (W × Bool) → Type 0) where
  -- one is done after another, and none after one that failed
  abbrev pub Chain : List WireStep → Bool → Bool → W → W → Type 0
  Chain [] failed now w end = (end ≡ w) × (now ≡ failed)
  Chain (step ∷ steps) true now w end = Chain steps true now w end
  Chain (puts piece ∷ steps) false now w end =
      (r : W × Bool) × (p : Bor (List ℕ)) × (p.now ≡ piece) × put_may w p r × Chain steps r.1 now r.0 end
  Chain (flushes ∷ steps) false now w end = (r : W × Bool) × flush_may w r × Chain steps r.1 now r.0 end

  -- the text is put in short pieces, with flushes between them
  pub record Sends (failed now : Bool) (text : List ℕ) (w end : W) : Type 0 where
    pub steps : List WireStep
    pub whole : text ≡ steps_bytes steps
    pub short : Each IsShortPut steps
    pub chain : Chain steps failed now w end

module _ {W : Type 0} (put_may : W → Bor (List ℕ) → (W × Bool) → Type 0) where
  -- the text is put in short pieces, and nothing is flushed
  abbrev pub PutsText : Bool → Bool → List ℕ → W → W → Type 0
  PutsText = Sends put_may (λ w r. ⊥)
