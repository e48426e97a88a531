-- In which pieces a device puts a reply.
use Rattle.std.specs.Prelude.{◌≡◌, ℕ, ◌<◌, Bool, List, [], ◌∷◌, ◌++◌, length, take, drop, map}
use Rattle.std.specs.Borrow.{Bor}
use Rattle.flake_base.specs.declared.segment.Seg.{Seg}
use Rattle.pin_core.specs.declared.sizes.Sizes.{Sizes}
use Rattle.any_wire.specs.Sends.{WireStep, puts, flushes, Chain}
use Rattle.mtu_frames.specs.Frames.{mtu_frame_bytes, frames_of}
use Rattle.reply_layout.specs.Gathered.{Reading}
use Rattle.reply_planner.specs.Parcels.{Sent}
use Rattle.reply_planner.specs.Places.{reading}
use Rattle.any_wire.specs.Sends.{PutsText}

-- the bytes are put 512 at a time, and last those that are left
abbrev pub AreCuts : List WireStep → List ℕ → Type 0
AreCuts [] bytes = bytes ≡ []
AreCuts (puts piece ∷ steps) bytes =
    (0 < length bytes) × (piece ≡ take 512 bytes) × AreCuts steps (drop 512 bytes)
AreCuts (flushes ∷ steps) bytes = ⊥

-- the bytes at each segment by themselves, in order
abbrev pub AreCutsAt : Reading → List WireStep → List Seg → Type 0
AreCutsAt read steps [] = steps ≡ []
AreCutsAt read steps (seg ∷ segments) =
    (first : List WireStep) × (more : List WireStep) × (steps ≡ first ++ more)
    × AreCuts first (read seg.address seg.len)
    × AreCutsAt read more segments

module _ {W : Type 0} (put_may : W → Bor (List ℕ) → (W × Bool) → Type 0) where
  -- one reply was completed, and the bytes at its segments were put so, until a put failed
  pub record PutsPieces (z : Sizes) (failed now : Bool) (before after : List Sent) (old new : W) : Type 0 where
    pub reply : Sent
    pub completed_is : after ≡ before ++ reply ∷ []
    pub steps : List WireStep
    pub cuts : AreCutsAt (reading z reply.holds) steps reply.segments
    pub chain : Chain put_may (λ w r. ⊥) steps failed now old new

module _ {W : Type 0} (put_may : W → Bor (List ℕ) → (W × Bool) → Type 0) where
  -- the texts are put one after another, each by puts of its own
  abbrev pub PutsEach : List (List ℕ) → Bool → Bool → W → W → Type 0
  PutsEach [] failed now w end = (end ≡ w) × (now ≡ failed)
  PutsEach (text ∷ texts) failed now w end =
      (v : W) × (between : Bool) × PutsText put_may failed between text w v × PutsEach texts between now v end

  -- one reply was completed, and each of its frames was put so, until a put failed
  pub record PutsFrames (mtu : ℕ) (failed now : Bool) (before after : List Sent) (old new : W) : Type 0 where
    pub reply : Sent
    pub completed_is : after ≡ before ++ reply ∷ []
    pub frames : PutsEach (map mtu_frame_bytes (frames_of reply.text reply.call mtu)) failed now old new
