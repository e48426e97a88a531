-- Frames that a joiner took one after another.
use Rattle.std.proofs.Common.{◌≡◌, ◌⊎◌, inl, inr, ⊎_elim, ℕ, zero, suc, Bool, true, cond, ◌&&◌, eqb, List, [], ◌∷◌}
use Rattle.std.proofs.Common.{Option, Some, None, Ok, slice_get, refl, ap, sym, ◌∙◌, subst, eq-eqb}
use Rattle.std.proofs.lemmas.Bool.{and_from, cond-true}
use Rattle.mtu_frames.specs.Frames.{MtuFrame}
use Rattle.mtu_frames.specs.Joining.{Joining, frame_at, HasNewFrame, Answers}
use Rattle.mtu_frames.specs.Texts.{TookInTurn, HasSent, TakesAnyOrder}
use Rattle.mtu_frames.specs.declared.joiner.Taken.{Taken}
use Rattle.mtu_frames.specs.declared.joiner.Taken.TheVariants.{New, Again}
use Rattle.mtu_frames.proofs.Keeping.{now_there, stays}

-- a frame that was taken is there
at_once : (frame : MtuFrame) (taken : Taken) (old mid : List MtuFrame) → Answers frame (Ok taken) old mid
    → frame_at mid frame.call frame.index ≡ Some frame
at_once frame New old mid is =
    let test : Bool = eqb frame.call frame.call && eqb frame.index frame.index in
    let here : test ≡ true = and_from _ _ (eq-eqb frame.call frame.call refl) (eq-eqb frame.index frame.index refl) in
    is.2 frame.call frame.index ∙ cond-true test (Some frame) (frame_at old frame.call frame.index) here
at_once frame Again old mid is = ap (λ (f : List MtuFrame). frame_at f frame.call frame.index) is.2 ∙ is.0

-- and so is what was there
still_there : (frame : MtuFrame) (taken : Taken) (old mid : List MtuFrame) → Answers frame (Ok taken) old mid
    → (call index : ℕ) (found : MtuFrame) → frame_at old call index ≡ Some found → frame_at mid call index ≡ Some found
still_there frame New old mid is call index found at = stays old mid frame is.2 is.0 call index found at
still_there frame Again old mid is call index found at = ap (λ (f : List MtuFrame). frame_at f call index) is.2 ∙ at

-- and nothing else
only_these : (frame : MtuFrame) (taken : Taken) (old mid : List MtuFrame) → Answers frame (Ok taken) old mid
    → (call index : ℕ) (found : MtuFrame) → frame_at mid call index ≡ Some found
    → (found ≡ frame) ⊎ (frame_at old call index ≡ Some found)
only_these frame New old mid is call index found at =
    ⊎_elim (λ now. inl now.2) (λ was. inr was) (now_there old mid frame is.2 call index found at)
only_these frame Again old mid is call index found at =
    inr (ap (λ (f : List MtuFrame). frame_at f call index) (sym is.2) ∙ at)

stay : (sent old new : List MtuFrame) → TookInTurn sent old new → (call index : ℕ) (found : MtuFrame)
    → frame_at old call index ≡ Some found → frame_at new call index ≡ Some found
stay [] old new took call index found at = ap (λ (f : List MtuFrame). frame_at f call index) took ∙ at
stay (frame ∷ sent) old new took call index found at =
    stay sent took.0 new took.3 call index found (still_there frame took.1 old took.0 took.2 call index found at)

each_there : (sent old new : List MtuFrame) → TookInTurn sent old new → (place : ℕ) (frame : MtuFrame)
    → slice_get sent place ≡ Some frame → frame_at new frame.call frame.index ≡ Some frame
each_there [] old new took place frame is = absurd (cc)
each_there (first ∷ sent) old new took zero frame is =
    let same : first ≡ frame = cc in
    subst (λ (f : MtuFrame). frame_at new f.call f.index ≡ Some f) same
    (stay sent took.0 new took.3 first.call first.index first (at_once first took.1 old took.0 took.2))
each_there (first ∷ sent) old new took (suc place) frame is = each_there sent took.0 new took.3 place frame is

-- what is there was sent, or was there
sent_or_there : (sent old new : List MtuFrame) → TookInTurn sent old new → (call index : ℕ) (found : MtuFrame)
    → frame_at new call index ≡ Some found
    → ((place : ℕ) × (slice_get sent place ≡ Some found)) ⊎ (frame_at old call index ≡ Some found)
sent_or_there [] old new took call index found at =
    inr (ap (λ (f : List MtuFrame). frame_at f call index) (sym took) ∙ at)
sent_or_there (first ∷ sent) old new took call index found at =
    ⊎_elim
    (λ later. inl (suc later.0, later.1))
    (λ mid. ⊎_elim
    (λ same. inl (zero, ap Some (sym same)))
    (λ was. inr was)
    (only_these first took.1 old took.0 took.2 call index found mid))
    (sent_or_there sent took.0 new took.3 call index found at)

sent_alone : (sent frames : List MtuFrame) → TookInTurn sent [] frames → HasSent sent frames
sent_alone sent frames took = record {
  each = λ place frame is. each_there sent [] frames took place frame is;
  only = λ call index frame at.
      ⊎_elim (λ was. was) (λ none. absurd (cc)) (sent_or_there sent [] frames took call index frame at);
}

pub takes_each : TakesAnyOrder
takes_each texts joining sent calls of took =
    let has = sent_alone sent joining.frames took in (
      record {
        count = calls;
        each = λ call index frame at. let place = has.only call index frame at in of place.0 frame place.1;
      },
      has,
    )
