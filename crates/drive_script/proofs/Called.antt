-- What a call of a driven session comes to, by what it answers.
use Rattle.std.proofs.Common.{◌≡◌, ℕ, ◌≤◌, true, false, List, [], ◌∷◌, ◌++◌, Option, None, Some, length, sym, ◌∙◌}
use Rattle.std.proofs.Common.{subst, arith, append-nil}
use Rattle.std.specs.Prelude.{is_some}
use Rattle.flake_base.specs.declared.segment.Seg.{Seg}
use Rattle.flake_base.specs.declared.session.End.{End}
use Rattle.flake_model.specs.Command.{Command}
use Rattle.pin_core.specs.declared.sizes.Sizes.{Sizes}
use Rattle.command_pump.specs.Pump.{Origin, PumpState, HasEnded}
use Rattle.reply_planner.specs.Parcels.{Sent}
use Rattle.session_pass.specs.Calls as call
use Rattle.session_pass.specs.Refused.{WhyCallRefused}
use Rattle.session_pass.specs.Views.{SessionView}
use Rattle.session_pass.specs.declared.error.CallError.{CallError}
use Rattle.session_pass.specs.declared.error.CallError.TheVariants.{RingFull, StageFull, Memory}
use Rattle.transcript_model.specs.Lines.{LineEvent, at_end}
use Rattle.transcript_model.specs.Lines as event
use Rattle.drive_script.specs.Calls.{BothEnds}
use Rattle.drive_script.specs.Views.{SessionShown, DeviceShown}
use Rattle.drive_script.specs.declared.happened.Happened.{Happened}
use Rattle.drive_script.specs.Asked.{MayGiveMore, AsksNext, IsAsked, GoesOn}
use Rattle.drive_script.specs.Happened.{line_event}
use Rattle.drive_script.specs.Connections.{Fixed, IsDriven}
use Rattle.drive_script.specs.Refused.{refused_so, kept_back, ended_by}
use Rattle.drive_script.specs.Shown.{session_shown, LiesInPool}
use Rattle.drive_script.proofs.Calls.{called_again, called_at_end, called, called_ring, called_stage, called_short}
use Rattle.drive_script.proofs.Showing.{post_shown, ring_shown, stage_shown, refusal_shown}

-- a refused call posted nothing
pub none_posted : (z : Sizes) (shards : ℕ) (command : Command) (old new : SessionView) (error : CallError)
    → WhyCallRefused z shards command old new error → new.posted ≡ old.posted
none_posted z shards command old new (RingFull need room) why = why.reaps.keeps.posted
none_posted z shards command old new (StageFull need free) why = why.reaps.keeps.posted
none_posted z shards command old new Memory why = why.posted

pub nothing_more : (olds news between : List Sent) → news ≡ between → between ≡ olds → (more : List Sent)
    × (news ≡ olds ++ more) × (length more ≤ 1)
nothing_more olds news between is same = ([], is ∙ same ∙ sym (append-nil olds), omega arith)

-- and the stage is the same
pub same_stage : (z : Sizes) (shards : ℕ) (command : Command) (old new : SessionView) (error : CallError)
    → WhyCallRefused z shards command old new error → new.pass.stage ≡ old.pass.stage
same_stage z shards command old new (RingFull need room) why = why.reaps.keeps.rest.stage
same_stage z shards command old new (StageFull need free) why = why.reaps.keeps.rest.stage
same_stage z shards command old new Memory why = why.rest.stage

module _ (Also : List Command → Type 0) (fixed : Fixed) (given : List Command) (whole : ℕ) (events : List LineEvent)
    (origin : Origin) (before : ℕ) (kept : Option Command) (pump : PumpState) where
  module _ (session : SessionShown) (device : DeviceShown) where
    -- the end was said
    pub again : (end : Option End) → is_some end ≡ true → IsAsked origin before given (length session.posted) kept end
        pump → IsDriven fixed given end whole events session device
        → Also given → GoesOn origin before (length session.posted) kept end pump
        (λ now. IsDriven fixed now end whole (events ++ at_end ∷ []) session device × Also now)
    again None is asked driven also = absurd (cc)
    again (Some end) is asked driven also =
        record {
          given = given;
          asked = asked;
          is = (called_again Also fixed given whole events origin before session device end driven, also);
        }

    -- the input ended
    pub at_its_end : (said : Option End) (kept' : Option Command) (end : End) (pump' : PumpState) → is_some said ≡ false
        → IsAsked origin before given (length session.posted) kept said pump
        → IsDriven fixed given said whole events session device
        → (MayGiveMore origin before given (length session.posted) kept pump → HasEnded origin before given end pump'
        × (length given ≡ length session.posted)) → kept' ≡ None
        → Also given → GoesOn origin before (length session.posted) kept' (Some end) pump'
        (λ now. IsDriven fixed now (Some end) whole (events ++ at_end ∷ []) session device × Also now)
    at_its_end (Some said) kept' end pump' is asked driven ended none also = absurd (cc)
    at_its_end None kept' end pump' is asked driven ended none also =
        let how = ended asked in
        subst (λ (k : Option Command). GoesOn origin before (length session.posted) k (Some end) pump'
        (λ now. IsDriven fixed now (Some end) whole (events ++ at_end ∷ []) session device × Also now)) (sym none)
        (called_at_end Also fixed given whole events origin before session device driven end pump' how.0 how.1 also)

  module _ (z : Sizes) (shards : ℕ) (old between : SessionView) (new : SessionShown) (device device' : DeviceShown)
      (both : BothEnds (session_shown z between) new device device') (over : LiesInPool z old)
      (command : Command) (said : Option End) (is : is_some said ≡ false)
      (asked : IsAsked origin before given (length old.posted) kept said pump)
      (driven : IsDriven fixed given said whole events (session_shown z old) device)
      (pump' : PumpState) (next : MayGiveMore origin before given (length old.posted) kept pump
      → AsksNext origin before given (length old.posted) command pump')
      (also : (asks : AsksNext origin before given (length old.posted) command pump')
      → Also (asks.front ++ command ∷ [])) where
    -- it was posted
    pub was_posted : (kept' : Option Command) (end' : Option End) (last : PumpState) (number freed : ℕ)
        (sent stored : List Seg) → kept' ≡ None → end' ≡ said → last ≡ pump'
        → call.CallPosts z shards command old between number freed sent stored
        → GoesOn origin before (length new.posted) kept' end' last
        (λ now. IsDriven fixed now end' whole (events ++ event.posted number freed sent stored ∷ []) new device'
        × Also now)
    was_posted kept' end' last number freed sent stored none same stays posts = by_end said is asked driven same
      where
        by_end : (end : Option End) → is_some end ≡ false
            → IsAsked origin before given (length old.posted) kept end pump
            → IsDriven fixed given end whole events (session_shown z old) device → end' ≡ end
            → GoesOn origin before (length new.posted) kept' end' last
            (λ now. IsDriven fixed now end' whole (events ++ event.posted number freed sent stored ∷ []) new device'
            × Also now)
        by_end (Some end) open_yet asks drives at = absurd (cc)
        by_end None open_yet asks drives at =
            subst (λ (e : Option End). GoesOn origin before (length new.posted) kept' e last
            (λ now. IsDriven fixed now e whole (events ++ event.posted number freed sent stored ∷ []) new device'
            × Also now)) (sym at)
            (subst (λ (k : Option Command). GoesOn origin before (length new.posted) k None last
            (λ now. IsDriven fixed now None whole (events ++ event.posted number freed sent stored ∷ []) new device'
            × Also now)) (sym none)
            (subst (λ (p : PumpState). GoesOn origin before (length new.posted) None None p
            (λ now. IsDriven fixed now None whole (events ++ event.posted number freed sent stored ∷ []) new device'
            × Also now)) (sym stays)
            (called Also fixed given whole events origin before (session_shown z old) device drives
            (session_shown z between) new device' both command pump' (next asks) (also (next asks)) number freed
            sent stored
            (post_shown z shards command old between number freed sent stored over posts))))

    -- it was refused
    pub was_refused : (kept' : Option Command) (end' : Option End) (last : PumpState) (happened : Happened)
        (error : CallError) (sent stored : List Seg) → kept' ≡ kept_back command error → end' ≡ ended_by error said
        → last ≡ pump' → happened ≡ refused_so error → LiesInPool z between
        → WhyCallRefused z shards command old between error
        → GoesOn origin before (length new.posted) kept' end' last
        (λ now. IsDriven fixed now end' whole (events ++ line_event happened sent stored ∷ []) new device' × Also now)
    was_refused kept' end' last happened error sent stored back ends_so stays so after why =
        subst (λ (h : Happened). GoesOn origin before (length new.posted) kept' end' last
        (λ now. IsDriven fixed now end' whole (events ++ line_event h sent stored ∷ []) new device' × Also now))
        (sym so)
        (subst (λ (e : Option End). GoesOn origin before (length new.posted) kept' e last
        (λ now. IsDriven fixed now e whole (events ++ line_event (refused_so error) sent stored ∷ []) new device'
        × Also now)) (sym ends_so)
        (subst (λ (k : Option Command). GoesOn origin before (length new.posted) k (ended_by error said) last
        (λ now. IsDriven fixed now (ended_by error said) whole
        (events ++ line_event (refused_so error) sent stored ∷ []) new device' × Also now)) (sym back)
        (subst (λ (p : PumpState). GoesOn origin before (length new.posted) (kept_back command error)
        (ended_by error said) p
        (λ now. IsDriven fixed now (ended_by error said) whole
        (events ++ line_event (refused_so error) sent stored ∷ []) new device' × Also now)) (sym stays)
        (by_end said is asked driven error why))))
      where
        by_end : (end : Option End) → is_some end ≡ false
            → IsAsked origin before given (length old.posted) kept end pump
            → IsDriven fixed given end whole events (session_shown z old) device
            → (e : CallError) → WhyCallRefused z shards command old between e
            → GoesOn origin before (length new.posted) (kept_back command e) (ended_by e end) pump'
            (λ now. IsDriven fixed now (ended_by e end) whole (events ++ line_event (refused_so e) sent stored ∷ []) new
            device' × Also now)
        by_end (Some end) open_yet asks drives e cause = absurd (cc)
        by_end None open_yet asks drives (RingFull need room) cause =
            called_ring Also fixed given whole events origin before (session_shown z old) device drives
            (session_shown z between) new device' both command pump' (next asks) (also (next asks)) need room
            (ring_shown z old between command need room cause)
        by_end None open_yet asks drives (StageFull need free) cause =
            called_stage Also fixed given whole events origin before (session_shown z old) device drives
            (session_shown z between) new device' both command pump' (next asks) (also (next asks)) need free
            (stage_shown z old between command need free after cause)
        by_end None open_yet asks drives Memory cause =
            called_short Also fixed given whole events origin before (session_shown z old) device drives
            (session_shown z between) new device' both command pump' (next asks) (also (next asks))
            (refusal_shown z old between shards command cause)
