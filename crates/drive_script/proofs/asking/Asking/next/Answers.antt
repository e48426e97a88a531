use Rattle.std.proofs.Common.{◌≡◌, ℕ, List, [], ◌∷◌, ◌++◌, Option, None, IfErr, length, inl, refl, sym, subst}
use Rattle.std.specs.Prelude.{Result, Ok, Err, IfOk}
use Rattle.flake_base.specs.declared.session.End.{End}
use Rattle.flake_model.specs.Command.{Command}
use Rattle.command_pump.specs.Pump.{Origin, PumpState, IsPump, HasEnded}
use Rattle.drive_script.specs.Asked.{MayGiveMore, AsksNext}
use Rattle.drive_script.proofs.asking.Asking.next.Goals as goal

-- all that was given was posted
ends_there : (result : Result Command End) (kept : Option Command) (old new : PumpState) → kept ≡ None
    → IfErr result (λ end. (origin : Origin) (before : ℕ) (given : List Command) → IsPump origin before given old
    → HasEnded origin before given end new)
    → IfErr result (λ end. (origin : Origin) (before : ℕ) (given : List Command) (posted : ℕ)
    → MayGiveMore origin before given posted kept old → HasEnded origin before given end new × (length given ≡ posted))
ends_there (Ok command) kept old new none ended = ended
ends_there (Err end) kept old new none ended = λ origin before given posted open_yet.
    let now : MayGiveMore origin before given posted None old =
    subst (λ (k : Option Command). MayGiveMore origin before given posted k old) none open_yet in
    (ended origin before given now.pump_is, now.kept_back)

-- the next command comes behind all that were given
asks_there : (result : Result Command End) (kept : Option Command) (old new : PumpState) → kept ≡ None
    → IfOk result (λ command. (origin : Origin) (before : ℕ) (given : List Command)
    → IsPump origin before given old → IsPump origin before (given ++ command ∷ []) new × (new.faults ≡ before))
    → IfOk result (λ command. (origin : Origin) (before : ℕ) (given : List Command) (posted : ℕ)
    → MayGiveMore origin before given posted kept old → AsksNext origin before given posted command new)
asks_there (Err end) kept old new none asked = asked
asks_there (Ok command) kept old new none asked = λ origin before given posted open_yet.
    let now : MayGiveMore origin before given posted None old =
    subst (λ (k : Option Command). MayGiveMore origin before given posted k old) none open_yet in
    let more = asked origin before given now.pump_is in
    record { front = given; given_is = inl refl; count = now.kept_back; pump_is = more.0; unfailed = more.1 }

pub returns-in-None-clause-command : goal.returns-in-None-clause-command
returns-in-None-clause-command g c = asks_there c.next.result c.args.self.now.kept c.args.self.now.pump c.next.new.self
    (sym c.in-None.ensures.value) c.next.ensures.command

pub returns-in-None-clause-ended : goal.returns-in-None-clause-ended
returns-in-None-clause-ended g c = ends_there c.next.result c.args.self.now.kept c.args.self.now.pump c.next.new.self
    (sym c.in-None.ensures.value) c.next.ensures.end
