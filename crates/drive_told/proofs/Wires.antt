-- A transcript of wires that tell what they are sent.
use Rattle.std.proofs.Common.{Bool, false, ℕ, List, [], map, sym, ◌∙◌, subst, arith}
use Rattle.std.specs.Prelude.{slice_index}
use Rattle.std.proofs.lemmas.List.{length-map}
use Rattle.flake_base.specs.Told.{WireTold}
use Rattle.flake_model.specs.Deed.{Deed}
use Rattle.schedule_text.specs.declared.line.Line.{Line}
use Rattle.transcript_model.specs.Lines.{EventLine}
use Rattle.any_wire.specs.Texts.{Sending, WireGrew}
use Rattle.transcript_model.specs.Sessions.{texts_of}
use Rattle.transcript_model.specs.Transcript.{DrivenRun, IsToldBy, terms_of}
use Rattle.transcript_model.proofs.Sourced.{sourced}
use Rattle.any_wire.specs.Sent.{WasSentByPuts}
use Rattle.drive_told.specs.Together.{AreTold, TranscriptTold}
use Rattle.drive_told.proofs.Lists.{behind_map}

module _ {W : Type 0} (sends : Sending W) (tells : W → WireTold) (so : AreTold sends tells) where
  grown : (failed : Bool) (whole : ℕ) (texts : List (List ℕ)) (old new : W) → WireGrew sends failed whole texts old new
      → WireGrew WasSentByPuts failed whole texts (tells old) (tells new)
  grown failed whole texts old new grew = record {
    middle = tells grew.middle;
    before = so false _ old grew.middle grew.before;
    behind = so failed _ grew.middle new grew.behind;
  }

  abbrev told_to : (run : DrivenRun) (olds news : List W) (own : ℕ → List Deed) (schedule : List Line)
      (lines : List EventLine)
      → IsToldBy sends run olds news own schedule lines
      → IsToldBy WasSentByPuts run (map tells olds) (map tells news) own schedule lines
  told_to run olds news own schedule lines by_own = record {
    answers = by_own.answers;
    stages = by_own.stages;
    stages_are = by_own.stages_are;
    one_each = by_own.one_each;
    stages_apart = by_own.stages_apart;
    wholes = by_own.wholes;
    told = by_own.told;
    wires = (
      omega (arith, by_own.wires.0, length-map olds tells),
      length-map news tells ∙ by_own.wires.1 ∙ sym (length-map olds tells),
    );
    sent = λ session end old new end_is old_is new_is.
        let before = behind_map tells olds session old old_is in
        let behind = behind_map tells news session new new_is in
        let whole = slice_index by_own.wholes session in
        let texts = texts_of (terms_of run (own session) session end [] whole) in
        subst (λ (p : WireTold × WireTold). WireGrew WasSentByPuts end.failed whole texts p.0 p.1)
        (λ i. (before.is i, behind.is i))
        (grown end.failed whole texts before.source behind.source
        (by_own.sent session end before.source behind.source end_is before.there behind.there));
  }

pub told : {W : Type 0} (sends : Sending W) → TranscriptTold sends
told sends tells so run olds news own schedule lines shards by_own sources apart =
    sourced run (map tells olds) (map tells news) schedule lines shards own
    (told_to sends tells so run olds news own schedule lines by_own) sources apart
