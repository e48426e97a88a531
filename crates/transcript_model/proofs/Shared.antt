-- Two sessions whose replies lie in one staging buffer.
use Rattle.std.proofs.Common.{◌≡◌, ℕ, zero, suc, ◌+◌, ◌<◌, List, [], ◌∷◌, Some, length, slice_get, refl, ap, sym}
use Rattle.std.proofs.Common.{◌∙◌, arith}
use Rattle.std.specs.Prelude.{slice_index}
use Rattle.std.specs.List.{AllByRecursion, flat_map}
use Rattle.flake_base.specs.declared.segment.Seg.{Seg}
use Rattle.flake_model.specs.Command.{Command, ping}
use Rattle.reply_planner.specs.Places.{buffer_addresses}
use Rattle.reply_planner.specs.Stages.{StagesAreApart}
use Rattle.schedule_text.specs.declared.line.Line.TheVariants.{Call}
use Rattle.transcript_model.specs.Frames.{frame_of}
use Rattle.transcript_model.specs.Standing.{free, at_first, frames_waiting}
use Rattle.transcript_model.specs.Terms.{Terms}
use Rattle.transcript_model.specs.Transcript.{Wires, IsStageShown, deeds_in, terms_of, IsTranscript}
use Rattle.transcript_model.specs.Whole.{SharedStageIsWrong, left_after, two_pings, shared_lines}
use Rattle.transcript_model.specs.Worked.{one, default_sizes}

first_address : List Seg → ℕ
first_address [] = 0
first_address (segment ∷ segments) = segment.address

-- a first reply to a PING begins in the first buffer of a stage, if there is one
begins : (terms : Terms) (stage : List ℕ) (command : Command) → 0 < length stage → ping ≡ command
    → one 1048576 7 ≡ (frame_of terms (free stage (frames_waiting at_first 0)) 0 command).segments
    → slice_get stage 0 ≡ Some 1048576
unfolding first_address
begins terms [] command some same is = absurd (omega (arith, some))
begins terms (first ∷ stage) command some same is =
    let there : 1048576 ≡ first + 0 = ap first_address
    (is ∙ ap (λ c. (frame_of terms (free (first ∷ stage) (frames_waiting at_first 0)) 0 c).segments) (sym same)) in
    ap Some (omega (arith, there))

-- there is one
some_buffer : (stage : List ℕ) → IsStageShown default_sizes stage → 0 < length stage
some_buffer [] shown = absurd (none shown.buffers shown.as_many shown.addresses) where
  none : (buffers : List ℕ) → length buffers ≡ 128 → [] ≡ buffer_addresses default_sizes buffers → ⊥
  none [] many is = omega (arith, many)
  none (buffer ∷ buffers) many is = cc
some_buffer (address ∷ stage) shown = omega arith

never_shared : (stages : List (List ℕ)) → length stages ≡ 2 → AllByRecursion (IsStageShown default_sizes) stages
    → StagesAreApart stages
    → ((k : ℕ) (stage : List ℕ) → k < 2 → slice_get stages k ≡ Some stage → 0 < length stage
    → slice_get stage 0 ≡ Some 1048576) → ⊥
never_shared [] two shown apart there = omega (arith, two)
never_shared (first ∷ []) two shown apart there = omega (arith, two)
never_shared (first ∷ second ∷ stages) two shown apart there =
    let here = there 0 first (omega arith) refl (some_buffer first shown.0) in
    let also = there 1 second (omega arith) refl (some_buffer second shown.1.0) in
    omega (arith, apart 0 1 0 0 1048576 first second refl refl here also)

-- what the lines of a session are judged by
abbrev terms : {olds news : Wires} → IsTranscript two_pings olds news (Call 0 ∷ Call 1 ∷ []) shared_lines → ℕ → List ℕ
    → Terms
terms t session stage = terms_of two_pings (flat_map (λ deeds. deeds) (deeds_in two_pings shared_lines)) session
    (left_after 1) stage (slice_index t.told_by.wholes session)

pub shared_is_wrong : SharedStageIsWrong
shared_is_wrong olds news t =
    never_shared t.told_by.stages t.told_by.one_each t.told_by.stages_are t.told_by.stages_apart there where
      there : (k : ℕ) (stage : List ℕ) → k < 2 → slice_get t.told_by.stages k ≡ Some stage → 0 < length stage
          → slice_get stage 0 ≡ Some 1048576
      there zero stage few at some =
          let posted = (t.told_by.told 0 (left_after 1) stage refl at).right.1 in
          let same : ping ≡ posted.command = cc in
          begins (terms t 0 stage) stage posted.command some same posted.segments_are
      there (suc zero) stage few at some =
          let posted = (t.told_by.told 1 (left_after 1) stage refl at).right.1 in
          let same : ping ≡ posted.command = cc in
          begins (terms t 1 stage) stage posted.command some same posted.segments_are
      there (suc (suc k)) stage few at some = absurd (omega (arith, few))
