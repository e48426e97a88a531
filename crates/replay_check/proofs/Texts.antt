-- The texts of a session's replies, call by call.
use Rattle.std.proofs.Common.{◌≡◌, ℕ, ◌+◌, ◌<◌, ◌≤◌, zero, suc, List, [], ◌∷◌, ◌++◌, Option, Some, None, length, map}
use Rattle.std.proofs.Common.{take, drop, slice_get, arith, refl, ap, sym, ◌∙◌, subst, append_assoc, length-append}
use Rattle.std.proofs.lemmas.List.{length-map, map-append}
use Rattle.std.specs.List.{flat_map}
use Rattle.flake_base.specs.declared.journal.Entry.{Entry}
use Rattle.flake_model.specs.Store.{Operation, Answer}
use Rattle.flake_model.specs.Command.{Command, parts}
use Rattle.flake_model.specs.Reply.{Reply, reply_of, reply_text}
use Rattle.flake_model.specs.Journal.{Step, answer_at, call_steps, session_steps, replies_from}
use Rattle.byte_store.specs.declared.store.ByteAnswer.{ByteAnswer}
use Rattle.replay_check.specs.Noted.{slot_meant, slots_meant, answers_by}

pub parts_count : (session call part : ℕ) (operations : List Operation)
    → length (call_steps session call part operations) ≡ length operations
parts_count session call part [] = refl
parts_count session call part (operation ∷ operations) = ap suc (parts_count session call (part + 1) operations)

pub steps_count : (session call : ℕ) (commands : List Command) → length (session_steps session call commands)
    ≡ length (flat_map parts commands)
steps_count session call [] = refl
steps_count session call (command ∷ commands) =
    omega (
      arith,
      length-append (call_steps session call 0 (parts command)) (session_steps session (call + 1) commands),
      length-append (parts command) (flat_map parts commands),
      parts_count session call 0 (parts command),
      steps_count session (call + 1) commands,
    )

-- the answers to a call, and those to the calls behind it
cut_at : (slots : List (Option ByteAnswer)) (f : Step → Option Answer) (here rest : List Step) → slots_meant slots
    ≡ map f (here ++ rest)
    → (slots_meant (take (length here) slots) ≡ map f here) × (slots_meant (drop (length here) slots) ≡ map f rest)
cut_at [] f [] rest is = (refl, is)
cut_at (slot ∷ slots) f [] rest is = (refl, is)
cut_at [] f (step ∷ here) rest is = absurd (cc (is))
cut_at (slot ∷ slots) f (step ∷ here) rest is =
    let first : slot_meant slot ≡ f step = cc in
    let others : slots_meant slots ≡ map f (here ++ rest) = cc in
    let both = cut_at slots f here rest others in
    ((λ i. first i ∷ both.0 i), both.1)

-- the next call
pub one_call : (found : List (Entry × Answer)) (session k count : ℕ) (command : Command) (commands : List Command)
    (rest : List (Option ByteAnswer)) → count ≡ length (parts command)
    → slots_meant rest ≡ map (λ step. answer_at step.0 found) (session_steps session k (command ∷ commands))
    → (slots_meant (take count rest) ≡ map (λ step. answer_at step.0 found) (call_steps session k 0 (parts command)))
    × (slots_meant (drop count rest) ≡ map (λ step. answer_at step.0 found) (session_steps session (k + 1) commands))
one_call found session k count command commands rest count_is is =
    let here = call_steps session k 0 (parts command) in
    let same : length here ≡ count = parts_count session k 0 (parts command) ∙ sym count_is in
    let both = cut_at rest (λ (step : Step). answer_at step.0 found) here (session_steps session (k + 1) commands) is in
    (ap (λ n. slots_meant (take n rest)) (sym same) ∙ both.0, ap (λ n. slots_meant (drop n rest)) (sym same) ∙ both.1)

-- its text behind those before it
pub one_text : (found : List (Entry × Answer)) (session k : ℕ) (command : Command) (commands : List Command)
    (own : List (Option ByteAnswer)) (old new whole : List ℕ) (reply : Reply)
    → slots_meant own ≡ map (λ step. answer_at step.0 found) (call_steps session k 0 (parts command))
    → reply ≡ reply_of command (slots_meant own) → new ≡ old ++ reply_text reply
    → whole ≡ old ++ flat_map reply_text (replies_from found session k (command ∷ commands))
    → whole ≡ new ++ flat_map reply_text (replies_from found session (k + 1) commands)
one_text found session k command commands own old new whole reply answered said put is =
    let rest = flat_map reply_text (replies_from found session (k + 1) commands) in
    let text : reply_text reply
    ≡ reply_text (reply_of command (map (λ step. answer_at step.0 found) (call_steps session k 0 (parts command))))
    =
    ap reply_text (said ∙ ap (reply_of command) answered) in
    is ∙ ap (λ t. old ++ (t ++ rest)) (sym text) ∙ sym (append_assoc old (reply_text reply) rest)
    ∙ ap (λ t. t ++ rest) (sym put)

-- as many answers as parts
pub fits_parts : (found : List (Entry × Answer)) (session : ℕ) (commands : List Command)
    (slots : List (Option ByteAnswer)) → slots_meant slots ≡ answers_by found session commands
    → length slots ≡ length (flat_map parts commands)
fits_parts found session commands slots is =
    omega (
      arith,
      ap length is,
      length-map slots slot_meant,
      length-map (session_steps session 0 commands) (λ step. answer_at step.0 found),
      steps_count session 0 commands,
    )
