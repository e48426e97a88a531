-- How sessions end whose inputs are generated.
use Rattle.std.proofs.Common.{◌≡◌, ◌≢◌, ◌∙◌, ℕ, zero, suc, ◌+◌, ◌<◌, ◌≤◌, ◌⊎◌, inl, inr, Bool, true, List}
use Rattle.std.proofs.Common.{[], ◌∷◌, ◌++◌, Some, map, arith, refl, ap, ap₂, subst, append-nil}
use Rattle.std.specs.List.{AllByRecursion, range_with_len}
use Rattle.flake_base.specs.Reads.{IsGivenFront}
use Rattle.flake_base.specs.declared.session.End.{End}
use Rattle.flake_base.specs.declared.session.End.TheVariants.{Clean, Protocol, Truncated, TooLong, ReadFault, Memory}
use Rattle.flake_base.specs.declared.session.End.TheVariants.{Left}
use Rattle.flake_base.specs.declared.session.SessionEnd.{SessionEnd}
use Rattle.flake_model.specs.Resp.{Words, Parses}
use Rattle.flake_model.specs.Command.{Command}
use Rattle.flake_model.specs.Input.{commands_in}
use Rattle.flake_model.specs.Run.{all_commands}
use Rattle.flake_model.specs.Session.{Session, IsSession, EndsAs, IsReadOut}
use Rattle.flake_model.proofs.Faults.{error_stays, long_stays}
use Rattle.flake_model.proofs.OneParse.{one_parse}
use Rattle.command_pump.specs.Pump.{EndFaults}
use Rattle.request_gen.specs.Words.{all_words, requests_text}
use Rattle.request_gen.proofs.Clean.{is_clean}
use Rattle.serve_generated.specs.Sessions.{generated_commands_of}
use Rattle.session_serve.specs.Ran.{AreReads}
use Rattle.serve_generated.specs.Generated.{HadMemory, AreFronts}

-- clean, unless memory was wanting
abbrev pub IsWay : End → Type 0
IsWay way = (way ≡ Clean) ⊎ (way ≡ Memory)

-- a source without faults, whose bytes are whole requests
way_is : (e : End) (gave left : List ℕ) (ended : Bool) (requests other : List Words) (shown : End)
    → Parses gave other shown → EndsAs e shown → IsReadOut e ended → (ended ≡ true → left ≡ [])
    → Parses (gave ++ left) requests Clean → EndFaults e 0 0 → e ≢ Left → IsWay e
way_is Clean gave left ended requests other shown parsed is out none clean faults stays = inl refl
way_is (Protocol kind place) gave left ended requests other shown parsed is out none clean faults stays =
    let error = error_stays gave left other kind place (subst (Parses gave other) is parsed) in
    absurd (cc ((one_parse (gave ++ left) other requests (Protocol kind place) Clean error clean).1))
way_is (Truncated place) gave left ended requests other shown parsed is out none clean faults stays =
    let whole = subst (λ b. Parses b requests Clean) (ap (λ l. gave ++ l) (none out) ∙ append-nil gave) clean in
    absurd (cc (is, (one_parse gave other requests shown Clean parsed whole).1))
way_is TooLong gave left ended requests other shown parsed is out none clean faults stays =
    let long = long_stays gave left other (subst (Parses gave other) is parsed) in
    absurd (cc ((one_parse (gave ++ left) other requests TooLong Clean long clean).1))
way_is ReadFault gave left ended requests other shown parsed is out none clean faults stays =
    absurd (omega (arith, faults))
way_is Memory gave left ended requests other shown parsed is out none clean faults stays = inr refl
way_is Left gave left ended requests other shown parsed is out none clean faults stays = absurd (stays refl)

-- and then its commands are those of the requests
commands_are : (e : End) (gave left : List ℕ) (ended : Bool) (requests other : List Words) (shown : End)
    → Parses gave other shown → EndsAs e shown → IsReadOut e ended → (ended ≡ true → left ≡ [])
    → Parses (gave ++ left) requests Clean → e ≡ Clean → commands_in other shown ≡ commands_in requests Clean
commands_are e gave left ended requests other shown parsed is out none clean e_is =
    let shown_is : shown ≡ Clean = subst (λ e. EndsAs e shown) e_is is in
    let behind : left ≡ [] = none (subst (λ e. IsReadOut e ended) e_is out) in
    let whole = subst (λ b. Parses b requests Clean) (ap (λ l. gave ++ l) behind ∙ append-nil gave) clean in
    ap (commands_in other) shown_is ∙ ap (λ r. commands_in r Clean)
    (one_parse gave other requests shown Clean parsed whole).0

-- what is known of one session
record IsGenerated (s : Session) (end : SessionEnd) (commands : List Command) : Type 0 where
  way : IsWay end.end
  commands_are : end.end ≢ Memory → s.commands ≡ commands

one_session : (number session count : ℕ) (s : Session) (given : List ℕ) (ended : Bool) (end : SessionEnd)
    → session < 16 → count ≤ 4000 → IsSession s → s.given ≡ given → s.ended ≡ ended → s.end ≡ end
    → IsGivenFront (Some (requests_text (all_words number session count))) given ended → EndFaults end.end 0 0
    → end.end ≢ Left
    → IsGenerated s end (generated_commands_of number session count)
one_session number session count s given ended end small few is given_is ended_is end_is front faults stays =
    let requests = all_words number session count in
    let left = front.0 in
    let clean : Parses (given ++ left) requests Clean = subst (λ b. Parses b requests Clean) front.1
    (is_clean number session count small few) in
    let parsed : Parses given is.requests is.shown = subst (λ b. Parses b is.requests is.shown) given_is is.parsed in
    let shown : EndsAs end.end is.shown = subst (λ (e : SessionEnd). EndsAs e.end is.shown) end_is is.shown_is in
    let out : IsReadOut end.end ended = subst (IsReadOut end.end) ended_is
    (subst (λ (e : SessionEnd). IsReadOut e.end s.ended) end_is is.read_out) in
    let way = way_is end.end given left ended requests is.requests is.shown parsed shown out front.2 clean faults stays
    in
    record {
      way = way;
      commands_are = λ memory. is.commands_are
          ∙ elim way as (λ _. commands_in is.requests is.shown ≡ generated_commands_of number session count) [
            | inl e ↦ commands_are end.end given left ended requests is.requests is.shown parsed shown out front.2
                clean e
            | inr e ↦ absurd (memory e)
          ];
    }

-- the inputs of the sessions from one on, and their commands
abbrev pub inputs_from : ℕ → ℕ → ℕ → ℕ → List (List ℕ)
inputs_from number count session more = map (λ s. requests_text (all_words number s count))
    (range_with_len session more)

abbrev pub commands_from : ℕ → ℕ → ℕ → ℕ → List (List Command)
commands_from number count session more = map (λ s. generated_commands_of number s count) (range_with_len session more)

-- no read of a source failed, before or since
abbrev pub no_faults : {A : Type 0} → List A → List ℕ
no_faults sources = map (λ _. 0) sources

pub all_ways : {A B : Type 0} (number count session more : ℕ) (sessions : List Session) (givens : List (List ℕ))
    (endeds : List Bool) (ends : List SessionEnd)
    (befores : List A) (nows : List B) → session + more ≤ 16 → count ≤ 4000
    → AllByRecursion IsSession sessions → map (λ (s : Session). s.given) sessions ≡ givens
    → map (λ (s : Session). s.ended) sessions ≡ endeds → map (λ (s : Session). s.end) sessions ≡ ends
    → AreFronts (inputs_from number count session more) givens endeds
    → AreReads ends (no_faults befores) (no_faults nows) → AllByRecursion (λ end. end.end ≢ Left) ends
    → AllByRecursion (λ end. IsWay end.end) ends
    × (HadMemory ends → all_commands sessions ≡ commands_from number count session more)
all_ways number count session zero [] givens endeds [] befores nows small few each given ended are gave reads stays =
    (tt, λ memory. refl)
all_ways number count session zero (s ∷ sessions) givens endeds ends befores nows small few each given ended are gave
    reads stays = absurd (let no : ⊥ = cc (given, gave.0) in no)
all_ways number count session zero [] givens endeds (end ∷ ends) befores nows small few each given ended are gave reads
    stays = absurd (let no : ⊥ = cc are in no)
all_ways number count session (suc more) sessions [] endeds ends befores nows small few each given ended are gave reads
    stays = absurd gave
all_ways number count session (suc more) sessions (g ∷ givens) [] ends befores nows small few each given ended are gave
    reads stays = absurd gave
all_ways number count session (suc more) [] (g ∷ givens) (e ∷ endeds) ends befores nows small few each given ended are
    gave reads stays = absurd (let no : ⊥ = cc given in no)
all_ways number count session (suc more) (s ∷ sessions) (g ∷ givens) (e ∷ endeds) [] befores nows small few each given
    ended are gave reads stays = absurd (let no : ⊥ = cc are in no)
all_ways number count session (suc more) (s ∷ sessions) (g ∷ givens) (e ∷ endeds) (end ∷ ends) [] nows small few each
    given ended are gave reads stays = absurd reads
all_ways number count session (suc more) (s ∷ sessions) (g ∷ givens) (e ∷ endeds) (end ∷ ends) (before ∷ befores) []
    small few each given ended are gave reads stays = absurd reads
all_ways number count session (suc more) (s ∷ sessions) (g ∷ givens) (e ∷ endeds) (end ∷ ends) (before ∷ befores)
    (now ∷ nows) small few each given ended are gave reads stays =
    let this = one_session number session count s g e end (omega arith) few each.0 (cc given) (cc ended) (cc are) gave.0
    reads.0 stays.0 in
    let rest = all_ways number count (session + 1) more sessions givens endeds ends befores nows (omega arith) few
    each.1 (cc given) (cc ended) (cc are) gave.1 reads.1 stays.1 in
    ((this.way, rest.0), λ memory. ap₂ (λ c cs. c ∷ cs) (this.commands_are memory.0) (rest.1 memory.1))
