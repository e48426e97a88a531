-- Driven sessions were served together.
use Rattle.std.proofs.Common.{◌≡◌, Bool, ℕ, zero, suc, ◌+◌, List, [], ◌∷◌, Some, map, slice_get}
use Rattle.std.proofs.Common.{refl, ap, sym, ◌∙◌, subst, arith}
use Rattle.std.specs.List.{AllByRecursion, flat_map}
use Rattle.std.proofs.lemmas.List.Folds.{flat_map-map}
use Rattle.view_sums.specs.Total.{Each}
use Rattle.flake_model.specs.Reply.{reply_text}
use Rattle.flake_model.specs.Session.{IsSession}
use Rattle.pin_core.specs.declared.sizes.Sizes.{Sizes}
use Rattle.serve_model.specs.Handed.{SessionRun, session_in, runs_in, AreServed}
use Rattle.serve_model.specs.Runs.{Run, IsRun, run_text, run_texts, replies_told, lists_told, texts_told}
use Rattle.serve_model.specs.Runs.{all_texts_told}
use Rattle.serve_model.specs.Seats.{AreSpentSeats}
use Rattle.transcript_model.specs.Lines.{EventLine}
use Rattle.any_wire.specs.Texts.{Sending}
use Rattle.transcript_model.specs.Sessions.{events_of}
use Rattle.transcript_model.specs.Transcript.{IsStageShown}
use Rattle.drive_told.specs.Driven.{OneDriven, IsDriven, AllDriven}

run_text_is : (run : Run) → run_text run ≡ flat_map (λ text. text) (run_texts run)
run_text_is run = sym (flat_map-map (λ text. text) reply_text (replies_told run.commands run.calls))

-- the texts of a session's replies, and whether its wire failed
abbrev replies_of : Run → Bool × List (List ℕ)
replies_of run = (run.end.failed, run_texts run)

abbrev sent_of : {W : Type 0} → OneDriven W → Bool × List (List ℕ)
sent_of one = (one.end.failed, one.texts)

module _ {W : Type 0} (sends : Sending W) (z : Sizes) (shards ring threshold : ℕ) (lines : List EventLine) where
  abbrev pub Driven : ℕ → OneDriven W → Type 0
  Driven session one = IsDriven sends z shards ring threshold session (events_of session lines) one

  abbrev pub Drove : ℕ → List (OneDriven W) → Type 0
  Drove session each = AllDriven sends z shards ring threshold session lines each

  -- the runs of the sessions
  abbrev pub runs_from : (session : ℕ) (each : List (OneDriven W)) → Drove session each → List SessionRun
  runs_from session [] all = []
  runs_from session (one ∷ each) all =
      record { given = one.given; ended = one.ended; run = all.0.ran.run } ∷ runs_from (session + 1) each all.1

  pub givens_are : (session : ℕ) (each : List (OneDriven W)) (all : Drove session each)
      → map (λ (one : OneDriven W). one.given) each ≡ map (λ (ran : SessionRun). ran.given) (runs_from session each all)
  givens_are session [] all = refl
  givens_are session (one ∷ each) all =
      ap (λ (l : List (List ℕ)). one.given ∷ l) (givens_are (session + 1) each all.1)

  pub endeds_are : (session : ℕ) (each : List (OneDriven W)) (all : Drove session each)
      → map (λ (one : OneDriven W). one.ended) each ≡ map (λ (ran : SessionRun). ran.ended) (runs_from session each all)
  endeds_are session [] all = refl
  endeds_are session (one ∷ each) all = ap (λ (l : List Bool). one.ended ∷ l) (endeds_are (session + 1) each all.1)

  pub ends_are : (session : ℕ) (each : List (OneDriven W)) (all : Drove session each)
      → map (λ (one : OneDriven W). one.end) each ≡ map (λ (ran : SessionRun). ran.run.end) (runs_from session each all)
  ends_are session [] all = refl
  ends_are session (one ∷ each) all = (λ i. all.0.ran.end_is i ∷ ends_are (session + 1) each all.1 i)

  pub sessions_are : (session : ℕ) (each : List (OneDriven W)) (all : Drove session each)
      → Each (λ (ran : SessionRun). IsSession (session_in ran)) (runs_from session each all)
  sessions_are session [] all = tt
  sessions_are session (one ∷ each) all = (all.0.ran.is_session, sessions_are (session + 1) each all.1)

  pub runs_are : (session : ℕ) (each : List (OneDriven W)) (all : Drove session each)
      → Each IsRun (runs_in (runs_from session each all))
  runs_are session [] all = tt
  runs_are session (one ∷ each) all = (all.0.ran.is_run, runs_are (session + 1) each all.1)

  pub lists_are : (session : ℕ) (each : List (OneDriven W)) (all : Drove session each)
      → map (λ (one : OneDriven W). one.list) each ≡ lists_told shards session (runs_in (runs_from session each all))
  lists_are session [] all = refl
  lists_are session (one ∷ each) all = (λ i. all.0.ran.list_is i ∷ lists_are (session + 1) each all.1 i)

  pub seats_are : (session : ℕ) (each : List (OneDriven W)) (all : Drove session each)
      → AreSpentSeats z threshold (runs_in (runs_from session each all)) (map (λ (one : OneDriven W). one.seat) each)
  seats_are session [] all = tt
  seats_are session (one ∷ each) all = (all.0.ran.seat_is, seats_are (session + 1) each all.1)

  texts_of : (session : ℕ) (one : OneDriven W) (is : Driven session one)
      → replies_of is.ran.run ≡ sent_of one
  texts_of session one is = λ i. ((sym is.ran.end_is i).failed, sym is.ran.texts_are i)

  pub replies_are : (session : ℕ) (each : List (OneDriven W)) (all : Drove session each)
      → all_texts_told (runs_in (runs_from session each all))
      ≡ map (λ (one : OneDriven W). (one.end.failed, one.texts)) each
  replies_are session [] all = refl
  replies_are session (one ∷ each) all =
      (λ i. texts_of session one all.0 i ∷ replies_are (session + 1) each all.1 i)

  pub texts_are : (session : ℕ) (each : List (OneDriven W)) (all : Drove session each)
      → texts_told (runs_in (runs_from session each all))
      ≡ map (λ (one : OneDriven W). (one.end.failed, flat_map (λ text. text) one.texts)) each
  texts_are session [] all = refl
  texts_are session (one ∷ each) all =
      let run = all.0.ran.run in
      let text : (run.end.failed, run_text run) ≡ (one.end.failed, flat_map (λ text. text) one.texts) =
      (λ i. (run.end.failed, run_text_is run i))
      ∙ ap (λ (t : Bool × List (List ℕ)). (t.0, flat_map (λ text. text) t.1)) (texts_of session one all.0) in
      (λ i. text i ∷ texts_are (session + 1) each all.1 i)

  -- they were served
  abbrev pub served : (each : List (OneDriven W)) → Drove 0 each
      → AreServed z threshold shards (map (λ (one : OneDriven W). one.given) each)
      (map (λ (one : OneDriven W). one.ended) each) (map (λ (one : OneDriven W). one.end) each)
      (map (λ (one : OneDriven W). one.list) each) (map (λ (one : OneDriven W). one.seat) each)
  served each all = record {
    all = runs_from 0 each all;
    givens_are = givens_are 0 each all;
    endeds_are = endeds_are 0 each all;
    ends_are = ends_are 0 each all;
    sessions_are = sessions_are 0 each all;
    runs_are = runs_are 0 each all;
    told = lists_are 0 each all;
    seats_are = seats_are 0 each all;
  }

  -- one of them, with its number, at its place
  abbrev pub IsAt : ℕ → List SessionRun → ℕ → OneDriven W → Type 0
  IsAt number runs k one = (driven : Driven number one)
      × (slice_get runs k ≡ Some (record { given = one.given; ended = one.ended; run = driven.ran.run }))

  pub at_place : (session : ℕ) (each : List (OneDriven W)) (all : Drove session each) (k : ℕ) (one : OneDriven W)
      → slice_get each k ≡ Some one → IsAt (session + k) (runs_from session each all) k one
  at_place session [] all k one is = absurd (let no : ⊥ = cc in no)
  at_place session (first ∷ each) all zero one is =
      let same : first ≡ one = cc in
      let e : session ≡ session + 0 = omega arith in
      let runs = runs_from session (first ∷ each) all in
      let here : IsAt session runs zero first = (all.0, refl) in
      subst (IsAt (session + 0) runs zero) same (subst (λ n. IsAt n runs zero first) e here)
  at_place session (first ∷ each) all (suc k) one is =
      let rest = at_place (session + 1) each all.1 k one is in
      let e : session + 1 + k ≡ session + suc k = omega arith in
      subst (λ n. IsAt n (runs_from session (first ∷ each) all) (suc k) one) e rest

  pub all_stages : (session : ℕ) (each : List (OneDriven W)) (all : Drove session each)
      → AllByRecursion (IsStageShown z) (map (λ (one : OneDriven W). one.stage) each)
  all_stages session [] all = tt
  all_stages session (one ∷ each) all = (all.0.stage_is, all_stages (session + 1) each all.1)
