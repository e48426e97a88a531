-- Sessions that were driven, one after another.
use Rattle.std.proofs.Common.{
  ◌≡◌,
  ℕ,
  suc,
  ◌+◌,
  ◌*◌,
  Bool,
  List,
  [],
  ◌∷◌,
  ◌++◌,
  Some,
  All,
  map,
  length,
  slice_get,
  refl,
  ap,
  ◌∙◌,
  subst,
  arith,
}
use Rattle.std.specs.Borrow.{Bor}
use Rattle.std.specs.List.{flat_map, range_with_len}
use Rattle.std.proofs.lemmas.List.Elements.{All-head, All-tail}
use Rattle.std.specs.Prelude.{⊤}
use Rattle.view_sums.specs.Total.{total, Each}
use Rattle.flake_model.specs.Command.{Command}
use Rattle.pin_core.specs.declared.sizes.Sizes.{Sizes}
use Rattle.pinned_pool.specs.declared.view.View.{View}
use Rattle.order_book.specs.Closed.{own_deeds}
use Rattle.reply_planner.specs.Places.{buffer_addresses}
use Rattle.serve_model.specs.Handed.{SessionHasRun}
use Rattle.session_pass.specs.Views.{SessionView}
use Rattle.transcript_model.specs.Lines.{EventLine}
use Rattle.any_wire.specs.Texts.{WireGrew}
use Rattle.transcript_model.specs.Sessions.{IsRightSession, events_of, texts_of}
use Rattle.transcript_model.specs.Terms.{Terms}
use Rattle.transcript_model.specs.Transcript.{IsStageShown}
use Rattle.tx_ring.specs.Shown.{ring_size}
use Rattle.drive_script.specs.Driven.{Leaving}
use Rattle.drive_script.specs.Driving.{Driving}
use Rattle.drive_script.specs.Connections.{sends_by}
use Rattle.drive_script.specs.Ran.{HasDriven}
use Rattle.drive_told.specs.Driven.{OneDriven, IsDriven, AllDriven}
use Rattle.run_resources.specs.Opened.{session_credits, IsNewPass}
use Rattle.session_serve.specs.Ran.{AreReads, AllSent}
use Rattle.run_resources.proofs.SessionSlots.{HasCredits}

abbrev pub credits_in : List View → ℕ
credits_in views = total (λ (v : View). v.credits) views

-- what no line changes of a new session is by its number and by the run's sizes
pub record IsFit (z : Sizes) (ring threshold number : ℕ) (session : SessionView) : Type 0 where
  pub number_is : session.pass.list.number ≡ number
  pub ring_is : ring_size session.ring ≡ ring
  pub threshold_is : session.pass.threshold ≡ threshold
  pub stage : IsStageShown z (buffer_addresses z session.pass.stage)

-- from a number on
abbrev pub AreFit : Sizes → ℕ → ℕ → ℕ → List SessionView → Type 0
AreFit z ring threshold number [] = ⊤
AreFit z ring threshold number (session ∷ sessions) =
    IsFit z ring threshold number session × AreFit z ring threshold (number + 1) sessions

stage_of : (z : Sizes) (session : SessionView) → IsNewPass z session.pass
    → IsStageShown z (buffer_addresses z session.pass.stage)
stage_of z session is = record {
  buffers = session.pass.stage;
  as_many = is.opened.count;
  ascending = is.opened.rising;
  small = is.opened.small;
  addresses = refl;
}

-- the sessions of session slots are
pub all_fit : {K : Type 0} (z : Sizes) (ring threshold number : ℕ) (P : K → Type 0) (own : K → SessionView)
    (slots : List K) → ((k : K) → P k → IsNewPass z (own k).pass) → All P slots
    → All (λ (k : K). ring_size (own k).ring ≡ ring) slots
    → All (λ (k : K). (own k).pass.threshold ≡ threshold) slots
    → map (λ (k : K). (own k).pass.list.number) slots ≡ range_with_len number (length slots)
    → AreFit z ring threshold number (map own slots)
all_fit z ring threshold number P own [] new all rings thresholds numbers = tt
all_fit {K} z ring threshold number P own (k ∷ slots) new all rings thresholds numbers =
    let ring_is : K → Type 0 = λ k. ring_size (own k).ring ≡ ring in
    let threshold_is : K → Type 0 = λ k. (own k).pass.threshold ≡ threshold in
    let first : (own k).pass.list.number ≡ number = cc in
    let others : map (λ (k : K). (own k).pass.list.number) slots ≡ range_with_len (number + 1)
    (length slots) = cc in (
      record {
        number_is = first;
        ring_is = All-head ring_is k slots rings;
        threshold_is = All-head threshold_is k slots thresholds;
        stage = stage_of z (own k) (new k (All-head P k slots all));
      },
      all_fit z ring threshold (number + 1) P own slots new (All-tail P k slots all)
          (All-tail ring_is k slots rings)
          (All-tail threshold_is k slots thresholds) others,
    )

module _ {W : Type 0} (put_may : W → Bor (List ℕ) → (W × Bool) → Type 0) (flush_may : W → (W × Bool) → Type 0)
    (z : Sizes) (shards : ℕ) (lines : List EventLine) where
  -- a session was driven, whose lines are those of this number
  abbrev pub WasDriven : ℕ → Driving W → Leaving W → Type 0
  WasDriven number first last =
      HasDriven put_may flush_may z shards first (events_of number lines) last.end last.mine last.seat last.pump
      last.wire

  -- each was, from a number on
  abbrev pub WereAll : ℕ → List (Driving W) → List (Leaving W) → Type 0
  WereAll number [] [] = ⊤
  WereAll number [] (last ∷ lasts) = ⊥
  WereAll number (first ∷ firsts) [] = ⊥
  WereAll number (first ∷ firsts) (last ∷ lasts) =
      WasDriven number first last × WereAll (number + 1) firsts lasts

  pub in_order : (number : ℕ) (firsts : List (Driving W)) (lasts : List (Leaving W)) → length lasts ≡ length firsts
      → ((k : ℕ) (first : Driving W) (last : Leaving W) → slice_get firsts k ≡ Some first
      → slice_get lasts k ≡ Some last → WasDriven (number + k) first last) → WereAll number firsts lasts
  in_order number [] [] long each = tt
  in_order number [] (last ∷ lasts) long each = absurd (omega (arith, long))
  in_order number (first ∷ firsts) [] long each = absurd (omega (arith, long))
  in_order number (first ∷ firsts) (last ∷ lasts) long each =
      let here : number + 0 ≡ number = omega arith in (
        subst (λ (n : ℕ). WasDriven n first last) here (each 0 first last refl refl),
        in_order (number + 1) firsts lasts (omega (arith, long)) (λ k f l began at.
            let next : number + suc k ≡ number + 1 + k = omega arith in
            subst (λ (n : ℕ). WasDriven n f l) next (each (suc k) f l began at)),
      )

  abbrev pub one_of : (number : ℕ) (first : Driving W) (last : Leaving W) → WasDriven number first last → OneDriven W
  one_of number first last was = record {
    given = last.pump.given;
    ended = last.pump.ended;
    end = last.end;
    list = last.mine;
    seat = last.seat;
    texts = was.texts;
    stage = buffer_addresses z first.session.pass.stage;
    whole = was.whole;
    old = was.start;
    new = last.wire;
  }

  abbrev pub each_of : (number : ℕ) (firsts : List (Driving W)) (lasts : List (Leaving W))
      → WereAll number firsts lasts → List (OneDriven W)
  each_of number [] [] all = []
  each_of number [] (last ∷ lasts) all = []
  each_of number (first ∷ firsts) [] all = []
  each_of number (first ∷ firsts) (last ∷ lasts) all =
      one_of number first last all.0 ∷ each_of (number + 1) firsts lasts all.1

  module _ {X : Type 0} (f : OneDriven W → X) where
    -- what they have of where they began
    pub by_firsts : (h : Driving W → X) → ((number : ℕ) (first : Driving W) (last : Leaving W)
        (was : WasDriven number first last) → f (one_of number first last was) ≡ h first) → (number : ℕ)
        (firsts : List (Driving W)) (lasts : List (Leaving W)) (all : WereAll number firsts lasts)
        → map f (each_of number firsts lasts all) ≡ map h firsts
    by_firsts h same number [] [] all = refl
    by_firsts h same number [] (last ∷ lasts) all = absurd all
    by_firsts h same number (first ∷ firsts) [] all = absurd all
    by_firsts h same number (first ∷ firsts) (last ∷ lasts) all =
        ap (λ (more : List X). f (one_of number first last all.0) ∷ more)
        (by_firsts h same (number + 1) firsts lasts all.1)
        ∙ ap (λ (x : X). x ∷ map h firsts) (same number first last all.0)

    -- and of what they left
    pub by_lasts : (h : Leaving W → X) → ((number : ℕ) (first : Driving W) (last : Leaving W)
        (was : WasDriven number first last) → f (one_of number first last was) ≡ h last) → (number : ℕ)
        (firsts : List (Driving W)) (lasts : List (Leaving W)) (all : WereAll number firsts lasts)
        → map f (each_of number firsts lasts all) ≡ map h lasts
    by_lasts h same number [] [] all = refl
    by_lasts h same number [] (last ∷ lasts) all = absurd all
    by_lasts h same number (first ∷ firsts) [] all = absurd all
    by_lasts h same number (first ∷ firsts) (last ∷ lasts) all =
        ap (λ (more : List X). f (one_of number first last all.0) ∷ more)
        (by_lasts h same (number + 1) firsts lasts all.1)
        ∙ ap (λ (x : X). x ∷ map h lasts) (same number first last all.0)

  -- a session that is fit was driven as the law has it
  is_driven : (ring threshold number : ℕ) (first : Driving W) (last : Leaving W)
      (was : WasDriven number first last) → IsFit z ring threshold number first.session
      → IsDriven (sends_by put_may flush_may) z shards ring threshold number (events_of number lines)
      (one_of number first last was)
  is_driven ring threshold number first last was fit =
      let sends = sends_by put_may flush_may in
      let terms : ℕ × ℕ × ℕ → List Command → Terms = λ q commands. record {
        number = q.0;
        sizes = z;
        ring = q.1;
        threshold = q.2;
        stage = buffer_addresses z first.session.pass.stage;
        commands = commands;
        end = last.end;
        whole = was.whole;
        deeds = own_deeds last.mine;
      } in
      let driven : ℕ × ℕ × ℕ → Type 0 = λ q.
      (ran : SessionHasRun z q.2 shards q.0 last.pump.given last.pump.ended last.end last.mine last.seat was.texts)
      × IsRightSession (terms q ran.run.commands) (events_of number lines)
      × WireGrew sends last.end.failed was.whole (texts_of (terms q ran.run.commands)) was.start last.wire in
      let own = subst driven (λ i. (fit.number_is i, fit.ring_is i, fit.threshold_is i)) (was.ran, was.told, was.grew)
      in
      record { ran = own.0; stage_is = fit.stage; told = own.1; grew = own.2 }

  pub all_driven : (ring threshold number : ℕ) (firsts : List (Driving W)) (lasts : List (Leaving W))
      (all : WereAll number firsts lasts)
      → AreFit z ring threshold number (map (λ (first : Driving W). first.session) firsts)
      → AllDriven (sends_by put_may flush_may) z shards ring threshold number lines (each_of number firsts lasts all)
  all_driven ring threshold number [] [] all fit = tt
  all_driven ring threshold number [] (last ∷ lasts) all fit = tt
  all_driven ring threshold number (first ∷ firsts) [] all fit = tt
  all_driven ring threshold number (first ∷ firsts) (last ∷ lasts) all fit = (
    is_driven ring threshold number first last all.0 fit.0,
    all_driven ring threshold (number + 1) firsts lasts all.1 fit.1,
  )

  pub all_sent : (past : List W) (number : ℕ) (firsts : List (Driving W)) (lasts : List (Leaving W))
      (all : WereAll number firsts lasts)
      → AllSent put_may flush_may (map (λ (one : OneDriven W). (one.end.failed, flat_map (λ text. text) one.texts))
      (each_of number firsts lasts all)) (map (λ (one : OneDriven W). one.old) (each_of number firsts lasts all)
      ++ past)
      (map (λ (one : OneDriven W). one.new) (each_of number firsts lasts all) ++ past)
  all_sent past number [] [] all = refl
  all_sent past number [] (last ∷ lasts) all = absurd all
  all_sent past number (first ∷ firsts) [] all = absurd all
  all_sent past number (first ∷ firsts) (last ∷ lasts) all =
      (all.0.sends, all_sent past (number + 1) firsts lasts all.1)

  pub all_reads : (number : ℕ) (firsts : List (Driving W)) (lasts : List (Leaving W)) → WereAll number firsts lasts
      → AreReads (map (λ (last : Leaving W). last.end) lasts) (map (λ (first : Driving W). first.pump.faults) firsts)
      (map (λ (last : Leaving W). last.pump.faults) lasts)
  all_reads number [] [] all = tt
  all_reads number [] (last ∷ lasts) all = absurd all
  all_reads number (first ∷ firsts) [] all = absurd all
  all_reads number (first ∷ firsts) (last ∷ lasts) all =
      (all.0.reads, all_reads (number + 1) firsts lasts all.1)

  -- their sources are the ones that they had
  pub all_origins : (number : ℕ) (firsts : List (Driving W)) (lasts : List (Leaving W)) → WereAll number firsts lasts
      → map (λ (last : Leaving W). last.pump.origin) lasts ≡ map (λ (first : Driving W). first.pump.origin) firsts
  all_origins number [] [] all = refl
  all_origins number [] (last ∷ lasts) all = absurd all
  all_origins number (first ∷ firsts) [] all = absurd all
  all_origins number (first ∷ firsts) (last ∷ lasts) all =
      (λ i. all.0.origin i ∷ all_origins (number + 1) firsts lasts all.1 i)

  -- the credits of all their seats
  pub all_credits : (number : ℕ) (firsts : List (Driving W)) (lasts : List (Leaving W)) → WereAll number firsts lasts
      → Each HasCredits (map (λ (first : Driving W). first.session) firsts)
      → total (λ (v : View). v.credits) (map (λ (last : Leaving W). last.seat) lasts)
      ≡ session_credits * length firsts
  all_credits number [] [] all own = omega arith
  all_credits number [] (last ∷ lasts) all own = absurd all
  all_credits number (first ∷ firsts) [] all own = absurd all
  all_credits number (first ∷ firsts) (last ∷ lasts) all own =
      let more = all_credits (number + 1) firsts lasts all.1 own.1 in
      omega (arith, all.0.credits, own.0, more)
