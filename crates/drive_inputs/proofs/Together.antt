-- What was driven, put together.
use Rattle.std.proofs.Common.{
  ◌≡◌,
  ℕ,
  ◌+◌,
  ◌*◌,
  Bool,
  List,
  [],
  ◌∷◌,
  ◌++◌,
  Option,
  Some,
  All,
  map,
  length,
  refl,
  ap,
  sym,
  ◌∙◌,
  subst,
  arith,
}
use Rattle.std.specs.Borrow.{Bor}
use Rattle.std.proofs.lemmas.List.{map-append, length-map, length-append}
use Rattle.std.proofs.lemmas.List.Elements.{All-head, All-tail}
use Rattle.view_sums.specs.Total.{Each}
use Rattle.flake_base.specs.Told.{HostTold}
use Rattle.flake_base.specs.declared.journal.Entry.{Entry}
use Rattle.flake_base.specs.declared.session.SessionEnd.{SessionEnd}
use Rattle.pin_core.specs.declared.sizes.Sizes as pool_sizes
use Rattle.pinned_pool.specs.Ends.{End}
use Rattle.pinned_pool.specs.declared.view.View.{View}
use Rattle.command_pump.specs.Pump.{Origin, origin_of}
use Rattle.order_book.specs.Pages.{SessionList}
use Rattle.order_book.specs.declared.rule.BookSizes as book_sizes
use Rattle.schedule_text.specs.declared.line.Line.{Line}
use Rattle.reply_planner.specs.Places.{buffer_addresses}
use Rattle.reply_planner.specs.Stages.{StagesAreApart}
use Rattle.serve_model.specs.Seats.{HasAll, IsSpare}
use Rattle.session_pass.specs.Views.{SessionView}
use Rattle.drive_script.specs.Driven.{Leaving, DroveAll}
use Rattle.drive_script.specs.Driving.{Driving}
use Rattle.drive_script.specs.Connections.{sends_by}
use Rattle.drive_told.specs.Driven.{OneDriven, AreDriven}
use Rattle.drive_told.specs.Together.{DrivenTogether}
use Rattle.run_resources.specs.Closed.{WasClosed}
use Rattle.run_resources.specs.Joined.{HasJoined}
use Rattle.run_resources.specs.Opened.{session_credits}
use Rattle.session_serve.specs.Ran.{AreReads, AllSent}
use Rattle.run_resources.proofs.SessionSlots.{HasCredits}
use Rattle.run_resources.proofs.Joining.{joins_all}
use Rattle.drive_inputs.specs.Drove.{DroveInputs}
use Rattle.drive_inputs.proofs.Each as each
use Rattle.drive_inputs.proofs.Each.{AreFit}

pub maps_in : {A B C : Type 0} (f : B → C) (view : A → B) (xs : List A)
    → map f (map view xs) ≡ map (λ (x : A). f (view x)) xs
maps_in f view [] = refl
maps_in {A} {B} {C} f view (x ∷ xs) = ap (λ (more : List C). f (view x) ∷ more) (maps_in f view xs)

all_there : {A : Type 0} (xs ys : List A) → map Some xs ≡ map Some ys → xs ≡ ys
all_there [] [] same = refl
all_there [] (y ∷ ys) same = absurd (cc)
all_there (x ∷ xs) [] same = absurd (cc)
all_there {A} (x ∷ xs) (y ∷ ys) same =
    let first : x ≡ y = cc in
    let others : map Some xs ≡ map Some ys = cc in
    ap (λ (a : A). a ∷ xs) first ∙ ap (λ (more : List A). y ∷ more) (all_there xs ys others)

-- sources with the same origins have the same names, and hold the same
pub same_origins : {S : Type 0} (name : S → List ℕ) (whole : S → Option (List ℕ)) (news olds : List S)
    → map (λ (s : S). origin_of (name s) (whole s)) news ≡ map (λ (s : S). origin_of (name s) (whole s)) olds
    → (map name news ≡ map name olds) × (map whole news ≡ map whole olds)
same_origins {S} name whole news olds same =
    let from : S → Origin = λ s. origin_of (name s) (whole s) in (
      sym (maps_in (λ (o : Origin). o.name) from news) ∙ ap (map (λ (o : Origin). o.name)) same
          ∙ maps_in (λ (o : Origin). o.name) from olds,
      sym (maps_in (λ (o : Origin). o.whole) from news) ∙ ap (map (λ (o : Origin). o.whole)) same
          ∙ maps_in (λ (o : Origin). o.whole) from olds,
    )

module _ {W D A : Type 0} (put_may : W → Bor (List ℕ) → (W × Bool) → Type 0) (flush_may : W → (W × Bool) → Type 0)
    (z : pool_sizes.Sizes) (shards : ℕ) (view : D → Driving W) (leave : A → Leaving W) (schedule : List Line)
    (failed : Bool) (drivings : List D) (accounts : List A) (old new : HostTold) where
  abbrev pub Drove : Type 0
  Drove = DroveAll put_may flush_may z shards (map view drivings) schedule (map leave accounts) failed old new

  abbrev firsts : List (Driving W)
  firsts = map view drivings

  abbrev lasts : List (Leaving W)
  lasts = map leave accounts

  -- one session after another
  abbrev Were : Drove → Type 0
  Were drove = each.WereAll put_may flush_may z shards drove.lines 0 firsts lasts

  all_were : (drove : Drove) → Were drove
  all_were drove =
      each.in_order put_may flush_may z shards drove.lines 0 firsts lasts drove.as_many (λ k first last began at.
      let here : k ≡ 0 + k = omega arith in
      subst (λ (n : ℕ). each.WasDriven put_may flush_may z shards drove.lines n first last) here
      (drove.left k first last began at))

  abbrev ones : (drove : Drove) → Were drove → List (OneDriven W)
  ones drove all = each.each_of put_may flush_may z shards drove.lines 0 firsts lasts all

  pub as_many : Drove → length accounts ≡ length drivings
  as_many drove = sym (length-map accounts leave) ∙ drove.as_many ∙ length-map drivings view

  pub reads : (befores nows : List ℕ) (ends : List SessionEnd) → Drove
      → map (λ (d : D). (view d).pump.faults) drivings ≡ befores
      → nows ≡ map (λ (a : A). (leave a).pump.faults) accounts
      → ends ≡ map (λ (a : A). (leave a).end) accounts → AreReads ends befores nows
  reads befores nows ends drove befores_is nows_is ends_is =
      let a = ends_is ∙ sym (maps_in (λ (l : Leaving W). l.end) leave accounts) in
      let b = maps_in (λ (f : Driving W). f.pump.faults) view drivings ∙ befores_is in
      let n = nows_is ∙ sym (maps_in (λ (l : Leaving W). l.pump.faults) leave accounts) in
      subst (λ (q : List SessionEnd × List ℕ × List ℕ). AreReads q.0 q.1 q.2) (λ i. (sym a i, b i, sym n i))
      (each.all_reads put_may flush_may z shards drove.lines 0 firsts lasts (all_were drove))

  pub origins : (befores nows : List Origin) → Drove
      → map (λ (d : D). (view d).pump.origin) drivings ≡ befores
      → nows ≡ map (λ (a : A). (leave a).pump.origin) accounts → nows ≡ befores
  origins befores nows drove befores_are nows_are =
      nows_are ∙ sym (maps_in (λ (l : Leaving W). l.pump.origin) leave accounts)
      ∙ each.all_origins put_may flush_may z shards drove.lines 0 firsts lasts (all_were drove)
      ∙ maps_in (λ (f : Driving W). f.pump.origin) view drivings ∙ befores_are

  -- all sessions of the law, with their lists and seats
  are_driven : (ring threshold : ℕ) (lists : List SessionList) (spare main : View) (drove : Drove) (all : Were drove)
      → AreFit z ring threshold 0 (map (λ (d : D). (view d).session) drivings)
      → StagesAreApart (map (λ (d : D). buffer_addresses z (view d).session.pass.stage) drivings)
      → lists ≡ map (λ (a : A). (leave a).mine) accounts → IsSpare spare
      → HasJoined (map (λ (a : A). (leave a).seat) accounts) spare main
      → AreDriven (sends_by put_may flush_may) z shards ring threshold drove.lines (ones drove all) lists main
  are_driven ring threshold lists spare main drove all fit apart lists_is empty joins =
      let mine = each.by_lasts put_may flush_may z shards drove.lines (λ (one : OneDriven W). one.list)
      (λ (l : Leaving W). l.mine) (λ n f l was. refl) 0 firsts lasts all
      ∙ maps_in (λ (l : Leaving W). l.mine) leave accounts in
      let seats = each.by_lasts put_may flush_may z shards drove.lines (λ (one : OneDriven W). one.seat)
      (λ (l : Leaving W). l.seat) (λ n f l was. refl) 0 firsts lasts all
      ∙ maps_in (λ (l : Leaving W). l.seat) leave accounts in
      let stages = each.by_firsts put_may flush_may z shards drove.lines (λ (one : OneDriven W). one.stage)
      (λ (f : Driving W). buffer_addresses z f.session.pass.stage) (λ n f l was. refl) 0 firsts lasts all
      ∙ maps_in (λ (f : Driving W). buffer_addresses z f.session.pass.stage) view drivings in
      record {
        stages_apart = subst StagesAreApart (sym stages) apart;
        all = each.all_driven put_may flush_may z shards drove.lines ring threshold 0 firsts lasts all
            (subst (AreFit z ring threshold 0) (sym (maps_in (λ (f : Driving W). f.session) view drivings)) fit);
        lists_are = lists_is ∙ sym mine;
        spare = spare;
        spare_is = empty;
        seats = subst (λ (views : List View). HasAll (spare ∷ views) main) (sym seats)
            (joins_all (map (λ (a : A). (leave a).seat) accounts) spare main joins);
      }

  -- the credits of all seats
  pub credits : (spare main : View) → Drove → Each HasCredits (map (λ (d : D). (view d).session) drivings)
      → HasJoined (map (λ (a : A). (leave a).seat) accounts) spare main
      → main.credits ≡ spare.credits + session_credits * length drivings
  credits spare main drove own joins =
      let all = each.all_credits put_may flush_may z shards drove.lines 0 firsts lasts (all_were drove)
      (subst (Each HasCredits) (sym (maps_in (λ (f : Driving W). f.session) view drivings)) own) in
      let seats = maps_in (λ (l : Leaving W). l.seat) leave accounts in
      let has = joins_all (map (λ (a : A). (leave a).seat) accounts) spare main joins in
      omega (
        arith,
        has.credits,
        all,
        ap (λ (views : List View). each.credits_in views) seats,
        ap (λ n. session_credits * n) (length-map drivings view),
      )

  -- the wires at the start, with those past them
  wires_are : (past olds : List W) (drove : Drove) (all : Were drove)
      → map (λ (d : D). (view d).wire) drivings ++ map Some past ≡ map Some olds
      → map (λ (one : OneDriven W). one.old) (ones drove all) ++ past ≡ olds
  wires_are past olds drove all is =
      let own : List W = map (λ (one : OneDriven W). one.old) (ones drove all) in
      let firsts_are : map Some own ≡ map (λ (d : D). (view d).wire) drivings =
      maps_in Some (λ (one : OneDriven W). one.old) (ones drove all)
      ∙ each.by_firsts put_may flush_may z shards drove.lines (λ (one : OneDriven W). Some one.old)
      (λ (f : Driving W). f.wire) (λ n f l was. sym was.start_is) 0 firsts lasts all
      ∙ maps_in (λ (f : Driving W). f.wire) view drivings in
      all_there (own ++ past) olds
      (map-append Some own past ∙ ap (λ (l : List (Option W)). l ++ map Some past) firsts_are ∙ is)

  pub drove_inputs : (books : book_sizes.BookSizes) (y : pool_sizes.Sizes) (ring threshold : ℕ)
      (givens : List (List ℕ)) (endeds : List Bool) (ends : List SessionEnd) (lists : List SessionList)
      (journal : List (List Entry)) (closed : End) (spare main : View) (past olds news : List W) → Drove
      → shards ≡ books.shards → z ≡ y → AreFit z ring threshold 0 (map (λ (d : D). (view d).session) drivings)
      → StagesAreApart (map (λ (d : D). buffer_addresses z (view d).session.pass.stage) drivings)
      → lists ≡ map (λ (a : A). (leave a).mine) accounts → IsSpare spare
      → HasJoined (map (λ (a : A). (leave a).seat) accounts) spare main → length lists ≡ books.sessions
      → WasClosed books z lists main journal closed → DrivenTogether (sends_by put_may flush_may)
      → givens ≡ map (λ (a : A). (leave a).pump.given) accounts
      → endeds ≡ map (λ (a : A). (leave a).pump.ended) accounts
      → ends ≡ map (λ (a : A). (leave a).end) accounts
      → map (λ (d : D). (view d).wire) drivings ++ map Some past ≡ map Some olds
      → news ≡ map (λ (a : A). (leave a).wire) accounts ++ past
      → DroveInputs put_may flush_may y ring threshold schedule failed givens endeds ends journal closed olds news old
      new
  drove_inputs books y ring threshold givens endeds ends lists journal closed spare main past olds news drove shards_are
      same fit apart lists_is empty joins many end together givens_are endeds_are ends_is olds_is news_is =
      let all = all_were drove in
      let own : List (OneDriven W) = ones drove all in
      let are = subst (λ (n : ℕ). AreDriven (sends_by put_may flush_may) z n ring threshold drove.lines own lists main)
      shards_are (are_driven ring threshold lists spare main drove all fit apart lists_is empty joins) in
      let has = together books z ring threshold schedule drove.lines own past end.shards lists journal main end.store
      end.last closed drove.answers are (record {
        parts = end.parts;
        book = end.tied;
        as_many = many;
        last_is = end.last_is;
        loose = end.loose;
        looked = end.looked;
        nearby = end.nearby;
        closed_is = end.closed_is;
      }) in
      let a = each.by_lasts put_may flush_may z shards drove.lines (λ (one : OneDriven W). one.given)
      (λ (l : Leaving W). l.pump.given) (λ n f l was. refl) 0 firsts lasts all
      ∙ maps_in (λ (l : Leaving W). l.pump.given) leave accounts ∙ sym givens_are in
      let b = each.by_lasts put_may flush_may z shards drove.lines (λ (one : OneDriven W). one.ended)
      (λ (l : Leaving W). l.pump.ended) (λ n f l was. refl) 0 firsts lasts all
      ∙ maps_in (λ (l : Leaving W). l.pump.ended) leave accounts ∙ sym endeds_are in
      let e = each.by_lasts put_may flush_may z shards drove.lines (λ (one : OneDriven W). one.end)
      (λ (l : Leaving W). l.end) (λ n f l was. refl) 0 firsts lasts all
      ∙ maps_in (λ (l : Leaving W). l.end) leave accounts ∙ sym ends_is in
      let o = wires_are past olds drove all olds_is in
      let n = ap (λ (l : List W). l ++ past) (each.by_lasts put_may flush_may z shards drove.lines
      (λ (one : OneDriven W). one.new) (λ (l : Leaving W). l.wire) (λ n f l was. refl) 0 firsts lasts all
      ∙ maps_in (λ (l : Leaving W). l.wire) leave accounts) ∙ sym news_is in
      let first_olds : List W = map (λ (one : OneDriven W). one.old) own ++ past in
      let first_news : List W = map (λ (one : OneDriven W). one.new) own ++ past in
      let drove_ones : DroveInputs put_may flush_may z ring threshold schedule failed
      (map (λ (one : OneDriven W). one.given) own) (map (λ (one : OneDriven W). one.ended) own)
      (map (λ (one : OneDriven W). one.end) own) journal closed first_olds first_news old new = record {
        ran = has.ran;
        sends = subst (λ (texts : List (Bool × List ℕ)). AllSent put_may flush_may texts first_olds first_news)
            (sym has.texts_are) (each.all_sent put_may flush_may z shards drove.lines past 0 firsts lasts all);
        lines = drove.lines;
        said = drove.said;
        own = has.own;
        shards = has.shards;
        told_by = has.told_by;
        sources = has.sources;
        apart = has.apart;
      } in
      subst (λ (q : pool_sizes.Sizes × List (List ℕ) × List Bool × List SessionEnd × List W × List W).
      DroveInputs put_may flush_may q.0 ring threshold schedule failed q.1 q.2 q.3 journal closed q.4 q.5 old new)
      (λ i. (same i, a i, b i, e i, o i, n i)) drove_ones

-- how many wires there are, with those past the sessions
pub wires_past : {D W : Type 0} (drivings : List D) (wire : D → Option W) (past olds : List W)
    → map wire drivings ++ map Some past ≡ map Some olds → length drivings + length past ≡ length olds
wires_past {D} {W} drivings wire past olds is =
    let all = ap (λ (l : List (Option W)). length l) is in
    omega (
      arith,
      all,
      length-append (map wire drivings) (map Some past),
      length-map drivings wire,
      length-map past Some,
      length-map olds Some,
    )

-- the credits of session slots' sessions
pub credits_of : {K : Type 0} (P : K → Type 0) (own : K → SessionView) → ((k : K) → P k → HasCredits (own k))
    → (slots : List K) → All P slots → Each HasCredits (map own slots)
credits_of P own is [] all = tt
credits_of P own is (k ∷ slots) all =
    (is k (All-head P k slots all), credits_of P own is slots (All-tail P k slots all))
