-- What a run says of a dump that was put on the first wire behind those of the sessions.
use Rattle.std.proofs.Common.{◌≡◌, ℕ, Bool, true, false, if◌then◌else◌, List, [], ◌∷◌, ◌⊎◌, Option, Some, length}
use Rattle.std.proofs.Common.{inl, inr, refl, ap, sym, ◌∙◌, subst, true≢false}
use Rattle.std.specs.Borrow.{Bor}
use Rattle.flake_base.specs.declared.journal.Entry.{Entry}
use Rattle.flake_model.specs.Command.{Command}
use Rattle.order_book.specs.Pages.{SessionList}
use Rattle.dump_model.specs.Dump.{dumped}
use Rattle.dump_model.specs.Seen.{HasSeen, IsDumpOf}
use Rattle.serve_inputs.specs.Jobs.{HasDumped}
use Rattle.session_serve.specs.Ran.{AllSent}
use Rattle.serve_inputs.specs.Dumped.{DumpTold, IsDumpTold, no_dump, dump_texts}

-- what the first session saw is a dump of the journal
abbrev pub MakesDumps : List SessionList → List (List Command) → List (List Entry) → Type 0
MakesDumps lists commands journal = (mine : SessionList) (others : List SessionList) → lists ≡ mine ∷ others
    → (before : ℕ) (points text : List ℕ) → HasSeen (length journal) before mine points text
    → IsDumpOf commands journal 0 before points text

module _ {W : Type 0} (put_may : W → Bor (List ℕ) → (W × Bool) → Type 0) (flush_may : W → (W × Bool) → Type 0) where
  -- the first session took it
  pub record IsTakenByFirst (asked : Option ℕ) (shards : ℕ) (lists : List SessionList) (olds news : List W)
      (dump : DumpTold) : Type 0 where
    pub before : ℕ
    pub asked_is : asked ≡ Some before
    pub mine : SessionList
    pub others : List SessionList
    pub lists_are : lists ≡ mine ∷ others
    pub taken_is : dump.taken ≡ true
    pub old : W
    pub new : W
    pub rest : List W
    pub olds_are : olds ≡ old ∷ rest
    pub news_are : news ≡ new ∷ rest
    pub is : HasDumped put_may flush_may shards before mine old dump.points dump.bytes dump.failed new

  -- or there is none, and the wires behind those of the sessions are as they were
  abbrev pub IsToldOf : Option ℕ → ℕ → List SessionList → List W → List W → DumpTold → Type 0
  IsToldOf asked shards lists olds news dump =
      ((dump ≡ no_dump) × (news ≡ olds)) ⊎ IsTakenByFirst asked shards lists olds news dump

  dump_is : (asked : Option ℕ) (shards : ℕ) (lists : List SessionList) (olds news : List W) (dump : DumpTold)
      (commands : List (List Command)) (journal : List (List Entry)) → length journal ≡ shards
      → MakesDumps lists commands journal → (took : IsTakenByFirst asked shards lists olds news dump)
      → IsDumpOf commands journal 0 took.before dump.points took.is.text
  dump_is asked shards lists olds news dump commands journal long makes took =
      makes took.mine took.others took.lists_are took.before dump.points took.is.text
      (subst (λ (n : ℕ). HasSeen n took.before took.mine dump.points took.is.text) (sym long) took.is.seen)

  pub is_told : (asked : Option ℕ) (shards : ℕ) (lists : List SessionList) (olds news : List W) (dump : DumpTold)
      (commands : List (List Command)) (journal : List (List Entry)) → length journal ≡ shards
      → MakesDumps lists commands journal → IsToldOf asked shards lists olds news dump
      → IsDumpTold asked commands journal dump
  is_told asked shards lists olds news dump commands journal long makes (inl none) = record {
    taken = λ taken. absurd (true≢false (sym taken ∙ ap (λ (d : DumpTold). d.taken) none.0));
    untaken = λ _. none.0;
  }
  is_told asked shards lists olds news dump commands journal long makes (inr took) =
      let own = dump_is asked shards lists olds news dump commands journal long makes took in
      record {
        taken = λ _. (
          took.before,
          took.asked_is,
          record {
            is = subst (λ (text : List ℕ). IsDumpOf commands journal 0 took.before dump.points text) own.text_is own;
            bytes_are = took.is.bytes_are ∙ ap length own.text_is;
          },
        );
        untaken = λ untaken. absurd (true≢false (sym took.taken_is ∙ untaken));
      }

  pub is_sent : (asked : Option ℕ) (shards : ℕ) (lists : List SessionList) (olds news : List W) (dump : DumpTold)
      (commands : List (List Command)) (journal : List (List Entry)) → length journal ≡ shards
      → MakesDumps lists commands journal → IsToldOf asked shards lists olds news dump
      → AllSent put_may flush_may (dump_texts commands journal dump) olds news
  is_sent asked shards lists olds news dump commands journal long makes (inl none) =
      subst (λ (d : DumpTold). AllSent put_may flush_may (dump_texts commands journal d) olds news) (sym none.0) none.1
  is_sent asked shards lists olds news dump commands journal long makes (inr took) =
      let own = dump_is asked shards lists olds news dump commands journal long makes took in
      let text = dumped commands journal dump.points in
      let sent : AllSent put_may flush_may ((dump.failed, took.is.text) ∷ []) (took.old ∷ took.rest)
      (took.new ∷ took.rest) = (took.is.sends, refl) in
      subst (λ (q : Bool × List ℕ × List W × List W). AllSent put_may flush_may
      (if q.0 then (dump.failed, q.1) ∷ [] else []) q.2 q.3)
      (λ i. (sym took.taken_is i, own.text_is i, sym took.olds_are i, sym took.news_are i)) sent
