-- One session that ran by itself was served: nothing is missing, and the store of one thread is its history.
use Rattle.std.proofs.Common.{◌≡◌, ℕ, ◌<◌, inl, inr, zero, suc, List, [], ◌∷◌, Option, Some, is_none, length, take}
use Rattle.std.proofs.Common.{refl, ap, sym, ◌∙◌, subst, append-nil}
use Rattle.std.specs.List.{AllByRecursion, count_by, flat_map}
use Rattle.std.specs.FinMap as finite
use Rattle.flake_base.specs.Growth.{Grew}
use Rattle.flake_base.specs.declared.journal.Entry.{Entry}
use Rattle.flake_model.specs.Store.{Store, Answer, answer, after}
use Rattle.flake_model.specs.Command.{Command}
use Rattle.flake_model.specs.Reply.{reply_text}
use Rattle.flake_model.specs.Journal.{Step, IsServed, none, of_session, in_shard, HasInOrder, answers_from, answers_of}
use Rattle.flake_model.specs.Journal.{answer_at, call_steps, session_steps, next_parts, ran_steps}
use Rattle.flake_model.specs.Order.{EntriesRise}
use Rattle.flake_model.specs.OneThread.{replies_on, entries_of, IsSharded}
use Rattle.flake_model.specs.OneHistory.{HasOneHistory}
use Rattle.flake_model.specs.Session.{Session, IsSession}
use Rattle.flake_model.specs.Run.{ran_by, wire_texts, WasServed, missing_writes}
use Rattle.flake_model.specs.Wire.{WiresGrew}
use Rattle.flake_model.proofs.OneSession.{IsOwn, ran_own, ran_stands, all_filter, each_once}
use Rattle.flake_model.proofs.OneOrder.{Among, ran_rising, many_shards_one_order}
use Rattle.flake_model.proofs.ManyShards.{journal_answers, AreFound, found_front, all_own, none_of_others}
use Rattle.flake_model.proofs.ManyShards.{many_shards_wire}

pub all_among : {A : Type 0} (P : A → Type 0) (xs : List A) → ((x : A) → Among xs x → P x) → AllByRecursion P xs
all_among P [] each = tt
all_among P (x ∷ xs) each = (each x (inl refl), all_among P xs (λ y among. each y (inr among)))

module _ (commands : List Command) (served begun : ℕ) (journal : List (List Entry)) (some : 0 < length journal)
    (sharded : IsSharded (ran_steps 0 commands served begun) journal) where
  abbrev ran : List Step
  ran = ran_steps 0 commands served begun

  -- the journal answers at each entry as the one store
  are_found : AreFound (answers_of (commands ∷ []) journal) (answers_from finite.empty ran)
  are_found = journal_answers (commands ∷ []) ran journal some sharded (ran_stands commands served begun)
      (ran_rising commands served begun)

  own_rising : (session : ℕ) → EntriesRise (of_session session (entries_of ran))
  own_rising zero = subst EntriesRise (sym (all_own ran (ran_own commands served begun)))
      (ran_rising commands served begun)
  own_rising (suc other) = subst EntriesRise (sym (none_of_others other ran (ran_own commands served begun))) tt

  pub one_history : HasOneHistory (commands ∷ []) journal
  one_history = record {
    steps = ran;
    stand = ran_stands commands served begun;
    sharded = sharded;
    in_order = own_rising;
    answers = all_among _ (answers_from finite.empty ran) are_found;
  }

none_missing : (answers : List (Entry × Answer)) (store : Store) (steps : List Step)
    → AreFound answers (answers_from store steps)
    → count_by (λ (step : Step). is_none (answer_at step.0 answers)) steps ≡ 0
none_missing answers store [] are = refl
none_missing answers store (step ∷ steps) are =
    let here : answer_at step.0 answers ≡ Some (answer store step.1) = are (step.0, answer store step.1) (inl refl) in
    rw here (none_missing answers (after store step.1) steps (λ found among. are found (inr among)))

pub nothing_missing : (session : Session) (journal : List (List Entry)) → 0 < length journal
    → IsSharded (ran_by (session ∷ []) 0) journal → missing_writes (session ∷ []) journal ≡ 0
nothing_missing session journal some sharded =
    let commands = session.commands in
    let served = session_steps 0 0 (take session.end.replies commands) in
    let behind = call_steps 0 session.end.replies 0 (take session.begun (next_parts session.end.replies commands)) in
    let answers = answers_of (commands ∷ []) journal in
    ap (count_by (λ (step : Step). is_none (answer_at step.0 answers))) (append-nil served)
    ∙ none_missing answers finite.empty served
    (found_front answers finite.empty served behind
    (are_found commands session.end.replies session.begun journal some sharded))

-- each shard has the parts of the session that belong there, in order
pub in_order : (session : Session) (journal : List (List Entry)) → 0 < length journal
    → IsSharded (ran_by (session ∷ []) 0) journal → HasInOrder (ran_by (session ∷ [])) journal
in_order session journal some sharded zero shard history is =
    let here = in_shard (length journal) shard (ran_by (session ∷ []) 0) in
    let own = all_filter IsOwn _ (ran_by (session ∷ []) 0) (ran_own session.commands session.end.replies session.begun)
    in
    subst (λ entries. IsServed here (of_session 0 entries)) (sym (sharded shard history is))
    (subst (λ entries. IsServed here entries) (sym (all_own here own)) (each_once here))
in_order session journal some sharded (suc other) shard history is =
    let here = in_shard (length journal) shard (ran_by (session ∷ []) 0) in
    let own = all_filter IsOwn _ (ran_by (session ∷ []) 0) (ran_own session.commands session.end.replies session.begun)
    in
    subst (λ entries. IsServed [] (of_session (suc other) entries)) (sym (sharded shard history is))
    (subst (λ entries. IsServed [] entries) (sym (none_of_others other here own)) none)

-- its replies, by a store of one thread
abbrev pub own_text : Session → List ℕ
own_text session = flat_map reply_text (replies_on finite.empty (take session.end.replies session.commands))

pub one_served : (session : Session) (journal : List (List Entry)) (old new : List ℕ) (olds : List (List ℕ))
    → IsSession session → 0 < length journal → IsSharded (ran_by (session ∷ []) 0) journal
    → Grew session.end.failed (own_text session) old new
    → (served : WasServed (session.given ∷ []) (session.ended ∷ []) (session.end ∷ []) journal)
    × (served.sessions ≡ session ∷ []) × WiresGrew (wire_texts served.sessions journal) (old ∷ olds) (new ∷ olds)
    × (missing_writes served.sessions journal ≡ 0)
one_served session journal old new olds is some sharded grew = (
  record {
    sessions = session ∷ [];
    given_is = refl;
    ended_is = refl;
    ends_are = refl;
    each_is = (is, tt);
    orderly = in_order session journal some sharded;
    one_order = many_shards_one_order session.commands session.end.replies session.begun journal some sharded;
    one_history = one_history session.commands session.end.replies session.begun journal some sharded;
  },
  refl,
  (
    subst (λ text. Grew session.end.failed text old new)
        (sym (many_shards_wire session.commands session.end.replies session.begun journal some sharded)) grew,
    refl,
  ),
  nothing_missing session journal some sharded,
)
