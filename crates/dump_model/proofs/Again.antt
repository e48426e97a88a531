-- A dump, read as an input and served by one session.
use Rattle.std.proofs.Common.{◌≡◌, ℕ, ◌+◌, ◌<◌, ◌≤◌, zero, suc, Bool, true, false, nat_eq, List, [], ◌∷◌, ◌++◌}
use Rattle.std.proofs.Common.{length, map, take, None, Some, arith, refl, ap, sym, ◌∙◌, subst, append-nil}
use Rattle.std.proofs.Common.{lit≤}
use Rattle.std.specs.Prelude.{nat_le, slice_get, slice_index}
use Rattle.std.specs.List.{AllByRecursion, filter}
use Rattle.std.proofs.lemmas.Bool.{eq-eqb, ne_eqb}
use Rattle.std.proofs.lemmas.List.Elements.{filter-append}
use Rattle.std.specs.FinMap as finite
use Rattle.flake_base.specs.declared.journal.Entry.{Entry}
use Rattle.flake_base.specs.declared.session.End.TheVariants.{Clean}
use Rattle.flake_model.specs.Resp.{Element, array, IsElement, stream, requests_of}
use Rattle.flake_model.specs.Resp.{Parses, judged_bytes}
use Rattle.flake_model.specs.Command.{Command, command_of, set}
use Rattle.flake_model.specs.Store as part
use Rattle.flake_model.specs.Store.{Store, Operation, always, after, key_of}
use Rattle.flake_base.specs.Limits.{value_limit}
use Rattle.flake_model.specs.Journal.{shard_of, Step, store_after, session_steps, in_shard, ran_steps}
use Rattle.flake_model.specs.OneThread.{after_all, entries_of}
use Rattle.flake_model.proofs.Streams.{all_append}
use Rattle.flake_model.proofs.OneSession.{Stands, ran_stands, all_filter, steps_are}
use Rattle.dump_model.specs.Dump.{Pair, set_words, set_text, pairs_text, pairs_in, ParsedInput, commands_parsed, folded}
use Rattle.dump_model.specs.Dump.{at_point, pairs_dumped, dumped, IsHome, AreHome, IsServedAgain}
use Rattle.dump_model.proofs.Folded.{IsGoodPair, good_point}
use Rattle.dump_model.proofs.Sorted.{sets, rebuilt, all_pairs}

-- of lengths that a SET may have
pub record IsShort (pair : Pair) : Type 0 where
  pub key : length pair.0 ≤ 512
  pub value : length pair.1 ≤ value_limit

abbrev set_operation : Pair → Operation
set_operation pair = part.set always false pair.0 pair.1

abbrev set_of : Pair → Command
set_of pair = set always false pair.0 pair.1

le-true : (a b : ℕ) → a ≤ b → nat_le a b ≡ true
le-true a b few = grind arith

-- the requests of short pairs are SETs
set_is : (pair : Pair) → IsShort pair → command_of (set_words pair) ≡ set_of pair
set_is pair short = rw (le-true (length pair.0) 512 short.key, le-true (length pair.1) value_limit short.value) refl

sets_of : (pairs : List Pair) → AllByRecursion IsShort pairs → map command_of (map set_words pairs) ≡ map set_of pairs
sets_of [] short = refl
sets_of (pair ∷ pairs) short = λ i. set_is pair short.0 i ∷ sets_of pairs short.1 i

-- the dump is a whole input
elements : List Pair → List Element
elements pairs = map (λ (pair : Pair). array (set_words pair)) pairs

are_elements : (pairs : List Pair) → AllByRecursion IsShort pairs
    → AllByRecursion IsElement (map (λ (pair : Pair). array (set_words pair)) pairs)
are_elements [] short = tt
are_elements (pair ∷ pairs) short = (
  (lit≤ tt, (lit≤ tt, (omega (arith, short.0.key), (omega (arith, short.0.value), tt)))),
  are_elements pairs short.1,
)

text_is : (pairs : List Pair) → pairs_text pairs ≡ stream (map (λ (pair : Pair). array (set_words pair)) pairs)
text_is [] = refl
text_is (pair ∷ pairs) = ap (λ more. set_text pair ++ more) (text_is pairs)

requests_are : (pairs : List Pair)
    → map set_words pairs ≡ requests_of (map (λ (pair : Pair). array (set_words pair)) pairs)
requests_are [] = refl
requests_are (pair ∷ pairs) = ap (λ more. set_words pair ∷ more) (requests_are pairs)

pub whole_input : (pairs : List Pair) → AllByRecursion IsShort pairs → length (pairs_text pairs) ≤ judged_bytes
    → Parses (pairs_text pairs) (map set_words pairs) Clean
whole_input pairs short few = (
  few,
  record {
    elements = map (λ (pair : Pair). array (set_words pair)) pairs;
    allowed = are_elements pairs short;
    bytes_are = text_is pairs;
    requests_are = requests_are pairs;
  },
)

-- what one session's SETs do in a shard
abbrev is_home : ℕ → ℕ → Pair → Bool
is_home shards shard pair = nat_eq (shard_of shards pair.0) shard

steps_of_sets : (shards shard call : ℕ) (pairs : List Pair)
    → map (λ (step : Step). step.1) (in_shard shards shard (session_steps 0 call (map set_of pairs)))
    ≡ map set_operation (filter (is_home shards shard) pairs)
steps_of_sets shards shard call [] = refl
steps_of_sets shards shard call (pair ∷ pairs) =
    by_test (is_home shards shard pair) refl (steps_of_sets shards shard (call + 1) pairs) where
      by_test : (t : Bool) → is_home shards shard pair ≡ t
          → map (λ (step : Step). step.1) (in_shard shards shard (session_steps 0 (call + 1) (map set_of pairs)))
          ≡ map set_operation (filter (is_home shards shard) pairs)
          → map (λ (step : Step). step.1) (in_shard shards shard (session_steps 0 call (map set_of (pair ∷ pairs))))
          ≡ map set_operation (filter (is_home shards shard) (pair ∷ pairs))
      by_test true here rest = rw here (ap (λ operations. set_operation pair ∷ operations) rest)
      by_test false elsewhere rest = rw elsewhere rest

store_after_is : (store : Store) (steps : List Step)
    → store_after store steps ≡ after_all store (map (λ (step : Step). step.1) steps)
store_after_is store [] = refl
store_after_is store (step ∷ steps) = store_after_is (after store step.1) steps

after_sets : (store : Store) (pairs : List Pair) → after_all store (map set_operation pairs) ≡ sets store pairs
after_sets store [] = refl
after_sets store (pair ∷ pairs) = after_sets (finite.insert store pair.0 pair.1) pairs

take_all : {A : Type 0} (xs : List A) → take (length xs) xs ≡ xs
take_all [] = refl
take_all (x ∷ xs) = ap (λ rest. x ∷ rest) (take_all xs)

all_steps : (commands : List Command) → ran_steps 0 commands (length commands) 0 ≡ session_steps 0 0 commands
all_steps commands =
    append-nil (session_steps 0 0 (take (length commands) commands))
    ∙ ap (λ cs. session_steps 0 0 cs) (take_all commands)

stand : (commands : List Command) → AllByRecursion (Stands (commands ∷ [])) (session_steps 0 0 commands)
stand commands =
    subst (λ steps. AllByRecursion (Stands (commands ∷ [])) steps) (all_steps commands)
    (ran_stands commands (length commands) 0)

pub served_sets : (shards shard : ℕ) (pairs : List Pair)
    → folded (map set_of pairs ∷ []) (entries_of (in_shard shards shard (session_steps 0 0 (map set_of pairs))))
    ≡ sets finite.empty (filter (is_home shards shard) pairs)
served_sets shards shard pairs =
    let commands = map set_of pairs in
    let steps = in_shard shards shard (session_steps 0 0 commands) in
    ap (λ (some : List Step). store_after finite.empty some)
    (steps_are (commands ∷ []) steps
    (all_filter (Stands (commands ∷ [])) (λ (step : Step). nat_eq (shard_of shards (key_of step.1)) shard)
    (session_steps 0 0 commands) (stand commands)))
    ∙ store_after_is finite.empty steps
    ∙ ap (λ operations. after_all finite.empty operations) (steps_of_sets shards shard 0 pairs)
    ∙ after_sets finite.empty (filter (is_home shards shard) pairs)

-- the pairs of one shard among those of all
keeps_home : (shards shard : ℕ) (pairs : List Pair) → AllByRecursion (IsGoodPair shards shard) pairs
    → filter (is_home shards shard) pairs ≡ pairs
keeps_home shards shard [] good = refl
keeps_home shards shard (pair ∷ pairs) good =
    rw (eq-eqb (shard_of shards pair.0) shard good.0.home)
    (ap (λ more. pair ∷ more) (keeps_home shards shard pairs good.1))

drops_others : (shards shard other : ℕ) → (other ≡ shard → ⊥) → (pairs : List Pair)
    → AllByRecursion (IsGoodPair shards other) pairs → filter (is_home shards shard) pairs ≡ []
drops_others shards shard other apart [] good = refl
drops_others shards shard other apart (pair ∷ pairs) good =
    rw (ne_eqb (shard_of shards pair.0) shard (λ is. apart (sym good.0.home ∙ is)))
    (drops_others shards shard other apart pairs good.1)

module _ (inputs : List ParsedInput) (shards : ℕ) where
  abbrev AreHomeFrom : ℕ → List (List Entry) → Type 0
  AreHomeFrom first journal =
      (shard : ℕ) (history : List Entry) → slice_get journal shard ≡ Some history
      → AllByRecursion (IsHome (commands_parsed inputs) shards (first + shard)) history

  home_first : (first : ℕ) (history : List Entry) (journal : List (List Entry)) → AreHomeFrom first (history ∷ journal)
      → AllByRecursion (IsHome (commands_parsed inputs) shards first) history
  home_first first history journal homes =
      subst (λ (n : ℕ). AllByRecursion (IsHome (commands_parsed inputs) shards n) history) (omega arith)
      (homes 0 history refl)

  home_rest : (first : ℕ) (history : List Entry) (journal : List (List Entry)) → AreHomeFrom first (history ∷ journal)
      → AreHomeFrom (first + 1) journal
  home_rest first history journal homes shard other is =
      subst (λ (n : ℕ). AllByRecursion (IsHome (commands_parsed inputs) shards n) other) (omega arith)
      (homes (suc shard) other is)

  good_pairs : (shard : ℕ) (history : List Entry) (point : ℕ)
      → AllByRecursion (IsHome (commands_parsed inputs) shards shard) history
      → AllByRecursion (IsGoodPair shards shard) (pairs_in (at_point (commands_parsed inputs) history point))
  good_pairs shard history point homes =
      all_pairs (IsGoodPair shards shard) (at_point (commands_parsed inputs) history point)
      (good_point inputs shards shard history point homes)

  shorts : (shard : ℕ) (pairs : List Pair) → AllByRecursion (IsGoodPair shards shard) pairs
      → AllByRecursion IsShort pairs
  shorts shard [] good = tt
  shorts shard (pair ∷ pairs) good =
      (record { key = good.0.key_short; value = good.0.value_short }, shorts shard pairs good.1)

  all_short : (first : ℕ) (journal : List (List Entry)) (points : List ℕ) → AreHomeFrom first journal
      → AllByRecursion IsShort (pairs_dumped (commands_parsed inputs) journal points)
  all_short first [] points homes = tt
  all_short first (history ∷ journal) [] homes = tt
  all_short first (history ∷ journal) (point ∷ points) homes =
      let here = pairs_in (at_point (commands_parsed inputs) history point) in
      all_append IsShort here (pairs_dumped (commands_parsed inputs) journal points)
      (shorts first here (good_pairs first history point (home_first first history journal homes)))
      (all_short (first + 1) journal points (home_rest first history journal homes))

  -- no pair of a shard stands behind its place
  none_behind : (shard first : ℕ) (journal : List (List Entry)) (points : List ℕ) → AreHomeFrom first journal
      → shard < first
      → filter (is_home shards shard) (pairs_dumped (commands_parsed inputs) journal points) ≡ []
  none_behind shard first [] points homes before = refl
  none_behind shard first (history ∷ journal) [] homes before = refl
  none_behind shard first (history ∷ journal) (point ∷ points) homes before =
      let here = pairs_in (at_point (commands_parsed inputs) history point) in
      filter-append (is_home shards shard) here (pairs_dumped (commands_parsed inputs) journal points)
      ∙ ap (λ some. some ++ filter (is_home shards shard) (pairs_dumped (commands_parsed inputs) journal points))
      (drops_others shards shard first (λ is. omega (arith, is)) here
      (good_pairs first history point (home_first first history journal homes)))
      ∙ none_behind shard (first + 1) journal points (home_rest first history journal homes) (omega arith)

  pairs_of_shard : (shard first : ℕ) (journal : List (List Entry)) (points : List ℕ) (history : List Entry)
      → length points ≡ length journal → AreHomeFrom first journal
      → slice_get journal shard ≡ Some history
      → filter (is_home shards (first + shard)) (pairs_dumped (commands_parsed inputs) journal points)
      ≡ pairs_in (at_point (commands_parsed inputs) history (slice_index points shard))
  pairs_of_shard shard first [] points history as_many homes is = absurd (let no : None ≡ Some history = is in cc)
  pairs_of_shard shard first (old ∷ journal) [] history as_many homes is = absurd (omega (arith, as_many))
  pairs_of_shard zero first (old ∷ journal) (point ∷ points) history as_many homes is =
      let same : Some old ≡ Some history = is in
      let old_is : old ≡ history = cc in
      let here = pairs_in (at_point (commands_parsed inputs) old point) in
      let rest = pairs_dumped (commands_parsed inputs) journal points in
      let zero_more : first + 0 ≡ first = omega arith in
      ap (λ (n : ℕ). filter (is_home shards n) (here ++ rest)) zero_more
      ∙ filter-append (is_home shards first) here rest
      ∙ ap (λ some. some ++ filter (is_home shards first) rest)
      (keeps_home shards first here (good_pairs first old point (home_first first old journal homes)))
      ∙ ap (λ some. here ++ some)
      (none_behind first (first + 1) journal points (home_rest first old journal homes) (omega arith))
      ∙ append-nil here
      ∙ ap (λ (entries : List Entry). pairs_in (at_point (commands_parsed inputs) entries point)) old_is
  pairs_of_shard (suc shard) first (old ∷ journal) (point ∷ points) history as_many homes is =
      let here = pairs_in (at_point (commands_parsed inputs) old point) in
      let rest = pairs_dumped (commands_parsed inputs) journal points in
      let next : first + suc shard ≡ first + 1 + shard = omega arith in
      filter-append (is_home shards (first + suc shard)) here rest
      ∙ ap (λ some. some ++ filter (is_home shards (first + suc shard)) rest)
      (drops_others shards (first + suc shard) first (λ same. omega (arith, same)) here
      (good_pairs first old point (home_first first old journal homes)))
      ∙ ap (λ (n : ℕ). filter (is_home shards n) rest) next
      ∙ pairs_of_shard shard (first + 1) journal points history (omega (arith, as_many))
      (home_rest first old journal homes) is

pub served_again : (inputs : List ParsedInput) (journal : List (List Entry)) (points : List ℕ)
    → length points ≡ length journal → AreHome (commands_parsed inputs) journal
    → length (dumped (commands_parsed inputs) journal points) ≤ judged_bytes
    → IsServedAgain (commands_parsed inputs) journal points
served_again inputs journal points as_many homes few =
    let pairs = pairs_dumped (commands_parsed inputs) journal points in
    let from_first : AreHomeFrom inputs (length journal) 0 journal =
    λ shard history is. subst (λ (n : ℕ). AllByRecursion (IsHome (commands_parsed inputs) (length journal) n) history)
    (omega arith) (homes shard history is) in
    let short : AllByRecursion IsShort pairs = all_short inputs (length journal) 0 journal points from_first in
    let commands : map command_of (map set_words pairs) ≡ map set_of pairs = sets_of pairs short in
    record {
      requests = map set_words pairs;
      parses = whole_input pairs short few;
      same = λ again as_long sharded shard old new is found.
          let history : new ≡ entries_of (in_shard (length journal) shard (session_steps 0 0 (map set_of pairs))) =
          sharded shard new found
          ∙ ap
          (λ (n : ℕ). entries_of (in_shard n shard (session_steps 0 0 (map command_of (map set_words pairs)))))
          as_long
          ∙ ap (λ (cs : List Command). entries_of (in_shard (length journal) shard (session_steps 0 0 cs))) commands in
          (λ i. folded (commands i ∷ []) (history i))
          ∙ served_sets (length journal) shard pairs
          ∙ ap (λ (some : List Pair). sets finite.empty some)
          (ap (λ (n : ℕ). filter (is_home (length journal) n) pairs) (omega arith)
          ∙ pairs_of_shard inputs (length journal) shard 0 journal points old as_many from_first is)
          ∙ rebuilt (at_point (commands_parsed inputs) old (slice_index points shard));
    }
