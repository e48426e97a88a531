-- A session from its first call to its end.
use Rattle.std.proofs.Common.{◌≡◌, ℕ, ◌+◌, ◌≤◌, inl, List, [], ◌∷◌, ◌++◌, Option, Some, length, map, take, slice_get}
use Rattle.std.proofs.Common.{refl, ap, sym, ◌∙◌, subst, append-nil, arith}
use Rattle.std.specs.List.{zip, flat_map}
use Rattle.std.specs.Option.{option_to_list}
use Rattle.std.proofs.lemmas.List.{length-append, map-append}
use Rattle.std.proofs.Math.Seq.{take-length}
use Rattle.view_sums.specs.Total.{total}
use Rattle.view_sums.proofs.Sums.{total-append}
use Rattle.flake_base.specs.declared.session.End.{End}
use Rattle.flake_base.specs.declared.session.End.TheVariants.{Clean, Protocol, Truncated, TooLong, ReadFault, Memory}
use Rattle.flake_base.specs.declared.session.End.TheVariants.{Left}
use Rattle.pin_core.specs.declared.class.Class.{Class}
use Rattle.pin_core.specs.declared.sizes.Sizes.{Sizes}
use Rattle.pinned_pool.specs.Classes.{buffers_in}
use Rattle.pinned_pool.specs.Sought.{Sought}
use Rattle.pinned_pool.specs.Views.{nobody, looked_at}
use Rattle.pinned_pool.specs.declared.view.View.{View}
use Rattle.pinned_pool.proofs.SoughtLaws.{sought_nothing}
use Rattle.flake_model.specs.Store.{Operation}
use Rattle.flake_model.specs.Command.{Command, parts}
use Rattle.flake_model.specs.Reply.{Reply, reply_of, reply_text}
use Rattle.flake_model.specs.Journal.{next_parts}
use Rattle.flake_model.specs.Session.{IsBegun}
use Rattle.shard_core.specs.CallDemand.{parts_row, call_pins}
use Rattle.shard_core.specs.Needed.{may_need, parts_needing, SoughtFor}
use Rattle.shard_core.specs.Outcomes.{Outcomes, SessionDeeds, AreOutcomes, call_told, answers_told, missed_in}
use Rattle.shard_core.proofs.Needed.{for_then, for_within, for_moved, for_nothing}
use Rattle.serve_model.specs.Demand.{stage_row, commands_row, session_row}
use Rattle.serve_model.specs.Misses.{calls_needing, WholeMisses, SoughtByRun}
use Rattle.serve_model.specs.Runs.{Run, calls_told, replies_told, parts_told, missed_by, calls_pins}
use Rattle.serve_model.specs.Steps.{GoingStarts, GoingRests, GoingOn, GoingEnds, GoingBreaks, WithStage, SessionRan}
use Rattle.serve_model.proofs.Steps.{calls_add, first_calls}

pub going_starts : GoingStarts
going_starts z threshold shards session opened = record {
  as_many = refl;
  are = tt;
  told_is = refl;
  texts_are = refl;
  sought = for_nothing z _ _ opened opened refl refl;
  pinned = omega arith;
}

pub going_rests : GoingRests
going_rests z threshold shards session given calls texts pins told opened seat after claims looks going = record {
  as_many = going.as_many;
  are = going.are;
  told_is = going.told_is;
  texts_are = going.texts_are;
  sought = for_moved z _ _ _ opened seat opened after going.sought refl refl claims looks;
  pinned = going.pinned;
}

replies_more : (given : List Command) (calls : List Outcomes) (command : Command) (outcomes : Outcomes)
    → length calls ≡ length given → replies_told (given ++ command ∷ []) (calls ++ outcomes ∷ [])
    ≡ replies_told given calls ++ reply_of command (answers_told outcomes) ∷ []
replies_more [] [] command outcomes long = refl
replies_more [] (o ∷ calls) command outcomes long = absurd (let no : ⊥ = omega arith in no)
replies_more (c ∷ given) [] command outcomes long = absurd (let no : ⊥ = omega arith in no)
replies_more (c ∷ given) (o ∷ calls) command outcomes long =
    ap (λ (replies : List Reply). reply_of c (answers_told o) ∷ replies)
    (replies_more given calls command outcomes (omega arith))

pins_more : (threshold : ℕ) (given : List Command) (calls : List Outcomes) (command : Command) (outcomes : Outcomes)
    → length calls ≡ length given
    → calls_pins threshold (given ++ command ∷ []) (calls ++ outcomes ∷ [])
    ≡ calls_pins threshold given calls + call_pins threshold (parts command) outcomes
pins_more threshold [] [] command outcomes long = omega arith
pins_more threshold [] (o ∷ calls) command outcomes long = absurd (let no : ⊥ = omega arith in no)
pins_more threshold (c ∷ given) [] command outcomes long = absurd (let no : ⊥ = omega arith in no)
pins_more threshold (c ∷ given) (o ∷ calls) command outcomes long =
    omega (arith, pins_more threshold given calls command outcomes (omega arith))

needing_calls : (class : Class) (given : List Command) (calls : List Outcomes) (command : Command)
    (outcomes : Outcomes) → length calls ≡ length given
    → calls_needing class (given ++ command ∷ []) (calls ++ outcomes ∷ [])
    ≡ calls_needing class given calls + parts_needing class (parts command) outcomes
needing_calls class [] [] command outcomes long =
    omega (arith, total-append (λ p. may_need class p.0 p.1) (zip (parts command) (answers_told outcomes)) [])
needing_calls class [] (o ∷ calls) command outcomes long = absurd (let no : ⊥ = omega arith in no)
needing_calls class (c ∷ given) [] command outcomes long = absurd (let no : ⊥ = omega arith in no)
needing_calls class (c ∷ given) (o ∷ calls) command outcomes long =
    let here = zip (parts c) (answers_told o) in
    omega (
      arith,
      total-append (λ p. may_need class p.0 p.1) here (parts_told (given ++ command ∷ []) (calls ++ outcomes ∷ [])),
      total-append (λ p. may_need class p.0 p.1) here (parts_told given calls),
      needing_calls class given calls command outcomes (omega arith),
    )

whole_row : (class : Class) (operations : List Operation) (outcomes : Outcomes) → length outcomes ≡ length operations
    → parts_row class (take (length outcomes) operations) ≡ parts_row class operations
whole_row class operations outcomes whole =
    ap (parts_row class) (ap (λ n. take n operations) whole ∙ take-length operations)

missed_calls : (calls : List Outcomes) (outcomes : Outcomes)
    → missed_by (calls ++ outcomes ∷ []) ≡ missed_by calls + missed_in outcomes
missed_calls calls outcomes = omega (arith, total-append missed_in calls (outcomes ∷ []))

pub going_on : GoingOn
going_on z threshold shards session given calls texts text pins more command outcomes old new opened seat after going
    done =
    let one = calls_add shards session given calls command outcomes going.as_many in
    let here = call_told shards session (length given) 0 (parts command) outcomes in
    let reply = reply_of command (answers_told outcomes) in
    record {
      as_many = omega (arith, going.as_many, length-append calls (outcomes ∷ []), length-append given (command ∷ []));
      are = one.are going.are done.running.are done.whole;
      told_is = done.running.told ∙ ap (λ (told : SessionDeeds). told ++ here) going.told_is ∙ sym one.told;
      texts_are = (λ i. going.texts_are i ++ done.text_is i ∷ [])
          ∙ sym (map-append reply_text (replies_told given calls) (reply ∷ []))
          ∙ ap (map reply_text) (sym (replies_more given calls command outcomes going.as_many));
      sought = for_within z _ _ _ _ _ _ opened after
          (for_then z _ _ _ _ _ _ opened seat after going.sought done.running.sought)
          (λ class. omega (
            arith,
            whole_row class (parts command) outcomes done.whole,
            total-append (λ (c : Command). parts_row class (parts c)) given (command ∷ []),
          ))
          (λ class. omega (arith, needing_calls class given calls command outcomes going.as_many))
          (sym (missed_calls calls outcomes));
      pinned = omega (arith, going.pinned, done.pinned, pins_more threshold given calls command outcomes going.as_many);
    }

begun_none : (end : End) (parts : ℕ) → IsBegun end 0 parts
begun_none Clean parts = refl
begun_none (Protocol kind place) parts = refl
begun_none (Truncated place) parts = refl
begun_none TooLong parts = refl
begun_none ReadFault parts = refl
begun_none Memory parts = inl refl
begun_none Left parts = refl

rows_front : (class : Class) (given rest : List Command)
    → commands_row class given ≤ commands_row class (given ++ rest)
rows_front class given rest = omega (arith, total-append (λ (c : Command). parts_row class (parts c)) given rest)

-- where nothing was missed
pub no_misses : {needing : Class → ℕ} → WholeMisses 0 (λ class. 0) needing
no_misses = record {
  missed = λ class. 0;
  missed_are = refl;
  within = λ class. omega arith;
  needed = λ class. omega arith;
}

-- so many more rows, and the misses of a call that was cut short behind the whole ones
with_behind : (z : Sizes) (rows more all : Class → ℕ) (run : Run) (u v w : View)
    → SoughtFor z rows (λ (class : Class). calls_needing class run.commands run.calls) (missed_by run.calls) u v
    → Sought z more (missed_in run.behind) v w → ((class : Class) → rows class + more class ≤ all class)
    → SoughtByRun z all run u w
with_behind z rows more all run u v w whole behind within = record {
  sought = record {
    missed = λ class. whole.sought.missed class + behind.missed class;
    missed_are = omega (arith, whole.sought.missed_are, behind.missed_are);
    claims = λ class. omega (arith, whole.sought.claims class, behind.claims class, within class);
    looks = λ b near. omega (arith, whole.sought.looks b near, behind.looks b near);
  };
  whole = record {
    missed = whole.sought.missed;
    missed_are = whole.sought.missed_are;
    within = λ class. omega arith;
    needed = whole.few;
  };
}

-- what a run sought, after a stage or after nothing, and up to a seat whose claims and looks stayed
pub run_moved : (z : Sizes) (first rows all : Class → ℕ) (run : Run) (u v w last : View) → Sought z first 0 u v
    → SoughtByRun z rows run v w → ((class : Class) → first class + rows class ≤ all class) → last.claims ≡ w.claims
    → last.looks ≡ w.looks → SoughtByRun z all run u last
run_moved z first rows all run u v w last stage calls within claims looks = record {
  sought = record {
    missed = λ class. stage.missed class + calls.sought.missed class;
    missed_are = omega (arith, stage.missed_are, calls.sought.missed_are);
    claims = λ class. omega
        (arith, stage.claims class, calls.sought.claims class, within class, ap (buffers_in z class) claims);
    looks = λ b near. omega
        (arith, stage.looks b near, calls.sought.looks b near, ap (looked_at b) looks);
  };
  whole = record {
    missed = calls.whole.missed;
    missed_are = calls.whole.missed_are;
    within = λ class. omega (arith, calls.whole.within class);
    needed = calls.whole.needed;
  };
}

pub going_ends : GoingEnds
going_ends z threshold shards session given rest calls texts pins told opened seat looks end going replies =
    let all = first_calls shards session given rest calls going.as_many in
    record {
      is_run = record {
        replies_are = replies ∙ sym going.as_many;
        calls_are = all.are going.are;
        behind_are = tt;
        begun_is = begun_none end.end _;
      };
      told_is = going.told_is ∙ sym all.told ∙ sym (append-nil (calls_told shards session 0 (given ++ rest) calls));
      texts_are = going.texts_are ∙ ap (map reply_text) (sym all.replies);
      sought = with_behind z (λ (class : Class). commands_row class given) (λ class. 0) _ _ opened seat seat
          (for_within z _ _ _ _ _ _ opened seat going.sought (λ class. omega arith)
          (λ class. omega (arith, ap (total (λ p. may_need class p.0 p.1)) all.parts)) refl)
          (sought_nothing z seat seat refl refl)
          (λ class. omega (arith, rows_front class given rest));
      pinned = omega (arith, going.pinned, all.pins threshold);
    }

-- the call behind the given ones
next_is : (given : List Command) (command : Command) (rest : List Command)
    → slice_get (given ++ command ∷ rest) (length given) ≡ Some command
next_is [] command rest = refl
next_is (c ∷ given) command rest = next_is given command rest

next_parts_are : (given : List Command) (calls : List Outcomes) (command : Command) (rest : List Command)
    → length calls ≡ length given → next_parts (length calls) (given ++ command ∷ rest) ≡ parts command
next_parts_are given calls command rest long =
    ap (λ n. next_parts n (given ++ command ∷ rest)) long
    ∙ ap (λ (found : Option Command). flat_map parts (option_to_list found)) (next_is given command rest)
    ∙ append-nil (parts command)

pub going_breaks : GoingBreaks
going_breaks z threshold shards session given rest calls texts pins command outcomes old new opened seat after looks
    end going short replies memory =
    let all = first_calls shards session given (command ∷ rest) calls going.as_many in
    let next = next_parts_are given calls command rest going.as_many in
    record {
      is_run = record {
        replies_are = replies ∙ sym going.as_many;
        calls_are = all.are going.are;
        behind_are = subst (λ operations. AreOutcomes operations outcomes) (sym next) short.are;
        begun_is = subst (λ (y : End × List Operation). IsBegun y.0 (length outcomes) (length y.1))
            (λ i. (sym memory i, sym next i)) short.short;
      };
      told_is = short.told ∙ (λ i. (going.told_is ∙ sym all.told) i
          ++ call_told shards session (sym going.as_many i) 0 (sym next i) outcomes);
      texts_are = going.texts_are ∙ ap (map reply_text) (sym all.replies);
      sought = with_behind z (λ (class : Class). commands_row class given) _ _ _ opened seat after
          (for_within z _ _ _ _ _ _ opened seat going.sought (λ class. omega arith)
          (λ class. omega (arith, ap (total (λ p. may_need class p.0 p.1)) all.parts)) refl)
          short.sought
          (λ class. omega (arith, total-append (λ (c : Command). parts_row class (parts c)) given (command ∷ rest)));
      pinned = omega (arith, going.pinned, all.pins threshold);
    }

pub with_stage : WithStage
with_stage z run opened seat stage calls =
    run_moved z _ _ _ run nobody opened seat seat stage calls (λ class. omega arith) refl refl

pub session_ran : SessionRan
session_ran z threshold shards session given ended run texts pins told opened seat last stage is finished is_session =
    let sought = run_moved z stage_row (λ (class : Class). commands_row class run.commands)
    (λ (class : Class). session_row class run.commands) run nobody opened seat last stage is.sought
    (λ class. omega arith) finished.claims finished.looks in
    record {
      run = run;
      is_run = is.is_run;
      is_session = is_session;
      end_is = refl;
      list_is = λ i. record { number = session; told = is.told_is i; looks = run.looks };
      seat_is = record {
        holds = finished.holds;
        sought = sought;
        returned = omega (arith, is.pinned, finished.returns);
      };
      texts_are = is.texts_are;
    }
