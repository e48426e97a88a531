-- The transcript of two sessions is whole.
use Rattle.std.proofs.Common.{◌≡◌, ℕ, zero, suc, ◌+◌, ◌*◌, ◌<◌, ◌≤◌, Bool, true, false, cond, List, [], ◌∷◌, map}
use Rattle.std.proofs.Common.{slice_get, Some, refl, ap, sym, ◌∙◌, subst, arith, lit≤}
use Rattle.std.specs.Prelude.{codes, unwrap_or, slice_index}
use Rattle.std.specs.Fmt.{digits}
use Rattle.std.specs.Ordering.{nat_cmp, eq_by_cmp}
use Rattle.std.specs.Cmp.Lexicographic.{slice_cmp, bytes_decides, texts_ties}
use Rattle.std.specs.FinMap as finite
use Rattle.std.specs.FinMap.{gets}
use Rattle.std.proofs.lemmas.Cmp.{nat_list_cmp_total}
use Rattle.std.specs.List.{AllByRecursion, range_with_len, flat_map}
use Rattle.flake_base.specs.declared.session.SessionEnd.{SessionEnd}
use Rattle.flake_model.specs.Store as part
use Rattle.flake_model.specs.Store.{always, done, value}
use Rattle.flake_model.specs.Deed.{Deed, Places, places_at, AreApart, IsLegal}
use Rattle.transcript_model.specs.Lines.{transcript_text}
use Rattle.view_sums.specs.Total.{Each}
use Rattle.flake_base.specs.Told.{WireTold}
use Rattle.any_wire.specs.Sent.{WasSentByPuts}
use Rattle.reply_planner.specs.Stages.{IsAbove, IsRising, StagesAreApart}
use Rattle.transcript_model.specs.Terms.{Terms}
use Rattle.transcript_model.specs.Standing.{at_first}
use Rattle.transcript_model.specs.Worked.{default_sizes}
use Rattle.any_wire.specs.Texts.{WireGrew}
use Rattle.transcript_model.specs.Sessions.{events_of, texts_of, IsRightSession}
use Rattle.transcript_model.specs.Transcript.{deeds_in, transcript_places, AreAllApart, terms_of, AreSent}
use Rattle.transcript_model.specs.Transcript.{IsTranscript}
use Rattle.transcript_model.specs.Whole.{two_sessions, no_bytes_of_two, replies_of_two, schedule_of_two}
use Rattle.transcript_model.specs.Whole.{lines_of_two, stage_from, left_after, entry_of, wire_of}
use Rattle.transcript_model.proofs.Judge.{all_ok, last_of, all_right, ok, after, post_ok, post_after, fits, none_fits}
use Rattle.transcript_model.proofs.Judge.{are_segs, is_seg, all_buffers, is_buffer, is_small, is_large}

-- no key has a place
abbrev pub nothing : Places
nothing = finite.empty

-- the places of one key's one fragment
abbrev one_place : List ℕ → ℕ → Places
one_place key address = finite.insert nothing key (address ∷ [])

lies_at : (key other : List ℕ) (address number found : ℕ) → slice_get (places_at (one_place key address) other) number
    ≡ Some found → (other ≡ key) × (number ≡ 0)
lies_at key other address number found at = by_key (eq_by_cmp (slice_cmp nat_cmp) other key) refl
    (subst (λ places. slice_get (unwrap_or places []) number ≡ Some found)
    (finite.get-insert nat_list_cmp_total nothing key (address ∷ []) other) at)
  where
    first : (n : ℕ) → slice_get (address ∷ []) n ≡ Some found → n ≡ 0
    first zero is = refl
    first (suc n) is = absurd (none n is) where
      none : (m : ℕ) → slice_get [] m ≡ Some found → ⊥
      none m is = cc

    by_key : (same : Bool) → eq_by_cmp (slice_cmp nat_cmp) other key ≡ same
        → slice_get (unwrap_or (cond same (Some (address ∷ [])) (finite.get nothing other)) []) number ≡ Some found
        → (other ≡ key) × (number ≡ 0)
    by_key true is found_at = ((bytes_decides other key).0 (texts_ties other key ∙ is), first number found_at)
    by_key false is found_at =
        absurd (nowhere (subst (λ places. slice_get (unwrap_or places []) number ≡ Some found)
        (finite.get-empty (slice_cmp nat_cmp) other) found_at)) where
          nowhere : slice_get [] number ≡ Some found → ⊥
          nowhere is = cc

none_lies : (key : List ℕ) (number found : ℕ) → slice_get (places_at nothing key) number ≡ Some found → ⊥
none_lies key number found at =
    nowhere (subst (λ places. slice_get (unwrap_or places []) number ≡ Some found)
    (finite.get-empty (slice_cmp nat_cmp) key) at) where
      nowhere : slice_get [] number ≡ Some found → ⊥
      nowhere is = cc

one_apart : (key : List ℕ) (address : ℕ) → AreApart (one_place key address)
one_apart key address some other number number' found at at' =
    let here = lies_at key some address number found at in
    let there = lies_at key other address number' found at' in
    (here.0 ∙ sym there.0, here.1 ∙ sym there.1)

pub not_there : (places : Places) (key : List ℕ) (number found : ℕ) {A : Type 0} → Some nothing ≡ Some places
    → slice_get (places_at places key) number ≡ Some found → A
not_there places key number found is at =
    let same : nothing ≡ places = cc in
    absurd (none_lies key number found (subst (λ map. slice_get (places_at map key) number ≡ Some found) (sym same) at))

legal_of_two : AllByRecursion IsLegal (deeds_in two_sessions lines_of_two)
legal_of_two = (
  tt,
  (
    tt,
    (
      tt,
      (
        tt,
        (
          (
            record {
              answered = refl;
              found_is = refl;
              first_is = refl;
              stored_is = (refl, refl);
              apart = one_apart (codes "a") 1179648;
            },
            (
              record {
                answered = simp gets refl;
                found_is = simp gets refl;
                first_is = refl;
                stored_is = refl;
                apart = one_apart (codes "a") 1179648;
              },
              tt,
            ),
          ),
          (tt, (tt, (tt, tt))),
        ),
      ),
    ),
  ),
)

finals : transcript_places two_sessions lines_of_two ≡ nothing ∷ nothing ∷ nothing ∷ nothing
    ∷ one_place (codes "a") 1179648 ∷ nothing ∷ nothing ∷ nothing ∷ []
finals = refl

-- whatever lies anywhere lies in shard 4, in the first fragment of the key
in_shard_four : (shard : ℕ) (places : Places) (key : List ℕ) (number found : ℕ)
    → slice_get (nothing ∷ nothing ∷ nothing ∷ nothing ∷ one_place (codes "a") 1179648 ∷ nothing ∷ nothing ∷ nothing
    ∷ []) shard ≡ Some places
    → slice_get (places_at places key) number ≡ Some found → (shard ≡ 4) × (key ≡ codes "a") × (number ≡ 0)
in_shard_four zero places key number found is at = not_there places key number found is at
in_shard_four (suc zero) places key number found is at = not_there places key number found is at
in_shard_four (suc (suc zero)) places key number found is at = not_there places key number found is at
in_shard_four (suc (suc (suc zero))) places key number found is at = not_there places key number found is at
in_shard_four (suc (suc (suc (suc zero)))) places key number found is at =
    let same : one_place (codes "a") 1179648 ≡ places = cc in
    let here = lies_at (codes "a") key 1179648 number found
    (subst (λ map. slice_get (places_at map key) number ≡ Some found) (sym same) at) in
    (refl, here.0, here.1)
in_shard_four (suc (suc (suc (suc (suc zero))))) places key number found is at = not_there places key number found is at
in_shard_four (suc (suc (suc (suc (suc (suc zero)))))) places key number found is at =
    not_there places key number found is at
in_shard_four (suc (suc (suc (suc (suc (suc (suc zero))))))) places key number found is at =
    not_there places key number found is at
in_shard_four (suc (suc (suc (suc (suc (suc (suc (suc shard)))))))) places key number found is at =
    absurd (past shard is) where
      past : (n : ℕ) → slice_get [] n ≡ Some places → ⊥
      past n is = cc

all_apart : AreAllApart (transcript_places two_sessions lines_of_two)
all_apart shard shard' places places' is is' key key' number number' found at at' =
    let here = in_shard_four shard places key number found is at in
    let there = in_shard_four shard' places' key' number' found is' at' in
    (here.0 ∙ sym there.0, here.1 ∙ sym there.1, here.2 ∙ sym there.2)

-- a stage from a buffer on
rises : (low first n : ℕ) → low < first → IsAbove low (range_with_len first n)
rises low first zero below = tt
rises low first (suc n) below = (omega arith, rises first (first + 1) n (omega arith))

pub stage_rises : (first n : ℕ) → IsRising (range_with_len first n)
stage_rises first zero = tt
stage_rises first (suc n) = rises first (first + 1) n (omega arith)

pub stage_small : (first n : ℕ) → first + n ≤ 4096
    → Each (λ buffer. buffer < default_sizes.small) (range_with_len first n)
stage_small first zero fits = tt
stage_small first (suc n) fits = (omega arith, stage_small (first + 1) n (omega arith))

-- where its addresses lie
within : (first n k address : ℕ)
    → slice_get (map (λ m. 1048576 + 512 * m) (range_with_len first n)) k ≡ Some address
    → (1048576 + 512 * first ≤ address) × (address < 1048576 + 512 * (first + n))
within first zero k address is = absurd (none k is) where
  none : (m : ℕ) → slice_get [] m ≡ Some address → ⊥
  none m at = cc
within first (suc n) zero address is =
    let same : 1048576 + 512 * first ≡ address = cc in (omega (arith, same), omega (arith, same))
within first (suc n) (suc k) address is =
    let rest = within (first + 1) n k address is in (omega (arith, rest.0), omega (arith, rest.1))

abbrev stages_of_two : List (List ℕ)
stages_of_two = stage_from 0 ∷ stage_from 128 ∷ []

pub apart_of_two : StagesAreApart (stage_from 0 ∷ stage_from 128 ∷ [])
apart_of_two zero zero k l n one other first second here there = refl
apart_of_two zero (suc zero) k l n one other first second here there =
    let below : stage_from 0 ≡ one = cc in
    let above : stage_from 128 ≡ other = cc in
    absurd (omega (
      arith,
      (within 0 128 k n (ap (λ stage. slice_get stage k) below ∙ here)).1,
      (within 128 128 l n (ap (λ stage. slice_get stage l) above ∙ there)).0,
    ))
apart_of_two (suc zero) zero k l n one other first second here there =
    let above : stage_from 128 ≡ one = cc in
    let below : stage_from 0 ≡ other = cc in
    absurd (omega (
      arith,
      (within 128 128 k n (ap (λ stage. slice_get stage k) above ∙ here)).0,
      (within 0 128 l n (ap (λ stage. slice_get stage l) below ∙ there)).1,
    ))
apart_of_two (suc zero) (suc zero) k l n one other first second here there = refl
apart_of_two (suc (suc i)) j k l n one other first second here there = absurd (past i first) where
  past : (m : ℕ) → slice_get [] m ≡ Some one → ⊥
  past m is = cc
apart_of_two zero (suc (suc j)) k l n one other first second here there = absurd (past j second) where
  past : (m : ℕ) → slice_get [] m ≡ Some other → ⊥
  past m is = cc
apart_of_two (suc zero) (suc (suc j)) k l n one other first second here there = absurd (past j second) where
  past : (m : ℕ) → slice_get [] m ≡ Some other → ⊥
  past m is = cc

-- what the replay of the journal gives
abbrev deeds_of_two : List Deed
deeds_of_two =
    record {
      entry = entry_of 0;
      operation = part.set always false (codes "a") (codes "x");
      answer = done;
      found = [];
      first = 0;
      stored = 1179648 ∷ [];
    }
    ∷ record {
      entry = entry_of 1;
      operation = part.get (codes "a");
      answer = value (codes "x");
      found = 1179648 ∷ [];
      first = 0;
      stored = [];
    } ∷ []

replayed_two : flat_map (λ deeds. deeds) (deeds_in two_sessions lines_of_two) ≡ deeds_of_two
replayed_two = simp gets refl

abbrev terms_for : ℕ → Terms
terms_for session = terms_of two_sessions deeds_of_two session (left_after 1) (stage_from (128 * session)) 1

first_passes : all_ok (terms_for 0) at_first (events_of 0 lines_of_two) ≡ true
unfolding digits all_ok ok after post_ok post_after fits none_fits are_segs is_seg all_buffers is_buffer is_small
    is_large
first_passes = refl

second_passes : all_ok (terms_for 1) at_first (events_of 1 lines_of_two) ≡ true
unfolding digits all_ok ok after post_ok post_after fits none_fits are_segs is_seg all_buffers is_buffer is_small
    is_large
second_passes = refl

first_told : IsRightSession (terms_for 0) (events_of 0 lines_of_two)
unfolding last_of after post_after
first_told = record {
  last = _;
  right = all_right (terms_for 0) at_first (events_of 0 lines_of_two) first_passes;
  served = refl;
  ended = refl;
  sent = refl;
}

second_told : IsRightSession (terms_for 1) (events_of 1 lines_of_two)
unfolding last_of after post_after
second_told = record {
  last = _;
  right = all_right (terms_for 1) at_first (events_of 1 lines_of_two) second_passes;
  served = refl;
  ended = refl;
  sent = refl;
}

-- each wire was sent its one reply
first_grew : WireGrew WasSentByPuts false 1 (texts_of (terms_of two_sessions deeds_of_two 0 (left_after 1) [] 1))
    (wire_of [] 0) (wire_of (codes "+OK\r\n") 0)
unfolding digits
first_grew = record {
  middle = wire_of (codes "+OK\r\n") 0;
  before = record { sent = record { put = (_, refl, refl); faults = refl }; spares = λ none. refl };
  behind = record { sent = record { put = (_, refl, refl); faults = refl }; spares = λ none. refl };
}

second_grew : WireGrew WasSentByPuts false 1 (texts_of (terms_of two_sessions deeds_of_two 1 (left_after 1) [] 1))
    (wire_of [] 0) (wire_of (codes "$1\r\nx\r\n") 0)
unfolding digits
second_grew = record {
  middle = wire_of (codes "$1\r\nx\r\n") 0;
  before = record { sent = record { put = (_, refl, refl); faults = refl }; spares = λ none. refl };
  behind = record { sent = record { put = (_, refl, refl); faults = refl }; spares = λ none. refl };
}

sent_of_two : AreSent WasSentByPuts two_sessions (λ session. deeds_of_two) (1 ∷ 1 ∷ []) no_bytes_of_two replies_of_two
sent_of_two zero end old new end_is old_is new_is =
    let same : left_after 1 ≡ end = cc in
    let at_old : wire_of [] 0 ≡ old = cc in
    let at_new : wire_of (codes "+OK\r\n") 0 ≡ new = cc in
    subst (λ (p : SessionEnd × WireTold × WireTold). WireGrew WasSentByPuts p.0.failed 1
    (texts_of (terms_of two_sessions deeds_of_two 0 p.0 [] 1)) p.1 p.2) (λ i. (same i, at_old i, at_new i)) first_grew
sent_of_two (suc zero) end old new end_is old_is new_is =
    let same : left_after 1 ≡ end = cc in
    let at_old : wire_of [] 0 ≡ old = cc in
    let at_new : wire_of (codes "$1\r\nx\r\n") 0 ≡ new = cc in
    subst (λ (p : SessionEnd × WireTold × WireTold). WireGrew WasSentByPuts p.0.failed 1
    (texts_of (terms_of two_sessions deeds_of_two 1 p.0 [] 1)) p.1 p.2) (λ i. (same i, at_old i, at_new i)) second_grew
sent_of_two (suc (suc session)) end old new end_is old_is new_is = absurd (past session end_is) where
  past : (n : ℕ) → slice_get [] n ≡ Some end → ⊥
  past n is = cc

told_of_two : (session : ℕ) (end : SessionEnd) (stage : List ℕ) → slice_get (left_after 1 ∷ left_after 1 ∷ []) session
    ≡ Some end → slice_get stages_of_two session ≡ Some stage
    → IsRightSession (terms_of two_sessions deeds_of_two session end stage (slice_index (1 ∷ 1 ∷ []) session))
    (events_of session lines_of_two)
told_of_two zero end stage end_is stage_is =
    let same : left_after 1 ≡ end = cc in
    let same_stage : stage_from 0 ≡ stage = cc in
    subst (λ e. IsRightSession (terms_of two_sessions deeds_of_two 0 e stage 1) (events_of 0 lines_of_two)) same
    (subst (λ addresses. IsRightSession (terms_of two_sessions deeds_of_two 0 (left_after 1) addresses 1)
    (events_of 0 lines_of_two)) same_stage first_told)
told_of_two (suc zero) end stage end_is stage_is =
    let same : left_after 1 ≡ end = cc in
    let same_stage : stage_from 128 ≡ stage = cc in
    subst (λ e. IsRightSession (terms_of two_sessions deeds_of_two 1 e stage 1) (events_of 1 lines_of_two)) same
    (subst (λ addresses. IsRightSession (terms_of two_sessions deeds_of_two 1 (left_after 1) addresses 1)
    (events_of 1 lines_of_two)) same_stage second_told)
told_of_two (suc (suc session)) end stage end_is stage_is = absurd (past session end_is) where
  past : (n : ℕ) → slice_get [] n ≡ Some end → ⊥
  past n is = cc

pub whole_of_two : IsTranscript two_sessions no_bytes_of_two replies_of_two schedule_of_two lines_of_two
whole_of_two = record {
  told_by = record {
    answers = refl;
    stages = stages_of_two;
    stages_are = (
      record {
        buffers = range_with_len 0 128;
        as_many = refl;
        ascending = stage_rises 0 128;
        small = stage_small 0 128 (lit≤ tt);
        addresses = refl;
      },
      (
        record {
          buffers = range_with_len 128 128;
          as_many = refl;
          ascending = stage_rises 128 128;
          small = stage_small 128 128 (lit≤ tt);
          addresses = refl;
        },
        tt,
      ),
    );
    one_each = refl;
    stages_apart = apart_of_two;
    wholes = 1 ∷ 1 ∷ [];
    told = λ session end stage end_is stage_is. subst
        (λ deeds. IsRightSession (terms_of two_sessions deeds session end stage (slice_index (1 ∷ 1 ∷ []) session))
        (events_of session lines_of_two))
        (sym replayed_two) (told_of_two session end stage end_is stage_is);
    wires = (lit≤ tt, refl);
    sent = subst
        (λ deeds. AreSent WasSentByPuts two_sessions (λ session. deeds) (1 ∷ 1 ∷ []) no_bytes_of_two replies_of_two)
        (sym replayed_two) sent_of_two;
  };
  legal = legal_of_two;
  apart = all_apart;
}

pub text_of_two : transcript_text lines_of_two two_sessions.small_held two_sessions.large_held
    ≡ codes "call 0 0 send 1048576:5 store 1179648:1\ncall 1 0 send 1114112:4 1179648:1 1114116:2\nheld 1 0\n"
unfolding digits
text_of_two = refl
