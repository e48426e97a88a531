-- The last holds go to the stage, until so many are left.
use Rattle.std.proofs.Common.{◌≡◌, ℕ, ◌+◌, ◌<◌, ◌≤◌, min, List, [], ◌∷◌, ◌++◌, length, take, drop, sym, refl, ap, ◌∙◌}
use Rattle.std.proofs.Common.{subst, append_assoc, length-append, arith}
use Rattle.std.proofs.lemmas.List.{length-map, length-drop, take_all, take_at, take_min, drop_min, drop_at, drop_all}
use Rattle.std.proofs.lemmas.List.{drop-map, take-append-drop}
use Rattle.view_sums.specs.Total.{Each}
use Rattle.view_sums.proofs.Eachs.{each-back}
use Rattle.pin_core.specs.Holding.{Key}
use Rattle.frag_value.proofs.Lists.{each-take}
use Rattle.reply_planner.specs.Owned.{key_buffers}
use Rattle.reply_planner.specs.Stages.{inserted, merged}
use Rattle.reply_planner.proofs.Merged.{length-merged}

-- these are the first ones, and the stage has the others
pub record UsedSoFar (all : List Key) (used : ℕ) (stage : List ℕ) (items : List Key) (now : List ℕ) : Type 0 where
  pub first : items ≡ take (length items) all
  pub few : length items ≤ length all
  pub enough : min used (length all) ≤ length items
  pub stage_is : now ≡ merged (drop (length items) (key_buffers all)) stage

pub used_none : (all : List Key) (used : ℕ) (stage : List ℕ) → UsedSoFar all used stage all stage
used_none all used stage = record {
  first = sym (take_all (length all) all (omega arith));
  few = omega arith;
  enough = omega arith;
  stage_is = ap (λ bs. merged bs stage)
      (sym (drop_all (length all) (key_buffers all) (omega (arith, length-map {B = ℕ} all (λ (k : Key). k.buffer)))));
}

module _ (all : List Key) (used : ℕ) (stage : List ℕ) (items rest : List Key) (now : List ℕ) (k : Key)
    (was : UsedSoFar all used stage items now) (last : items ≡ rest ++ k ∷ []) where
  pub count : length items ≡ length rest + 1
  count = ap length last ∙ length-append rest (k ∷ [])

  -- the last of them
  pub last_is : (P : Key → Type 0) → Each P all → P k
  last_is P each = (each-back P rest (k ∷ [])
      (subst (Each P) (sym was.first ∙ last) (each-take P all (length items) each))).0

  pub last_room : length now + length items ≡ length stage + length all
  last_room =
      omega (
        arith,
        ap length was.stage_is,
        length-merged (drop (length items) (key_buffers all)) stage,
        length-drop
            (length items) (key_buffers all),
        length-map {B = ℕ} all (λ (j : Key). j.buffer),
        was.few,
      )

  whole : all ≡ rest ++ k ∷ drop (length items) all
  whole = sym (take-append-drop (length items) all) ∙ ap (λ l. l ++ drop (length items) all) (sym was.first ∙ last)
      ∙ append_assoc rest (k ∷ []) (drop (length items) all)

  next_dropped : drop (length rest) (key_buffers all) ≡ k.buffer ∷ drop (length items) (key_buffers all)
  next_dropped =
      drop-map (λ (j : Key). j.buffer) (length rest) all
      ∙ ap (λ l. key_buffers (drop (length rest) l)) whole
      ∙ ap key_buffers (drop_at rest (k ∷ drop (length items) all) (length rest) refl)
      ∙ ap (λ bs. k.buffer ∷ bs) (sym (drop-map (λ (j : Key). j.buffer) (length items) all))

  pub used_less : (next : List ℕ) → used < length items → next ≡ inserted k.buffer now
      → UsedSoFar all used stage rest next
  used_less next more is = record {
    first = sym (ap (take (length rest)) whole ∙ take_at rest (k ∷ drop (length items) all) (length rest) refl);
    few = omega (arith, count, was.few);
    enough = omega (arith, count, more);
    stage_is = is ∙ ap (inserted k.buffer) was.stage_is ∙ ap (λ bs. merged bs stage) (sym next_dropped);
  }

pub used_all : (all : List Key) (used : ℕ) (stage : List ℕ) (items : List Key) (now : List ℕ) → length items ≤ used
    → UsedSoFar all used stage items now
    → (items ≡ take used all) × (now ≡ merged (drop used (key_buffers all)) stage)
used_all all used stage items now end was =
    let lengths = length-map {B = ℕ} all (λ (j : Key). j.buffer) in
    let count : length items ≡ min used (length all) = omega (arith, was.enough, was.few, end) in
    let count_bs : length items ≡ min used (length (key_buffers all)) = omega (arith, count, lengths) in (
      was.first ∙ ap (λ n. take n all) count ∙ take_min used all,
      was.stage_is
          ∙ ap (λ n. merged (drop n (key_buffers all)) stage) count_bs
          ∙ ap (λ bs. merged bs stage) (drop_min used (key_buffers all)),
    )
