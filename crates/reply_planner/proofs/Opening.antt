-- What the claims of a stage leave.
use Rattle.std.proofs.Common.{◌≡◌, ℕ, ◌+◌, ◌<◌, List, [], ◌∷◌, ◌++◌, length, sym, refl, ap, ◌∙◌, subst, zero-le, Result}
use Rattle.std.proofs.Common.{Err, arith}
use Rattle.std.proofs.lemmas.List.{length-map}
use Rattle.view_sums.specs.Total.{total, same, Each}
use Rattle.view_sums.proofs.Sums.{total-map}
use Rattle.view_sums.proofs.Eachs.{each-map}
use Rattle.pin_core.specs.Holding.{Holding, Key, at, loose_at, fresh}
use Rattle.pin_core.specs.declared.sizes.Sizes.{Sizes}
use Rattle.pin_core.specs.declared.class.Class.TheVariants.{Small}
use Rattle.pinned_pool.specs.Views.{among}
use Rattle.pinned_pool.specs.Classes.{just}
use Rattle.pinned_pool.specs.Sought.{Sought}
use Rattle.pinned_pool.specs.Claimed.{with_claimed, Claims, IsIn, ClaimsMore}
use Rattle.pinned_pool.specs.Moves.{loose_key}
use Rattle.pinned_pool.specs.Named.{IsSeat}
use Rattle.pinned_pool.specs.declared.view.View.{View}
use Rattle.pinned_pool.proofs.InClasses.{in_range}
use Rattle.pinned_pool.proofs.SoughtLaws.{sought_nothing, sought_within}
use Rattle.reply_planner.specs.declared.error.OpenError.{OpenError}
use Rattle.reply_planner.specs.Owned.{own_at, IsStaging, keys_for, key_buffers}
use Rattle.reply_planner.specs.Stages.{stage_size, IsRising, merged, no_memory, stage_found_none, IsStageOpened}
use Rattle.reply_planner.proofs.Owned.{small_staged}
use Rattle.reply_planner.proofs.Merged.{total-merged, length-merged, each-merged, rising-merged}

-- what was claimed adds up, in any order
pub total-claimed : (weight : Holding → ℕ) (ks : List Key) (hs : List Holding) → total weight (with_claimed ks hs)
    ≡ total (λ (k : Key). weight (fresh k.buffer)) ks + total weight hs
total-claimed weight [] hs = omega arith
total-claimed weight (k ∷ ks) hs = omega (arith, total-claimed weight ks (fresh k.buffer ∷ hs))

both : (z : Sizes) (ks : List Key) → Each (IsIn z Small) ks → Each (λ (k : Key). k ≡ loose_key k.buffer) ks
    → Each (IsStaging z) ks
both z [] all loose = tt
both z (k ∷ ks) all loose = let range = in_range z Small k.buffer all.0.0 all.0.1 in
    ((omega (arith, range.1), loose.0), both z ks all.1 loose.1)

-- claims from an empty list on
module _ (z : Sizes) (count : ℕ) (had items : List Key) (old now : View) (none : had ≡ [])
    (more : ClaimsMore z Small count had items old now) where
  all_more : more.more ≡ items
  all_more = sym (more.list ∙ ap (λ ks. ks ++ more.more) none)

  all_claims : Claims items old now
  all_claims = subst (λ ks. Claims ks old now) all_more more.claims

  pub all_staging : Each (IsStaging z) items
  all_staging = both z items (subst (Each (IsIn z Small)) all_more more.class_is) all_claims.loose

  sums : (weight : Holding → ℕ) → total weight now.holds ≡ total (λ b. weight (fresh b)) (key_buffers items)
      + total weight old.holds
  sums weight =
      omega (
        arith,
        ap (total weight) all_claims.holds,
        total-claimed weight items old.holds,
        total-map
            (λ b. weight (fresh b)) (λ (k : Key). k.buffer) items,
      )

  -- all of them, each in its place
  pub opened : (stage : List ℕ) → length items ≡ stage_size → IsSeat z now → stage ≡ merged (key_buffers items) []
      → IsStageOpened z stage old now
  opened stage all seat is =
      let bs = key_buffers items in
      let among_stage : (b : ℕ) → among b stage ≡ among b bs =
      λ b. omega (arith, ap (among b) is, total-merged (λ c. same c b) bs []) in
      record {
        count = omega (arith, ap length is, length-merged bs [], length-map items (λ (k : Key). k.buffer), all);
        rising = subst IsRising (sym is) (rising-merged bs (λ b. omega (arith, sums (loose_at b), seat.loose b)));
        small = subst (Each (λ b. b < z.small)) (sym is)
            (each-merged (λ b. b < z.small) bs [] (small_staged z items all_staging) tt);
        own = λ b. omega (arith, among_stage b, sums (own_at b));
        holds = λ weight.
            omega (
              arith,
              sums weight,
              total-claimed weight (keys_for stage) old.holds,
              total-map (λ (k : Key). weight (fresh k.buffer)) loose_key stage,
              ap (total (λ b. weight (fresh b))) is,
              total-merged (λ b. weight (fresh b)) bs [],
            );
        apart = subst (Each (λ b. total (at b) old.holds ≡ 0)) (sym is)
            (each-merged (λ b. total (at b) old.holds ≡ 0) bs []
            (each-map (λ b. total (at b) old.holds ≡ 0) (λ (k : Key). k.buffer) items all_claims.apart) tt);
        keeps = all_claims.keeps;
        lasts = all_claims.lasts;
      }

-- without memory nothing is sought
pub not_sought : {A : Type 0} (z : Sizes) (result : Result A OpenError) (v : View) → result ≡ Err no_memory
    → Sought z (just Small stage_size) (stage_found_none result) v v
not_sought z result v is =
    subst (λ n. Sought z (just Small stage_size) n v v) (sym (ap stage_found_none is))
    (sought_within z (λ _. 0) (just Small stage_size) 0 v v (sought_nothing z v v refl refl) (λ class. zero-le))
