-- Where the pool has the demand no write is missing, and no stage is refused.
use Rattle.std.proofs.Common.{◌≡◌, ℕ, zero, suc, ◌*◌, ◌<◌, ◌≤◌, List, [], ◌∷◌, length, refl, ap, arith}
use Rattle.view_sums.specs.Total.{total, Each}
use Rattle.view_sums.proofs.Sums.{total-append}
use Rattle.flake_base.specs.declared.journal.Entry.{Entry}
use Rattle.pin_core.specs.declared.class.Class.{Class}
use Rattle.pin_core.specs.declared.class.Class.TheVariants.{Small, Large}
use Rattle.pin_core.specs.declared.sizes.Sizes.{Sizes}
use Rattle.pinned_pool.specs.Claims.{count_of}
use Rattle.pinned_pool.specs.Classes.{buffers_in}
use Rattle.pinned_pool.specs.Ends.{End}
use Rattle.pinned_pool.specs.Sought.{Sought}
use Rattle.pinned_pool.specs.Views.{nobody}
use Rattle.pinned_pool.specs.declared.view.View.{View}
use Rattle.flake_model.specs.Run.{all_commands, missing_writes}
use Rattle.flake_model.specs.Session.{Session}
use Rattle.shard_core.specs.Stock.{IsIdle}
use Rattle.serve_model.specs.Demand.{stage_row, demand_of}
use Rattle.serve_model.specs.Shown.{IsCounted}
use Rattle.serve_model.specs.Stages.{IsStageRefused}
use Rattle.serve_model.proofs.Counts.{all_claimed}
use Rattle.serve_model.proofs.Ranges.{one_in}

pub complete : (z : Sizes) (threshold : ℕ) (sessions : List Session) (journal : List (List Entry)) (end : End)
    → IsCounted z threshold sessions journal end
    → ((class : Class) → demand_of class (all_commands sessions) ≤ count_of z class)
    → missing_writes sessions journal ≡ 0
complete z threshold sessions journal end counted within =
    let none : (class : Class) → counted.missed class ≡ 0 = λ class.
    zero_else (counted.missed class)
    (λ some. let no : ⊥ = omega (arith, counted.exceeded class some, within class) in no) in
    omega (arith, counted.missed_are, none Small, none Large)
  where
    zero_else : (n : ℕ) → (0 < n → ⊥) → n ≡ 0
    zero_else zero none = refl
    zero_else (suc n) none = absurd (none (omega arith))

idle_zero : (z : Sizes) (idle : List View) → Each IsIdle idle
    → total (λ (v : View). buffers_in z Small v.claims) idle ≡ 0
idle_zero z [] each = refl
idle_zero z (v ∷ idle) each = omega (arith, ap (buffers_in z Small) each.0.claims, idle_zero z idle each.1)

opened_most : (z : Sizes) (opened : List View) → Each (Sought z stage_row 0 nobody) opened
    → total (λ (v : View). buffers_in z Small v.claims) opened ≤ 128 * length opened
opened_most z [] each = omega arith
opened_most z (v ∷ opened) each = omega (arith, each.0.claims Small, opened_most z opened each.1)

pub no_stage_refused : (z : Sizes) (stages : ℕ) (opened idle : List View) (refused last : View)
    → IsStageRefused z stages opened idle refused last → ⊥
no_stage_refused z stages opened idle refused last is =
    let sought = is.refused_sought in
    let small : sought.missed Small ≡ 1 = omega (arith, sought.missed_are, sought.claims Large) in
    let whole = all_claimed z Small last.claims (λ b below at. is.looked b
    (omega (arith, is.all.looks b, sought.looks b below, ap sought.missed at, small))) in
    let sum = is.all.claims (one_in z Small) in
    let no : ⊥ = omega (
      arith,
      whole,
      sum,
      total-append (λ (v : View). buffers_in z Small v.claims) idle opened,
      idle_zero z idle is.idle_claims,
      opened_most z opened is.opened_sought,
      sought.claims Small,
      small,
      is.room,
      is.fewer,
    ) in
    no
