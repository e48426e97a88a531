use Rattle.std.proofs.Common.{◌*◌, ap, ◌∙◌, sym, arith, ℕ}
use Rattle.std.specs.List.{range_with_len}
use Rattle.pin_core.specs.declared.sizes.Sizes.{Sizes}
use Rattle.command_exec.specs.Passes.{PassView}
use Rattle.run_resources.proofs.Lists.{count_of}
use Rattle.run_resources.proofs.Passes.{slots_apart}
use Rattle.run_resources.proofs.Numbers.{new_count, all_new, pass_numbers, slot_numbers, thresholds}
use Rattle.run_resources.proofs.resources.open_resources.Goals as goal

pub open_passes-requires-clause-credits : goal.open_passes-requires-clause-credits
open_passes-requires-clause-credits g c =
    let many = new_count _ _ c.name-book.ensures.sessions ∙ c.requires.book.2.1 in
    omega (arith, many, ap (λ (z : Sizes). z.credits) c.requires.pool.2)

pub open_passes-requires-clause-buffers : goal.open_passes-requires-clause-buffers
open_passes-requires-clause-buffers g c =
    let many = new_count _ _ c.name-book.ensures.sessions ∙ c.requires.book.2.1 in
    omega (arith, many, ap (λ (z : Sizes). z.small) c.requires.pool.2, c.requires.sized.small)

pub open_passes-requires-clause-lists : goal.open_passes-requires-clause-lists
open_passes-requires-clause-lists g c = all_new _ _ c.name-book.ensures.sessions

pub open_passes-requires-clause-room : goal.open_passes-requires-clause-room
open_passes-requires-clause-room g c =
    let many = new_count _ _ c.name-book.ensures.sessions ∙ c.requires.book.2.1 in
    (c.in_ok-passes.ensures.items, omega (arith, many, c.in_ok-passes.ensures.exact))

pub open_store-requires-clause-credits : goal.open_store-requires-clause-credits
open_store-requires-clause-credits g c =
    let many = new_count _ _ c.name-book.ensures.sessions ∙ c.requires.book.2.1 in
    omega (
      arith,
      c.in_ok-pool.ensures.main.1,
      ap (λ (z : Sizes). z.credits) c.requires.pool.2,
      ap (λ (n : ℕ). 8192 * n) many,
    )

pub open_session_slots-requires-clause-passes : goal.open_session_slots-requires-clause-passes
open_session_slots-requires-clause-passes g c κs within = λ k d small. (c.in_ok-pool.ensures.passes k d small).0

pub open_session_slots-requires-clause-room : goal.open_session_slots-requires-clause-room
open_session_slots-requires-clause-room g c κs within =
    let numbers = pass_numbers _ c.in_ok-pool.field-0.passes.items _ c.name-book.ensures.sessions
    c.in_ok-pool.ensures.lists in
    let many = count_of c.in_ok-pool.field-0.passes.items (λ (p : PassView). p.list.number) _ numbers in
    (c.in_ok-slots.ensures.items, omega (arith, many, c.requires.book.2.1, c.in_ok-slots.ensures.exact))

pub open_session_slots-requires-clause-numbers : goal.open_session_slots-requires-clause-numbers
open_session_slots-requires-clause-numbers g c = λ _ _.
    let numbers = pass_numbers _ c.in_ok-pool.field-0.passes.items _ c.name-book.ensures.sessions
    c.in_ok-pool.ensures.lists in
    let many = count_of c.in_ok-pool.field-0.passes.items (λ (p : PassView). p.list.number) _ numbers in
    numbers ∙ ap (λ (n : ℕ). range_with_len 0 n) (sym many)

pub open_session_slots-requires-clause-few : goal.open_session_slots-requires-clause-few
open_session_slots-requires-clause-few g c =
    let numbers = pass_numbers _ c.in_ok-pool.field-0.passes.items _ c.name-book.ensures.sessions
    c.in_ok-pool.ensures.lists in
    let many = count_of c.in_ok-pool.field-0.passes.items (λ (p : PassView). p.list.number) _ numbers in
    omega (arith, many, c.requires.book.2.1, c.requires.sized.count_is)

pub returns-clause-main : goal.returns-clause-main
returns-clause-main g c =
    let many = new_count _ _ c.name-book.ensures.sessions ∙ c.requires.book.2.1 in (
      c.open_store.ensures.main,
      omega (
        arith,
        c.in_ok-store.ensures.credits,
        c.in_ok-pool.ensures.main.1,
        ap (λ (z : Sizes). z.credits) c.requires.pool.2,
        ap (λ (n : ℕ). 8192 * n) many,
      ),
    )

pub returns-clause-numbers : goal.returns-clause-numbers
returns-clause-numbers g c =
    let numbers = pass_numbers _ c.in_ok-pool.field-0.passes.items _ c.name-book.ensures.sessions
    c.in_ok-pool.ensures.lists in
    slot_numbers _ _ c.in_ok-pool.field-0.passes.items _ c.in_ok-slots-2.ensures.passes
    (numbers ∙ ap (λ (n : ℕ). range_with_len 0 n) c.requires.book.2.1)

pub returns-clause-threshold : goal.returns-clause-threshold
returns-clause-threshold g c =
    thresholds g.P.PoolName.sizes _ _ _ c.in_ok-pool.field-0.passes.items c.in_ok-slots-2.ensures.passes
    c.in_ok-pool.ensures.passes

pub returns-clause-apart : goal.returns-clause-apart
returns-clause-apart g c =
    slots_apart (λ d. d.session.pass) c.in_ok-slots-2.slots.items c.in_ok-pool.field-0.passes.items
    c.in_ok-slots-2.ensures.passes c.in_ok-pool.ensures.apart
