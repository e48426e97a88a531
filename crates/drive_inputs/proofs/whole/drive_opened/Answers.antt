use Rattle.std.proofs.Common.{◌≡◌, ℕ, ◌*◌, ◌<◌, List, All, map, refl, ap, sym, ◌∙◌, subst, arith}
use Rattle.std.specs.List.{range_with_len}
use Rattle.pin_core.specs.declared.sizes.Sizes.{Sizes}
use Rattle.view_sums.specs.Total.{Each}
use Rattle.schedule_text.specs.Text.{line_session}
use Rattle.reply_planner.specs.Places.{buffer_addresses}
use Rattle.reply_planner.specs.Stages.{StagesAreApart}
use Rattle.session_pass.specs.Views.{SessionView}
use Rattle.drive_script.specs.Driven.{leaving_of}
use Rattle.drive_script.specs.Driving.{driving_of}
use Rattle.run_resources.specs.Opened.{IsSessionSlot}
use Rattle.run_resources.proofs.SessionSlots.{HasCredits, slot_credits}
use Rattle.run_resources.proofs.Lists.{count_of, same_count, count_as}
use Rattle.drive_inputs.proofs.Each.{AreFit, all_fit}
use Rattle.drive_inputs.proofs.Together.{as_many, wires_past, reads, origins, same_origins, credits}
use Rattle.drive_inputs.proofs.Together.{credits_of, drove_inputs, maps_in}
use Rattle.drive_inputs.proofs.Stages.{addresses_apart, all_small}
use Rattle.drive_inputs.proofs.whole.drive_opened.Goals as goal

pub returns-clause-drove : goal.returns-clause-drove
returns-clause-drove g c =
    let z = g.P.PoolName.sizes in
    let slots = c.args.resources.slots.items in
    let many = count_of slots _ _ c.requires.numbers in
    let rows = same_count c.pair_up-drivings.result.0.items slots _ _ c.pair_up-drivings.ensures.sessions in
    let left = as_many _ _ z _ _ _ _ _ c.pair_up-drivings.result.0.items c.drive-accounts.result.accounts.items _ _
    c.drive-accounts.ensures.driven in
    let lists = count_as _ c.drive-accounts.result.accounts.items _ c.bring_in-ends.ensures.lists in
    let fit = all_fit z _ _ 0 (λ d. IsSessionSlot z d.session d.device.end d.device.failed)
    (λ d. d.session) slots
    (λ d is. is.pass) c.requires.slots c.requires.ring c.requires.threshold
    (c.requires.numbers ∙ ap (λ (n : ℕ). range_with_len 0 n) (sym many)) in
    let stage_of : SessionView → List ℕ = λ s. buffer_addresses z s.pass.stage in
    let stages : map (λ d. buffer_addresses z d.connection.session.pass.stage) c.pair_up-drivings.result.0.items
    ≡ map (buffer_addresses z) (map (λ d. d.session.pass.stage) slots) =
    sym (maps_in stage_of (λ d. d.connection.session) c.pair_up-drivings.result.0.items)
    ∙ ap (map stage_of) c.pair_up-drivings.ensures.sessions ∙ maps_in stage_of (λ d. d.session) slots
    ∙ sym (maps_in (buffer_addresses z) (λ d. d.session.pass.stage) slots) in
    let apart = subst StagesAreApart (sym stages) (addresses_apart z (map (λ d. d.session.pass.stage) slots)
    (all_small z (λ d. IsSessionSlot z d.session d.device.end d.device.failed) (λ d. d.session.pass.stage) slots
    (λ d is. is.pass.opened.small) c.requires.slots) c.requires.apart) in
    drove_inputs _ _ z g.N.BookName.sizes.shards (λ d. driving_of d.connection.session d.connection.device.failed
    d.connection.device.end
    d.asking.kept d.asking.end d.asking.pump d.wire) (λ a. leaving_of a.end a.mine a.seat a.pump a.wire) _ _
    c.pair_up-drivings.result.0.items c.drive-accounts.result.accounts.items _ _ g.N.BookName.sizes _ _ _ _ _ _ _ _ _
    _ _ _ _ _ c.drive-accounts.ensures.driven refl c.requires.pool
    (subst (AreFit z _ _ 0) (sym c.pair_up-drivings.ensures.sessions) fit) apart c.bring_in-ends.ensures.lists
    c.requires.main.0 c.bring_in-ends.ensures.seats (omega (arith, many, rows, left, lists, c.requires.book.1))
    c.close_all-journal.ensures.closed c.driven_together.ensures c.bring_in-ends.ensures.givens
    c.bring_in-ends.ensures.endeds c.bring_in-ends.ensures.ends c.pair_up-drivings.ensures.wires
    c.bring_in-ends.ensures.wires

pub returns-clause-reads : goal.returns-clause-reads
returns-clause-reads g c =
    reads _ _ g.P.PoolName.sizes _ _ _ _ _ c.pair_up-drivings.result.0.items c.drive-accounts.result.accounts.items _ _
    _ _ _ c.drive-accounts.ensures.driven c.pair_up-drivings.ensures.faults c.bring_in-ends.ensures.faults
    c.bring_in-ends.ensures.ends

pub returns-clause-names : goal.returns-clause-names
returns-clause-names g c =
    (same_origins (λ s. g.S.Source.name s) (λ s. g.S.Source.whole s) c.bring_in-ends.result.sources.items
    c.args.sources.items
    (origins _ _ g.P.PoolName.sizes _ _ _ _ _ c.pair_up-drivings.result.0.items c.drive-accounts.result.accounts.items
    _ _ _ _ c.drive-accounts.ensures.driven c.pair_up-drivings.ensures.origins c.bring_in-ends.ensures.origins)).0

pub returns-clause-wholes : goal.returns-clause-wholes
returns-clause-wholes g c =
    (same_origins (λ s. g.S.Source.name s) (λ s. g.S.Source.whole s) c.bring_in-ends.result.sources.items
    c.args.sources.items
    (origins _ _ g.P.PoolName.sizes _ _ _ _ _ c.pair_up-drivings.result.0.items c.drive-accounts.result.accounts.items
    _ _ _ _ c.drive-accounts.ensures.driven c.pair_up-drivings.ensures.origins c.bring_in-ends.ensures.origins)).1

pub pair_up-drivings-requires-clause-sources : goal.pair_up-drivings-requires-clause-sources
pair_up-drivings-requires-clause-sources g c = λ _ _.
    sym (count_of c.args.resources.slots.items _ _ c.requires.numbers)

pub pair_up-drivings-requires-clause-wires : goal.pair_up-drivings-requires-clause-wires
pair_up-drivings-requires-clause-wires g c =
    omega (arith, count_of c.args.resources.slots.items _ _ c.requires.numbers, c.requires.wires)

pub pair_up-drivings-requires-clause-room : goal.pair_up-drivings-requires-clause-room
pair_up-drivings-requires-clause-room g c = λ _ _. (
  c.requires.drivings.0,
  omega (arith, count_of c.args.resources.slots.items _ _ c.requires.numbers, c.requires.drivings.1),
)

pub drive-accounts-requires-clause-there : goal.drive-accounts-requires-clause-there
drive-accounts-requires-clause-there g c = λ _ _.
    let slots = c.args.resources.slots.items in
    let rows = same_count c.pair_up-drivings.result.0.items slots _ _ c.pair_up-drivings.ensures.sessions in
    subst (λ (n : ℕ). All (λ line. line_session line < n) c.args.schedule.now)
    (sym (rows ∙ count_of slots _ _ c.requires.numbers)) c.requires.there

pub drive-accounts-requires-clause-room : goal.drive-accounts-requires-clause-room
drive-accounts-requires-clause-room g c = λ _ _.
    let slots = c.args.resources.slots.items in
    let many = count_of slots _ _ c.requires.numbers in
    let rows = same_count c.pair_up-drivings.result.0.items slots _ _ c.pair_up-drivings.ensures.sessions in
    (c.requires.accounts.0, omega (arith, many, rows, c.requires.accounts.1))

pub bring_in-ends-requires-clause-ends : goal.bring_in-ends-requires-clause-ends
bring_in-ends-requires-clause-ends g c =
    let slots = c.args.resources.slots.items in
    let many = count_of slots _ _ c.requires.numbers in
    let rows = same_count c.pair_up-drivings.result.0.items slots _ _ c.pair_up-drivings.ensures.sessions in
    let left = as_many _ _ g.P.PoolName.sizes _ _ _ _ _ c.pair_up-drivings.result.0.items
    c.drive-accounts.result.accounts.items _ _ c.drive-accounts.ensures.driven in
    (c.requires.ends.0, omega (arith, many, rows, left, c.requires.ends.1))

pub bring_in-ends-requires-clause-lists : goal.bring_in-ends-requires-clause-lists
bring_in-ends-requires-clause-lists g c =
    let slots = c.args.resources.slots.items in
    let many = count_of slots _ _ c.requires.numbers in
    let rows = same_count c.pair_up-drivings.result.0.items slots _ _ c.pair_up-drivings.ensures.sessions in
    let left = as_many _ _ g.P.PoolName.sizes _ _ _ _ _ c.pair_up-drivings.result.0.items
    c.drive-accounts.result.accounts.items _ _ c.drive-accounts.ensures.driven in
    (c.requires.lists.0, omega (arith, many, rows, left, c.requires.lists.1))

pub bring_in-ends-requires-clause-sources : goal.bring_in-ends-requires-clause-sources
bring_in-ends-requires-clause-sources g c =
    let slots = c.args.resources.slots.items in
    let many = count_of slots _ _ c.requires.numbers in
    let rows = same_count c.pair_up-drivings.result.0.items slots _ _ c.pair_up-drivings.ensures.sessions in
    let left = as_many _ _ g.P.PoolName.sizes _ _ _ _ _ c.pair_up-drivings.result.0.items
    c.drive-accounts.result.accounts.items _ _ c.drive-accounts.ensures.driven in
    (c.requires.room.0, omega (arith, many, rows, left, c.requires.room.1))

pub bring_in-ends-requires-clause-wires : goal.bring_in-ends-requires-clause-wires
bring_in-ends-requires-clause-wires g c =
    let left = as_many _ _ g.P.PoolName.sizes _ _ _ _ _ c.pair_up-drivings.result.0.items
    c.drive-accounts.result.accounts.items _ _ c.drive-accounts.ensures.driven in
    let all = wires_past c.pair_up-drivings.result.0.items (λ d. d.wire) _ _ c.pair_up-drivings.ensures.wires in
    (c.requires.wire_room.0, omega (arith, left, all, c.requires.wire_room.1))

pub close_all-journal-requires-clause-lists : goal.close_all-journal-requires-clause-lists
close_all-journal-requires-clause-lists g c =
    let slots = c.args.resources.slots.items in
    let many = count_of slots _ _ c.requires.numbers in
    let rows = same_count c.pair_up-drivings.result.0.items slots _ _ c.pair_up-drivings.ensures.sessions in
    let left = as_many _ _ g.P.PoolName.sizes _ _ _ _ _ c.pair_up-drivings.result.0.items
    c.drive-accounts.result.accounts.items _ _ c.drive-accounts.ensures.driven in
    let lists = count_as _ c.drive-accounts.result.accounts.items _ c.bring_in-ends.ensures.lists in
    omega (arith, many, rows, left, lists, c.requires.book.1)

pub close_all-journal-requires-clause-credits : goal.close_all-journal-requires-clause-credits
close_all-journal-requires-clause-credits g c =
    let z = g.P.PoolName.sizes in
    let slots = c.args.resources.slots.items in
    let many = count_of slots _ _ c.requires.numbers in
    let rows = same_count c.pair_up-drivings.result.0.items slots _ _ c.pair_up-drivings.ensures.sessions in
    let own = credits_of (λ d. IsSessionSlot z d.session d.device.end d.device.failed) (λ d. d.session)
    (λ d is. slot_credits z _ _ _ is) slots c.requires.slots in
    let all = credits _ _ z _ (λ d. driving_of d.connection.session d.connection.device.failed d.connection.device.end
    d.asking.kept
    d.asking.end d.asking.pump d.wire) (λ a. leaving_of a.end a.mine a.seat a.pump a.wire) _ _
    c.pair_up-drivings.result.0.items c.drive-accounts.result.accounts.items _ _ _ _ c.drive-accounts.ensures.driven
    (subst (Each HasCredits) (sym c.pair_up-drivings.ensures.sessions) own) c.bring_in-ends.ensures.seats in
    omega (
      arith,
      all,
      c.into_parts-parts.ensures.parts.credits,
      c.requires.main.1,
      c.requires.book.0,
      ap (λ (y : Sizes). y.credits) c.requires.pool,
      ap (λ (n : ℕ). 8192 * n) (rows ∙ many),
    )
