use Rattle.std.proofs.Common.{◌≡◌, ℕ, ◌+◌, ◌*◌, ◌∷◌, ◌++◌, length, ap, sym, subst, ◌∙◌, arith}
use Rattle.std.specs.Vec.Iter.{into_iter_items}
use Rattle.std.proofs.lemmas.List.{length-map}
use Rattle.pin_core.specs.declared.sizes.Sizes.{Sizes}
use Rattle.serve_model.specs.Seats.{HasAll}
use Rattle.run_resources.proofs.Joining.{joins_all}
use Rattle.run_resources.proofs.Lists.{count_of, same_count, count_past, count_as}
use Rattle.run_resources.specs.Opened.{IsSessionSlot}
use Rattle.run_resources.proofs.SessionSlots.{slot_credits}
use Rattle.serve_inputs.proofs.Dumping.{came_back, room_for}
use Rattle.serve_inputs.proofs.Places.{can_keep, each_as, stays, length_behind}
use Rattle.serve_inputs.proofs.Whole.{ran_all, names_kept, wholes_kept, all_reads, all_ended, numbers_are}
use Rattle.serve_inputs.proofs.Whole.{thresholds_are, credits_are, as_many}
use Rattle.serve_inputs.proofs.serving.serve_opened.Goals as goal

pub returns-clause-ran : goal.returns-clause-ran
returns-clause-ran g c =
    let z = g.P.PoolName.sizes in
    let shards = g.N.BookName.sizes.shards in
    let jobs = c.ask_first.new.jobs.items in
    let lined = c.line_up-jobs.result.0.items in
    let dones = c.serve_jobs-dones.result.items in
    let rest = c.first_dumped-dumped.new.dones.items in
    let sessions = c.ask_first.ensures.sessions
    ∙ c.line_up-jobs.ensures.sessions in
    let all = as_many _ _ _ _ z shards _ _ _ _ _ _ _ _ _ _ _ _ _ c.serve_jobs-dones.ensures in
    let wires = ap (λ l. l ++ into_iter_items c.line_up-jobs.result.1) c.ask_first.ensures.wires
    ∙ c.line_up-jobs.ensures.wires in
    let behind = c.bring_in-ends.ensures.wires
    ∙ ap (λ l. l ++ into_iter_items c.line_up-jobs.result.1) c.first_dumped-dumped.ensures.wires in
    let joined = joins_all _ _ _ c.bring_in-ends.ensures.seats in
    let seats = subst (λ l. HasAll (c.split_order-order.new.main ∷ l) c.bring_in-ends.new.main)
    (stays rest dones (λ d. d.account) (λ a. a.seat) c.first_dumped-dumped.ensures.accounts) joined in
    let ends = c.bring_in-ends.ensures.ends
    ∙ stays rest dones (λ d. d.account) (λ a. a.end) c.first_dumped-dumped.ensures.accounts in
    let slots = count_of c.args.resources.slots.items _ _ c.requires.numbers in
    let count : length c.args.sources.items ≡ c.len-count.result =
    omega (arith, c.len-count.ensures, c.args.sources.ok.0) in
    let lined_up = same_count jobs c.args.resources.slots.items _ _ sessions ∙ slots ∙ count in
    let old_count = length-map jobs (λ j. j.wire) ∙ lined_up in
    let new_count = length-map dones (λ d. d.wire) ∙ all ∙ lined_up in
    let back = came_back _ _ z shards _ _ _ _ _ _ _ _ _ _ _ _ _ c.args.sizes.now.dump
    (c.args.sizes.now.shards * (c.args.sizes.now.small + c.args.sizes.now.large) + 4) _ _ _ _ _ _ _ _ _ _ _ _
    c.split_order-order.result jobs dones c.serve_jobs-dones.ensures old_count new_count wires behind
    c.split_order-order.ensures.main.0 seats c.split_order-order.ensures.none c.split_order-order.ensures.before
    c.split_order-order.ensures.seat c.split_order-order.ensures.wires c.ask_first.ensures.asked
    c.first_dumped-dumped.ensures.first c.put_back-dump.ensures.none c.put_back-dump.ensures.dump
    c.put_back-dump.ensures.seat c.put_back-dump.ensures.wires in
    let long = length-map _ _ ∙ c.close_all-journal.ensures.shards in
    ran_all _ _ _ _ z _ shards _ _ _ _ _ _ _ _ _ _ _ _ _ _ _ _ _ _ _ _ _ _ _ _ _ _ _ _ _ c.serve_jobs-dones.ensures
    c.requires.pool (numbers_are _ _ _ _ _ sessions c.requires.numbers)
    (c.bring_in-ends.ensures.lists ∙ stays rest dones (λ d. d.account) (λ a. a.mine)
    c.first_dumped-dumped.ensures.accounts)
    back c.close_all-journal.ensures.shown long
    (c.bring_in-ends.ensures.givens ∙ stays rest dones (λ d. d.account) (λ a. a.pump.given)
    c.first_dumped-dumped.ensures.accounts)
    (c.bring_in-ends.ensures.endeds ∙ stays rest dones (λ d. d.account) (λ a. a.pump.ended)
    c.first_dumped-dumped.ensures.accounts)
    ends (c.bring_in-ends.ensures.sent ∙ stays rest dones (λ d. d.account) (λ a. a.sent)
    c.first_dumped-dumped.ensures.accounts)
    (each_as jobs lined (λ j. j.link.mtu) c.args.sizes.now.mtu c.ask_first.ensures.mtus c.line_up-jobs.ensures.mtus)
    (thresholds_are _ _ _ _ c.args.sizes.now.threshold sessions c.requires.threshold)

pub returns-clause-names : goal.returns-clause-names
returns-clause-names g c =
    let z = g.P.PoolName.sizes in
    let shards = g.N.BookName.sizes.shards in
    let jobs = c.ask_first.new.jobs.items in
    let lined = c.line_up-jobs.result.0.items in
    let dones = c.serve_jobs-dones.result.items in
    let rest = c.first_dumped-dumped.new.dones.items in
    let sessions = c.ask_first.ensures.sessions
    ∙ c.line_up-jobs.ensures.sessions in
    let all = as_many _ _ _ _ z shards _ _ _ _ _ _ _ _ _ _ _ _ _ c.serve_jobs-dones.ensures in
    names_kept _ _ _ _ z shards _ _ _ _ _ _ _ _ _ _ _ _ _ _ _ c.serve_jobs-dones.ensures
    (stays jobs lined (λ j. j.link.pump) (λ p. p.origin.name) c.ask_first.ensures.pumps ∙ c.line_up-jobs.ensures.names)
    (c.bring_in-ends.ensures.names ∙ stays rest dones (λ d. d.account) (λ a. a.pump.origin.name)
    c.first_dumped-dumped.ensures.accounts)

pub returns-clause-wholes : goal.returns-clause-wholes
returns-clause-wholes g c =
    let z = g.P.PoolName.sizes in
    let shards = g.N.BookName.sizes.shards in
    let jobs = c.ask_first.new.jobs.items in
    let lined = c.line_up-jobs.result.0.items in
    let dones = c.serve_jobs-dones.result.items in
    let rest = c.first_dumped-dumped.new.dones.items in
    let sessions = c.ask_first.ensures.sessions
    ∙ c.line_up-jobs.ensures.sessions in
    let all = as_many _ _ _ _ z shards _ _ _ _ _ _ _ _ _ _ _ _ _ c.serve_jobs-dones.ensures in
    wholes_kept _ _ _ _ z shards _ _ _ _ _ _ _ _ _ _ _ _ _ _ _ c.serve_jobs-dones.ensures
    (stays jobs lined (λ j. j.link.pump) (λ p. p.origin.whole) c.ask_first.ensures.pumps ∙
    c.line_up-jobs.ensures.wholes)
    (c.bring_in-ends.ensures.wholes ∙ stays rest dones (λ d. d.account) (λ a. a.pump.origin.whole)
    c.first_dumped-dumped.ensures.accounts)

pub returns-clause-reads : goal.returns-clause-reads
returns-clause-reads g c =
    let z = g.P.PoolName.sizes in
    let shards = g.N.BookName.sizes.shards in
    let jobs = c.ask_first.new.jobs.items in
    let lined = c.line_up-jobs.result.0.items in
    let dones = c.serve_jobs-dones.result.items in
    let rest = c.first_dumped-dumped.new.dones.items in
    let sessions = c.ask_first.ensures.sessions
    ∙ c.line_up-jobs.ensures.sessions in
    let all = as_many _ _ _ _ z shards _ _ _ _ _ _ _ _ _ _ _ _ _ c.serve_jobs-dones.ensures in
    all_reads _ _ _ _ z shards _ _ _ _ _ _ _ _ _ _ _ _ _ _ _ _ c.serve_jobs-dones.ensures
    (stays jobs lined (λ j. j.link.pump) (λ p. p.faults) c.ask_first.ensures.pumps ∙ c.line_up-jobs.ensures.faults)
    (c.bring_in-ends.ensures.faults ∙ stays rest dones (λ d. d.account) (λ a. a.pump.faults)
    c.first_dumped-dumped.ensures.accounts)
    (c.bring_in-ends.ensures.ends ∙ stays rest dones (λ d. d.account) (λ a. a.end)
    c.first_dumped-dumped.ensures.accounts)

pub returns-clause-to_the_end : goal.returns-clause-to_the_end
returns-clause-to_the_end g c =
    let z = g.P.PoolName.sizes in
    let shards = g.N.BookName.sizes.shards in
    let jobs = c.ask_first.new.jobs.items in
    let lined = c.line_up-jobs.result.0.items in
    let dones = c.serve_jobs-dones.result.items in
    let rest = c.first_dumped-dumped.new.dones.items in
    let sessions = c.ask_first.ensures.sessions
    ∙ c.line_up-jobs.ensures.sessions in
    let all = as_many _ _ _ _ z shards _ _ _ _ _ _ _ _ _ _ _ _ _ c.serve_jobs-dones.ensures in
    all_ended _ _ _ _ z shards _ _ _ _ _ _ _ _ _ _ _ _ _ _ c.serve_jobs-dones.ensures
    (c.bring_in-ends.ensures.ends ∙ stays rest dones (λ d. d.account) (λ a. a.end)
    c.first_dumped-dumped.ensures.accounts)

pub line_up-jobs-requires-clause-sources : goal.line_up-jobs-requires-clause-sources
line_up-jobs-requires-clause-sources g c =
    λ _ _. sym (count_of c.args.resources.slots.items _ _ c.requires.numbers)

pub line_up-jobs-requires-clause-wires : goal.line_up-jobs-requires-clause-wires
line_up-jobs-requires-clause-wires g c =
    omega (
      arith,
      count_of c.args.resources.slots.items _ _ c.requires.numbers,
      c.requires.wires,
      c.split_order-order.ensures.left,
    )

pub line_up-jobs-requires-clause-room : goal.line_up-jobs-requires-clause-room
line_up-jobs-requires-clause-room g c = λ _ _. (
  c.requires.jobs.0,
  omega
      (arith, count_of c.args.resources.slots.items _ _ c.requires.numbers, c.requires.jobs.1),
)

pub ask_first-requires-clause-order : goal.ask_first-requires-clause-order
ask_first-requires-clause-order g c = λ _ _.
    can_keep c.split_order-order.result _ c.args.sizes.now g.P.PoolName.sizes g.N.BookName.sizes.shards
    c.split_order-order.ensures.before c.split_order-order.ensures.seat c.requires.pool c.requires.book.0

pub ask_first-requires-clause-one : goal.ask_first-requires-clause-one
ask_first-requires-clause-one g c =
    let slots = count_of c.args.resources.slots.items _ _ c.requires.numbers in
    let lined = same_count c.line_up-jobs.result.0.items c.args.resources.slots.items _ _
    c.line_up-jobs.ensures.sessions in
    omega (arith, slots, lined, c.requires.sized.count_is.0)

pub serve_jobs-dones-requires-clause-room : goal.serve_jobs-dones-requires-clause-room
serve_jobs-dones-requires-clause-room g c = λ _ _.
    let slots = count_of c.args.resources.slots.items _ _ c.requires.numbers in
    let lined = same_count c.line_up-jobs.result.0.items c.args.resources.slots.items _ _
    c.line_up-jobs.ensures.sessions in
    let jobs = same_count c.ask_first.new.jobs.items c.line_up-jobs.result.0.items _ _ c.ask_first.ensures.sessions in
    (c.requires.dones.0, omega (arith, slots, lined, jobs, c.requires.dones.1))

pub bring_in-ends-requires-clause-ends : goal.bring_in-ends-requires-clause-ends
bring_in-ends-requires-clause-ends g c =
    let slots = count_of c.args.resources.slots.items _ _ c.requires.numbers in
    let lined = same_count c.line_up-jobs.result.0.items c.args.resources.slots.items _ _
    c.line_up-jobs.ensures.sessions in
    let jobs = same_count c.ask_first.new.jobs.items c.line_up-jobs.result.0.items _ _ c.ask_first.ensures.sessions in
    let dones = as_many _ _ _ _ g.P.PoolName.sizes g.N.BookName.sizes.shards _ _ _ _ _ _ _ _ _ _ _ _ _
    c.serve_jobs-dones.ensures in
    let rest = same_count c.first_dumped-dumped.new.dones.items c.serve_jobs-dones.result.items _ _
    c.first_dumped-dumped.ensures.accounts in
    (c.requires.ends.0, omega (arith, slots, lined, jobs, dones, rest, c.requires.ends.1))

pub bring_in-ends-requires-clause-sent : goal.bring_in-ends-requires-clause-sent
bring_in-ends-requires-clause-sent g c =
    let slots = count_of c.args.resources.slots.items _ _ c.requires.numbers in
    let lined = same_count c.line_up-jobs.result.0.items c.args.resources.slots.items _ _
    c.line_up-jobs.ensures.sessions in
    let jobs = same_count c.ask_first.new.jobs.items c.line_up-jobs.result.0.items _ _ c.ask_first.ensures.sessions in
    let dones = as_many _ _ _ _ g.P.PoolName.sizes g.N.BookName.sizes.shards _ _ _ _ _ _ _ _ _ _ _ _ _
    c.serve_jobs-dones.ensures in
    let rest = same_count c.first_dumped-dumped.new.dones.items c.serve_jobs-dones.result.items _ _
    c.first_dumped-dumped.ensures.accounts in
    (c.requires.sent.0, omega (arith, slots, lined, jobs, dones, rest, c.requires.sent.1))

pub bring_in-ends-requires-clause-lists : goal.bring_in-ends-requires-clause-lists
bring_in-ends-requires-clause-lists g c =
    let slots = count_of c.args.resources.slots.items _ _ c.requires.numbers in
    let lined = same_count c.line_up-jobs.result.0.items c.args.resources.slots.items _ _
    c.line_up-jobs.ensures.sessions in
    let jobs = same_count c.ask_first.new.jobs.items c.line_up-jobs.result.0.items _ _ c.ask_first.ensures.sessions in
    let dones = as_many _ _ _ _ g.P.PoolName.sizes g.N.BookName.sizes.shards _ _ _ _ _ _ _ _ _ _ _ _ _
    c.serve_jobs-dones.ensures in
    let rest = same_count c.first_dumped-dumped.new.dones.items c.serve_jobs-dones.result.items _ _
    c.first_dumped-dumped.ensures.accounts in
    (c.requires.lists.0, omega (arith, slots, lined, jobs, dones, rest, c.requires.lists.1))

pub bring_in-ends-requires-clause-sources : goal.bring_in-ends-requires-clause-sources
bring_in-ends-requires-clause-sources g c =
    let slots = count_of c.args.resources.slots.items _ _ c.requires.numbers in
    let lined = same_count c.line_up-jobs.result.0.items c.args.resources.slots.items _ _
    c.line_up-jobs.ensures.sessions in
    let jobs = same_count c.ask_first.new.jobs.items c.line_up-jobs.result.0.items _ _ c.ask_first.ensures.sessions in
    let dones = as_many _ _ _ _ g.P.PoolName.sizes g.N.BookName.sizes.shards _ _ _ _ _ _ _ _ _ _ _ _ _
    c.serve_jobs-dones.ensures in
    let rest = same_count c.first_dumped-dumped.new.dones.items c.serve_jobs-dones.result.items _ _
    c.first_dumped-dumped.ensures.accounts in
    (c.requires.room.0, omega (arith, slots, lined, jobs, dones, rest, c.requires.room.1))

pub bring_in-ends-requires-clause-wires : goal.bring_in-ends-requires-clause-wires
bring_in-ends-requires-clause-wires g c =
    let slots = count_of c.args.resources.slots.items _ _ c.requires.numbers in
    let lined = same_count c.line_up-jobs.result.0.items c.args.resources.slots.items _ _
    c.line_up-jobs.ensures.sessions in
    let jobs = same_count c.ask_first.new.jobs.items c.line_up-jobs.result.0.items _ _ c.ask_first.ensures.sessions in
    let dones = as_many _ _ _ _ g.P.PoolName.sizes g.N.BookName.sizes.shards _ _ _ _ _ _ _ _ _ _ _ _ _
    c.serve_jobs-dones.ensures in
    let rest = same_count c.first_dumped-dumped.new.dones.items c.serve_jobs-dones.result.items _ _
    c.first_dumped-dumped.ensures.accounts in
    let all = count_past c.line_up-jobs.result.0.items _ _ _ c.line_up-jobs.ensures.wires in (
      c.requires.wire_room.0,
      omega (arith, rest, dones, jobs, all, c.split_order-order.ensures.left, c.requires.wire_room.1),
    )

pub put_back-dump-requires : goal.put_back-dump-requires
put_back-dump-requires g c =
    let slots = count_of c.args.resources.slots.items _ _ c.requires.numbers in
    let lined = same_count c.line_up-jobs.result.0.items c.args.resources.slots.items _ _
    c.line_up-jobs.ensures.sessions in
    let jobs = same_count c.ask_first.new.jobs.items c.line_up-jobs.result.0.items _ _ c.ask_first.ensures.sessions in
    let dones = as_many _ _ _ _ g.P.PoolName.sizes g.N.BookName.sizes.shards _ _ _ _ _ _ _ _ _ _ _ _ _
    c.serve_jobs-dones.ensures in
    let rest = same_count c.first_dumped-dumped.new.dones.items c.serve_jobs-dones.result.items _ _
    c.first_dumped-dumped.ensures.accounts in
    let all = count_past c.line_up-jobs.result.0.items _ _ _ c.line_up-jobs.ensures.wires in
    let behind = length_behind c.first_dumped-dumped.new.dones.items _ _ _ c.bring_in-ends.ensures.wires in
    room_for _ _ g.P.PoolName.sizes g.N.BookName.sizes.shards _ _ _ _ _ _ _ _ _ _ _ _ _ c.split_order-order.result _ _ _
    _ _ _ _ c.ask_first.new.jobs.items c.serve_jobs-dones.result.items c.serve_jobs-dones.ensures
    c.split_order-order.ensures.wires c.ask_first.ensures.asked c.first_dumped-dumped.ensures.first
    (omega (arith, c.split_order-order.ensures.left, c.requires.wires, c.len-count.ensures, c.args.sources.ok.0))
    (omega (arith, rest, dones, jobs, all, behind))
    (omega (arith, c.requires.wire_room.1, c.bring_in-ends.ensures.wire_room))
    (omega (arith, slots, lined, jobs, dones, rest, behind, c.len-count.ensures, c.args.sources.ok.0))

pub close_all-journal-requires-clause-lists : goal.close_all-journal-requires-clause-lists
close_all-journal-requires-clause-lists g c =
    let slots = count_of c.args.resources.slots.items _ _ c.requires.numbers in
    let lined = same_count c.line_up-jobs.result.0.items c.args.resources.slots.items _ _
    c.line_up-jobs.ensures.sessions in
    let jobs = same_count c.ask_first.new.jobs.items c.line_up-jobs.result.0.items _ _ c.ask_first.ensures.sessions in
    let dones = as_many _ _ _ _ g.P.PoolName.sizes g.N.BookName.sizes.shards _ _ _ _ _ _ _ _ _ _ _ _ _
    c.serve_jobs-dones.ensures in
    let rest = same_count c.first_dumped-dumped.new.dones.items c.serve_jobs-dones.result.items _ _
    c.first_dumped-dumped.ensures.accounts in
    let lists = count_as _ c.first_dumped-dumped.new.dones.items _ c.bring_in-ends.ensures.lists in
    omega (arith, slots, lined, jobs, dones, rest, lists, c.requires.book.1)

pub close_all-journal-requires-clause-credits : goal.close_all-journal-requires-clause-credits
close_all-journal-requires-clause-credits g c =
    let z = g.P.PoolName.sizes in
    let shards = g.N.BookName.sizes.shards in
    let jobs = c.ask_first.new.jobs.items in
    let lined = c.line_up-jobs.result.0.items in
    let dones = c.serve_jobs-dones.result.items in
    let rest = c.first_dumped-dumped.new.dones.items in
    let sessions = c.ask_first.ensures.sessions
    ∙ c.line_up-jobs.ensures.sessions in
    let all = as_many _ _ _ _ z shards _ _ _ _ _ _ _ _ _ _ _ _ _ c.serve_jobs-dones.ensures in
    let wires = ap (λ l. l ++ into_iter_items c.line_up-jobs.result.1) c.ask_first.ensures.wires
    ∙ c.line_up-jobs.ensures.wires in
    let behind = c.bring_in-ends.ensures.wires
    ∙ ap (λ l. l ++ into_iter_items c.line_up-jobs.result.1) c.first_dumped-dumped.ensures.wires in
    let joined = joins_all _ _ _ c.bring_in-ends.ensures.seats in
    let seats = subst (λ l. HasAll (c.split_order-order.new.main ∷ l) c.bring_in-ends.new.main)
    (stays rest dones (λ d. d.account) (λ a. a.seat) c.first_dumped-dumped.ensures.accounts) joined in
    let ends = c.bring_in-ends.ensures.ends
    ∙ stays rest dones (λ d. d.account) (λ a. a.end) c.first_dumped-dumped.ensures.accounts in
    let slots = count_of c.args.resources.slots.items _ _ c.requires.numbers in
    let count : length c.args.sources.items ≡ c.len-count.result =
    omega (arith, c.len-count.ensures, c.args.sources.ok.0) in
    let lined_up = same_count jobs c.args.resources.slots.items _ _ sessions ∙ slots ∙ count in
    let old_count = length-map jobs (λ j. j.wire) ∙ lined_up in
    let new_count = length-map dones (λ d. d.wire) ∙ all ∙ lined_up in
    let back = came_back _ _ z shards _ _ _ _ _ _ _ _ _ _ _ _ _ c.args.sizes.now.dump
    (c.args.sizes.now.shards * (c.args.sizes.now.small + c.args.sizes.now.large) + 4) _ _ _ _ _ _ _ _ _ _ _ _
    c.split_order-order.result jobs dones c.serve_jobs-dones.ensures old_count new_count wires behind
    c.split_order-order.ensures.main.0 seats c.split_order-order.ensures.none c.split_order-order.ensures.before
    c.split_order-order.ensures.seat c.split_order-order.ensures.wires c.ask_first.ensures.asked
    c.first_dumped-dumped.ensures.first c.put_back-dump.ensures.none c.put_back-dump.ensures.dump
    c.put_back-dump.ensures.seat c.put_back-dump.ensures.wires in
    let credits = credits_are _ _ c.args.resources.slots.items
    (λ d. IsSessionSlot z d.session d.device.end d.device.failed) (λ d. d.session) _ _ z shards _ _ _ _ _ _ _ _ _ _ _ _
    _ _ _ c.serve_jobs-dones.ensures (λ d is. slot_credits z _ _ _ is) c.requires.slots sessions seats in
    omega (
      arith,
      back.credits,
      credits,
      c.into_parts-parts.ensures.parts.credits,
      c.split_order-order.ensures.main.1,
      c.requires.book.0,
      ap (λ (y : Sizes). y.credits) c.requires.pool,
      ap (λ (n : ℕ). 8192 * n) slots,
    )
