use Rattle.std.proofs.Common.{◌≡◌, ℕ, List, ap, sym, ◌∙◌, subst}
use Rattle.view_sums.specs.Total.{total}
use Rattle.pin_core.specs.Holding.{Key, loose_at}
use Rattle.pinned_pool.specs.Views.{IsLoose}
use Rattle.pinned_pool.specs.Moves.{holds_for, HasHolds, losing, gaining}
use Rattle.pinned_pool.specs.declared.view.View.{View}
use Rattle.reply_planner.specs.Owned.{key_buffers}
use Rattle.reply_planner.specs.Stages.{IsReordered}
use Rattle.reply_planner.proofs.Owned.{staged-keys, own_held}
use Rattle.reply_planner.proofs.Compared.{each_turned, own_turned, has_lent, none_there, other_again, mine_again}
use Rattle.reply_planner.proofs.stage.Stage.compare.Goals as goal

pub lend-requires-clause-held : goal.lend-requires-clause-held
lend-requires-clause-held g c =
    let ks = c.self.inside.free.items in
    let own = own_turned c.args.seat.now.holds ks c.args.self.now (sym c.self.view_is) c.requires.own in
    subst (λ (js : List Key). HasHolds js c.args.seat.now.holds)
    (staged-keys g.N.PoolName.sizes ks c.self.invariant.staging ∙ sym c.as_slice-holds.ensures.value)
    (own_held c.args.seat.now.holds (key_buffers ks) own)

pub fetch-requires-clause-held : goal.fetch-requires-clause-held
fetch-requires-clause-held g c =
    let ks = c.self.inside.free.items in
    let own = own_turned c.args.seat.now.holds ks c.args.self.now (sym c.self.view_is) c.requires.own in
    let keys = staged-keys g.N.PoolName.sizes ks c.self.invariant.staging ∙ sym c.as_slice-holds.ensures.value in
    subst (λ (v : View). HasHolds c.as_slice-holds.result.now v.holds) (sym c.lend.ensures.into)
    (subst (λ (js : List Key). HasHolds js (gaining (holds_for js c.args.seat.now.holds) c.args.other.now).holds) keys
    (has_lent (key_buffers ks) c.args.seat.now c.args.other.now own))

pub returns-clause-seat : goal.returns-clause-seat
returns-clause-seat g c =
    let ks = c.self.inside.free.items in
    let own = own_turned c.args.seat.now.holds ks c.args.self.now (sym c.self.view_is) c.requires.own in
    let keys = staged-keys g.N.PoolName.sizes ks c.self.invariant.staging ∙ sym c.as_slice-holds.ensures.value in
    let came : c.lend.new.into ≡ _ = c.lend.ensures.into in
    let loose = subst IsLoose
    (came ∙ ap (λ (js : List Key). gaining (holds_for js c.args.seat.now.holds) c.args.other.now) (sym keys))
    c.is_seat.ensures.loose in
    subst (IsReordered c.args.seat.now) (sym c.fetch.ensures.into)
    (subst (λ (v : View). IsReordered c.args.seat.now
    (gaining (holds_for c.as_slice-holds.result.now c.lend.new.into.holds) v)) (sym c.lend.ensures.from)
    (subst (λ (v : View). IsReordered c.args.seat.now
    (gaining (holds_for c.as_slice-holds.result.now v.holds) (losing c.as_slice-holds.result.now c.args.seat.now)))
    (sym came)
    (subst (λ (js : List Key). IsReordered c.args.seat.now
    (gaining (holds_for js (gaining (holds_for js c.args.seat.now.holds) c.args.other.now).holds)
    (losing js c.args.seat.now))) keys
    (mine_again (key_buffers ks) c.args.seat.now c.args.other.now own loose))))

pub returns-clause-other : goal.returns-clause-other
returns-clause-other g c =
    let ks = c.self.inside.free.items in
    let own = own_turned c.args.seat.now.holds ks c.args.self.now (sym c.self.view_is) c.requires.own in
    let keys = staged-keys g.N.PoolName.sizes ks c.self.invariant.staging ∙ sym c.as_slice-holds.ensures.value in
    let came : c.lend.new.into ≡ _ = c.lend.ensures.into in
    let loose = subst IsLoose
    (came ∙ ap (λ (js : List Key). gaining (holds_for js c.args.seat.now.holds) c.args.other.now) (sym keys))
    c.is_seat.ensures.loose in
    c.fetch.ensures.from ∙ ap (losing c.as_slice-holds.result.now) came
    ∙ ap (λ (js : List Key). losing js (gaining (holds_for js c.args.seat.now.holds) c.args.other.now)) (sym keys)
    ∙ other_again (key_buffers ks) c.args.seat.now c.args.other.now own loose

pub returns-clause-apart : goal.returns-clause-apart
returns-clause-apart g c =
    let ks = c.self.inside.free.items in
    let own = own_turned c.args.seat.now.holds ks c.args.self.now (sym c.self.view_is) c.requires.own in
    let keys = staged-keys g.N.PoolName.sizes ks c.self.invariant.staging ∙ sym c.as_slice-holds.ensures.value in
    let loose = subst IsLoose (c.lend.ensures.into
    ∙ ap (λ (js : List Key). gaining (holds_for js c.args.seat.now.holds) c.args.other.now) (sym keys))
    c.is_seat.ensures.loose in
    each_turned (λ b. total (loose_at b) c.args.other.now.holds ≡ 0) ks c.args.self.now (sym c.self.view_is)
    (none_there (key_buffers ks) c.args.seat.now c.args.other.now own loose)
