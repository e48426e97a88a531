use Rattle.std.proofs.Common.{◌≡◌, ◌^◌, ◌<◌, List, length, take, drop, sym, ap, ◌∙◌, subst, arith}
use Rattle.pinned_pool.specs.Moves.{holds_for, losing, gaining}
use Rattle.view_sums.specs.Total.{Each}
use Rattle.flake_base.specs.declared.segment.Seg.{Seg}
use Rattle.reply_layout.specs.Layout.{staging_buffers_for}
use Rattle.reply_planner.specs.Parcels.{IsLaid}
use Rattle.reply_planner.specs.Filled.{IsFilledWith}
use Rattle.reply_planner.specs.Owned.{AreOwn, key_buffers}
use Rattle.reply_planner.specs.Stages.{merged}
use Rattle.reply_planner.proofs.Owned.{own_back}
use Rattle.reply_planner.proofs.Packed.{Outcome, used_held, outcome}
use Rattle.reply_planner.proofs.packing.pack.Given.{Over}
use Rattle.reply_planner.proofs.packing.pack.Goals as goal

pub fill_words-requires-clause-own : goal.fill_words-requires-clause-own
fill_words-requires-clause-own g c =
    let is = c.deref_mut-parts.ensures.value in
    subst (λ ks. AreOwn c.args.seat.now.holds (key_buffers ks))
    (sym (c.deref.ensures.value ∙ ap (λ l. l.staged.items) is))
    (own_back c.args.seat.now.holds c.args.stage.now (key_buffers c.args.lists.value.staged.items)
    c.requires.buffers)

pub fetch-requires-clause-held : goal.fetch-requires-clause-held
fetch-requires-clause-held g c =
    let is = c.deref_mut-parts.ensures.value in
    let staged = c.deref.ensures.value ∙ ap (λ l. l.staged.items) is in
    let texts = ap (λ l. l.text.items) is in
    let text = c.args.lists.value.text.items in
    let keys = c.args.lists.value.staged.items in
    let count : c.div_ceil-used.result ≡ staging_buffers_for (length text) =
    omega (arith, c.div_ceil-used.ensures, c.len.ensures, c.deref_mut-parts.result.now.text.ok, ap length texts) in
    let filled : IsFilledWith text (key_buffers keys) c.args.seat.now c.fill_words.new.seat =
    subst (λ ks. IsFilledWith text (key_buffers ks) c.args.seat.now c.fill_words.new.seat) staged
    (subst (λ xs. IsFilledWith xs (key_buffers c.deref.result.now) c.args.seat.now c.fill_words.new.seat) texts
    c.fill_words.ensures.filled) in
    used_held g.N.PoolName.sizes text keys c.requires.staging c.args.seat.now c.fill_words.new.seat c.args.stage.now
    c.requires.buffers filled c.as_slice.result.now
    (c.as_slice.ensures.value ∙ c.keep_used.ensures.used ∙ (λ i. take (count i) (is i).staged.items))

abbrev Packs : (g : Over) (c : goal.After-join g) → Type 0
Packs g c =
    Outcome g.N.PoolName.sizes c.args.lists.value.text.items c.args.lists.value.staged.items c.args.stage.now
    c.keep_used.new.lists.segments.items c.keep_used.new.lists.pins.items c.keep_used.new.lists.staged.items
    c.args.own c.args.seat.now
    c.split-rest.new.seat c.join.new.into c.keep_used.new.stage

packs : (g : Over) (c : goal.After-join g) → Packs g c
packs g c =
    let is = c.deref_mut-parts.ensures.value in
    let staged = c.deref.ensures.value ∙ ap (λ l. l.staged.items) is in
    let texts = ap (λ l. l.text.items) is in
    let text = c.args.lists.value.text.items in
    let keys = c.args.lists.value.staged.items in
    let ks = c.keep_used.new.lists.staged.items in
    let seat = c.args.seat.now in
    let full = c.fill_words.new.seat in
    let count : c.div_ceil-used.result ≡ staging_buffers_for (length text) =
    omega (arith, c.div_ceil-used.ensures, c.len.ensures, c.deref_mut-parts.result.now.text.ok, ap length texts) in
    let filled : IsFilledWith text (key_buffers keys) seat full =
    subst (λ l. IsFilledWith text (key_buffers l) seat full) staged
    (subst (λ xs. IsFilledWith xs (key_buffers c.deref.result.now) seat full) texts c.fill_words.ensures.filled) in
    let lost : c.fetch.new.from ≡ losing ks full = c.fetch.ensures.from
    ∙ ap (λ l. losing l full) c.as_slice.ensures.value in
    let gained : c.fetch.new.into ≡ gaining (holds_for ks full.holds) c.args.own = c.fetch.ensures.into
    ∙ ap (λ l. gaining (holds_for l full.holds) c.args.own) c.as_slice.ensures.value in
    let segments : c.args.lists.value.segments.items ≡ c.keep_used.new.lists.segments.items =
    sym (ap (λ v. v.items) c.keep_used.ensures.same.1 ∙ ap (λ l. l.segments.items) is) in
    let pins : c.args.lists.value.pins.items ≡ c.keep_used.new.lists.pins.items =
    sym (ap (λ v. v.items) c.keep_used.ensures.same.2 ∙ ap (λ l. l.pins.items) is) in
    let z = g.N.PoolName.sizes in
    outcome z text keys c.args.stage.now c.keep_used.new.lists.segments.items c.keep_used.new.lists.pins.items ks
    c.div_ceil-used.result c.args.credits c.args.own seat full c.fetch.new.from c.fetch.new.into
    c.split-rest.new.seat c.split-rest.result c.join.new.into c.keep_used.new.stage
    c.requires.staging c.requires.text.1 c.requires.buffers c.is_seat.ensures c.is_seat-2.ensures count
    (subst (λ (segs : List Seg). 0 < length segs) segments c.requires.some.0)
    (subst (λ (segs : List Seg). length segs < 2 ^ 32) segments c.requires.some.1)
    (subst (Each (IsLaid z c.args.own.holds (key_buffers keys) (length text))) segments c.requires.laid)
    (c.requires.pins ∙ pins) c.requires.own.1 c.requires.own.2
    (record {
      filled = filled;
      ks_are = c.keep_used.ensures.used ∙ ap (λ l. take c.div_ceil-used.result l.staged.items) is;
      next_is = c.keep_used.ensures.rest
          ∙ ap (λ l. merged (drop c.div_ceil-used.result (key_buffers l.staged.items)) c.args.stage.now) is;
      lost = lost;
      gained = gained;
      cut = c.split-rest.ensures.old;
      off = c.split-rest.ensures.new;
      join = c.join.ensures.joined;
    })

pub invariant_of-result : goal.invariant_of-result
invariant_of-result g c = (packs g c).parcel

pub returns-clause-staged : goal.returns-clause-staged
returns-clause-staged g c = (packs g c).staged_is

pub returns-clause-copied : goal.returns-clause-copied
returns-clause-copied g c = (packs g c).is_copied

pub returns-clause-kept : goal.returns-clause-kept
returns-clause-kept g c = (packs g c).is_kept

pub returns-clause-hands : goal.returns-clause-hands
returns-clause-hands g c = (packs g c).is_handed

pub returns-clause-left : goal.returns-clause-left
returns-clause-left g c = (packs g c).is_left
