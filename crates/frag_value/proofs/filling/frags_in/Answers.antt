use Rattle.std.proofs.Common.{◌≡◌, ℕ, ◌-◌, ◌*◌, ◌++◌, ◌∷◌, [], min, map, length, ap, refl, sym, ◌∙◌, subst}
use Rattle.std.proofs.Common.{append_assoc, append-nil, length-append, arith}
use Rattle.std.specs.Vec.Iter.{into_iter_items, into_iter_len}
use Rattle.std.proofs.lemmas.List.{nil_from_length}
use Rattle.view_sums.specs.Total.{Each}
use Rattle.view_sums.proofs.Eachs.{each-back}
use Rattle.pin_core.specs.Holding.{Key}
use Rattle.pinned_pool.specs.Moves.{loose_key}
use Rattle.frag_value.specs.Filled.{cut_of}
use Rattle.frag_value.specs.declared.frag.Frag.{Frag}
use Rattle.frag_value.proofs.Lists.{map-more, each-more}
use Rattle.frag_value.proofs.Ready.{cut-push}
use Rattle.frag_value.proofs.filling.frags_in.Goals as goal

pub loop-hold-init : goal.loop-hold-init
loop-hold-init g c =
    let pair : Frag g.row.N.Denot → ℕ × ℕ = λ f. (f.hold.buffer, f.len) in
    let gives = c.into_iter-hold-iterator.ensures.into_iter_gives in
    let none = c.requires.none.0 in
    record {
      all = refl;
      behind = ap into_iter_len gives ∙ c.requires.room.0 ∙ ap (λ it. length (into_iter_items it)) (sym gives);
      cut = ap (map pair) none;
      loose = subst (Each (λ (f : Frag g.row.N.Denot). f.hold ≡ loose_key f.hold.buffer)) (sym none) tt;
      left = omega arith;
      count = c.requires.none.1;
      room = refl;
    }

pub push_reserved-requires : goal.push_reserved-requires
push_reserved-requires g c =
    let i = c.loop-hold.invariant in
    let steps = c.in-Some.ensures.steps.0 in
    let gives = c.into_iter-hold-iterator.ensures.into_iter_gives in
    let all = i.all ∙ ap into_iter_items gives in
    omega (
      arith,
      i.count,
      i.room,
      c.requires.room.0,
      c.requires.room.1,
      ap length all,
      ap length steps,
      length-append
          c.loop-hold.yielded (into_iter_items c.loop-hold.hold-iterator),
    )

pub loop-hold-preserved : goal.loop-hold-preserved
loop-hold-preserved g c =
    let pair : Frag g.row.N.Denot → ℕ × ℕ = λ f. (f.hold.buffer, f.len) in
    let i = c.loop-hold.invariant in
    let done = c.loop-hold.yielded in
    let hold = c.in-Some.hold in
    let behind = into_iter_items c.next.new.self in
    let steps : into_iter_items c.loop-hold.hold-iterator ≡ hold ∷ behind = c.in-Some.ensures.steps.0 in
    let gives = c.into_iter-hold-iterator.ensures.into_iter_gives in
    let parts : done ++ (hold ∷ behind) ≡ into_iter_items c.args.holds = ap (λ l. done ++ l) (sym steps) ∙ i.all
    ∙ ap into_iter_items gives in
    let loose = (each-back (λ (k : Key). k ≡ loose_key k.buffer) done (hold ∷ behind)
    (subst (Each (λ (k : Key). k ≡ loose_key k.buffer)) (sym parts) c.requires.loose)).0 in
    let size : c.min-size.result ≡ min 4096 (c.args.len - 4096 * length done) =
    omega (arith, c.min-size.ensures, i.left) in
    let items = c.push_reserved.ensures.items in
    let one = length-append done (hold ∷ []) in
    record {
      all = append_assoc done (hold ∷ []) behind ∙ ap (λ l. done ++ l) (sym steps) ∙ i.all;
      behind = omega (arith, i.behind, c.in-Some.ensures.steps.1, ap length steps);
      cut = ap (map pair) items ∙ map-more _ _ _ ∙ (λ j. i.cut j ++ (hold.buffer, size j) ∷ [])
          ∙ sym (cut-push c.args.len done hold);
      loose = each-more _ _ _ _ items i.loose loose;
      left = omega (arith, size, i.left, one);
      count = omega (arith, c.push_reserved.ensures.len, i.count, one);
      room = c.push_reserved.ensures.capacity ∙ i.room;
    }

pub returns-clause-cut : goal.returns-clause-cut
returns-clause-cut g c =
    let i = c.loop-hold.invariant in
    let gives = c.into_iter-hold-iterator.ensures.into_iter_gives in
    let none : into_iter_items c.loop-hold.hold-iterator ≡ [] =
    nil_from_length _ (omega (arith, i.behind, c.in-None.ensures.steps.0)) in
    let all : c.loop-hold.yielded ≡ into_iter_items c.args.holds = sym (append-nil c.loop-hold.yielded)
    ∙ ap (λ l. c.loop-hold.yielded ++ l) (sym none) ∙ i.all ∙ ap into_iter_items gives in
    i.cut ∙ ap (cut_of c.args.len) all
