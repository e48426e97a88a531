use Rattle.std.proofs.Common.{◌≡◌, ℕ, ◌-◌, ◌++◌, ◌∷◌, [], map, ap, sym, ◌∙◌, subst, arith}
use Rattle.std.specs.List.{cons_option}
use Rattle.view_sums.specs.Total.{Each}
use Rattle.view_sums.proofs.Eachs.{each-front, each-back}
use Rattle.pinned_pool.specs.Moves.{loose_key}
use Rattle.frag_value.specs.Values.{IsValueOf}
use Rattle.frag_value.specs.declared.frag.Frag.{Frag}
use Rattle.frag_value.proofs.Lists.{map-more}
use Rattle.frag_value.proofs.Lasts.{IsLast, out_of_rest, out_of_first, value-front}
use Rattle.frag_value.proofs.frag.Value.last_frag.Goals.{in-Some, in-None+in_ok-frag-in-None}
use Rattle.frag_value.proofs.frag.Value.last_frag.Goals as goal

pub overflow_sub-self : goal.overflow_sub-self
overflow_sub-self g c =
    let pair : Frag g.row.N.Denot → ℕ × ℕ = λ f. (f.hold.buffer, f.len) in
    let z = g.N.PoolName.sizes in
    let was = c.self.inside in
    let now = c.match-pop.self-inside in
    let f = c.match-pop.frag in
    let all = c.self.invariant in
    let left = cons_option now.first now.rest.items in
    let last : IsLast was.first was.rest.items f now.first now.rest.items =
    elim c.match-pop.branch [
      | in-Some w ↦ out_of_rest was.first now.first was.rest.items c.pop.new.self.items now.rest.items f w.in-Some.frag
          all.2 w.in-Some.ensures.items w.frag-is (ap (λ r. r.first) w.self-inside-is)
          (ap (λ r. r.rest.items) w.self-inside-is)
      | in-None+in_ok-frag-in-None w ↦ out_of_first was.first now.first was.rest.items c.pop.new.self.items
          now.rest.items f w.in_ok-frag-in-None.frag (sym w.take.ensures.value ∙ w.in_ok-frag-in-None.was)
          w.in-None.ensures.items (omega (arith, w.in-None.ensures.cases.0, was.rest.ok.0)) w.frag-is
          (ap (λ r. r.first) w.self-inside-is ∙ w.take.ensures.after) (ap (λ r. r.rest.items) w.self-inside-is)
    ] in
    let len : now.len ≡ was.len =
    elim c.match-pop.branch [
      | in-Some w ↦ ap (λ r. r.len) w.self-inside-is
      | in-None+in_ok-frag-in-None w ↦ ap
          (λ r. r.len) w.self-inside-is
    ] in
    let parts : map pair (cons_option was.first was.rest.items) ≡ map pair left ++ pair f ∷ [] =
    ap (map pair) last.whole ∙ map-more pair left f in
    let front = value-front z was.len (map pair left) (pair f) (subst (IsValueOf z was.len) parts all.1) in
    omega (arith, front.1, len, c.from.ensures)

pub invariant_of-self-2 : goal.invariant_of-self-2
invariant_of-self-2 g c =
    let pair : Frag g.row.N.Denot → ℕ × ℕ = λ f. (f.hold.buffer, f.len) in
    let z = g.N.PoolName.sizes in
    let was = c.self.inside in
    let now = c.match-pop.self-inside in
    let f = c.match-pop.frag in
    let all = c.self.invariant in
    let left = cons_option now.first now.rest.items in
    let last : IsLast was.first was.rest.items f now.first now.rest.items =
    elim c.match-pop.branch [
      | in-Some w ↦ out_of_rest was.first now.first was.rest.items c.pop.new.self.items now.rest.items f w.in-Some.frag
          all.2 w.in-Some.ensures.items w.frag-is (ap (λ r. r.first) w.self-inside-is)
          (ap (λ r. r.rest.items) w.self-inside-is)
      | in-None+in_ok-frag-in-None w ↦ out_of_first was.first now.first was.rest.items c.pop.new.self.items
          now.rest.items f w.in_ok-frag-in-None.frag (sym w.take.ensures.value ∙ w.in_ok-frag-in-None.was)
          w.in-None.ensures.items (omega (arith, w.in-None.ensures.cases.0, was.rest.ok.0)) w.frag-is
          (ap (λ r. r.first) w.self-inside-is ∙ w.take.ensures.after) (ap (λ r. r.rest.items) w.self-inside-is)
    ] in
    let len : now.len ≡ was.len =
    elim c.match-pop.branch [
      | in-Some w ↦ ap (λ r. r.len) w.self-inside-is
      | in-None+in_ok-frag-in-None w ↦ ap
          (λ r. r.len) w.self-inside-is
    ] in
    let parts : map pair (cons_option was.first was.rest.items) ≡ map pair left ++ pair f ∷ [] =
    ap (map pair) last.whole ∙ map-more pair left f in
    let front = value-front z was.len (map pair left) (pair f) (subst (IsValueOf z was.len) parts all.1) in
    let loose = subst (Each (λ (h : Frag g.row.N.Denot). h.hold ≡ loose_key h.hold.buffer)) last.whole all.0 in
    let size : was.len - f.len ≡ now.len - c.from.result = omega (arith, len, c.from.ensures) in (
      each-front (λ (h : Frag g.row.N.Denot). h.hold ≡ loose_key h.hold.buffer) left (f ∷ []) loose,
      subst
          (λ n. IsValueOf z n (map pair left)) size front.0,
      last.none,
    )

pub returns-clause-some : goal.returns-clause-some
returns-clause-some g c =
    let pair : Frag g.row.N.Denot → ℕ × ℕ = λ f. (f.hold.buffer, f.len) in
    let was = c.self.inside in
    let now = c.match-pop.self-inside in
    let f = c.match-pop.frag in
    let all = c.self.invariant in
    let left = cons_option now.first now.rest.items in
    let last : IsLast was.first was.rest.items f now.first now.rest.items =
    elim c.match-pop.branch [
      | in-Some w ↦ out_of_rest was.first now.first was.rest.items c.pop.new.self.items now.rest.items f w.in-Some.frag
          all.2 w.in-Some.ensures.items w.frag-is (ap (λ r. r.first) w.self-inside-is)
          (ap (λ r. r.rest.items) w.self-inside-is)
      | in-None+in_ok-frag-in-None w ↦ out_of_first was.first now.first was.rest.items c.pop.new.self.items
          now.rest.items f w.in_ok-frag-in-None.frag (sym w.take.ensures.value ∙ w.in_ok-frag-in-None.was)
          w.in-None.ensures.items (omega (arith, w.in-None.ensures.cases.0, was.rest.ok.0)) w.frag-is
          (ap (λ r. r.first) w.self-inside-is ∙ w.take.ensures.after) (ap (λ r. r.rest.items) w.self-inside-is)
    ] in
    let parts : map pair (cons_option was.first was.rest.items) ≡ map pair left ++ pair f ∷ [] =
    ap (map pair) last.whole ∙ map-more pair left f in
    let loose = subst (Each (λ (h : Frag g.row.N.Denot). h.hold ≡ loose_key h.hold.buffer)) last.whole all.0 in (
      sym c.self.view_is ∙ parts,
      (each-back (λ (h : Frag g.row.N.Denot). h.hold ≡ loose_key h.hold.buffer) left (f ∷ []) loose).0,
    )
