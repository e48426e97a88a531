-- Each step keeps the rule of the table.
use Rattle.std.proofs.Common.{◌≡◌, ℕ, zero, suc, ◌+◌, ◌-◌, ◌^◌, ◌<◌, ◌≤◌, ◌≢◌, ◌⊎◌, List, [], ◌∷◌, ◌++◌, length, set}
use Rattle.std.proofs.Common.{get_or, drop, replicate, Bool, true, false, cond, eqb, sym, refl, ap, ◌∙◌, subst, inl}
use Rattle.std.proofs.Common.{inr, ⊎_elim, length-set, get_or-set_other, get_or-set_same, eq-eqb, ne_eqb, arith}
use mathlib.Core.Logic.{dite}
use mathlib.Core.Option.{some, some-injective, some-ne-none}
use native.Mathlib.Decide.{ℕ_discrete}
use lib.ListN.{get_elem?}
use Rattle.std.proofs.lemmas.List.{drop-set-lt, drop-replicate, get_or-drop, length-replicate}
use Rattle.atomic_table.proofs.Lists.{at_set, at_snoc, set_else}
use Rattle.view_sums.specs.Total.{total, same, Each}
use Rattle.view_sums.proofs.Sums.{total-alone, total-append, total-set, term-le, terms-le}
use Rattle.view_sums.proofs.Eachs.{each-imp}
use Rattle.pin_core.specs.Buffers.{buffers, start, word_count}
use Rattle.pin_core.specs.Holding.{Holding, Key, at, loose_at, pin_of, fresh}
use Rattle.pin_core.specs.Pins.{Pins}
use Rattle.pin_core.specs.Sound.{IsSound, misfit, opened_pins}
use Rattle.pin_core.specs.declared.sizes.Sizes.{Sizes}
use Rattle.pin_core.proofs.Weights.{list_weighing, at-on, at-off, at-le, Fits, fits}
use Rattle.pin_core.proofs.Steps.{same_sound, claim_sound, pin_sound, unpin_sound, opened_sound}
use Rattle.pinned_pool.specs.Views.{nobody, opener, among, looked_at, all_holds, all_claims, all_looks, all_lasts}
use Rattle.pinned_pool.specs.Views.{IsLoose, OneFront}
use Rattle.pinned_pool.specs.Moves.{meant_count, without, front_of, won, lost, pin, put, unpin, split_old, split_new}
use Rattle.pinned_pool.specs.Moves.{joined_views}
use Rattle.pinned_pool.specs.Rule.{table_words, word_at, pins_of, IsSoundTable}
use Rattle.pinned_pool.specs.declared.view.View.{View}
use Rattle.pinned_pool.proofs.Keys.{total-without, total-left_by, found, times-at}
use Rattle.pinned_pool.proofs.Fronts.{Picked, pick, total-share, total-write}
use Rattle.pinned_pool.proofs.Listed.{weigh_all, count_credits}
use Rattle.pinned_pool.proofs.Events.{claim_event, look_event, pin_event, unpin_event}

-- a fact about each view, once one of them changed
pub each_changed : (P : View → Type 0) (views : List View) (seat : ℕ) (w : View)
    → ((j : ℕ) (u : View) → get_elem? views j ≡ some u → P u) → P w
    → (j : ℕ) (u : View) → get_elem? (set views seat w) j ≡ some u → P u
each_changed P views seat w all mine j u e = ⊎_elim (λ (t : (j ≡ seat) × (w ≡ u)). subst P t.1 mine)
    (λ (t : (j ≢ seat) × (get_elem? views j ≡ some u)). all j u t.1) (at_set views seat j w u e)

same-yes : (a b : ℕ) → a ≡ b → same a b ≡ 1
same-yes a b e = ap (λ t. cond t 1 0) (eq-eqb a b e)

same-no : (a b : ℕ) → a ≢ b → same a b ≡ 0
same-no a b n = ap (λ t. cond t 1 0) (ne_eqb a b n)

-- whether there is one
pub any-some : (n : ℕ) → 0 < n → (let m : ℕ = cond (eqb n 0) 0 1 in m ≡ 1)
any-some n more = ap (λ t. let m : ℕ = cond t 0 1 in m) (ne_eqb n 0 (λ e. omega arith))

-- how often a buffer stands in the lasts once it, or another one, may have gone there
last-else : (t : Bool) (b c : ℕ) (bs : List ℕ) → b ≢ c → among c (cond t (bs ++ b ∷ []) bs) ≡ among c bs
last-else true b c bs ne = omega (arith, total-append (λ x. same x c) bs (b ∷ []), same-no b c ne)
last-else false b c bs ne = refl

last-here : (t : Bool) (b : ℕ) (bs : List ℕ) → t ≡ true → among b (cond t (bs ++ b ∷ []) bs) ≡ among b bs + 1
last-here t b bs e = ap (λ s. among b (cond s (bs ++ b ∷ []) bs)) e
    ∙ omega (arith, total-append (λ x. same x b) bs (b ∷ []), same-yes b b refl)

last-not : (t : Bool) (b : ℕ) (bs : List ℕ) → t ≡ false → among b (cond t (bs ++ b ∷ []) bs) ≡ among b bs
last-not t b bs e = ap (λ s. among b (cond s (bs ++ b ∷ []) bs)) e

-- holds of which none misfits
each_fits : (z : Sizes) (fronts : ℕ → List ℕ) (hs : List Holding) → total (misfit z fronts) hs ≡ 0
    → Each (Fits z fronts) hs
each_fits z fronts [] none = tt
each_fits z fronts (h ∷ hs) none = (fits z fronts h (omega arith), each_fits z fronts hs (omega arith))

module _ (z : Sizes) (words : List ℕ) (views : List View) (s : IsSoundTable z words views) where
  abbrev pub pins : Pins ℕ
  pins = pins_of z words views

  pub loose-of : (b : ℕ) → all_holds (loose_at b) views ≤ 1
  loose-of b = omega (arith, s.held.held.loose b, weigh_all (loose_at b) views)

  pub credits-of : all_holds pin_of views + total (λ (v : View). v.credits) views ≡ z.credits
  credits-of = omega (arith, s.held.credited, weigh_all pin_of views, count_credits views)

  -- no count word comes near to its limit
  pub few-holds : (b : ℕ) → b < buffers z → get_or words b 0 ≤ 2 ^ 31 + 1
  few-holds b near =
      let weighing = list_weighing pins.holds in
      omega (
        arith,
        s.counted b near,
        s.few,
        credits-of,
        loose-of b,
        weighing.le (at b) (λ h. pin_of h + loose_at b h) (at-le b),
        weighing.add pin_of (loose_at b),
        weigh_all (at b) views,
        weigh_all pin_of views,
        weigh_all (loose_at b) views,
      )

  -- a buffer that has a hold was claimed
  pub claimed-of : (b : ℕ) → 0 < all_holds (at b) views → 0 < all_claims b views
  claimed-of b more = omega (arith, s.ended b, any-some (all_holds (at b) views) more)

  module _ (seat : ℕ) (v : View) (me : get_elem? views seat ≡ some v) where
    -- the seat's holds fit the pool
    pub fits-of : Each (Fits z s.held.held.fronts) v.holds
    fits-of =
        let weight = misfit z s.held.held.fronts in
        each_fits z s.held.held.fronts v.holds
        (omega (
          arith,
          term-le (λ (u : View). total weight u.holds) views seat v me,
          weigh_all weight views,
          s.held.held.fitting,
        ))

    -- and so does the first hold of a buffer
    pub first_fits : (b : ℕ) (p : Picked b v.holds) → Fits z s.held.held.fronts p.hold
    first_fits b p =
        let weight = misfit z s.held.held.fronts in
        fits z s.held.held.fronts p.hold
        (omega (
          arith,
          p.sums weight,
          term-le (λ (u : View). total weight u.holds) views seat v me,
          weigh_all weight
              views,
          s.held.held.fitting,
        ))

    pub near-of : (b : ℕ) → 0 < total (at b) v.holds → b < buffers z
    near-of b has = let p = pick b v.holds has in omega (arith, (first_fits b p).near, p.buffer)

    pub key-near : (k : Key) → 0 < meant_count k v.holds → k.buffer < buffers z
    key-near k has = near-of k.buffer (omega (arith, times-at k v.holds))

    -- the seat that wins a buffer had no hold of it
    pub free-of : (b : ℕ) → b < buffers z → get_or words b 0 ≡ 0 → total (at b) v.holds ≡ 0
    free-of b near free = omega (arith, s.counted b near, term-le (λ (u : View). total (at b) u.holds) views seat v me)

    -- a step on the count word of the buffer b
    moved : (w : View) (b n : ℕ) → b < buffers z → IsSound z (pins_of z (set words b n) (set views seat w))
        → ((c : ℕ) → c ≢ b → total (at c) w.holds ≡ total (at c) v.holds)
        → n + total (at b) v.holds ≡ get_or words b 0 + total (at b) w.holds
        → (w.credits ≡ 0 → w ≡ nobody)
        → ((c : ℕ) → among c v.claims ≤ among c w.claims)
        → ((c : ℕ) → c ≢ b → among c w.claims + among c v.lasts ≡ among c v.claims + among c w.lasts)
        → all_claims b (set views seat w) ≡ all_lasts b (set views seat w) + cond (eqb n 0) 0 1
        → ((c : ℕ) → 0 < all_looks c (set views seat w)
        → (0 < all_looks c views) ⊎ (0 < all_claims c (set views seat w)))
        → IsSoundTable z (set words b n) (set views seat w)
    moved w b n near held apart count live more apart_ends ends looked =
        let after : List View = set views seat w in
        let change = λ (f : Holding → ℕ). total-set (λ (u : View). total f u.holds) views seat v w me in
        let here : n ≡ all_holds (at b) after = omega (arith, s.counted b near, change (at b)) in
        let claims = λ (c : ℕ). total-set (λ (u : View). among c u.claims) views seat v w me in
        let lasts = λ (c : ℕ). total-set (λ (u : View). among c u.lasts) views seat v w me in
        record {
          sized = length-set words b n ∙ s.sized;
          few = s.few;
          counted = λ c h. dite (ℕ_discrete c b)
              (λ e. subst (λ k. get_or (set words b n) k 0 ≡ all_holds (at k) after) (sym e)
              (get_or-set_same words b n 0 (omega (arith, s.sized)) ∙ here))
              (λ ne. get_or-set_other words b c n 0 ne ∙ omega (arith, s.counted c h, change (at c), apart c ne));
          held = held;
          live = each_changed (λ u. u.credits ≡ 0 → u ≡ nobody) views seat w s.live live;
          ended = λ c. dite (ℕ_discrete c b)
              (λ e. subst (λ k. all_claims k after ≡ all_lasts k after + cond (eqb (all_holds (at k) after) 0) 0 1)
              (sym e) (ends ∙ ap (λ k. all_lasts b after + cond (eqb k 0) 0 1) here))
              (λ ne. let same_holds : all_holds (at c) views ≡ all_holds (at c) after =
              omega (arith, change (at c), apart c ne) in
              omega (
                arith,
                s.ended c ∙ ap (λ k. all_lasts c views + cond (eqb k 0) 0 1) same_holds,
                claims c,
                lasts c,
                apart_ends c ne,
              ));
          looked = λ c more_looks. ⊎_elim
              (λ (was : 0 < all_looks c views). omega (arith, s.looked c was, claims c, more c)) (λ now. now)
              (looked c more_looks);
        }

    pub wins : 0 < v.credits → (b : ℕ) → b < buffers z → get_or words b 0 ≡ 0
        → IsSoundTable z (set words b 1) (set views seat (won b v))
    wins rich b near free =
        let w : View = won b v in
        let claims = λ (c : ℕ). total-append (λ x. same x c) v.claims (b ∷ []) in
        let none : all_holds (at b) views ≡ 0 = sym (s.counted b near) ∙ free in
        moved w b 1 near (claim_sound z pins (pins_of z (set words b 1) (set views seat w)) s.held b seat near
        (claim_event z words views s seat v me b near free))
        (λ c ne. omega (arith, at-off c (fresh b) (λ e. ne (sym e))))
        (omega (arith, at-on b (fresh b) refl))
        (λ poor. absurd (omega arith))
        (λ c. omega (arith, claims c))
        (λ c ne. omega (arith, claims c, same-no b c (λ e. ne (sym e))))
        (omega (
          arith,
          total-set (λ (u : View). among b u.claims) views seat v w me,
          total-set (λ (u : View). among b u.lasts) views seat v w me,
          claims b,
          same-yes b b refl,
          s.ended b ∙ ap (λ k. all_lasts b views + cond (eqb k 0) 0 1) none,
        ))
        (λ c more_looks. inl (omega (arith, total-set (λ (u : View). looked_at c u.looks) views seat v w me)))

    pub misses : 0 < v.credits → (b : ℕ) → b < buffers z → get_or words b 0 ≢ 0
        → IsSoundTable z (set words b (get_or words b 0)) (set views seat (lost b (get_or words b 0) v))
    misses rich b near taken =
        let n : ℕ = get_or words b 0 in
        let w : View = lost b n v in
        let after : List View = set views seat w in
        let event = look_event z words views s seat v me b n in
        let claims = λ (c : ℕ). total-set (λ (u : View). among c u.claims) views seat v w me in
        let won_before : 0 < all_claims b after =
        omega (arith, claimed-of b (omega (arith, s.counted b near)), claims b) in
        moved w b n near (same_sound z pins (pins_of z (set words b n) after) s.held event.holds
        (drop-set-lt (buffers z) words b n near) event.credits)
        (λ c ne. refl)
        refl
        (λ poor. absurd (omega arith))
        (λ c. omega arith)
        (λ c ne. refl)
        (omega (
          arith,
          claims b,
          total-set (λ (u : View). among b u.lasts) views seat v w me,
          s.ended b
              ∙ ap (λ k. all_lasts b views + cond (eqb k 0) 0 1) (sym (s.counted b near)),
        ))
        (λ c more_looks. dite (ℕ_discrete b c) (λ e. inr (subst (λ k. 0 < all_claims k after) e won_before))
        (λ ne. inl (omega (
          arith,
          total-set (λ (u : View). looked_at c u.looks) views seat v w me,
          total-append (λ (l : ℕ × ℕ). same l.0 c) v.looks ((b, n) ∷ []),
          same-no b c ne,
          more_looks,
        ))))

    pub adds_pin : (b : ℕ) → 0 < total (at b) v.holds → 1 < v.credits
        → IsSoundTable z (set words b (get_or words b 0 + 1)) (set views seat (pin b v))
    adds_pin b has rich =
        let n : ℕ = get_or words b 0 in
        let w : View = pin b v in
        let near = near-of b has in
        let ats = λ (c : ℕ). total-share (λ x p. cond (eqb x c) 1 0) b v.holds in
        moved w b (n + 1) near
        (pin_sound z pins (pins_of z (set words b (n + 1)) (set views seat w)) s.held b seat seat
        (pin_event z words views s seat v me b (n + 1) near has rich))
        (λ c ne. omega (arith, ats c, same-no b c (λ e. ne (sym e))))
        (omega (arith, ats b, same-yes b b refl))
        (λ poor. absurd (omega arith))
        (λ c. omega arith)
        (λ c ne. refl)
        (omega (
          arith,
          total-set (λ (u : View). among b u.claims) views seat v w me,
          total-set (λ (u : View). among b u.lasts) views seat v w me,
          s.ended b,
          any-some (all_holds (at b) views)
              (omega (arith, term-le (λ (u : View). total (at b) u.holds) views seat v me)),
          any-some (n + 1) (omega arith),
        ))
        (λ c more_looks. inl (omega (arith, total-set (λ (u : View). looked_at c u.looks) views seat v w me)))

    -- one hold fewer
    pub record Unpins (k : Key) (n : ℕ) : Type 0 where
      pub near : k.buffer < buffers z
      pub sound : IsSoundTable z (set words k.buffer (n - 1)) (set views seat (unpin (eqb n 1) k v))
      pub fewer : total (at k.buffer) (without k v.holds) < n

    pub unpins : 0 < v.credits → (k : Key) → 0 < meant_count k v.holds → Unpins k (get_or words k.buffer 0)
    unpins rich k has =
        let b : ℕ = k.buffer in
        let n : ℕ = get_or words b 0 in
        let w : View = unpin (eqb n 1) k v in
        let near = key-near k has in
        let m = found k v.holds has in
        let gone : (f : Holding → ℕ) → f m.hold + total f w.holds ≡ total f v.holds =
        λ f. omega (arith, total-without f k v.holds, ap (total f) m.here) in
        let one : at b m.hold ≡ 1 = at-on b m.hold (ap (λ (j : Key). j.buffer) m.key) in
        let mine = term-le (λ (u : View). total (at b) u.holds) views seat v me in
        let count = s.counted b near in
        let claims = total-set (λ (u : View). among b u.claims) views seat v w me in
        let lasts = total-set (λ (u : View). among b u.lasts) views seat v w me in
        record {
          near = near;
          sound = moved w b (n - 1) near
              (unpin_sound z pins (pins_of z (set words b (n - 1)) (set views seat w)) s.held k seat
              (unpin_event z words views s seat v me (eqb n 1) k (n - 1) near has))
              (λ c ne. omega (arith, gone (at c), at-off c m.hold (λ e. ne (sym e ∙ ap (λ (j : Key). j.buffer) m.key))))
              (omega (arith, gone (at b), one, mine, count))
              (λ poor. absurd (omega arith))
              (λ c. omega arith)
              (λ c ne. omega (arith, last-else (eqb n 1) b c v.lasts (λ e. ne (sym e))))
              (dite (ℕ_discrete n 1)
              (λ e. let none_left : n - 1 ≡ 0 = omega (arith, e) in
              omega (
                arith,
                last-here (eqb n 1) b v.lasts (eq-eqb n 1 e),
                ap {B = ℕ} (λ j. cond (eqb j 0) 0 1)
                    none_left,
                claims,
                lasts,
                s.ended b,
                any-some (all_holds (at b) views) (omega (arith, e, count)),
              ))
              (λ ne. omega (
                arith,
                last-not (eqb n 1) b v.lasts (ne_eqb n 1 ne),
                claims,
                lasts,
                s.ended b,
                any-some (all_holds (at b) views) (omega (arith, gone (at b), one, mine)),
                any-some (n - 1) (omega (arith, gone (at b), one, mine, count, ne)),
              )))
              (λ c more_looks. inl (omega (arith, total-set (λ (u : View). looked_at c u.looks) views seat v w me)));
          fewer = omega (arith, gone (at b), one, mine, count);
        }

  -- a step that leaves all counts, claims, looks and lasts
  settled : (new : List ℕ) (after : List View) → length new ≡ length words
      → ((b : ℕ) → b < buffers z → get_or new b 0 ≡ get_or words b 0) → IsSound z (pins_of z new after)
      → ((b : ℕ) → all_holds (at b) after ≡ all_holds (at b) views)
      → ((b : ℕ) → all_claims b after ≡ all_claims b views)
      → ((b : ℕ) → all_looks b after ≡ all_looks b views)
      → ((b : ℕ) → all_lasts b after ≡ all_lasts b views)
      → ((j : ℕ) (u : View) → get_elem? after j ≡ some u → u.credits ≡ 0 → u ≡ nobody)
      → IsSoundTable z new after
  settled new after long counts held holds claims looks lasts live = record {
    sized = long ∙ s.sized;
    few = s.few;
    counted = λ b h. counts b h ∙ s.counted b h ∙ sym (holds b);
    held = held;
    live = live;
    ended = λ b. claims b ∙ s.ended b ∙ (λ j. sym (lasts b) j + cond (eqb (sym (holds b) j) 0) 0 1);
    looked = λ b more. omega (arith, claims b, s.looked b (omega (arith, looks b)));
  }

  module _ (seat : ℕ) (v : View) (me : get_elem? views seat ≡ some v) where
    pub puts : 0 < v.credits → (b i x : ℕ) → 0 < total (at b) v.holds
        → IsSound z (pins_of z (set words (word_at z b i) x) (set views seat (put b i x v)))
        → IsSoundTable z (set words (word_at z b i) x) (set views seat (put b i x v))
    puts rich b i x has held =
        let w : View = put b i x v in
        let new : List ℕ = set words (word_at z b i) x in
        settled new (set views seat w) (length-set words (word_at z b i) x)
        (λ c near. get_or-set_other words (word_at z b i) c x 0 (λ e. absurd (omega (arith, e)))) held
        (λ c. omega (
          arith,
          total-set (λ (u : View). total (at c) u.holds) views seat v w me,
          total-write
              (λ y e p. cond (eqb y c) 1 0) b i x v.holds,
        ))
        (λ c. omega (arith, total-set (λ (u : View). among c u.claims) views seat v w me))
        (λ c. omega (arith, total-set (λ (u : View). looked_at c u.looks) views seat v w me))
        (λ c. omega (arith, total-set (λ (u : View). among c u.lasts) views seat v w me))
        (each_changed (λ u. u.credits ≡ 0 → u ≡ nobody) views seat w s.live (λ poor. absurd (omega arith)))

    pub splits : (ks : List Key) (n : ℕ) → 0 < n → n < v.credits
        → IsSound z (pins_of z words (set views seat (split_old ks n v) ++ split_new ks n v ∷ []))
        → IsSoundTable z words (set views seat (split_old ks n v) ++ split_new ks n v ∷ [])
    splits ks n more less held =
        let l : View = split_old ks n v in
        let r : View = split_new ks n v in
        let between : List View = set views seat l in
        let cut : (f : View → ℕ) → f l + f r ≡ f v → total f (between ++ r ∷ []) ≡ total f views =
        λ f e. omega (arith, e, total-append f between (r ∷ []), total-set f views seat v l me) in
        settled words (between ++ r ∷ []) refl (λ b h. refl) held
        (λ b. cut (λ u. total (at b) u.holds) (omega (arith, total-left_by (at b) ks v.holds)))
        (λ b. cut (λ u. among b u.claims) (omega arith))
        (λ b. cut (λ u. looked_at b u.looks) (omega arith))
        (λ b. cut (λ u. among b u.lasts) (omega arith))
        (λ j u e. ⊎_elim (λ (was : get_elem? between j ≡ some u). each_changed (λ y. y.credits ≡ 0 → y ≡ nobody) views
        seat l s.live (λ poor. absurd (omega arith)) j u was)
        (λ (new : r ≡ u). subst (λ (y : View). y.credits ≡ 0 → y ≡ nobody) new (λ poor. absurd (omega arith)))
        (at_snoc between r u j e))

    pub joins : 0 < v.credits → (other : ℕ) (w : View) → other ≢ seat → get_elem? views other ≡ some w
        → IsSound z (pins_of z words (set (set views seat (joined_views v w)) other nobody))
        → IsSoundTable z words (set (set views seat (joined_views v w)) other nobody)
    joins rich other w apart there held =
        let both : View = joined_views v w in
        let between : List View = set views seat both in
        let still : get_elem? between other ≡ some w = set_else views seat other both apart ∙ there in
        let glue : (f : View → ℕ) → f both ≡ f v + f w → f nobody ≡ 0 → total f (set between other nobody)
        ≡ total f views = λ f e none. omega
        (arith, e, none, total-set f between other w nobody still, total-set f views seat v both me) in
        settled words (set between other nobody) refl (λ b h. refl) held
        (λ b. glue (λ u. total (at b) u.holds) (total-append (at b) v.holds w.holds) refl)
        (λ b. glue (λ u. among b u.claims) (total-append (λ x. same x b) v.claims w.claims) refl)
        (λ b. glue (λ u. looked_at b u.looks) (total-append (λ (l : ℕ × ℕ). same l.0 b) v.looks w.looks) refl)
        (λ b. glue (λ u. among b u.lasts) (total-append (λ x. same x b) v.lasts w.lasts) refl)
        (each_changed (λ u. u.credits ≡ 0 → u ≡ nobody) between other nobody
        (each_changed (λ u. u.credits ≡ 0 → u ≡ nobody) views seat both s.live (λ poor. absurd (omega arith)))
        (λ poor. refl))

    -- what the rule says of one seat's holds
    pub knows-loose : IsLoose v
    knows-loose b = omega (arith, term-le (λ (u : View). total (loose_at b) u.holds) views seat v me, loose-of b)

    pub knows-fronts : OneFront v
    knows-fronts = let all = fits-of seat v me in (
      s.held.held.fronts,
      each-imp (Fits z s.held.held.fronts) (λ h. h.front ≡ s.held.held.fronts h.buffer)
          (λ h f. f.front_is) v.holds all,
    )

    -- a load under a hold tells a word of its front
    pub loads : (b i : ℕ) → 0 < total (at b) v.holds → i < length (front_of b v.holds) → get_or words (word_at z b i) 0
        ≡ get_or (front_of b v.holds) i 0
    loads b i has short =
        let p = pick b v.holds has in
        let f = first_fits seat v me b p in
        let front : front_of b v.holds ≡ s.held.held.fronts b = p.front ∙ f.front_is ∙ ap s.held.held.fronts p.buffer in
        sym (get_or-drop (buffers z) words (start z b + i) 0) ∙ s.held.held.begun b i (near-of seat v me b has)
        (subst (λ xs. i < length xs) front short) ∙ ap (λ xs. get_or xs i 0) (sym front)

    -- a seat with all credits is the only one that has anything
    pub all-alone : v.credits ≡ z.credits → (g : View → ℕ) → g nobody ≡ 0 → total g views ≡ g v
    all-alone all g none = total-alone g views seat v me
        (λ k u ne e. ap g (s.live k u e
        (omega (arith, terms-le (λ (x : View). x.credits) views seat k v u ne me e, credits-of))) ∙ none)

-- the opening
get_or-zeros : (n i : ℕ) → let k : ℕ = get_or (replicate n 0) i 0 in k ≡ 0
get_or-zeros zero i = refl
get_or-zeros (suc n) zero = refl
get_or-zeros (suc n) (suc i) = get_or-zeros n i

pub begins : (z : Sizes) → 0 < z.credits → z.credits ≤ 2 ^ 31 → IsSoundTable z (replicate (table_words z) 0)
    (opener z.credits ∷ [])
begins z rich few = record {
  sized = length-replicate (table_words z) 0;
  few = few;
  counted = λ b h. get_or-zeros (table_words z) b;
  held = same_sound z (opened_pins z 0) (pins_of z (replicate (table_words z) 0) (opener z.credits ∷ []))
      (opened_sound z 0) (λ f. refl) zeros (λ f. total-append f (replicate z.credits 0) [] ∙ omega arith);
  live = λ seat v e poor. live seat v e poor;
  ended = λ b. refl;
  looked = λ b h. absurd (omega arith);
}
  where
    zeros : drop {A = ℕ} (buffers z) (replicate (table_words z) 0) ≡ replicate (word_count z) 0
    zeros = drop-replicate {X = ℕ} (buffers z) (table_words z) 0 ∙ ap {B = List ℕ} (λ (n : ℕ). replicate n 0)
        (omega arith)

    live : (seat : ℕ) (v : View) → get_elem? (opener z.credits ∷ []) seat ≡ some v → v.credits ≡ 0 → v ≡ nobody
    live zero v e poor = absurd (omega (arith, ap (λ (u : View). u.credits) (some-injective _ _ e)))
    live (suc seat) v e poor = absurd (some-ne-none v (sym e))
