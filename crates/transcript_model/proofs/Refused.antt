-- What fails the test is wrong: the test is exact, where no call met want of memory.
use Rattle.std.proofs.Common.{◌≡◌, ℕ, zero, suc, ◌+◌, ◌-◌, ◌*◌, ◌/◌, ◌<◌, ◌≤◌, Bool, true, false, not, List, [], ◌∷◌}
use Rattle.std.proofs.Common.{refl, ap, sym, ◌∙◌, subst, arith, nat_lt, nat_le}
use Rattle.std.specs.Prelude.{◌==◌, ◌&&◌, ⊤}
use Rattle.std.specs.List.{AllByRecursion}
use Rattle.flake_base.specs.declared.segment.Seg.{Seg}
use Rattle.flake_base.specs.declared.session.End.{End}
use Rattle.flake_base.specs.declared.session.End.TheVariants.{Clean, Protocol, Truncated, TooLong, ReadFault, Memory}
use Rattle.flake_base.specs.declared.session.End.TheVariants.{Left}
use Rattle.reply_layout.specs.declared.need.Need.{Need}
use Rattle.reply_layout.specs.Need.{need_of}
use Rattle.transcript_model.proofs.Buffers.{pool_base, large_base, IsSmall, IsLarge, IsBuffer, all_from}
use Rattle.transcript_model.specs.Lines.{LineEvent, posted, ring_full, stage_full, at_end, sent, dropped}
use Rattle.transcript_model.specs.Lines.{nothing_posted, reaped, nothing_reaped}
use Rattle.pin_core.specs.declared.sizes.Sizes.{Sizes}
use Rattle.transcript_model.specs.Terms.{Terms}
use Rattle.transcript_model.specs.Standing.{Standing, frames_waiting, FitsStanding}
use Rattle.transcript_model.specs.Right.{MayHaveReaped, IsRight, AreRight}
use Rattle.transcript_model.proofs.Judge.{is_seg, are_segs, is_small, is_large, is_buffer, all_buffers, fits, is_fits}
use Rattle.transcript_model.proofs.Judge.{none_fits, post_ok, post_after, ring_ok, stage_ok, gather_ok, reap_ok, ok}
use Rattle.transcript_model.proofs.Judge.{after, all_ok}

joined : (a b : Bool) → a ≡ true → b ≡ true → (a && b) ≡ true
joined a b x y = rw (x, y) refl

le_true : (a b : ℕ) → a ≤ b → nat_le a b ≡ true
le_true a b le = grind arith

lt_true : (a b : ℕ) → a < b → nat_lt a b ≡ true
lt_true a b lt = grind arith

eq_true : (a b : ℕ) → a ≡ b → (a == b) ≡ true
eq_true a b is = grind arith

not_true : (b : Bool) → b ≡ false → not b ≡ true
not_true b is = ap not is

segs_true : (some others : List Seg) → some ≡ others → are_segs some others ≡ true
unfolding are_segs is_seg
segs_true some others is = subst (λ list. are_segs some list ≡ true) is (same some) where
  same : (list : List Seg) → are_segs list list ≡ true
  same [] = refl
  same (seg ∷ list) = joined _ _ (joined _ _ (eq_true seg.address seg.address refl) (eq_true seg.len seg.len refl))
      (same list)

small_true : (buffers : Sizes) (address : ℕ) → IsSmall buffers address → is_small buffers address ≡ true
unfolding is_small
small_true buffers address is =
    let number : (address - pool_base) / 512 ≡ is.number = omega (arith, is.is) in
    joined _ _ (lt_true ((address - pool_base) / 512) buffers.small (omega (arith, number, is.below)))
    (eq_true address (pool_base + 512 * ((address - pool_base) / 512)) (omega (arith, number, is.is)))

large_true : (buffers : Sizes) (address : ℕ) → IsLarge buffers address → is_large buffers address ≡ true
unfolding is_large
large_true buffers address is =
    let number : (address - large_base buffers) / 4096 ≡ is.number = omega (arith, is.is) in
    joined _ _ (lt_true ((address - large_base buffers) / 4096) buffers.large (omega (arith, number, is.below)))
    (eq_true address (large_base buffers + 4096 * ((address - large_base buffers) / 4096))
    (omega (arith, number, is.is)))

buffer_true : (buffers : Sizes) (seg : Seg) → IsBuffer buffers seg → is_buffer buffers seg ≡ true
unfolding is_buffer
buffer_true buffers seg is =
    elim (nat_le seg.len 512) as
    (λ b. elim b as (λ _. Type 0) [ true ↦ IsSmall buffers seg.address | false ↦ IsLarge buffers seg.address ]
    → elim b as (λ _. Bool) [ true ↦ is_small buffers seg.address | false ↦ is_large buffers seg.address ] ≡ true) [
      | true ↦ small_true buffers seg.address
      | false ↦ large_true buffers seg.address
    ] is

buffers_true : (buffers : Sizes) (segs : List Seg) → AllByRecursion (IsBuffer buffers) segs → all_buffers buffers segs
    ≡ true
unfolding all_buffers
buffers_true buffers [] all = refl
buffers_true buffers (seg ∷ segs) all = joined _ _ (buffer_true buffers seg all.0) (buffers_true buffers segs all.1)

fits_false : (terms : Terms) (before : Standing) (need : Need) (gone : ℕ)
    → (FitsStanding terms.ring terms.stage (frames_waiting before gone) need → ⊥) → (b : Bool)
    → fits terms before need gone ≡ b → not b ≡ true
unfolding fits
fits_false terms before need gone never true is =
    absurd (never (record { in_ring = le_is _ _ (both _ _ is).0; in_stage = le_is _ _ (both _ _ is).1 })) where
      both : (a b : Bool) → (a && b) ≡ true → (a ≡ true) × (b ≡ true)
      both true b is = (refl, is)
      both false b is = absurd (cc)

      le_is : (a b : ℕ) → nat_le a b ≡ true → a ≤ b
      le_is a b is = grind arith
fits_false terms before need gone never false is = refl

none_true : (terms : Terms) (before : Standing) (need : Need) (n : ℕ)
    → ((fewer : ℕ) → fewer < n → FitsStanding terms.ring terms.stage (frames_waiting before (before.reaped + fewer))
    need → ⊥) → none_fits terms before need n ≡ true
unfolding none_fits
none_true terms before need zero least = refl
none_true terms before need (suc n) least =
    joined _ _ (fits_false terms before need (before.reaped + n) (least n (omega arith))
    (fits terms before need (before.reaped + n)) refl)
    (none_true terms before need n (λ fewer less. least fewer (omega arith)))

-- no call of the session met want of memory
abbrev pub HasMemory : End → Type 0
HasMemory Memory = ⊥
HasMemory end = ⊤

none_reaped : (end : End) (said : Bool) (n : ℕ) → HasMemory end → MayHaveReaped end said n → n ≡ 0
none_reaped Clean said n has may = may
none_reaped (Protocol kind place) said n has may = may
none_reaped (Truncated place) said n has may = may
none_reaped TooLong said n has may = may
none_reaped ReadFault said n has may = may
none_reaped Memory said n has may = absurd has
none_reaped Left said n has may = may

module _ (terms : Terms) (before next : Standing) (has : HasMemory terms.end.end) where
  -- a right line passes, and leaves what the test says
  passes : (event : LineEvent) → IsRight terms before event next → (ok terms before event ≡ true)
      × (next ≡ after terms before event)
  unfolding ok after post_ok post_after ring_ok stage_ok gather_ok reap_ok
  passes (posted call freed segments fragments) right = (
    ap (post_ok terms before call freed segments fragments) right.asked
        ∙ joined _ _ (eq_true _ _ right.next)
        (joined _ _ (le_true _ _ right.least.gathered)
        (joined _ _ (is_fits terms before (need_of right.command) (before.reaped + freed) right.least.fits)
        (joined _ _ (none_true terms before (need_of right.command) freed right.least.least)
        (joined _ _ (segs_true _ _ right.segments_are)
        (joined _ _ (segs_true _ _ right.fragments_are)
        (buffers_true terms.sizes fragments (all_from terms.sizes fragments right.buffers))))))),
    right.leaves ∙ ap (post_after terms before call freed) (sym right.asked),
  )
  passes (ring_full need_is room_is) right = (
    ap (ring_ok terms before need_is room_is) right.asked ∙ joined _ _ (not_true _ right.open_yet)
        (joined _ _ (eq_true _ _ right.needs) (joined _ _ (eq_true _ _ right.has) (lt_true _ _ right.less))),
    right.leaves,
  )
  passes (stage_full need_is free_is) right = (
    ap (stage_ok terms before need_is free_is) right.asked
        ∙ joined _ _ (not_true _ right.open_yet)
        (joined _ _ (le_true _ _ right.enough)
        (joined _ _ (eq_true _ _ right.needs) (joined _ _ (eq_true _ _ right.has) (lt_true _ _ right.less)))),
    right.leaves,
  )
  passes at_end right =
      let none = none_reaped terms.end.end before.ended right.freed has right.may in (
        joined _ _ (eq_true _ _ right.served)
            (joined _ _ right.known (le_true before.reaped before.gathered (omega (arith, right.gathered)))),
        right.leaves ∙ ap (λ n. let made : Standing = record before { reaped = before.reaped + n; ended = true } in
            made) none,
      )
  passes (sent call bytes) right = (
    joined _ _ (ap (gather_ok terms before call bytes) right.0.posted_is ∙ joined _ _ (eq_true _ _ right.0.next)
        (eq_true _ _ right.0.bytes_are)) (lt_true _ _ right.1),
    right.0.leaves,
  )
  passes (dropped call bytes) right = (
    joined _ _ (ap (gather_ok terms before call bytes) right.0.posted_is ∙ joined _ _ (eq_true _ _ right.0.next)
        (eq_true _ _ right.0.bytes_are)) (le_true _ _ right.1),
    right.0.leaves,
  )
  passes nothing_posted right = (eq_true _ _ right.0, right.1)
  passes (reaped call recycled) right = (
    ap (reap_ok terms before call recycled) right.posted_is ∙ joined _ _ (eq_true _ _ right.next)
        (joined _ _ (lt_true _ _ right.gathered) (le_true _ _ right.recycles)),
    right.leaves,
  )
  passes nothing_reaped right = (eq_true _ _ right.0, right.1)

pub all_pass : (terms : Terms) (before last : Standing) (events : List LineEvent) → HasMemory terms.end.end
    → AreRight terms before events last → all_ok terms before events ≡ true
unfolding all_ok
all_pass terms before last [] has right = refl
all_pass terms before last (event ∷ events) has right =
    let one = passes terms before right.0 has event right.1 in
    joined _ _ one.0 (subst (λ standing. all_ok terms standing events ≡ true) one.1
    (all_pass terms right.0 last events has right.2))

-- lines that fail the test are wrong, whatever they leave
pub refused : (terms : Terms) (before last : Standing) (events : List LineEvent) → HasMemory terms.end.end
    → all_ok terms before events ≡ false → AreRight terms before events last → ⊥
refused terms before last events has fails right = let never : true ≡ false =
    sym (all_pass terms before last events has right) ∙ fails in cc
