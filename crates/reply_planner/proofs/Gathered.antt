-- A segment's bytes, where a device finds them.
use Rattle.std.proofs.Common.{◌≡◌, ℕ, ◌+◌, ◌*◌, ◌/◌, ◌%◌, ◌<◌, ◌≤◌, List, length, get_or, Some, sym, ap, ◌∙◌, subst}
use Rattle.std.proofs.Common.{arith}
use Rattle.std.specs.List.{slice_get}
use Rattle.std.proofs.lemmas.List.{length-map, get_or-map}
use Rattle.view_sums.specs.Total.{total}
use Rattle.pin_core.specs.Buffers.{buffer_words}
use Rattle.pin_core.specs.Holding.{Key, at}
use Rattle.pin_core.specs.declared.sizes.Sizes.{Sizes}
use Rattle.pinned_pool.specs.Addresses.{address_of, Covers}
use Rattle.pinned_pool.specs.Moves.{front_of}
use Rattle.pinned_pool.specs.Named.{IsSeat}
use Rattle.pinned_pool.specs.declared.view.View.{View}
use Rattle.pinned_pool.proofs.Within.{held-near, front-short}
use Rattle.flake_base.specs.declared.segment.Seg.{Seg}
use Rattle.reply_planner.specs.Owned.{key_buffers}
use Rattle.reply_planner.specs.Parcels.{HasBytes, HasWord, IsCopied}
use Rattle.reply_planner.specs.Places.{place_of, buffer_addresses, IsReadable}
use Rattle.reply_planner.proofs.Placed.{place-is, place-covered}

-- the buffer that covers its address has them all
pub has_bytes : (z : Sizes) (segments : List Seg) (i b from k n : ℕ) (seg : Seg) → slice_get segments i ≡ Some seg
    → Covers z b from seg.address → k + n ≤ seg.len → HasBytes z segments b (from + k) n
has_bytes z segments i b from k n seg found covers within =
    let place = place-covered z b from seg.address covers in
    let first : (place_of z seg.address).0 ≡ b = ap (λ (p : ℕ × ℕ). p.0) place in
    let second : (place_of z seg.address).1 ≡ from = ap (λ (p : ℕ × ℕ). p.1) place in
    record {
      place = i;
      segment = seg;
      found = found;
      buffer = first;
      within = (omega (arith, second), omega (arith, second, within));
    }

-- and a word of each
pub has_word : (z : Sizes) (segments : List Seg) (i b from k : ℕ) (seg : Seg) → slice_get segments i ≡ Some seg
    → Covers z b from seg.address → k < seg.len → HasWord z segments b ((from + k) / 8)
has_word z segments i b from k seg found covers within =
    record {
      from = from + k;
      byte = has_bytes z segments i b from k 1 seg found covers (omega (arith, within));
      of_word = (omega arith, omega arith);
    }

-- bytes in a buffer that is held may be read
pub is_readable : (z : Sizes) (v : View) (b from len address : ℕ) → IsSeat z v → 0 < total (at b) v.holds → 0 < len
    → from + len ≤ 8 * length (front_of b v.holds) → address ≡ address_of z b + from
    → IsReadable z v.holds (record { address = address; len = len })
is_readable z v b from len address seat held some within is =
    let inside : from < 8 * buffer_words z b = omega (arith, some, within, front-short z v seat b held) in
    let place : (b, from) ≡ place_of z address = sym (ap (place_of z) is ∙ place-is z b from inside) in
    record {
      some = some;
      held = record {
        covered = subst (λ (p : ℕ × ℕ). Covers z p.0 p.1 address) place (held-near z v seat b held, inside, is);
        held = subst (λ (p : ℕ × ℕ). 0 < total (at p.0) v.holds) place held;
        within = subst (λ (p : ℕ × ℕ). p.1 + len ≤ 8 * length (front_of p.0 v.holds)) place within;
      };
    }

-- bytes in one staging buffer
pub is_copied : (z : Sizes) (ks : List Key) (k : Key) (from len address bytes : ℕ) → from / 512 < length ks
    → k ≡ get_or ks (from / 512) k → address ≡ address_of z k.buffer + from % 512 → 0 < len → from % 512 + len ≤ 512
    → from + len ≤ bytes
    → IsCopied (buffer_addresses z (key_buffers ks)) bytes (record { address = address; len = len })
is_copied z ks k from len address bytes near is at some in_one in_text =
    let buffer : get_or (key_buffers ks) (from / 512) 0 ≡ k.buffer = get_or-map (λ (j : Key). j.buffer) ks
    (from / 512) k 0 near ∙ ap (λ (j : Key). j.buffer) (sym is) in
    let first : get_or (buffer_addresses z (key_buffers ks)) (from / 512) 0 ≡ address_of z k.buffer =
    get_or-map (address_of z) (key_buffers ks) (from / 512) 0 0
    (omega (arith, near, length-map {B = ℕ} ks (λ (j : Key). j.buffer))) ∙ ap (address_of z) buffer in
    record {
      place = from;
      address_is = at ∙ ap (λ a. a + from % 512) (sym first);
      some = some;
      in_buffer = in_one;
      in_text = in_text;
    }
