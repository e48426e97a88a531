use Rattle.std.proofs.Common.{rules, ◌≡◌, ℕ, List, ◌++◌, length, take, drop, sym, ap, ◌∙◌, subst, arith}
use Rattle.std.proofs.Math.Seq.{take-append_seam}
use Rattle.std.proofs.lemmas.Option.{slice_get_within, get_or_from_slice_get}
use Rattle.std.specs.Prelude.{Some, slice_get}
use Rattle.flake_base.specs.declared.segment.Seg.{Seg}
use Rattle.pin_core.specs.declared.sizes.Sizes.{Sizes}
use Rattle.pinned_pool.specs.Addresses.{Covers}
use Rattle.reply_planner.specs.Parcels.{Sent, IsSent, HasBytes}
use Rattle.reply_planner.specs.Places.{buffer_bytes, place_of, reading, IsReadable}
use Rattle.reply_planner.proofs.Parts.{each-at}
use Rattle.reply_planner.proofs.Placed.{place-covered}
use Rattle.card_cases.proofs.showing.read_segment.Goals as goal

-- a segment may be read
readable : (z : Sizes) (p : Sent) (i : ℕ) (seg : Seg) → IsSent z p → slice_get p.segments i ≡ Some seg
    → IsReadable z p.holds seg
readable z p i seg is found =
    subst (IsReadable z p.holds) (get_or_from_slice_get p.segments i seg seg found)
    (each-at (IsReadable z p.holds) p.segments i seg is.readable (slice_get_within p.segments i seg found))

-- all its bytes are in one buffer
whole-there : (z : Sizes) (p : Sent) (i : ℕ) (seg : Seg) (b from n : ℕ) → slice_get p.segments i ≡ Some seg
    → Covers z b from seg.address → n ≡ seg.len → HasBytes z p.segments b from n
whole-there z p i seg b from n found covers all =
    let place = place-covered z b from seg.address covers in
    record {
      place = i;
      segment = seg;
      found = found;
      buffer = ap (λ (q : ℕ × ℕ). q.0) place;
      within = (omega (arith, ap (λ (q : ℕ × ℕ). q.1) place), omega (arith, ap (λ (q : ℕ × ℕ). q.1) place, all));
    }

-- and read at its address
whole-read : (z : Sizes) (p : Sent) (seg : Seg) (b from n : ℕ) (bytes : List ℕ) → Covers z b from seg.address
    → n ≡ seg.len → bytes ≡ buffer_bytes p.holds b from n → bytes ≡ reading z p.holds seg.address seg.len
whole-read z p seg b from n bytes covers all is =
    is ∙ ap (buffer_bytes p.holds b from) all
    ∙ sym (ap (λ (q : ℕ × ℕ). buffer_bytes p.holds q.0 q.1 seg.len) (place-covered z b from seg.address covers))

pub unreachable-requires : goal.unreachable-requires
unreachable-requires g c =
    let z = g.N.PoolName.sizes in
    let seg : Seg = c.args.segment in
    let place = place_of z seg.address in
    let may = readable z c.args.parcel.now c.requires.segment.0 seg c.is_parcel.ensures c.requires.segment.1 in
    c.buffer_at.ensures.none c.in_default.is place.0 place.1 may.held.covered

pub load_bytes-requires : goal.load_bytes-requires
load_bytes-requires g c =
    let z = g.N.PoolName.sizes in
    let seg = c.requires.segment in
    whole-there z c.args.parcel.now seg.0 c.args.segment c.in-Some.buffer c.in-Some.from _ seg.1 c.in-Some.ensures.some
    (search rules)

pub returns-clause-bytes : goal.returns-clause-bytes
returns-clause-bytes g c =
    let z = g.N.PoolName.sizes in
    let room = c.as_mut_slice.result.now in
    let read = c.load_bytes.new.room in
    let behind = drop (length read) c.in_ok-bytes.bytes.items in
    let all : length room ≡ c.args.segment.len = search rules in
    let as_long : c.in_ok-bytes.bytes.len ≡ length read =
    omega (arith, c.load_bytes.auto.room, c.as_mut_slice.ensures.len, c.in_ok-bytes.bytes.ok.0) in
    ap (λ n. take n (read ++ behind)) as_long ∙ take-append_seam read behind
    ∙ whole-read z c.args.parcel.now c.args.segment c.in-Some.buffer c.in-Some.from (length room) read
    c.in-Some.ensures.some all c.load_bytes.ensures.bytes
