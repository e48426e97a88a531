-- A reply's segments and staging buffers are within its command's need.
use Rattle.std.proofs.Common.{◌≡◌, ℕ, zero, suc, ◌+◌, ◌-◌, ◌*◌, ◌/◌, ◌%◌, ◌<◌, ◌≤◌, min, max, Bool, true, false, List}
use Rattle.std.proofs.Common.{[], ◌∷◌, ◌++◌, length, take, drop, Option, None, Some, arith, refl, ap, sym, ◌∙◌, subst}
use Rattle.std.proofs.Common.{append_assoc, append-nil, length-append, length-drop, lit<, lit≤, add-zero}
use Rattle.std.specs.Prelude.{nat_le, if◌then◌else◌}
use Rattle.std.specs.Fmt.{decimal}
use Rattle.std.proofs.lemmas.Fmt.{length-decimal-le}
use Rattle.std.proofs.lemmas.List.{map-append, length-take}
use Rattle.flake_base.specs.declared.segment.Seg.{Seg}
use Rattle.flake_model.specs.Resp.{crlf, array_head}
use Rattle.flake_model.specs.Deed.{Deed}
use Rattle.flake_model.specs.Fragments.{fragment_limit}
use Rattle.reply_layout.specs.Pieces.{plain, pieces_over, bulk_pieces, item_pieces}
use Rattle.reply_layout.specs.Layout.{segment, Placing, copied, pinned, placing_of, placings_of, copied_of, pinned_of}
use Rattle.reply_layout.specs.Layout.{runs, cut, segments_from, layout_of, staging_buffers_for}
use Rattle.reply_layout.specs.Runs.{one_if, run_count, IsWholeValue, AreWholeValues, IsPartValue, IsWithinNeed}
use Rattle.reply_layout.specs.Need.{need, values_need}

none_cut : (stage : List ℕ) (more k : ℕ) → cut stage more k 0 ≡ []
none_cut stage zero k = refl
none_cut stage (suc more) k = refl

-- n bytes from the k-th on touch so many staging buffers
cut_count : (stage : List ℕ) (more k n : ℕ) → 0 < n → length (cut stage more k n) + k / 512 ≤ (k + n - 1) / 512 + 1
cut_count stage zero k n some = omega arith
cut_count stage (suc more) k zero some = absurd (omega arith)
cut_count stage (suc more) k (suc n) some =
    let size : ℕ = min (suc n) (512 - k % 512) in
    by_rest size (suc n - size) refl refl (λ left. cut_count stage more (k + size) (suc n - size) left)
  where
    by_rest : (size m : ℕ) → size ≡ min (suc n) (512 - k % 512) → m ≡ suc n - size
        → (0 < m → length (cut stage more (k + size) m) + (k + size) / 512 ≤ (k + size + m - 1) / 512 + 1)
        → suc (length (cut stage more (k + size) m)) + k / 512 ≤ (k + suc n - 1) / 512 + 1
    by_rest size zero size_is m_is rest = let none = ap (λ (segs : List Seg). length segs)
        (none_cut stage more (k + size)) in omega arith
    by_rest size (suc m) size_is m_is rest =
        let at = rest (omega arith) in
        let full : k + size ≡ 512 * (k / 512 + 1) = omega arith in
        let next : (k + size) / 512 ≡ k / 512 + 1 = omega arith in
        let end : k + size + suc m ≡ k + suc n = omega arith in
        omega arith

run_read : (stage : List ℕ) (k r : ℕ) → length (cut stage r k r) + k / 512 ≤ one_if r
    + max (k / 512) ((k + r - 1) / 512)
run_read stage k zero = omega arith
run_read stage k (suc r) = omega (arith, cut_count stage (suc r) k (suc r) (omega arith))

-- segments are at most pins, runs, and one for each further staging buffer
layout_count : (stage : List ℕ) (k r : ℕ) (placings : List Placing) → length (segments_from stage k (runs r placings))
    + k / 512 ≤ pinned_of placings + run_count r placings + max (k / 512) ((k + r + copied_of placings - 1) / 512)
layout_count stage k r [] =
    omega (arith, length-append (cut stage r k r) [], run_read stage k r, ap (λ n. (n - 1) / 512) (add-zero (k + r)))
layout_count stage k r (copied n ∷ placings) =
    let sum : k + (r + n) + copied_of placings ≡ k + r + (n + copied_of placings) = omega arith in
    omega (arith, layout_count stage k (r + n) placings, ap (λ m. (m - 1) / 512) sum)
layout_count stage k zero (pinned seg ∷ placings) =
    let same : k + 0 ≡ k = omega arith in
    let rest = layout_count stage (k + 0) 0 placings in
    let at : (k + 0) / 512 ≡ k / 512 = ap (λ m. m / 512) same in
    let end : k + 0 + 0 + copied_of placings ≡ k + 0 + copied_of placings = omega arith in
    omega (arith, rest, at, ap (λ m. (m - 1) / 512) end)
layout_count stage k (suc r) (pinned seg ∷ placings) =
    let front = cut_count stage (suc r) k (suc r) (omega arith) in
    let rest = layout_count stage (k + suc r) 0 placings in
    let end : k + suc r + 0 + copied_of placings ≡ k + suc r + copied_of placings = omega arith in
    omega (
      arith,
      front,
      rest,
      ap (λ m. (m - 1) / 512) end,
      length-append (cut stage (suc r) k (suc r))
          (seg ∷ segments_from stage (k + suc r) (runs 0 placings)),
    )

pub layout_fits : (stage : List ℕ) (placings : List Placing) → length (layout_of stage placings) ≤ pinned_of placings
    + run_count 0 placings + (staging_buffers_for (copied_of placings) - 1)
layout_fits stage placings = omega (arith, layout_count stage 0 0 placings)

-- a run that isn't empty counts as one, however long it is
run_some : (a b : ℕ) (placings : List Placing) → 0 < a → 0 < b → run_count a placings ≡ run_count b placings
run_some zero b placings x y = absurd (omega arith)
run_some (suc a) zero placings x y = absurd (omega arith)
run_some (suc a) (suc b) [] x y = refl
run_some (suc a) (suc b) (copied n ∷ placings) x y = run_some (suc a + n) (suc b + n) placings (omega arith)
    (omega arith)
run_some (suc a) (suc b) (pinned seg ∷ placings) x y = refl

-- no bytes are left of a value
none_over : (threshold : ℕ) (addresses : List ℕ) (offset r b : ℕ) (rest : List Placing) → 0 < b
    → run_count r (placings_of threshold (pieces_over addresses offset []) ++ copied b ∷ rest) ≡ run_count 1 rest
none_over threshold [] offset r b rest some = run_some (r + 0 + b) 1 rest (omega arith) (omega arith)
none_over threshold (address ∷ addresses) offset r b rest some = run_some (r + b) 1 rest (omega arith) (omega arith)

short_end : (bytes : List ℕ) (size : ℕ) → length (take size bytes) < size → drop size bytes ≡ []
short_end bytes size short = no_bytes (drop size bytes) (omega (arith, length-take size bytes, length-drop size bytes))
  where
    no_bytes : (list : List ℕ) → length list ≡ 0 → list ≡ []
    no_bytes [] is = refl
    no_bytes (x ∷ list) is = absurd (omega arith)

test_is : (a b : ℕ) (t : Bool) → nat_le a b ≡ t → t ≡ false → b < a
test_is a b t is fails = grind arith

-- behind a pinned piece, whole fragments are pinned, and the last one is or isn't
runs_whole : (threshold : ℕ) → threshold ≤ 512 → (addresses bytes : List ℕ) (b : ℕ) (rest : List Placing) → 0 < b
    → run_count 0 (placings_of threshold (pieces_over addresses 0 bytes) ++ copied b ∷ rest) ≤ run_count 1 rest
runs_whole threshold few [] bytes b rest some =
    omega (arith, run_some (0 + length bytes + b) 1 rest (omega arith) (omega arith))
runs_whole threshold few (address ∷ addresses) [] b rest some =
    omega (arith, run_some (0 + b) 1 rest (omega arith) (omega arith))
runs_whole threshold few (address ∷ addresses) (x ∷ xs) b rest some =
    by_length (nat_le threshold (length (take fragment_limit (x ∷ xs)))) refl
    (runs_whole threshold few addresses (drop fragment_limit (x ∷ xs)) b rest some)
  where
    by_length : (long : Bool) → nat_le threshold (length (take fragment_limit (x ∷ xs))) ≡ long
        → run_count 0 (placings_of threshold (pieces_over addresses 0 (drop fragment_limit (x ∷ xs))) ++ copied b
        ∷ rest) ≤ run_count 1 rest
        → run_count 0 ((if long then pinned (segment (address + 0) (length (take fragment_limit (x ∷ xs))))
        else copied (length (take fragment_limit (x ∷ xs))))
        ∷ (placings_of threshold (pieces_over addresses 0 (drop fragment_limit (x ∷ xs))) ++ copied b ∷ rest))
        ≤ run_count 1 rest
    by_length true is next = omega arith
    by_length false is next =
        let short = test_is threshold (length (take fragment_limit (x ∷ xs))) false is refl in
        let end = short_end (x ∷ xs) fragment_limit (omega arith) in
        let all : run_count (0 + length (take fragment_limit (x ∷ xs)))
        (placings_of threshold (pieces_over addresses 0 (drop fragment_limit (x ∷ xs))) ++ copied b ∷ rest)
        ≡ run_count 1 rest =
        ap (λ bytes. run_count (0 + length (take fragment_limit (x ∷ xs)))
        (placings_of threshold (pieces_over addresses 0 bytes) ++ copied b ∷ rest)) end
        ∙ none_over threshold addresses 0 (0 + length (take fragment_limit (x ∷ xs))) b rest some in
        let P : ℕ → Type 0 = λ n. n ≤ run_count 1 rest in
        subst P (sym all) (omega arith)

-- the pieces of a value are one run more at most
runs_over : (threshold : ℕ) → threshold ≤ 512 → (addresses : List ℕ) (offset : ℕ) (bytes : List ℕ) (r b : ℕ)
    (rest : List Placing) → 0 < r → 0 < b
    → run_count r (placings_of threshold (pieces_over addresses offset bytes) ++ copied b ∷ rest) ≤ 1 + run_count 1 rest
runs_over threshold few [] offset bytes r b rest begun some =
    omega (arith, run_some (r + length bytes + b) 1 rest (omega arith) (omega arith))
runs_over threshold few (address ∷ addresses) offset [] r b rest begun some =
    omega (arith, run_some (r + b) 1 rest (omega arith) (omega arith))
runs_over threshold few (address ∷ addresses) offset (x ∷ xs) zero b rest begun some = absurd (omega arith)
runs_over threshold few (address ∷ addresses) offset (x ∷ xs) (suc r) b rest begun some =
    by_length (nat_le threshold (length (take (fragment_limit - offset) (x ∷ xs))))
    (runs_whole threshold few addresses (drop (fragment_limit - offset) (x ∷ xs)) b rest some)
    (runs_over threshold few addresses 0 (drop (fragment_limit - offset) (x ∷ xs))
    (suc r + length (take (fragment_limit - offset) (x ∷ xs))) b rest (omega arith) some)
  where
    by_length : (long : Bool)
        → run_count 0 (placings_of threshold (pieces_over addresses 0 (drop (fragment_limit - offset) (x ∷ xs)))
        ++ copied b ∷ rest) ≤ run_count 1 rest
        → run_count (suc r + length (take (fragment_limit - offset) (x ∷ xs)))
        (placings_of threshold (pieces_over addresses 0 (drop (fragment_limit - offset) (x ∷ xs))) ++ copied b ∷ rest)
        ≤ 1 + run_count 1 rest
        → run_count (suc r) ((if long then
        pinned (segment (address + offset) (length (take (fragment_limit - offset) (x ∷ xs))))
        else copied (length (take (fragment_limit - offset) (x ∷ xs))))
        ∷ (placings_of threshold (pieces_over addresses 0 (drop (fragment_limit - offset) (x ∷ xs))) ++ copied b
        ∷ rest)) ≤ 1 + run_count 1 rest
    by_length true stays copies = omega arith
    by_length false stays copies = copies

none_copied : (threshold : ℕ) (addresses : List ℕ) → copied_of (placings_of threshold (pieces_over addresses 0 [])) ≡ 0
none_copied threshold [] = refl
none_copied threshold (address ∷ addresses) = refl

-- of a whole value less than one staging buffer is copied
whole_copied : (threshold : ℕ) → threshold ≤ 512 → (addresses bytes : List ℕ)
    → length bytes ≤ fragment_limit * length addresses
    → copied_of (placings_of threshold (pieces_over addresses 0 bytes)) ≤ 511
whole_copied threshold few [] bytes fits = omega arith
whole_copied threshold few (address ∷ addresses) [] fits = omega arith
whole_copied threshold few (address ∷ addresses) (x ∷ xs) fits =
    by_length (nat_le threshold (length (take fragment_limit (x ∷ xs)))) refl
    (whole_copied threshold few addresses (drop fragment_limit (x ∷ xs))
    (omega (arith, length-drop fragment_limit (x ∷ xs))))
  where
    by_length : (long : Bool) → nat_le threshold (length (take fragment_limit (x ∷ xs))) ≡ long
        → copied_of (placings_of threshold (pieces_over addresses 0 (drop fragment_limit (x ∷ xs)))) ≤ 511
        → copied_of ((if long then pinned (segment (address + 0) (length (take fragment_limit (x ∷ xs))))
        else copied (length (take fragment_limit (x ∷ xs)))) ∷ placings_of threshold
        (pieces_over addresses 0 (drop fragment_limit (x ∷ xs)))) ≤ 511
    by_length true is rest = rest
    by_length false is rest =
        let short = test_is threshold (length (take fragment_limit (x ∷ xs))) false is refl in
        let end = ap (λ bytes. copied_of (placings_of threshold (pieces_over addresses 0 bytes)))
        (short_end (x ∷ xs) fragment_limit (omega arith)) ∙ none_copied threshold addresses in
        omega (arith, end)

-- of a part of a value less than two
part_copied : (threshold : ℕ) → threshold ≤ 512 → (addresses : List ℕ) (offset : ℕ) (bytes : List ℕ)
    → offset ≤ fragment_limit → offset + length bytes ≤ fragment_limit * length addresses
    → copied_of (placings_of threshold (pieces_over addresses offset bytes)) ≤ 1022
part_copied threshold few [] offset bytes within fits = omega arith
part_copied threshold few (address ∷ addresses) offset [] within fits = omega arith
part_copied threshold few (address ∷ addresses) offset (x ∷ xs) within fits =
    by_length (nat_le threshold (length (take (fragment_limit - offset) (x ∷ xs)))) refl
    (whole_copied threshold few addresses (drop (fragment_limit - offset) (x ∷ xs))
    (omega (arith, length-drop (fragment_limit - offset) (x ∷ xs))))
  where
    by_length : (long : Bool) → nat_le threshold (length (take (fragment_limit - offset) (x ∷ xs))) ≡ long
        → copied_of (placings_of threshold (pieces_over addresses 0 (drop (fragment_limit - offset) (x ∷ xs)))) ≤ 511
        → copied_of ((if long then
        pinned (segment (address + offset) (length (take (fragment_limit - offset) (x ∷ xs))))
        else copied (length (take (fragment_limit - offset) (x ∷ xs))))
        ∷ placings_of threshold (pieces_over addresses 0 (drop (fragment_limit - offset) (x ∷ xs)))) ≤ 1022
    by_length true is rest = omega arith
    by_length false is rest = let short = test_is threshold (length (take (fragment_limit - offset) (x ∷ xs))) false is
        refl in omega arith

-- as many pins at most as fragments are touched
pins_over : (threshold : ℕ) (addresses : List ℕ) (offset : ℕ) (bytes : List ℕ) → offset < fragment_limit
    → pinned_of (placings_of threshold (pieces_over addresses offset bytes)) ≤ (offset + length bytes + 4095) / 4096
pins_over threshold [] offset bytes within = omega arith
pins_over threshold (address ∷ addresses) offset [] within = omega arith
pins_over threshold (address ∷ addresses) offset (x ∷ xs) within =
    let rest = pins_over threshold addresses 0 (drop (fragment_limit - offset) (x ∷ xs)) (lit< tt) in
    let left = length-drop (fragment_limit - offset) (x ∷ xs) in
    by_length (nat_le threshold (length (take (fragment_limit - offset) (x ∷ xs)))) (omega (arith, rest, left))
  where
    by_length : (long : Bool)
        → 1 + pinned_of (placings_of threshold (pieces_over addresses 0 (drop (fragment_limit - offset) (x ∷ xs))))
        ≤ (offset + length (x ∷ xs) + 4095) / 4096
        → pinned_of ((if long then
        pinned (segment (address + offset) (length (take (fragment_limit - offset) (x ∷ xs))))
        else copied (length (take (fragment_limit - offset) (x ∷ xs))))
        ∷ placings_of threshold (pieces_over addresses 0 (drop (fragment_limit - offset) (x ∷ xs))))
        ≤ (offset + length (x ∷ xs) + 4095) / 4096
    by_length true within_count = omega arith
    by_length false within_count = omega arith

copied-append : (some more : List Placing) → copied_of (some ++ more) ≡ copied_of some + copied_of more
copied-append [] more = omega arith
copied-append (copied n ∷ some) more = omega (arith, copied-append some more)
copied-append (pinned seg ∷ some) more = copied-append some more

pinned-append : (some more : List Placing) → pinned_of (some ++ more) ≡ pinned_of some + pinned_of more
pinned-append [] more = omega arith
pinned-append (copied n ∷ some) more = pinned-append some more
pinned-append (pinned seg ∷ some) more = omega (arith, pinned-append some more)

abbrev head : List ℕ → List ℕ
head bytes = 36 ∷ decimal (length bytes) ++ crlf

head_length : (bytes : List ℕ) → length bytes ≤ 65536 → length (head bytes) ≤ 8
head_length bytes few =
    let digits : length (decimal (length bytes)) ≤ 5 = length-decimal-le 5 (length bytes) (lit< tt) (omega arith)
    (omega arith) in
    omega (arith, length-append (decimal (length bytes)) crlf, digits)

module _ (threshold : ℕ) (few : threshold ≤ 512) where
  -- the placings of a bulk string over these fragments
  over : List ℕ → ℕ → List ℕ → List Placing
  over addresses offset bytes = copied (length (head bytes)) ∷ placings_of threshold
      (pieces_over addresses offset bytes ++ plain crlf ∷ [])

  over_is : (addresses : List ℕ) (offset : ℕ) (bytes : List ℕ)
      → placings_of threshold (pieces_over addresses offset bytes ++ plain crlf ∷ [])
      ≡ placings_of threshold (pieces_over addresses offset bytes) ++ copied 2 ∷ []
  over_is addresses offset bytes = map-append (placing_of threshold) (pieces_over addresses offset bytes)
      (plain crlf ∷ [])

  over_runs : (addresses : List ℕ) (offset : ℕ) (bytes : List ℕ) (r : ℕ) (rest : List Placing)
      → run_count r (over addresses offset bytes ++ rest) ≤ 1 + run_count 1 rest
  unfolding over
  over_runs addresses offset bytes r rest =
      let inner = runs_over threshold few addresses offset bytes (r + length (head bytes)) 2 rest (omega arith)
      (omega arith) in
      let same : run_count (r + length (head bytes))
      (placings_of threshold (pieces_over addresses offset bytes ++ plain crlf ∷ []) ++ rest)
      ≡ run_count (r + length (head bytes))
      (placings_of threshold (pieces_over addresses offset bytes) ++ copied 2 ∷ rest) =
      ap (λ placings. run_count (r + length (head bytes)) (placings ++ rest)) (over_is addresses offset bytes)
      ∙ ap (run_count (r + length (head bytes)))
      (append_assoc (placings_of threshold (pieces_over addresses offset bytes)) (copied 2 ∷ []) rest) in
      omega (arith, inner, same)

  over_copied : (addresses : List ℕ) (offset : ℕ) (bytes : List ℕ) → copied_of (over addresses offset bytes)
      ≡ length (head bytes) + copied_of (placings_of threshold (pieces_over addresses offset bytes)) + 2
  unfolding over
  over_copied addresses offset bytes =
      omega (
        arith,
        ap copied_of (over_is addresses offset bytes),
        copied-append
            (placings_of threshold (pieces_over addresses offset bytes)) (copied 2 ∷ []),
      )

  over_pinned : (addresses : List ℕ) (offset : ℕ) (bytes : List ℕ) → pinned_of (over addresses offset bytes)
      ≡ pinned_of (placings_of threshold (pieces_over addresses offset bytes))
  unfolding over
  over_pinned addresses offset bytes =
      omega (
        arith,
        ap pinned_of (over_is addresses offset bytes),
        pinned-append
            (placings_of threshold (pieces_over addresses offset bytes)) (copied 2 ∷ []),
      )

  bulk_is : (deed : Deed) (bytes : List ℕ) → deed.first ≡ 0 → placings_of threshold (bulk_pieces (Some deed) bytes)
      ≡ over deed.found 0 bytes
  unfolding over
  bulk_is deed bytes whole =
      ap (λ n. copied (length (head bytes)) ∷ placings_of threshold
      (pieces_over (drop (n / fragment_limit) deed.found) (n % fragment_limit) bytes ++ plain crlf ∷ [])) whole

  module _ (deed : Deed) (bytes : List ℕ) (is : IsWholeValue deed bytes) where
    bulk_runs : (r : ℕ) (rest : List Placing)
        → run_count r (placings_of threshold (bulk_pieces (Some deed) bytes) ++ rest) ≤ 1 + run_count 1 rest
    bulk_runs r rest = omega (
      arith,
      ap (λ placings. run_count r (placings ++ rest)) (bulk_is deed bytes is.from_first),
      over_runs deed.found
          0 bytes r rest,
    )

    bulk_copied : copied_of (placings_of threshold (bulk_pieces (Some deed) bytes)) ≤ 521
    bulk_copied = omega (
      arith,
      ap copied_of (bulk_is deed bytes is.from_first),
      over_copied deed.found 0 bytes,
      head_length bytes is.within,
      whole_copied threshold few deed.found bytes is.addressed,
    )

    bulk_pinned : pinned_of (placings_of threshold (bulk_pieces (Some deed) bytes)) ≤ 16
    bulk_pinned = omega (
      arith,
      ap pinned_of (bulk_is deed bytes is.from_first),
      over_pinned deed.found 0 bytes,
      pins_over threshold deed.found 0 bytes (lit< tt),
      is.within,
    )

    -- a GET, or a SET that answers the old value
    pub value_fits : (stage : List ℕ) → IsWithinNeed (values_need 1 0) stage
        (placings_of threshold (bulk_pieces (Some deed) bytes))
    value_fits stage =
        let placings = placings_of threshold (bulk_pieces (Some deed) bytes) in
        let runs_are : run_count 0 placings ≤ 2 = omega (arith, bulk_runs 0 [], ap (run_count 0) (append-nil placings))
        in
        let buffers_are : staging_buffers_for (copied_of placings) ≤ 2 = omega (arith, bulk_copied) in
        record {
          segments = omega (arith, layout_fits stage placings, bulk_pinned, runs_are, buffers_are);
          buffers = omega (arith, buffers_are);
        }

  -- an item of an array is one run more at most
  items_runs : (items : List (Option (List ℕ))) (deeds : List (Option Deed)) → AreWholeValues items deeds → (r : ℕ)
      → 0 < r → run_count r (placings_of threshold (item_pieces items deeds)) ≤ length items + 1
  items_runs [] deeds are zero some = absurd (omega arith)
  items_runs [] deeds are (suc r) some = omega arith
  items_runs (None ∷ items) [] are r some = omega (arith, items_runs items [] are (r + 5) (omega arith))
  items_runs (None ∷ items) (deed ∷ deeds) are r some = omega (arith, items_runs items deeds are (r + 5) (omega arith))
  items_runs (Some bytes ∷ items) [] are r some = absurd are
  items_runs (Some bytes ∷ items) (None ∷ deeds) are r some = absurd are
  items_runs (Some bytes ∷ items) (Some deed ∷ deeds) are r some =
      let split = ap (run_count r)
      (map-append (placing_of threshold) (bulk_pieces (Some deed) bytes) (item_pieces items deeds)) in
      omega (
        arith,
        split,
        bulk_runs deed bytes are.0 r (placings_of threshold (item_pieces items deeds)),
        items_runs
            items deeds are.1 1 (omega arith),
      )

  items_copied : (items : List (Option (List ℕ))) (deeds : List (Option Deed)) → AreWholeValues items deeds
      → copied_of (placings_of threshold (item_pieces items deeds)) ≤ 521 * length items
  items_copied [] deeds are = omega arith
  items_copied (None ∷ items) [] are = omega (arith, items_copied items [] are)
  items_copied (None ∷ items) (deed ∷ deeds) are = omega (arith, items_copied items deeds are)
  items_copied (Some bytes ∷ items) [] are = absurd are
  items_copied (Some bytes ∷ items) (None ∷ deeds) are = absurd are
  items_copied (Some bytes ∷ items) (Some deed ∷ deeds) are =
      let split = ap copied_of
      (map-append (placing_of threshold) (bulk_pieces (Some deed) bytes) (item_pieces items deeds)) in
      omega (
        arith,
        split,
        copied-append (placings_of threshold (bulk_pieces (Some deed) bytes))
            (placings_of threshold (item_pieces items deeds)),
        bulk_copied deed bytes are.0,
        items_copied items deeds
            are.1,
      )

  items_pinned : (items : List (Option (List ℕ))) (deeds : List (Option Deed)) → AreWholeValues items deeds
      → pinned_of (placings_of threshold (item_pieces items deeds)) ≤ 16 * length items
  items_pinned [] deeds are = omega arith
  items_pinned (None ∷ items) [] are = omega (arith, items_pinned items [] are)
  items_pinned (None ∷ items) (deed ∷ deeds) are = omega (arith, items_pinned items deeds are)
  items_pinned (Some bytes ∷ items) [] are = absurd are
  items_pinned (Some bytes ∷ items) (None ∷ deeds) are = absurd are
  items_pinned (Some bytes ∷ items) (Some deed ∷ deeds) are =
      let split = ap pinned_of
      (map-append (placing_of threshold) (bulk_pieces (Some deed) bytes) (item_pieces items deeds)) in
      omega (
        arith,
        split,
        pinned-append (placings_of threshold (bulk_pieces (Some deed) bytes))
            (placings_of threshold (item_pieces items deeds)),
        bulk_pinned deed bytes are.0,
        items_pinned items deeds
            are.1,
      )

  -- an MGET
  pub values_fit : (items : List (Option (List ℕ))) (deeds : List (Option Deed)) → AreWholeValues items deeds
      → (stage : List ℕ)
      → IsWithinNeed (values_need (length items) (length (array_head (length items)))) stage
      (placings_of threshold (plain (array_head (length items)) ∷ item_pieces items deeds))
  values_fit items deeds are stage =
      let rest = placings_of threshold (item_pieces items deeds) in
      let placings = copied (length (array_head (length items))) ∷ rest in
      let runs_are : run_count 0 placings ≤ length items + 1 = items_runs items deeds are
      (0 + length (array_head (length items))) (omega arith) in
      let buffers_are : staging_buffers_for (copied_of placings) ≤ staging_buffers_for
      (length (array_head (length items)) + 521 * length items) = omega (arith, items_copied items deeds are) in
      record {
        segments = omega
            (arith, layout_fits stage placings, items_pinned items deeds are, runs_are, buffers_are);
        buffers = buffers_are;
      }

  -- a GETRANGE
  pub range_fits : (deed : Deed) (bytes : List ℕ) → IsPartValue deed bytes → (stage : List ℕ)
      → IsWithinNeed (need 20 3) stage (placings_of threshold (bulk_pieces (Some deed) bytes))
  unfolding over
  range_fits deed bytes is stage =
      let addresses = drop (deed.first / fragment_limit) deed.found in
      let offset = deed.first % fragment_limit in
      let placings = placings_of threshold (bulk_pieces (Some deed) bytes) in
      let counted = of_bytes deed bytes is in
      let runs_are : run_count 0 placings ≤ 2 =
      omega (arith, over_runs addresses offset bytes 0 [], ap (run_count 0) (append-nil placings)) in
      let copies_are : copied_of placings ≤ 1032 =
      omega (arith, over_copied addresses offset bytes, counted.0, counted.1) in
      let pins_are : pinned_of placings ≤ 16 = omega (arith, over_pinned addresses offset bytes, counted.2) in
      record {
        segments = omega (arith, layout_fits stage placings, pins_are, runs_are, copies_are);
        buffers = omega (arith, copies_are);
      }
    where
      of_bytes : (deed : Deed) (bytes : List ℕ) → IsPartValue deed bytes → (length (head bytes) ≤ 8)
          × (copied_of (placings_of threshold
          (pieces_over (drop (deed.first / fragment_limit) deed.found) (deed.first % fragment_limit) bytes)) ≤ 1022)
          × (pinned_of (placings_of threshold
          (pieces_over (drop (deed.first / fragment_limit) deed.found) (deed.first % fragment_limit) bytes)) ≤ 16)
      of_bytes deed [] is = (
        head_length [] (lit≤ tt),
        nothing_copied (drop (deed.first / fragment_limit) deed.found) (deed.first % fragment_limit),
        nothing_pinned (drop (deed.first / fragment_limit) deed.found) (deed.first % fragment_limit),
      ) where
        nothing_copied : (addresses : List ℕ) (offset : ℕ)
            → copied_of (placings_of threshold (pieces_over addresses offset [])) ≤ 1022
        nothing_copied [] offset = omega arith
        nothing_copied (address ∷ addresses) offset = omega arith

        nothing_pinned : (addresses : List ℕ) (offset : ℕ)
            → pinned_of (placings_of threshold (pieces_over addresses offset [])) ≤ 16
        nothing_pinned [] offset = omega arith
        nothing_pinned (address ∷ addresses) offset = omega arith
      of_bytes deed (x ∷ xs) is =
          let within = is.within (omega arith) in
          let addressed = is.addressed (omega arith) in (
            head_length (x ∷ xs) (omega (arith, within)),
            part_copied threshold few (drop (deed.first / fragment_limit) deed.found) (deed.first % fragment_limit)
                (x ∷ xs) (omega arith) (omega (arith, addressed, length-drop (deed.first / fragment_limit) deed.found)),
            omega (
              arith,
              pins_over threshold (drop (deed.first / fragment_limit) deed.found)
                  (deed.first % fragment_limit) (x ∷ xs) (omega arith),
              within,
            ),
          )
