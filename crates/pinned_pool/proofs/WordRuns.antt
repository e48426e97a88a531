-- Runs of words and their bytes.
use Rattle.std.proofs.Common.{◌≡◌, ℕ, zero, suc, ◌+◌, ◌*◌, ◌/◌, ◌%◌, ◌<◌, ◌≤◌, List, [], ◌∷◌, ◌++◌, Bool, true, false}
use Rattle.std.proofs.Common.{cond, nat_lt, length, take, drop, get_or, replicate, sym, refl, ap, ◌∙◌, subst}
use Rattle.std.proofs.Common.{append-nil, append_assoc, zero-add, length-append, arith}
use Rattle.std.specs.Int.{w64, to_le_bytes, from_le_bytes}
use Rattle.std.proofs.lemmas.List.{take-append-le, drop-append-le, take_at, take_all, drop_at, drop-drop, length-take}
use Rattle.std.proofs.lemmas.List.{length-drop, drop_all, take-append-drop, take-take, drop-take}
use Rattle.std.proofs.lemmas.Nat.{le_bytes_8}
use Rattle.std.proofs.lemmas.Slice.{take-put_mid}
use borrow.Rule.Slice.PartMut.{put_mid}
use Rattle.view_sums.specs.Total.{total}
use Rattle.pin_core.specs.Buffers.{buffer_words}
use Rattle.pin_core.specs.Holding.{sole_at}
use Rattle.pin_core.specs.declared.sizes.Sizes.{Sizes}
use Rattle.pinned_pool.specs.Moves.{put, front_of}
use Rattle.pinned_pool.specs.Bytes.{bytes_of_words, put_all, PutsBytes}
use Rattle.pinned_pool.specs.declared.view.View.{View}
use Rattle.pinned_pool.proofs.Still.{put-sole, put-length}

-- no buffer is greater than a large one
pub room-most : (z : Sizes) (b : ℕ) → buffer_words z b ≤ 512
room-most z b = either_way (nat_lt b z.small)
  where
    either_way : (t : Bool) → cond t 64 512 ≤ 512
    either_way true = omega arith
    either_way false = omega arith

-- lists in parts
pub take_past : (m : ℕ) (xs ys : List ℕ) → take (length xs + m) (xs ++ ys) ≡ xs ++ take m ys
take_past m [] ys = ap (λ n. take n ys) (zero-add m)
take_past m (x ∷ xs) ys = ap (λ n. take n (x ∷ (xs ++ ys))) suc_out ∙ ap (λ l. x ∷ l) (take_past m xs ys)
  where
    suc_out : suc (length xs) + m ≡ suc (length xs + m)
    suc_out = omega arith

pub take-more : (a m : ℕ) (xs : List ℕ) → take (a + m) xs ≡ take a xs ++ take m (drop a xs)
take-more a m xs = sym (take-append-drop a (take (a + m) xs))
    ∙ (λ i. take-take a (a + m) xs (omega arith) i ++ drop-take a m xs i)

-- a part of a part
pub part-more : (a m from : ℕ) (xs : List ℕ) → take (a + m) (drop from xs) ≡ take a (drop from xs)
    ++ take m (drop (from + a) xs)
part-more a m from xs = take-more a m (drop from xs) ∙ ap (λ l. take a (drop from xs) ++ take m l) (drop-drop a from xs)

-- words and bytes
pub length-bytes : (ws : List ℕ) → length (bytes_of_words ws) ≡ 8 * length ws
length-bytes [] = refl
length-bytes (w ∷ ws) = omega (arith, length-bytes ws)

pub bytes-append : (ws xs : List ℕ) → bytes_of_words (ws ++ xs) ≡ bytes_of_words ws ++ bytes_of_words xs
bytes-append [] xs = refl
bytes-append (w ∷ ws) xs = ap (λ l. to_le_bytes w64 w ++ l) (bytes-append ws xs)
    ∙ sym (append_assoc (to_le_bytes w64 w) (bytes_of_words ws) (bytes_of_words xs))

-- what stands behind the first words' bytes
drop-bytes : (ws : List ℕ) (k : ℕ) → drop (8 * k) (bytes_of_words ws) ≡ bytes_of_words (drop k ws)
drop-bytes ws zero = refl
drop-bytes [] (suc k) = let some : 8 * suc k ≡ suc (7 + 8 * k) = omega arith in
    ap (λ n. drop n (bytes_of_words [])) some
drop-bytes (w ∷ ws) (suc k) =
    let far : 8 * suc k ≡ 8 + 8 * k = omega arith in
    ap (λ n. drop n (to_le_bytes w64 w ++ bytes_of_words ws)) far
    ∙ sym (drop-drop (8 * k) 8 (to_le_bytes w64 w ++ bytes_of_words ws))
    ∙ ap (drop (8 * k)) (drop_at (to_le_bytes w64 w) (bytes_of_words ws) 8 refl) ∙ drop-bytes ws k

drop-word : (ws : List ℕ) (k : ℕ) → k < length ws → drop k ws ≡ get_or ws k 0 ∷ drop (suc k) ws
drop-word [] k less = absurd (omega arith)
drop-word (w ∷ ws) zero less = refl
drop-word (w ∷ ws) (suc k) less = drop-word ws k (omega arith)

-- some bytes of one word
pub part-bytes : (ws : List ℕ) (k r n : ℕ) → k < length ws → r + n ≤ 8 → take n (drop (8 * k + r) (bytes_of_words ws))
    ≡ take n (drop r (to_le_bytes w64 (get_or ws k 0)))
part-bytes ws k r n less few =
    let here = to_le_bytes w64 (get_or ws k 0) in
    let rest = bytes_of_words (drop (suc k) ws) in
    let parts : drop (8 * k) (bytes_of_words ws) ≡ here ++ rest = drop-bytes ws k
    ∙ ap bytes_of_words (drop-word ws k less) in
    ap (take n) (sym (drop-drop r (8 * k) (bytes_of_words ws)) ∙ ap (drop r) parts
    ∙ drop-append-le r here rest (omega arith))
    ∙ take-append-le n (drop r here) rest (omega (arith, length-drop r here))

-- the word of a few bytes, with others behind them
abbrev pub AreBytes : List ℕ → Type 0
AreBytes xs = (i : ℕ) → get_or xs i 0 < 256

pub are-append : (xs ys : List ℕ) → AreBytes xs → AreBytes ys → AreBytes (xs ++ ys)
are-append [] ys a b i = b i
are-append (x ∷ xs) ys a b zero = a 0
are-append (x ∷ xs) ys a b (suc i) = are-append xs ys (λ k. a (suc k)) b i

pub bytes-zero : (n : ℕ) → AreBytes (replicate n 0)
bytes-zero zero i = omega arith
bytes-zero (suc n) zero = omega arith
bytes-zero (suc n) (suc i) = bytes-zero n i

pub word_bytes : (bytes rest : List ℕ) (n : ℕ) → length bytes + length rest ≡ 8 → AreBytes bytes → AreBytes rest
    → n ≡ from_le_bytes w64 (bytes ++ rest) → take (length bytes) (to_le_bytes w64 n) ≡ bytes
word_bytes bytes rest n len a b is =
    ap (take (length bytes))
    (le_bytes_8 (bytes ++ rest) n (omega (arith, length-append bytes rest)) (are-append bytes rest a b) is)
    ∙ take_at bytes rest (length bytes) refl

-- the seat after some words and then others
pub put_all-append : (b i : ℕ) (ws xs : List ℕ) (v : View) → put_all b i (ws ++ xs) v ≡ put_all b (i + length ws) xs
    (put_all b i ws v)
put_all-append b i [] xs v = let same : i ≡ i + 0 = omega arith in ap (λ n. put_all b n xs v) same
put_all-append b i (w ∷ ws) xs v =
    let next : suc i + length ws ≡ i + suc (length ws) = omega arith in
    put_all-append b (suc i) ws xs (put b i w v) ∙ ap (λ n. put_all b n xs (put_all b (suc i) ws (put b i w v))) next

pub sole-all : (b i : ℕ) (ws : List ℕ) (v : View) → 0 < total (sole_at b) v.holds
    → 0 < total (sole_at b) (put_all b i ws v).holds
sole-all b i [] v sole = sole
sole-all b i (w ∷ ws) v sole = sole-all b (suc i) ws (put b i w v) (put-sole b i w v (put b i w v) refl b sole)

-- the front goes as far as the words
pub front-all : (b i : ℕ) (ws : List ℕ) (v : View) → 0 < total (sole_at b) v.holds → i ≤ length (front_of b v.holds)
    → i + length ws ≤ length (front_of b (put_all b i ws v).holds)
front-all b i [] v sole within = omega arith
front-all b i (w ∷ ws) v sole within =
    omega (
      arith,
      front-all b (suc i) ws (put b i w v) (put-sole b i w v (put b i w v) refl b sole)
          (omega (arith, put-length b i w v (put b i w v) refl sole within)),
    )

-- bytes that were written
pub puts_none : (b i : ℕ) (v : View) → PutsBytes b i [] v v
puts_none b i v = record { words = []; count = refl; begin = refl; seat = refl }

pub puts_word : (b i x : ℕ) (bytes : List ℕ) (v w : View) → 0 < length bytes → length bytes ≤ 8
    → take (length bytes) (to_le_bytes w64 x) ≡ bytes → w ≡ put b i x v → PutsBytes b i bytes v w
puts_word b i x bytes v w some few word step = record {
  words = x ∷ [];
  count = omega arith;
  begin = ap (take (length bytes)) (append-nil (to_le_bytes w64 x)) ∙ word;
  seat = step;
}

-- whole words, and others behind them
pub puts_then : (b i j : ℕ) (xs ys : List ℕ) (u v w : View) → length xs % 8 ≡ 0 → j ≡ i + length xs / 8
    → PutsBytes b i xs u v → PutsBytes b j ys v w → PutsBytes b i (xs ++ ys) u w
puts_then b i j xs ys u v w whole at one two =
    let long = length-bytes one.words in
    let here : bytes_of_words one.words ≡ xs =
    sym (take_all (length xs) (bytes_of_words one.words) (omega (arith, long, one.count))) ∙ one.begin in
    let place : j ≡ i + length one.words = omega (arith, at, one.count) in
    record {
      words = one.words ++ two.words;
      count = omega (arith, length-append one.words two.words, one.count, two.count, length-append xs ys);
      begin = (λ t. take (length-append xs ys t) (bytes-append one.words two.words t))
          ∙ ap (λ l. take (length xs + length ys) (l ++ bytes_of_words two.words)) here
          ∙ take_past (length ys) xs (bytes_of_words two.words) ∙ ap (λ l. xs ++ l) two.begin;
      seat = two.seat ∙ ap (put_all b j two.words) one.seat ∙ ap (λ n. put_all b n two.words (put_all b i one.words u))
          place ∙ sym (put_all-append b i one.words two.words u);
    }

pub puts_same : (b i : ℕ) (xs ys : List ℕ) (u v : View) → xs ≡ ys → PutsBytes b i xs u v → PutsBytes b i ys u v
puts_same b i xs ys u v same = subst (λ l. PutsBytes b i l u v) same

-- what a seat that wrote has
pub puts-sole : (b i : ℕ) (bytes : List ℕ) (v w : View) → PutsBytes b i bytes v w → 0 < total (sole_at b) v.holds
    → 0 < total (sole_at b) w.holds
puts-sole b i bytes v w puts sole = subst (λ (u : View). 0 < total (sole_at b) u.holds) (sym puts.seat)
    (sole-all b i puts.words v sole)

pub puts-front : (b i : ℕ) (bytes : List ℕ) (v w : View) → PutsBytes b i bytes v w → 0 < total (sole_at b) v.holds
    → i ≤ length (front_of b v.holds) → 8 * i + length bytes ≤ 8 * length (front_of b w.holds)
puts-front b i bytes v w puts sole within =
    omega (
      arith,
      front-all b i puts.words v sole within,
      ap (λ (u : View). length (front_of b u.holds)) puts.seat,
      puts.count,
    )

-- one word more of a run
pub next_word : (b i k x : ℕ) (bytes : List ℕ) (u v w : View) → 8 * k + 8 ≤ length bytes
    → PutsBytes b i (take (8 * k) bytes) u v → to_le_bytes w64 x ≡ take 8 (drop (8 * k) bytes) → w ≡ put b (i + k) x v
    → PutsBytes b i (take (8 * (k + 1)) bytes) u w
next_word b i k x bytes u v w fits was word step =
    let front = take (8 * k) bytes in
    let here = take 8 (drop (8 * k) bytes) in
    let long : length front ≡ 8 * k = omega (arith, length-take (8 * k) bytes) in
    let eight : length here ≡ 8 = omega (arith, length-take 8 (drop (8 * k) bytes), length-drop (8 * k) bytes) in
    let more : take (8 * (k + 1)) bytes ≡ front ++ here =
    (let n : 8 * (k + 1) ≡ 8 * k + 8 = omega arith in ap (λ m. take m bytes) n) ∙ take-more (8 * k) 8 bytes in
    let all : take (length here) (to_le_bytes w64 x) ≡ here = ap (λ n. take n (to_le_bytes w64 x)) eight
    ∙ take_all 8 (to_le_bytes w64 x) (omega arith) ∙ word in
    puts_same b i (front ++ here) (take (8 * (k + 1)) bytes) u w (sym more)
    (puts_then b i (i + k) front here u v w (omega (arith, long)) (omega (arith, long)) was
    (puts_word b (i + k) x here v w (omega (arith, eight)) (omega (arith, eight)) all step))

-- whole words that were read
pub next_read : (buffer_words front ys : List ℕ) (index k j : ℕ) → take (8 * k) buffer_words
    ≡ take (8 * k) (drop (8 * index) (bytes_of_words front)) → index + k < length front
    → 8 * k + 8 ≤ length buffer_words → ys ≡ to_le_bytes w64 (get_or front (index + k) 0)
    → take (8 * (k + 1)) (put_mid (8 * k) j buffer_words ys)
    ≡ take (8 * (k + 1)) (drop (8 * index) (bytes_of_words front))
next_read buffer_words front ys index k j was less fits is =
    let next : 8 * (k + 1) ≡ 8 * k + 8 = omega arith in
    let at : 8 * index + 8 * k ≡ 8 * (index + k) + 0 = omega arith in
    let word : take 8 (drop (8 * index + 8 * k) (bytes_of_words front)) ≡ ys =
    ap (λ n. take 8 (drop n (bytes_of_words front))) at ∙ part-bytes front (index + k) 0 8 less (omega arith)
    ∙ take_all 8 (to_le_bytes w64 (get_or front (index + k) 0)) (omega arith) ∙ sym is in
    take-put_mid (8 * k) j buffer_words ys (8 * (k + 1)) (omega (arith, ap length is)) (omega arith)
    ∙ ap (λ l. l ++ ys) was
    ∙ sym (ap (λ n. take n (drop (8 * index) (bytes_of_words front))) next ∙ part-more (8 * k) 8 (8 * index)
    (bytes_of_words front) ∙ ap (λ l. take (8 * k) (drop (8 * index) (bytes_of_words front)) ++ l) word)

-- whole lines of eight words that were read
pub next_line : (buffer_words xs ys : List ℕ) (index k n j : ℕ) → take (64 * k) buffer_words
    ≡ take (64 * k) (drop (8 * index) xs) → 64 * k + 64 ≤ length buffer_words → length ys ≡ 64
    → ys ≡ take n (drop (8 * (index + 8 * k)) xs) → n ≡ 64
    → take (64 * (k + 1)) (put_mid (64 * k) j buffer_words ys) ≡ take (64 * (k + 1)) (drop (8 * index) xs)
next_line buffer_words xs ys index k n j was fits long is size =
    let next : 64 * (k + 1) ≡ 64 * k + 64 = omega arith in
    let at : 8 * (index + 8 * k) ≡ 8 * index + 64 * k = omega arith in
    let line : ys ≡ take 64 (drop (8 * index + 64 * k) xs) = is ∙ (λ t. take (size t) (drop (at t) xs)) in
    take-put_mid (64 * k) j buffer_words ys (64 * (k + 1)) (omega (arith, long)) (omega arith) ∙ ap (λ l. l ++ ys) was
    ∙ ap (λ l. take (64 * k) (drop (8 * index) xs) ++ l) line
    ∙ sym (ap (λ m. take m (drop (8 * index) xs)) next ∙ part-more (64 * k) 64 (8 * index) xs)

-- two parts that were read one after another
pub both_read : (a m n j k from : ℕ) (buffer_words xs first last : List ℕ) → length first ≡ a → j ≡ a
    → length buffer_words ≤ a + k → a + m ≡ n → first ≡ take a (drop from xs) → last ≡ take m (drop (from + a) xs)
    → put_mid a k (put_mid 0 j buffer_words first) last ≡ take n (drop from xs)
both_read a m n j k from buffer_words xs first last size whole fits sum one two =
    let between : List ℕ = first ++ drop j buffer_words in
    let front : take a between ≡ first = take_at first (drop j buffer_words) a size in
    let behind : drop a between ≡ drop j buffer_words = drop_at first (drop j buffer_words) a size in
    let none : drop k (drop j buffer_words) ≡ [] = drop_all k (drop j buffer_words)
    (omega (arith, length-drop j buffer_words, whole)) in
    (λ t. front t ++ (last ++ drop k (behind t))) ∙ ap (λ l. first ++ (last ++ l)) none
    ∙ ap (λ l. first ++ l) (append-nil last) ∙ (λ t. one t ++ two t)
    ∙ sym (part-more a m from xs) ∙ ap (λ c. take c (drop from xs)) sum

-- one line more of a run
pub next_line_put : (b i k : ℕ) (bytes line : List ℕ) (u v w : View) → 64 * k + 64 ≤ length bytes
    → PutsBytes b i (take (64 * k) bytes) u v → line ≡ take 64 (drop (64 * k) bytes) → PutsBytes b (i + 8 * k) line v w
    → PutsBytes b i (take (64 * (k + 1)) bytes) u w
next_line_put b i k bytes line u v w fits was is one =
    let front = take (64 * k) bytes in
    let long : length front ≡ 64 * k = omega (arith, length-take (64 * k) bytes) in
    let more : take (64 * (k + 1)) bytes ≡ front ++ line =
    (let n : 64 * (k + 1) ≡ 64 * k + 64 = omega arith in ap (λ m. take m bytes) n) ∙ take-more (64 * k) 64 bytes
    ∙ ap (λ l. front ++ l) (sym is) in
    puts_same b i (front ++ line) (take (64 * (k + 1)) bytes) u w (sym more)
    (puts_then b i (i + 8 * k) front line u v w (omega (arith, long)) (omega (arith, long)) was one)
