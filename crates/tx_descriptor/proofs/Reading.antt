-- Bytes within the profile are those of the descriptor that is read from them.
use Rattle.std.proofs.Common.{◌≡◌, ℕ, zero, suc, ◌+◌, ◌<◌, List, [], ◌∷◌, ◌++◌, length, get_or, Bool, true, false, not}
use Rattle.std.proofs.Common.{cond, eqb, bit_and, sym, refl, ap, ◌∙◌, subst, arith, eq-eqb}
use mathlib.Core.Logic.{dite}
use native.Mathlib.Decide.{ℕ_discrete}
use Rattle.std.proofs.lemmas.Bool.{eqb-true}
use Rattle.std.proofs.lemmas.Nat.{le_bytes_2, le_bytes_8}
use Rattle.std.specs.Int.{w16, w64, from_le_bytes}
use Rattle.tx_descriptor.specs.Bytes.{descriptor_bytes, IsInProfile}

-- the test passes at each number below n
passes : (ℕ → Bool) → ℕ → Bool
passes test zero = true
passes test (suc n) = cond (test n) (passes test n) false

passes-last : (test : ℕ → Bool) (n : ℕ) (b : Bool) → test n ≡ b → cond b (passes test n) false ≡ true → (test n ≡ true)
    × (passes test n ≡ true)
passes-last test n true is all = (is, all)
passes-last test n false is all = absurd (cc)

passes-at : (test : ℕ → Bool) (n i : ℕ) → passes test n ≡ true → i < n → test i ≡ true
unfolding passes
passes-at test zero i all below = absurd (omega arith)
passes-at test (suc n) i all below = let both = passes-last test n (test n) refl all in
    dite (ℕ_discrete i n) (λ last. ap test last ∙ both.0) (λ apart. passes-at test n i both.1 (omega arith))

-- a byte with no bit of the mask is the value
settles : ℕ → ℕ → ℕ → Bool
settles mask byte value = cond (eqb (bit_and byte mask) 0) (eqb value byte) true

settled : (mask byte value : ℕ) → settles mask byte value ≡ true → bit_and byte mask ≡ 0 → value ≡ byte
unfolding settles
settled mask byte value all clear =
    eqb-true value byte (subst (λ t. cond t (eqb value byte) true ≡ true) (eq-eqb (bit_and byte mask) 0 clear) all)

-- the value of each of a byte's bits, as it is read and written again
bit : ℕ → ℕ → ℕ
bit byte mask = cond (not (eqb (bit_and byte mask) 0)) mask 0

pub command : (b : ℕ) → b < 256 → bit_and b 246 ≡ 0 → cond (not (eqb (bit_and b 1) 0)) 1 0
    + cond (not (eqb (bit_and b 8) 0)) 8 0 ≡ b
unfolding passes settles bit
command b small clear = settled 246 b (bit b 1 + bit b 8)
    (passes-at (λ x. settles 246 x (bit x 1 + bit x 8)) 256 b refl small) clear

pub status : (b : ℕ) → b < 256 → bit_and b 254 ≡ 0 → cond (not (eqb (bit_and b 1) 0)) 1 0 ≡ b
unfolding passes settles bit
status b small clear = settled 254 b (bit b 1) (passes-at (λ x. settles 254 x (bit x 1)) 256 b refl small) clear

pub zero_byte : (b : ℕ) → b < 256 → bit_and b 255 ≡ 0 → 0 ≡ b
unfolding passes settles
zero_byte b small clear = settled 255 b 0 (passes-at (λ x. settles 255 x 0) 256 b refl small) clear

items_of : (ℕ → ℕ) → ℕ → List ℕ
items_of item zero = []
items_of item (suc n) = item 0 ∷ items_of (λ i. item (suc i)) n

items-all : (b : List ℕ) (n : ℕ) → length b ≡ n → b ≡ items_of (λ i. get_or b i 0) n
unfolding items_of
items-all [] zero long = refl
items-all [] (suc n) long = absurd (omega arith)
items-all (x ∷ xs) zero long = absurd (omega arith)
items-all (x ∷ xs) (suc n) long = ap (λ t. x ∷ t) (items-all xs n (omega arith))

eight_bytes : List ℕ → List ℕ
eight_bytes b = get_or b 0 0 ∷ get_or b 1 0 ∷ get_or b 2 0 ∷ get_or b 3 0 ∷ get_or b 4 0 ∷ get_or b 5 0 ∷ get_or b 6 0
    ∷ get_or b 7 0 ∷ []

-- the last six bytes, as they are read and written again
tail_bytes : List ℕ → List ℕ
tail_bytes b = 0 ∷ (bit (get_or b 11 0) 1 + bit (get_or b 11 0) 8) ∷ bit (get_or b 12 0) 1 ∷ 0 ∷ 0 ∷ 0 ∷ []

parts : (b : List ℕ) → length b ≡ 16 → ((i : ℕ) → get_or b i 0 < 256) → ((i : ℕ) → i < 16 → IsInProfile b i)
    → b ≡ eight_bytes b ++ ((get_or b 8 0 ∷ get_or b 9 0 ∷ []) ++ tail_bytes b)
unfolding items_of eight_bytes tail_bytes bit
parts b long small clear = items-all b 16 long ∙ (λ k. eight_bytes b ++ (get_or b 8 0 ∷ get_or b 9 0
    ∷ sym (zero_byte (get_or b 10 0) (small 10) (clear 10 (omega arith))) k
    ∷ sym (command (get_or b 11 0) (small 11) (clear 11 (omega arith))) k
    ∷ sym (status (get_or b 12 0) (small 12) (clear 12 (omega arith))) k
    ∷ sym (zero_byte (get_or b 13 0) (small 13) (clear 13 (omega arith))) k
    ∷ sym (zero_byte (get_or b 14 0) (small 14) (clear 14 (omega arith))) k
    ∷ sym (zero_byte (get_or b 15 0) (small 15) (clear 15 (omega arith))) k ∷ []))

eight-small : (b : List ℕ) → ((i : ℕ) → get_or b i 0 < 256) → (i : ℕ) → get_or (eight_bytes b) i 0 < 256
unfolding eight_bytes
eight-small b small zero = small 0
eight-small b small (suc zero) = small 1
eight-small b small (suc (suc zero)) = small 2
eight-small b small (suc (suc (suc zero))) = small 3
eight-small b small (suc (suc (suc (suc zero)))) = small 4
eight-small b small (suc (suc (suc (suc (suc zero))))) = small 5
eight-small b small (suc (suc (suc (suc (suc (suc zero)))))) = small 6
eight-small b small (suc (suc (suc (suc (suc (suc (suc zero))))))) = small 7
eight-small b small (suc (suc (suc (suc (suc (suc (suc (suc i)))))))) = omega arith

two-small : {x y : ℕ} → x < 256 → y < 256 → (i : ℕ) → get_or (x ∷ y ∷ []) i 0 < 256
two-small first second zero = first
two-small first second (suc zero) = second
two-small first second (suc (suc i)) = omega arith

-- what is read from bytes within the profile has these bytes
pub read-back : (b : List ℕ) (a l : ℕ) → length b ≡ 16 → ((i : ℕ) → get_or b i 0 < 256)
    → ((i : ℕ) → i < 16 → IsInProfile b i)
    → a ≡ from_le_bytes w64 (get_or b 0 0 ∷ get_or b 1 0 ∷ get_or b 2 0 ∷ get_or b 3 0 ∷ get_or b 4 0 ∷ get_or b 5 0
    ∷ get_or b 6 0 ∷ get_or b 7 0 ∷ [])
    → l ≡ from_le_bytes w16 (get_or b 8 0 ∷ get_or b 9 0 ∷ [])
    → descriptor_bytes (record {
      address = a;
      len = l;
      eop = not (eqb (bit_and (get_or b 11 0) 1) 0);
      rs = not (eqb (bit_and (get_or b 11 0) 8) 0);
      dd = not (eqb (bit_and (get_or b 12 0) 1) 0);
    }) ≡ b
unfolding eight_bytes tail_bytes bit
read-back b a l long small clear address len =
    let eight = le_bytes_8 (eight_bytes b) a refl (eight-small b small) address in
    let two = le_bytes_2 (get_or b 8 0 ∷ get_or b 9 0 ∷ []) l refl (two-small (small 8) (small 9)) len in
    (λ k. eight k ++ (two k ++ tail_bytes b)) ∙ sym (parts b long small clear)
