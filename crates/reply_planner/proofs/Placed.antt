-- The place of an address.
use Rattle.std.proofs.Common.{◌≡◌, ℕ, ◌+◌, ◌-◌, ◌*◌, ◌/◌, ◌%◌, ◌<◌, cond, ap, ◌∙◌, lt_of_not-le, arith}
use mathlib.Core.Logic.{dite}
use native.Mathlib.Decide.{dec_le}
use Rattle.std.proofs.lemmas.Bool.{lt-ltb, le-ltb}
use Rattle.pin_core.specs.Buffers.{buffer_words}
use Rattle.pin_core.specs.declared.sizes.Sizes.{Sizes}
use Rattle.pinned_pool.specs.Addresses.{address_of, Covers}
use Rattle.reply_planner.specs.Places.{place_of}

-- the two parts of a place, where the numbers below 512 times the small buffers are theirs
abbrev low : Sizes → ℕ → ℕ × ℕ
low z n = (n / 512, n % 512)

abbrev high : Sizes → ℕ → ℕ × ℕ
high z n = (z.small + (n - 512 * z.small) / 4096, (n - 512 * z.small) % 4096)

pair : (a b c d : ℕ) → a ≡ c → b ≡ d → (let p : ℕ × ℕ = (a, b) in p) ≡ (c, d)
pair a b c d e f = λ i. (e i, f i)

pub place-is : (z : Sizes) (b i : ℕ) → i < 8 * buffer_words z b → place_of z (address_of z b + i) ≡ (b, i)
place-is z b i near = dite (dec_le z.small b)
    (λ le.
    let t = le-ltb b z.small le in
    let fits : i < 4096 = omega (arith, near, ap {B = ℕ} (λ t. cond t 64 512) t) in
    let at : address_of z b + i - 1048576 ≡ 512 * z.small + (4096 * (b - z.small) + i) =
    omega (arith, ap (λ t. 1048576 + cond t (512 * b) (512 * z.small + 4096 * (b - z.small))) t) in
    let n = address_of z b + i - 1048576 in
    let off = le-ltb n (512 * z.small) (omega (arith, at)) in
    ap (λ t. cond t (low z n) (high z n)) off ∙ pair (z.small + (n - 512 * z.small) / 4096) ((n - 512 * z.small) % 4096)
    b i (omega (arith, at, le, fits)) (omega (arith, at, fits)))
    (λ not.
    let lt = lt_of_not-le not in
    let t = lt-ltb b z.small lt in
    let fits : i < 512 = omega (arith, near, ap {B = ℕ} (λ t. cond t 64 512) t) in
    let at : address_of z b + i - 1048576 ≡ 512 * b + i =
    omega (arith, ap (λ t. 1048576 + cond t (512 * b) (512 * z.small + 4096 * (b - z.small))) t) in
    let n = address_of z b + i - 1048576 in
    let on = lt-ltb n (512 * z.small) (omega (arith, at, lt, fits)) in
    ap (λ t. cond t (low z n) (high z n)) on ∙ pair (n / 512) (n % 512) b i (omega (arith, at, fits))
    (omega (arith, at, fits)))

-- what covers an address is its place
pub place-covered : (z : Sizes) (b i address : ℕ) → Covers z b i address → place_of z address ≡ (b, i)
place-covered z b i address covered = ap (place_of z) covered.2 ∙ place-is z b i covered.1
