-- What a pool's name says of its table.
use Rattle.std.proofs.Common.{◌≡◌, ℕ, ◌+◌, ◌<◌, ◌^◌, ⊎_elim, sym, ◌∙◌, ap, subst, arith}
use Rattle.atomic_table.specs.Seated.{TableId}
use Rattle.pin_core.specs.Buffers.{buffers, buffer_words}
use Rattle.pin_core.specs.declared.sizes.Sizes.{Sizes}
use Rattle.pin_core.proofs.Places.{place-within, class_of}
use Rattle.pinned_pool.specs.Rule.{word_at}
use Rattle.pinned_pool.specs.Named.{IsPoolOf}

module _ (table id : TableId) (sizes key : Sizes) (p : IsPoolOf table sizes id key) where
  pub near : (b : ℕ) → b < buffers sizes → (b < buffers key) × (b < id.words)
  near b h = let e = ap buffers p.sizes_are in (omega (arith, e, h), omega (arith, e, h, p.words))

  pub some_word : 0 < id.words
  some_word = omega (arith, p.words, p.some)

  -- a data word stands where the table's own sizes have it
  pub record DataWord (b i k : ℕ) : Type 0 where
    pub inside : k < id.words
    pub place : k ≡ word_at key b i
    pub fits : i < buffer_words key b

  pub data_word : (b i k : ℕ) → b < buffers sizes → i < buffer_words sizes b → k ≡ word_at sizes b i → DataWord b i k
  data_word b i k h fits e =
      let back = sym p.sizes_are in
      let there : k ≡ word_at key b i = e ∙ ap (λ (z : Sizes). word_at z b i) back in
      let fits' : i < buffer_words key b = subst (λ (z : Sizes). i < buffer_words z b) back fits in
      record {
        inside = omega (arith, there, p.words, place-within key b i (near b h).0 fits');
        place = there;
        fits = fits';
      }

-- a data word by the place of its buffer's first one
pub word-on : (z : Sizes) (b c i j first : ℕ) → first ≡ word_at z b 0 → c ≡ b → j ≡ i → first + i ≡ word_at z c j
word-on z b c i j first is same_b same_i =
    let here : first + i ≡ word_at z b i = omega (arith, is) in
    here ∙ ap (λ (p : ℕ × ℕ). word_at z p.0 p.1) (λ t. (sym same_b t, sym same_i t))

-- no place comes near to the limit of its type
pub first-most : (z : Sizes) (b first : ℕ) → b < buffers z → buffers z < 2 ^ 32 → first ≡ word_at z b 0 → first < 2 ^ 42
first-most z b first near few is =
    ⊎_elim (λ l. omega (arith, l.above, l.start_is, is, near, few))
    (λ s. omega (arith, s.below, s.start_is, is, near, few)) (class_of z b)
