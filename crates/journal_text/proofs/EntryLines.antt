-- What a line of an entry has.
use Rattle.std.proofs.Common.{◌≡◌, ◌≢◌, ◌∙◌, sym, ℕ, ◌<◌, ◌^◌, List, ◌∷◌, ◌++◌, arith, take}
use Rattle.std.specs.Fmt.{decimal}
use Rattle.flake_base.specs.declared.journal.Entry.{Entry}
use Rattle.flake_model.proofs.Decimals.{same_decimal}
use Rattle.journal_text.specs.Text.{ShardEntry, entry_line, IsInRange, IsEntryPlaced}
use Rattle.journal_text.proofs.Places.{HasNo, HasNo-decimal, before_byte, behind}

abbrev pub no_blank : (n : ℕ) → HasNo 32 (decimal n)
no_blank n = HasNo-decimal 32 n (omega arith)

-- a number before a blank and what stands behind that are determined
pub one_field : (m n : ℕ) (some others : List ℕ) → n < 2 ^ 64 → decimal m ++ 32 ∷ some ≡ decimal n ++ 32 ∷ others
    → (m ≡ n) × (some ≡ others)
one_field m n some others small is =
    let parts = before_byte 32 (decimal m) (decimal n) some others (no_blank m) (no_blank n) is in
    (same_decimal m n small parts.0, parts.1)

-- a line whose first word is no number
pub no_field : (limit : ℕ) (line : List ℕ) (end : ℕ) → line ≡ take end line ++ 32 ∷ behind end line
    → HasNo 32 (take end line) → ((n : ℕ) → n < limit → take end line ≢ decimal n)
    → (n : ℕ) (rest : List ℕ) → n < limit → line ≢ decimal n ++ 32 ∷ rest
no_field limit line end parts clear none n rest below is =
    none n below (before_byte 32 (take end line) (decimal n) (behind end line) rest clear (no_blank n)
    (sym parts ∙ is)).0

-- what stands behind the first words of an entry's line
abbrev pub behind_shard : Entry → List ℕ
behind_shard entry = decimal entry.session ++ 32 ∷ (decimal entry.call ++ 32 ∷ decimal entry.part)

abbrev pub behind_session : Entry → List ℕ
behind_session entry = decimal entry.call ++ 32 ∷ decimal entry.part

-- a line is that of one entry
pub one_entry : (some other : ShardEntry) → IsEntryPlaced 16 some → IsEntryPlaced 16 other → entry_line some
    ≡ entry_line other → some ≡ other
one_entry some other range in_range is =
    let a = some.1 in
    let b = other.1 in
    let shard = one_field some.0 other.0 (behind_shard a) (behind_shard b) (omega (arith, in_range.0)) is in
    let session = one_field a.session b.session (behind_session a) (behind_session b)
    (omega (arith, in_range.1.session)) shard.1 in
    let call = one_field a.call b.call (decimal a.part) (decimal b.part) (omega (arith, in_range.1.call)) session.1 in
    let part = same_decimal a.part b.part (omega (arith, in_range.1.part)) call.1 in
    same_placed shard.0 (same_entry a b session.0 call.0 part) where
      same_placed : some.0 ≡ other.0 → some.1 ≡ other.1 → some ≡ other
      same_placed shard entry = λ i. (shard i, entry i)

      same_entry : (a b : Entry) → a.session ≡ b.session → a.call ≡ b.call → a.part ≡ b.part → a ≡ b
      same_entry a b session call part = λ i. record { session = session i; call = call i; part = part i }

pub after_shard : (line rest : List ℕ) (shard : ℕ) (placed : ShardEntry) → IsEntryPlaced 16 placed
    → line ≡ decimal shard ++ 32 ∷ rest → line ≡ entry_line placed → rest ≡ behind_shard placed.1
after_shard line rest shard placed range parts is =
    (one_field shard placed.0 rest (behind_shard placed.1) (omega (arith, range.0)) (sym parts ∙ is)).1

pub after_session : (line rest : List ℕ) (session : ℕ) (entry : Entry) → IsInRange entry → line ≡ decimal session
    ++ 32 ∷ rest → line ≡ behind_shard entry → rest ≡ behind_session entry
after_session line rest session entry range parts is =
    (one_field session entry.session rest (behind_session entry) (omega (arith, range.session)) (sym parts ∙ is)).1

pub after_call : (line rest : List ℕ) (call : ℕ) (entry : Entry) → IsInRange entry → line ≡ decimal call ++ 32 ∷ rest
    → line ≡ behind_session entry → rest ≡ decimal entry.part
after_call line rest call entry range parts is =
    (one_field call entry.call rest (decimal entry.part) (omega (arith, range.call)) (sym parts ∙ is)).1
