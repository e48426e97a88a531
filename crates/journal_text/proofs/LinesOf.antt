-- The lines of a text, from the first one on.
use Rattle.std.proofs.Common.{◌≡◌, ◌∙◌, refl, ap, ℕ, false, List, [], ◌∷◌, ◌++◌, arith, append_assoc, length, map}
use Rattle.std.specs.Prelude.{◌==◌, codes}
use Rattle.std.specs.List.{AllByRecursion}
use Rattle.std.specs.Fmt.{decimal}
use Rattle.std.proofs.lemmas.Bool.Decides.{nat_tests}
use Rattle.flake_base.specs.declared.journal.Entry.{Entry}
use Rattle.journal_text.specs.Lines.{with_line_byte, lines_of, joined_lines}
use Rattle.journal_text.specs.Text.{ShardEntry, placed_from, head_line, entry_line, journal_lines, journal_text_of}
use Rattle.journal_text.proofs.Places.{HasNo, HasNo-append, HasNo-decimal}

-- a line up to its LF
pub first_of : (line rest : List ℕ) → HasNo 10 line → lines_of (line ++ 10 ∷ rest) ≡ line ∷ lines_of rest
first_of [] rest clear = refl
first_of (byte ∷ line) rest clear =
    let other : (byte == 10) ≡ false = grind (arith, nat_tests) in
    rw other (ap (with_line_byte byte) (first_of line rest clear.1))

-- a last line that lacks it
pub last_of : (byte : ℕ) (line : List ℕ) → HasNo 10 (byte ∷ line) → lines_of (byte ∷ line) ≡ (byte ∷ line) ∷ []
last_of byte [] clear =
    let other : (byte == 10) ≡ false = grind (arith, nat_tests) in
    rw other refl
last_of byte (next ∷ line) clear =
    let other : (byte == 10) ≡ false = grind (arith, nat_tests) in
    rw other (ap (with_line_byte byte) (last_of next line clear.1))

pub all_of : (lines : List (List ℕ)) → AllByRecursion (HasNo 10) lines → lines_of (joined_lines lines) ≡ lines
all_of [] clear = refl
all_of (line ∷ lines) clear =
    ap lines_of (append_assoc line (10 ∷ []) (joined_lines lines)) ∙ first_of line (joined_lines lines) clear.0
    ∙ ap (λ rest. line ∷ rest) (all_of lines clear.1)

pub no_lf_in_number : (n : ℕ) → HasNo 10 (decimal n)
no_lf_in_number n = HasNo-decimal 10 n (omega arith)

no_lf_in_word : HasNo 10 (codes "shards ")
no_lf_in_word = (
  omega arith,
  (omega arith, (omega arith, (omega arith, (omega arith, (omega arith, (omega arith, tt)))))),
)

no_lf_in_head : (shards : ℕ) → HasNo 10 (head_line shards)
no_lf_in_head shards = HasNo-append 10 (codes "shards ") (decimal shards) no_lf_in_word (no_lf_in_number shards)

-- a number and a blank before others
with_number : (n : ℕ) (rest : List ℕ) → HasNo 10 rest → HasNo 10 (decimal n ++ 32 ∷ rest)
with_number n rest clear = HasNo-append 10 (decimal n) (32 ∷ rest) (no_lf_in_number n) ((omega arith), clear)

no_lf_in_entry : (placed : ShardEntry) → HasNo 10 (entry_line placed)
no_lf_in_entry placed =
    let entry = placed.1 in
    with_number placed.0 (decimal entry.session ++ 32 ∷ (decimal entry.call ++ 32 ∷ decimal entry.part))
    (with_number entry.session (decimal entry.call ++ 32 ∷ decimal entry.part)
    (with_number entry.call (decimal entry.part) (no_lf_in_number entry.part)))

no_lf_in_entries : (placed : List ShardEntry) → AllByRecursion (HasNo 10) (map entry_line placed)
no_lf_in_entries [] = tt
no_lf_in_entries (first ∷ placed) = (no_lf_in_entry first, no_lf_in_entries placed)

-- a text has the lines that it was written from
pub written_lines : (journal : List (List Entry)) → lines_of (journal_text_of journal) ≡ journal_lines journal
written_lines journal = all_of (journal_lines journal)
    (no_lf_in_head (length journal), no_lf_in_entries (placed_from 0 journal))

-- a text that isn't empty and has no LF is one line
pub last_line : (text : List ℕ) → (length text == 0) ≡ false → HasNo 10 text → lines_of text ≡ text ∷ []
last_line [] some clear = absurd (cc)
last_line (byte ∷ text) some clear = last_of byte text clear
