use Rattle.std.proofs.Common.{◌≡◌, [], ◌∷◌, ◌∙◌, refl, sym, ap, subst, arith, List, ℕ, length, vec_len, IfErr}
use Rattle.flake_base.specs.declared.journal.Entry.{Entry}
use Rattle.journal_text.specs.Lines.{lines_of}
use Rattle.journal_text.specs.Text.{head_line}
use Rattle.journal_text.specs.Reading.{IsJournalFault}
use Rattle.journal_text.proofs.HasReads.{bad_head, no_head, count_histories}
use Rattle.std.proofs.lemmas.List.{length-replicate}
use Rattle.journal_text.proofs.reading.read_journal.Goals as goal

pub returns-in_default-clause-err : goal.returns-in_default-clause-err
returns-in_default-clause-err c = no_head c.args.text.now c.in_default.ensures.none

pub returns-in_default-shards_of-clause-err : goal.returns-in_default-shards_of-clause-err
returns-in_default-shards_of-clause-err c = bad_head (lines_of c.args.text.now) c.in-Some.head.now
    (lines_of c.in-Some.entries.now) c.in-Some.ensures.some (c.in_default-shards_of.ensures.none refl)

pub returns-clause-err : goal.returns-clause-err
returns-clause-err c =
    let lists = c.in_ok-lists.lists in
    let shards = c.in-Some-shards_of.shards in
    let rest = lines_of c.in-Some.entries.now in
    let none : List Entry = [] in
    let count : vec_len lists ≡ shards =
    omega (arith, count_histories lists.items, ap length c.in_ok-lists.ensures, length-replicate shards none) in
    let all : head_line (vec_len lists) ∷ rest ≡ lines_of c.args.text.now =
    ap (λ n. head_line n ∷ rest) count ∙ ap (λ line. line ∷ rest) (sym c.in-Some-shards_of.ensures.some)
    ∙ sym c.in-Some.ensures.some in
    subst (λ (lines : List (List ℕ)). IfErr c.read_entries.result (IsJournalFault lines)) all c.read_entries.ensures.err
