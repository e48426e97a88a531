use Rattle.std.proofs.Common.{ℕ, List, length, arith, subst}
use Rattle.std.proofs.lemmas.List.{length-map}
use Rattle.std.proofs.lemmas.Result.{err_from_is_err_and}
use Rattle.journal_text.specs.Lines.{lines_of}
use Rattle.journal_text.specs.Reading.{IsJournalFault}
use Rattle.journal_text.specs.declared.error.JournalError.{JournalError}
use Rattle.journal_text.specs.declared.error.JournalError.TheVariants.{BadLine, Memory}
use Rattle.check_files.specs.File.{given_in, file_givens}
use Rattle.check_files.specs.Files.{AreWithin, IsTextOf, texts_since}
use Rattle.check_files.specs.Stopped.{WhyStopped, of_journal}
use Rattle.check_files.proofs.Since.{few_since}
use Rattle.check_files.proofs.verdict.check_files.Goals as goal

bad_journal : (texts : List (List ℕ)) (text : List ℕ) → IsTextOf texts 0 text → AreWithin texts (length texts)
    → (error : JournalError) → IsJournalFault (lines_of text) error → WhyStopped texts (of_journal error)
bad_journal texts text at within (BadLine line) bad = (record { bytes = text; bytes_are = at; bad = bad }, within)
bad_journal texts text at within Memory bad = tt

pub returns-in_err-journal-clause-err : goal.returns-in_err-journal-clause-err
returns-in_err-journal-clause-err g c =
    let olds = file_givens g.S.Source.given c.args.files.now in
    let news = file_givens g.S.Source.given c.read_all.new.files in
    let read = c.in_ok-texts.ensures in
    let within : AreWithin (texts_since olds news) (length (texts_since olds news)) = λ k text low is.
    read.within k text
    (omega (arith, low, few_since olds news, length-map c.args.files.now (λ f. given_in g.S.Source.given f))) is in
    let p = err_from_is_err_and c.from_residual-in_err-journal.result c.from_residual-in_err-journal.ensures.1 in
    rw (p.1, p.2) (bad_journal (texts_since olds news) c.in_ok-texts.texts.journal.items read.contents.journal_is within
    c.in_err-journal.field-0.0
    (subst (λ text. IsJournalFault (lines_of text) c.in_err-journal.field-0.0) c.as_slice.ensures
    c.in_err-journal.ensures.err))

pub check-requires-clause-few_sessions : goal.check-requires-clause-few_sessions
check-requires-clause-few_sessions g c =
    let olds = file_givens g.S.Source.given c.args.files.now in
    let news = file_givens g.S.Source.given c.read_all.new.files in
    omega (
      arith,
      c.requires.few,
      c.in_ok-texts.ensures.contents.sessions,
      few_since olds news,
      length-map c.args.files.now (λ f. given_in g.S.Source.given f),
      length-map c.in_ok-texts.texts.inputs.items (λ input. input.items),
    )
