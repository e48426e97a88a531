-- What opened files come to.
use Rattle.std.proofs.Common.{◌≡◌, ℕ, zero, suc, Bool, List, [], ◌∷◌, ◌++◌, Option, Some, Result, Ok, Err, IfOk, OnOk}
use Rattle.std.proofs.Common.{IfErr, length, take, slice_get, refl, sym, ap, ◌∙◌, subst}
use Rattle.std.proofs.lemmas.List.{length-map}
use Rattle.flake_base.specs.Causes.{Rose}
use Rattle.flake_base.specs.Told.{HostTold}
use Rattle.replay_check.specs.declared.verdict.Verdict.{Verdict}
use Rattle.check_files.specs.File.{name_in, given_in, file_names, file_wholes, file_givens, file_endeds}
use Rattle.check_files.specs.Files.{texts_since, AllReadToEnd}
use Rattle.check_files.specs.Judged.{IsJudged}
use Rattle.check_files.specs.Named.{Named, AreUnread, FilesOpened, NoneFailed, endeds_unread}
use Rattle.check_files.specs.Answer.{FailedBy, HasCauseIn, WereJudged, WereStopped}
use Rattle.check_files.specs.Stopped.{WhyStopped, FaultsBy, ReadsBy}
use Rattle.check_files.specs.declared.error.CheckError.{CheckError}
use Rattle.check_files.specs.declared.error.CheckError.TheVariants.{OpenFault, ReadFault, TooLarge, BadLine, Memory}
use Rattle.check_files.specs.declared.file.File.{File}
use Rattle.check_files.proofs.Since.{since_unread}

-- a list in front of another
take_front : {A : Type 0} (xs rest : List A) → take (length xs) (xs ++ rest) ≡ xs
take_front [] rest = refl
take_front (x ∷ xs) rest = ap (λ ys. x ∷ ys) (take_front xs rest)

pub written_back : {A : Type 0} (xs rest : List A) (n : ℕ) → n ≡ length xs → take n (xs ++ rest) ≡ xs
written_back xs rest n is = ap (λ m. take m (xs ++ rest)) is ∙ take_front xs rest

zero_at : (faults : List ℕ) (k n : ℕ) → NoneFailed faults → slice_get faults k ≡ Some n → n ≡ 0
zero_at [] k n none is = absurd (cc is)
zero_at (first ∷ faults) zero n none is = let same : first ≡ n = cc is in sym same ∙ none.0
zero_at (first ∷ faults) (suc k) n none is = zero_at faults k n none.1 is

-- files that were opened, and then read
module _ {S : Type 0} (name : S → List ℕ) (whole : S → Option (List ℕ)) (given : S → List ℕ) (ended : S → Bool)
    (words : List Named) (old new : HostTold) (held files : List (File S))
    (opened : FilesOpened words old new (file_names name held) (file_wholes whole held))
    (unread : AreUnread words (file_givens given held) (file_endeds ended held))
    (names : file_names name files ≡ file_names name held)
    (wholes : file_wholes whole files ≡ file_wholes whole held) where
  opened_now : FilesOpened words old new (file_names name files) (file_wholes whole files)
  opened_now = subst (λ (ns : List Named). FilesOpened words old new ns (file_wholes whole files)) (sym names)
      (subst (λ (ws : List (Option (List ℕ))). FilesOpened words old new (file_names name held) ws) (sym wholes) opened)

  -- they gave all since they were opened
  since : texts_since (file_givens given held) (file_givens given files) ≡ file_givens given files
  since =
      let many : length (file_givens given files) ≡ length words =
      length-map files (λ f. given_in given f) ∙ sym (length-map files (λ f. name_in name f))
      ∙ ap length (names ∙ opened.names_are) in
      ap (λ gs. texts_since gs (file_givens given files)) unread.givens_are
      ∙ since_unread words (file_givens given files) many

  pub judged_so : (result : Result Verdict CheckError)
      → IfOk result (λ v. IsJudged (texts_since (file_givens given held) (file_givens given files)) v)
      → OnOk result (AllReadToEnd (file_endeds ended files))
      → IfOk result (λ v. WereJudged words old new (file_names name files) (file_wholes whole files)
      (file_givens given files) (file_endeds ended files) v)
  judged_so (Ok verdict) judged all = record {
    opened = opened_now;
    judged = subst (λ (texts : List (List ℕ)). IsJudged texts verdict) since judged;
    ended = all;
  }
  judged_so (Err error) judged all = tt

  were_stopped : (error : CheckError)
      → WhyStopped (texts_since (file_givens given held) (file_givens given files)) error
      → ReadsBy error (file_givens given held) (file_givens given files) (file_endeds ended held)
      (file_endeds ended files) → WereStopped words old new (file_names name files) (file_wholes whole files)
      (file_givens given files) (file_endeds ended files) error
  were_stopped error stopped reads = record {
    opened = opened_now;
    stopped = subst (λ (texts : List (List ℕ)). WhyStopped texts error) since stopped;
    reads = subst (λ (gs : List (List ℕ)). ReadsBy error gs (file_givens given files) (endeds_unread words)
        (file_endeds ended files)) unread.givens_are
        (subst (λ (es : List Bool). ReadsBy error (file_givens given held) (file_givens given files) es
        (file_endeds ended files)) unread.endeds_are reads);
  }

  cause_in : (error : CheckError)
      → WhyStopped (texts_since (file_givens given held) (file_givens given files)) error
      → ReadsBy error (file_givens given held) (file_givens given files) (file_endeds ended held)
      (file_endeds ended files) → HasCauseIn words old new (file_names name files) (file_wholes whole files)
      (file_givens given files) (file_endeds ended files) error
  cause_in (OpenFault file) stopped reads = absurd stopped
  cause_in (ReadFault file) stopped reads = were_stopped (ReadFault file) stopped reads
  cause_in (TooLarge file) stopped reads = were_stopped (TooLarge file) stopped reads
  cause_in (BadLine line) stopped reads = were_stopped (BadLine line) stopped reads
  cause_in Memory stopped reads = were_stopped Memory stopped reads

  pub caused_so : (result : Result Verdict CheckError)
      → IfErr result (λ e. WhyStopped (texts_since (file_givens given held) (file_givens given files)) e)
      → IfErr result (λ e. ReadsBy e (file_givens given held) (file_givens given files) (file_endeds ended held)
      (file_endeds ended files))
      → IfErr result (λ e. HasCauseIn words old new (file_names name files) (file_wholes whole files)
      (file_givens given files) (file_endeds ended files) e)
  caused_so (Ok verdict) stopped reads = tt
  caused_so (Err error) stopped reads = cause_in error stopped reads

pub failed_by : (result : Result Verdict CheckError) (olds news : List ℕ) → NoneFailed olds
    → IfErr result (λ e. FaultsBy e olds news) → IfErr result (λ e. FailedBy e news)
failed_by (Ok verdict) olds news none by = tt
failed_by (Err (OpenFault file)) olds news none by = subst NoneFailed (sym by) none
failed_by (Err (ReadFault file)) olds news none by = record {
  count = by.now;
  count_is = by.now_is;
  rose = subst (λ n. Rose n by.now) (zero_at olds file by.was none by.was_is) by.rose;
  others = λ k n other is. zero_at olds k n none (sym (by.others k other) ∙ is);
}
failed_by (Err (TooLarge file)) olds news none by = subst NoneFailed (sym by) none
failed_by (Err (BadLine line)) olds news none by = subst NoneFailed (sym by) none
failed_by (Err Memory) olds news none by = subst NoneFailed (sym by) none
