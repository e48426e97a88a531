-- The outcome of a run, as plain data.
use Rattle.std.specs.Prelude.{◌≡◌, ℕ, Bool, false, List, [], Option, Some, map}
use Rattle.flake_base.specs.Reads.{IsGivenFront}
use Rattle.flake_base.specs.Roomy.{Roomy}
use Rattle.flake_base.specs.declared.journal.Entry.{Entry}
use Rattle.flake_base.specs.declared.session.End.{End}
use Rattle.flake_base.specs.declared.session.SessionEnd.{SessionEnd}
use Rattle.pin_core.specs.declared.class.Held.{Held}
use Rattle.pinned_pool.specs.Ends.{End as PoolEnd}
use Rattle.flake_base.specs.Histories.{histories}
use Rattle.serve_inputs.specs.Dumped.{DumpTold, no_dump}
use Rattle.flake_run.specs.declared.outcome.Detail.{Detail}
use Rattle.flake_run.specs.declared.outcome.Opened.{Opened}

-- what a source tells: the name under which it was opened; all bytes that it holds, where it tells them; those that its
-- reads gave, and whether the last of these gave none; and how often a read failed
pub record SourceTold : Type 0 where
  pub name : List ℕ
  pub whole : Option (List ℕ)
  pub given : List ℕ
  pub ended : Bool
  pub faults : ℕ

abbrev pub source_told : {S : Type 0} → (S → List ℕ) → (S → Option (List ℕ)) → (S → List ℕ) → (S → Bool) → (S → ℕ) → S
    → SourceTold
source_told name whole given ended faults source = record {
  name = name source;
  whole = whole source;
  given = given source;
  ended = ended source;
  faults = faults source;
}

-- what sources tell, each by its file's number
abbrev pub opened_told : {S : Type 0} → (S → SourceTold) → List (Opened S) → List (Opened SourceTold)
opened_told tells opened = map (λ one. record { file = one.file; source = tells one.source }) opened

pub record RunOutcome : Type 0 where
  pub status : ℕ
  pub detail : Detail
  pub ends : List SessionEnd
  pub journal : List (List Entry)
  -- how many buffers are held, and the closed pool, where something was served
  pub held : Held
  pub pool : Option PoolEnd
  -- what came of the dump that was asked for
  pub dump : DumpTold
  pub sources : List (Opened SourceTold)

abbrev pub done_with : DumpTold → ℕ → Detail → List SessionEnd → List (Roomy Entry) → Held → Option PoolEnd
    → List (Opened SourceTold) → RunOutcome
done_with dump status detail ends journal held pool sources = record {
  status = status;
  detail = detail;
  ends = ends;
  journal = histories journal;
  held = held;
  pool = pool;
  dump = dump;
  sources = sources;
}

-- without a dump
abbrev pub done : ℕ → Detail → List SessionEnd → List (Roomy Entry) → Held → Option PoolEnd → List (Opened SourceTold)
    → RunOutcome
done status detail ends journal held pool sources = done_with no_dump status detail ends journal held pool sources

abbrev pub none_held : Held
none_held = record { small = 0; large = 0 }

abbrev pub ways : List SessionEnd → List End
ways ends = map (λ end. end.end) ends

abbrev pub files_of : List (Opened SourceTold) → List ℕ
files_of opened = map (λ one. one.file) opened

abbrev pub sources_of : List (Opened SourceTold) → List SourceTold
sources_of opened = map (λ one. one.source) opened

abbrev pub source_names : List SourceTold → List (List ℕ)
source_names sources = map (λ source. source.name) sources

abbrev pub wholes_of : List SourceTold → List (Option (List ℕ))
wholes_of sources = map (λ source. source.whole) sources

abbrev pub givens_of : List SourceTold → List (List ℕ)
givens_of sources = map (λ source. source.given) sources

abbrev pub endeds_of : List SourceTold → List Bool
endeds_of sources = map (λ source. source.ended) sources

abbrev pub read_faults_of : List SourceTold → List ℕ
read_faults_of sources = map (λ source. source.faults) sources

-- a source of which nothing was read
pub record IsUntouched (source : SourceTold) : Type 0 where
  pub given : source.given ≡ []
  pub ended : source.ended ≡ false
  pub faults : source.faults ≡ 0

-- what it gave is a front of what it holds, and all of it where it gave none at last
abbrev pub GaveFront : SourceTold → Type 0
GaveFront source = IsGivenFront source.whole source.given source.ended

-- by what it gave, these may be all of its bytes: they are what it gave, with what was still to come, if anything was
abbrev pub MayHold : List ℕ → SourceTold → Type 0
MayHold bytes source = IsGivenFront (Some bytes) source.given source.ended
