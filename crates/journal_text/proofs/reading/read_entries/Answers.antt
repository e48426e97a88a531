use Rattle.std.proofs.Common.{◌+◌, ◌<◌, ◌∷◌, refl, sym, subst, arith, List, ℕ, length, vec_len}
use Rattle.flake_base.specs.declared.journal.Entry.{Entry}
use Rattle.flake_base.specs.Histories.{histories}
use Rattle.journal_text.specs.Lines.{lines_of}
use Rattle.journal_text.specs.Text.{ShardEntry, head_line, IsEntryPlaced}
use Rattle.journal_text.proofs.HasReads.{HasRead, has_begun, goes_on, is_bad, same_shard, count_histories}
use Rattle.journal_text.proofs.reading.read_entries.Goals as goal
use Rattle.journal_text.proofs.reading.read_entries.Goals.{in_default-entry_of-via-in-Some-entry_of+then-reached-shard+else-shard-len}
use Rattle.journal_text.proofs.reading.read_entries.Goals.{in_default-entry_of-via-in-Some-entry_of+else-reached-shard}
use Rattle.journal_text.proofs.reading.read_entries.Goals.{in_default-entry_of-via-in_default-entry_of}

pub loop-text-init : goal.loop-text-init
loop-text-init c =
    let entries = lines_of c.args.entries.now in
    let count = vec_len c.args.lists in
    record {
      read = subst (λ (journal : List (List Entry)). HasRead (head_line count ∷ entries) journal entries 1 0)
          (sym c.requires.empty) (has_begun count entries c.requires.some c.requires.few);
      room = omega arith;
    }

pub returns-in_default-entry_of-clause-err : goal.returns-in_default-entry_of-clause-err
returns-in_default-entry_of-clause-err c =
    let all = head_line (vec_len c.args.lists) ∷ lines_of c.args.entries.now in
    let journal = histories c.loop-text.lists.items in
    let text = c.in-Some.text.now in
    let rest = lines_of c.in-Some.behind.now in
    let was = subst (λ (lines : List (List ℕ)). HasRead all journal lines c.loop-text.line c.loop-text.reached)
    c.in-Some.ensures.some c.loop-text.invariant.read in
    let count = count_histories c.loop-text.lists.items in
    let low : (placed : ShardEntry) → IsEntryPlaced (length journal) placed → IsEntryPlaced 16 placed =
    λ (placed : ShardEntry) (range : IsEntryPlaced (length journal) placed).
    (omega (arith, range.0, was.fits.few), range.1) in
    is_bad all journal text rest c.loop-text.line c.loop-text.reached was
    (λ placed range above is.
    elim c.in_default-entry_of.branch [
      | in_default-entry_of-via-in-Some-entry_of+then-reached-shard+else-shard-len w ↦
          (let told = w.in-Some-entry_of in
          let same = same_shard text (told.shard, told.entry) placed told.ensures.range
          (low placed range) told.ensures.some is in
          omega (arith, same, range.0, count, w.len.ensures, w.if-shard-len.false))
      | in_default-entry_of-via-in-Some-entry_of+else-reached-shard w ↦
          (let told = w.in-Some-entry_of in
          let same = same_shard text (told.shard, told.entry) placed told.ensures.range
          (low placed range) told.ensures.some is in
          omega (arith, same, above, w.if-reached-shard.false))
      | in_default-entry_of-via-in_default-entry_of w ↦ w.in_default-entry_of.ensures.none refl placed
          (low placed range) is
    ])

pub loop-text-preserved : goal.loop-text-preserved
loop-text-preserved c =
    let all = head_line (vec_len c.args.lists) ∷ lines_of c.args.entries.now in
    let journal = histories c.loop-text.lists.items in
    let text = c.in-Some.text.now in
    let rest = lines_of c.in-Some.behind.now in
    let was = subst (λ (lines : List (List ℕ)). HasRead all journal lines c.loop-text.line c.loop-text.reached)
    c.in-Some.ensures.some c.loop-text.invariant.read in
    let told = c.in-Some-entry_of in
    let within : told.shard < length journal =
    omega (arith, count_histories c.loop-text.lists.items, c.len.ensures, c.if-shard-len.true) in
    let now = goes_on all journal text rest c.loop-text.line c.loop-text.reached told.shard told.entry was
    told.ensures.some told.ensures.range.1 c.if-reached-shard.true within in
    record {
      read = subst (λ (lists : List (List Entry)). HasRead all lists rest (c.loop-text.line + 1) told.shard)
          (sym c.in_ok-put-in-Some-entry_of.ensures.entered) now;
      room = omega (arith, c.loop-text.invariant.room, c.in-Some.ensures.shorter);
    }
