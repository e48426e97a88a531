-- What the status and the line of a run say of its dump.
use Rattle.std.proofs.Common.{◌≡◌, ◌≢◌, ◌≤◌, ◌+◌, ◌++◌, ◌||◌, ℕ, Bool, true, false, if◌then◌else◌, List, [], ◌∷◌}
use Rattle.std.proofs.Common.{Option, Some, None, length, map, arith, refl, sym, ap, ◌∙◌, append-nil}
use Rattle.std.specs.List.{list_any}
use Rattle.std.proofs.lemmas.List.{length-append, length-map}
use Rattle.flake_base.specs.declared.journal.Entry.{Entry}
use Rattle.flake_base.specs.declared.session.SessionEnd.{SessionEnd}
use Rattle.flake_model.specs.Command.{Command}
use Rattle.report_text.specs.declared.dump.DumpLine.{DumpLine}
use Rattle.report_text.specs.declared.dump.DumpLine.TheVariants.{Unasked, Untaken, Written}
use Rattle.run_resources.specs.Opened.{dump_wires}
use Rattle.serve_inputs.specs.Dumped.{DumpTold, IsDumpTold}
use Rattle.flake_run.specs.Dumping.{dump_failed, dump_line_of, line_failed, lines_failed, puts_failed}
use Rattle.flake_run.proofs.Highest.{any_failed}

-- one of two lists has one that failed
either_failed : (xs ys : List Bool) → list_any (λ (failed : Bool). failed) (xs ++ ys)
    ≡ (list_any (λ (failed : Bool). failed) xs || list_any (λ (failed : Bool). failed) ys)
either_failed [] ys = refl
either_failed (true ∷ xs) ys = refl
either_failed (false ∷ xs) ys = either_failed xs ys

-- whether a session failed or the dump, by whether the one did, and the other
pub any_with : (ends : List SessionEnd) (line : DumpLine) (failed dumped : Bool)
    → failed ≡ list_any (λ (end : SessionEnd). end.failed) ends
    → dumped ≡ list_any (λ (failed : Bool). failed) (line_failed line)
    → (failed || dumped) ≡ list_any (λ (failed : Bool). failed) (lines_failed ends line)
any_with ends line failed dumped one other =
    ap (λ (b : Bool). b || dumped) (one ∙ any_failed ends)
    ∙ ap (λ (b : Bool). list_any (λ (failed : Bool). failed) (map (λ (end : SessionEnd). end.failed) ends) || b) other
    ∙ sym (either_failed (map (λ (end : SessionEnd). end.failed) ends) (line_failed line))

-- without a dump it is the sessions alone
pub unasked_failed : (ends : List SessionEnd) (some : Bool)
    → list_any (λ (failed : Bool). failed) (lines_failed ends Unasked) ≡ some
    → list_any (λ (end : SessionEnd). end.failed) ends ≡ some
unasked_failed ends some is =
    any_failed ends
    ∙ ap (list_any (λ (failed : Bool). failed)) (sym (append-nil (map (λ (end : SessionEnd). end.failed) ends))) ∙ is

-- whether a put of it failed is what its line says
line_is : (asked : Option ℕ) (commands : List (List Command)) (journal : List (List Entry)) (dump : DumpTold)
    → IsDumpTold asked commands journal dump → line_failed (dump_line_of asked dump) ≡ dump_failed dump
line_is None commands journal dump told = by dump.taken refl
  where
    by : (taken : Bool) → dump.taken ≡ taken → [] ≡ dump_failed dump
    by true is =
        absurd (let asked : None ≡ Some (told.taken is).0 = (told.taken is).1 in let no : ⊥ = cc asked in no)
    by false is = sym (ap (λ (b : Bool). if b then dump.failed ∷ [] else []) is)
line_is (Some before) commands journal dump told = by dump.taken refl
  where
    by : (taken : Bool) → dump.taken ≡ taken
        → line_failed (if dump.taken then Written dump.bytes dump.failed else Untaken)
        ≡ (if dump.taken then dump.failed ∷ [] else [])
    by true is =
        ap (λ (b : Bool). line_failed (if b then Written dump.bytes dump.failed else Untaken)) is
        ∙ sym (ap (λ (b : Bool). if b then dump.failed ∷ [] else []) is)
    by false is =
        ap (λ (b : Bool). line_failed (if b then Written dump.bytes dump.failed else Untaken)) is
        ∙ sym (ap (λ (b : Bool). if b then dump.failed ∷ [] else []) is)

pub lines_are : (ends : List SessionEnd) (asked : Option ℕ) (commands : List (List Command))
    (journal : List (List Entry)) (dump : DumpTold) → IsDumpTold asked commands journal dump
    → lines_failed ends (dump_line_of asked dump) ≡ puts_failed ends dump
lines_are ends asked commands journal dump told =
    ap (λ (fs : List Bool). map (λ (end : SessionEnd). end.failed) ends ++ fs)
    (line_is asked commands journal dump told)

-- a dump that was asked for was taken, unless its line says else
pub taken_by_line : (asked : Option ℕ) (dump : DumpTold) → (dump_line_of asked dump ≡ Untaken → ⊥) → asked ≢ None
    → dump.taken ≡ true
taken_by_line None dump said some = absurd (some refl)
taken_by_line (Some before) dump said some = by dump.taken refl
  where
    by : (taken : Bool) → dump.taken ≡ taken → dump.taken ≡ true
    by true is = is
    by false is = absurd (said (ap (λ (b : Bool). if b then Written dump.bytes dump.failed else Untaken) is))

-- it needs a wire, where it was taken
few_puts : (asked : Option ℕ) (commands : List (List Command)) (journal : List (List Entry)) (dump : DumpTold)
    → IsDumpTold asked commands journal dump → length (dump_failed dump) ≤ dump_wires asked
few_puts asked commands journal dump told = by dump.taken refl
  where
    by : (taken : Bool) → dump.taken ≡ taken
        → length (if dump.taken then dump.failed ∷ [] else []) ≤ dump_wires asked
    by true is =
        let one : length (if dump.taken then dump.failed ∷ [] else []) ≡ 1 =
        ap (λ (b : Bool). length (if b then dump.failed ∷ [] else [])) is in
        let wire : dump_wires asked ≡ 1 = ap dump_wires (told.taken is).1 in
        omega (arith, one, wire)
    by false is =
        let none : length (if dump.taken then dump.failed ∷ [] else []) ≡ 0 =
        ap (λ (b : Bool). length (if b then dump.failed ∷ [] else [])) is in
        omega (arith, none)

pub puts_within : (ends : List SessionEnd) (names : ℕ) (asked : Option ℕ) (commands : List (List Command))
    (journal : List (List Entry)) (dump : DumpTold) → IsDumpTold asked commands journal dump → length ends ≡ names
    → length (puts_failed ends dump) ≤ names + dump_wires asked
puts_within ends names asked commands journal dump told as_many =
    omega (
      arith,
      length-append (map (λ (end : SessionEnd). end.failed) ends) (dump_failed dump),
      length-map ends (λ (end : SessionEnd). end.failed),
      few_puts asked commands journal dump told,
      as_many,
    )
