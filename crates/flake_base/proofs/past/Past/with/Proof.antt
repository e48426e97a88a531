-- `with` stores nothing: only what its clause says of the bytes is picked. Assumes `Logic`.
use Rattle.std.proofs.Common.{ℕ, List, [], ◌∷◌, ◌++◌, refl}
use Rattle.std.specs.Option.{option_map_or}
use seplogic.Ra.Ura.{Ura}
use mir.Syntax.{named}
use mir.Val.{Val, vptr, vstruct, vnil}
use prog.Memory.{Memory}
use prog.Routine.{Routine}
use prog.Wp.{Calls, Loops, WpFn, Tables}
use base.Logic.{SProp, ent, emp, via, fst∗}
use contract.Lifetimes.{Lfts, Shares, AllOutlive}
use contract.Monad.{Fun}
use contract.Running.{tables, tables_of}
use sound.WpLaws.{WpFn-mono}
use types.Logic.{Logic}
use types.Kit.{‵, raw, ◌$◌, ◌∵◌, !, qed, move, suffices, done}
use types.Part.{agg}
use types.Run.{enter, returns, no_more}
use types.ByLocal.{alloc_all, pass_all, free_all, look_at, sets}
use denote.Exit.{yes}
use denote.Ref.{shr_vals, shr_Tells}
use denote.RattleType.{RattleType, owns}
use denote.Shadow.{pure_i}
use denote.Signature.{Slot, plain, named_lft, shr_ref_to, types_at}
use denote.Triple.Entry.{Args, on_entry, alive}
use denote.Triple.Spec.{Meets, triple_of}
use denote.Triple.Table.{entered}
use denote.Triple.Walked.{says, Stays, stay_none_ref, Goes-none_ref, walk_of, walked, ends_at, walk_Meets}
use Rattle.flake_base.specs.contracts.past.Past as past
use Rattle.flake_base.specs.contracts.past.Passing as passing
use Rattle.flake_base.specs.contracts.past.Past.with as clause
use Rattle.flake_base.specs.contracts.past.Past.with.Key.{name as the_key}
use Rattle.flake_base.proofs.past.Past.with.Statement as stated
use Rattle.flake_base.proofs.past.Past.with.Code as code

-- what the one parameter borrows, whose fields live as long as the other two lifetimes
abbrev fields : Lfts 3 → RattleType
fields lifetimes = passing.the_row (named_lft 3 1 tt lifetimes) (named_lft 3 2 tt lifetimes)

abbrev borrowed : Slot 3
borrowed = plain fields

abbrev back : Stays clause.ended.signature.params clause.ended.kept
back = (stay_none_ref (0 ∷ []) tt borrowed yes, tt)

module _
    {M : Type 1}
    {𝓤 : Ura M}
    (𝓛 : Logic 𝓤)
    (memory : Memory → SProp 𝓤)
    (runs : Routine → Fun 𝓤)
    (𝓣 : Tables 𝓤 𝓛.H) where
  abbrev run : Fun 𝓤
  run = WpFn 𝓤 𝓛.H 𝓣.C 𝓣.Λ code.function

  module _
      (lifetimes : Lfts 3)
      (shares : Shares 3)
      (outlive : AllOutlive 3 clause.signature.outlives lifetimes)
      (a : Args clause.signature lifetimes) where
    abbrev address : Val
    address = vptr a.0.ref_ptr.0 a.0.ref_ptr.1

    abbrev outcome : (past.the_row).Denot
    outcome = record {
      bytes = option_map_or (λ before. before.now.bytes) a.0.now.before [] ++ a.0.now.piece.now;
    }

    abbrev at_start : (walk_of 𝓛 clause.ended back (clause.clauses 𝓛 memory runs)).Ghost
    at_start = ((lifetimes, shares, outlive, a, (address ∷ [], tt)), tt)

    -- in, an empty struct, and out
    steps : ent 𝓤 (on_entry 𝓛 clause.signature lifetimes shares a (address ∷ [], tt))
        (run (address ∷ []) ((walk_of 𝓛 clause.ended back (clause.clauses 𝓛 memory runs)).post at_start))
    steps =
        qed 𝓛 (
        raw (alive 𝓛 clause.signature lifetimes shares)
        ∷ ‵ (owns (types_at clause.signature.params lifetimes) a (address ∷ [], tt))
        ∷ []) ∵
        enter ! 𝓣.C 𝓣.Λ code.function (address ∷ []) _ $
        alloc_all ! (λ locals. pass_all ! refl ((tt, tt), tt) $
        sets ! (agg ! (no_more !)) refl (tt, tt) $ returns ! (look_at ! 0 refl) $ free_all ! refl $
        suffices ! _ (ends_at 𝓛 clause.ended back (clause.clauses 𝓛 memory runs) at_start
        (vstruct vnil) outcome (tt, tt) (tt, tt)) $
        says ! refl $
        pure_i ! (past.the_row.own_val outcome (vstruct vnil ∷ [])) ((λ vals. (tt, tt)), tt) ((tt, (refl, tt)), tt) $
        move ! (1 ∷ 2 ∷ 0 ∷ []) $ done !)

  meets : Meets 𝓛 clause.signature run (clause.spec 𝓛 memory runs)
  meets =
      walk_Meets 𝓛 clause.ended back (Goes-none_ref 𝓛 3 (0 ∷ []) tt borrowed yes, tt)
      (clause.clauses 𝓛 memory runs) run (WpFn-mono 𝓤 𝓛.H 𝓛.laws 𝓣 code.function)
      (walked 𝓛 clause.ended back (clause.clauses 𝓛 memory runs) run
      (λ lifetimes. (shr_vals, tt))
      (λ lifetimes. (shr_Tells (named 0) lifetimes.0 (fields lifetimes), tt))
      (λ lifetimes shares outlive a ghosts are. via 𝓤 _ (fst∗ 𝓤 _ (emp 𝓤)) (steps lifetimes shares outlive a)))

pub with_spec : {M : Type 1} → stated.statement M
unfolding tables_of
with_spec 𝓤 𝓛 𝓜 𝓡 wired =
    entered 𝓤 𝓛.H (triple_of 𝓛 clause.signature (clause.spec 𝓛 𝓜.mem 𝓡.returns))
    (tables 𝓤 𝓛.H 𝓜 𝓡 𝓡.env).C (tables 𝓤 𝓛.H 𝓜 𝓡 𝓡.env).Λ the_key
    code.function (code.unfolded 𝓤 𝓛.H 𝓜 𝓡 wired)
    (meets 𝓛 𝓜.mem 𝓡.returns (tables_of 𝓤 𝓛.H 𝓜 (tables 𝓤 𝓛.H 𝓜 𝓡 𝓡.env)))
