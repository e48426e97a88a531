use Rattle.std.proofs.Common.{◌≡◌, ◌+◌, ◌++◌, replicate, length, sym, ap, subst, ◌∙◌, arith}
use Rattle.std.specs.Prelude.{Some, None, position, Result, OnOk, ⊤}
use Rattle.view_sums.specs.Total.{SameItems}
use Rattle.pin_core.proofs.Found.{is_none}
use Rattle.pin_core.proofs.AccountSums.{read-le, read_single, read_more, single-added, credits-added}
use Rattle.pin_core.specs.Accounts.{is_of, account_credits, AreSingle}
use Rattle.pin_core.specs.declared.refused.Memory.{Memory}
use Rattle.pin_core.proofs.credits.Credits.add.Goals as goal
use Rattle.pin_core.proofs.credits.Credits.add.Goals.{in-Ok, in-Err}

pub overflow_add-index_mut : goal.overflow_add-index_mut
overflow_add-index_mut c =
    let found : Some c.in-Some.k ≡ position (is_of c.args.holder) c.self.inside.accounts.items = sym c.in-Some.is
    ∙ c.find_account.ensures ∙ ap (position (is_of c.args.holder)) c.deref.ensures.value in
    omega (
      arith,
      c.requires,
      read-le c.args.holder c.self.inside.accounts.items c.in-Some.k c.index_mut.result.now
          found c.index_mut.ensures.value,
      ap length c.self.view_is,
    )

pub invariant_of-self : goal.invariant_of-self
invariant_of-self c =
    let found : Some c.in-Some.k ≡ position (is_of c.args.holder) c.self.inside.accounts.items = sym c.in-Some.is
    ∙ c.find_account.ensures ∙ ap (position (is_of c.args.holder)) c.deref.ensures.value in
    read_single c.args.holder c.self.inside.accounts.items c.in-Some.k c.index_mut.result.now found
    c.index_mut.ensures.value (c.index_mut.result.now.credits + c.args.credits) c.self.invariant

pub returns-in-Some-clause-ok : goal.returns-in-Some-clause-ok
returns-in-Some-clause-ok c =
    let found : Some c.in-Some.k ≡ position (is_of c.args.holder) c.self.inside.accounts.items = sym c.in-Some.is
    ∙ c.find_account.ensures ∙ ap (position (is_of c.args.holder)) c.deref.ensures.value in
    rw (← c.self.view_is)
    (read_more c.args.holder c.self.inside.accounts.items c.in-Some.k c.index_mut.result.now found
    c.index_mut.ensures.value c.args.credits)

pub invariant_of-self-in-None : goal.invariant_of-self-in-None
invariant_of-self-in-None c =
    let found : None ≡ position (is_of c.args.holder) c.self.inside.accounts.items = sym c.in-None.is
    ∙ c.find_account.ensures ∙ ap (position (is_of c.args.holder)) c.deref.ensures.value in
    let none = is_none (is_of c.args.holder) c.self.inside.accounts.items found in
    elim c.match-push.branch [
      | in-Ok w ↦ subst AreSingle (sym w.in-Ok.ensures.items)
          (single-added c.args.holder c.args.credits c.self.inside.accounts.items c.self.invariant none)
      | in-Err w ↦ subst AreSingle (sym w.in-Err.ensures.items) c.self.invariant
    ]

pub returns-after-push-clause-ok : goal.returns-after-push-clause-ok
returns-after-push-clause-ok c =
    let P : Result ⊤ Memory
    → Type 0 = λ r. OnOk r
    (SameItems (account_credits c.push.new.self.items) (replicate c.args.credits c.args.holder ++ c.args.self.now))
    in
    elim c.match-push.branch [
      | in-Ok w ↦ subst P (sym w.result-is)
          (rw (w.in-Ok.ensures.items, ← c.self.view_is)
          (credits-added c.args.holder c.args.credits c.self.inside.accounts.items))
      | in-Err w ↦ subst P (sym w.result-is) tt
    ]
