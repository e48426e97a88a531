use Rattle.std.proofs.Common.{◌≡◌, ◌≤◌, ◌-◌, ℕ, List, ◌++◌, replicate, sym, ap, ◌∙◌, arith}
use Rattle.std.specs.Prelude.{Some, None, position}
use Rattle.view_sums.specs.Total.{total, SameItems}
use Rattle.pin_core.proofs.Found.{is_none}
use Rattle.pin_core.proofs.AccountSums.{read_credits, read_single, read_fewer, credits_of-none}
use Rattle.pin_core.specs.Accounts.{is_of}
use Rattle.pin_core.specs.Answers.{credits_of}
use Rattle.pin_core.specs.declared.holder.Holder.{Holder}
use Rattle.pin_core.proofs.credits.Credits.take.Goals as goal

pub overflow_sub-index_mut : goal.overflow_sub-index_mut
overflow_sub-index_mut c =
    let found : Some c.in-Some.k ≡ position (is_of c.args.holder) c.self.inside.accounts.items = sym c.in-Some.is
    ∙ c.find_account.ensures ∙ ap (position (is_of c.args.holder)) c.deref.ensures.value in
    omega (
      arith,
      c.requires,
      read_credits c.args.holder c.self.inside.accounts.items c.in-Some.k c.index_mut.result.now
          found c.index_mut.ensures.value c.self.invariant,
      ap (credits_of c.args.holder) c.self.view_is,
    )

pub invariant_of-self : goal.invariant_of-self
invariant_of-self c =
    let found : Some c.in-Some.k ≡ position (is_of c.args.holder) c.self.inside.accounts.items = sym c.in-Some.is
    ∙ c.find_account.ensures ∙ ap (position (is_of c.args.holder)) c.deref.ensures.value in
    read_single c.args.holder c.self.inside.accounts.items c.in-Some.k c.index_mut.result.now found
    c.index_mut.ensures.value (c.index_mut.result.now.credits - c.args.credits) c.self.invariant

pub returns-in-Some : goal.returns-in-Some
returns-in-Some c =
    let found : Some c.in-Some.k ≡ position (is_of c.args.holder) c.self.inside.accounts.items = sym c.in-Some.is
    ∙ c.find_account.ensures ∙ ap (position (is_of c.args.holder)) c.deref.ensures.value in
    let enough : c.args.credits ≤ c.index_mut.result.now.credits =
    omega (
      arith,
      c.requires,
      read_credits c.args.holder c.self.inside.accounts.items c.in-Some.k
          c.index_mut.result.now found c.index_mut.ensures.value c.self.invariant,
      ap (credits_of c.args.holder)
          c.self.view_is,
    ) in
    rw (← c.self.view_is)
    (read_fewer c.args.holder c.self.inside.accounts.items c.in-Some.k c.index_mut.result.now found
    c.index_mut.ensures.value c.args.credits enough)

-- with no account there is nothing to take
nothing : (n : ℕ) (p : Holder) (credits : List Holder) → n ≡ 0 → SameItems credits (replicate n p ++ credits)
nothing n p credits e weight = ap (λ (k : ℕ). total weight (replicate k p ++ credits)) (sym e)

pub returns-in_default : goal.returns-in_default
returns-in_default c =
    let found : None ≡ position (is_of c.args.holder) c.self.inside.accounts.items = sym c.in_default.is
    ∙ c.find_account.ensures ∙ ap (position (is_of c.args.holder)) c.deref.ensures.value in
    let zero = credits_of-none c.args.holder c.self.inside.accounts.items
    (is_none (is_of c.args.holder) c.self.inside.accounts.items found) in
    nothing c.args.credits c.args.holder c.args.self.now
    (omega (arith, c.requires, zero, ap (credits_of c.args.holder) c.self.view_is))
