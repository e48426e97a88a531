use Rattle.std.proofs.Common.{◌≡◌, sym, ap, ◌∙◌}
use Rattle.std.specs.Prelude.{Some, None, position}
use Rattle.pin_core.proofs.Found.{is_none}
use Rattle.pin_core.proofs.AccountSums.{read_credits, credits_of-none}
use Rattle.pin_core.specs.Accounts.{is_of}
use Rattle.pin_core.specs.Answers.{credits_of}
use Rattle.pin_core.proofs.credits.Credits.of.Goals as goal

pub returns-in-Some : goal.returns-in-Some
returns-in-Some c =
    let found : Some c.in-Some.k ≡ position (is_of c.args.holder) c.self.inside.accounts.items = sym c.in-Some.is
    ∙ c.find_account.ensures ∙ ap (position (is_of c.args.holder)) c.deref.ensures.value in
    read_credits c.args.holder c.self.inside.accounts.items c.in-Some.k c.index.result.now found c.index.ensures
    c.self.invariant ∙ ap (credits_of c.args.holder) c.self.view_is

pub returns-in-None : goal.returns-in-None
returns-in-None c =
    let found : None ≡ position (is_of c.args.holder) c.self.inside.accounts.items = sym c.in-None.is
    ∙ c.find_account.ensures ∙ ap (position (is_of c.args.holder)) c.deref.ensures.value in
    sym (credits_of-none c.args.holder c.self.inside.accounts.items
    (is_none (is_of c.args.holder) c.self.inside.accounts.items found))
    ∙ ap (credits_of c.args.holder) c.self.view_is
