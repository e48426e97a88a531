-- Accounts of credits, one for each holder.
use Rattle.std.specs.Prelude.{◌≤◌, List, [], ◌∷◌, ◌++◌, Bool, if◌then◌else◌, replicate}
use Rattle.view_sums.specs.Total.{total}
use Rattle.pin_core.specs.Answers.{same_holder}
use Rattle.pin_core.specs.declared.holder.Holder.{Holder}
use Rattle.pin_core.specs.declared.credits.Account.{Account}

abbrev pub is_of : Holder → Account → Bool
is_of p a = same_holder a.holder p

abbrev pub account_credits : List Account → List Holder
account_credits [] = []
account_credits (a ∷ rest) = replicate a.credits a.holder ++ account_credits rest

-- no holder has two accounts
abbrev pub AreSingle : List Account → Type 0
AreSingle accounts = (p : Holder) → total (λ (a : Account). if is_of p a then 1 else 0) accounts ≤ 1
