use Rattle.std.proofs.Common.{◌≡◌, ◌∷◌, ◌++◌, length}
use Rattle.std.specs.Fmt.{decimal}
use Rattle.flake_model.specs.Resp.{crlf}
use Rattle.resp_text.proofs.Arrays.{first_items}
use Rattle.resp_text.proofs.texts.put_array.Given as goal

-- the head and the texts of the items so far
abbrev pub invariant-loop-item : goal.invariant-loop-item
invariant-loop-item l = l.text.items ≡ (l.fn.text.items ++ 42 ∷ decimal (length l.items.items) ++ crlf)
    ++ first_items l.item-index l.items.items
