-- The texts of an array's items, one after another.
use Rattle.std.proofs.Common.{ℕ, List, map, take, Option}
use Rattle.std.specs.List.{flat_map}
use Rattle.flake_base.specs.Roomy.{Roomy}
use Rattle.flake_model.specs.Reply.{item_text}
use Rattle.resp_text.specs.Meaning.{item_meaning}

-- the texts of the first items
abbrev pub first_items : ℕ → List (Option (Roomy ℕ)) → List ℕ
first_items n items = flat_map item_text (map item_meaning (take n items))
