-- The parts of a command, by what it asks for and by the words of its request.
use Rattle.std.proofs.Common.{◌≡◌, ◌∙◌, sym, ap, subst, true, false, ℕ, ◌+◌, ◌<◌, List, [], ◌∷◌, length, map}
use Rattle.std.proofs.Common.{drop, get_or, slice_get, Option, Some, arith, refl, zero, suc}
use Rattle.std.proofs.lemmas.Option.{slice_get-map, slice_get-get_or}
use Rattle.std.proofs.lemmas.Grind.{get_or_after_one, common_steps}
use Rattle.flake_model.specs.Resp.{Words}
use Rattle.flake_model.specs.Store.{Operation}
use Rattle.flake_model.specs.Command as model
use Rattle.flake_model.specs.Command.{alone, parts, first, second}
use Rattle.flake_model.proofs.Requests.{only_part}
use Rattle.shard_part.specs.Parts.{operation_by, operation_of, takes_value}
use Rattle.shard_part.specs.declared.part.Part.{Part}
use Rattle.shard_part.specs.declared.part.PartOp.{PartOp}
use Rattle.shard_part.specs.declared.part.PartOp.TheVariants as part
use Rattle.command_parts.specs.declared.op.Op.{Op}
use Rattle.command_parts.specs.declared.op.Op.TheVariants.{One, MGet, Del, Exists}
use Rattle.command_parts.specs.Meaning.{command_by, value_by, request_words}
use Rattle.resp_reader.specs.declared.request.Request.{Request}

-- what is done to each key
abbrev pub part_op : Op → PartOp
part_op (One op) = op
part_op Del = part.Del
part_op Exists = part.Exists
part_op op = part.Get

-- the part of one key among several
of_keys : (f : List ℕ → Operation) (words : Words) (j : ℕ) → j < length (map f (drop 1 words))
    → slice_get (map f (drop 1 words)) j ≡ Some (f (get_or words (j + 1) []))
of_keys f words j within =
    grind (
      arith,
      common_steps,
      slice_get-map f (drop 1 words) j,
      slice_get-get_or (drop 1 words) j [],
      get_or_after_one
          words j [],
    )

-- the part of the only key
of_key : (f : List ℕ → Operation) (words : Words) (j : ℕ) → j < 1 → slice_get (f (get_or words 1 []) ∷ []) j
    ≡ Some (f (get_or words (j + 1) []))
of_key f words zero within = refl
of_key f words (suc j) within = absurd (omega arith)

pub part_at : (op : Op) (words : Words) (j : ℕ) → j < length (parts (command_by op words))
    → slice_get (parts (command_by op words)) j
    ≡ Some (operation_by (part_op op) (get_or words (j + 1) []) (value_by (part_op op) words))
part_at (One op) words j within =
    let f : List ℕ → Operation = λ key. operation_by op key (value_by op words) in
    let only : parts (alone (f (first words))) ≡ f (first words) ∷ [] = only_part (f (first words)) in
    ap (λ operations. slice_get operations j) only
    ∙ of_key f words j (subst (λ (operations : List Operation). j < length operations) only within)
part_at MGet words j within = of_keys (λ key. operation_by part.Get key []) words j within
part_at Del words j within = of_keys (λ key. operation_by part.Del key []) words j within
part_at Exists words j within = of_keys (λ key. operation_by part.Exists key []) words j within
part_at op words j within = absurd (omega arith)

-- a part's value, by whether it takes one
pub value_taken : (op : PartOp) (words : Words) (value : List ℕ) → takes_value op ≡ true → value ≡ second words
    → value ≡ value_by op words
value_taken op words value takes is = rw takes is

pub no_value : (op : PartOp) (words : Words) (value : List ℕ) → takes_value op ≡ false → value ≡ []
    → value ≡ value_by op words
no_value op words value takes is = rw takes is

-- the part as the code has it: its operation and value go by what the command asks for
pub part_is : (command : model.Command) (op code : Op) (request : Option Request) (words : Words) (j : ℕ)
    (found : Part) → command_by op (request_words request) ≡ command → request ≡ Some words
    → j < length (parts command) → found.key.now ≡ get_or words (j + 1) [] → op ≡ code → found.op ≡ part_op code
    → found.value.now ≡ value_by (part_op code) words
    → slice_get (parts command) j ≡ Some (operation_of found)
part_is command op code request words j found view requested within key_is kind op_is value_is =
    let made : command_by code words ≡ command = ap (λ r. command_by code (request_words r)) (sym requested)
    ∙ ap (λ o. command_by o (request_words request)) (sym kind) ∙ view in
    let there : j < length (parts (command_by code words)) = subst (λ c. j < length (parts c)) (sym made) within in
    ap (λ c. slice_get (parts c) j) (sym made) ∙ part_at code words j there ∙ (rw (op_is, key_is, value_is) refl)
