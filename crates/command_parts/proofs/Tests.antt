-- What the tests of a row leave: the words that its command needs, as short as they have to be.
use Rattle.std.proofs.Common.{◌≡◌, ◌∙◌, sym, ap, subst, Bool, true, false, ℕ, ◌-◌, ◌≤◌, nat_le, ℤ, [], ◌∷◌}
use Rattle.std.proofs.Common.{length, take, drop, Option, Some, None, arith, refl}
use Rattle.std.specs.Prelude.{if◌then◌else◌}
use Rattle.std.proofs.lemmas.List.{take_rest}
use Rattle.flake_base.specs.Limits.{value_limit}
use Rattle.flake_model.specs.Resp.{Words}
use Rattle.flake_model.specs.Range.{signed_of}
use Rattle.flake_model.specs.Store.{When, always, if_missing, if_present}
use Rattle.flake_model.specs.Command.{Options, first, second, arguments, is_value, message_limit, set_options}
use Rattle.shard_part.specs.Parts.{takes_value}
use Rattle.shard_part.specs.Settings.{when_by, set_part}
use Rattle.shard_part.specs.declared.part.PartOp.{PartOp}
use Rattle.shard_part.specs.declared.part.PartOp.TheVariants as part
use Rattle.command_parts.specs.declared.op.Op.{Op}
use Rattle.command_parts.specs.declared.op.Op.TheVariants.{Ping, PingWith, One, MGet, Del, Exists, Fault}
use Rattle.command_parts.specs.declared.table.Row.{Row}
use Rattle.command_parts.specs.Meaning.{FitsOne, FitsWords, RepliesAlone, are_keys, Between}
use Rattle.command_parts.specs.Table.{key_count, argument_fits, optioned, range_op, placed, least, HasWords}

le-of : (a b : ℕ) (t : Bool) → nat_le a b ≡ t → t ≡ true → a ≤ b
le-of a b t is passes = grind arith

first_taken : (words : Words) → 2 ≤ length words → take 1 (drop 1 words) ≡ first words ∷ []
first_taken [] few = absurd (let no : ⊥ = omega (arith, few) in no)
first_taken (name ∷ []) few = absurd (let no : ⊥ = omega (arith, few) in no)
first_taken (name ∷ key ∷ more) few = refl

all_taken : (words : Words) → take (length words - 1) (drop 1 words) ≡ arguments words
all_taken words = take_rest words 1

-- the words of a command of one key
module _ (words : Words) (short : are_keys (take 1 (drop 1 words)) ≡ true) where
  with_value : (op : PartOp) → takes_value op ≡ true → RepliesAlone op → 3 ≤ length words
      → is_value (second words) ≡ true
      → FitsOne op words
  with_value op takes replies enough fits = record {
    replies = replies;
    key = omega (arith, enough);
    short = ap are_keys (sym (first_taken words (omega (arith, enough)))) ∙ short;
    value = λ takes. (enough, le-of (length (second words)) value_limit _ refl fits);
  }

  without : (op : PartOp) → takes_value op ≡ false → RepliesAlone op → 2 ≤ length words → FitsOne op words
  without op none replies enough = record {
    replies = replies;
    key = enough;
    short = ap are_keys (sym (first_taken words enough)) ∙ short;
    value = λ takes. absurd (cc (none, takes));
  }

  by_value : (op : PartOp) (takes : Bool) → takes_value op ≡ takes → RepliesAlone op
      → (if takes then 3 else 2) ≤ length words
      → (if takes then is_value (second words) else true) ≡ true → FitsOne op words
  by_value op true takes replies enough fits = with_value op takes replies enough fits
  by_value op false none replies enough fits = without op none replies enough

  set_fits : (when : When) (asks : Bool) → 3 ≤ length words → is_value (second words) ≡ true
      → FitsWords (placed (One (set_part (when_by when) asks)) words) words
  set_fits always true enough fits = with_value part.SetGet refl tt enough fits
  set_fits always false enough fits = with_value part.Set refl tt enough fits
  set_fits if_missing true enough fits = with_value part.SetNxGet refl tt enough fits
  set_fits if_missing false enough fits = with_value part.SetNx refl tt enough fits
  set_fits if_present true enough fits = with_value part.SetXxGet refl tt enough fits
  set_fits if_present false enough fits = with_value part.SetXx refl tt enough fits

  range_fits : (start last : Option ℤ) → 4 ≤ length words → FitsWords (range_op start last) words
  range_fits None last enough = tt
  range_fits (Some start) None enough = tt
  range_fits (Some start) (Some last) enough = without (part.GetRange start last) refl tt (omega (arith, enough))

  one_fits : (first_op : PartOp) (op : Op) → least (One first_op) ≤ length words → RepliesAlone first_op
      → optioned (One first_op) words ≡ Some op → argument_fits (One first_op) words ≡ true
      → FitsWords (placed op words) words
  one_fits part.Set op enough replies is fits = by_options (set_options words) refl where
    by_options : (options : Option Options) → set_options words ≡ options → FitsWords (placed op words) words
    by_options None none = absurd (cc (none, is))
    by_options (Some options) some =
        let made : One (set_part (when_by options.0) options.1) ≡ op = cc (some, is) in
        subst (λ o. FitsWords (placed o words) words) made (set_fits options.0 options.1 enough fits)
  one_fits (part.GetRange start last) op enough replies is fits =
      let made : One (part.GetRange start last) ≡ op = cc in
      subst (λ o. FitsWords (placed o words) words) made
      (range_fits (signed_of (second words)) _ enough)
  one_fits first_op op enough replies is fits =
      let made : One first_op ≡ op = cc in
      subst (λ o. FitsWords (placed o words) words) made
      (by_value first_op (takes_value first_op) refl replies enough fits)

-- the words of several keys
many_fits : (words : Words) (keys : ℕ) → 2 ≤ length words → keys ≡ length words - 1 → keys ≤ 64
    → are_keys (take keys (drop 1 words)) ≡ true → Between 2 65 words × (are_keys (arguments words) ≡ true)
many_fits words keys enough count few short = (
  (enough, omega (arith, count, few)),
  ap are_keys (sym (ap (λ n. take n (drop 1 words)) count ∙ all_taken words)) ∙ short,
)

by_op : (first_op op : Op) (words : Words) (keys : ℕ) → least first_op ≤ length words
    → (first_op ≡ PingWith → length words ≤ 2) → ((one : PartOp) → first_op ≡ One one → RepliesAlone one)
    → optioned first_op words ≡ Some op → keys ≡ key_count first_op (length words) → keys ≤ 64
    → are_keys (take keys (drop 1 words)) ≡ true → argument_fits first_op words ≡ true
    → FitsWords (placed op words) words
by_op Ping op words keys enough two replies is count few short fits =
    let made : Ping ≡ op = cc in
    subst (λ o. FitsWords (placed o words) words) made tt
by_op PingWith op words keys enough two replies is count few short fits =
    let made : PingWith ≡ op = cc in
    subst (λ o. FitsWords (placed o words) words) made
    ((enough, two refl), le-of (length (first words)) message_limit _ refl fits)
by_op (One one) op words keys enough two replies is count few short fits =
    one_fits words (subst (λ n. are_keys (take n (drop 1 words)) ≡ true) count short) one op enough (replies one refl)
    is fits
by_op MGet op words keys enough two replies is count few short fits =
    let made : MGet ≡ op = cc in
    subst (λ o. FitsWords (placed o words) words) made (many_fits words keys enough count few short)
by_op Del op words keys enough two replies is count few short fits =
    let made : Del ≡ op = cc in
    subst (λ o. FitsWords (placed o words) words) made (many_fits words keys enough count few short)
by_op Exists op words keys enough two replies is count few short fits =
    let made : Exists ≡ op = cc in
    subst (λ o. FitsWords (placed o words) words) made (many_fits words keys enough count few short)
by_op (Fault kind) op words keys enough two replies is count few short fits =
    let made : Fault kind ≡ op = cc in
    subst (λ o. FitsWords (placed o words) words) made tt

pub row_fits : (row : Row) (op : Op) (words : Words) (keys : ℕ) → HasWords row words → row.fits ≡ true
    → optioned row.op words ≡ Some op → keys ≡ key_count row.op (length words) → keys ≤ 64
    → are_keys (take keys (drop 1 words)) ≡ true → argument_fits row.op words ≡ true
    → FitsWords (placed op words) words
row_fits row op words keys has passes is count few short fits =
    by_op row.op op words keys (has.enough passes) (has.few passes) has.replies is count few short fits
