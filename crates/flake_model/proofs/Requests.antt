-- What holds of errors, of PINGs, of commands of at most 64 keys and of those of one part, keys and values being as
-- short as they have to be, holds of what any request asks for.
use Rattle.std.proofs.Common.{◌≡◌, ℕ, ◌≤◌, ℤ, Bool, true, false, List, [], ◌∷◌, codes, length, Option, None, Some, refl}
use Rattle.std.proofs.Common.{arith}
use Rattle.std.specs.Prelude.{nat_le, ◌==◌, if◌then◌else◌, slice_index_or}
use Rattle.std.specs.List.{AllByRecursion, list_all}
use Rattle.flake_base.specs.declared.reply.ErrorKind.{ErrorKind}
use Rattle.flake_base.specs.declared.reply.ErrorKind.TheVariants.{UnknownCommand, WrongCount, Syntax, TooManyKeys}
use Rattle.flake_base.specs.declared.reply.ErrorKind.TheVariants.{KeyTooLong, ValueTooLong, NotInteger}
use Rattle.flake_base.specs.Limits.{value_limit}
use Rattle.flake_model.specs.Range.{signed_of}
use Rattle.flake_model.specs.Resp.{Words}
use Rattle.flake_model.specs.Store as part
use Rattle.flake_model.specs.Store.{Operation, key_of}
use Rattle.flake_model.specs.Command.{Command, parts, alone, ping, ping_with, mget, del, exists, fault}
use Rattle.flake_model.specs.Command.{Options, checked, tested, message_limit, is_value, arguments, first, second}
use Rattle.flake_model.specs.Command.{is_named, set_options, set_command, get_range_command, ping_command, command_of}

-- the bytes that a part may put
abbrev pub bytes_in : Operation → List ℕ
bytes_in (part.set when asks key bytes) = bytes
bytes_in (part.append key bytes) = bytes
bytes_in operation = []

abbrev pub IsKey : List ℕ → Type 0
IsKey key = length key ≤ 512

-- a key, and bytes, that a SET may have
pub record IsAllowed (operation : Operation) : Type 0 where
  pub key : IsKey (key_of operation)
  pub bytes : length (bytes_in operation) ≤ value_limit

-- at most 64 keys
pub record AreKeys (keys : List (List ℕ)) : Type 0 where
  pub few : length keys ≤ 64
  pub short : AllByRecursion IsKey keys

-- a command of one operation has it as its only part
pub only_part : (operation : Operation) → parts (alone operation) ≡ operation ∷ []
only_part (part.get key) = refl
only_part operation = refl

pub record HoldsOfAll (P : Command → Type 0) : Type 0 where
  pub error : (kind : ErrorKind) → P (fault kind)
  pub pong : P ping
  pub message : (bytes : List ℕ) → length bytes ≤ message_limit → P (ping_with bytes)
  pub values : (keys : List (List ℕ)) → AreKeys keys → P (mget keys)
  pub removed : (keys : List (List ℕ)) → AreKeys keys → P (del keys)
  pub there : (keys : List (List ℕ)) → AreKeys keys → P (exists keys)
  pub one : (operation : Operation) → IsAllowed operation → P (alone operation)

le-of : (a b : ℕ) (t : Bool) → nat_le a b ≡ t → t ≡ true → a ≤ b
le-of a b t is passes = grind arith

short_keys_all : (keys : List (List ℕ)) → list_all (λ key. nat_le (length key) 512) keys ≡ true
    → AllByRecursion IsKey keys
short_keys_all [] all = tt
short_keys_all (key ∷ keys) all = by_test (nat_le (length key) 512) refl all (short_keys_all keys) where
  by_test : (t : Bool) → nat_le (length key) 512 ≡ t → list_all (λ k. nat_le (length k) 512) (key ∷ keys) ≡ true
      → (list_all (λ k. nat_le (length k) 512) keys ≡ true → AllByRecursion IsKey keys)
      → AllByRecursion IsKey (key ∷ keys)
  by_test true is all rest = (le-of (length key) 512 true is refl, rest (rw is at all))
  by_test false is all rest = absurd (let no : false ≡ true = rw is at all in cc)

either : (P : Command → Type 0) (b : Bool) (one another : Command) → P one → P another
    → P (if b then one else another)
either P true one another holds other = holds
either P false one another holds other = other

module _ (P : Command → Type 0) (of : HoldsOfAll P) where
  pass_all : (fits are_options few short_keys short : Bool) (command : Command)
      → (few ≡ true → short_keys ≡ true → short ≡ true → P command)
      → P (checked ((fits, WrongCount) ∷ (are_options, Syntax) ∷ (few, TooManyKeys) ∷ (short_keys, KeyTooLong)
      ∷ (short, ValueTooLong) ∷ []) command)
  pass_all false are_options few short_keys short command holds = of.error WrongCount
  pass_all true false few short_keys short command holds = of.error Syntax
  pass_all true true false short_keys short command holds = of.error TooManyKeys
  pass_all true true true false short command holds = of.error KeyTooLong
  pass_all true true true true false command holds = of.error ValueTooLong
  pass_all true true true true true command holds = holds refl refl refl

  pass : (fits are_options : Bool) (keys : List (List ℕ)) (short : Bool) (command : Command)
      → (AreKeys keys → short ≡ true → P command) → P (tested fits are_options keys short command)
  pass fits are_options keys short command holds =
      pass_all fits are_options (nat_le (length keys) 64) (list_all (λ key. nat_le (length key) 512) keys) short command
      (λ few short_keys. holds (record {
        few = le-of (length keys) 64 _ refl few;
        short = short_keys_all keys short_keys;
      }))

  -- an operation without bytes, and one that puts bytes
  reads : (operation : Operation) → bytes_in operation ≡ [] → AreKeys (key_of operation ∷ []) → P (alone operation)
  reads operation none keys = of.one operation (record { key = keys.short.0; bytes = rw none (omega arith) })

  puts : (operation : Operation) → AreKeys (key_of operation ∷ []) → is_value (bytes_in operation) ≡ true
      → P (alone operation)
  puts operation keys short =
      of.one operation
      (record { key = keys.short.0; bytes = le-of (length (bytes_in operation)) value_limit _ refl short })

  set_holds : (words : Words) → P (set_command words)
  set_holds words = by_options (set_options words) refl where
    by_options : (options : Option Options) → set_options words ≡ options → P (set_command words)
    by_options None is = rw is (pass (nat_le 3 (length words)) false [] true ping (λ keys short. of.pong))
    by_options (Some options) is =
        rw is (pass (nat_le 3 (length words)) true (first words ∷ []) (is_value (second words))
        (alone (part.set options.0 options.1 (first words) (second words)))
        (puts (part.set options.0 options.1 (first words) (second words))))

  ping_holds : (words : Words) → P (ping_command words)
  ping_holds words = pass (nat_le (length words) 2) true [] (nat_le (length (first words)) message_limit)
      (if length words == 1 then ping else ping_with (first words))
      (λ keys short. by_count (length words == 1) (le-of (length (first words)) message_limit _ refl short))
    where
      by_count : (one : Bool) → length (first words) ≤ message_limit → P (if one then ping else ping_with (first words))
      by_count true short = of.pong
      by_count false short = of.message (first words) short

  range_holds : (words : Words) → P (get_range_command words)
  range_holds words = by_numbers (signed_of (second words)) (signed_of (slice_index_or words 3 [])) refl refl where
    passed : (command : Command) → (AreKeys (first words ∷ []) → P command)
        → P (tested (length words == 4) true (first words ∷ []) true command)
    passed command holds = pass (length words == 4) true (first words ∷ []) true command (λ keys short. holds keys)

    by_numbers : (start last : Option ℤ) → signed_of (second words) ≡ start
        → signed_of (slice_index_or words 3 []) ≡ last → P (get_range_command words)
    by_numbers None last is ends = rw is (passed (fault NotInteger) (λ keys. of.error NotInteger))
    by_numbers (Some start) None is ends = rw (is, ends) (passed (fault NotInteger) (λ keys. of.error NotInteger))
    by_numbers (Some start) (Some last) is ends =
        rw (is, ends)
        (passed (alone (part.get_range (first words) start last))
        (reads (part.get_range (first words) start last) refl))

  -- a command whose words behind the name are keys
  many : (words : Words) (command : Command) → (AreKeys (arguments words) → P command)
      → P (tested (nat_le 2 (length words)) true (arguments words) true command)
  many words command holds =
      pass (nat_le 2 (length words)) true (arguments words) true command (λ keys short. holds keys)

  -- a command of one key, which is its only argument
  single : (words : Words) (operation : Operation) → bytes_in operation ≡ [] → key_of operation ≡ first words
      → P (tested (length words == 2) true (first words ∷ []) true (alone operation))
  single words operation none is =
      pass (length words == 2) true (first words ∷ []) true (alone operation)
      (λ keys short. reads operation none (rw is keys))

  pub request_holds : (words : Words) → P (command_of words)
  request_holds words =
      let key = first words in
      let keys = arguments words in
      either P (is_named words (codes "GET")) _ _ (single words (part.get key) refl refl)
      (either P (is_named words (codes "SET")) _ _ (set_holds words)
      (either P (is_named words (codes "MGET")) _ _ (many words (mget keys) (of.values keys))
      (either P (is_named words (codes "DEL")) _ _ (many words (del keys) (of.removed keys))
      (either P (is_named words (codes "EXISTS")) _ _ (many words (exists keys) (of.there keys))
      (either P (is_named words (codes "APPEND")) _ _
      (pass (length words == 3) true (key ∷ []) (is_value (second words)) (alone (part.append key (second words)))
      (puts (part.append key (second words))))
      (either P (is_named words (codes "STRLEN")) _ _ (single words (part.str_len key) refl refl)
      (either P (is_named words (codes "GETRANGE")) _ _ (range_holds words)
      (either P (is_named words (codes "PING")) _ _ (ping_holds words) (of.error UnknownCommand)))))))))
