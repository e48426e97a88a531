-- Each request is the command that it is meant to be.
use Rattle.std.proofs.Common.{◌≡◌, refl, ℕ, ◌<◌, ◌≤◌, nat_le, true, false, List, [], ◌∷◌, ◌++◌, length, arith, lit<}
use Rattle.std.specs.Prelude.{codes}
use Rattle.std.specs.Fmt.{decimal}
use Rattle.std.proofs.lemmas.Bool.Decides.{nat_tests}
use Rattle.std.proofs.lemmas.List.{length-append, length-replicate}
use Rattle.std.proofs.lemmas.Fmt.{length-decimal-le}
use Rattle.flake_model.specs.Command.{command_of, get, set, mget, append, del}
use Rattle.flake_model.specs.Store.{always}
use Rattle.request_gen.specs.Requests.{IsKey, IsRequest}
use Rattle.request_gen.specs.Words.{key_text, value_of, generated_words, next_number, letter_of}
use Rattle.request_gen.specs.Commands.{command_for}
use Rattle.request_gen.specs.declared.request.Key.{Key}
use Rattle.request_gen.specs.declared.request.Key.TheVariants.{Shared, Own}
use Rattle.request_gen.specs.declared.request.DrawnRequest.{DrawnRequest}
use Rattle.request_gen.specs.declared.request.DrawnRequest.TheVariants.{Get, GetFour, Set, Append, Del}

-- numbers below 16 have at most two digits
two_digits : (n : ℕ) → n < 16 → length (decimal n) ≤ 2
two_digits n below = length-decimal-le 2 n (lit< tt) (omega arith) (omega arith)

pub key_fits : (session : ℕ) (key : Key) → session < 16 → IsKey key → length (key_text session key) ≤ 6
key_fits session (Shared n) small below =
    omega (arith, two_digits n below, length-append (codes "s") (decimal n))
key_fits session (Own n) small below =
    omega (
      arith,
      two_digits session small,
      two_digits n below,
      length-append (decimal session)
          (codes "x" ++ decimal n),
    )

is_le : (m n : ℕ) → m ≤ n → nat_le m n ≡ true
is_le m n h = grind (arith, nat_tests)

key_is_short : (session : ℕ) (key : Key) → session < 16 → IsKey key → nat_le (length (key_text session key)) 512 ≡ true
key_is_short session key small is = let fits : length (key_text session key) ≤ 6 = key_fits session key small is in
    is_le (length (key_text session key)) 512 (omega arith)

value_is_short : (session : ℕ) (key : Key) (len : ℕ) → len ≤ 9050 → nat_le (length (value_of session key len)) 65536
    ≡ true
value_is_short session key len few = is_le (length (value_of session key len)) 65536
    (omega (arith, length-replicate len (letter_of session key)))

get_is : (key : List ℕ) → nat_le (length key) 512 ≡ true → command_of (codes "GET" ∷ key ∷ []) ≡ get key
get_is key short = rw short refl

del_is : (key : List ℕ) → nat_le (length key) 512 ≡ true → command_of (codes "DEL" ∷ key ∷ []) ≡ del (key ∷ [])
del_is key short = rw short refl

set_is : (key value : List ℕ) → nat_le (length key) 512 ≡ true → nat_le (length value) 65536 ≡ true
    → command_of (codes "SET" ∷ key ∷ value ∷ []) ≡ set always false key value
set_is key value short fits = rw (short, fits) refl

append_is : (key value : List ℕ) → nat_le (length key) 512 ≡ true → nat_le (length value) 65536 ≡ true
    → command_of (codes "APPEND" ∷ key ∷ value ∷ []) ≡ append key value
append_is key value short fits = rw (short, fits) refl

mget_is : (a b c d : List ℕ) → nat_le (length a) 512 ≡ true → nat_le (length b) 512 ≡ true → nat_le (length c) 512
    ≡ true → nat_le (length d) 512 ≡ true
    → command_of (codes "MGET" ∷ a ∷ b ∷ c ∷ d ∷ []) ≡ mget (a ∷ b ∷ c ∷ d ∷ [])
mget_is a b c d sa sb sc sd = rw (sa, sb, sc, sd) refl

pub is_meant : (session : ℕ) (request : DrawnRequest) → session < 16 → IsRequest request
    → command_of (generated_words session request) ≡ command_for session request
is_meant session (Get key) small is = get_is (key_text session key) (key_is_short session key small is)
is_meant session (GetFour n) small below =
    let next : next_number n < 16 = omega arith in
    mget_is (key_text session (Shared n)) (key_text session (Own n)) (key_text session (Shared (next_number n)))
    (key_text session (Own (next_number n)))
    (key_is_short session (Shared n) small below) (key_is_short session (Own n) small below)
    (key_is_short session (Shared (next_number n)) small next) (key_is_short session (Own (next_number n)) small next)
is_meant session (Set key len) small is = set_is (key_text session key) (value_of session key len)
    (key_is_short session key small is.0) (value_is_short session key len is.1)
is_meant session (Append n) small below = append_is (key_text session (Own n)) (value_of session (Own n) 100)
    (key_is_short session (Own n) small below) (value_is_short session (Own n) 100 (omega arith))
is_meant session (Del n) small below = del_is (key_text session (Own n)) (key_is_short session (Own n) small below)
