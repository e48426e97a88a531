-- What is generated is whole requests.
use Rattle.std.proofs.Common.{◌≡◌, ap, refl, ℕ, zero, suc, ◌+◌, ◌*◌, ◌<◌, ◌≤◌, List, [], ◌∷◌, ◌++◌, length, map, arith}
use Rattle.std.proofs.Common.{lit<, lit≤}
use Rattle.std.specs.Prelude.{codes}
use Rattle.std.specs.Fmt.{decimal}
use Rattle.std.specs.List.{AllByRecursion, flat_map}
use Rattle.std.proofs.lemmas.List.{length-append, length-replicate}
use Rattle.std.proofs.lemmas.Fmt.{length-decimal-le}
use Rattle.flake_base.specs.declared.session.End.TheVariants.{Clean}
use Rattle.flake_model.specs.Resp.{Words, IsWord, AllElements, Parses, array, array_head, bulk_string, crlf}
use Rattle.flake_model.specs.Resp.{element_text, requests_of}
use Rattle.request_gen.specs.Requests.{IsRequest, made, requests_from}
use Rattle.request_gen.specs.Requests as gen
use Rattle.request_gen.specs.Draws.{first_state}
use Rattle.request_gen.specs.Words.{key_text, value_of, generated_words, next_number, letter_of, requests_text}
use Rattle.request_gen.specs.Words.{all_words}
use Rattle.request_gen.specs.declared.request.Key.{Key}
use Rattle.request_gen.specs.declared.request.Key.TheVariants.{Shared, Own}
use Rattle.request_gen.specs.declared.request.DrawnRequest.{DrawnRequest}
use Rattle.request_gen.specs.declared.request.DrawnRequest.TheVariants.{Get, GetFour, Set, Append, Del}
use Rattle.request_gen.proofs.Allowed.{all_allowed}
use Rattle.request_gen.proofs.Meant.{key_fits}

-- few words, each of a length that is bounded
pub record AreShort (words : Words) (n : ℕ) : Type 0 where
  pub few : length words ≤ 5
  pub allowed : AllByRecursion IsWord words
  pub short : length (flat_map bulk_string words) ≤ n

bulk_fits : (word : List ℕ) → length word ≤ 9050 → length (bulk_string word) ≤ length word + 9
bulk_fits word small =
    let digits : length (decimal (length word)) ≤ 4 = length-decimal-le 4 (length word) (lit< tt) (omega arith)
    (omega arith) in
    omega (
      arith,
      length-append (36 ∷ decimal (length word) ++ crlf ++ word) crlf,
      length-append (36 ∷ decimal (length word) ++ crlf) word,
      length-append (36 ∷ decimal (length word)) crlf,
    )

no_words : AreShort [] 0
no_words = record { few = omega arith; allowed = tt; short = omega arith }

one_word_more : (word : List ℕ) (words : Words) (n : ℕ) → length words < 5 → length word ≤ 9050 → AreShort words n
    → AreShort (word ∷ words) (length word + 9 + n)
one_word_more word words n few small are = record {
  few = omega arith;
  allowed = (omega arith, are.allowed);
  short = omega (arith, bulk_fits word small, are.short, length-append (bulk_string word) (flat_map bulk_string words));
}

widened : (words : Words) (n m : ℕ) → n ≤ m → AreShort words n → AreShort words m
widened words n m less are = record { few = are.few; allowed = are.allowed; short = omega (arith, are.short) }

key_is_short : (name key : List ℕ) → length name ≤ 6 → length key ≤ 6 → AreShort (name ∷ key ∷ []) 30
key_is_short name key short fits =
    widened (name ∷ key ∷ []) (length name + 9 + (length key + 9 + 0)) 30 (omega arith)
    (one_word_more name (key ∷ []) (length key + 9 + 0) (omega arith) (omega arith)
    (one_word_more key [] 0 (omega arith) (omega arith) no_words))

value_is_short : (name key value : List ℕ) → length name ≤ 6 → length key ≤ 6 → length value ≤ 9050
    → AreShort (name ∷ key ∷ value ∷ []) 9089
value_is_short name key value short fits few =
    widened (name ∷ key ∷ value ∷ []) (length name + 9 + (length key + 9 + (length value + 9 + 0))) 9089 (omega arith)
    (one_word_more name (key ∷ value ∷ []) (length key + 9 + (length value + 9 + 0)) (omega arith) (omega arith)
    (one_word_more key (value ∷ []) (length value + 9 + 0) (omega arith) (omega arith)
    (one_word_more value [] 0 (omega arith) few no_words)))

four_are_short : (name a b c d : List ℕ) → length name ≤ 6 → length a ≤ 6 → length b ≤ 6 → length c ≤ 6 → length d ≤ 6
    → AreShort (name ∷ a ∷ b ∷ c ∷ d ∷ []) 75
four_are_short name a b c d short fa fb fc fd =
    widened (name ∷ a ∷ b ∷ c ∷ d ∷ [])
    (length name + 9 + (length a + 9 + (length b + 9 + (length c + 9 + (length d + 9 + 0))))) 75 (omega arith)
    (one_word_more name (a ∷ b ∷ c ∷ d ∷ []) (length a + 9 + (length b + 9 + (length c + 9 + (length d + 9 + 0))))
    (omega arith) (omega arith)
    (one_word_more a (b ∷ c ∷ d ∷ []) (length b + 9 + (length c + 9 + (length d + 9 + 0))) (omega arith) (omega arith)
    (one_word_more b (c ∷ d ∷ []) (length c + 9 + (length d + 9 + 0)) (omega arith) (omega arith)
    (one_word_more c (d ∷ []) (length d + 9 + 0) (omega arith) (omega arith)
    (one_word_more d [] 0 (omega arith) (omega arith) no_words)))))

value_fits : (session : ℕ) (key : Key) (len : ℕ) → len ≤ 9050 → length (value_of session key len) ≤ 9050
value_fits session key len few = omega (arith, length-replicate len (letter_of session key))

request_is_short : (session : ℕ) (request : DrawnRequest) → session < 16 → IsRequest request
    → AreShort (generated_words session request) 9089
request_is_short session (Get key) small is =
    widened (generated_words session (Get key)) 30 9089 (omega arith)
    (key_is_short (codes "GET") (key_text session key) (lit≤ tt) (key_fits session key small is))
request_is_short session (GetFour n) small is =
    let next : next_number n < 16 = omega arith in
    widened (generated_words session (GetFour n)) 75 9089 (omega arith)
    (four_are_short (codes "MGET") (key_text session (Shared n)) (key_text session (Own n))
    (key_text session (Shared (next_number n))) (key_text session (Own (next_number n)))
    (lit≤ tt) (key_fits session (Shared n) small is) (key_fits session (Own n) small is)
    (key_fits session (Shared (next_number n)) small next) (key_fits session (Own (next_number n)) small next))
request_is_short session (Set key len) small is =
    value_is_short (codes "SET") (key_text session key) (value_of session key len) (lit≤ tt)
    (key_fits session key small is.0) (value_fits session key len is.1)
request_is_short session (Append n) small is =
    value_is_short (codes "APPEND") (key_text session (Own n)) (value_of session (Own n) 100) (lit≤ tt)
    (key_fits session (Own n) small is) (value_fits session (Own n) 100 (omega arith))
request_is_short session (Del n) small is =
    widened (generated_words session (Del n)) 30 9089 (omega arith)
    (key_is_short (codes "DEL") (key_text session (Own n)) (lit≤ tt) (key_fits session (Own n) small is))

-- a request's text has at most 9,100 bytes
request_fits : (words : Words) → AreShort words 9089 → length (element_text (array words)) ≤ 9100
request_fits words are =
    let few : length words ≤ 5 = are.few in
    let digits : length (decimal (length words)) ≤ 1 = length-decimal-le 1 (length words) (lit< tt) (omega arith)
    (omega arith) in
    omega (
      arith,
      are.short,
      length-append (array_head (length words)) (flat_map bulk_string words),
      length-append
          (42 ∷ decimal (length words)) crlf,
    )

input_fits : (session : ℕ) (requests : List DrawnRequest) → session < 16 → AllByRecursion IsRequest requests
    → length (requests_text (map (generated_words session) requests)) ≤ 9100 * length requests
input_fits session [] small all = omega arith
input_fits session (request ∷ requests) small all =
    let words = generated_words session request in
    omega (
      arith,
      request_fits words (request_is_short session request small all.0),
      input_fits session requests small all.1,
      length-append (element_text (array words)) (requests_text (map (generated_words session) requests)),
    )

all_elements : (session : ℕ) (requests : List DrawnRequest) → session < 16 → AllByRecursion IsRequest requests
    → AllElements (map array (map (generated_words session) requests))
all_elements session [] small all = tt
all_elements session (request ∷ requests) small all =
    let are = request_is_short session request small all.0 in
    ((omega (arith, are.few), are.allowed), all_elements session requests small all.1)

-- no request is empty
none_skipped : (session : ℕ) (requests : List DrawnRequest) → map (generated_words session) requests
    ≡ requests_of (map array (map (generated_words session) requests))
none_skipped session [] = refl
none_skipped session (Get key ∷ requests) = ap (λ more. generated_words session (Get key) ∷ more)
    (none_skipped session requests)
none_skipped session (GetFour n ∷ requests) = ap (λ more. generated_words session (GetFour n) ∷ more)
    (none_skipped session requests)
none_skipped session (Set key len ∷ requests) = ap (λ more. generated_words session (Set key len) ∷ more)
    (none_skipped session requests)
none_skipped session (Append n ∷ requests) = ap (λ more. generated_words session (Append n) ∷ more)
    (none_skipped session requests)
none_skipped session (Del n ∷ requests) = ap (λ more. generated_words session (Del n) ∷ more)
    (none_skipped session requests)

many : (count r state : ℕ) → length (requests_from count r state) ≡ count
many zero r state = refl
many (suc more) r state = ap suc (many more (r + 1) (made r state).state)

pub is_clean : (number session count : ℕ) → session < 16 → count ≤ 4000
    → Parses (requests_text (all_words number session count)) (all_words number session count) Clean
is_clean number session count small few =
    let requests = gen.generated_requests number session count in
    let all : AllByRecursion IsRequest requests = all_allowed count 0 (first_state number session) in
    let as_many : length requests ≡ count = many count 0 (first_state number session) in (
      omega (arith, input_fits session requests small all),
      record {
        elements = map array (map (generated_words session) requests);
        allowed = all_elements session requests small all;
        bytes_are = refl;
        requests_are = none_skipped session requests;
      },
    )
