-- The words of requests, and their text.
use Rattle.std.specs.Prelude.{ℕ, ◌+◌, ◌%◌, List, [], ◌∷◌, ◌++◌, codes, map, replicate}
use Rattle.std.specs.Fmt.{decimal}
use Rattle.flake_model.specs.Resp.{Words, array, stream}
use Rattle.request_gen.specs.Requests.{generated_requests}
use Rattle.request_gen.specs.declared.request.Key.{Key}
use Rattle.request_gen.specs.declared.request.Key.TheVariants.{Shared, Own}
use Rattle.request_gen.specs.declared.request.DrawnRequest.{DrawnRequest}
use Rattle.request_gen.specs.declared.request.DrawnRequest.TheVariants.{Get, GetFour, Set, Append, Del}

-- `s` and the number of a shared key; `p`, the session, `x` and the number of an own one
abbrev pub key_text : ℕ → Key → List ℕ
key_text session (Shared n) = codes "s" ++ decimal n
key_text session (Own n) = codes "p" ++ (decimal session ++ (codes "x" ++ decimal n))

-- a value is one letter, so often: the session's upper case one for a shared key, the key's lower case one for an own
abbrev pub letter_of : ℕ → Key → ℕ
letter_of session (Shared n) = 65 + session
letter_of session (Own n) = 97 + n

abbrev pub value_of : ℕ → Key → ℕ → List ℕ
value_of session key len = replicate len (letter_of session key)

abbrev pub next_number : ℕ → ℕ
next_number n = (n + 1) % 16

abbrev pub generated_words : ℕ → DrawnRequest → Words
generated_words session (Get key) = codes "GET" ∷ key_text session key ∷ []
generated_words session (GetFour n) = codes "MGET" ∷ key_text session (Shared n) ∷ key_text session (Own n)
    ∷ key_text session (Shared (next_number n)) ∷ key_text session (Own (next_number n)) ∷ []
generated_words session (Set key len) = codes "SET" ∷ key_text session key ∷ value_of session key len ∷ []
generated_words session (Append n) = codes "APPEND" ∷ key_text session (Own n) ∷ value_of session (Own n) 100 ∷ []
generated_words session (Del n) = codes "DEL" ∷ key_text session (Own n) ∷ []

-- the words of a session's first requests
abbrev pub all_words : ℕ → ℕ → ℕ → List Words
all_words number session count = map (generated_words session) (generated_requests number session count)

-- the text of requests: arrays of bulk strings, end to end
abbrev pub requests_text : List Words → List ℕ
requests_text requests = stream (map array requests)
