-- One request more is put.
use Rattle.std.proofs.Common.{◌≡◌, ◌∙◌, sym, ap, refl, ℕ, suc, ◌+◌, ◌-◌, ◌<◌, List, [], ◌∷◌, ◌++◌, Option, Some, length}
use Rattle.std.proofs.Common.{map, arith, append_assoc}
use Rattle.std.proofs.lemmas.List.{length-map}
use Rattle.std.specs.List.{flat_map}
use Rattle.std.specs.Fmt.{decimal}
use Rattle.flake_model.specs.Resp.{Words, Element, bulk_string, crlf, element_text}
use Rattle.flake_model.specs.Resp as resp
use Rattle.flake_model.specs.Reply.{item_text, reply_text}
use Rattle.flake_model.specs.Reply as reply
use Rattle.request_gen.specs.Requests.{made, requests_from}
use Rattle.request_gen.specs.Words.{requests_text, generated_words}

items_text : (words : Words) → flat_map item_text (map Some words) ≡ flat_map bulk_string words
items_text [] = refl
items_text (word ∷ words) = ap (λ more. bulk_string word ++ more) (items_text words)

-- an array of bulk strings has one text, as a request and as a reply
pub one_text : (words : Words) → reply_text (reply.array (map Some words)) ≡ element_text (resp.array words)
one_text words =
    ap (λ n. 42 ∷ decimal n ++ crlf ++ flat_map item_text (map Some words)) (length-map words Some)
    ∙ ap (λ more. 42 ∷ decimal (length words) ++ crlf ++ more) (items_text words)

-- the texts of the requests from request r on
abbrev pub text_from : ℕ → ℕ → ℕ → ℕ → List ℕ
text_from session count r state = requests_text (map (generated_words session) (requests_from count r state))

first_text : (session count r state : ℕ) → r < count
    → text_from session (count - r) r state ≡ element_text (resp.array (generated_words session (made r state).request))
    ++ text_from session (count - (r + 1)) (r + 1) (made r state).state
first_text session count r state below =
    let e : count - r ≡ suc (count - (r + 1)) = omega arith in
    ap (λ k. text_from session k r state) e

pub one_more : (session count r state : ℕ) (text : List ℕ) (items : List (Option (List ℕ))) (whole : List ℕ) → r < count
    → items ≡ map Some (generated_words session (made r state).request)
    → text ++ text_from session (count - r) r state ≡ whole
    → (text ++ reply_text (reply.array items)) ++ text_from session (count - (r + 1)) (r + 1) (made r state).state
    ≡ whole
one_more session count r state text items whole below are is =
    let words = generated_words session (made r state).request in
    let rest = text_from session (count - (r + 1)) (r + 1) (made r state).state in
    append_assoc text (reply_text (reply.array items)) rest
    ∙ ap (λ t. text ++ (t ++ rest)) (ap (λ i. reply_text (reply.array i)) are ∙ one_text words)
    ∙ ap (λ t. text ++ t) (sym (first_text session count r state below))
    ∙ is
