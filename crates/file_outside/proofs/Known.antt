-- What is known of a reader or a writer, over several calls; windows of a list.
use Rattle.std.proofs.Common.{◌≡◌, ℕ, ◌+◌, ◌-◌, ◌≤◌, List, [], ◌++◌, length, take, drop, slice_range, Option, Some}
use Rattle.std.proofs.Common.{None, Result, Ok, Err, OnErr, true, refl, sym, ap, ◌∙◌, arith, append_assoc}
use Rattle.std.proofs.lemmas.List.{append-nil, take-append-drop, take_all, drop-take, drop-drop, length-drop}
use Rattle.std.specs.Io.KnownBytes.{Keeps, Appends, Consumes}
use Rattle.flake_base.specs.Growth.{Grew}
use Rattle.file_outside.specs.Unwritten.{Rest, PutsFront, put_of}
use lib.Seq.{take-add}

pub Keeps-refl : (a : Option (List ℕ)) → Keeps a a
Keeps-refl None = tt
Keeps-refl (Some xs) = refl

pub Keeps-trans : (a b c : Option (List ℕ)) → Keeps a b → Keeps b c → Keeps a c
Keeps-trans None b c first then = tt
Keeps-trans (Some xs) None c first then = absurd first
Keeps-trans (Some xs) (Some ys) None first then = then
Keeps-trans (Some xs) (Some ys) (Some zs) first then = then ∙ first

pub Keeps-Consumes : (a b c : Option (List ℕ)) (bytes : List ℕ) → Keeps a b → Consumes b c bytes → Consumes a c bytes
Keeps-Consumes None b c bytes first then = tt
Keeps-Consumes (Some xs) None c bytes first then = absurd first
Keeps-Consumes (Some xs) (Some ys) None bytes first then = then
Keeps-Consumes (Some xs) (Some ys) (Some zs) bytes first then = sym first ∙ then

pub ruleset steps = (Keeps-refl, Keeps-trans)

pub Appends-nil : (a : Option (List ℕ)) → Appends a a []
Appends-nil None = tt
Appends-nil (Some xs) = sym (append-nil xs)

pub Appends-Keeps : (a b c : Option (List ℕ)) (bytes : List ℕ) → Appends a b bytes → Keeps b c → Appends a c bytes
Appends-Keeps None b c bytes first then = tt
Appends-Keeps (Some xs) None c bytes first then = absurd first
Appends-Keeps (Some xs) (Some ys) None bytes first then = then
Appends-Keeps (Some xs) (Some ys) (Some zs) bytes first then = then ∙ first

pub Appends-trans : (a b c : Option (List ℕ)) (one two : List ℕ) → Appends a b one → Appends b c two
    → Appends a c (one ++ two)
Appends-trans None b c one two first then = tt
Appends-trans (Some xs) None c one two first then = absurd first
Appends-trans (Some xs) (Some ys) None one two first then = then
Appends-trans (Some xs) (Some ys) (Some zs) one two first then =
    then ∙ ap (λ (t : List ℕ). t ++ two) first ∙ append_assoc xs one two

-- bytes written further on
pub take_further : (bytes : List ℕ) (count more : ℕ) → take (count + more) bytes ≡ take count bytes
    ++ take more (slice_range bytes count (length bytes))
take_further bytes count more =
    let rest : slice_range bytes count (length bytes) ≡ drop count bytes
    = take_all (length bytes - count) (drop count bytes) (omega (arith, length-drop count bytes)) in
    take-add count more bytes ∙ ap (λ (t : List ℕ). take count bytes ++ take more t) (sym rest)

pub Appends-further : (a b c : Option (List ℕ)) (bytes : List ℕ) (count more : ℕ) → Appends a b (take count bytes)
    → Appends b c (take more (slice_range bytes count (length bytes))) → Appends a c (take (count + more) bytes)
Appends-further a b c bytes count more first then = rw (take_further bytes count more)
    (Appends-trans a b c (take count bytes) _ first then)

-- a window whose front was given
pub given_front : (xs : List ℕ) (start end n : ℕ) → start + n ≤ end
    → slice_range xs start end ≡ take n (slice_range xs start end) ++ slice_range xs (start + n) end
given_front xs start end n inside =
    let window = slice_range xs start end in
    let parts : end - start ≡ n + (end - (start + n)) = omega arith in
    let rest : slice_range xs (start + n) end ≡ drop n window
    = sym (ap (λ j. drop n (take j (drop start xs))) parts ∙ drop-take n _ (drop start xs)
    ∙ ap (take (end - (start + n))) (drop-drop n start xs)) in
    sym (take-append-drop n window) ∙ ap (λ (t : List ℕ). take n window ++ t) (sym rest)

-- what is written of a list, and what is still to be
pub written_front : (xs : List ℕ) (start n : ℕ)
    → slice_range xs start (start + n) ++ drop (start + n) xs ≡ drop start xs
written_front xs start n =
    let count : start + n - start ≡ n = omega arith in
    ap (λ j. take j (drop start xs) ++ drop (start + n) xs) count
    ∙ ap (λ (t : List ℕ). take n (drop start xs) ++ t) (sym (drop-drop n start xs))
    ∙ take-append-drop n (drop start xs)

-- where a put failed, a front of its piece was put
pub front_grew : {T E : Type 0} (result : Result T E) (piece : List ℕ) (had has : Option (List ℕ)) (old new from : Rest)
    → old ≡ from → OnErr result (PutsFront piece had old has new)
    → OnErr result (Grew true piece (put_of from) (put_of new))
front_grew (Ok done) piece had has old new from same front = tt
front_grew (Err failed) piece had has old new from same front =
    let put = front.2.put ∙ ap (λ rest. put_of rest ++ take front.0 piece) same in
    (take front.0 piece, (drop front.0 piece, sym (take-append-drop front.0 piece)), put)
