-- How the pieces of a request make its text.
use Rattle.std.proofs.Common.{◌≡◌, ℕ, ◌+◌, ◌≤◌, zero, suc, List, [], ◌∷◌, ◌++◌, length, map, take, drop, codes, Some}
use Rattle.std.proofs.Common.{refl, ap, sym, ◌∙◌, subst, append_assoc, append-nil, arith}
use Rattle.std.specs.List.{slice_get}
use Rattle.std.specs.Fmt.{decimal, digits}
use Rattle.std.proofs.Math.Seq.{take-add}
use Rattle.std.proofs.lemmas.Grind.{flat_map-append}
use Rattle.frag_value.proofs.Lists.{map-more}
use Rattle.frag_value.proofs.PinSteps.{take_one_more}
use Rattle.flake_model.specs.Resp.{crlf, bulk_string, array_head}
use Rattle.dump_model.specs.Dump.{Pair, set_text, pairs_text}
use Rattle.view_sums.specs.Total.{same, Each}
use Rattle.view_sums.proofs.Eachs.{each-front, each-back}
use Rattle.view_sums.proofs.Sums.{total-append}
use Rattle.pin_core.specs.Holding.{Holding}
use Rattle.frag_value.specs.Values.{IsFilled, uses}
use Rattle.frag_value.specs.Pins.{KeyFrags, IsPinned, all_frags}

abbrev pub head_of : ℕ → List ℕ
head_of n = 36 ∷ decimal n ++ crlf

first_piece : codes "*3\r\n$3\r\nSET\r\n" ≡ array_head 3 ++ bulk_string (codes "SET")
unfolding digits
first_piece = refl

bulk_is : (word : List ℕ) → bulk_string word ≡ head_of (length word) ++ (word ++ crlf)
bulk_is word = append_assoc (head_of (length word)) word crlf

pub text_is : (key value : List ℕ) (m n : ℕ) → m ≡ length key → n ≡ length value
    → (((((codes "*3\r\n$3\r\nSET\r\n" ++ head_of m) ++ key) ++ crlf) ++ head_of n) ++ value) ++ crlf ≡ set_text (
      key,
      value,
    )
text_is key value m n same is =
    let start = array_head 3 ++ bulk_string (codes "SET") in
    let k = head_of (length key) in
    let v = head_of (length value) in
    ap (λ (j : ℕ). (((((codes "*3\r\n$3\r\nSET\r\n" ++ head_of j) ++ key) ++ crlf) ++ head_of n) ++ value) ++ crlf) same
    ∙ ap (λ (m : ℕ). (((((codes "*3\r\n$3\r\nSET\r\n" ++ k) ++ key) ++ crlf) ++ head_of m) ++ value) ++ crlf) is
    ∙ ap (λ (s : List ℕ). (((((s ++ k) ++ key) ++ crlf) ++ v) ++ value) ++ crlf) first_piece
    ∙ regroup start k key crlf v value
    ∙ ap (λ (x : List ℕ). start ++ (x ++ (v ++ (value ++ crlf)))) (sym (bulk_is key))
    ∙ ap (λ (x : List ℕ). start ++ (bulk_string key ++ x)) (sym (bulk_is value) ∙ sym (append-nil (bulk_string value)))
    ∙ append_assoc (array_head 3) (bulk_string (codes "SET")) (bulk_string key ++ (bulk_string value ++ [])) where
      regroup : (s k key c v value : List ℕ) → (((((s ++ k) ++ key) ++ c) ++ v) ++ value) ++ c ≡ s ++ ((k ++ (key ++
          c)) ++ (v ++ (value ++ c)))
      regroup s k key c v value = simp append_assoc

pub piece_more : (bytes : List ℕ) (done n : ℕ) → take done bytes ++ take n (drop done bytes) ≡ take (done + n) bytes
piece_more bytes done n = sym (take-add done n bytes)

-- one pair more
pub pairs_more : {A : Type 0} (shows : A → Pair) (xs : List A) (i : ℕ) (x : A) → slice_get xs i ≡ Some x
    → pairs_text (map shows (take i xs)) ++ set_text (shows x) ≡ pairs_text (map shows (take (i + 1) xs))
pairs_more shows xs i x is =
    sym (ap (λ l. pairs_text (map shows l)) (take_one_more xs i x is) ∙ ap pairs_text (map-more shows (take i xs) x)
    ∙ flat_map-append set_text (map shows (take i xs)) (shows x ∷ [])
    ∙ ap (λ l. pairs_text (map shows (take i xs)) ++ l) (append-nil (set_text (shows x))))

-- the value of one pair
uses-part : (b : ℕ) (pairs : List KeyFrags) (i : ℕ) (p : KeyFrags) → slice_get pairs i ≡ Some p
    → uses b p.1 ≤ uses b (all_frags pairs)
uses-part b [] i p is = absurd (cc)
uses-part b (q ∷ pairs) zero p is =
    let one : q ≡ p = cc in
    omega (arith, ap (λ (x : KeyFrags). uses b x.1) one, total-append (λ (f : ℕ × ℕ). same f.0 b) q.1 (all_frags pairs))
uses-part b (q ∷ pairs) (suc i) p is =
    omega (arith, uses-part b pairs i p is, total-append (λ (f : ℕ × ℕ). same f.0 b) q.1 (all_frags pairs))

filled-part : (hs : List Holding) (pairs : List KeyFrags) (i : ℕ) (p : KeyFrags) → slice_get pairs i ≡ Some p
    → Each (IsFilled hs) (all_frags pairs) → Each (IsFilled hs) p.1
filled-part hs [] i p is filled = absurd (cc)
filled-part hs (q ∷ pairs) zero p is filled =
    let one : q ≡ p = cc in
    subst (λ (x : KeyFrags). Each (IsFilled hs) x.1) one (each-front (IsFilled hs) q.1 (all_frags pairs) filled)
filled-part hs (q ∷ pairs) (suc i) p is filled =
    filled-part hs pairs i p is (each-back (IsFilled hs) q.1 (all_frags pairs) filled)

pub part_pinned : (hs : List Holding) (pairs : List KeyFrags) (i : ℕ) (p : KeyFrags) → slice_get pairs i ≡ Some p
    → IsPinned hs (all_frags pairs) → IsPinned hs p.1
part_pinned hs pairs i p is pinned = record {
  held = λ b. omega (arith, uses-part b pairs i p is, pinned.held b);
  filled = filled-part hs pairs i p is pinned.filled;
}
