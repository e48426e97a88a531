-- Values that are given back one after another.
use Rattle.std.proofs.Common.{◌≡◌, ℕ, ◌+◌, ◌≤◌, List, [], ◌∷◌, ◌++◌, length, refl, sym, ap, ◌∙◌, append-nil}
use Rattle.std.proofs.Common.{append_assoc, length-append, arith}
use Rattle.std.proofs.lemmas.List.{nil_from_length}
use Rattle.view_sums.specs.Total.{same}
use Rattle.view_sums.proofs.Sums.{total-append}
use Rattle.pin_core.specs.Holding.{Holding}
use Rattle.pinned_pool.specs.Moves.{meant_count, without_keys}
use Rattle.pinned_pool.specs.declared.view.View.{View}
use Rattle.pinned_pool.proofs.AfterSteps.{left_by-append}
use Rattle.frag_value.specs.Values.{Frags, uses}
use Rattle.frag_value.specs.Pins.{KeyFrags, AreReturned, all_frags, pin_key, pin_keys}
use Rattle.frag_value.proofs.Returned.{keys-append, left}
use Rattle.pin_dump.specs.Dumps.{GivesHolds}

pub frags-append : (ps qs : List KeyFrags) → all_frags (ps ++ qs) ≡ all_frags ps ++ all_frags qs
frags-append [] qs = refl
frags-append (p ∷ ps) qs =
    ap (λ l. p.1 ++ l) (frags-append ps qs) ∙ sym (append_assoc p.1 (all_frags ps) (all_frags qs))

pub frags-one : (ps : List KeyFrags) (p : KeyFrags) → all_frags (ps ++ p ∷ []) ≡ all_frags ps ++ p.1
frags-one ps p = frags-append ps (p ∷ []) ∙ ap (λ l. all_frags ps ++ l) (append-nil p.1)

pub gives_none : (v : View) → GivesHolds [] v v
gives_none v = record {
  holds = refl;
  credits = omega arith;
  claims = refl;
  looks = refl;
  returns = omega arith;
  lasts = ([], sym (append-nil v.lasts));
}

pub gives_more : (gone v : Frags) (n : ℕ) (old now new : View) → GivesHolds gone old now → AreReturned v n now new
    → GivesHolds (gone ++ v) old new
gives_more gone v n old now new was next = record {
  holds = next.holds ∙ ap (without_keys (pin_keys v)) was.holds
      ∙ sym (left_by-append (pin_keys gone) (pin_keys v) old.holds)
      ∙ ap (λ ks. without_keys ks old.holds) (sym (keys-append gone v));
  credits = omega (arith, next.credits, was.credits, length-append gone v);
  claims = next.claims ∙ was.claims;
  looks = next.looks ∙ was.looks;
  returns = omega (arith, next.returns, was.returns, length-append gone v);
  lasts = (
    was.lasts.0 ++ next.ended,
    next.lasts ∙ ap (λ l. l ++ next.ended) was.lasts.1 ∙ append_assoc old.lasts was.lasts.0 next.ended,
  );
}

-- the next value's holds are there
pub still_held : (gone : Frags) (p : KeyFrags) (rest all : List KeyFrags) (given : List KeyFrags)
    (hs now : List Holding) → ((b : ℕ) → uses b (all_frags all) ≤ meant_count (pin_key b) hs)
    → all_frags given ≡ gone → given ++ p ∷ rest ≡ all → now ≡ without_keys (pin_keys gone) hs
    → (b : ℕ) → uses b p.1 ≤ meant_count (pin_key b) now
still_held gone p rest all given hs now has gone_is parts is = λ b.
    let whole : uses b (all_frags all) ≡ uses b gone + (uses b p.1 + uses b (all_frags rest)) =
    both b in
    omega (arith, whole, has b, left b gone hs (λ c. omega (arith, both c, has c)), ap (meant_count (pin_key b)) is)
  where
    both : (b : ℕ) → uses b (all_frags all) ≡ uses b gone + (uses b p.1 + uses b (all_frags rest))
    both b =
        let weight : ℕ × ℕ → ℕ = λ (f : ℕ × ℕ). same f.0 b in
        ap (λ (l : List KeyFrags). uses b (all_frags l)) (sym parts)
        ∙ ap (uses b) (frags-append given (p ∷ rest) ∙ ap (λ l. l ++ all_frags (p ∷ rest)) gone_is)
        ∙ total-append weight gone (p.1 ++ all_frags rest)
        ∙ ap (λ n. uses b gone + n) (total-append weight p.1 (all_frags rest))

-- items that a loop was given, behind the last one and one further
pub all_given : {X : Type 0} (given rest xs : List X) (n : ℕ) → given ++ rest ≡ xs → n ≡ length rest → n ≡ 0
    → given ≡ xs
all_given given rest xs n is long none =
    sym (append-nil given) ∙ ap (λ l. given ++ l) (sym (nil_from_length rest (omega arith))) ∙ is

pub given_on : {X : Type 0} (given before after xs : List X) (x : X) → given ++ before ≡ xs → before ≡ x ∷ after
    → (given ++ x ∷ []) ++ after ≡ xs
given_on given before after xs x is split =
    append_assoc given (x ∷ []) after ∙ ap (λ l. given ++ l) (sym split) ∙ is
