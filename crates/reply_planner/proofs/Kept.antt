-- A stage's holds, which lie in descending order, and the list that contracts see.
use Rattle.std.proofs.Common.{◌≡◌, ℕ, zero, suc, add-one, ◌+◌, ◌-◌, ◌<◌, ◌≤◌, ◌⊎◌, ⊎_elim, List, [], ◌∷◌, ◌++◌, length}
use Rattle.std.proofs.Common.{take, drop, get_or, reverse, sym, ap, ◌∙◌, subst, arith}
use Rattle.std.specs.List.{insert}
use Rattle.std.proofs.lemmas.List.{map-append, length-map, length-reverse, reverse-append, take-append-drop, take_more}
use Rattle.std.proofs.lemmas.List.{drop_more, append-nil, append_assoc}
use Rattle.view_sums.specs.Total.{Each}
use Rattle.view_sums.proofs.Eachs.{each-append, each-front, each-back, each-map}
use Rattle.pin_core.specs.Holding.{Key}
use Rattle.pinned_pool.specs.Moves.{loose_key}
use Rattle.reply_planner.specs.Owned.{keys_for, key_buffers}
use Rattle.reply_planner.specs.Stages.{inserted}
use Rattle.reply_planner.proofs.Merged.{inserted-behind, inserted-between}

module _ {A : Type 0} where
  pub reverse-cons : (x : A) (xs : List A) → reverse (x ∷ xs) ≡ reverse xs ++ x ∷ []
  reverse-cons x xs = reverse-append (x ∷ []) xs

  pub reverse-last : (xs : List A) (x : A) → reverse (xs ++ x ∷ []) ≡ x ∷ reverse xs
  reverse-last xs x = reverse-append xs (x ∷ [])

  pub each-reverse : (P : A → Type 0) (xs : List A) → Each P xs → Each P (reverse xs)
  each-reverse P [] all = tt
  each-reverse P (x ∷ xs) all = subst (Each P) (sym (reverse-cons x xs))
      (each-append P (reverse xs) (x ∷ []) (each-reverse P xs all.1) (all.0, tt))

pub buffers-append : (ks js : List Key) → key_buffers (ks ++ js) ≡ key_buffers ks ++ key_buffers js
buffers-append ks js = map-append (λ (k : Key). k.buffer) ks js

pub buffers_below : (b : ℕ) (ks : List Key) → Each (λ (k : Key). k.buffer < b) ks → Each (λ c. c < b) (key_buffers ks)
buffers_below b ks all = each-map (λ c. c < b) (λ (k : Key). k.buffer) ks all

-- what a list of holds shows
abbrev pub shown : List Key → List ℕ
shown ks = key_buffers (reverse ks)

pub shown-append : (ks js : List Key) → shown (ks ++ js) ≡ shown js ++ shown ks
shown-append ks js = ap key_buffers (reverse-append ks js) ∙ buffers-append (reverse js) (reverse ks)

-- the last hold has the first buffer
pub shown-last : (ks : List Key) (k : Key) → shown (ks ++ k ∷ []) ≡ k.buffer ∷ shown ks
shown-last ks k = shown-append ks (k ∷ [])

pub length-shown : (ks : List Key) → length (shown ks) ≡ length ks
length-shown ks = length-map (reverse ks) (λ (k : Key). k.buffer) ∙ length-reverse ks

module _ (k : Key) (back : List Key) (below : Each (λ (j : Key). j.buffer < k.buffer) back) where
  passed : Each (λ c. c < k.buffer) (shown back)
  passed = buffers_below k.buffer (reverse back) (each-reverse (λ (j : Key). j.buffer < k.buffer) back below)

  -- a hold whose buffer is above those behind it
  pub shown-first : shown (k ∷ back) ≡ inserted k.buffer (shown back)
  shown-first =
      shown-append (k ∷ []) back ∙ sym (inserted-behind k.buffer (shown back) [] passed)
      ∙ ap (inserted k.buffer) (append-nil (shown back))

  -- and not above the one before it
  pub shown-after : (front : List Key) (j : Key) → k.buffer ≤ j.buffer → shown ((front ++ j ∷ []) ++ k ∷ back)
      ≡ inserted k.buffer (shown ((front ++ j ∷ []) ++ back))
  shown-after front j most =
      shown-append (front ++ j ∷ []) (k ∷ back)
      ∙ ap (λ l. l ++ shown (front ++ j ∷ [])) (shown-append (k ∷ []) back)
      ∙ append_assoc (shown back) (k.buffer ∷ []) (shown (front ++ j ∷ []))
      ∙ ap (λ l. shown back ++ k.buffer ∷ l) (shown-last front j)
      ∙ sym (inserted-between k.buffer j.buffer (shown back) (shown front) passed most)
      ∙ ap (λ l. inserted k.buffer (shown back ++ l)) (sym (shown-last front j))
      ∙ ap (inserted k.buffer) (sym (shown-append (front ++ j ∷ []) back))

-- where a hold's place is looked for, from the end on: the holds behind it have lesser buffers
abbrev pub Below : ℕ → List Key → Type 0
Below b ks = Each (λ (k : Key). k.buffer < b) ks

pub below_more : (b place : ℕ) (ks : List Key) (j : Key) → 0 < place → place ≤ length ks → j ≡ get_or ks (place - 1) j
    → j.buffer < b → Below b (drop place ks) → Below b (drop (place - 1) ks)
below_more b place ks j some within is less below =
    let last : place - 1 + 1 ≡ place = omega arith in
    subst (Below b) (sym (drop_more ks (place - 1) j (omega arith)))
    (subst (λ (k : Key). k.buffer < b) is less, subst (λ (p : ℕ). Below b (drop p ks)) (sym last) below)

-- and the hold before it has no lesser one
pub record StopsAt (b place : ℕ) (ks : List Key) : Type 0 where
  pub hold : Key
  pub before : List Key
  pub front : take place ks ≡ before ++ hold ∷ []
  pub most : b ≤ hold.buffer

pub stops_at : (b place : ℕ) (ks : List Key) (j : Key) → 0 < place → place ≤ length ks → j ≡ get_or ks (place - 1) j
    → b ≤ j.buffer → StopsAt b place ks
stops_at b place ks j some within is most =
    let last : place - 1 + 1 ≡ place = omega arith in
    record {
      hold = j;
      before = take (place - 1) ks;
      front = ap (λ (p : ℕ). take p ks) (sym last)
          ∙ take_more ks (place - 1) j (omega arith) ∙ ap (λ k. take (place - 1) ks ++ k ∷ []) (sym is);
      most = most;
    }

-- a hold at its place
shown-insert : (k : Key) (ks : List Key) (place : ℕ) → Below k.buffer (drop place ks)
    → (place ≡ 0) ⊎ StopsAt k.buffer place ks → shown (insert ks place k) ≡ inserted k.buffer (shown ks)
shown-insert k ks place below stop =
    ⊎_elim
    (λ e. ap (λ (p : ℕ). shown (insert ks p k)) e
    ∙ shown-first k ks (subst (λ (p : ℕ). Below k.buffer (drop p ks)) e below))
    (λ s. ap (λ l. shown (l ++ k ∷ drop place ks)) s.front ∙ shown-after k (drop place ks) below s.before s.hold s.most
    ∙ ap (λ l. inserted k.buffer (shown (l ++ drop place ks))) (sym s.front)
    ∙ ap (λ l. inserted k.buffer (shown l)) (take-append-drop place ks))
    stop

pub shown-put : (k : Key) (ks new : List Key) (place : ℕ) (stage : List ℕ) → shown ks ≡ stage → new ≡ insert ks place k
    → Below k.buffer (drop place ks) → (place ≡ 0) ⊎ StopsAt k.buffer place ks → shown new ≡ inserted k.buffer stage
shown-put k ks new place stage was is below stop = ap shown is ∙ shown-insert k ks place below stop
    ∙ ap (inserted k.buffer) was

pub each_insert : (P : Key → Type 0) (k : Key) (ks : List Key) (place : ℕ) → Each P ks → P k
    → Each P (insert ks place k)
each_insert P k ks place all here =
    let parts : Each P (take place ks ++ drop place ks) = subst (Each P) (sym (take-append-drop place ks)) all in
    each-append P (take place ks) (k ∷ drop place ks) (each-front P (take place ks) (drop place ks) parts)
    (here, each-back P (take place ks) (drop place ks) parts)

-- the next of a list, behind those that were taken
drop_next : (n : ℕ) (xs : List ℕ) (x : ℕ) (rest : List ℕ) → drop n xs ≡ x ∷ rest
    → (take (suc n) xs ≡ take n xs ++ x ∷ []) × (drop (suc n) xs ≡ rest)
drop_next zero [] x rest e = absurd (cc)
drop_next zero (y ∷ xs) x rest e = let head : y ≡ x = cc in let tail : xs ≡ rest = cc in (ap (λ z. z ∷ []) head, tail)
drop_next (suc n) [] x rest e = absurd (cc)
drop_next (suc n) (y ∷ xs) x rest e = let t = drop_next n xs x rest e in (ap (λ l. y ∷ l) t.0, t.1)

-- the last hold is of the next buffer
pub next_shown : (n : ℕ) (stage : List ℕ) (all ks : List Key) (k : Key) → shown all ≡ drop n stage → all ≡ ks ++ k ∷ []
    → (take (n + 1) stage ≡ take n stage ++ k.buffer ∷ []) × (shown ks ≡ drop (n + 1) stage)
next_shown n stage all ks k left last =
    let t = drop_next n stage k.buffer (shown ks) (sym left ∙ ap shown last ∙ shown-last ks k) in
    rw add-one (t.0, sym t.1)

pub next_moved : (n m : ℕ) (stage : List ℕ) (staged new : List Key) (k : Key) → staged ≡ keys_for (take n stage)
    → new ≡ staged ++ k ∷ [] → k ≡ loose_key k.buffer → m ≡ n + 1 → take (n + 1) stage ≡ take n stage ++ k.buffer ∷ []
    → new ≡ keys_for (take m stage)
next_moved n m stage staged new k was is loose more next =
    is ∙ ap (λ (ks : List Key). ks ++ k ∷ []) was ∙ ap (λ (j : Key). keys_for (take n stage) ++ j ∷ []) loose
    ∙ sym (map-append loose_key (take n stage) (k.buffer ∷ [])) ∙ ap keys_for (sym next)
    ∙ ap (λ (i : ℕ). keys_for (take i stage)) (sym more)
