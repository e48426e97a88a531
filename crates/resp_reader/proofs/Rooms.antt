-- Words in one room.
use Rattle.std.proofs.Common.{◌≡◌, ℕ, ◌+◌, ◌-◌, ◌<◌, ◌≤◌, List, [], ◌∷◌, ◌++◌, length, take, drop, get_or, slice_get}
use Rattle.std.proofs.Common.{slice_range}
use Rattle.std.proofs.Common.{Some, subst, append_assoc, suc, zero, inl, inr, arith, refl, ap, sym, ◌∙◌}
use Rattle.std.proofs.Common.{length-append}
use Rattle.std.proofs.lemmas.List.{take_all, take_at, drop_all, take-append-drop, take-append-le, drop-append-le}
use Rattle.std.proofs.lemmas.List.{length-take, length-take-le, length-drop}
use Rattle.flake_model.specs.Resp.{Words}
use Rattle.resp_reader.specs.declared.word_room.Span.{Span}
use Rattle.resp_reader.specs.WordRoom.{held, words_at, last_end, word_start, AreSpans, GrowsFrom}

pub start-le : (start : ℕ) (spans : List Span) (most : ℕ) → AreSpans start spans most → start ≤ most
start-le start [] most are = are
start-le start (span ∷ spans) most are = let behind = start-le span.end spans most are.2 in
    omega (arith, are.0, are.1)

pub last_end-le : (start : ℕ) (spans : List Span) (most : ℕ) → AreSpans start spans most
    → last_end start spans ≤ most
last_end-le start [] most are = are
last_end-le start (span ∷ spans) most are = last_end-le span.end spans most are.2

pub spans_within : (start : ℕ) (spans : List Span) (most other : ℕ) → AreSpans start spans most
    → last_end start spans ≤ other → AreSpans start spans other
spans_within start [] most other are within = within
spans_within start (span ∷ spans) most other are within =
    (are.0, are.1, spans_within span.end spans most other are.2 within)

pub length-words_at : (spans : List Span) (bytes : List ℕ) → length (words_at spans bytes) ≡ length spans
length-words_at [] bytes = refl
length-words_at (span ∷ spans) bytes = ap suc (length-words_at spans bytes)

-- a word stays where more bytes come
pub words_at-append : (start : ℕ) (spans : List Span) (bytes more : List ℕ) → AreSpans start spans (length bytes)
    → words_at spans (bytes ++ more) ≡ words_at spans bytes
words_at-append start [] bytes more are = refl
words_at-append start (span ∷ spans) bytes more are =
    let within : span.end ≤ length bytes = start-le span.end spans (length bytes) are.2 in
    let word : slice_range (bytes ++ more) span.start span.end ≡ slice_range bytes span.start span.end
    = ap (take (span.end - span.start)) (drop-append-le span.start bytes more (omega (arith, are.1)))
    ∙ take-append-le (span.end - span.start) (drop span.start bytes) more
    (omega (arith, length-drop span.start bytes)) in
    ap (λ w. w ∷ words_at spans (bytes ++ more)) word
    ∙ ap (λ ws. slice_range bytes span.start span.end ∷ ws) (words_at-append span.end spans bytes more are.2)

-- one word more
pub words_at-push : (spans : List Span) (span : Span) (bytes : List ℕ)
    → words_at (spans ++ span ∷ []) bytes ≡ words_at spans bytes ++ slice_range bytes span.start span.end ∷ []
words_at-push [] span bytes = refl
words_at-push (first ∷ spans) span bytes =
    ap (λ ws. slice_range bytes first.start first.end ∷ ws) (words_at-push spans span bytes)

pub last_end-push : (start : ℕ) (spans : List Span) (span : Span) → last_end start (spans ++ span ∷ []) ≡ span.end
last_end-push start [] span = refl
last_end-push start (first ∷ spans) span = last_end-push first.end spans span

pub spans_push : (start : ℕ) (spans : List Span) (span : Span) (most other : ℕ) → AreSpans start spans most
    → last_end start spans ≤ span.start → span.start ≤ span.end → span.end ≤ other
    → AreSpans start (spans ++ span ∷ []) other
spans_push start [] span most other are from ordered to = (from, ordered, to)
spans_push start (first ∷ spans) span most other are from ordered to =
    (are.0, are.1, spans_push first.end spans span most other are.2 from ordered to)

pub words_at-take : (spans : List Span) (bytes : List ℕ) (n : ℕ) → words_at (take n spans) bytes
    ≡ take n (words_at spans bytes)
words_at-take spans bytes zero = refl
words_at-take [] bytes (suc n) = refl
words_at-take (span ∷ spans) bytes (suc n) = ap (λ ws. slice_range bytes span.start span.end ∷ ws)
    (words_at-take spans bytes n)

pub spans_take : (start : ℕ) (spans : List Span) (most n : ℕ) → AreSpans start spans most
    → AreSpans start (take n spans) most
spans_take start spans most zero are = start-le start spans most are
spans_take start [] most (suc n) are = are
spans_take start (span ∷ spans) most (suc n) are = (are.0, are.1, spans_take span.end spans most n are.2)

-- a word lies behind those before it
pub word_start-le : (start : ℕ) (spans : List Span) (most n : ℕ) → AreSpans start spans most
    → (last_end start (take n spans) ≤ word_start start spans n) × (word_start start spans n ≤ most)
word_start-le start [] most zero are = (omega arith, are)
word_start-le start [] most (suc n) are = (omega arith, are)
word_start-le start (span ∷ spans) most zero are =
    (are.0, let behind = start-le span.end spans most are.2 in omega (arith, are.1))
word_start-le start (span ∷ spans) most (suc n) are = word_start-le span.end spans most n are.2

-- what stands from the start of a word on begins with it
pub next_word : (start : ℕ) (spans : List Span) (bytes : List ℕ) (n : ℕ) → AreSpans start spans (length bytes)
    → n < length spans → (rest : List ℕ) × (drop (word_start start spans n) bytes
    ≡ get_or (words_at spans bytes) n [] ++ rest)
next_word start [] bytes n are below = absurd (omega arith)
next_word start (span ∷ spans) bytes zero are below = (
  drop (span.end - span.start) (drop span.start bytes),
  sym (take-append-drop (span.end - span.start) (drop span.start bytes)),
)
next_word start (span ∷ spans) bytes (suc n) are below = next_word span.end spans bytes n are.2 (omega arith)

pub word_start-all : (start : ℕ) (spans : List Span) (n : ℕ) → length spans ≤ n
    → word_start start spans n ≡ last_end start spans
word_start-all start [] n all = refl
word_start-all start (span ∷ spans) zero all = absurd (omega arith)
word_start-all start (span ∷ spans) (suc n) all = word_start-all span.end spans n (omega arith)

pub last_span : (start : ℕ) (spans : List Span) (n : ℕ) (span : Span) → suc n ≡ length spans
    → slice_get spans n ≡ Some span → last_end start spans ≡ span.end
last_span start [] n span is at = absurd (omega (arith, is))
last_span start (first ∷ []) zero span is at = cc
last_span start (first ∷ []) (suc n) span is at = absurd (omega (arith, is))
last_span start (first ∷ next ∷ spans) zero span is at = absurd (omega (arith, is))
last_span start (first ∷ next ∷ spans) (suc n) span is at =
    last_span first.end (next ∷ spans) n span (omega (arith, is)) at

pub last_of : (spans : List Span) (span : Span) → slice_get spans (length spans - 1) ≡ Some span
    → span.end ≡ last_end 0 spans
last_of [] span at = absurd cc
last_of (first ∷ spans) span at =
    sym (last_span 0 (first ∷ spans) (length (first ∷ spans) - 1) span (omega arith) at)

pub start_at : (start : ℕ) (spans : List Span) (n : ℕ) (d : Span) → n < length spans
    → word_start start spans n ≡ (get_or spans n d).start
start_at start [] n d below = absurd (omega (arith, below))
start_at start (first ∷ spans) zero d below = refl
start_at start (first ∷ spans) (suc n) d below = start_at first.end spans n d (omega (arith, below))

pub word_at : (spans : List Span) (bytes : List ℕ) (n : ℕ) (d : Span) → n < length spans
    → get_or (words_at spans bytes) n [] ≡ slice_range bytes (get_or spans n d).start (get_or spans n d).end
word_at [] bytes n d below = absurd (omega (arith, below))
word_at (first ∷ spans) bytes zero d below = refl
word_at (first ∷ spans) bytes (suc n) d below = word_at spans bytes n d (omega (arith, below))

pub span_at : (start : ℕ) (spans : List Span) (most n : ℕ) (d : Span) → AreSpans start spans most
    → n < length spans → ((get_or spans n d).start ≤ (get_or spans n d).end) × ((get_or spans n d).end ≤ most)
span_at start [] most n d are below = absurd (omega (arith, below))
span_at start (first ∷ spans) most zero d are below = (are.1, start-le first.end spans most are.2)
span_at start (first ∷ spans) most (suc n) d are below = span_at first.end spans most n d are.2 (omega (arith, below))

pub same_held : (words others : Words) (word other : List ℕ) → words ≡ others → word ≡ other → held words word
    ≡ held others other
same_held words others word other same_words same_word = cc

-- more bytes of the next word
pub appended : (spans : List Span) (bytes more : List ℕ) → AreSpans 0 spans (length bytes)
    → held (words_at spans (bytes ++ more)) (drop (last_end 0 spans) (bytes ++ more)) ≡ held (words_at spans bytes)
    (drop (last_end 0 spans) bytes ++ more)
appended spans bytes more are =
    same_held _ _ _ _ (words_at-append 0 spans bytes more are)
    (drop-append-le (last_end 0 spans) bytes more (last_end-le 0 spans (length bytes) are))

pub spans_more : (spans : List Span) (bytes more : List ℕ) → AreSpans 0 spans (length bytes)
    → AreSpans 0 spans (length (bytes ++ more))
spans_more spans bytes more are = spans_within 0 spans (length bytes) (length (bytes ++ more)) are
    (omega (arith, last_end-le 0 spans (length bytes) are, length-append bytes more))

-- the next word ends
pub ended : (spans : List Span) (bytes : List ℕ) (span : Span) → AreSpans 0 spans (length bytes)
    → span.start ≡ last_end 0 spans → span.end ≡ length bytes
    → held (words_at (spans ++ span ∷ []) bytes) (drop (last_end 0 (spans ++ span ∷ [])) bytes)
    ≡ held (words_at spans bytes ++ drop (last_end 0 spans) bytes ∷ []) []
ended spans bytes span are from to =
    let word : slice_range bytes span.start span.end ≡ drop span.start bytes =
    take_all (span.end - span.start) (drop span.start bytes) (omega (arith, length-drop span.start bytes)) in
    same_held _ _ _ _ (words_at-push spans span bytes
    ∙ ap (λ w. words_at spans bytes ++ w ∷ []) (word ∙ ap (λ k. drop k bytes) from))
    (ap (λ k. drop k bytes) (last_end-push 0 spans span) ∙ drop_all span.end bytes (omega arith))

get_or-seam : (words others : Words) (word : List ℕ) → get_or (words ++ word ∷ others) (length words) [] ≡ word
get_or-seam [] others word = refl
get_or-seam (first ∷ words) others word = get_or-seam words others word

-- what stands from the word behind those that stay begins with what stays of it
grown_word : (spans : List Span) (bytes : List ℕ) (words : Words) (word : List ℕ) → AreSpans 0 spans (length bytes)
    → GrowsFrom words word (words_at spans bytes) (drop (last_end 0 spans) bytes)
    → (rest : List ℕ) × (drop (word_start 0 spans (length words)) bytes ≡ word ++ rest)
grown_word spans bytes words word are (inl same) =
    let count : length spans ≡ length words = sym (length-words_at spans bytes) ∙ ap length same.1 in
    (same.0, ap (λ k. drop k bytes) (word_start-all 0 spans (length words) (omega arith)) ∙ same.2)
grown_word spans bytes words word are (inr more) =
    let news = words_at spans bytes in
    let count : length words < length spans =
    omega (arith, length-words_at spans bytes, ap length more.2, length-append words ((word ++ more.0) ∷ more.1)) in
    let next : get_or news (length words) [] ≡ word ++ more.0 = ap (λ ws. get_or ws (length words) []) more.2
    ∙ get_or-seam words more.1 (word ++ more.0) in
    let found = next_word 0 spans bytes (length words) are count in (
      more.0 ++ found.0,
      found.1 ∙ ap (λ (t : List ℕ). t ++ found.0) next ∙ append_assoc word more.0 _,
    )

grown_words : (spans : List Span) (bytes : List ℕ) (words : Words) (word : List ℕ)
    → GrowsFrom words word (words_at spans bytes) (drop (last_end 0 spans) bytes)
    → take (length words) (words_at spans bytes) ≡ words
grown_words spans bytes words word (inl same) = ap (take (length words)) same.1 ∙ take_all (length words) words
    (omega arith)
grown_words spans bytes words word (inr more) = ap (take (length words)) more.2 ∙ take_at words _ (length words) refl

front_length : (spans : List Span) (bytes : List ℕ) (n : ℕ) → AreSpans 0 spans (length bytes)
    → length (take (last_end 0 (take n spans)) bytes) ≡ last_end 0 (take n spans)
front_length spans bytes n are = length-take-le (last_end 0 (take n spans)) bytes
    (last_end-le 0 (take n spans) (length bytes) (spans_take 0 spans (length bytes) n are))

-- the bytes that stay where so many words stay, and so many bytes of the next
abbrev pub kept_bytes : List Span → List ℕ → ℕ → ℕ → List ℕ
kept_bytes spans bytes count len =
    take (last_end 0 (take count spans) + len)
    (take (last_end 0 (take count spans)) bytes ++ drop (word_start 0 spans count) bytes)

pub spans_back : (spans : List Span) (bytes : List ℕ) (count len : ℕ) → AreSpans 0 spans (length bytes)
    → AreSpans 0 (take count spans) (length (kept_bytes spans bytes count len))
spans_back spans bytes count len are =
    let start = last_end 0 (take count spans) in
    let front = take start bytes in
    let behind = drop (word_start 0 spans count) bytes in
    spans_within 0 (take count spans) (length bytes) _ (spans_take 0 spans (length bytes) count are)
    (omega (
      arith,
      front_length spans bytes count are,
      length-append front behind,
      length-take (start + len) (front ++ behind),
    ))

-- back at so many words, and so much of the next
pub back_at : (spans : List Span) (bytes : List ℕ) (words : Words) (word : List ℕ) → AreSpans 0 spans (length bytes)
    → GrowsFrom words word (words_at spans bytes) (drop (last_end 0 spans) bytes)
    → held (words_at (take (length words) spans) (kept_bytes spans bytes (length words) (length word)))
    (drop (last_end 0 (take (length words) spans)) (kept_bytes spans bytes (length words) (length word)))
    ≡ held words word
back_at spans bytes words word are grown =
    let some = take (length words) spans in
    let start = last_end 0 some in
    let front = take start bytes in
    let found = grown_word spans bytes words word are grown in
    let long : length front ≡ start = front_length spans bytes (length words) are in
    let kept : kept_bytes spans bytes (length words) (length word) ≡ front ++ word =
    ap (λ (t : List ℕ). take (start + length word) (front ++ t)) found.1
    ∙ ap (take (start + length word)) (sym (append_assoc front word found.0))
    ∙ take_at (front ++ word) found.0 (start + length word) (omega (arith, long, length-append front word)) in
    let within : AreSpans 0 some (length front) = spans_within 0 some (length bytes) (length front)
    (spans_take 0 spans (length bytes) (length words) are) (omega (arith, long)) in
    let same : words_at some bytes ≡ words_at some front = ap (words_at some) (sym (take-append-drop start bytes))
    ∙ words_at-append 0 some front (drop start bytes) within in
    let here : words_at some (front ++ word) ≡ words = words_at-append 0 some front word within ∙ sym same
    ∙ words_at-take spans bytes (length words) ∙ grown_words spans bytes words word grown in
    let rest : drop start (front ++ word) ≡ word = drop-append-le start front word (omega (arith, long))
    ∙ ap (λ (t : List ℕ). t ++ word) (drop_all start front (omega (arith, long))) in
    ap (λ b. held (words_at some b) (drop start b)) kept ∙ same_held _ _ _ _ here rest

-- growing goes on
pub grows_on : (words : Words) (word : List ℕ) (mids : Words) (mid : List ℕ) (news : Words) (new : List ℕ)
    → GrowsFrom words word mids mid → GrowsFrom mids mid news new → GrowsFrom words word news new
grows_on words word mids mid news new (inl a) (inl b) =
    inl (a.0 ++ b.0, b.1 ∙ a.1, b.2 ∙ ap (λ w. w ++ b.0) a.2 ∙ append_assoc word a.0 b.0)
grows_on words word mids mid news new (inl a) (inr b) =
    inr (
      a.0 ++ b.0,
      b.1,
      b.2 ∙ ap (λ w. w ++ (mid ++ b.0) ∷ b.1) a.1
          ∙ ap (λ w. words ++ w ∷ b.1) (ap (λ w. w ++ b.0) a.2 ∙ append_assoc word a.0 b.0),
    )
grows_on words word mids mid news new (inr a) (inl b) = inr (a.0, a.1, b.1 ∙ a.2)
grows_on words word mids mid news new (inr a) (inr b) =
    inr (
      a.0,
      a.1 ++ (mid ++ b.0) ∷ b.1,
      b.2 ∙ ap (λ w. w ++ (mid ++ b.0) ∷ b.1) a.2
          ∙ append_assoc words ((word ++ a.0) ∷ a.1) ((mid ++ b.0) ∷ b.1),
    )

-- one word more is a growth, where nothing had come of the next
pub grows_word : (words : Words) (word : List ℕ) (mids : Words) (mid more : List ℕ) (news : Words) (new : List ℕ)
    → GrowsFrom words word mids mid → mid ≡ [] → news ≡ mids ++ more ∷ [] → GrowsFrom words word news new
grows_word words word mids mid more news new grown none news_are =
    grows_on words word mids mid news new grown
    (inr (more, [], news_are ∙ ap (λ (w : List ℕ). mids ++ (w ++ more) ∷ []) (sym none)))

pub same_grows : (words others : Words) (word other : List ℕ) (news more : Words) (new end : List ℕ) → words ≡ others
    → word ≡ other → news ≡ more → new ≡ end → GrowsFrom words word news new → GrowsFrom others other more end
same_grows words others word other news more new end a b c d grows =
    subst (λ (w : List ℕ). GrowsFrom others other more w) d
    (subst (λ (ws : Words). GrowsFrom others other ws new) c
    (subst (λ (w : List ℕ). GrowsFrom others w news new) b
    (subst (λ (ws : Words). GrowsFrom ws word news new) a grows)))

pub no_word : (spans : List Span) (bytes : List ℕ) (n : ℕ) → AreSpans 0 spans (length bytes)
    → drop (last_end 0 spans) bytes ≡ [] → n ≡ length bytes → last_end 0 spans ≡ n
no_word spans bytes n are none is = omega (
  arith,
  last_end-le 0 spans (length bytes) are,
  ap length none,
  length-drop (last_end 0 spans) bytes,
)
