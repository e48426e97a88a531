-- Words that are found one behind the other, before their bytes are copied.
use Rattle.std.proofs.Common.{◌≡◌, ℕ, ◌+◌, ◌-◌, ◌<◌, ◌≤◌, List, [], ◌∷◌, ◌++◌, length, take, drop, slice_range, arith}
use Rattle.std.proofs.Common.{append_assoc, append-nil, length-append, inl, refl, ap, sym, ◌∙◌, subst}
use Rattle.std.specs.Fmt.{decimal}
use Rattle.std.proofs.lemmas.List.{take_all, take_at, drop_at, take-append-drop, take-append-le}
use Rattle.std.proofs.lemmas.List.{length-take-le}
use Rattle.flake_model.specs.Resp.{Words, IsWord, bulk_string}
use Rattle.flake_model.specs.Fronts.{array_front}
use Rattle.resp_reader.specs.declared.word_room.Span.{Span}
use Rattle.resp_reader.specs.WordRoom.{words_at, last_end, AreSpans, AreWordsOf, Finds}
use Rattle.resp_reader.proofs.Rooms.{words_at-append, words_at-push, last_end-push, spans_push, length-words_at}
use Rattle.resp_reader.proofs.Rooms.{grows_word}
use Rattle.resp_reader.proofs.WholeWords.{words_on, front_on}

-- the words up to the rest, of which the last ends here
pub record SoFar (count behind : ℕ) (old new : List Span) (bytes rest : List ℕ) (end : ℕ) : Type 0 where
  pub front : List ℕ
  pub bytes_are : bytes ≡ front ++ rest
  pub end_in : end ≤ length front
  pub others : List Span
  pub new_is : new ≡ old ++ others
  pub known : (room : List ℕ) → length room ≡ behind → AreSpans 0 old behind → last_end 0 old ≡ behind
      → AreWordsOf count (words_at old room) → Finds count room old new bytes (take end bytes) rest

pub none_yet : (count behind : ℕ) (spans : List Span) (bytes : List ℕ) → SoFar count behind spans spans bytes bytes 0
none_yet count behind spans bytes = record {
  front = [];
  bytes_are = refl;
  end_in = omega arith;
  others = [];
  new_is = sym (append-nil spans);
  known = λ room long are last words.
      let same : room ≡ room ++ [] = sym (append-nil room) in
      record {
        spans = subst (λ n. AreSpans 0 spans n) (sym long ∙ ap length same) are;
        last = last ∙ sym long ∙ ap length same;
        words = subst (λ (r : List ℕ). AreWordsOf count (words_at spans r)) same words;
        front = ap (λ (r : List ℕ). array_front count (words_at spans r) ++ bytes) same;
        grows = inl ([], ap (words_at spans) (sym same), refl);
      };
}

-- the bytes up to the word's last
module _ (bytes front rest word more : List ℕ) (is : bytes ≡ front ++ rest) (text : rest ≡ bulk_string word ++ more)
  where
    abbrev head : List ℕ
    head = 36 ∷ (decimal (length word) ++ 13 ∷ 10 ∷ [])

    bulk_is : bulk_string word ++ more ≡ (head ++ word) ++ 13 ∷ 10 ∷ more
    bulk_is = append_assoc (head ++ word) (13 ∷ 10 ∷ []) more

    all_is : bytes ≡ ((front ++ head) ++ word) ++ 13 ∷ 10 ∷ more
    all_is =
        is ∙ ap (λ (t : List ℕ). front ++ t) (text ∙ bulk_is ∙ append_assoc head word (13 ∷ 10 ∷ more))
        ∙ sym (append_assoc front head (word ++ 13 ∷ 10 ∷ more))
        ∙ sym (append_assoc (front ++ head) word (13 ∷ 10 ∷ more))

    end_is : length bytes - length more - 2 ≡ length ((front ++ head) ++ word)
    end_is = omega (
      arith,
      ap length all_is,
      length-append ((front ++ head) ++ word) (13 ∷ 10 ∷ more),
    )

-- one word more
pub one_found : (count behind : ℕ) (old new : List Span) (bytes rest word more : List ℕ) (end : ℕ) (span : Span)
    → SoFar count behind old new bytes rest end → IsWord word → rest ≡ bulk_string word ++ more → length new < count
    → span.end ≡ behind + (length bytes - length more - 2) → span.start + length word ≡ span.end
    → SoFar count behind old (new ++ span ∷ []) bytes more (length bytes - length more - 2)
one_found count behind old new bytes rest word more end span so_far allowed text less to from =
    let front = so_far.front in
    let h = head bytes front rest word more so_far.bytes_are text in
    let all : List ℕ = (front ++ h) ++ word in
    let is : bytes ≡ all ++ 13 ∷ 10 ∷ more = all_is bytes front rest word more so_far.bytes_are text in
    let now = length bytes - length more - 2 in
    let now_is : now ≡ length all = end_is bytes front rest word more so_far.bytes_are text in
    let long : length all ≡ length front + length h + length word =
    omega (arith, length-append (front ++ h) word, length-append front h) in
    let taken : take now bytes ≡ all = ap (take now) is ∙ take_at all (13 ∷ 10 ∷ more) now (omega (arith, now_is)) in
    let before : take end bytes ≡ take end all = ap (take end) is
    ∙ take-append-le end all (13 ∷ 10 ∷ more) (omega (arith, so_far.end_in, long)) in
    let mid = drop end all in
    let split : take now bytes ≡ take end bytes ++ mid = taken ∙ sym (take-append-drop end all)
    ∙ ap (λ (t : List ℕ). t ++ mid) (sym before) in
    record {
      front = all ++ 13 ∷ 10 ∷ [];
      bytes_are = is ∙ sym (append_assoc all (13 ∷ 10 ∷ []) more);
      end_in = omega (arith, now_is, length-append all (13 ∷ 10 ∷ []));
      others = so_far.others ++ span ∷ [];
      new_is = ap (λ (t : List Span). t ++ span ∷ []) so_far.new_is ∙ append_assoc old so_far.others (span ∷ []);
      known = λ room room_long are last words.
          let found = so_far.known room room_long are last words in
          let some : List ℕ = room ++ take end bytes in
          let full : room ++ take now bytes ≡ some ++ mid = ap (λ (t : List ℕ). room ++ t) split
          ∙ sym (append_assoc room (take end bytes) mid) in
          let whole : room ++ take now bytes ≡ (room ++ (front ++ h)) ++ word = ap (λ (t : List ℕ). room ++ t) taken
          ∙ sym (append_assoc room (front ++ h) word) in
          let start : length (room ++ (front ++ h)) ≡ span.start =
          omega (arith, room_long, length-append room (front ++ h), length-append front h, long, now_is, to, from) in
          let last_in : last_end 0 new ≤ span.start =
          omega (
            arith,
            found.last,
            length-append room (take end bytes),
            length-take-le end bytes (omega (
              arith,
              ap length is,
              so_far.end_in,
              long,
              length-append all (13 ∷ 10 ∷
                  more),
            )),
            start,
            so_far.end_in,
            length-append room (front ++ h),
            length-append front h,
          ) in
          let total : length (room ++ take now bytes) ≡ span.end =
          omega (arith, ap length whole, length-append (room ++ (front ++ h)) word, start, from) in
          let same : words_at new (room ++ take now bytes) ≡ words_at new some = ap (words_at new) full
          ∙ words_at-append 0 new some mid found.spans in
          let one : slice_range (room ++ take now bytes) span.start span.end ≡ word =
          ap (λ (t : List ℕ). slice_range t span.start span.end) whole
          ∙ ap (take (span.end - span.start)) (drop_at (room ++ (front ++ h)) word span.start start)
          ∙ take_all (span.end - span.start) word (omega (arith, from)) in
          let news : words_at (new ++ span ∷ []) (room ++ take now bytes) ≡ words_at new some ++ word ∷ [] =
          words_at-push new span (room ++ take now bytes) ∙ ap (λ ws. ws ++ slice_range (room ++ take now bytes)
          span.start span.end ∷ []) same ∙ ap (λ w. words_at new some ++ w ∷ []) one in
          record {
            spans = spans_push 0 new span (length some) (length (room ++ take now bytes)) found.spans last_in
                (omega (arith, from)) (omega (arith, total));
            last = last_end-push 0 new span ∙ sym total;
            words = subst (λ (ws : Words). AreWordsOf count ws) (sym news)
                (words_on count (words_at new some) word found.words allowed
                (omega (arith, length-words_at new some, less)));
            front = found.front ∙ ap (λ (t : List ℕ). array_front count (words_at new some) ++ t) text
                ∙ front_on count (words_at new some) word more
                ∙ ap (λ (ws : Words). array_front count ws ++ more) (sym news);
            grows = grows_word (words_at old room) [] (words_at new some) [] word _ [] found.grows refl news;
          };
    }

pub kept_spans : (count behind : ℕ) (old new : List Span) (bytes rest : List ℕ) (end : ℕ)
    → SoFar count behind old new bytes rest end → take (length old) new ≡ old
kept_spans count behind old new bytes rest end so_far = ap (take (length old)) so_far.new_is
    ∙ take_at old so_far.others (length old) refl

pub word_within : (count behind : ℕ) (old new : List Span) (bytes rest word more : List ℕ) (end : ℕ)
    → SoFar count behind old new bytes rest end → rest ≡ bulk_string word ++ more
    → length word ≤ length bytes - length more - 2
word_within count behind old new bytes rest word more end so_far text =
    let h = head bytes so_far.front rest word more so_far.bytes_are text in
    omega (
      arith,
      end_is bytes so_far.front rest word more so_far.bytes_are text,
      length-append (so_far.front ++ h) word,
    )
