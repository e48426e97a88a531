-- Elements behind one another, off the bytes that came.
use Rattle.std.proofs.Common.{◌≡◌, ℕ, ◌+◌, ◌<◌, ◌≤◌, inl, inr, List, [], ◌∷◌, ◌++◌, length, arith, refl, ap, sym, ◌∙◌}
use Rattle.std.proofs.Common.{subst, append-nil, append_assoc, length-append}
use Rattle.std.specs.Option.{option_to_list}
use Rattle.flake_model.specs.Resp.{Words, Element, array, null_array, IsElement, element_text, AllElements, stream}
use Rattle.flake_model.specs.Resp.{request_of, requests_of, IsFaulty, judged_bytes}
use Rattle.flake_model.specs.Fronts.{array_front}
use Rattle.flake_model.proofs.Streams.{all_append, stream-append, requests_of-append}
use Rattle.resp_reader.specs.declared.begun.State.TheVariants.{Start, Null, Whole}
use Rattle.resp_reader.specs.declared.begun.Mark.{Mark}
use Rattle.resp_reader.specs.declared.parser.Parser.{Parser}
use Rattle.resp_reader.specs.Begun.{state_front, IsState, IsBegunSound, IsUnfinished, begun_front, Grows}
use Rattle.resp_reader.specs.WordRoom.{GrowsFrom}
use Rattle.resp_reader.specs.Parser.{IsBetweenCalls, TakesTo, CanGoBack, IsMark, IsBack, HasFault}
use Rattle.resp_reader.proofs.Rooms.{grows_on}

pub request_to_list : (element : Element) → option_to_list (request_of element) ≡ requests_of (element ∷ [])
request_to_list (array []) = refl
request_to_list (array (word ∷ words)) = refl
request_to_list null_array = refl

-- a whole element is taken
pub element_taken : (old new : Parser) (element : Element) → IsElement element → begun_front old.begun
    ≡ element_text element → begun_front new.begun ≡ []
    → new.ready.items ≡ old.ready.items ++ option_to_list (request_of element) → new.place ≡ old.place
    + length (begun_front old.begun) → TakesTo old new [] []
element_taken old new element allowed front_is none ready place = record {
  elements = element ∷ [];
  allowed = (allowed, tt);
  bytes_are = append-nil (begun_front old.begun) ∙ front_is ∙ sym (append-nil (element_text element))
      ∙ sym (append-nil (stream (element ∷ []))) ∙ ap (λ rest. stream (element ∷ []) ++ rest)
      (sym (append-nil (begun_front new.begun) ∙ none));
  ready_is = ready ∙ ap (λ more. old.ready.items ++ more) (request_to_list element);
  place_is = place ∙ ap (λ front. old.place + length front) (front_is ∙ sym (append-nil (element_text element)));
}

-- a null array is whole
pub null_taken : (old new : Parser) → old.begun.state ≡ Null → new.begun.state ≡ Start → new.ready.items
    ≡ old.ready.items → new.place ≡ old.place + length (begun_front old.begun) → TakesTo old new [] []
null_taken old new whole start ready place =
    element_taken old new null_array tt (ap (λ s. state_front s old.begun.room.words old.begun.room.word) whole)
    (ap (λ s. state_front s new.begun.room.words new.begun.room.word) start)
    (ready ∙ sym (append-nil old.ready.items)) place

-- an array is whole
pub array_taken : (old new : Parser) (count : ℕ) → old.begun.state ≡ Whole count → IsBegunSound old.begun
    → new.begun.state ≡ Start
    → new.ready.items ≡ old.ready.items ++ option_to_list (request_of (array old.begun.room.words)) → new.place
    ≡ old.place + length (begun_front old.begun) → TakesTo old new [] []
array_taken old new count whole sound start ready place =
    let words = old.begun.room.words in
    let is : IsState (Whole count) words old.begun.room.word = subst (λ s. IsState s words old.begun.room.word) whole
    sound in
    let front : begun_front old.begun ≡ array_front count words = ap (λ s. state_front s words old.begun.room.word)
    whole in
    element_taken old new (array words) (omega (arith, is.1, is.2), is.0)
    (front ∙ ap (λ n. array_front n words) (sym is.1))
    (ap (λ s. state_front s new.begun.room.words new.begun.room.word) start) ready place

pub same_back : (old new : Parser) → new.ready.items ≡ old.ready.items → new.begun.room.words ≡ old.begun.room.words
    → new.begun.room.word ≡ old.begun.room.word → CanGoBack old new
same_back old new ready words word = inl (ready, inl ([], words, word ∙ sym (append-nil old.begun.room.word)))

-- words that were given can be taken back
pub given_back : (old new : Parser) (count : ℕ) → old.begun.state ≡ Whole count → IsBegunSound old.begun
    → new.begun.room.words ≡ [] → new.begun.room.word ≡ []
    → new.ready.items ≡ old.ready.items ++ option_to_list (request_of (array old.begun.room.words)) → CanGoBack old new
given_back old new count whole sound none word ready =
    by_words old.begun.room.words refl ready where
      empty : old.begun.room.word ≡ []
      empty = (subst (λ s. IsState s old.begun.room.words old.begun.room.word) whole sound).3

      by_words : (words : Words) → words ≡ old.begun.room.words → new.ready.items ≡ old.ready.items
          ++ option_to_list (request_of (array words)) → CanGoBack old new
      by_words [] is ready = same_back old new (ready ∙ append-nil old.ready.items) (none ∙ is) (word ∙ sym empty)
      by_words (first ∷ words) is ready =
          inr (first ∷ words, [], ready, λ other. inl (other, is, ap (λ w. w ++ other) (sym empty)))

-- more bytes led to another state
pub stepped : (start old new : Parser) (bytes rest behind : List ℕ) → TakesTo start old bytes rest
    → begun_front old.begun ++ rest ≡ begun_front new.begun ++ behind
    → new.ready.items ≡ old.ready.items → new.place ≡ old.place → TakesTo start new bytes behind
stepped start old new bytes rest behind so_far front ready place = record {
  elements = so_far.elements;
  allowed = so_far.allowed;
  bytes_are = so_far.bytes_are ∙ ap (λ b. stream so_far.elements ++ b) front;
  ready_is = ready ∙ so_far.ready_is;
  place_is = place ∙ so_far.place_is;
}

-- elements behind elements
pub taken_on : (start old new : Parser) (bytes rest : List ℕ) → TakesTo start old bytes rest → TakesTo old new [] []
    → TakesTo start new bytes rest
taken_on start old new bytes rest so_far more =
    let front : begun_front old.begun ≡ stream more.elements ++ begun_front new.begun =
    sym (append-nil (begun_front old.begun)) ∙ more.bytes_are ∙ ap (λ b. stream more.elements ++ b)
    (append-nil (begun_front new.begun)) in
    let behind : begun_front old.begun ++ rest ≡ stream more.elements ++ (begun_front new.begun ++ rest) =
    ap (λ b. b ++ rest) front ∙ append_assoc (stream more.elements) (begun_front new.begun) rest in
    record {
      elements = so_far.elements ++ more.elements;
      allowed = all_append IsElement so_far.elements more.elements so_far.allowed more.allowed;
      bytes_are = so_far.bytes_are ∙ ap (λ b. stream so_far.elements ++ b) behind
          ∙ sym (append_assoc (stream so_far.elements) (stream more.elements) (begun_front new.begun ++ rest))
          ∙ ap (λ b. b ++ (begun_front new.begun ++ rest)) (sym (stream-append so_far.elements more.elements));
      ready_is = more.ready_is ∙ ap (λ r. r ++ requests_of more.elements) so_far.ready_is
          ∙ append_assoc start.ready.items (requests_of so_far.elements) (requests_of more.elements)
          ∙ ap (λ r. start.ready.items ++ r) (sym (requests_of-append so_far.elements more.elements));
      place_is = omega (
        arith,
        so_far.place_is,
        more.place_is,
        ap length (stream-append so_far.elements more.elements),
        length-append (stream so_far.elements) (stream more.elements),
      );
    }

pub back_on : (start old new : Parser) → CanGoBack start old → CanGoBack old new → CanGoBack start new
back_on start old new (inl a) (inl b) = inl (b.0 ∙ a.0, grows_on _ _ _ _ _ _ a.1 b.1)
back_on start old new (inl a) (inr b) =
    inr (b.0, b.1, b.2 ∙ ap (λ r. r ++ b.0 ∷ b.1) a.0, λ word. grows_on _ _ _ _ _ _ a.1 (b.3 word))
back_on start old new (inr a) (inl b) = inr (a.0, a.1, b.0 ∙ a.2, a.3)
back_on start old new (inr a) (inr b) =
    inr (
      a.0,
      a.1 ++ b.0 ∷ b.1,
      b.2 ∙ ap (λ r. r ++ b.0 ∷ b.1) a.2 ∙ append_assoc start.ready.items (a.0 ∷ a.1)
          (b.0 ∷ b.1),
      a.3,
    )

pub grown_back : (old new : Parser) → new.ready.items ≡ old.ready.items → Grows old.begun new.begun → CanGoBack old new
grown_back old new ready grows = inl (ready, grows)

-- an error behind whole elements
pub faulty_behind : (elements : List Element) (bytes : List ℕ) (requests : List Words) (kind place : ℕ)
    → AllElements elements → IsFaulty bytes requests kind place
    → IsFaulty (stream elements ++ bytes) (requests_of elements ++ requests) kind (length (stream elements) + place)
faulty_behind elements bytes requests kind place allowed fault =
    let text : stream (elements ++ fault.elements) ≡ stream elements ++ stream fault.elements =
    stream-append elements fault.elements in
    let front : stream (elements ++ fault.elements) ++ fault.front ≡ stream elements
    ++ (stream fault.elements ++ fault.front) =
    ap (λ t. t ++ fault.front) text ∙ append_assoc (stream elements) (stream fault.elements) fault.front in
    record {
      elements = elements ++ fault.elements;
      front = fault.front;
      byte = fault.byte;
      more = fault.more;
      allowed = all_append IsElement elements fault.elements allowed fault.allowed;
      begun = fault.begun;
      refused = fault.refused;
      bytes_are = ap (λ b. stream elements ++ b) fault.bytes_are
          ∙ sym (append_assoc (stream elements) (stream fault.elements ++ fault.front) (fault.byte ∷ fault.more))
          ∙ ap (λ b. b ++ fault.byte ∷ fault.more) (sym front);
      requests_are = ap (λ r. requests_of elements ++ r) fault.requests_are
          ∙ sym (requests_of-append elements fault.elements);
      place_is = omega (
        arith,
        fault.place_is,
        ap length front,
        length-append (stream elements)
            (stream fault.elements ++ fault.front),
      );
      kind_is = fault.kind_is;
    }

pub fault_within : (front bytes : List ℕ) (requests : List Words) (kind place : ℕ)
    → IsFaulty (front ++ bytes) requests kind (length front + place) → place < length bytes
fault_within front bytes requests kind place fault =
    omega (
      arith,
      fault.place_is,
      ap length fault.bytes_are,
      length-append front bytes,
      length-append
          (stream fault.elements ++ fault.front) (fault.byte ∷ fault.more),
    )

pub stopped : (start old new : Parser) (bytes rest : List ℕ) (kind read place : ℕ) → TakesTo start old bytes rest
    → new.ready.items ≡ old.ready.items → read + length rest ≡ length bytes
    → IsFaulty (begun_front old.begun ++ rest) [] kind (length (begun_front old.begun) + place)
    → HasFault start new bytes kind (read + place)
stopped start old new bytes rest kind read place so_far ready read_is fault =
    let behind = faulty_behind so_far.elements (begun_front old.begun ++ rest) [] kind
    (length (begun_front old.begun) + place) so_far.allowed fault in
    let at : length (stream so_far.elements) + (length (begun_front old.begun) + place)
    ≡ length (begun_front start.begun) + (read + place) =
    omega (
      arith,
      ap length so_far.bytes_are,
      length-append (begun_front start.begun) bytes,
      length-append
          (stream so_far.elements) (begun_front old.begun ++ rest),
      length-append (begun_front old.begun) rest,
    ) in
    record {
      requests = requests_of so_far.elements ++ [];
      faulty = subst (λ p. IsFaulty (begun_front start.begun ++ bytes) (requests_of so_far.elements ++ []) kind p) at
          (subst (λ b. IsFaulty b (requests_of so_far.elements ++ []) kind
          (length (stream so_far.elements) + (length (begun_front old.begun) + place)))
          (sym so_far.bytes_are) behind);
      ready_is = ready ∙ so_far.ready_is ∙ ap (λ r. start.ready.items ++ r)
          (sym (append-nil (requests_of so_far.elements)));
    }

-- where what isn't whole begins
pub place_of : (start now : Parser) (bytes rest : List ℕ) → TakesTo start now bytes rest → start.taken ≡ start.place
    + length (begun_front start.begun) → length rest ≤ length bytes
    → start.taken + length bytes ≡ now.place + length (begun_front now.begun) + length rest
place_of start now bytes rest so_far taken shorter =
    omega (
      arith,
      so_far.place_is,
      ap length so_far.bytes_are,
      length-append (begun_front start.begun) bytes,
      length-append (stream so_far.elements) (begun_front now.begun ++ rest),
      length-append
          (begun_front now.begun) rest,
    )

-- back at the mark
pub went_back : (before old mid new : Parser) (held : ℕ) (mark : Mark) → held ≡ length before.ready.items
    → IsMark mark before.begun → CanGoBack before old
    → (length old.ready.items ≤ held → mid ≡ old)
    → ((ready others : List Words) (first : Words) → length ready ≡ held → old.ready.items ≡ ready ++ first ∷ others
    → (mid.ready.items ≡ ready) × (mid.begun.room.words ≡ first))
    → ((words : Words) (word : List ℕ) → length words ≡ mark.words → length word ≡ mark.len
    → GrowsFrom words word mid.begun.room.words mid.begun.room.word
    → (new.begun.room.words ≡ words) × (new.begun.room.word ≡ word))
    → new.begun.state ≡ mark.state → new.ready.items ≡ mid.ready.items → new.place ≡ before.place
    → new.taken ≡ before.taken → IsBack before new
went_back before old mid new held mark held_is marked back same reclaimed reopened state ready place taken =
    let found : (mid.ready.items ≡ before.ready.items) × GrowsFrom before.begun.room.words before.begun.room.word
    mid.begun.room.words mid.begun.room.word =
    elim back [
      | inl here ↦ (
          let is : mid ≡ old = same (omega (arith, ap length here.0)) in (
            ap (λ (p : Parser). p.ready.items) is ∙ here.0,
            subst (λ (p : Parser). GrowsFrom before.begun.room.words before.begun.room.word p.begun.room.words
                p.begun.room.word) (sym is) here.1,
          ))
      | inr given ↦ (
          let is = reclaimed before.ready.items given.1 given.0 (sym held_is) given.2 in (
            is.0,
            subst (λ (words : Words). GrowsFrom before.begun.room.words before.begun.room.word words
                mid.begun.room.word) (sym is.1) (given.3 mid.begun.room.word),
          ))
    ] in
    let words = reopened before.begun.room.words before.begun.room.word (sym marked.words) (sym marked.len) found.1 in
    record {
      ready = ready ∙ found.0;
      state = state ∙ marked.state;
      words = words.0;
      word = words.1;
      place = place;
      taken = taken;
    }

-- all bytes are taken
pub still_kept : (start now : Parser) (bytes : List ℕ) (taken : ℕ) → IsBetweenCalls start → TakesTo start now bytes []
    → IsBegunSound now.begun → IsUnfinished now.begun.state → taken ≡ start.taken + length bytes → taken ≤ judged_bytes
    → IsBetweenCalls (record now { taken = taken })
still_kept start now bytes taken kept all sound awaits taken_is judged = record {
  sound = sound;
  awaits = awaits;
  taken_is = omega (arith, place_of start now bytes [] all kept.taken_is (omega arith));
  judged = judged;
}
