-- What the program does to its lists at each event is that event's step.
use Rattle.std.proofs.Common.{◌≡◌, ℕ, ◌+◌, ◌<◌, ◌≤◌, List, [], ◌∷◌, ◌++◌, Bool, true, false, cond, eqb, get_or, length}
use Rattle.std.proofs.Common.{map, replicate, take, set, sym, refl, ap, subst, ◌∙◌, arith}
use Rattle.std.specs.Prelude.{Option, None, Some, find, position, remove, slice_index}
use Rattle.std.proofs.lemmas.List.{set-append_left}
use Rattle.view_sums.specs.Total.{total, Each, SameItems, Adds}
use Rattle.view_sums.proofs.Sums.{total-append, total-map}
use Rattle.view_sums.proofs.Eachs.{each-append}
use Rattle.pin_core.specs.Buffers.{buffers, buffer_words, start}
use Rattle.pin_core.specs.Holding.{Key, IsMeant, at, sole_at, shared}
use Rattle.pin_core.specs.Pins.{Owned, Pins, own, count_at}
use Rattle.pin_core.specs.PinStep.{Event, IsNear, PinStep, IsClaim, IsPut, IsLoad, IsPin, IsUnpin, IsMove, IsGive}
use Rattle.pin_core.specs.Raw.{front_in, owned_in, is_raw_at, is_raw_key}
use Rattle.pin_core.specs.State.{SizedPins, pins_shown, pins_in, IsPoolState}
use Rattle.pin_core.specs.declared.sizes.Sizes.{Sizes}
use Rattle.pin_core.specs.declared.holder.Holder.{Holder}
use Rattle.pin_core.specs.declared.state.Hold.{Hold}
use Rattle.pin_core.specs.declared.state.PinState.TheInside.{Inside}
use Rattle.pin_core.specs.Answers.{is_at, is_held_key, credits_of}
use Rattle.pin_core.proofs.Found.{IsThere, is_there, is_first, is_none, find-map-some, find-map-none}
use Rattle.pin_core.proofs.Places.{place-within}
use Rattle.pin_core.proofs.AccountSums.{fewer, fewer-same}
use Rattle.pin_core.proofs.Weights.{at-on, sole-on}
use Rattle.pin_core.proofs.Steps.{step_sound}
use Rattle.pin_core.proofs.RawHolds.{IsRaw, raw_at, IsRawKey, raw_key, front-length, front-word, front-put, others_stay}

-- a look-up in what was read of the list is one in the list
looked : (test : Hold → Bool) {result place : Option ℕ} {read holds : List Hold} → result ≡ place
    → result ≡ position test read → read ≡ holds → place ≡ position test holds
looked test is ensured same = sym is ∙ ensured ∙ ap (position test) same

-- the hold that was found, of this holder and this buffer
pub record IsHeld (z : Sizes) (holds : List Hold) (p : Holder) (b k : ℕ) (h : Hold) : Type 1 where
  pub near : b < buffers z
  pub there : IsThere (is_raw_at p b) holds k h

-- and the one that is pinned or not
pub record IsKeyHeld (z : Sizes) (holds : List Hold) (p : Holder) (b : ℕ) (pinned : Bool) (k : ℕ)
    (h : Hold) : Type 1 where
  pub near : b < buffers z
  pub there : IsThere (is_raw_key p b pinned) holds k h

-- the program's state is what contracts see of it
module _ (i : Inside) {now : SizedPins} (is : pins_shown i.sizes i.holds.items i.words.items i.credits ≡ now) (b : ℕ)
    (near : b < buffers now.sizes) where
  pub near_in : b < buffers i.sizes
  near_in = subst (λ (s : SizedPins). b < buffers s.sizes) (sym is) near

  pub is_held : (p : Holder) {result : Option ℕ} {read : List Hold} {k : ℕ} {h : Hold} → result ≡ Some k
      → result ≡ position (is_raw_at p b) read → read ≡ i.holds.items → h ≡ get_or i.holds.items k h
      → IsHeld i.sizes i.holds.items p b k h
  is_held p {k = k} {h = h} found ensured same here =
      record {
        near = near_in;
        there = is_there (is_raw_at p b) i.holds.items k h (looked (is_raw_at p b) found ensured same) here;
      }

  pub is_key_held : (p : Holder) (pinned : Bool) {result : Option ℕ} {read : List Hold} {k : ℕ} {h : Hold}
      → result ≡ Some k → result ≡ position (is_raw_key p b pinned) read → read ≡ i.holds.items
      → h ≡ get_or i.holds.items k h
      → IsKeyHeld i.sizes i.holds.items p b pinned k h
  is_key_held p pinned {k = k} {h = h} found ensured same here =
      record {
        near = near_in;
        there = is_there (is_raw_key p b pinned) i.holds.items k h (looked (is_raw_key p b pinned) found ensured same)
            here;
      }

module _ {z : Sizes} {holds : List Hold} {words : List ℕ} {credits : List Holder}
    (kept : IsPoolState z holds words credits) where
  abbrev pub old : Pins Holder
  old = pins_in z holds words credits

  -- a step keeps what is kept, if the fronts fit
  pub step_kept : (holds' : List Hold) (words' : List ℕ) (credits' : List Holder) (e : Event Holder) → IsNear z e
      → PinStep z old e (pins_in z holds' words' credits')
      → Each (λ (h : Hold). h.length ≤ buffer_words z h.buffer) holds' → IsPoolState z holds' words' credits'
  step_kept holds' words' credits' e near step short =
      record {
        within = kept.within;
        sound = step_sound z old (pins_in z holds' words' credits') e near step kept.sound;
        short = short;
      }

  pub claim_step : (b : ℕ) (p : Holder) → count_at b old.holds ≡ 0
      → IsClaim b p old (pins_in z
      (holds ++ record { holder = p; buffer = b; length = 0; exclusive = true; pinned = false } ∷ []) words credits)
  claim_step b p free =
      let h : Hold = record { holder = p; buffer = b; length = 0; exclusive = true; pinned = false } in
      record {
        free = free;
        claimed = λ weight. omega (
          arith,
          total-map weight (owned_in z words) holds,
          total-map weight (owned_in z words) (holds ++ h ∷ []),
          total-append (λ (g : Hold). weight (owned_in z words g)) holds (h ∷ []),
        );
        words = refl;
        credits = λ weight. refl;
      }

  -- no hold was found
  pub none_found : (p : Holder) (b : ℕ) {result : Option ℕ} {read : List Hold} → result ≡ None
      → result ≡ position (is_raw_at p b) read → read ≡ holds → find (is_at p b) old.holds ≡ None
  none_found p b none ensured same = find-map-none (is_at p b) (owned_in z words) holds
      (is_none (is_raw_at p b) holds (looked (is_raw_at p b) none ensured same))

  pub none_found_key : (p : Holder) (b : ℕ) (pinned : Bool) {result : Option ℕ} {read : List Hold} → result ≡ None
      → result ≡ position (is_raw_key p b pinned) read → read ≡ holds
      → find (is_held_key p (record { buffer = b; pinned = pinned })) old.holds ≡ None
  none_found_key p b pinned none ensured same =
      find-map-none (is_held_key p (record { buffer = b; pinned = pinned })) (owned_in z words) holds
      (is_none (is_raw_key p b pinned) holds (looked (is_raw_key p b pinned) none ensured same))

  -- some hold was found
  pub some_found : (p : Holder) (b : ℕ) {result : Option ℕ} {read : List Hold} {k : ℕ} → result ≡ Some k
      → result ≡ position (is_raw_at p b) read → read ≡ holds → (o : Owned Holder)
      × (find (is_at p b) old.holds ≡ Some o)
  some_found p b {k = k} found ensured same = let f = is_first (is_raw_at p b) holds k
      (looked (is_raw_at p b) found ensured same) in
      (owned_in z words f.item, find-map-some (is_at p b) (owned_in z words) f.item holds f.found)

  pub some_key_found : (p : Holder) (b : ℕ) (pinned : Bool) {result : Option ℕ} {read : List Hold} {k : ℕ}
      → result ≡ Some k → result ≡ position (is_raw_key p b pinned) read → read ≡ holds
      → (o : Owned Holder) × (find (is_held_key p (record { buffer = b; pinned = pinned })) old.holds ≡ Some o)
  some_key_found p b pinned {k = k} found ensured same =
      let f = is_first (is_raw_key p b pinned) holds k (looked (is_raw_key p b pinned) found ensured same) in
      let key : Key = record { buffer = b; pinned = pinned } in
      (owned_in z words f.item, find-map-some (is_held_key p key) (owned_in z words) f.item holds f.found)

  -- the hold that is there is the holder's, and the rest are all others
  there_held : {test : Hold → Bool} {p : Holder} {k : ℕ} {h : Hold} (there : IsThere test holds k h) → h.holder ≡ p
      → Adds (own p (owned_in z words h).hold) (map (owned_in z words) there.rest) old.holds
  there_held {h = h} there is weight =
      let view : Hold → Owned Holder = owned_in z words in
      omega (
        arith,
        total-map weight view holds,
        total-map weight view there.rest,
        there.whole
            (λ (g : Hold). weight (view g)),
        ap (λ (q : Holder). weight (own q (view h).hold)) is,
      )

  module _ {p : Holder} {b k : ℕ} {h : Hold} (held_at : IsHeld z holds p b k h) where
    open held_at use {near, there}

    raw : IsRaw p b h
    raw = raw_at p b h there.passes

    abbrev pub view : Hold → Owned Holder
    view = owned_in z words

    pub one_found : find (is_at p b) old.holds ≡ Some (view h)
    one_found = find-map-some (is_at p b) view h holds there.found

    pub held : Adds (own p (view h).hold) (map view there.rest) old.holds
    held = there_held there raw.holder_is

    near_h : h.buffer < buffers z
    near_h = omega (arith, raw.buffer_is, near)

    pub short_h : h.length ≤ buffer_words z h.buffer
    short_h = (there.each (λ (g : Hold). g.length ≤ buffer_words z g.buffer) kept.short).0

    pub front_length : length (view h).hold.front ≡ h.length
    front_length = front-length z words kept.sound.sized h.buffer h.length near_h short_h

    pub front_word : (i : ℕ) → i < h.length → slice_index (view h).hold.front i ≡ slice_index words (start z b + i)
    front_word i lt = front-word z words kept.sound.sized h.buffer h.length near_h short_h i lt
        ∙ ap (λ (c : ℕ). slice_index words (start z c + i)) raw.buffer_is

    pub in_words : (i : ℕ) → i < buffer_words z b → start z b + i < length words
    in_words i within = omega (arith, place-within z b i near within, kept.sound.sized)

    pub in_room : (i : ℕ) → i < h.length → i < buffer_words z b
    in_room i lt = omega (arith, short_h, ap (λ (c : ℕ). buffer_words z c) raw.buffer_is)

    pub load_step : (i : ℕ) → i < h.length → IsLoad b p i old old
    load_step i within = record {
      hold = (view h).hold;
      rest = map view there.rest;
      of_buffer = raw.buffer_is;
      held = held;
      in_front = omega (arith, within, front_length);
      holds = λ weight. refl;
      words = refl;
      credits = λ weight. refl;
    }

    -- under an exclusive hold no other hold has the buffer
    alone : h.exclusive ≡ true → total (λ (g : Hold). cond (eqb g.buffer b) 1 0) there.rest ≡ 0
    alone exclusive =
        let count = held (λ (o : Owned Holder). at b o.hold) in
        let sole = held (λ (o : Owned Holder). sole_at b o.hold) in
        omega (
          arith,
          count,
          sole,
          at-on b (view h).hold raw.buffer_is,
          sole-on b (view h).hold raw.buffer_is exclusive,
          kept.sound.held.sole b (omega (arith, sole, sole-on b (view h).hold raw.buffer_is exclusive)),
          total-map (λ (o : Owned Holder). at b o.hold) view there.rest,
        )

    abbrev pub put_words : ℕ → ℕ → List ℕ
    put_words i x = set words (start z b + i) x

    abbrev pub put_hold : ℕ → Hold
    put_hold i = record {
      holder = h.holder;
      buffer = h.buffer;
      length = i + 1;
      exclusive = h.exclusive;
      pinned = h.pinned;
    }

    put_front : (i x : ℕ) → i ≤ h.length → i < buffer_words z b → front_in z (put_words i x) h.buffer (i + 1)
        ≡ take i (view h).hold.front ++ x ∷ []
    put_front i x le within =
        let same = ap (λ (c : ℕ). front_in z (set words (start z c + i) x) h.buffer (i + 1)) (sym raw.buffer_is) in
        same ∙ front-put z words kept.sound.sized h.buffer h.length near_h short_h i x le
        (omega (arith, within, ap (λ (c : ℕ). buffer_words z c) raw.buffer_is))

    pub put_step : (i x : ℕ) → h.exclusive ≡ true → i ≤ h.length → i < buffer_words z b
        → IsPut z b p i x old (pins_in z (set holds k (put_hold i)) (put_words i x) credits)
    put_step i x exclusive le within = record {
      hold = (view h).hold;
      rest = map view there.rest;
      of_buffer = raw.buffer_is;
      held = held;
      exclusive = exclusive;
      in_front = omega (arith, le, front_length);
      in_buffer = within;
      put = λ weight.
          let after : Hold → Owned Holder = owned_in z (put_words i x) in
          let pins_shown : List ℕ → Owned Holder =
          λ front. own p (record { buffer = h.buffer; front = front; exclusive = h.exclusive; pinned = h.pinned })
          in
          omega (
            arith,
            total-map weight after (set holds k (put_hold i)),
            total-map weight view there.rest,
            there.changed (put_hold i) (λ (g : Hold). weight (after g)),
            others_stay z words b i x weight there.rest within (alone exclusive)
                (there.each (λ (g : Hold). g.length ≤ buffer_words z g.buffer) kept.short).1,
            ap (λ (q : Holder). weight (own q (after (put_hold i)).hold)) raw.holder_is,
            ap (λ front. weight (pins_shown front)) (put_front i x le within),
          );
      words = refl;
      credits = λ weight. refl;
    }

    pub put_short : (i : ℕ) → i < buffer_words z b → Each (λ (g : Hold). g.length ≤ buffer_words z g.buffer)
        (set holds k (put_hold i))
    put_short i within = there.each_changed (λ (g : Hold). g.length ≤ buffer_words z g.buffer) (put_hold i)
        (omega (arith, within, ap (λ (c : ℕ). buffer_words z c) raw.buffer_is)) kept.short

    abbrev pub copy_for : Holder → Hold
    copy_for taker = record { holder = taker; buffer = h.buffer; length = h.length; exclusive = false; pinned = true }

    abbrev pub shared_hold : Hold
    shared_hold = record {
      holder = h.holder;
      buffer = h.buffer;
      length = h.length;
      exclusive = false;
      pinned = h.pinned;
    }

    abbrev pub pinned_holds : Holder → List Hold
    pinned_holds taker = set (holds ++ copy_for taker ∷ []) k shared_hold

    pub pin_step : (taker : Holder) (paid : List Holder) → SameItems credits (taker ∷ paid)
        → IsPin b p taker old (pins_in z (pinned_holds taker) words paid)
    pin_step taker paid pays = record {
      hold = (view h).hold;
      rest = map view there.rest;
      of_buffer = raw.buffer_is;
      held = held;
      pinned = λ weight.
          omega (
            arith,
            total-map weight view (pinned_holds taker),
            ap (total (λ (g : Hold). weight (view g)))
                (set-append_left holds (copy_for taker ∷ []) k shared_hold there.near),
            total-append (λ (g : Hold). weight (view g)) (set holds k shared_hold) (copy_for taker ∷ []),
            there.changed shared_hold (λ (g : Hold). weight (view g)),
            total-map weight view there.rest,
            ap (λ (q : Holder). weight (own q (shared (view h).hold))) raw.holder_is,
          );
      words = refl;
      credits = pays;
    }

    pub pin_short : (taker : Holder) → Each (λ (g : Hold). g.length ≤ buffer_words z g.buffer) (pinned_holds taker)
    pin_short taker =
        let P : Hold → Type 0 = λ g. g.length ≤ buffer_words z g.buffer in
        subst (Each P) (sym (set-append_left holds (copy_for taker ∷ []) k shared_hold there.near))
        (each-append P (set holds k shared_hold) (copy_for taker ∷ [])
        (there.each_changed P shared_hold short_h kept.short) (short_h, tt))

  module _ {p : Holder} {b : ℕ} {pinned : Bool} {k : ℕ} {h : Hold} (held_at : IsKeyHeld z holds p b pinned k h) where
    open held_at use {there}

    abbrev pub key : Key
    key = record { buffer = b; pinned = pinned }

    raw_of_key : IsRawKey p b pinned h
    raw_of_key = raw_key p b pinned h there.passes

    abbrev pub view_of : Hold → Owned Holder
    view_of = owned_in z words

    pub key_found : find (is_held_key p key) old.holds ≡ Some (view_of h)
    key_found = find-map-some (is_held_key p key) view_of h holds there.found

    pub key_held : Adds (own p (view_of h).hold) (map view_of there.rest) old.holds
    key_held = there_held there raw_of_key.holder_is

    is_meant : IsMeant key (view_of h).hold
    is_meant = record { of_buffer = raw_of_key.buffer_is; as_pinned = raw_of_key.pinned_is }

    pub unpin_step : (paid : List Holder) → SameItems paid (cond pinned (p ∷ credits) credits)
        → IsUnpin key p old (pins_in z (remove holds k) words paid)
    unpin_step paid pays = record {
      hold = (view_of h).hold;
      meant = is_meant;
      unpinned = λ weight. omega (
        arith,
        key_held weight,
        total-map weight view_of (remove holds k),
        there.removed
            (λ (g : Hold). weight (view_of g)),
        total-map weight view_of there.rest,
      );
      words = refl;
      credits = pays;
    }

    pub unpin_short : Each (λ (g : Hold). g.length ≤ buffer_words z g.buffer) (remove holds k)
    unpin_short = there.each_removed (λ (g : Hold). g.length ≤ buffer_words z g.buffer) kept.short

    abbrev pub moved_to : Holder → Hold
    moved_to taker = record {
      holder = taker;
      buffer = h.buffer;
      length = h.length;
      exclusive = h.exclusive;
      pinned = h.pinned;
    }

    pub move_step : (taker : Holder) → IsMove key p taker old (pins_in z (set holds k (moved_to taker)) words credits)
    move_step taker = record {
      hold = (view_of h).hold;
      rest = map view_of there.rest;
      meant = is_meant;
      held = key_held;
      moved = λ weight. omega (
        arith,
        total-map weight view_of (set holds k (moved_to taker)),
        there.changed (moved_to taker)
            (λ (g : Hold). weight (view_of g)),
        total-map weight view_of there.rest,
      );
      words = refl;
      credits = λ weight. refl;
    }

    pub move_short : (taker : Holder) → Each (λ (g : Hold). g.length ≤ buffer_words z g.buffer)
        (set holds k (moved_to taker))
    move_short taker =
        let P : Hold → Type 0 = λ g. g.length ≤ buffer_words z g.buffer in
        there.each_changed P (moved_to taker) (there.each P kept.short).0 kept.short

  pub give_step : (p taker : Holder) (n : ℕ) (more given : List Holder) → n ≤ credits_of p credits
      → SameItems more (replicate n taker ++ credits) → SameItems more (replicate n p ++ given)
      → IsGive p taker n old (pins_in z holds words given)
  give_step p taker n more given enough adds takes = record {
    rest = fewer n p credits;
    had = fewer-same n p credits enough;
    given = λ weight. omega (
      arith,
      adds weight,
      takes weight,
      fewer-same n p credits enough weight,
      total-append weight (replicate n taker) credits,
      total-append weight (replicate n p) given,
      total-append weight (replicate n p) (fewer n p credits),
      total-append weight (replicate n taker) (fewer n p credits),
    );
    holds = λ weight. refl;
    words = refl;
  }
