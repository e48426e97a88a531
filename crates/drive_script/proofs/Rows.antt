-- What sessions leave, one by one and together.
use Rattle.std.proofs.Common.{◌≡◌, ℕ, ◌<◌, zero, suc, Bool, List, [], ◌∷◌, ◌++◌, All, length, map, slice_get, Some}
use Rattle.std.proofs.Common.{refl, ap, sym, ◌∙◌, subst, append_assoc, append-nil, arith}
use Rattle.std.specs.Borrow.{Bor}
use Rattle.std.specs.List.{AllZip}
use Rattle.std.proofs.lemmas.List.{nil_from_length, length-map}
use Rattle.std.proofs.lemmas.List.Elements.{All-nil, All-cons, All-head, All-tail}
use Rattle.std.proofs.lemmas.Slice.Zip.{all_zipped_more}
use Rattle.flake_base.specs.Told.{HostTold}
use Rattle.pin_core.specs.declared.sizes.Sizes.{Sizes}
use Rattle.schedule_text.specs.declared.line.Line.{Line}
use Rattle.transcript_model.specs.Lines.{LineEvent}
use Rattle.any_wire.specs.Texts.{Sending}
use Rattle.transcript_model.specs.Sessions.{events_of}
use Rattle.drive_script.specs.Driven.{Leaving, DroveAll}
use Rattle.drive_script.specs.Driving.{Driving, IsUnderWay, WereDriven}
use Rattle.drive_script.specs.Connections.{sends_by}
use Rattle.drive_script.specs.Left.{IsGoing, HasLeft}
use Rattle.drive_script.specs.Ran.{HasDriven}
use Rattle.drive_script.proofs.Lists.{get_below}
use Rattle.drive_script.proofs.Steps.{get_mapped, some_at}

module _ {X : Type 0} where
  all_first : (xs rest : List X) (x : X) (P : X → Type 0) → xs ≡ x ∷ rest → All P xs → P x
  all_first xs rest x P is all = All-head P x rest (subst (All P) is all)

  all_rest : (xs rest : List X) (x : X) (P : X → Type 0) → xs ≡ x ∷ rest → All P xs → All P rest
  all_rest xs rest x P is all = All-tail P x rest (subst (All P) is all)

  all_as : (xs ys : List X) (P : X → Type 0) → xs ≡ ys → All P ys → All P xs
  all_as xs ys P is all = subst (All P) (sym is) all

  -- behind the last item
  pub all_given : (given rest xs : List X) (n : ℕ) → given ++ rest ≡ xs → n ≡ length rest → n ≡ 0 → given ≡ xs
  all_given given rest xs n is long none =
      sym (append-nil given) ∙ ap (λ (l : List X). given ++ l) (sym (nil_from_length rest (omega arith))) ∙ is

  -- one item further
  pub given_on : (given before after xs : List X) (x : X) → given ++ before ≡ xs → before ≡ x ∷ after
      → (given ++ x ∷ []) ++ after ≡ xs
  given_on given before after xs x is split = append_assoc given (x ∷ []) after ∙ ap (λ (l : List X). given ++ l)
      (sym split) ∙ is

  module _ {Y : Type 0} where
    pub zip_more : (xs : List X) (ys more : List Y) (x : X) (y : Y) (R : X → Y → Type 0) → more ≡ ys ++ y ∷ []
        → AllZip R xs ys → R x y → AllZip R (xs ++ x ∷ []) more
    zip_more xs ys more x y R is all own = subst (AllZip R (xs ++ x ∷ [])) (sym is)
        (all_zipped_more R xs ys x y all own)

    pub zip_as : (xs whole : List X) (ys : List Y) (R : X → Y → Type 0) → xs ≡ whole → AllZip R xs ys
        → AllZip R whole ys
    zip_as xs whole ys R is all = subst (λ (l : List X). AllZip R l ys) is all

    zip_length : (xs : List X) (ys : List Y) (R : X → Y → Type 0) → AllZip R xs ys → length ys ≡ length xs
    zip_length [] [] R zip = refl
    zip_length [] (y ∷ ys) R zip = absurd zip
    zip_length (x ∷ xs) [] R zip = absurd zip
    zip_length (x ∷ xs) (y ∷ ys) R zip = ap suc (zip_length xs ys R zip.1)

    -- at each place
    zip_at : {L : Type 0} (xs : List X) (ys : List Y) (R : X → Y → Type 0) (f : Y → L) (k : ℕ) (last : L)
        → AllZip R xs ys → slice_get (map f ys) k ≡ Some last
        → (x : X) × (y : Y) × (slice_get xs k ≡ Some x) × (f y ≡ last) × R x y
    zip_at [] [] R f k last zip is = absurd (cc)
    zip_at [] (y ∷ ys) R f k last zip is = absurd zip
    zip_at (x ∷ xs) [] R f k last zip is = absurd zip
    zip_at (x ∷ xs) (y ∷ ys) R f zero last zip is = (x, y, refl, cc, zip.0)
    zip_at (x ∷ xs) (y ∷ ys) R f (suc k) last zip is = zip_at xs ys R f k last zip.1 is

all_from : {A B : Type 0} (view : A → B) (xs : List A) (P : B → Type 0)
    → ((k : ℕ) (y : B) → slice_get (map view xs) k ≡ Some y → P y) → All (λ x. P (view x)) xs
all_from view [] P each = All-nil (λ x. P (view x))
all_from view (x ∷ xs) P each = All-cons (λ x. P (view x)) x xs (each 0 (view x) refl)
    (all_from view xs P (λ k y is. each (suc k) y is))

module _ {W : Type 0} (sends : Sending W) (z : Sizes) (shards : ℕ) where
  module _ {A : Type 0} where
    pub first_goes : (xs rest : List A) (x : A) (view : A → Driving W) → xs ≡ x ∷ rest
        → All (λ d. IsGoing sends z shards (view d)) xs → IsGoing sends z shards (view x)
    first_goes xs rest x view = all_first xs rest x (λ d. IsGoing sends z shards (view d))

    pub rest_goes : (xs rest : List A) (x : A) (view : A → Driving W) → xs ≡ x ∷ rest
        → All (λ d. IsGoing sends z shards (view d)) xs → All (λ d. IsGoing sends z shards (view d)) rest
    rest_goes xs rest x view = all_rest xs rest x (λ d. IsGoing sends z shards (view d))

    pub same_go : (xs ys : List A) (view : A → Driving W) → xs ≡ ys → All (λ d. IsGoing sends z shards (view d)) ys
        → All (λ d. IsGoing sends z shards (view d)) xs
    same_go xs ys view = all_as xs ys (λ d. IsGoing sends z shards (view d))

  -- behind the last line each session goes on
  pub going_all : {A : Type 0} (view : A → Driving W) (firsts : List (Driving W)) (schedule : List Line) (nows : List A)
      (failed : Bool) (old new : HostTold) → WereDriven sends z shards firsts schedule (map view nows) failed old new
      → All (λ d. IsGoing sends z shards (view d)) nows
  going_all view firsts schedule nows failed old new driven = all_from view nows (IsGoing sends z shards) (λ k now at.
      let below : k < length firsts = omega (arith, get_below (map view nows) k now at, driven.as_many) in
      let first = some_at firsts k below in
      record { first = first.0; events = events_of k driven.lines; is = driven.are k first.0 now first.1 at })

module _ {W : Type 0} (put_may : W → Bor (List ℕ) → (W × Bool) → Type 0) (flush_may : W → (W × Bool) → Type 0)
    (z : Sizes) (shards : ℕ) where
  -- what a session leaves is right by all that was said of it
  abbrev IsLeftSo : Driving W → List LineEvent → Leaving W → Type 0
  IsLeftSo first events last = HasLeft (sends_by put_may flush_may) z first events last.end last.mine last.pump
      last.wire
      × HasDriven put_may flush_may z shards first events last.end last.mine last.seat last.pump last.wire

  module _ {A B : Type 0} (view : A → Driving W) (leave : B → Leaving W) (firsts : List (Driving W))
      (schedule : List Line) (nows : List A) (accounts : List B) (failed : Bool) (old new : HostTold)
      (driven : WereDriven (sends_by put_may flush_may) z shards firsts schedule (map view nows) failed old new)
      (zip : AllZip (λ d a. (first : Driving W) (events : List LineEvent)
      → IsUnderWay (sends_by put_may flush_may) z shards first events (view d) → IsLeftSo first events (leave a))
      nows accounts) where
    left_so : (session : ℕ) (first : Driving W) (last : Leaving W) → slice_get firsts session ≡ Some first
        → slice_get (map leave accounts) session ≡ Some last → IsLeftSo first (events_of session driven.lines) last
    left_so session first last began at =
        let row = zip_at nows accounts (λ d a. (first : Driving W) (events : List LineEvent)
        → IsUnderWay (sends_by put_may flush_may) z shards first events (view d) → IsLeftSo first events (leave a))
        leave session last zip at in
        subst (λ (l : Leaving W). IsLeftSo first (events_of session driven.lines) l) row.3
        (row.4 first (events_of session driven.lines)
        (driven.are session first (view row.0) began (get_mapped view nows session row.0 row.2)))

    -- what was driven and then left
    pub drove_all : DroveAll put_may flush_may z shards firsts schedule (map leave accounts) failed old new
    drove_all = record {
      lines = driven.lines;
      answers = driven.answers;
      said = driven.said;
      as_many = length-map accounts leave ∙ zip_length nows accounts _ zip ∙ sym (length-map nows view)
          ∙ driven.as_many;
      left = λ session first last began at. (left_so session first last began at).1;
      ends = λ session first last began at. (left_so session first last began at).0;
    }
