-- A layout with one piece more.
use Rattle.std.proofs.Common.{◌≡◌, ℕ, zero, suc, ◌+◌, ◌-◌, ◌%◌, ◌<◌, ◌≤◌, min, List, [], ◌∷◌, ◌++◌, length, get_or}
use Rattle.std.proofs.Common.{refl, sym, ap, ◌∙◌, append_assoc, append-nil, length-append, arith}
use Rattle.std.specs.Prelude.{slice_index}
use Rattle.std.proofs.lemmas.Grind.{flat_map-append}
use Rattle.std.proofs.lemmas.List.{map-append}
use Rattle.std.specs.List.{AllByRecursion}
use Rattle.flake_model.proofs.Streams.{all_append}
use Rattle.pin_core.specs.Holding.{Holding, Key}
use Rattle.pin_core.specs.declared.sizes.Sizes.{Sizes}
use Rattle.pinned_pool.specs.Addresses.{address_of}
use Rattle.flake_base.specs.declared.segment.Seg.{Seg}
use Rattle.reply_layout.specs.Pieces.{Piece}
use Rattle.reply_layout.specs.Layout.{segment, Placing, copied, pinned, placing_of, placings_of, runs, cut}
use Rattle.reply_layout.specs.Layout.{copied_address, segments_from, layout_of}
use Rattle.reply_layout.specs.Gathered.{copied_from, copied_text}
use Rattle.reply_planner.specs.Owned.{key_buffers}
use Rattle.reply_planner.specs.Places.{buffer_addresses}
use Rattle.reply_planner.specs.Plans.{StaysReadable, Lies}

-- so many cuts are enough
pub cut-fuel : (stage : List ℕ) (f g k n : ℕ) → n ≤ f → n ≤ g → cut stage f k n ≡ cut stage g k n
cut-fuel stage zero zero k n few less = refl
cut-fuel stage zero (suc g) k zero few less = refl
cut-fuel stage zero (suc g) k (suc n) few less = absurd (omega arith)
cut-fuel stage (suc f) zero k zero few less = refl
cut-fuel stage (suc f) zero k (suc n) few less = absurd (omega arith)
cut-fuel stage (suc f) (suc g) k zero few less = refl
cut-fuel stage (suc f) (suc g) k (suc n) few less =
    let size : ℕ = min (suc n) (512 - k % 512) in
    ap (λ l. segment (copied_address stage k) size ∷ l)
    (cut-fuel stage f g (k + size) (suc n - size) (omega arith) (omega arith))

-- the first segment of a run
pub cut-first : (stage : List ℕ) (k n size : ℕ) → 0 < n → size ≡ min n (512 - k % 512)
    → cut stage n k n ≡ segment (copied_address stage k) size ∷ cut stage (n - size) (k + size) (n - size)
cut-first stage k zero size some is = absurd (omega arith)
cut-first stage k (suc n) size some is =
    ap (λ l. segment (copied_address stage k) (min (suc n) (512 - k % 512)) ∷ l)
    (cut-fuel stage n (suc n - min (suc n) (512 - k % 512)) (k + min (suc n) (512 - k % 512))
    (suc n - min (suc n) (512 - k % 512)) (omega arith) (omega arith))
    ∙ ap (λ m. segment (copied_address stage k) m ∷ cut stage (suc n - m) (k + m) (suc n - m)) (sym is)

-- the address of a staging buffer
pub index-address : (z : Sizes) (ks : List Key) (i : ℕ) (k : Key) → i < length ks → k ≡ get_or ks i k
    → slice_index (buffer_addresses z (key_buffers ks)) i ≡ address_of z k.buffer
index-address z [] i k near is = absurd (omega arith)
index-address z (j ∷ ks) zero k near is = ap (λ (x : Key). address_of z x.buffer) (sym is)
index-address z (j ∷ ks) (suc i) k near is = index-address z ks i k (omega arith) is

module _ (z : Sizes) (t : ℕ) (stage : List ℕ) (ps : List Piece) (text : List ℕ) (segs : List Seg) (run : ℕ)
    (hs : List Holding) (lies : Lies z t stage ps text segs run hs) where
  more_placings : (x : Piece) (y : Placing) (rest : List Placing) → placing_of t x ≡ y
      → placings_of t (ps ++ x ∷ []) ++ rest ≡ placings_of t ps ++ y ∷ rest
  more_placings x y rest is =
      ap (λ l. l ++ rest) (map-append (placing_of t) ps (x ∷ [])) ∙ append_assoc (placings_of t ps)
      (placing_of t x ∷ []) rest
      ∙ ap (λ w. placings_of t ps ++ w ∷ rest) is

  more_text : (x : Piece) (bytes : List ℕ) → copied_from t x ≡ bytes → text ++ bytes ≡ copied_text t (ps ++ x ∷ [])
  more_text x bytes is =
      ap (λ l. l ++ bytes) lies.text_is
      ∙ ap (λ l. copied_text t ps ++ l) (sym is ∙ sym (append-nil (copied_from t x)))
      ∙ sym (flat_map-append (copied_from t) ps (x ∷ []))

  -- a piece that is copied
  pub lies_copied : (x : Piece) (bytes more : List ℕ) → placing_of t x ≡ copied (length bytes) → copied_from t x ≡ bytes
      → StaysReadable z t hs x → more ≡ text ++ bytes → Lies z t stage (ps ++ x ∷ []) more segs run hs
  lies_copied x bytes more place from kept is =
      let long : length more ≡ length text + length bytes = ap (λ (l : List ℕ). length l) is
      ∙ length-append text bytes in
      let since : length text - run + length bytes ≡ length more - run = omega (arith, long, lies.run_is) in
      record {
        text_is = is ∙ more_text x bytes from;
        run_is = omega (arith, long, lies.run_is);
        laid = λ rest. ap (layout_of (buffer_addresses z stage)) (more_placings x (copied (length bytes)) rest place)
            ∙ lies.laid (copied (length bytes) ∷ rest)
            ∙ ap (λ n. segs ++ segments_from (buffer_addresses z stage) run (runs n rest)) since;
        kept = all_append (StaysReadable z t hs) ps (x ∷ []) lies.kept (kept, tt);
      }

  -- a piece that stays
  pub lies_pinned : (x : Piece) (seg : Seg) (all : List Seg) (hs' : List Holding) → placing_of t x ≡ pinned seg
      → copied_from t x ≡ []
      → AllByRecursion (StaysReadable z t hs') ps → StaysReadable z t hs' x
      → all ≡ segs ++ cut (buffer_addresses z stage) (length text - run) run (length text - run) ++ seg ∷ []
      → Lies z t stage (ps ++ x ∷ []) text all (length text) hs'
  lies_pinned x seg all hs' place from still kept is =
      let n : ℕ = length text - run in
      let end : run + (length text - run) ≡ length text = omega (arith, lies.run_is) in
      let none : 0 ≡ length text - length text = omega arith in
      record {
        text_is = sym (append-nil text) ∙ more_text x [] from;
        run_is = omega arith;
        laid = λ rest. ap (layout_of (buffer_addresses z stage)) (more_placings x (pinned seg) rest place)
            ∙ lies.laid (pinned seg ∷ rest)
            ∙ (λ i. segs ++ (cut (buffer_addresses z stage) (length text - run) run (length text - run) ++ seg
            ∷ segments_from (buffer_addresses z stage) (end i) (runs (none i) rest)))
            ∙ sym (append_assoc segs (cut (buffer_addresses z stage) (length text - run) run (length text - run))
            (seg ∷ segments_from (buffer_addresses z stage) (length text) (runs (length text - length text) rest)))
            ∙ sym (append_assoc (segs ++ cut (buffer_addresses z stage) (length text - run) run (length text - run))
            (seg ∷ []) (segments_from (buffer_addresses z stage) (length text) (runs (length text - length text) rest)))
            ∙ ap (λ l. l ++ segments_from (buffer_addresses z stage) (length text)
            (runs (length text - length text) rest)) (sym is);
        kept = all_append (StaysReadable z t hs') ps (x ∷ []) still (kept, tt);
      }

  -- the whole layout, once the last run has its segments
  pub lies_all : (all : List Seg) → all ≡ segs ++ cut (buffer_addresses z stage) (length text - run) run
      (length text - run)
      → layout_of (buffer_addresses z stage) (placings_of t ps) ≡ all
  lies_all all is =
      ap (layout_of (buffer_addresses z stage)) (sym (append-nil (placings_of t ps))) ∙ lies.laid []
      ∙ ap (λ l. segs ++ l) (append-nil (cut (buffer_addresses z stage) (length text - run) run (length text - run)))
      ∙ sym is
