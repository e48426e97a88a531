-- A plan's layout, once it is whole.
use Rattle.std.proofs.Common.{◌≡◌, ℕ, zero, suc, ◌+◌, ◌-◌, ◌%◌, ◌<◌, ◌≤◌, min, inl, inr, List, [], ◌∷◌, ◌++◌, Bool}
use Rattle.std.proofs.Common.{true, false, cond, length, map, refl, sym, ap, ◌∙◌, subst, length-append, arith}
use Rattle.std.specs.Prelude.{nat_le}
use Rattle.std.specs.List.{AllByRecursion}
use Rattle.std.proofs.lemmas.Bool.{leb-true}
use Rattle.view_sums.specs.Total.{Each}
use Rattle.view_sums.proofs.Eachs.{each-append}
use Rattle.pin_core.specs.Holding.{Holding}
use Rattle.pin_core.specs.declared.sizes.Sizes.{Sizes}
use Rattle.flake_base.specs.declared.segment.Seg.{Seg}
use Rattle.frag_value.specs.Taken.{copied, whole}
use Rattle.frag_value.specs.Taken as taken
use Rattle.reply_layout.specs.Pieces.{Piece, plain, stored, piece_bytes}
use Rattle.reply_layout.specs.Layout as layout
use Rattle.reply_layout.specs.Layout.{Placing, pinned, segment, placing_of, placings_of, copied_of, runs, cut}
use Rattle.reply_layout.specs.Layout.{copied_address, segments_from, layout_of}
use Rattle.reply_layout.specs.Gathered.{Reading, copied_from, copied_text, text_of_pieces, read_all, IsStaged, IsThere}
use Rattle.reply_layout.proofs.Texts.{segments_text}
use Rattle.reply_planner.specs.Places.{buffer_addresses, reading, IsHeld}
use Rattle.reply_planner.specs.Parcels.{IsLaid}
use Rattle.reply_planner.specs.Laid.{pieces_in}
use Rattle.reply_planner.specs.Plans.{StaysReadable}
use Rattle.reply_planner.proofs.LaidOut.{cut-first}

-- a text has copied bytes, where it has any
pub copied_some : (t : ℕ) (ts : List taken.TakenPiece) → 0 < length (text_of_pieces (pieces_in ts))
    → 0 < length (copied_text t (pieces_in ts))
copied_some t [] some = some
copied_some t (copied [] ∷ ts) some = copied_some t ts some
copied_some t (copied (b ∷ bytes) ∷ ts) some = omega arith
copied_some t (whole b ∷ ts) some = omega arith

-- how many bytes are copied
pub copied-length : (t : ℕ) (ps : List Piece) → copied_of (placings_of t ps) ≡ length (copied_text t ps)
copied-length t [] = refl
copied-length t (plain bytes ∷ ps) = omega (arith, copied-length t ps, length-append bytes (copied_text t ps))
copied-length t (stored a bytes ∷ ps) = by_test (nat_le t (length bytes)) (copied-length t ps) where
  by_test : (b : Bool) → copied_of (placings_of t ps) ≡ length (copied_text t ps)
      → copied_of ((cond b (pinned (segment a (length bytes))) (layout.copied (length bytes))) ∷ placings_of t ps)
      ≡ length (cond b [] bytes ++ copied_text t ps)
  by_test true rest = rest
  by_test false rest = omega (arith, rest, length-append bytes (copied_text t ps))

-- a layout of copied bytes isn't empty
pub some_segment : (stage : List ℕ) (k r : ℕ) (ps : List Placing) → 0 < r + copied_of ps
    → 0 < length (segments_from stage k (runs r ps))
some_segment stage k r [] some =
    let first = cut-first stage k r (min r (512 - k % 512)) (omega (arith, some)) refl in
    omega (arith, ap (λ (l : List Seg). length (l ++ [])) first)
some_segment stage k r (layout.copied n ∷ ps) some = some_segment stage k (r + n) ps (omega (arith, some))
some_segment stage k r (pinned seg ∷ ps) some =
    omega (arith, length-append (cut stage r k r) (seg ∷ segments_from stage (k + r) (runs 0 ps)))

-- each segment lies in a buffer that is held, or in a staging buffer
module _ (z : Sizes) (t : ℕ) (some : 0 < t) (hs : List Holding) (stage : List ℕ) (n : ℕ) where
  cut_laid : (f k m : ℕ) → m ≤ f → k + m ≤ n → Each (IsLaid z hs stage n) (cut (buffer_addresses z stage) f k m)
  cut_laid zero k m few within = tt
  cut_laid (suc f) k zero few within = tt
  cut_laid (suc f) k (suc m) few within =
      let size : ℕ = min (suc m) (512 - k % 512) in (
        inr (record {
          place = k;
          address_is = refl;
          some = omega arith;
          in_buffer = omega arith;
          in_text = omega (arith, within);
        }),
        cut_laid f (k + size) (suc m - size) (omega arith) (omega (arith, within)),
      )

  pub all_laid : (ps : List Piece) (k r : ℕ) → k + (r + copied_of (placings_of t ps)) ≤ n
      → AllByRecursion (StaysReadable z t hs) ps
      → Each (IsLaid z hs stage n) (segments_from (buffer_addresses z stage) k (runs r (placings_of t ps)))
  all_laid [] k r within kept =
      each-append (IsLaid z hs stage n) (cut (buffer_addresses z stage) r k r) []
      (cut_laid r k r (omega arith) (omega (arith, within))) tt
  all_laid (plain bytes ∷ ps) k r within kept = all_laid ps k (r + length bytes) (omega (arith, within)) kept.1
  all_laid (stored a bytes ∷ ps) k r within kept =
      by_test (nat_le t (length bytes)) refl within (λ fits. all_laid ps (k + r) 0 fits kept.1)
      (λ fits. all_laid ps k (r + length bytes) fits kept.1)
    where
      by_test : (b : Bool) → nat_le t (length bytes) ≡ b
          → k + (r + copied_of ((cond b (pinned (segment a (length bytes))) (layout.copied (length bytes)))
          ∷ placings_of t ps)) ≤ n
          → (k + r + (0 + copied_of (placings_of t ps)) ≤ n
          → Each (IsLaid z hs stage n) (segments_from (buffer_addresses z stage) (k + r) (runs 0 (placings_of t ps))))
          → (k + (r + length bytes + copied_of (placings_of t ps)) ≤ n
          → Each (IsLaid z hs stage n)
          (segments_from (buffer_addresses z stage) k (runs (r + length bytes) (placings_of t ps))))
          → Each (IsLaid z hs stage n)
          (segments_from (buffer_addresses z stage) k
          (runs r ((cond b (pinned (segment a (length bytes))) (layout.copied (length bytes))) ∷ placings_of t ps)))
      by_test true test fits stays copies =
          each-append (IsLaid z hs stage n) (cut (buffer_addresses z stage) r k r)
          (segment a (length bytes) ∷ segments_from (buffer_addresses z stage) (k + r) (runs 0 (placings_of t ps)))
          (cut_laid r k r (omega arith) (omega (arith, fits))) (
            inl (record { some = omega (arith, some, leb-true t (length bytes) test); held = (kept.0 test).held }),
            stays
                (omega (arith, fits)),
          )
      by_test false test fits stays copies = copies (omega (arith, fits))

-- short runs, as if they were plain bytes
abbrev plain_if : Bool → ℕ → List ℕ → Piece
plain_if true a bytes = stored a bytes
plain_if false a bytes = plain bytes

abbrev plainly : ℕ → Piece → Piece
plainly t (plain bytes) = plain bytes
plainly t (stored a bytes) = plain_if (nat_le t (length bytes)) a bytes

module _ (z : Sizes) (t : ℕ) (hs : List Holding) (read : Reading)
    (same : (address n : ℕ) → IsHeld z hs address n → read address n ≡ reading z hs address n) where
  record AsPlain (p : Piece) : Type 0 where
    place : placing_of t (plainly t p) ≡ placing_of t p
    copies : copied_from t (plainly t p) ≡ copied_from t p
    bytes_are : piece_bytes (plainly t p) ≡ piece_bytes p
    there : IsThere read (plainly t p)

  as_plain : (p : Piece) → StaysReadable z t hs p → AsPlain p
  as_plain (plain bytes) kept = record { place = refl; copies = refl; bytes_are = refl; there = tt }
  as_plain (stored a bytes) kept = by_test (nat_le t (length bytes)) refl where
    by_test : (b : Bool) → nat_le t (length bytes) ≡ b → AsPlain (stored a bytes)
    by_test true is = record {
      place = ap (λ b. placing_of t (plain_if b a bytes)) is;
      copies = ap (λ b. copied_from t (plain_if b a bytes)) is;
      bytes_are = ap (λ b. piece_bytes (plain_if b a bytes)) is;
      there = subst (λ b. IsThere read (plain_if b a bytes)) (sym is)
          (same a (length bytes) (kept is).held ∙ (kept is).bytes_are);
    }
    by_test false is = record {
      place = ap (λ b. placing_of t (plain_if b a bytes)) is
          ∙ ap (λ b. cond b (pinned (segment a (length bytes))) (layout.copied (length bytes))) (sym is);
      copies = ap (λ b. copied_from t (plain_if b a bytes)) is ∙ ap (λ b. cond b [] bytes) (sym is);
      bytes_are = ap (λ b. piece_bytes (plain_if b a bytes)) is;
      there = subst (λ b. IsThere read (plain_if b a bytes)) (sym is) tt;
    }

  record AllPlain (ps : List Piece) : Type 0 where
    places : placings_of t (map (plainly t) ps) ≡ placings_of t ps
    copies : copied_text t (map (plainly t) ps) ≡ copied_text t ps
    bytes_are : text_of_pieces (map (plainly t) ps) ≡ text_of_pieces ps
    there : AllByRecursion (IsThere read) (map (plainly t) ps)

  all_plain : (ps : List Piece) → AllByRecursion (StaysReadable z t hs) ps → AllPlain ps
  all_plain [] kept = record { places = refl; copies = refl; bytes_are = refl; there = tt }
  all_plain (p ∷ ps) kept =
      let here = as_plain p kept.0 in
      let rest = all_plain ps kept.1 in
      record {
        places = λ i. here.place i ∷ rest.places i;
        copies = λ i. here.copies i ++ rest.copies i;
        bytes_are = λ i. here.bytes_are i ++ rest.bytes_are i;
        there = (here.there, rest.there);
      }

  -- what is read at the layout's segments is the text
  pub layout_reads : (stage : List ℕ) (ps : List Piece) → AllByRecursion (StaysReadable z t hs) ps
      → IsStaged read stage (copied_text t ps)
      → read_all read (layout_of stage (placings_of t ps)) ≡ text_of_pieces ps
  layout_reads stage ps kept staged =
      let all = all_plain ps kept in
      ap (λ l. read_all read (layout_of stage l)) (sym all.places)
      ∙ segments_text read stage t (map (plainly t) ps) (subst (IsStaged read stage) (sym all.copies) staged) all.there
      ∙ all.bytes_are
