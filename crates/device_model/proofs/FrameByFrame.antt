-- Frames that are put one after another, each by puts of its own.
use Rattle.std.proofs.Common.{◌≡◌, ℕ, ◌+◌, ◌<◌, List, [], ◌∷◌, ◌++◌, Bool, true, length, take, drop}
use Rattle.std.proofs.Common.{refl, ap, subst, arith}
use Rattle.std.specs.Borrow.{Bor}
use Rattle.std.proofs.lemmas.List.{length-drop}
use Rattle.mtu_frames.specs.Frames.{MtuFrame, cuts_from, frames_from}
use Rattle.any_wire.specs.Sends.{PutsText}
use Rattle.device_model.specs.Pieces.{PutsEach}
use Rattle.any_wire.proofs.Behind.{sends-over}
use Rattle.device_model.proofs.Framed.{cuts-same}

-- the frames of what is left of a text, from a number on
abbrev pub frames_to_put : ℕ → ℕ → ℕ → ℕ → List ℕ → List MtuFrame
frames_to_put call count index size bytes = frames_from call count index (cuts_from size (length bytes) bytes)

pub next-to-put : (call count index size : ℕ) (bytes : List ℕ) → 0 < size → 0 < length bytes
    → frames_to_put call count index size bytes
    ≡ record { call = call; index = index; count = count; bytes = take size bytes }
    ∷ frames_to_put call count (index + 1) size (drop size bytes)
next-to-put call count index size [] some filled = absurd (omega (arith, filled))
next-to-put call count index size (byte ∷ bytes) some filled =
    let first : MtuFrame = record { call = call; index = index; count = count; bytes = take size (byte ∷ bytes) } in
    ap (λ cuts. first ∷ frames_from call count (index + 1) cuts)
    (cuts-same size (length bytes) (length (drop size (byte ∷ bytes))) (drop size (byte ∷ bytes)) some
    (omega (arith, length-drop size (byte ∷ bytes), some)) (omega arith))

pub none-to-put : (call count index size : ℕ) (bytes : List ℕ) → length bytes ≡ 0
    → frames_to_put call count index size bytes ≡ []
none-to-put call count index size [] none = refl
none-to-put call count index size (byte ∷ bytes) none = absurd (omega (arith, none))

module _ {W : Type 0} (put_may : W → Bor (List ℕ) → (W × Bool) → Type 0) where
  -- some texts and then others
  pub puts-each-on : (first more : List (List ℕ)) (failed between now : Bool) (w v end : W)
      → PutsEach put_may first failed between w v → PutsEach put_may more between now v end
      → PutsEach put_may (first ++ more) failed now w end
  puts-each-on [] more failed between now w v end a b =
      subst (λ f. PutsEach put_may more f now w end) a.1 (subst (λ u. PutsEach put_may more between now u end) a.0 b)
  puts-each-on (text ∷ first) more failed between now w v end a b =
      (a.0, a.1, a.2, puts-each-on first more a.1 between now a.0 v end a.3 b)

  -- one text
  pub puts-each-one : (text : List ℕ) (failed now : Bool) (w end : W) → PutsText put_may failed now text w end
      → PutsEach put_may (text ∷ []) failed now w end
  puts-each-one text failed now w end sends = (end, now, sends, (refl, refl))

  -- nothing more is put behind a failure
  pub puts-each-over : (texts : List (List ℕ)) (wire : W) → PutsEach put_may texts true true wire wire
  puts-each-over [] wire = (refl, refl)
  puts-each-over (text ∷ texts) wire =
      (wire, true, sends-over put_may (λ w r. ⊥) text wire, puts-each-over texts wire)
