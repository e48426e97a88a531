-- The text of what was given, once more is given.
use Rattle.std.proofs.Common.{◌≡◌, ◌+◌, ◌<◌, List, [], ◌∷◌, ◌++◌, length, take, drop, sym, ap, ◌∙◌, ℕ, length-append}
use Rattle.std.proofs.Common.{subst, arith}
use Rattle.std.proofs.lemmas.Grind.{flat_map-append}
use Rattle.std.proofs.lemmas.List.{take-append-drop}
use Rattle.pin_core.specs.Holding.{Holding}
use Rattle.frag_value.specs.Taken.{Begun, TakenPiece, whole}
use Rattle.reply_layout.specs.Pieces.{piece_bytes}
use Rattle.reply_layout.specs.Gathered.{text_of_pieces}
use Rattle.reply_planner.specs.Laid.{pieces_in}
use Rattle.reply_planner.specs.Owned.{AreOwn}
use Rattle.reply_planner.proofs.Owned.{own_swap}
use Rattle.reply_planner.proofs.Pieced.{pieces-append}

pub text-more : (ts us : List TakenPiece) → length (text_of_pieces (pieces_in (ts ++ us)))
    ≡ length (text_of_pieces (pieces_in ts)) + length (text_of_pieces (pieces_in us))
text-more ts us =
    ap (λ ps. length (text_of_pieces ps)) (pieces-append ts us) ∙ ap (λ (l : List ℕ). length l)
    (flat_map-append piece_bytes (pieces_in ts) (pieces_in us))
    ∙ length-append (text_of_pieces (pieces_in ts)) (text_of_pieces (pieces_in us))

pub text_whole : (ts us : List TakenPiece) (b : Begun) → us ≡ ts ++ whole b ∷ []
    → 0 < length (text_of_pieces (pieces_in us))
text_whole ts us b is =
    let some : 0 < length (text_of_pieces (pieces_in (whole b ∷ []))) = omega arith in
    omega (arith, ap (λ l. length (text_of_pieces (pieces_in l))) is, text-more ts (whole b ∷ []), some)

-- what is lent of a stage and what it keeps are its own
pub lent_own : (hs : List Holding) (stage : List ℕ) (n : ℕ) → AreOwn hs stage → AreOwn hs (drop n stage ++ take n stage)
lent_own hs stage n own = own_swap hs (take n stage) (drop n stage)
    (subst (AreOwn hs) (sym (take-append-drop n stage)) own)
