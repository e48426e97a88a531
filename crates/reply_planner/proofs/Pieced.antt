-- A text with one piece more.
use Rattle.std.proofs.Common.{◌≡◌, ℕ, List, [], ◌∷◌, ◌++◌, None, Some, refl, sym, ap, ◌∙◌, append_assoc, append-nil}
use Rattle.std.proofs.lemmas.List.{map-append}
use Rattle.flake_model.specs.Resp.{crlf}
use Rattle.frag_value.specs.Taken.{PlacedRun, Extent, Begun, begun_with, more, copied, whole}
use Rattle.frag_value.specs.Taken as taken
use Rattle.reply_layout.specs.Pieces.{Piece, plain}
use Rattle.reply_planner.specs.Laid.{head_text, stored_run, begun_pieces, pieces_in, pieces_so_far}

pub pieces-append : (ps qs : List taken.TakenPiece) → pieces_in (ps ++ qs) ≡ pieces_in ps ++ pieces_in qs
pieces-append [] qs = refl
pieces-append (copied bytes ∷ ps) qs = ap (λ l. plain bytes ∷ l) (pieces-append ps qs)
pieces-append (whole b ∷ ps) qs =
    ap (λ l. begun_pieces b ++ plain crlf ∷ l) (pieces-append ps qs)
    ∙ sym (append_assoc (begun_pieces b) (plain crlf ∷ pieces_in ps) (pieces_in qs))

-- what is behind the last piece, where nothing is begun
closing : (ps : List taken.TakenPiece) (xs ys : List Piece) → xs ≡ pieces_in ps ++ ys → xs ++ [] ≡ (pieces_in ps ++ [])
    ++ ys
closing ps xs ys is = append-nil xs ∙ is ∙ ap (λ l. l ++ ys) (sym (append-nil (pieces_in ps)))

pub piece_copied : (ps : List taken.TakenPiece) (bytes : List ℕ)
    → pieces_so_far (ps ++ copied bytes ∷ []) None ≡ pieces_so_far ps None ++ plain bytes ∷ []
piece_copied ps bytes = closing ps (pieces_in (ps ++ copied bytes ∷ [])) (plain bytes ∷ [])
    (pieces-append ps (copied bytes ∷ []))

pub piece_begun : (ps : List taken.TakenPiece) (e : Extent) (n : ℕ)
    → pieces_so_far ps (Some (begun_with e n)) ≡ pieces_so_far ps None ++ plain (head_text n) ∷ []
piece_begun ps e n = ap (λ l. l ++ plain (head_text n) ∷ []) (sym (append-nil (pieces_in ps)))

pub piece_run : (ps : List taken.TakenPiece) (b : Begun) (f : PlacedRun)
    → pieces_so_far ps (Some (more f b)) ≡ pieces_so_far ps (Some b) ++ stored_run f ∷ []
piece_run ps b f =
    ap (λ l. pieces_in ps ++ plain (head_text b.size) ∷ l) (map-append stored_run b.frags (f ∷ []))
    ∙ sym (append_assoc (pieces_in ps) (begun_pieces b) (stored_run f ∷ []))

pub piece_finished : (ps : List taken.TakenPiece) (b : Begun)
    → pieces_so_far (ps ++ whole b ∷ []) None ≡ pieces_so_far ps (Some b) ++ plain crlf ∷ []
piece_finished ps b =
    append-nil (pieces_in (ps ++ whole b ∷ [])) ∙ pieces-append ps (whole b ∷ [])
    ∙ sym (append_assoc (pieces_in ps) (begun_pieces b) (plain crlf ∷ []))
