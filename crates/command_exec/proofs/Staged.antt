-- A layout over the first staging buffers is that over all of them, where they are enough.
use Rattle.std.proofs.Common.{◌≡◌, ℕ, zero, suc, ◌+◌, ◌-◌, ◌*◌, ◌/◌, ◌%◌, ◌<◌, ◌≤◌, min, List, [], ◌∷◌, ◌++◌, length}
use Rattle.std.proofs.Common.{take, get_or, refl, ap, arith, length-append}
use Rattle.flake_base.specs.declared.segment.Seg.{Seg}
use Rattle.flake_model.specs.Command.{Command}
use Rattle.flake_model.specs.Deed.{Deed}
use Rattle.flake_model.specs.Reply.{Reply, ok, pong, error, int, bulk, null, array}
use Rattle.std.specs.Prelude.{nat_le, Option, Bool, true, false}
use Rattle.reply_layout.specs.Pieces.{Piece, plain, stored, reply_pieces, reply_from, pieces_of}
use Rattle.reply_layout.specs.Layout.{Placing, copied, pinned, placing_of, placings_of, copied_of, runs, cut, segment}
use Rattle.reply_layout.specs.Layout.{segments_from, layout_of, copied_address, staging_limit, staging_buffers_for}
use Rattle.reply_layout.specs.Gathered.{copied_from, copied_text}
use Rattle.command_exec.proofs.AlikePieces.{copied-runs}

-- both have the same first m buffers
abbrev AgreeBelow : ℕ → List ℕ → List ℕ → Type 0
AgreeBelow m s t = (i : ℕ) → i < m → get_or s i 0 ≡ get_or t i 0

module _ (m : ℕ) (s t : List ℕ) (agree : AgreeBelow m s t) where
  cut_same : (more k n : ℕ) → k + n ≤ 512 * m → cut s more k n ≡ cut t more k n
  cut_same zero k n near = refl
  cut_same (suc more) k zero near = refl
  cut_same (suc more) k (suc n) near =
      let size = min (suc n) (staging_limit - k % staging_limit) in
      let address : copied_address s k ≡ copied_address t k = ap (λ a. a + k % staging_limit)
      (agree (k / staging_limit) (omega (arith, near))) in
      λ i. segment (address i) size ∷ cut_same more (k + size) (suc n - size) (omega (arith, near)) i

  segments_same : (k : ℕ) (ps : List Placing) → k + copied_of ps ≤ 512 * m → segments_from s k ps ≡ segments_from t k ps
  segments_same k [] near = refl
  segments_same k (copied n ∷ ps) near = λ i. cut_same n k n (omega (arith, near)) i ++ segments_same (k + n) ps
      (omega (arith, near)) i
  segments_same k (pinned seg ∷ ps) near = ap (λ (l : List Seg). seg ∷ l) (segments_same k ps near)

  layout_same : (ps : List Placing) → copied_of ps ≤ 512 * m → layout_of s ps ≡ layout_of t ps
  layout_same ps near = segments_same 0 (runs 0 ps) (omega (arith, near, copied-runs 0 ps))

first_agree : (n : ℕ) (s : List ℕ) → AgreeBelow n (take n s) s
first_agree zero s i near = absurd (omega (arith, near))
first_agree (suc n) [] i near = refl
first_agree (suc n) (b ∷ s) zero near = refl
first_agree (suc n) (b ∷ s) (suc i) near = first_agree n s i (omega (arith, near))

pub layout_first : (n : ℕ) (s : List ℕ) (ps : List Placing) → staging_buffers_for (copied_of ps) ≤ n
    → layout_of (take n s) ps ≡ layout_of s ps
layout_first n s ps enough = layout_same n (take n s) s (first_agree n s) ps (omega (arith, enough))

-- how many bytes a plan copied
one_copied : (t : ℕ) (address : ℕ) (bytes : List ℕ) (b : Bool) → nat_le t (length bytes) ≡ b
    → length (copied_from t (stored address bytes)) ≡ copied_of (placing_of t (stored address bytes) ∷ [])
one_copied t address bytes true is = rw is refl
one_copied t address bytes false is = rw is (omega arith)

copied-cons : (p : Placing) (ps : List Placing) → copied_of (p ∷ ps) ≡ copied_of (p ∷ []) + copied_of ps
copied-cons (copied n) ps = omega arith
copied-cons (pinned seg) ps = omega arith

pub copied_length : (t : ℕ) (pieces : List Piece) → length (copied_text t pieces) ≡ copied_of (placings_of t pieces)
copied_length t [] = refl
copied_length t (plain bytes ∷ pieces) =
    omega (arith, length-append bytes (copied_text t pieces), copied_length t pieces)
copied_length t (stored address bytes ∷ pieces) =
    omega (
      arith,
      length-append (copied_from t (stored address bytes)) (copied_text t pieces),
      copied_length t pieces,
      one_copied t address bytes (nat_le t (length bytes)) refl,
      copied-cons (placing_of t (stored address bytes)) (placings_of t pieces),
    )

-- a reply copies at least one byte
reply_some : (t : ℕ) (reply : Reply) (deeds : List (Option Deed))
    → 0 < copied_of (placings_of t (reply_pieces reply deeds))
reply_some t ok deeds = omega arith
reply_some t pong deeds = omega arith
reply_some t (error kind) deeds = omega arith
reply_some t (int n) deeds = omega arith
reply_some t (bulk bytes) deeds = omega arith
reply_some t null deeds = omega arith
reply_some t (array items) deeds = omega arith

pub pieces_some : (t : ℕ) (command : Command) (deeds : List (Option Deed))
    → 0 < copied_of (placings_of t (pieces_of command deeds))
pieces_some t command deeds = reply_some t (reply_from command deeds) deeds
