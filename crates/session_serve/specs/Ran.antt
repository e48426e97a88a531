-- What is shown of wires and reads behind a run.
use Rattle.std.specs.Prelude.{◌≡◌, ℕ, Bool, false, List, [], ◌∷◌, Option, ⊤}
use Rattle.std.specs.Borrow.{Bor}
use Rattle.flake_base.specs.declared.session.SessionEnd.{SessionEnd}
use Rattle.command_pump.specs.Pump.{EndFaults}
use Rattle.session_serve.specs.Forms.{all_as_sent}
use Rattle.session_serve.specs.Whole.{SentWhole}
use Rattle.session_serve.specs.Wires.{SendsOut}

-- How often the reads of each source failed, before and behind, is by its session's end. All lists are as long.
abbrev pub AreReads : List SessionEnd → List ℕ → List ℕ → Type 0
AreReads [] [] [] = ⊤
AreReads [] [] (now ∷ nows) = ⊥
AreReads [] (before ∷ befores) nows = ⊥
AreReads (end ∷ ends) [] nows = ⊥
AreReads (end ∷ ends) (before ∷ befores) [] = ⊥
AreReads (end ∷ ends) (before ∷ befores) (now ∷ nows) = EndFaults end.end before now × AreReads ends befores nows

module _ {W : Type 0} (put_may : W → Bor (List ℕ) → (W × Bool) → Type 0) (flush_may : W → (W × Bool) → Type 0) where
  -- Each text was put on its wire, and last of all the wire was flushed. Wires past them are as they were.
  abbrev pub AllSent : List (Bool × List ℕ) → List W → List W → Type 0
  AllSent [] olds news = news ≡ olds
  AllSent (sent ∷ texts) [] news = ⊥
  AllSent (sent ∷ texts) (old ∷ olds) [] = ⊥
  AllSent (sent ∷ texts) (old ∷ olds) (new ∷ news) =
      SendsOut put_may flush_may false sent.0 sent.1 old new × AllSent texts olds news

module _
    {W : Type 0}
    (mtu : Option ℕ)
    (put_may : W → Bor (List ℕ) → (W × Bool) → Type 0)
    (flush_may : W → (W × Bool) → Type 0) where
  -- So many bytes of each one's replies were put on its wire in whole replies, each as it is sent.
  abbrev pub AllWhole : List (Bool × List (List ℕ)) → List ℕ → List W → List W → Type 0
  AllWhole [] counts olds news = counts ≡ []
  AllWhole (sent ∷ replies) [] olds news = ⊥
  AllWhole (sent ∷ replies) (count ∷ counts) [] news = ⊥
  AllWhole (sent ∷ replies) (count ∷ counts) (old ∷ olds) [] = ⊥
  AllWhole (sent ∷ replies) (count ∷ counts) (old ∷ olds) (new ∷ news) =
      SentWhole put_may flush_may sent.0 (all_as_sent mtu sent.1) sent.1 count old new
      × AllWhole replies counts olds news
