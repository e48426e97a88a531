-- Sessions, slots and texts with one more.
use Rattle.std.proofs.Common.{◌≡◌, ℕ, ◌+◌, ◌<◌, ◌≤◌, ◌⊎◌, ⊎_elim, inl, inr, zero, suc, List, [], ◌∷◌, ◌++◌, Option}
use Rattle.std.proofs.Common.{Some, None, length, map, take, replicate, slice_get, arith, refl, ap, sym, ◌∙◌, subst}
use Rattle.std.proofs.Common.{length-append}
use Rattle.std.proofs.lemmas.List.{map-append, length-map}
use Rattle.std.specs.Global.{Vec}
use Rattle.std.specs.List.{flat_map}
use Rattle.flake_base.specs.Roomy.{Roomy}
use Rattle.flake_base.specs.declared.journal.Entry.{Entry}
use Rattle.flake_model.specs.Store.{Answer}
use Rattle.flake_model.specs.Command.{Command}
use Rattle.flake_model.specs.Journal.{Step, answer_at, session_steps}
use Rattle.byte_store.specs.declared.store.ByteAnswer.{ByteAnswer}
use Rattle.replay_check.specs.Inputs.{AreCommands, contents}
use Rattle.replay_check.specs.Noted.{slots_meant, answers_by, AreNoted}
use Rattle.replay_check.specs.Places.{step_place, told, ArePlaced}
use Rattle.replay_check.specs.declared.session.Session.{Session}
use Rattle.replay_check.proofs.Lists.{in_front, at_last, of_append, take_next}
use Rattle.replay_check.proofs.Cursors.{below_next}

-- the sessions of the first inputs, with the next
abbrev pub HasSession : List (List Command) → List (List ℕ) → ℕ → Type 0
HasSession sessions inputs k = (bytes : List ℕ) → slice_get inputs k ≡ Some bytes → (commands : List Command)
    × (slice_get sessions k ≡ Some commands) × AreCommands bytes commands

pub one_session : (inputs : List (List ℕ)) (sessions : List Session) (session : Session) (input : List ℕ)
    → slice_get inputs (length sessions) ≡ Some input → AreCommands input session.commands.items
    → ((k : ℕ) → k < length sessions → HasSession (told sessions) inputs k) → (k : ℕ) → k < length sessions + 1
    → HasSession (told (sessions ++ session ∷ [])) inputs k
one_session inputs sessions session input is meant before =
    let now : told (sessions ++ session ∷ []) ≡ told sessions ++ session.commands.items ∷ [] =
    map-append (λ (s : Session). s.commands.items) sessions (session ∷ []) in
    below_next (HasSession (told (sessions ++ session ∷ [])) inputs) (length sessions)
    (λ k below bytes there.
    let had = before k below bytes there in (
      had.0,
      ap (λ s. slice_get s k) now ∙ in_front (told sessions) (session.commands.items ∷ []) k had.0 had.1,
      had.2,
    ))
    (λ bytes there.
    let same : input ≡ bytes = cc (is, there) in (
      session.commands.items,
      (λ i. slice_get (now i) (sym (length-map sessions (λ (s : Session). s.commands.items)) i))
          ∙ at_last (told sessions) session.commands.items,
      subst (λ b. AreCommands b session.commands.items) same meant,
    ))

pub one_placed : (shards : ℕ) (sessions : List Session) (session : Session) → session.places.items
    ≡ map (step_place shards) (session_steps (length sessions) 0 session.commands.items) → ArePlaced shards sessions
    → ArePlaced shards (sessions ++ session ∷ [])
one_placed shards sessions session here before number found is = ⊎_elim (λ old. before number found old)
    (λ last.
    subst (λ (s : Session). s.places.items ≡ map (step_place shards) (session_steps number 0 s.commands.items))
    (sym last.1)
    (subst (λ n. session.places.items ≡ map (step_place shards) (session_steps n 0 session.commands.items))
    (sym last.0) here))
    (of_append sessions session found number is)

-- nothing is noted yet
no_answers : (steps : List Step) → map (λ (step : Step). answer_at step.0 []) steps ≡ replicate (length steps) None
no_answers [] = refl
no_answers (step ∷ steps) = ap (λ rest. None ∷ rest) (no_answers steps)

pub one_empty : (shards k : ℕ) (sessions : List Session) (session : Session) (slots : List (Vec (Option ByteAnswer)))
    (own : Vec (Option ByteAnswer)) (count : ℕ) → slice_get sessions k ≡ Some session → ArePlaced shards sessions
    → count ≡ length session.places.items → slots_meant own.items ≡ replicate count None
    → AreNoted (told (take k sessions)) [] slots → AreNoted (told (take (k + 1) sessions)) [] (slots ++ own ∷ [])
one_empty shards k sessions session slots own count is placed counted empty were =
    let now : told (take (k + 1) sessions) ≡ told (take k sessions) ++ session.commands.items ∷ [] =
    ap told (take_next sessions k session is) ∙ map-append (λ (s : Session). s.commands.items) (take k sessions)
    (session ∷ []) in
    subst (λ s. AreNoted s [] (slots ++ own ∷ [])) (sym now) (record {
      count = omega (
        arith,
        were.count,
        length-append slots (own ∷ []),
        length-append (told (take k sessions))
            (session.commands.items ∷ []),
      );
      each = λ number commands found there has. ⊎_elim
          (λ old. ⊎_elim (λ old_slot. were.each number commands found old old_slot)
          (λ last. absurd (omega (arith, last.0, were.count, within (told (take k sessions)) number commands old)))
          (of_append slots own found number has))
          (λ last. ⊎_elim (λ old_slot. absurd (omega (arith, last.0, were.count, within slots number found old_slot)))
          (λ last_slot.
          let parts = session_steps number 0 session.commands.items in
          let number_is : number ≡ k = last.0 ∙ length-map (take k sessions) (λ (s : Session). s.commands.items)
          ∙ front k sessions session is in
          let many : count ≡ length parts = counted ∙ ap length (placed k session is)
          ∙ length-map (session_steps k 0 session.commands.items) (step_place shards)
          ∙ ap (λ n. length (session_steps n 0 session.commands.items)) (sym number_is) in
          ap (λ (v : Vec (Option ByteAnswer)). slots_meant v.items) last_slot.1 ∙ empty
          ∙ ap (λ n. replicate n None) many ∙ sym (no_answers parts) ∙ ap (λ c. answers_by [] number c)
          (sym last.1))
          (of_append slots own found number has))
          (of_append (told (take k sessions)) session.commands.items commands number there);
    })
  where
    within : {A : Type 0} (xs : List A) (k : ℕ) (x : A) → slice_get xs k ≡ Some x → k < length xs
    within [] k x is = absurd (cc (is))
    within (y ∷ xs) zero x is = omega arith
    within (y ∷ xs) (suc k) x is = let rest = within xs k x is in omega arith

    front : {A : Type 0} (k : ℕ) (xs : List A) (x : A) → slice_get xs k ≡ Some x → length (take k xs) ≡ k
    front k [] x is = absurd (cc (is))
    front zero (y ∷ xs) x is = refl
    front (suc k) (y ∷ xs) x is = ap suc (front k xs x is)

-- a text more
pub one_text_more : (P : ℕ → List ℕ → Type 0) (texts : List (Roomy ℕ)) (text : Roomy ℕ)
    → ((k : ℕ) → k < length texts → (wanted : List ℕ) → P k wanted → slice_get (contents texts) k ≡ Some wanted)
    → ((wanted : List ℕ) → P (length texts) wanted → text.items ≡ wanted) → (k : ℕ) → k < length texts + 1
    → (wanted : List ℕ) → P k wanted → slice_get (contents (texts ++ text ∷ [])) k ≡ Some wanted
one_text_more P texts text before here =
    let now : contents (texts ++ text ∷ []) ≡ contents texts ++ text.items ∷ [] =
    map-append (λ (t : Roomy ℕ). t.items) texts (text ∷ []) in
    below_next (λ k. (wanted : List ℕ) → P k wanted → slice_get (contents (texts ++ text ∷ [])) k ≡ Some wanted)
    (length texts)
    (λ k below wanted is. ap (λ t. slice_get t k) now ∙ in_front (contents texts) (text.items ∷ []) k wanted
    (before k below wanted is))
    (λ wanted is. (λ i. slice_get (now i) (sym (length-map texts (λ (t : Roomy ℕ). t.items)) i))
    ∙ at_last (contents texts) text.items ∙ ap Some (here wanted is))
