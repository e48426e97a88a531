-- Replies as they are sent, by their numbers.
use Rattle.std.proofs.Common.{◌≡◌, ℕ, zero, suc, ◌+◌, ◌⊎◌, inl, inr, ⊎_elim, List, [], ◌∷◌, ◌++◌, length, slice_get}
use Rattle.std.proofs.Common.{Option, Some, None, map, refl, ap, sym, ◌∙◌, subst, arith}
use Rattle.std.proofs.lemmas.List.{length-map, map-append}
use Rattle.std.proofs.lemmas.List.Folds.{flat_map-map}
use Rattle.mtu_frames.specs.Frames.{framed}
use Rattle.reply_planner.specs.Parcels.{Sent, texts_in}
use Rattle.device_model.specs.Devices.{reply_as_sent, joined_as_sent}
use Rattle.any_wire.specs.Texts.{joined}
use Rattle.session_serve.specs.Forms.{framed_from, all_as_sent, each_as_sent, AreNumberedByPlace}

-- where there are as many as texts
pub each-length : (mtu : Option ℕ) (replies : List Sent) → length (each_as_sent mtu replies)
    ≡ length (texts_in replies)
each-length None replies = refl
each-length (Some mtu) replies = length-map replies (λ (reply : Sent). framed reply.text reply.call mtu)
    ∙ sym (length-map replies (λ (reply : Sent). reply.text))

pub each-none : (mtu : Option ℕ) → each_as_sent mtu [] ≡ []
each-none None = refl
each-none (Some mtu) = refl

-- one more
pub each-more : (mtu : Option ℕ) (replies : List Sent) (reply : Sent)
    → each_as_sent mtu (replies ++ reply ∷ []) ≡ each_as_sent mtu replies ++ reply_as_sent mtu reply ∷ []
each-more None replies reply = map-append (λ (r : Sent). r.text) replies (reply ∷ [])
each-more (Some mtu) replies reply = map-append (λ (r : Sent). framed r.text r.call mtu) replies (reply ∷ [])

pub sent-joined : (mtu : Option ℕ) (replies : List Sent)
    → joined_as_sent mtu replies ≡ joined (each_as_sent mtu replies)
sent-joined None replies = sym (flat_map-map (λ (text : List ℕ). text) (λ (reply : Sent). reply.text) replies)
sent-joined (Some mtu) replies =
    sym (flat_map-map (λ (text : List ℕ). text) (λ (reply : Sent). framed reply.text reply.call mtu) replies)

-- no reply, and then one for each call
pub numbered-none : (replies : List Sent) → replies ≡ [] → AreNumberedByPlace replies
numbered-none replies none = subst AreNumberedByPlace (sym none) (λ i reply found. absurd (cc))

found-more : (replies : List Sent) (last : Sent) (i : ℕ) (reply : Sent)
    → slice_get (replies ++ last ∷ []) i ≡ Some reply
    → (slice_get replies i ≡ Some reply) ⊎ ((i ≡ length replies) × (reply ≡ last))
found-more [] last zero reply found = inr (refl, cc)
found-more [] last (suc i) reply found = absurd (cc)
found-more (first ∷ replies) last zero reply found = inl found
found-more (first ∷ replies) last (suc i) reply found =
    ⊎_elim (λ before. inl before) (λ here. inr (omega (arith, here.0), here.1)) (found-more replies last i reply found)

pub numbered-more : (replies : List Sent) (last : Sent) → AreNumberedByPlace replies → last.call ≡ length replies
    → AreNumberedByPlace (replies ++ last ∷ [])
numbered-more replies last numbered is i reply found =
    ⊎_elim (λ before. numbered i reply before) (λ here. ap (λ (r : Sent). r.call) here.1 ∙ is ∙ sym here.0)
    (found-more replies last i reply found)

-- so their numbers are those of their places
framed-from : (mtu call : ℕ) (replies : List Sent)
    → ((i : ℕ) (reply : Sent) → slice_get replies i ≡ Some reply → reply.call ≡ call + i)
    → map (λ (reply : Sent). framed reply.text reply.call mtu) replies ≡ framed_from mtu call (texts_in replies)
framed-from mtu call [] numbered = refl
framed-from mtu call (first ∷ replies) numbered =
    let here : first.call ≡ call = omega (arith, numbered 0 first refl) in
    let rest = framed-from mtu (call + 1) replies (λ i reply found. omega (arith, numbered (suc i) reply found)) in
    ap (λ (n : ℕ). framed first.text n mtu ∷ map (λ (reply : Sent). framed reply.text reply.call mtu) replies) here
    ∙ ap (λ (texts : List (List ℕ)). framed first.text call mtu ∷ texts) rest

pub each-all : (mtu : Option ℕ) (replies : List Sent) → AreNumberedByPlace replies
    → each_as_sent mtu replies ≡ all_as_sent mtu (texts_in replies)
each-all None replies numbered = refl
each-all (Some mtu) replies numbered =
    framed-from mtu 0 replies (λ i reply found. omega (arith, numbered i reply found))
