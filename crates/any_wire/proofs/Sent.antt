-- Puts and flushes, one after another.
use Rattle.std.proofs.Common.{◌<◌, ℕ, Bool, true, false, List, [], ◌∷◌, ◌++◌, length, refl, sym, subst, append_assoc}
use Rattle.std.proofs.Common.{append-nil, inl, inr, ◌≡◌, ◌∙◌, ap, arith}
use Rattle.std.specs.Borrow.{Bor}
use Rattle.view_sums.specs.Total.{Each}
use Rattle.any_wire.specs.Sends.{WireStep, puts, flushes, step_bytes, steps_bytes, IsShortPut, Chain, Sends, Flushes}
use Rattle.flake_base.specs.Growth.{Grew}
use Rattle.flake_base.specs.Told.{WireTold}
use Rattle.flake_model.specs.Wire.{FaultIs, WireFaultIs, faults_told, KeptIs}
use Rattle.any_wire.specs.Sent.{WasSent, WasSentByPuts, PutIs, FlushIs, AreTold}
use Rattle.any_wire.proofs.Growing.{grew_more, grew_no_more, grew_so, nothing_grew}

nothing_sent : (wire : WireTold) → WasSent false [] wire wire
nothing_sent wire = record { put = nothing_grew wire.put; faults = refl }

-- nothing is put behind a failure
no_more : (front text : List ℕ) (old new : WireTold) → WasSent true front old new → WasSent true (front ++ text) old new
no_more front text old new was = record {
  put = grew_no_more old.put new.put front text was.put;
  faults = was.faults;
}

-- from counts of faults as they were before, a put or a flush after which one of them may have risen
from_same : (now : Bool) (old mid new : WireTold) → WireFaultIs false (faults_told old) (faults_told mid)
    → WireFaultIs now (faults_told mid) (faults_told new) → WireFaultIs now (faults_told old) (faults_told new)
from_same now old mid new same = subst (λ faults. WireFaultIs now faults (faults_told new)) same

put_faults : (now : Bool) (mid new : WireTold) → FaultIs now mid.put_faults new.put_faults
    → new.flush_faults ≡ mid.flush_faults → WireFaultIs now (faults_told mid) (faults_told new)
put_faults false mid new same other = λ i. (same i, other i)
put_faults true mid new rose other = inl (rose, other)

flush_faults : (now : Bool) (mid new : WireTold) → FaultIs now mid.flush_faults new.flush_faults
    → new.put_faults ≡ mid.put_faults → WireFaultIs now (faults_told mid) (faults_told new)
flush_faults false mid new same other = λ i. (other i, same i)
flush_faults true mid new rose other = inr (other, rose)

-- one piece more
put_more : (now : Bool) (front text : List ℕ) (old mid new : WireTold) → WasSent false front old mid
    → PutIs now text mid new → WasSent now (front ++ text) old new
put_more now front text old mid new was put = record {
  put = grew_more now old.put mid.put new.put front text was.put put.took.put;
  faults = from_same now old mid new was.faults (put_faults now mid new put.faults put.took.flush_faults);
}

-- a flush puts nothing
flush_more : (now : Bool) (text : List ℕ) (old mid new : WireTold) → WasSent false text old mid → FlushIs now mid new
    → WasSent now text old new
flush_more now text old mid new was flush = record {
  put = grew_so now old.put new.put text (subst (Grew false text old.put) (sym flush.flushed.put) was.put);
  faults = from_same now old mid new was.faults (flush_faults now mid new flush.faults flush.flushed.put_faults);
}

behind : (front piece rest : List ℕ) (failed : Bool) (old new : WireTold)
    → WasSent failed ((front ++ piece) ++ rest) old new
    → WasSent failed (front ++ (piece ++ rest)) old new
behind front piece rest failed old new = subst (λ t. WasSent failed t old new) (append_assoc front piece rest)

-- a piece of some bytes isn't empty, whatever is behind it
not_empty : (piece rest : List ℕ) → 0 < length piece → piece ++ rest ≡ [] → ⊥
not_empty [] rest some none = omega (arith, some)
not_empty (x ∷ piece) rest some none = cc

module _
    {W : Type 0}
    (put_may : W → Bor (List ℕ) → (W × Bool) → Type 0)
    (flush_may : W → (W × Bool) → Type 0)
    (tells : W → WireTold)
    (says : AreTold put_may flush_may tells) where
  chain_told : (steps : List WireStep) → Each IsShortPut steps → (failed now : Bool) (front : List ℕ) (first w end : W)
      → WasSent failed front (tells first) (tells w) → Chain put_may flush_may steps failed now w end
      → WasSent now (front ++ steps_bytes steps) (tells first) (tells end)
  chain_told [] short failed now front first w end was h =
      subst (λ t. WasSent now t (tells first) (tells end)) (sym (append-nil front))
      (subst (λ v. WasSent now front (tells first) (tells v)) (sym h.0)
      (subst (λ f. WasSent f front (tells first) (tells w)) (sym h.1) was))
  chain_told (step ∷ steps) short true now front first w end was h =
      behind front (step_bytes step) (steps_bytes steps) now (tells first) (tells end)
      (chain_told steps short.1 true now (front ++ step_bytes step) first w end
      (no_more front (step_bytes step) (tells first) (tells w) was) h)
  chain_told (puts piece ∷ steps) short false now front first w end was h =
      let one : PutIs h.0.1 piece (tells w) (tells h.0.0) =
      subst (λ t. PutIs h.0.1 t (tells w) (tells h.0.0)) h.2
      (says.put w h.1 h.0 (subst (λ t. 0 < length t) (sym h.2) short.0.0) h.3) in
      behind front piece (steps_bytes steps) now (tells first) (tells end)
      (chain_told steps short.1 h.0.1 now (front ++ piece) first h.0.0 end
      (put_more h.0.1 front piece (tells first) (tells w) (tells h.0.0) was one) h.4)
  chain_told (flushes ∷ steps) short false now front first w end was h =
      chain_told steps short.1 h.0.1 now front first h.0.0 end
      (flush_more h.0.1 front (tells first) (tells w) (tells h.0.0) was (says.flush w h.0 h.1)) h.2

  pub sends_told : (failed : Bool) (text : List ℕ) (w end : W) → Sends put_may flush_may false failed text w end
      → WasSent failed text (tells w) (tells end)
  sends_told failed text w end sends =
      subst (λ t. WasSent failed t (tells w) (tells end)) (sym sends.whole)
      (chain_told sends.steps sends.short false failed [] w w end (nothing_sent (tells w)) sends.chain)

  -- no put was made of no bytes
  only_flushed : (steps : List WireStep) → Each IsShortPut steps → steps_bytes steps ≡ [] → (failed now : Bool)
      (w end : W) → Chain put_may flush_may steps failed now w end → (tells end).put_faults ≡ (tells w).put_faults
  only_flushed [] short none failed now w end h = ap (λ v. (tells v).put_faults) h.0
  only_flushed (puts piece ∷ steps) short none failed now w end h =
      absurd (not_empty piece (steps_bytes steps) short.0.0 none)
  only_flushed (flushes ∷ steps) short none true now w end h = only_flushed steps short.1 none true now w end h
  only_flushed (flushes ∷ steps) short none false now w end h =
      only_flushed steps short.1 none h.0.1 now h.0.0 end h.2 ∙ (says.flush w h.0 h.1).flushed.put_faults

  pub sent_by_puts : (failed : Bool) (text : List ℕ) (w end : W) → Sends put_may flush_may false failed text w end
      → WasSentByPuts failed text (tells w) (tells end)
  sent_by_puts failed text w end sends = record {
    sent = sends_told failed text w end sends;
    spares = λ none. only_flushed sends.steps sends.short (sym sends.whole ∙ none) false failed w end sends.chain;
  }

  pub flush_told : (failed now : Bool) (text : List ℕ) (w mid end : W) → WasSent failed text (tells w) (tells mid)
      → Flushes flush_may failed now mid end → WasSent now text (tells w) (tells end)
      × KeptIs now (tells mid).kept (tells end).kept
  flush_told true now text w mid end was h =
      subst (λ f. WasSent f text (tells w) (tells end) × KeptIs f (tells mid).kept (tells end).kept) (sym h.1)
      (subst (λ v. WasSent true text (tells w) (tells v)) (sym h.0) was, tt)
  flush_told false now text w mid end was h =
      let flush = says.flush mid (end, now) h in
      (flush_more now text (tells w) (tells mid) (tells end) was flush, flush.all)
