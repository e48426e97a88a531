-- The addresses that a transcript shows are those of the deeds.
use Rattle.std.proofs.Common.{◌≡◌, ℕ, ◌+◌, ◌-◌, ◌<◌, ◌≤◌, Bool, true, false, List, [], ◌∷◌, length, slice_get, Option}
use Rattle.std.proofs.Common.{None, Some, arith, refl, ap, sym, ◌∙◌, length-append}
use Rattle.std.specs.Prelude.{◌==◌, if◌then◌else◌, map, unwrap_or}
use Rattle.std.specs.List.{filter}
use Rattle.flake_base.specs.declared.journal.Entry.{Entry}
use Rattle.flake_base.specs.declared.segment.Seg.{Seg}
use Rattle.flake_model.specs.Command.{Command}
use Rattle.flake_model.specs.Deed.{Deed}
use Rattle.flake_model.specs.Fragments.{fragment_limit}
use Rattle.shard_core.specs.Pieces.{segs_at, size_stored}
use Rattle.transcript_model.specs.Lines.{LineEvent, posted, ring_full, stage_full, at_end, sent, dropped}
use Rattle.transcript_model.specs.Lines.{nothing_posted, reaped, nothing_reaped, EventLine}
use Rattle.transcript_model.specs.Terms.{Terms}
use Rattle.transcript_model.specs.Standing.{Standing, frames_waiting, free}
use Rattle.transcript_model.specs.Frames.{frame_of, fragments_stored, stored_of}
use Rattle.transcript_model.specs.Right.{AreRight}
use Rattle.transcript_model.specs.Sessions.{events_of}
use Rattle.transcript_model.specs.Transcript.{shown_in, shown_by}

abbrev or_later : Option (List ℕ) → Option (List ℕ) → Option (List ℕ)
or_later None later = later
or_later (Some addresses) later = Some addresses

-- what the events of a session show of a call
abbrev pub shown_among : ℕ → List LineEvent → Option (List ℕ)
shown_among call [] = None
shown_among call (event ∷ events) = or_later (shown_in call event) (shown_among call events)

or_later_default : (first later : Option (List ℕ)) → unwrap_or (or_later first later) []
    ≡ unwrap_or first (unwrap_or later [])
or_later_default None later = refl
or_later_default (Some addresses) later = refl

pub shown_by_events : (entry : Entry) (lines : List EventLine) → shown_by lines entry
    ≡ unwrap_or (shown_among entry.call (events_of entry.session lines)) []
shown_by_events entry [] = refl
shown_by_events entry (said ∷ lines) = of_session (said.session == entry.session) (shown_by_events entry lines) where
  of_session : (own : Bool) → shown_by lines entry ≡ unwrap_or (shown_among entry.call (events_of entry.session lines))
      []
      → unwrap_or (if own then shown_in entry.call said.event else None) (shown_by lines entry)
      ≡ unwrap_or (shown_among entry.call
      (map (λ (line : EventLine). line.event)
      (if own then said ∷ filter (λ (line : EventLine). line.session == entry.session) lines
      else filter (λ (line : EventLine). line.session == entry.session) lines))) []
  of_session true rest = ap (unwrap_or (shown_in entry.call said.event)) rest
      ∙ sym (or_later_default (shown_in entry.call said.event) (shown_among entry.call (events_of entry.session lines)))
  of_session false rest = rest

addresses_of : List Seg → List ℕ
addresses_of fragments = map (λ (fragment : Seg). fragment.address) fragments

not_this : (number call : ℕ) (addresses : List ℕ) → number < call → (if number == call then Some addresses else None)
    ≡ None
not_this number call addresses below = let other : (number == call) ≡ false = grind arith in
    ap (λ b. if b then Some addresses else None) other

this : (number call : ℕ) (addresses : List ℕ) → number ≡ call → (if number == call then Some addresses else None)
    ≡ Some addresses
this number call addresses is = let same : (number == call) ≡ true = grind arith in
    ap (λ b. if b then Some addresses else None) same

-- the line of a posted call shows what its deeds stored
pub posted_shows : (terms : Terms) (before last : Standing) (events : List LineEvent) (call : ℕ) (command : Command)
    → AreRight terms before events last → length before.frames ≤ call → call < length last.frames
    → slice_get terms.commands call ≡ Some command → shown_among call events
    ≡ Some (map (λ (fragment : Seg). fragment.address) (stored_of terms call command))
posted_shows terms before last [] call command right from below asked =
    absurd (omega (arith, ap (λ (standing : Standing). length standing.frames) right))
posted_shows terms before last (posted number freed segments fragments ∷ events) call command right from below asked =
    by_number (number == call) refl
    (λ earlier. posted_shows terms right.0 last events call command right.2
    (omega (
      arith,
      right.1.next,
      ap (λ (standing : Standing). length standing.frames) right.1.leaves,
      length-append before.frames
          (frame_of terms (free terms.stage (frames_waiting before (before.reaped + freed))) number right.1.command
          ∷ []),
    )) below asked)
  where
    by_number : (same : Bool) → (number == call) ≡ same
        → (number < call → shown_among call events
        ≡ Some (map (λ (fragment : Seg). fragment.address) (stored_of terms call command)))
        → shown_among call (posted number freed segments fragments ∷ events)
        ≡ Some (map (λ (fragment : Seg). fragment.address) (stored_of terms call command))
    by_number true is later =
        let number_is : number ≡ call = grind arith in
        let command_is : Some right.1.command ≡ Some command = sym right.1.asked
        ∙ ap (slice_get terms.commands) number_is ∙ asked in
        let same : right.1.command ≡ command = cc in
        ap (λ first. or_later first (shown_among call events))
        (this number call (map (λ (fragment : Seg). fragment.address) fragments) number_is)
        ∙ ap (λ segs. Some (map (λ (fragment : Seg). fragment.address) segs))
        (right.1.fragments_are ∙ (λ i. stored_of terms (number_is i) (same i)))
    by_number false is later =
        let other : (number ≡ call) → ⊥ = λ same. let clash : (number == call) ≡ true = grind arith in let never : true
        ≡ false = sym clash ∙ is in absurd (cc) in
        let earlier : number < call = omega (arith, right.1.next, from) in
        ap (λ first. or_later first (shown_among call events))
        (not_this number call (map (λ (fragment : Seg). fragment.address) fragments) earlier) ∙ later earlier
posted_shows terms before last (ring_full need room ∷ events) call command right from below asked =
    posted_shows terms right.0 last events call command right.2
    (omega (arith, ap (λ (standing : Standing). length standing.frames) right.1.leaves)) below asked
posted_shows terms before last (stage_full need room ∷ events) call command right from below asked =
    posted_shows terms right.0 last events call command right.2
    (omega (arith, ap (λ (standing : Standing). length standing.frames) right.1.leaves)) below asked
posted_shows terms before last (at_end ∷ events) call command right from below asked =
    posted_shows terms right.0 last events call command right.2
    (omega (arith, ap (λ (standing : Standing). length standing.frames) right.1.leaves)) below asked
posted_shows terms before last (sent number bytes ∷ events) call command right from below asked =
    posted_shows terms right.0 last events call command right.2
    (omega (arith, ap (λ (standing : Standing). length standing.frames) right.1.0.leaves)) below asked
posted_shows terms before last (dropped number bytes ∷ events) call command right from below asked =
    posted_shows terms right.0 last events call command right.2
    (omega (arith, ap (λ (standing : Standing). length standing.frames) right.1.0.leaves)) below asked
posted_shows terms before last (nothing_posted ∷ events) call command right from below asked =
    posted_shows terms right.0 last events call command right.2
    (omega (arith, ap (λ (standing : Standing). length standing.frames) right.1.1)) below asked
posted_shows terms before last (reaped number recycled ∷ events) call command right from below asked =
    posted_shows terms right.0 last events call command right.2
    (omega (arith, ap (λ (standing : Standing). length standing.frames) right.1.leaves)) below asked
posted_shows terms before last (nothing_reaped ∷ events) call command right from below asked =
    posted_shows terms right.0 last events call command right.2
    (omega (arith, ap (λ (standing : Standing). length standing.frames) right.1.1)) below asked

-- the fragments that a deed stored lie at its stored addresses
pub fragments_at : (deed : Deed) → map (λ (fragment : Seg). fragment.address) (fragments_stored (Some deed))
    ≡ deed.stored
fragments_at deed = segs_lie deed.stored (size_stored deed.operation deed.answer)
  where
    segs_lie : (stored : List ℕ) (n : ℕ) → map (λ (fragment : Seg). fragment.address) (segs_at stored n) ≡ stored
    segs_lie [] n = refl
    segs_lie (address ∷ stored) n = ap (λ rest. address ∷ rest) (segs_lie stored (n - fragment_limit))
