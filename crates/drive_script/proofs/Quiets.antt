-- What is gathered without lines.
use Rattle.std.proofs.Common.{◌≡◌, ℕ, ◌+◌, ◌≤◌, List, [], ◌∷◌, ◌++◌, length, refl, ap, sym, ◌∙◌, subst, arith}
use Rattle.std.proofs.Common.{append-nil, append_assoc, length-append}
use Rattle.std.specs.List.{AllByRecursion}
use Rattle.schedule_text.specs.declared.line.Line.TheVariants.{Gather}
use Rattle.pin_core.specs.declared.sizes.Sizes.{Sizes}
use Rattle.transcript_model.specs.Lines.{LineEvent, line_of, posted, ring_full, stage_full, at_end, sent, dropped}
use Rattle.transcript_model.specs.Lines.{nothing_posted, reaped, nothing_reaped}
use Rattle.transcript_model.specs.Right.{IsRight, AreRight}
use Rattle.any_wire.specs.Texts.{Sending}
use Rattle.transcript_model.specs.Standing.{Standing, at_first}
use Rattle.transcript_model.specs.Terms.{Terms}
use Rattle.reply_layout.specs.Frames.{Frame}
use Rattle.drive_script.specs.Quiet.{IsQuiet}
use Rattle.drive_script.proofs.KeepsReaps.{frames_count}
use Rattle.drive_script.proofs.Lists.{front_length}
use Rattle.drive_script.specs.declared.happened.Happened.{Happened}
use Rattle.drive_script.specs.declared.happened.Happened.TheVariants as Happen
use Rattle.drive_script.specs.Driving.{Driving, IsUnderWay}
use Rattle.drive_script.specs.Happened.{line_event}
use Rattle.drive_script.specs.Left.{gathers_in, GoesQuietly, GathersAll}
use Rattle.drive_script.specs.Shown.{session_shown}

-- what answers a gather is quiet
pub gather_quiet : (happened : Happened) → line_of (record { session = 0; event = line_event happened [] [] })
    ≡ Gather 0 → IsQuiet (line_event happened [] [])
gather_quiet (Happen.Posted call freed) is = absurd (cc)
gather_quiet (Happen.RingFull need room) is = absurd (cc)
gather_quiet (Happen.StageFull need free) is = absurd (cc)
gather_quiet Happen.AtEnd is = absurd (cc)
gather_quiet (Happen.Sent call bytes) is = tt
gather_quiet (Happen.Dropped call bytes) is = tt
gather_quiet Happen.NothingPosted is = tt
gather_quiet (Happen.Reaped call recycled) is = tt
gather_quiet Happen.NothingReaped is = tt

-- and gathers one reply, where one was posted
pub one_gathered : (happened : Happened) → line_of (record { session = 0; event = line_event happened [] [] })
    ≡ Gather 0 → (happened ≡ Happen.NothingPosted → ⊥) → gathers_in (line_event happened [] [] ∷ []) ≡ 1
one_gathered (Happen.Posted call freed) is some = absurd (cc)
one_gathered (Happen.RingFull need room) is some = absurd (cc)
one_gathered (Happen.StageFull need free) is some = absurd (cc)
one_gathered Happen.AtEnd is some = absurd (cc)
one_gathered (Happen.Sent call bytes) is some = refl
one_gathered (Happen.Dropped call bytes) is some = refl
one_gathered Happen.NothingPosted is some = absurd (some refl)
one_gathered (Happen.Reaped call recycled) is some = absurd (cc)
one_gathered Happen.NothingReaped is some = absurd (cc)

gathers-append : (some more : List LineEvent) → gathers_in (some ++ more) ≡ gathers_in some + gathers_in more
gathers-append [] more = omega arith
gathers-append (posted call freed segments fragments ∷ some) more = gathers-append some more
gathers-append (ring_full need room ∷ some) more = gathers-append some more
gathers-append (stage_full need free ∷ some) more = gathers-append some more
gathers-append (at_end ∷ some) more = gathers-append some more
gathers-append (sent call bytes ∷ some) more = omega (arith, gathers-append some more)
gathers-append (dropped call bytes ∷ some) more = omega (arith, gathers-append some more)
gathers-append (nothing_posted ∷ some) more = gathers-append some more
gathers-append (reaped call recycled ∷ some) more = gathers-append some more
gathers-append (nothing_reaped ∷ some) more = gathers-append some more

one_line : (terms : Terms) (before after : Standing) (event : LineEvent) → IsRight terms before event after
    → after.gathered ≡ before.gathered + gathers_in (event ∷ [])
one_line terms before after (posted call freed segments fragments) right =
    omega (arith, ap (λ (standing : Standing). standing.gathered) right.leaves)
one_line terms before after (ring_full need room) right =
    omega (arith, ap (λ (standing : Standing). standing.gathered) right.leaves)
one_line terms before after (stage_full need free) right =
    omega (arith, ap (λ (standing : Standing). standing.gathered) right.leaves)
one_line terms before after at_end right = omega (arith, ap (λ (standing : Standing). standing.gathered) right.leaves)
one_line terms before after (sent call bytes) right =
    omega (arith, ap (λ (standing : Standing). standing.gathered) right.0.leaves)
one_line terms before after (dropped call bytes) right =
    omega (arith, ap (λ (standing : Standing). standing.gathered) right.0.leaves)
one_line terms before after nothing_posted right =
    omega (arith, ap (λ (standing : Standing). standing.gathered) right.1)
one_line terms before after (reaped call recycled) right =
    omega (arith, ap (λ (standing : Standing). standing.gathered) right.leaves)
one_line terms before after nothing_reaped right =
    omega (arith, ap (λ (standing : Standing). standing.gathered) right.1)

gathered_from : (terms : Terms) (before last : Standing) (events : List LineEvent) → AreRight terms before events last
    → last.gathered ≡ before.gathered + gathers_in events
gathered_from terms before last [] right = omega (arith, ap (λ (standing : Standing). standing.gathered) right)
gathered_from terms before last (event ∷ events) right =
    omega (
      arith,
      one_line terms before right.0 event right.1,
      gathered_from terms right.0 last events right.2,
      gathers-append (event ∷ []) events,
    )

-- the last line is right from where it began
last_right : (terms : Terms) (before : Standing) (events : List LineEvent) (event : LineEvent) (last : Standing)
    → AreRight terms before (events ++ event ∷ []) last → (mid : Standing) × IsRight terms mid event last
last_right terms before [] event last right =
    (before, subst (λ (s : Standing). IsRight terms before event s) (sym right.2) right.1)
last_right terms before (first ∷ events) event last right = last_right terms right.0 events event last right.2

front_is_all : {A : Type 0} (xs ys rest : List A) → ys ≡ xs ++ rest → length xs ≡ length ys → xs ≡ ys
front_is_all xs ys [] is same = sym (append-nil xs) ∙ sym is
front_is_all xs ys (x ∷ rest) is same =
    absurd (omega (arith, same, ap (λ (list : List _). length list) is, length-append xs (x ∷ rest)))

module _ {W : Type 0} (sends : Sending W) (z : Sizes) (shards : ℕ) where
  -- none was there to gather
  pub gathers_all : (first : Driving W) (events quiet : List LineEvent) (now : Driving W) → AllByRecursion IsQuiet quiet
      → IsUnderWay sends z shards first ((events ++ quiet) ++ nothing_posted ∷ []) now
      → GathersAll sends z shards first events now
  gathers_all first events quiet now are is =
      let kept = is.connection.driven.kept in
      let m = kept.matches in
      let last = last_right is.connection.driven.terms at_first (events ++ quiet) nothing_posted kept.standing
      kept.right in
      let frames : kept.standing.gathered ≡ length kept.standing.frames =
      ap (λ (s : Standing). s.gathered) last.1.1 ∙ last.1.0 ∙ ap (λ (s : Standing). length s.frames) (sym last.1.1) in
      let lengths : length now.device.completed ≡ length now.session.posted =
      sym m.gathered ∙ frames ∙ ap (λ (list : List Frame). length list) m.frames
      ∙ frames_count (session_shown z now.session) in
      let all : now.device.completed ≡ now.session.posted = front_is_all now.device.completed now.session.posted
      m.in_order.completed.0 m.in_order.completed.1 lengths in
      record {
        quiet = quiet ++ nothing_posted ∷ [];
        are = all_quiet quiet are;
        is = subst (λ (list : List LineEvent). IsUnderWay sends z shards first list now)
            (append_assoc events quiet (nothing_posted ∷ [])) is;
        all = all;
        told = m.told ∙ lengths;
      }
    where
      all_quiet : (events : List LineEvent) → AllByRecursion IsQuiet events
          → AllByRecursion IsQuiet (events ++ nothing_posted ∷ [])
      all_quiet [] each = (tt, tt)
      all_quiet (event ∷ events) each = (each.0, all_quiet events each.1)

  -- one was gathered
  pub gathers_one : (first : Driving W) (events : List LineEvent) (count : ℕ) (old new : Driving W)
      (happened : Happened) → line_of (record { session = 0; event = line_event happened [] [] }) ≡ Gather 0
      → (happened ≡ Happen.NothingPosted → ⊥)
      → ((events : List LineEvent) → IsUnderWay sends z shards first events old
      → IsUnderWay sends z shards first (events ++ line_event happened [] [] ∷ []) new)
      → GoesQuietly sends z shards first events count old → GoesQuietly sends z shards first events (count + 1) new
  gathers_one first events count old new happened answers some right was = record {
    quiet = was.quiet ++ line_event happened [] [] ∷ [];
    are = all_quiet was.quiet was.are;
    gathered = omega (
      arith,
      was.gathered,
      gathers-append was.quiet (line_event happened [] [] ∷ []),
      one_gathered
          happened answers some,
    );
    is = subst (λ (list : List LineEvent). IsUnderWay sends z shards first list new)
        (append_assoc events was.quiet (line_event happened [] [] ∷ [])) (right (events ++ was.quiet) was.is);
  }
    where
      all_quiet : (events : List LineEvent) → AllByRecursion IsQuiet events
          → AllByRecursion IsQuiet (events ++ line_event happened [] [] ∷ [])
      all_quiet [] each = (gather_quiet happened answers, tt)
      all_quiet (event ∷ events) each = (each.0, all_quiet events each.1)

  pub quiet_at_first : (first : Driving W) (events : List LineEvent) (now : Driving W)
      → IsUnderWay sends z shards first events now → GoesQuietly sends z shards first events 0 now
  quiet_at_first first events now is = record {
    quiet = [];
    are = tt;
    gathered = omega arith;
    is = subst (λ (list : List LineEvent). IsUnderWay sends z shards first list now) (sym (append-nil events)) is;
  }

  -- no more were gathered than were posted
  pub no_more_gathered : (first : Driving W) (events : List LineEvent) (count : ℕ) (now : Driving W)
      → GoesQuietly sends z shards first events count now → count ≤ length now.session.posted
  no_more_gathered first events count now goes =
      let kept = goes.is.connection.driven.kept in
      let m = kept.matches in
      omega (
        arith,
        goes.gathered,
        gathers-append events goes.quiet,
        gathered_from goes.is.connection.driven.terms at_first kept.standing (events ++ goes.quiet) kept.right,
        m.gathered,
        front_length now.device.completed now.session.posted m.in_order.completed.0 m.in_order.completed.1,
      )
