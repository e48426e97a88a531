-- What the clauses of a session's calls say of what lines are judged by.
use Rattle.std.proofs.Common.{◌≡◌, ℕ, ◌≤◌, List, [], ◌∷◌, ◌++◌, length, map, refl, ap, ◌∙◌, subst}
use Rattle.std.proofs.lemmas.List.{map-append}
use Rattle.flake_base.specs.declared.segment.Seg.{Seg}
use Rattle.flake_model.specs.Command.{Command, parts}
use Rattle.flake_model.specs.Reply.{reply_text}
use Rattle.flake_model.specs.Deed.{Deed}
use Rattle.pin_core.specs.declared.sizes.Sizes.{Sizes}
use Rattle.reply_layout.specs.Frames.{frame_from}
use Rattle.reply_layout.specs.Need.{need_of}
use Rattle.reply_planner.specs.Parcels.{Sent}
use Rattle.reply_planner.specs.Places.{buffer_addresses}
use Rattle.tx_ring.specs.Shown.{ring_size}
use Rattle.order_book.specs.Closed.{own_deeds}
use Rattle.shard_core.specs.Outcomes.{call_told, call_deeds}
use Rattle.shard_core.proofs.CallDeeds.{deeds_told}
use Rattle.session_pass.specs.Views.{SessionView}
use Rattle.session_pass.specs.Calls as call
use Rattle.transcript_model.specs.Standing.{ring_room, free}
use Rattle.drive_script.specs.Views.{waiting_behind}
use Rattle.drive_script.specs.Calls as line
use Rattle.drive_script.specs.Shown.{session_shown, LiesInPool}
use Rattle.drive_script.proofs.Addresses.{room_is, free_is, free_count, fits_shown, fits_back}
use Rattle.drive_script.proofs.Done.{parts_done, fragments_done, reply_done, of_the_call}

told_more : (old new more : List (ℕ × Deed)) → new ≡ old ++ more → map (λ (told : ℕ × Deed). told.1) new
    ≡ map (λ (told : ℕ × Deed). told.1) old ++ map (λ (told : ℕ × Deed). told.1) more
told_more old new more is = ap (map (λ (told : ℕ × Deed). told.1)) is
    ∙ map-append (λ (told : ℕ × Deed). told.1) old more

pub post_shown : (z : Sizes) (shards : ℕ) (command : Command) (old new : SessionView) (number freed : ℕ)
    (sent stored : List Seg) → LiesInPool z old → call.CallPosts z shards command old new number freed sent stored
    → line.ShowsPost command (session_shown z old) (session_shown z new) number freed sent stored
post_shown z shards command old new number freed sent stored over posts =
    let session = old.pass.list.number in
    let running = posts.executed.running in
    let outcomes = call_deeds session (length old.posted) 0 (parts command) posts.outcomes in
    record {
      outcomes = outcomes;
      parcel = posts.parcel;
      outcomes_are = parts_done session (length old.posted) 0 (parts command) posts.outcomes running.are
          posts.executed.whole;
      deeds = told_more old.pass.list.told new.pass.list.told _ running.told
          ∙ ap (λ deeds. own_deeds old.pass.list ++ deeds)
          (deeds_told session (length old.posted) shards 0 (parts command) posts.outcomes running.are);
      gone = posts.gone;
      freed_is = posts.freed_is;
      reaped = posts.reaped;
      fits = fits_shown z old freed (need_of command) over posts.fits;
      least = λ fewer less fits. posts.least fewer less (fits_back z old fewer (need_of command) over fits);
      posted = posts.posted;
      call_is = posts.call_is;
      numbered = posts.numbered;
      laid_out = posts.laid_out ∙ ap (λ buffers. frame_from old.pass.threshold buffers command outcomes)
          (free_is z old freed over);
      text = posts.executed.text_is
          ∙ ap reply_text (reply_done session (length old.posted) command posts.outcomes running.are);
      sent_is = posts.sent_is;
      stored_is = posts.stored_is ∙ fragments_done session (length old.posted) 0 (parts command) posts.outcomes;
      in_buffers = posts.in_buffers;
      number = posts.rest.number;
      sizes = refl;
      ring = ap ring_size posts.rest.ring;
      threshold = posts.rest.threshold;
      stage = ap (buffer_addresses z) posts.rest.stage;
    }

-- only reaps
module _ (z : Sizes) (old new : SessionView) where
  same_shown : call.KeepsRest old new → new.posted ≡ old.posted → (gone : List Sent) → new.reaped ≡ old.reaped ++ gone
      → (deeds : List Deed) → own_deeds new.pass.list ≡ deeds
      → session_shown z new ≡ record (session_shown z old) { reaped = old.reaped ++ gone; deeds = deeds }
  same_shown rest posted gone reaped deeds is = λ i. record {
    number = rest.number i;
    sizes = z;
    ring = ring_size (rest.ring i);
    threshold = rest.threshold i;
    stage = buffer_addresses z (rest.stage i);
    posted = posted i;
    reaped = reaped i;
    told = rest.told i;
    deeds = is i;
  }

  pub reaps_shown : call.CallReaps old new → line.ShowsReaps (session_shown z old) (session_shown z new)
  reaps_shown reaps = record {
    gone = reaps.gone;
    new_is = same_shown reaps.keeps.rest reaps.keeps.posted reaps.gone reaps.reaped (own_deeds old.pass.list)
        (ap own_deeds reaps.keeps.list);
    told = reaps.told;
  }

  pub ring_shown : (command : Command) (need room_is_left : ℕ) → call.FindsRingFull command old new need room_is_left
      → line.ShowsRingFull command (session_shown z old) (session_shown z new) need room_is_left
  ring_shown command need room_is_left finds = record {
    reaps = reaps_shown finds.reaps;
    needs = finds.needs;
    has = finds.has ∙ room_is z new 0 ∙ ap (λ ring. ring_room (ring_size ring) (waiting_behind (session_shown z new) 0))
        finds.reaps.keeps.rest.ring;
    less = finds.less;
  }

  pub stage_shown : (command : Command) (need free_left : ℕ) → LiesInPool z new
      → call.FindsStageFull command old new need free_left → line.ShowsStageFull command (session_shown z old)
      (session_shown z new) need free_left
  stage_shown command need free_left over finds = record {
    reaps = reaps_shown finds.reaps;
    enough = subst (λ n. (need_of command).descriptors ≤ n)
        (room_is z new 0 ∙ ap (λ ring. ring_room (ring_size ring) (waiting_behind (session_shown z new) 0))
        finds.reaps.keeps.rest.ring) finds.enough;
    needs = finds.needs;
    has = finds.has ∙ free_count z new 0 over
        ∙ ap (λ stage. length (free (buffer_addresses z stage) (waiting_behind (session_shown z new) 0)))
        finds.reaps.keeps.rest.stage;
    less = finds.less;
  }

  pub refusal_shown : (shards : ℕ) (command : Command) → call.CallRefused z shards command old new
      → line.ShowsRefusal (session_shown z old) (session_shown z new)
  refusal_shown shards command refused =
      let told = call_told shards old.pass.list.number (length old.posted) 0 (parts command) refused.outcomes in
      record {
        gone = refused.gone;
        done = map (λ (one : ℕ × Deed). one.1) told;
        new_is = same_shown refused.rest refused.posted refused.gone refused.reaped
            (own_deeds old.pass.list ++ map (λ (one : ℕ × Deed). one.1) told)
            (told_more old.pass.list.told new.pass.list.told told refused.cut.told);
        behind = of_the_call shards old.pass.list.number (length old.posted) 0 (parts command) refused.outcomes;
      }

  pub reap_shown : (number recycled : ℕ) → call.ReapsOne old new number recycled
      → line.ShowsOneReap (session_shown z old) (session_shown z new) number recycled
  reap_shown number recycled reaps = record {
    parcel = reaps.parcel;
    oldest = reaps.oldest;
    new_is = same_shown reaps.keeps.rest reaps.keeps.posted (reaps.parcel ∷ []) reaps.reaped (own_deeds old.pass.list)
        (ap own_deeds reaps.keeps.list);
    call_is = reaps.call_is;
    recycles = reaps.recycles;
  }

  pub none_shown : call.ReapsNone old new → line.ShowsNoReap (session_shown z old) (session_shown z new)
  none_shown none = record { new_is = ap (session_shown z) none.new_is; told = none.told }
