-- Both ends of a ring at hand, and what a device gathers, as lines are judged by it.
use Rattle.std.proofs.Common.{◌≡◌, ℕ, Bool, true, false, List, [], ◌∷◌, ◌++◌, Option, length, refl, ap, sym, ◌∙◌, subst}
use Rattle.std.proofs.Common.{append-nil}
use Rattle.std.specs.Borrow.{Bor}
use Rattle.any_wire.specs.Sends.{Sends, Flushes}
use Rattle.any_wire.proofs.Sending.{sends-flush}
use Rattle.flake_base.specs.declared.session.End.{End}
use Rattle.flake_model.specs.Command.{Command}
use Rattle.pin_core.specs.declared.sizes.Sizes.{Sizes}
use Rattle.reply_planner.specs.Parcels.{Sent}
use Rattle.tx_descriptor.specs.declared.framed.Framed.{Ghosts}
use Rattle.tx_ring.specs.Changes.{IsPrefix}
use Rattle.tx_ring.specs.Shown.{device_view, completed}
use Rattle.tx_ring.specs.declared.device.DeviceEnd.{DeviceEnd}
use Rattle.device_model.specs.Devices.{sent_texts, Forwards, IsFound, IfIdle}
use Rattle.device_model.specs.declared.gathered.Gathered.{Gathered}
use Rattle.device_model.specs.declared.gathered.Gathered.TheVariants as found
use Rattle.session_pass.specs.Views.{SessionView}
use Rattle.transcript_model.specs.Lines as event
use Rattle.transcript_model.specs.Lines.{LineEvent}
use Rattle.drive_script.specs.Calls.{BothEnds}
use Rattle.drive_script.specs.Views.{SessionShown, DeviceShown}
use Rattle.drive_script.specs.declared.happened.Happened.{Happened}
use Rattle.drive_script.specs.declared.happened.Happened.TheVariants as Happen
use Rattle.drive_script.specs.Happened.{line_event}
use Rattle.drive_script.specs.Shown.{session_shown, device_shown}
use Rattle.drive_script.specs.Connections.{Fixed, IsConnection, sends_by}
use Rattle.any_wire.proofs.Behind.{stays-behind}
use Rattle.drive_script.proofs.ByPuts.{puts_are_sending}
use Rattle.drive_script.proofs.Connections.{connection_sent, connection_dropped, connection_empty, told_again}

pub both_shown : (z : Sizes) (old new : SessionView) {g : Ghosts Sent} (failed failed' : Bool)
    (end end' : DeviceEnd Sent g) → new ≡ record old { told = length (completed end) }
    → device_view end' ≡ record (device_view end) { told = length old.posted } → failed' ≡ failed
    → IsPrefix old.reaped (completed end) → IsPrefix (completed end) old.posted
    → BothEnds (session_shown z old) (session_shown z new) (device_shown failed end) (device_shown failed' end')
both_shown z old new failed failed' end end' session device flag reaped posted = record {
  session = ap (session_shown z) session;
  device = λ i. record { completed = (device i).completed; failed = flag i; told = (device i).told };
  in_order = record {
    reaped = (
      reaped.0,
      ap (λ view. view.completed) device ∙ reaped.1 ∙ ap (λ (s : SessionView). s.reaped ++ reaped.0)
          (sym session),
    );
    completed = (
      posted.0,
      ap (λ (s : SessionView). s.posted) session ∙ posted.1
          ∙ ap (λ view. view.completed ++ posted.0) (sym device),
    );
  };
}

cancelled : {A : Type 0} (xs ys zs : List A) → xs ++ ys ≡ xs ++ zs → ys ≡ zs
cancelled [] ys zs is = is
cancelled (x ∷ xs) ys zs is = cancelled xs ys zs (cc)

module _ {W : Type 0} (put_may : W → Bor (List ℕ) → (W × Bool) → Type 0) (flush_may : W → (W × Bool) → Type 0)
    (z : Sizes) (fixed : Fixed) (start : W) (given : List Command) (end : Option End) (events : List LineEvent)
    (session session' : SessionView) {g : Ghosts Sent} (failed now failed' : Bool)
    (device gathered device' : DeviceEnd Sent g) (old new : W)
    (both : BothEnds (session_shown z session) (session_shown z session') (device_shown now gathered)
    (device_shown failed' device'))
    (connection : IsConnection (sends_by put_may flush_may) fixed start given end events (session_shown z session)
    (device_shown failed device) old) where
  -- the text of the one reply that was taken was put
  one_text : (reply : Sent) → completed gathered ≡ completed device ++ reply ∷ []
      → Forwards put_may flush_may failed now (completed device) (completed gathered) old new
      → Sends put_may flush_may failed now reply.text old new
  one_text reply one forwards =
      let taken : forwards.taken ≡ reply ∷ [] = cancelled (completed device) forwards.taken (reply ∷ [])
      (sym forwards.in_order ∙ one) in
      subst (λ text. Sends put_may flush_may failed now text old new) (ap sent_texts taken ∙ append-nil reply.text)
      forwards.sends

  pub sent_right : (call bytes : ℕ) → IsFound (found.Sent call bytes) now device gathered
      → Forwards put_may flush_may failed now (completed device) (completed gathered) old new
      → IsConnection (sends_by put_may flush_may) fixed start given end (events ++ event.sent call bytes ∷ [])
      (session_shown z session') (device_shown failed' device') new
  sent_right call bytes is forwards =
      let next = is.1 in
      let sends = one_text next.reply next.completed_is forwards in
      let before : failed ≡ false = unfailed failed refl in
      connection_sent fixed given end events (sends_by put_may flush_may) (puts_are_sending put_may flush_may) start
      (session_shown z session) (session_shown z session') (device_shown failed device) (device_shown now gathered)
      (device_shown failed' device') old new call bytes connection
      (record {
        parcel = next.reply;
        completed = next.completed_is;
        told = next.told_is;
        call_is = next.call_is;
        bytes_are = next.bytes_is;
        failed = is.0;
        stays = λ same. before;
      }) both
      (subst (λ b. Sends put_may flush_may b false next.reply.text old new) before
      (subst (λ b. Sends put_may flush_may failed b next.reply.text old new) is.0 sends))
    where
      unfailed : (b : Bool) → failed ≡ b → failed ≡ false
      unfailed false flag = flag
      unfailed true flag =
          let sends = one_text is.1.reply is.1.completed_is forwards in
          let stayed = stays-behind put_may flush_may now is.1.reply.text old new
          (subst (λ b. Sends put_may flush_may b now is.1.reply.text old new) flag sends) in
          let never : false ≡ true = sym is.0 ∙ stayed.1 in absurd (cc)

  pub dropped_right : (call bytes : ℕ) → IsFound (found.Dropped call bytes) now device gathered
      → Forwards put_may flush_may failed now (completed device) (completed gathered) old new
      → IsConnection (sends_by put_may flush_may) fixed start given end (events ++ event.dropped call bytes ∷ [])
      (session_shown z session') (device_shown failed' device') new
  dropped_right call bytes is forwards =
      let next = is.1 in
      let sends = one_text next.reply next.completed_is forwards in
      connection_dropped fixed given end events (sends_by put_may flush_may) (puts_are_sending put_may flush_may) start
      (session_shown z session) (session_shown z session') (device_shown failed device) (device_shown now gathered)
      (device_shown failed' device') old new call bytes connection
      (record {
        parcel = next.reply;
        completed = next.completed_is;
        told = next.told_is;
        call_is = next.call_is;
        bytes_are = next.bytes_is;
        failed = is.0;
        stays = λ same. let never : false ≡ true = same in absurd (cc);
      })
      both
      (λ flag. subst (λ b. Sends put_may flush_may b true next.reply.text old new) flag
      (subst (λ b. Sends put_may flush_may failed b next.reply.text old new) is.0 sends))
      (λ flag. (stays-behind put_may flush_may now next.reply.text old new
      (subst (λ b. Sends put_may flush_may b now next.reply.text old new) flag sends)).0)

  pub empty_right : IsFound found.Empty now device gathered → Flushes flush_may failed now old new
      → IsConnection (sends_by put_may flush_may) fixed start given end (events ++ event.nothing_posted ∷ [])
      (session_shown z session') (device_shown failed' device') new
  empty_right is flushed =
      let sends = sends-flush put_may flush_may failed now old new flushed in
      let view = is.1.view in
      let said = connection_empty fixed given end events (sends_by put_may flush_may) (puts_are_sending put_may
      flush_may)
      start (session_shown z session) (device_shown failed device) (device_shown now gathered) old new connection
      (record {
        new_is = λ i. record { completed = (view i).completed; failed = now; told = (view i).told };
        stays = λ flag. (stays-behind put_may flush_may now [] old new
            (subst (λ b. Sends put_may flush_may b now [] old new) flag sends)).1;
        told = is.1.told;
      })
      (λ flag. subst (λ b. Sends put_may flush_may b now [] old new) flag sends)
      (λ flag. (stays-behind put_may flush_may now [] old new
      (subst (λ b. Sends put_may flush_may b now [] old new) flag sends)).0) in
      let again = told_again fixed given end said.whole (events ++ event.nothing_posted ∷ []) (session_shown z session)
      (session_shown z session') (device_shown now gathered) (device_shown failed' device') said.driven both.session
      both.device in
      subst (λ (s : SessionShown). IsConnection (sends_by put_may flush_may) fixed start given end
      (events ++ event.nothing_posted ∷ []) s (device_shown failed' device') new) (sym again.0)
      (subst (λ (d : DeviceShown). IsConnection (sends_by put_may flush_may) fixed start given end
      (events ++ event.nothing_posted ∷ []) (session_shown z session) d new) (sym again.1) said)

  -- the same of what was found and what is said of it
  module _ (result : Gathered) (happened : Happened)
      (forwards : Forwards put_may flush_may failed now (completed device) (completed gathered) old new)
      (is : IsFound result now device gathered) where
    abbrev IsSaid : Happened → Type 0
    IsSaid h = IsConnection (sends_by put_may flush_may) fixed start given end (events ++ line_event h [] [] ∷ [])
        (session_shown z session') (device_shown failed' device') new

    pub sent_said : (call bytes : ℕ) → result ≡ found.Sent call bytes → happened ≡ Happen.Sent call bytes
        → IsSaid happened
    sent_said call bytes same said = subst (λ (h : Happened). IsSaid h) (sym said)
        (sent_right call bytes (subst (λ (r : Gathered). IsFound r now device gathered) same is) forwards)

    pub dropped_said : (call bytes : ℕ) → result ≡ found.Dropped call bytes → happened ≡ Happen.Dropped call bytes
        → IsSaid happened
    dropped_said call bytes same said = subst (λ (h : Happened). IsSaid h) (sym said)
        (dropped_right call bytes (subst (λ (r : Gathered). IsFound r now device gathered) same is) forwards)

    pub empty_said : IfIdle result (Flushes flush_may failed now old new) → result ≡ found.Empty
        → happened ≡ Happen.NothingPosted → IsSaid happened
    empty_said flushed same said = subst (λ (h : Happened). IsSaid h) (sym said)
        (empty_right (subst (λ (r : Gathered). IsFound r now device gathered) same is)
        (subst (λ (r : Gathered). IfIdle r (Flushes flush_may failed now old new)) same flushed))

-- nothing was completed
pub none_completed : {g : Ghosts Sent} (device gathered device' : DeviceEnd Sent g) (now : Bool) (posted : ℕ)
    (result : Gathered) → IsFound result now device gathered → result ≡ found.Empty
    → device_view device' ≡ record (device_view gathered) { told = posted } → completed device' ≡ completed device
none_completed device gathered device' now posted result is same view =
    let none = subst (λ (r : Gathered). IsFound r now device gathered) same is in
    ap (λ v. v.completed) view ∙ ap (λ v. v.completed) none.1.view

pub idle : (F : Type 0) (result : Gathered) → result ≡ found.Empty → IfIdle result F → F
idle F result same is = subst (λ (r : Gathered). IfIdle r F) same is
