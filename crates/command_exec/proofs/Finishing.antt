-- A call's reply becomes a parcel, or is given up.
use Rattle.std.proofs.Common.{◌≡◌, ℕ, ◌+◌, ◌≤◌, Bool, true, false, cond, List, [], ◌∷◌, ◌++◌, None, length, take, drop}
use Rattle.std.proofs.Common.{map, refl, ap, sym, ◌∙◌, subst, arith, append-nil}
use Rattle.std.proofs.lemmas.List.{map-append, length-take-le}
use Rattle.std.specs.Prelude.{nat_le}
use Rattle.view_sums.specs.Total.{total, same}
use Rattle.view_sums.proofs.Sums.{total-append}
use Rattle.pin_core.specs.Holding.{Holding}
use Rattle.pin_core.specs.declared.class.Class.{Class}
use Rattle.pin_core.specs.declared.sizes.Sizes.{Sizes}
use Rattle.pinned_pool.specs.Addresses.{address_of}
use Rattle.pinned_pool.specs.Classes.{buffers_in}
use Rattle.pinned_pool.specs.Moves.{without_keys, split_old}
use Rattle.pinned_pool.specs.Sought.{Sought}
use Rattle.pinned_pool.specs.Views.{among, looked_at}
use Rattle.pinned_pool.specs.declared.view.View.{View}
use Rattle.flake_base.specs.declared.segment.Seg.{Seg}
use Rattle.flake_model.specs.Command.{Command, parts}
use Rattle.flake_model.specs.Resp.{crlf}
use Rattle.flake_model.specs.Reply.{reply_of, reply_text}
use Rattle.frag_value.specs.Taken.{PlacedRun, copied, whole}
use Rattle.frag_value.specs.Taken as taken
use Rattle.reply_layout.specs.declared.need.Need.{Need}
use Rattle.reply_layout.specs.Frames.{Frame}
use Rattle.reply_layout.specs.Layout as layout
use Rattle.reply_layout.specs.Layout.{Placing, placing_of, placings_of, copied_of, pinned_of, layout_of}
use Rattle.reply_layout.specs.Layout.{staging_buffers_for}
use Rattle.reply_layout.specs.Need.{need_of}
use Rattle.reply_layout.specs.Pieces.{Piece, plain, reply_from, pieces_of}
use Rattle.reply_layout.proofs.Texts.{pieces_text}
use Rattle.reply_layout.specs.Gathered.{copied_text}
use Rattle.reply_planner.specs.Laid.{stored_run, begun_pieces, pieces_in, pieces_so_far}
use Rattle.reply_planner.specs.Owned.{AreOwn, own_at, bare_all, keys_for}
use Rattle.reply_planner.specs.Parcels.{Sent, lent}
use Rattle.reply_planner.specs.Places.{buffer_addresses}
use Rattle.reply_planner.specs.Planned.{Planned, planned, terms, paid_of, long_of, paid_by, paid_begun, paid_in}
use Rattle.reply_planner.specs.Planned.{copied_in}
use Rattle.reply_planner.specs.Sealed.{used_of, IsSealed, Keeps, Cancels}
use Rattle.reply_planner.specs.Stages.{IsOrdered, merged}
use Rattle.shard_core.specs.CallDemand.{call_pins}
use Rattle.shard_core.specs.Outcomes.{call_deeds}
use Rattle.shard_core.proofs.Needed.{for_moved}
use Rattle.reply_planner.specs.declared.terms.Terms.{Terms}
use Rattle.command_exec.specs.Alike.{Alike}
use Rattle.command_exec.specs.Executed.{Executes, FallsShort}
use Rattle.command_exec.specs.Passes.{PassView, pass_of, IsPass}
use Rattle.command_exec.specs.Running.{KeepsPass, HasReply, LacksMemory}
use Rattle.command_exec.proofs.AlikePieces.{layout_alike, copied_alike, pinned_alike, pinned_laid}
use Rattle.command_exec.proofs.Ordered.{merged-rest, take-fewer, take-map, total-parts}
use Rattle.command_exec.proofs.SoFar.{answers_from}
use Rattle.command_exec.proofs.Staged.{layout_first, copied_length, pieces_some}

-- what was sought between seats whose claims and looks are those of others
moved : (z : Sizes) (rows : Class → ℕ) (n : ℕ) (u v u' v' : View) → Sought z rows n u v → u.claims ≡ u'.claims
    → u.looks ≡ u'.looks → v'.claims ≡ v.claims → v'.looks ≡ v.looks → Sought z rows n u' v'
moved z rows n u v u' v' one claims looks now_claims now_looks = record {
  missed = one.missed;
  missed_are = one.missed_are;
  claims = λ class. omega (arith, one.claims class, ap (buffers_in z class) claims, ap (buffers_in z class) now_claims);
  looks = λ b near. omega (arith, one.looks b near, ap (looked_at b) looks, ap (looked_at b) now_looks);
}

-- no more is paid for than stays
pinned-append : (ps qs : List Placing) → pinned_of (ps ++ qs) ≡ pinned_of ps + pinned_of qs
pinned-append [] qs = omega arith
pinned-append (layout.copied n ∷ ps) qs = pinned-append ps qs
pinned-append (layout.pinned seg ∷ ps) qs = omega (arith, pinned-append ps qs)

pinned-pieces : (t : ℕ) (xs ys : List Piece) → pinned_of (placings_of t (xs ++ ys)) ≡ pinned_of (placings_of t xs)
    + pinned_of (placings_of t ys)
pinned-pieces t xs ys = ap pinned_of (map-append (placing_of t) xs ys) ∙ pinned-append (placings_of t xs)
    (placings_of t ys)

cond_most : (b : Bool) (n : ℕ) → cond b 0 n ≤ n
cond_most true n = omega arith
cond_most false n = omega arith

long_kept : (b : Bool) (seg : Seg) (n : ℕ) → cond b 1 0 ≤ pinned_of (cond b (layout.pinned seg) (layout.copied n) ∷ [])
long_kept true seg n = omega arith
long_kept false seg n = omega arith

one_paid : (t : ℕ) (f : PlacedRun) → paid_of t f ≤ pinned_of (placing_of t (stored_run f) ∷ [])
one_paid t f =
    omega (
      arith,
      cond_most f.over (long_of t f),
      long_kept (nat_le t (length f.bytes)) (layout.segment (f.address + f.offset) (length f.bytes)) (length f.bytes),
    )

runs_paid : (t : ℕ) (fs : List PlacedRun) → total (paid_of t) fs ≤ pinned_of (placings_of t (map stored_run fs))
runs_paid t [] = omega arith
runs_paid t (f ∷ fs) =
    omega (
      arith,
      one_paid t f,
      runs_paid t fs,
      pinned-append (placing_of t (stored_run f) ∷ [])
          (placings_of t (map stored_run fs)),
    )

taken_paid : (t : ℕ) (ps : List taken.TakenPiece) → total (paid_by t) ps ≤ pinned_of (placings_of t (pieces_in ps))
taken_paid t [] = omega arith
taken_paid t (copied bytes ∷ ps) = omega (arith, taken_paid t ps)
taken_paid t (whole b ∷ ps) =
    omega (arith, runs_paid t b.frags, taken_paid t ps, pinned-pieces t (begun_pieces b) (plain crlf ∷ pieces_in ps))

paid_few : (t : ℕ) (p : Planned) → p.begun ≡ None → p.base.threshold ≡ t
    → paid_in p ≤ pinned_of (placings_of t (pieces_in p.taken))
paid_few t p none is =
    omega (arith, taken_paid t p.taken, ap (λ m. total (paid_by m) p.taken) is, ap (paid_begun p.base.threshold) none)

-- the pass behind the start of a plan
abbrev pub begin_of : Need → PassView → PassView
begin_of need old = pass_of old.list (split_old [] (need.descriptors + 3) old.seat) old.stage (drop need.stage old.free)
    old.threshold

pub begin_is : (z : Sizes) (need : Need) (old : PassView) → IsPass z old → IsPass z (begin_of need old)
begin_is z need old is = record {
  own = λ b. omega (arith, is.own b, total-parts (λ c. same c b) need.stage old.free);
  count = is.count;
  rising = is.rising;
  small = is.small;
  threshold = is.threshold;
}

-- what the plan's start fixed
abbrev pub base_of : Need → PassView → Terms
base_of need old = terms need.descriptors (take need.stage old.free) old.threshold

pub own_all : (need : Need) (old mid : PassView) (p : Planned) → AreOwn old.seat.holds old.free
    → KeepsPass (begin_of need old) mid → p.base ≡ base_of need old → AreOwn mid.seat.holds (mid.free ++ p.base.stage)
own_all need old mid p own keeps base b =
    omega (
      arith,
      own b,
      total-parts (λ c. same c b) need.stage old.free,
      total-append (λ c. same c b) mid.free p.base.stage,
      ap (λ l. among b l) keeps.free,
      ap (λ (l : List Holding). total (own_at b) l) keeps.seat.holds,
      ap (λ (terms : Terms). among b terms.stage) base,
    )

-- a frame of its parts
abbrev frame_of : List Seg → List ℕ → ℕ → ℕ → Frame
frame_of segments lent pinned bytes = record { segments = segments; lent = lent; pinned = pinned; bytes = bytes }

module _ (z : Sizes) (shards call : ℕ) (command : Command) (old mid : PassView) (segs_before segs : List Seg)
    (p : Planned) (enough : (need_of command).stage ≤ length old.free)
    (rich : (need_of command).descriptors + 5 ≤ old.seat.credits)
    (ordered : IsOrdered old.free) (base : p.base ≡ base_of (need_of command) old) where
  pub executes : (parcel : Sent) (seat : View) (free : List ℕ)
      → HasReply z shards call command (begin_of (need_of command) old) mid segs_before segs p
      → IsSealed z p call parcel → Keeps p parcel.staged mid.seat seat
      → free ≡ merged (drop (used_of p) p.base.stage) mid.free → Executes z shards command call old
      (pass_of mid.list seat mid.stage free mid.threshold) parcel segs_before segs
  executes parcel seat free reply sealed kept rest =
      let operations = parts command in
      let outcomes = reply.outcomes in
      let t = old.threshold in
      let few = (need_of command).stage in
      let deeds = call_deeds old.list.number call 0 operations outcomes in
      let pieces = pieces_of command deeds in
      let placings = placings_of t pieces in
      let keeps = reply.ran.keeps in
      let threshold : p.base.threshold ≡ t = ap (λ (b : Terms). b.threshold) base in
      let stage_is : p.base.stage ≡ take few old.free = ap (λ (b : Terms). b.stage) base in
      let alike : Alike t (pieces_in p.taken) pieces = subst (λ m. Alike m (pieces_in p.taken) pieces) threshold
      reply.pieces in
      let text_is : parcel.text ≡ reply_text (reply_from command deeds) = sealed.text ∙ alike.text
      ∙ pieces_text command deeds in
      let answers = answers_from old.list.number call operations outcomes reply.ran.running.are in
      let so_far : pieces_so_far p.taken p.begun ≡ pieces_in p.taken = ap (pieces_so_far p.taken) reply.begun
      ∙ append-nil (pieces_in p.taken) in
      let copied : copied_in p ≡ copied_of placings =
      ap (λ l. length (copied_text p.base.threshold l)) so_far ∙ ap (λ m. length (copied_text m (pieces_in p.taken)))
      threshold ∙ copied_length t (pieces_in p.taken) ∙ copied_alike t (pieces_in p.taken) pieces alike in
      let used : used_of p ≡ staging_buffers_for (copied_of placings) = ap staging_buffers_for copied in
      let stage_long : length p.base.stage ≡ few = ap (λ (l : List ℕ). length l) stage_is
      ∙ length-take-le few old.free enough in
      let within : staging_buffers_for (copied_of placings) ≤ few = omega (arith, sealed.in_stage, used, stage_long) in
      let staged_is : parcel.staged ≡ take (staging_buffers_for (copied_of placings)) old.free =
      sealed.staged ∙ (λ i. take (used i) (stage_is i)) ∙ take-fewer (staging_buffers_for (copied_of placings)) few
      old.free within in
      let staged_long : length parcel.staged ≡ staging_buffers_for (copied_of placings) =
      ap (λ (l : List ℕ). length l) staged_is ∙ length-take-le (staging_buffers_for (copied_of placings)) old.free
      (omega (arith, within, enough)) in
      let segments_are : parcel.segments ≡ layout_of (buffer_addresses z old.free) placings =
      sealed.segments
      ∙ ap (λ m. layout_of (buffer_addresses z p.base.stage) (placings_of m (pieces_in p.taken))) threshold
      ∙ layout_alike t (pieces_in p.taken) pieces (buffer_addresses z p.base.stage) alike
      ∙ ap (λ l. layout_of (buffer_addresses z l) placings) stage_is
      ∙ ap (λ l. layout_of l placings) (take-map (address_of z) few old.free)
      ∙ layout_first few (buffer_addresses z old.free) placings within in
      let pinned_is : parcel.pinned ≡ pinned_of placings =
      sealed.pinned ∙ ap (λ m. pinned_of (placings_of m (pieces_in p.taken))) threshold
      ∙ pinned_alike t (pieces_in p.taken) pieces alike in
      let lent_is : lent z parcel ≡ take (staging_buffers_for (copied_of placings)) (buffer_addresses z old.free) =
      ap (buffer_addresses z) staged_is ∙ take-map (address_of z) (staging_buffers_for (copied_of placings)) old.free in
      let some = pieces_some t command deeds in
      record {
        outcomes = outcomes;
        executed = record {
          running = record {
            are = reply.ran.running.are;
            told = reply.ran.running.told;
            sought = for_moved z _ _ _ (begin_of (need_of command) old).seat mid.seat old.seat seat
                reply.ran.running.sought refl refl kept.claims kept.looks;
            free = λ none.
                let before = reply.ran.running.free none in
                (kept.claims ∙ before.0, kept.looks ∙ before.1);
          };
          whole = reply.whole;
          text_is = text_is ∙ ap (λ a. reply_text (reply_of command a)) answers;
          pinned = omega (
            arith,
            reply.paid,
            sealed.paid,
            ap (λ m. call_pins m operations outcomes) threshold,
          );
        };
        number = keeps.number;
        looks = keeps.looks;
        call_is = sealed.call_is;
        frame = λ i. frame_of (segments_are i) (lent_is i) (pinned_is i) (length (text_is i));
        staged = staged_is ∙ ap (λ m. take m old.free) (sym staged_long);
        some = omega (arith, staged_long, some);
        in_ring = omega (arith, sealed.in_ring, ap (λ (b : Terms). b.descriptors) base);
        few = omega (
          arith,
          sealed.paid,
          paid_few t p reply.begun threshold,
          sealed.pinned,
          ap
              (λ m. pinned_of (placings_of m (pieces_in p.taken))) threshold,
          pinned_is,
          pinned_laid
              (buffer_addresses z old.free) placings,
          ap (λ (l : List Seg). length l) segments_are,
        );
        credits = omega (
          arith,
          kept.credits,
          sealed.paid,
          keeps.seat.credits,
          rich,
          ap (λ (b : Terms). b.descriptors)
              base,
        );
        holds = kept.holds ∙ ap (λ l. without_keys (keys_for parcel.staged) (bare_all l)) keeps.seat.holds;
        returns = kept.returns ∙ keeps.seat.returns;
        free = rest ∙ (λ i. merged (drop (used i) (stage_is i)) (keeps.free i))
            ∙ merged-rest (staging_buffers_for (copied_of placings)) few old.free within ordered
            ∙ ap (λ m. drop m old.free) (sym staged_long);
        stage = keeps.stage;
        threshold = keeps.threshold;
        stored = reply.ran.stored;
        in_buffers = reply.ran.in_buffers;
      }

  pub falls_short : (seat : View) (free : List ℕ) → LacksMemory z shards call command (begin_of (need_of command) old)
      mid → Cancels p mid.seat seat → free ≡ merged p.base.stage mid.free
      → FallsShort z shards command call old (pass_of mid.list seat mid.stage free mid.threshold)
  falls_short seat free stopped cancels rest =
      let keeps = stopped.keeps in
      let few = (need_of command).stage in
      record {
        outcomes = stopped.outcomes;
        cut = record {
          are = stopped.cut.are;
          short = stopped.cut.short;
          told = stopped.cut.told;
          sought = moved z _ _ (begin_of (need_of command) old).seat mid.seat old.seat seat stopped.cut.sought refl refl
              cancels.claims cancels.looks;
        };
        number = keeps.number;
        looks = keeps.looks;
        holds = ap bare_all (cancels.holds ∙ keeps.seat.holds);
        credits = omega (arith, cancels.credits, keeps.seat.credits, rich, ap (λ (b : Terms). b.descriptors) base);
        returns = omega (arith, cancels.returns, keeps.seat.returns);
        free = rest ∙ (λ i. merged (base i).stage (keeps.free i)) ∙ merged-rest 0 few old.free (omega arith) ordered;
        stage = keeps.stage;
        threshold = keeps.threshold;
      }

-- A plan was started: this is the pass that was given, the same with its fields, and what the start left of it.
pub record Starts (command : Command) (given old begin : PassView) (p : Planned) : Type 0 where
  pub given_is : old ≡ given
  pub enough : (need_of command).stage ≤ length given.free
  pub rich : (need_of command).descriptors + 5 ≤ given.seat.credits
  pub ordered : IsOrdered old.free
  pub begin_with : begin ≡ begin_of (need_of command) old
  pub base : p.base ≡ base_of (need_of command) old

pub starts_of : (command : Command) (given old : PassView) (need : Need) (seat : View) (free : List ℕ) (p : Planned)
    → old ≡ given → (need_of command).stage ≤ length given.free → (need_of command).descriptors + 5 ≤ given.seat.credits
    → IsOrdered old.free
    → need ≡ need_of command → seat ≡ split_old [] (need.descriptors + 3) old.seat → free ≡ drop need.stage old.free
    → p ≡ planned (base_of need old) [] None
    → Starts command given old (pass_of old.list seat old.stage free old.threshold) p
starts_of command given old need seat free p given_is enough rich ordered need_is seat_is free_is plan_is = record {
  given_is = given_is;
  enough = enough;
  rich = rich;
  ordered = ordered;
  begin_with = (λ i. pass_of old.list (seat_is i) old.stage (free_is i) old.threshold)
      ∙ ap (λ n. begin_of n old) need_is;
  base = ap (λ (q : Planned). q.base) plan_is ∙ ap (λ n. base_of n old) need_is;
}

pub starts_own : (command : Command) (given old begin mid two : PassView) (p q : Planned)
    → Starts command given old begin p → AreOwn old.seat.holds old.free → two ≡ mid → q.base ≡ p.base
    → KeepsPass begin mid → AreOwn two.seat.holds (two.free ++ q.base.stage)
starts_own command given old begin mid two p q starts own same base keeps =
    own_all (need_of command) old two q own
    (subst (λ m. KeepsPass (begin_of (need_of command) old) m) (sym same)
    (subst (λ b. KeepsPass b mid) starts.begin_with keeps)) (base ∙ starts.base)

module _ (z : Sizes) (shards call : ℕ) (command : Command) (given old begin mid two : PassView)
    (segs_before segs : List Seg) (p q : Planned) (starts : Starts command given old begin p) (same : two ≡ mid)
    (base : q.base ≡ p.base) where
  pub starts_executes : (parcel : Sent) (seat : View) (free : List ℕ)
      → HasReply z shards call command begin mid segs_before segs q → IsSealed z q call parcel
      → Keeps q parcel.staged two.seat seat
      → free ≡ merged (drop (used_of q) q.base.stage) two.free → Executes z shards command call given
      (pass_of two.list seat two.stage free two.threshold) parcel segs_before segs
  starts_executes parcel seat free reply sealed kept rest =
      let enough = subst (λ (o : PassView). (need_of command).stage ≤ length o.free) (sym starts.given_is) starts.enough
      in
      let rich = subst (λ (o : PassView). (need_of command).descriptors + 5 ≤ o.seat.credits)
      (sym starts.given_is) starts.rich in
      let now : HasReply z shards call command (begin_of (need_of command) old) two segs_before segs q =
      subst (λ m. HasReply z shards call command (begin_of (need_of command) old) m segs_before segs q) (sym same)
      (subst (λ b. HasReply z shards call command b mid segs_before segs q) starts.begin_with reply) in
      subst (λ o. Executes z shards command call o (pass_of two.list seat two.stage free two.threshold) parcel
      segs_before segs) starts.given_is
      (executes z shards call command old two segs_before segs q enough rich starts.ordered (base ∙ starts.base) parcel
      seat free now sealed kept rest)

  pub starts_falls : (seat : View) (free : List ℕ) → LacksMemory z shards call command begin mid
      → Cancels q two.seat seat → free ≡ merged q.base.stage two.free
      → FallsShort z shards command call given (pass_of two.list seat two.stage free two.threshold)
  starts_falls seat free stopped cancels rest =
      let enough = subst (λ (o : PassView). (need_of command).stage ≤ length o.free) (sym starts.given_is) starts.enough
      in
      let rich = subst (λ (o : PassView). (need_of command).descriptors + 5 ≤ o.seat.credits)
      (sym starts.given_is) starts.rich in
      let now : LacksMemory z shards call command (begin_of (need_of command) old) two =
      subst (λ m. LacksMemory z shards call command (begin_of (need_of command) old) m) (sym same)
      (subst (λ b. LacksMemory z shards call command b mid) starts.begin_with stopped) in
      subst (λ o. FallsShort z shards command call o (pass_of two.list seat two.stage free two.threshold))
      starts.given_is
      (falls_short z shards call command old two segs_before segs q enough rich starts.ordered (base ∙ starts.base) seat
      free now cancels rest)
