-- Room for the next reply, made by reaps.
use Rattle.std.proofs.Common.{◌≡◌, ℕ, ◌+◌, ◌-◌, ◌^◌, ◌<◌, ⊎_elim, List, [], ◌∷◌, ◌++◌, length, drop, sym, refl, ap, ◌∙◌}
use Rattle.std.proofs.Common.{subst, append-nil, append_assoc, length-append, arith}
use Rattle.std.proofs.lemmas.Bool.{cases_lt}
use Rattle.std.proofs.lemmas.Option.{slice_get_within}
use Rattle.reply_planner.specs.Parcels.{Sent}
use Rattle.reply_layout.specs.declared.need.Need.{Need}
use Rattle.session_pass.specs.Views.{SessionView}
use Rattle.session_pass.specs.Waiting.{waiting, room_left, free_of, FitsBeside}
use Rattle.session_pass.specs.Calls.{KeepsRest, KeepsAll, ReapsOne, ReapsNone, CallReaps}
use Rattle.session_pass.specs.Kept.{IsSessionSound}
use Rattle.session_pass.specs.Refused.{HasReaped}

pub rest_same : (s : SessionView) → KeepsRest s s
rest_same s = record {
  number = refl;
  looks = refl;
  stage = refl;
  threshold = refl;
  opened = refl;
  ring = refl;
  told = refl;
}

pub rest_then : {s t u : SessionView} → KeepsRest s t → KeepsRest t u → KeepsRest s u
rest_then first then = record {
  number = then.number ∙ first.number;
  looks = then.looks ∙ first.looks;
  stage = then.stage ∙ first.stage;
  threshold = then.threshold ∙ first.threshold;
  opened = then.opened ∙ first.opened;
  ring = then.ring ∙ first.ring;
  told = then.told ∙ first.told;
}

pub keeps_then : {s t u : SessionView} → KeepsAll s t → KeepsAll t u → KeepsAll s u
keeps_then first then = record {
  rest = rest_then first.rest then.rest;
  list = then.list ∙ first.list;
  claims = then.claims ∙ first.claims;
  looks = then.looks ∙ first.looks;
  posted = then.posted ∙ first.posted;
  stopped = then.stopped ∙ first.stopped;
}

pub reaped_none : (s : SessionView) → HasReaped 0 s s
reaped_none s = record {
  gone = [];
  freed_is = refl;
  reaped = sym (append-nil s.reaped);
  keeps = record { rest = rest_same s; list = refl; claims = refl; looks = refl; posted = refl; stopped = refl };
  misses = refl;
}

pub reaped_more : {n call recycled : ℕ} {old now next : SessionView} → HasReaped n old now
    → ReapsOne now next call recycled
    → HasReaped (n + 1) old next
reaped_more {old = old} before one = record {
  gone = before.gone ++ one.parcel ∷ [];
  freed_is = omega (arith, before.freed_is, length-append before.gone (one.parcel ∷ []));
  reaped = one.reaped ∙ ap (λ (l : List Sent). l ++ one.parcel ∷ []) before.reaped ∙ append_assoc old.reaped before.gone
      (one.parcel ∷ []);
  keeps = keeps_then before.keeps one.keeps;
  misses = one.misses ∙ before.misses;
}

-- the replies that wait then
pub waits_behind : {n : ℕ} {old now : SessionView} → HasReaped n old now → waiting now 0 ≡ waiting old n
waits_behind {n} {old} {now} reaps =
    let place : length now.reaped + 0 ≡ length old.reaped + n =
    omega (arith, ap length reaps.reaped, length-append old.reaped reaps.gone, reaps.freed_is) in
    ap (drop (length now.reaped + 0)) reaps.keeps.posted ∙ ap (λ k. drop k old.posted) place

pub fits_behind : {n : ℕ} {old now : SessionView} (needed : Need) → HasReaped n old now
    → FitsBeside old.ring old.pass.stage (waiting old n) needed → FitsBeside now.ring now.pass.stage
    (waiting now 0) needed
fits_behind {n} {old} {now} needed reaps fits = record {
  in_ring = omega (
    arith,
    fits.in_ring,
    ap (λ r. room_left r (waiting now 0)) reaps.keeps.rest.ring,
    ap
        (room_left old.ring) (waits_behind reaps),
  );
  in_stage = omega (
    arith,
    fits.in_stage,
    ap (λ (l : List ℕ). length (free_of l (waiting now 0))) reaps.keeps.rest.stage,
    ap (λ (l : List Sent). length (free_of old.pass.stage l)) (waits_behind reaps),
  );
}

-- fewer reaps made no room
pub record RoomSoFar (needed : Need) (freed : ℕ) (old now : SessionView) : Type 0 where
  pub reaps : HasReaped freed old now
  pub least : (fewer : ℕ) → fewer < freed → FitsBeside old.ring old.pass.stage (waiting old fewer) needed → ⊥

pub room_none : (needed : Need) (s : SessionView) → RoomSoFar needed 0 s s
room_none needed s = record { reaps = reaped_none s; least = λ fewer below fits. absurd (omega arith) }

pub room_more : {n call recycled : ℕ} {old now next : SessionView} (needed : Need) → RoomSoFar needed n old now
    → (FitsBeside now.ring now.pass.stage (waiting now 0) needed → ⊥) → ReapsOne now next call recycled
    → RoomSoFar needed (n + 1) old next
room_more {n} {old = old} needed before short one = record {
  reaps = reaped_more before.reaps one;
  least = λ fewer below fits.
      ⊎_elim
      (λ less. before.least fewer less fits)
      (λ same.
      let e : fewer ≡ n = omega arith in
      short (fits_behind needed before.reaps
      (subst (λ k. FitsBeside old.ring old.pass.stage (waiting old k) needed) e fits)))
      (cases_lt fewer n);
}

-- a reply waits that is reaped, so the count of reaps is below that of calls
pub reaps_few : {n call recycled : ℕ} {old now next : SessionView} → HasReaped n old now
    → ReapsOne now next call recycled
    → IsSessionSound now → n + 1 < 2 ^ 32
reaps_few {old = old} {now} before one is =
    omega (
      arith,
      before.freed_is,
      ap length before.reaped,
      length-append old.reaped before.gone,
      slice_get_within now.posted (length now.reaped) one.parcel one.oldest,
      is.count,
    )

-- a reap brings the end nearer
pub reaps_nearer : {call recycled : ℕ} {now next : SessionView} → ReapsOne now next call recycled
    → length next.posted - length next.reaped < length now.posted - length now.reaped
reaps_nearer {now = now} one =
    omega (
      arith,
      ap length one.reaped,
      length-append now.reaped (one.parcel ∷ []),
      ap length one.keeps.posted,
      slice_get_within now.posted (length now.reaped) one.parcel one.oldest,
    )

-- the oldest one was found not to be sent
pub reaps_stop : {n : ℕ} {old now next : SessionView} → HasReaped n old now → ReapsNone now next
    → length now.reaped < length now.posted → CallReaps old next
reaps_stop {old = old} {now} {next} before none waits = record {
  gone = before.gone;
  reaped = ap (λ (s : SessionView). s.reaped) none.new_is ∙ before.reaped;
  keeps = subst (KeepsAll old) (sym none.new_is) (record {
    rest = record {
      number = before.keeps.rest.number;
      looks = before.keeps.rest.looks;
      stage = before.keeps.rest.stage;
      threshold = before.keeps.rest.threshold;
      opened = before.keeps.rest.opened;
      ring = before.keeps.rest.ring;
      told = before.keeps.rest.told;
    };
    list = before.keeps.list;
    claims = before.keeps.claims;
    looks = before.keeps.looks;
    posted = before.keeps.posted;
    stopped = before.keeps.stopped;
  });
  told = omega (arith, none.told, before.keeps.rest.told, ap (λ (s : SessionView). length s.reaped) none.new_is);
  miss =
      ⊎_elim
      (λ all. absurd (omega (arith, ap length all.0)))
      (λ missed. missed.0 ∙ ap (λ (l : List ℕ). l ++ length now.reaped ∷ []) before.misses
      ∙ ap (λ k. old.misses ++ k ∷ []) (ap (λ (s : SessionView). length s.reaped) (sym none.new_is)))
      none.cause;
  more = omega (
    arith,
    ap (λ (s : SessionView). length s.reaped) none.new_is,
    ap (λ (s : SessionView). length s.posted)
        none.new_is,
  );
}

-- reaps before those of a call
pub reaps_then : {n : ℕ} {old now next : SessionView} → HasReaped n old now → CallReaps now next → CallReaps old next
reaps_then {old = old} {next = next} before more = record {
  gone = before.gone ++ more.gone;
  reaped = more.reaped ∙ ap (λ (l : List Sent). l ++ more.gone) before.reaped
      ∙ append_assoc old.reaped before.gone more.gone;
  keeps = keeps_then before.keeps more.keeps;
  told = omega (arith, more.told, before.keeps.rest.told);
  miss = more.miss ∙ ap (λ (l : List ℕ). l ++ length next.reaped ∷ []) before.misses;
  more = more.more;
}
