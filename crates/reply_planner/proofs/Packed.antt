-- A parcel that is packed.
use Rattle.std.proofs.Common.{◌≡◌, ⊎_elim, ℕ, zero, suc, ◌+◌, ◌*◌, ◌/◌, ◌%◌, ◌^◌, ◌<◌, ◌≤◌, List, [], ◌++◌, length, map}
use Rattle.std.proofs.Common.{take, drop, get_or, cond, sym, refl, ap, ◌∙◌, subst, append-nil, arith}
use Rattle.std.specs.List.{take-map}
use Rattle.std.proofs.lemmas.Bool.{lt-ltb}
use Rattle.std.proofs.lemmas.List.{length-map, length-take, get_or-map, get_or-take, take-append-drop}
use Rattle.view_sums.specs.Total.{total, same, Each}
use Rattle.view_sums.proofs.Sums.{total-append}
use Rattle.view_sums.proofs.Eachs.{each-imp}
use Rattle.pin_core.specs.Buffers.{buffer_words}
use Rattle.pin_core.specs.Holding.{Holding, Key, at}
use Rattle.pin_core.specs.declared.sizes.Sizes.{Sizes}
use Rattle.pinned_pool.specs.Addresses.{address_of, Covers}
use Rattle.pinned_pool.specs.Bytes.{bytes_of_words}
use Rattle.pinned_pool.specs.Views.{among}
use Rattle.pinned_pool.specs.Moves.{hold_key, front_of, holds_for, without_keys, losing, gaining, joined_views}
use Rattle.pinned_pool.specs.Moves.{split_old, split_new, HasHolds}
use Rattle.pinned_pool.specs.Named.{IsSeat}
use Rattle.pinned_pool.specs.declared.view.View.{View}
use Rattle.pinned_pool.proofs.AfterSteps.{front-append, front-joined, front-taken_by}
use Rattle.frag_value.proofs.Lists.{each-take}
use Rattle.flake_base.specs.declared.segment.Seg.{Seg}
use Rattle.reply_layout.specs.Layout.{staging_buffers_for, copied_address}
use Rattle.reply_layout.specs.Gathered.{IsStaged}
use Rattle.reply_planner.specs.Filled.{IsFilledWith}
use Rattle.reply_planner.specs.Owned.{AreOwn, bare_all, keys_for, fresh_all, key_buffers, IsStaging, OnlyTookHolds}
use Rattle.reply_planner.specs.Parcels.{IsLaid, IsParcelOf, Hands}
use Rattle.reply_planner.specs.Places.{place_of, buffer_bytes, reading, buffer_addresses, IsHeld, IsReadable}
use Rattle.reply_planner.specs.Stages.{merged}
use Rattle.reply_planner.proofs.FilledEach.{among-at}
use Rattle.reply_planner.proofs.Merged.{among-merged}
use Rattle.reply_planner.proofs.Owned.{staged-keys, small_staged, own_front, own_held, own_left, own_bare, taken_own}
use Rattle.reply_planner.proofs.Owned.{bare-append, bare-left_by}
use Rattle.reply_planner.proofs.Fronted.{at-taken}
use Rattle.reply_planner.proofs.Parts.{each-at}
use Rattle.reply_planner.proofs.Placed.{place-is}

-- n bytes at an address, whose place is told
abbrev HeldAt : Sizes → List Holding → ℕ → ℕ → ℕ × ℕ → Type 0
HeldAt z hs address n p = Covers z p.0 p.1 address × (0 < total (at p.0) hs) × (p.1 + n ≤ 8 * length (front_of p.0 hs))

held_at : (z : Sizes) (hs : List Holding) (address n : ℕ) → HeldAt z hs address n (place_of z address)
    → IsHeld z hs address n
held_at z hs address n h = record { covered = h.0; held = h.1; within = h.2 }

-- what more holds behind them change of what is held
module _ (z : Sizes) (hs gs : List Holding) where
  pub more_read : (address n : ℕ) → IsHeld z hs address n → reading z (hs ++ gs) address n ≡ reading z hs address n
  more_read address n held = ap (λ front. take n (drop (place_of z address).1 (bytes_of_words front)))
      (front-append (place_of z address).0 hs gs held.held)

  pub more_held : (address n : ℕ) → IsHeld z hs address n → IsHeld z (hs ++ gs) address n
  more_held address n held =
      let b = (place_of z address).0 in
      record {
        covered = held.covered;
        held = omega (arith, held.held, total-append (at b) hs gs);
        within = omega (arith, held.within, ap length (front-append b hs gs held.held));
      }

-- holds of staging buffers that are used
module _ (z : Sizes) (text : List ℕ) (keys : List Key) (staging : Each (IsStaging z) keys) where
  abbrev pub staged : List ℕ
  staged = key_buffers keys

  abbrev pub used : List ℕ
  used = take (staging_buffers_for (length text)) staged

  pub used-buffers : (ks : List Key) → ks ≡ take (staging_buffers_for (length text)) keys → key_buffers ks ≡ used
  used-buffers ks is = ap key_buffers is
      ∙ sym (take-map (λ (k : Key). k.buffer) (staging_buffers_for (length text)) keys)

  pub used-keys : (ks : List Key) → ks ≡ take (staging_buffers_for (length text)) keys → ks ≡ keys_for used
  used-keys ks is =
      let some : Each (IsStaging z) ks = subst (Each (IsStaging z)) (sym is)
      (each-take (IsStaging z) keys (staging_buffers_for (length text)) staging) in
      sym (staged-keys z ks some) ∙ ap keys_for (used-buffers ks is)

  small-at : (j : ℕ) → j < length keys → get_or staged j 0 < z.small
  small-at j near =
      each-at (λ b. b < z.small) staged j 0 (small_staged z keys staging)
      (omega (arith, near, length-map {B = ℕ} keys (λ (k : Key). k.buffer)))

  pub parts-among : (b : ℕ) → among b used + among b (drop (staging_buffers_for (length text)) staged) ≡ among b staged
  parts-among b =
      let n = staging_buffers_for (length text) in
      omega (
        arith,
        total-append (λ c. same c b) (take n staged) (drop n staged),
        ap (among b)
            (take-append-drop n staged),
      )

  -- they were filled under the session's seat
  module _ (seat full : View) (stage : List ℕ) (mine : AreOwn seat.holds (stage ++ staged))
      (filled : IsFilledWith text staged seat full) where
    abbrev rest_stage : List ℕ
    rest_stage = merged (drop (staging_buffers_for (length text)) staged) stage

    both_mine : AreOwn full.holds (used ++ rest_stage)
    both_mine = λ b.
        omega (
          arith,
          own_bare seat.holds full.holds (stage ++ staged) (sym filled.holds) mine b,
          total-append (λ c. same c b) stage staged,
          total-append (λ c. same c b) used rest_stage,
          parts-among b,
          among-merged b (drop (staging_buffers_for (length text)) staged) stage,
        )

    used_own : AreOwn full.holds used
    used_own = own_front full.holds used rest_stage both_mine

    pub used_held : (ks : List Key) → ks ≡ take (staging_buffers_for (length text)) keys → HasHolds ks full.holds
    used_held ks is = subst (λ l. HasHolds l full.holds) (sym (used-keys ks is)) (own_held full.holds used used_own)

    rest_own : AreOwn (without_keys (keys_for used) full.holds) rest_stage
    rest_own = own_left full.holds used rest_stage both_mine

    -- and went to the parcel's
    module _ (own held : View) (full_seat : IsSeat z full) (held_seat : IsSeat z held)
        (gained : held.holds ≡ own.holds ++ holds_for (keys_for used) full.holds) where
      pub parts : bare_all held.holds ≡ bare_all own.holds ++ fresh_all used
      parts = ap bare_all gained ∙ bare-append own.holds (holds_for (keys_for used) full.holds)
          ∙ ap (λ l. bare_all own.holds ++ l) (taken_own used full.holds full_seat.loose used_own)

      pub kept : (address n : ℕ) → IsHeld z own.holds address n → reading z held.holds address n
          ≡ reading z own.holds address n
      kept address n has = ap (λ hs. reading z hs address n) gained
          ∙ more_read z own.holds (holds_for (keys_for used) full.holds) address n has

      -- a buffer that is used
      given : (b : ℕ) → 0 < among b used → 0 < total (at b) (holds_for (keys_for used) full.holds)
      given b some = omega (arith, some, at-taken b used full.holds (own_held full.holds used used_own))

      used_front : (b : ℕ) → 0 < among b used → front_of b held.holds ≡ front_of b full.holds
      used_front b some =
          let taken = holds_for (keys_for used) full.holds in
          ap (front_of b) gained
          ∙ front-joined held_seat.fronts.0 b own.holds taken
          (subst (Each (λ (h : Holding). h.front ≡ held_seat.fronts.0 h.buffer)) gained held_seat.fronts.1)
          (given b some)
          ∙ front-taken_by full_seat.fronts.0 b (keys_for used) full.holds full_seat.fronts.1 (given b some)

      -- a run of copied bytes in one buffer
      module _ (fits : length text ≤ 512 * length keys) (k n : ℕ) (some : 0 < n) (in_one : k % 512 + n ≤ 512)
          (in_text : k + n ≤ length text) where
        abbrev b : ℕ
        b = get_or staged (k / 512) 0

        abbrev address : ℕ
        address = copied_address (buffer_addresses z staged) k

        near : k / 512 < length staged
        near = omega (arith, some, in_text, fits, length-map {B = ℕ} keys (λ (j : Key). j.buffer))

        small : b < z.small
        small = small-at (k / 512) (omega (arith, near, length-map {B = ℕ} keys (λ (j : Key). j.buffer)))

        wide : buffer_words z b ≡ 64
        wide = ap {B = ℕ} (λ t. cond t 64 512) (lt-ltb b z.small small)

        address_is : address ≡ address_of z b + k % 512
        address_is = ap (λ a. a + k % 512) (get_or-map (address_of z) staged (k / 512) 0 0 near)

        at_place : place_of z address ≡ (b, k % 512)
        at_place = ap (place_of z) address_is ∙ place-is z b (k % 512) (omega (arith, wide))

        in_used : 0 < among b used
        in_used =
            let count = staging_buffers_for (length text) in
            let low : k / 512 < count = omega (arith, some, in_text) in
            subst (λ c. 0 < among c used) (get_or-take count staged (k / 512) 0 low)
            (among-at used (k / 512) (omega (arith, low, near, length-take count staged)))

        pub run_read : reading z held.holds address n ≡ take n (drop k text)
        run_read =
            ap (λ (p : ℕ × ℕ). buffer_bytes held.holds p.0 p.1 n) at_place
            ∙ ap (λ front. take n (drop (k % 512) (bytes_of_words front))) (used_front b in_used)
            ∙ filled.text_is k n in_one in_text

        pub run_held : IsHeld z held.holds address n
        run_held =
            let found : 0 < total (at b) held.holds =
            omega (
              arith,
              given b in_used,
              total-append (at b) own.holds (holds_for (keys_for used) full.holds),
              ap
                  (total (at b)) gained,
            ) in
            let within : k % 512 + n ≤ 8 * length (front_of b held.holds) =
            omega (arith, filled.long k n in_one in_text some, ap length (used_front b in_used)) in
            held_at z held.holds address n
            (subst (HeldAt z held.holds address n) (sym at_place)
            ((omega (arith, small), omega (arith, wide), address_is), found, within))

      module _ (fits : length text ≤ 512 * length keys) where
        pub copied : IsStaged (reading z held.holds) (buffer_addresses z staged) text
        copied = record { at = go }
          where
            go : (k n : ℕ) → k % 512 + n ≤ 512 → k + n ≤ length text
                → reading z held.holds (copied_address (buffer_addresses z staged) k) n ≡ take n (drop k text)
            go k zero in_one in_text = refl
            go k (suc n) in_one in_text = run_read fits k (suc n) (omega arith) in_one in_text

        laid : (seg : Seg) → IsLaid z own.holds staged (length text) seg → IsReadable z held.holds seg
        laid seg is =
            ⊎_elim
            (λ may. record {
              some = may.some;
              held = subst (λ hs. IsHeld z hs seg.address seg.len) (sym gained)
                  (more_held z own.holds (holds_for (keys_for used) full.holds) seg.address seg.len may.held);
            })
            (λ run. record {
              some = run.some;
              held = subst (λ a. IsHeld z held.holds a seg.len) (sym run.address_is)
                  (run_held fits run.place seg.len run.some run.in_buffer run.in_text);
            })
            is

        -- what the parcel keeps
        pub is_parcel : (segments : List Seg) (pins ks : List Key) (credits : ℕ) (last : View) → 0 < length segments
            → length segments < 2 ^ 32 → Each (IsLaid z own.holds staged (length text)) segments
            → map hold_key own.holds ≡ pins → ks ≡ take (staging_buffers_for (length text)) keys → own.credits ≡ credits
            + 1 → OnlyTookHolds own → held ≡ gaining (holds_for ks full.holds) own → last ≡ split_old [] credits held
            → IsParcelOf z segments pins ks last
        is_parcel segments pins ks credits last some few are_laid pins_are ks_are paid idle step_held step =
            let holds : last.holds ≡ held.holds = ap (λ (v : View). v.holds) step in
            record {
              some = some;
              few = few;
              readable = subst (λ hs. Each (IsReadable z hs) segments) (sym holds)
                  (each-imp (IsLaid z own.holds staged (length text)) (IsReadable z held.holds) laid segments are_laid);
              parts = record {
                front = own.holds;
                keys_are = pins_are;
                parts = ap bare_all holds ∙ parts ∙ ap (λ bs. bare_all own.holds ++ fresh_all bs)
                    (sym (used-buffers ks ks_are));
              };
              staging = subst (Each (IsStaging z)) (sym ks_are)
                  (each-take (IsStaging z) keys (staging_buffers_for (length text)) staging);
              credit = omega (arith, ap (λ (v : View). v.credits) step, ap (λ (v : View). v.credits) step_held, paid);
              idle = record {
                claims = ap (λ (v : View). v.claims) step ∙ ap (λ (v : View). v.claims) step_held ∙ idle.claims;
                looks = ap (λ (v : View). v.looks) step ∙ ap (λ (v : View). v.looks) step_held ∙ idle.looks;
                returns = ap (λ (v : View). v.returns) step ∙ ap (λ (v : View). v.returns) step_held ∙ idle.returns;
                lasts = ap (λ (v : View). v.lasts) step ∙ ap (λ (v : View). v.lasts) step_held ∙ idle.lasts;
              };
            }

    -- what the session's seat is left with
    module _ (ks : List Key) (ks_are : ks ≡ take (staging_buffers_for (length text)) keys) (credits : ℕ)
        (own held given rest last : View) (lost : given ≡ losing ks full) (cut : rest ≡ split_new [] credits held)
        (join : last ≡ joined_views given rest) where
      last_holds : last.holds ≡ without_keys ks full.holds
      last_holds = ap (λ (v : View). v.holds) join ∙ (λ i. (lost i).holds ++ (cut i).holds)
          ∙ append-nil (without_keys ks full.holds)

      pub hands : own.credits ≡ credits + 1 → (staged_is : List ℕ) → staged_is ≡ used → Hands staged_is own seat last
      hands paid staged_is is = record {
        holds = ap bare_all last_holds ∙ bare-left_by ks full.holds
            ∙ (λ i. without_keys (used-keys ks ks_are i) (filled.holds i))
            ∙ ap (λ bs. without_keys (keys_for bs) (bare_all seat.holds)) (sym is);
        credits = omega (
          arith,
          ap (λ (v : View). v.credits) join,
          ap (λ (v : View). v.credits) lost,
          ap
              (λ (v : View). v.credits) cut,
          filled.credits,
          paid,
        );
        claims = ap (λ (v : View). v.claims) join ∙ (λ i. (lost i).claims ++ (cut i).claims) ∙ append-nil full.claims
            ∙ filled.claims;
        looks = ap (λ (v : View). v.looks) join ∙ (λ i. (lost i).looks ++ (cut i).looks) ∙ append-nil full.looks
            ∙ filled.looks;
        returns = omega (
          arith,
          ap (λ (v : View). v.returns) join,
          ap (λ (v : View). v.returns) lost,
          ap
              (λ (v : View). v.returns) cut,
          filled.returns,
        );
        lasts = ap (λ (v : View). v.lasts) join ∙ (λ i. (lost i).lasts ++ (cut i).lasts) ∙ append-nil full.lasts
            ∙ filled.lasts;
      }

      pub left : (next : List ℕ) → next ≡ rest_stage → AreOwn last.holds next
      left next is = subst (AreOwn last.holds) (sym is)
          (subst (λ hs. AreOwn hs rest_stage)
          (sym (last_holds ∙ ap (λ l. without_keys l full.holds) (used-keys ks ks_are))) rest_own)

-- all that packing promises
pub record Outcome (z : Sizes) (text : List ℕ) (keys : List Key) (stage : List ℕ) (segments : List Seg)
    (pins ks : List Key) (own seat mine last : View) (next : List ℕ) : Type 0 where
  pub parcel : IsParcelOf z segments pins ks mine
  pub staged_is : key_buffers ks ≡ take (staging_buffers_for (length text)) (key_buffers keys)
  pub stage_is : next ≡ merged (drop (staging_buffers_for (length text)) (key_buffers keys)) stage
  pub is_copied : IsStaged (reading z mine.holds) (buffer_addresses z (key_buffers keys)) text
  pub is_kept : (address n : ℕ) → IsHeld z own.holds address n → reading z mine.holds address n
      ≡ reading z own.holds address n
  pub is_handed : Hands (key_buffers ks) own seat last
  pub is_left : AreOwn last.holds next

-- the seat's filled buffers go to the parcel, and its other credits to the seat
pub record Steps (text : List ℕ) (keys : List Key) (stage : List ℕ) (n credits : ℕ) (ks : List Key)
    (own seat full less held mine rest last : View) (next : List ℕ) : Type 0 where
  pub filled : IsFilledWith text (key_buffers keys) seat full
  pub ks_are : ks ≡ take n keys
  pub next_is : next ≡ merged (drop n (key_buffers keys)) stage
  pub lost : less ≡ losing ks full
  pub gained : held ≡ gaining (holds_for ks full.holds) own
  pub cut : mine ≡ split_old [] credits held
  pub off : rest ≡ split_new [] credits held
  pub join : last ≡ joined_views less rest

pub outcome : (z : Sizes) (text : List ℕ) (keys : List Key) (stage : List ℕ) (segments : List Seg) (pins ks : List Key)
    (n credits : ℕ) (own seat full less held mine rest last : View) (next : List ℕ)
    → Each (IsStaging z) keys → length text ≤ 512 * length keys → AreOwn seat.holds (stage ++ key_buffers keys)
    → IsSeat z full → IsSeat z held → n ≡ staging_buffers_for (length text)
    → 0 < length segments → length segments < 2 ^ 32 → Each (IsLaid z own.holds (key_buffers keys) (length text))
    segments → map hold_key own.holds ≡ pins → own.credits ≡ credits + 1 → OnlyTookHolds own
    → Steps text keys stage n credits ks own seat full less held mine rest last next
    → Outcome z text keys stage segments pins ks own seat mine last next
outcome z text keys stage segments pins ks n credits own seat full less held mine rest last next staging fits
    own_buffers full_seat held_seat count some few are_laid pins_are paid idle s =
    let ks_are : ks ≡ take (staging_buffers_for (length text)) keys = s.ks_are ∙ ap (λ m. take m keys) count in
    let next_is : next ≡ merged (drop (staging_buffers_for (length text)) (key_buffers keys)) stage = s.next_is
    ∙ ap (λ m. merged (drop m (key_buffers keys)) stage) count in
    let took : held.holds ≡ own.holds ++ holds_for (keys_for (used z text keys staging)) full.holds =
    ap (λ (v : View). v.holds) s.gained ∙ ap (λ l. own.holds ++ holds_for l full.holds)
    (used-keys z text keys staging ks ks_are) in
    let holds : mine.holds ≡ held.holds = ap (λ (v : View). v.holds) s.cut in
    record {
      parcel = is_parcel z text keys staging seat full stage own_buffers s.filled own held full_seat held_seat took fits
          segments pins ks credits mine some few are_laid pins_are ks_are paid idle s.gained s.cut;
      staged_is = used-buffers z text keys staging ks ks_are;
      stage_is = next_is;
      is_copied = subst (λ hs. IsStaged (reading z hs) (buffer_addresses z (key_buffers keys)) text) (sym holds)
          (copied z text keys staging seat full stage own_buffers s.filled own held full_seat held_seat took fits);
      is_kept = λ address m has. ap (λ hs. reading z hs address m) holds
          ∙ kept z text keys staging seat full stage own_buffers s.filled own held full_seat held_seat took address m
          has;
      is_handed = hands z text keys staging seat full stage own_buffers s.filled ks ks_are credits own held less rest
          last s.lost s.off s.join paid (key_buffers ks) (used-buffers z text keys staging ks ks_are);
      is_left = left z text keys staging seat full stage own_buffers s.filled ks ks_are credits own held less rest last
          s.lost s.off s.join next next_is;
    }
