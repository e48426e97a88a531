-- What a device does to its ring and to a wire.
use Rattle.std.specs.Prelude.{◌≡◌, ℕ, ◌≤◌, Bool, true, false, List, [], ◌∷◌, ◌++◌, Option, None, Some, length, ⊤}
use Rattle.std.specs.List.{flat_map, slice_get}
use Rattle.std.specs.Borrow.{Bor}
use Rattle.flake_base.specs.declared.segment.Seg.{Seg}
use Rattle.any_wire.specs.Sends as wire
use Rattle.mtu_frames.specs.Frames.{framed}
use Rattle.reply_planner.specs.Parcels.{Sent}
use Rattle.tx_descriptor.specs.declared.framed.Framed.{Ghosts}
use Rattle.tx_ring.specs.Shown.{completed, blanks, ended, device_told, FindsNone, FindsClosed}
use Rattle.tx_ring.specs.declared.device.DeviceEnd.{DeviceEnd}
use Rattle.device_model.specs.declared.gathered.Gathered.{Gathered}
use Rattle.device_model.specs.declared.gathered.Gathered.TheVariants as found

-- the segment is one of them
abbrev pub HasSegment : List Seg → Seg → Type 0
HasSegment segments segment = (i : ℕ) × (slice_get segments i ≡ Some segment)

-- the texts of replies, joined
abbrev pub sent_texts : List Sent → List ℕ
sent_texts replies = flat_map (λ (reply : Sent). reply.text) replies

-- a reply as it is sent: its text, or, where frames have at most so many bytes, its frames
abbrev pub reply_as_sent : Option ℕ → Sent → List ℕ
reply_as_sent None reply = reply.text
reply_as_sent (Some mtu) reply = framed reply.text reply.call mtu

-- replies as they are sent, joined
abbrev pub joined_as_sent : Option ℕ → List Sent → List ℕ
joined_as_sent None replies = sent_texts replies
joined_as_sent (Some mtu) replies = flat_map (λ (reply : Sent). framed reply.text reply.call mtu) replies

-- frames may have at most so many bytes, where there are to be frames
abbrev pub CanFrame : Option ℕ → Type 0
CanFrame None = ⊤
CanFrame (Some mtu) = (64 ≤ mtu) × (mtu ≤ 9216)

module _
    {W : Type 0}
    (mtu : Option ℕ)
    (put_may : W → Bor (List ℕ) → (W × Bool) → Type 0)
    (flush_may : W → (W × Bool) → Type 0) where
  -- some replies more were completed, and they alone were put, in order, until a put or a flush failed
  pub record ForwardsAs (failed now : Bool) (before after : List Sent) (old new : W) : Type 0 where
    pub taken : List Sent
    pub in_order : after ≡ before ++ taken
    pub sends : wire.Sends put_may flush_may failed now (joined_as_sent mtu taken) old new

module _ {W : Type 0} (put_may : W → Bor (List ℕ) → (W × Bool) → Type 0) (flush_may : W → (W × Bool) → Type 0) where
  -- so it is of their texts
  abbrev pub Forwards : Bool → Bool → List Sent → List Sent → W → W → Type 0
  Forwards = ForwardsAs None put_may flush_may

-- a reply was taken, and this is so
abbrev pub IfTaken : Gathered → Type 0 → Type 0
IfTaken (found.Sent call bytes) F = F
IfTaken (found.Dropped call bytes) F = F
IfTaken found.Empty F = ⊤
IfTaken found.Closed F = ⊤

-- no reply was there, and this is so
abbrev pub IfIdle : Gathered → Type 0 → Type 0
IfIdle (found.Sent call bytes) F = ⊤
IfIdle (found.Dropped call bytes) F = ⊤
IfIdle found.Empty F = F
IfIdle found.Closed F = F

module _ {W : Type 0} (mtu : Option ℕ) (put_may : W → Bor (List ℕ) → (W × Bool) → Type 0) where
  -- the same, and nothing is flushed
  abbrev pub PutsAs : Bool → Bool → List Sent → List Sent → W → W → Type 0
  PutsAs = ForwardsAs mtu put_may (λ w r. ⊥)

module _ {W : Type 0} (put_may : W → Bor (List ℕ) → (W × Bool) → Type 0) where
  abbrev pub PutsTexts : Bool → Bool → List Sent → List Sent → W → W → Type 0
  PutsTexts = PutsAs None put_may

module _ {g : Ghosts Sent} where
  -- the next reply was completed, with this call's number and so many bytes
  pub record IsNext (call bytes : ℕ) (old new : DeviceEnd Sent g) : Type 0 where
    pub reply : Sent
    pub completed_is : completed new ≡ completed old ++ reply ∷ []
    pub call_is : call ≡ reply.call
    pub bytes_is : bytes ≡ length reply.text
    pub blanks_are : blanks new ≡ blanks old
    pub ended_is : ended new ≡ ended old
    pub told_is : device_told new ≡ device_told old

  -- what a call that gives this did to the ring's end, where `failed` is the device's flag behind it
  abbrev pub IsFound : Gathered → Bool → DeviceEnd Sent g → DeviceEnd Sent g → Type 0
  IsFound (found.Sent call bytes) failed old new = (failed ≡ false) × IsNext call bytes old new
  IsFound (found.Dropped call bytes) failed old new = (failed ≡ true) × IsNext call bytes old new
  IsFound found.Empty failed old new = (tail : ℕ) × FindsNone old new tail
  IsFound found.Closed failed old new = FindsClosed old new
