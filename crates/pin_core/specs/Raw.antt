-- A hold as the program keeps it, with the length of its front alone.
use Rattle.std.specs.Prelude.{ℕ, List, Bool, not, ◌&&◌, ◌==◌, if◌then◌else◌, take, drop}
use Rattle.pin_core.specs.Buffers.{start}
use Rattle.pin_core.specs.Pins.{Owned, own}
use Rattle.pin_core.specs.Answers.{same_holder}
use Rattle.pin_core.specs.declared.sizes.Sizes.{Sizes}
use Rattle.pin_core.specs.declared.holder.Holder.{Holder}
use Rattle.pin_core.specs.declared.state.Hold.{Hold}

-- the first words of the buffer
abbrev pub front_in : Sizes → List ℕ → ℕ → ℕ → List ℕ
front_in z words b n = take n (drop (start z b) words)

abbrev pub owned_in : Sizes → List ℕ → Hold → Owned Holder
owned_in z words h = own h.holder (record
    { buffer = h.buffer; front = front_in z words h.buffer h.length; exclusive = h.exclusive; pinned = h.pinned })

abbrev pub is_raw_at : Holder → ℕ → Hold → Bool
is_raw_at p b h = same_holder h.holder p && (h.buffer == b)

abbrev pub is_raw_key : Holder → ℕ → Bool → Hold → Bool
is_raw_key p b pinned h = is_raw_at p b h && (if pinned then h.pinned else not h.pinned)
