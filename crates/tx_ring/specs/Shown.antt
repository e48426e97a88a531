-- What contracts see of a ring's ends.
use Rattle.std.specs.Prelude.{◌≡◌, ℕ, List, Bool}
use Rattle.atomic_table.specs.Seated.{TableId}
use Rattle.tx_descriptor.specs.declared.framed.Framed.{Ghosts}
use Rattle.tx_ring.specs.Changes.{room_in}
use Rattle.tx_ring.specs.Ends.{IsAtRest}
use Rattle.tx_ring.specs.Jobs.{HasOut, TakesOut, FindsEmpty, FindsEnd}
use Rattle.tx_ring.specs.declared.view.DriverView.{DriverView}
use Rattle.tx_ring.specs.declared.view.DeviceView.{DeviceView}
use Rattle.tx_ring.specs.declared.driver.Driver.{Driver}
use Rattle.tx_ring.specs.declared.closed.ClosedDriver.{ClosedDriver}
use Rattle.tx_ring.specs.declared.device.DeviceEnd.{DeviceEnd}
use Rattle.tx_ring.specs.Words.{size}
use Rattle.tx_ring.specs.declared.busy.Busy.{Busy}
use Rattle.tx_ring.specs.declared.job.Job.{Job}

-- a ring has a name of its own, which both ends show; its slots are the ring's descriptors
abbrev pub ring_size : TableId → ℕ
ring_size name = name.slots

module _ {P : Type 0} where
  abbrev pub closed_ring : ClosedDriver P → TableId
  closed_ring c = c.seat.table_id

  abbrev pub closed_view : ClosedDriver P → DriverView P
  closed_view c = c.seat.me.0.driver

module _ {P : Type 0} {g : Ghosts P} where
  abbrev pub driver_ring : Driver P g → TableId
  driver_ring d = d.cursor.seat.table_id

  abbrev pub driver_view : Driver P g → DriverView P
  driver_view d = d.cursor.seat.me.0.driver

  abbrev pub posted : Driver P g → List P
  posted d = (driver_view d).posted

  abbrev pub reaped : Driver P g → List P
  reaped d = (driver_view d).reaped

  -- for each look that found no DD, how many frames were reaped until then
  abbrev pub misses : Driver P g → List ℕ
  misses d = (driver_view d).misses

  -- so many frames were completed when both ends were last at hand
  abbrev pub driver_told : Driver P g → ℕ
  driver_told d = (driver_view d).told

  -- how many descriptors are free
  abbrev pub room_of : Driver P g → ℕ
  room_of d = room_in g.segs (ring_size (driver_ring d)) (driver_view d)

  -- the frame comes back with both numbers, and nothing changed
  abbrev pub IsRefused : P → Driver P g → Driver P g → Busy P → Type 0
  IsRefused f old new busy = (busy.frame ≡ f) × (busy.need ≡ size g.segs f) × (busy.room ≡ room_of old)
      × (driver_view new ≡ driver_view old)

  abbrev pub device_ring : DeviceEnd P g → TableId
  device_ring e = e.cursor.seat.table_id

  abbrev pub device_view : DeviceEnd P g → DeviceView P
  device_view e = e.cursor.seat.me.0.device

  abbrev pub completed : DeviceEnd P g → List P
  completed e = (device_view e).completed

  -- for each look that found the tail at the head, how many frames were completed until then
  abbrev pub blanks : DeviceEnd P g → List ℕ
  blanks e = (device_view e).blanks

  -- the closed word was found set
  abbrev pub ended : DeviceEnd P g → Bool
  ended e = (device_view e).ended

  -- so many frames were posted when both ends were last at hand
  abbrev pub device_told : DeviceEnd P g → ℕ
  device_told e = (device_view e).told

  -- the last job was completed
  abbrev pub IsResting : DeviceEnd P g → Type 0
  IsResting e = IsAtRest e.cursor.seat.me

  -- the job is the one that the last `next` gave, with the frame as it was given
  abbrev pub IsJobOf : DeviceEnd P g → Job P → Type 0
  IsJobOf e job = HasOut g.segs e.cursor.seat.me e.cursor.count job

  -- the next frame was taken
  abbrev pub TakesFrame : DeviceEnd P g → DeviceEnd P g → Job P → Type 0
  TakesFrame old new job = TakesOut g.segs old.cursor.seat.me new.cursor.seat.me new.cursor.count job

  -- the tail was found at the head
  abbrev pub FindsNone : DeviceEnd P g → DeviceEnd P g → ℕ → Type 0
  FindsNone old new tail = FindsEmpty g.segs old.cursor.seat.me new.cursor.seat.me (ring_size (device_ring old)) tail

  -- and the closed word was found set
  abbrev pub FindsClosed : DeviceEnd P g → DeviceEnd P g → Type 0
  FindsClosed old new = FindsEnd g.segs old.cursor.seat.me new.cursor.seat.me
