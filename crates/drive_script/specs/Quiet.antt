-- Before the first line, and behind the last.
use Rattle.std.specs.Prelude.{◌≡◌, Bool, true, false, ◌||◌, List, [], ◌∷◌, ⊤}
use Rattle.transcript_model.specs.Lines.{LineEvent, at_end, sent, dropped, nothing_posted, reaped, nothing_reaped}
use Rattle.transcript_model.specs.Terms.{Terms}
use Rattle.drive_script.specs.Views.{SessionShown, DeviceShown}

-- what a session and its device show before the first line
pub record IsAtStart (terms : Terms) (session : SessionShown) (device : DeviceShown) : Type 0 where
  pub number : session.number ≡ terms.number
  pub sizes : session.sizes ≡ terms.sizes
  pub ring : session.ring ≡ terms.ring
  pub threshold : session.threshold ≡ terms.threshold
  pub stage : session.stage ≡ terms.stage
  pub posted : session.posted ≡ []
  pub reaped : session.reaped ≡ []
  pub told : session.told ≡ 0
  pub deeds : session.deeds ≡ []
  pub completed : device.completed ≡ []
  pub device_told : device.told ≡ 0
  pub failed : device.failed ≡ false
  pub no_deeds : terms.deeds ≡ []
  pub none_sent : terms.whole ≡ 0

-- what is gathered and reaped posts nothing and says no end
abbrev pub IsQuiet : LineEvent → Type 0
IsQuiet (sent call bytes) = ⊤
IsQuiet (dropped call bytes) = ⊤
IsQuiet nothing_posted = ⊤
IsQuiet (reaped call recycled) = ⊤
IsQuiet nothing_reaped = ⊤
IsQuiet event = ⊥

-- whether the end is among what was said
abbrev pub is_end : LineEvent → Bool
is_end at_end = true
is_end event = false

abbrev pub says_end : List LineEvent → Bool
says_end [] = false
says_end (event ∷ events) = is_end event || says_end events
