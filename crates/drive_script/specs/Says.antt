-- What is said of a text, unless a say failed before.
use Rattle.std.specs.Prelude.{◌≡◌, ℕ, Bool, true, false, List}
use Rattle.flake_base.specs.Growth.{Grew}
use Rattle.flake_base.specs.Told.{HostTold}
use Rattle.flake_model.specs.Wire.{FaultIs}

-- what is held, and how often it was opened, are as before
pub record SameFiles (old new : HostTold) : Type 0 where
  pub holds : (name : List ℕ) → new.holds name ≡ old.holds name
  pub opens : new.opens ≡ old.opens
  pub open_faults : (name : List ℕ) → new.open_faults name ≡ old.open_faults name

-- all of the text, or a front of it where a say fails now; and nothing where one failed before
pub record PrintsText (was now : Bool) (text : List ℕ) (old new : HostTold) : Type 0 where
  pub silent : was ≡ true → (now ≡ true) × (new.said ≡ old.said) × (new.say_faults ≡ old.say_faults)
  pub said : was ≡ false → Grew now text old.said new.said × FaultIs now old.say_faults new.say_faults
  pub files : SameFiles old new

-- the bytes of a line with 4,095 segments and 16 fragments
abbrev pub text_room : ℕ
text_room = 172763
