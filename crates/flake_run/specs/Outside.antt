-- What stands outside of a run: the host, and the wires.
use Rattle.std.specs.Prelude.{◌≡◌, ℕ, List, map}
use Rattle.flake_base.specs.Told.{HostTold, WireTold}
use Rattle.flake_model.specs.Wire.{faults_told}

-- the wires stand for themselves, beside what each of them tells
pub record Outside (W : Type 0) : Type 0 where
  pub host : HostTold
  pub wires : List W
  pub tells : W → WireTold

abbrev pub outside : {W : Type 0} → HostTold → List W → (W → WireTold) → Outside W
outside host wires tells = record { host = host; wires = wires; tells = tells }

-- what each wire tells
abbrev pub wires_told : {W : Type 0} → Outside W → List WireTold
wires_told out = map out.tells out.wires

-- all bytes that were put on each wire
abbrev pub put_on : {W : Type 0} → Outside W → List (List ℕ)
put_on out = map (λ wire. (out.tells wire).put) out.wires

abbrev pub kept_by : {W : Type 0} → Outside W → List ℕ
kept_by out = map (λ wire. (out.tells wire).kept) out.wires

-- how often a put of each wire failed, and how often a flush
abbrev pub wire_faults : {W : Type 0} → Outside W → List (ℕ × ℕ)
wire_faults out = map (λ wire. faults_told (out.tells wire)) out.wires

-- all that is held is as it was, and no file was opened
pub record LeavesFiles (old new : HostTold) : Type 0 where
  pub holds : (name : List ℕ) → new.holds name ≡ old.holds name
  pub opens : new.opens ≡ old.opens
  pub open_faults : (name : List ℕ) → new.open_faults name ≡ old.open_faults name
