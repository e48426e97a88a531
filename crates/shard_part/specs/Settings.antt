-- How parts set their keys.
use Rattle.std.specs.Prelude.{ℕ, Bool, true, false, List, Option, Some, None}
use Rattle.flake_model.specs.Store as store
use Rattle.shard_part.specs.declared.part.PartOp.{PartOp}
use Rattle.shard_part.specs.declared.part.PartOp.TheVariants.{Set, SetNx, SetXx, SetGet, SetNxGet, SetXxGet}
use Rattle.shard_part.specs.declared.setting.When.{When}
use Rattle.shard_part.specs.declared.setting.When.TheVariants.{Always, IfMissing, IfPresent}
use Rattle.shard_part.specs.declared.setting.Setting.{Setting}

abbrev pub when_of : When → store.When
when_of Always = store.always
when_of IfMissing = store.if_missing
when_of IfPresent = store.if_present

abbrev pub when_by : store.When → When
when_by store.always = Always
when_by store.if_missing = IfMissing
when_by store.if_present = IfPresent

-- the part that sets so
abbrev pub set_part : When → Bool → PartOp
set_part Always false = Set
set_part IfMissing false = SetNx
set_part IfPresent false = SetXx
set_part Always true = SetGet
set_part IfMissing true = SetNxGet
set_part IfPresent true = SetXxGet

-- the set of a key to a value by a setting
abbrev pub set_by : Setting → List ℕ → List ℕ → store.Operation
set_by setting key value = store.set (when_of setting.when) setting.asks key value

abbrev pub sets : When → Bool → Option Setting
sets when asks = Some (record { when = when; asks = asks })

-- how a part sets, if it does
abbrev pub setting_of : PartOp → Option Setting
setting_of Set = sets Always false
setting_of SetNx = sets IfMissing false
setting_of SetXx = sets IfPresent false
setting_of SetGet = sets Always true
setting_of SetNxGet = sets IfMissing true
setting_of SetXxGet = sets IfPresent true
setting_of part = None
