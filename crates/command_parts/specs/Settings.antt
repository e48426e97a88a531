-- The options of a SET, by how the code keeps them.
use Rattle.flake_model.specs.Command.{Options}
use Rattle.shard_part.specs.declared.setting.Setting.{Setting}
use Rattle.shard_part.specs.Settings.{when_of}

abbrev pub options_of : Setting → Options
options_of setting = (when_of setting.when, setting.asks)
