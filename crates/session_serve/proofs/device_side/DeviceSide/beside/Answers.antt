use Rattle.std.proofs.Common.{refl}
use Rattle.session_serve.proofs.Between.{more-none}
use Rattle.session_serve.proofs.device_side.DeviceSide.beside.Goals as goal

pub give-requires : goal.give-requires
give-requires g c = rw (c.in-Some.ensures, c.requires.start.0) (refl, more-none _ _ _ _ _ _ _)
