use Rattle.std.proofs.Common.{List, ℕ, subst}
use Rattle.mtu_frames.specs.Joining.{HasNewFrame}
use Rattle.mtu_frames.specs.Held.{frames_in}
use Rattle.mtu_frames.specs.declared.held.Cut.{Cut}
use Rattle.mtu_frames.proofs.Lookups.{stored}
use Rattle.mtu_frames.proofs.held.hold.Goals as goal

pub returns-in-Ok-clause-ok : goal.returns-in-Ok-clause-ok
returns-in-Ok-clause-ok c =
    let head = c.args.head in
    let olds = c.args.held.now.entries in
    let news = c.insert.new.self.entries in
    let cut : Cut = record { count = head.count; bytes = c.in_ok-bytes.bytes } in
    subst
    (λ (bytes : List ℕ). HasNewFrame (frames_in olds) (frames_in news)
    (record { call = head.call; index = head.index; count = head.count; bytes = bytes }))
    c.in_ok-bytes.ensures
    (stored olds news head.call head.index cut c.in-Ok.ensures.updates.0)
