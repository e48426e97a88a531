use Rattle.std.proofs.Common.{refl, ap, sym, ◌∙◌, ◌+◌, ◌≤◌, subst, take, length, arith}
use Rattle.std.proofs.lemmas.List.{length-take-le}
use Rattle.command_pump.specs.Pump.{SeeksNext, PumpState, origin_of}
use Rattle.flake_model.specs.Session.{most_read}
use Rattle.command_pump.proofs.Pumped.{IsPieceMore, pump_at, same_origin, at_fault, at_piece, at_stop}
use Rattle.command_pump.proofs.pump.Pump.read.Goals.{in-Err, in_default-feed}
use Rattle.command_pump.proofs.pump.Pump.read.Goals as goal

pub returns-in_default-clause-kept : goal.returns-in_default-clause-kept
returns-in_default-clause-kept g c input before given p =
    at_fault input before given _ _ _ _ _ (ap (λ (v : PumpState). v.stage) c.self.view_is
    ∙ c.requires.reading) (ap (λ (v : PumpState). v.reader.requests) c.self.view_is ∙ c.requires.none)
    (same_origin _ _ _ _ c.in_default.ensures.name c.in_default.ensures.whole) c.in_default.ensures.failed
    c.in_default.ensures.cause.failed (subst (SeeksNext input before given) (sym c.self.view_is) p)

pub returns-clause-kept : goal.returns-clause-kept
returns-clause-kept g c input before given p =
    let q = subst (SeeksNext input before given) (sym c.self.view_is) p in
    let reading = ap (λ (v : PumpState). v.stage) c.self.view_is ∙ c.requires.reading in
    let n = c.in-Ok.count in
    let count = length-take-le n c.read.new.room c.in-Ok.ensures.bound in
    let piece = take n c.read.new.room in
    let few : length piece ≤ most_read = omega (arith, count, c.in-Ok.ensures.bound) in
    let was = c.self.inside in
    let old = pump_at (origin_of (g.S.Source.name was.source) (g.S.Source.whole was.source))
    (g.S.Source.given was.source) (g.S.Source.ended was.source) (g.S.Source.read_faults was.source) was.reader
    was.stage was.taken in
    let came : IsPieceMore old (g.S.Source.given c.read.new.self) n piece = record {
      none = ap (λ (v : PumpState). v.reader.requests) c.self.view_is ∙ c.requires.none;
      grew = c.in-Ok.ensures.given.bytes;
      count = count;
      few = few;
    } in
    let source = c.read.new.self in
    let origin = origin_of (g.S.Source.name source) (g.S.Source.whole source) in
    let bytes = g.S.Source.given source in
    let ended = g.S.Source.ended source in
    let faults = g.S.Source.read_faults source in
    let same = same_origin _ _ _ _ c.in-Ok.ensures.name c.in-Ok.ensures.whole in
    elim c.match-feed.branch [
      | in-Err w ↦
          subst (λ s. SeeksNext input before given
          (pump_at (origin_of (g.S.Source.name s.source) (g.S.Source.whole s.source)) (g.S.Source.given s.source)
          (g.S.Source.ended s.source) (g.S.Source.read_faults s.source) s.reader s.stage (s.taken + n)))
          (sym w.self-inside-is)
          (subst
          (λ s. SeeksNext input before given
          (pump_at origin bytes ended faults c.feed.new.self s (c.self.inside.taken + n)))
          (sym w.stopped-self-inside.ensures)
          (at_stop input before given _ _ _ _ _ n c.feed.new.self w.in-Err.error piece reading
          c.in-Ok.ensures.cause.ok same came
          w.in-Err.ensures.closes (λ other. w.in-Err.ensures.fed (λ is. other (cc is))) w.in-Err.ensures.memory q))
      | in_default-feed w ↦
          subst (λ s. SeeksNext input before given
          (pump_at (origin_of (g.S.Source.name s.source) (g.S.Source.whole s.source)) (g.S.Source.given s.source)
          (g.S.Source.ended s.source) (g.S.Source.read_faults s.source) s.reader s.stage (s.taken + n)))
          (sym w.self-inside-is)
          (subst
          (λ s. SeeksNext input before given
          (pump_at origin bytes ended faults c.feed.new.self s (c.self.inside.taken + n)))
          (sym reading)
          (at_piece input before given _ _ _ _ _ n c.feed.new.self piece reading c.in-Ok.ensures.cause.ok same came
          w.in_default-feed.ensures.ok (w.in_default-feed.ensures.fed (λ is. cc is)) q))
    ]
