use Rattle.std.proofs.Common.{◌∙◌, arith}
use Rattle.drive_script.proofs.Sayings.{says_segment}
use Rattle.drive_script.proofs.saying.say_segments.Goals as goal

pub loop-segment-preserved : goal.loop-segment-preserved
loop-segment-preserved g c = record {
  said = says_segment c.args.failed c.loop-segment.failed c.say-failed.result c.args.segments.now
      c.loop-segment.segment-index _ c.as_slice.result.now (g.H.Host.host_told c.args.host.now)
      (g.H.Host.host_told c.loop-segment.host) (g.H.Host.host_told c.say-failed.new.host) c.loop-segment-test.true
      (c.as_slice.ensures.value ∙ c.one_segment.ensures.text) c.loop-segment.invariant.said c.say-failed.ensures;
  room = omega (arith, c.loop-segment.invariant.room, c.one_segment.ensures.room);
}
