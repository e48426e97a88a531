use Rattle.std.proofs.Common.{rules, ◌≡◌, List, false, length, sym, ap, ◌∙◌}
use Rattle.any_wire.proofs.Sending.{sends-same}
use Rattle.dump_model.specs.Dump.{pairs_text}
use Rattle.frag_value.specs.Pins.{KeyFrags, pairs_shown}
use Rattle.pin_dump.specs.Dumps.{DumpView}
use Rattle.pin_dump.proofs.Emptied.{text-length}
use Rattle.pin_dump.proofs.Flushed.{flushed}
use Rattle.pin_dump.proofs.dump.Dump.write.Goals as goal

pub returns-clause-puts : goal.returns-clause-puts
returns-clause-puts g c =
    let hs = c.self.inside.seat.holds in
    let given : c.as_slice.result.now ≡ c.self.inside.pairs.items = search rules in
    sends-same _ _ _ _ _ _ _ _
    (ap (λ (l : List KeyFrags). pairs_text (pairs_shown hs l)) given ∙ ap (λ (d : DumpView). d.text) c.self.view_is)
    (flushed (g.C.WireCalls.put_may c.args.calls.now) (g.C.WireCalls.flush_may c.args.calls.now) false
    c.put_pairs-put_all.result.1 c.flush_unless_failed-flushed.result.1
    (pairs_text (pairs_shown hs c.as_slice.result.now)) c.args.wire c.put_pairs-put_all.result.0
    c.flush_unless_failed-flushed.result.0 c.put_pairs-put_all.ensures.puts c.flush_unless_failed-flushed.ensures)

pub returns-clause-flushed : goal.returns-clause-flushed
returns-clause-flushed g c =
    let hs = c.self.inside.seat.holds in
    let given : c.as_slice.result.now ≡ c.self.inside.pairs.items = search rules in (
      c.put_pairs-put_all.result.0,
      c.put_pairs-put_all.result.1,
      sends-same _ _ _ _ _ _ _ _
          (ap (λ (l : List KeyFrags). pairs_text (pairs_shown hs l)) given
          ∙ ap (λ (d : DumpView). d.text) c.self.view_is) c.put_pairs-put_all.ensures.puts,
      c.flush_unless_failed-flushed.ensures,
    )

pub returns-clause-bytes : goal.returns-clause-bytes
returns-clause-bytes g c =
    let hs = c.self.inside.seat.holds in
    c.self.invariant.len_is ∙ sym (text-length hs c.self.inside.pairs.items c.self.invariant.has.filled)
    ∙ ap (λ (d : DumpView). length d.text) c.self.view_is
