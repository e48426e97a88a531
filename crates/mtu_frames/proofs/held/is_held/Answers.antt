use Rattle.std.proofs.Common.{◌≡◌, true, false, List, ℕ, Some, inl, inr, refl, sym, ◌∙◌}
use Rattle.std.specs.Cmp.Lexicographic.{bytes_decides}
use Rattle.mtu_frames.specs.Frames.{MtuFrame}
use Rattle.mtu_frames.specs.Held.{frames_in, frame_with}
use Rattle.mtu_frames.proofs.Keeping.{free_agrees, again_agrees, conflicts_by}
use Rattle.mtu_frames.proofs.held.is_held.Goals as goal

pub returns-then-not-agrees : goal.returns-then-not-agrees
returns-then-not-agrees c =
    let head = c.args.head in
    let frame : MtuFrame = record { call = head.call; index = head.index; count = head.count; bytes = c.args.bytes.now }
    in
    let other = c.if-not-agrees.ensures in
    (refl, refl, conflicts_by (frames_in c.args.held.now.entries) frame other.0 other.1 other.2 (inl other.3))

pub returns-in-None : goal.returns-in-None
returns-in-None c =
    let head = c.args.head in
    let frame : MtuFrame = record { call = head.call; index = head.index; count = head.count; bytes = c.args.bytes.now }
    in (
      sym c.in-None.ensures,
      free_agrees (frames_in c.args.held.now.entries) frame c.if-not-agrees.ensures
          (sym c.in-None.ensures),
      c.if-not-agrees.ensures,
    )

pub returns-then-eq : goal.returns-then-eq
returns-then-eq c =
    let head = c.args.head in
    let frames = frames_in c.args.held.now.entries in
    let frame : MtuFrame = record { call = head.call; index = head.index; count = head.count; bytes = c.args.bytes.now }
    in
    let at = sym c.in-Some.ensures in
    let count : c.in-Some.cut.now.count ≡ head.count =
    c.if-not-agrees.ensures head.index (frame_with head.call head.index c.in-Some.cut.now) at in
    let bytes : c.in-Some.cut.now.bytes.items ≡ c.args.bytes.now = sym c.as_slice.ensures
    ∙ (bytes_decides c.as_slice.result.now c.args.bytes.now).0 (sym c.if-eq.ensures) in
    let there = at ∙ (λ k. Some (record { call = head.call; index = head.index; count = count k; bytes = bytes k })) in
    (there, again_agrees frames frame c.if-not-agrees.ensures there)

pub returns-else-eq : goal.returns-else-eq
returns-else-eq c =
    let head = c.args.head in
    let frame : MtuFrame = record {
      call = head.call;
      index = head.index;
      count = head.count;
      bytes =
          c.args.bytes.now;
    } in (
      refl,
      refl,
      conflicts_by (frames_in c.args.held.now.entries) frame head.index
          (frame_with head.call head.index c.in-Some.cut.now) (sym c.in-Some.ensures)
          (inr (
            refl,
            λ same. let both : false ≡ true = c.if-eq.ensures
                ∙ (bytes_decides c.as_slice.result.now c.args.bytes.now).1 (c.as_slice.ensures ∙ same) in absurd (cc),
          )),
    )
