-- The frame of a call: its reply, laid out over the addresses that its deeds found and the free staging buffers.
use Rattle.std.specs.Prelude.{ℕ, List, length, take, Option}
use Rattle.flake_base.specs.declared.segment.Seg.{Seg}
use Rattle.flake_model.specs.Command.{Command}
use Rattle.flake_model.specs.Deed.{Deed}
use Rattle.flake_model.specs.Reply.{reply_text}
use Rattle.reply_layout.specs.Pieces.{reply_from, pieces_of}
use Rattle.reply_layout.specs.Layout.{placings_of, copied_of, pinned_of, layout_of, staging_buffers_for}

pub record Frame : Type 0 where
  pub segments : List Seg
  -- the staging buffers that it uses, by their addresses
  pub lent : List ℕ
  -- how many segments lie in stored fragments
  pub pinned : ℕ
  -- how long its text is
  pub bytes : ℕ

-- the frame of a command whose parts did these deeds, over these free staging buffers; a part that found no buffer
-- did none
abbrev pub frame_from : ℕ → List ℕ → Command → List (Option Deed) → Frame
frame_from threshold free command deeds =
    let placings = placings_of threshold (pieces_of command deeds) in
    record {
      segments = layout_of free placings;
      lent = take (staging_buffers_for (copied_of placings)) free;
      pinned = pinned_of placings;
      bytes = length (reply_text (reply_from command deeds));
    }
