-- What a command can need of ring and stage, whatever its parts answer.
use Rattle.std.specs.Prelude.{ℕ, ◌+◌, ◌-◌, ◌*◌, ◌≤◌, if◌then◌else◌, length}
use Rattle.flake_model.specs.Resp.{array_head}
use Rattle.flake_model.specs.Command.{Command, ping_with, get, set, mget, get_range}
use Rattle.flake_model.specs.Reply.{bulk, reply_text}
use Rattle.reply_layout.specs.declared.need.Need.{Need}
use Rattle.reply_layout.specs.Layout.{staging_buffers_for}

abbrev pub need : ℕ → ℕ → Need
need descriptors stage = record { descriptors = descriptors; stage = stage }

-- Of a value are copied at most its head, one short fragment and its line end: 8, 511 and 2 bytes. It has at most 16
-- fragments.
abbrev pub value_copied : ℕ
value_copied = 521

-- so many values, with a head of so many bytes before them
abbrev pub values_need : ℕ → ℕ → Need
values_need values head =
    let stage = staging_buffers_for (head + value_copied * values) in
    need (16 * values + (values + 1) + (stage - 1)) stage

-- so many bytes, all copied
abbrev pub copied_need : ℕ → Need
copied_need bytes = need (staging_buffers_for bytes) (staging_buffers_for bytes)

-- any other reply is a line of at most 512 bytes
abbrev pub need_of : Command → Need
need_of (ping_with bytes) = copied_need (length (reply_text (bulk bytes)))
need_of (get key) = values_need 1 0
need_of (set when answers key bytes) = if answers then values_need 1 0 else need 1 1
need_of (mget keys) = values_need (length keys) (length (array_head (length keys)))
need_of (get_range key first last) = need 20 3
need_of command = need 1 1

-- below the least ring of a session, 1,160 descriptors, and its 128 staging buffers
pub record IsModest (need : Need) : Type 0 where
  pub descriptors : need.descriptors ≤ 1154
  pub stage : need.stage ≤ 66
