-- What the wires of a run are sent.
use Rattle.std.specs.Prelude.{ℕ, Bool, List, Option, None, Some, map}
use Rattle.flake_base.specs.declared.journal.Entry.{Entry}
use Rattle.flake_model.specs.Run.{wire_texts}
use Rattle.flake_model.specs.Session.{Session}
use Rattle.any_wire.specs.Texts.{joined}
use Rattle.serve_model.specs.Replies.{all_replies}
use Rattle.session_serve.specs.Forms.{framed_from}

-- the frames of a session's replies, joined, and whether its wire failed
abbrev pub framed_wire : ℕ → Bool × List (List ℕ) → Bool × List ℕ
framed_wire mtu replies = (replies.0, joined (framed_from mtu 0 replies.1))

-- What each session's wire is sent, by the journal, and whether it failed: the texts of the session's replies in call
-- order, or where frames have at most so many bytes the frames of each of these texts.
abbrev pub sent_on_wires : Option ℕ → List Session → List (List Entry) → List (Bool × List ℕ)
sent_on_wires None sessions journal = wire_texts sessions journal
sent_on_wires (Some mtu) sessions journal = map (framed_wire mtu) (all_replies sessions journal)
