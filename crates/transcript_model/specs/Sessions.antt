-- The lines of one session, from its first to its last.
use Rattle.std.specs.Prelude.{◌≡◌, ℕ, suc, ◌==◌, List, [], ◌∷◌, length, map, take}
use Rattle.std.specs.List.{filter}
use Rattle.any_wire.specs.Texts.{AreWhole}
use Rattle.flake_model.specs.Command.{Command}
use Rattle.flake_model.specs.Reply.{reply_text}
use Rattle.reply_layout.specs.Pieces.{reply_from}
use Rattle.transcript_model.specs.Lines.{EventLine, LineEvent}
use Rattle.transcript_model.specs.Terms.{Terms}
use Rattle.transcript_model.specs.Standing.{Standing, at_first}
use Rattle.transcript_model.specs.Frames.{deeds_of}
use Rattle.transcript_model.specs.Right.{is_known, AreRight}

-- what was said of a session
abbrev pub events_of : ℕ → List EventLine → List LineEvent
events_of session lines =
    map (λ (said : EventLine). said.event) (filter (λ (said : EventLine). said.session == session) lines)

-- the texts of these commands' replies, from a call on
abbrev pub texts_from : Terms → ℕ → List Command → List (List ℕ)
texts_from terms call [] = []
texts_from terms call (command ∷ commands) =
    reply_text (reply_from command (deeds_of terms call command)) ∷ texts_from terms (suc call) commands

-- the texts of the posted frames
abbrev pub texts_of : Terms → List (List ℕ)
texts_of terms = texts_from terms 0 (take terms.end.replies terms.commands)

-- what was said of a session is right from its first line to its last
pub record IsRightSession (terms : Terms) (events : List LineEvent) : Type 0 where
  pub last : Standing
  pub right : AreRight terms at_first events last
  pub served : length last.frames ≡ terms.end.replies
  pub ended : last.ended ≡ is_known terms.end.end
  pub sent : AreWhole terms.end.failed terms.whole terms.end.replies
