-- A run of one session alone.
use Rattle.std.proofs.Common.{◌≡◌, ℕ, Bool, List, [], ◌∷◌, map, ap, sym, ◌∙◌}
use Rattle.std.specs.List.{flat_map}
use Rattle.flake_base.specs.declared.journal.Entry.{Entry}
use Rattle.flake_base.specs.declared.session.SessionEnd.{SessionEnd}
use Rattle.flake_model.specs.Command.{Command}
use Rattle.flake_model.specs.Journal.{wire_text}
use Rattle.flake_model.specs.Run.{wire_texts_from}
use Rattle.flake_model.specs.Session.{Session}
use Rattle.serve_model.specs.Handed.{OneRun}
use Rattle.serve_model.specs.One.{OneRan}
use Rattle.serve_model.proofs.Ran.{all_served, was_run}

abbrev first_text : List (Bool × List ℕ) → List ℕ
first_text [] = []
first_text (text ∷ texts) = text.1

-- the text of the only session
only_text : (sessions : List Session) (commands : List (List Command)) (journal : List (List Entry))
    (end : SessionEnd) (text : List ℕ) → map (λ (session : Session). session.end) sessions ≡ end ∷ []
    → wire_texts_from commands journal 0 sessions ≡ (end.failed, text) ∷ []
    → text ≡ wire_text commands journal 0 end.replies
only_text [] commands journal end text ends texts = absurd (let no : ⊥ = cc in no)
only_text (session ∷ sessions) commands journal end text ends texts =
    let same : session.end ≡ end = cc in
    sym (ap first_text texts) ∙ ap (λ (e : SessionEnd). wire_text commands journal 0 e.replies) same

pub one_ran : OneRan
one_ran books z threshold shards list journal store given ended end seat texts spare last closed sessions parts has
    is =
    let one : OneRun = record {
      given = given;
      ended = ended;
      end = end;
      list = list;
      seat = seat;
      texts = texts;
    } in
    let served = all_served z threshold books.shards (one ∷ []) (has, tt) in
    let ran = was_run books z threshold shards (list ∷ []) journal store (given ∷ []) (ended ∷ []) (end ∷ [])
    (seat ∷ []) closed (sym sessions) parts served.0 last spare is in (
      ran.0,
      only_text ran.0.served.sessions _ journal end (flat_map (λ text. text) texts) ran.0.served.ends_are
          (ran.1.texts_are ∙ served.1),
    )
