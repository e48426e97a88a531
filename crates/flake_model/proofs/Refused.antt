-- Outcomes that no run has, and why.
use Rattle.std.proofs.Common.{◌≡◌, ℕ, ◌+◌, ◌≤◌, ◌⊎◌, inl, inr, true, false, List, [], ◌∷◌, ◌++◌, Option, Some, length}
use Rattle.std.proofs.Common.{map, arith, refl, ap, sym, ◌∙◌, subst, append-nil, lit≤, Bool, cond, is_none}
use Rattle.std.proofs.lemmas.List.{length-append}
use Rattle.std.proofs.lemmas.List.Sums.{sum_by-cons}
use Rattle.std.specs.Prelude.{codes}
use Rattle.std.specs.Fmt.{digits}
use Rattle.std.specs.List.{AllByRecursion, count_by}
use Rattle.flake_base.specs.declared.journal.Entry.{Entry}
use Rattle.flake_base.specs.declared.session.SessionEnd.{SessionEnd}
use Rattle.flake_base.specs.declared.session.End.{End}
use Rattle.flake_base.specs.declared.session.End.TheVariants.{Clean, Protocol, Truncated, TooLong, ReadFault, Memory}
use Rattle.flake_base.specs.declared.session.End.TheVariants.{Left}
use Rattle.flake_model.specs.Resp.{Words, Parses, array}
use Rattle.flake_model.specs.Journal.{answers_of, answer_at}
use Rattle.flake_model.specs.Store.{always}
use Rattle.flake_model.specs.Command.{Command, set}
use Rattle.flake_model.specs.Input.{commands_in}
use Rattle.flake_model.specs.Session.{Session, is_stopped, HasNoError, EndsAs, IsReadOut, IsReplied, taken_of}
use Rattle.flake_model.specs.Session.{IsSession, most_read}
use Rattle.flake_model.specs.Run.{WasServed, all_commands, served_steps, missing_writes}
use Rattle.flake_model.specs.Refused.{refused_end, nothing_done, one_set, bad_length, three_pings}
use Rattle.flake_model.proofs.Faults.{error_stays, long_stays}
use Rattle.flake_model.proofs.InTurn.{in_front}
use Rattle.flake_model.proofs.OneParse.{one_parse}
use Rattle.flake_model.proofs.Vectors.{vectors_parse}

-- the session of a run of one
record IsOnly (sessions : List Session) (given : List ℕ) (end : SessionEnd) : Type 0 where
  session : Session
  only : sessions ≡ session ∷ []
  given_is : session.given ≡ given
  end_is : session.end ≡ end
  is : IsSession session

only_of : (sessions : List Session) (given : List ℕ) (end : SessionEnd)
    → map (λ (s : Session). s.given) sessions ≡ given ∷ [] → map (λ (s : Session). s.end) sessions ≡ end ∷ []
    → AllByRecursion IsSession sessions → IsOnly sessions given end
only_of [] given end givens ends are = absurd (cc)
only_of (s ∷ []) given end givens ends are = record { session = s; only = refl; given_is = cc; end_is = cc; is = are.0 }
only_of (s ∷ t ∷ rest) given end givens ends are = absurd (cc)

only : (given : List ℕ) (at_end : Bool) (end : SessionEnd) (journal : List (List Entry))
    → (served : WasServed (given ∷ []) (at_end ∷ []) (end ∷ []) journal) → IsOnly served.sessions given end
only given at_end end journal served = only_of served.sessions given end served.given_is served.ends_are served.each_is

-- a session that was stopped takes all that it is given
takes_all : (end : End) (given : ℕ) → is_stopped end ≡ true → taken_of end given ≡ given
takes_all Clean given stopped = refl
takes_all (Protocol kind place) given stopped = absurd (cc)
takes_all (Truncated place) given stopped = refl
takes_all TooLong given stopped = absurd (cc)
takes_all ReadFault given stopped = refl
takes_all Memory given stopped = refl
takes_all Left given stopped = refl

pub takes_all_given : (given : List ℕ) (at_end : Bool) (end : SessionEnd) (journal : List (List Entry))
    → is_stopped end.end ≡ true
    → WasServed (given ∷ []) (at_end ∷ []) (end ∷ []) journal → end.taken ≡ length given
takes_all_given given at_end end journal stopped served =
    let one = only given at_end end journal served in
    let stops : is_stopped one.session.end.end ≡ true =
    subst (λ (e : SessionEnd). is_stopped e.end ≡ true) (sym one.end_is) stopped in
    let taken : one.session.end.taken ≡ length given = one.is.taken_is
    ∙ takes_all one.session.end.end (length one.session.given) stops ∙ ap length one.given_is in
    subst (λ (e : SessionEnd). e.taken ≡ length given) one.end_is taken

-- the bytes of an error have no request
error_parsed : Parses bad_length [] (Protocol 3 6)
error_parsed = vectors_parse.1.1.1.0

no_commands : (shown : End) → HasNoError shown → commands_in [] shown ≡ []
no_commands shown (inl clean) = ap (commands_in []) clean
no_commands shown (inr cut) = ap (commands_in []) cut.1

-- what was given of bad_length has no request
none_given : (session : Session) → session.given ≡ bad_length → (is : IsSession session) → is.requests ≡ []
none_given session given_is is =
    (one_parse bad_length is.requests [] is.shown (Protocol 3 6)
    (subst (λ bytes. Parses bytes is.requests is.shown) given_is is.parsed) error_parsed).0

-- an error that was answered is one more reply than the requests of what was given
pub no_answered_error : (end : End) (taken : ℕ) (at_end : Bool) (journal : List (List Entry)) → (end ≡ ReadFault)
    ⊎ (end ≡ Memory)
    → WasServed (bad_length ∷ []) (at_end ∷ []) (refused_end end taken 1 ∷ []) journal → ⊥
no_answered_error end taken at_end journal (inl fault) served =
    let one = only bad_length at_end (refused_end end taken 1) journal served in
    let is = one.is in
    let none = none_given one.session one.given_is is in
    let end_is : one.session.end ≡ refused_end ReadFault taken 1 = one.end_is ∙ ap (λ e. refused_end e taken 1) fault in
    let no_error : HasNoError is.shown = subst (λ (e : SessionEnd). EndsAs e.end is.shown) end_is is.shown_is in
    let nothing : one.session.commands ≡ [] = is.commands_are ∙ ap (λ requests. commands_in requests is.shown) none
    ∙ no_commands is.shown no_error in
    let replied : 1 ≡ length one.session.commands =
    subst (λ (e : SessionEnd). IsReplied e.end e.replies (length is.requests) (length one.session.commands)) end_is
    is.replied in
    omega (arith, replied, ap length nothing)
no_answered_error end taken at_end journal (inr memory) served =
    let one = only bad_length at_end (refused_end end taken 1) journal served in
    let is = one.is in
    let end_is : one.session.end ≡ refused_end Memory taken 1 = one.end_is ∙ ap (λ e. refused_end e taken 1) memory in
    let replied : 1 ≤ length is.requests = subst
    (λ (e : SessionEnd). IsReplied e.end e.replies (length is.requests) (length one.session.commands)) end_is
    is.replied in
    omega (arith, replied, ap length (none_given one.session one.given_is is))

set_parsed : Parses one_set ((codes "SET" ∷ codes "a" ∷ codes "1" ∷ []) ∷ []) Clean
unfolding digits
set_parsed = (
  lit≤ tt,
  record {
    elements = array (codes "SET" ∷ codes "a" ∷ codes "1" ∷ []) ∷ [];
    allowed = ((lit≤ tt, (lit≤ tt, (lit≤ tt, (lit≤ tt, tt)))), tt);
    bytes_are = refl;
    requests_are = refl;
  },
)

abbrev one_write : List Command
one_write = set always false (codes "a") (codes "1") ∷ []

-- a session that made one reply to one_write misses it, where nothing was done
missed : (session : Session) → session.commands ≡ one_write → session.end.replies ≡ 1
    → missing_writes (session ∷ []) nothing_done ≡ 1
missed session commands replies =
    let is : session ≡ record {
      given = session.given;
      ended = session.ended;
      commands = one_write;
      end = record { end = session.end.end; taken = session.end.taken; replies = 1; failed = session.end.failed };
      begun = session.begun;
    } =
    λ i. record {
      given = session.given;
      ended = session.ended;
      commands = commands i;
      end = record {
        end = session.end.end;
        taken = session.end.taken;
        replies = replies i;
        failed = session.end.failed;
      };
      begun = session.begun;
    } in
    ap (λ s. missing_writes (s ∷ []) nothing_done) is

-- a SET that is answered is missing, where nothing was done
pub no_refused_write : (at_end : Bool) → (served : WasServed (one_set ∷ []) (at_end ∷ []) (refused_end Clean 27 1 ∷ [])
    nothing_done)
    → missing_writes served.sessions nothing_done ≡ 0 → ⊥
no_refused_write at_end served none =
    let one = only one_set at_end (refused_end Clean 27 1) nothing_done served in
    let is = one.is in
    let means = one_parse one_set is.requests _ is.shown Clean
    (subst (λ bytes. Parses bytes is.requests is.shown) one.given_is is.parsed) set_parsed in
    let commands : one.session.commands ≡ one_write = is.commands_are ∙ (λ i. commands_in (means.0 i) (means.1 i)) in
    let replies : one.session.end.replies ≡ 1 = ap (λ (e : SessionEnd). e.replies) one.end_is in
    let one_missing : missing_writes served.sessions nothing_done ≡ 1 =
    ap (λ sessions. missing_writes sessions nothing_done) one.only ∙ missed one.session commands replies in
    omega (arith, none, one_missing)

-- what the given bytes decide the whole input does
pub whole_input : (left : List ℕ) (session : Session) → (session.ended ≡ true → left ≡ [])
    → is_stopped session.end.end ≡ false → IsSession session
    → (requests : List Words) × Parses (session.given ++ left) requests session.end.end
    × (session.commands ≡ commands_in requests session.end.end)
whole_input left session nothing own is =
    let found = by_end session.end.end own is.shown is.shown_is is.read_out is.parsed in
    (is.requests, found.1, is.commands_are ∙ ap (commands_in is.requests) found.0)
  where
    read_out : (end : End) → left ≡ [] → Parses session.given is.requests end
        → Parses (session.given ++ left) is.requests end
    read_out end none parsed = subst (λ bytes. Parses bytes is.requests end)
        (sym (ap (λ bytes. session.given ++ bytes) none ∙ append-nil session.given)) parsed

    by_end : (end : End) → is_stopped end ≡ false → (shown : End) → EndsAs end shown → IsReadOut end session.ended
        → Parses session.given is.requests shown
        → (shown ≡ end) × Parses (session.given ++ left) is.requests end
    by_end Clean own shown ends out parsed =
        (ends, read_out Clean (nothing out) (subst (Parses session.given is.requests) ends parsed))
    by_end (Protocol kind place) own shown ends none parsed = (
      ends,
      error_stays session.given left is.requests kind place
          (subst (Parses session.given is.requests) ends parsed),
    )
    by_end (Truncated place) own shown ends out parsed =
        (ends, read_out (Truncated place) (nothing out) (subst (Parses session.given is.requests) ends parsed))
    by_end TooLong own shown ends none parsed =
        (ends, long_stays session.given left is.requests (subst (Parses session.given is.requests) ends parsed))
    by_end ReadFault own shown ends none parsed = absurd (cc)
    by_end Memory own shown ends none parsed = absurd (cc)
    by_end Left own shown ends none parsed = absurd (cc)

-- where nothing is counted each is counted out
all_out : {A : Type 0} (test : A → Bool) (xs : List A) → count_by test xs ≡ 0 → AllByRecursion (λ x. test x ≡ false) xs
all_out test [] none = tt
all_out test (x ∷ xs) none = out (test x) refl (sym (sum_by-cons (λ y. cond (test y) 1 0) x xs) ∙ none)
    (λ rest. all_out test xs rest) where
      out : (yes : Bool) → test x ≡ yes → cond (test x) 1 0 + count_by test xs ≡ 0
          → (count_by test xs ≡ 0 → AllByRecursion (λ y. test y ≡ false) xs)
          → AllByRecursion (λ y. test y ≡ false) (x ∷ xs)
      out true is none behind =
          let n : ℕ = cond (test x) 1 0 in
          let one : n ≡ 1 = ap (λ b. cond {A = ℕ} b 1 0) is in
          absurd (omega (arith, none, one))
      out false is none behind = (is, behind (omega (arith, none)))

pub all_entered : (sessions : List Session) (journal : List (List Entry)) → missing_writes sessions journal ≡ 0
    → AllByRecursion (λ step. is_none (answer_at step.0 (answers_of (all_commands sessions) journal)) ≡ false)
    (served_steps 0 sessions)
all_entered sessions journal none =
    all_out (λ step. is_none (answer_at step.0 (answers_of (all_commands sessions) journal))) (served_steps 0 sessions)
    none

pings_parsed : Parses three_pings ((codes "PING" ∷ []) ∷ (codes "PING" ∷ []) ∷ (codes "PING" ∷ []) ∷ []) Clean
unfolding digits
pings_parsed = (
  lit≤ tt,
  record {
    elements = array (codes "PING" ∷ []) ∷ array (codes "PING" ∷ []) ∷ array (codes "PING" ∷ []) ∷ [];
    allowed = ((lit≤ tt, (lit≤ tt, tt)), ((lit≤ tt, (lit≤ tt, tt)), ((lit≤ tt, (lit≤ tt, tt)), tt)));
    bytes_are = refl;
    requests_are = refl;
  },
)

-- three requests in front of more than a piece, of which one was answered
pub no_read_ahead : (end : End) (rest : List ℕ) (taken : ℕ) (at_end : Bool) (journal : List (List Entry))
    → most_read ≤ length rest
    → WasServed ((three_pings ++ rest) ∷ []) (at_end ∷ []) (refused_end end taken 1 ∷ []) journal → ⊥
no_read_ahead end rest taken at_end journal long served =
    let one = only (three_pings ++ rest) at_end (refused_end end taken 1) journal served in
    let answered : 3 ≤ one.session.end.replies =
    in_front three_pings rest _ Clean one.session pings_parsed long one.given_is one.is in
    omega (arith, answered, ap (λ (e : SessionEnd). e.replies) one.end_is)
