-- What is read in turn with the replies.
use Rattle.std.proofs.Common.{◌≡◌, ℕ, ◌≤◌, List, [], ◌∷◌, ◌++◌, length, refl, ap, sym, ◌∙◌, subst, arith, lit≤}
use Rattle.std.proofs.lemmas.List.{length-append}
use Rattle.flake_base.specs.declared.session.End.{End}
use Rattle.flake_base.specs.declared.session.End.TheVariants.{Clean}
use Rattle.flake_model.specs.Resp.{Words, Parses}
use Rattle.flake_model.specs.Session.{Session, IsReadInTurn, IsSession, most_read}
use Rattle.flake_model.proofs.OneParse.{one_parse, requests_go_on}
use Rattle.flake_model.proofs.SomeParse.{some_parse}

nothing_parsed : Parses [] [] Clean
nothing_parsed = (lit≤ tt, record { elements = []; allowed = tt; bytes_are = refl; requests_are = refl })

-- one read gave all
pub read_at_once : (given : List ℕ) (replies : ℕ) → length given ≤ most_read → IsReadInTurn given replies
read_at_once given replies few = record {
  before = [];
  piece = given;
  given_is = refl;
  short = few;
  answered = λ requests shown parsed.
      let none : requests ≡ [] = (one_parse [] requests [] shown Clean parsed nothing_parsed).0 in
      omega (arith, ap length none);
}

pub more_replies : (given : List ℕ) (replies more : ℕ) → replies ≤ more → IsReadInTurn given replies
    → IsReadInTurn given more
more_replies given replies more few turn = record {
  before = turn.before;
  piece = turn.piece;
  given_is = turn.given_is;
  short = turn.short;
  answered = λ requests shown parsed. omega (arith, few, turn.answered requests shown parsed);
}

-- a piece that was read when these requests were all that the bytes before it have, and all had their replies
pub piece_in_turn : (before piece given : List ℕ) (requests : List Words) (shown : End) (replies : ℕ)
    → given ≡ before ++ piece → length piece ≤ most_read → Parses before requests shown → length requests ≤ replies
    → IsReadInTurn given replies
piece_in_turn before piece given requests shown replies is few parsed answered = record {
  before = before;
  piece = piece;
  given_is = is;
  short = few;
  answered = λ others other also.
      omega (arith, answered, ap length (one_parse before requests others shown other parsed also).0);
}

-- of two splits of a list, the one with the shorter end is behind the other
split_behind : (first more before piece : List ℕ) → first ++ more ≡ before ++ piece → length piece ≤ length more
    → (rest : List ℕ) × (before ≡ first ++ rest)
split_behind [] more before piece same short = (before, refl)
split_behind (x ∷ first) more [] piece same short =
    absurd (omega (arith, short, ap length same, length-append first more))
split_behind (x ∷ first) more (y ∷ before) piece same short =
    let behind = split_behind first more before piece (cc) short in
    let heads : y ≡ x = cc in
    let tails : before ≡ first ++ behind.0 = behind.1 in
    (behind.0, cc)

-- the requests of bytes that stand in front of the last piece have their replies
pub in_front : (first more : List ℕ) (requests : List Words) (shown : End) (session : Session)
    → Parses first requests shown → most_read ≤ length more → session.given ≡ first ++ more → IsSession session
    → length requests ≤ session.end.replies
in_front first more requests shown session parsed long given_is is =
    let turn = is.in_turn in
    let behind = split_behind first more turn.before turn.piece (sym given_is ∙ turn.given_is)
    (omega (arith, long, turn.short)) in
    let all = some_parse turn.before in
    let rest = requests_go_on first behind.0 requests all.0 shown all.1 parsed
    (subst (λ bytes. Parses bytes all.0 all.1) behind.1 all.2) in
    omega (arith, turn.answered all.0 all.1 all.2, ap length rest.1, length-append requests rest.0)
