-- The worked sessions are ones.
use Rattle.std.proofs.Common.{[], ◌∷◌, inl, inr, refl, lit<, lit≤}
use Rattle.std.specs.Prelude.{codes}
use Rattle.std.specs.Fmt.{digits}
use Rattle.std.specs.List.{AllByRecursion}
use Rattle.flake_base.specs.declared.session.End.TheVariants.{Clean, Protocol, Truncated}
use Rattle.flake_model.specs.Resp.{Parses, array}
use Rattle.flake_model.specs.Session.{IsSession}
use Rattle.flake_model.specs.Sessions.{set_and_get, ping_and_front, get_two, worked_sessions}
use Rattle.flake_model.proofs.InTurn.{read_at_once}
use Rattle.flake_model.proofs.Vectors.{vectors_parse}

two_parsed : Parses get_two ((codes "MGET" ∷ codes "a" ∷ codes "b" ∷ []) ∷ []) Clean
unfolding digits
two_parsed = (
  lit≤ tt,
  record {
    elements = array (codes "MGET" ∷ codes "a" ∷ codes "b" ∷ []) ∷ [];
    allowed = ((lit≤ tt, (lit≤ tt, (lit≤ tt, (lit≤ tt, tt)))), tt);
    bytes_are = refl;
    requests_are = refl;
  },
)

pub sessions_are : AllByRecursion IsSession worked_sessions
sessions_are = (
  record {
    requests = _;
    shown = Clean;
    parsed = vectors_parse.0;
    commands_are = refl;
    shown_is = refl;
    read_out = refl;
    taken_is = refl;
    replied = refl;
    begun_is = refl;
    in_turn = read_at_once _ _ (lit≤ tt);
  },
  (
    record {
      requests = _;
      shown = Truncated 14;
      parsed = vectors_parse.1.1.0;
      commands_are = refl;
      shown_is = refl;
      read_out = refl;
      taken_is = refl;
      replied = refl;
      begun_is = refl;
      in_turn = read_at_once _ _ (lit≤ tt);
    },
    (
      record {
        requests = [];
        shown = Protocol 4 0;
        parsed = vectors_parse.1.1.1.1.1.1.1.1.0;
        commands_are = refl;
        shown_is = refl;
        read_out = tt;
        taken_is = refl;
        replied = refl;
        begun_is = refl;
        in_turn = read_at_once _ _ (lit≤ tt);
      },
      (
        record {
          requests = _;
          shown = Truncated 14;
          parsed = vectors_parse.1.1.0;
          commands_are = refl;
          shown_is = inr (14, refl);
          read_out = tt;
          taken_is = refl;
          replied = refl;
          begun_is = refl;
          in_turn = read_at_once _ _ (lit≤ tt);
        },
        (
          record {
            requests = _;
            shown = Clean;
            parsed = two_parsed;
            commands_are = refl;
            shown_is = tt;
            read_out = tt;
            taken_is = refl;
            replied = lit≤ tt;
            begun_is = inr (lit< tt);
            in_turn = read_at_once _ _ (lit≤ tt);
          },
          (
            record {
              requests = [];
              shown = Protocol 4 0;
              parsed = vectors_parse.1.1.1.1.1.1.1.1.0;
              commands_are = refl;
              shown_is = tt;
              read_out = tt;
              taken_is = refl;
              replied = lit≤ tt;
              begun_is = inl refl;
              in_turn = read_at_once _ _ (lit≤ tt);
            },
            (
              record {
                requests = _;
                shown = Clean;
                parsed = vectors_parse.0;
                commands_are = refl;
                shown_is = tt;
                read_out = tt;
                taken_is = refl;
                replied = lit≤ tt;
                begun_is = refl;
                in_turn = read_at_once _ _ (lit≤ tt);
              },
              tt,
            ),
          ),
        ),
      ),
    ),
  ),
)
