use Rattle.std.proofs.Common.{◌≡◌, ◌++◌, ◌≤◌, List, ℕ, length, sym, ap, ◌∙◌, subst}
use Rattle.std.proofs.lemmas.Result.{IfOk-weaker, IfErr-weaker}
use Rattle.join_files.specs.Cutting.{file_frames}
use Rattle.join_files.specs.Joined.{IsJoinedOf, WhyNotJoined}
use Rattle.join_files.specs.Source.{IsWithinLimit, join_limit}
use Rattle.join_files.proofs.Taking.{why_unjoined}
use Rattle.join_files.proofs.source.join_source.Goals as goal

pub returns-clause-joined : goal.returns-clause-joined
returns-clause-joined g c =
    let read = c.in-Ok.ensures.ok in
    let now = g.S.Source.given c.read_whole.new.source in
    let all : c.as_slice.result.now ≡ now =
    c.as_slice.ensures ∙ sym (read.given ∙ ap (λ (o : List ℕ). o ++ c.in-Ok.bytes.items) c.requires.unread) in
    IfOk-weaker c.join_bytes.result _ _
    (λ joiner is. record {
      read = record {
        end = read.end;
        within = subst (λ (b : List ℕ). length b ≤ join_limit) (sym c.as_slice.ensures ∙ all) read.within;
      };
      joined = subst (λ (b : List ℕ). IsJoinedOf c.args.mtu c.args.calls (file_frames b) joiner) all is;
    })
    c.join_bytes.ensures.ok

pub returns-clause-unjoined : goal.returns-clause-unjoined
returns-clause-unjoined g c =
    let read = c.in-Ok.ensures.ok in
    let now = g.S.Source.given c.read_whole.new.source in
    let all : c.as_slice.result.now ≡ now =
    c.as_slice.ensures ∙ sym (read.given ∙ ap (λ (o : List ℕ). o ++ c.in-Ok.bytes.items) c.requires.unread) in
    let within : IsWithinLimit now (g.S.Source.ended c.read_whole.new.source) = record {
      end = read.end;
      within = subst (λ (b : List ℕ). length b ≤ join_limit) (sym c.as_slice.ensures ∙ all) read.within;
    } in
    IfErr-weaker c.join_bytes.result _ _
    (λ error why. why_unjoined error c.args.mtu c.args.calls now (g.S.Source.ended c.read_whole.new.source)
    (g.S.Source.read_faults c.args.source.now) (g.S.Source.read_faults c.read_whole.new.source) within
    c.in-Ok.ensures.faults
    (subst (λ (b : List ℕ). WhyNotJoined error c.args.mtu c.args.calls (file_frames b)) all why))
    c.join_bytes.ensures.err
