use Rattle.std.proofs.Common.{◌≡◌, ◌∙◌, ◌++◌, [], ◌∷◌, List, ℕ, length, take, drop, ap, sym, subst, arith}
use Rattle.std.proofs.lemmas.List.{append_assoc, append-nil, take-append-drop}
use Rattle.std.proofs.lemmas.Bool.Decides.{nat_tests}
use Rattle.flake_model.specs.Resp.{Parses}
use Rattle.resp_reader.specs.Reader.{ReadsRequests, input_end}
use Rattle.reader_bench.proofs.read.Goals as goal

empty : (rest : List ℕ) → length rest ≡ 0 → rest ≡ []
empty [] none = cc
empty (byte ∷ rest) none = absurd (omega arith)

halves_are : (bytes front back : List ℕ) (n : ℕ) → front ≡ take n bytes → back ≡ drop n bytes → bytes ≡ front ++ back
halves_are bytes front back n is_front is_back = sym (take-append-drop n bytes)
    ∙ ap (λ b. b ++ drop n bytes) (sym is_front) ∙ ap (λ b. front ++ b) (sym is_back)

pub loop-rest-preserved : goal.loop-rest-preserved
loop-rest-preserved c =
    let fed = c.loop-rest.invariant.fed in
    let piece = c.split_at.result.0.now in
    let behind = c.split_at.result.1.now in
    let halves : c.loop-rest.rest.now ≡ piece ++ behind = halves_are c.loop-rest.rest.now piece behind c.min.result
    c.split_at.ensures.front c.split_at.ensures.back in
    let read : ReadsRequests (fed.0 ++ piece) fed.1 c.feed.new.self =
    c.feed.ensures.fed (λ failed. absurd (let was = c.in_ok-feed.was in cc)) fed.0 fed.1 fed.3 in
    let taken = c.take.ensures.fed (fed.0 ++ piece) fed.1 read in
    record {
      closed = c.take.ensures.open ∙ c.in_ok-feed.ensures.ok;
      fed = (
        fed.0 ++ piece,
        fed.1 ++ taken.0,
        append_assoc fed.0 piece behind ∙ ap (λ b. fed.0 ++ b) (sym halves)
            ∙ fed.2,
        taken.1,
      );
    }

pub returns : goal.returns
returns c =
    let fed = c.loop-rest.invariant.fed in
    let whole : fed.0 ≡ c.args.input.now = sym (append-nil fed.0)
    ∙ ap (λ b. fed.0 ++ b)
    (sym (empty c.loop-rest.rest.now (grind (arith, nat_tests, c.is_empty.ensures, c.loop-rest-test.false))))
    ∙ fed.2 in (
      fed.1 ++ c.loop-rest.reader.requests,
      subst
          (λ b. Parses b (fed.1 ++ c.loop-rest.reader.requests) (input_end c.end.result)) whole
          (c.end.ensures fed.0 fed.1 fed.3),
    )
