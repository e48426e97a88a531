use Rattle.std.proofs.Common.{rules, ◌≡◌, ◌+◌, ◌*◌, [], ◌∷◌, length, map, arith, refl, ap, sym, ◌∙◌}
use Rattle.std.proofs.Common.{subst, length-append}
use Rattle.std.proofs.lemmas.Option.{slice_get_within}
use Rattle.std.proofs.lemmas.List.{length-map}
use Rattle.std.proofs.lemmas.Result.{err_from_is_err_and}
use Rattle.replay_check.specs.Inputs.{contents}
use Rattle.check_files.specs.File.{ended_in, given_in, name_in}
use Rattle.check_files.specs.Files.{AreWithin, texts_since}
use Rattle.check_files.proofs.Pairs.{ArePairs, no_pairs, pair_more, pairs_there}
use Rattle.check_files.proofs.ReadTo.{ReadTo, all_ended, kept, none_read, read_on, reads_here, stopped_here, text_here}
use Rattle.check_files.proofs.ReadTo.{text_there}
use Rattle.check_files.proofs.Since.{all_gave_through, same_since, since_count}
use Rattle.check_files.proofs.contents.read_all.Goals as goal

pub loop-session-init : goal.loop-session-init
loop-session-init g c =
    let olds = map (λ f. given_in g.S.Source.given f) c.args.files.now in
    let news = map (λ f. given_in g.S.Source.given f) c.read_at.new.files in
    let were = map (λ f. ended_in g.S.Source.ended f) c.args.files.now in
    let are = map (λ f. ended_in g.S.Source.ended f) c.read_at.new.files in
    let said = c.read_at.ensures in
    let text = c.in_ok-journal.ensures.text in
    let inputs : c.new-inputs.result.items ≡ [] = search rules in
    let replies : c.new-replies.result.items ≡ [] = search rules in
    record {
      first = refl;
      pairs = subst (λ texts. ArePairs (texts_since olds news) (contents texts) (contents c.new-replies.result.items))
          (sym inputs)
          (subst (λ texts. ArePairs (texts_since olds news) [] (contents texts)) (sym replies)
          (no_pairs (texts_since olds news)));
      inputs = ap length inputs;
      replies = ap length replies;
      read = read_on 0 olds olds news were were are (none_read olds were) said.others said.more said.others_ended
          c.in_ok-journal.journal.items text c.in_ok-journal.ensures.ended;
      faults = c.in_ok-journal.ensures.faults;
      names = said.names;
      wholes = said.wholes;
    }

pub loop-session-preserved : goal.loop-session-preserved
loop-session-preserved g c =
    let olds = map (λ f. given_in g.S.Source.given f) c.args.files.now in
    let were = map (λ f. ended_in g.S.Source.ended f) c.args.files.now in
    let nows = map (λ f. given_in g.S.Source.given f) c.loop-session.files in
    let now_ends = map (λ f. ended_in g.S.Source.ended f) c.loop-session.files in
    let mids = map (λ f. given_in g.S.Source.given f) c.read_at-in-loop-session.new.files in
    let mid_ends = map (λ f. ended_in g.S.Source.ended f) c.read_at-in-loop-session.new.files in
    let news = map (λ f. given_in g.S.Source.given f) c.read_at-in-loop-session-2.new.files in
    let ends = map (λ f. ended_in g.S.Source.ended f) c.read_at-in-loop-session-2.new.files in
    let before = c.loop-session.invariant in
    let n = c.loop-session.session in
    let input = c.in_ok-input.input in
    let reply = c.in_ok-reply.reply in
    let one = c.read_at-in-loop-session.ensures in
    let two = c.read_at-in-loop-session-2.ensures in
    let first : 2 * n + 1 + 1 ≡ 2 * n + 2 = omega arith in
    let second : 2 * n + 2 + 1 ≡ 2 * (n + 1) + 1 = omega arith in
    let halfway : ReadTo (2 * n + 2) olds mids were mid_ends = subst (λ p. ReadTo p olds mids were mid_ends) first
    (read_on (2 * n + 1) olds nows mids were now_ends mid_ends before.read one.others one.more one.others_ended
    input.items c.in_ok-input.ensures.text c.in_ok-input.ensures.ended) in
    let whole = read_on (2 * n + 2) olds mids news were mid_ends ends halfway two.others two.more two.others_ended
    reply.items c.in_ok-reply.ensures.text c.in_ok-reply.ensures.ended in
    let kept_once = kept (2 * n + 1) olds nows mids were now_ends mid_ends before.read one.others in
    let kept_twice = kept (2 * n + 2) olds mids news were mid_ends ends halfway two.others in
    let input_is = text_there (texts_since olds mids) (texts_since olds news) (2 * n + 1) input.items
    (kept_twice (2 * n + 1) (omega arith))
    (text_here (2 * n + 1) olds nows mids were now_ends mid_ends before.read one.others input.items
    c.in_ok-input.ensures.text) in
    let reply_is = text_here (2 * n + 2) olds mids news were mid_ends ends halfway two.others reply.items
    c.in_ok-reply.ensures.text in
    let pairs = pairs_there (texts_since olds nows) (texts_since olds news) n (contents c.loop-session.inputs.items)
    (contents c.loop-session.replies.items)
    (length-map c.loop-session.inputs.items (λ text. text.items) ∙ before.inputs)
    (length-map c.loop-session.replies.items (λ text. text.items) ∙ before.replies)
    (λ k below. kept_twice k (omega (arith, below)) ∙ kept_once k below) before.pairs in
    record {
      first = two.others 0 (λ at. omega (arith, at)) ∙ one.others 0 (λ at. omega (arith, at)) ∙ before.first;
      pairs = pair_more (texts_since olds news) c.loop-session.inputs.items c.loop-session.replies.items input reply
          c.put.new.texts.items c.put-in-loop-session.new.texts.items n before.inputs before.replies c.in_ok-put.ensures
          c.in_ok-put-2.ensures pairs input_is reply_is;
      inputs = omega (
        arith,
        ap length c.in_ok-put.ensures,
        length-append c.loop-session.inputs.items
            (input ∷ []),
        before.inputs,
      );
      replies = omega (
        arith,
        ap length c.in_ok-put-2.ensures,
        length-append c.loop-session.replies.items
            (reply ∷ []),
        before.replies,
      );
      read = subst (λ p. ReadTo p olds news were ends) second whole;
      faults = c.in_ok-reply.ensures.faults ∙ c.in_ok-input.ensures.faults ∙ before.faults;
      names = two.names ∙ one.names ∙ before.names;
      wholes = two.wholes ∙ one.wholes ∙ before.wholes;
    }

pub returns-in_err-journal-clause-err : goal.returns-in_err-journal-clause-err
returns-in_err-journal-clause-err g c =
    let olds = map (λ f. given_in g.S.Source.given f) c.args.files.now in
    let news = map (λ f. given_in g.S.Source.given f) c.read_at.new.files in
    let were = map (λ f. ended_in g.S.Source.ended f) c.args.files.now in
    let are = map (λ f. ended_in g.S.Source.ended f) c.read_at.new.files in
    let many : length (map (λ f. given_in g.S.Source.given f) c.read_at.new.files) ≡ length olds =
    length-map c.read_at.new.files (λ f. given_in g.S.Source.given f)
    ∙ sym (length-map c.read_at.new.files (λ f. name_in g.S.Source.name f)) ∙ ap length (c.read_at.ensures.names)
    ∙ length-map c.args.files.now (λ f. name_in g.S.Source.name f)
    ∙ sym (length-map c.args.files.now (λ f. given_in g.S.Source.given f)) in
    let p = err_from_is_err_and c.from_residual.result c.from_residual.ensures.1 in
    rw (p.1, p.2) (stopped_here 0 olds olds news were were are (none_read olds were) c.read_at.ensures.others
    c.in_err-journal.field-0.0
    (omega (arith, c.requires.pairs, length-map c.args.files.now (λ f. given_in g.S.Source.given f))) many
    c.in_err-journal.ensures.err)

pub returns-in_err-input-clause-err : goal.returns-in_err-input-clause-err
returns-in_err-input-clause-err g c =
    let olds = map (λ f. given_in g.S.Source.given f) c.args.files.now in
    let were = map (λ f. ended_in g.S.Source.ended f) c.args.files.now in
    let nows = map (λ f. given_in g.S.Source.given f) c.loop-session.files in
    let now_ends = map (λ f. ended_in g.S.Source.ended f) c.loop-session.files in
    let mids = map (λ f. given_in g.S.Source.given f) c.read_at-in-loop-session.new.files in
    let mid_ends = map (λ f. ended_in g.S.Source.ended f) c.read_at-in-loop-session.new.files in
    let before = c.loop-session.invariant in
    let n = c.loop-session.session in
    let one = c.read_at-in-loop-session.ensures in
    let many : length (map (λ f. given_in g.S.Source.given f) c.read_at-in-loop-session.new.files) ≡ length olds =
    length-map c.read_at-in-loop-session.new.files (λ f. given_in g.S.Source.given f)
    ∙ sym (length-map c.read_at-in-loop-session.new.files (λ f. name_in g.S.Source.name f))
    ∙ ap length (one.names ∙ before.names)
    ∙ length-map c.args.files.now (λ f. name_in g.S.Source.name f)
    ∙ sym (length-map c.args.files.now (λ f. given_in g.S.Source.given f)) in
    let p = err_from_is_err_and c.from_residual-in_err-input.result c.from_residual-in_err-input.ensures.1 in
    rw (p.1, p.2) (stopped_here (2 * n + 1) olds nows mids were now_ends mid_ends before.read one.others
    c.in_err-input.field-0.0
    (omega (
      arith,
      c.loop-session-test.true,
      c.loop-session.auto.session-end,
      c.requires.pairs,
      length-map c.args.files.now (λ f. given_in g.S.Source.given f),
    )) many c.in_err-input.ensures.err)

pub returns-in_err-input-clause-reads : goal.returns-in_err-input-clause-reads
returns-in_err-input-clause-reads g c =
    let olds = map (λ f. given_in g.S.Source.given f) c.args.files.now in
    let were = map (λ f. ended_in g.S.Source.ended f) c.args.files.now in
    let nows = map (λ f. given_in g.S.Source.given f) c.loop-session.files in
    let now_ends = map (λ f. ended_in g.S.Source.ended f) c.loop-session.files in
    let mids = map (λ f. given_in g.S.Source.given f) c.read_at-in-loop-session.new.files in
    let mid_ends = map (λ f. ended_in g.S.Source.ended f) c.read_at-in-loop-session.new.files in
    let before = c.loop-session.invariant in
    let n = c.loop-session.session in
    let one = c.read_at-in-loop-session.ensures in
    let p = err_from_is_err_and c.from_residual-in_err-input.result c.from_residual-in_err-input.ensures.1 in
    rw (p.1, p.2) (reads_here (2 * n + 1) olds nows mids were now_ends mid_ends before.read one.others
    c.in_err-input.field-0.0 one.others_ended c.in_err-input.ensures.err)

pub returns-in_err-input-clause-more : goal.returns-in_err-input-clause-more
returns-in_err-input-clause-more g c =
    let olds = map (λ f. given_in g.S.Source.given f) c.args.files.now in
    let were = map (λ f. ended_in g.S.Source.ended f) c.args.files.now in
    let nows = map (λ f. given_in g.S.Source.given f) c.loop-session.files in
    let now_ends = map (λ f. ended_in g.S.Source.ended f) c.loop-session.files in
    let mids = map (λ f. given_in g.S.Source.given f) c.read_at-in-loop-session.new.files in
    let mid_ends = map (λ f. ended_in g.S.Source.ended f) c.read_at-in-loop-session.new.files in
    let before = c.loop-session.invariant in
    let n = c.loop-session.session in
    let one = c.read_at-in-loop-session.ensures in
    all_gave_through olds nows mids before.read.more one.more

pub returns-in_err-reply-clause-err : goal.returns-in_err-reply-clause-err
returns-in_err-reply-clause-err g c =
    let olds = map (λ f. given_in g.S.Source.given f) c.args.files.now in
    let were = map (λ f. ended_in g.S.Source.ended f) c.args.files.now in
    let nows = map (λ f. given_in g.S.Source.given f) c.loop-session.files in
    let now_ends = map (λ f. ended_in g.S.Source.ended f) c.loop-session.files in
    let mids = map (λ f. given_in g.S.Source.given f) c.read_at-in-loop-session.new.files in
    let mid_ends = map (λ f. ended_in g.S.Source.ended f) c.read_at-in-loop-session.new.files in
    let before = c.loop-session.invariant in
    let n = c.loop-session.session in
    let one = c.read_at-in-loop-session.ensures in
    let news = map (λ f. given_in g.S.Source.given f) c.read_at-in-loop-session-2.new.files in
    let ends = map (λ f. ended_in g.S.Source.ended f) c.read_at-in-loop-session-2.new.files in
    let two = c.read_at-in-loop-session-2.ensures in
    let first : 2 * n + 1 + 1 ≡ 2 * n + 2 = omega arith in
    let halfway : ReadTo (2 * n + 2) olds mids were mid_ends = subst (λ p. ReadTo p olds mids were mid_ends) first
    (read_on (2 * n + 1) olds nows mids were now_ends mid_ends before.read one.others one.more one.others_ended
    c.in_ok-input.input.items c.in_ok-input.ensures.text c.in_ok-input.ensures.ended) in
    let many : length (map (λ f. given_in g.S.Source.given f) c.read_at-in-loop-session-2.new.files) ≡ length olds =
    length-map c.read_at-in-loop-session-2.new.files (λ f. given_in g.S.Source.given f)
    ∙ sym (length-map c.read_at-in-loop-session-2.new.files (λ f. name_in g.S.Source.name f))
    ∙ ap length (two.names ∙ one.names ∙ before.names)
    ∙ length-map c.args.files.now (λ f. name_in g.S.Source.name f)
    ∙ sym (length-map c.args.files.now (λ f. given_in g.S.Source.given f)) in
    let p = err_from_is_err_and c.from_residual-in_err-reply.result c.from_residual-in_err-reply.ensures.1 in
    rw (p.1, p.2) (stopped_here (2 * n + 2) olds mids news were mid_ends ends halfway two.others
    c.in_err-reply.field-0.0
    (omega (
      arith,
      c.loop-session-test.true,
      c.loop-session.auto.session-end,
      c.requires.pairs,
      length-map c.args.files.now (λ f. given_in g.S.Source.given f),
    )) many c.in_err-reply.ensures.err)

pub returns-in_err-reply-clause-reads : goal.returns-in_err-reply-clause-reads
returns-in_err-reply-clause-reads g c =
    let olds = map (λ f. given_in g.S.Source.given f) c.args.files.now in
    let were = map (λ f. ended_in g.S.Source.ended f) c.args.files.now in
    let nows = map (λ f. given_in g.S.Source.given f) c.loop-session.files in
    let now_ends = map (λ f. ended_in g.S.Source.ended f) c.loop-session.files in
    let mids = map (λ f. given_in g.S.Source.given f) c.read_at-in-loop-session.new.files in
    let mid_ends = map (λ f. ended_in g.S.Source.ended f) c.read_at-in-loop-session.new.files in
    let before = c.loop-session.invariant in
    let n = c.loop-session.session in
    let one = c.read_at-in-loop-session.ensures in
    let news = map (λ f. given_in g.S.Source.given f) c.read_at-in-loop-session-2.new.files in
    let ends = map (λ f. ended_in g.S.Source.ended f) c.read_at-in-loop-session-2.new.files in
    let two = c.read_at-in-loop-session-2.ensures in
    let first : 2 * n + 1 + 1 ≡ 2 * n + 2 = omega arith in
    let halfway : ReadTo (2 * n + 2) olds mids were mid_ends = subst (λ p. ReadTo p olds mids were mid_ends) first
    (read_on (2 * n + 1) olds nows mids were now_ends mid_ends before.read one.others one.more one.others_ended
    c.in_ok-input.input.items c.in_ok-input.ensures.text c.in_ok-input.ensures.ended) in
    let p = err_from_is_err_and c.from_residual-in_err-reply.result c.from_residual-in_err-reply.ensures.1 in
    rw (p.1, p.2) (reads_here (2 * n + 2) olds mids news were mid_ends ends halfway two.others
    c.in_err-reply.field-0.0 two.others_ended c.in_err-reply.ensures.err)

pub returns-in_err-reply-clause-more : goal.returns-in_err-reply-clause-more
returns-in_err-reply-clause-more g c =
    let olds = map (λ f. given_in g.S.Source.given f) c.args.files.now in
    let were = map (λ f. ended_in g.S.Source.ended f) c.args.files.now in
    let nows = map (λ f. given_in g.S.Source.given f) c.loop-session.files in
    let now_ends = map (λ f. ended_in g.S.Source.ended f) c.loop-session.files in
    let mids = map (λ f. given_in g.S.Source.given f) c.read_at-in-loop-session.new.files in
    let mid_ends = map (λ f. ended_in g.S.Source.ended f) c.read_at-in-loop-session.new.files in
    let before = c.loop-session.invariant in
    let n = c.loop-session.session in
    let one = c.read_at-in-loop-session.ensures in
    let news = map (λ f. given_in g.S.Source.given f) c.read_at-in-loop-session-2.new.files in
    all_gave_through olds mids news (all_gave_through olds nows mids before.read.more one.more)
    c.read_at-in-loop-session-2.ensures.more

pub returns-in_err-put-clause-more : goal.returns-in_err-put-clause-more
returns-in_err-put-clause-more g c =
    let olds = map (λ f. given_in g.S.Source.given f) c.args.files.now in
    let were = map (λ f. ended_in g.S.Source.ended f) c.args.files.now in
    let nows = map (λ f. given_in g.S.Source.given f) c.loop-session.files in
    let now_ends = map (λ f. ended_in g.S.Source.ended f) c.loop-session.files in
    let mids = map (λ f. given_in g.S.Source.given f) c.read_at-in-loop-session.new.files in
    let mid_ends = map (λ f. ended_in g.S.Source.ended f) c.read_at-in-loop-session.new.files in
    let before = c.loop-session.invariant in
    let n = c.loop-session.session in
    let one = c.read_at-in-loop-session.ensures in
    let news = map (λ f. given_in g.S.Source.given f) c.read_at-in-loop-session-2.new.files in
    all_gave_through olds mids news (all_gave_through olds nows mids before.read.more one.more)
    c.read_at-in-loop-session-2.ensures.more

pub returns-in_err-put-2-clause-more : goal.returns-in_err-put-2-clause-more
returns-in_err-put-2-clause-more g c =
    let olds = map (λ f. given_in g.S.Source.given f) c.args.files.now in
    let were = map (λ f. ended_in g.S.Source.ended f) c.args.files.now in
    let nows = map (λ f. given_in g.S.Source.given f) c.loop-session.files in
    let now_ends = map (λ f. ended_in g.S.Source.ended f) c.loop-session.files in
    let mids = map (λ f. given_in g.S.Source.given f) c.read_at-in-loop-session.new.files in
    let mid_ends = map (λ f. ended_in g.S.Source.ended f) c.read_at-in-loop-session.new.files in
    let before = c.loop-session.invariant in
    let n = c.loop-session.session in
    let one = c.read_at-in-loop-session.ensures in
    let news = map (λ f. given_in g.S.Source.given f) c.read_at-in-loop-session-2.new.files in
    all_gave_through olds mids news (all_gave_through olds nows mids before.read.more one.more)
    c.read_at-in-loop-session-2.ensures.more

pub returns-clause-contents : goal.returns-clause-contents
returns-clause-contents g c =
    let olds = map (λ f. given_in g.S.Source.given f) c.args.files.now in
    let nows = map (λ f. given_in g.S.Source.given f) c.loop-session.files in
    let before = c.loop-session.invariant in
    let n = c.loop-session.session in
    let all : 2 * n + 1 ≡ length olds =
    omega (
      arith,
      c.loop-session-test.false,
      c.loop-session.auto.session-end,
      c.requires.pairs,
      length-map c.args.files.now (λ f. given_in g.S.Source.given f),
    ) in
    let many : length (map (λ f. given_in g.S.Source.given f) c.loop-session.files) ≡ length olds =
    length-map c.loop-session.files (λ f. given_in g.S.Source.given f)
    ∙ sym (length-map c.loop-session.files (λ f. name_in g.S.Source.name f)) ∙ ap length (before.names)
    ∙ length-map c.args.files.now (λ f. name_in g.S.Source.name f)
    ∙ sym (length-map c.args.files.now (λ f. given_in g.S.Source.given f)) in
    let start = map (λ f. given_in g.S.Source.given f) c.read_at.new.files in
    let inputs = length-map c.loop-session.inputs.items (λ text. text.items) ∙ before.inputs in
    let replies = length-map c.loop-session.replies.items (λ text. text.items) ∙ before.replies in
    record {
      journal_is = text_there (texts_since olds start) (texts_since olds nows) 0 c.in_ok-journal.journal.items
          (same_since olds olds start nows 0 refl before.first) c.in_ok-journal.ensures.text;
      sessions = ap (λ k. 2 * k + 1) inputs ∙ all ∙ sym (since_count olds nows many);
      as_many = replies ∙ sym inputs;
      inputs_are = before.pairs.inputs_are;
      replies_are = before.pairs.replies_are;
    }

pub returns-clause-within : goal.returns-clause-within
returns-clause-within g c =
    let olds = map (λ f. given_in g.S.Source.given f) c.args.files.now in
    let nows = map (λ f. given_in g.S.Source.given f) c.loop-session.files in
    let before = c.loop-session.invariant in
    let n = c.loop-session.session in
    let all : 2 * n + 1 ≡ length olds =
    omega (
      arith,
      c.loop-session-test.false,
      c.loop-session.auto.session-end,
      c.requires.pairs,
      length-map c.args.files.now (λ f. given_in g.S.Source.given f),
    ) in
    subst (AreWithin (texts_since olds nows))
    (all ∙ length-map c.args.files.now (λ f. given_in g.S.Source.given f)) before.read.within

pub returns-clause-ended : goal.returns-clause-ended
returns-clause-ended g c =
    let olds = map (λ f. given_in g.S.Source.given f) c.args.files.now in
    let nows = map (λ f. given_in g.S.Source.given f) c.loop-session.files in
    let before = c.loop-session.invariant in
    let n = c.loop-session.session in
    let all : 2 * n + 1 ≡ length olds =
    omega (
      arith,
      c.loop-session-test.false,
      c.loop-session.auto.session-end,
      c.requires.pairs,
      length-map c.args.files.now (λ f. given_in g.S.Source.given f),
    ) in
    let many : length (map (λ f. given_in g.S.Source.given f) c.loop-session.files) ≡ length olds =
    length-map c.loop-session.files (λ f. given_in g.S.Source.given f)
    ∙ sym (length-map c.loop-session.files (λ f. name_in g.S.Source.name f)) ∙ ap length (before.names)
    ∙ length-map c.args.files.now (λ f. name_in g.S.Source.name f)
    ∙ sym (length-map c.args.files.now (λ f. given_in g.S.Source.given f)) in
    let ends = map (λ f. ended_in g.S.Source.ended f) c.loop-session.files in
    all_ended ends
    (λ k ended is. before.read.front k ended
    (omega (
      arith,
      slice_get_within ends k ended is,
      length-map c.loop-session.files (λ f. ended_in g.S.Source.ended f),
      length-map c.loop-session.files (λ f. given_in g.S.Source.given f),
      many,
      all,
    )) is)

pub returns-clause-more : goal.returns-clause-more
returns-clause-more g c = c.loop-session.invariant.read.more
