-- What is shown of a run.
use Rattle.std.specs.Prelude.{ℕ, Bool, List, Option, ◌++◌}
use Rattle.std.specs.Borrow.{Bor}
use Rattle.flake_base.specs.declared.journal.Entry.{Entry}
use Rattle.flake_base.specs.declared.session.SessionEnd.{SessionEnd}
use Rattle.flake_model.specs.Run.{all_commands}
use Rattle.pin_core.specs.declared.sizes.Sizes.{Sizes}
use Rattle.pinned_pool.specs.Ends.{End}
use Rattle.serve_model.specs.Replies.{all_replies}
use Rattle.serve_model.specs.Shown.{WasRun}
use Rattle.session_serve.specs.Ran.{AllSent, AllWhole}
use Rattle.serve_inputs.specs.Dumped.{DumpTold, IsDumpTold, dump_texts}
use Rattle.serve_inputs.specs.Wires.{sent_on_wires}

module _
    {W : Type 0}
    (mtu : Option ℕ)
    (put_may : W → Bor (List ℕ) → (W × Bool) → Type 0)
    (flush_may : W → (W × Bool) → Type 0) where
  -- What the sources gave was served; the returned journal gives the texts of the replies, each of which was put on its
  -- wire as it is sent, and that of the dump, which was put on the wire behind these.
  pub record RanAll (z : Sizes) (threshold : ℕ) (givens : List (List ℕ)) (endeds : List Bool)
      (ends : List SessionEnd) (counts : List ℕ) (journal : List (List Entry)) (closed : End) (asked : Option ℕ)
      (dump : DumpTold) (olds news : List W) : Type 0 where
    pub ran : WasRun z threshold givens endeds ends journal closed
    pub dumped : IsDumpTold asked (all_commands ran.served.sessions) journal dump
    pub sends : AllSent put_may flush_may
        (sent_on_wires mtu ran.served.sessions journal ++ dump_texts (all_commands ran.served.sessions) journal dump)
        olds news
    -- so many bytes of each in whole replies
    pub wholes : AllWhole mtu put_may flush_may (all_replies ran.served.sessions journal) counts olds news
