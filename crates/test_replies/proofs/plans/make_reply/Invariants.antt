use Rattle.test_replies.proofs.plans.make_reply.Given as goal

abbrev pub ghosts-reply_to : goal.ghosts-reply_to
ghosts-reply_to a = record { table = a.blank.table; sizes = a.blank.sizes }
