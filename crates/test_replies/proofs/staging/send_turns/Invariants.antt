use Rattle.test_replies.proofs.staging.send_turns.Given as goal

abbrev pub ghosts-send_in_turn : goal.ghosts-send_in_turn
ghosts-send_in_turn a = record { table = a.blank.table; sizes = a.blank.sizes }
