use Rattle.test_pool.proofs.books.a_look_answers_how_many_deeds_the_shard_has.Given as goal

abbrev pub ghosts-all_answered : goal.ghosts-all_answered
ghosts-all_answered g a = record { table = a.blank.table; sizes = a.blank.sizes }
