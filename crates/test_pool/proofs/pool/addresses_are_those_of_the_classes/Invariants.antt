use Rattle.test_pool.proofs.pool.addresses_are_those_of_the_classes.Given as goal

abbrev pub ghosts-places_of : goal.ghosts-places_of
ghosts-places_of g a = record { table = a.blank.table; sizes = a.blank.sizes }
