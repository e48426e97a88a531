use Rattle.test_pool.proofs.books.a_book_opens_at_its_bounds.Given as goal

abbrev pub ghosts-numbers_of : goal.ghosts-numbers_of
ghosts-numbers_of g a = record { table = a.blank.table; sizes = a.blank.sizes }
