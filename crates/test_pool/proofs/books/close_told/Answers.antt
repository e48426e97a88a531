use Rattle.test_pool.proofs.books.close_told.Goals as goal

pub returns-clause-seen : goal.returns-clause-seen
returns-clause-seen g c = c.looks_begin.ensures _ _ _ c.close.ensures

pub returns-clause-meant : goal.returns-clause-meant
returns-clause-meant g c commands shards sessions meant = c.means.ensures commands _ _ _ c.close.ensures shards sessions
    meant
