-- The rows fill the words that are cut off for them.
use Rattle.frame_rows.specs.Traces.{row_words}
use Rattle.frame_rows.proofs.Walks.{whole}
use Rattle.frame_rows.proofs.Rows.latest_first.Goals as goal

pub returns-clause-rest : goal.returns-clause-rest
returns-clause-rest c =
    whole (row_words c.args.self.now.end.code) c.args.self.now.count c.args.self.now.store.now _ _ c.args.self.now.inside
    (rw c.states-words.ensures at c.rchunks_exact.ensures.parts) (rw c.states-words.ensures at c.rchunks_exact.ensures.remainder_len)
