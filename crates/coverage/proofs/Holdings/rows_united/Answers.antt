-- `coverage::Holdings::rows_united` meets its contract. Assumes nothing.
use Rattle.coverage.proofs.Walks.{low_same}
use Rattle.coverage.proofs.Holdings.rows_united.Goals as goal

pub rows_united_as-requires : goal.rows_united_as-requires
rows_united_as-requires c =
    let h = c.args.self.now in low_same h.population h.width h.rows.now c.if-self-le64.true h.below
