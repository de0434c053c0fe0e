-- `coverage::Holdings::all_leave` meets its contract. Assumes nothing.
use Rattle.coverage.proofs.Walks.{low_same}
use Rattle.coverage.proofs.Holdings.all_leave.Goals as goal

pub all_leave_as-requires : goal.all_leave_as-requires
all_leave_as-requires c =
    let h = c.args.self.now in low_same h.population h.width h.rows.now c.if-self-le64.true h.below
