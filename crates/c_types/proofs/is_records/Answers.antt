-- `c_types::is_records` meets its contract. Assumes nothing.
use Rattle.c_types.proofs.Records.{records}
use Rattle.c_types.proofs.is_records.Goals as goal

pub returns-then-len-each-ne0 : goal.returns-then-len-each-ne0
returns-then-len-each-ne0 c =
    search records
