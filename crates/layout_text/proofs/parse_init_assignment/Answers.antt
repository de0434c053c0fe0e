-- `layout_text::parse_init_assignment` meets its contract. Assumes nothing.
use Rattle.std.proofs.Common.{rules, ◌≡◌, Err, sym, arith}
use Rattle.layout_text.proofs.LayoutLaws.{readable, length_le}
use Rattle.layout_text.proofs.Rows.{ends_unread, ends_runs, ends_segments}
use Rattle.layout_text.proofs.parse_init_assignment.Goals as goal

pub invariant_of-initial : goal.invariant_of-initial
invariant_of-initial c =
    let r = (readable _ _ _ _).0 (sym c.in_ok-check_input.ensures) in
    record { some_replicas = r.population.0; few_replicas = r.population.1; some_shards = omega (arith, r.shards); few_shards = r.shards.2 }

pub write_runs-requires : goal.write_runs-requires
write_runs-requires c =
    let r = (readable _ _ _ _).0 (sym c.in_ok-check_input.ensures) in
    length_le _ _ _ _ r.shards.1 (sym c.in-Ok.ensures)

pub returns-in-Ok : goal.returns-in-Ok
returns-in-Ok c =
    ends_runs _ _ _ _ c.args.rows.now c.in_ok-check_input.ensures c.in-Ok.ensures c.write_runs.ensures

pub returns-in-Err : goal.returns-in-Err
returns-in-Err c =
    ends_segments _ _ _ _ c.args.rows.now c.in_ok-check_input.ensures c.in-Err.ensures c.write_segments.ensures

pub returns-in_err-check_input : goal.returns-in_err-check_input
returns-in_err-check_input c =
    let e : c.from_residual.result ≡ Err c.in_err-check_input.field-0.0 = search rules in
    rw e (ends_unread _ _ _ _ _ _ c.in_err-check_input.ensures)
