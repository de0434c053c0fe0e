-- `layout_text::Initial::write_runs` meets its contract. Assumes nothing.
use Rattle.std.proofs.Common.{rules, ◌≡◌, Err, refl, sym, arith}
use Rattle.layout_text.proofs.LayoutLaws.{tabled}
use Rattle.layout_text.proofs.Rows.{lands_untabled, lands_written}
use Rattle.layout_text.proofs.Initial.write_runs.Goals as goal

pub runs-requires : goal.runs-requires
runs-requires c =
    let t = (tabled _ _ _).0 (sym c.in_ok-check_table.ensures) in
    (c.requires, omega (arith, t.1))

pub returns : goal.returns
returns c =
    lands_written _ _ c.args.rows.now _ _ refl c.in_ok-check_table.ensures (λ j. (c.type_inv.rows j).fits) (search rules) c.runs.ensures

pub returns-in_err-check_table : goal.returns-in_err-check_table
returns-in_err-check_table c =
    let e : c.from_residual.result ≡ Err c.in_err-check_table.field-0.0 = search rules in
    rw e (lands_untabled _ _ _ _ _ refl _ c.in_err-check_table.ensures)
