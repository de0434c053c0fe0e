-- `layout_text::Initial::write_segments` meets its contract. Assumes nothing.
use Rattle.std.proofs.Common.{rules, ◌≡◌, Err, sym, arith, length}
use Rattle.layout_text.proofs.LayoutLaws.{tabled}
use Rattle.layout_text.proofs.Rows.{segments_read, lands_misread, lands_untabled, lands_written, copied_rows}
use Rattle.layout_text.proofs.Initial.write_segments.Goals as goal

pub copy-requires : goal.copy-requires
copy-requires c =
    let t = (tabled _ _ _).0 (sym c.in_ok-check_table.ensures) in
    let k : length c.read_segments.new.words ≡ 64 = search rules in
    omega (arith, t.1, k)

pub returns : goal.returns
returns c =
    let f = c.in_ok-check_table.ensures in
    let w = c.read_segments.new.words in
    lands_written _ _ c.args.rows.now _ _ (segments_read _ _ _ c.in_ok-read_segments.ensures) f (λ j. (c.type_inv.rows j).fits) (search rules) (copied_rows _ _ _ f w _ c.copy.ensures)

pub returns-in_err-read_segments : goal.returns-in_err-read_segments
returns-in_err-read_segments c =
    let e : c.from_residual.result ≡ Err c.in_err-read_segments.field-0.0 = search rules in
    rw e (lands_misread _ _ _ _ (segments_read _ _ _ c.in_err-read_segments.ensures))

pub returns-in_err-check_table : goal.returns-in_err-check_table
returns-in_err-check_table c =
    let e : c.from_residual-in_err-check_table.result ≡ Err c.in_err-check_table.field-0.0 = search rules in
    rw e (lands_untabled _ _ _ _ _ (segments_read _ _ _ c.in_ok-read_segments.ensures) _ c.in_err-check_table.ensures)
