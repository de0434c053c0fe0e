-- `layout_text::unite` meets its contract. Assumes nothing.
use Prim.Native.Nat.{◌^◌, ◌<◌}
use native.Mathlib.Omega.{arith}
use Rattle.layout_text.proofs.Rows.{united_written, united_small}
use Rattle.layout_text.proofs.unite.Goals as goal

pub returns : goal.returns
returns c =
    let a = c.args in
    let o = c.union.type_inv in
    let w0 : c.union.result.w0 < 2 ^ 64 = omega arith in
    let w1 : c.union.result.w1 < 2 ^ 64 = omega arith in
    let w2 : c.union.result.w2 < 2 ^ 64 = omega arith in
    let w3 : c.union.result.w3 < 2 ^ 64 = omega arith in record { words = united_written a.row c.union.result w0 w1 w2 w3 a.words.now a.r.0 _ c.read_row.ensures c.union.ensures c.put.ensures; room = united_small a.row c.union.result w0 w1 w2 w3 a.words.now a.r.0 _ c.read_row.ensures c.union.ensures }
