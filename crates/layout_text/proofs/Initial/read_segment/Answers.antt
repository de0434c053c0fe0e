-- `layout_text::Initial::read_segment` meets its contract. Assumes nothing.
use Rattle.std.proofs.Common.{rules, ◌≡◌, arith, Err}
use Rattle.layout_text.proofs.Rows.{colon_le, colon_none, colon_inside, replica_refused, shards_refused, segment_read, row_refused, row_below, row_united}
use Rattle.layout_text.proofs.Initial.read_segment.Goals as goal

pub returns-then-c-s : goal.returns-then-c-s
returns-then-c-s c =
    row_refused _ _ _ _ (colon_none _ _ _ c.find-c.ensures c.if-c-s.true)

pub upto-requires : goal.upto-requires
upto-requires c =
    colon_le 0 0 _ c.find-c.ensures

pub overflow_add-c : goal.overflow_add-c
overflow_add-c c =
    let h = colon_inside 0 0 _ c.find-c.ensures c.if-c-s.false in
    omega (arith, h)

pub after-requires : goal.after-requires
after-requires c =
    let h = colon_inside 0 0 _ c.find-c.ensures c.if-c-s.false in
    omega (arith, h)

pub returns-in_err-r : goal.returns-in_err-r
returns-in_err-r c =
    let e : c.from_residual.result ≡ Err c.in_err-r.field-0.0 = search rules in
    rw e (row_refused _ _ _ _ (replica_refused _ _ _ c.find-c.ensures c.if-c-s.false c.upto.ensures c.in_err-r.ensures))

pub returns-in_err-row : goal.returns-in_err-row
returns-in_err-row c =
    let e : c.from_residual-in_err-row.result ≡ Err c.in_err-row.field-0.0 = search rules in
    rw e (row_refused _ _ _ _ (shards_refused _ _ _ c.find-c.ensures c.if-c-s.false c.upto.ensures c.in_ok-r.ensures c.after.ensures c.in_err-row.ensures))

pub unite-requires : goal.unite-requires
unite-requires c =
    let s = segment_read c.args.self.population c.args.self.total c.args.s.now c.find-c.ensures c.if-c-s.false c.upto.ensures c.in_ok-r.ensures c.after.ensures c.in_ok-row.ensures in
    let h = row_below _ _ _ _ _ s in
    omega (arith, h)

pub returns : goal.returns
returns c =
    let s = segment_read c.args.self.population c.args.self.total c.args.s.now c.find-c.ensures c.if-c-s.false c.upto.ensures c.in_ok-r.ensures c.after.ensures c.in_ok-row.ensures in
    row_united _ _ _ _ _ s c.args.words.now (omega arith) c.unite.ensures.room c.unite.ensures.words
