-- `rows::run_modulo_across` meets its contract. Assumes nothing.
use native.Mathlib.Omega.{arith}
use mathlib.Core.Path.{sym, ap₂, ◌∙◌}
use lib.Bits.{bit_or}
use Rattle.bitmap.specs.RunLaws.{run_flat, run_wraps}
use Rattle.rows.proofs.run_modulo_across.Goals as goal

pub returns-then-a-k : goal.returns-then-a-k
returns-then-a-k c =
    let a = c.args in c.run.ensures ∙ sym (run_flat a.w a.from a.k c.if-a-k.true)

pub returns : goal.returns
returns c =
    let a = c.args in
    c.union.ensures ∙ ap₂ bit_or c.run-2.ensures c.run-3.ensures ∙ sym (run_wraps a.w a.from a.k c.requires.0 c.requires.2 (omega arith))
