-- `bitmap::run_modulo` meets its contract. Assumes nothing.
use mathlib.Core.Path.{sym, ap₂, ◌∙◌}
use lib.Bits.{bit_or}
use native.Mathlib.Omega.{arith}
use Rattle.bitmap.specs.RunLaws.{run_flat, run_wraps}
use Rattle.bitmap.proofs.run_modulo.Goals as goal

pub returns-then-from-k : goal.returns-then-from-k
returns-then-from-k c =
    let a = c.args in c.run.ensures ∙ sym (run_flat a.w a.a a.k c.if-from-k.true)

pub returns : goal.returns
returns c =
    let a = c.args in
    ap₂ bit_or c.run-2.ensures c.run-3.ensures ∙ sym (run_wraps a.w a.a a.k c.requires.0 c.requires.2 (omega arith))
