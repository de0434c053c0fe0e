-- `decimals::value` meets its contract. Assumes nothing.
use Rattle.std.proofs.Common.{◌∙◌, sym, refl, arith}
use borrow.Author.Tests.{leb-true}
use Rattle.refusals.proofs.Checks.{went_on}
use Rattle.decimals.proofs.Steps.{power_digits, scale_means, all_small}
use Rattle.decimals.proofs.value.Goals as goal

pub scale-ups-requires : goal.scale-ups-requires
scale-ups-requires c =
    let h = sym c.has_digits.ensures ∙ went_on _ 6 c.in_ok-unless.ensures in
    let s = sym c.is_short.ensures ∙ went_on _ 7 c.in_ok-unless-3.ensures in
    let n = leb-true _ _ (went_on _ 7 c.in_ok-unless-2.ensures) in
    (power_digits c.args.d.now.exponent _ h, leb-true _ _ s, omega (arith, n))

pub scaled-requires : goal.scaled-requires
scaled-requires c =
    let a = c.in-Some.ensures in
    let n = leb-true _ _ (went_on _ 7 c.in_ok-unless-2.ensures) in
    let k = scale_means _ _ (sym c.is_scale.ensures ∙ went_on _ 7 c.in_ok-unless-4.ensures) in
    (all_small c.args.d.now.whole.now c.args.d.now.fraction.now a.0 n (a.1 refl n), k.0, k.1)
