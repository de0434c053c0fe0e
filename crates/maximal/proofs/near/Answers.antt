-- `maximal::near` meets its contract. Assumes nothing.
use mathlib.Core.Path.{◌≡◌, refl, ap}
use Prim.Native.Nat.{ℕ, zero, suc, ◌<◌, ◌/◌, ◌^◌}
use native.Mathlib.Omega.{arith}
use Rattle.std.proofs.Common.{ap₂, get_or}
use Rattle.std.specs.Int.Bits.{bit_and}
use Rattle.bitmap.specs.Mask.{mask_below}
use Rattle.maximal.specs.declared.TheConstants.{LACKING}
use Rattle.maximal.specs.Tables.{is_lacking}
use Rattle.maximal.proofs.Passes.{shift, shift_fits}
use Rattle.maximal.proofs.near.Goals as goal

pub overflow_shr-result : goal.overflow_shr-result
overflow_shr-result c =
    search shift_fits

-- the table has them, by computing
lacking : (b : ℕ) → b < 6 → get_or LACKING b 0 ≡ mask_below (is_lacking b) 64
unfolding mask_below
lacking zero h = refl
lacking (suc zero) h = refl
lacking (suc (suc zero)) h = refl
lacking (suc (suc (suc zero))) h = refl
lacking (suc (suc (suc (suc zero)))) h = refl
lacking (suc (suc (suc (suc (suc zero))))) h = refl
lacking (suc (suc (suc (suc (suc (suc b)))))) h = absurd (omega arith)

pub returns : goal.returns
returns c =
    ap₂ bit_and (ap (λ (x : ℕ). c.args.w / 2 ^ x) (shift c.args.b c.requires)) (lacking c.args.b c.requires)
