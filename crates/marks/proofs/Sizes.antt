-- Where a table has a bit for a set. Assumes nothing.
use Prim.Native.Nat.{ℕ, ◌*◌, ◌^◌, ◌<◌, ◌≤◌}
use native.Mathlib.Omega.{arith}
use mathlib.Core.Path.{◌≡◌}

-- a set below the number of sets
pub bit_found : (m n size words : ℕ) → size ≡ 2 ^ n → m < size → 2 ^ n ≤ 64 * words → m < 64 * words
bit_found m n size words e h r = omega arith
