-- A whole number times or over a power of ten, both held exactly: rounded once. Assumes nothing.
use mathlib.Core.Path.{◌≡◌, sym, ap, ◌∙◌}
use mathlib.Core.Bool.{true, false, true≢false}
use Prim.Native.Nat.{ℕ, ◌+◌, ◌-◌, ◌*◌, ◌^◌, ◌≤◌, ◌<◌}
use native.Mathlib.Nat.{mul-one, mul-pos, mul_comm, mul_assoc, mul_left_comm, lt_irrefl, zero-mul, zero-lt-suc}
use native.Mathlib.Omega.{arith}
use borrow.Author.Tests.{ne_eqb}
use lib.Pow.{pow-add}
use lib.Ieee.{inf, nan, Float, fin, binary64, up, down, round, mul, div}
use lib.Ieee.Fits.{down_pos}
use lib.Ieee.Exact.{HasValue}
use lib.Ieee.Scale.{round_same}
use Rattle.decimals.proofs.DigitLaws.{ten_pos}

-- ---- one operation on whole numbers rounds once
mul_exact : (x y : Float) (a b : ℕ) → HasValue x false a 1 → HasValue y false b 1 → mul binary64 x y ≡ round binary64 false (a * b) 1
unfolding mul
mul_exact (fin true m e) y a b v w = absurd (true≢false v.0)
mul_exact (fin false m e) (fin true n d) a b v w = absurd (true≢false w.0)
mul_exact (fin false m e) (fin false n d) a b v w =
    let p : m * up e ≡ a * down e = sym (mul-one (m * up e)) ∙ v.1 in
    let q : n * up d ≡ b * down d = sym (mul-one (n * up d)) ∙ w.1 in
    round_same binary64 false (m * up e * (n * up d)) (down e * down d) (a * b) 1 (mul-pos (down_pos e) (down_pos d)) (zero-lt-suc 0)
    (rw (p, q) (simp (mul-one, mul_assoc, mul_left_comm)))
mul_exact nan y a b v w = elim v [ ]
mul_exact (inf _) y a b v w = elim v [ ]
mul_exact (fin false m e) nan a b v w = elim w [ ]
mul_exact (fin false m e) (inf _) a b v w = elim w [ ]

div_exact : (x y : Float) (a b : ℕ) → 0 < b → HasValue x false a 1 → HasValue y false b 1 → div binary64 x y ≡ round binary64 false a b
unfolding div
div_exact (fin true m e) y a b B v w = absurd (true≢false v.0)
div_exact (fin false m e) (fin true n d) a b B v w = absurd (true≢false w.0)
div_exact (fin false m e) (fin false n d) a b B v w =
    let p : m * up e ≡ a * down e = sym (mul-one (m * up e)) ∙ v.1 in
    let q : n * up d ≡ b * down d = sym (mul-one (n * up d)) ∙ w.1 in
    let D : 0 < n * up d = rw q (mul-pos B (down_pos d)) in
    rw (ne_eqb n 0 (λ z. lt_irrefl 0 (rw (z, zero-mul) at D)))
    (round_same binary64 false (m * up e * down d) (n * up d * down e) a b (mul-pos D (down_pos e)) B (rw (p, q) (simp (mul_assoc, mul_comm, mul_left_comm))))
div_exact nan y a b B v w = elim v [ ]
div_exact (inf _) y a b B v w = elim v [ ]
div_exact (fin false m e) nan a b B v w = elim w [ ]
div_exact (fin false m e) (inf _) a b B v w = elim w [ ]

-- ---- and the power of ten that both have in common goes
apart : (u d : ℕ) → d ≤ u → 10 ^ u ≡ 10 ^ (u - d) * 10 ^ d
apart u d h =
    let e : u ≡ (u - d) + d = omega arith in
    ap (λ (k : ℕ). 10 ^ k) e ∙ pow-add 10 (u - d) d

module _ (x y : Float) (m ups downs : ℕ) (v : HasValue x false m 1) where
  pub times_ten : downs ≤ ups → HasValue y false (10 ^ (ups - downs)) 1 → mul binary64 x y ≡ round binary64 false (m * 10 ^ ups) (10 ^ downs)
  times_ten h w =
      mul_exact x y m (10 ^ (ups - downs)) v w
      ∙ round_same binary64 false (m * 10 ^ (ups - downs)) 1 (m * 10 ^ ups) (10 ^ downs) (zero-lt-suc 0) (ten_pos downs)
      (rw (apart ups downs h) (simp (mul-one, mul_assoc)))

  pub over_ten : ups < downs → HasValue y false (10 ^ (downs - ups)) 1 → div binary64 x y ≡ round binary64 false (m * 10 ^ ups) (10 ^ downs)
  over_ten h w =
      div_exact x y m (10 ^ (downs - ups)) (ten_pos (downs - ups)) v w
      ∙ round_same binary64 false m (10 ^ (downs - ups)) (m * 10 ^ ups) (10 ^ downs) (ten_pos (downs - ups)) (ten_pos downs)
      (ap (λ (k : ℕ). m * k) (apart downs ups (omega arith) ∙ mul_comm (10 ^ (downs - ups)) (10 ^ ups)) ∙ sym (mul_assoc m (10 ^ ups) (10 ^ (downs - ups))))
