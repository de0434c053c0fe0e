-- How large a number digits spell, and that a well-formed decimal has digits alone. Assumes nothing.
use Rattle.std.specs.Prelude.{◌≡◌, refl, Bool, true, false, not, ◌&&◌, ◌||◌, List, [], ◌∷◌, ℕ, suc, ◌+◌, ◌-◌, ◌*◌, ◌^◌, ◌≤◌, ◌<◌, leb, ltb, length}
use Rattle.std.proofs.Common.{sym, ap, ◌∙◌, le_trans, le_of_eq, le_refl, mul-le-mul_right, mul-one, one-mul, mul_assoc, add-one, arith, leb-true, pow-add}
use Rattle.std.proofs.Math.Bool.{and-eq-true_iff}
use Rattle.std.proofs.Math.Nat.{one-le-pow, pow-succ', pow-le-pow_right}
use Rattle.std.specs.List.{list_all}
use Rattle.numerals.specs.Text.{is_empty}
use Rattle.numerals.specs.Whole.{is_digit, is_digits, spelt}
use Rattle.decimals.specs.Decimal.{Written, is_well_formed, counted}

pub ten_pos : (k : ℕ) → 0 < 10 ^ k
ten_pos k = one-le-pow k 10 (omega arith)

pub digit_range : (b : ℕ) → is_digit b ≡ true → (48 ≤ b) × (b ≤ 57)
digit_range b e = let p = (and-eq-true_iff (leb 48 b) (leb b 57)).0 e in (leb-true 48 b p.0, leb-true b 57 p.1)

-- ---- (v + 1) * 10 ^ n is room for v and n digits after it

pub room_step : (v d n most : ℕ) → d ≤ 9 → (v + 1) * 10 ^ suc n ≤ most → (v * 10 + d + 1) * 10 ^ n ≤ most
room_step v d n most h g =
    let k : (v * 10 + d + 1) * 10 ^ n ≤ ((v + 1) * 10) * 10 ^ n = mul-le-mul_right (10 ^ n) (omega arith) in
    le_trans k (le_trans (le_of_eq (mul_assoc (v + 1) 10 (10 ^ n) ∙ ap (λ (z : ℕ). (v + 1) * z) (sym (pow-succ' 10 n)))) g)

pub spelt_fills : (v : ℕ) (s : List ℕ) → list_all is_digit s ≡ true → spelt v s + 1 ≤ (v + 1) * 10 ^ length s
unfolding spelt
spelt_fills v [] e = le_of_eq (sym (mul-one (v + 1)))
spelt_fills v (b ∷ bs) e =
    let p = (and-eq-true_iff (is_digit b) (list_all is_digit bs)).0 e in
    let d = digit_range b p.0 in
    le_trans (spelt_fills (v * 10 + (b - 48)) bs p.1) (room_step v (b - 48) (length bs) ((v + 1) * 10 ^ suc (length bs)) (omega arith) (le_refl _))

pub room_for : (n most : ℕ) → n ≤ most → 1 * 10 ^ n ≤ 10 ^ most
room_for n most h = rw one-mul (pow-le-pow_right (omega arith) h)

pub spelt_small : (s : List ℕ) (most : ℕ) → list_all is_digit s ≡ true → length s ≤ most → spelt 0 s < 10 ^ most
spelt_small s most e h = le_trans (le_of_eq (sym (add-one _))) (le_trans (spelt_fills 0 s e) (room_for (length s) most h))

-- ---- the digits of a decimal

module _ (i f : List ℕ) (e : list_all is_digit i ≡ true) (h : length i + length f ≤ 15) where
  pub room_after : (spelt 0 i + 1) * 10 ^ length f ≤ 10 ^ 15
  room_after =
      le_trans (mul-le-mul_right (10 ^ length f) (spelt_fills 0 i e))
      (le_trans (le_of_eq (ap (λ (z : ℕ). z * 10 ^ length f) (one-mul (10 ^ length i)) ∙ sym (pow-add 10 (length i) (length f)))) (pow-le-pow_right (omega arith) h))

  pub both_small : list_all is_digit f ≡ true → spelt (spelt 0 i) f < 10 ^ 15
  both_small g = le_trans (le_of_eq (sym (add-one _))) (le_trans (spelt_fills (spelt 0 i) f g) room_after)

-- a decimal that is well formed has digits alone: without an exponent there is none of one
pub record Formed (w : Written) : Type 0 where
  pub whole_digits : list_all is_digit w.whole ≡ true
  pub fraction_digits : list_all is_digit w.fraction ≡ true
  pub power_digits : (w.raised ≡ false → w.power ≡ []) → list_all is_digit w.power ≡ true

pub formed : (w : Written) → is_well_formed w ≡ true → Formed w
unfolding is_digits
formed w e =
    let a = (and-eq-true_iff (list_all is_digit w.whole) (list_all is_digit w.fraction && (ltb 0 (counted w) && (not w.raised || is_digits w.power)))).0 e in
    let b = (and-eq-true_iff (list_all is_digit w.fraction) (ltb 0 (counted w) && (not w.raised || is_digits w.power))).0 a.1 in
    let c = (and-eq-true_iff (ltb 0 (counted w)) (not w.raised || is_digits w.power)).0 b.1 in
    record { whole_digits = a.0; fraction_digits = b.0; power_digits = λ h. go h w.raised refl c.1 }
  where
    go : (w.raised ≡ false → w.power ≡ []) → (r : Bool) → w.raised ≡ r → (not r || is_digits w.power) ≡ true → list_all is_digit w.power ≡ true
    go h false q t = rw (h q)
    go h true q t = ((and-eq-true_iff (not (is_empty w.power)) (list_all is_digit w.power)).0 t).1
