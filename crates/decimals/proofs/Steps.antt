-- A minus sign at the start of a text, and one step of the loop over digits. Assumes nothing.
use mathlib.Core.Path.{◌≡◌, refl, sym, ◌∙◌}
use mathlib.Core.Bool.{Bool, true, false, not, ◌&&◌, ◌||◌, and-eq-true_iff}
use mathlib.Core.List.{List, [], ◌∷◌}
use Prim.Native.Nat.{ℕ, suc, ◌+◌, ◌-◌, ◌*◌, ◌%◌, ◌^◌, ◌≤◌, ◌<◌}
use native.Mathlib.Nat.{mul-le-mul_left, sub-zero}
use native.Mathlib.Numerals.{add-one}
use native.Mathlib.Omega.{arith}
use borrow.Author.Tests.{leb-true, lt-ltb, le-ltb, ne_eqb}
use lib.Dec.{leb}
use lib.ListN.{length, get_or, take, drop, drop_of_length-le}
use lib.Seq.{drop-cons, take-length}
use Rattle.std.specs.List.{list_all, list_any}
use Rattle.lists.specs.AllLaws.{all_means}
use Rattle.std.specs.Prelude.{Option, Some, None}
use Rattle.std.specs.Option.{is_some}
use Rattle.numerals.specs.Text.{without, is_empty, cut_by, before, behind}
use Rattle.numerals.specs.TextLaws.{any_cut}
use Rattle.numerals.specs.Whole.{is_digit, is_digits, spelt}
use Rattle.numerals.proofs.Scans.{without_first}
use Rattle.decimals.specs.declared.Exponent.{Exponent}
use Rattle.decimals.specs.Decimal.{is_negative, is_sign, is_e, unsigned, written_of}
use Rattle.decimals.specs.Parts.{is_raised, power_of}
use Rattle.decimals.proofs.DigitLaws.{ten_pos, digit_range, room_step, room_for, room_after, both_small}

-- ---- a sign
pub sign_minus : (s : List ℕ) → 1 ≤ length s → get_or s 0 0 ≡ 45 → (true ≡ is_negative s) × (take (length s - 1) (drop 1 s) ≡ unsigned s)
unfolding is_negative
sign_minus [] h e = absurd (omega arith)
sign_minus (b ∷ bs) h e = (rw e, without_first is_sign (b ∷ bs) h (rw e))

pub sign_plus : (s : List ℕ) → 1 ≤ length s → get_or s 0 0 ≡ 43 → (false ≡ is_negative s) × (take (length s - 1) (drop 1 s) ≡ unsigned s)
unfolding is_negative
sign_plus [] h e = absurd (omega arith)
sign_plus (b ∷ bs) h e = (rw e, without_first is_sign (b ∷ bs) h (rw e))

pub sign_empty : (s : List ℕ) → length s < 1 → (false ≡ is_negative s) × (s ≡ unsigned s)
unfolding is_negative without
sign_empty [] h = (refl, refl)
sign_empty (b ∷ bs) h = absurd (omega arith)

pub sign_none : (s : List ℕ) → (get_or s 0 0 ≡ 45 → ⊥) → (get_or s 0 0 ≡ 43 → ⊥) → (false ≡ is_negative s) × (s ≡ unsigned s)
unfolding is_negative without
sign_none [] m p = (refl, refl)
sign_none (b ∷ bs) m p = (sym (ne_eqb b 45 m), rw (ne_eqb b 45 m, ne_eqb b 43 p))

-- ---- digits
module _ (i : ℕ) (s : List ℕ) (e : list_all is_digit s ≡ true) (h : i < length s) where
  digit_at : (48 ≤ get_or s i 0) × (get_or s i 0 ≤ 57)
  digit_at = digit_range (get_or s i 0) ((all_means is_digit 0 s).0 e i h)

-- there is room for v and n digits after it
room_small : (v n most : ℕ) → (v + 1) * 10 ^ n ≤ most → v < most
room_small v n most g =
    let k : (v + 1) * 1 ≤ (v + 1) * 10 ^ n = mul-le-mul_left (v + 1) (ten_pos n) in
    omega arith

module _ (v i most : ℕ) (s : List ℕ) (e : list_all is_digit s ≡ true) (h : i < length s) where
  room_next : (v + 1) * 10 ^ (length s - i) ≤ most → (v * 10 + (get_or s i 0 - 48) + 1) * 10 ^ (length s - (i + 1)) ≤ most
  room_next g =
      let k : length s - i ≡ suc (length s - (i + 1)) = omega arith in
      let d = digit_at i s e h in
      room_step v (get_or s i 0 - 48) (length s - (i + 1)) most (omega (arith, d.1)) (rw k at g)

-- v is what the digits before i spell
module _ (v i : ℕ) (s : List ℕ) {n : ℕ} (inv : n ≡ spelt v (drop i s)) where
  spelt_next : i < length s → n ≡ spelt (v * 10 + (get_or s i 0 - 48)) (drop (i + 1) s)
  unfolding spelt
  spelt_next h = inv ∙ rw (drop-cons s i 0 h, add-one)

  spelt_end : length s ≤ i → v ≡ n
  unfolding spelt
  spelt_end h = sym (inv ∙ simp (drop_of_length-le s h))

-- ---- a step that takes a byte for a digit: what holds where all bytes are digits and there is room for them
module _ (v w i : ℕ) (s : List ℕ) where
  abbrev pub Spelling : Type 0
  Spelling = list_all is_digit s ≡ true → (v + 1) * 10 ^ length s ≤ 10 ^ 15 → ((w + 1) * 10 ^ (length s - i) ≤ 10 ^ 15) × (spelt v s ≡ spelt w (drop i s))

module _ (v w i : ℕ) (s : List ℕ) (inv : Spelling v w i s) where
  pub spelling_next : i < length s → Spelling v (w % 2 ^ 56 * 10 + get_or s i 0 % 16) (i + 1) s
  spelling_next l e h =
      let k = inv e h in
      let d = digit_at i s e l in
      let small = room_small w (length s - i) (10 ^ 15) k.0 in
      let q : w % 2 ^ 56 * 10 + get_or s i 0 % 16 ≡ w * 10 + (get_or s i 0 - 48) = omega (arith, small, d.0, d.1) in
      rw q (room_next w i (10 ^ 15) s e l k.0, spelt_next w i s k.1 l)

  pub spelling_ends : length s ≤ i → list_all is_digit s ≡ true → (v + 1) * 10 ^ length s ≤ 10 ^ 15 → w ≡ spelt v s
  spelling_ends l e h = spelt_end w i s (inv e h).1 l

-- ---- both runs of digits, one after the other
pub digits_read : (i f : List ℕ) (a : ℕ) (r : Option ℕ) → true ≡ list_all is_digit i → (list_all is_digit i ≡ true → (0 + 1) * 10 ^ length i ≤ 10 ^ 15 → ◌≡◌ {A = Option ℕ} (Some a) (Some (spelt 0 i)))
    → is_some r ≡ list_all is_digit f → (list_all is_digit f ≡ true → (a + 1) * 10 ^ length f ≤ 10 ^ 15 → r ≡ Some (spelt a f))
    → (is_some r ≡ (list_all is_digit i && list_all is_digit f)) × (is_some r ≡ true → length i + length f ≤ 15 → r ≡ Some (spelt (spelt 0 i) f))
digits_read i f a r p g q k = (
  rw (← p) q,
  λ t h.
      let s : ◌≡◌ {A = Option ℕ} (Some a) (Some (spelt 0 i)) = g (sym p) (room_for (length i) 15 (omega arith)) in
      let e : a ≡ spelt 0 i = cc in
      k (sym q ∙ t) (rw e (room_after i f (sym p) h)) ∙ rw e,
)

pub all_small : (i f : List ℕ) {m : ℕ} → true ≡ (list_all is_digit i && list_all is_digit f) → length i + length f ≤ 15 → ◌≡◌ {A = Option ℕ} (Some m) (Some (spelt (spelt 0 i) f)) → m < 10 ^ 15
all_small i f {m} t h s =
    let p = (and-eq-true_iff (list_all is_digit i) (list_all is_digit f)).0 (sym t) in
    let e : m ≡ spelt (spelt 0 i) f = cc in
    rw e (both_small i f p.0 h p.1)

-- ---- the power of ten that is left
pub scale_means : (ups downs : ℕ) → (leb ups (downs + 22) && leb downs (ups + 22)) ≡ true → (ups ≤ downs + 22) × (downs ≤ ups + 22)
scale_means ups downs e =
    let p = (and-eq-true_iff (leb ups (downs + 22)) (leb downs (ups + 22))).0 e in
    (leb-true ups (downs + 22) p.0, leb-true downs (ups + 22) p.1)

-- ---- the exponent
-- its digits are digits, where there are any
pub power_digits : (e : Option Exponent) (n : Bool) → (n && (not (is_raised e) || is_digits (power_of e))) ≡ true → list_all is_digit (power_of e) ≡ true
unfolding is_digits
power_digits None n h = refl
power_digits (Some e) n h =
    let p = (and-eq-true_iff n (not (is_empty e.power.now) && list_all is_digit e.power.now)).0 h in
    ((and-eq-true_iff (not (is_empty e.power.now)) (list_all is_digit e.power.now)).0 p.1).1

-- a text with the letter at c, and one without
module _ (s : List ℕ) {u : List ℕ} {negative : Bool} (n : negative ≡ is_negative s) (e : u ≡ unsigned s) where
  pub raised_parts : {c : ℕ} {m x q : List ℕ} {lowers : Bool} → c ≡ cut_by is_e u → cut_by is_e u < length u → x ≡ drop (c + 1) u → m ≡ take c u
      → lowers ≡ is_negative x → q ≡ unsigned x
      → record { negative = negative; whole = before 46 m; fraction = behind 46 m; raised = true; lowers = lowers; power = q } ≡ written_of s
  unfolding written_of
  raised_parts k h x m l q =
      let r : list_any is_e (unsigned s) ≡ true = rw (← e) (any_cut is_e u ∙ lt-ltb _ _ h) in
      rw (n, q, l, x, m, k, e, r)

  pub plain_parts : cut_by is_e u ≡ length u
      → record { negative = negative; whole = before 46 u; fraction = behind 46 u; raised = false; lowers = false; power = [] } ≡ written_of s
  unfolding written_of is_negative without
  plain_parts k =
      let r : list_any is_e (unsigned s) ≡ false = rw (← e) (any_cut is_e u ∙ le-ltb _ _ (omega arith)) in
      let t : take (cut_by is_e (unsigned s)) (unsigned s) ≡ u = rw (← e, k) (take-length u) in
      let d : drop (cut_by is_e (unsigned s) + 1) (unsigned s) ≡ [] = rw (← e, k) (drop_of_length-le u (omega arith)) in
      rw (n, t, d, r)
