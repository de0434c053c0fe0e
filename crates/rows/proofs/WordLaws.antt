-- What the words of a row say of the number that they stand for, for rows of any count of words: a member's bit, the union, the count and
-- its meaning in distinct members, the width, one member more, and a run. Assumes nothing.
use Rattle.std.specs.Prelude.{◌≡◌, refl, ◌↔◌, Bool, true, ◌&&◌, List, [], ◌∷◌, ℕ, zero, suc, ◌+◌, ◌-◌, ◌*◌, ◌/◌, ◌%◌, ◌^◌, ◌≤◌, ◌<◌, min, length, get_or, set}
use Rattle.std.proofs.Common.{sym, ap, ap₂, subst, ◌∙◌, not-suc-le-zero, le_of_suc-le-suc, lt_of_lt_of_le, one-mul, add-mul, arith, lt-ltb, le-ltb, pow_pos, pow_mono, pow-add, shr-shr, shr_lt}
use Rattle.std.proofs.Math.Decide.{dec_lt, dec_le}
use Rattle.std.specs.Int.Bits.{bit_or, or_zero_r, or_zero_l, block_half, block_odd}
use Rattle.std.proofs.lemmas.Nat.{or_block, ones_cat}
use Rattle.std.proofs.Math.Pow.{pow-lt, high, low, split}
use Rattle.bitmap.specs.Mask.{bit, with_bit, is_below, count, run}
use Rattle.bitmap.specs.MaskLaws.{bit_zero, bit_half, bit_none}
use Rattle.bitmap.specs.CountLaws.{count_ones, count_none}
use Rattle.bitmap.specs.Members.{Many, count_means, many_map}
use Rattle.bitmap.specs.RunLaws.{run_is}
use Rattle.rows.specs.Row.{value, words_of, span}

-- each is a word of 64 bits
abbrev pub Words : List ℕ → Type 0
Words xs = (i : ℕ) → get_or xs i 0 < 2 ^ 64

power : (x y : ℕ) → x ≡ y → 2 ^ x ≡ 2 ^ y
power x y e = ap (λ (k : ℕ). 2 ^ k) e

pub value_one : (x : ℕ) → value (x ∷ []) ≡ x
unfolding value
value_one x = omega arith

-- ---- a number in two parts, of which the lower has k bits

pub bit_low : (k a r s : ℕ) → s < k → bit (a * 2 ^ k + r) s ≡ bit r s
bit_low zero a r s h = absurd (not-suc-le-zero h)
bit_low (suc k) a r zero h = bit_zero (a * 2 ^ suc k + r) ∙ block_odd a k r ∙ sym (bit_zero r)
bit_low (suc k) a r (suc s) h =
    sym (bit_half (a * 2 ^ suc k + r) s) ∙ ap (λ (x : ℕ). bit x s) (block_half a k r) ∙ bit_low k a (r / 2) s (le_of_suc-le-suc h)
    ∙ bit_half r s

pub bit_high : (k a r t : ℕ) → r < 2 ^ k → bit (a * 2 ^ k + r) (k + t) ≡ bit a t
bit_high k a r t h = ap (λ (x : ℕ). x % 2) (sym (shr-shr (a * 2 ^ k + r) k t) ∙ ap (λ (x : ℕ). x / 2 ^ t) (high a k h))

pub count_block : (k a r : ℕ) → r < 2 ^ k → count (a * 2 ^ k + r) ≡ count a + count r
count_block k a r h = omega (arith, count_ones (a * 2 ^ k + r), ones_cat k a r h, count_ones a, count_ones r)

-- ---- a member

pub word_bit : (xs : List ℕ) → Words xs → (j t : ℕ) → t < 64 → bit (value xs) (j * 64 + t) ≡ bit (get_or xs j 0) t
unfolding value
word_bit [] h j t l = bit_none (j * 64 + t) ∙ sym (bit_none t)
word_bit (x ∷ xs) h zero t l = ap (bit (value xs * 2 ^ 64 + x)) (omega arith) ∙ bit_low 64 (value xs) x t l
word_bit (x ∷ xs) h (suc j) t l =
    ap (bit (value xs * 2 ^ 64 + x)) (omega arith) ∙ bit_high 64 (value xs) x (j * 64 + t) (h 0) ∙ word_bit xs (λ i. h (suc i)) j t l

-- bit s of the number is bit s % 64 of the word s / 64
pub value_bit : (xs : List ℕ) → Words xs → (s : ℕ) → bit (value xs) s ≡ bit (get_or xs (s / 64) 0) (s % 64)
value_bit xs h s = ap (bit (value xs)) (omega arith) ∙ word_bit xs h (s / 64) (s % 64) (omega arith)

-- ---- the union, word by word

abbrev pub unite : List ℕ → List ℕ → List ℕ
unite [] ys = ys
unite (x ∷ xs) [] = x ∷ xs
unite (x ∷ xs) (y ∷ ys) = bit_or x y ∷ unite xs ys

pub value_or : (xs ys : List ℕ) → Words xs → Words ys → value (unite xs ys) ≡ bit_or (value xs) (value ys)
unfolding value
value_or [] ys h g = sym (or_zero_l (value ys))
value_or (x ∷ xs) [] h g = sym (or_zero_r (value xs * 2 ^ 64 + x))
value_or (x ∷ xs) (y ∷ ys) h g =
    ap (λ (v : ℕ). v * 2 ^ 64 + bit_or x y) (value_or xs ys (λ i. h (suc i)) (λ i. g (suc i)))
    ∙ sym (or_block 64 (value xs) (value ys) x y (h 0) (g 0))

-- ---- the count, word by word, and what it means

abbrev pub counts : List ℕ → ℕ
counts [] = 0
counts (x ∷ xs) = count x + counts xs

pub value_count : (xs : List ℕ) → Words xs → count (value xs) ≡ counts xs
unfolding value
value_count [] h = count_none
value_count (x ∷ xs) h = count_block 64 (value xs) x (h 0) ∙ omega (arith, value_count xs (λ i. h (suc i)))

-- the words have at least d members exactly if there are d pairwise different ones
pub counts_mean : (d : ℕ) (xs : List ℕ) → Words xs → (d ≤ counts xs) ↔ Many d (λ s. bit (get_or xs (s / 64) 0) (s % 64) ≡ 1)
counts_mean d xs h = (
  λ l. many_map (λ s e. sym (value_bit xs h s) ∙ e) ((count_means d (value xs)).0 (omega (arith, value_count xs h))),
  λ m. omega (arith, value_count xs h, (count_means d (value xs)).1 (many_map (λ s e. value_bit xs h s ∙ e) m)),
)

-- ---- the width: each word's part of it

abbrev pub are_below : ℕ → List ℕ → Bool
are_below w [] = true
are_below w (x ∷ xs) = is_below w x && are_below (w - 64) xs

below_block : (w v x : ℕ) → x < 2 ^ 64 → is_below w (v * 2 ^ 64 + x) ≡ (is_below w x && is_below (w - 64) v)
below_block w v x h = go (dec_lt (v * 2 ^ 64 + x) (2 ^ w)) (dec_lt x (2 ^ w)) (dec_lt v (2 ^ (w - 64))) (parts (dec_lt w 64)) (whole (dec_lt w 64))
  where
    parts : Dec (w < 64) → v * 2 ^ 64 + x < 2 ^ w → v < 2 ^ (w - 64)
    parts (yes l) g =
        let z : w - 64 ≡ 0 = omega arith in
        let p : 2 ^ (w - 64) ≡ 1 = ap (λ (k : ℕ). 2 ^ k) z in
        omega (arith, pow-lt l)
    parts (no l) g =
        let p : 2 ^ w ≡ 2 ^ (w - 64) * 2 ^ 64 = ap (λ (k : ℕ). 2 ^ k) (omega arith) ∙ pow-add 2 (w - 64) 64 in
        omega arith

    whole : Dec (w < 64) → x < 2 ^ w → v < 2 ^ (w - 64) → v * 2 ^ 64 + x < 2 ^ w
    whole (yes l) g k =
        let z : w - 64 ≡ 0 = omega arith in
        let p : 2 ^ (w - 64) ≡ 1 = ap (λ (k : ℕ). 2 ^ k) z in
        omega arith
    whole (no l) g k =
        let p : 2 ^ w ≡ 2 ^ (w - 64) * 2 ^ 64 = ap (λ (k : ℕ). 2 ^ k) (omega arith) ∙ pow-add 2 (w - 64) 64 in
        omega arith

    go : Dec (v * 2 ^ 64 + x < 2 ^ w) → Dec (x < 2 ^ w) → Dec (v < 2 ^ (w - 64)) → (v * 2 ^ 64 + x < 2 ^ w → v < 2 ^ (w - 64))
        → (x < 2 ^ w → v < 2 ^ (w - 64) → v * 2 ^ 64 + x < 2 ^ w)
        → is_below w (v * 2 ^ 64 + x) ≡ (is_below w x && is_below (w - 64) v)
    go (yes a) (yes b) (yes c) f g = rw (lt-ltb (v * 2 ^ 64 + x) (2 ^ w) a, lt-ltb x (2 ^ w) b, lt-ltb v (2 ^ (w - 64)) c)
    go (yes a) (yes b) (no c) f g = absurd (c (f a))
    go (yes a) (no b) c f g = absurd (omega arith)
    go (no a) (yes b) (yes c) f g = absurd (a (g b c))
    go (no a) (yes b) (no c) f g = rw (le-ltb (v * 2 ^ 64 + x) (2 ^ w) (omega arith), lt-ltb x (2 ^ w) b, le-ltb v (2 ^ (w - 64)) (omega arith))
    go (no a) (no b) c f g = rw (le-ltb (v * 2 ^ 64 + x) (2 ^ w) (omega arith), le-ltb x (2 ^ w) (omega arith))

pub value_below : (w : ℕ) (xs : List ℕ) → Words xs → is_below w (value xs) ≡ are_below w xs
unfolding value
value_below w [] h = lt-ltb 0 (2 ^ w) (pow_pos w)
value_below w (x ∷ xs) h = below_block w (value xs) x (h 0) ∙ ap (λ (b : Bool). is_below w x && b) (value_below (w - 64) xs (λ i. h (suc i)))

-- of a width of at least 64 the first word says nothing
pub below_past : (w x : ℕ) (xs : List ℕ) → 64 ≤ w → x < 2 ^ 64 → is_below w (value (x ∷ xs)) ≡ is_below (w - 64) (value xs)
unfolding value
below_past w x xs l h =
    below_block w (value xs) x h
    ∙ ap (λ (b : Bool). b && is_below (w - 64) (value xs)) (lt-ltb x (2 ^ w) (lt_of_lt_of_le h (pow_mono {i = 64} {j = w} l)))

-- ---- one member more

pub value_with : (xs : List ℕ) → Words xs → (j t : ℕ) → j < length xs → t < 64
    → value (set xs j (with_bit (get_or xs j 0) t)) ≡ with_bit (value xs) (j * 64 + t)
unfolding value
value_with [] h j t l g = absurd (not-suc-le-zero l)
value_with (x ∷ xs) h zero t l g =
    let p : 2 ^ (zero * 64 + t) ≡ 0 * 2 ^ 64 + 2 ^ t = power (zero * 64 + t) t (omega arith) ∙ omega arith in
    sym (ap (bit_or (value xs * 2 ^ 64 + x)) p ∙ or_block 64 (value xs) 0 x (2 ^ t) (h 0) (pow-lt g)
    ∙ ap (λ (v : ℕ). v * 2 ^ 64 + bit_or x (2 ^ t)) (or_zero_r (value xs)))
value_with (x ∷ xs) h (suc j) t l g =
    let p : 2 ^ (suc j * 64 + t) ≡ 2 ^ (j * 64 + t) * 2 ^ 64 + 0 = ap (λ (s : ℕ). 2 ^ s) (omega arith) ∙ pow-add 2 (j * 64 + t) 64
    ∙ omega arith in
    ap (λ (v : ℕ). v * 2 ^ 64 + x) (value_with xs (λ i. h (suc i)) j t (le_of_suc-le-suc l) g)
    ∙ sym (ap (bit_or (value xs * 2 ^ 64 + x)) p ∙ or_block 64 (value xs) (2 ^ (j * 64 + t)) x 0 (h 0) (pow_pos 64)
    ∙ ap (λ (y : ℕ). bit_or (value xs) (2 ^ (j * 64 + t)) * 2 ^ 64 + y) (or_zero_r x))

-- ---- a run from a up to e, word by word

abbrev pub run_words : ℕ → ℕ → ℕ → List ℕ
run_words zero a e = []
run_words (suc k) a e = span a e ∷ run_words k (a - 64) (e - 64)

run_sum : (a e : ℕ) → a ≤ e → run a (e - a) + 2 ^ a ≡ 2 ^ e
run_sum a e h =
    let p : 2 ^ e ≡ 2 ^ (e - a) * 2 ^ a = ap (λ (k : ℕ). 2 ^ k) (omega arith) ∙ pow-add 2 (e - a) a in
    let q : run a (e - a) + 2 ^ a ≡ (2 ^ (e - a) - 1) * 2 ^ a + 1 * 2 ^ a = ap₂ ◌+◌ (run_is a (e - a)) (sym (one-mul (2 ^ a))) in
    q ∙ sym (add-mul (2 ^ (e - a) - 1) 1 (2 ^ a)) ∙ ap (λ (z : ℕ). z * 2 ^ a) (omega (arith, pow_pos (e - a))) ∙ sym p

words_sum : (k a e : ℕ) → a ≤ e → e ≤ k * 64 → value (run_words k a e) + 2 ^ a ≡ 2 ^ e
unfolding value
words_sum zero a e h l = omega (arith, power a e (omega arith))
words_sum (suc k) a e h l = go (dec_le a 64) (dec_le e 64) (words_sum k (a - 64) (e - 64) (omega arith) (omega arith)) (run_sum (min a 64) (min e 64) (omega arith))
  where
    go : Dec (a ≤ 64) → Dec (e ≤ 64) → value (run_words k (a - 64) (e - 64)) + 2 ^ (a - 64) ≡ 2 ^ (e - 64)
        → span a e + 2 ^ min a 64 ≡ 2 ^ min e 64
        → value (run_words k (a - 64) (e - 64)) * 2 ^ 64 + span a e + 2 ^ a ≡ 2 ^ e
    go (yes x) (yes y) v s =
        let p : 2 ^ (a - 64) ≡ 1 = power (a - 64) 0 (omega arith) in
        let q : 2 ^ (e - 64) ≡ 1 = power (e - 64) 0 (omega arith) in
        let m : 2 ^ min a 64 ≡ 2 ^ a = power (min a 64) a (omega arith) in
        let n : 2 ^ min e 64 ≡ 2 ^ e = power (min e 64) e (omega arith) in
        omega arith
    go (yes x) (no y) v s =
        let p : 2 ^ (a - 64) ≡ 1 = power (a - 64) 0 (omega arith) in
        let q : 2 ^ e ≡ 2 ^ (e - 64) * 2 ^ 64 = ap (λ (k : ℕ). 2 ^ k) (omega arith) ∙ pow-add 2 (e - 64) 64 in
        let m : 2 ^ min a 64 ≡ 2 ^ a = power (min a 64) a (omega arith) in
        let n : 2 ^ min e 64 ≡ 2 ^ 64 = power (min e 64) 64 (omega arith) in
        omega arith
    go (no x) (yes y) v s = absurd (omega arith)
    go (no x) (no y) v s =
        let p : 2 ^ a ≡ 2 ^ (a - 64) * 2 ^ 64 = ap (λ (k : ℕ). 2 ^ k) (omega arith) ∙ pow-add 2 (a - 64) 64 in
        let q : 2 ^ e ≡ 2 ^ (e - 64) * 2 ^ 64 = ap (λ (k : ℕ). 2 ^ k) (omega arith) ∙ pow-add 2 (e - 64) 64 in
        let m : 2 ^ min a 64 ≡ 2 ^ 64 = power (min a 64) 64 (omega arith) in
        let n : 2 ^ min e 64 ≡ 2 ^ 64 = power (min e 64) 64 (omega arith) in
        omega arith

pub value_run : (k a n : ℕ) → a + n ≤ k * 64 → value (run_words k a (a + n)) ≡ run a n
value_run k a n h =
    let e : a + n - a ≡ n = omega arith in
    omega (arith, words_sum k a (a + n) (omega arith) h, run_sum a (a + n) (omega arith), ap (run a) e)

-- ---- the words of a number

pub value_words : (k m : ℕ) → m < 2 ^ (k * 64) → value (words_of k m) ≡ m
unfolding value words_of
value_words zero m h = omega arith
value_words (suc k) m h =
    let p : m < 2 ^ (k * 64 + 64) = subst (λ (x : ℕ). m < 2 ^ x) (omega arith) h in
    ap (λ (v : ℕ). v * 2 ^ 64 + m % 2 ^ 64) (value_words k (m / 2 ^ 64) (shr_lt (k * 64) 64 p)) ∙ split m 64

pub words_value : (xs : List ℕ) → Words xs → words_of (length xs) (value xs) ≡ xs
unfolding value words_of
words_value [] h = refl
words_value (x ∷ xs) h =
    ap₂ ◌∷◌ (low (value xs) 64 (h 0)) (ap (words_of (length xs)) (high (value xs) 64 (h 0)) ∙ words_value xs (λ i. h (suc i)))

-- as many words stand for one number only if they are the same
pub value_inj : (xs ys : List ℕ) → Words xs → Words ys → length xs ≡ length ys → value xs ≡ value ys → xs ≡ ys
value_inj xs ys h g n e = sym (words_value xs h) ∙ ap₂ words_of n e ∙ words_value ys g

pub words_length : (k m : ℕ) → length (words_of k m) ≡ k
unfolding words_of
words_length zero m = refl
words_length (suc k) m = ap suc (words_length k (m / 2 ^ 64))

pub value_lt : (xs : List ℕ) → Words xs → value xs < 2 ^ (length xs * 64)
unfolding value
value_lt [] h = pow_pos 0
value_lt (x ∷ xs) h =
    let p : 2 ^ (length (x ∷ xs) * 64) ≡ 2 ^ (length xs * 64) * 2 ^ 64 = power (suc (length xs) * 64) (length xs * 64 + 64) (omega arith) ∙ pow-add 2 (length xs * 64) 64 in
    omega (arith, value_lt xs (λ i. h (suc i)), h 0)
