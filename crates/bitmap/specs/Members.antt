-- What a count means: m has at least d members exactly if there are d pairwise different numbers in it. Assumes nothing.
use Rattle.std.specs.Prelude.{◌≡◌, refl, ◌⊎◌, ◌↔◌, List, [], ◌∷◌, map, ℕ, zero, suc, ◌+◌, ◌-◌, ◌/◌, ◌%◌, ◌^◌, ◌≤◌, ◌<◌, length, take}
use Rattle.std.proofs.Common.{sym, ap, ◌∙◌, ⊎_elim, inl, inr, le_trans, suc-ne-zero, pow-suc, mul-div_cancel, zero-lt-suc, arith, length-take-le}
use Rattle.std.proofs.Math.Nat.{suc_inj, mul-mod_left}
use Rattle.std.proofs.Math.Decide.{ℕ_discrete}
use Rattle.std.proofs.Math.Arith.{bin_ind}
use Rattle.std.specs.Int.Bits.{bit_and}
use Rattle.std.proofs.lemmas.Nat.{or_lt}
use Rattle.std.proofs.Math.Pow.{pow-lt}
use Rattle.std.proofs.lemmas.List.{length-map}
use Rattle.lists.specs.All.{AllOf, Distinct}
use Rattle.lists.specs.AllLaws.{all_of_map}
use Rattle.bitmap.specs.Mask.{bit, with_bit, count}
use Rattle.bitmap.specs.MaskLaws.{bit_zero, bit_half, bit_of_and, bit_none, bit_same, bit_other, bit_with, same_bits, Within, within_or_left}
use Rattle.bitmap.specs.CountLaws.{count_step, count_none, count_within, count_or}

-- d pairwise different numbers of which Q holds
pub record Many (d : ℕ) (Q : ℕ → Type 0) : Type 0 where
  pub list : List ℕ
  pub long : length list ≡ d
  pub distinct : Distinct list
  pub each : AllOf Q list

-- ---- from a mask to a list

all_suc : {P : ℕ → Type 0} (Q : ℕ → Type 0) → ((k : ℕ) → P k → Q (suc k)) → (xs : List ℕ) → AllOf P xs → AllOf Q (map suc xs)
all_suc Q f [] a = tt
all_suc Q f (x ∷ xs) a = (f x a.0, all_suc Q f xs a.1)

all_true : {Q : ℕ → Type 0} → ((k : ℕ) → Q k) → (xs : List ℕ) → AllOf Q xs
all_true f [] = tt
all_true f (x ∷ xs) = (f x, all_true f xs)

distinct_suc : (xs : List ℕ) → Distinct xs → Distinct (map suc xs)
distinct_suc [] h = tt
distinct_suc (x ∷ xs) h = (all_suc (λ y. y ≡ suc x → ⊥) (λ k n e. n (suc_inj e)) xs h.0, distinct_suc xs h.1)

abbrev Bits : ℕ → Type 0
Bits m = (xs : List ℕ) × (length xs ≡ count m) × Distinct xs × AllOf (λ k. bit m k ≡ 1) xs

bits : (m : ℕ) → Bits m
bits = bin_ind Bits ([], sym count_none, tt, tt) step
  where
    step : (n : ℕ) → Bits (n / 2) → Bits n
    step n h = go (n % 2) refl
      where
        up : AllOf (λ k. bit n k ≡ 1) (map suc h.0)
        up = all_suc (λ k. bit n k ≡ 1) (λ k e. sym (bit_half n k) ∙ e) h.0 h.3

        go : (r : ℕ) → n % 2 ≡ r → Bits n
        go zero e = (map suc h.0, omega (arith, length-map h.0 suc, h.1, count_step n), distinct_suc h.0 h.2, up)
        go (suc zero) e = (
          0 ∷ map suc h.0,
          omega (arith, length-map h.0 suc, h.1, count_step n),
          (all_suc {P = λ k. Unit {0}} (λ y. y ≡ 0 → ⊥) (λ k t e. suc-ne-zero k e) h.0 (all_true (λ k. tt) h.0), distinct_suc h.0 h.2),
          (bit_zero n ∙ e, up),
        )
        go (suc (suc r)) e = absurd (omega arith)

-- ---- the first d of a list

all_take : (Q : ℕ → Type 0) (d : ℕ) (xs : List ℕ) → AllOf Q xs → AllOf Q (take d xs)
all_take Q zero xs a = tt
all_take Q (suc d) [] a = tt
all_take Q (suc d) (x ∷ xs) a = (a.0, all_take Q d xs a.1)

distinct_take : (d : ℕ) (xs : List ℕ) → Distinct xs → Distinct (take d xs)
distinct_take zero xs h = tt
distinct_take (suc d) [] h = tt
distinct_take (suc d) (x ∷ xs) h = (all_take (λ y. y ≡ x → ⊥) d xs h.0, distinct_take d xs h.1)

listed : (d m : ℕ) → d ≤ count m → Many d (λ k. bit m k ≡ 1)
listed d m h =
    let b = bits m in
    record {
      list = take d b.0;
      long = length-take-le d b.0 (omega (arith, b.1));
      distinct = distinct_take d b.0 b.2;
      each = all_take (λ k. bit m k ≡ 1) d b.0 b.3;
    }

-- ---- from a list to a mask

count_single : (s : ℕ) → count (2 ^ s) ≡ 1
count_single zero = omega (arith, count_step 1, count_none)
count_single (suc s) =
    let h : count (2 ^ suc s / 2) ≡ count (2 ^ s) = ap count (ap (λ (x : ℕ). x / 2) (pow-suc 2 s) ∙ mul-div_cancel (2 ^ s) (zero-lt-suc 1)) in
    let l : 2 ^ suc s % 2 ≡ 0 = ap (λ (x : ℕ). x % 2) (pow-suc 2 s) ∙ mul-mod_left (2 ^ s) 2 in
    omega (arith, count_single s, count_step (2 ^ suc s))

-- bit k of 2 ^ s, by cases
single : (s k : ℕ) → ((k ≡ s) × (bit (2 ^ s) k ≡ 1)) ⊎ ((k ≡ s → ⊥) × (bit (2 ^ s) k ≡ 0))
single s k = go (ℕ_discrete k s)
  where
    go : Dec (k ≡ s) → ((k ≡ s) × (bit (2 ^ s) k ≡ 1)) ⊎ ((k ≡ s → ⊥) × (bit (2 ^ s) k ≡ 0))
    go (yes e) = inl (e, ap (bit (2 ^ s)) e ∙ bit_same s)
    go (no f) = inr (f, bit_other s k f)

pub count_with : (m s : ℕ) → bit m s ≡ 0 → count (with_bit m s) ≡ count m + 1
count_with m s h = omega (arith, count_or m (2 ^ s), count_single s, ap count apart, count_none)
  where
    apart : bit_and m (2 ^ s) ≡ 0
    apart =
        same_bits (bit_and m (2 ^ s)) 0 λ k.
        ⊎_elim (λ w. omega (arith, bit_of_and m (2 ^ s) k, bit_none k, ap (bit m) w.0, h)) (λ w. omega (arith, bit_of_and m (2 ^ s) k, bit_none k, w.1)) (single s k)

mask_of : List ℕ → ℕ
mask_of [] = 0
mask_of (x ∷ xs) = with_bit (mask_of xs) x

absent : (x : ℕ) (xs : List ℕ) → AllOf (λ y. y ≡ x → ⊥) xs → bit (mask_of xs) x ≡ 0
unfolding mask_of
absent x [] a = bit_none x
absent x (y ∷ xs) a = omega (arith, bit_with (mask_of xs) y x, absent x xs a.1, bit_other y x (λ e. a.0 (sym e)))

counted : (xs : List ℕ) → Distinct xs → count (mask_of xs) ≡ length xs
unfolding mask_of
counted [] h = count_none
counted (x ∷ xs) h = omega (arith, count_with (mask_of xs) x (absent x xs h.0), counted xs h.1)

inside : (m : ℕ) (xs : List ℕ) → AllOf (λ k. bit m k ≡ 1) xs → Within (mask_of xs) m
unfolding mask_of
inside m [] a s = omega (arith, bit_none s)
inside m (x ∷ xs) a s =
    ⊎_elim (λ w. omega (arith, bit_with (mask_of xs) x s, ap (bit m) w.0, a.0)) (λ w. omega (arith, bit_with (mask_of xs) x s, w.1, inside m xs a.1 s)) (single x s)

gathered : (d m : ℕ) → Many d (λ k. bit m k ≡ 1) → d ≤ count m
gathered d m h = omega (arith, h.long, counted h.list h.distinct, count_within (mask_of h.list) m (inside m h.list h.each))

pub count_means : (d m : ℕ) → (d ≤ count m) ↔ Many d (λ k. bit m k ≡ 1)
count_means d m = (listed d m, gathered d m)

-- the same numbers, seen otherwise
pub many_map : {P Q : ℕ → Type 0} {d : ℕ} → ((k : ℕ) → P k → Q k) → Many d P → Many d Q
many_map f h = record { list = h.list; long = h.long; distinct = h.distinct; each = all_of_map f h.list h.each }

-- ---- a set with more members

-- a set of numbers below n with exactly f members, those of m among them
pub record Grown (n f m : ℕ) : Type 0 where
  pub set : ℕ
  pub small : set < 2 ^ n
  pub many : count set ≡ f
  pub holds : Within m set

-- a mask of fewer than n members lacks a number below n
gap : (n m : ℕ) → suc (count m) ≤ n → (b : ℕ) × (suc b ≤ n) × (bit m b ≡ 0)
gap zero m h = absurd (omega arith)
gap (suc n) m h = go (m % 2) refl (gap n (m / 2))
  where
    go : (r : ℕ) → m % 2 ≡ r → (suc (count (m / 2)) ≤ n → (b : ℕ) × (suc b ≤ n) × (bit (m / 2) b ≡ 0)) → (b : ℕ) × (suc b ≤ suc n) × (bit m b ≡ 0)
    go zero e ih = (0, omega arith, bit_zero m ∙ e)
    go (suc r) e ih =
        let i = ih (omega (arith, count_step m)) in
        (suc i.0, omega (arith, i.1), sym (bit_half m i.0) ∙ i.2)

grow : (n f k m : ℕ) → count m + k ≡ f → f ≤ n → m < 2 ^ n → Grown n f m
grow n f zero m e h l = record { set = m; small = l; many = omega arith; holds = λ s. omega arith }
grow n f (suc k) m e h l =
    let b = gap n m (omega arith) in
    let r = grow n f k (with_bit m b.0) (omega (arith, count_with m b.0 b.2)) h (or_lt n m (2 ^ b.0) l (pow-lt b.1)) in
    record { set = r.set; small = r.small; many = r.many; holds = λ s. le_trans (within_or_left m (2 ^ b.0) s) (r.holds s) }

-- a set of at most f of n numbers is within one of exactly f
pub grown : (n f m : ℕ) → m < 2 ^ n → count m ≤ f → f ≤ n → Grown n f m
grown n f m l h b = grow n f (f - count m) m (omega arith) b l
