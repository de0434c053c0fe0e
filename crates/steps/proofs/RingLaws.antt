-- Places on a ring of n: k of them, each with the j places after it, are at least k + j places, where there are as many. Assumes nothing.
use Rattle.std.specs.Prelude.{◌≡◌, ◌↔◌, List, [], ◌∷◌, length}
use Rattle.std.proofs.Math.Path.{sym, ap}
use Rattle.std.proofs.Common.{◌∙◌, inr, add-zero, mod-lt, eqb-true, eq-eqb}
use Rattle.std.proofs.Math.Logic.{⊎_elim}
use Prim.Native.Nat.{ℕ, zero, suc, ◌+◌, ◌-◌, ◌%◌, ◌^◌, ◌≤◌, ◌<◌}
use Rattle.std.proofs.Math.Nat.{mod-eq_of_lt, mod-add-mod, add-mod_right}
use Rattle.std.proofs.Math.Decide.{ℕ_discrete}
use native.Mathlib.Omega.{arith}
use Rattle.std.specs.Int.Bits.{bit_or, or_lt}
use Rattle.lists.specs.All.{AllOf}
use Rattle.bitmap.specs.Mask.{bit, has_bit, with_bit, count, mask_below}
use Rattle.bitmap.specs.MaskLaws.{Within, bit_lt, bit_of_or, bit_with, bit_other, or_means, beyond_means, full}
use Rattle.bitmap.specs.CountLaws.{count_within}
use Rattle.bitmap.specs.Members.{count_means, count_with}
use Rattle.bitmap.specs.RunCounts.{member_below, all_count}
use Rattle.bitmap.specs.WidthLaws.{mask_below_lt, mask_below_bit}

-- a member of a mask that has one
some : (c : ℕ) → 0 < count c → (a : ℕ) × (bit c a ≡ 1)
some c h = let m = (count_means 1 c).0 h in first m.list m.long m.each
  where
    first : (xs : List ℕ) → length xs ≡ 1 → AllOf (λ k. bit c k ≡ 1) xs → (a : ℕ) × (bit c a ≡ 1)
    first [] e each = absurd (omega arith)
    first (x ∷ xs) e each = (x, each.0)

module _ (n : ℕ) (ring : 0 < n) where
  -- the place before p
  abbrev last : ℕ → ℕ
  last p = (p + (n - 1)) % n

  back : (p : ℕ) → (last p + 1) % n ≡ p % n
  back p = mod-add-mod (p + (n - 1)) n 1 ∙ ap (λ (x : ℕ). x % n) (omega arith) ∙ add-mod_right p n

  on : (p : ℕ) → last ((p + 1) % n) ≡ p % n
  on p = mod-add-mod (p + 1) n (n - 1) ∙ ap (λ (x : ℕ). x % n) (omega arith) ∙ add-mod_right p n

  -- each member moved to the next place
  abbrev turned : ℕ → ℕ
  turned c = mask_below (λ (p : ℕ). has_bit c (last p)) n

  turned_means : (c p : ℕ) → p < n → (bit (turned c) p ≡ 1) ↔ (bit c (last p) ≡ 1)
  turned_means c p h =
      let e = mask_below_bit (λ (p : ℕ). has_bit c (last p)) n p h in (
        λ q. eqb-true (bit c (last p)) 1 (sym e ∙ eq-eqb (bit (turned c) p) 1 q),
        λ q. eqb-true (bit (turned c) p) 1 (e ∙ eq-eqb (bit c (last p)) 1 q),
      )

  -- a mask of places that has a member, and with it the next one, has all
  module _ (c a : ℕ) (below : c < 2 ^ n) (here : bit c a ≡ 1) (closed : bit_or c (turned c) ≡ c) where
    place : a < n
    place = member_below n c a below here

    after : (t : ℕ) → bit c ((a + t) % n) ≡ 1
    after zero = ap (λ (x : ℕ). bit c (x % n)) (add-zero a) ∙ ap (bit c) (mod-eq_of_lt place) ∙ here
    after (suc t) =
        let q = (a + t + 1) % n in
        let e : last q ≡ (a + t) % n = on (a + t) in
        let b : bit (turned c) q ≡ 1 = (turned_means c q (mod-lt (a + t + 1) ring)).1 (ap (bit c) e ∙ after t) in
        ap (λ (x : ℕ). bit c (x % n)) (omega arith) ∙ sym (ap (λ (x : ℕ). bit x q) closed) ∙ (or_means c (turned c) q).1 (inr b)

    everywhere : (s : ℕ) → s < n → bit c s ≡ 1
    everywhere s l =
        let e : (a + (s + n - a)) % n ≡ s = ap (λ (x : ℕ). x % n) (omega (arith, place)) ∙ add-mod_right s n ∙ mod-eq_of_lt l in
        ap (bit c) (sym e) ∙ after (s + n - a)

    whole : count c ≡ n
    whole = ap count (full n c below everywhere) ∙ all_count n

  -- a place more
  within : (c b p : ℕ) → bit b p ≡ 1 → Within (with_bit c p) (bit_or c b)
  within c b p h s = go (ℕ_discrete s p)
    where
      go : Dec (s ≡ p) → bit (with_bit c p) s ≤ bit (bit_or c b) s
      go (yes q) = let e : bit b s ≡ 1 = ap (bit b) q ∙ h in omega (arith, bit_lt (with_bit c p) s, bit_of_or c b s)
      go (no q) = omega (arith, bit_with c p s, bit_other p s q, bit_of_or c b s)

  -- ---- the places of m, with the j places after each
  module _ (m : ℕ) (below : m < 2 ^ n) where
    pub cover : ℕ → ℕ
    cover zero = m
    cover (suc j) = bit_or (cover j) (turned (cover j))

    pub cover_below : (j : ℕ) → cover j < 2 ^ n
    unfolding cover
    cover_below zero = below
    cover_below (suc j) = or_lt n (cover j) (turned (cover j)) (cover_below j) (mask_below_lt (λ (p : ℕ). has_bit (cover j) (last p)) n)

    pub cover_count : (j : ℕ) → 0 < count m → count m + j ≤ n → count m + j ≤ count (cover j)
    unfolding cover
    cover_count zero p h = omega arith
    cover_count (suc j) p h = go (ℕ_discrete (bit_or (cover j) (turned (cover j))) (cover j)) (cover_count j p (omega arith))
      where
        go : Dec (bit_or (cover j) (turned (cover j)) ≡ cover j) → count m + j ≤ count (cover j)
            → count m + suc j ≤ count (bit_or (cover j) (turned (cover j)))
        go (yes q) ih =
            let a = some (cover j) (omega arith) in
            omega (arith, whole (cover j) a.0 (cover_below j) a.1 q, ap count q)
        go (no q) ih =
            let b = (beyond_means (cover j) (turned (cover j))).0 q in
            let w = within (cover j) (turned (cover j)) b.member b.inside in
            omega (arith, count_with (cover j) b.member b.outside, count_within _ _ w)

    -- where a place comes from: it is at most j after a member of m
    pub record Origin (j p : ℕ) : Type 0 where
      pub start : ℕ
      pub member : bit m start ≡ 1
      pub steps : ℕ
      pub few : steps ≤ j
      pub reaches : (start + steps) % n ≡ p

    pub origin : (j p : ℕ) → p < n → bit (cover j) p ≡ 1 → Origin j p
    unfolding cover
    origin zero p h e =
        record { start = p; member = e; steps = 0; few = omega arith; reaches = ap (λ (x : ℕ). x % n) (add-zero p) ∙ mod-eq_of_lt h }
    origin (suc j) p h e =
        ⊎_elim
        (λ q.
        let o = origin j p h q in
        record { start = o.start; member = o.member; steps = o.steps; few = omega (arith, o.few); reaches = o.reaches })
        (λ q.
        let o = origin j (last p) (mod-lt (p + (n - 1)) ring) ((turned_means (cover j) p h).0 q) in
        record {
          start = o.start;
          member = o.member;
          steps = suc o.steps;
          few = omega (arith, o.few);
          reaches =
              ap (λ (x : ℕ). x % n) (omega arith) ∙ sym (mod-add-mod (o.start + o.steps) n 1) ∙ ap (λ (x : ℕ). (x + 1) % n) o.reaches ∙ back p
              ∙ mod-eq_of_lt h;
        })
        ((or_means (cover j) (turned (cover j)) p).0 e)
