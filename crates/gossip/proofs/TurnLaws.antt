-- Whose turn it is: every peer has one turn, and the source the last. Assumes nothing.
use Rattle.std.specs.Prelude.{◌≡◌, refl, ◌↔◌, ◌⊎◌, ℕ, ◌+◌, ◌-◌, ◌%◌, ◌<◌, eqb}
use Rattle.std.proofs.Math.Path.{sym, ap}
use Rattle.std.proofs.Common.{◌∙◌, inl, inr, mod-eq_of_lt}
use Rattle.std.proofs.Math.Bool.{not}
use mathlib.Core.List.Memᴰ
use mathlib.Core.List.{[], ◌∷◌, ◌++◌, append-nil, Memᴰ}
use Rattle.std.proofs.Math.Nat.{mod-lt, add-mod_left}
use Rattle.std.proofs.Math.Decide.{dec_lt, ℕ_discrete}
use native.Mathlib.Omega.{arith}
use borrow.Author.Tests.{eq-eqb, ne_eqb, eqb-false, not-true}
use Rattle.lists.specs.All.{Distinct}
use Rattle.lists.specs.BelowLaws.{Placed, each_below_listed}
use Rattle.lists.specs.ListedLaws.{passing_listed, passing_distinct, distinct_more, each_below_distinct}
use Rattle.bitmap.specs.RunCounts.{apart}
use Rattle.gossip.specs.Gossip.{ring, round, turns}

-- ---- the source, if it is not oneself, is the last
module _ (n own source : ℕ) where
  pub source_last : (source ≡ own → ⊥) → turns n own source ≡ round n own source ++ (source ∷ [])
  unfolding turns
  source_last h = rw (ne_eqb source own h)

  pub source_own : source ≡ own → turns n own source ≡ round n own source
  unfolding turns
  source_own h = rw (eq-eqb source own h, append-nil)

-- ---- every peer has one turn

-- a peer of own: one of n replicas, and not oneself
abbrev pub Peer : ℕ → ℕ → ℕ → Type 0
Peer n own p = (p < n) × (p ≡ own → ⊥)

module _ (n own : ℕ) (o : own < n) where
  placed : (p : ℕ) → Peer n own p → Placed (λ (j : ℕ). (own + 1 + j) % n) (n - 1) p
  placed p h = go (dec_lt own p)
    where
      go : Dec (own < p) → Placed (λ (j : ℕ). (own + 1 + j) % n) (n - 1) p
      go (yes l) = record { place = p - own - 1; small = omega arith; here = ap (λ (x : ℕ). x % n) (omega arith) ∙ mod-eq_of_lt h.0 }
      go (no l) =
          let l : p < own = omega (arith, h.1) in
          record { place = n - own - 1 + p; small = omega arith; here = ap (λ (x : ℕ). x % n) (omega arith) ∙ add-mod_left n p ∙ mod-eq_of_lt h.0 }

  -- the ring has every peer
  pub ring_means : (p : ℕ) → Memᴰ p (ring n own) ↔ Peer n own p
  unfolding ring
  ring_means p =
      let m = each_below_listed (λ (j : ℕ). (own + 1 + j) % n) (n - 1) p in (
        λ l.
            let a = m.0 l in
            let z : 0 < n = omega arith in (
              omega (arith, a.here, mod-lt (own + 1 + a.place) z),
              λ e. apart n own (1 + a.place) (omega arith) (omega (arith, a.small)) (mod-eq_of_lt o ∙ sym e ∙ sym a.here ∙ ap (λ (x : ℕ). x % n) (omega arith)),
            ),
        λ h. m.1 (placed p h),
      )

  -- once
  pub ring_distinct : Distinct (ring n own)
  unfolding ring
  ring_distinct =
      each_below_distinct (λ (j : ℕ). (own + 1 + j) % n) (n - 1)
      (λ i j l h e. apart n (own + 1 + i) (j - i) (omega arith) (omega arith) (e ∙ ap (λ (x : ℕ). x % n) (omega arith)))

  module _ (source : ℕ) (s : source < n) where
    -- without the source
    pub round_means : (p : ℕ) → Memᴰ p (round n own source) ↔ (Peer n own p × (p ≡ source → ⊥))
    unfolding round
    round_means p =
        let m = passing_listed (λ (q : ℕ). not (eqb q source)) p (ring n own) in (
          λ l. let r = m.0 l in ((ring_means p).0 r.0, eqb-false p source (not-true (eqb p source) r.1)),
          λ h. m.1 ((ring_means p).1 h.0, ap not (ne_eqb p source h.1)),
        )

    -- each peer has a turn, and nobody else
    pub turns_means : (p : ℕ) → Memᴰ p (turns n own source) ↔ Peer n own p
    turns_means p = go (ℕ_discrete source own) (ℕ_discrete p source)
      where
        last : (source ≡ own → ⊥) → Memᴰ p (round n own source) ⊎ Memᴰ p (source ∷ []) → Peer n own p
        last h (inl m) = ((round_means p).0 m).0
        last h (inr m) = let e = Memᴰ.eq_of_singleton m in (omega arith, λ q. h (sym e ∙ q))

        go : Dec (source ≡ own) → Dec (p ≡ source) → Memᴰ p (turns n own source) ↔ Peer n own p
        go (yes q) t = rw (source_own n own source q) (λ m. ((round_means p).0 m).0, λ h. (round_means p).1 (h, λ e. h.1 (e ∙ q)))
        go (no q) (yes t) = rw (source_last n own source q) (λ m. last q (Memᴰ.append_cases (round n own source) m), λ h. Memᴰ.append_right (round n own source) (Memᴰ.head t))
        go (no q) (no t) = rw (source_last n own source q) (λ m. last q (Memᴰ.append_cases (round n own source) m), λ h. Memᴰ.append_left (source ∷ []) ((round_means p).1 (h, t)))

    -- once
    pub round_distinct : Distinct (round n own source)
    unfolding round
    round_distinct = passing_distinct (λ (q : ℕ). not (eqb q source)) (ring n own) ring_distinct

    -- one turn each
    pub turns_distinct : Distinct (turns n own source)
    turns_distinct = go (ℕ_discrete source own)
      where
        go : Dec (source ≡ own) → Distinct (turns n own source)
        go (yes q) = rw (source_own n own source q) round_distinct
        go (no q) = rw (source_last n own source q) (distinct_more (round n own source) source round_distinct (λ m. ((round_means source).0 m).1 refl))
