-- The union of what one has and the rows of some peers, said shard by shard. Assumes nothing.
use Rattle.std.specs.Prelude.{◌≡◌, refl, ◌↔◌, ◌⊎◌, true, false, ℕ, ◌≤◌}
use Rattle.std.proofs.Common.{sym, ap, ◌∙◌, inl, inr, ⊎_elim, true≢false, arith}
use mathlib.Core.List.Memᴰ
use mathlib.Core.List.{List, ◌∷◌, Memᴰ}
use Rattle.std.proofs.Math.Decide.{ℕ_discrete}
use Rattle.std.specs.Int.Bits.{bit_or}
use Rattle.bitmap.specs.Mask.{bit, has_bit, with_bit}
use Rattle.bitmap.specs.MaskLaws.{Within, same_bits, bit_lt, or_means, with_means}

-- one of those of whom P holds has the shard s in its row
pub record Holder (row : ℕ → ℕ) (P : ℕ → Type 0) (s : ℕ) : Type 0 where
  pub peer : ℕ
  pub is : P peer
  pub holds : bit (row peer) s ≡ 1

-- m is the union of `available` and the rows of those of whom P holds: a shard is in m exactly if it is in `available` or one of them has it
abbrev pub UnionOf : ℕ → (ℕ → ℕ) → (ℕ → Type 0) → ℕ → Type 0
UnionOf available row P m = (s : ℕ) → (bit m s ≡ 1) ↔ ((bit available s ≡ 1) ⊎ Holder row P s)

-- p is a live peer of the list
abbrev pub LiveIn : ℕ → List ℕ → ℕ → Type 0
LiveIn alive ps p = Memᴰ p ps × (has_bit alive p ≡ true)

module _ (row : ℕ → ℕ) (a : ℕ) where
  some_holder : (P Q : ℕ → Type 0) (s : ℕ) → ((p : ℕ) → P p → Q p) → (bit a s ≡ 1) ⊎ Holder row P s → (bit a s ≡ 1) ⊎ Holder row Q s
  some_holder P Q s f = ⊎_elim inl (λ h. inr (record { peer = h.peer; is = f h.peer h.is; holds = h.holds }))

  -- of fewer peers it is a part
  pub union_within : (P Q : ℕ → Type 0) (m k : ℕ) → ((p : ℕ) → P p → Q p) → UnionOf a row P m → UnionOf a row Q k → Within m k
  union_within P Q m k f u v s = go (ℕ_discrete (bit m s) 1)
    where
      go : Dec (bit m s ≡ 1) → bit m s ≤ bit k s
      go (yes e) = omega (arith, (v s).1 (some_holder P Q s f ((u s).0 e)))
      go (no n) = omega (arith, bit_lt m s)

  -- there is no other
  pub union_unique : (P : ℕ → Type 0) (m k : ℕ) → UnionOf a row P m → UnionOf a row P k → m ≡ k
  union_unique P m k u v = same_bits m k (λ s. omega (arith, union_within P P m k (λ p h. h) u v s, union_within P P k m (λ p h. h) v u s))

  -- of the same peers, seen otherwise
  pub union_same : (P Q : ℕ → Type 0) (m : ℕ) → ((p : ℕ) → P p ↔ Q p) → UnionOf a row P m → UnionOf a row Q m
  union_same P Q m f u s = (λ e. some_holder P Q s (λ p. (f p).0) ((u s).0 e), λ h. (u s).1 (some_holder Q P s (λ p. (f p).1) h))

  -- of nobody
  pub union_none : (P : ℕ → Type 0) (m : ℕ) → ((p : ℕ) → P p → ⊥) → m ≡ a → UnionOf a row P m
  union_none P m n e s = (λ b. inl (ap (λ (x : ℕ). bit x s) (sym e) ∙ b), ⊎_elim (λ b. ap (λ (x : ℕ). bit x s) e ∙ b) (λ h. absurd (n h.peer h.is)))

  -- with one more in front of a list: a dead one
  pub union_dead : (m alive q : ℕ) (qs : List ℕ) → has_bit alive q ≡ false → UnionOf a row (LiveIn alive qs) m → UnionOf a row (LiveIn alive (q ∷ qs)) m
  union_dead m alive q qs e = union_same (LiveIn alive qs) (LiveIn alive (q ∷ qs)) m (λ p. (
    λ h. (Memᴰ.tail h.0, h.1),
    λ h. (⊎_elim (λ (t : p ≡ q). absurd (true≢false (sym h.1 ∙ ap (has_bit alive) t ∙ e))) (λ r. r) (Memᴰ.cases_cons h.0), h.1),
  ))

  -- and a live one
  pub union_live : (m alive q : ℕ) (qs : List ℕ) → has_bit alive q ≡ true → UnionOf (bit_or a (row q)) row (LiveIn alive qs) m → UnionOf a row (LiveIn alive (q ∷ qs)) m
  union_live m alive q qs e u s = (λ b. ⊎_elim (λ h. had ((or_means a (row q) s).0 h)) (λ h. inr (later h)) ((u s).0 b), λ h. (u s).1 (⊎_elim (λ b. inl ((or_means a (row q) s).1 (inl b))) (λ k. held k (Memᴰ.cases_cons k.is.0)) h))
    where
      later : Holder row (LiveIn alive qs) s → Holder row (LiveIn alive (q ∷ qs)) s
      later h = record { peer = h.peer; is = (Memᴰ.tail h.is.0, h.is.1); holds = h.holds }

      had : (bit a s ≡ 1) ⊎ (bit (row q) s ≡ 1) → (bit a s ≡ 1) ⊎ Holder row (LiveIn alive (q ∷ qs)) s
      had (inl b) = inl b
      had (inr b) = inr (record { peer = q; is = (Memᴰ.head refl, e); holds = b })

      held : (k : Holder row (LiveIn alive (q ∷ qs)) s) → (k.peer ≡ q) ⊎ Memᴰ k.peer qs → (bit (bit_or a (row q)) s ≡ 1) ⊎ Holder row (LiveIn alive qs) s
      held k (inl t) = inl ((or_means a (row q) s).1 (inr (ap (λ (x : ℕ). bit (row x) s) (sym t) ∙ k.holds)))
      held k (inr r) = inr (record { peer = k.peer; is = (r, k.is.1); holds = k.holds })

  -- with one more member of a mask
  pub union_with : (m mask q : ℕ) → UnionOf a row (λ p. bit mask p ≡ 1) m → UnionOf a row (λ p. bit (with_bit mask q) p ≡ 1) (bit_or m (row q))
  union_with m mask q u s = (
    λ e. ⊎_elim (λ b. some_holder (λ p. bit mask p ≡ 1) (λ p. bit (with_bit mask q) p ≡ 1) s (λ p h. (with_means mask q p).1 (inl h)) ((u s).0 b)) (λ b. inr (record { peer = q; is = (with_means mask q q).1 (inr refl); holds = b })) ((or_means m (row q) s).0 e),
    λ h. (or_means m (row q) s).1 (⊎_elim (λ b. inl ((u s).1 (inl b))) (λ k. held k ((with_means mask q k.peer).0 k.is)) h),
  )
    where
      held : (k : Holder row (λ p. bit (with_bit mask q) p ≡ 1) s) → (bit mask k.peer ≡ 1) ⊎ (q ≡ k.peer) → (bit m s ≡ 1) ⊎ (bit (row q) s ≡ 1)
      held k (inl b) = inl ((u s).1 (inr (record { peer = k.peer; is = b; holds = k.holds })))
      held k (inr t) = inr (ap (λ (x : ℕ). bit (row x) s) t ∙ k.holds)
