-- The result of trimming: loads from which a pass keeps nothing, and no other load than those that it tries changes. Assumes nothing.
use Rattle.std.specs.Prelude.{◌≡◌, Bool, cond, ◌||◌, ltb, set}
use Rattle.std.proofs.Math.Path.{refl}
use Rattle.std.proofs.Common.{sym, ap, ◌∙◌, true≢false, le_refl, arith, ltb-true}
use Rattle.std.proofs.Math.Bool.{true, false, and-eq-true_iff}
use mathlib.Core.List.{List, [], ◌∷◌, Memᴰ}
use Prim.Native.Nat.{ℕ, zero, suc, ◌-◌, ◌≤◌, ◌<◌}
use Rattle.std.proofs.Math.ListN.{length, get_or, length-set}
use Rattle.std.proofs.Math.Seq.{get_or-set_other}
use Rattle.trimming.specs.Trimming.{lowered, keeps, tried, passed, keeps_any, trimmed_in, shards_in, trimmed}

-- ---- one shard less
pub lowered_shards : (loads : List ℕ) (p : ℕ) → 0 < get_or loads p 0 → suc (shards_in (set loads p (get_or loads p 0 - 1))) ≡ shards_in loads
lowered_shards [] p h = absurd (omega arith)
lowered_shards (k ∷ ks) zero h = omega arith
lowered_shards (k ∷ ks) (suc p) h = omega (arith, lowered_shards ks p h)

module _ (commits : List ℕ → Bool) where
  -- ---- one trial

  keeps_means : (loads : List ℕ) (p : ℕ) → keeps commits loads p ≡ true → (0 < get_or loads p 0) × (commits (lowered commits loads p) ≡ true)
  unfolding keeps
  keeps_means loads p e = let a = (and-eq-true_iff (ltb 0 (get_or loads p 0)) (commits (lowered commits loads p))).0 e in (ltb-true 0 (get_or loads p 0) a.0, a.1)

  pub tried_length : (loads : List ℕ) (p : ℕ) → length (tried commits loads p) ≡ length loads
  unfolding tried
  tried_length loads p = go (keeps commits loads p)
    where
      go : (b : Bool) → length (cond b (lowered commits loads p) loads) ≡ length loads
      go true = length-set loads p (get_or loads p 0 - 1)
      go false = refl

  tried_kept : (loads : List ℕ) (p : ℕ) → keeps commits loads p ≡ true → suc (shards_in (tried commits loads p)) ≡ shards_in loads
  unfolding tried
  tried_kept loads p e = rw e (lowered_shards loads p (keeps_means loads p e).0)

  tried_left : (loads : List ℕ) (p : ℕ) → keeps commits loads p ≡ false → tried commits loads p ≡ loads
  unfolding tried
  tried_left loads p e = rw e

  -- ---- a pass

  pub passed_length : (order loads : List ℕ) → length (passed commits order loads) ≡ length loads
  passed_length [] loads = refl
  passed_length (p ∷ ps) loads = passed_length ps (tried commits loads p) ∙ tried_length loads p

  tried_le : (loads : List ℕ) (p : ℕ) → shards_in (tried commits loads p) ≤ shards_in loads
  tried_le loads p = go (keeps commits loads p) refl
    where
      go : (b : Bool) → keeps commits loads p ≡ b → shards_in (tried commits loads p) ≤ shards_in loads
      go true e = omega (arith, tried_kept loads p e)
      go false e = omega (arith, ap shards_in (tried_left loads p e))

  passed_le : (order loads : List ℕ) → shards_in (passed commits order loads) ≤ shards_in loads
  passed_le [] loads = le_refl (shards_in loads)
  passed_le (p ∷ ps) loads = omega (arith, passed_le ps (tried commits loads p), tried_le loads p)

  -- one that keeps something takes a shard away
  pub passed_falls : (order loads : List ℕ) → keeps_any commits order loads ≡ true → shards_in (passed commits order loads) < shards_in loads
  passed_falls [] loads e = absurd (true≢false (sym e))
  passed_falls (p ∷ ps) loads e = go (keeps commits loads p) refl (passed_falls ps (tried commits loads p)) e
    where
      go : (b : Bool) → keeps commits loads p ≡ b → (keeps_any commits ps (tried commits loads p) ≡ true → shards_in (passed commits ps (tried commits loads p)) < shards_in (tried commits loads p))
          → (b || keeps_any commits ps (tried commits loads p)) ≡ true → shards_in (passed commits (p ∷ ps) loads) < shards_in loads
      go true q ih e = omega (arith, passed_le ps (tried commits loads p), tried_kept loads p q)
      go false q ih e = omega (arith, ih e, tried_le loads p)

  -- one that keeps nothing leaves the loads
  pub passed_left : (order loads : List ℕ) → keeps_any commits order loads ≡ false → passed commits order loads ≡ loads
  passed_left [] loads e = refl
  passed_left (p ∷ ps) loads e = go (keeps commits loads p) refl (passed_left ps (tried commits loads p)) e
    where
      go : (b : Bool) → keeps commits loads p ≡ b → (keeps_any commits ps (tried commits loads p) ≡ false → passed commits ps (tried commits loads p) ≡ tried commits loads p)
          → (b || keeps_any commits ps (tried commits loads p)) ≡ false → passed commits (p ∷ ps) loads ≡ loads
      go true q ih e = absurd (true≢false e)
      go false q ih e = ih e ∙ tried_left loads p q

  -- ---- passes

  pub trimmed_in_length : (m : ℕ) (order loads : List ℕ) → length (trimmed_in commits m order loads) ≡ length loads
  unfolding trimmed_in
  trimmed_in_length zero order loads = refl
  trimmed_in_length (suc m) order loads = go (keeps_any commits order loads) (trimmed_in_length m order (passed commits order loads))
    where
      go : (b : Bool) → length (trimmed_in commits m order (passed commits order loads)) ≡ length (passed commits order loads)
          → length (cond b (trimmed_in commits m order (passed commits order loads)) loads) ≡ length loads
      go true ih = ih ∙ passed_length order loads
      go false ih = refl

  ends : (m : ℕ) (order loads : List ℕ) → shards_in loads < m → keeps_any commits order (trimmed_in commits m order loads) ≡ false
  unfolding trimmed_in
  ends zero order loads h = absurd (omega arith)
  ends (suc m) order loads h = go (keeps_any commits order loads) refl (ends m order (passed commits order loads))
    where
      go : (b : Bool) → keeps_any commits order loads ≡ b
          → (shards_in (passed commits order loads) < m → keeps_any commits order (trimmed_in commits m order (passed commits order loads)) ≡ false)
          → keeps_any commits order (cond b (trimmed_in commits m order (passed commits order loads)) loads) ≡ false
      go true q ih = ih (omega (arith, passed_falls order loads q))
      go false q ih = q

  -- trimming ends with loads from which a pass keeps nothing
  pub trimmed_ends : (order loads : List ℕ) → keeps_any commits order (trimmed commits order loads) ≡ false
  unfolding trimmed
  trimmed_ends order loads = ends (suc (shards_in loads)) order loads (le_refl (suc (shards_in loads)))

  pub trimmed_length : (order loads : List ℕ) → length (trimmed commits order loads) ≡ length loads
  unfolding trimmed
  trimmed_length order loads = trimmed_in_length (suc (shards_in loads)) order loads

  -- ---- the load of q, which the order does not list, is left as it is
  module _ (q : ℕ) where
    tried_other : (loads : List ℕ) (p : ℕ) → (q ≡ p → ⊥) → get_or (tried commits loads p) q 0 ≡ get_or loads q 0
    unfolding tried
    tried_other loads p h = go (keeps commits loads p)
      where
        go : (b : Bool) → get_or (cond b (lowered commits loads p) loads) q 0 ≡ get_or loads q 0
        go true = get_or-set_other loads p q (get_or loads p 0 - 1) 0 h
        go false = refl

    passed_other : (order loads : List ℕ) → (Memᴰ q order → ⊥) → get_or (passed commits order loads) q 0 ≡ get_or loads q 0
    passed_other [] loads h = refl
    passed_other (p ∷ ps) loads h =
        passed_other ps (tried commits loads p) (λ m. h (Memᴰ.tail m)) ∙ tried_other loads p (λ e. h (Memᴰ.head e))

    module _ (order : List ℕ) (unlisted : Memᴰ q order → ⊥) where
      trimmed_in_other : (m : ℕ) (loads : List ℕ) → get_or (trimmed_in commits m order loads) q 0 ≡ get_or loads q 0
      unfolding trimmed_in
      trimmed_in_other zero loads = refl
      trimmed_in_other (suc m) loads = go (keeps_any commits order loads) (trimmed_in_other m (passed commits order loads))
        where
          go : (b : Bool) → get_or (trimmed_in commits m order (passed commits order loads)) q 0 ≡ get_or (passed commits order loads) q 0
              → get_or (cond b (trimmed_in commits m order (passed commits order loads)) loads) q 0 ≡ get_or loads q 0
          go true ih = ih ∙ passed_other order loads unlisted
          go false ih = refl

      pub trimmed_other : (loads : List ℕ) → get_or (trimmed commits order loads) q 0 ≡ get_or loads q 0
      unfolding trimmed
      trimmed_other loads = trimmed_in_other (suc (shards_in loads)) loads
