-- What is true of models in a list of numbers; of the times: the table's length and places, that each is a double, and which are
-- finite; and of a shard's length. Assumes nothing.
use Rattle.std.specs.Prelude.{◌≡◌, ℕ, zero, suc, ◌+◌, ◌-◌, ◌*◌, ◌/◌, ◌%◌, ◌^◌, ◌<◌, ◌≤◌, max, Bool, true, false, ◌⊎◌, List, [], ◌∷◌, length, get_or, slice_index_or, refl, Float}
use Rattle.std.proofs.Common.{sym, ap, ◌∙◌, inl, inr, suc-le-suc, suc-mul, mul-le-mul_right, zero-lt-suc, le_of_suc-le-suc, not-suc-le-zero, mod-eq_of_lt, div-lt_iff_lt-mul, arith}
use Rattle.std.proofs.Math.Path.{subst}
use Rattle.std.proofs.Math.Nat.{div-eq_of_lt, mul-add-div_right, mul-add-mod_self_right, lt-div-mul-add}
use Rattle.std.specs.Float.{nan, inf, fin, binary64}
use Rattle.std.specs.Float.Ieee.{fits, add, mul}
use Rattle.std.specs.Float.Ieee.Fits.{inf-fits, cond-fits, add-fits}
use Rattle.lists.specs.All.{AllOf}
use Rattle.lists.specs.AllLaws.{all_of_means}
use Rattle.lists.specs.Below.{each_below}
use Rattle.lists.specs.BelowLaws.{each_below_length, each_below_at}
use Rattle.floats.specs.Floats.{plus_zero, is_finite}
use Rattle.floats.specs.FirstLaws.{Fits}
use Rattle.times.specs.Times.{never, predict_of, model_in, settled, reply_time, time_at, shard_length, time_of, cell, times_of, time_in}
use Rattle.times.specs.declared.PerfModel.{PerfModel}
use Rattle.times.specs.declared.Peer.{Peer}
use Rattle.times.specs.declared.Peer.TheVariants.{Silent, Heard}
use Rattle.times.specs.declared.PeerRecord.{PeerRecord}

-- ---- the models that a list of numbers has are those whose numbers it lists
abbrev pub numbers_of : List PerfModel → List Float
numbers_of [] = []
numbers_of (m ∷ ms) = m.slope ∷ m.delay ∷ m.jitter ∷ numbers_of ms

pub model_listed : (ms : List PerfModel) (p : ℕ) (d : PerfModel) → p < length ms → model_in (numbers_of ms) p ≡ slice_index_or ms p d
model_listed [] p d h = absurd (not-suc-le-zero h)
model_listed (m ∷ ms) zero d h = refl
model_listed (m ∷ ms) (suc p) d h =
    let e : suc p * 3 ≡ suc (suc (suc (p * 3))) = omega (arith, suc-mul p 3) in
    let f : suc p * 3 + 1 ≡ suc (suc (suc (p * 3 + 1))) = omega (arith, suc-mul p 3) in
    let g : suc p * 3 + 2 ≡ suc (suc (suc (p * 3 + 2))) = omega (arith, suc-mul p 3) in
    let at : ℕ → Float = λ k. get_or (numbers_of (m ∷ ms)) k plus_zero in
    rw (ap at e, ap at f, ap at g) (model_listed ms p d (le_of_suc-le-suc h))

-- ---- a time is finite, or it is silence
pub settled_finite : (t : Float) → (is_finite (settled t) ≡ true) ⊎ (settled t ≡ never)
unfolding settled is_finite
settled_finite nan = inr refl
settled_finite (inf s) = inr refl
settled_finite (fin s m e) = inl refl

pub reply_finite : (p : Peer) (x : ℕ) (penalty : Float) → (is_finite (reply_time p x penalty) ≡ true) ⊎ (reply_time p x penalty ≡ never)
unfolding reply_time
reply_finite Silent x penalty = inr refl
reply_finite (Heard slope delay jitter unreliability) x penalty = settled_finite _

-- ---- and it is a double, whatever the peer's floats are
reply_fits : (p : Peer) (x : ℕ) (penalty : Float) → Fits (reply_time p x penalty)
unfolding reply_time settled
reply_fits Silent x penalty = inf-fits binary64 false
reply_fits (Heard slope delay jitter unreliability) x penalty =
    let t = add binary64 (predict_of (record { slope = slope; delay = delay; jitter = jitter }) x) (mul binary64 unreliability penalty) in
    cond-fits binary64 (is_finite t) t never (add-fits binary64 _ _) (inf-fits binary64 false)

own_fits : Fits plus_zero
unfolding fits
own_fits = tt

time_fits : (own : Bool) (r : PeerRecord) (k len : ℕ) (penalty : Float) → Fits (time_at own r k len penalty)
unfolding time_at
time_fits own r k len penalty = cond-fits binary64 own plus_zero _ own_fits (reply_fits _ _ _)

-- ---- the place p × (d + 1) + k is that of the replica p with k shards
module _ (d p k : ℕ) (load : k ≤ d) where
  pub place_row : (p * suc d + k) / suc d ≡ p
  place_row = mul-add-div_right (zero-lt-suc d) p k ∙ ap (λ (q : ℕ). p + q) (div-eq_of_lt (suc-le-suc load)) ∙ omega arith

  pub place_load : (p * suc d + k) % suc d ≡ k
  place_load = mul-add-mod_self_right p (suc d) k ∙ mod-eq_of_lt (suc-le-suc load)

  -- it is in a table of n replicas exactly if there is such a replica
  pub place_within : (n : ℕ) → p < n → p * suc d + k < n * suc d
  place_within n h = (div-lt_iff_lt-mul (zero-lt-suc d)).0 (subst (λ (q : ℕ). q < n) (sym place_row) h)

  pub place_replica : (n : ℕ) → p * suc d + k < n * suc d → p < n
  place_replica n h = subst (λ (q : ℕ). q < n) place_row ((div-lt_iff_lt-mul (zero-lt-suc d)).1 h)

-- ---- the table
module _ (n own d len : ℕ) (records : List PeerRecord) (penalty : Float) where
  pub times_length : length (times_of n own d len records penalty) ≡ n * suc d
  unfolding times_of
  times_length = each_below_length (cell own d len records penalty) (n * suc d)

  pub times_at : (p k : ℕ) → p < n → k ≤ d → time_in d (times_of n own d len records penalty) p k ≡ time_of own d len records penalty p k
  unfolding times_of
  times_at p k h l =
      each_below_at (cell own d len records penalty) (n * suc d) (p * suc d + k) never (place_within d p k l n h)
      ∙ rw (place_row d p k l, place_load d p k l)

  pub times_fit : AllOf Fits (times_of n own d len records penalty)
  unfolding times_of
  times_fit =
      let f = cell own d len records penalty in
      (all_of_means Fits never (each_below f (n * suc d))).1 (λ i l.
      subst Fits (sym (each_below_at f (n * suc d) i never (subst (λ (m : ℕ). i < m) (each_below_length f (n * suc d)) l)))
      (time_fits _ _ _ _ _))

-- ---- a shard's length: the least number from 1 on of which d make up the size
pub shard_length_means : (size d : ℕ) → 0 < d → (1 ≤ shard_length size d) × (size ≤ shard_length size d * d) × ((m : ℕ) → 1 ≤ m → size ≤ m * d → shard_length size d ≤ m)
unfolding shard_length
shard_length_means size d h =
    let q = (size + d - 1) / d in
    let over : size + d - 1 < q * d + d = lt-div-mul-add h in
    let more : q * d ≤ max 1 q * d = mul-le-mul_right d (omega arith) in (
      omega arith,
      omega (arith, over, more),
      λ m one enough.
          let room : size + d - 1 < suc m * d = rw (suc-mul m d) (omega arith) in
          let small : q ≤ m = le_of_suc-le-suc ((div-lt_iff_lt-mul h).1 room) in
          omega arith,
    )

pub shard_length_le : (size d : ℕ) → 0 < d → size ≤ 2 ^ 30 → shard_length size d ≤ 2 ^ 30
shard_length_le size d h g = (shard_length_means size d h).2 (2 ^ 30) (omega arith) (omega arith)
