-- What each term of a predicted time counts: a MiB takes the slope, no bytes take the delay and the jitter, a penalty counts by the
-- unreliability, and a shard to be sent counts as its bytes in flight do. Assumes nothing.
use Rattle.std.specs.Prelude.{◌≡◌, ℕ, zero, suc, ◌+◌, ◌*◌, ◌<◌, true, false, T, pos, refl, Float}
use Rattle.std.proofs.Math.Path.{ap}
use Rattle.std.proofs.Common.{ap₂, ◌∙◌, one-mul, mul-zero, mul-one, mul-pos, zero-lt-suc, arith}
use Rattle.std.proofs.Math.Nat.{zero-mul}
use Rattle.std.specs.Int.Count.{count_trailing_zeros}
use Rattle.std.specs.Float.{nan, inf, fin}
use Rattle.std.specs.Float.Ieee.{binary64, up, down, size, span, climb, odd, units, round, sum, add, mul, div, of_int}
use Rattle.std.specs.Float.Ieee.Fits.{down_pos, add-fits}
use Rattle.std.specs.Float.Ieee.Positive.{positive}
use Rattle.std.specs.Float.Ieee.Scale.{round_same}
use Rattle.floats.specs.Floats.{plus_zero, one}
use Rattle.floats.specs.FirstLaws.{Fits}
use Rattle.floats.proofs.Shrink.{own_is, round_zero}
use Rattle.times.specs.Times.{mebibyte, predict_of, settled, reply_time, time_at}
use Rattle.times.specs.declared.PerfModel.{PerfModel}
use Rattle.times.specs.declared.Peer.TheVariants.{Heard}
use Rattle.times.specs.declared.PeerRecord.{PeerRecord}

-- ---- one and zero, of doubles above 0
times_one : (x : Float) → T (positive x) → Fits x → mul binary64 x one ≡ x
unfolding mul
times_one nan p f = absurd p
times_one (inf s) p f = absurd p
times_one (fin true m e) p f = absurd p
times_one (fin false zero e) p f = absurd p
times_one (fin false (suc m) e) p f = ap₂ (round binary64 false) (mul-one (suc m * up e)) (mul-one (down e)) ∙ own_is m e f

one_times : (x : Float) → T (positive x) → Fits x → mul binary64 one x ≡ x
unfolding mul
one_times nan p f = absurd p
one_times (inf s) p f = absurd p
one_times (fin true m e) p f = absurd p
one_times (fin false zero e) p f = absurd p
one_times (fin false (suc m) e) p f = ap₂ (round binary64 false) (one-mul (suc m * up e)) (one-mul (down e)) ∙ own_is m e f

add_plus_zero : (x : Float) → T (positive x) → Fits x → add binary64 x plus_zero ≡ x
unfolding add sum
add_plus_zero nan p f = absurd p
add_plus_zero (inf s) p f = absurd p
add_plus_zero (fin true m e) p f = absurd p
add_plus_zero (fin false zero e) p f = absurd p
add_plus_zero (fin false (suc m) e) p f =
    ap₂ (round binary64 false) (omega (arith, mul-one (suc m * up e), zero-mul (down e))) (mul-one (down e)) ∙ own_is m e f

zero_plus : (x : Float) → T (positive x) → Fits x → add binary64 plus_zero x ≡ x
unfolding add sum
zero_plus nan p f = absurd p
zero_plus (inf s) p f = absurd p
zero_plus (fin true m e) p f = absurd p
zero_plus (fin false zero e) p f = absurd p
zero_plus (fin false (suc m) e) p f =
    ap₂ (round binary64 false) (omega (arith, mul-one (suc m * up e), zero-mul (down e))) (one-mul (down e)) ∙ own_is m e f

no_part : (a c : ℕ) → a ≡ 0 → 0 < c → round binary64 false a c ≡ plus_zero
no_part a c z h = round_same binary64 false a c 0 1 h (zero-lt-suc 0) (omega (arith, mul-one a, zero-mul c)) ∙ round_zero

times_zero : (x : Float) → T (positive x) → mul binary64 x plus_zero ≡ plus_zero
unfolding mul
times_zero nan p = absurd p
times_zero (inf s) p = absurd p
times_zero (fin true m e) p = absurd p
times_zero (fin false m e) p = no_part (m * up e * 0) (down e * 1) (mul-zero (m * up e)) (mul-pos (down_pos e) (zero-lt-suc 0))

zero_times : (x : Float) → T (positive x) → mul binary64 plus_zero x ≡ plus_zero
unfolding mul
zero_times nan p = absurd p
zero_times (inf s) p = absurd p
zero_times (fin true m e) p = absurd p
zero_times (fin false m e) p = no_part (0 * (m * up e)) (1 * down e) (zero-mul (m * up e)) (mul-pos (zero-lt-suc 0) (down_pos e))

-- ---- the parts of a MiB
whole_part : div binary64 (of_int binary64 (pos 1048576)) mebibyte ≡ one
unfolding div of_int round size units odd span climb count_trailing_zeros
whole_part = refl

empty_part : div binary64 (of_int binary64 (pos 0)) mebibyte ≡ plus_zero
unfolding div of_int round size units odd span climb count_trailing_zeros
empty_part = refl

-- ---- a model of doubles above 0

-- a MiB takes the slope, where there is neither delay nor jitter
pub mebibyte_takes : (slope : Float) → T (positive slope) → Fits slope
    → predict_of (record { slope = slope; delay = plus_zero; jitter = plus_zero }) 1048576 ≡ slope
unfolding predict_of
mebibyte_takes slope p f = rw (whole_part, times_one slope p f, add_plus_zero slope p f) (add_plus_zero slope p f)

-- no bytes take the delay and the jitter
pub nothing_takes : (m : PerfModel) → T (positive m.slope) → T (positive m.delay) → Fits m.delay
    → predict_of m 0 ≡ add binary64 m.delay m.jitter
unfolding predict_of
nothing_takes m s p f = rw (empty_part, times_zero m.slope s, zero_plus m.delay p f)

-- ---- the penalty, where it is above 0
module _ (slope delay jitter : Float) (x : ℕ) (penalty : Float) (paid : T (positive penalty)) where
  -- the model's time
  abbrev pub model_time : Float
  model_time = predict_of (record { slope = slope; delay = delay; jitter = jitter }) x

  -- a peer that never fails takes that
  pub no_penalty : T (positive model_time) → reply_time (Heard slope delay jitter plus_zero) x penalty ≡ settled model_time
  unfolding reply_time predict_of
  no_penalty q = rw (zero_times penalty paid) (ap settled (add_plus_zero model_time q (add-fits binary64 _ _)))

  -- and one that is sure to fail the whole penalty more
  pub whole_penalty : Fits penalty → reply_time (Heard slope delay jitter one) x penalty ≡ settled (add binary64 model_time penalty)
  unfolding reply_time
  whole_penalty f = rw (one_times penalty paid f)

-- ---- a peer's load
module _ (r : PeerRecord) (len : ℕ) (penalty : Float) where
  -- no shard takes as long as the bytes in flight alone
  pub no_load : time_at false r 0 len penalty ≡ reply_time r.peer r.inflight penalty
  unfolding time_at
  no_load = ap (λ (x : ℕ). reply_time r.peer x penalty) (omega (arith, zero-mul len))

  -- k shards take as long as no shard with their bytes in flight
  pub load_counts : (k : ℕ) → time_at false r k len penalty ≡ time_at false (record { peer = r.peer; inflight = r.inflight + k * len }) 0 len penalty
  unfolding time_at
  load_counts k = ap (λ (x : ℕ). reply_time r.peer x penalty) (omega (arith, zero-mul len))
