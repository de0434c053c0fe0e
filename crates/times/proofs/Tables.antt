-- What the loops of `fill_times` keep: the place i is that of the replica p with k shards, in a table of L places. And the places of a
-- table. Assumes nothing.
use Rattle.std.proofs.Common.{◌≡◌, ℕ, suc, ◌+◌, ◌*◌, ◌<◌, ◌≤◌, List, length, sym, ◌∙◌, subst, add-one, mul-suc, mul-le-mul, arith}
use lib.Ieee.{Float}
use lib.ListN.{set, get_or-eq_default}
use Rattle.lists.proofs.BelowLoops.{Filled, filled_more}
use Rattle.refusals.specs.Limits.{most_shards}
use Rattle.times.specs.Times.{most_times, never, time_of, cell, time_in}
use Rattle.times.proofs.TimeLaws.{place_row, place_load}
use Rattle.times.specs.declared.PeerRecord.{PeerRecord}

module _ (d i p k : ℕ) (load : k ≤ d) (place : i ≡ p * suc d + k) where
  -- that replica's time is what is due there
  pub due : (own len : ℕ) (records : List PeerRecord) (penalty x : Float) → x ≡ time_of own d len records penalty p k → x ≡ cell own d len records penalty i
  due own len records penalty x e = e ∙ rw (place, place_row d p k load, place_load d p k load)

-- one time more, of the replica p with k shards
pub next_filled : (f : ℕ → Float) (L : ℕ) (w : List Float) (d p k : ℕ) → Filled f L w (p * suc d + k) → (x : Float) → p * suc d + k < L → x ≡ f (p * suc d + k)
    → Filled f L (set w (p * (d + 1) + k) x) (p * suc d + (k + 1))
next_filled f L w d p k s x h e = rw (add-one d) (subst (Filled f L (set w (p * suc d + k) x)) (omega arith) (filled_more f L w (p * suc d + k) s x h e))

-- a replica whose number is past the table has no time in it
pub past_table : (d k p : ℕ) (times : List Float) → length times ≤ p → never ≡ time_in d times p k
past_table d k p times h = sym (get_or-eq_default times never {n = p * suc d + k} (omega (arith, mul-suc p d)))

-- and one within it has its times at a small place
pub place_small : (p d L : ℕ) → p < L → L ≤ most_times → d ≤ most_shards → p * (d + 1) ≤ 1048576
place_small p d L h l e = let a : p ≤ 4096 = omega arith in let b : d + 1 ≤ 256 = omega arith in mul-le-mul a b
