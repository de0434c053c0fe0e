-- What a loop over the peers keeps that tests the bytes in flight to each: to none below p are there too many. The premises of each law are the fields of a
-- need's record, so that `search` finds them: r is what `is_overfull` returned at p. Assumes nothing.
use mathlib.Core.Path.{◌≡◌, sym, ap}
use mathlib.Core.Bool.{Bool, true, false, not}
use Prim.Native.Nat.{ℕ, ◌+◌, ◌≤◌, ◌<◌}
use Rattle.lists.specs.Below.{some_below}
use Rattle.lists.proofs.BelowLoops.{some_none, some_miss, some_hit, some_spent}
use Rattle.refusals.specs.Limits.{is_overfull, peers_fit}

module _ (own : ℕ) (bytes : ℕ → ℕ) where
  abbrev overfull : ℕ → Bool
  overfull p = is_overfull own p (bytes p)

  abbrev pub NoneOverfull : ℕ → Type 0
  NoneOverfull p = some_below overfull p ≡ false

  pub none_yet : NoneOverfull 0
  none_yet = some_none overfull 0

  module _ (n p : ℕ) where
    pub none_more : (r : Bool) → NoneOverfull p → r ≡ is_overfull own p (bytes p) → r ≡ false → NoneOverfull (p + 1)
    none_more r e q t = some_miss overfull p r e q t

    pub overfull_found : (r : Bool) → p < n → r ≡ is_overfull own p (bytes p) → r ≡ true → false ≡ peers_fit n own bytes
    unfolding peers_fit
    overfull_found r h q t = sym (ap not (some_hit overfull p n r h q t))

    pub all_fit : p ≤ n → n ≤ p → NoneOverfull p → true ≡ peers_fit n own bytes
    unfolding peers_fit
    all_fit h g e = sym (ap not (some_spent overfull p n h g e))
