-- What a number, or a list of members, that was read is. Assumes nothing.
use Rattle.std.proofs.Math.Path.{◌≡◌, subst}
use Rattle.std.specs.Prelude.{refl, Bool, false, cond, List, ℕ, ◌<◌, ltb}
use Rattle.std.proofs.Math.Bool.{true}
use Rattle.std.proofs.Common.{arith, ltb-true}
use Rattle.bitmap.specs.Mask.{is_below, with_bit}
use Rattle.bitmap.specs.WidthLaws.{none_below, with_below}
use Rattle.refusals.specs.Numbers.{MEMBER}
use Rattle.refusals.specs.Outcome.{Outcome, refused, accepted, and_then}
use Rattle.numerals.specs.Text.{trim, split}
use Rattle.numerals.proofs.ReadLaws.{read_keeps}
use Rattle.numerals.specs.Whole.{whole_of, below_of, member_of, member_in, members_of}

-- it is below the limit
pub below_limit : (limit : ℕ) (s : List ℕ) {v : ℕ} → below_of limit s ≡ accepted v → v < limit
unfolding below_of
below_limit limit s {v} e = go (whole_of s) e
  where
    pick : (u : ℕ) (b : Bool) → ltb u limit ≡ b → cond b (accepted u) (refused MEMBER) ≡ accepted v → v < limit
    pick u true t e = let z : u ≡ v = cc in ltb-true v limit (rw z at t)
    pick u false t e = let z : ◌≡◌ {A = ℕ} 0 1 = cc in absurd (omega arith)

    go : (o : Outcome ℕ) → and_then o (λ u. cond (ltb u limit) (accepted u) (refused MEMBER)) ≡ accepted v → v < limit
    go (refused k) e = let z : ◌≡◌ {A = ℕ} 0 1 = cc in absurd (omega arith)
    go (accepted u) e = pick u (ltb u limit) refl e

-- ---- members that were read
module _ (trims : Bool) (limit : ℕ) where
  member_keeps : (a b : ℕ) (p : List ℕ) → is_below limit a ≡ true → member_in trims limit a p ≡ accepted b → is_below limit b ≡ true
  unfolding member_in member_of
  member_keeps a b p h e = go (member_of trims limit p) (λ v q. below_limit limit (cond trims (trim p) p) q) e
    where
      go : (o : Outcome ℕ) → ((v : ℕ) → o ≡ accepted v → v < limit) → and_then o (λ v. accepted (with_bit a v)) ≡ accepted b → is_below limit b ≡ true
      go (refused k) u e = let z : ◌≡◌ {A = ℕ} 0 1 = cc in absurd (omega arith)
      go (accepted v) u e = let z : with_bit a v ≡ b = cc in subst (λ (m : ℕ). is_below limit m ≡ true) z (with_below limit a v h (u v refl))

  pub members_below : (s : List ℕ) {m : ℕ} → members_of trims limit s ≡ accepted m → is_below limit m ≡ true
  unfolding members_of
  members_below s e = read_keeps (λ (m : ℕ). is_below limit m ≡ true) (member_in trims limit) member_keeps 0 (split 44 s) (none_below limit) e
