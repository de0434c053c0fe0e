-- The first n elements of a local table, lent, and as they come back in it. Assumes nothing.
use mathlib.Core.Path.{◌≡◌, sym, ap, ◌∙◌}
use mathlib.Core.List.{List, ◌++◌}
use Prim.Native.Nat.{ℕ, ◌≤◌}
use native.Mathlib.Nat.{le_of_eq}
use native.Mathlib.Omega.{arith}
use lib.ListN.{length, take, drop, length-append}
use lib.Seq.{length-take-le, take_at, drop_at}
use Rattle.lists.specs.Below.{front}
use Rattle.lists.proofs.BelowLoops.{front_length}

module _ {A : Type 0} (n : ℕ) (table : List A) (room : n ≤ length table) where
  pub lent : n ≡ length (take n table)
  lent = sym (length-take-le n table room)

  module _ (after : List A) (kept : length after ≡ length (take n table)) where
    pub back : take n (after ++ drop n table) ≡ after
    back = take_at after (drop n table) n (kept ∙ sym lent)

    pub back_room : n ≤ length (after ++ drop n table)
    back_room = omega (arith, length-append after (drop n table), lent)

    pub back_lent : n ≡ length (take n (after ++ drop n table))
    back_lent = lent ∙ sym kept ∙ ap length (sym back)

    pub back_enough : n ≤ length (take n (after ++ drop n table))
    back_enough = le_of_eq back_lent

-- ---- the list xs, written to the front of the table l, and lent from there: t is the table then, and count as many as there are
module _ (xs l t : List ℕ) (count : ℕ) (counted : count ≡ length xs) (put : t ≡ front xs l) (few : length xs ≤ length l) where
  pub front_inside : count ≤ length t
  front_inside = omega (arith, counted, ap length put, front_length xs l few, few)

  pub front_part : count ≡ length (take count t)
  front_part = sym (length-take-le count t front_inside)

  pub front_taken : take count t ≡ xs
  unfolding front
  front_taken = ap (take count) put ∙ take_at xs (drop (length xs) l) count (sym counted)

  -- and what is behind it is as it was
  pub front_rest : drop count t ≡ drop count l
  unfolding front
  front_rest = ap (drop count) put ∙ drop_at xs (drop (length xs) l) count (sym counted) ∙ ap (λ (k : ℕ). drop k l) (sym counted)
