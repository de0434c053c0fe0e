-- `numerals::part` meets its contract. Assumes nothing.
use mathlib.Core.Path.{◌≡◌}
use mathlib.Core.List.{List}
use Prim.Native.Nat.{ℕ, ◌≤◌}
use native.Mathlib.Omega.{arith}
use lib.ListN.{length, length-drop, length-take, take, drop}
use Rattle.numerals.specs.Text.{is_byte, cut}
use Rattle.numerals.specs.TextLaws.{cut_le, PartOf}
use Rattle.numerals.proofs.part.Goals as goal

module _ (s : List ℕ) {rest q : List ℕ} (p x : ℕ) {e : ℕ} (fits : p ≤ length s) (r : rest ≡ drop p s) (f : e ≡ cut x rest) (u : q ≡ take e rest) where
  is : q ≡ take (cut x (drop p s)) (drop p s)
  is = cc

  part_of : PartOf s p x q
  part_of = record {
    part_is = is;
    inside = rw is (simp length-take (omega (arith, cut_le (is_byte x) (drop p s), length-drop p s)));
  }

pub upto-requires : goal.upto-requires
upto-requires c =
    rw c.find.ensures (cut_le (is_byte _) _)
