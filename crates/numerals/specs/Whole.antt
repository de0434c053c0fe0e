-- Whole numbers, and lists of them as masks. Assumes nothing.
use Rattle.std.specs.Prelude.{Bool, cond, ◌&&◌, not, List, [], ◌∷◌, ℕ, ◌+◌, ◌-◌, ◌*◌, leb, ltb}
use Rattle.std.specs.List.{list_all}
use Rattle.bitmap.specs.Mask.{with_bit}
use Rattle.refusals.specs.Numbers.{NUMERAL, MEMBER}
use Rattle.refusals.specs.Outcome.{Outcome, refused, accepted, and_then}
use Rattle.numerals.specs.Text.{is_empty, trim, without, is_byte, split}
use Rattle.numerals.specs.Read.{read_each}

-- ---- digits

abbrev pub is_digit : ℕ → Bool
is_digit b = leb 48 b && leb b 57

-- one or more digits
unfoldable pub is_digits : List ℕ → Bool
is_digits s = not (is_empty s) && list_all is_digit s

-- the number that digits spell after digits that are worth v
unfoldable pub spelt : ℕ → List ℕ → ℕ
spelt v [] = v
spelt v (b ∷ bs) = spelt (v * 10 + (b - 48)) bs

-- ---- a whole number

-- without a + at its start
abbrev pub unplussed : List ℕ → List ℕ
unplussed s = without (is_byte 43) s

-- an optional + and one or more digits, of a value of at most 255
unfoldable pub whole_of : List ℕ → Outcome ℕ
whole_of s = cond (is_digits (unplussed s) && leb (spelt 0 (unplussed s)) 255) (accepted (spelt 0 (unplussed s))) (refused NUMERAL)

-- a whole number that must be below a limit
unfoldable pub below_of : ℕ → List ℕ → Outcome ℕ
below_of limit s = and_then (whole_of s) (λ v. cond (ltb v limit) (accepted v) (refused MEMBER))

-- ---- members between commas

-- in some texts they are trimmed
unfoldable pub member_of : Bool → ℕ → List ℕ → Outcome ℕ
member_of trims limit p = below_of limit (cond trims (trim p) p)

-- one member more
unfoldable pub member_in : Bool → ℕ → ℕ → List ℕ → Outcome ℕ
member_in trims limit m p = and_then (member_of trims limit p) (λ v. accepted (with_bit m v))

-- all of them, as a mask of replicas or a row of shards: a number of any width
unfoldable pub members_of : Bool → ℕ → List ℕ → Outcome ℕ
members_of trims limit s = read_each (member_in trims limit) 0 (split 44 s)
