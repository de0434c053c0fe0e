-- Worked values of numbers, lists of them and blanks, computed by the checker. Assumes nothing.
use mathlib.Core.Path.{◌≡◌, refl}
use mathlib.Core.Bool.{true, false}
use mathlib.Core.List.{List, [], ◌∷◌, map}
use Prim.Native.Nat.{ℕ, ◌+◌, ◌^◌}
use Prim.Native.String.{String}
use lib.ListN.{replicate}
use Rattle.refusals.specs.Outcome.{Outcome, refused, accepted}
use Rattle.numerals.specs.Quoted.{bytes}
use Rattle.numerals.specs.Text.{without, is_text, trim_start, trim_end, trim, split}
use Rattle.numerals.specs.Read.{read_each}
use Rattle.numerals.specs.Whole.{is_digits, spelt, whole_of, below_of, member_of, member_in, members_of}

abbrev Line : Type 0
Line = String × Outcome ℕ

-- each line says what f gives of its text
abbrev Agrees : (List ℕ → Outcome ℕ) → List Line → Type 0
Agrees f lines = map (λ l. f (bytes l.0)) lines ≡ map (λ l. l.1) lines

-- ---- whole numbers
wholes : List Line
wholes =
    ("0", accepted 0)
    ∷ ("+5", accepted 5)
    ∷ ("255", accepted 255)
    ∷ ("256", refused 7)
    ∷ ("0000000000000000000000000000000000000255", accepted 255)
    ∷ ("9999999999999999999999999999999999999999", refused 7)
    ∷ ("", refused 7)
    ∷ ("+", refused 7)
    ∷ ("++1", refused 7)
    ∷ ("-1", refused 7)
    ∷ ("1 ", refused 7)
    ∷ (" 1", refused 7)
    ∷ ("1a", refused 7)
    ∷ []

whole_numbers : Agrees whole_of wholes
unfolding wholes is_digits spelt without whole_of
whole_numbers = refl

-- ---- members below 3, trimmed, and then not
trimmed : List Line
trimmed =
    ("0,2", accepted 5)
    ∷ (" 0 , +2", accepted 5)
    ∷ ("0,0", accepted 1)
    ∷ ("3", refused 9)
    ∷ ("0,3,x", refused 9)
    ∷ ("0,x,3", refused 7)
    ∷ ("0,", refused 7)
    ∷ ("0,256", refused 7)
    ∷ ("", refused 7)
    ∷ []

members_trimmed : Agrees (members_of true 3) trimmed
unfolding trimmed is_digits spelt without whole_of below_of member_of member_in members_of read_each split trim trim_start trim_end
members_trimmed = refl

members_bare : Agrees (members_of false 3) ((" 0", refused 7) ∷ ("0 ,2", refused 7) ∷ ("0,2", accepted 5) ∷ [])
unfolding is_digits spelt without whole_of below_of member_of member_in members_of read_each split
members_bare = refl

-- members below 255 and 256, as the shards of a row
members_wide : Agrees (members_of false 255) (
    ("63,64", accepted (2 ^ 63 + 2 ^ 64))
    ∷ ("254,0,254", accepted (2 ^ 254 + 1))
    ∷ ("255", refused 9)
    ∷ ("256", refused 7)
    ∷ []
    )
unfolding is_digits spelt without whole_of below_of member_of member_in members_of read_each split
members_wide = refl

member_widest : members_of false 256 (bytes "255") ≡ accepted (2 ^ 255)
unfolding is_digits spelt without whole_of below_of member_of member_in members_of read_each split
member_widest = refl

-- ---- blanks: 9 to 13 and 32 go, 8, 14, 28 and 31 stay, and those inside
blanks : List (List ℕ × List ℕ)
blanks =
    ((9 ∷ 10 ∷ 11 ∷ 12 ∷ 13 ∷ 32 ∷ 97 ∷ 32 ∷ 98 ∷ 32 ∷ 13 ∷ 9 ∷ []), (97 ∷ 32 ∷ 98 ∷ []))
    ∷ ((8 ∷ 32 ∷ 14 ∷ []), (8 ∷ 32 ∷ 14 ∷ []))
    ∷ ((32 ∷ 28 ∷ 97 ∷ 31 ∷ 32 ∷ []), (28 ∷ 97 ∷ 31 ∷ []))
    ∷ ((32 ∷ 9 ∷ []), [])
    ∷ []

blanks_go : map (λ l. trim l.0) blanks ≡ map (λ l. l.1) blanks
unfolding blanks trim trim_start trim_end
blanks_go = refl

-- ---- texts: 4,096 bytes of 127, one more, and a byte 128; the same of 16,384
text_longest : is_text 4096 (replicate 4096 127) ≡ true
unfolding is_text
text_longest = refl

text_longer : is_text 4096 (replicate 4097 65) ≡ false
unfolding is_text
text_longer = refl

text_byte : is_text 4096 (65 ∷ 128 ∷ []) ≡ false
unfolding is_text
text_byte = refl

text_longest_layout : is_text 16384 (replicate 16384 127) ≡ true
unfolding is_text
text_longest_layout = refl

text_longer_layout : is_text 16384 (replicate 16385 65) ≡ false
unfolding is_text
text_longer_layout = refl
