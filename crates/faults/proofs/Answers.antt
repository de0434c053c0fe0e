-- The three ways to list the maximal sets of a family, and what the table that is lent for it is. Assumes nothing.
use Prim.Native.Nat.{ℕ, ◌+◌, ◌*◌, ◌-◌, ◌/◌, ◌%◌, ◌^◌, ◌<◌, ◌≤◌}
use native.Mathlib.Omega.{arith}
use mathlib.Core.Path.{◌≡◌, refl, sym, ap, ◌∙◌}
use mathlib.Core.Bool.{Bool, true, false, cond}
use mathlib.Core.List.{List}
use lib.Dec.{leb}
use lib.ListN.{length, take}
use lib.Pow.{ones_lt, pow_mono, pow_pos}
use lib.Seq.{length-take-le}
use Rattle.lists.specs.Below.{front}
use Rattle.bitmap.specs.Mask.{all_below}
use Rattle.bitmap.proofs.Words.{one_shl}
use Rattle.marks.specs.Marks.{flagged}
use Rattle.refusals.specs.Numbers.{EVERY_REPLICA, ROOM}
use Rattle.refusals.specs.Outcome.{refused, accepted}
use Rattle.refusals.specs.declared.Refusal.{Refusal}
use Rattle.refusals.specs.Refused.{number_of}
use Rattle.refusals.proofs.Outcomes.{number_positive}
use Rattle.maximal.specs.Maximal.{maximals}
use Rattle.maximal.specs.Tables.{Flags}
use Rattle.maximal.proofs.MaximalLaws.{maximals_same}
use Rattle.faults.specs.FaultList.{list_answer, list_words}

-- ---- the three answers
module _ (g : ℕ → Bool) (n : ℕ) (l : List ℕ) where
  pub no_survivor : g (all_below n) ≡ true → (refused EVERY_REPLICA ≡ list_answer g n (length l)) × (l ≡ list_words g n l)
  unfolding list_answer list_words
  no_survivor e = (rw e, rw e)

  pub no_room : g (all_below n) ≡ false → leb (length (maximals g n)) (length l) ≡ false
      → (refused ROOM ≡ list_answer g n (length l)) × (l ≡ list_words g n l)
  unfolding list_answer list_words
  no_room e h = (rw (e, h), rw (e, h))

  pub all_listed :
      g (all_below n) ≡ false → leb (length (maximals g n)) (length l) ≡ true
      → (accepted (length (maximals g n)) ≡ list_answer g n (length l)) × (front (maximals g n) l ≡ list_words g n l)
  unfolding list_answer list_words
  all_listed e h = (rw (e, h), rw (e, h))

-- families that agree
module _ (f g : ℕ → Bool) (n : ℕ) (h : (k : ℕ) → k < 2 ^ n → f k ≡ g k) where
  pub answer_same : (room : ℕ) → list_answer f n room ≡ list_answer g n room
  unfolding list_answer
  answer_same room = rw (maximals_same f g n h, h (all_below n) (ones_lt n))

  pub words_same : (l : List ℕ) → list_words f n l ≡ list_words g n l
  unfolding list_words
  words_same l = rw (maximals_same f g n h, h (all_below n) (ones_lt n))

-- a table that flags the family, with the replicas that it had before
module _ (g : ℕ → Bool) (n m : ℕ) (t : List ℕ) (same : m ≡ n) (flags : Flags n g t) where
  pub family_answer : (room : ℕ) → list_answer (flagged t) m room ≡ list_answer g n room
  unfolding Flags
  family_answer room = rw same (answer_same (flagged t) g n flags room)

  pub family_words : (l : List ℕ) → list_words (flagged t) m l ≡ list_words g n l
  unfolding Flags
  family_words l = rw same (words_same (flagged t) g n flags l)

-- ---- the last of the 2 ^ n sets has a bit in a table of as many
pub last_set : (n : ℕ) → n ≤ 16 → (t : List ℕ) → 2 ^ n ≤ 64 * length t → 1 * 2 ^ n % 2 ^ 64 - 1 < 64 * length t
last_set n h t e = omega (arith, one_shl 64 n (omega arith), pow_pos n)

-- ---- the words that have the bits of 2 ^ n sets: a table with a bit for each has as many, and the first so many of its words have a bit
-- for each
abbrev pub words_for : ℕ → ℕ
words_for n = (1 * 2 ^ n % 2 ^ 64 + 63) / 64

module _ (n : ℕ) (h : n ≤ 16) (l : List ℕ) (e : 2 ^ n ≤ 64 * length l) where
  pub inside : words_for n ≤ length l
  inside = omega (arith, one_shl 64 n (omega arith))

  pub counted : words_for n ≡ length (take (words_for n) l)
  counted = sym (length-take-le (words_for n) l inside)

  pub enough : 2 ^ n ≤ 64 * length (take (words_for n) l)
  enough = omega (arith, one_shl 64 n (omega arith), counted)

-- ---- a table of 4 words has a bit for each set of 8 replicas, one of 1,024 for each of 16
pub small_holds : (n : ℕ) (l : List ℕ) → n ≤ 8 → length l ≡ 4 → 2 ^ n ≤ 64 * length l
small_holds n l h e = omega (arith, pow_mono h)

pub large_holds : (n : ℕ) (l : List ℕ) → n ≤ 16 → length l ≡ 1024 → 2 ^ n ≤ 64 * length l
large_holds n l h e = omega (arith, pow_mono h)

-- ---- the last of the 2 ^ n sets: its flag is that of the set of all replicas
pub whole_set : (n size : ℕ) (t : List ℕ) (r b : Bool) → size ≡ 2 ^ n → r ≡ flagged t (size - 1) → r ≡ b → flagged t (all_below n) ≡ b
whole_set n size t r b e h q = ap (λ (x : ℕ). flagged t (x - 1)) (sym e) ∙ sym h ∙ q

-- ---- where the `?` after `unless(b, ..)` leaves, with a refusal that has the number k
pub left_by : (b : Bool) (k : ℕ) (e : Refusal) → number_of e ≡ cond b 0 k → (b ≡ false) × (number_of e ≡ k)
left_by true k e h = let s : 0 < number_of e = number_positive e in absurd (omega arith)
left_by false k e h = (refl, h)
