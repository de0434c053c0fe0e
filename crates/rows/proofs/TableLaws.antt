-- Tables of four words a row: which words a row is, what a table that is spelled from rows holds, and one row written. Assumes nothing.
use Rattle.std.specs.Prelude.{◌≡◌, refl, Bool, true, false, get_or, set, replicate}
use Rattle.std.proofs.Math.Path.{sym, ap, ap₂}
use Rattle.std.proofs.Common.{subst, ◌∙◌, add-zero, zero-add, suc-add, arith, add-one, pow_pos, length-take, length-append, length-set, length-drop, drop_of_length-le, drop-cons, take_all, take_at, length-take-le, get_or-take, get_or-drop, get_or-set_same, get_or-set_other, ext_get_or}
use Rattle.std.proofs.Math.Bool.{◌&&◌}
use mathlib.Core.List.{List, [], ◌∷◌, ◌++◌, append_assoc, append-nil}
use Prim.Native.Nat.{ℕ, zero, suc, ◌+◌, ◌-◌, ◌*◌, ◌/◌, ◌%◌, ◌^◌, ◌≤◌, ◌<◌}
use Rattle.std.proofs.Math.Decide.{dec_lt, ℕ_discrete}
use borrow.Author.Tests.{ltb-true, lt-ltb, le-ltb}
use Rattle.std.specs.Int.Bits.{bit_or, or_zero_r}
use Rattle.std.proofs.lemmas.Nat.{or_lt}
use Rattle.bitmap.specs.Mask.{is_below}
use Rattle.bitmap.specs.MaskLaws.{bit_of_or, below_bit, bits_below}
use Rattle.std.proofs.Math.ListN.{length, take, drop, get_or-eq_default}
use Rattle.std.proofs.lemmas.List.{length-replicate}
use Rattle.std.proofs.Math.Seq.{drop-nil, take-nil, take-append-add, drop-append-add, drop_at, sets-eq, length-sets}
use Rattle.std.proofs.lemmas.List.Edits.{sets}
use Rattle.std.specs.List.{list_all}
use Rattle.lists.specs.AllLaws.{Each}
use Rattle.lists.specs.Below.{each_below}
use Rattle.lists.specs.BelowLaws.{each_below_length, each_below_at, each_below_all}
use Rattle.rows.specs.Row.{value, words_of, row_in, low_in, last_in, rows_in, spelled, with_row, unite_below}
use Rattle.rows.proofs.LowLaws.{value_low}
use Rattle.rows.proofs.WordLaws.{Words, value_one, below_past, value_words, words_value, words_length}

-- ---- the words of a row

-- k words from i on; past the end they are 0
abbrev from : ℕ → ℕ → List ℕ → List ℕ
from zero i xs = []
from (suc k) i xs = get_or xs i 0 ∷ from k (suc i) xs

from_is : (k i : ℕ) (xs : List ℕ) → value (take k (drop i xs)) ≡ value (from k i xs)
unfolding value
from_is zero i xs = refl
from_is (suc k) i xs = go (dec_lt i (length xs)) (from_is k (suc i) xs)
  where
    go : Dec (i < length xs) → value (take k (drop (suc i) xs)) ≡ value (from k (suc i) xs)
        → value (take (suc k) (drop i xs)) ≡ value (from k (suc i) xs) * 2 ^ 64 + get_or xs i 0
    go (yes l) e = ap (λ (ys : List ℕ). value (take (suc k) ys)) (drop-cons xs i 0 l) ∙ ap (λ (v : ℕ). v * 2 ^ 64 + get_or xs i 0) e
    go (no l) e =
        let z : value (take k (drop (suc i) xs)) ≡ 0 = ap (λ (ys : List ℕ). value (take k ys)) (drop_of_length-le xs {i = suc i} (omega arith)) ∙ ap value (take-nil k) in
        let g : get_or xs i 0 ≡ 0 = get_or-eq_default xs 0 {n = i} (omega arith) in
        ap (λ (ys : List ℕ). value (take (suc k) ys)) (drop_of_length-le xs {i = i} (omega arith)) ∙ omega arith

pub row_is : (table : List ℕ) (s : ℕ)
    → value (get_or table (s * 4) 0 ∷ get_or table (s * 4 + 1) 0 ∷ get_or table (s * 4 + 2) 0 ∷ get_or table (s * 4 + 3) 0 ∷ []) ≡ row_in table s
unfolding row_in
row_is table s =
    let p : s * 4 + 1 ≡ suc (s * 4) = omega arith in
    let q : s * 4 + 2 ≡ suc (suc (s * 4)) = omega arith in
    let r : s * 4 + 3 ≡ suc (suc (suc (s * 4))) = omega arith in
    rw (p, q, r) (sym (from_is 4 (s * 4) table))

-- a row below 64 is its first word
pub low_is : (table : List ℕ) (s : ℕ) → row_in table s < 2 ^ 64 → low_in table s ≡ row_in table s
low_is table s h =
    let xs = get_or table (s * 4 + 1) 0 ∷ get_or table (s * 4 + 2) 0 ∷ get_or table (s * 4 + 3) 0 ∷ [] in
    value_low (low_in table s) xs (subst (λ (m : ℕ). m < 2 ^ 64) (sym (row_is table s)) h) ∙ row_is table s

-- a part of a table has words too
pub part_words : (table : List ℕ) (i k : ℕ) → Words table → Words (take k (drop i table))
part_words table i k h j = go (dec_lt j k)
  where
    go : Dec (j < k) → get_or (take k (drop i table)) j 0 < 2 ^ 64
    go (yes l) = subst (λ (x : ℕ). x < 2 ^ 64) (sym (get_or-take k (drop i table) j 0 l ∙ get_or-drop i table j 0)) (h (i + j))
    go (no l) = subst (λ (x : ℕ). x < 2 ^ 64) (sym (get_or-eq_default (take k (drop i table)) 0 {n = j} (omega (arith, length-take k (drop i table))))) (pow_pos 64)

-- ---- a table spelled from rows

pub spelled_length : (ms : List ℕ) → length (spelled ms) ≡ length ms * 4
unfolding spelled
spelled_length [] = refl
spelled_length (m ∷ ms) = omega (arith, length-append (words_of 4 m) (spelled ms), words_length 4 m, spelled_length ms)

pub spelled_append : (xs ys : List ℕ) → spelled (xs ++ ys) ≡ spelled xs ++ spelled ys
unfolding spelled
spelled_append [] ys = refl
spelled_append (x ∷ xs) ys = ap (λ (l : List ℕ). words_of 4 x ++ l) (spelled_append xs ys)
    ∙ sym (append_assoc (words_of 4 x) (spelled xs) (spelled ys))

-- each row has room in four words
abbrev pub Rows : List ℕ → Type 0
Rows ms = (i : ℕ) → get_or ms i 0 < 2 ^ 256

none : value [] ≡ 0
unfolding value
none = refl

first : (m : ℕ) (l : List ℕ) → value (take 4 (drop (zero * 4) (words_of 4 m ++ l))) ≡ value (words_of 4 m)
unfolding words_of
first m l = refl

pub spelled_row : (ms : List ℕ) → Rows ms → (s : ℕ) → row_in (spelled ms) s ≡ get_or ms s 0
unfolding row_in spelled
spelled_row [] h s = ap (λ (l : List ℕ). value (take 4 l)) (drop-nil (s * 4)) ∙ none
spelled_row (m ∷ ms) h zero = first m (spelled ms) ∙ value_words 4 m (h 0)
spelled_row (m ∷ ms) h (suc s) =
    let e : suc s * 4 ≡ 4 + s * 4 = omega arith in
    let d : drop (4 + s * 4) (words_of 4 m ++ spelled ms) ≡ drop (s * 4) (spelled ms) = subst (λ (k : ℕ). drop (k + s * 4) (words_of 4 m ++ spelled ms) ≡ drop (s * 4) (spelled ms)) (words_length 4 m) (drop-append-add (words_of 4 m) (spelled ms) (s * 4)) in
    ap (λ (k : ℕ). value (take 4 (drop k (words_of 4 m ++ spelled ms)))) e ∙ ap (λ (l : List ℕ). value (take 4 l)) d
    ∙ spelled_row ms (λ i. h (suc i)) s

-- its rows are these
pub spelled_rows : (ms : List ℕ) → Rows ms → rows_in (spelled ms) ≡ ms
unfolding rows_in
spelled_rows ms h =
    let n : (length (spelled ms) + 3) / 4 ≡ length ms = omega (arith, spelled_length ms) in
    ext_get_or 0 (each_below (row_in (spelled ms)) ((length (spelled ms) + 3) / 4)) ms (each_below_length (row_in (spelled ms)) ((length (spelled ms) + 3) / 4) ∙ n)
    (λ i l. each_below_at (row_in (spelled ms)) ((length (spelled ms) + 3) / 4) i 0 (omega (arith, each_below_length (row_in (spelled ms)) ((length (spelled ms) + 3) / 4))) ∙ spelled_row ms h i)

-- ---- the rows of a table

pub rows_length : (table : List ℕ) (n : ℕ) → length table ≡ n * 4 → length (rows_in table) ≡ n
unfolding rows_in
rows_length table n e = each_below_length (row_in table) ((length table + 3) / 4) ∙ omega arith

beyond : (table : List ℕ) (s : ℕ) → drop (s * 4) table ≡ [] → row_in table s ≡ 0
unfolding row_in value
beyond table s e = ap (λ (l : List ℕ). value (take 4 l)) e

one_more : (f : ℕ → ℕ) (k : ℕ) → f k ≡ 0 → unite_below f (k + 1) ≡ unite_below f k
unfolding unite_below
one_more f k e = rw (add-one, e) (or_zero_r (unite_below f k))

pub rows_at : (table : List ℕ) (s : ℕ) → get_or (rows_in table) s 0 ≡ row_in table s
unfolding rows_in
rows_at table s = go (dec_lt s ((length table + 3) / 4))
  where
    go : Dec (s < (length table + 3) / 4) → get_or (each_below (row_in table) ((length table + 3) / 4)) s 0 ≡ row_in table s
    go (yes l) = each_below_at (row_in table) ((length table + 3) / 4) s 0 l
    go (no l) =
        get_or-eq_default (each_below (row_in table) ((length table + 3) / 4)) 0 {n = s} (omega (arith, each_below_length (row_in table) ((length table + 3) / 4)))
        ∙ sym (beyond table s (drop_of_length-le table {i = s * 4} (omega arith)))

-- ---- every row is below a width exactly if their union is

or_below : (w a b : ℕ) → is_below w (bit_or a b) ≡ (is_below w a && is_below w b)
or_below w a b = go (dec_lt a (2 ^ w)) (dec_lt b (2 ^ w))
  where
    left : (bit_or a b) < 2 ^ w → a < 2 ^ w
    left h = bits_below w a (λ s l. omega (arith, bit_of_or a b s, below_bit w (bit_or a b) s h l))

    right : (bit_or a b) < 2 ^ w → b < 2 ^ w
    right h = bits_below w b (λ s l. omega (arith, bit_of_or a b s, below_bit w (bit_or a b) s h l))

    fails : (bit_or a b < 2 ^ w → ⊥) → is_below w (bit_or a b) ≡ false
    fails n = le-ltb (bit_or a b) (2 ^ w) (omega arith)

    go : Dec (a < 2 ^ w) → Dec (b < 2 ^ w) → is_below w (bit_or a b) ≡ (is_below w a && is_below w b)
    go (yes l) (yes k) = rw (lt-ltb (bit_or a b) (2 ^ w) (or_lt w a b l k), lt-ltb a (2 ^ w) l, lt-ltb b (2 ^ w) k)
    go (yes l) (no k) = rw (fails (λ h. k (right h)), lt-ltb a (2 ^ w) l, le-ltb b (2 ^ w) (omega arith))
    go (no l) k = rw (fails (λ h. l (left h)), le-ltb a (2 ^ w) (omega arith))

all_append : (p : ℕ → Bool) (xs : List ℕ) (x : ℕ) → list_all p (xs ++ (x ∷ [])) ≡ (list_all p xs && p x)
all_append p [] x = go (p x)
  where
    go : (b : Bool) → (b && true) ≡ b
    go true = refl
    go false = refl
all_append p (y ∷ xs) x = go (p y) (all_append p xs x)
  where
    go : (b : Bool) → list_all p (xs ++ (x ∷ [])) ≡ (list_all p xs && p x) → (b && list_all p (xs ++ (x ∷ []))) ≡ ((b && list_all p xs) && p x)
    go true e = e
    go false e = refl

module _ (w : ℕ) (f : ℕ → ℕ) where
  pub united_below : (k : ℕ) → is_below w (unite_below f k) ≡ list_all (is_below w) (each_below f k)
  unfolding unite_below each_below
  united_below zero = lt-ltb 0 (2 ^ w) (pow_pos w)
  united_below (suc k) = or_below w (unite_below f k) (f k) ∙ ap (λ (b : Bool). b && is_below w (f k)) (united_below k)
      ∙ sym (all_append (is_below w) (each_below f k) (f k))

-- a table has as many whole rows as its length has fours; one row more is the part that is left, or nothing
pub all_rows_below : (w : ℕ) (table : List ℕ) → is_below w (unite_below (row_in table) (length table / 4 + 1)) ≡ list_all (is_below w) (rows_in table)
unfolding rows_in
all_rows_below w table = go (ℕ_discrete (length table % 4) 0)
  where
    n : ℕ
    n = length table / 4

    go : Dec (length table % 4 ≡ 0)
        → is_below w (unite_below (row_in table) (length table / 4 + 1)) ≡ list_all (is_below w) (each_below (row_in table) ((length table + 3) / 4))
    go (yes e) =
        ap (is_below w) (one_more (row_in table) n (beyond table n (drop_of_length-le table {i = n * 4} (omega arith))))
        ∙ united_below w (row_in table) n
        ∙ ap (λ (k : ℕ). list_all (is_below w) (each_below (row_in table) k)) (omega arith)
    go (no e) =
        ap (λ (k : ℕ). is_below w (unite_below (row_in table) k)) (omega arith) ∙ united_below w (row_in table) ((length table + 3) / 4)

-- of a width of at least 192 the last words alone say it: the others are below it whatever they hold
module _ (w : ℕ) (wide : 192 ≤ w) (table : List ℕ) (h : Words table) where
  last_below : (s : ℕ) → is_below w (row_in table s) ≡ is_below (w - 192) (last_in table s)
  last_below s =
      ap (is_below w) (sym (row_is table s)) ∙ below_past w (get_or table (s * 4) 0) _ (omega arith) (h (s * 4))
      ∙ below_past (w - 64) (get_or table (s * 4 + 1) 0) _ (omega arith) (h (s * 4 + 1))
      ∙ below_past (w - 64 - 64) (get_or table (s * 4 + 2) 0) _ (omega arith) (h (s * 4 + 2))
      ∙ ap₂ is_below (omega arith) (value_one (last_in table s))

  last_united : (k : ℕ) → is_below (w - 192) (unite_below (last_in table) k) ≡ is_below w (unite_below (row_in table) k)
  unfolding unite_below
  last_united zero = lt-ltb 0 (2 ^ (w - 192)) (pow_pos (w - 192)) ∙ sym (lt-ltb 0 (2 ^ w) (pow_pos w))
  last_united (suc k) =
      or_below (w - 192) (unite_below (last_in table) k) (last_in table k) ∙ ap₂ ◌&&◌ (last_united k) (sym (last_below k))
      ∙ sym (or_below w (unite_below (row_in table) k) (row_in table k))

  -- a last row that is not whole has no last word
  pub last_words_below : is_below (w - 192) (unite_below (last_in table) (length table / 4)) ≡ list_all (is_below w) (rows_in table)
  last_words_below =
      let n = length table / 4 in
      ap (is_below (w - 192)) (sym (one_more (last_in table) n (get_or-eq_default table 0 {n = n * 4 + 3} (omega arith))))
      ∙ last_united (n + 1)
      ∙ all_rows_below w table

-- ---- another row in a table

-- outside the words that are stored a list is as it was
sets_other : (vs l : List ℕ) (i j : ℕ) → (i ≤ j → i + length vs ≤ j) → get_or (sets l i vs) j 0 ≡ get_or l j 0
sets_other [] l i j h = refl
sets_other (v ∷ vs) l i j h =
    sets_other vs (set l i v) (suc i) j (λ g. omega (arith, h (omega arith)))
    ∙ get_or-set_other l i j v 0 (λ (e : j ≡ i). omega (arith, h (omega arith)))

module _ (table : List ℕ) (s m : ℕ) (room : s * 4 + 4 ≤ length table) where
  pub with_row_same : m < 2 ^ 256 → row_in (with_row table s m) s ≡ m
  unfolding row_in
  with_row_same h =
      let n : length (words_of 4 m) ≡ 4 = words_length 4 m in
      let e : with_row table s m ≡ take (s * 4) table ++ words_of 4 m ++ drop (s * 4 + length (words_of 4 m)) table = sets-eq (words_of 4 m) table (s * 4) (omega arith) in
      let r = drop (s * 4 + length (words_of 4 m)) table in
      let p : drop (s * 4) (with_row table s m) ≡ words_of 4 m ++ r = ap (drop (s * 4)) (e ∙ append_assoc (take (s * 4) table) (words_of 4 m) r) ∙ drop_at (take (s * 4) table) (words_of 4 m ++ r) (s * 4) (length-take-le (s * 4) table (omega arith)) in
      ap (λ (l : List ℕ). value (take 4 l)) p ∙ ap value (take_at (words_of 4 m) r 4 n) ∙ value_words 4 m h

  pub with_row_other : (k : ℕ) → (k ≡ s → ⊥) → row_in (with_row table s m) k ≡ row_in table k
  with_row_other k f =
      let n : length (words_of 4 m) ≡ 4 = words_length 4 m in
      let o : ((j : ℕ) → j < 4 → get_or (with_row table s m) (k * 4 + j) 0 ≡ get_or table (k * 4 + j) 0) = λ j l. sets_other (words_of 4 m) table (s * 4) (k * 4 + j) (λ g. apart j l g n) in
      let z : k * 4 + 0 ≡ k * 4 = add-zero (k * 4) in
      sym (row_is (with_row table s m) k)
      ∙ rw (subst (λ (x : ℕ). get_or (with_row table s m) x 0 ≡ get_or table x 0) z (o 0 (omega arith)), o 1 (omega arith), o 2 (omega arith), o 3 (omega arith)) (row_is table k)
    where
      apart : (j : ℕ) → j < 4 → s * 4 ≤ k * 4 + j → length (words_of 4 m) ≡ 4 → s * 4 + length (words_of 4 m) ≤ k * 4 + j
      apart j l g n = go (dec_lt s k)
        where
          go : Dec (s < k) → s * 4 + length (words_of 4 m) ≤ k * 4 + j
          go (yes q) = omega arith
          go (no q) = absurd (f (omega arith))

  pub with_row_length : length (with_row table s m) ≡ length table
  with_row_length = length-sets table (s * 4) (words_of 4 m)

-- ---- the first rows of a table
pub first_row : (table : List ℕ) (n s : ℕ) → s < n → row_in (take (n * 4) table) s ≡ row_in table s
first_row table n s h =
    sym (row_is (take (n * 4) table) s)
    ∙ rw (
      get_or-take (n * 4) table (s * 4) 0 (omega arith),
      get_or-take (n * 4) table (s * 4 + 1) 0 (omega arith),
      get_or-take (n * 4) table (s * 4 + 2) 0 (omega arith),
      get_or-take (n * 4) table (s * 4 + 3) 0 (omega arith),
    ) (row_is table s)

-- ---- a table of zeros
empty : value (0 ∷ 0 ∷ 0 ∷ 0 ∷ []) ≡ 0
unfolding value
empty = refl

no_word : (n i : ℕ) → ◌≡◌ {A = ℕ} (get_or (replicate n 0) i 0) 0
no_word zero i = refl
no_word (suc n) zero = refl
no_word (suc n) (suc i) = no_word n i

pub no_row : (n s : ℕ) → row_in (replicate n 0) s ≡ 0
no_row n s = sym (row_is (replicate n 0) s)
    ∙ rw (no_word n (s * 4), no_word n (s * 4 + 1), no_word n (s * 4 + 2), no_word n (s * 4 + 3)) empty

-- each of the rows of a table's first n passes
pub first_rows_below : (w n : ℕ) (table : List ℕ) → ((s : ℕ) → row_in table s < 2 ^ w) → list_all (is_below w) (rows_in (take (n * 4) table)) ≡ true
unfolding rows_in
first_rows_below w n table h =
    let l = take (n * 4) table in
    each_below_all (row_in l) (is_below w) 0 ((length l + 3) / 4)
    (λ s k. lt-ltb (row_in l s) (2 ^ w) (subst (λ (x : ℕ). x < 2 ^ w) (sym (first_row table n s (omega (arith, length-take (n * 4) table)))) (h s)))

-- a row of a table whose rows all pass; past the end there is none
pub row_below : (w : ℕ) (table : List ℕ) → Each (is_below w) 0 (rows_in table) → (s : ℕ) → row_in table s < 2 ^ w
row_below w table h s = subst (λ (x : ℕ). x < 2 ^ w) (rows_at table s) (go (dec_lt s (length (rows_in table))))
  where
    go : Dec (s < length (rows_in table)) → get_or (rows_in table) s 0 < 2 ^ w
    go (yes l) = ltb-true (get_or (rows_in table) s 0) (2 ^ w) (h s l)
    go (no l) = subst (λ (x : ℕ). x < 2 ^ w) (sym (get_or-eq_default (rows_in table) 0 {n = s} (omega arith))) (pow_pos w)

-- ---- the rows of a table that is changed, and a table as its rows spell it

pub rows_count : (table : List ℕ) → length (rows_in table) ≡ (length table + 3) / 4
unfolding rows_in
rows_count table = each_below_length (row_in table) ((length table + 3) / 4)

-- the rows of a table with another row
pub rows_with : (table : List ℕ) (s m : ℕ) → s * 4 + 4 ≤ length table → m < 2 ^ 256 → rows_in (with_row table s m) ≡ set (rows_in table) s m
rows_with table s m room h =
    let now = with_row table s m in
    let k : length (rows_in now) ≡ length (rows_in table) = rows_count now ∙ ap (λ (n : ℕ). (n + 3) / 4) (with_row_length table s m room)
    ∙ sym (rows_count table) in
    ext_get_or 0 (rows_in now) (set (rows_in table) s m) (k ∙ sym (length-set (rows_in table) s m)) (λ i g. rows_at now i ∙ go i (ℕ_discrete i s))
  where
    go : (i : ℕ) → Dec (i ≡ s) → row_in (with_row table s m) i ≡ get_or (set (rows_in table) s m) i 0
    go i (yes q) = rw q (with_row_same table s m room h ∙ sym (get_or-set_same (rows_in table) s m 0 (omega (arith, rows_count table))))
    go i (no q) = with_row_other table s m room i q ∙ sym (get_or-set_other (rows_in table) s i m 0 q ∙ rows_at table i)

-- of a table of zeros
pub rows_none : (n : ℕ) → rows_in (replicate (n * 4) 0) ≡ replicate n 0
rows_none n =
    let k : length (rows_in (replicate (n * 4) 0)) ≡ n = rows_length (replicate (n * 4) 0) n (length-replicate {A = ℕ} (n * 4) 0) in
    ext_get_or 0 (rows_in (replicate (n * 4) 0)) (replicate n 0) (k ∙ sym (length-replicate {A = ℕ} n 0))
    (λ i g. rows_at (replicate (n * 4) 0) i ∙ no_row (n * 4) i ∙ sym (no_word n i))

take_more : (a b : ℕ) (l : List ℕ) → take a l ++ take b (drop a l) ≡ take (a + b) l
take_more zero b l = ap (λ (k : ℕ). take k l) (sym (zero-add b))
take_more (suc a) b [] = take-nil b ∙ sym (take-nil (suc a + b))
take_more (suc a) b (x ∷ xs) = ap (λ (r : List ℕ). x ∷ r) (take_more a b xs) ∙ ap (λ (k : ℕ). take k (x ∷ xs)) (sym (suc-add a b))

row_words : (table : List ℕ) → Words table → (s : ℕ) → s * 4 + 4 ≤ length table → words_of 4 (row_in table s) ≡ take 4 (drop (s * 4) table)
unfolding row_in
row_words table h s room =
    let l = take 4 (drop (s * 4) table) in
    let n : length l ≡ 4 = length-take-le 4 (drop (s * 4) table) (simp length-drop (omega arith)) in
    subst (λ (k : ℕ). words_of k (value l) ≡ l) n (words_value l (part_words table (s * 4) 4 h))

spelled_first : (table : List ℕ) → Words table → (k : ℕ) → k * 4 ≤ length table → spelled (each_below (row_in table) k) ≡ take (k * 4) table
unfolding each_below spelled
spelled_first table h zero l = refl
spelled_first table h (suc k) l =
    let q : k * 4 + 4 ≡ suc k * 4 = omega arith in
    spelled_append (each_below (row_in table) k) (row_in table k ∷ [])
    ∙ ap₂ (λ (a b : List ℕ). a ++ b) (spelled_first table h k (omega arith)) (append-nil (words_of 4 (row_in table k)) ∙ row_words table h k (omega arith))
    ∙ take_more (k * 4) 4 table ∙ ap (λ (n : ℕ). take n table) q

-- a table of whole rows is what its rows spell
pub rows_spelled : (table : List ℕ) (n : ℕ) → Words table → length table ≡ n * 4 → spelled (rows_in table) ≡ table
unfolding rows_in
rows_spelled table n h e =
    let q : (length table + 3) / 4 ≡ n = omega arith in
    ap (λ (k : ℕ). spelled (each_below (row_in table) k)) q ∙ spelled_first table h n (omega arith) ∙ take_all (n * 4) table (omega arith)

-- ---- a part of a table, in rows

past_first : (m k : ℕ) (ms : List ℕ) → drop (suc k * 4) (words_of 4 m ++ spelled ms) ≡ drop (k * 4) (spelled ms)
past_first m k ms =
    let e : suc k * 4 ≡ length (words_of 4 m) + k * 4 = omega (arith, words_length 4 m) in
    ap (λ (n : ℕ). drop n (words_of 4 m ++ spelled ms)) e ∙ drop-append-add (words_of 4 m) (spelled ms) (k * 4)

pub spelled_drop : (k : ℕ) (ms : List ℕ) → drop (k * 4) (spelled ms) ≡ spelled (drop k ms)
unfolding spelled
spelled_drop zero ms = refl
spelled_drop (suc k) [] = drop-nil (suc k * 4)
spelled_drop (suc k) (m ∷ ms) = past_first m k ms ∙ spelled_drop k ms

pub spelled_take : (k : ℕ) (ms : List ℕ) → take (k * 4) (spelled ms) ≡ spelled (take k ms)
unfolding spelled
spelled_take zero ms = refl
spelled_take (suc k) [] = take-nil (suc k * 4)
spelled_take (suc k) (m ∷ ms) =
    let e : suc k * 4 ≡ length (words_of 4 m) + k * 4 = omega (arith, words_length 4 m) in
    ap (λ (n : ℕ). take n (words_of 4 m ++ spelled ms)) e ∙ take-append-add (words_of 4 m) (spelled ms) (k * 4)
    ∙ ap (λ (l : List ℕ). words_of 4 m ++ l) (spelled_take k ms)

-- n rows from k on
pub part_spelled : (table : List ℕ) (h k n : ℕ) → Words table → length table ≡ h * 4
    → take (n * 4) (drop (k * 4) table) ≡ spelled (take n (drop k (rows_in table)))
part_spelled table h k n words e =
    ap (λ (l : List ℕ). take (n * 4) (drop (k * 4) l)) (sym (rows_spelled table h words e))
    ∙ ap (take (n * 4)) (spelled_drop k (rows_in table)) ∙ spelled_take n (drop k (rows_in table))
