-- One step of each loop over a text, as its invariant has it: what is left of the text says the same as the whole. Assumes nothing.
use mathlib.Core.Path.{◌≡◌, refl, sym, ap, ◌∙◌}
use mathlib.Core.Bool.{Bool, true, false, cond, not, ◌&&◌, ◌||◌, true≢false}
use mathlib.Core.List.{List, [], ◌∷◌, ◌++◌, reverse, reverse-append, reverse-reverse}
use Prim.Native.Nat.{ℕ, zero, suc, ◌+◌, ◌-◌, ◌*◌, ◌^◌, ◌≤◌, ◌<◌}
use native.Mathlib.Omega.{arith}
use native.Mathlib.Numerals.{add-one}
use native.Mathlib.Nat.{zero-add, lt_of_lt_of_le}
use lib.Dec.{leb, eqb}
use Rattle.std.specs.Option.{unwrap_or}
use Rattle.std.specs.List.{position, position_or_len}
use Rattle.std.specs.Cmp.Lexicographic.{pointwise}
use lib.ListN.{length, get_or, drop, take, length-drop, length-reverse, take-append-drop, drop_of_length-le}
use lib.Pow.{pow_mono}
use lib.Seq.{drop-cons, take-length, take-append_seam}
use borrow.Author.Tests.{ltb-true, lt-leb, le-leb, eq-eqb, ne_eqb}
use Rattle.std.specs.List.{list_all, list_any}
use Rattle.bitmap.specs.Mask.{with_bit}
use Rattle.rows.specs.declared.Row.{Row}
use Rattle.rows.specs.Row.{row_of}
use Rattle.rows.proofs.LowLaws.{value_low}
use Rattle.refusals.specs.Numbers.{NUMERAL}
use Rattle.refusals.specs.Outcome.{Outcome, refused, accepted}
use Rattle.numerals.specs.TextLaws.{cut_le}
use Rattle.std.specs.Prelude.{Option, Some, None, ltb}
use Rattle.std.proofs.Math.Decide.{dec_lt}
use Rattle.std.proofs.Common.{⊎_elim, eq-or-lt_of_le, lt-ltb, le-ltb}
use Rattle.numerals.specs.Text.{without, is_blank, trim_start, trim_end, trim, cut_by, is_same}
use Rattle.numerals.specs.Whole.{is_digit, is_digits, spelt, unplussed, whole_of, member_of, member_in, members_of}
use Rattle.numerals.proofs.WholeLaws.{below_limit, members_below}

-- ---- the first byte that passes a test
-- the place that std's `position` gives, or the length, is the cut
pub cut_is : (p : ℕ → Bool) (s : List ℕ) → position_or_len p s ≡ cut_by p s
unfolding cut_by
cut_is p [] = refl
cut_is p (b ∷ bs) = go (p b) (cut_is p bs)
  where
    go : (t : Bool) → position_or_len p bs ≡ cut_by p bs → cond (not t) (1 + position_or_len p bs) 0 ≡ cond t 0 (suc (cut_by p bs))
    go true e = refl
    go false e = omega arith

pub cut_found : (p : ℕ → Bool) (s : List ℕ) → unwrap_or (position p s) (length s) ≡ cut_by p s
cut_found p s = rw (cut_is p s) (go (cut_by p s) (length s) (cut_le p s))
  where
    go : (k n : ℕ) → k ≤ n → unwrap_or (cond (ltb k n) (Some k) None) n ≡ k
    go k n h = ⊎_elim (λ (e : k ≡ n). rw (le-ltb k n (omega arith)) (sym e)) (λ (l : k < n). rw (lt-ltb k n l)) (eq-or-lt_of_le h)

pub cut_some : (p : ℕ → Bool) (s : List ℕ) {k : ℕ} → position p s ≡ Some k → (k ≡ cut_by p s) × (cut_by p s < length s)
cut_some p s {k} e = go (cut_by p s) (length s) (dec_lt (cut_by p s) (length s)) (rw cut_is at e)
  where
    go : (c n : ℕ) → Dec (c < n) → cond (ltb c n) (Some c) None ≡ Some k → (k ≡ c) × (c < n)
    go c n (yes h) e = let q : ◌≡◌ {A = Option ℕ} (Some c) (Some k) = rw (lt-ltb c n h) at e in (let r : k ≡ c = cc in r, h)
    go c n (no h) e = let q : ◌≡◌ {A = Option ℕ} None (Some k) = rw (le-ltb c n (omega arith)) at e in (let r : k ≡ c = cc in r, absurd (let z : ◌≡◌ {A = ℕ} 0 1 = cc in omega arith))

pub cut_none : (p : ℕ → Bool) (s : List ℕ) → position p s ≡ None → cut_by p s ≡ length s
cut_none p s e = ⊎_elim (λ (q : cut_by p s ≡ length s). q) (λ (l : cut_by p s < length s). absurd (go (cut_by p s) (length s) l (rw cut_is at e))) (eq-or-lt_of_le (cut_le p s))
  where
    go : (c n : ℕ) → c < n → cond (ltb c n) (Some c) None ≡ None → ⊥
    go c n l e = let q : ◌≡◌ {A = Option ℕ} (Some c) None = rw (lt-ltb c n l) at e in let z : ◌≡◌ {A = ℕ} 0 1 = cc in omega arith

-- k bytes at once, none of which passes
pub over_none : (p : ℕ → Bool) (k : ℕ) (s : List ℕ) → k ≤ length s → list_any p (take k s) ≡ false → cut_by p s ≡ k + cut_by p (drop k s)
unfolding cut_by
over_none p zero s h e = sym (zero-add _)
over_none p (suc k) [] h e = absurd (omega arith)
over_none p (suc k) (b ∷ bs) h e = go (p b) e (over_none p k bs (omega arith))
  where
    go : (t : Bool) → (t || list_any p (take k bs)) ≡ false → (list_any p (take k bs) ≡ false → cut_by p bs ≡ k + cut_by p (drop k bs)) → cond t 0 (suc (cut_by p bs)) ≡ suc k + cut_by p (drop k bs)
    go true q ih = absurd (true≢false q)
    go false q ih = omega (arith, ih q)

-- ---- blanks: the text without those at its start, and at its end
-- no blank
abbrev pub is_dark : ℕ → Bool
is_dark b = not (is_blank b)

pub start_is : (s : List ℕ) → drop (cut_by is_dark s) s ≡ trim_start s
unfolding cut_by trim_start
start_is [] = refl
start_is (b ∷ bs) = go (is_blank b) (start_is bs)
  where
    go : (t : Bool) → drop (cut_by is_dark bs) bs ≡ trim_start bs → drop (cond (not t) 0 (suc (cut_by is_dark bs))) (b ∷ bs) ≡ cond t (trim_start bs) (b ∷ bs)
    go true e = e
    go false e = refl

pub end_is : (s : List ℕ) → take (length s - cut_by is_dark (reverse s)) s ≡ trim_end s
unfolding trim_end
end_is s =
    let r = reverse s in
    let n = cut_by is_dark r in
    let q : s ≡ reverse (drop n r) ++ reverse (take n r) = sym (reverse-reverse s) ∙ ap reverse (sym (take-append-drop n r)) ∙ reverse-append (take n r) (drop n r) in
    let l : length s - n ≡ length (reverse (drop n r)) = sym (length-reverse (drop n r) ∙ length-drop n r ∙ ap (λ (k : ℕ). k - n) (length-reverse s)) in
    let z = reverse (drop n r) in
    ap (λ (k : ℕ). take k s) l ∙ ap (λ (t : List ℕ). take (length z) t) q ∙ take-append_seam z (reverse (take n r)) ∙ ap reverse (start_is r)

pub length-back : (s : List ℕ) → length s ≡ length (reverse s)
length-back s = sym (length-reverse s)

pub end_le : (s : List ℕ) → cut_by is_dark (reverse s) ≤ length s
end_le s = rw length-back (cut_le is_dark (reverse s))

-- ---- the same bytes
pub same_is : (s t : List ℕ) → pointwise eqb s t ≡ is_same s t
unfolding is_same
same_is [] [] = refl
same_is [] (y ∷ ys) = refl
same_is (x ∷ xs) [] = refl
same_is (x ∷ xs) (y ∷ ys) = ap (λ (t : Bool). eqb x y && t) (same_is xs ys)

-- ---- the first byte, where it passes a test
pub without_none : (p : ℕ → Bool) (s : List ℕ) → length s < 1 → s ≡ without p s
unfolding without
without_none p [] h = refl
without_none p (b ∷ bs) h = absurd (omega arith)

pub without_first : (p : ℕ → Bool) (s : List ℕ) → 1 ≤ length s → p (get_or s 0 0) ≡ true → take (length s - 1) (drop 1 s) ≡ without p s
unfolding without
without_first p [] h e = absurd (omega arith)
without_first p (b ∷ bs) h e =
    let k : length (b ∷ bs) - 1 ≡ length bs = omega arith in
    rw (e, k) (take-length bs)

pub without_kept : (p : ℕ → Bool) (s : List ℕ) → 1 ≤ length s → p (get_or s 0 0) ≡ false → s ≡ without p s
unfolding without
without_kept p [] h e = absurd (omega arith)
without_kept p (b ∷ bs) h e = rw e

-- ---- a whole number: v is what the digits before i spell
-- the number that v and the digits that are left spell, if it is at most 255
unfoldable pub capped : ℕ → List ℕ → Outcome ℕ
capped v s = cond (list_all is_digit s && leb (spelt v s) 255) (accepted (spelt v s)) (refused NUMERAL)

pub spelt_le : (v : ℕ) (s : List ℕ) → v ≤ spelt v s
unfolding spelt
spelt_le v [] = omega arith
spelt_le v (b ∷ bs) = omega (arith, spelt_le (v * 10 + (b - 48)) bs)

over : (v : ℕ) (s : List ℕ) → 255 < v → capped v s ≡ refused NUMERAL
unfolding capped
over v s h = simp (lt-leb (spelt v s) 255 (omega (arith, spelt_le v s))) (go (list_all is_digit s))
  where
    go : (b : Bool) → cond (b && false) (accepted (spelt v s)) (refused NUMERAL) ≡ refused NUMERAL
    go true = refl
    go false = refl

module _ (s u : List ℕ) (e : u ≡ unplussed s) where
  pub whole_empty : length u ≡ 0 → refused NUMERAL ≡ whole_of s
  unfolding whole_of is_digits
  whole_empty h = rw (← e, eq-eqb _ _ h)

  pub whole_start : (length u ≡ 0 → ⊥) → whole_of s ≡ capped 0 u
  unfolding whole_of is_digits capped
  whole_start h = rw (← e, ne_eqb _ _ h)

module _ (v i : ℕ) (s : List ℕ) {W : Outcome ℕ} (e : W ≡ capped v (drop i s)) where
  module _ (h : i < length s) {r : Bool} (q : r ≡ is_digit (get_or s i 0)) where
    pub whole_bad : r ≡ false → refused NUMERAL ≡ W
    unfolding capped
    whole_bad t = sym (e ∙ rw (drop-cons s i 0 h, sym q ∙ t))

    module _ (t : r ≡ true) {d : ℕ} (w : d ≡ get_or s i 0 - 48) where
      pub whole_next : W ≡ capped (v * 10 + d) (drop (i + 1) s)
      unfolding capped spelt
      whole_next = e ∙ rw (drop-cons s i 0 h, add-one, sym q ∙ t, w)

      pub whole_over : 255 < v * 10 + d → refused NUMERAL ≡ W
      whole_over g = sym (whole_next ∙ over (v * 10 + d) (drop (i + 1) s) g)

  pub whole_end : length s ≤ i → v ≤ 255 → accepted v ≡ W
  unfolding capped spelt
  whole_end h g = sym (e ∙ simp (drop_of_length-le s h, le-leb v 255 g))

-- ---- a member of a list
module _ (trims : Bool) (limit : ℕ) (q : List ℕ) where
  pub member_refused : {k : ℕ} → refused k ≡ member_of trims limit q → (m : ℕ) → member_in trims limit m q ≡ refused k
  unfolding member_in
  member_refused e m = rw (← e)

  module _ {v : ℕ} (e : accepted v ≡ member_of trims limit q) where
    pub member_read : (m : ℕ) {r : ℕ} → r ≡ with_bit m v → member_in trims limit m q ≡ accepted r
    unfolding member_in
    member_read m h = rw (← e, h)

    pub member_below : v < limit
    unfolding member_of
    member_below = below_limit limit (cond trims (trim q) q) (sym e)

-- ---- a list of members as a mask, where they all have room in the first word of a row
pub mask_read : (trims : Bool) (limit : ℕ) (s : List ℕ) (row : Row) → limit ≤ 64 → accepted (row_of row) ≡ members_of trims limit s → accepted row.w0 ≡ members_of trims limit s
mask_read trims limit s row h r =
    let b = ltb-true (row_of row) (2 ^ limit) (members_below trims limit s (sym r)) in
    ap accepted (value_low row.w0 (row.w1 ∷ row.w2 ∷ row.w3 ∷ []) (lt_of_lt_of_le b (pow_mono {i = limit} {j = 64} h))) ∙ r
