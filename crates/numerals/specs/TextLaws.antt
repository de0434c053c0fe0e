-- What a text is in numbers, what the parts of a split text are, and how a reader goes through them. Assumes nothing.
use Rattle.std.specs.Prelude.{◌≡◌, refl, Bool, true, false, cond, ◌||◌, List, [], ◌∷◌, ◌↔◌, ℕ, suc, ◌+◌, ◌≤◌, ◌<◌, eqb, leb, ltb, drop, get_or, take}
use Rattle.std.proofs.Common.{sym, ap, ◌∙◌, ⊎_elim, zero-le, suc-le-suc, arith, add-one, le_refl, lt_irrefl, eq-or-lt_of_le, length-take-le, drop-drop, leb-true, le-leb, ltb-true, lt-ltb, le-ltb, eq-eqb, ne_eqb}
use Rattle.std.proofs.Math.Bool.{and-eq-true_iff}
use Rattle.std.proofs.Math.Decide.{dec_lt}
use Rattle.std.proofs.Math.ListN.{length, length-drop}
use Rattle.std.proofs.Math.Seq.{take-length}
use Rattle.std.specs.List.{list_all, list_any}
use Rattle.lists.specs.AllLaws.{all_means}
use Rattle.numerals.specs.Text.{is_ascii, is_text, cut_by, is_byte, cut, push, split}

-- at most so many bytes, each below 128
abbrev pub Ascii : ℕ → List ℕ → Type 0
Ascii most s = (length s ≤ most) × ((i : ℕ) → i < length s → get_or s i 0 < 128)

pub text_means : (most : ℕ) (s : List ℕ) → (is_text most s ≡ true) ↔ Ascii most s
unfolding is_text
text_means most s = (
  λ e.
      let p = (and-eq-true_iff (leb (length s) most) (list_all is_ascii s)).0 e in
      (leb-true (length s) most p.0, λ i h. ltb-true (get_or s i 0) 128 ((all_means is_ascii 0 s).0 p.1 i h)),
  λ h.
      (and-eq-true_iff (leb (length s) most) (list_all is_ascii s)).1
      (le-leb (length s) most h.0, (all_means is_ascii 0 s).1 (λ i l. lt-ltb (get_or s i 0) 128 (h.1 i l))),
)

pick_le : (t : Bool) (k n : ℕ) → k ≤ n → cond t 0 (suc k) ≤ suc n
pick_le true k n h = zero-le
pick_le false k n h = suc-le-suc h

pub cut_le : (p : ℕ → Bool) (s : List ℕ) → cut_by p s ≤ length s
unfolding cut_by
cut_le p [] = le_refl 0
cut_le p (b ∷ bs) = pick_le (p b) (cut_by p bs) (length bs) (cut_le p bs)

suc_ltb : (a b : ℕ) → ltb a b ≡ ltb (suc a) (suc b)
suc_ltb a b = go (dec_lt a b)
  where
    go : Dec (a < b) → ltb a b ≡ ltb (suc a) (suc b)
    go (yes h) = rw (lt-ltb a b h, lt-ltb (suc a) (suc b) (suc-le-suc h))
    go (no h) = rw (le-ltb a b (omega arith), le-ltb (suc a) (suc b) (omega arith))

-- a byte that passes stands where the text has not ended
pub any_cut : (p : ℕ → Bool) (s : List ℕ) → list_any p s ≡ ltb (cut_by p s) (length s)
unfolding cut_by
any_cut p [] = refl
any_cut p (b ∷ bs) = go (p b) (any_cut p bs)
  where
    go : (t : Bool) → list_any p bs ≡ ltb (cut_by p bs) (length bs) → (t || list_any p bs) ≡ ltb (cond t 0 (suc (cut_by p bs))) (suc (length bs))
    go true e = sym (lt-ltb 0 (suc (length bs)) (omega arith))
    go false e = e ∙ suc_ltb (cut_by p bs) (length bs)

-- ---- the last part, and a part with more after it

pub split_last : (x : ℕ) (s : List ℕ) → cut x s ≡ length s → split x s ≡ s ∷ []
unfolding cut_by split
split_last x [] e = refl
split_last x (b ∷ bs) e = go (eqb b x) e (split_last x bs)
  where
    go : (t : Bool) → cond t 0 (suc (cut x bs)) ≡ suc (length bs) → (cut x bs ≡ length bs → split x bs ≡ bs ∷ []) → cond t ([] ∷ split x bs) (push b (split x bs)) ≡ (b ∷ bs) ∷ []
    go true q ih = absurd (omega arith)
    go false q ih = rw (ih (omega arith))

pub split_more : (x : ℕ) (s : List ℕ) → cut x s < length s → split x s ≡ take (cut x s) s ∷ split x (drop (cut x s + 1) s)
unfolding cut_by split
split_more x [] h = absurd (omega arith)
split_more x (b ∷ bs) h = rw add-one (go (eqb b x) h (split_more x bs))
  where
    go : (t : Bool) → cond t 0 (suc (cut x bs)) < suc (length bs) → (cut x bs < length bs → split x bs ≡ take (cut x bs) bs ∷ split x (drop (cut x bs + 1) bs))
        → cond t ([] ∷ split x bs) (push b (split x bs)) ≡ take (cond t 0 (suc (cut x bs))) (b ∷ bs) ∷ split x (drop (suc (cond t 0 (suc (cut x bs)))) (b ∷ bs))
    go true q ih = refl
    go false q ih = rw (ih (omega arith), add-one)

-- the parts after the first
unfoldable pub later : ℕ → List ℕ → List (List ℕ)
later x s = cond (eqb (cut x s) (length s)) [] (split x (drop (cut x s + 1) s))

pub split_head : (x : ℕ) (s : List ℕ) → split x s ≡ take (cut x s) s ∷ later x s
unfolding later
split_head x s = ⊎_elim
    (λ (e : cut x s ≡ length s). split_last x s e ∙ simp (eq-eqb _ _ e) (rw (e, take-length)))
    (λ (h : cut x s < length s). split_more x s h ∙ simp (ne_eqb _ _ (λ (e : cut x s ≡ length s). lt_irrefl _ (rw e at h))))
    (eq-or-lt_of_le (cut_le (is_byte x) s))

-- ---- a part at a place

-- q is the part of s from p up to the next x, or the end
pub record PartOf (s : List ℕ) (p x : ℕ) (q : List ℕ) : Type 0 where
  pub part_is : q ≡ take (cut x (drop p s)) (drop p s)
  pub inside : p + length q ≤ length s

module _ {s : List ℕ} {p x : ℕ} {q : List ℕ} (h : PartOf s p x q) where
  len_is : length q ≡ cut x (drop p s)
  len_is = ap length h.part_is ∙ length-take-le (cut x (drop p s)) (drop p s) (cut_le (is_byte x) (drop p s))

  pub part_head : split x (drop p s) ≡ q ∷ later x (drop p s)
  part_head = split_head x (drop p s) ∙ rw h.part_is

  pub part_last : p + length q ≡ length s → later x (drop p s) ≡ []
  unfolding later
  part_last e =
      let z : cut x (drop p s) ≡ length (drop p s) = omega (arith, len_is, length-drop p s) in
      simp (eq-eqb _ _ z)

  pub part_more : (p + length q ≡ length s → ⊥) → later x (drop p s) ≡ split x (drop (p + length q + 1) s)
  unfolding later
  part_more f =
      let n : cut x (drop p s) ≡ length (drop p s) → ⊥ = λ e. f (omega (arith, len_is, length-drop p s, h.inside)) in
      let k : p + (cut x (drop p s) + 1) ≡ p + length q + 1 = omega (arith, len_is) in
      simp (ne_eqb _ _ n) (rw (drop-drop, k))
