-- The pass over one replica, word by word, the passes one after another, and the last one. The premises of each law are the fields of a
-- need's record, so that `search` finds them. Assumes nothing.
use Prim.Native.Nat.{ℕ, ◌+◌, ◌-◌, ◌*◌, ◌/◌, ◌%◌, ◌^◌, ◌<◌, ◌≤◌, min}
use native.Mathlib.Decide.{ℕ_discrete, dec_lt}
use native.Mathlib.Numerals.{add-one}
use native.Mathlib.Omega.{arith}
use mathlib.Core.Path.{◌≡◌, refl, sym, ap, ◌∙◌}
use mathlib.Core.Bool.{Bool, true, false, ◌&&◌, ◌||◌}
use mathlib.Core.List.{List}
use borrow.Author.Tests.{eq-eqb, ne_eqb, eqb-true, eqb-false}
use lib.Bits.{bit_and, bit_or, bit_xor}
use lib.Dec.{eqb}
use lib.ListN.{length, get_or, set}
use lib.Pow.{field, mod-mod-pow, shr-shr, pow-add, pow-lt}
use Rattle.lists.specs.Below.{some_below}
use Rattle.lists.specs.BelowLaws.{some_below_same}
use Rattle.bitmap.proofs.Words.{one_shl}
use Rattle.bitmap.specs.Mask.{bit, has_bit, mask_below}
use Rattle.bitmap.specs.MaskLaws.{bit_of_and, bit_lt, bit_none, has_or, has_except}
use Rattle.bitmap.specs.WidthLaws.{mask_below_bit}
use Rattle.marks.specs.Marks.{flagged}
use Rattle.marks.specs.MarkLaws.{flagged_here, flagged_elsewhere, flagged_union, flagged_past}
use Rattle.maximal.specs.Maximal.{is_maximal}
use Rattle.maximal.specs.Tables.{Flags, is_within, is_lacking, is_shown, Shows, Spread, is_top, Tops, Peeled}
use Rattle.maximal.proofs.Supersets.{more_lt, is_reached, reached_none, reached_more, reached_all, top_is}

-- ---- a mask in two: its place in a word, and the word
low_bit : (m b : ℕ) → b < 6 → bit (m % 64) b ≡ bit m b
low_bit m b h =
    let e : 6 ≡ 6 - b + b = omega arith in
    let f : 6 - b ≡ 5 - b + 1 = omega arith in
    ap (λ (x : ℕ). bit (m % 2 ^ x) b) e ∙ ap (λ (x : ℕ). x % 2) (field m (6 - b) b)
    ∙ ap (λ (x : ℕ). m / 2 ^ b % 2 ^ x % 2) f ∙ mod-mod-pow (m / 2 ^ b) (5 - b) 1

high_bit : (m b : ℕ) → 6 ≤ b → bit (m / 64) (b - 6) ≡ bit m b
high_bit m b h =
    let e : 6 + (b - 6) ≡ b = omega arith in
    ap (λ (x : ℕ). x % 2) (shr-shr m 6 (b - 6)) ∙ ap (bit m) e

far_pow : (b : ℕ) → 6 ≤ b → 2 ^ b ≡ 64 * 2 ^ (b - 6)
far_pow b h = let e : b ≡ 6 + (b - 6) = omega arith in ap (λ (x : ℕ). 2 ^ x) e ∙ pow-add 2 6 (b - 6)

-- `1 << b`, below 64
pub shift : (b : ℕ) → b < 6 → 1 * 2 ^ b % 2 ^ 64 ≡ 2 ^ b
shift b h = one_shl 64 b (omega arith)

pub shift_fits : (b : ℕ) → b < 6 → 1 * 2 ^ b % 2 ^ 64 < 64
shift_fits b h = let t : 2 ^ b < 2 ^ 6 = pow-lt h in omega (arith, shift b h)

-- ---- the sets of a word that are shown
module _ (table : List ℕ) (b k : ℕ) where
  module _ (low : b < 6) (r : ℕ) (told : r ≡ bit_and (get_or table k 0 / 2 ^ (2 ^ b)) (mask_below (is_lacking b) 64)) where
    pub near_shows : Shows b table k r
    unfolding Shows flagged
    near_shows m e = rw told (go (ℕ_discrete (bit m b) 0))
      where
        w : ℕ
        w = get_or table k 0

        j : ℕ
        j = m % 64

        mask : has_bit (mask_below (is_lacking b) 64) j ≡ is_lacking b m
        mask = mask_below_bit (is_lacking b) 64 j (omega arith) ∙ ap (λ (x : ℕ). eqb x 0) (low_bit m b low)

        moved : bit (w / 2 ^ (2 ^ b)) j ≡ bit w (2 ^ b + j)
        moved = ap (λ (x : ℕ). x % 2) (shr-shr w (2 ^ b) j)

        both : bit (bit_and (w / 2 ^ (2 ^ b)) (mask_below (is_lacking b) 64)) j ≡ min (bit w (2 ^ b + j)) (bit (mask_below (is_lacking b) 64) j)
        both = bit_of_and (w / 2 ^ (2 ^ b)) (mask_below (is_lacking b) 64) j ∙ ap (λ (x : ℕ). min x (bit (mask_below (is_lacking b) 64) j)) moved

        go : Dec (bit m b ≡ 0)
            → has_bit (bit_and (w / 2 ^ (2 ^ b)) (mask_below (is_lacking b) 64)) j
            ≡ (is_lacking b m && has_bit (get_or table ((m + 2 ^ b) / 64) 0) ((m + 2 ^ b) % 64))
        go (yes z) =
            let l : is_lacking b m ≡ true = eq-eqb (bit m b) 0 z in
            let o : bit (mask_below (is_lacking b) 64) j ≡ 1 = eqb-true _ 1 (mask ∙ l) in
            let i : j + 2 ^ b < 64 = more_lt j b (low_bit m b low ∙ z) 6 low (omega arith) in
            let p : (m + 2 ^ b) / 64 ≡ k = omega arith in
            let q : (m + 2 ^ b) % 64 ≡ 2 ^ b + j = omega arith in
            let s : bit (bit_and (w / 2 ^ (2 ^ b)) (mask_below (is_lacking b) 64)) j ≡ bit w (2 ^ b + j)
            = omega (arith, both, bit_lt w (2 ^ b + j)) in
            rw (l, p, q, s)
        go (no d) =
            let l : is_lacking b m ≡ false = ne_eqb (bit m b) 0 d in
            let o : bit (mask_below (is_lacking b) 64) j ≡ 1 → ⊥ = eqb-false _ 1 (mask ∙ l) in
            let s : bit (bit_and (w / 2 ^ (2 ^ b)) (mask_below (is_lacking b) 64)) j ≡ 0
            = omega (arith, both, bit_lt (mask_below (is_lacking b) 64) j) in
            rw (l, s)

  module _ (high : 6 ≤ b) (bound : b < 16) where
    -- the word has the member
    pub far_none : bit k (b - 6) ≡ 1 → Shows b table k 0
    unfolding Shows
    far_none o m e =
        let z : bit m b ≡ 1 = sym (high_bit m b high) ∙ ap (λ (x : ℕ). bit x (b - 6)) e ∙ o in
        rw (bit_none (m % 64), z)

    abbrev far : ℕ
    far = 1 * 2 ^ (b - 6) % 2 ^ 64

    far_is : 2 ^ b ≡ 64 * far
    far_is = far_pow b high ∙ ap (λ (x : ℕ). 64 * x) (sym (one_shl 64 (b - 6) (omega arith)))

    module _ (t : bit k (b - 6) ≡ 1 → ⊥) where
      lacks : (m : ℕ) → m / 64 ≡ k → is_lacking b m ≡ true
      lacks m e =
          let z : bit m b ≡ bit k (b - 6) = sym (high_bit m b high) ∙ ap (λ (x : ℕ). bit x (b - 6)) e in
          eq-eqb (bit m b) 0 (omega (arith, bit_lt k (b - 6)))

      word : (m : ℕ) → m / 64 ≡ k → (m + 2 ^ b) / 64 ≡ k + far
      word m e = omega (arith, far_is)

      place : (m : ℕ) → (m + 2 ^ b) % 64 ≡ m % 64
      place m = omega (arith, far_is)

      pub far_shows : Shows b table k (get_or table (k + far) 0)
      unfolding Shows flagged
      far_shows m e = rw (lacks m e, word m e, place m)

      pub far_past : length table - k ≤ far → Shows b table k 0
      unfolding Shows
      far_past h m e = rw (bit_none (m % 64), lacks m e, flagged_past table (m + 2 ^ b) (omega (arith, word m e)))

-- ---- a pass upward over the words: those below k are done, and the others as they were
module _ (before : List ℕ) where
  abbrev pub Left : List ℕ → ℕ → Type 0
  Left after k = (m : ℕ) → k ≤ m / 64 → flagged after m ≡ flagged before m

  -- what is shown depends on the word and those further up alone
  shown_same : (after : List ℕ) (k : ℕ) → Left after k → (b m : ℕ) → k ≤ m / 64 → is_shown after m b ≡ is_shown before m b
  shown_same after k left b m h = rw (left (m + 2 ^ b) (omega arith))

  left_more : (after : List ℕ) (k w : ℕ) → Left after k → Left (set after k w) (k + 1)
  left_more after k w left m h = flagged_elsewhere after k w m (λ (e : m / 64 ≡ k). omega arith) ∙ left m (omega arith)

  -- ---- over the replica b
  module _ (b : ℕ) where
    abbrev pub Done : List ℕ → ℕ → Type 0
    Done after k = (m : ℕ) → m / 64 < k → flagged after m ≡ (flagged before m || is_shown before m b)

    module _ (after : List ℕ) (k : ℕ) (done : Done after k) (left : Left after k) where
      module _ (w : ℕ) (inside : k < length after) (shows : Shows b after k w) where
        pub one_done : Done (set after k (bit_or (get_or after k 0) w)) (k + 1)
        unfolding Shows
        one_done m h = go (ℕ_discrete (m / 64) k)
          where
            go : Dec (m / 64 ≡ k) → flagged (set after k (bit_or (get_or after k 0) w)) m ≡ (flagged before m || is_shown before m b)
            go (yes e) =
                flagged_union after k w m inside e
                ∙ rw (shows m e, left m (omega arith), shown_same after k left b m (omega arith))
            go (no d) = flagged_elsewhere after k _ m d ∙ done m (omega arith)

        pub one_left : Left (set after k (bit_or (get_or after k 0) w)) (k + 1)
        one_left = left_more after k (bit_or (get_or after k 0) w) left

      -- past the end there is nothing to flag
      pub all_done : length after ≡ length before → length after ≤ k → Spread b before after
      unfolding Spread
      all_done t h m = go (dec_lt (m / 64) k)
        where
          none : (x y : Bool) → x ≡ (x || (y && false))
          none true y = refl
          none false true = refl
          none false false = refl

          go : Dec (m / 64 < k) → flagged after m ≡ (flagged before m || is_shown before m b)
          go (yes l) = done m l
          go (no l) = left m (omega arith) ∙ rw (flagged_past before (m + 2 ^ b) (omega arith)) (none (flagged before m) (is_lacking b m))

  -- ---- the last pass
  module _ (n : ℕ) where
    abbrev pub Kept : List ℕ → ℕ → Type 0
    Kept after k = (m : ℕ) → m / 64 < k → flagged after m ≡ is_top n before m

    module _ (after : List ℕ) (k : ℕ) (done : Kept after k) (left : Left after k) where
      module _ (w : ℕ) (inside : k < length after) (tops : Tops n after k w) where
        pub one_kept : Kept (set after k w) (k + 1)
        unfolding Tops
        one_kept m h = go (ℕ_discrete (m / 64) k)
          where
            go : Dec (m / 64 ≡ k) → flagged (set after k w) m ≡ is_top n before m
            go (yes e) =
                let same : (b : ℕ) → b < n → is_shown after m b ≡ is_shown before m b = λ b l. shown_same after k left b m (omega arith) in
                flagged_here after k w m inside e ∙ tops m e
                ∙ rw (left m (omega arith), some_below_same (is_shown after m) (is_shown before m) n same)
            go (no d) = flagged_elsewhere after k w m d ∙ done m (omega arith)

        pub rest_left : Left (set after k w) (k + 1)
        rest_left = left_more after k w left

      pub all_kept : length after ≡ length before → length after ≤ k → Peeled n before after
      unfolding Peeled
      all_kept t h m = go (dec_lt (m / 64) k)
        where
          go : Dec (m / 64 < k) → flagged after m ≡ is_top n before m
          go (yes l) = done m l
          go (no l) = left m (omega arith) ∙ rw (flagged_past before m (omega arith))

-- ---- `tops`: the sets of the word k that are shown with a replica below b
module _ (table : List ℕ) (k : ℕ) where
  abbrev pub Seen : ℕ → ℕ → Type 0
  Seen b c = (m : ℕ) → m / 64 ≡ k → has_bit c (m % 64) ≡ some_below (is_shown table m) b

  pub seen_none : Seen 0 0
  unfolding some_below
  seen_none m e = rw (bit_none (m % 64))

  pub seen_more : (b c w : ℕ) → Seen b c → Shows b table k w → Seen (b + 1) (bit_or c w)
  unfolding some_below Shows
  seen_more b c w s h m e = has_or c w (m % 64) ∙ rw (h m e, s m e, add-one) (swapped (some_below (is_shown table m) b) (is_shown table m b))
    where
      swapped : (x y : Bool) → (x || y) ≡ (y || x)
      swapped true true = refl
      swapped true false = refl
      swapped false true = refl
      swapped false false = refl

  pub seen_all : (n b c : ℕ) → b ≤ n → n ≤ b → Seen b c → Tops n table k (bit_xor (get_or table k 0) (bit_and (get_or table k 0) c))
  unfolding Tops flagged
  seen_all n b c h g s m e =
      let q : b ≡ n = omega arith in
      has_except (get_or table k 0) c (m % 64) ∙ rw (s m e, q, e)

-- ---- the passes over the replicas below b
module _ (before : List ℕ) (n : ℕ) where
  abbrev pub Reached : ℕ → List ℕ → Type 0
  Reached b after = (m : ℕ) → m < 2 ^ n → flagged after m ≡ is_reached (flagged before) n b m

  pub reached_first : Reached 0 before
  reached_first m l = sym (reached_none (flagged before) n m l)

  pub reached_next : (b : ℕ) (table after : List ℕ) → b < n → Reached b table → Spread b table after → Reached (b + 1) after
  unfolding Spread
  reached_next b table after h r s m l = s m ∙ rw (r m l) (go (ℕ_discrete (bit m b) 0)) ∙ sym (reached_more (flagged before) n b m)
    where
      go : Dec (bit m b ≡ 0)
          → (is_reached (flagged before) n b m || is_shown table m b)
          ≡ (is_reached (flagged before) n b m || (is_lacking b m && is_reached (flagged before) n b (m + 2 ^ b)))
      go (yes z) = rw (r (m + 2 ^ b) (more_lt m b z n h l))
      go (no z) = rw (ne_eqb (bit m b) 0 z)

  pub reached_last : (b : ℕ) (after : List ℕ) → b ≤ n → n ≤ b → Reached b after → Flags n (is_within (flagged before) n) after
  unfolding Flags
  reached_last b after h g r m l =
      let e : b ≡ n = omega arith in
      r m l ∙ ap (λ (x : ℕ). is_reached (flagged before) n x m) e ∙ reached_all (flagged before) n m l

  -- ---- and the last
  pub maximal_left : (table after : List ℕ) → Flags n (is_within (flagged before) n) table → Peeled n table after
      → Flags n (is_maximal (flagged before) n) after
  unfolding Peeled Flags
  maximal_left table after c p m l = p m ∙ top_is (flagged before) n table c m l
