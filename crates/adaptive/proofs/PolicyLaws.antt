-- What the floor and the choice are, and the rows that a choice stands for. Assumes nothing.
use Rattle.std.specs.Prelude.{◌≡◌, refl, ◌↔◌, ◌⊎◌, Bool, true, false, not, cond, ◌&&◌, List, [], leb, eqb, Float, length, drop, get_or}
use Rattle.std.proofs.Common.{sym, ◌∙◌, true≢false, mul_comm, suc-mul, mul-le-mul_right, length-drop, length-take-le, get_or-take, get_or-drop, leb-true, le-leb, ne_eqb}
use Rattle.std.proofs.Math.Path.{ap}
use Rattle.std.proofs.Math.Logic.{inl, inr, ⊎_elim}
use Rattle.std.proofs.Math.Bool.{and-eq-true_iff}
use Rattle.std.specs.Prelude.{Option, None, Some}
use Prim.Native.Nat.{ℕ, suc, ◌+◌, ◌-◌, ◌*◌, ◌/◌, ◌%◌, ◌≤◌, ◌<◌, min, max}
use Rattle.std.proofs.Math.Nat.{mul-pos, le_of_mul-le-mul_right, sub-eq-zero_of_le}
use Rattle.std.proofs.Math.Decide.{dec_lt, dec_le, ℕ_discrete}
use native.Mathlib.Omega.{arith}
use Rattle.std.proofs.lemmas.Bool.{eqb-false, not-true}
use Rattle.std.proofs.lemmas.Option.{none-some, same_Some}
use Rattle.lists.specs.AllLaws.{all_means}
use Rattle.bitmap.specs.Mask.{count}
use Rattle.rows.specs.Row.{row_in, rows_in, spelled}
use Rattle.rows.proofs.TableLaws.{rows_length, rows_at, spelled_rows, spelled_length}
use Rattle.refusals.specs.Limits.{is_row}
use Rattle.refusals.specs.LimitLaws.{AreRows, rows_small}
use Rattle.refusals.specs.Outcome.{Outcome, refused, accepted}
use Rattle.refusals.specs.OutcomeLaws.{accepted_means}
use Rattle.refusals.specs.OutcomeLaws as Outcomes
use Rattle.adaptive.specs.Floor.{floor_of, floor_refusal, min_shards_of}
use Rattle.steps.specs.Steps.{step_shards, step_quorum}
use Rattle.steps.proofs.StepLaws.{shares_whole, shares_positive}
use Rattle.adaptive.specs.Policy.{has_count, rows_for, policy_refusal, best_shards, choice_of, policy_of, rows_of, Holds}
use Rattle.adaptive.proofs.RefusalLaws.{floor_sound, PolicySound, policy_sound}

-- ---- the floor

-- of data shards that are a multiple of the majority, and so many replicas alive
module _ (f d majority alive : ℕ) (filled : 0 < d) (multiple : d % majority ≡ 0) where
  whole : majority * (d / majority) ≡ d
  whole = shares_whole d majority multiple

  part_filled : 0 < d / majority
  part_filled = shares_positive d majority filled multiple

  -- the replicas that the floor makes up for
  abbrev lacking : ℕ
  lacking = majority + f + 1 - alive

  pub floor_within : floor_of f d majority alive ≤ d
  unfolding floor_of
  floor_within = omega arith

  -- with more than majority + f alive there is none
  pub floor_none : (floor_of f d majority alive ≡ 0) ↔ (majority + f < alive)
  unfolding floor_of
  floor_none = (λ e. many (dec_lt (majority + f) alive) e, λ h. let z : lacking ≡ 0 = sub-eq-zero_of_le (omega arith) in rw z (omega arith))
    where
      many : Dec (majority + f < alive) → min (lacking * (d / majority)) d ≡ 0 → majority + f < alive
      many (yes h) e = h
      many (no h) e = let p : 0 < lacking * (d / majority) = mul-pos (omega arith) part_filled in absurd (omega arith)

  -- step i has as many shards exactly if it waits for no more replicas than are alive, or is the last
  pub floor_step : (i : ℕ) → i < majority
      → (floor_of f d majority alive ≤ step_shards d majority i) ↔ ((step_quorum majority f i ≤ alive) ⊎ (suc i ≡ majority))
  unfolding floor_of
  floor_step i l = (forth (dec_le (lacking * (d / majority)) d), back)
    where
      forth : Dec (lacking * (d / majority) ≤ d) → min (lacking * (d / majority)) d ≤ (i + 1) * (d / majority)
          → (step_quorum majority f i ≤ alive) ⊎ (suc i ≡ majority)
      forth (yes h) e =
          let p : lacking * (d / majority) ≤ (i + 1) * (d / majority) = omega arith in
          let q : lacking ≤ i + 1 = le_of_mul-le-mul_right p part_filled in
          inl (omega arith)
      forth (no h) e =
          let p : majority * (d / majority) ≤ (i + 1) * (d / majority) = omega (arith, whole) in
          let q : majority ≤ i + 1 = le_of_mul-le-mul_right p part_filled in
          inr (omega arith)

      back : (step_quorum majority f i ≤ alive) ⊎ (suc i ≡ majority) → min (lacking * (d / majority)) d ≤ (i + 1) * (d / majority)
      back (inl h) = let p : lacking * (d / majority) ≤ (i + 1) * (d / majority) = mul-le-mul_right (d / majority) (omega arith) in omega arith
      back (inr h) = let p : majority * (d / majority) ≤ (i + 1) * (d / majority) = mul-le-mul_right (d / majority) (omega arith) in omega (arith, whole)

-- ---- `min_shards_per_replica`
module _ (n f d majority alive : ℕ) where
  -- the answer is k exactly if nothing refuses and k is the floor
  pub floor_answer : (k : ℕ) → (min_shards_of n f d majority alive ≡ accepted k) ↔ ((floor_refusal n f d majority alive ≡ 0) × (floor_of f d majority (count alive) ≡ k))
  unfolding min_shards_of
  floor_answer k = accepted_means (floor_refusal n f d majority alive) (floor_of f d majority (count alive)) k

  -- it is at most d; it is 0 exactly if more than majority + f are alive; and step i has as many shards exactly if it waits for no more replicas
  -- than are alive, or is the last
  pub record IsFloor (k : ℕ) : Type 0 where
    pub within : k ≤ d
    pub nothing : (k ≡ 0) ↔ (majority + f < count alive)
    pub each_step : (i : ℕ) → i < majority → (k ≤ step_shards d majority i) ↔ ((step_quorum majority f i ≤ count alive) ⊎ (suc i ≡ majority))

  pub floor_means : floor_refusal n f d majority alive ≡ 0 → IsFloor (floor_of f d majority (count alive))
  floor_means e =
      let s = (floor_sound n f d majority alive).0 e in
      record {
        within = floor_within f d majority (count alive) s.shards.0 s.multiple;
        nothing = floor_none f d majority (count alive) s.shards.0 s.multiple;
        each_step = floor_step f d majority (count alive) s.shards.0 s.multiple;
      }

-- ---- the choice

-- which counts a table of so many rows has
count_there : (d majority len c : ℕ) → (has_count d majority len c ≡ true) ↔ ((len ≡ 0 → ⊥) × (d / majority ≤ c) × (c ≤ d))
count_there d majority len c = (
  λ e.
      let p = (and-eq-true_iff (not (eqb len 0)) (leb (d / majority) c && leb c d)).0 e in
      let q = (and-eq-true_iff (leb (d / majority) c) (leb c d)).0 p.1 in
      (eqb-false len 0 (not-true (eqb len 0) p.0), leb-true (d / majority) c q.0, leb-true c d q.1),
  λ h. rw (ne_eqb len 0 h.0, le-leb (d / majority) c h.1, le-leb c d h.2),
)

count_lacking : (d majority len c : ℕ) → (has_count d majority len c ≡ false) ↔ ((len ≡ 0) ⊎ ((c < d / majority) ⊎ (d < c)))
count_lacking d majority len c = (λ e. found (ℕ_discrete len 0) (dec_lt c (d / majority)) (dec_lt d c) e, back)
  where
    found : Dec (len ≡ 0) → Dec (c < d / majority) → Dec (d < c) → has_count d majority len c ≡ false → (len ≡ 0) ⊎ ((c < d / majority) ⊎ (d < c))
    found (yes z) a b e = inl z
    found (no z) (yes a) b e = inr (inl a)
    found (no z) (no a) (yes b) e = inr (inr b)
    found (no z) (no a) (no b) e = absurd (true≢false (sym ((count_there d majority len c).1 (z, omega arith, omega arith)) ∙ e))

    back : (len ≡ 0) ⊎ ((c < d / majority) ⊎ (d < c)) → has_count d majority len c ≡ false
    back h = go (has_count d majority len c) (count_there d majority len c).0
      where
        go : (t : Bool) → (t ≡ true → (len ≡ 0 → ⊥) × (d / majority ≤ c) × (c ≤ d)) → t ≡ false
        go true k = let r = k refl in absurd (⊎_elim r.0 (⊎_elim (λ a. omega arith) (λ b. omega arith)) h)
        go false k = refl

-- the rows of a count end within the table
pub rows_inside : (n d majority c len : ℕ) → d / majority ≤ c → c ≤ d → len ≡ n * suc (d - d / majority) → (c - d / majority) * n + n ≤ len
rows_inside n d majority c len a b e =
    let m : suc (c - d / majority) * n ≤ suc (d - d / majority) * n = mul-le-mul_right n (omega arith) in
    omega (arith, m, suc-mul (c - d / majority) n, mul_comm n (suc (d - d / majority)))

-- a choice that is made where a test holds
module _ (t : Bool) (o : Option ℕ) where
  made : (c : ℕ) → (cond t o None ≡ Some c) ↔ ((t ≡ true) × (o ≡ Some c))
  made c = go t
    where
      go : (t : Bool) → (cond t o None ≡ Some c) ↔ ((t ≡ true) × (o ≡ Some c))
      go true = (λ e. (refl, e), λ h. h.1)
      go false = (λ e. absurd (none-some c e), λ h. absurd (true≢false (sym h.0)))

  unmade : (cond t o None ≡ None) ↔ ((t ≡ false) ⊎ (o ≡ None))
  unmade = go t
    where
      go : (t : Bool) → (cond t o None ≡ None) ↔ ((t ≡ false) ⊎ (o ≡ None))
      go true = (λ e. inr e, λ h. else_made h)
        where
          else_made : (true ≡ false) ⊎ (o ≡ None) → o ≡ None
          else_made (inl e) = absurd (true≢false e)
          else_made (inr e) = e
      go false = (λ e. inl refl, λ h. refl)

-- ---- `pick_assignment_policy` and `pick_assignment_policy_rows`
module _ (n f own d w majority size : ℕ) (inflight : List ℕ) (models : List Float) (alive : ℕ) (initial table : List ℕ)
    (adaptive balanced : Bool) where
  -- the number that refuses, or 0
  abbrev number : ℕ
  number = policy_refusal n f own d w majority size inflight models alive initial table

  -- the larger of choice and floor
  abbrev larger : ℕ
  larger = max (best_shards n f own d majority size inflight models initial adaptive) (floor_of f d majority (count alive))

  abbrev policy : Outcome (Option ℕ)
  policy = policy_of n f own d w majority size inflight models alive initial table adaptive balanced

  -- c is chosen: nothing refuses, the input is balanced, and c is the larger of choice and floor and one of the table's counts
  pub record Chosen (c : ℕ) : Type 0 where
    pub unrefused : number ≡ 0
    pub is_balanced : balanced ≡ true
    pub is_larger : larger ≡ c
    pub filled : length table ≡ 0 → ⊥
    pub least : d / majority ≤ c
    pub most : c ≤ d

  pub choice_means : (c : ℕ) → (policy ≡ accepted (Some c)) ↔ Chosen c
  unfolding policy_of
  choice_means c =
      let has = has_count d majority (length table) larger in
      let a = accepted_means number (cond balanced (cond has (Some larger) None) None) (Some c) in
      let b = made balanced (cond has (Some larger) None) c in
      let k = made has (Some larger) c in (
        λ e.
            let p = a.0 e in
            let q = b.0 p.1 in
            let r = k.0 q.1 in
            let s = same_Some larger c r.1 in
            let t = (count_there d majority (length table) larger).0 r.0 in
            record { unrefused = p.0; is_balanced = q.0; is_larger = s; filled = t.0; least = omega (arith, t.1); most = omega (arith, t.2) },
        λ h.
            a.1 (
              h.unrefused,
              b.1 (
                h.is_balanced,
                k.1 (
                  (count_there d majority (length table) larger).1 (h.filled, omega (arith, h.least, h.is_larger), omega (arith, h.most, h.is_larger)),
                  ap Some h.is_larger,
                ),
              ),
            ),
      )

  -- it is the initial layout exactly if nothing refuses, and the input is unbalanced, or the table is empty, or it lacks the larger of choice and floor
  pub initial_means : (policy ≡ accepted None) ↔ ((number ≡ 0) × ((balanced ≡ false) ⊎ ((length table ≡ 0) ⊎ ((larger < d / majority) ⊎ (d < larger)))))
  unfolding policy_of
  initial_means =
      let has = has_count d majority (length table) larger in
      let a = accepted_means number (cond balanced (cond has (Some larger) None) None) None in
      let b = unmade balanced (cond has (Some larger) None) in
      let k = unmade has (Some larger) in
      let l = count_lacking d majority (length table) larger in (
        λ e. ((a.0 e).0, ⊎_elim (λ u. inl u) (λ u. inr (⊎_elim (λ v. l.0 v) (λ v. absurd (none-some larger (sym v))) (k.0 u))) (b.0 (a.0 e).1)),
        λ h. a.1 (h.0, b.1 (⊎_elim (λ u. inl u) (λ u. inr (k.1 (inl (l.1 u)))) h.1)),
      )

  -- and refused with k exactly if k refuses
  pub refused_means : (k : ℕ) → (policy ≡ refused k) ↔ ((number ≡ k) × (k ≡ 0 → ⊥))
  unfolding policy_of
  refused_means k = Outcomes.refused_means number (cond balanced (choice_of d majority (length table) larger) None) k

  -- a chosen count is at least the floor
  pub choice_floor : (c : ℕ) → policy ≡ accepted (Some c) → floor_of f d majority (count alive) ≤ c
  choice_floor c e = omega (arith, ((choice_means c).0 e).is_larger)

  -- ---- the rows, as the contract of `pick_assignment_policy_rows` has them
  abbrev rows : List ℕ
  rows = rows_of n d majority policy (rows_in initial) (rows_in table)

  pub record RowsAre : Type 0 where
    pub on_refusal : (k : ℕ) → policy ≡ refused k → rows ≡ []
    pub on_initial : policy ≡ accepted None → rows ≡ rows_in initial
    pub on_count : (c : ℕ) → policy ≡ accepted (Some c)
        → (length rows ≡ n)
        × ((s : ℕ) → s < n → (((c - d / majority) * n + s) * 4 + 4 ≤ length table) × (get_or rows s 0 ≡ row_in table ((c - d / majority) * n + s)))

  -- the table has the rows of a count that is chosen
  module _ (c : ℕ) (e : policy ≡ accepted (Some c)) where
    pub count_held : Holds n d majority (accepted (Some c)) (length initial) (length table)
    count_held =
        let h = (choice_means c).0 e in
        let s = (policy_sound n f own d w majority size inflight models alive initial table).0 h.unrefused in
        (s.population.1, omega (arith, s.shards), s.enough.0, h.least, h.most, ⊎_elim (λ z. absurd (h.filled z)) (λ q. q) s.balanced_rows)

    whole_rows : length table ≡ length (rows_in table) * 4
    whole_rows = let h = count_held.5 in h ∙ ap (λ (k : ℕ). k * 4) (sym (rows_length table (n * suc (d - d / majority)) h))

    rows_end : (c - d / majority) * n + n ≤ length (rows_in table)
    rows_end = let h = count_held in rows_inside n d majority c (length (rows_in table)) h.3 h.4 (rows_length table (n * suc (d - d / majority)) h.5)

    part_length : length (rows_for n d majority c (rows_in table)) ≡ n
    part_length = length-take-le n (drop ((c - d / majority) * n) (rows_in table)) (omega (arith, rows_end, length-drop ((c - d / majority) * n) (rows_in table)))

    part_at : (s : ℕ) → s < n → get_or (rows_for n d majority c (rows_in table)) s 0 ≡ get_or (rows_in table) ((c - d / majority) * n + s) 0
    part_at s l = get_or-take n (drop ((c - d / majority) * n) (rows_in table)) s 0 l ∙ get_or-drop ((c - d / majority) * n) (rows_in table) s 0

  rows_by : (o : Outcome (Option ℕ)) → policy ≡ o → rows ≡ rows_of n d majority o (rows_in initial) (rows_in table)
  rows_by o e = ap (λ (x : Outcome (Option ℕ)). rows_of n d majority x (rows_in initial) (rows_in table)) e

  -- no row of a refused input; the initial layout; or the n rows of the count, which stand in the table from its row (c - d / majority) * n on
  pub rows_are : RowsAre
  rows_are = record {
    on_refusal = λ k e. rows_by (refused k) e;
    on_initial = λ e. rows_by (accepted None) e;
    on_count = λ c e.
        let q = rows_by (accepted (Some c)) e in
        rw q (part_length c e, λ s l. (omega (arith, rows_end c e, whole_rows c e), part_at c e s l ∙ rows_at table ((c - d / majority) * n + s)));
  }

  -- of an unrefused input they are n rows of shards below w
  pub rows_fit : number ≡ 0 → AreRows n w rows
  rows_fit z = go policy refl
    where
      s : PolicySound n f own d w majority size inflight models alive initial table
      s = (policy_sound n f own d w majority size inflight models alive initial table).0 z

      go : (o : Outcome (Option ℕ)) → policy ≡ o → AreRows n w (rows_of n d majority o (rows_in initial) (rows_in table))
      go (refused k) e = absurd (((refused_means k).0 e).1 (sym ((refused_means k).0 e).0 ∙ z))
      go (accepted None) e = (rows_length initial n s.initial_rows, (all_means (is_row w) 0 (rows_in initial)).1 s.each_initial)
      go (accepted (Some c)) e = (
        part_length c e,
        (all_means (is_row w) 0 (rows_for n d majority c (rows_in table))).1 (λ k l.
            let m : k < n = omega (arith, part_length c e) in
            ap (is_row w) (part_at c e k m) ∙ s.each_balanced ((c - d / majority) * n + k) (omega (arith, rows_end c e))),
      )

  -- and the words that are handed out are a table of just these rows
  pub words_fit : number ≡ 0 → (rows_in (spelled rows) ≡ rows) × (length (spelled rows) ≡ n * 4)
  words_fit z =
      let s = (policy_sound n f own d w majority size inflight models alive initial table).0 z in
      let r = rows_fit z in
      (spelled_rows rows (rows_small n w rows r s.shards.2), spelled_length rows ∙ ap (λ (k : ℕ). k * 4) r.0)

  -- they are empty exactly if the choice is a refusal
  pub rows_empty : (rows ≡ []) ↔ (policy ≡ refused number)
  rows_empty = (λ e. go e (ℕ_discrete number 0), λ e. rows_are.on_refusal number e)
    where
      go : rows ≡ [] → Dec (number ≡ 0) → policy ≡ refused number
      go e (yes z) =
          let s = (policy_sound n f own d w majority size inflight models alive initial table).0 z in
          let l : length rows ≡ 0 = ap length e in
          absurd (omega (arith, (rows_fit z).0, l, s.population))
      go e (no z) = (refused_means number).1 (refl, z)
