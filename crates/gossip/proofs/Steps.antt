-- How the parts of the walk compute what is defined. The premises of each law are the fields of a need's record. Assumes nothing.
use mathlib.Core.Path.{◌≡◌, sym, ap, ◌∙◌}
use mathlib.Core.Logic.{inl}
use mathlib.Core.Bool.{Bool, true, false, not}
use mathlib.Core.List.{List, [], ◌∷◌, foldl, foldl-append}
use Prim.Native.Nat.{ℕ, ◌+◌, ◌-◌, ◌*◌, ◌%◌, ◌^◌, ◌≤◌, ◌<◌}
use native.Mathlib.Omega.{arith}
use lib.Bits.{bit_or}
use lib.Dec.{leb, eqb}
use lib.ListN.{length, set, replicate}
use Rattle.lists.proofs.BelowLoops.{taken_below, taken_none, taken_yes, taken_no, taken_still}
use Rattle.bitmap.specs.Mask.{with_bit, count}
use Rattle.rows.specs.Row.{row_in, rows_in, spelled, with_row}
use Rattle.rows.proofs.WordLaws.{Words}
use Rattle.rows.proofs.TableLaws.{rows_at, rows_with, rows_none, rows_spelled}
use Rattle.refusals.specs.Outcome.{accepted}
use Rattle.gossip.specs.Gossip.{Walked, fresh, met, visit, ring, round, turns, walk, gossip_refusal, gossip_of, exclusions_left}
use Rattle.gossip.proofs.RefusalLaws.{gossip_sound}
use Rattle.gossip.proofs.TurnLaws.{source_last, source_own}
use Rattle.gossip.proofs.WalkLaws.{visit_passed}

-- ---- `meet`: a is what is then available, k its count
module _ (d row : ℕ) (w : Walked) (p a k : ℕ) (e : a ≡ bit_or w.available row) (q : k ≡ count a) where
  pub adds_nothing : (b : Bool) → b ≡ eqb a w.available → b ≡ true → record { asked = w.asked; available = a; exclusions = w.exclusions; over = leb d k } ≡ met d row w p
  unfolding met
  adds_nothing b g t = let z : eqb (bit_or w.available row) w.available ≡ true = sym (g ∙ ap (λ (x : ℕ). eqb x w.available) e) ∙ t in rw (q, e, z)

  -- l is the table, and now what it then is
  pub adds : (b : Bool) → b ≡ eqb a w.available → b ≡ false → (l now : List ℕ) → rows_in l ≡ w.exclusions → p * 4 + 4 ≤ length l → w.available < 2 ^ 256
      → now ≡ with_row l p w.available → (m : ℕ) → m ≡ with_bit w.asked p → record { asked = m; available = a; exclusions = rows_in now; over = leb d k } ≡ met d row w p
  unfolding met
  adds b g t l now x room small put m h =
      let z : eqb (bit_or w.available row) w.available ≡ false = sym (g ∙ ap (λ (x : ℕ). eqb x w.available) e) ∙ t in
      let y : rows_in now ≡ set w.exclusions p w.available = ap rows_in put ∙ rows_with l p w.available room small ∙ ap (λ (r : List ℕ). set r p w.available) x in
      rw (h, q, e, z, y)

-- ---- `walk_ring`

-- w is how far it has come before the place j of the ring
module _ (n own source d : ℕ) (row : ℕ → ℕ) (alive : ℕ) (start : Walked) where
  abbrev step : Walked → ℕ → Walked
  step = visit d row alive

  abbrev other : ℕ → Bool
  other p = not (eqb p source)

  abbrev place : ℕ → ℕ
  place j = (own + 1 + j) % n

  abbrev pub ring_to : ℕ → Walked
  ring_to j = taken_below step start other place j

  pub ring_starts : start ≡ ring_to 0
  ring_starts = taken_none step start other place

  module _ (j : ℕ) (w : Walked) (e : w ≡ ring_to j) where
    -- b is whether the peer at the place is another one than the source
    module _ (b : Bool) (q : b ≡ other (place j)) where
      pub ring_source : b ≡ false → w ≡ ring_to (j + 1)
      ring_source h = e ∙ sym (taken_no step start other place j (sym q ∙ h))

      pub ring_other : (v : Walked) → b ≡ true → v ≡ visit d row alive w (place j) → v ≡ ring_to (j + 1)
      ring_other v h x = x ∙ ap (λ (y : Walked). step y (place j)) e ∙ sym (taken_yes step start other place j (sym q ∙ h))

    -- what is over stays as it is
    pub ring_over : j < n - 1 → w.over ≡ true → w ≡ foldl (visit d row alive) start (round n own source)
    unfolding round ring
    ring_over h o =
        e ∙ sym (taken_still step start other place j (n - 1) (omega arith) (λ p. visit_passed d row alive (ring_to j) p (inl (ap (λ (x : Walked). x.over) (sym e) ∙ o))))

    pub ring_done : n - 1 ≤ j → j ≤ n - 1 → w ≡ foldl (visit d row alive) start (round n own source)
    unfolding round ring
    ring_done g h = let q : j ≡ n - 1 = omega arith in e ∙ ap ring_to q

-- ---- `walk`: w is how far it has come once round
module _ (n own source d : ℕ) (row : ℕ → ℕ) (alive : ℕ) (start w : Walked) (e : w ≡ foldl (visit d row alive) start (round n own source)) where
  pub ends_round : source ≡ own → w ≡ foldl (visit d row alive) start (turns n own source)
  ends_round h = rw (source_own n own source h) e

  pub ends_source : (v : Walked) → (source ≡ own → ⊥) → v ≡ visit d row alive w source → v ≡ foldl (visit d row alive) start (turns n own source)
  ends_source v h q =
      rw (source_last n own source h, foldl-append (visit d row alive) start (round n own source) (source ∷ [])) (q ∙ ap (λ (x : Walked). visit d row alive x source) e)

-- ---- `gossip_targets_excl`: the table is filled with 0, and then walked
module _ (n own source d w available : ℕ) (table : List ℕ) (alive : ℕ) (exclusions : List ℕ)
    (no : gossip_refusal n own source d w available table alive (length exclusions) ≡ 0)
    (zeros : List ℕ) (f : zeros ≡ replicate (length exclusions) 0)
    (end : Walked) (q : end ≡ foldl (visit d (row_in table) alive) (fresh available (rows_in zeros)) (turns n own source)) where
  walks : end ≡ walk n own source d available (rows_in table) alive
  unfolding walk
  walks =
      let s = (gossip_sound n own source d w available table alive (length exclusions)).0 no in
      let r : rows_in zeros ≡ replicate n 0 = ap rows_in (f ∙ ap (λ (k : ℕ). replicate k 0) s.each_exclusion) ∙ rows_none n in
      q ∙ ap (λ (l : List ℕ). foldl (visit d (row_in table) alive) (fresh available l) (turns n own source)) r
      ∙ (λ i. foldl (visit d (λ p. sym (rows_at table p) i) alive) (fresh available (replicate n 0)) (turns n own source))

  pub asks : accepted end.asked ≡ gossip_of n own source d w available table alive (length exclusions)
  unfolding gossip_of
  asks = rw no (ap (λ (x : Walked). accepted x.asked) walks)

  -- l is the table as the walk leaves it
  pub excludes : (l : List ℕ) → rows_in l ≡ end.exclusions → Words l → length l ≡ n * 4 → l ≡ exclusions_left n own source d w available table alive exclusions
  unfolding exclusions_left
  excludes l x words k = rw no (sym (rows_spelled l n words k) ∙ ap spelled (x ∙ ap (λ (v : Walked). v.exclusions) walks))
