-- What the walk means: who is asked, what each is to leave out, and what is available at the end. Assumes nothing.
use Rattle.std.specs.Prelude.{◌≡◌, ◌↔◌, true, false, length, get_or, replicate}
use Rattle.std.proofs.Math.Path.{refl, ap, subst}
use Rattle.std.proofs.Common.{sym, ◌∙◌, ⊎_elim, arith, pow_pos, pow_mono}
use mathlib.Core.List.Memᴰ
use mathlib.Core.List.{List, [], ◌∷◌, ◌++◌, foldl-append, append-nil}
use Prim.Native.Nat.{ℕ, zero, suc, ◌^◌, ◌<◌}
use Rattle.std.proofs.Math.Nat.{lt_of_lt_of_le}
use Rattle.std.proofs.Math.Decide.{dec_lt, ℕ_discrete}
use Rattle.std.proofs.Math.ListN.{length-replicate, get_or-eq_default}
use Rattle.std.proofs.lemmas.List.{get_or-replicate}
use borrow.Author.Tests.{eqb-true, eqb-false, eq-eqb}
use Rattle.lists.specs.All.{Distinct}
use Rattle.lists.specs.ListedLaws.{Split, split, distinct_before, distinct_after}
use Rattle.bitmap.specs.Mask.{bit, has_bit, count, nth_row}
use Rattle.bitmap.specs.MaskLaws.{bit_none, Beyond}
use Rattle.rows.specs.Row.{rows_in, spelled}
use Rattle.rows.specs.Row as Table
use Rattle.rows.proofs.TableLaws.{rows_at, row_below, spelled_row}
use Rattle.refusals.specs.Outcome.{accepted}
use Rattle.refusals.specs.OutcomeLaws.{accepted_means}
use Rattle.gossip.specs.Gossip.{Walked, fresh, visit, turns, walk, gossip_refusal, gossip_of, exclusions_left}
use Rattle.gossip.proofs.RefusalLaws.{gossip_sound}
use Rattle.gossip.proofs.TurnLaws.{Peer, turns_means, turns_distinct}
use Rattle.gossip.proofs.UnionLaws.{UnionOf, LiveIn, union_same, union_unique, union_none}
use Rattle.gossip.proofs.WalkLaws.{after, Reached, reaches, all_met, goes, AskedIn, after_asked, after_length, Kept, after_others, Asks, own_asked, own_exclusion, own_none, after_narrow}

module _ (n own source d available : ℕ) (rows : List ℕ) (alive : ℕ) (o : own < n) (s : source < n) where
  abbrev end : Walked
  end = walk n own source d available rows alive

  -- what p is to leave out
  abbrev exclusion : ℕ → ℕ
  exclusion p = get_or end.exclusions p 0

  -- ---- before and after p's turn

  abbrev start : Walked
  start = fresh available (replicate n 0)

  -- the walk when those before have had their turn
  abbrev up_to : List ℕ → Walked
  up_to before = after d (nth_row rows) alive start before

  unset : (p : ℕ) → get_or start.exclusions p 0 ≡ 0
  unset p = go (dec_lt p n)
    where
      go : Dec (p < n) → get_or start.exclusions p 0 ≡ 0
      go (yes l) = get_or-replicate n p 0 0 l
      go (no l) = get_or-eq_default start.exclusions 0 (omega (arith, length-replicate {A = ℕ} n 0))

  record AtTurn (before : List ℕ) (p : ℕ) : Type 0 where
    unasked : bit (up_to before).asked p ≡ 0
    zero : get_or (up_to before).exclusions p 0 ≡ 0
    inside : p < length (up_to before).exclusions
    kept : Kept d (nth_row rows) alive p (visit d (nth_row rows) alive (up_to before) p) end

  at_turn : (before later : List ℕ) (p : ℕ) → turns n own source ≡ before ++ p ∷ later → AtTurn before p
  unfolding walk
  at_turn before later p e =
      let f = visit d (nth_row rows) alive in
      let t = subst Distinct e (turns_distinct n own o source s) in
      let b = after_others d (nth_row rows) alive p start before (distinct_before before p later t) in
      let l = (turns_means n own o source s p).0 (rw e (Memᴰ.append_right before (Memᴰ.head refl))) in
      record {
        unasked = b.0 ∙ bit_none p;
        zero = b.1 ∙ unset p;
        inside = omega (arith, after_length d (nth_row rows) alive start before, length-replicate {A = ℕ} n 0, l.0);
        kept = rw (e, foldl-append f start before (p ∷ later)) (after_others d (nth_row rows) alive p (f (up_to before) p) later (distinct_after before p later t));
      }

  -- a peer has a turn, and who is no peer has none
  at_peer : (p : ℕ) → Peer n own p → Split (turns n own source) p
  at_peer p h = split p (turns n own source) ((turns_means n own o source s p).1 h)

  no_peer : (p : ℕ) → (Peer n own p → ⊥) → (bit end.asked p ≡ 0) × (exclusion p ≡ 0)
  unfolding walk
  no_peer p h =
      let k = after_others d (nth_row rows) alive p start (turns n own source) (λ m. h ((turns_means n own o source s p).0 m)) in
      (k.0 ∙ bit_none p, k.1 ∙ unset p)

  peer_decided : (p : ℕ) → Dec (Peer n own p)
  peer_decided p = go (dec_lt p n) (ℕ_discrete p own)
    where
      go : Dec (p < n) → Dec (p ≡ own) → Dec (Peer n own p)
      go (yes l) (yes e) = no (λ h. h.1 e)
      go (yes l) (no e) = yes (l, e)
      go (no l) e = no (λ h. l h.0)

  module _ (before later : List ℕ) (p : ℕ) (e : turns n own source ≡ before ++ p ∷ later) where
    asks : (has_bit end.asked p ≡ true) ↔ Asks d (nth_row rows) alive (up_to before) p
    asks =
        let t = at_turn before later p e in
        let a = own_asked d (nth_row rows) alive (up_to before) p t.unasked in (
          λ h. a.0 (sym t.kept.0 ∙ eqb-true (bit end.asked p) 1 h),
          λ h. eq-eqb (bit end.asked p) 1 (t.kept.0 ∙ a.1 h),
        )

    excluded : has_bit end.asked p ≡ true → exclusion p ≡ (up_to before).available
    excluded h =
        let t = at_turn before later p e in
        t.kept.1 ∙ own_exclusion d (nth_row rows) alive (up_to before) p t.inside (asks.0 h)

    -- ---- those asked, of a peer p and those whose turn is before it

    -- what p is to leave out, if it is asked, is what was available before it: the union of what one had and the rows of the live peers before it
    pub exclusion_means : has_bit end.asked p ≡ true → UnionOf available (nth_row rows) (LiveIn alive before) (exclusion p)
    exclusion_means h = rw (excluded h) (all_met d (nth_row rows) alive start before (asks.0 h).0)

    -- with m available before it, p is asked exactly if it is alive, has a shard that is not in m, and is the first live peer or m has fewer than d shards
    pub asked_exactly : (m : ℕ) → UnionOf available (nth_row rows) (LiveIn alive before) m
        → (has_bit end.asked p ≡ true) ↔ ((has_bit alive p ≡ true) × Beyond m (nth_row rows p) × ((q : ℕ) → LiveIn alive before q → count m < d))
    asked_exactly m u =
        let g = goes d (nth_row rows) alive start before m refl u in
        let same : ((up_to before).over ≡ false → m ≡ (up_to before).available) = λ z. union_unique (nth_row rows) available (LiveIn alive before) m (up_to before).available u (all_met d (nth_row rows) alive start before z) in (
          λ h. let a = asks.0 h in (a.1, rw (same a.0) a.2, g.0 a.0),
          λ h. let z = g.1 h.2 in asks.1 (z, h.0, rw (same z) at h.1),
        )

  -- ---- those asked

  pub record Asked (p : ℕ) : Type 0 where
    pub peer : Peer n own p
    pub live : has_bit alive p ≡ true
    pub adds : Beyond (exclusion p) (nth_row rows p)

  -- who is asked is a live peer, and has a shard that it is not to leave out
  pub asked_means : (p : ℕ) → has_bit end.asked p ≡ true → Asked p
  asked_means p h = go (peer_decided p)
    where
      go : Dec (Peer n own p) → Asked p
      go (yes t) =
          let b = at_peer p t in
          let a = (asks b.before b.after p b.parts).0 h in
          record { peer = t; live = a.1; adds = rw (excluded b.before b.after p b.parts h) a.2 }
      go (no t) = absurd (omega (arith, (no_peer p t).0, eqb-true (bit end.asked p) 1 h))

  -- the exclusion of one not asked is 0
  pub unasked_none : (p : ℕ) → has_bit end.asked p ≡ false → exclusion p ≡ 0
  unasked_none p h = go (peer_decided p)
    where
      go : Dec (Peer n own p) → exclusion p ≡ 0
      go (yes t) =
          let b = at_peer p t in
          let a = at_turn b.before b.after p b.parts in
          a.kept.1 ∙ own_none d (nth_row rows) alive (up_to b.before) p (λ k. eqb-false (bit end.asked p) 1 h (a.kept.0 ∙ k)) ∙ a.zero
      go (no t) = (no_peer p t).1

  -- ---- what is available at the end

  -- it is the union of what one had and the rows of the live peers whose turn came; and everybody's turn came, or the last one's was a live peer's with which
  -- d shards were available
  pub walk_reaches : Reached d (nth_row rows) alive available (turns n own source) end.available
  unfolding walk
  walk_reaches = reaches d (nth_row rows) alive start (turns n own source) refl

  -- if everybody's turn came it is the union of what one had and the rows of all live peers
  pub walk_whole : (r : Reached d (nth_row rows) alive available (turns n own source) end.available) → r.rest ≡ []
      → UnionOf available (nth_row rows) (λ p. Peer n own p × (has_bit alive p ≡ true)) end.available
  walk_whole r e =
      let all : turns n own source ≡ r.seen = r.parts ∙ ap (λ (l : List ℕ). r.seen ++ l) e ∙ append-nil r.seen in
      let m = turns_means n own o source s in
      union_same (nth_row rows) available (LiveIn alive r.seen) (λ p. Peer n own p × (has_bit alive p ≡ true)) end.available
      (λ p. (λ l. ((m p).0 (rw all l.0), l.1), λ l. (rw all at ((m p).1 l.0), l.1))) r.unites

  -- and so it is if fewer than d shards are available
  pub walk_ends : count end.available < d → UnionOf available (nth_row rows) (λ p. Peer n own p × (has_bit alive p ≡ true)) end.available
  walk_ends h = ⊎_elim (λ e. walk_whole walk_reaches e) (λ e. absurd (omega (arith, e.enough))) walk_reaches.ends

  -- in any case it is the union of what one had and the rows of those asked
  pub asked_union : UnionOf available (nth_row rows) (λ p. has_bit end.asked p ≡ true) end.available
  unfolding walk
  asked_union =
      let nobody = union_none (nth_row rows) available (λ p. bit 0 p ≡ 1) available (λ p h. omega (arith, bit_none p)) refl in
      union_same (nth_row rows) available (AskedIn d (nth_row rows) alive end) (λ p. has_bit end.asked p ≡ true) end.available
      (λ p. (eq-eqb (bit end.asked p) 1, eqb-true (bit end.asked p) 1)) (after_asked d (nth_row rows) alive available start (turns n own source) nobody)

-- ---- the entry
nothing_yet : (n i k : ℕ) → get_or (replicate n 0) i 0 < 2 ^ k
nothing_yet zero i k = pow_pos k
nothing_yet (suc n) zero k = pow_pos k
nothing_yet (suc n) (suc i) k = nothing_yet n i k

module _ (n own source d w available : ℕ) (rows : List ℕ) (alive : ℕ) where
  -- it answers m exactly if nothing refuses, and m is the mask of those asked
  pub gossip_means : (exclusions m : ℕ)
      → (gossip_of n own source d w available rows alive exclusions ≡ accepted m)
      ↔ ((gossip_refusal n own source d w available rows alive exclusions ≡ 0) × ((walk n own source d available (rows_in rows) alive).asked ≡ m))
  unfolding gossip_of
  gossip_means exclusions m = accepted_means (gossip_refusal n own source d w available rows alive exclusions) (walk n own source d available (rows_in rows) alive).asked m

  -- and the table then holds the exclusions
  pub exclusions_means : (exclusions : List ℕ) → gossip_refusal n own source d w available rows alive (length exclusions) ≡ 0
      → exclusions_left n own source d w available rows alive exclusions ≡ spelled (walk n own source d available (rows_in rows) alive).exclusions
  unfolding exclusions_left
  exclusions_means exclusions z = rw z

  -- in which the row of p is what p is to leave out
  pub exclusion_row : (exclusions : List ℕ) → gossip_refusal n own source d w available rows alive (length exclusions) ≡ 0 → (p : ℕ)
      → Table.row_in (exclusions_left n own source d w available rows alive exclusions) p ≡ get_or (walk n own source d available (rows_in rows) alive).exclusions p 0
  unfolding walk
  exclusion_row exclusions z p =
      let s = (gossip_sound n own source d w available rows alive (length exclusions)).0 z in
      let room : (m : ℕ) → m < 2 ^ w → m < 2 ^ 256 = λ m l. lt_of_lt_of_le l (pow_mono {i = w} {j = 256} (omega (arith, s.shards))) in
      let r : (q : ℕ) → nth_row (rows_in rows) q < 2 ^ w = λ q. subst (λ (x : ℕ). x < 2 ^ w) (sym (rows_at rows q)) (row_below w rows s.each_row q) in
      let h = after_narrow d (nth_row (rows_in rows)) alive w r (fresh available (replicate n 0)) (turns n own source) (s.row, λ i. nothing_yet n i w) in
      ap (λ (l : List ℕ). Table.row_in l p) (exclusions_means exclusions z)
      ∙ spelled_row (walk n own source d available (rows_in rows) alive).exclusions (λ i. room (get_or (walk n own source d available (rows_in rows) alive).exclusions i 0) (h.1 i)) p
