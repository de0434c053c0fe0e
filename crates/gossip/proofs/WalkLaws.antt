-- Turns, one after the other, from any state on: when the walk is over, what becomes available, and what is said of a peer in its turn. Assumes nothing.
use Rattle.std.specs.Prelude.{◌≡◌, ◌↔◌, ◌⊎◌, Bool, ◌||◌, ℕ, ◌^◌, ◌≤◌, ◌<◌, leb, length, get_or, set}
use Rattle.std.proofs.Math.Path.{refl, ap, ap₂}
use Rattle.std.proofs.Common.{sym, subst, ◌∙◌, inl, inr, ⊎_elim, true≢false, arith, length-set, pow_pos, get_or-set_same, get_or-set_other, eq-eqb, ne_eqb, leb-true, leb-false}
use Rattle.std.proofs.Math.Bool.{true, false, cond, not}
use mathlib.Core.List.Memᴰ
use mathlib.Core.List.{List, [], ◌∷◌, ◌++◌, foldl, Memᴰ}
use Rattle.std.proofs.Math.Decide.{dec_lt, ℕ_discrete}
use Rattle.std.specs.Int.Bits.{bit_or}
use Rattle.std.proofs.lemmas.Nat.{or_lt}
use Rattle.std.proofs.Math.ListN.{get_or-eq_default}
use Rattle.bitmap.specs.Mask.{bit, has_bit, with_bit, count}
use Rattle.bitmap.specs.MaskLaws.{bit_with, bit_same, bit_other, Beyond, beyond_means}
use Rattle.bitmap.specs.CountLaws.{count_within}
use Rattle.gossip.specs.Gossip.{Walked, met, visit}
use Rattle.gossip.proofs.UnionLaws.{UnionOf, LiveIn, union_within, union_unique, union_none, union_dead, union_live, union_with}

-- a list of rows below a width, with another such row
set_below : (k : ℕ) (xs : List ℕ) (p a : ℕ) → ((i : ℕ) → get_or xs i 0 < 2 ^ k) → a < 2 ^ k → (i : ℕ) → get_or (set xs p a) i 0 < 2 ^ k
set_below k xs p a h l i = go (ℕ_discrete i p) (dec_lt p (length xs))
  where
    go : Dec (i ≡ p) → Dec (p < length xs) → get_or (set xs p a) i 0 < 2 ^ k
    go (yes e) (yes b) = subst (λ (x : ℕ). x < 2 ^ k) (sym (ap (λ (j : ℕ). get_or (set xs p a) j 0) e ∙ get_or-set_same xs p a 0 b)) l
    go (yes e) (no b) = subst (λ (x : ℕ). x < 2 ^ k) (sym (get_or-eq_default (set xs p a) 0 {n = i} (omega (arith, length-set xs p a)))) (pow_pos k)
    go (no e) b = subst (λ (x : ℕ). x < 2 ^ k) (sym (get_or-set_other xs p i a 0 e)) (h i)

module _ (d : ℕ) (row : ℕ → ℕ) (alive : ℕ) where
  -- the turns of ps
  abbrev pub after : Walked → List ℕ → Walked
  after w ps = foldl (visit d row alive) w ps

  -- ---- a turn

  -- passed over
  pub visit_passed : (w : Walked) (p : ℕ) → (w.over ≡ true) ⊎ (has_bit alive p ≡ false) → visit d row alive w p ≡ w
  unfolding visit
  visit_passed w p (inl e) = ap (λ (o : Bool). cond (o || not (has_bit alive p)) w (met d (row p) w p)) e
  visit_passed w p (inr e) = ap (λ (l : Bool). cond (w.over || not l) w (met d (row p) w p)) e ∙ dead w.over
    where
      dead : (o : Bool) → cond (o || true) w (met d (row p) w p) ≡ w
      dead true = refl
      dead false = refl

  -- met
  pub visit_met : (w : Walked) (p : ℕ) → w.over ≡ false → has_bit alive p ≡ true → visit d row alive w p ≡ met d (row p) w p
  unfolding visit
  visit_met w p = ap₂ (λ (o l : Bool). cond (o || not l) w (met d (row p) w p))

  -- with nothing new
  abbrev still : Walked → Walked
  still w = record { asked = w.asked; available = w.available; exclusions = w.exclusions; over = leb d (count w.available) }

  -- and asked
  abbrev grown : Walked → ℕ → Walked
  grown w p = record {
    asked = with_bit w.asked p;
    available = bit_or w.available (row p);
    exclusions = set w.exclusions p w.available;
    over = leb d (count (bit_or w.available (row p)));
  }

  module _ (P : Walked → Type 0) (w : Walked) (p : ℕ) where
    -- what holds of either holds after the turn of a live peer
    live_turn : w.over ≡ false → has_bit alive p ≡ true → (bit_or w.available (row p) ≡ w.available → P (still w)) → (Beyond w.available (row p) → P (grown w p))
        → P (visit d row alive w p)
    unfolding met
    live_turn o l s g = rw (visit_met w p o l) (go (ℕ_discrete (bit_or w.available (row p)) w.available))
      where
        go : Dec (bit_or w.available (row p) ≡ w.available) → P (met d (row p) w p)
        go (yes e) = rw (eq-eqb (bit_or w.available (row p)) w.available e, e) (s e)
        go (no n) = rw (ne_eqb (bit_or w.available (row p)) w.available n) (g ((beyond_means w.available (row p)).0 n))

    turn : P w → (w.over ≡ false → has_bit alive p ≡ true → bit_or w.available (row p) ≡ w.available → P (still w))
        → (w.over ≡ false → has_bit alive p ≡ true → Beyond w.available (row p) → P (grown w p))
        → P (visit d row alive w p)
    turn z s g = go w.over (has_bit alive p) refl refl
      where
        go : (a b : Bool) → w.over ≡ a → has_bit alive p ≡ b → P (visit d row alive w p)
        go true b o l = rw (visit_passed w p (inl o)) z
        go false false o l = rw (visit_passed w p (inr l)) z
        go false true o l = live_turn o l (s o l) (g o l)

  -- ---- when it is over

  -- what is over stays as it is
  over_stays : (w : Walked) (ps : List ℕ) → w.over ≡ true → after w ps ≡ w
  over_stays w [] o = refl
  over_stays w (p ∷ ps) o = ap (λ (v : Walked). after v ps) (visit_passed w p (inl o)) ∙ over_stays w ps o

  -- so what is not over has not been
  not_over : (w : Walked) (ps : List ℕ) → (after w ps).over ≡ false → w.over ≡ false
  not_over w ps e = go w.over refl
    where
      go : (b : Bool) → w.over ≡ b → w.over ≡ false
      go true o = absurd (true≢false (sym o ∙ ap (λ (v : Walked). v.over) (sym (over_stays w ps o)) ∙ e))
      go false o = o

  -- once a live peer has been met, that is where d are available
  abbrev Settled : Walked → Type 0
  Settled w = w.over ≡ leb d (count w.available)

  after_settled : (w : Walked) (ps : List ℕ) → Settled w → Settled (after w ps)
  after_settled w [] h = h
  after_settled w (p ∷ ps) h = after_settled (visit d row alive w p) ps (turn Settled w p h (λ o l e. refl) (λ o l b. refl))

  goes_on : (w : Walked) (ps : List ℕ) → (after w ps).over ≡ false → (q : ℕ) → LiveIn alive ps q → count (after w ps).available < d
  goes_on w [] o q l = absurd (Memᴰ.not-nil l.0)
  goes_on w (p ∷ ps) o q l = ⊎_elim here (λ m. goes_on (visit d row alive w p) ps o q (m, l.1)) (Memᴰ.cases_cons l.0)
    where
      here : q ≡ p → count (after w (p ∷ ps)).available < d
      here e =
          let v = visit d row alive w p in
          let h = live_turn Settled w p (not_over w (p ∷ ps) o) (ap (has_bit alive) (sym e) ∙ l.1) (λ e. refl) (λ b. refl) in
          leb-false d (count (after v ps).available) (sym (after_settled v ps h) ∙ o)

  -- the turn with which it is over is a live peer's
  visit_enough : (w : Walked) (p : ℕ) → w.over ≡ false → (visit d row alive w p).over ≡ true → (has_bit alive p ≡ true) × (d ≤ count (visit d row alive w p).available)
  visit_enough w p o =
      turn (λ v. v.over ≡ true → (has_bit alive p ≡ true) × (d ≤ count v.available)) w p (λ z. absurd (true≢false (sym z ∙ o)))
      (λ o l e z. (l, leb-true d (count w.available) z)) (λ o l b z. (l, leb-true d (count (bit_or w.available (row p))) z))

  -- ---- what is available

  union_visit : (w : Walked) (q : ℕ) (qs : List ℕ) (m : ℕ) → w.over ≡ false
      → UnionOf (visit d row alive w q).available row (LiveIn alive qs) m → UnionOf w.available row (LiveIn alive (q ∷ qs)) m
  union_visit w q qs m o u = go (has_bit alive q) refl
    where
      go : (b : Bool) → has_bit alive q ≡ b → UnionOf w.available row (LiveIn alive (q ∷ qs)) m
      go true l =
          let e = live_turn (λ v. v.available ≡ bit_or w.available (row q)) w q o l sym (λ b. refl) in
          union_live row w.available m alive q qs l (subst (λ (a : ℕ). UnionOf a row (LiveIn alive qs) m) e u)
      go false l = union_dead row w.available m alive q qs l (subst (λ (v : Walked). UnionOf v.available row (LiveIn alive qs) m) (visit_passed w q (inr l)) u)

  nobody_met : (a m : ℕ) → m ≡ a → UnionOf a row (LiveIn alive []) m
  nobody_met a m = union_none row a (LiveIn alive []) m (λ p l. Memᴰ.not-nil l.0)

  -- where it is not over every live peer has been met
  pub all_met : (w : Walked) (ps : List ℕ) → (after w ps).over ≡ false → UnionOf w.available row (LiveIn alive ps) (after w ps).available
  all_met w [] o = nobody_met w.available w.available refl
  all_met w (q ∷ qs) o = let v = visit d row alive w q in union_visit w q qs (after v qs).available (not_over w (q ∷ qs) o) (all_met v qs o)

  -- it has come to a live peer with which m, which is then available, has d shards
  pub record Enough (seen : List ℕ) (m : ℕ) : Type 0 where
    pub before : List ℕ
    pub last : ℕ
    pub parts : seen ≡ before ++ (last ∷ [])
    pub live : has_bit alive last ≡ true
    pub enough : d ≤ count m

  -- how far it came: the live ones of those whose turn came have been met; and everybody's turn came, or it had come to such a peer
  pub record Reached (available : ℕ) (ps : List ℕ) (m : ℕ) : Type 0 where
    pub seen : List ℕ
    pub rest : List ℕ
    pub parts : ps ≡ seen ++ rest
    pub unites : UnionOf available row (LiveIn alive seen) m
    pub ends : (rest ≡ []) ⊎ Enough seen m

  pub reaches : (w : Walked) (ps : List ℕ) → w.over ≡ false → Reached w.available ps (after w ps).available
  reaches w [] o = record { seen = []; rest = []; parts = refl; unites = nobody_met w.available w.available refl; ends = inl refl }
  reaches w (q ∷ qs) o = go (visit d row alive w q).over refl (reaches (visit d row alive w q) qs)
    where
      v : Walked
      v = visit d row alive w q

      m : ℕ
      m = (after v qs).available

      more : (seen : List ℕ) → Enough seen m → Enough (q ∷ seen) m
      more seen e = record { before = q ∷ e.before; last = e.last; parts = ap (λ (l : List ℕ). q ∷ l) e.parts; live = e.live; enough = e.enough }

      go : (b : Bool) → v.over ≡ b → (v.over ≡ false → Reached v.available qs m) → Reached w.available (q ∷ qs) m
      go true z ih =
          let e = visit_enough w q o z in
          let k : m ≡ v.available = ap (λ (x : Walked). x.available) (over_stays v qs z) in
          record {
            seen = q ∷ [];
            rest = qs;
            parts = refl;
            unites = union_visit w q [] m o (nobody_met v.available m k);
            ends = inr (record { before = []; last = q; parts = refl; live = e.0; enough = rw k e.1 });
          }
      go false z ih =
          let r = ih z in
          record {
            seen = q ∷ r.seen;
            rest = r.rest;
            parts = ap (λ (l : List ℕ). q ∷ l) r.parts;
            unites = union_visit w q r.seen m o r.unites;
            ends = ⊎_elim inl (λ e. inr (more r.seen e)) r.ends;
          }

  -- ---- whether it goes on

  record OverBy (ps : List ℕ) (m : ℕ) : Type 0 where
    peer : ℕ
    live : LiveIn alive ps peer
    enough : d ≤ count m

  over_by : (w : Walked) (ps : List ℕ) → w.over ≡ false → (after w ps).over ≡ true → OverBy ps (after w ps).available
  over_by w [] o z = absurd (true≢false (sym z ∙ o))
  over_by w (q ∷ qs) o z = go (visit d row alive w q).over refl (λ e. over_by (visit d row alive w q) qs e z)
    where
      v : Walked
      v = visit d row alive w q

      go : (b : Bool) → v.over ≡ b → (v.over ≡ false → OverBy qs (after v qs).available) → OverBy (q ∷ qs) (after v qs).available
      go true t ih = let e = visit_enough w q o t in record { peer = q; live = (Memᴰ.head refl, e.0); enough = rw (over_stays v qs t) e.1 }
      go false t ih = let r = ih t in record { peer = r.peer; live = (Memᴰ.tail r.live.0, r.live.1); enough = r.enough }

  -- m being the union of what was available and the rows of the live peers of ps: exactly if there is no such peer, or m has fewer than d shards
  pub goes : (w : Walked) (ps : List ℕ) (m : ℕ) → w.over ≡ false → UnionOf w.available row (LiveIn alive ps) m
      → ((after w ps).over ≡ false) ↔ ((q : ℕ) → LiveIn alive ps q → count m < d)
  goes w ps m o u = (
    λ z q l. rw (union_unique row a (LiveIn alive ps) m k u (all_met w ps z)) (goes_on w ps z q l),
    λ h. go h (after w ps).over refl,
  )
    where
      a : ℕ
      a = w.available

      k : ℕ
      k = (after w ps).available

      go : ((q : ℕ) → LiveIn alive ps q → count m < d) → (b : Bool) → (after w ps).over ≡ b → (after w ps).over ≡ false
      go h true z =
          let b = over_by w ps o z in
          let r = reaches w ps o in
          let part = union_within row a (LiveIn alive r.seen) (LiveIn alive ps) k m (λ p l. (rw r.parts (Memᴰ.append_left r.rest l.0), l.1)) r.unites u in
          absurd (omega (arith, h b.peer b.live, b.enough, count_within k m part))
      go h false z = z

  -- ---- the rows of those asked

  abbrev pub AskedIn : Walked → ℕ → Type 0
  AskedIn w p = bit w.asked p ≡ 1

  pub after_asked : (a : ℕ) (w : Walked) (ps : List ℕ) → UnionOf a row (AskedIn w) w.available → UnionOf a row (AskedIn (after w ps)) (after w ps).available
  after_asked a w [] u = u
  after_asked a w (q ∷ qs) u =
      after_asked a (visit d row alive w q) qs
      (turn (λ v. UnionOf a row (AskedIn v) v.available) w q u (λ o l e. u) (λ o l b. union_with row a w.available w.asked q u))

  -- ---- what is said of p

  -- the table keeps its length
  pub after_length : (w : Walked) (ps : List ℕ) → length (after w ps).exclusions ≡ length w.exclusions
  after_length w [] = refl
  after_length w (p ∷ ps) =
      after_length (visit d row alive w p) ps
      ∙ turn (λ v. length v.exclusions ≡ length w.exclusions) w p refl (λ o l e. refl) (λ o l b. length-set w.exclusions p w.available)

  -- of rows below a width, what is available and what is to be left out are below it too
  abbrev pub Narrow : ℕ → Walked → Type 0
  Narrow k w = (w.available < 2 ^ k) × ((i : ℕ) → get_or w.exclusions i 0 < 2 ^ k)

  pub after_narrow : (k : ℕ) → ((p : ℕ) → row p < 2 ^ k) → (w : Walked) (ps : List ℕ) → Narrow k w → Narrow k (after w ps)
  after_narrow k r w [] h = h
  after_narrow k r w (p ∷ ps) h =
      after_narrow k r (visit d row alive w p) ps
      (turn (Narrow k) w p h (λ o l e. h) (λ o l b. (or_lt k w.available (row p) h.0 (r p), set_below k w.exclusions p w.available h.1 h.0)))

  -- others' turns change nothing of it
  abbrev pub Kept : ℕ → Walked → Walked → Type 0
  Kept p w v = (bit v.asked p ≡ bit w.asked p) × (get_or v.exclusions p 0 ≡ get_or w.exclusions p 0)

  visit_other : (p q : ℕ) (w : Walked) → (p ≡ q → ⊥) → Kept p w (visit d row alive w q)
  visit_other p q w h =
      turn (Kept p w) w q (refl, refl) (λ o l e. (refl, refl))
      (λ o l b. (omega (arith, bit_with w.asked q p, bit_other q p h), get_or-set_other w.exclusions q p w.available 0 h))

  pub after_others : (p : ℕ) (w : Walked) (ps : List ℕ) → (Memᴰ p ps → ⊥) → Kept p w (after w ps)
  after_others p w [] h = (refl, refl)
  after_others p w (q ∷ qs) h =
      let a = after_others p (visit d row alive w q) qs (λ m. h (Memᴰ.tail m)) in
      let b = visit_other p q w (λ e. h (Memᴰ.head e)) in
      (a.0 ∙ b.0, a.1 ∙ b.1)

  -- in its own turn it is asked if the walk goes on, it is alive, and has a shard that is not available
  abbrev pub Asks : Walked → ℕ → Type 0
  Asks w p = (w.over ≡ false) × (has_bit alive p ≡ true) × Beyond w.available (row p)

  pub own_asked : (w : Walked) (p : ℕ) → bit w.asked p ≡ 0 → (bit (visit d row alive w p).asked p ≡ 1) ↔ Asks w p
  own_asked w p z = (
    turn (λ v. bit v.asked p ≡ 1 → Asks w p) w p (λ k. absurd (omega arith)) (λ o l e k. absurd (omega arith)) (λ o l b k. (o, l, b)),
    λ a.
        live_turn (λ v. bit v.asked p ≡ 1) w p a.0 a.1 (λ e. absurd ((beyond_means w.available (row p)).1 a.2 e))
        (λ b. omega (arith, bit_with w.asked p p, bit_same p)),
  )

  -- and is then to leave out what was available
  pub own_exclusion : (w : Walked) (p : ℕ) → p < length w.exclusions → Asks w p → get_or (visit d row alive w p).exclusions p 0 ≡ w.available
  own_exclusion w p h a =
      live_turn (λ v. get_or v.exclusions p 0 ≡ w.available) w p a.0 a.1 (λ e. absurd ((beyond_means w.available (row p)).1 a.2 e))
      (λ b. get_or-set_same w.exclusions p w.available 0 h)

  -- otherwise what stood there stays
  pub own_none : (w : Walked) (p : ℕ) → (bit (visit d row alive w p).asked p ≡ 1 → ⊥) → get_or (visit d row alive w p).exclusions p 0 ≡ get_or w.exclusions p 0
  own_none w p =
      turn (λ v. (bit v.asked p ≡ 1 → ⊥) → get_or v.exclusions p 0 ≡ get_or w.exclusions p 0) w p (λ n. refl) (λ o l e n. refl)
      (λ o l b n. absurd (n (omega (arith, bit_with w.asked p p, bit_same p))))
