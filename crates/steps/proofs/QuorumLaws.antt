-- Why step i waits for step_quorum replicas. Each of n replicas has the step's shards in one run, and the runs of neighbours start one share,
-- d / majority shards, apart. Whichever f of the quorum fail, the others hold d shards; one replica fewer need not. Assumes nothing.
use Rattle.std.specs.Prelude.{◌≡◌, List, [], ◌∷◌, ℕ, zero, suc, ◌+◌, ◌-◌, ◌*◌, ◌/◌, ◌%◌, ◌^◌, ◌≤◌, ◌<◌, length, get_or}
use Rattle.std.proofs.Common.{sym, ap, ◌∙◌, add_assoc, add-mul, mul_assoc, mul-le-mul_right, not-suc-le-zero, le_of_suc-le-suc, mod-lt, mod-eq_of_lt, div-add-mod', div-lt_iff_lt-mul, arith}
use Rattle.std.proofs.Math.Nat.{div-eq_of_lt, mul-add-div_right, mul-add-mod_self_right}
use Rattle.std.proofs.Math.Decide.{dec_le, dec_lt, ℕ_discrete}
use Rattle.lists.specs.All.{AllOf, Distinct}
use Rattle.lists.specs.AllLaws.{all_of_means}
use Rattle.bitmap.specs.Mask.{bit, count, gather, run, run_modulo}
use Rattle.bitmap.specs.Members.{Many, count_means, many_map}
use Rattle.bitmap.specs.RunLaws.{Among, gather_means}
use Rattle.bitmap.specs.RunCounts.{Different, gather_count, run_count, member_below, count_below}
use Rattle.steps.specs.Steps.{step_shards, step_quorum}
use Rattle.steps.proofs.StepLaws.{shares_whole, shares_positive}
use Rattle.steps.proofs.RingLaws.{cover, cover_below, cover_count, origin}

-- a replica of the mask m has the shard s: its run of `len` shards starts at its number times `share`, modulo n shares
pub record HeldBy (n share len m s : ℕ) : Type 0 where
  pub replica : ℕ
  pub known : replica < n
  pub member : bit m replica ≡ 1
  pub has : bit (run_modulo (n * share) (replica * share) len) s ≡ 1

-- ---- shares and their shards

-- the shard x of the share a
shard_at : (a n h x : ℕ) → 0 < n → x < h → (a * h + x) % (n * h) ≡ a % n * h + x
shard_at a n h x p l =
    let q = a / n in
    let r = a % n in
    let e : a * h + x ≡ q * (n * h) + (r * h + x) =
    ap (λ (z : ℕ). z * h + x) (sym (div-add-mod' a n)) ∙ ap (λ (z : ℕ). z + x) (add-mul (q * n) r h) ∙ add_assoc (q * n * h) (r * h) x
    ∙ ap (λ (z : ℕ). z + (r * h + x)) (mul_assoc q n h) in
    let room : (r + 1) * h ≤ n * h = mul-le-mul_right h (omega (arith, mod-lt a p)) in
    ap (λ (z : ℕ). z % (n * h)) e ∙ mul-add-mod_self_right q (n * h) (r * h + x) ∙ mod-eq_of_lt (omega (arith, room, add-mul r 1 h))

div_share : (a h x : ℕ) → x < h → (a * h + x) / h ≡ a
div_share a h x l = mul-add-div_right (omega arith) a x ∙ ap (λ (z : ℕ). a + z) (div-eq_of_lt l) ∙ omega arith

-- ---- all shards of some shares

distinct_at : (xs : List ℕ) → Distinct xs → (i j : ℕ) → i < j → j < length xs → get_or xs i 0 ≡ get_or xs j 0 → ⊥
distinct_at [] d i j l h e = absurd (not-suc-le-zero h)
distinct_at (x ∷ xs) d i zero l h e = absurd (not-suc-le-zero l)
distinct_at (x ∷ xs) d zero (suc j) l h e = (all_of_means (λ y. y ≡ x → ⊥) 0 xs).0 d.0 j (le_of_suc-le-suc h) (sym e)
distinct_at (x ∷ xs) d (suc i) (suc j) l h e = distinct_at xs d.1 i j (le_of_suc-le-suc l) (le_of_suc-le-suc h) e

-- the x-th shard of the shares in a list, each of h shards
abbrev shard_of : List ℕ → ℕ → ℕ → ℕ
shard_of xs h x = get_or xs (x / h) 0 * h + x % h

module _ (xs : List ℕ) (distinct : Distinct xs) (h : ℕ) (filled : 0 < h) where
  different : Different (shard_of xs h) (length xs * h)
  different x y l g e = go (ℕ_discrete (x / h) (y / h)) (dec_lt (x / h) (y / h))
    where
      inside : (z : ℕ) → z < length xs * h → z / h < length xs
      inside z k = (div-lt_iff_lt-mul filled).1 k

      same : get_or xs (x / h) 0 ≡ get_or xs (y / h) 0
      same =
          sym (div_share (get_or xs (x / h) 0) h (x % h) (mod-lt x filled)) ∙ ap (λ (z : ℕ). z / h) e
          ∙ div_share (get_or xs (y / h) 0) h (y % h) (mod-lt y filled)

      go : Dec (x / h ≡ y / h) → Dec (x / h < y / h) → ⊥
      go (yes q) c =
          omega (arith, div-add-mod' x h, div-add-mod' y h, ap (λ (z : ℕ). z * h) q, ap (λ (z : ℕ). z * h) same, e)
      go (no q) (yes c) = distinct_at xs distinct (x / h) (y / h) c (inside y g) same
      go (no q) (no c) = distinct_at xs distinct (y / h) (x / h) (omega arith) (inside x (omega arith)) (sym same)

  shards_count : count (gather (shard_of xs h) (length xs * h)) ≡ length xs * h
  shards_count = gather_count (shard_of xs h) (length xs * h) different

-- ---- the quorum of step i, where d is a multiple of the majority
module _ (n f d majority i : ℕ) (filled : 0 < d) (multiple : d % majority ≡ 0) (most : majority ≤ n) (step : i < majority) where
  abbrev share : ℕ
  share = d / majority

  ring : 0 < n
  ring = omega arith

  some_shards : 0 < share
  some_shards = shares_positive d majority filled multiple

  -- the shares at most j places after a replica of m are held by the replicas of m
  module _ (m j : ℕ) (below : m < 2 ^ n) (few : j ≤ i) where
    abbrev places : ℕ
    places = cover n ring m below j

    module _ (xs : List ℕ) (each : AllOf (λ p. bit places p ≡ 1) xs) (s : ℕ) where
      held : Among (shard_of xs share) (length xs * share) s → HeldBy n share (step_shards d majority i) m s
      held a =
          let x = a.place in
          let y = x % share in
          let p = get_or xs (x / share) 0 in
          let inside : x / share < length xs = (div-lt_iff_lt-mul some_shards).1 a.inside in
          let e : bit places p ≡ 1 = (all_of_means (λ p. bit places p ≡ 1) 0 xs).0 each (x / share) inside in
          let o = origin n ring m below j p (member_below n places p (cover_below n ring m below j) e) e in
          let t = o.steps in
          let l : y < share = mod-lt x some_shards in
          let room : (t + 1) * share ≤ (i + 1) * share = mul-le-mul_right share (omega (arith, o.few)) in
          record {
            replica = o.start;
            known = member_below n m o.start below o.member;
            member = o.member;
            has =
                (gather_means (λ (z : ℕ). (o.start * share + z) % (n * share)) s (step_shards d majority i)).1 (record {
                  place = t * share + y;
                  inside = omega (arith, l, room, add-mul t 1 share);
                  here =
                      ap (λ (z : ℕ). z % (n * share)) (omega (arith, add-mul o.start t share)) ∙ shard_at (o.start + t) n share y (omega arith) l
                      ∙ ap (λ (z : ℕ). z * share + y) o.reaches ∙ a.here;
                });
          }

    spread : majority ≤ count places → Many d (HeldBy n share (step_shards d majority i) m)
    spread h =
        let k = (count_means majority places).0 h in
        let w : length k.list * share ≡ d = ap (λ (z : ℕ). z * share) k.long ∙ shares_whole d majority multiple in
        let c = shards_count k.list k.distinct share some_shards in
        many_map (λ s e. held k.list k.each s ((gather_means (shard_of k.list share) s (length k.list * share)).0 e))
        ((count_means d (gather (shard_of k.list share) (length k.list * share))).0 (omega (arith, c, w)))

  -- any replicas that make up the quorum together with f others hold d shards
  pub quorum_holds : (m : ℕ) → m < 2 ^ n → step_quorum majority f i ≤ count m + f → Many d (HeldBy n share (step_shards d majority i) m)
  quorum_holds m below enough = go (dec_le (count m + i) n)
    where
      go : Dec (count m + i ≤ n) → Many d (HeldBy n share (step_shards d majority i) m)
      go (yes h) =
          let c : majority ≤ count (cover n ring m below i) = omega (arith, cover_count n ring m below i (omega arith) h) in
          spread m i below (omega arith) c
      go (no h) =
          let j = n - count m in
          let u = count_below n m below in
          let c : majority ≤ count (cover n ring m below j) = omega (arith, cover_count n ring m below j (omega arith) (omega arith)) in
          spread m j below (omega arith) c

  -- with one replica fewer they need not: the first ones hold fewer than d
  pub fewer_fall_short : Many d (HeldBy n share (step_shards d majority i) (run 0 (step_quorum majority f i - f - 1))) → ⊥
  fewer_fall_short h =
      let least = majority - 1 in
      let w : least * share + share ≡ d =
      omega (arith, shares_whole d majority multiple, ap (λ (z : ℕ). z * share) back, add-mul least 1 share) in
      omega (arith, (count_means d (run 0 (least * share))).1 (many_map low h), run_count 0 (least * share), some_shards)
    where
      back : majority ≡ majority - 1 + 1
      back = omega arith

      low : (s : ℕ) → HeldBy n share (step_shards d majority i) (run 0 (step_quorum majority f i - f - 1)) s
          → bit (run 0 ((majority - 1) * share)) s ≡ 1
      low s b =
          let r = b.replica in
          let p = (gather_means (λ (z : ℕ). 0 + z) r (step_quorum majority f i - f - 1)).0 b.member in
          let a = (gather_means (λ (z : ℕ). (r * share + z) % (n * share)) s (step_shards d majority i)).0 b.has in
          let room : (r + (i + 1)) * share ≤ (majority - 1) * share = mul-le-mul_right share (omega (arith, p.inside, p.here)) in
          let fits : (majority - 1) * share ≤ n * share = mul-le-mul_right share (omega arith) in
          let l : r * share + a.place < (majority - 1) * share = omega (arith, room, a.inside, add-mul r (i + 1) share) in
          let e : r * share + a.place ≡ s = sym (mod-eq_of_lt (omega (arith, l, fits))) ∙ a.here in
          (gather_means (λ (z : ℕ). 0 + z) s ((majority - 1) * share)).1
          (record { place = s; inside = omega (arith, l, e); here = omega arith })
