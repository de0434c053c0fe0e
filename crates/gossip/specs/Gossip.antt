-- Gossip (`gossip_targets_excl`): which peers are asked for missing shards, and what each is to leave out. Assumes nothing.
use Rattle.std.specs.Prelude.{Bool, false, cond, not, ◌||◌, ℕ, ◌+◌, ◌-◌, ◌%◌, leb, eqb, length, replicate, set}
use mathlib.Core.List.{List, [], ◌∷◌, ◌++◌, foldl}
use Rattle.std.specs.Int.Bits.{bit_or}
use Rattle.std.specs.List.{filter}
use Rattle.lists.specs.Below.{each_below}
use Rattle.bitmap.specs.Mask.{has_bit, with_bit, count, nth_row}
use Rattle.rows.specs.Row.{row_of, rows_in, spelled}
use Rattle.refusals.specs.Numbers.{POPULATION, REPLICA, SHARDS, MASK, TABLE}
use Rattle.refusals.specs.First.{Case, unless, first_of}
use Rattle.refusals.specs.Outcome.{Outcome, outcome, written}
use Rattle.refusals.specs.Limits.{is_population, is_replica, is_shards, is_mask, is_row, are_rows, is_table}
use Rattle.gossip.specs.declared.Progress.{Progress}

-- ---- whose turn it is

-- peers from our own number + 1 round the ring to our own number - 1
unfoldable pub ring : ℕ → ℕ → List ℕ
ring n own = each_below (λ (j : ℕ). (own + 1 + j) % n) (n - 1)

-- without the source
unfoldable pub round : ℕ → ℕ → ℕ → List ℕ
round n own source = filter (λ (p : ℕ). not (eqb p source)) (ring n own)

-- which is the last, unless it is oneself
unfoldable pub turns : ℕ → ℕ → ℕ → List ℕ
turns n own source = round n own source ++ cond (eqb source own) [] (source ∷ [])

-- ---- the walk

-- how far it has come: those asked, what is available, the exclusions, and whether it is over
pub record Walked : Type 0 where
  pub asked : ℕ
  pub available : ℕ
  pub exclusions : List ℕ
  pub over : Bool

abbrev pub walked : Progress → List ℕ → Walked
walked w exclusions = record { asked = w.asked; available = row_of w.available; exclusions = exclusions; over = w.over }

-- nobody has had its turn
abbrev pub fresh : ℕ → List ℕ → Walked
fresh available exclusions = record { asked = 0; available = available; exclusions = exclusions; over = false }

module _ (d : ℕ) where
  -- a live peer: with missing shards in its row it is asked, its exclusion being what was available before it; its shards then count as available,
  -- and a count of d or more ends the walk
  unfoldable pub met : ℕ → Walked → ℕ → Walked
  met row w p =
      let available = bit_or w.available row in
      let nothing = eqb available w.available in
      record {
        asked = cond nothing w.asked (with_bit w.asked p);
        available = available;
        exclusions = cond nothing w.exclusions (set w.exclusions p w.available);
        over = leb d (count available);
      }

  -- the turn of the peer p: a dead one is passed over
  unfoldable pub visit : (ℕ → ℕ) → ℕ → Walked → ℕ → Walked
  visit row alive w p = cond (w.over || not (has_bit alive p)) w (met (row p) w p)

-- the walk: each in its turn. The exclusion of a peer not asked is 0
unfoldable pub walk : ℕ → ℕ → ℕ → ℕ → ℕ → List ℕ → ℕ → Walked
walk n own source d available rows alive = foldl (visit d (nth_row rows) alive) (fresh available (replicate n 0)) (turns n own source)

-- ---- the entry

-- the rows in a table of four words a row; of the length of the lent table of exclusions, which has as many
abbrev pub gossip_cases : ℕ → ℕ → ℕ → ℕ → ℕ → ℕ → List ℕ → ℕ → ℕ → List Case
gossip_cases n own source d w available rows alive exclusions =
    unless (is_population n) POPULATION
    ∷ unless (is_replica n own) REPLICA
    ∷ unless (is_replica n source) REPLICA
    ∷ unless (is_shards d w) SHARDS
    ∷ unless (is_row w available) MASK
    ∷ unless (are_rows w rows) MASK
    ∷ unless (is_mask n alive) MASK
    ∷ unless (is_table n (length rows)) TABLE
    ∷ unless (is_table n exclusions) TABLE
    ∷ []

unfoldable pub gossip_refusal : ℕ → ℕ → ℕ → ℕ → ℕ → ℕ → List ℕ → ℕ → ℕ → ℕ
gossip_refusal n own source d w available rows alive exclusions = first_of (gossip_cases n own source d w available rows alive exclusions)

unfoldable pub gossip_of : ℕ → ℕ → ℕ → ℕ → ℕ → ℕ → List ℕ → ℕ → ℕ → Outcome ℕ
gossip_of n own source d w available rows alive exclusions =
    outcome (gossip_refusal n own source d w available rows alive exclusions) (walk n own source d available (rows_in rows) alive).asked

-- the table at exit
unfoldable pub exclusions_left : ℕ → ℕ → ℕ → ℕ → ℕ → ℕ → List ℕ → ℕ → List ℕ → List ℕ
exclusions_left n own source d w available rows alive exclusions =
    written (gossip_refusal n own source d w available rows alive (length exclusions)) (spelled (walk n own source d available (rows_in rows) alive).exclusions) exclusions
