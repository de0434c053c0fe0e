-- `decimals::ten` meets its contract: each entry of the table is the power of ten of its place, by one test that the checker computes. Assumes nothing.
use mathlib.Core.Path.{◌≡◌, refl}
use mathlib.Core.Bool.{Bool, true, false, not, true≢false}
use mathlib.Core.List.{List, [], ◌∷◌, map}
use Prim.Native.Nat.{ℕ, ◌*◌, ◌^◌, ◌<◌}
use lib.Count.{count_trailing_zeros}
use lib.Dec.{eqb}
use lib.Ieee.{Float, nan, inf, fin, binary64, up, down, of_bits, of_fields, odd}
use lib.Ieee.Exact.{HasValue}
use lib.ListN.{get_or}
use borrow.Author.Rules.{rules}
use borrow.Author.Tests.{not-false, eqb-true}
use Rattle.lists.specs.Below.{some_below}
use Rattle.lists.specs.BelowLaws.{none_below_means}
use Rattle.decimals.proofs.ten.Goals as goal

-- the bits of the table
abbrev table : List Float
table =
    map (of_bits binary64)
    (4607182418800017408
    ∷ 4621819117588971520
    ∷ 4636737291354636288
    ∷ 4652007308841189376
    ∷ 4666723172467343360
    ∷ 4681608360884174848
    ∷ 4696837146684686336
    ∷ 4711630319722168320
    ∷ 4726483295884279808
    ∷ 4741671816366391296
    ∷ 4756540486875873280
    ∷ 4771362005757984768
    ∷ 4786511204640096256
    ∷ 4801453603149578240
    ∷ 4816244402031689728
    ∷ 4831355200913801216
    ∷ 4846369599423283200
    ∷ 4861130398305394688
    ∷ 4876203697187506176
    ∷ 4891288408196988160
    ∷ 4906019910204099648
    ∷ 4921056587992461136
    ∷ 4936209963552724370
    ∷ [])

-- x is not the positive number 10 ^ k
abbrev wrong : ℕ → Float → Bool
wrong k nan = true
wrong k (inf s) = true
wrong k (fin true m e) = true
wrong k (fin false m e) = not (eqb (m * up e * 1) (10 ^ k * down e))

right : (k : ℕ) (x : Float) → wrong k x ≡ false → HasValue x false (10 ^ k) 1
right k nan e = absurd (true≢false e)
right k (inf s) e = absurd (true≢false e)
right k (fin true m x) e = absurd (true≢false e)
right k (fin false m x) e = (refl, eqb-true (m * up x * 1) (10 ^ k * down x) (not-false _ e))

rule : (k : ℕ) → k < 23 → wrong k (get_or table k nan) ≡ false
unfolding of_bits of_fields odd count_trailing_zeros some_below
rule = (none_below_means (λ k. wrong k (get_or table k nan)) 23).0 refl

pub returns : goal.returns
returns c =
    right c.args.k (get_or table c.args.k nan) (rule c.args.k (search rules))
