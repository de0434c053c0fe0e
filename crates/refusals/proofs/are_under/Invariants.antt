use mathlib.Core.Path.{◌≡◌}
use mathlib.Core.Bool.{◌&&◌}
use lib.ListN.{drop}
use Rattle.std.specs.List.{list_all}
use Rattle.refusals.specs.Limits.{is_under}
use Rattle.refusals.proofs.are_under.Given as goal

abbrev pub invariant-loop-mask : goal.invariant-loop-mask
invariant-loop-mask l = (l.under && list_all (is_under l.limit) (drop l.mask-index l.masks)) ≡ list_all (is_under l.limit) l.masks
