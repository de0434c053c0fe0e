use Rattle.std.proofs.Common.{◌≡◌, ◌≤◌, length, take}
use Rattle.callboard.proofs.copy_part.Given as goal

abbrev pub invariant-loop-i : goal.invariant-loop-i
invariant-loop-i l =
    (l.i ≤ length l.initial.rows) × (length l.rows ≡ length l.initial.rows) × (length l.part ≡ length l.initial.rows) × (take l.i l.rows ≡ take l.i l.part)
