use Rattle.std.proofs.Common.{◌≡◌, ◌≤◌, ◌++◌, length, drop, decimal}
use Rattle.sheet.proofs.columns.write_digits.Given as goal

-- the digits of what is left come before those that are written
abbrev pub invariant-loop-rest : goal.invariant-loop-rest
invariant-loop-rest l =
    (decimal l.rest ++ drop l.i l.out ≡ decimal l.n)
    × (l.i ≤ 10)
    × (length l.out ≡ 10)
    × (l.rest ≤ l.n)

abbrev pub decreases-loop-rest : goal.decreases-loop-rest
decreases-loop-rest l = l.rest
