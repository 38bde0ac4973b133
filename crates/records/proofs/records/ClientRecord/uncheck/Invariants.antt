-- The cells before the place reached are unchecked.
use Rattle.std.proofs.Common.{◌≡◌}
use Rattle.records.specs.Records.{with_cells}
use Rattle.records.proofs.InPlace.{half}
use Rattle.records.proofs.records.ClientRecord.uncheck.Given as goal

abbrev pub invariant-loop-i : goal.invariant-loop-i
invariant-loop-i l = l.self ≡ with_cells l.initial.self (half l.initial.self.cells l.i)
