use Rattle.std.proofs.Common.{◌≡◌, ◌-◌, length}
use Rattle.store.specs.Means.{meaning}
use Rattle.transfer.specs.Copies.{copied_from}
use Rattle.transfer.proofs.copy.Given as goal

-- what is left to copy, from the stores as they are, gives the whole
abbrev pub invariant-loop-i : goal.invariant-loop-i
invariant-loop-i g l =
    let n = length (g.A.Store.cells l.initial.from) in
    record {
      end : l.i-end ≡ n;
      whole :
          copied_from (n - l.i) l.i (meaning g.A.Store l.from) (meaning g.B.Store l.to)
          ≡ copied_from (n - l.start) l.start (meaning g.A.Store l.initial.from) (meaning g.B.Store l.initial.to);
      source : g.A.Store.rest l.from ≡ g.A.Store.rest l.initial.from;
      target : g.B.Store.rest l.to ≡ g.B.Store.rest l.initial.to;
    }
