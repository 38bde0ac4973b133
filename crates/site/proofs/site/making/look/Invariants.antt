use Rattle.std.proofs.Common.{◌≡◌, ◌-◌}
use Rattle.store.specs.Stores.{stored}
use Rattle.rules.specs.Making.{look_from}
use Rattle.site.proofs.site.making.look.Given as goal

abbrev pub invariant-loop-i : goal.invariant-loop-i
invariant-loop-i g l =
    (look_from (l.m - l.i) l.i l.session (stored (g.M.Store.cells l.marks) (g.M.Store.life l.marks))
    ≡ look_from l.m 0 l.session (stored (g.M.Store.cells l.initial.marks) (g.M.Store.life l.initial.marks)))
    × (g.M.Store.rest l.marks ≡ g.M.Store.rest l.initial.marks)
