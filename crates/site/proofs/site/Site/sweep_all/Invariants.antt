use Rattle.std.proofs.Common.{◌≡◌, ◌-◌, ◌≤◌}
use Rattle.site.specs.Means.{site_rests, site_state}
use Rattle.rules.specs.Calls.{sweep_from}
use Rattle.site.proofs.site.Site.sweep_all.Given as goal

abbrev pub invariant-loop-i : goal.invariant-loop-i
invariant-loop-i g l =
    (l.value ≤ l.i)
    × (sweep_from l.k (l.m - l.i) (site_state g.D.Store g.M.Store g.B.Bank l.self) l.i l.value
    ≡ sweep_from l.k l.m (site_state g.D.Store g.M.Store g.B.Bank l.initial.self) 0 0)
    × (site_rests g.D.Store g.M.Store g.B.Bank l.self ≡ site_rests g.D.Store g.M.Store g.B.Bank l.initial.self)
