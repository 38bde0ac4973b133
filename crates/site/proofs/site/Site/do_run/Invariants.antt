use Rattle.std.proofs.Common.{◌≡◌, drop}
use Rattle.rules.specs.Replies.{called}
use Rattle.rules.specs.Runs.{calls_of, run_from, running}
use Rattle.site.specs.Means.{site_rests, site_state}
use Rattle.site.proofs.site.Site.do_run.Given as goal

abbrev pub invariant-loop-i : goal.invariant-loop-i
invariant-loop-i g l =
    (run_from (called g.D.Cell.Cell.empty) (calls_of (drop l.i l.steps) (drop l.i l.given)) l.i
    (running (site_state g.D.Store g.M.Store g.B.Bank l.self) l.answers l.got)
    ≡ run_from (called g.D.Cell.Cell.empty) (calls_of l.steps l.given) 0
    (running (site_state g.D.Store g.M.Store g.B.Bank l.initial.self) l.initial.answers l.initial.got))
    × (site_rests g.D.Store g.M.Store g.B.Bank l.self ≡ site_rests g.D.Store g.M.Store g.B.Bank l.initial.self)
