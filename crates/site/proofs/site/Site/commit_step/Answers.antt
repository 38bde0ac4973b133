use Rattle.std.proofs.Common.{refl, ap}
use Rattle.rules.specs.Site.{with_table}
use Rattle.site.specs.Means.{site_state}
use Rattle.site.proofs.Stepping.{commit_step_took, commit_step_none}
use Rattle.site.proofs.site.Site.commit_step.Goals as goal

pub returns-in-Ok : goal.returns-in-Ok
returns-in-Ok g c = record {
  does = commit_step_took _ _ _ _ _ _ _ _ _ c.in-Ok.ensures (ap (with_table (site_state g.D.Store g.M.Store g.B.Bank c.args.self.now)) c.note.ensures) c.new.ensures c.commit_taken.ensures.does c.plain_reply.ensures;
  kept = c.commit_taken.ensures.kept;
}

pub returns-in-Err : goal.returns-in-Err
returns-in-Err g c = record { does = commit_step_none _ _ _ _ _ c.in-Err.ensures c.no_reply.ensures; kept = refl }
