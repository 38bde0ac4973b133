use Rattle.std.proofs.Common.{Some, Err, ap, ◌∙◌}
use Rattle.rules.specs.Site.{outcome}
use Rattle.rules.specs.Calls.{with_note_of}
use Rattle.site.specs.Means.{site_state}
use Rattle.site.specs.declared.slip.Slip.{Slip}
use Rattle.site.proofs.Stepping.{commit_noted, same_slip}
use Rattle.site.proofs.site.Site.commit_taken.Goals as goal

pub returns-in-Ok : goal.returns-in-Ok
returns-in-Ok g c = record { does = commit_noted g.D.Cell.Cell.empty (site_state g.D.Store g.M.Store g.B.Bank c.args.self.now) (site_state g.D.Store g.M.Store g.B.Bank c.do_commit.new.self) c.args.k c.args.slip _ c.in-Ok.ensures.does; kept = c.in-Ok.ensures.kept }

pub returns-in-Err : goal.returns-in-Err
returns-in-Err g c =
    let left = (site_state g.D.Store g.M.Store g.B.Bank c.do_commit.new.self) in
    record {
      does =
          ap (λ s. outcome s (Err c.in-Err.field-0.fault)) c.note.ensures.does
          ∙ ap (λ (n : Slip). outcome (with_note_of left c.args.k (Some n.flush)) (Err c.in-Err.field-0.fault)) (same_slip g.D.Cell.Cell.empty (site_state g.D.Store g.M.Store g.B.Bank c.args.self.now) left c.args.slip c.in-Err.field-0 c.in-Err.ensures.does)
          ∙ commit_noted g.D.Cell.Cell.empty (site_state g.D.Store g.M.Store g.B.Bank c.args.self.now) left c.args.k c.args.slip (Err c.in-Err.field-0) c.in-Err.ensures.does;
      kept = c.note.ensures.kept ∙ c.in-Err.ensures.kept;
    }
