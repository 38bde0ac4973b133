use Rattle.std.proofs.Common.{Ok, rules}
use Rattle.site.specs.Means.{site_state}
use Rattle.site.proofs.Promised.{read_upheld}
use Rattle.site.proofs.calls.SiteCalls.read.Goals as goal

pub returns-in_err-v-clause-upheld : goal.returns-in_err-v-clause-upheld
returns-in_err-v-clause-upheld g c =
    read_upheld g.D.Cell.Cell.empty (site_state g.D.Store g.M.Store g.B.Bank c.args.self.now) (site_state g.D.Store g.M.Store g.B.Bank c.do_read.new.self)
    c.args.k c.args.i c.args.into.now _ _ c.do_read.result (search rules) (search rules) c.do_read.ensures.does

pub returns-clause-upheld : goal.returns-clause-upheld
returns-clause-upheld g c =
    read_upheld g.D.Cell.Cell.empty (site_state g.D.Store g.M.Store g.B.Bank c.args.self.now) (site_state g.D.Store g.M.Store g.B.Bank c.do_read.new.self)
    c.args.k c.args.i c.args.into.now c.in_ok-v.v (Ok c.in_ok-v.source) c.do_read.result (search rules) (search rules) c.do_read.ensures.does
