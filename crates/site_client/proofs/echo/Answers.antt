use Rattle.std.proofs.Common.{rules, ◌≡◌, Ok, None, ◌∙◌}
use Rattle.store.specs.Stores.{stored}
use Rattle.site_client.proofs.Echoing.{echoes}
use Rattle.site_client.proofs.echo.Goals as goal

pub returns : goal.returns
returns g c =
    let fit : None ≡ c.unfit.result = search rules in
    let opened : c.open.result ≡ Ok c.in_ok-ok.field-0 = search rules in
    let written : c.write.result ≡ Ok tt = search rules in
    let read : c.read.result ≡ Ok c.in_ok-ok-3.field-0 = search rules in
    echoes _
    (record {
      disk = stored (g.D.Store.cells c.args.disk) (g.D.Store.life c.args.disk);
      marks = stored (g.M.Store.cells c.args.marks) (g.M.Store.life c.args.marks);
      locals = g.B.Bank.stores c.args.bank;
      session = c.args.session;
    })
    _ _ _ _ _ _ _ _ c.make-site.ensures.does (fit ∙ c.unfit.ensures)
    c.open.result c.write.result c.open.ensures.call c.write.ensures.call opened written c.read.result c.read.ensures.upheld read
