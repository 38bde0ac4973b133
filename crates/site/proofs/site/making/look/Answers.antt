use Rattle.std.proofs.Common.{◌≡◌, ◌+◌, ◌-◌, Ok, Err, IsErr, rules, sym, ap, ◌∙◌, arith}
use Rattle.std.specs.Result.{result_err}
use Rattle.store.specs.Stores.{stored}
use Rattle.rules.specs.Making.{looked}
use Rattle.records.specs.declared.fault.Unfit.TheVariants.{MarkUnread}
use Rattle.site.proofs.Makings.{look_unread, look_above, look_next}
use Rattle.site.proofs.site.making.look.Goals as goal

pub returns-in_err-mark-clause-does : goal.returns-in_err-mark-clause-does
returns-in_err-mark-clause-does g c =
    let e : IsErr c.read.result = search rules in
    let f : c.from_residual.result ≡ Err MarkUnread = search rules in
    ap (λ r. looked (result_err r) (stored (g.M.Store.cells c.read.new.self) (g.M.Store.life c.read.new.self))) f
    ∙ sym (look_unread (c.args.m - c.loop-i.i) c.loop-i.i c.args.session _ _ _ (omega arith) c.read.ensures.after c.read.ensures.answer e) ∙ c.loop-i.invariant.0

pub returns-then-mark-session-clause-does : goal.returns-then-mark-session-clause-does
returns-then-mark-session-clause-does g c =
    let e : c.read.result ≡ Ok c.in_ok-mark.mark = search rules in
    sym (look_above (c.args.m - c.loop-i.i) c.loop-i.i c.args.session _ _ _ (omega arith) c.read.ensures.after c.read.ensures.answer c.in_ok-mark.mark e c.if-mark-session.true) ∙ c.loop-i.invariant.0

pub loop-i-preserved : goal.loop-i-preserved
loop-i-preserved g c =
    let e : c.read.result ≡ Ok c.in_ok-mark.mark = search rules in (
      look_next (c.args.m - c.loop-i.i) c.loop-i.i c.args.session _ _ _ (omega arith) c.read.ensures.after c.read.ensures.answer (c.args.m - (c.loop-i.i + 1)) (omega arith)
          c.in_ok-mark.mark e c.if-mark-session.false
          ∙ c.loop-i.invariant.0,
      c.read.ensures.kept ∙ c.loop-i.invariant.1,
    )
