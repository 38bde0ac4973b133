use Rattle.std.proofs.Common.{◌≡◌, ◌+◌, ◌-◌, Ok, Err, rules, sym, ap, ◌∙◌, arith}
use Rattle.rules.specs.Calls.{sweeping}
use Rattle.rules.specs.Site.{outcome}
use Rattle.rules.specs.declared.answer.Stopped.{Stopped}
use Rattle.site.specs.Means.{site_state}
use Rattle.site.proofs.Sweeping.{sweep_once, sweep_next, byte_le}
use Rattle.site.proofs.site.Site.sweep_all.Goals as goal

pub loop-i-preserved : goal.loop-i-preserved
loop-i-preserved g c =
    let e : c.sweep_cell.result ≡ Ok c.in_ok-forgot.forgot = search rules in
    let swept = ap (outcome (site_state g.D.Store g.M.Store g.B.Bank c.sweep_cell.new.self)) (sym e) ∙ c.sweep_cell.ensures.does in (
      omega (arith, byte_le c.in_ok-forgot.forgot, c.from-value.ensures),
      sweep_next c.args.k (c.args.m - c.loop-i.i) (c.args.m - (c.loop-i.i + 1)) _ _ c.in_ok-forgot.forgot _ c.loop-i.i c.loop-i.value (omega arith) (omega arith) c.from-value.ensures swept
          ∙ c.loop-i.invariant.1,
      c.sweep_cell.ensures.kept ∙ c.loop-i.invariant.2,
    )

pub returns-in_err-forgot-clause-does : goal.returns-in_err-forgot-clause-does
returns-in_err-forgot-clause-does g c =
    let fault = c.in_err-forgot.field-0.0.fault in
    let stopped : Stopped = record { fault = fault; place = c.loop-i.i; value = c.loop-i.value } in
    let left = site_state g.D.Store g.M.Store g.B.Bank c.sweep_cell.new.self in
    let e : c.sweep_cell.result ≡ Err fault = search rules in
    let f : c.from_residual.result ≡ Err stopped = search rules in
    ap (sweeping left) f
    ∙ sym (sweep_once c.args.k (c.args.m - c.loop-i.i) (site_state g.D.Store g.M.Store g.B.Bank c.loop-i.self) left (Err fault) c.loop-i.i c.loop-i.value (omega arith) (ap (outcome left) (sym e) ∙ c.sweep_cell.ensures.does))
    ∙ c.loop-i.invariant.1
