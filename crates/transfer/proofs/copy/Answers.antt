use Rattle.std.proofs.Common.{◌<◌, ◌≤◌, length, Ok, ◌∙◌, arith}
use Rattle.std.proofs.lemmas.Result.{err_from_is_err_and}
use Rattle.store.specs.Means.{meaning}
use Rattle.transfer.proofs.Copying.{stopped, all_copied}
use Rattle.transfer.proofs.Overlays.{laid_from}
use Rattle.transfer.proofs.copy.Goals as goal

pub returns-in_err-copy_cell-clause-copied : goal.returns-in_err-copy_cell-clause-copied
returns-in_err-copy_cell-clause-copied g c =
    let n = length (g.A.Store.cells c.args.from.now) in
    let left : c.loop-i.i < n = omega (arith, c.loop-i.invariant.end) in
    let p = err_from_is_err_and c.from_residual.result c.from_residual.ensures.1 in
    rw (p.1, p.2)
    (stopped n c.loop-i.i (meaning g.A.Store c.loop-i.from) (meaning g.B.Store c.loop-i.to) (meaning g.A.Store c.copy_cell.new.from) (meaning g.B.Store c.copy_cell.new.to) c.in_err-copy_cell.field-0.0 left c.in_err-copy_cell.ensures.copied
    ∙ c.loop-i.invariant.whole)

pub returns-in_err-copy_cell-clause-laid : goal.returns-in_err-copy_cell-clause-laid
returns-in_err-copy_cell-clause-laid g c =
    laid_from (length (g.A.Store.cells c.args.from.now)) c.args.start (meaning g.A.Store c.args.from.now) (meaning g.B.Store c.args.to.now) (meaning g.A.Store c.copy_cell.new.from) (meaning g.B.Store c.copy_cell.new.to) c.from_residual.result
    (returns-in_err-copy_cell-clause-copied g c)

pub returns-clause-copied : goal.returns-clause-copied
returns-clause-copied g c =
    let n = length (g.A.Store.cells c.args.from.now) in
    let none : n ≤ c.loop-i.i = omega (arith, c.loop-i.invariant.end) in
    all_copied n c.loop-i.i (meaning g.A.Store c.loop-i.from) (meaning g.B.Store c.loop-i.to) none ∙ c.loop-i.invariant.whole

pub returns-clause-laid : goal.returns-clause-laid
returns-clause-laid g c =
    laid_from (length (g.A.Store.cells c.args.from.now)) c.args.start (meaning g.A.Store c.args.from.now) (meaning g.B.Store c.args.to.now) (meaning g.A.Store c.loop-i.from) (meaning g.B.Store c.loop-i.to) (Ok tt)
    (returns-clause-copied g c)
