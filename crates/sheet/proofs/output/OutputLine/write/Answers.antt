use Rattle.std.proofs.Common.{arith}
use Rattle.sheet.proofs.Justified.{whole_line}
use Rattle.sheet.proofs.output.OutputLine.write.Goals as goal

pub returns-clause-bytes : goal.returns-clause-bytes
returns-clause-bytes c =
    whole_line c.args.self.now c.args.line.now
    c.put.new.line c.put-2.new.line c.put-3.new.line c.put-4.new.line c.put-5.new.line
    _ _ _ _ _ (omega arith)
    c.in_ok-put.ensures.fits c.in_ok-put.ensures.bytes
    c.in_ok-put-2.ensures.fits c.in_ok-put-2.ensures.bytes
    c.in_ok-put-3.ensures.fits c.in_ok-put-3.ensures.bytes
    c.in_ok-put-4.ensures.fits c.in_ok-put-4.ensures.bytes
    c.in_ok-put-5.ensures.fits c.in_ok-put-5.ensures.bytes
