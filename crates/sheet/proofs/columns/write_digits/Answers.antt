use Rattle.std.proofs.Common.{◌+◌, ◌-◌, ◌%◌, ◌++◌, decimal, ap, ◌∙◌, arith}
use Rattle.std.proofs.lemmas.List.{drop_all, append-nil, length-set}
use Rattle.sheet.proofs.Written.{room, write_one, write_first}
use Rattle.sheet.proofs.columns.write_digits.Goals as goal

pub loop-rest-init : goal.loop-rest-init
loop-rest-init c = (
  ap (λ t. decimal c.args.n ++ t) (drop_all 10 c.args.out.now (omega arith)) ∙ append-nil (decimal c.args.n),
  omega arith,
  omega arith,
  omega arith,
)

pub overflow_sub-i : goal.overflow_sub-i
overflow_sub-i c =
    room c.loop-rest.out c.loop-rest.i c.loop-rest.rest c.args.n
    c.loop-rest.invariant.2 c.loop-rest.invariant.1 (omega arith) c.loop-rest.invariant.3 c.loop-rest.invariant.0

pub returns-then-rest-lt10 : goal.returns-then-rest-lt10
returns-then-rest-lt10 c = record {
  within = omega (arith, c.loop-rest.invariant.1);
  digits =
      write_first c.loop-rest.out c.loop-rest.i c.loop-rest.rest c.args.n
      c.loop-rest.invariant.2 c.loop-rest.invariant.1 (omega arith) c.loop-rest.invariant.3 c.loop-rest.invariant.0 c.if-rest-lt10.true;
}

pub loop-rest-preserved : goal.loop-rest-preserved
loop-rest-preserved c = (
  write_one c.loop-rest.out c.loop-rest.i c.loop-rest.rest c.args.n
      c.loop-rest.invariant.2 c.loop-rest.invariant.1 (omega arith) c.loop-rest.invariant.3 c.loop-rest.invariant.0 c.if-rest-lt10.false,
  omega (arith, c.loop-rest.invariant.1),
  length-set c.loop-rest.out (c.loop-rest.i - 1) (48 + c.loop-rest.rest % 10) ∙ c.loop-rest.invariant.2,
  omega (arith, c.loop-rest.invariant.3),
)
