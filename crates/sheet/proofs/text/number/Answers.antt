use Rattle.std.proofs.Common.{◌∙◌, arith, rules}
use Rattle.std.proofs.lemmas.Iterator.{YieldsList-from_slice}
use Rattle.sheet.specs.Text.{number_of, with_digit}
use Rattle.sheet.proofs.Numbers.{tried_is, tried_from_yields_List}
use Rattle.sheet.proofs.text.number.Goals as goal

pub returns : goal.returns
unfolding number_of
returns c =
    tried_from_yields_List with_digit _ _ 0 _ c.try_fold.ensures.ran (YieldsList-from_slice c.args.s.now (cc)) (λ m x w q k. search rules)
    ∙ tried_is c.args.s.now 0 (omega arith)
