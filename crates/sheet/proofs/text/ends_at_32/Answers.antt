use Rattle.std.proofs.Common.{Some, nat_eq, ap, ◌==◌, ◌∙◌, rules}
use Rattle.std.specs.Option.{option_eq}
use Rattle.std.proofs.lemmas.Iterator.{YieldsList-from_slice}
use Rattle.std.proofs.lemmas.Iterator.Search.{position_from_yields_List}
use Rattle.sheet.specs.Text.{ends_at_32}
use Rattle.sheet.proofs.text.ends_at_32.Goals as goal

pub returns-clause-is : goal.returns-clause-is
unfolding ends_at_32
returns-clause-is c =
    c.eq.ensures
    ∙ ap (λ i. option_eq nat_eq i (Some 31)) (position_from_yields_List (λ b. b == 10) _ _ _ c.position.ensures.ran (YieldsList-from_slice c.args.s.now (cc)) (λ x b q k. search rules))
