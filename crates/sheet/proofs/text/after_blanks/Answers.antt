use Rattle.std.proofs.Common.{drop, ap, ◌∙◌, ◌==◌, rules}
use Rattle.std.proofs.lemmas.Iterator.{YieldsList-from_slice}
use Rattle.std.proofs.lemmas.Iterator.Search.{YieldsList-from_take_while}
use Rattle.std.proofs.lemmas.Iterator.Consumers.{YieldsList-at, count_from_yields_List}
use Rattle.std.proofs.lemmas.List.{take_rest}
use Rattle.std.proofs.lemmas.List.Folds.{length-prefix_len}
use Rattle.sheet.proofs.text.after_blanks.Goals as goal

pub returns : goal.returns
returns c =
    let s = c.args.s.now in
    take_rest s c.count-blanks.result
    ∙ ap (λ n. drop n s)
    (count_from_yields_List _ _ c.count-blanks.ensures.ran
    (YieldsList-from_take_while _ (λ b. b == 32) (YieldsList-at c.take_while.ensures.source (YieldsList-from_slice s (cc))) c.take_while.ensures.closure c.take_while.ensures.done (λ x b q k. search rules))
    ∙ length-prefix_len (λ b. b == 32) s)
