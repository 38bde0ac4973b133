use Rattle.std.proofs.Common.{◌≡◌, true, false, ap, ◌∙◌, rules}
use Rattle.std.proofs.lemmas.Iterator.{first_from_Range}
use Rattle.records.specs.Questions.{first_from}
use Rattle.records.specs.Records.{unsent_at}
use Rattle.records.proofs.Tables.{first_is}
use Rattle.records.proofs.table.Table.first_unsent.Goals as goal

pub returns : goal.returns
returns c =
    let is_unsent = unsent_at c.args.self.now c.args.k in
    first_is is_unsent c.size.result c.find.result
    (first_from_Range _ _ _ _ (λ i. is_unsent i ≡ true) (λ i. is_unsent i ≡ false) c.find.ensures.ran
    (λ x q h. search rules) (λ x q h. (search rules, search rules)))
    ∙ ap (λ n. first_from is_unsent n 0) c.size.ensures.size
