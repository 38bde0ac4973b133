use Rattle.std.proofs.Common.{None, refl, ◌∙◌}
use Rattle.std.proofs.lemmas.Slice.Zip.{either_empty_from_Zip}
use Rattle.std.specs.Iterator.Adapters.{enumerate_source}
use Rattle.script.proofs.Answering.{all_printed}
use Rattle.script.proofs.printing.push_answers.Goals as goal

pub returns : goal.returns
returns c =
    all_printed _ _ _ _ (either_empty_from_Zip (enumerate_source c.loop-i.i-iterator) (enumerate_source c.next.new.self) None refl c.in-None.ensures.steps.0)
    ∙ c.loop-i.invariant
