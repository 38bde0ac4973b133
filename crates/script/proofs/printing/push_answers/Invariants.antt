use Rattle.std.proofs.Common.{◌≡◌, ◌++◌, vec_items}
use Rattle.std.specs.Iterator.Adapters.{enumerate_source, enumerate_count, zip_first, zip_second}
use Rattle.std.specs.Slice.Iter.{iter_rest}
use Rattle.script.specs.Scripts.{answered}
use Rattle.script.proofs.printing.push_answers.Given as goal

-- what is printed, and then what is left to print from here, is the whole
abbrev pub invariant-loop-i : goal.invariant-loop-i
invariant-loop-i l =
    let left = enumerate_source l.i-iterator in
    vec_items l.out ++ answered (enumerate_count l.i-iterator) (iter_rest (zip_first left)) (iter_rest (zip_second left))
    ≡ vec_items l.initial.out ++ answered 0 l.answers l.got
