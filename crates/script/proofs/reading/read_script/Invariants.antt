use Rattle.std.proofs.Common.{◌≡◌, ◌-◌, vec_items}
use Rattle.script.specs.Scripts.{read_from}
use Rattle.script.proofs.Lines.{onto}
use Rattle.script.proofs.reading.read_script.Given as goal

-- what is read, and then what is left to read from here, is the whole
abbrev pub invariant-loop : goal.invariant-loop
invariant-loop l =
    (onto (vec_items l.steps) (read_from (64 - l.counter) l.sheet l.reader.place) ≡ read_from 64 l.sheet 0)
    × (l.reader.sheet.now ≡ l.sheet)
