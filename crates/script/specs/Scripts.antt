-- From a sheet's bytes to steps, and from answers to the printed bytes.
use Rattle.std.specs.Prelude.{ℕ, zero, suc, ◌+◌, min, cond, List, [], ◌∷◌, ◌++◌, map, Some, None, Option, ◌==◌}
use Rattle.sheet.specs.Sheet.{LineAnswer, end, fields, refused, line_of, place_after}
use Rattle.sheet.specs.Steps.{seen_number}
use Rattle.sheet.specs.Output.{output_bytes, output_fits}
use Rattle.sheet.specs.Text.{most}
use Rattle.sheet.specs.declared.output.OutputLine.{OutputLine}
use Rattle.rules.specs.declared.step.Step.{Step}
use Rattle.rules.specs.declared.answer.Answer.{Answer}

-- the steps read, and the output line of the line that was refused and ends them, if one was
pub record Scripted : Type 0 where
  pub steps : List Step
  pub last : Option OutputLine

abbrev pub scripted : List Step → Option OutputLine → Scripted
scripted steps last = record { steps = steps; last = last }

-- an output line: step, answer, place, value and source
abbrev pub output : ℕ → ℕ → ℕ → ℕ → ℕ → OutputLine
output step answer place value source = record { step = step; answer = answer; place = place; value = value; source = source }

abbrev pub more : LineAnswer → Scripted → Scripted
more end rest = scripted [] None
more (fields a b c d e) rest =
    scripted (record { call = seen_number a; client = seen_number b; cell = seen_number c; first = seen_number d; second = seen_number e } ∷ rest.steps) rest.last
more (refused number line column) rest = scripted [] (Some (output (min line most) number column 0 0))

-- at most n lines, from the place on
unfoldable pub read_from : ℕ → List ℕ → ℕ → Scripted
read_from zero sheet place = scripted [] None
read_from (suc n) sheet place = more (line_of sheet place) (read_from n sheet (place_after (line_of sheet place) place))

-- the cells that writes take: the step's first number
abbrev pub given_by : List Step → List ℕ
given_by steps = map (λ p. p.first) steps

-- the bytes of an output line; none where a number has more digits than columns
unfoldable pub line_bytes : OutputLine → List ℕ
line_bytes l = cond (output_fits l) (output_bytes l) []

-- an answer's line; the value is the cell got, after an accepted read
abbrev pub answer_line : ℕ → Answer → ℕ → OutputLine
answer_line n a g = output n a.number a.place (cond (a.source == 0) a.value g) a.source

-- the answers of the steps after the first n; steps are counted from 1, up to the largest number
unfoldable pub answered : ℕ → List Answer → List ℕ → List ℕ
answered n [] got = []
answered n (a ∷ rs) [] = []
answered n (a ∷ rs) (g ∷ got) = line_bytes (answer_line (min (n + 1) most) a g) ++ answered (n + 1) rs got

-- and the line at which the sheet was refused
abbrev pub ended : Option OutputLine → List ℕ
ended None = []
ended (Some l) = line_bytes l
