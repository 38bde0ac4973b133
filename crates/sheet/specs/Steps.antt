-- The numbers of a line.
use Rattle.std.specs.Prelude.{ℕ}
use Rattle.std.specs.Option.{unwrap_or}
use Rattle.sheet.specs.Answers.{seen}
use Rattle.sheet.specs.Sheet.{Seen, blank_at, digits_at}
use Rattle.sheet.specs.Text.{number_of}
use Rattle.sheet.specs.declared.fields.Field.{Field}
use Rattle.sheet.specs.declared.lines.Line.{Line}
use Rattle.rules.specs.declared.step.Step.{Step}

-- the number of a field: a blank one reads as 0, and so do bytes that no reader hands out
abbrev pub seen_number : Seen → ℕ
seen_number (blank_at line k) = 0
seen_number (digits_at line k ds) = unwrap_or (number_of ds) 0

-- the number that a field hands out
abbrev pub field_number : Field → ℕ
field_number f = seen_number (seen f)

-- the step that a line says
abbrev pub step_of : Line → Step
step_of l = record {
  call = field_number l.call;
  client = field_number l.client;
  cell = field_number l.cell;
  first = field_number l.first;
  second = field_number l.second;
}
