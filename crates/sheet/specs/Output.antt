-- Lines of output.
use Rattle.std.specs.Prelude.{ℕ, min, Bool, ◌&&◌, List, [], ◌∷◌, ◌++◌}
use Rattle.sheet.specs.Answers.{refusal_number}
use Rattle.sheet.specs.Columns.{columns_for, fits_columns}
use Rattle.sheet.specs.Text.{most}
use Rattle.sheet.specs.declared.fields.Refusal.{Refusal}
use Rattle.sheet.specs.declared.output.OutputLine.{OutputLine}

-- whether every number of an output line fits: step 4, answer 3, place 5, value 11 and source 2 columns
abbrev pub output_fits : OutputLine → Bool
output_fits l =
    fits_columns 4 l.step
    && (fits_columns 3 l.answer
    && (fits_columns 5 l.place
    && (fits_columns 11 l.value
    && fits_columns 2 l.source)))

-- the 26 bytes of an output line: its numbers in their columns, and a line feed
abbrev pub output_bytes : OutputLine → List ℕ
output_bytes l =
    columns_for 4 l.step
    ++ (columns_for 3 l.answer
    ++ (columns_for 5 l.place
    ++ (columns_for 11 l.value
    ++ (columns_for 2 l.source
    ++ (10 ∷ [])))))

-- the output line of a refusal: its line, up to the largest number, its number and its column, 0 and 0
abbrev pub refusal_output : Refusal → OutputLine
refusal_output r = record {
  step = min r.place.line most;
  answer = refusal_number r.cause;
  place = r.place.column;
  value = 0;
  source = 0;
}
