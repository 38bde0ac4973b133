-- What the reader's answers mean: the number, line and column of every case.
use Rattle.std.specs.Prelude.{ℕ, List, Some, None, Ok, Err, Option, Result}
use Rattle.std.specs.Borrow.{Bor}
use Rattle.sheet.specs.declared.fields.Field.{Field}
use Rattle.sheet.specs.declared.fields.Field.TheVariants.{Blank, Digits}
use Rattle.sheet.specs.declared.fields.Cause.{Cause}
use Rattle.sheet.specs.declared.fields.Cause.TheVariants.{LineEnd, NotDigits, TooLarge}
use Rattle.sheet.specs.declared.fields.Refusal.{Refusal}
use Rattle.sheet.specs.declared.lines.Line.{Line}
use Rattle.sheet.specs.Sheet.{Seen, blank_at, digits_at, FieldAnswer, field, refused_field, LineAnswer, end, fields, refused}

-- the number of each cause
abbrev pub refusal_number : Cause → ℕ
refusal_number LineEnd = 31
refusal_number NotDigits = 32
refusal_number TooLarge = 34

-- a field's digits, or the number of the cause that refuses it
abbrev pub digits_meant : Result (Bor (List ℕ)) Cause → Result (List ℕ) ℕ
digits_meant (Ok digits) = Ok digits.now
digits_meant (Err cause) = Err (refusal_number cause)

-- what a field hands out
abbrev pub seen : Field → Seen
seen (Blank at) = blank_at at.line at.column
seen (Digits at part) = digits_at at.line at.column part.now

-- what the answer for one field means
abbrev pub field_meant : Result Field Refusal → FieldAnswer
field_meant (Ok f) = field (seen f)
field_meant (Err r) = refused_field (refusal_number r.cause) r.place.line r.place.column

-- what the answer for the next line means
abbrev pub line_meant : Result (Option Line) Refusal → LineAnswer
line_meant (Ok None) = end
line_meant (Ok (Some l)) = fields (seen l.call) (seen l.client) (seen l.cell) (seen l.first) (seen l.second)
line_meant (Err r) = refused (refusal_number r.cause) r.place.line r.place.column
