-- What a sheet says, line by line, by its columns alone.
use Rattle.std.specs.Prelude.{ℕ, ◌+◌, ◌-◌, ◌/◌, cond, List, length, drop, Ok, Err, Result, ◌==◌, nat_le}
use Rattle.sheet.specs.Columns.{columns_of}
use Rattle.sheet.specs.Text.{ends_at_32, digits_in}

-- a field with its line and column: that of its first column where it is blank, else that of its first digit
pub data Seen : Type 0 where
  blank_at : ℕ → ℕ → Seen
  digits_at : ℕ → ℕ → List ℕ → Seen

-- a field, or a refusal's number, line and column
pub data FieldAnswer : Type 0 where
  field : Seen → FieldAnswer
  refused_field : ℕ → ℕ → ℕ → FieldAnswer

-- a field of w bytes whose first column is k, by its digits or by its refusal
abbrev pub placed : ℕ → ℕ → ℕ → Result (List ℕ) ℕ → FieldAnswer
placed line k w (Ok ds) = field (cond (length ds == 0) (blank_at line k) (digits_at line (k + (w - length ds)) ds))
placed line k w (Err n) = refused_field n line k

-- the field in the w columns from column k on, of a line that begins with these bytes
unfoldable pub in_columns : ℕ → List ℕ → ℕ → ℕ → FieldAnswer
in_columns line bytes k w = placed line k (length (columns_of k w bytes)) (digits_in (columns_of k w bytes))

-- the sheet's end; five fields; or a refusal's number, line and column
pub data LineAnswer : Type 0 where
  end : LineAnswer
  fields : Seen → Seen → Seen → Seen → Seen → LineAnswer
  refused : ℕ → ℕ → ℕ → LineAnswer

-- a refused field refuses the line
abbrev pub and_then : FieldAnswer → (Seen → LineAnswer) → LineAnswer
and_then (field s) rest = rest s
and_then (refused_field n line k) rest = refused n line k

-- every line before the place has 32 bytes, so the place gives the line's number
abbrev pub line_number : ℕ → ℕ
line_number place = place / 32 + 1

-- call 2, client 2, cell 5, and two numbers 11 each; or the first refusal among them
abbrev pub fields_of : ℕ → List ℕ → LineAnswer
fields_of line bytes =
    and_then (in_columns line bytes 1 2) (λ call.
    and_then (in_columns line bytes 3 2) (λ client.
    and_then (in_columns line bytes 5 5) (λ cell.
    and_then (in_columns line bytes 10 11) (λ first.
    and_then (in_columns line bytes 21 11) (λ second.
    fields call client cell first second)))))

-- what the line at the place says: 31 where its first line feed is not its byte 32
abbrev pub line_of : List ℕ → ℕ → LineAnswer
line_of sheet place =
    cond (nat_le (length sheet) place)
    end
    (cond (ends_at_32 (drop place sheet)) (fields_of (line_number place) (drop place sheet)) (refused 31 (line_number place) 1))

-- only an accepted line moves the place
abbrev pub place_after : LineAnswer → ℕ → ℕ
place_after end place = place
place_after (fields call client cell first second) place = place + 32
place_after (refused n line k) place = place
