-- What holds of every sheet.
use Rattle.std.specs.Prelude.{◌≡◌, ℕ, ◌+◌, ◌-◌, ◌*◌, List, length, take, drop, Some}
use Rattle.sheet.specs.Sheet.{Seen, blank_at, digits_at, LineAnswer, end, fields, refused, line_of}
use Rattle.sheet.specs.Text.{digits_value, number_of}

-- the bytes ds stand in the sheet at this line and column, and are digits that write a number that a field holds
pub record Stands (sheet : List ℕ) (line k : ℕ) (ds : List ℕ) : Type 0 where
  pub bytes : ds ≡ take (length ds) (drop (32 * (line - 1) + (k - 1)) sheet)
  pub number : number_of ds ≡ Some (digits_value ds)

-- a field's digits stand in the sheet
abbrev pub Own : List ℕ → Seen → Type 0
Own sheet (blank_at line k) = Unit {0}
Own sheet (digits_at line k ds) = Stands sheet line k ds

-- so do those of every field of a line
abbrev pub AllOwn : List ℕ → LineAnswer → Type 0
AllOwn sheet end = Unit {0}
AllOwn sheet (fields a b c d e) = Own sheet a × Own sheet b × Own sheet c × Own sheet d × Own sheet e
AllOwn sheet (refused n line k) = Unit {0}

-- whatever is handed out after any number of accepted lines is the sheet's own
abbrev pub HandsOutItsOwn : Type 0
HandsOutItsOwn = (sheet : List ℕ) (before : ℕ) → AllOwn sheet (line_of sheet (32 * before))
