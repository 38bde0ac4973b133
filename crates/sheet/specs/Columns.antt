-- Numbers right-justified in the columns of a line.
use Rattle.std.specs.Prelude.{ℕ, ◌+◌, ◌-◌, Bool, List, ◌++◌, length, take, drop, replicate, decimal, nat_le}

-- the w bytes from column k on, or as many as there are
abbrev pub columns_of : ℕ → ℕ → List ℕ → List ℕ
columns_of k w bytes = take w (drop (k - 1) bytes)

-- a text at the end of w columns, and blanks before it
abbrev pub right_justified : ℕ → List ℕ → List ℕ
right_justified w bytes = replicate (w - length bytes) 32 ++ bytes

-- n in w columns: blanks, and then its decimal digits
abbrev pub columns_for : ℕ → ℕ → List ℕ
columns_for w n = right_justified w (decimal n)

-- whether n has at most w digits
abbrev pub fits_columns : ℕ → ℕ → Bool
fits_columns w n = nat_le (length (decimal n)) w

-- these bytes, with n in the w columns from column k on
abbrev pub with_columns : ℕ → ℕ → ℕ → List ℕ → List ℕ
with_columns k w n bytes = take (k - 1) bytes ++ (columns_for w n ++ drop (k - 1 + w) bytes)
