-- Bytes of a sheet: line feeds (10), blanks (32) and digits (48 to 57).
use Rattle.std.specs.Prelude.{ℕ, ◌+◌, ◌-◌, ◌*◌, Bool, cond, List, drop, is_some, Some, None, Ok, Err, Option, Result, ◌==◌, nat_eq, nat_le}
use Rattle.std.specs.List.{fold, position, prefix_len}
use Rattle.std.specs.Option.{option_eq}
use Rattle.std.specs.Char.{is_ascii_digit}
use Rattle.std.specs.Str.{all_ascii_digits}

-- whether the first line feed is byte 32, counted from 1
unfoldable pub ends_at_32 : List ℕ → Bool
ends_at_32 bytes = option_eq nat_eq (position (λ b. b == 10) bytes) (Some 31)

-- what follows the blanks in front
abbrev pub after_blanks : List ℕ → List ℕ
after_blanks bytes = drop (prefix_len (λ b. b == 32) bytes) bytes

-- the number that digits write, 0 where there are none
abbrev pub digits_value : List ℕ → ℕ
digits_value bytes = fold (λ n b. 10 * n + (b - 48)) 0 bytes

-- the largest number that a field holds
abbrev pub most : ℕ
most = 4294967295

-- the number n with one digit more: none for another byte, or a number that is too large
abbrev pub with_digit : ℕ → ℕ → Option ℕ
with_digit n b = cond (is_ascii_digit b) (cond (nat_le (10 * n + (b - 48)) most) (Some (10 * n + (b - 48))) None) None

-- the number that bytes write: none where one is no digit, or the number is too large
unfoldable pub number_of : List ℕ → Option ℕ
number_of bs = cond (all_ascii_digits bs) (cond (nat_le (digits_value bs) most) (Some (digits_value bs)) None) None

-- the digits after the blanks: 32 where they are not all digits, 34 where their number is too large
abbrev pub digits_in : List ℕ → Result (List ℕ) ℕ
digits_in bytes =
    cond (all_ascii_digits (after_blanks bytes))
    (cond (is_some (number_of (after_blanks bytes))) (Ok (after_blanks bytes)) (Err 34))
    (Err 32)
