-- A number's digits, written from the last to the first.
use Rattle.std.proofs.Common.{◌≡◌, ℕ, ◌+◌, ◌-◌, ◌/◌, ◌%◌, ◌^◌, ◌<◌, ◌≤◌, List, [], ◌∷◌, ◌++◌, length, drop, set, decimal, sym, ap, ◌∙◌, append_assoc, arith}
use Rattle.std.proofs.lemmas.Fmt.{decimal_step, decimal_digit, decimal_nonempty, length-decimal-le}
use Rattle.std.proofs.lemmas.List.{drop-set, length-drop, length-append}

module _ (xs : List ℕ) (i rest n : ℕ) (long : length xs ≡ 10) (within : i ≤ 10) (fits : n < 2 ^ 32) (left : rest ≤ n) (digits : decimal rest ++ drop i xs ≡ decimal n) where
  -- there is a byte before those that are written
  pub room : 1 ≤ i
  room =
      let some = decimal_nonempty rest (omega arith) in
      let few = length-decimal-le 10 n (omega arith) (omega arith) (omega arith) in
      let all = sym (length-append (decimal rest) (drop i xs)) ∙ ap length digits in
      omega (arith, length-drop i xs)

  -- one byte more, before those that are written
  more : (b : ℕ) → drop (i - 1) (set xs (i - 1) b) ≡ b ∷ drop i xs
  more b =
      let pos = room in
      let lt : i - 1 < length xs = omega arith in
      let back : i - 1 + 1 ≡ i = omega arith in
      drop-set xs (i - 1) b lt ∙ ap (λ j. b ∷ drop j xs) back

  -- the last digit of several
  pub write_one : 10 ≤ rest → decimal (rest / 10) ++ drop (i - 1) (set xs (i - 1) (48 + rest % 10)) ≡ decimal n
  write_one big =
      ap (λ t. decimal (rest / 10) ++ t) (more (48 + rest % 10))
      ∙ sym (append_assoc (decimal (rest / 10)) ((48 + rest % 10) ∷ []) (drop i xs))
      ∙ ap (λ t. t ++ drop i xs) (sym (decimal_step rest big (omega arith)))
      ∙ digits

  -- the only digit left
  pub write_first : rest < 10 → drop (i - 1) (set xs (i - 1) (48 + rest % 10)) ≡ decimal n
  write_first small =
      let same : 48 + rest % 10 ≡ 48 + rest = omega arith in
      more (48 + rest % 10)
      ∙ ap (λ b. b ∷ drop i xs) same
      ∙ ap (λ t. t ++ drop i xs) (sym (decimal_digit rest small))
      ∙ digits
