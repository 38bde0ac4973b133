-- Digits that are handed out are the sheet's own.
use Rattle.std.proofs.Common.{◌≡◌, ℕ, zero, suc, ◌+◌, ◌-◌, ◌*◌, ◌/◌, ◌≤◌, Bool, true, false, cond, eqb, ◌==◌, leb, List, [], ◌∷◌, length, take, drop, is_some, Some, Ok, Err, sym, refl, ap, ◌∙◌, arith}
use Rattle.std.specs.Str.{all_ascii_digits}
use Rattle.std.specs.List.{prefix_len}
use Rattle.std.proofs.lemmas.List.{drop-drop, length-drop}
use Rattle.std.proofs.lemmas.List.Sums.{prefix_len-le-length}
use Rattle.std.proofs.lemmas.Slice.{between_is}
use Rattle.sheet.specs.Columns.{columns_of}
use Rattle.sheet.specs.Text.{ends_at_32, after_blanks, digits_value, number_of}
use Rattle.sheet.specs.Sheet.{blank_at, digits_at, FieldAnswer, field, refused_field, LineAnswer, end, fields, refused, placed, in_columns, and_then, line_number, fields_of}
use Rattle.sheet.specs.Laws.{Stands, Own, AllOwn, HandsOutItsOwn}

-- what follows the blanks is a tail
after_drop : (bs : List ℕ) → after_blanks bs ≡ drop (length bs - length (after_blanks bs)) bs
after_drop bs =
    let blanks : ℕ = prefix_len (λ b. b == 32) bs in
    let e : length bs - length (drop blanks bs) ≡ blanks = omega (arith, length-drop blanks bs, prefix_len-le-length (λ b. b == 32) bs) in
    sym (ap (λ k. drop k bs) e)

-- a front, cut by its own length
prefix : (m : ℕ) (xs : List ℕ) → take (length (take m xs)) xs ≡ take m xs
prefix zero xs = refl
prefix (suc m) [] = refl
prefix (suc m) (x ∷ xs) = ap (λ l. x ∷ l) (prefix m xs)

-- a tail of a part is a front of what follows it
part_tail : (n w : ℕ) (ds xs : List ℕ) → ds ≡ drop n (take w xs) → ds ≡ take (length ds) (drop n xs)
part_tail n w ds xs e =
    let f : ds ≡ take (w - n) (drop n xs) = e ∙ sym (between_is xs n w) in
    f ∙ sym (prefix (w - n) (drop n xs)) ∙ ap (λ l. take (length l) (drop n xs)) (sym f)

-- digits that are accepted write a number that a field holds
holds : (ds : List ℕ) → is_some (number_of ds) ≡ true → number_of ds ≡ Some (digits_value ds)
unfolding number_of
holds ds = grind arith

-- a field that is not refused has its digits in the sheet
abbrev OwnField : List ℕ → FieldAnswer → Type 0
OwnField sheet (field s) = Own sheet s
OwnField sheet (refused_field n line k) = Unit {0}

-- blank, or digits that stand there
own_seen : (sheet : List ℕ) (line k j : ℕ) (ds : List ℕ) (t : Bool) → Stands sheet line j ds → Own sheet (cond t (blank_at line k) (digits_at line j ds))
own_seen sheet line k j ds true s = tt
own_seen sheet line k j ds false s = s

-- refused, or digits that stand there
own_placed : (sheet : List ℕ) (line k w : ℕ) (ds : List ℕ) (a b : Bool)
    → (b ≡ true → Stands sheet line (k + (w - length ds)) ds)
    → OwnField sheet (placed line k w (cond a (cond b (Ok ds) (Err 34)) (Err 32)))
own_placed sheet line k w ds true true s = own_seen sheet line k (k + (w - length ds)) ds (eqb (length ds) 0) (s refl)
own_placed sheet line k w ds true false s = tt
own_placed sheet line k w ds false true s = tt
own_placed sheet line k w ds false false s = tt

module _ (sheet : List ℕ) (m : ℕ) where
  -- the line after m others: its number, and the bytes from its start on
  line : ℕ
  line = line_number (32 * m)

  bytes : List ℕ
  bytes = drop (32 * m) sheet

  -- a field's digits, in the w columns from column k on
  stands : (k w : ℕ) → 1 ≤ k → is_some (number_of (after_blanks (columns_of k w bytes))) ≡ true
      → Stands sheet line (k + (length (columns_of k w bytes) - length (after_blanks (columns_of k w bytes)))) (after_blanks (columns_of k w bytes))
  unfolding line bytes
  stands k w pos some =
      let cut : List ℕ = columns_of k w bytes in
      let ds : List ℕ = after_blanks cut in
      let n : ℕ = length cut - length ds in
      let at : 32 * m + (k - 1) + n ≡ 32 * (32 * m / 32 + 1 - 1) + (k + n - 1) = omega arith in
      record {
        bytes =
            part_tail n w ds (drop (k - 1) bytes) (after_drop cut)
            ∙ ap (λ l. take (length ds) (drop n l)) (drop-drop (k - 1) (32 * m) sheet)
            ∙ ap (λ l. take (length ds) l) (drop-drop n (32 * m + (k - 1)) sheet)
            ∙ ap (λ j. take (length ds) (drop j sheet)) at;
        number = holds ds some;
      }

  -- so every field owns its digits
  own_field : (k w : ℕ) → 1 ≤ k → OwnField sheet (in_columns line bytes k w)
  unfolding in_columns
  own_field k w pos =
      own_placed sheet line k (length (columns_of k w bytes)) (after_blanks (columns_of k w bytes))
      (all_ascii_digits (after_blanks (columns_of k w bytes))) (is_some (number_of (after_blanks (columns_of k w bytes)))) (stands k w pos)

-- and a line does, since all its fields do
own_all : (sheet : List ℕ) (a b c d e : FieldAnswer) → OwnField sheet a → OwnField sheet b → OwnField sheet c → OwnField sheet d → OwnField sheet e
    → AllOwn sheet (and_then a (λ v. and_then b (λ w. and_then c (λ x. and_then d (λ y. and_then e (λ z. fields v w x y z))))))
own_all sheet (refused_field n l k) b c d e p q r s t = tt
own_all sheet (field v) (refused_field n l k) c d e p q r s t = tt
own_all sheet (field v) (field w) (refused_field n l k) d e p q r s t = tt
own_all sheet (field v) (field w) (field x) (refused_field n l k) e p q r s t = tt
own_all sheet (field v) (field w) (field x) (field y) (refused_field n l k) p q r s t = tt
own_all sheet (field v) (field w) (field x) (field y) (field z) p q r s t = (p, q, r, s, t)

own_fields : (sheet : List ℕ) (m : ℕ) → AllOwn sheet (fields_of (line sheet m) (bytes sheet m))
own_fields sheet m =
    let at : ℕ → ℕ → FieldAnswer = in_columns (line sheet m) (bytes sheet m) in
    own_all sheet (at 1 2) (at 3 2) (at 5 5) (at 10 11) (at 21 11)
    (own_field sheet m 1 2 (omega arith)) (own_field sheet m 3 2 (omega arith)) (own_field sheet m 5 5 (omega arith))
    (own_field sheet m 10 11 (omega arith)) (own_field sheet m 21 11 (omega arith))

-- whatever the questions before them answer
own_tests : (sheet : List ℕ) (at-end feeds : Bool) (l : LineAnswer) (n k : ℕ) → AllOwn sheet l → AllOwn sheet (cond at-end end (cond feeds l (refused 31 n k)))
own_tests sheet true feeds l n k own = tt
own_tests sheet false true l n k own = own
own_tests sheet false false l n k own = tt

pub hands_out_its_own : HandsOutItsOwn
unfolding line bytes
hands_out_its_own sheet m =
    own_tests sheet (leb (length sheet) (32 * m)) (ends_at_32 (drop (32 * m) sheet)) _ (line sheet m) 1 (own_fields sheet m)
