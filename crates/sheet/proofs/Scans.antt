-- One byte more of a scan for a line feed: what is left decides.
use Rattle.std.proofs.Common.{◌≡◌, ℕ, ◌+◌, ◌<◌, Bool, cond, eqb, List, length, get_or, drop, Some, sym, ap, ◌∙◌, rules}
use Rattle.std.proofs.lemmas.Bool.{eq-eqb, ne_eqb}
use Rattle.std.proofs.lemmas.List.{at_drop_more}
use Rattle.std.specs.List.{position_from}
use Rattle.std.specs.Option.{option_eq}
use Rattle.std.specs.Prelude.{nat_eq}

-- whether the first line feed has the number n, where the first byte has the number i
abbrev pub feed_from : ℕ → ℕ → List ℕ → Bool
feed_from i n bytes = option_eq nat_eq (position_from (λ b. eqb b 10) i bytes) (Some n)

-- the first line feed: here, or further on
pub feed_yes : (xs : List ℕ) (i k n : ℕ) → i < length xs → get_or xs i 0 ≡ 10 → feed_from k n (drop i xs) ≡ eqb k n
feed_yes xs i k n h y =
    at_drop_more (feed_from k n) xs i 0 h
    ∙ ap (λ t. option_eq nat_eq (cond t (Some k) (position_from (λ b. eqb b 10) (k + 1) (drop (i + 1) xs))) (Some n)) (eq-eqb (get_or xs i 0) 10 y)

pub feed_no : (xs : List ℕ) (i k n : ℕ) → i < length xs → (get_or xs i 0 ≡ 10 → ⊥) → feed_from (k + 1) n (drop (i + 1) xs) ≡ feed_from k n (drop i xs)
feed_no xs i k n h y =
    sym (at_drop_more (feed_from k n) xs i 0 h
    ∙ ap (λ t. option_eq nat_eq (cond t (Some k) (position_from (λ b. eqb b 10) (k + 1) (drop (i + 1) xs))) (Some n)) (ne_eqb (get_or xs i 0) 10 y))

-- counted from 0, or from 1
pub eq_suc : (i n : ℕ) → eqb i n ≡ eqb (i + 1) (n + 1)
eq_suc i n = search rules
