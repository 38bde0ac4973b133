-- One answer printed, and then the rest. Assumes nothing.
use Rattle.std.proofs.Common.{◌≡◌, ℕ, ◌+◌, min, List, [], ◌∷◌, ◌++◌, ◌⊎◌, sym, refl, ⊎_elim, append_assoc, append-nil}
use Rattle.sheet.specs.Text.{most}
use Rattle.rules.specs.declared.answer.Answer.{Answer}
use Rattle.script.specs.Scripts.{answered, answer_line, line_bytes}

-- the lines so far, with an answer's line and the rest
pub one_more : (n m : ℕ) (xs ys : List ℕ) (a : Answer) (g : ℕ) (left rs : List Answer) (cells gs : List ℕ) → left ≡ a ∷ rs → cells ≡ g ∷ gs → m ≡ n + 1
    → ys ≡ xs ++ line_bytes (answer_line (min (n + 1) most) a g) → ys ++ answered m rs gs ≡ xs ++ answered n left cells
unfolding answered
one_more n m xs ys a g left rs cells gs p q r e = rw (p, q, r, e) (append_assoc xs (line_bytes (answer_line (min (n + 1) most) a g)) (answered (n + 1) rs gs))

answered_none : (n : ℕ) (rs : List Answer) → answered n rs [] ≡ []
unfolding answered
answered_none n [] = refl
answered_none n (a ∷ rs) = refl

-- nothing is left to print
pub all_printed : (n : ℕ) (xs : List ℕ) (rs : List Answer) (gs : List ℕ) → (rs ≡ []) ⊎ (gs ≡ []) → xs ≡ xs ++ answered n rs gs
unfolding answered
all_printed n xs rs gs h = ⊎_elim
    (λ (e : rs ≡ []). rw e (sym (append-nil xs)))
    (λ (e : gs ≡ []). rw (e, answered_none n rs) (sym (append-nil xs)))
    h
