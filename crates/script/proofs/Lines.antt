-- One line read, and then the rest. Assumes nothing.
use Rattle.std.proofs.Common.{◌≡◌, ℕ, suc, ◌+◌, ◌-◌, ◌<◌, ◌≤◌, List, [], ◌∷◌, ◌++◌, min, Some, None, Option, sym, refl, ap, ◌∙◌, append_assoc, append-nil, arith}
use Rattle.sheet.specs.Sheet.{LineAnswer, end, refused, line_of, place_after}
use Rattle.sheet.specs.Text.{most}
use Rattle.sheet.specs.declared.output.OutputLine.{OutputLine}
use Rattle.rules.specs.declared.step.Step.{Step}
use Rattle.script.specs.Scripts.{Scripted, scripted, output, more, read_from}

-- steps in front of what is read
abbrev pub onto : List Step → Scripted → Scripted
onto xs s = scripted (xs ++ s.steps) s.last

module _ (sheet : List ℕ) (i place : ℕ) (a : LineAnswer) (xs : List Step) (h : i < 64) (e : a ≡ line_of sheet place) where
  -- a line that is left to read is read first
  line_first : read_from (64 - i) sheet place ≡ more a (read_from (64 - (i + 1)) sheet (place_after a place))
  unfolding read_from
  line_first = let n : 64 - i ≡ suc (64 - (i + 1)) = omega arith in rw (n, e) refl

  -- it ends the sheet
  pub stops : (last : Option OutputLine) → ((rest : Scripted) → more a rest ≡ scripted [] last) → scripted xs last ≡ onto xs (read_from (64 - i) sheet place)
  stops last m =
      ap (λ (ys : List Step). scripted ys last) (sym (append-nil xs))
      ∙ ap (onto xs) (sym (line_first ∙ m (read_from (64 - (i + 1)) sheet (place_after a place))))

  -- it is a step
  pub goes_on : (x : Step) → ((rest : Scripted) → more a rest ≡ onto (x ∷ []) rest) → onto (xs ++ (x ∷ [])) (read_from (64 - (i + 1)) sheet (place_after a place)) ≡ onto xs (read_from (64 - i) sheet place)
  goes_on x m =
      let rest = read_from (64 - (i + 1)) sheet (place_after a place) in
      ap (λ (ys : List Step). scripted ys rest.last) (append_assoc xs (x ∷ []) rest.steps)
      ∙ ap (onto xs) (sym (line_first ∙ m rest))

-- the sheet's end, and a refused line
module _ (sheet : List ℕ) (i place : ℕ) (xs : List Step) (h : i < 64) where
  pub at_end : end ≡ line_of sheet place → scripted xs None ≡ onto xs (read_from (64 - i) sheet place)
  at_end e = stops sheet i place end xs h e None (λ rest. refl)

  pub at_refusal : (number line column : ℕ) → refused number line column ≡ line_of sheet place → scripted xs (Some (output (min line most) number column 0 0)) ≡ onto xs (read_from (64 - i) sheet place)
  at_refusal number line column e = stops sheet i place (refused number line column) xs h e (Some (output (min line most) number column 0 0)) (λ rest. refl)

-- nothing is left to read
pub all_read : (sheet : List ℕ) (i place : ℕ) (xs : List Step) → 64 ≤ i → scripted xs None ≡ onto xs (read_from (64 - i) sheet place)
unfolding read_from
all_read sheet i place xs h =
    let n : 64 - i ≡ 0 = omega arith in
    rw n (ap (λ (ys : List Step). scripted ys None) (sym (append-nil xs)))
