-- One cell, and then the rest. Assumes nothing.
use Rattle.std.proofs.Common.{◌≡◌, ℕ, suc, ◌+◌, ◌-◌, ◌<◌, ◌≤◌, Ok, Err, Result, sym, refl, ap, ◌∙◌, arith}
use Rattle.store.specs.Stores.{Stored}
use Rattle.transfer.specs.declared.Stop.{Stop}
use Rattle.transfer.specs.Copies.{Moved, moved, copied_cell, copied_from, go_on}

module _ {C : Type 0} (n i : ℕ) (a b : Stored C) where
  -- a cell that is left to copy is copied first
  first_then : i < n → copied_from (n - i) i a b ≡ go_on (copied_from (n - (i + 1)) (i + 1)) (copied_cell a b i).from (copied_cell a b i).to (copied_cell a b i).answer
  unfolding copied_from
  first_then h = let e : n - i ≡ suc (n - (i + 1)) = omega arith in rw e refl

  then_rest : (a' b' : Stored C) (r : Result (Unit {0}) Stop) → i < n → moved a' b' r ≡ copied_cell a b i → go_on (copied_from (n - (i + 1)) (i + 1)) a' b' r ≡ copied_from (n - i) i a b
  then_rest a' b' r h e = ap (λ (m : Moved C). go_on (copied_from (n - (i + 1)) (i + 1)) m.from m.to m.answer) e ∙ sym (first_then h)

  -- the cell was accepted: the rest gives the whole
  pub one_more : (a' b' : Stored C) → i < n → moved a' b' (Ok tt) ≡ copied_cell a b i → copied_from (n - (i + 1)) (i + 1) a' b' ≡ copied_from (n - i) i a b
  one_more a' b' h e = then_rest a' b' (Ok tt) h e

  -- the cell was refused: that is the end
  pub stopped : (a' b' : Stored C) (s : Stop) → i < n → moved a' b' (Err s) ≡ copied_cell a b i → moved a' b' (Err s) ≡ copied_from (n - i) i a b
  stopped a' b' s h e = then_rest a' b' (Err s) h e

  -- nothing is left
  pub all_copied : n ≤ i → moved a b (Ok tt) ≡ copied_from (n - i) i a b
  unfolding copied_from
  all_copied h = let e : n - i ≡ 0 = omega arith in rw e refl
