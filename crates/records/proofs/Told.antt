-- Laws of lists told by client number.
use Rattle.std.proofs.Common.{◌≡◌, ℕ, zero, suc, ◌<◌, List, [], ◌∷◌, length, get_or, set, Some, None, sym, refl, ap, ◌∙◌, ⊎_elim, add-one, arith}
use Rattle.records.specs.Clients.{asked, changed}
use Rattle.records.specs.Shape.{Stands}

asked_suc : {X Y : Type 0} (f : X → Y) (xs : List X) (p : ℕ) (d : X) → p < length xs → asked f xs (suc p) ≡ Some (f (get_or xs p d))
asked_suc f [] p d h = absurd (omega arith)
asked_suc f (x ∷ xs) zero d h = refl
asked_suc f (x ∷ xs) (suc p) d h = asked_suc f xs p d (omega arith)

changed_at : {X : Type 0} (f : X → X) (xs : List X) (p : ℕ) (d : X) → changed f xs (suc p) ≡ set xs p (f (get_or xs p d))
changed_at f [] p d = refl
changed_at f (x ∷ xs) zero d = refl
changed_at f (x ∷ xs) (suc p) d = ap (λ ys. x ∷ ys) (changed_at f xs p d)

asked_none : {X Y : Type 0} (f : X → Y) (xs : List X) → asked f xs 0 ≡ None
asked_none f [] = refl
asked_none f (x ∷ xs) = refl

changed_none : {X : Type 0} (f : X → X) (xs : List X) → changed f xs 0 ≡ xs
changed_none f [] = refl
changed_none f (x ∷ xs) = refl

asked_past : {X Y : Type 0} (f : X → Y) (xs : List X) (k : ℕ) → length xs < k → asked f xs k ≡ None
asked_past f [] k h = refl
asked_past f (x ∷ xs) zero h = absurd (omega arith)
asked_past f (x ∷ xs) (suc zero) h = absurd (omega arith)
asked_past f (x ∷ xs) (suc (suc k)) h = asked_past f xs (suc k) (omega arith)

changed_past : {X : Type 0} (f : X → X) (xs : List X) (k : ℕ) → length xs < k → changed f xs k ≡ xs
changed_past f [] k h = refl
changed_past f (x ∷ xs) zero h = absurd (omega arith)
changed_past f (x ∷ xs) (suc zero) h = absurd (omega arith)
changed_past f (x ∷ xs) (suc (suc k)) h = ap (λ ys. x ∷ ys) (changed_past f xs (suc k) (omega arith))

module _ {X : Type 0} (xs : List X) (k : ℕ) where
  -- a number outside the list
  pub asked_out : {Y : Type 0} (f : X → Y) → Stands xs k None → None ≡ asked f xs k
  asked_out f s = sym (⊎_elim (λ (z : k ≡ 0). ap (asked f xs) z ∙ asked_none f xs) (λ (h : length xs < k). asked_past f xs k h) s)

  pub changed_out : (f : X → X) → Stands xs k None → changed f xs k ≡ xs
  changed_out f s = ⊎_elim (λ (z : k ≡ 0). ap (changed f xs) z ∙ changed_none f xs) (λ (h : length xs < k). changed_past f xs k h) s

  -- a number with a place in it
  pub asked_in : {Y : Type 0} (f : X → Y) (p : ℕ) (d : X) → Stands xs k (Some p) → Some (f (get_or xs p d)) ≡ asked f xs k
  asked_in f p d s = sym (ap (asked f xs) (s.0 ∙ add-one p) ∙ asked_suc f xs p d s.1)

  pub changed_in : (f : X → X) (p : ℕ) (d : X) → Stands xs k (Some p) → set xs p (f (get_or xs p d)) ≡ changed f xs k
  changed_in f p d s = sym (ap (changed f xs) (s.0 ∙ add-one p) ∙ changed_at f xs p d)

-- one change after another
pub changed_twice : {X : Type 0} (f g : X → X) (xs : List X) (k : ℕ) → changed g (changed f xs k) k ≡ changed (λ x. g (f x)) xs k
changed_twice f g [] k = refl
changed_twice f g (x ∷ xs) zero = refl
changed_twice f g (x ∷ xs) (suc zero) = refl
changed_twice f g (x ∷ xs) (suc (suc k)) = ap (λ ys. x ∷ ys) (changed_twice f g xs (suc k))

-- two changes that are the same on the entry that is there
pub changed_same : {X Y : Type 0} (a : X → Y) (y : Y) (f g : X → X) → ((x : X) → a x ≡ y → f x ≡ g x) → (xs : List X) (k : ℕ) → ((z : Y) → asked a xs k ≡ Some z → z ≡ y) → changed f xs k ≡ changed g xs k
changed_same a y f g h [] k j = refl
changed_same a y f g h (x ∷ xs) zero j = refl
changed_same a y f g h (x ∷ xs) (suc zero) j = ap (λ z. z ∷ xs) (h x (j (a x) refl))
changed_same a y f g h (x ∷ xs) (suc (suc k)) j = ap (λ ys. x ∷ ys) (changed_same a y f g h xs (suc k) j)

pub changed_nothing : {X : Type 0} (xs : List X) (k : ℕ) → changed (λ x. x) xs k ≡ xs
changed_nothing [] k = refl
changed_nothing (x ∷ xs) zero = refl
changed_nothing (x ∷ xs) (suc zero) = refl
changed_nothing (x ∷ xs) (suc (suc k)) = ap (λ ys. x ∷ ys) (changed_nothing xs (suc k))
