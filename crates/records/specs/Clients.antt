-- Lists told by client number, from 1.
use Rattle.std.specs.Prelude.{ℕ, zero, suc, List, [], ◌∷◌, Some, None, Option}

-- f of the entry of client k, if there is one
abbrev pub asked : {X Y : Type 0} → (X → Y) → List X → ℕ → Option Y
asked f [] k = None
asked f (x ∷ xs) zero = None
asked f (x ∷ xs) (suc zero) = Some (f x)
asked f (x ∷ xs) (suc (suc k)) = asked f xs (suc k)

-- the list with f applied to the entry of client k
abbrev pub changed : {X : Type 0} → (X → X) → List X → ℕ → List X
changed f [] k = []
changed f (x ∷ xs) zero = x ∷ xs
changed f (x ∷ xs) (suc zero) = f x ∷ xs
changed f (x ∷ xs) (suc (suc k)) = x ∷ changed f xs (suc k)
