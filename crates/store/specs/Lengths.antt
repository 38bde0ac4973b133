-- The lengths of several stores.
use Rattle.std.specs.Prelude.{ℕ, Bool, true, ◌&&◌, List, [], ◌∷◌, length, ◌==◌}
use Rattle.store.specs.Stores.{Stored}

-- has each of the stores m cells?
abbrev pub all_long : {V : Type 0} → ℕ → List (Stored V) → Bool
all_long m [] = true
all_long m (l ∷ ls) = length l.cells == m && all_long m ls
