-- What an accepted operation tells its caller. Assumes nothing.
use Rattle.std.proofs.Common.{◌≡◌, ℕ, ◌<◌, length, Some, None, Ok, Err, Option, Result, refl, arith}
use Rattle.std.specs.List.{slice_get}
use Rattle.store.specs.declared.life.Life.{Life}
use Rattle.store.specs.declared.life.Fault.{Fault}
use Rattle.store.specs.Stores.{Stored, after, granted, read_answer, write_answer}

granted_gives : {A : Type 0} (life : Life) (o : Option A) (x : A) → granted life o ≡ Ok x → o ≡ Some x
granted_gives life None x e = grind arith
granted_gives life (Some y) x e = grind arith

-- an accepted read gave the cell at its place
pub read_gives : {C : Type 0} (s : Stored C) (i : ℕ) (v : C) → read_answer s i ≡ Ok v → slice_get s.cells i ≡ Some v
read_gives s i v e = granted_gives s.life (slice_get s.cells i) v e

-- an accepted write was to a cell that is there
pub write_inside : {C : Type 0} (s : Stored C) (i : ℕ) → write_answer s i ≡ Ok tt → i < length s.cells
write_inside s i e = grind arith

-- an operation that puts the same cells back leaves the cells
pub cells_stay : {A C : Type 0} (r : Result A Fault) (s : Stored C) → (after r s s.cells).cells ≡ s.cells
cells_stay (Ok x) s = refl
cells_stay (Err e) s = refl
