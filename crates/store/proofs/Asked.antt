-- The two questions that a store asks. Assumes nothing.
use Rattle.std.proofs.Common.{◌≡◌, ℕ, ◌<◌, ◌≤◌, ltb, List, length, get_or, set, Some, None, Ok, Err, ap, ◌∙◌, ⊎_elim, arith}
use Rattle.std.proofs.lemmas.Option.{slice_get-get_or, slice_get_past}
use Rattle.std.proofs.lemmas.Bool.{cases_lt, lt-ltb, cond-true}
use Rattle.store.specs.declared.life.Life.{Life}
use Rattle.store.specs.declared.life.Life.TheVariants.{Endless, Left}
use Rattle.store.specs.declared.life.Fault.{Fault}
use Rattle.store.specs.declared.life.Fault.TheVariants.{OutOfRange}
use Rattle.store.specs.Stores.{stored, endless, granted, after, read_answer, write_answer, after_write, burnt_answer, least}

-- a cell outside is refused
pub read_outside : {C : Type 0} (xs : List C) (life : Life) (i : ℕ) → length xs ≤ i → read_answer (stored xs life) i ≡ Err OutOfRange
read_outside xs life i h = ap (granted life) (slice_get_past xs i h)

-- a cell inside is asked for life
pub read_inside : {C : Type 0} (xs : List C) (life : Life) (i : ℕ) (z : C) → i < length xs → read_answer (stored xs life) i ≡ granted life (Some (get_or xs i z))
read_inside xs life i z h = ap (granted life) (slice_get-get_or xs i z h)

-- an endless store accepts a write to a cell that is there
pub write_endless : {C : Type 0} (xs : List C) (i : ℕ) → i < length xs → write_answer (endless xs) i ≡ Ok tt
write_endless xs i h = ap (granted Endless) (cond-true (ltb i (length xs)) (Some tt) None (lt-ltb i (length xs) h))

pub written_endless : {C : Type 0} (xs : List C) (i : ℕ) (v : C) → i < length xs → after_write (endless xs) i v ≡ endless (set xs i v)
written_endless xs i v h = ap (λ r. after r (endless xs) (set xs i v)) (write_endless xs i h)

-- what a fuse refuses, it refuses as the store that it means
pub burnt_read : {C : Type 0} (xs : List C) (life : Life) (i left : ℕ) (z : C) (e : Fault)
    → Err e ≡ burnt_answer left (length xs) i → read_answer (stored xs (least left life)) i ≡ Err e
burnt_read xs Endless i left z e h = ⊎_elim
    (λ lt. read_inside xs (Left left) i z lt ∙ grind arith)
    (λ ge. read_outside xs (Left left) i ge ∙ grind arith)
    (cases_lt i (length xs))
burnt_read xs (Left k) i left z e h = ⊎_elim
    (λ lt. read_inside xs (least left (Left k)) i z lt ∙ grind arith)
    (λ ge. read_outside xs (least left (Left k)) i ge ∙ grind arith)
    (cases_lt i (length xs))
