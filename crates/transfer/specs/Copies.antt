-- What a copy from one store to another leaves and answers. Assumes nothing.
use Rattle.std.specs.Prelude.{◌≡◌, ℕ, zero, suc, ◌+◌, ◌<◌, ◌≤◌, List, Ok, Err, Result}
use Rattle.std.specs.List.{slice_get}
use Rattle.store.specs.declared.life.Fault.{Fault}
use Rattle.store.specs.Stores.{Stored, read_answer, after_read, write_answer, after_write}
use Rattle.transfer.specs.declared.Side.{Side}
use Rattle.transfer.specs.declared.Side.TheVariants.{Source, Target}
use Rattle.transfer.specs.declared.Stop.{Stop}

-- the two stores after, and the answer
pub record Moved (C : Type 0) : Type 0 where
  pub from : Stored C
  pub to : Stored C
  pub answer : Result (Unit {0}) Stop

abbrev pub moved : {C : Type 0} → Stored C → Stored C → Result (Unit {0}) Stop → Moved C
moved a b r = record { from = a; to = b; answer = r }

abbrev pub stop : ℕ → Side → Fault → Stop
stop i side e = record { at = i; side = side; fault = e }

-- what the target answers of cell i
abbrev pub told : ℕ → Result (Unit {0}) Fault → Result (Unit {0}) Stop
told i (Ok x) = Ok x
told i (Err e) = Err (stop i Target e)

-- what the source answered of cell i is written, if it is a cell
abbrev pub put_on : {C : Type 0} → Stored C → Stored C → ℕ → Result C Fault → Moved C
put_on a b i (Ok v) = moved a (after_write b i v) (told i (write_answer b i))
put_on a b i (Err e) = moved a b (Err (stop i Source e))

-- cell i is read and then written
abbrev pub copied_cell : {C : Type 0} → Stored C → Stored C → ℕ → Moved C
copied_cell a b i = put_on (after_read a i) b i (read_answer a i)

-- the rest where there was no refusal
abbrev pub go_on : {C : Type 0} → (Stored C → Stored C → Moved C) → Stored C → Stored C → Result (Unit {0}) Stop → Moved C
go_on more a b (Ok x) = more a b
go_on more a b (Err s) = moved a b (Err s)

-- n more cells from cell i on, in order, up to the first refusal
unfoldable pub copied_from : {C : Type 0} → ℕ → ℕ → Stored C → Stored C → Moved C
copied_from zero i a b = moved a b (Ok tt)
copied_from (suc n) i a b = let m = copied_cell a b i in go_on (copied_from n (i + 1)) m.from m.to m.answer

-- how far a copy came that was to go to cell n
abbrev pub reached : ℕ → Result (Unit {0}) Stop → ℕ
reached n (Ok x) = n
reached n (Err s) = s.at

-- zs has the cells of xs from `start` on and before `end`, and elsewhere those of ys
pub record Overlaid {C : Type 0} (start end : ℕ) (xs ys zs : List C) : Type 0 where
  pub inside : (k : ℕ) → start ≤ k → k < end → slice_get zs k ≡ slice_get xs k
  pub before : (k : ℕ) → k < start → slice_get zs k ≡ slice_get ys k
  pub beyond : (k : ℕ) → end ≤ k → slice_get zs k ≡ slice_get ys k
