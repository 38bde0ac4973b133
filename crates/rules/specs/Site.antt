-- A site by what it means, and each operation on its stores.
use Rattle.std.specs.Prelude.{ℕ, List, Some, None, Ok, Err, Option, Result}
use Rattle.store.specs.Stores.{Stored, read_answer, write_answer, after_read, after_write}
use Rattle.store.specs.declared.life.Fault.{Fault}
use Rattle.records.specs.Clients.{asked, changed}
use Rattle.records.specs.Records.{Records}
use Rattle.records.specs.declared.fault.SiteFault.{SiteFault}
use Rattle.records.specs.declared.fault.SiteFault.TheVariants.{NoClient, Store}
use Rattle.records.specs.declared.fault.StoreName.{StoreName}
use Rattle.records.specs.declared.fault.StoreName.TheVariants.{Local, Marks, Disk}
use Rattle.records.specs.declared.fault.Operation.{Operation}
use Rattle.records.specs.declared.fault.Operation.TheVariants.{Read, Write}

-- a site, one reference disk and its caches: the disk, the marks (the session in which each disk cell was last written),
-- each client's local store, whose last cell is the journal, and the records
pub record State (V : Type 0) : Type 0 where
  pub disk : Stored V
  pub marks : Stored ℕ
  pub locals : List (Stored V)
  pub table : Records

-- what a call leaves and answers
pub record Outcome (V X : Type 0) : Type 0 where
  pub state : State V
  pub answer : Result X SiteFault

abbrev pub outcome : {V X : Type 0} → State V → Result X SiteFault → Outcome V X
outcome s r = record { state = s; answer = r }

-- a question or an operation, and what follows where it is not refused
abbrev pub next : {V X Y : Type 0} → State V → Result X SiteFault → (State V → X → Outcome V Y) → Outcome V Y
next s (Ok x) f = f s x
next s (Err e) f = outcome s (Err e)

infixr 20 ◌then◌
abbrev pub ◌then◌ : {V X Y : Type 0} → Outcome V X → (State V → X → Outcome V Y) → Outcome V Y
◌then◌ o f = next o.state o.answer f

-- a site with one part replaced
abbrev pub with_table : {V : Type 0} → State V → Records → State V
with_table s t = record { disk = s.disk; marks = s.marks; locals = s.locals; table = t }

abbrev pub with_disk : {V : Type 0} → State V → Stored V → State V
with_disk s d = record { disk = d; marks = s.marks; locals = s.locals; table = s.table }

abbrev pub with_marks : {V : Type 0} → State V → Stored ℕ → State V
with_marks s m = record { disk = s.disk; marks = m; locals = s.locals; table = s.table }

abbrev pub with_locals : {V : Type 0} → State V → List (Stored V) → State V
with_locals s ls = record { disk = s.disk; marks = s.marks; locals = ls; table = s.table }

-- what a store answers, its fault held whole with the store, the cell and the operation
abbrev pub told : {X : Type 0} → StoreName → ℕ → Operation → Result X Fault → Result X SiteFault
told w i o (Ok x) = Ok x
told w i o (Err e) = Err (Store (record { store = w; cell = i; operation = o; fault = e }))

-- the same of a local store; every client that is there has one
abbrev pub told_local : {X : Type 0} → ℕ → Operation → Option (Result X Fault) → Result X SiteFault
told_local i o None = Err NoClient
told_local i o (Some r) = told Local i o r

-- a read or a write of cell i of the disk, of the marks, and of client k's local store
abbrev pub disk_read : {V : Type 0} → State V → ℕ → Outcome V V
disk_read s i = outcome (with_disk s (after_read s.disk i)) (told Disk i Read (read_answer s.disk i))

abbrev pub disk_write : {V : Type 0} → State V → ℕ → V → Outcome V (Unit {0})
disk_write s i v = outcome (with_disk s (after_write s.disk i v)) (told Disk i Write (write_answer s.disk i))

abbrev pub mark_read : {V : Type 0} → State V → ℕ → Outcome V ℕ
mark_read s i = outcome (with_marks s (after_read s.marks i)) (told Marks i Read (read_answer s.marks i))

abbrev pub mark_write : {V : Type 0} → State V → ℕ → ℕ → Outcome V (Unit {0})
mark_write s i n = outcome (with_marks s (after_write s.marks i n)) (told Marks i Write (write_answer s.marks i))

abbrev pub local_read : {V : Type 0} → State V → ℕ → ℕ → Outcome V V
local_read s k i = outcome (with_locals s (changed (λ b. after_read b i) s.locals k)) (told_local i Read (asked (λ b. read_answer b i) s.locals k))

abbrev pub local_write : {V : Type 0} → State V → ℕ → ℕ → V → Outcome V (Unit {0})
local_write s k i v = outcome (with_locals s (changed (λ b. after_write b i v) s.locals k)) (told_local i Write (asked (λ b. write_answer b i) s.locals k))
