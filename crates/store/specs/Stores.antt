-- What a store means: a list of cells and a life, and what its four functions make of them. Assumes nothing.
use Rattle.std.specs.Prelude.{ℕ, ◌+◌, ◌-◌, min, Bool, true, cond, List, [], length, take, drop, Some, None, Ok, Err, Option, Result, nat_le, nat_lt, slice_set, codes}
use Rattle.std.specs.List.{slice_get}
use Rattle.store.specs.declared.life.Life.{Life}
use Rattle.store.specs.declared.life.Life.TheVariants.{Endless, Left}
use Rattle.store.specs.declared.life.Fault.{Fault}
use Rattle.store.specs.declared.life.Fault.TheVariants.{OutOfRange, NoLife}

pub record Stored (C : Type 0) : Type 0 where
  pub cells : List C
  pub life : Life

abbrev pub stored : {C : Type 0} → List C → Life → Stored C
stored xs life = record { cells = xs; life = life }

-- cells with an endless life
abbrev pub endless : {C : Type 0} → List C → Stored C
endless xs = stored xs Endless

-- the number of each refusal
abbrev pub fault_number : Fault → ℕ
fault_number OutOfRange = 21
fault_number NoLife = 22

-- and its reason in words
abbrev pub fault_text : Fault → List ℕ
fault_text OutOfRange = codes "there is no such cell"
fault_text NoLife = codes "no life is left"

-- is life left?
abbrev pub alive : Life → Bool
alive Endless = true
alive (Left n) = nat_lt 0 n

-- the life after an accepted operation
abbrev pub spent : Life → Life
spent Endless = Endless
spent (Left n) = Left (n - 1)

-- the two questions in their order, of what the cell in question gives, if there is one: the first no gives its fault
abbrev pub granted : {A : Type 0} → Life → Option A → Result A Fault
granted life None = Err OutOfRange
granted life (Some x) = cond (alive life) (Ok x) (Err NoLife)

-- s as it was where the answer is a refusal, and the cells xs with one operation less where it is none
abbrev pub after : {A C : Type 0} → Result A Fault → Stored C → List C → Stored C
after (Ok x) s xs = stored xs (spent s.life)
after (Err e) s xs = s

-- a read of cell i
abbrev pub read_answer : {C : Type 0} → Stored C → ℕ → Result C Fault
read_answer s i = granted s.life (slice_get s.cells i)

abbrev pub after_read : {C : Type 0} → Stored C → ℕ → Stored C
after_read s i = after (read_answer s i) s s.cells

-- something where cell i is there
abbrev pub within : ℕ → ℕ → Option (Unit {0})
within n i = cond (nat_lt i n) (Some tt) None

-- a write of v to cell i
abbrev pub write_answer : {C : Type 0} → Stored C → ℕ → Result (Unit {0}) Fault
write_answer s i = granted s.life (within (length s.cells) i)

abbrev pub after_write : {C : Type 0} → Stored C → ℕ → C → Stored C
after_write s i v = after (write_answer s i) s (slice_set s.cells i v)

-- a numbered life becomes n
abbrev pub renewed : ℕ → Life → Life
renewed n Endless = Endless
renewed n (Left k) = Left n

abbrev pub after_renew : {C : Type 0} → ℕ → Stored C → Stored C
after_renew n s = stored s.cells (renewed n s.life)

-- the smaller of a number and a life, endless being the largest
abbrev pub least : ℕ → Life → Life
least n Endless = Left n
least n (Left k) = Left (min n k)

-- whether a fuse with `left` operations lets one on cell i of n pass
abbrev pub burnt_answer : ℕ → ℕ → ℕ → Result (Unit {0}) Fault
burnt_answer left n i = cond (nat_lt 0 left) (Ok tt) (cond (nat_lt i n) (Err NoLife) (Err OutOfRange))

-- the n cells from cell f on, and none where that passes the end
unfoldable pub part : {C : Type 0} → ℕ → ℕ → List C → List C
part f n cs = cond (nat_le (f + n) (length cs)) (take n (drop f cs)) []

-- how many cells that is, of a store of `count` cells
abbrev pub span_of : ℕ → ℕ → ℕ → ℕ
span_of f n count = cond (nat_le (f + n) count) n 0

-- the cell below that is its cell i, if it has one
abbrev pub through : ℕ → ℕ → ℕ → ℕ → Result ℕ Fault
through f n count i = cond (nat_lt i (span_of f n count)) (Ok (f + i)) (Err OutOfRange)

-- what a window leaves out: its place, the cells before and after it, and what lies below
pub record Around (R C : Type 0) : Type 0 where
  pub first : ℕ
  pub size : ℕ
  pub before : List C
  pub after : List C
  pub rest : R

abbrev pub around : {R C : Type 0} → ℕ → ℕ → List C → R → Around R C
around f n cs r = record { first = f; size = n; before = take f cs; after = drop (f + n) cs; rest = r }
