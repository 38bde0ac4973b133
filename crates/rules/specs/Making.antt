-- The making of a site, with the questions 1 to 6.
use Rattle.std.specs.Prelude.{ℕ, zero, suc, ◌+◌, cond, ◌&&◌, List, length, Some, None, Ok, Err, Option, Result, ◌==◌, nat_le, nat_lt}
use Rattle.store.specs.Lengths.{all_long}
use Rattle.store.specs.Stores.{Stored, read_answer, after_read}
use Rattle.store.specs.declared.life.Fault.{Fault}
use Rattle.records.specs.Records.{new_records}
use Rattle.rules.specs.Site.{State}
use Rattle.records.specs.declared.fault.Unfit.{Unfit}
use Rattle.records.specs.declared.fault.Unfit.TheVariants.{DiskSize, MarksSize, ClientCount, LocalSize, MarkUnread, MarkAbove}

-- the first no, if there is one, and the marks store after
pub record Looked : Type 0 where
  pub first : Option Unfit
  pub marks : Stored ℕ

abbrev pub looked : Option Unfit → Stored ℕ → Looked
looked u ms = record { first = u; marks = ms }

-- of one mark: 5, could it be read? 6, is it at most the starting session? And then the rest
abbrev pub look_more : (Stored ℕ → Looked) → ℕ → Stored ℕ → Result ℕ Fault → Looked
look_more rest session ms (Ok x) = cond (nat_le x session) (rest ms) (looked (Some MarkAbove) ms)
look_more rest session ms (Err e) = looked (Some MarkUnread) ms

-- n more marks, from cell i on, each read once; a no ends it
unfoldable pub look_from : ℕ → ℕ → ℕ → Stored ℕ → Looked
look_from zero i session ms = looked None ms
look_from (suc n) i session ms = look_more (look_from n (i + 1) session) session (after_read ms i) (read_answer ms i)

-- 1, has the disk 1 to 1,024 cells? 2, have the marks as many? 3, are there 1 to 8 clients? 4, has each local store exactly one cell more?
-- And then 5 and 6, mark by mark
unfoldable pub surveyed : {V : Type 0} → Stored V → Stored ℕ → List (Stored V) → ℕ → Looked
surveyed d ms ls session =
    cond (nat_lt 0 (length d.cells) && nat_le (length d.cells) 1024)
    (cond (length ms.cells == length d.cells)
    (cond (nat_lt 0 (length ls) && nat_le (length ls) 8)
    (cond (all_long (length d.cells + 1) ls) (look_from (length d.cells) 0 session ms) (looked (Some LocalSize) ms))
    (looked (Some ClientCount) ms))
    (looked (Some MarksSize) ms))
    (looked (Some DiskSize) ms)

-- an unfit site answers for no cell and no client
abbrev pub within : Option Unfit → ℕ → ℕ
within None n = n
within (Some u) n = 0

-- the site of what was found
abbrev pub new_site : {V : Type 0} → Stored V → List (Stored V) → ℕ → Looked → State V
new_site d ls session x =
    record { disk = d; marks = x.marks; locals = ls; table = new_records x.first (within x.first (length d.cells)) (within x.first (length ls)) session }

-- what a site is made from
pub record Start (V : Type 0) : Type 0 where
  pub disk : Stored V
  pub marks : Stored ℕ
  pub locals : List (Stored V)
  pub session : ℕ

-- making always gives a site
abbrev pub making : {V : Type 0} → Stored V → Stored ℕ → List (Stored V) → ℕ → State V
making d ms ls session = new_site d ls session (surveyed d ms ls session)

-- the same of a start
abbrev pub made : {V : Type 0} → Start V → State V
made x = making x.disk x.marks x.locals x.session
