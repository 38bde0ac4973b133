-- What each refusal says: its number, the place that it names itself, and the store's fault that it holds.
use Rattle.std.specs.Prelude.{ℕ, Some, None, Option}
use Rattle.records.specs.declared.fault.Unfit.{Unfit}
use Rattle.records.specs.declared.fault.Unfit.TheVariants.{DiskSize, MarksSize, ClientCount, LocalSize, MarkUnread, MarkAbove}
use Rattle.records.specs.declared.fault.SiteFault.{SiteFault}
use Rattle.records.specs.declared.fault.SiteFault.TheVariants as fault
use Rattle.records.specs.declared.fault.StoreFault.{StoreFault}
use Rattle.records.specs.declared.fault.StoreName.{StoreName}
use Rattle.records.specs.declared.fault.StoreName.TheVariants.{Local, Marks, Disk}

-- the question of the making that got the no
abbrev pub unfit_number : Unfit → ℕ
unfit_number DiskSize = 1
unfit_number MarksSize = 2
unfit_number ClientCount = 3
unfit_number LocalSize = 4
unfit_number MarkUnread = 5
unfit_number MarkAbove = 6

-- the question that a store which refuses answers with a no
abbrev pub store_number : StoreName → ℕ
store_number Local = 18
store_number Marks = 19
store_number Disk = 20

pub record Saying : Type 0 where
  pub number : ℕ
  pub place : Option ℕ
  pub held : Option StoreFault

-- a refusal that says no more than its number
abbrev pub only : ℕ → Saying
only n = record { number = n; place = None; held = None }

abbrev pub says : SiteFault → Saying
says fault.Unfit = only 7
says fault.NoClient = only 8
says fault.Held = only 9
says fault.SessionsUsed = only 10
says fault.NotHolding = only 11
says fault.NoCell = only 12
says fault.JournalUsed = only 13
says fault.NotDirty = only 14
says fault.TurnsUsed = only 15
says fault.NoFlush = only 16
says (fault.Unsent i) = record { number = 17; place = Some i; held = None }
says (fault.Store f) = record { number = store_number f.store; place = None; held = Some f }
says fault.RowsUnequal = only 23
says fault.NoCall = only 24
