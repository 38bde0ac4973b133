-- What an event makes of a cell's record, and what the client has to do after it.
use Rattle.std.specs.Prelude.{ℕ, false, cond, ◌||◌, Some, None, Option}
use Rattle.records.specs.Cells.{settled, fresh, marked, written_cell, swept_cell, unchecked_cell, dirtied}
use Rattle.records.specs.declared.records.CellRecord.{CellRecord}
use Rattle.records.specs.declared.events.Event.{Event}
use Rattle.records.specs.declared.events.Event.TheVariants.{Read, Write, Begin, Sweep, Restart}
use Rattle.records.specs.declared.events.Reaction.{Reaction}
use Rattle.records.specs.declared.events.Reaction.TheVariants.{Local, Ask, Confirm, Fetch, Change, Forget}

-- a read that the local copy does not settle, by the server's mark
abbrev pub read_reaction : CellRecord → Option ℕ → Reaction
read_reaction r None = Ask
read_reaction r (Some mark) = cond (fresh r.kept mark) Confirm Fetch

abbrev pub read_cell : CellRecord → Option ℕ → CellRecord
read_cell r None = r
read_cell r (Some mark) = cond (fresh r.kept mark) (marked r r.kept) (marked r (Some mark))

abbrev pub reaction : CellRecord → Event → Reaction
reaction r (Read journal mark) = cond (settled r journal) Local (read_reaction r mark)
reaction r (Write session) = Change
reaction r Begin = Change
reaction r (Sweep mark) = cond (fresh r.kept mark) Confirm Forget
reaction r (Restart journal) = Change

abbrev pub reacted : CellRecord → Event → CellRecord
reacted r (Read journal mark) = cond (settled r journal) r (read_cell r mark)
reacted r (Write session) = written_cell session
reacted r Begin = dirtied false r
reacted r (Sweep mark) = swept_cell r mark
reacted r (Restart journal) = unchecked_cell (dirtied (r.dirty || journal) r)
