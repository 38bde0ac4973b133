-- What a client knows of a cell, and what becomes of it.
use Rattle.std.specs.Prelude.{ℕ, Bool, true, false, cond, not, ◌&&◌, ◌||◌, is_some, Some, None, Option, nat_le}
use Rattle.records.specs.declared.records.CellRecord.{CellRecord}

-- on a new site a cell is absent, unchecked and clean
abbrev pub new_cell : CellRecord
new_cell = record { kept = None; checked = false; dirty = false }

-- the local copy counts as it is: the cell is dirty, in the journal, or kept and checked
abbrev pub settled : CellRecord → Bool → Bool
settled r journal = r.dirty || (journal || (is_some r.kept && r.checked))

-- kept with a mark not below the server's
abbrev pub fresh : Option ℕ → ℕ → Bool
fresh None mark = false
fresh (Some m) mark = nat_le mark m

-- a sweep reads the mark of a kept cell that is neither dirty nor in the journal
abbrev pub sweeps : CellRecord → Bool → Bool
sweeps r journal = is_some r.kept && not (r.dirty || journal)

-- checked, and kept with that mark
abbrev pub marked : CellRecord → Option ℕ → CellRecord
marked r m = record { kept = m; checked = true; dirty = r.dirty }

-- written in that session
abbrev pub written_cell : ℕ → CellRecord
written_cell session = record { kept = Some session; checked = true; dirty = true }

-- swept, with the server's mark: checked if it is fresh, else absent
abbrev pub swept_cell : CellRecord → ℕ → CellRecord
swept_cell r mark = cond (fresh r.kept mark) (marked r r.kept) (record { kept = None; checked = r.checked; dirty = r.dirty })

abbrev pub unchecked_cell : CellRecord → CellRecord
unchecked_cell r = record { kept = r.kept; checked = false; dirty = r.dirty }

-- dirty or clean
abbrev pub dirtied : Bool → CellRecord → CellRecord
dirtied b r = record { kept = r.kept; checked = r.checked; dirty = b }
