-- The records of a site, by client number from 1 and cell number from 0, and how they change.
use Rattle.std.specs.Prelude.{ℕ, Bool, true, false, ◌&&◌, ◌||◌, List, map, replicate, Some, None, Option, ◌==◌, slice_index_or, slice_set}
use Rattle.std.specs.List.{slice_get}
use Rattle.std.specs.Option.{unwrap_or, option_flatten}
use Rattle.records.specs.Clients.{asked, changed}
use Rattle.records.specs.Cells.{new_cell, unchecked_cell, dirtied}
use Rattle.records.specs.declared.records.CellRecord.{CellRecord}
use Rattle.records.specs.declared.records.ClientRecord.{ClientRecord}
use Rattle.records.specs.declared.records.Flush.{Flush}
use Rattle.records.specs.declared.fault.Unfit.{Unfit}

-- why the site is unfit, if it is; how many cells and clients it has; the server's record, which is the
-- latest session and who holds it, if anybody; and the clients' records, of which the first `count` are in use
pub record Records : Type 0 where
  pub unfit : Option Unfit
  pub size : ℕ
  pub count : ℕ
  pub session : ℕ
  pub holder : Option ℕ
  pub clients : List ClientRecord

-- the largest number
abbrev pub top : ℕ
top = 4294967295

-- is it that number?
abbrev pub names : Option ℕ → ℕ → Bool
names None k = false
names (Some i) k = i == k

-- client k's record, if there is one
unfoldable pub client_of : Records → ℕ → Option ClientRecord
client_of t k = asked (λ c. c) t.clients k

-- what client k's record says: of cell i; which cell is in the journal; the note; and the turn, which counts the flushes begun
unfoldable pub cell_of : Records → ℕ → ℕ → Option CellRecord
cell_of t k i = option_flatten (asked (λ c. slice_get c.cells i) t.clients k)

unfoldable pub journal_of : Records → ℕ → Option ℕ
journal_of t k = option_flatten (asked (λ c. c.journal) t.clients k)

unfoldable pub note_of : Records → ℕ → Option Flush
note_of t k = option_flatten (asked (λ c. c.note) t.clients k)

unfoldable pub turn_of : Records → ℕ → ℕ
turn_of t k = unwrap_or (asked (λ c. c.turn) t.clients k) 0

-- a flush of that cell and turn is in the journal
abbrev pub flush_is : ClientRecord → ℕ → ℕ → Bool
flush_is c i turn = names c.journal i && c.turn == turn

-- the same of client k's record
unfoldable pub flushing : Records → ℕ → ℕ → ℕ → Bool
flushing t k i turn = unwrap_or (asked (λ c. flush_is c i turn) t.clients k) false

-- a cell without a record counts as new
abbrev pub record_of : Records → ℕ → ℕ → CellRecord
record_of t k i = unwrap_or (cell_of t k i) new_cell

-- is cell i in client k's journal?
abbrev pub is_in_journal : Records → ℕ → ℕ → Bool
is_in_journal t k i = names (journal_of t k) i

-- dirty or in the journal
abbrev pub unsent_at : Records → ℕ → ℕ → Bool
unsent_at t k i = (record_of t k i).dirty || is_in_journal t k i

-- records with one part replaced
abbrev pub with_clients : Records → List ClientRecord → Records
with_clients t cs = record { unfit = t.unfit; size = t.size; count = t.count; session = t.session; holder = t.holder; clients = cs }

abbrev pub with_holder : Records → ℕ → Option ℕ → Records
with_holder t n h = record { unfit = t.unfit; size = t.size; count = t.count; session = n; holder = h; clients = t.clients }

abbrev pub with_cells : ClientRecord → List CellRecord → ClientRecord
with_cells c xs = record { cells = xs; journal = c.journal; turn = c.turn; note = c.note }

abbrev pub with_journal : ClientRecord → Option ℕ → ClientRecord
with_journal c j = record { cells = c.cells; journal = j; turn = c.turn; note = c.note }

abbrev pub with_note : ClientRecord → Option Flush → ClientRecord
with_note c n = record { cells = c.cells; journal = c.journal; turn = c.turn; note = n }

-- client k's record of cell i becomes r
abbrev pub with_cell : Records → ℕ → ℕ → CellRecord → Records
with_cell t k i r = with_clients t (changed (λ c. with_cells c (slice_set c.cells i r)) t.clients k)

-- the note, a slip that a run has put aside in client k's record, becomes n
abbrev pub noted : Records → ℕ → Option Flush → Records
noted t k n = with_clients t (changed (λ c. with_note c n) t.clients k)

-- all cells of client k become unchecked
abbrev pub unchecked_client : ClientRecord → ClientRecord
unchecked_client c = with_cells c (map unchecked_cell c.cells)

abbrev pub unchecked : Records → ℕ → Records
unchecked t k = with_clients t (changed unchecked_client t.clients k)

-- an open: client k holds session n
abbrev pub opened : Records → ℕ → ℕ → Records
opened t k n = unchecked (with_holder t n (Some k)) k

-- a close: nobody holds
abbrev pub closed : Records → ℕ → Records
closed t k = unchecked (with_holder t t.session None) k

-- a begin: cell i, with the record r, stops being dirty and is in the journal, and the turn is n
abbrev pub begun_client : ClientRecord → ℕ → CellRecord → ℕ → ClientRecord
begun_client c i r n = record { cells = slice_set c.cells i (dirtied false r); journal = Some i; turn = n; note = c.note }

abbrev pub begun : Records → ℕ → ℕ → CellRecord → ℕ → Records
begun t k i r n = with_clients t (changed (λ c. begun_client c i r n) t.clients k)

-- a commit: the journal is empty
abbrev pub emptied : Records → ℕ → Records
emptied t k = with_clients t (changed (λ c. with_journal c None) t.clients k)

-- cell i becomes dirty
abbrev pub soiled_at : List CellRecord → ℕ → List CellRecord
soiled_at xs i = slice_set xs i (dirtied true (slice_index_or xs i new_cell))

-- a flush given up: the cell becomes dirty and the journal empty
abbrev pub given_up_client : ClientRecord → ℕ → ClientRecord
given_up_client c i = with_journal (with_cells c (soiled_at c.cells i)) None

abbrev pub given_up : Records → ℕ → ℕ → Records
given_up t k i = with_clients t (changed (λ c. given_up_client c i) t.clients k)

-- a cell in the journal becomes dirty
abbrev pub soiled : List CellRecord → Option ℕ → List CellRecord
soiled xs None = xs
soiled xs (Some j) = soiled_at xs j

-- the same, and unchecked
abbrev pub revived : List CellRecord → Option ℕ → List CellRecord
revived xs None = xs
revived xs (Some j) = slice_set xs j (unchecked_cell (dirtied true (slice_index_or xs j new_cell)))

-- a restart: a cell in the journal becomes dirty, journal and note empty, and all cells unchecked
abbrev pub restarted_client : ClientRecord → ClientRecord
restarted_client c = record { cells = map unchecked_cell (soiled c.cells c.journal); journal = None; turn = c.turn; note = None }

abbrev pub restarted : Records → ℕ → Records
restarted t k = with_clients t (changed restarted_client t.clients k)

-- the records of a new site
unfoldable pub new_client : ClientRecord
new_client = record { cells = replicate 1024 new_cell; journal = None; turn = 0; note = None }

unfoldable pub new_clients : List ClientRecord
new_clients = replicate 8 new_client

abbrev pub new_records : Option Unfit → ℕ → ℕ → ℕ → Records
new_records unfit size count session = record { unfit = unfit; size = size; count = count; session = session; holder = None; clients = new_clients }
