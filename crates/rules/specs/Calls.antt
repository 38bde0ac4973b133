-- The ten calls: the questions in their order, then the operations in theirs, then the change of the records. A no ends the call there.
use Rattle.std.specs.Prelude.{ℕ, zero, suc, ◌+◌, Bool, false, cond, not, Some, None, Ok, Err, Option, Result}
use Rattle.store.specs.Stores.{after_renew}
use Rattle.records.specs.Clients.{changed}
use Rattle.records.specs.Cells.{settled, fresh, sweeps, marked, written_cell, swept_cell}
use Rattle.records.specs.Records.{is_in_journal, cell_of, with_cell, noted, opened, closed, begun, emptied, given_up, restarted}
use Rattle.records.specs.Questions.{fit, present, holding, admitted, opening, beginning, committing, giving_up, closing, taking_to_commit, taking_to_give_up}
use Rattle.rules.specs.Site.{State, Outcome, outcome, ◌then◌, with_table, with_disk, with_marks, with_locals, disk_read, disk_write, mark_read, mark_write, local_read, local_write}
use Rattle.records.specs.declared.records.CellRecord.{CellRecord}
use Rattle.records.specs.declared.records.Flush.{Flush}
use Rattle.records.specs.declared.fault.SiteFault.{SiteFault}
use Rattle.rules.specs.declared.answer.Source.{Source}
use Rattle.rules.specs.declared.answer.Source.TheVariants.{Cached, Checked, Fetched}
use Rattle.rules.specs.declared.answer.Stopped.{Stopped}

-- 1: the session is raised by 1 and given to client k, whose cells become unchecked
abbrev pub open_call : {V : Type 0} → State V → ℕ → Outcome V ℕ
open_call s k = outcome s (opening s.table k) then λ s₁ n. outcome (with_table s₁ (opened s₁.table k n)) (Ok n)

-- the cell read, and its source
abbrev pub got : {V : Type 0} → State V → V → Source → Outcome V (V × Source)
got s v source = outcome s (Ok (v, source))

-- the local copy counts: it is read
unfoldable pub read_local : {V : Type 0} → State V → ℕ → ℕ → Outcome V (V × Source)
read_local s k i = local_read s k i then λ s₁ v. got s₁ v Cached

-- the copy is as new as the server's mark: it is read, and the cell's record becomes r
unfoldable pub read_confirmed : {V : Type 0} → State V → ℕ → ℕ → CellRecord → Outcome V (V × Source)
read_confirmed s k i r = local_read s k i then λ s₁ v. got (with_table s₁ (with_cell s₁.table k i r)) v Checked

-- the disk cell is read and written to the local cell, and the cell's record becomes r
unfoldable pub read_fetched : {V : Type 0} → State V → ℕ → ℕ → CellRecord → Outcome V (V × Source)
read_fetched s k i r =
    disk_read s i then λ s₁ v.
    (local_write s₁ k i v then λ s₂ _. got (with_table s₂ (with_cell s₂.table k i r)) v Fetched)

-- the mark is read at the server; a kept cell with a mark not below it becomes checked, any other is fetched and kept with it
abbrev pub read_asked : {V : Type 0} → State V → ℕ → ℕ → CellRecord → Outcome V (V × Source)
read_asked s k i r =
    mark_read s i then λ s₁ mark.
    cond (fresh r.kept mark) (read_confirmed s₁ k i (marked r r.kept)) (read_fetched s₁ k i (marked r (Some mark)))

-- 2: a cell that is dirty, in the journal, or kept and checked is read from the local store; else the server's mark decides
abbrev pub read_call : {V : Type 0} → State V → ℕ → ℕ → Outcome V (V × Source)
read_call s k i =
    outcome s (admitted s.table k i) then λ s₁ r.
    cond (settled r (is_in_journal s₁.table k i)) (read_local s₁ k i) (read_asked s₁ k i r)

-- 3: the local cell is written, and becomes dirty, checked and kept with the session as mark
abbrev pub write_call : {V : Type 0} → State V → ℕ → ℕ → V → Outcome V (Unit {0})
write_call s k i v =
    outcome s (admitted s.table k i) then λ s₁ _.
    (local_write s₁ k i v then λ s₂ _.
    outcome (with_table s₂ (with_cell s₂.table k i (written_cell s₂.table.session))) (Ok tt))

-- 4: the local cell is read and written to the journal; the slip, which commit or give up will take, names the client, the cell and the raised turn
abbrev pub begin_call : {V : Type 0} → State V → ℕ → ℕ → Outcome V Flush
begin_call s k i =
    outcome s (beginning s.table k i) then λ s₁ x.
    (local_read s₁ k i then λ s₂ v.
    (local_write s₂ k s₂.table.size v then λ s₃ _.
    outcome (with_table s₃ (begun s₃.table k i x.0 x.1)) (Ok (record { client = k; cell = i; turn = x.1 }))))

-- 5, of a slip's client, cell and turn: the journal is read, the mark is written as the session, the disk cell as what was read,
-- and the blank to the journal, which becomes empty
abbrev pub commit_call : {V : Type 0} → V → State V → ℕ → ℕ → ℕ → Outcome V (Unit {0})
commit_call blank s k i turn =
    outcome s (committing s.table k i turn) then λ s₁ _.
    (local_read s₁ k s₁.table.size then λ s₂ v.
    (mark_write s₂ i s₂.table.session then λ s₃ _.
    (disk_write s₃ i v then λ s₄ _.
    (local_write s₄ k s₄.table.size blank then λ s₅ _.
    outcome (with_table s₅ (emptied s₅.table k)) (Ok tt)))))

-- 6: the cell becomes dirty and the journal empty
abbrev pub give_up_call : {V : Type 0} → State V → ℕ → ℕ → ℕ → Outcome V (Unit {0})
give_up_call s k i turn =
    outcome s (giving_up s.table k i turn) then λ s₁ _.
    outcome (with_table s₁ (given_up s₁.table k i)) (Ok tt)

-- 7: the client's cells become unchecked, and nobody holds
abbrev pub close_call : {V : Type 0} → State V → ℕ → Outcome V (Unit {0})
close_call s k = outcome s (closing s.table k) then λ s₁ _. outcome (with_table s₁ (closed s₁.table k)) (Ok tt)

-- the mark of a cell with the record r is read; the cell becomes checked or absent, and the answer says whether absent
abbrev pub sweep_known : {V : Type 0} → State V → ℕ → ℕ → CellRecord → Outcome V Bool
sweep_known s k i r =
    mark_read s i then λ s₁ mark.
    outcome (with_table s₁ (with_cell s₁.table k i (swept_cell r mark))) (Ok (not (fresh r.kept mark)))

-- a cell that is not swept stays as it is
abbrev pub sweep_record : {V : Type 0} → State V → ℕ → ℕ → Option CellRecord → Outcome V Bool
sweep_record s k i None = outcome s (Ok false)
sweep_record s k i (Some r) = cond (sweeps r (is_in_journal s.table k i)) (sweep_known s k i r) (outcome s (Ok false))

-- the sweep of one cell
unfoldable pub sweep_cell : {V : Type 0} → State V → ℕ → ℕ → Outcome V Bool
sweep_cell s k i = sweep_record s k i (cell_of s.table k i)

-- what a sweep leaves, and the count of cells made absent; or why and where it stopped, with the count so far
pub record Sweeping (V : Type 0) : Type 0 where
  pub state : State V
  pub answer : Result ℕ Stopped

abbrev pub sweeping : {V : Type 0} → State V → Result ℕ Stopped → Sweeping V
sweeping s a = record { state = s; answer = a }

abbrev pub stopped : {V : Type 0} → State V → SiteFault → ℕ → ℕ → Sweeping V
stopped s e place value = sweeping s (Err (record { fault = e; place = place; value = value }))

-- after cell i, with d made absent so far: a refused mark read ends the sweep there, and what is done stands
abbrev pub sweep_more : {V : Type 0} → (State V → ℕ → ℕ → Sweeping V) → State V → Result Bool SiteFault → ℕ → ℕ → Sweeping V
sweep_more rest s (Ok b) i d = rest s (i + 1) (d + cond b 1 0)
sweep_more rest s (Err e) i d = stopped s e i d

-- n more cells from cell i on
unfoldable pub sweep_from : {V : Type 0} → ℕ → ℕ → State V → ℕ → ℕ → Sweeping V
sweep_from k zero s i d = sweeping s (Ok d)
sweep_from k (suc n) s i d = sweep_more (sweep_from k n) (sweep_cell s k i).state (sweep_cell s k i).answer i d

-- where the questions are a yes, all cells from 0
abbrev pub sweep_admitted : {V : Type 0} → State V → ℕ → Result (Unit {0}) SiteFault → Sweeping V
sweep_admitted s k (Ok _) = sweep_from k s.table.size s 0 0
sweep_admitted s k (Err e) = stopped s e 0 0

-- 8: 7, 8 and 11 are asked, and the cells swept
abbrev pub invalidate_call : {V : Type 0} → State V → ℕ → Sweeping V
invalidate_call s k = sweep_admitted s k (holding s.table k)

-- 9: the local store is renewed with n, and the client's record restarted; the session stays held
abbrev pub restart_client_call : {V : Type 0} → State V → ℕ → ℕ → Outcome V (Unit {0})
restart_client_call s k n =
    outcome s (present s.table k) then λ s₁ _.
    outcome (with_table (with_locals s₁ (changed (after_renew n) s₁.locals k)) (restarted s₁.table k)) (Ok tt)

-- 10: the disk is renewed with n and the marks with m
abbrev pub restart_server_call : {V : Type 0} → State V → ℕ → ℕ → Outcome V (Unit {0})
restart_server_call s n m =
    outcome s (fit s.table) then λ s₁ _.
    outcome (with_marks (with_disk s₁ (after_renew n s₁.disk)) (after_renew m s₁.marks)) (Ok tt)

-- a run keeps its slips as notes in the clients' records: client k's note becomes n
abbrev pub with_note_of : {V : Type 0} → State V → ℕ → Option Flush → State V
with_note_of s k n = with_table s (noted s.table k n)

-- step 4 of a run: begin, and the slip is noted
abbrev pub begin_step : {V : Type 0} → State V → ℕ → ℕ → Outcome V Flush
begin_step s k i = begin_call s k i then λ s₁ n. outcome (with_note_of s₁ k (Some n)) (Ok n)

-- a commit's slip is noted again where it comes back
abbrev pub returned : {V : Type 0} → ℕ → Flush → State V → Result (Unit {0}) SiteFault → Outcome V (Unit {0})
returned k n s (Ok x) = outcome s (Ok x)
returned k n s (Err e) = outcome (with_note_of s k (Some n)) (Err e)

-- the commit of a slip that was taken up
unfoldable pub commit_taken : {V : Type 0} → V → State V → ℕ → Flush → Outcome V (Unit {0})
commit_taken blank s k n =
    let o = commit_call blank s n.client n.cell n.turn in
    returned k n o.state o.answer

-- step 5: the note is taken up, which empties it, and the slip committed
abbrev pub commit_step : {V : Type 0} → V → State V → ℕ → Outcome V (Unit {0})
commit_step blank s k = outcome s (taking_to_commit s.table k) then λ s₁ n. commit_taken blank (with_note_of s₁ k None) k n

-- step 6: the note is taken up and the slip given up
abbrev pub give_up_step : {V : Type 0} → State V → ℕ → Outcome V (Unit {0})
give_up_step s k = outcome s (taking_to_give_up s.table k) then λ s₁ n. give_up_call (with_note_of s₁ k None) n.client n.cell n.turn
