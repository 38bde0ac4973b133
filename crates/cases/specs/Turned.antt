-- The rules with one rule turned, three times, and for each a list of acts after which the claim that the true rules keep is broken.
use Rattle.std.specs.Prelude.{◌≡◌, ℕ, cond, List, [], ◌∷◌, map, is_some, Some, None, Ok, Err, Result, slice_index_or}
use Rattle.std.specs.Option.{unwrap_or}
use Rattle.records.specs.Clients.{changed}
use Rattle.records.specs.Cells.{new_cell}
use Rattle.records.specs.Records.{Records, with_clients, with_holder, with_cells, closed, emptied}
use Rattle.records.specs.Questions.{holding, committing, closing, taken_place, taking_to_commit}
use Rattle.rules.specs.Site.{State, Outcome, outcome, ◌then◌, with_table, disk_write, mark_write, local_read, local_write}
use Rattle.rules.specs.Making.{made}
use Rattle.rules.specs.Calls.{commit_call, close_call, Sweeping, stopped, sweep_from, invalidate_call, with_note_of, returned}
use Rattle.rules.specs.Replies.{Call, Open, Read, Write, Begin, Commit, GiveUp, Close, Invalidate, RestartClient, RestartServer, BeginStep, CommitStep, GiveUpStep, NoStep, Out, replied, plain_reply, swept_out, called}
use Rattle.rules.specs.History.{Act, single, after, log}
use Rattle.rules.specs.Claim.{Upheld, Upholds}
use Rattle.records.specs.declared.records.CellRecord.{CellRecord}
use Rattle.records.specs.declared.fault.SiteFault.{SiteFault}
use Rattle.script.specs.Printed.{start}
use Rattle.cases.specs.Setting.{slip}

-- the three calls in which a rule is turned
pub record Parts (V : Type 0) : Type 0 where
  pub commit : V → State V → ℕ → ℕ → ℕ → Outcome V (Unit {0})
  pub close : State V → ℕ → Outcome V (Unit {0})
  pub invalidate : State V → ℕ → Sweeping V

-- the rules with those three, and every other call as it is
unfoldable pub built : {V : Type 0} → Parts V → V → State V → Call V → Out V
built p blank s (Open k) = called blank s (Open k)
built p blank s (Read k i) = called blank s (Read k i)
built p blank s (Write k i v) = called blank s (Write k i v)
built p blank s (Begin k i) = called blank s (Begin k i)
built p blank s (Commit n) = replied (plain_reply n.cell) (p.commit blank s n.client n.cell n.turn)
built p blank s (GiveUp n) = called blank s (GiveUp n)
built p blank s (Close k) = replied (plain_reply 0) (p.close s k)
built p blank s (Invalidate k) = swept_out (p.invalidate s k)
built p blank s (RestartClient k n) = called blank s (RestartClient k n)
built p blank s (RestartServer n m) = called blank s (RestartServer n m)
built p blank s (BeginStep k i) = called blank s (BeginStep k i)
built p blank s (CommitStep k) =
    replied (plain_reply (taken_place (taking_to_commit s.table k)))
    (outcome s (taking_to_commit s.table k) then λ s₁ n.
    let o = p.commit blank (with_note_of s₁ k None) n.client n.cell n.turn in
    returned k n o.state o.answer)
built p blank s (GiveUpStep k) = called blank s (GiveUpStep k)
built p blank s NoStep = called blank s NoStep

-- the true rules
abbrev pub true_parts : {V : Type 0} → Parts V
true_parts = record { commit = commit_call; close = close_call; invalidate = invalidate_call }

-- first fault: the disk cell is written before its mark
abbrev disk_first_commit : {V : Type 0} → V → State V → ℕ → ℕ → ℕ → Outcome V (Unit {0})
disk_first_commit blank s k i turn =
    outcome s (committing s.table k i turn) then λ s₁ _.
    (local_read s₁ k s₁.table.size then λ s₂ v.
    (disk_write s₂ i v then λ s₃ _.
    (mark_write s₃ i s₃.table.session then λ s₄ _.
    (local_write s₄ k s₄.table.size blank then λ s₅ _.
    outcome (with_table s₅ (emptied s₅.table k)) (Ok tt)))))

abbrev pub disk_first : {V : Type 0} → Parts V
disk_first = record { commit = disk_first_commit; close = close_call; invalidate = invalidate_call }

-- second fault: staleness is measured from the client's last session, so at close every kept cell takes that session for its mark
abbrev stamped_cell : ℕ → CellRecord → CellRecord
stamped_cell session r = record { kept = cond (is_some r.kept) (Some session) None; checked = r.checked; dirty = r.dirty }

abbrev stamped : Records → ℕ → Records
stamped t k = with_clients t (changed (λ c. with_cells c (map (stamped_cell t.session) c.cells)) t.clients k)

abbrev stamping_close : {V : Type 0} → State V → ℕ → Outcome V (Unit {0})
stamping_close s k = outcome s (closing s.table k) then λ s₁ _. outcome (with_table s₁ (closed (stamped s₁.table k) k)) (Ok tt)

abbrev pub last_session : {V : Type 0} → Parts V
last_session = record { commit = commit_call; close = stamping_close; invalidate = invalidate_call }

-- third fault: a sweep drops dirty cells, as if only the server's counted
abbrev dropped_cell : CellRecord → CellRecord
dropped_cell r = cond r.dirty new_cell r

abbrev dropped : Records → ℕ → Records
dropped t k = with_clients t (changed (λ c. with_cells c (map dropped_cell c.cells)) t.clients k)

abbrev dropping_sweep : {V : Type 0} → State V → ℕ → Result (Unit {0}) SiteFault → Sweeping V
dropping_sweep s k (Ok _) = sweep_from k s.table.size (with_table s (dropped s.table k)) 0 0
dropping_sweep s k (Err e) = stopped s e 0 0

abbrev dropping_invalidate : {V : Type 0} → State V → ℕ → Sweeping V
dropping_invalidate s k = dropping_sweep s k (holding s.table k)

abbrev pub dirty_dropped : {V : Type 0} → Parts V
dirty_dropped = record { commit = commit_call; close = close_call; invalidate = dropping_invalidate }

-- a list of single calls
abbrev singly : List (Call ℕ) → List (Act ℕ)
singly qs = map single qs

-- client 1 caches cell 3; client 2 writes it and commits while the marks are down
abbrev pub marks_down : List (Act ℕ)
marks_down = singly (Open 1 ∷ Read 1 3 ∷ Close 1 ∷ Open 2 ∷ Write 2 3 5 ∷ Begin 2 3 ∷ RestartServer 9 0 ∷ Commit (slip 2 3) ∷ [])

-- client 2 lost for good after that, so that nobody holds: what client 1's read of cell 3 then gives, and what the disk has
abbrev lost : Parts ℕ → State ℕ
lost p = let s = after (built p 0) (made start) marks_down in with_table s (with_holder s.table s.table.session None)

abbrev read_by_1 : Parts ℕ → State ℕ → List ℕ
read_by_1 p s = unwrap_or (built p 0 s (Read 1 3)).reply.got 9 ∷ slice_index_or s.disk.cells 3 9 ∷ []

abbrev pub after_loss : Parts ℕ → List ℕ
after_loss p = read_by_1 p (after (built p 0) (lost p) (singly (RestartServer 9 9 ∷ Open 1 ∷ [])))

-- client 1 caches cell 4, client 2 writes it, and client 1 opens and closes once before it reads the cell again
abbrev pub stale_copy : List (Act ℕ)
stale_copy =
    singly (Open 1 ∷ Read 1 4 ∷ Close 1 ∷ Open 2 ∷ Write 2 4 77 ∷ Begin 2 4 ∷ Commit (slip 2 4) ∷ Close 2 ∷ Open 1 ∷ Close 1 ∷ Open 1 ∷ Read 1 4 ∷ [])

-- client 1 writes cell 3, sweeps, and reads it
abbrev pub swept_write : List (Act ℕ)
swept_write = singly (Open 1 ∷ Write 1 3 5 ∷ Invalidate 1 ∷ Read 1 3 ∷ [])

-- after these acts the claim does not hold
abbrev pub Breaks : Parts ℕ → List (Act ℕ) → Type 0
Breaks p acts = Upheld 0 start (log (built p 0) (made start) acts) (after (built p 0) (made start) acts) → ⊥

pub record FaultsShown : Type 0 where
  -- with the true three parts it is the rules, and the claim holds
  pub true_rules : (blank : ℕ) (s : State ℕ) (q : Call ℕ) → built true_parts blank s q ≡ called blank s q
  pub true_upheld : Upholds ℕ (built true_parts)
  -- each turned rule breaks it, after a list that is given
  pub disk_first_breaks : Breaks disk_first marks_down
  pub last_session_breaks : Breaks last_session stale_copy
  pub dirty_dropped_breaks : Breaks dirty_dropped swept_write
  -- a writer lost for good at that cut leaves a stale copy behind under the first fault, and none under the true rules
  pub disk_first_loss : after_loss disk_first ≡ 0 ∷ 5 ∷ []
  pub true_loss : after_loss true_parts ≡ 0 ∷ 0 ∷ []
  pub disk_first_fails : Upholds ℕ (built disk_first) → ⊥
  pub last_session_fails : Upholds ℕ (built last_session) → ⊥
  pub dirty_dropped_fails : Upholds ℕ (built dirty_dropped) → ⊥
