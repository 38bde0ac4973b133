-- No call changes how many cells and clients a site has.
use Rattle.std.proofs.Common.{◌≡◌, ℕ, zero, suc, ◌+◌, Bool, cond, List, [], ◌∷◌, Some, None, Ok, Err, Option, Result, refl, ◌∙◌}
use Rattle.records.specs.Cells.{settled, fresh, sweeps}
use Rattle.records.specs.Records.{cell_of, is_in_journal}
use Rattle.records.specs.Questions.{fit, present, holding, admitted, opening, beginning, committing, giving_up, closing, taking_to_commit, taking_to_give_up}
use Rattle.rules.specs.Site.{State, Outcome, outcome, next, ◌then◌, disk_read, disk_write, mark_read, mark_write, local_read, local_write}
use Rattle.rules.specs.Calls.{read_local, read_confirmed, read_fetched, read_call, begin_call, commit_call, give_up_call, sweep_record, sweep_cell, sweep_more, sweep_from, sweep_admitted, with_note_of, returned, commit_taken}
use Rattle.rules.specs.Replies.{Call, Open, Read, Write, Begin, Commit, GiveUp, Close, Invalidate, RestartClient, RestartServer, BeginStep, CommitStep, GiveUpStep, NoStep, called}
use Rattle.records.specs.declared.records.CellRecord.{CellRecord}
use Rattle.records.specs.declared.records.Flush.{Flush}
use Rattle.records.specs.declared.fault.SiteFault.{SiteFault}
use Rattle.std.proofs.lemmas.Bool.{cond_both}
use Rattle.rules.proofs.Plays.{calls_after}

module _ {V : Type 0} where
  -- u has as many cells and clients as s
  abbrev pub AsMany : State V → State V → Type 0
  AsMany s u = (u.table.size ≡ s.table.size) × (u.table.count ≡ s.table.count)

  abbrev Keeps : {X : Type 0} → State V → Outcome V X → Type 0
  Keeps s o = AsMany s o.state

  joined_many : (s u w : State V) → AsMany s u → AsMany u w → AsMany s w
  joined_many s u w a b = (b.0 ∙ a.0, b.1 ∙ a.1)

  kept_then : {X Y : Type 0} (s : State V) (o : Outcome V X) (f : State V → X → Outcome V Y) → Keeps s o → ((x : X) → Keeps s (f o.state x)) → Keeps s (o then f)
  kept_then {X} s o f h go = by o.answer
    where
      by : (r : Result X SiteFault) → Keeps s (next o.state r f)
      by (Ok x) = go x
      by (Err e) = h

  same : (s : State V) → AsMany s s
  same s = (refl, refl)

  read_kept : (s : State V) (k i : ℕ) → Keeps s (read_call s k i)
  unfolding read_local read_confirmed read_fetched
  read_kept s k i =
      kept_then s (outcome s (admitted s.table k i)) _ (same s) λ r.
      cond_both (settled r (is_in_journal s.table k i)) _ _ (Keeps s)
      (λ _. kept_then s (local_read s k i) _ (same s) (λ v. same s))
      (λ _.
      kept_then s (mark_read s i) _ (same s) λ mark.
      let s₁ : State V = (mark_read s i).state in
      cond_both (fresh r.kept mark) _ _ (Keeps s)
      (λ _. kept_then s (local_read s₁ k i) _ (same s) (λ v. same s))
      (λ _. kept_then s (disk_read s₁ i) _ (same s) (λ v. kept_then s (local_write (disk_read s₁ i).state k i v) _ (same s) (λ _. same s))))

  begin_kept : (s : State V) (k i : ℕ) → Keeps s (begin_call s k i)
  begin_kept s k i =
      kept_then s (outcome s (beginning s.table k i)) _ (same s) λ x.
      kept_then s (local_read s k i) _ (same s) λ v.
      kept_then s (local_write (local_read s k i).state k s.table.size v) _ (same s) (λ _. same s)

  commit_kept : (blank : V) (s : State V) (k i n : ℕ) → Keeps s (commit_call blank s k i n)
  commit_kept blank s k i n =
      let m : ℕ = s.table.size in
      kept_then s (outcome s (committing s.table k i n)) _ (same s) λ _.
      kept_then s (local_read s k m) _ (same s) λ v.
      let s₁ : State V = (local_read s k m).state in
      kept_then s (mark_write s₁ i s.table.session) _ (same s) λ _.
      let s₂ : State V = (mark_write s₁ i s.table.session).state in
      kept_then s (disk_write s₂ i v) _ (same s) λ _.
      kept_then s (local_write (disk_write s₂ i v).state k m blank) _ (same s) (λ _. same s)

  give_up_kept : (s : State V) (k i n : ℕ) → Keeps s (give_up_call s k i n)
  give_up_kept s k i n = kept_then s (outcome s (giving_up s.table k i n)) _ (same s) (λ _. same s)

  sweep_cell_kept : (s : State V) (k i : ℕ) → Keeps s (sweep_cell s k i)
  unfolding sweep_cell
  sweep_cell_kept s k i = by (cell_of s.table k i)
    where
      by : (o : Option CellRecord) → Keeps s (sweep_record s k i o)
      by None = same s
      by (Some r) = cond_both (sweeps r (is_in_journal s.table k i)) _ _ (Keeps s) (λ _. kept_then s (mark_read s i) _ (same s) (λ mark. same s)) (λ _. same s)

  sweep_kept : (n k i d : ℕ) (s : State V) → AsMany s (sweep_from k n s i d).state
  unfolding sweep_from
  sweep_kept zero k i d s = same s
  sweep_kept (suc n) k i d s = by (sweep_cell s k i).answer (λ d'. sweep_kept n k (i + 1) d' (sweep_cell s k i).state)
    where
      by : (r : Result Bool SiteFault) → ((d' : ℕ) → AsMany (sweep_cell s k i).state (sweep_from k n (sweep_cell s k i).state (i + 1) d').state)
          → AsMany s (sweep_more (sweep_from k n) (sweep_cell s k i).state r i d).state
      by (Ok b) go = joined_many s (sweep_cell s k i).state (sweep_from k n (sweep_cell s k i).state (i + 1) (d + cond b 1 0)).state (sweep_cell_kept s k i) (go (d + cond b 1 0))
      by (Err e) go = sweep_cell_kept s k i

  call_kept : (blank : V) (s : State V) (q : Call V) → AsMany s (called blank s q).state
  unfolding called commit_taken
  call_kept blank s (Open k) = kept_then s (outcome s (opening s.table k)) _ (same s) (λ n. same s)
  call_kept blank s (Read k i) = read_kept s k i
  call_kept blank s (Write k i v) = kept_then s (outcome s (admitted s.table k i)) _ (same s) (λ r. kept_then s (local_write s k i v) _ (same s) (λ _. same s))
  call_kept blank s (Begin k i) = begin_kept s k i
  call_kept blank s (Commit n) = commit_kept blank s n.client n.cell n.turn
  call_kept blank s (GiveUp n) = give_up_kept s n.client n.cell n.turn
  call_kept blank s (Close k) = kept_then s (outcome s (closing s.table k)) _ (same s) (λ _. same s)
  call_kept blank s (Invalidate k) = by (holding s.table k)
    where
      by : (r : Result (Unit {0}) SiteFault) → AsMany s (sweep_admitted s k r).state
      by (Ok x) = sweep_kept s.table.size k 0 0 s
      by (Err e) = same s
  call_kept blank s (RestartClient k n) = kept_then s (outcome s (present s.table k)) _ (same s) (λ _. same s)
  call_kept blank s (RestartServer n m) = kept_then s (outcome s (fit s.table)) _ (same s) (λ _. same s)
  call_kept blank s (BeginStep k i) = kept_then s (begin_call s k i) _ (begin_kept s k i) (λ n. begin_kept s k i)
  call_kept blank s (CommitStep k) =
      kept_then s (outcome s (taking_to_commit s.table k)) _ (same s) λ n.
      by n (commit_call blank (with_note_of s k None) n.client n.cell n.turn).answer
    where
      by : (n : Flush) (r : Result (Unit {0}) SiteFault) → Keeps s (returned k n (commit_call blank (with_note_of s k None) n.client n.cell n.turn).state r)
      by n (Ok x) = commit_kept blank (with_note_of s k None) n.client n.cell n.turn
      by n (Err e) = commit_kept blank (with_note_of s k None) n.client n.cell n.turn
  call_kept blank s (GiveUpStep k) =
      kept_then s (outcome s (taking_to_give_up s.table k)) _ (same s) (λ n. give_up_kept (with_note_of s k None) n.client n.cell n.turn)
  call_kept blank s NoStep = same s

  pub calls_kept : (blank : V) (s : State V) (qs : List (Call V)) → AsMany s (calls_after (called blank) s qs)
  calls_kept blank s [] = same s
  calls_kept blank s (q ∷ qs) = joined_many s (called blank s q).state (calls_after (called blank) (called blank s q).state qs) (call_kept blank s q) (calls_kept blank (called blank s q).state qs)
