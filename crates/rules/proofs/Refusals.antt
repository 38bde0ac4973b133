-- Each call leaves a sound site, and answers 8 and 12 only by their own questions.
use Rattle.std.proofs.Common.{◌≡◌, ℕ, zero, suc, ◌+◌, true, false, ◌↔◌, List, map, length, get_or, set, Some, None, Ok, Err, Option, Result, sym, refl, subst, arith}
use Rattle.std.proofs.lemmas.List.{length-set, length-map}
use Rattle.std.proofs.lemmas.Bool.{cond_both, false_from_ne_true, eq-eqb, lt-ltb, le-leb}
use Rattle.store.specs.Stores.{after_renew}
use Rattle.records.specs.Clients.{changed}
use Rattle.records.specs.Cells.{new_cell, settled, fresh, sweeps, swept_cell, unchecked_cell, dirtied}
use Rattle.records.specs.Records.{Records, cell_of, is_in_journal, with_cells, with_cell, with_journal, with_note, unchecked_client, begun_client, soiled, given_up_client, restarted_client}
use Rattle.records.specs.Questions.{and_then, unless, there, present, holding, admitted, opening, beginning, committing, giving_up, closing, all_sent, first_from, taken_place, taking_to_commit, taking_to_give_up}
use Rattle.records.specs.Questions as questions
use Rattle.rules.specs.Site.{State, Outcome, outcome, next, with_table, with_disk, with_locals, disk_read, disk_write, mark_read, mark_write, local_read, local_write}
use Rattle.rules.specs.Calls.{open_call, read_local, read_confirmed, read_fetched, read_call, write_call, begin_call, commit_call, give_up_call, close_call, sweep_record, sweep_cell, Sweeping, sweep_from, sweep_admitted, invalidate_call, restart_client_call, restart_server_call, with_note_of, begin_step, returned, commit_taken, commit_step, give_up_step}
use Rattle.rules.specs.Replies.{Call, Open, Read, Write, Begin, Commit, GiveUp, Close, Invalidate, RestartClient, RestartServer, BeginStep, CommitStep, GiveUpStep, NoStep, Reply, Out, replied, open_reply, read_reply, begin_reply, noted_reply, plain_reply, swept_reply, swept_out, called}
use Rattle.rules.specs.Claim.{Asking, nobody, of_client, of_cell, asking, IsThere, Rightly}
use Rattle.records.specs.declared.records.CellRecord.{CellRecord}
use Rattle.records.specs.declared.records.Flush.{Flush}
use Rattle.records.specs.declared.fault.SiteFault.{SiteFault}
use Rattle.rules.proofs.Ways.{beginning_says}
use Rattle.rules.proofs.Shapes.{Sound, Own, note_own, num, Clear, zero_clear, Safe, safe_then, EightIs, Exact, there_says, clear_exact, question, held, celled, whole, with_disk_sound, with_marks_sound, with_locals_sound, with_client_sound, disk_read_safe, disk_write_safe, mark_read_safe, mark_write_safe, local_read_safe, local_write_safe}

-- a clear answer of a call that takes no cell
none_exact : (t : Records) (k n : ℕ) → Clear n → there t k ≡ true → Exact t k None n
none_exact t k n c th = clear_exact t k None n c th (λ i e _ _. cc)

-- questions and nothing more
alone : {X : Type 0} (t : Records) (k : ℕ) (c : Option ℕ) (r : Result X SiteFault) → Exact t k c (num (and_then r (λ x. Ok x))) → Exact t k c (num r)
alone t k c r e = grind arith

soiled_long : (xs : List CellRecord) (j : Option ℕ) → length (map unchecked_cell (soiled xs j)) ≡ length xs
soiled_long xs j = grind (arith, length-map, length-set)

-- a call of a client, or of one of its cells
abbrev about : ℕ → Option ℕ → Asking
about k None = of_client k
about k (Some i) = of_cell k i

-- the test of question 8, in plain words
there_true : (t : Records) (k : ℕ) → IsThere t k → there t k ≡ true
there_true t k w = rw (lt-ltb 0 k w.0, le-leb k t.count w.1) refl

eight : (t : Records) (k n : ℕ) → EightIs t k n → (n ≡ 8) ↔ (IsThere t k → ⊥)
eight t k n q = ((λ e w. let y = there_true t k w in grind arith), λ w. q.1 (false_from_ne_true (there t k) (λ e. w (there_says t k e))))

rightly : (t : Records) (k : ℕ) (c : Option ℕ) (n : ℕ) → Exact t k c n → Rightly t (about k c) n
rightly t k None n q = (eight t k n q.0, q.1)
rightly t k (Some i) n q = (eight t k n q.0, q.1.0, λ w h. q.1.1 (there_true t k w) (rw h (eq-eqb k k refl)))

module _ {V : Type 0} where
  abbrev Ends : ℕ → ℕ → State V → Asking → Out V → Type 0
  Ends wide many s a o = Sound wide many o.state × Rightly s.table a o.reply.answer.number

  abbrev SafeSweep : ℕ → ℕ → Sweeping V → Type 0
  SafeSweep wide many o = Sound wide many o.state × Clear (swept_reply {V = V} o.answer).answer.number

  -- the slip names the client who began
  begin_names : (s : State V) (k i : ℕ) (n : Flush) → (begin_call s k i).answer ≡ Ok n → n.client ≡ k
  begin_names s k i n e = grind arith

module _ {V : Type 0} {wide many : ℕ} where
  exact_ends : {X : Type 0} (reply : Result X SiteFault → Reply V) → ((r : Result X SiteFault) → (reply r).answer.number ≡ num r) → (s : State V) (k : ℕ) (c : Option ℕ) (o : Outcome V X)
      → Sound wide many o.state × Exact s.table k c (num o.answer) → Ends wide many s (about k c) (replied reply o)
  exact_ends reply e s k c o h = (h.0, rightly s.table k c _ (subst (Exact s.table k c) (sym (e o.answer)) h.1))

  safe_ends : {X : Type 0} (reply : Result X SiteFault → Reply V) → ((r : Result X SiteFault) → (reply r).answer.number ≡ num r) → (s : State V) (o : Outcome V X) → Safe wide many o → Ends wide many s nobody (replied reply o)
  safe_ends reply e s o h = let q : Clear (reply o.answer).answer.number = subst Clear (sym (e o.answer)) h.1 in (h.0, (q.eight, q.twelve))

  -- an outcome of a client that is there, and of a call that takes no cell, is safe
  exact_safe : {X : Type 0} (s : State V) (k : ℕ) (o : Outcome V X) → there s.table k ≡ true → Sound wide many o.state × Exact s.table k None (num o.answer) → Safe wide many o
  exact_safe s k o th h = (h.0, record { eight = λ e. let n = h.1.0.0 e in cc; twelve = h.1.1 })

  with_cell_sound : (s : State V) (k i : ℕ) (r : CellRecord) → Sound wide many s → Sound wide many (with_table s (with_cell s.table k i r))
  with_cell_sound s k i r h = with_client_sound s s.table.session s.table.holder (λ c. with_cells c (set c.cells i r)) k h (λ c. length-set c.cells i r) (λ c w. w)

  with_note_sound : (s : State V) (k : ℕ) (n : Option Flush) → Own k n → Sound wide many s → Sound wide many (with_note_of s k n)
  with_note_sound s k n w h = with_client_sound s s.table.session s.table.holder (λ c. with_note c n) k h (λ c. refl) (λ c q. (w, q.1))

  open_ends : (s : State V) (k : ℕ) → Sound wide many s → Ends wide many s (of_client k) (replied open_reply (open_call s k))
  open_ends s k h =
      exact_ends open_reply (λ r. grind arith) s k None (open_call s k)
      (whole s k None (opening s.table k) _ h
      (question s.table k None _ h.fit
      (λ th. none_exact s.table k _ (grind arith) th))
      (λ n _ th. (with_client_sound s n (Some k) unchecked_client k h (λ c. length-map c.cells unchecked_cell) (λ c w. w), zero_clear)))

  -- a call that takes a cell, admitted
  admitted_exact : (s : State V) (k i : ℕ) → Sound wide many s → Exact s.table k (Some i) (num (admitted s.table k i))
  admitted_exact s k i h = alone s.table k (Some i) (admitted s.table k i) (celled s k i (λ r. Ok r) h (λ r. zero_clear))

  read_ends : (s : State V) (k i : ℕ) → Sound wide many s → Ends wide many s (of_cell k i) (replied (read_reply i) (read_call s k i))
  unfolding read_local read_confirmed read_fetched
  read_ends s k i h =
      exact_ends (read_reply i) (λ r. grind arith) s k (Some i) (read_call s k i)
      (whole s k (Some i) (admitted s.table k i) _ h (admitted_exact s k i h) λ r _ th.
      cond_both (settled r (is_in_journal s.table k i)) _ _ (Safe wide many)
      (λ _. safe_then (local_read s k i) _ (local_read_safe s k i h th) (λ v h₁. (h₁, zero_clear)))
      (λ _.
      safe_then (mark_read s i) _ (mark_read_safe s i h) λ mark h₁.
      let s₁ : State V = (mark_read s i).state in
      cond_both (fresh r.kept mark) _ _ (Safe wide many)
      (λ _. safe_then (local_read s₁ k i) _ (local_read_safe s₁ k i h₁ th) (λ v h₂. (with_cell_sound _ k i _ h₂, zero_clear)))
      (λ _.
      safe_then (disk_read s₁ i) _ (disk_read_safe s₁ i h₁) λ v h₂.
      let s₂ : State V = (disk_read s₁ i).state in
      safe_then (local_write s₂ k i v) _ (local_write_safe s₂ k i v h₂ th) (λ _ h₃. (with_cell_sound _ k i _ h₃, zero_clear)))))

  write_ends : (s : State V) (k i : ℕ) (v : V) → Sound wide many s → Ends wide many s (of_cell k i) (replied (plain_reply i) (write_call s k i v))
  write_ends s k i v h =
      exact_ends (plain_reply i) (λ r. grind arith) s k (Some i) (write_call s k i v)
      (whole s k (Some i) (admitted s.table k i) _ h (admitted_exact s k i h) λ r _ th.
      safe_then (local_write s k i v) _ (local_write_safe s k i v h th) (λ _ h₁. (with_cell_sound _ k i _ h₁, zero_clear)))

  begin_exact : (s : State V) (k i : ℕ) → Sound wide many s → Sound wide many (begin_call s k i).state × Exact s.table k (Some i) (num (begin_call s k i).answer)
  begin_exact s k i h =
      whole s k (Some i) (beginning s.table k i) _ h
      (celled s k i _ h
      (λ r. grind arith))
      λ x e th.
      safe_then (local_read s k i) _ (local_read_safe s k i h th) λ v h₁.
      let s₁ : State V = (local_read s k i).state in
      safe_then (local_write s₁ k s.table.size v) _ (local_write_safe s₁ k s.table.size v h₁ th) λ _ h₂.
      (with_client_sound (local_write s₁ k s.table.size v).state s.table.session s.table.holder (λ c. begun_client c i x.0 x.1) k h₂ (λ c. length-set c.cells i (dirtied false x.0)) (λ c w. (w.0, (beginning_says s.table k i x e).1)), zero_clear)

  begin_ends : (s : State V) (k i : ℕ) → Sound wide many s → Ends wide many s (of_cell k i) (replied (begin_reply i) (begin_call s k i))
  begin_ends s k i h = exact_ends (begin_reply i) (λ r. grind arith) s k (Some i) (begin_call s k i) (begin_exact s k i h)

  begin_step_ends : (s : State V) (k i : ℕ) → Sound wide many s → Ends wide many s (of_cell k i) (replied (noted_reply i) (begin_step s k i))
  begin_step_ends s k i h =
      exact_ends (noted_reply i) (λ r. grind arith) s k (Some i) (begin_step s k i) (by (begin_call s k i).answer (begin_names s k i) (begin_exact s k i h))
    where
      by : (r : Result Flush SiteFault) → ((n : Flush) → r ≡ Ok n → n.client ≡ k) → Sound wide many (begin_call s k i).state × Exact s.table k (Some i) (num r)
          → Sound wide many (next (begin_call s k i).state r (λ s₁ n. outcome {X = Flush} (with_note_of s₁ k (Some n)) (Ok n))).state
          × Exact s.table k (Some i) (num (next (begin_call s k i).state r (λ s₁ n. outcome {X = Flush} (with_note_of s₁ k (Some n)) (Ok n))).answer)
      by (Ok n) w x = (with_note_sound (begin_call s k i).state k (Some n) (w n refl) x.0, x.1)
      by (Err e) w x = x

  commit_exact : (blank : V) (s : State V) (k i n : ℕ) → Sound wide many s → Sound wide many (commit_call blank s k i n).state × Exact s.table k None (num (commit_call blank s k i n).answer)
  commit_exact blank s k i n h =
      whole s k None (committing s.table k i n) _ h
      (held s.table k None _ h.fit (λ th _. none_exact s.table k _ (grind arith) th))
      λ _ _ th.
      let m : ℕ = s.table.size in
      safe_then (local_read s k m) _ (local_read_safe s k m h th) λ v h₁.
      let s₁ : State V = (local_read s k m).state in
      safe_then (mark_write s₁ i s.table.session) _ (mark_write_safe s₁ i s.table.session h₁) λ _ h₂.
      let s₂ : State V = (mark_write s₁ i s.table.session).state in
      safe_then (disk_write s₂ i v) _ (disk_write_safe s₂ i v h₂) λ _ h₃.
      let s₃ : State V = (disk_write s₂ i v).state in
      safe_then (local_write s₃ k m blank) _ (local_write_safe s₃ k m blank h₃ th) λ _ h₄.
      (with_client_sound (local_write s₃ k m blank).state s.table.session s.table.holder (λ c. with_journal c None) k h₄ (λ c. refl) (λ c w. (w.0, tt)), zero_clear)

  give_up_safe : (s : State V) (k i n : ℕ) → Sound wide many s → Safe wide many (give_up_call s k i n)
  give_up_safe s k i n h =
      safe_then (outcome s (giving_up s.table k i n)) _ (h, grind arith) λ _ _.
      (with_client_sound s s.table.session s.table.holder (λ c. given_up_client c i) k h (λ c. length-set c.cells i (dirtied true (get_or c.cells i new_cell))) (λ c w. (w.0, tt)), zero_clear)

  close_ends : (s : State V) (k : ℕ) → Sound wide many s → Ends wide many s (of_client k) (replied (plain_reply 0) (close_call s k))
  close_ends s k h =
      exact_ends (plain_reply 0) (λ r. grind arith) s k None (close_call s k)
      (whole s k None (closing s.table k) _ h
      (held s.table k None _ h.fit (λ th _. none_exact s.table k _ (grind arith) th))
      (λ _ _ th. (with_client_sound s s.table.session None unchecked_client k h (λ c. length-map c.cells unchecked_cell) (λ c w. w), zero_clear)))

  sweep_cell_safe : (s : State V) (k i : ℕ) → Sound wide many s → Safe wide many (sweep_cell s k i)
  unfolding sweep_cell
  sweep_cell_safe s k i h = by (cell_of s.table k i)
    where
      by : (o : Option CellRecord) → Safe wide many (sweep_record s k i o)
      by None = (h, zero_clear)
      by (Some r) =
          cond_both (sweeps r (is_in_journal s.table k i)) _ _ (Safe wide many)
          (λ _. safe_then (mark_read s i) _ (mark_read_safe s i h) (λ mark h₁. (with_cell_sound _ k i (swept_cell r mark) h₁, zero_clear)))
          (λ _. (h, zero_clear))

  sweep_safe : (n k i d : ℕ) (s : State V) → Sound wide many s → SafeSweep wide many (sweep_from k n s i d)
  unfolding sweep_from
  sweep_safe zero k i d s h = (h, zero_clear)
  sweep_safe (suc n) k i d s h =
      let w = sweep_cell_safe s k i h in
      let go = λ (d' : ℕ) (h' : Sound wide many (sweep_cell s k i).state). sweep_safe n k (i + 1) d' (sweep_cell s k i).state h' in
      grind (arith, go)

  invalidate_ends : (s : State V) (k : ℕ) → Sound wide many s → Ends wide many s (of_client k) (swept_out (invalidate_call s k))
  invalidate_ends s k h =
      by (holding s.table k) refl
      (alone s.table k None (holding s.table k) (held s.table k None (Ok tt) h.fit (λ th _. none_exact s.table k 0 zero_clear th)))
    where
      by : (r : Result (Unit {0}) SiteFault) → holding s.table k ≡ r → Exact s.table k None (num r) → Ends wide many s (of_client k) (swept_out (sweep_admitted s k r))
      by (Err e) q x = (h, rightly s.table k None _ x)
      by (Ok u) q x =
          let w = sweep_safe s.table.size k 0 0 s h in
          (w.0, rightly s.table k None _ (((λ e. absurd (w.1.eight e)), (λ e. let z = x.0.1 e in absurd (omega arith))), w.1.twelve))

  present_exact : (s : State V) (k : ℕ) → Sound wide many s → Exact s.table k None (num (present s.table k))
  present_exact s k h =
      alone s.table k None (present s.table k) (question s.table k None (Ok tt) h.fit (λ th. none_exact s.table k 0 zero_clear th))

  restart_client_ends : (s : State V) (k n : ℕ) → Sound wide many s → Ends wide many s (of_client k) (replied (plain_reply 0) (restart_client_call s k n))
  restart_client_ends s k n h =
      exact_ends (plain_reply 0) (λ r. grind arith) s k None (restart_client_call s k n)
      (whole s k None (present s.table k) _ h (present_exact s k h)
      (λ _ _ th. (with_client_sound (with_locals s (changed (after_renew n) s.locals k)) s.table.session s.table.holder restarted_client k (with_locals_sound s (after_renew n) k h (λ b. refl)) (λ c. soiled_long c.cells c.journal) (λ c _. (tt, tt)), zero_clear)))

  restart_server_safe : (s : State V) (n m : ℕ) → Sound wide many s → Safe wide many (restart_server_call s n m)
  restart_server_safe s n m h =
      safe_then (outcome s (questions.fit s.table)) _ (h, grind arith) λ _ _.
      (with_marks_sound (with_disk s (after_renew n s.disk)) (after_renew m s.marks) (with_disk_sound s (after_renew n s.disk) h refl) refl, zero_clear)

  commit_step_ends : (blank : V) (s : State V) (k : ℕ) → Sound wide many s → Ends wide many s (of_client k) (replied (plain_reply (taken_place (taking_to_commit s.table k))) (commit_step blank s k))
  unfolding commit_taken
  commit_step_ends blank s k h =
      exact_ends (plain_reply _) (λ r. grind arith) s k None (commit_step blank s k)
      (whole s k None (taking_to_commit s.table k) _ h
      (held s.table k None _ h.fit (λ th _. none_exact s.table k _ (grind arith) th))
      λ n e th.
      let own : n.client ≡ k = note_own s k n h (grind arith) in
      let s₁ : State V = with_note_of s k None in
      let th₁ : there s.table n.client ≡ true = rw own th in
      by n own (commit_call blank s₁ n.client n.cell n.turn).answer (exact_safe s₁ n.client (commit_call blank s₁ n.client n.cell n.turn) th₁ (commit_exact blank s₁ n.client n.cell n.turn (with_note_sound s k None tt h))))
    where
      by : (n : Flush) → n.client ≡ k → (r : Result (Unit {0}) SiteFault) → Sound wide many (commit_call blank (with_note_of s k None) n.client n.cell n.turn).state × Clear (num r)
          → Safe wide many (returned k n (commit_call blank (with_note_of s k None) n.client n.cell n.turn).state r)
      by n own (Ok x) w = w
      by n own (Err e) w = (with_note_sound (commit_call blank (with_note_of s k None) n.client n.cell n.turn).state k (Some n) own w.0, w.1)

  give_up_step_ends : (s : State V) (k : ℕ) → Sound wide many s → Ends wide many s (of_client k) (replied (plain_reply (taken_place (taking_to_give_up s.table k))) (give_up_step s k))
  give_up_step_ends s k h =
      exact_ends (plain_reply _) (λ r. grind arith) s k None (give_up_step s k)
      (whole s k None (taking_to_give_up s.table k) _ h
      (question s.table k None _ h.fit (λ th. none_exact s.table k _ (grind arith) th))
      (λ n _ th. give_up_safe (with_note_of s k None) n.client n.cell n.turn (with_note_sound s k None tt h)))

  pub all_end : (blank : V) (s : State V) (q : Call V) → Sound wide many s → Ends wide many s (asking q) (called blank s q)
  unfolding called
  all_end blank s (Open k) h = open_ends s k h
  all_end blank s (Read k i) h = read_ends s k i h
  all_end blank s (Write k i v) h = write_ends s k i v h
  all_end blank s (Begin k i) h = begin_ends s k i h
  all_end blank s (Commit n) h = exact_ends (plain_reply _) (λ r. grind arith) s n.client None (commit_call blank s n.client n.cell n.turn) (commit_exact blank s n.client n.cell n.turn h)
  all_end blank s (GiveUp n) h = safe_ends (plain_reply _) (λ r. grind arith) s (give_up_call s n.client n.cell n.turn) (give_up_safe s n.client n.cell n.turn h)
  all_end blank s (Close k) h = close_ends s k h
  all_end blank s (Invalidate k) h = invalidate_ends s k h
  all_end blank s (RestartClient k n) h = restart_client_ends s k n h
  all_end blank s (RestartServer n m) h = safe_ends (plain_reply _) (λ r. grind arith) s (restart_server_call s n m) (restart_server_safe s n m h)
  all_end blank s (BeginStep k i) h = begin_step_ends s k i h
  all_end blank s (CommitStep k) h = commit_step_ends blank s k h
  all_end blank s (GiveUpStep k) h = give_up_step_ends s k h
  all_end blank s NoStep h = (h, ((λ e. omega arith), (λ e. omega arith)))
