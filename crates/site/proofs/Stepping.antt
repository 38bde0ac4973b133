-- The steps of a run, each by the call that it makes.
use Rattle.std.proofs.Common.{◌≡◌, ℕ, ◌<◌, ◌≤◌, false, cond, eqb, Some, None, Ok, Err, Result, sym, refl, ap, ◌∙◌, arith, lit<, lit≤}
use Rattle.std.proofs.lemmas.Bool.{ne_eqb}
use Rattle.records.specs.Questions.{taken_place, taking_to_commit, taking_to_give_up}
use Rattle.records.specs.declared.records.Flush.{Flush}
use Rattle.records.specs.declared.fault.SiteFault.{SiteFault}
use Rattle.rules.specs.Site.{State, Outcome, outcome, next}
use Rattle.rules.specs.Calls.{open_call, read_call, write_call, begin_step, with_note_of, returned, commit_taken, give_up_call, close_call, sweeping, invalidate_call, restart_client_call, restart_server_call}
use Rattle.rules.specs.Replies.{Call, Open, Read, Write, Close, Invalidate, RestartClient, RestartServer, BeginStep, CommitStep, GiveUpStep, NoStep, Reply, out, plain, refused, open_reply, read_reply, noted_reply, plain_reply, swept_reply, replied, swept_out, called}
use Rattle.rules.specs.Runs.{call_of}
use Rattle.rules.specs.declared.answer.Source.{Source}
use Rattle.rules.specs.declared.answer.Stopped.{Stopped}
use Rattle.rules.specs.declared.step.Step.{Step}
use Rattle.records.specs.declared.fault.SiteFault.TheVariants.{NoCall}
use Rattle.site.specs.declared.slip.Slip.{Slip}
use Rattle.site.specs.declared.slip.Returned.{Returned}
use Rattle.site.specs.Slips.{unspent, flush_given, begin_given, slip_back, fault_of, settled, commit_given, commit_flush, Settled}
use Rattle.site.proofs.Promised.{begun_is, settled_is}

slip_was : (n : Slip) (b : Returned) (r : Result (Unit {0}) SiteFault) → Err b ≡ slip_back n r → b.slip ≡ n
slip_was n b (Ok x) e = let z : ◌≡◌ {A = ℕ} 0 1 = cc in absurd (omega arith)
slip_was n b (Err x) e = let q : b ≡ record { slip = n; fault = x } = cc in ap (λ (z : Returned). z.slip) q

module _ {V : Type 0} where
  -- a begin's slip is noted
  pub begin_noted : (s s₁ : State V) (k i : ℕ) (r : Result Slip SiteFault) → outcome s₁ r ≡ begin_given s k i
      → next s₁ (flush_given r) (λ s₂ n. outcome (with_note_of s₂ k (Some n)) (Ok n)) ≡ begin_step s k i
  begin_noted s s₁ k i r e = ap (λ (o : Outcome V Flush). next o.state o.answer (λ s₂ n. outcome (with_note_of s₂ k (Some n)) (Ok n))) (begun_is s s₁ k i r e)

  -- a commit's slip that comes back is noted again
  pub commit_noted : (blank : V) (s s₁ : State V) (k : ℕ) (n : Slip) (r : Result (Unit {0}) Returned) → settled s₁ r ≡ commit_given blank s n
      → returned k n.flush s₁ (fault_of r) ≡ commit_taken blank s k n.flush
  unfolding commit_taken
  commit_noted blank s s₁ k n r e = ap (λ (o : Outcome V (Unit {0})). returned k n.flush o.state o.answer) (settled_is blank s s₁ n r e)

  -- the slip that comes back is the one handed in
  pub same_slip : (blank : V) (s s₁ : State V) (n : Slip) (b : Returned) → settled s₁ (Err b) ≡ commit_given blank s n → b.slip ≡ n
  same_slip blank s s₁ n b e = slip_was n b (commit_flush blank s n.flush).answer (ap (λ (o : Settled V). o.answer) e)

  -- a slip is taken up and committed, or given up
  pub commit_step_took : (blank : V) (s s₁ s₂ : State V) (k : ℕ) (f : Flush) (n : Slip) (r : Result (Unit {0}) SiteFault) (a : Reply V)
      → Ok f ≡ taking_to_commit s.table k → s₁ ≡ with_note_of s k None → n ≡ unspent f → outcome s₂ r ≡ commit_taken blank s₁ k n.flush → a ≡ plain_reply f.cell r
      → out s₂ a ≡ called blank s (CommitStep k)
  unfolding called
  commit_step_took blank s s₁ s₂ k f n r a q m u e w =
      ap (out s₂) w
      ∙ ap (replied (plain_reply f.cell)) (e ∙ ap (λ (x : Slip). commit_taken blank s₁ k x.flush) u ∙ ap (λ (x : State V). commit_taken blank x k f) m)
      ∙ ap (λ x. replied (plain_reply (taken_place x)) (next s x (λ s₃ n. commit_taken blank (with_note_of s₃ k None) k n))) q

  pub commit_step_none : (blank : V) (s : State V) (k : ℕ) (x : SiteFault) (a : Reply V) → Err x ≡ taking_to_commit s.table k → a ≡ plain (refused 0 0 x)
      → out s a ≡ called blank s (CommitStep k)
  unfolding called
  commit_step_none blank s k x a q w = ap (out s) w ∙ ap (λ y. replied (plain_reply (taken_place y)) (next s y (λ s₃ n. commit_taken blank (with_note_of s₃ k None) k n))) q

  pub give_up_step_took : (blank : V) (s s₁ s₂ : State V) (k : ℕ) (f : Flush) (n : Slip) (r : Result (Unit {0}) SiteFault) (a : Reply V)
      → Ok f ≡ taking_to_give_up s.table k → s₁ ≡ with_note_of s k None → n ≡ unspent f → outcome s₂ r ≡ give_up_call s₁ n.flush.client n.flush.cell n.flush.turn → a ≡ plain_reply f.cell r
      → out s₂ a ≡ called blank s (GiveUpStep k)
  unfolding called
  give_up_step_took blank s s₁ s₂ k f n r a q m u e w =
      ap (out s₂) w
      ∙ ap (replied (plain_reply f.cell)) (e ∙ ap (λ (x : Slip). give_up_call s₁ x.flush.client x.flush.cell x.flush.turn) u ∙ ap (λ (x : State V). give_up_call x f.client f.cell f.turn) m)
      ∙ ap (λ x. replied (plain_reply (taken_place x)) (next s x (λ s₃ n. give_up_call (with_note_of s₃ k None) n.client n.cell n.turn))) q

  pub give_up_step_none : (blank : V) (s : State V) (k : ℕ) (x : SiteFault) (a : Reply V) → Err x ≡ taking_to_give_up s.table k → a ≡ plain (refused 0 0 x)
      → out s a ≡ called blank s (GiveUpStep k)
  unfolding called
  give_up_step_none blank s k x a q w =
      ap (out s) w ∙ ap (λ y. replied (plain_reply (taken_place y)) (next s y (λ s₃ n. give_up_call (with_note_of s₃ k None) n.client n.cell n.turn))) q

-- the call of a step with the call number n
abbrev call_at : {V : Type 0} → ℕ → Step → V → Call V
call_at n p v =
    cond (eqb n 1) (Open p.client)
    (cond (eqb n 2) (Read p.client p.cell)
    (cond (eqb n 3) (Write p.client p.cell v)
    (cond (eqb n 4) (BeginStep p.client p.cell)
    (cond (eqb n 5) (CommitStep p.client)
    (cond (eqb n 6) (GiveUpStep p.client)
    (cond (eqb n 7) (Close p.client)
    (cond (eqb n 8) (Invalidate p.client)
    (cond (eqb n 9) (RestartClient p.client p.first)
    (cond (eqb n 10) (RestartServer p.first p.second) NoStep)))))))))

module _ {V : Type 0} (blank : V) (s s₁ : State V) (p : Step) (v : V) (a : Reply V) where
  pub open_stepped : (r : Result ℕ SiteFault) → p.call ≡ 1 → outcome s₁ r ≡ open_call s p.client → a ≡ open_reply r → out s₁ a ≡ called blank s (call_of p v)
  unfolding called
  open_stepped r is e w = ap (out s₁) w ∙ ap (replied open_reply) e ∙ sym (ap (λ n. called blank s (call_at n p v)) is)

  pub read_stepped : (r : Result (V × Source) SiteFault) → p.call ≡ 2 → outcome s₁ r ≡ read_call s p.client p.cell → a ≡ read_reply p.cell r → out s₁ a ≡ called blank s (call_of p v)
  unfolding called
  read_stepped r is e w = ap (out s₁) w ∙ ap (replied (read_reply p.cell)) e ∙ sym (ap (λ n. called blank s (call_at n p v)) is)

  pub write_stepped : (r : Result (Unit {0}) SiteFault) → p.call ≡ 3 → outcome s₁ r ≡ write_call s p.client p.cell v → a ≡ plain_reply p.cell r → out s₁ a ≡ called blank s (call_of p v)
  unfolding called
  write_stepped r is e w = ap (out s₁) w ∙ ap (replied (plain_reply p.cell)) e ∙ sym (ap (λ n. called blank s (call_at n p v)) is)

  pub begin_stepped : (r : Result Flush SiteFault) → p.call ≡ 4 → outcome s₁ r ≡ begin_step s p.client p.cell → a ≡ noted_reply p.cell r → out s₁ a ≡ called blank s (call_of p v)
  unfolding called
  begin_stepped r is e w = ap (out s₁) w ∙ ap (replied (noted_reply p.cell)) e ∙ sym (ap (λ n. called blank s (call_at n p v)) is)

  pub close_stepped : (r : Result (Unit {0}) SiteFault) → p.call ≡ 7 → outcome s₁ r ≡ close_call s p.client → a ≡ plain_reply 0 r → out s₁ a ≡ called blank s (call_of p v)
  unfolding called
  close_stepped r is e w = ap (out s₁) w ∙ ap (replied (plain_reply 0)) e ∙ sym (ap (λ n. called blank s (call_at n p v)) is)

  pub restart_client_stepped : (r : Result (Unit {0}) SiteFault) → p.call ≡ 9 → outcome s₁ r ≡ restart_client_call s p.client p.first → a ≡ plain_reply 0 r → out s₁ a ≡ called blank s (call_of p v)
  unfolding called
  restart_client_stepped r is e w = ap (out s₁) w ∙ ap (replied (plain_reply 0)) e ∙ sym (ap (λ n. called blank s (call_at n p v)) is)

  pub restart_server_stepped : (r : Result (Unit {0}) SiteFault) → p.call ≡ 10 → outcome s₁ r ≡ restart_server_call s p.first p.second → a ≡ plain_reply 0 r → out s₁ a ≡ called blank s (call_of p v)
  unfolding called
  restart_server_stepped r is e w = ap (out s₁) w ∙ ap (replied (plain_reply 0)) e ∙ sym (ap (λ n. called blank s (call_at n p v)) is)

  pub invalidate_stepped : (r : Result ℕ Stopped) → p.call ≡ 8 → sweeping s₁ r ≡ invalidate_call s p.client → a ≡ swept_reply r → out s₁ a ≡ called blank s (call_of p v)
  unfolding called
  invalidate_stepped r is e w = ap (out s₁) w ∙ ap swept_out e ∙ sym (ap (λ n. called blank s (call_at n p v)) is)

-- a step whose number is none of the ten
module _ {V : Type 0} (p : Step) (v : V) (no : (n : ℕ) → 0 < n → n ≤ 10 → p.call ≡ n → ⊥) where
  not_it : (n : ℕ) → 0 < n → n ≤ 10 → eqb p.call n ≡ false
  not_it n l h = ne_eqb p.call n (no n l h)

  none_of_ten : call_of p v ≡ NoStep
  none_of_ten =
      rw (
        not_it 1 (lit< tt) (lit≤ tt),
        not_it 2 (lit< tt) (lit≤ tt),
        not_it 3 (lit< tt) (lit≤ tt),
        not_it 4 (lit< tt) (lit≤ tt),
        not_it 5 (lit< tt) (lit≤ tt),
        not_it 6 (lit< tt) (lit≤ tt),
        not_it 7 (lit< tt) (lit≤ tt),
        not_it 8 (lit< tt) (lit≤ tt),
        not_it 9 (lit< tt) (lit≤ tt),
        not_it 10 (lit< tt) (lit≤ tt),
      ) refl

  pub none_stepped : (blank : V) (s : State V) (a : Reply V) → a ≡ plain (refused 0 0 NoCall) → out s a ≡ called blank s (call_of p v)
  unfolding called
  none_stepped blank s a w = ap (out s) w ∙ sym (ap (called blank s) none_of_ten)
