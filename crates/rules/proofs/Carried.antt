-- For a crate that carries the rules out: a call that leaves and gives what its definition says carries the theorem.
use Rattle.std.proofs.Common.{◌≡◌, ℕ, Result, ap}
use Rattle.rules.specs.Site.{State, outcome}
use Rattle.rules.specs.Calls.{open_call, read_call, write_call, begin_call, commit_call, give_up_call, close_call, sweeping, invalidate_call, restart_client_call, restart_server_call}
use Rattle.rules.specs.Replies.{Open, Read, Write, Begin, Commit, GiveUp, Close, Invalidate, RestartClient, RestartServer, replied, open_reply, read_reply, begin_reply, plain_reply, swept_reply, swept_out, called}
use Rattle.rules.specs.Carry.{Continues}
use Rattle.records.specs.declared.records.Flush.{Flush}
use Rattle.records.specs.declared.fault.SiteFault.{SiteFault}
use Rattle.rules.specs.declared.answer.Source.{Source}
use Rattle.rules.specs.declared.answer.Stopped.{Stopped}
use Rattle.rules.proofs.Theorem.{continues}

module _ {V : Type 0} (blank : V) (s s' : State V) where
  pub open_carried : (k : ℕ) (r : Result ℕ SiteFault) → outcome s' r ≡ open_call s k → Continues blank s (Open k) s' (open_reply r)
  unfolding called
  open_carried k r e = continues _ _ _ _ _ (ap (replied open_reply) e)

  pub read_carried : (k i : ℕ) (r : Result (V × Source) SiteFault) → outcome s' r ≡ read_call s k i → Continues blank s (Read k i) s' (read_reply i r)
  unfolding called
  read_carried k i r e = continues _ _ _ _ _ (ap (replied (read_reply i)) e)

  pub write_carried : (k i : ℕ) (v : V) (r : Result (Unit {0}) SiteFault) → outcome s' r ≡ write_call s k i v → Continues blank s (Write k i v) s' (plain_reply i r)
  unfolding called
  write_carried k i v r e = continues _ _ _ _ _ (ap (replied (plain_reply i)) e)

  pub begin_carried : (k i : ℕ) (r : Result Flush SiteFault) → outcome s' r ≡ begin_call s k i → Continues blank s (Begin k i) s' (begin_reply i r)
  unfolding called
  begin_carried k i r e = continues _ _ _ _ _ (ap (replied (begin_reply i)) e)

  pub commit_carried : (n : Flush) (r : Result (Unit {0}) SiteFault) → outcome s' r ≡ commit_call blank s n.client n.cell n.turn → Continues blank s (Commit n) s' (plain_reply n.cell r)
  unfolding called
  commit_carried n r e = continues _ _ _ _ _ (ap (replied (plain_reply n.cell)) e)

  pub give_up_carried : (n : Flush) (r : Result (Unit {0}) SiteFault) → outcome s' r ≡ give_up_call s n.client n.cell n.turn → Continues blank s (GiveUp n) s' (plain_reply n.cell r)
  unfolding called
  give_up_carried n r e = continues _ _ _ _ _ (ap (replied (plain_reply n.cell)) e)

  pub close_carried : (k : ℕ) (r : Result (Unit {0}) SiteFault) → outcome s' r ≡ close_call s k → Continues blank s (Close k) s' (plain_reply 0 r)
  unfolding called
  close_carried k r e = continues _ _ _ _ _ (ap (replied (plain_reply 0)) e)

  pub invalidate_carried : (k : ℕ) (r : Result ℕ Stopped) → sweeping s' r ≡ invalidate_call s k → Continues blank s (Invalidate k) s' (swept_reply r)
  unfolding called
  invalidate_carried k r e = continues _ _ _ _ _ (ap swept_out e)

  pub restart_client_carried : (k n : ℕ) (r : Result (Unit {0}) SiteFault) → outcome s' r ≡ restart_client_call s k n → Continues blank s (RestartClient k n) s' (plain_reply 0 r)
  unfolding called
  restart_client_carried k n r e = continues _ _ _ _ _ (ap (replied (plain_reply 0)) e)

  pub restart_server_carried : (n m : ℕ) (r : Result (Unit {0}) SiteFault) → outcome s' r ≡ restart_server_call s n m → Continues blank s (RestartServer n m) s' (plain_reply 0 r)
  unfolding called
  restart_server_carried n m r e = continues _ _ _ _ _ (ap (replied (plain_reply 0)) e)
