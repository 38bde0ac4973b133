-- What each public call leaves and answers, by names that stay shut, so that a caller's proof sees no more than it opens.
use Rattle.std.specs.Prelude.{ℕ, Ok, Err, Result}
use Rattle.records.specs.declared.records.Flush.{Flush}
use Rattle.records.specs.declared.fault.SiteFault.{SiteFault}
use Rattle.rules.specs.Site.{State, Outcome}
use Rattle.rules.specs.Calls.{open_call, read_call, write_call, give_up_call, close_call, Sweeping, invalidate_call, restart_client_call, restart_server_call}
use Rattle.rules.specs.Replies.{Reply, read_reply}
use Rattle.rules.specs.declared.answer.Source.{Source}
use Rattle.site.specs.declared.slip.Slip.{Slip}
use Rattle.site.specs.Slips.{begin_given, Settled, commit_given}

-- what a read leaves, answers and puts into the caller's cell
pub record Reading (V : Type 0) : Type 0 where
  pub state : State V
  pub source : Result Source SiteFault
  pub into : V

abbrev pub reading : {V : Type 0} → State V → Result Source SiteFault → V → Reading V
reading s r v = record { state = s; source = r; into = v }

abbrev pub source_of : {V : Type 0} → Result (V × Source) SiteFault → Result Source SiteFault
source_of (Ok x) = Ok x.1
source_of (Err e) = Err e

-- a refused read leaves the caller's cell as it was
abbrev pub cell_or : {V : Type 0} → V → Result (V × Source) SiteFault → V
cell_or old (Ok x) = x.0
cell_or old (Err e) = old

-- the reply to a read of cell i that answered its source and put v into the caller's cell
abbrev pub read_shown : {V : Type 0} → ℕ → V → Result Source SiteFault → Reply V
read_shown i v (Ok source) = read_reply i (Ok (v, source))
read_shown i v (Err e) = read_reply i (Err e)

module _ {V : Type 0} where
  unfoldable pub open_does : State V → ℕ → Outcome V ℕ
  open_does s k = open_call s k

  unfoldable pub read_does : State V → ℕ → ℕ → V → Reading V
  read_does s k i old = reading (read_call s k i).state (source_of (read_call s k i).answer) (cell_or old (read_call s k i).answer)

  unfoldable pub write_does : State V → ℕ → ℕ → V → Outcome V (Unit {0})
  write_does s k i v = write_call s k i v

  unfoldable pub begin_does : State V → ℕ → ℕ → Outcome V Slip
  begin_does s k i = begin_given s k i

  unfoldable pub commit_does : V → State V → Slip → Settled V
  commit_does blank s n = commit_given blank s n

  unfoldable pub give_up_does : State V → Flush → Outcome V (Unit {0})
  give_up_does s f = give_up_call s f.client f.cell f.turn

  unfoldable pub close_does : State V → ℕ → Outcome V (Unit {0})
  close_does s k = close_call s k

  unfoldable pub invalidate_does : State V → ℕ → Sweeping V
  invalidate_does s k = invalidate_call s k

  unfoldable pub restart_client_does : State V → ℕ → ℕ → Outcome V (Unit {0})
  restart_client_does s k n = restart_client_call s k n

  unfoldable pub restart_server_does : State V → ℕ → ℕ → Outcome V (Unit {0})
  restart_server_does s n m = restart_server_call s n m
