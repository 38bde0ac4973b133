-- What a slip is when it is given out, and what comes of it. A slip is the token that a begun flush gives out, to be handed in exactly once.
use Rattle.std.specs.Prelude.{ℕ, false, Ok, Err, Result}
use Rattle.records.specs.declared.records.Flush.{Flush}
use Rattle.records.specs.declared.fault.SiteFault.{SiteFault}
use Rattle.rules.specs.Site.{State, Outcome, outcome}
use Rattle.rules.specs.Calls.{begin_call, commit_call}
use Rattle.site.specs.declared.slip.Slip.{Slip}
use Rattle.site.specs.declared.slip.Returned.{Returned}

-- a slip that was not handed in yet
abbrev pub unspent : Flush → Slip
unspent f = record { flush = f; spent = false }

-- an accepted begin gives its slip
abbrev pub slip_given : Result Flush SiteFault → Result Slip SiteFault
slip_given (Ok f) = Ok (unspent f)
slip_given (Err e) = Err e

-- the same by the slip's numbers
abbrev pub flush_given : Result Slip SiteFault → Result Flush SiteFault
flush_given (Ok n) = Ok n.flush
flush_given (Err e) = Err e

abbrev pub begin_given : {V : Type 0} → State V → ℕ → ℕ → Outcome V Slip
begin_given s k i = outcome (begin_call s k i).state (slip_given (begin_call s k i).answer)

-- a refused commit gives the slip back as it was
abbrev pub slip_back : Slip → Result (Unit {0}) SiteFault → Result (Unit {0}) Returned
slip_back n (Ok x) = Ok x
slip_back n (Err e) = Err (record { slip = n; fault = e })

-- the same without the slip
abbrev pub fault_of : Result (Unit {0}) Returned → Result (Unit {0}) SiteFault
fault_of (Ok x) = Ok x
fault_of (Err b) = Err b.fault

-- what a commit leaves and answers
pub record Settled (V : Type 0) : Type 0 where
  pub state : State V
  pub answer : Result (Unit {0}) Returned

abbrev pub settled : {V : Type 0} → State V → Result (Unit {0}) Returned → Settled V
settled s r = record { state = s; answer = r }

abbrev pub commit_flush : {V : Type 0} → V → State V → Flush → Outcome V (Unit {0})
commit_flush blank s f = commit_call blank s f.client f.cell f.turn

abbrev pub commit_given : {V : Type 0} → V → State V → Slip → Settled V
commit_given blank s n = settled (commit_flush blank s n.flush).state (slip_back n (commit_flush blank s n.flush).answer)
