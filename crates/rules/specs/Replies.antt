-- What each call replies: the answer, the cell got and the slip.
use Rattle.std.specs.Prelude.{ℕ, Some, None, Ok, Err, Option, Result}
use Rattle.std.specs.Option.{unwrap_or}
use Rattle.records.specs.Faults.{says}
use Rattle.records.specs.Questions.{taken_place, taking_to_commit, taking_to_give_up}
use Rattle.rules.specs.Site.{State, Outcome}
use Rattle.rules.specs.Calls.{open_call, read_call, write_call, begin_call, commit_call, give_up_call, close_call, Sweeping, invalidate_call, restart_client_call, restart_server_call, begin_step, commit_step, give_up_step}
use Rattle.records.specs.declared.records.Flush.{Flush}
use Rattle.records.specs.declared.fault.SiteFault.{SiteFault}
use Rattle.records.specs.declared.fault.SiteFault.TheVariants.{NoCall}
use Rattle.rules.specs.Sources.{source_number}
use Rattle.rules.specs.declared.answer.Answer.{Answer}
use Rattle.rules.specs.declared.answer.Source.{Source}
use Rattle.rules.specs.declared.answer.Stopped.{Stopped}

-- a call as it is made, singly or as a step of a run; a slip is handed in by its plain numbers, and a step takes the noted one.
-- NoStep is a step whose call number is none of the ten
pub data Call (V : Type 0) : Type 0 where
  Open : ℕ → Call V
  Read : ℕ → ℕ → Call V
  Write : ℕ → ℕ → V → Call V
  Begin : ℕ → ℕ → Call V
  Commit : Flush → Call V
  GiveUp : Flush → Call V
  Close : ℕ → Call V
  Invalidate : ℕ → Call V
  RestartClient : ℕ → ℕ → Call V
  RestartServer : ℕ → ℕ → Call V
  BeginStep : ℕ → ℕ → Call V
  CommitStep : ℕ → Call V
  GiveUpStep : ℕ → Call V
  NoStep : Call V

-- the answer, the cell that an accepted read got, and the slip that an accepted begin gives out
pub record Reply (V : Type 0) : Type 0 where
  pub answer : Answer
  pub got : Option V
  pub slip : Option Flush

-- what a call leaves, and its reply
pub record Out (V : Type 0) : Type 0 where
  pub state : State V
  pub reply : Reply V

abbrev pub out : {V : Type 0} → State V → Reply V → Out V
out s r = record { state = s; reply = r }

-- an answer alone
abbrev pub plain : {V : Type 0} → Answer → Reply V
plain a = record { answer = a; got = None; slip = None }

-- accepted, about the cell `place`
abbrev pub accepted : ℕ → ℕ → ℕ → Answer
accepted place value source = record { number = 0; place = place; value = value; source = source; fault = None }

-- refused, about the cell `place` unless the refusal names another
abbrev pub refused : ℕ → ℕ → SiteFault → Answer
refused place value e = record { number = (says e).number; place = unwrap_or (says e).place place; value = value; source = 0; fault = (says e).held }

-- the value is the session
abbrev pub open_reply : {V : Type 0} → Result ℕ SiteFault → Reply V
open_reply (Ok n) = plain (accepted 0 n 0)
open_reply (Err e) = plain (refused 0 0 e)

-- the cell got, with its source
abbrev pub read_reply : {V : Type 0} → ℕ → Result (V × Source) SiteFault → Reply V
read_reply i (Ok x) = record { answer = accepted i 0 (source_number x.1); got = Some x.0; slip = None }
read_reply i (Err e) = plain (refused i 0 e)

-- the value is the turn
abbrev pub begin_reply : {V : Type 0} → ℕ → Result Flush SiteFault → Reply V
begin_reply i (Ok n) = record { answer = accepted i n.turn 0; got = None; slip = Some n }
begin_reply i (Err e) = plain (refused i 0 e)

-- a run keeps the slip
abbrev pub noted_reply : {V : Type 0} → ℕ → Result Flush SiteFault → Reply V
noted_reply i (Ok n) = plain (accepted i n.turn 0)
noted_reply i (Err e) = plain (refused i 0 e)

-- a call about cell i, or about none (0)
abbrev pub plain_reply : {V : Type 0} → ℕ → Result (Unit {0}) SiteFault → Reply V
plain_reply i (Ok x) = plain (accepted i 0 0)
plain_reply i (Err e) = plain (refused i 0 e)

-- the value is the count of cells made absent, also where it stopped
abbrev pub swept_reply : {V : Type 0} → Result ℕ Stopped → Reply V
swept_reply (Ok n) = plain (accepted 0 n 0)
swept_reply (Err x) = plain (refused x.place x.value x.fault)

-- a call's outcome with its reply
abbrev pub replied : {V X : Type 0} → (Result X SiteFault → Reply V) → Outcome V X → Out V
replied reply o = out o.state (reply o.answer)

-- the same of a sweep
abbrev pub swept_out : {V : Type 0} → Sweeping V → Out V
swept_out o = out o.state (swept_reply o.answer)

-- each call; `blank` is the blank cell
unfoldable pub called : {V : Type 0} → V → State V → Call V → Out V
called blank s (Open k) = replied open_reply (open_call s k)
called blank s (Read k i) = replied (read_reply i) (read_call s k i)
called blank s (Write k i v) = replied (plain_reply i) (write_call s k i v)
called blank s (Begin k i) = replied (begin_reply i) (begin_call s k i)
called blank s (Commit n) = replied (plain_reply n.cell) (commit_call blank s n.client n.cell n.turn)
called blank s (GiveUp n) = replied (plain_reply n.cell) (give_up_call s n.client n.cell n.turn)
called blank s (Close k) = replied (plain_reply 0) (close_call s k)
called blank s (Invalidate k) = swept_out (invalidate_call s k)
called blank s (RestartClient k n) = replied (plain_reply 0) (restart_client_call s k n)
called blank s (RestartServer n m) = replied (plain_reply 0) (restart_server_call s n m)
called blank s (BeginStep k i) = replied (noted_reply i) (begin_step s k i)
called blank s (CommitStep k) = replied (plain_reply (taken_place (taking_to_commit s.table k))) (commit_step blank s k)
called blank s (GiveUpStep k) = replied (plain_reply (taken_place (taking_to_give_up s.table k))) (give_up_step s k)
called blank s NoStep = out s (plain (refused 0 0 NoCall))
