-- A run: four rows, of which it reads the steps and the cells given and fills the answers and the cells got, step by step.
use Rattle.std.specs.Prelude.{ℕ, ◌+◌, Bool, cond, ◌&&◌, List, [], ◌∷◌, length, Some, None, Option, Result, ◌==◌, slice_set}
use Rattle.records.specs.Questions.{asks}
use Rattle.rules.specs.Site.{State}
use Rattle.rules.specs.Replies.{Call, Open, Read, Write, Close, Invalidate, RestartClient, RestartServer, BeginStep, CommitStep, GiveUpStep, NoStep, Out}
use Rattle.rules.specs.declared.step.Step.{Step}
use Rattle.rules.specs.declared.answer.Answer.{Answer}
use Rattle.records.specs.declared.fault.SiteFault.{SiteFault}
use Rattle.records.specs.declared.fault.SiteFault.TheVariants.{RowsUnequal}

-- 24: is the call 1 to 10? The call that a step makes, with the cell given; fields that it does not take are ignored
abbrev pub call_of : {V : Type 0} → Step → V → Call V
call_of p v =
    cond (p.call == 1) (Open p.client)
    (cond (p.call == 2) (Read p.client p.cell)
    (cond (p.call == 3) (Write p.client p.cell v)
    (cond (p.call == 4) (BeginStep p.client p.cell)
    (cond (p.call == 5) (CommitStep p.client)
    (cond (p.call == 6) (GiveUpStep p.client)
    (cond (p.call == 7) (Close p.client)
    (cond (p.call == 8) (Invalidate p.client)
    (cond (p.call == 9) (RestartClient p.client p.first)
    (cond (p.call == 10) (RestartServer p.first p.second) NoStep)))))))))

-- the calls of the steps with the cells given, in order
abbrev pub calls_of : {V : Type 0} → List Step → List V → List (Call V)
calls_of [] vs = []
calls_of (p ∷ ps) [] = []
calls_of (p ∷ ps) (v ∷ vs) = call_of p v ∷ calls_of ps vs

-- the four rows as a run finds them
pub record Rows (V : Type 0) : Type 0 where
  pub steps : List Step
  pub given : List V
  pub answers : List Answer
  pub got : List V

-- 23: are the four equally long?
abbrev pub equally_long : {V : Type 0} → Rows V → Bool
equally_long r = length r.steps == length r.given && (length r.steps == length r.answers && length r.steps == length r.got)

-- what a run answers: yes, or 23
abbrev pub run_answer : {V : Type 0} → Rows V → Result (Unit {0}) SiteFault
run_answer r = asks (equally_long r) RowsUnequal

-- a run on its way: the site, and the two rows that it fills
pub record Running (V : Type 0) : Type 0 where
  pub state : State V
  pub answers : List Answer
  pub got : List V

abbrev pub running : {V : Type 0} → State V → List Answer → List V → Running V
running s rs gs = record { state = s; answers = rs; got = gs }

-- a cell got is written at accepted reads only
abbrev pub put_got : {V : Type 0} → List V → ℕ → Option V → List V
put_got gs i None = gs
put_got gs i (Some v) = slice_set gs i v

-- step i is done, with what it left and replied
abbrev pub filled : {V : Type 0} → Out V → Running V → ℕ → Running V
filled o w i = running o.state (slice_set w.answers i o.reply.answer) (put_got w.got i o.reply.got)

-- the steps from step i on, where `perform` does each call; a refused step ends only itself
unfoldable pub run_from : {V : Type 0} → (State V → Call V → Out V) → List (Call V) → ℕ → Running V → Running V
run_from perform [] i w = w
run_from perform (q ∷ qs) i w = run_from perform qs (i + 1) (filled (perform w.state q) w i)

-- the calls that a run makes: none where the rows are not equally long
abbrev pub run_calls : {V : Type 0} → Rows V → List (Call V)
run_calls r = cond (equally_long r) (calls_of r.steps r.given) []

-- what a run leaves
unfoldable pub ran : {V : Type 0} → (State V → Call V → Out V) → State V → Rows V → Running V
ran perform s r = run_from perform (run_calls r) 0 (running s r.answers r.got)
