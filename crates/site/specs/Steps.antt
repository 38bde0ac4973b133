-- What a run's step puts into the rows.
use Rattle.std.specs.Prelude.{List, None}
use Rattle.std.specs.Option.{unwrap_or}
use Rattle.rules.specs.Site.{State}
use Rattle.rules.specs.Replies.{Reply, Out, called}
use Rattle.rules.specs.Runs.{Rows, Running, ran}
use Rattle.rules.specs.declared.answer.Answer.{Answer}
use Rattle.rules.specs.declared.step.Step.{Step}
use Rattle.site.specs.declared.reply.Done.{Done}

-- a step's reply; slips stay with the site
abbrev pub as_reply : {V : Type 0} → Done V → Reply V
as_reply d = record { answer = d.answer; got = d.got; slip = None }

-- the site, the answer and the cell got after a step
pub record Stepped (V : Type 0) : Type 0 where
  pub state : State V
  pub answer : Answer
  pub got : V

abbrev pub stepped : {V : Type 0} → State V → Answer → V → Stepped V
stepped s a g = record { state = s; answer = a; got = g }

-- a cell got is written at accepted reads only
abbrev pub step_left : {V : Type 0} → Out V → V → Stepped V
step_left o old = stepped o.state o.reply.answer (unwrap_or o.reply.got old)

-- the four rows
abbrev pub rows : {V : Type 0} → List Step → List V → List Answer → List V → Rows V
rows ps vs rs gs = record { steps = ps; given = vs; answers = rs; got = gs }

-- what a run leaves, by a name that stays shut
unfoldable pub run_does : {V : Type 0} → V → State V → Rows V → Running V
run_does blank s r = ran (called blank) s r
