-- A run on a new site.
use Rattle.std.specs.Prelude.{ℕ, List}
use Rattle.store.specs.Stores.{Stored}
use Rattle.rules.specs.Making.{making}
use Rattle.rules.specs.Replies.{called}
use Rattle.rules.specs.Runs.{Rows, Running, ran}
use Rattle.rules.specs.declared.answer.Answer.{Answer}
use Rattle.rules.specs.declared.step.Step.{Step}
use Rattle.script.specs.Printed.{site, rows_of}

-- what a run leaves on a new site of these stores, with starting session 0
unfoldable pub run_on : {V : Type 0} → V → Stored V → Stored ℕ → List (Stored V) → Rows V → Running V
run_on blank disk marks locals rows = ran (called blank) (making disk marks locals 0) rows

-- the answers and the cells got that a run leaves
pub record LeftBy : Type 0 where
  pub answers : List Answer
  pub got : List ℕ

abbrev pub left_by : List Answer → List ℕ → LeftBy
left_by rs gs = record { answers = rs; got = gs }

-- what a run of these steps leaves on the sheet's own site
unfoldable pub answers_to : List Step → LeftBy
answers_to steps = left_by (ran (called 0) site (rows_of steps)).answers (ran (called 0) site (rows_of steps)).got
