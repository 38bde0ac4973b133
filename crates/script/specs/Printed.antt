-- What is printed for a sheet: its steps are run on the sheet's own site, and each answer is printed.
use Rattle.std.specs.Prelude.{ℕ, List, [], ◌∷◌, ◌++◌, length, replicate}
use Rattle.store.specs.Stores.{Stored, stored, least}
use Rattle.store.specs.declared.life.Life.TheVariants.{Endless}
use Rattle.rules.specs.Site.{State}
use Rattle.rules.specs.Making.{Start, made}
use Rattle.rules.specs.Replies.{called, accepted}
use Rattle.rules.specs.Runs.{Rows, Running, ran}
use Rattle.rules.specs.declared.step.Step.{Step}
use Rattle.script.specs.Scripts.{Scripted, read_from, given_by, answered, ended}

-- a row of n zeros under a fuse of 1,000
abbrev pub zeros : ℕ → Stored ℕ
zeros n = stored (replicate n 0) (least 1000 Endless)

-- 8 number cells, 3 clients, all cells and marks 0, starting session 0
abbrev pub start : Start ℕ
start = record { disk = zeros 8; marks = zeros 8; locals = zeros 9 ∷ zeros 9 ∷ zeros 9 ∷ []; session = 0 }

unfoldable pub site : State ℕ
site = made start

-- the rows of the run: a write's cell is the step's first number
abbrev pub rows_of : List Step → Rows ℕ
rows_of steps = record {
  steps = steps;
  given = given_by steps;
  answers = replicate (length steps) (accepted 0 0 0);
  got = replicate (length steps) 0;
}

-- the run's answers, and then the line at which the sheet was refused
abbrev pub finished : Scripted → Running ℕ → List ℕ
finished x w = answered 0 w.answers w.got ++ ended x.last

-- what is printed for a sheet, of which at most 64 lines are read
unfoldable pub printed : List ℕ → List ℕ
printed sheet = finished (read_from 64 sheet 0) (ran (called 0) site (rows_of (read_from 64 sheet 0).steps))
