-- How the rules are read where a reader might miss it, as one list: what the definitions show, and what is said of it.
use Rattle.std.specs.Prelude.{◌≡◌, ℕ, List, [], ◌∷◌, map, replicate, Ok, Err, Result}
use Rattle.store.specs.Stores.{endless}
use Rattle.records.specs.Faults.{says}
use Rattle.rules.specs.Site.{State}
use Rattle.rules.specs.Making.{making}
use Rattle.rules.specs.Replies.{Open, Read, Write, Begin, Commit, GiveUp, Close, Invalidate, RestartClient, RestartServer, called, accepted}
use Rattle.rules.specs.Runs.{Rows, ran, run_answer}
use Rattle.records.specs.declared.fault.SiteFault.{SiteFault}
use Rattle.rules.specs.declared.step.Step.{Step}
use Rattle.script.specs.Printed.{site}
use Rattle.cases.specs.Setting.{Case, does, step, knows, lives, ◌⇒◌, play_on, play, answer, slip}

-- steps 5 and 6 ask 7, 8 and 11 before the note is taken up, with place 0, and so is 16 without a note; step 6 does not ask 11
abbrev without_a_note : Case
without_a_note = play (
    step 5 4 0 0 0 ⇒ answer 8 0 0 0
    ∷ step 6 4 0 0 0 ⇒ answer 8 0 0 0
    ∷ step 5 1 3 0 0 ⇒ answer 11 0 0 0
    ∷ step 6 1 3 0 0 ⇒ answer 16 0 0 0
    ∷ step 1 1 0 0 0 ⇒ answer 0 0 1 0
    ∷ step 5 1 3 0 0 ⇒ answer 16 0 0 0
    ∷ [])

-- a slip that comes back is noted again; once taken up, it is gone; given up, it is spent though the answer is 16
abbrev noted_again : Case
noted_again = play (
    step 1 1 0 0 0 ⇒ answer 0 0 1 0
    ∷ step 3 1 3 5 0 ⇒ answer 0 3 0 0
    ∷ step 4 1 3 0 0 ⇒ answer 0 3 1 0
    ∷ step 10 0 0 0 9 ⇒ answer 0 0 0 0
    ∷ step 5 1 0 0 0 ⇒ answer 20 3 0 0
    ∷ step 10 0 0 9 9 ⇒ answer 0 0 0 0
    ∷ step 5 1 0 0 0 ⇒ answer 0 3 0 0
    ∷ step 5 1 0 0 0 ⇒ answer 16 0 0 0
    ∷ step 3 1 3 6 0 ⇒ answer 0 3 0 0
    ∷ step 4 1 3 0 0 ⇒ answer 0 3 2 0
    ∷ does (Commit (record { client = 1; cell = 3; turn = 2 })) ⇒ answer 0 3 0 0
    ∷ step 6 1 0 0 0 ⇒ answer 16 3 0 0
    ∷ step 6 1 0 0 0 ⇒ answer 16 0 0 0
    ∷ [])

-- 24 comes before 7, and give up asks 16 alone: of an unfit site, and of a client that is not there
abbrev unfit_site : State ℕ
unfit_site = making (endless (0 ∷ [])) (endless (7 ∷ [])) (endless (0 ∷ 0 ∷ []) ∷ []) 6

abbrev unfit : Case
unfit = play_on unfit_site (
    does (Open 1) ⇒ answer 7 0 0 0
    ∷ does (Read 9 4) ⇒ answer 7 4 0 0
    ∷ does (RestartClient 1 9) ⇒ answer 7 0 0 0
    ∷ does (RestartServer 9 9) ⇒ answer 7 0 0 0
    ∷ does (GiveUp (slip 1 3)) ⇒ answer 16 3 0 0
    ∷ step 6 1 0 0 0 ⇒ answer 7 0 0 0
    ∷ step 0 1 5 0 0 ⇒ answer 24 0 0 0
    ∷ step 11 1 5 0 0 ⇒ answer 24 0 0 0
    ∷ [])

abbrev nobody_there : Case
nobody_there = play (
    does (GiveUp (slip 9 3)) ⇒ answer 16 3 0 0
    ∷ does (Commit (slip 9 3)) ⇒ answer 8 3 0 0
    ∷ does (Commit (slip 2 3)) ⇒ answer 11 3 0 0
    ∷ [])

-- clients are 1 to the count; a close leaves the client's cells unchecked
abbrev last_client : Case
last_client = play (
    does (Open 0) ⇒ answer 8 0 0 0
    ∷ does (Open 4) ⇒ answer 8 0 0 0
    ∷ does (Open 3) ⇒ answer 0 0 1 0
    ∷ does (Read 3 4) ⇒ answer 0 4 0 3
    ∷ knows 3 4 ⇒ (1 ∷ 1 ∷ 0 ∷ [])
    ∷ does (Close 3) ⇒ answer 0 0 0 0
    ∷ knows 3 4 ⇒ (1 ∷ 0 ∷ 0 ∷ [])
    ∷ [])

-- a client that does not hold may be restarted, and its note goes
abbrev idle_restart : Case
idle_restart = play (
    step 1 1 0 0 0 ⇒ answer 0 0 1 0
    ∷ step 3 1 3 5 0 ⇒ answer 0 3 0 0
    ∷ step 4 1 3 0 0 ⇒ answer 0 3 1 0
    ∷ does (Commit (slip 1 3)) ⇒ answer 0 3 0 0
    ∷ does (Close 1) ⇒ answer 0 0 0 0
    ∷ does (Open 2) ⇒ answer 0 0 2 0
    ∷ does (RestartClient 1 9) ⇒ answer 0 0 0 0
    ∷ step 6 1 0 0 0 ⇒ answer 16 0 0 0
    ∷ does (Read 2 3) ⇒ answer 0 3 5 3
    ∷ [])

-- a restart in a session: the session stays held, the cell in the journal becomes dirty, the turn stays
abbrev restart_in_session : Case
restart_in_session = play (
    does (Open 1) ⇒ answer 0 0 1 0
    ∷ does (Write 1 3 5) ⇒ answer 0 3 0 0
    ∷ knows 1 3 ⇒ (2 ∷ 1 ∷ 1 ∷ [])
    ∷ does (Begin 1 3) ⇒ answer 0 3 1 0
    ∷ knows 1 3 ⇒ (2 ∷ 1 ∷ 0 ∷ [])
    ∷ does (RestartClient 1 9) ⇒ answer 0 0 0 0
    ∷ knows 1 3 ⇒ (2 ∷ 0 ∷ 1 ∷ [])
    ∷ does (Commit (slip 1 3)) ⇒ answer 16 3 0 0
    ∷ does (Begin 1 3) ⇒ answer 0 3 2 0
    ∷ does (Commit (slip 1 3)) ⇒ answer 16 3 0 0
    ∷ does (GiveUp (record { client = 1; cell = 3; turn = 2 })) ⇒ answer 0 3 0 0
    ∷ knows 1 3 ⇒ (2 ∷ 0 ∷ 1 ∷ [])
    ∷ [])

-- a fetch whose local write is refused leaves the records; the lives that the mark read and the disk read took stay taken
abbrev refused_fetch : Case
refused_fetch = play (
    lives 1 ⇒ (1000 ∷ 992 ∷ 1000 ∷ [])
    ∷ does (Open 1) ⇒ answer 0 0 1 0
    ∷ does (RestartClient 1 0) ⇒ answer 0 0 0 0
    ∷ does (Read 1 4) ⇒ answer 18 4 0 0
    ∷ lives 1 ⇒ (999 ∷ 991 ∷ 0 ∷ [])
    ∷ knows 1 4 ⇒ (0 ∷ 0 ∷ 0 ∷ [])
    ∷ does (RestartClient 1 9) ⇒ answer 0 0 0 0
    ∷ does (Read 1 4) ⇒ answer 0 4 0 3
    ∷ knows 1 4 ⇒ (1 ∷ 1 ∷ 0 ∷ [])
    ∷ does (RestartClient 1 9) ⇒ answer 0 0 0 0
    ∷ does (Read 1 4) ⇒ answer 0 4 0 2
    ∷ does (Read 1 4) ⇒ answer 0 4 0 1
    ∷ [])

-- a stopped invalidate has the cell reached as place and the count so far as value, and keeps what it has done
abbrev stopped_sweep : Case
stopped_sweep = play (
    does (Open 1) ⇒ answer 0 0 1 0
    ∷ does (Read 1 0) ⇒ answer 0 0 0 3
    ∷ does (Read 1 2) ⇒ answer 0 2 0 3
    ∷ does (Read 1 5) ⇒ answer 0 5 0 3
    ∷ does (Close 1) ⇒ answer 0 0 0 0
    ∷ does (Open 2) ⇒ answer 0 0 2 0
    ∷ does (Write 2 0 77) ⇒ answer 0 0 0 0
    ∷ does (Begin 2 0) ⇒ answer 0 0 1 0
    ∷ does (Commit (slip 2 0)) ⇒ answer 0 0 0 0
    ∷ does (Close 2) ⇒ answer 0 0 0 0
    ∷ does (Open 1) ⇒ answer 0 0 3 0
    ∷ does (RestartServer 9 2) ⇒ answer 0 0 0 0
    ∷ does (Invalidate 1) ⇒ answer 19 5 1 0
    ∷ knows 1 0 ⇒ (0 ∷ 0 ∷ 0 ∷ [])
    ∷ knows 1 2 ⇒ (1 ∷ 1 ∷ 0 ∷ [])
    ∷ knows 1 5 ⇒ (1 ∷ 0 ∷ 0 ∷ [])
    ∷ does (RestartServer 9 9) ⇒ answer 0 0 0 0
    ∷ does (Invalidate 1) ⇒ answer 0 0 0 0
    ∷ [])

-- a sweep reads the marks of kept cells alone, and of no cell that is dirty or in the journal
abbrev what_is_swept : Case
what_is_swept = play (
    does (Open 1) ⇒ answer 0 0 1 0
    ∷ does (Read 1 0) ⇒ answer 0 0 0 3
    ∷ does (Write 1 2 5) ⇒ answer 0 2 0 0
    ∷ does (Write 1 3 5) ⇒ answer 0 3 0 0
    ∷ does (Begin 1 3) ⇒ answer 0 3 1 0
    ∷ lives 1 ⇒ (999 ∷ 991 ∷ 995 ∷ [])
    ∷ does (Invalidate 1) ⇒ answer 0 0 0 0
    ∷ lives 1 ⇒ (999 ∷ 990 ∷ 995 ∷ [])
    ∷ [])

-- 17 names the first cell dirty or in the journal
abbrev first_unsent : Case
first_unsent = play (
    does (Open 1) ⇒ answer 0 0 1 0
    ∷ does (Write 1 6 5) ⇒ answer 0 6 0 0
    ∷ does (Write 1 2 5) ⇒ answer 0 2 0 0
    ∷ does (Begin 1 2) ⇒ answer 0 2 1 0
    ∷ does (Begin 1 6) ⇒ answer 13 6 0 0
    ∷ does (Close 1) ⇒ answer 17 2 0 0
    ∷ does (Commit (slip 1 2)) ⇒ answer 0 2 0 0
    ∷ does (Begin 1 2) ⇒ answer 14 2 0 0
    ∷ does (Close 1) ⇒ answer 17 6 0 0
    ∷ [])

-- no call reaches the journal by number
abbrev journal_out_of_reach : Case
journal_out_of_reach = play (
    does (Open 1) ⇒ answer 0 0 1 0
    ∷ does (Read 1 8) ⇒ answer 12 8 0 0
    ∷ does (Write 1 8 5) ⇒ answer 12 8 0 0
    ∷ does (Begin 1 8) ⇒ answer 12 8 0 0
    ∷ [])

-- rows of unequal length answer 23, run nothing and stay; a cell got is written at accepted reads only
abbrev read_step : ℕ → Step
read_step cell = record { call = 2; client = 1; cell = cell; first = 0; second = 0 }

abbrev open_step : Step
open_step = record { call = 1; client = 1; cell = 0; first = 0; second = 0 }

abbrev three_steps : ℕ → Rows ℕ
three_steps n = record { steps = open_step ∷ read_step 3 ∷ read_step 8 ∷ []; given = replicate 3 0; answers = replicate 3 (accepted 0 0 0); got = replicate n 9 }

abbrev run_number : Result (Unit {0}) SiteFault → ℕ
run_number (Ok x) = 0
run_number (Err e) = (says e).number

abbrev rows_shown : Rows ℕ → List (List ℕ)
rows_shown r =
    (run_number (run_answer r) ∷ []) ∷ map (λ a. a.number) (ran (called 0) site r).answers ∷ (ran (called 0) site r).got ∷ ((ran (called 0) site r).state.table.session ∷ []) ∷ []

abbrev equal_rows : Case
equal_rows = record { shown = rows_shown (three_steps 3); said = (0 ∷ []) ∷ (0 ∷ 0 ∷ 12 ∷ []) ∷ (9 ∷ 0 ∷ 9 ∷ []) ∷ (1 ∷ []) ∷ [] }

abbrev unequal_rows : Case
unequal_rows = record { shown = rows_shown (three_steps 2); said = (23 ∷ []) ∷ (0 ∷ 0 ∷ 0 ∷ []) ∷ (9 ∷ 9 ∷ []) ∷ (0 ∷ []) ∷ [] }

abbrev pub readings : List Case
readings =
    without_a_note ∷ noted_again ∷ unfit ∷ nobody_there ∷ last_client ∷ idle_restart ∷ restart_in_session ∷ refused_fetch ∷ stopped_sweep ∷ what_is_swept ∷ first_unsent ∷ journal_out_of_reach ∷ equal_rows ∷ unequal_rows ∷ []

-- in each the definitions show what is said
abbrev pub ReadSo : Type 0
ReadSo = map (λ c. c.shown) readings ≡ map (λ c. c.said) readings
