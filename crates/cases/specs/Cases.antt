-- The worked cases of the rules, as one list: what the definitions show, and what is said of it.
use Rattle.std.specs.Prelude.{◌≡◌, ℕ, List, [], ◌∷◌, map, replicate, Some, None, Ok, Err, Option, Result}
use Rattle.store.specs.Stores.{Stored, stored, endless, least, part, fault_number, read_answer, write_answer, after_write}
use Rattle.store.specs.declared.life.Life.TheVariants.{Endless}
use Rattle.store.specs.declared.life.Fault.{Fault}
use Rattle.records.specs.Faults.{unfit_number}
use Rattle.rules.specs.Making.{making}
use Rattle.rules.specs.Replies.{Open, Read, Write, Begin, Commit, Close, Invalidate, RestartClient, RestartServer}
use Rattle.records.specs.declared.fault.Unfit.{Unfit}
use Rattle.cases.specs.Setting.{Case, does, looks, ◌⇒◌, play, answer, holds, slip}
use Rattle.script.specs.Printed.{printed}
use Rattle.cases.specs.Sheets.{text}

-- what a store answers: 0, or its refusal's number
abbrev store_number : {X : Type 0} → Result X Fault → ℕ
store_number (Ok x) = 0
store_number (Err e) = fault_number e

abbrev given : Result ℕ Fault → List ℕ
given (Ok x) = 0 ∷ x ∷ []
given (Err e) = fault_number e ∷ []

-- why a site is unfit, or 0
abbrev unfitness : Option Unfit → ℕ
unfitness None = 0
unfitness (Some u) = unfit_number u

-- a sheet of four steps, and what is printed for it
abbrev case_1 : Case
case_1 = record {
  shown =
      printed (text (
      " 1 1    0          0          0"
      ∷ " 3 1    4         77          0"
      ∷ " 2 1    4          0          0"
      ∷ " 7 1    0          0          0"
      ∷ []))
      ∷ [];
  said =
      text (
      "   1  0    0          1 0"
      ∷ "   2  0    4          0 0"
      ∷ "   3  0    4         77 1"
      ∷ "   4 17    4          0 0"
      ∷ [])
      ∷ [];
}

-- the last cell can be read, the one after it not
abbrev case_2 : Case
case_2 = play (
    does (Open 1) ⇒ answer 0 0 1 0
    ∷ does (Read 1 7) ⇒ answer 0 7 0 3
    ∷ does (Read 1 8) ⇒ answer 12 8 0 0
    ∷ [])

-- one client holds; another can neither open nor read
abbrev case_3 : Case
case_3 = play (
    does (Open 1) ⇒ answer 0 0 1 0
    ∷ does (Open 2) ⇒ answer 9 0 0 0
    ∷ does (Read 2 4) ⇒ answer 11 4 0 0
    ∷ [])

-- a cell written again while it is in the journal: the disk gets what was begun, the client reads the newer
abbrev case_4 : Case
case_4 = play (
    does (Open 1) ⇒ answer 0 0 1 0
    ∷ does (Write 1 3 5) ⇒ answer 0 3 0 0
    ∷ does (Begin 1 3) ⇒ answer 0 3 1 0
    ∷ does (Write 1 3 6) ⇒ answer 0 3 0 0
    ∷ does (Commit (slip 1 3)) ⇒ answer 0 3 0 0
    ∷ looks 3 ⇒ holds 5 1
    ∷ does (Read 1 3) ⇒ answer 0 3 6 1
    ∷ does (Close 1) ⇒ answer 17 3 0 0
    ∷ [])

-- the disk is down at a commit: the mark stands, the disk not; once it is back the same slip commits
abbrev case_5 : Case
case_5 = play (
    does (Open 1) ⇒ answer 0 0 1 0
    ∷ does (Write 1 3 5) ⇒ answer 0 3 0 0
    ∷ does (Begin 1 3) ⇒ answer 0 3 1 0
    ∷ does (RestartServer 0 9) ⇒ answer 0 0 0 0
    ∷ does (Commit (slip 1 3)) ⇒ answer 20 3 0 0
    ∷ looks 3 ⇒ holds 0 1
    ∷ does (Invalidate 1) ⇒ answer 0 0 0 0
    ∷ does (RestartServer 9 9) ⇒ answer 0 0 0 0
    ∷ does (Commit (slip 1 3)) ⇒ answer 0 3 0 0
    ∷ looks 3 ⇒ holds 5 1
    ∷ [])

-- the client is down before its journal is emptied: the disk has the write, and so has the client once it is back
abbrev case_6 : Case
case_6 = play (
    does (Open 1) ⇒ answer 0 0 1 0
    ∷ does (RestartClient 1 4) ⇒ answer 0 0 0 0
    ∷ does (Write 1 3 5) ⇒ answer 0 3 0 0
    ∷ does (Begin 1 3) ⇒ answer 0 3 1 0
    ∷ does (Commit (slip 1 3)) ⇒ answer 18 3 0 0
    ∷ looks 3 ⇒ holds 5 1
    ∷ does (RestartClient 1 9) ⇒ answer 0 0 0 0
    ∷ does (Read 1 3) ⇒ answer 0 3 5 1
    ∷ [])

-- a copy that grew stale two sessions ago is fetched anew
abbrev case_7 : Case
case_7 = play (
    does (Open 1) ⇒ answer 0 0 1 0
    ∷ does (Read 1 4) ⇒ answer 0 4 0 3
    ∷ does (Close 1) ⇒ answer 0 0 0 0
    ∷ does (Open 2) ⇒ answer 0 0 2 0
    ∷ does (Write 2 4 77) ⇒ answer 0 4 0 0
    ∷ does (Begin 2 4) ⇒ answer 0 4 1 0
    ∷ does (Commit (slip 2 4)) ⇒ answer 0 4 0 0
    ∷ does (Close 2) ⇒ answer 0 0 0 0
    ∷ does (Open 1) ⇒ answer 0 0 3 0
    ∷ does (Close 1) ⇒ answer 0 0 0 0
    ∷ does (Open 1) ⇒ answer 0 0 4 0
    ∷ does (Read 1 4) ⇒ answer 0 4 77 3
    ∷ [])

-- a fuse of 1 on a row: a write is accepted, then a read is 22
abbrev fused : Stored ℕ
fused = stored (replicate 3 0) (least 1 Endless)

abbrev case_8 : Case
case_8 = record {
  shown = (store_number (write_answer fused 0) ∷ store_number (read_answer (after_write fused 0 5) 0) ∷ []) ∷ [];
  said = (0 ∷ 22 ∷ []) ∷ [];
}

-- windows on a row of 5: in window 2 and 3 cell 2 is cell 4; window 3 and 3 has no cells
abbrev row : List ℕ
row = 10 ∷ 11 ∷ 12 ∷ 13 ∷ 14 ∷ []

abbrev case_9 : Case
case_9 = record {
  shown = given (read_answer (endless (part 2 3 row)) 2) ∷ given (read_answer (endless (part 3 3 row)) 0) ∷ [];
  said = (0 ∷ 14 ∷ []) ∷ (21 ∷ []) ∷ [];
}

-- mark 7 with starting session 6 is unfit by 6; with 7 it is fit
abbrev seven : ℕ → ℕ
seven session = unfitness (making {V = ℕ} (endless (0 ∷ [])) (endless (7 ∷ [])) (endless (0 ∷ 0 ∷ []) ∷ []) session).table.unfit

abbrev case_10 : Case
case_10 = record { shown = (seven 6 ∷ seven 7 ∷ []) ∷ []; said = (6 ∷ 0 ∷ []) ∷ [] }

abbrev pub cases : List Case
cases = case_1 ∷ case_2 ∷ case_3 ∷ case_4 ∷ case_5 ∷ case_6 ∷ case_7 ∷ case_8 ∷ case_9 ∷ case_10 ∷ []

-- in each case the definitions show what is said
abbrev pub Worked : Type 0
Worked = map (λ c. c.shown) cases ≡ map (λ c. c.said) cases
