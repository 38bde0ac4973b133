-- The questions 7 to 17 that are asked of the records, in the order in which each call asks them: the first no gives its refusal.
use Rattle.std.specs.Prelude.{ℕ, zero, suc, ◌+◌, Bool, cond, ◌&&◌, Some, None, Ok, Err, Option, Result, nat_le, nat_lt}
use Rattle.std.specs.Option.{is_none, ok_or}
use Rattle.records.specs.Records.{Records, top, names, cell_of, journal_of, note_of, turn_of, flushing, unsent_at}
use Rattle.records.specs.declared.records.CellRecord.{CellRecord}
use Rattle.records.specs.declared.records.Flush.{Flush}
use Rattle.records.specs.declared.fault.SiteFault.{SiteFault}
use Rattle.records.specs.declared.fault.SiteFault.TheVariants as fault

-- an answer, and what follows where it is no refusal
abbrev pub and_then : {X Y : Type 0} → Result X SiteFault → (X → Result Y SiteFault) → Result Y SiteFault
and_then (Ok x) f = f x
and_then (Err e) f = Err e

-- a question: go on if it is a yes
abbrev pub unless : {X : Type 0} → Bool → SiteFault → Result X SiteFault → Result X SiteFault
unless b e r = cond b r (Err e)

-- a question and nothing more
abbrev pub asks : Bool → SiteFault → Result (Unit {0}) SiteFault
asks b e = unless b e (Ok tt)

-- 7: is the site fit?
abbrev pub fit : Records → Result (Unit {0}) SiteFault
fit t = asks (is_none t.unfit) fault.Unfit

-- 8: is that client there?
abbrev pub there : Records → ℕ → Bool
there t k = nat_lt 0 k && nat_le k t.count

-- 7 and 8
abbrev pub present : Records → ℕ → Result (Unit {0}) SiteFault
present t k = unless (is_none t.unfit) fault.Unfit (asks (there t k) fault.NoClient)

-- 7, 8 and 11: does this client hold?
abbrev pub holding : Records → ℕ → Result (Unit {0}) SiteFault
holding t k = and_then (present t k) (λ _. asks (names t.holder k) fault.NotHolding)

-- 7, 8, 11 and 12: is the cell below the number of cells? It gives the cell's record; every cell of a client that is there has one
abbrev pub admitted : Records → ℕ → ℕ → Result CellRecord SiteFault
admitted t k i = and_then (holding t k) (λ _. unless (nat_lt i t.size) fault.NoCell (ok_or (cell_of t k i) fault.NoCell))

-- open: 7, 8, 9, does nobody hold? and 10, is the session below the largest number? It gives the next session
abbrev pub opening : Records → ℕ → Result ℕ SiteFault
opening t k =
    and_then (present t k) λ _.
    unless (is_none t.holder) fault.Held (unless (nat_lt t.session top) fault.SessionsUsed (Ok (t.session + 1)))

-- begin: 7, 8, 11, 12, 13, is the journal empty? 14, is the cell dirty? and 15, is the turn below the largest number?
-- It gives the cell's record and the next turn
abbrev pub beginning : Records → ℕ → ℕ → Result (CellRecord × ℕ) SiteFault
beginning t k i =
    and_then (admitted t k i) λ r.
    unless (is_none (journal_of t k)) fault.JournalUsed
    (unless r.dirty fault.NotDirty (unless (nat_lt (turn_of t k) top) fault.TurnsUsed (Ok (r, turn_of t k + 1))))

-- commit: 7, 8, 11 and 16, is a flush of this client, cell and turn in the journal?
abbrev pub committing : Records → ℕ → ℕ → ℕ → Result (Unit {0}) SiteFault
committing t k i turn = and_then (holding t k) (λ _. asks (flushing t k i turn) fault.NoFlush)

-- give up: 16 alone
abbrev pub giving_up : Records → ℕ → ℕ → ℕ → Result (Unit {0}) SiteFault
giving_up t k i turn = asks (flushing t k i turn) fault.NoFlush

-- the first of the next n numbers from i on that passes
unfoldable pub first_from : (ℕ → Bool) → ℕ → ℕ → Option ℕ
first_from p zero i = None
first_from p (suc n) i = cond (p i) (Some i) (first_from p n (suc i))

-- nothing was found unsent, or the first cell that is
abbrev pub all_sent : Option ℕ → Result (Unit {0}) SiteFault
all_sent None = Ok tt
all_sent (Some i) = Err (fault.Unsent i)

-- close: 7, 8, 11 and 17, is nothing dirty and the journal empty?
abbrev pub closing : Records → ℕ → Result (Unit {0}) SiteFault
closing t k = and_then (holding t k) (λ _. all_sent (first_from (unsent_at t k) t.size 0))

-- a slip that is noted, or 16
abbrev pub taken_up : Option Flush → Result Flush SiteFault
taken_up n = ok_or n fault.NoFlush

-- a run's step 5: 7, 8 and 11, and then the slip that client k has noted
abbrev pub taking_to_commit : Records → ℕ → Result Flush SiteFault
taking_to_commit t k = and_then (holding t k) (λ _. taken_up (note_of t k))

-- a run's step 6: 7 and 8, and then the slip
abbrev pub taking_to_give_up : Records → ℕ → Result Flush SiteFault
taking_to_give_up t k = and_then (present t k) (λ _. taken_up (note_of t k))

-- the cell of a slip that was taken up
abbrev pub taken_place : Result Flush SiteFault → ℕ
taken_place (Ok n) = n.cell
taken_place (Err e) = 0
