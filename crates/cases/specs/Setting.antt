-- The site of the worked cases, and how a case is played on it.
use Rattle.std.specs.Prelude.{ℕ, suc, Bool, true, false, cond, List, [], ◌∷◌, map, Some, None, Option, ◌==◌, slice_index, slice_index_or}
use Rattle.std.specs.Option.{unwrap_or}
use Rattle.store.specs.declared.life.Life.{Life}
use Rattle.store.specs.declared.life.Life.TheVariants.{Endless, Left}
use Rattle.records.specs.Clients.{asked}
use Rattle.records.specs.Records.{record_of}
use Rattle.rules.specs.Site.{State}
use Rattle.rules.specs.Replies.{Call, Reply, called, accepted}
use Rattle.rules.specs.Runs.{Running, ran}
use Rattle.rules.specs.History.{shown}
use Rattle.script.specs.Printed.{site}
use Rattle.records.specs.declared.records.CellRecord.{CellRecord}
use Rattle.records.specs.declared.records.Flush.{Flush}

-- what is shown, and what is said to be shown: lines of numbers
pub record Case : Type 0 where
  pub shown : List (List ℕ)
  pub said : List (List ℕ)

-- a moment of a case: a call is made; a run of one step is; the disk's and the marks' cell i are looked at; what client k knows of cell i;
-- or the lives of the disk, the marks and client k's store
pub data Moment : Type 0 where
  does : Call ℕ → Moment
  step : ℕ → ℕ → ℕ → ℕ → ℕ → Moment
  looks : ℕ → Moment
  knows : ℕ → ℕ → Moment
  lives : ℕ → Moment

-- the answer's number, place, value (the cell got, after an accepted read) and source
abbrev line : Reply ℕ → List ℕ
line r = r.answer.number ∷ r.answer.place ∷ cond (r.answer.source == 0) r.answer.value (unwrap_or r.got 0) ∷ r.answer.source ∷ []

-- a run of one step; a write's cell is its first number
abbrev one_step : State ℕ → ℕ → ℕ → ℕ → ℕ → ℕ → Running ℕ
one_step s call client cell first second =
    ran (called 0) s
    (record { steps = record { call = call; client = client; cell = cell; first = first; second = second } ∷ []; given = first ∷ []; answers = accepted 0 0 0 ∷ []; got = 0 ∷ [] })

abbrev step_line : Running ℕ → List ℕ
step_line w = line (shown (slice_index_or w.answers 0 (accepted 0 0 0)) (slice_index w.got 0))

abbrev sign : Bool → ℕ
sign true = 1
sign false = 0

-- one more than the mark, or 0 if absent
abbrev mark_sign : Option ℕ → ℕ
mark_sign None = 0
mark_sign (Some m) = suc m

abbrev known : CellRecord → List ℕ
known r = mark_sign r.kept ∷ sign r.checked ∷ sign r.dirty ∷ []

-- the operations left; every store here has a number
abbrev left : Life → ℕ
left Endless = 0
left (Left n) = n

unfoldable pub played : State ℕ → List Moment → List (List ℕ)
played s [] = []
played s (does q ∷ ms) = line (called 0 s q).reply ∷ played (called 0 s q).state ms
played s (step call client cell first second ∷ ms) =
    step_line (one_step s call client cell first second) ∷ played (one_step s call client cell first second).state ms
played s (looks i ∷ ms) = (slice_index s.disk.cells i ∷ slice_index s.marks.cells i ∷ []) ∷ played s ms
played s (knows k i ∷ ms) = known (record_of s.table k i) ∷ played s ms
played s (lives k ∷ ms) = (left s.disk.life ∷ left s.marks.life ∷ unwrap_or (asked (λ b. left b.life) s.locals k) 0 ∷ []) ∷ played s ms

-- a moment and what it shows
infixr 90 ◌⇒◌
abbrev pub ◌⇒◌ : Moment → List ℕ → Moment × List ℕ
m ⇒ ns = (m, ns)

-- a case on a site
abbrev pub play_on : State ℕ → List (Moment × List ℕ) → Case
play_on s ts = record { shown = played s (map (λ t. t.0) ts); said = map (λ t. t.1) ts }

abbrev pub play : List (Moment × List ℕ) → Case
play ts = play_on site ts

abbrev pub answer : ℕ → ℕ → ℕ → ℕ → List ℕ
answer number place value source = number ∷ place ∷ value ∷ source ∷ []

-- the disk's cell and its mark
abbrev pub holds : ℕ → ℕ → List ℕ
holds cell mark = cell ∷ mark ∷ []

-- client k's first slip, for cell i
abbrev pub slip : ℕ → ℕ → Flush
slip k i = record { client = k; cell = i; turn = 1 }
