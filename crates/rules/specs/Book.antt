-- The book, by which consistency is judged: each cell's last accepted write, and how far that write has come. It is fed each call with its answer.
use Rattle.std.specs.Prelude.{ℕ, Bool, true, false, cond, ◌==◌}
use Rattle.rules.specs.Replies.{Call, Open, Read, Write, Begin, Commit, GiveUp, Close, Invalidate, RestartClient, RestartServer, BeginStep, CommitStep, GiveUpStep, NoStep}
use Rattle.rules.specs.declared.answer.Answer.{Answer}

-- on the disk; in a client's cache only; or in the journal, on its way
pub data Stage : Type 0 where
  sent : Stage
  waiting : Stage
  begun : Stage

-- a cell's line in the book
pub record Line (V : Type 0) : Type 0 where
  pub last : V
  pub stage : Stage

abbrev pub Book : Type 0 → Type 0
Book V = ℕ → Line V

-- a table by index with one entry changed
abbrev pub put : {X : Type 0} → (ℕ → X) → ℕ → X → ℕ → X
put f i a j = cond (j == i) a (f j)

-- not on the disk yet
abbrev pub unsent : Stage → Bool
unsent sent = false
unsent waiting = true
unsent begun = true

-- a commit sends what was begun; a cell written again meanwhile goes on waiting
abbrev pub after_sending : Stage → Stage
after_sending sent = sent
after_sending waiting = waiting
after_sending begun = sent

-- what an accepted call means to the book
pub data Deed (V : Type 0) : Type 0 where
  reads : ℕ → Deed V
  writes : ℕ → V → Deed V
  begins : ℕ → Deed V
  sends : ℕ → Deed V
  other : Deed V

module _ {V : Type 0} where
  -- a commit sends its slip's cell; a step that takes the slip up has that cell as its answer's place
  abbrev pub deed : Call V → Answer → Deed V
  deed (Open k) a = other
  deed (Read k i) a = reads i
  deed (Write k i v) a = writes i v
  deed (Begin k i) a = begins i
  deed (Commit n) a = sends n.cell
  deed (GiveUp n) a = other
  deed (Close k) a = other
  deed (Invalidate k) a = other
  deed (RestartClient k n) a = other
  deed (RestartServer n m) a = other
  deed (BeginStep k i) a = begins i
  deed (CommitStep k) a = sends a.place
  deed (GiveUpStep k) a = other
  deed NoStep a = other

  -- the same write at another stage
  abbrev pub staged : Line V → Stage → Line V
  staged n g = record { last = n.last; stage = g }

  -- the book after an accepted call
  abbrev pub entered : Book V → Deed V → Book V
  entered b (reads i) = b
  entered b (writes i v) = put b i (record { last = v; stage = waiting })
  entered b (begins i) = put b i (staged (b i) begun)
  entered b (sends i) = put b i (staged (b i) (after_sending (b i).stage))
  entered b other = b

  -- refused calls change nothing
  abbrev pub fed : Book V → Deed V → Answer → Book V
  fed b d a = cond (a.number == 0) (entered b d) b

  -- the book, fed a call with its answer
  abbrev pub feed : Book V → Call V → Answer → Book V
  feed b q a = fed b (deed q a) a
