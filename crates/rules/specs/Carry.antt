-- How a public call carries the theorem.
use Rattle.std.specs.Prelude.{◌≡◌, List, [], ◌∷◌, ◌++◌}
use Rattle.rules.specs.Site.{State}
use Rattle.rules.specs.Making.{Start, made}
use Rattle.rules.specs.Replies.{Call, Reply, out, called}
use Rattle.rules.specs.Runs.{Rows, equally_long, Running, running, run_calls, ran}
use Rattle.rules.specs.History.{Act, logged, row_log, after, log}
use Rattle.rules.specs.Claim.{Fit, SameStart, Upheld}
use Rattle.rules.specs.declared.answer.Answer.{Answer}

-- a call found the site as `entry`, left it as `exit` and replied r: whatever start and acts led to `entry`,
-- all is upheld after those acts and this call
pub record Continues {V : Type 0} (blank : V) (entry : State V) (q : Call V) (exit : State V) (r : Reply V) : Type 0 where
  pub whatever : (x : Start V) (before : List (Act V)) → Fit x → after (called blank) (made x) before ≡ entry
      → Upheld blank x (log (called blank) (made x) before ++ (logged q r ∷ [])) exit

-- the same of a run, with the rows that it left
pub record ContinuesRun {V : Type 0} (blank : V) (entry : State V) (r : Rows V) (exit : State V) (answers : List Answer) (got : List V) : Type 0 where
  pub whatever : (x : Start V) (before : List (Act V)) → Fit x → after (called blank) (made x) before ≡ entry
      → Upheld blank x (log (called blank) (made x) before ++ row_log (run_calls r) answers got) exit

-- whatever code does what the rules say carries it
pub record Carries (V : Type 0) : Type 0 where
  pub call : (blank : V) (entry : State V) (q : Call V) (exit : State V) (r : Reply V) → out exit r ≡ called blank entry q → Continues blank entry q exit r
  pub run : (blank : V) (entry : State V) (r : Rows V) (exit : State V) (answers : List Answer) (got : List V) → running exit answers got ≡ ran (called blank) entry r
      → ContinuesRun blank entry r exit answers got

-- what two runs of the same steps with the same cells given, in rows p and q, have alike when they leave u and w: what the rows show of
-- each step, which is its answer whole and the cell that an accepted read got; the records, notes and all; and, where the rows were
-- found equal, the rows as they are left
pub record LeftAlike {V : Type 0} (p q : Rows V) (u w : Running V) : Type 0 where
  pub replies : row_log (run_calls p) u.answers u.got ≡ row_log (run_calls q) w.answers w.got
  pub records : u.state.table ≡ w.state.table
  pub rows : p ≡ q → (u.answers ≡ w.answers) × (u.got ≡ w.got)

-- how a public call over two sites carries it. They were found as s and t, given the rows p and q, and left as u and w: whatever such
-- starts and whatever one list of acts led to s and to t, the runs end alike
pub record RunsAlike {V : Type 0} (blank : V) (s t : State V) (p q : Rows V) (u w : Running V) : Type 0 where
  pub whatever : (x y : Start V) (before : List (Act V)) → Fit x → Fit y → SameStart x y
      → after (called blank) (made x) before ≡ s → after (called blank) (made y) before ≡ t
      → p.steps ≡ q.steps → p.given ≡ q.given → equally_long p ≡ equally_long q → LeftAlike p q u w
