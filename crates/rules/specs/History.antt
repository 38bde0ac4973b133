-- What is done to a site, and the log of it: each call with its reply. `perform` is what a call does; the rules' own is `called`.
use Rattle.std.specs.Prelude.{cond, List, [], ◌∷◌, ◌++◌, Some, None, ◌==◌}
use Rattle.rules.specs.Site.{State}
use Rattle.rules.specs.Replies.{Call, Reply, Out}
use Rattle.rules.specs.Runs.{Rows, run_calls, ran}
use Rattle.rules.specs.Book.{Book, feed}
use Rattle.rules.specs.declared.answer.Answer.{Answer}

-- a call that was made, and its reply
pub record Entry (V : Type 0) : Type 0 where
  pub call : Call V
  pub reply : Reply V

-- what is done to a site: a single call, or a run
pub data Act (V : Type 0) : Type 0 where
  single : Call V → Act V
  run : Rows V → Act V

module _ {V : Type 0} where
  abbrev pub logged : Call V → Reply V → Entry V
  logged q r = record { call = q; reply = r }

  -- the reply that a run's rows show: a cell got belongs to an accepted read, which has a source; slips stay with the site
  abbrev pub shown : Answer → V → Reply V
  shown a g = record { answer = a; got = cond (a.source == 0) None (Some g); slip = None }

  -- the log of a run, from the rows that it left
  abbrev pub row_log : List (Call V) → List Answer → List V → List (Entry V)
  row_log [] rs gs = []
  row_log (q ∷ qs) [] gs = []
  row_log (q ∷ qs) (a ∷ rs) [] = []
  row_log (q ∷ qs) (a ∷ rs) (g ∷ gs) = logged q (shown a g) ∷ row_log qs rs gs

  -- the book after a log
  abbrev pub book_of : Book V → List (Entry V) → Book V
  book_of b [] = b
  book_of b (e ∷ es) = book_of (feed b e.call e.reply.answer) es

-- acts done to a site, one after the other
module _ {V : Type 0} (perform : State V → Call V → Out V) where
  -- the site after one act, and the log of that act
  abbrev pub acted : State V → Act V → State V
  acted s (single q) = (perform s q).state
  acted s (run r) = (ran perform s r).state

  abbrev pub act_log : State V → Act V → List (Entry V)
  act_log s (single q) = logged q (perform s q).reply ∷ []
  act_log s (run r) = row_log (run_calls r) (ran perform s r).answers (ran perform s r).got

  -- the site after a list of acts, and the log of that list
  abbrev pub after : State V → List (Act V) → State V
  after s [] = s
  after s (x ∷ xs) = after (acted s x) xs

  abbrev pub log : State V → List (Act V) → List (Entry V)
  log s [] = []
  log s (x ∷ xs) = act_log s x ++ log (acted s x) xs
