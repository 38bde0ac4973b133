-- A list of acts is a list of calls: a run does its steps' calls in order, and its rows show their replies.
use Rattle.std.proofs.Common.{◌≡◌, ℕ, suc, List, [], ◌∷◌, ◌++◌, length, set, Option, unwrap_or, sym, refl, ap, ◌∙◌, add-one, arith}
use Rattle.std.proofs.lemmas.Bool.{cond_both, eqb-true, and_parts}
use Rattle.rules.specs.Site.{State}
use Rattle.rules.specs.Replies.{Call, Out, called}
use Rattle.rules.specs.Runs.{Rows, call_of, calls_of, equally_long, Running, running, put_got, filled, run_from, run_calls, ran}
use Rattle.rules.specs.History.{Entry, Act, single, run, logged, shown, row_log, acted, act_log, after, log}
use Rattle.rules.specs.declared.step.Step.{Step}
use Rattle.rules.specs.declared.answer.Answer.{Answer}

-- the calls of a list of acts
abbrev pub calls_in : {V : Type 0} → Act V → List (Call V)
calls_in (single q) = q ∷ []
calls_in (run r) = run_calls r

abbrev pub calls : {V : Type 0} → List (Act V) → List (Call V)
calls [] = []
calls (x ∷ xs) = calls_in x ++ calls xs

module _ {V : Type 0} (perform : State V → Call V → Out V) where
  -- a list of calls: the site after it, the log, and what a run's rows become
  abbrev pub calls_after : State V → List (Call V) → State V
  calls_after s [] = s
  calls_after s (q ∷ qs) = calls_after (perform s q).state qs

  abbrev pub calls_log : State V → List (Call V) → List (Entry V)
  calls_log s [] = []
  calls_log s (q ∷ qs) = logged q (perform s q).reply ∷ calls_log (perform s q).state qs

  abbrev pub answers_in : State V → List (Call V) → List Answer
  answers_in s [] = []
  answers_in s (q ∷ qs) = (perform s q).reply.answer ∷ answers_in (perform s q).state qs

  abbrev pub gots_in : State V → List (Call V) → List V → List V
  gots_in s [] gs = gs
  gots_in s (q ∷ qs) [] = []
  gots_in s (q ∷ qs) (g ∷ gs) = unwrap_or (perform s q).reply.got g ∷ gots_in (perform s q).state qs gs

  pub after_joined : (s : State V) (qs ps : List (Call V)) → calls_after s (qs ++ ps) ≡ calls_after (calls_after s qs) ps
  after_joined s [] ps = refl
  after_joined s (q ∷ qs) ps = after_joined (perform s q).state qs ps

  pub log_joined : (s : State V) (qs ps : List (Call V)) → calls_log s (qs ++ ps) ≡ calls_log s qs ++ calls_log (calls_after s qs) ps
  log_joined s [] ps = refl
  log_joined s (q ∷ qs) ps = ap (λ es. logged q (perform s q).reply ∷ es) (log_joined (perform s q).state qs ps)

  -- rows with an entry in front
  abbrev ahead : Answer → V → Running V → Running V
  ahead a g w = running w.state (a ∷ w.answers) (g ∷ w.got)

  put_ahead : (gs : List V) (g : V) (i : ℕ) (o : Option V) → put_got (g ∷ gs) (suc i) o ≡ g ∷ put_got gs i o
  put_ahead gs g i o = grind arith

  put_here : (gs : List V) (g : V) (o : Option V) → put_got (g ∷ gs) 0 o ≡ unwrap_or o g ∷ gs
  put_here gs g o = grind arith

  shifted : (qs : List (Call V)) (i : ℕ) (a : Answer) (g : V) (w : Running V) → run_from perform qs (suc i) (ahead a g w) ≡ ahead a g (run_from perform qs i w)
  unfolding run_from
  shifted [] i a g w = refl
  shifted (q ∷ qs) i a g w =
      let o : Out V = perform w.state q in
      ap (λ n. run_from perform qs n (filled o (ahead a g w) (suc i))) (add-one (suc i))
      ∙ (ap (λ gs. run_from perform qs (suc (suc i)) (running o.state (a ∷ set w.answers i o.reply.answer) gs)) (put_ahead w.got g i o.reply.got)
      ∙ (shifted qs (suc i) a g (filled o w i) ∙ ap (λ n. ahead a g (run_from perform qs n (filled o w i))) (sym (add-one i))))

  -- a run does its calls in order, and its rows become their answers and the cells got
  pub run_fills : (qs : List (Call V)) (s : State V) (rs : List Answer) (gs : List V) → length rs ≡ length qs → length gs ≡ length qs
      → run_from perform qs 0 (running s rs gs) ≡ running (calls_after s qs) (answers_in s qs) (gots_in s qs gs)
  unfolding run_from
  run_fills [] s [] gs e f = refl
  run_fills [] s (a ∷ rs) gs e f = absurd (omega arith)
  run_fills (q ∷ qs) s [] gs e f = absurd (omega arith)
  run_fills (q ∷ qs) s (a ∷ rs) [] e f = absurd (omega arith)
  run_fills (q ∷ qs) s (a ∷ rs) (g ∷ gs) e f =
      let o : Out V = perform s q in
      ap (λ ys. run_from perform qs 1 (running o.state (o.reply.answer ∷ rs) ys)) (put_here gs g o.reply.got)
      ∙ (shifted qs 0 o.reply.answer (unwrap_or o.reply.got g) (running o.state rs gs)
      ∙ ap (ahead o.reply.answer (unwrap_or o.reply.got g)) (run_fills qs o.state rs gs (omega arith) (omega arith)))

-- as many calls as steps
calls_long : {V : Type 0} (ps : List Step) (vs : List V) → length ps ≡ length vs → length (calls_of ps vs) ≡ length ps
calls_long [] vs e = refl
calls_long (p ∷ ps) [] e = absurd (omega arith)
calls_long (p ∷ ps) (v ∷ vs) e = ap suc (calls_long ps vs (omega arith))

module _ {V : Type 0} (blank : V) where
  -- a row shows a step's reply whole
  step_shows : (s : State V) (p : Step) (v g : V) → shown (called blank s (call_of p v)).reply.answer (unwrap_or (called blank s (call_of p v)).reply.got g) ≡ (called blank s (call_of p v)).reply
  unfolding called
  step_shows s p v g = grind arith

  -- the rows that a run leaves are the log of its calls
  rows_show : (s : State V) (ps : List Step) (vs gs : List V) → length gs ≡ length (calls_of ps vs)
      → row_log (calls_of ps vs) (answers_in (called blank) s (calls_of ps vs)) (gots_in (called blank) s (calls_of ps vs) gs) ≡ calls_log (called blank) s (calls_of ps vs)
  rows_show s [] vs gs e = refl
  rows_show s (p ∷ ps) [] gs e = refl
  rows_show s (p ∷ ps) (v ∷ vs) [] e = absurd (omega arith)
  rows_show s (p ∷ ps) (v ∷ vs) (g ∷ gs) e =
      let o : Out V = called blank s (call_of p v) in
      ap (λ r. logged (call_of p v) r ∷ row_log (calls_of ps vs) (answers_in (called blank) o.state (calls_of ps vs)) (gots_in (called blank) o.state (calls_of ps vs) gs)) (step_shows s p v g)
      ∙ ap (λ es. logged (call_of p v) o.reply ∷ es) (rows_show o.state ps vs gs (omega arith))

  abbrev RunDoes : State V → Rows V → List (Call V) → Type 0
  RunDoes s r qs =
      ((run_from (called blank) qs 0 (running s r.answers r.got)).state ≡ calls_after (called blank) s qs)
      × (row_log qs (run_from (called blank) qs 0 (running s r.answers r.got)).answers (run_from (called blank) qs 0 (running s r.answers r.got)).got ≡ calls_log (called blank) s qs)

  pub run_does : (s : State V) (r : Rows V) → RunDoes s r (run_calls r)
  unfolding run_from
  run_does s r =
      cond_both (equally_long r) _ _ (RunDoes s r)
      (λ y.
      let a = and_parts _ _ y in
      let a' = and_parts _ _ a.1 in
      let e = eqb-true _ _ a.0 in
      let f = eqb-true _ _ a'.0 in
      let h = eqb-true _ _ a'.1 in
      let n = calls_long r.steps r.given e in
      let z = run_fills (called blank) (calls_of r.steps r.given) s r.answers r.got (sym f ∙ sym n) (sym h ∙ sym n) in (
        ap (λ (w : Running V). w.state) z,
        ap (λ (w : Running V). row_log (calls_of r.steps r.given) w.answers w.got) z ∙ rows_show s r.steps r.given r.got (sym h ∙ sym n),
      ))
      (λ _. (refl, refl))

  pub act_does : (s : State V) (x : Act V) → (acted (called blank) s x ≡ calls_after (called blank) s (calls_in x)) × (act_log (called blank) s x ≡ calls_log (called blank) s (calls_in x))
  unfolding ran
  act_does s (single q) = (refl, refl)
  act_does s (run r) = run_does s r

  -- a list of acts does what the list of their calls does
  pub acts_do : (s : State V) (xs : List (Act V)) → (after (called blank) s xs ≡ calls_after (called blank) s (calls xs)) × (log (called blank) s xs ≡ calls_log (called blank) s (calls xs))
  acts_do s [] = (refl, refl)
  acts_do s (x ∷ xs) =
      let a = act_does s x in
      let more = acts_do (acted (called blank) s x) xs in (
        more.0 ∙ (ap (λ (u : State V). calls_after (called blank) u (calls xs)) a.0 ∙ sym (after_joined (called blank) s (calls_in x) (calls xs))),
        ap (λ es. es ++ log (called blank) (acted (called blank) s x) xs) a.1
            ∙ (ap (λ es. calls_log (called blank) s (calls_in x) ++ es) (more.1 ∙ ap (λ (u : State V). calls_log (called blank) u (calls xs)) a.0)
            ∙ sym (log_joined (called blank) s (calls_in x) (calls xs))),
      )
