-- A run's next step, its end, and the lengths of its rows.
use Rattle.std.proofs.Common.{◌≡◌, ℕ, ◌+◌, ◌<◌, ◌≤◌, true, false, eqb, List, ◌∷◌, length, get_or, drop, set, Some, None, Option, unwrap_or, sym, refl, ap, ◌∙◌}
use Rattle.std.proofs.lemmas.List.{drop_more, drop_all, set-get_or}
use Rattle.std.proofs.lemmas.Bool.{eq-eqb, ne_eqb, and_left, and_right, and_from}
use Rattle.rules.specs.Site.{State}
use Rattle.rules.specs.Replies.{Call, Out}
use Rattle.rules.specs.Runs.{call_of, calls_of, Rows, equally_long, Running, running, put_got, filled, run_from}
use Rattle.rules.specs.declared.answer.Answer.{Answer}
use Rattle.rules.specs.declared.step.Step.{Step}
use Rattle.site.specs.Steps.{Stepped, stepped, step_left}

put_same : {V : Type 0} (gs : List V) (i : ℕ) (x : V) (y : Option V) → set gs i (unwrap_or y (get_or gs i x)) ≡ put_got gs i y
put_same gs i x None = set-get_or gs i x
put_same gs i x (Some v) = refl

module _ {V : Type 0} (perform : State V → Call V → Out V) (ps : List Step) (vs : List V) (i : ℕ) where
  run_once : (p : Step) (v : V) (w : Running V) → i < length ps → i < length vs
      → run_from perform (calls_of (drop i ps) (drop i vs)) i w
      ≡ run_from perform (calls_of (drop (i + 1) ps) (drop (i + 1) vs)) (i + 1) (filled (perform w.state (call_of (get_or ps i p) (get_or vs i v))) w i)
  unfolding run_from
  run_once p v w h k =
      ap (λ xs. run_from perform (calls_of xs (drop i vs)) i w) (drop_more ps i p h)
      ∙ ap (λ ys. run_from perform (calls_of (get_or ps i p ∷ drop (i + 1) ps) ys) i w) (drop_more vs i v k)

  pub run_next : (d p : Step) (v x : V) (s s' : State V) (rs : List Answer) (gs : List V) (a : Answer) (g' : V)
      → i < length ps → i < length vs → p ≡ get_or ps i d → v ≡ get_or vs i v → stepped s' a g' ≡ step_left (perform s (call_of p v)) (get_or gs i x)
      → run_from perform (calls_of (drop (i + 1) ps) (drop (i + 1) vs)) (i + 1) (running s' (set rs i a) (set gs i g'))
      ≡ run_from perform (calls_of (drop i ps) (drop i vs)) i (running s rs gs)
  run_next d p v x s s' rs gs a g' h k hp hv e =
      let rest : Running V → Running V = run_from perform (calls_of (drop (i + 1) ps) (drop (i + 1) vs)) (i + 1) in
      let o : Out V = perform s (call_of p v) in
      ap (λ (t : Stepped V). rest (running t.state (set rs i t.answer) (set gs i t.got))) e
      ∙ ap (λ ys. rest (running o.state (set rs i o.reply.answer) ys)) (put_same gs i x o.reply.got)
      ∙ ap (λ (c : Call V). rest (filled (perform s c) (running s rs gs) i)) (ap (λ y. call_of y v) hp ∙ ap (call_of (get_or ps i d)) hv)
      ∙ sym (run_once d v (running s rs gs) h k)

  pub run_end : (w : Running V) → length ps ≤ i → run_from perform (calls_of (drop i ps) (drop i vs)) i w ≡ w
  unfolding run_from
  run_end w h = ap (λ xs. run_from perform (calls_of xs (drop i vs)) i w) (drop_all i ps h)

module _ {V : Type 0} (r : Rows V) where
  pub long_yes : length r.given ≡ length r.steps → length r.answers ≡ length r.steps → length r.got ≡ length r.steps → equally_long r ≡ true
  long_yes a b c = and_from _ _ (eq-eqb _ _ (sym a)) (and_from _ _ (eq-eqb _ _ (sym b)) (eq-eqb _ _ (sym c)))

  pub given_no : (length r.given ≡ length r.steps → ⊥) → equally_long r ≡ false
  given_no n = and_left _ _ (ne_eqb (length r.steps) (length r.given) (λ e. n (sym e)))

  pub answers_no : (length r.answers ≡ length r.steps → ⊥) → equally_long r ≡ false
  answers_no n = and_right _ _ (and_left _ _ (ne_eqb (length r.steps) (length r.answers) (λ e. n (sym e))))

  pub got_no : (length r.got ≡ length r.steps → ⊥) → equally_long r ≡ false
  got_no n = and_right (eqb (length r.steps) (length r.given)) _ (and_right (eqb (length r.steps) (length r.answers)) _ (ne_eqb (length r.steps) (length r.got) (λ e. n (sym e))))
