use Rattle.std.proofs.Common.{◌≡◌, false, cond, [], sym, refl, ap, ◌∙◌, arith}
use Rattle.records.specs.Questions.{asks}
use Rattle.records.specs.declared.fault.SiteFault.TheVariants.{RowsUnequal}
use Rattle.rules.specs.Replies.{called}
use Rattle.rules.specs.Runs.{calls_of, equally_long, running, ran, run_from}
use Rattle.rules.specs.declared.step.Step.{Step}
use Rattle.site.specs.Means.{site_state}
use Rattle.site.specs.Steps.{rows}
use Rattle.site.proofs.Running.{run_next, run_end, long_yes, given_no, answers_no, got_no}
use Rattle.site.proofs.site.Site.do_run.Goals as goal
use Rattle.site.proofs.site.Site.do_run.Goals.{then-given-n-via-then-given-n, then-given-n-via-else-given-n+then-answers-n, then-given-n-via-else-given-n+else-answers-n+then-got-n}

abbrev no_step : Step
no_step = record { call = 0; client = 0; cell = 0; first = 0; second = 0 }

pub loop-i-preserved : goal.loop-i-preserved
loop-i-preserved g c = (
  run_next (called g.D.Cell.Cell.empty) c.args.steps.now c.args.given.now c.loop-i.i no_step _ c.index-given-i.result c.index-got-i.result
      (site_state g.D.Store g.M.Store g.B.Bank c.loop-i.self) (site_state g.D.Store g.M.Store g.B.Bank c.step.new.self)
      c.loop-i.answers c.loop-i.got c.step.new.answer c.step.new.got
      c.loop-i-test.true (omega arith) refl c.index-given-i.is c.step.ensures.does
      ∙ c.loop-i.invariant.0,
  c.step.ensures.kept ∙ c.loop-i.invariant.1,
)

pub returns-then-given-n : goal.returns-then-given-n
unfolding ran run_from
returns-then-given-n g c =
    let found = rows c.args.steps.now c.args.given.now c.args.answers.now c.args.got.now in
    let no : equally_long found ≡ false = elim c.then-given-n.branch [
      | then-given-n-via-then-given-n w ↦ given_no found w.if-given-n.true
      | then-given-n-via-else-given-n+then-answers-n w ↦ answers_no found w.if-answers-n.true
      | then-given-n-via-else-given-n+else-answers-n+then-got-n w ↦ got_no found w.if-got-n.true
    ] in
    record {
      answer = sym (ap (λ b. asks b RowsUnequal) no);
      left =
          sym (ap (λ b. run_from (called g.D.Cell.Cell.empty) (cond b (calls_of c.args.steps.now c.args.given.now) []) 0
          (running (site_state g.D.Store g.M.Store g.B.Bank c.args.self.now) c.args.answers.now c.args.got.now)) no);
      kept = refl;
    }

pub returns : goal.returns
unfolding ran
returns g c =
    let found = rows c.args.steps.now c.args.given.now c.args.answers.now c.args.got.now in
    let yes = long_yes found c.if-given-n.false c.if-answers-n.false c.if-got-n.false in
    record {
      answer = sym (ap (λ b. asks b RowsUnequal) yes);
      left =
          sym (run_end (called g.D.Cell.Cell.empty) c.args.steps.now c.args.given.now c.loop-i.i
          (running (site_state g.D.Store g.M.Store g.B.Bank c.loop-i.self) c.loop-i.answers c.loop-i.got) c.loop-i-test.false)
          ∙ c.loop-i.invariant.0
          ∙ sym (ap (λ b. run_from (called g.D.Cell.Cell.empty) (cond b (calls_of c.args.steps.now c.args.given.now) []) 0
          (running (site_state g.D.Store g.M.Store g.B.Bank c.args.self.now) c.args.answers.now c.args.got.now)) yes);
      kept = c.loop-i.invariant.1;
    }
