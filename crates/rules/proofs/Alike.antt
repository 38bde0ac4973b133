-- For a crate that carries the rules out: runs of the same steps on two sites that were made and handled alike end alike.
use Rattle.std.proofs.Common.{◌≡◌, sym, ap, ◌∙◌}
use Rattle.rules.specs.Site.{State}
use Rattle.rules.specs.Making.{Start, made}
use Rattle.rules.specs.Replies.{called}
use Rattle.rules.specs.Runs.{Rows, equally_long, Running, run_calls, ran}
use Rattle.rules.specs.Carry.{LeftAlike, RunsAlike}
use Rattle.rules.specs.History.{after}
use Rattle.rules.proofs.Plays.{calls_after, calls_log, run_does}
use Rattle.rules.proofs.Theorem.{same_start}

same_calls : {V : Type 0} (p q : Rows V) → p.steps ≡ q.steps → p.given ≡ q.given → equally_long p ≡ equally_long q → run_calls p ≡ run_calls q
same_calls p q steps given long = cc

module _ {V : Type 0} (blank : V) (s t : State V) (p q : Rows V) where
  left_alike : s ≡ t → run_calls p ≡ run_calls q → LeftAlike p q (ran (called blank) s p) (ran (called blank) t q)
  unfolding ran
  left_alike e c =
      let d = run_does blank s p in
      let d' = run_does blank t q in
      let logs : calls_log (called blank) s (run_calls p) ≡ calls_log (called blank) t (run_calls q) = rw (e, c) in
      let ends : calls_after (called blank) s (run_calls p) ≡ calls_after (called blank) t (run_calls q) = rw (e, c) in
      record {
        replies = d.1 ∙ logs ∙ sym d'.1;
        records = ap (λ (u : State V). u.table) (d.0 ∙ ends ∙ sym d'.0);
        rows = λ same.
            let f : ran (called blank) s p ≡ ran (called blank) t q = rw (e, same) in
            (ap (λ (w : Running V). w.answers) f, ap (λ (w : Running V). w.got) f);
      }

  pub runs_alike : (u w : Running V) → u ≡ ran (called blank) s p → w ≡ ran (called blank) t q → RunsAlike blank s t p q u w
  runs_alike u w e f = record {
    whatever = λ x y before fit fit' same led led' steps given long.
        let together : s ≡ t = sym led ∙ ap (λ (z : Start V). after (called blank) (made z) before) (same_start x y same) ∙ led' in
        rw (e, f) (left_alike together (same_calls p q steps given long));
  }
