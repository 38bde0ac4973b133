-- A flush that is begun and given up.
use Rattle.std.specs.Prelude.{ℕ}
use Rattle.rules.specs.Site.{State, Outcome, ◌then◌}
use Rattle.site.specs.Promises.{begin_does, give_up_does}

abbrev pub undone : {V : Type 0} → State V → ℕ → ℕ → Outcome V (Unit {0})
undone s k i = begin_does s k i then λ s₁ n. give_up_does s₁ n.flush
