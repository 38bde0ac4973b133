-- A sweep's first cell, and its end.
use Rattle.std.proofs.Common.{◌≡◌, ℕ, suc, ◌+◌, ◌-◌, ◌<◌, ◌≤◌, Bool, true, false, cond, Ok, Result, sym, refl, ap, ◌∙◌, arith}
use Rattle.std.specs.Int.{from_bool}
use Rattle.rules.specs.Site.{State, Outcome, outcome}
use Rattle.rules.specs.Calls.{sweep_cell, sweep_from, sweep_more, sweeping}
use Rattle.records.specs.declared.fault.SiteFault.{SiteFault}

byte_is : (b : Bool) → from_bool b ≡ cond b 1 0
byte_is true = refl
byte_is false = refl

module _ {V : Type 0} (k : ℕ) where
  pub sweep_none : (n : ℕ) (s : State V) (i d : ℕ) → n ≡ 0 → sweep_from k n s i d ≡ sweeping s (Ok d)
  unfolding sweep_from
  sweep_none n s i d e = ap (λ m. sweep_from k m s i d) e

  pub sweep_once : (n : ℕ) (s s₁ : State V) (r : Result Bool SiteFault) (i d : ℕ) → 0 < n → outcome s₁ r ≡ sweep_cell s k i → sweep_from k n s i d ≡ sweep_more (sweep_from k (n - 1)) s₁ r i d
  unfolding sweep_from
  sweep_once n s s₁ r i d h e =
      let p : n ≡ suc (n - 1) = omega arith in
      ap (λ m. sweep_from k m s i d) p ∙ ap (λ (o : Outcome V Bool). sweep_more (sweep_from k (n - 1)) o.state o.answer i d) (sym e)

  -- one cell more
  pub sweep_next : (n n' : ℕ) (s s₁ : State V) (b : Bool) (x i d : ℕ) → 0 < n → n' ≡ n - 1 → x ≡ from_bool b → outcome s₁ (Ok b) ≡ sweep_cell s k i
      → sweep_from k n' s₁ (i + 1) (d + x) ≡ sweep_from k n s i d
  sweep_next n n' s s₁ b x i d h p q e =
      ap (λ m. sweep_from k m s₁ (i + 1) (d + x)) p ∙ ap (λ y. sweep_from k (n - 1) s₁ (i + 1) (d + y)) (q ∙ byte_is b) ∙ sym (sweep_once n s s₁ (Ok b) i d h e)

pub byte_le : (b : Bool) → from_bool b ≤ 1
byte_le true = omega arith
byte_le false = omega arith
