-- A copy lays the source's cells over the target's, as far as it came. Assumes nothing.
use Rattle.std.proofs.Common.{◌≡◌, ℕ, zero, suc, ◌+◌, ◌-◌, ◌<◌, ◌≤◌, max, ◌≢◌, List, length, set, Some, Ok, Err, Result, sym, refl, ap, ◌∙◌, subst, ⊎_elim, arith}
use Rattle.std.specs.List.{slice_get}
use Rattle.std.proofs.lemmas.Option.{slice_get_cases}
use Rattle.std.proofs.lemmas.Grind.{common_steps}
use Rattle.std.proofs.lemmas.Bool.{cases_lt}
use Rattle.store.specs.declared.life.Fault.{Fault}
use Rattle.store.specs.Stores.{Stored, after, read_answer, write_answer}
use Rattle.store.proofs.Laws.{read_gives, write_inside}
use Rattle.transfer.specs.declared.Side.TheVariants.{Source, Target}
use Rattle.transfer.specs.declared.Stop.{Stop}
use Rattle.transfer.specs.Copies.{Moved, moved, stop, told, put_on, copied_cell, copied_from, go_on, reached, Overlaid}

nth_set_same : {C : Type 0} (xs : List C) (i : ℕ) (v : C) → i < length xs → slice_get (set xs i v) i ≡ Some v
nth_set_same xs i v h = let at = slice_get_cases (set xs i v) i in grind (arith, common_steps)

nth_set_other : {C : Type 0} (xs : List C) (i k : ℕ) (v : C) → k ≢ i → slice_get (set xs i v) k ≡ slice_get xs k
nth_set_other xs i k v h =
    let new = slice_get_cases (set xs i v) k in
    let old = slice_get_cases xs k in
    grind (arith, common_steps)

-- a cell copied is refused, and the target's cells stay; or the source's cell stands in its place
module _ {C : Type 0} (Q : Stored C → Stored C → Result (Unit {0}) Stop → Type 0) (a b : Stored C) (i : ℕ)
    (refused : (a' b' : Stored C) (s : Stop) → s.at ≡ i → b'.cells ≡ b.cells → Q a' b' (Err s))
    (accepted : (a' b' : Stored C) (v : C) → a'.cells ≡ a.cells → slice_get a.cells i ≡ Some v → i < length b.cells → b'.cells ≡ set b.cells i v → Q a' b' (Ok tt)) where
  by_write : (a' : Stored C) (v : C) → a'.cells ≡ a.cells → slice_get a.cells i ≡ Some v → (r : Result (Unit {0}) Fault) → write_answer b i ≡ r → Q a' (after r b (set b.cells i v)) (told i r)
  by_write a' v p q (Ok x) e = accepted a' _ v p q (write_inside b i e) refl
  by_write a' v p q (Err x) e = refused a' b (stop i Target x) refl refl

  by_read : (r : Result C Fault) → read_answer a i ≡ r → Q (put_on (after r a a.cells) b i r).from (put_on (after r a a.cells) b i r).to (put_on (after r a a.cells) b i r).answer
  by_read (Ok v) e = by_write _ v refl (read_gives a i v e) (write_answer b i) refl
  by_read (Err x) e = refused a b (stop i Source x) refl refl

  pub by_cell : Q (copied_cell a b i).from (copied_cell a b i).to (copied_cell a b i).answer
  by_cell = by_read (read_answer a i) refl

none_laid : {C : Type 0} (i n : ℕ) (xs ys zs : List C) → n ≤ i → zs ≡ ys → Overlaid i n xs ys zs
none_laid i n xs ys zs h e = record {
  inside = λ k a b. absurd (omega arith);
  before = λ k a. ap (λ l. slice_get l k) e;
  beyond = λ k a. ap (λ l. slice_get l k) e;
}

-- one cell laid over, and then the rest
laid_on : {C : Type 0} (i n : ℕ) (xs xs' ys ys' zs : List C) (v : C) → i < n → xs' ≡ xs → slice_get xs i ≡ Some v → i < length ys → ys' ≡ set ys i v
    → Overlaid (i + 1) n xs' ys' zs → Overlaid i n xs ys zs
laid_on i n xs xs' ys ys' zs v h p q w e o = record {
  inside = λ k a b. ⊎_elim
      (λ below. o.before k below ∙ ap (λ l. slice_get l k) e ∙ (let at : k ≡ i = omega arith in subst (λ (j : ℕ). slice_get (set ys i v) j ≡ slice_get xs j) (sym at) (nth_set_same ys i v w ∙ sym q)))
      (λ above. o.inside k above b ∙ ap (λ l. slice_get l k) p)
      (cases_lt k (i + 1));
  before = λ k a. o.before k (omega arith) ∙ ap (λ l. slice_get l k) e ∙ nth_set_other ys i k v (omega arith);
  beyond = λ k a. o.beyond k a ∙ ap (λ l. slice_get l k) e ∙ nth_set_other ys i k v (omega arith);
}

-- the same end, one cell on
end_on : (n i : ℕ) (r : Result (Unit {0}) Stop) → reached ((i + 1) + n) r ≡ reached (i + suc n) r
end_on n i r = let e : (i + 1) + n ≡ i + suc n = omega arith in ap (λ m. reached m r) e

module _ {C : Type 0} where
  -- a copy does not stop before its first cell
  not_before : (n i : ℕ) (a b : Stored C) → i ≤ reached (i + n) (copied_from n i a b).answer
  unfolding copied_from
  not_before zero i a b = omega arith
  not_before (suc n) i a b =
      by_cell (λ a' b' r. i ≤ reached (i + suc n) (go_on (copied_from n (i + 1)) a' b' r).answer) a b i
      (λ a' b' s at e. omega (arith, at))
      (λ a' b' v p q w e. omega (arith, not_before n (i + 1) a' b', end_on n i (copied_from n (i + 1) a' b').answer))

  pub laid_over : (n i : ℕ) (a b : Stored C) → Overlaid i (reached (i + n) (copied_from n i a b).answer) a.cells b.cells (copied_from n i a b).to.cells
  unfolding copied_from
  laid_over zero i a b = none_laid i (i + 0) a.cells b.cells b.cells (omega arith) refl
  laid_over (suc n) i a b =
      by_cell (λ a' b' r. Overlaid i (reached (i + suc n) (go_on (copied_from n (i + 1)) a' b' r).answer) a.cells b.cells (go_on (copied_from n (i + 1)) a' b' r).to.cells) a b i
      (λ a' b' s at e. none_laid i s.at a.cells b.cells b'.cells (omega (arith, at)) e)
      (λ a' b' v p q w e.
      let more = copied_from n (i + 1) a' b' in
      let same = end_on n i more.answer in
      laid_on i (reached (i + suc n) more.answer) a.cells a'.cells b.cells b'.cells more.to.cells v
      (omega (arith, not_before n (i + 1) a' b', same)) p q w e
      (subst (λ (m : ℕ). Overlaid (i + 1) m a'.cells b'.cells more.to.cells) same (laid_over n (i + 1) a' b')))

-- the same of a copy from `start` to the end of a source of n cells
pub laid_from : {C : Type 0} (n start : ℕ) (a b a' b' : Stored C) (r : Result (Unit {0}) Stop) → moved a' b' r ≡ copied_from (n - start) start a b
    → Overlaid start (reached (max start n) r) a.cells b.cells b'.cells
laid_from {C = C} n start a b a' b' r e =
    let end : start + (n - start) ≡ max start n = omega arith in
    subst (λ (m : Moved C). Overlaid start (reached (max start n) m.answer) a.cells b.cells m.to.cells) (sym e)
    (subst (λ (m : ℕ). Overlaid start (reached m (copied_from (n - start) start a b).answer) a.cells b.cells (copied_from (n - start) start a b).to.cells) end
    (laid_over (n - start) start a b))
