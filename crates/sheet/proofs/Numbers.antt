-- A number read digit by digit, until one is refused.
use Rattle.std.proofs.Common.{◌≡◌, ℕ, ◌+◌, ◌-◌, ◌*◌, ◌<◌, ◌≤◌, Bool, true, false, cond, ◌&&◌, leb, List, [], ◌∷◌, Some, None, Option, sym, refl, ap, ◌∙◌, subst, arith}
use Rattle.std.specs.Char.{is_ascii_digit}
use Rattle.std.specs.Fn.{Mut, Called}
use Rattle.std.specs.Iterator.{AlwaysYields, YieldsThen, TryFoldTurn}
use Rattle.std.specs.List.{FoldsTo, fold}
use Rattle.std.specs.Option.{MatchOption, option_and_then}
use Rattle.std.specs.Str.{all_ascii_digits}
use Rattle.std.specs.ControlFlow.{continue_value}
use Rattle.std.specs.declared.ops.ControlFlow.{ControlFlow}
use Rattle.std.proofs.lemmas.Bool.{le-leb, leb-true, leb-false}
use Rattle.std.proofs.lemmas.Iterator.{YieldsList}
use Rattle.sheet.specs.Text.{most, with_digit}

-- what step makes of n and all items, one after the other, until it answers none
abbrev pub tried : {B : Type 0} → (ℕ → B → Option ℕ) → ℕ → List B → Option ℕ
tried step n [] = Some n
tried step n (y ∷ ys) = option_and_then (λ m. tried step m ys) (step n y)

module _ {S A B F : Type 0} (steps : S → Option A → S → Type 0) (v : A → B) (g : Mut F (ℕ × (A × Unit {0})) (Option ℕ)) (step : ℕ → B → Option ℕ) (f : F)
    (does : (n : ℕ) (x : A) (r : Option ℕ) (q : F) → Called g f (n, (x, tt)) r q → (q ≡ f) × (r ≡ step n (v x))) where
  -- an item came, and the call at it answered w
  told : (n : ℕ) (x : A) (z : B) (p q : F) (w : Option ℕ) → p ≡ f → v x ≡ z → Called g p (n, (x, tt)) w q → (q ≡ f) × (step n z ≡ w)
  told n x z p q w e at k =
      let d = does n x w q (subst (λ h. Called g h (n, (x, tt)) w q) e k) in
      (d.0, ap (step n) (sym at) ∙ sym d.1)

  turns : (E : Type 0) (all : List B) (n : ℕ) (r : Option ℕ) (s u : S) (xs : List A) (o : Option A) (p f' : F) (a : ℕ)
      → AlwaysYields steps v s all → p ≡ f → YieldsThen steps s xs o u
      → FoldsTo {P = F × ℕ} (TryFoldTurn g (λ w (t : ControlFlow E ℕ). w ≡ continue_value t)) (p, n) xs (f', a)
      → MatchOption o (r ≡ Some a) (λ x. (w : Option ℕ) × (h : F) × (e : E) × Called g f' (a, (x, tt)) w h × (w ≡ None) × (r ≡ None))
      → r ≡ tried step n all
  turns E [] n r s u [] None p f' a all at y t m = m ∙ ap (λ (q : F × ℕ). Some q.1) (sym t)
  turns E [] n r s u [] (Some x) p f' a all at (j, e, k) t m = absurd (all x u (subst (λ w. steps w (Some x) u) (sym e) k))
  turns E [] n r s u (x ∷ xs) o p f' a all at (j, (i, k, ks), l) t m = absurd (all x i k)
  turns E (z ∷ zs) n r s u [] None p f' a all at (j, e, k) t m = absurd (all.0 u (subst (λ w. steps w None u) (sym e) k))
  turns E (z ∷ zs) n r s u [] (Some x) p f' a all at (j, e, k) t (w, h, b, called, none, is) =
      let same = all.1 x u (subst (λ i. steps i (Some x) u) (sym e) k) in
      let says = told a x z f' h w (sym (ap (λ (q : F × ℕ). q.0) t) ∙ at) same.0 called in
      is ∙ ap (option_and_then (λ i. tried step i zs)) (sym (ap (λ (q : F × ℕ). step q.1 z) t ∙ says.1 ∙ none))
  turns E (z ∷ zs) n r s u (x ∷ xs) o p f' a all at (j, (i, k, ks), l) ((q, c), (w, called, some), rest) m =
      let next = all.1 x i k in
      let says = told n x z p q w at next.0 called in
      turns E zs c r i u xs o q f' a next.1 says.0 (j, ks, l) rest m
      ∙ ap (option_and_then (λ i. tried step i zs)) (sym (says.1 ∙ some))

-- what `try_fold` answers where each call answers step, which gives an `Option`
pub tried_from_yields_List : {S A B F E : Type 0} {steps : S → Option A → S → Type 0} {v : A → B} {g : Mut F (ℕ × (A × Unit {0})) (Option ℕ)} {s : S} {all : List B} (step : ℕ → B → Option ℕ) (u : S) (f : F) (n : ℕ) (r : Option ℕ)
    → (xs : List A) × (o : Option A) × (f' : F) × (a : ℕ) × YieldsThen steps s xs o u
    × FoldsTo {P = F × ℕ} (TryFoldTurn g (λ w (t : ControlFlow E ℕ). w ≡ continue_value t)) (f, n) xs (f', a)
    × MatchOption o (r ≡ Some a) (λ x. (w : Option ℕ) × (h : F) × (e : E) × Called g f' (a, (x, tt)) w h × (w ≡ None) × (r ≡ None))
    → YieldsList steps v s all → ((m : ℕ) (x : A) (w : Option ℕ) (q : F) → Called g f (m, (x, tt)) w q → (q ≡ f) × (w ≡ step m (v x)))
    → r ≡ tried step n all
tried_from_yields_List {E = E} {steps = steps} {v} {g} {s} {all} step u f n r (xs, o, f', a, yields, folds, last) list does =
    turns steps v g step f does E all n r s u xs o f f' a list.runs refl yields folds last

-- more digits never make the number smaller
grows : (bs : List ℕ) (n : ℕ) → n ≤ fold (λ m b. 10 * m + (b - 48)) n bs
grows [] n = omega arith
grows (b ∷ bs) n = omega (arith, grows bs (10 * n + (b - 48)))

-- the number that n and then digits write, if they are digits and it is not too large
abbrev pub after : ℕ → List ℕ → Option ℕ
after n bs = cond (all_ascii_digits bs) (cond (leb (fold (λ m b. 10 * m + (b - 48)) n bs) most) (Some (fold (λ m b. 10 * m + (b - 48)) n bs)) None) None

-- it is too large where n is
past : (bs : List ℕ) (n : ℕ) → most < n → after n bs ≡ None
past bs n h = grind (arith, grows bs n)

-- one digit more, which may be too large
more : (bs : List ℕ) (m : ℕ) (t : Bool) → leb m most ≡ t → (m ≤ most → tried with_digit m bs ≡ after m bs) → option_and_then (λ i. tried with_digit i bs) (cond t (Some m) None) ≡ after m bs
more bs m true e rest = rest (leb-true m most e)
more bs m false e rest = sym (past bs m (leb-false m most e))

-- digits that are read one by one write what they write together
pub tried_is : (bs : List ℕ) (n : ℕ) → n ≤ most → tried with_digit n bs ≡ after n bs
tried_is [] n h = sym (ap (λ t. cond t (Some n) None) (le-leb n most h))
tried_is (b ∷ bs) n h =
    let m : ℕ = 10 * n + (b - 48) in
    let w : ℕ = fold (λ m b. 10 * m + (b - 48)) m bs in
    elim (is_ascii_digit b) as (λ d. option_and_then (λ i. tried with_digit i bs) (cond d (cond (leb m most) (Some m) None) None) ≡ cond (d && all_ascii_digits bs) (cond (leb w most) (Some w) None) None)
    [ true ↦ more bs m (leb m most) refl (tried_is bs m) | false ↦ refl ]
