-- The making of a site, question by question.
use Rattle.std.proofs.Common.{◌≡◌, ℕ, suc, ◌+◌, ◌-◌, ◌<◌, ◌≤◌, min, Bool, true, false, cond, ◌&&◌, eqb, ltb, leb, ◌⊎◌, List, length, Some, None, Ok, Err, Result, IsErr, sym, refl, ap, ◌∙◌, inl, inr, arith}
use Rattle.std.proofs.lemmas.Bool.{leb-true, lt-ltb, le-ltb, le-leb, lt-leb, eq-eqb, ne_eqb, and_left, and_right, and_from, and_parts, cases_lt}
use Rattle.store.specs.Lengths.{all_long}
use Rattle.store.specs.Stores.{Stored, read_answer, after_read}
use Rattle.store.specs.declared.life.Fault.{Fault}
use Rattle.records.specs.Records.{Records, new_records}
use Rattle.rules.specs.Site.{State}
use Rattle.rules.specs.Making.{Looked, looked, look_more, look_from, surveyed, new_site}
use Rattle.records.specs.declared.fault.Unfit.{Unfit}
use Rattle.records.specs.declared.fault.Unfit.TheVariants.{DiskSize, MarksSize, ClientCount, LocalSize, MarkUnread, MarkAbove}

pub look_none : (n i session : ℕ) (ms : Stored ℕ) → n ≡ 0 → look_from n i session ms ≡ looked None ms
unfolding look_from
look_none n i session ms e = ap (λ m. look_from m i session ms) e

module _ (n i session : ℕ) (ms ms₁ : Stored ℕ) (r : Result ℕ Fault) (h : 0 < n) (left : ms₁ ≡ after_read ms i) (answer : r ≡ read_answer ms i) where
  look_once : look_from n i session ms ≡ look_more (look_from (n - 1) (i + 1) session) session ms₁ r
  unfolding look_from
  look_once =
      let e : n ≡ suc (n - 1) = omega arith in
      ap (λ m. look_from m i session ms) e
      ∙ ap (λ (x : Stored ℕ). look_more (look_from (n - 1) (i + 1) session) session x (read_answer ms i)) (sym left)
      ∙ ap (look_more (look_from (n - 1) (i + 1) session) session ms₁) (sym answer)

  pub look_unread : IsErr r → look_from n i session ms ≡ looked (Some MarkUnread) ms₁
  look_unread e = look_once ∙ unread r e
    where
      unread : (r : Result ℕ Fault) → IsErr r → look_more (look_from (n - 1) (i + 1) session) session ms₁ r ≡ looked (Some MarkUnread) ms₁
      unread (Ok x) e = absurd (grind arith)
      unread (Err x) e = refl

  pub look_above : (x : ℕ) → r ≡ Ok x → session < x → look_from n i session ms ≡ looked (Some MarkAbove) ms₁
  look_above x e q =
      look_once ∙ ap (look_more (look_from (n - 1) (i + 1) session) session ms₁) e
      ∙ ap (λ b. cond b (look_from (n - 1) (i + 1) session ms₁) (looked (Some MarkAbove) ms₁)) (lt-leb x session q)

  pub look_next : (n' : ℕ) → n' ≡ n - 1 → (x : ℕ) → r ≡ Ok x → x ≤ session → look_from n' (i + 1) session ms₁ ≡ look_from n i session ms
  look_next n' w x e q =
      ap (λ z. look_from z (i + 1) session ms₁) w ∙ sym (
      look_once ∙ ap (look_more (look_from (n - 1) (i + 1) session) session ms₁) e
      ∙ ap (λ b. cond b (look_from (n - 1) (i + 1) session ms₁) (looked (Some MarkAbove) ms₁)) (le-leb x session q))

not_between : (m top : ℕ) → (m ≡ 0) ⊎ ((m ≡ 0 → ⊥) × (top < m)) → (ltb 0 m && leb m top) ≡ false
not_between m top (inl e) = and_left _ _ (le-ltb 0 m (omega arith))
not_between m top (inr h) = let z : top < m = h.1 in and_right _ _ (lt-leb m top z)

between : (m top : ℕ) → (m ≡ 0 → ⊥) → m ≤ top → (ltb 0 m && leb m top) ≡ true
between m top n h = and_from _ _ (lt-ltb 0 m (omega arith)) (le-leb m top h)

-- a count that saturates is as good below its bound
small_min : (n k : ℕ) → k ≡ min n 4294967295 → (ltb 0 k && leb k 8) ≡ (ltb 0 n && leb n 8)
small_min n k e = go (cases_lt 8 n)
  where
    go : (8 < n) ⊎ (n ≤ 8) → (ltb 0 k && leb k 8) ≡ (ltb 0 n && leb n 8)
    go (inl h) = let w : 8 < k = omega (arith, e) in and_right _ _ (lt-leb k 8 w) ∙ sym (and_right _ _ (lt-leb n 8 h))
    go (inr h) = let w : k ≡ n = omega (arith, e) in ap (λ z. ltb 0 z && leb z 8) w

module _ {V : Type 0} (d : Stored V) (ms : Stored ℕ) (ls : List (Stored V)) (session m : ℕ) (size : m ≡ length d.cells) where
  by_size : (b : Bool) → (ltb 0 m && leb m 1024) ≡ b → (ltb 0 (length d.cells) && leb (length d.cells) 1024) ≡ b
  by_size b e = sym (ap (λ x. ltb 0 x && leb x 1024) size) ∙ e

  pub no_size : (m ≡ 0) ⊎ ((m ≡ 0 → ⊥) × (1024 < m)) → looked (Some DiskSize) ms ≡ surveyed d ms ls session
  unfolding surveyed
  no_size h = rw (by_size false (not_between m 1024 h)) refl

  module _ (n : m ≡ 0 → ⊥) (h : m ≤ 1024) where
    pub no_marks : (x : ℕ) → x ≡ length ms.cells → (x ≡ m → ⊥) → looked (Some MarksSize) ms ≡ surveyed d ms ls session
    unfolding surveyed
    no_marks x e q = rw (by_size true (between m 1024 n h), ne_eqb (length ms.cells) (length d.cells) (λ z. q (e ∙ z ∙ sym size))) refl

    module _ (x : ℕ) (xs : x ≡ length ms.cells) (same : x ≡ m) (k : ℕ) (count : k ≡ min (length ls) 4294967295) where
      pub no_clients : (k ≡ 0) ⊎ ((k ≡ 0 → ⊥) × (8 < k)) → looked (Some ClientCount) ms ≡ surveyed d ms ls session
      unfolding surveyed
      no_clients q =
          rw (by_size true (between m 1024 n h), eq-eqb (length ms.cells) (length d.cells) (sym xs ∙ same ∙ size), sym (small_min (length ls) k count) ∙ not_between k 8 q) refl

      module _ (some : k ≡ 0 → ⊥) (few : k ≤ 8) (t : Bool) (long : t ≡ all_long (m + 1) ls) where
        long_is : all_long (length d.cells + 1) ls ≡ t
        long_is = sym (ap (λ z. all_long (z + 1) ls) size) ∙ sym long

        pub no_long : t ≡ false → looked (Some LocalSize) ms ≡ surveyed d ms ls session
        unfolding surveyed
        no_long q =
            rw (by_size true (between m 1024 n h), eq-eqb (length ms.cells) (length d.cells) (sym xs ∙ same ∙ size), sym (small_min (length ls) k count) ∙ between k 8 some few, long_is ∙ q) refl

        pub then_look : t ≡ true → (o : Looked) → o ≡ look_from m 0 session ms → o ≡ surveyed d ms ls session
        unfolding surveyed
        then_look q o e =
            rw (by_size true (between m 1024 n h), eq-eqb (length ms.cells) (length d.cells) (sym xs ∙ same ∙ size), sym (small_min (length ls) k count) ∙ between k 8 some few, long_is ∙ q)
            (e ∙ ap (λ z. look_from z 0 session ms) size)

-- what a fit site's counts are
pub fit_says : {V : Type 0} (d : Stored V) (ms : Stored ℕ) (ls : List (Stored V)) (session : ℕ) → (surveyed d ms ls session).first ≡ None → (length d.cells ≤ 1024) × (length ls ≤ 8)
unfolding surveyed
fit_says {V} d ms ls session =
    by (ltb 0 (length d.cells) && leb (length d.cells) 1024) (eqb (length ms.cells) (length d.cells)) (ltb 0 (length ls) && leb (length ls) 8) (all_long (length d.cells + 1) ls) refl refl
  where
    by : (a b c e : Bool) → (ltb 0 (length d.cells) && leb (length d.cells) 1024) ≡ a → (ltb 0 (length ls) && leb (length ls) 8) ≡ c
        → (cond a (cond b (cond c (cond e (look_from (length d.cells) 0 session ms) (looked (Some LocalSize) ms)) (looked (Some ClientCount) ms)) (looked (Some MarksSize) ms)) (looked (Some DiskSize) ms)).first ≡ None
        → (length d.cells ≤ 1024) × (length ls ≤ 8)
    by false b c e p q r = let z : ◌≡◌ {A = ℕ} 0 1 = cc in absurd (omega arith)
    by true false c e p q r = let z : ◌≡◌ {A = ℕ} 0 1 = cc in absurd (omega arith)
    by true true false e p q r = let z : ◌≡◌ {A = ℕ} 0 1 = cc in absurd (omega arith)
    by true true true e p q r = (leb-true _ _ (and_parts _ _ p).1, leb-true _ _ (and_parts _ _ q).1)

pub fit_found : {V : Type 0} (d : Stored V) (ms ms₁ : Stored ℕ) (ls : List (Stored V)) (session : ℕ) → looked None ms₁ ≡ surveyed d ms ls session → (length d.cells ≤ 1024) × (length ls ≤ 8)
fit_found d ms ms₁ ls session e = fit_says d ms ls session (sym (ap (λ (o : Looked). o.first) e))

pub fit_count : (n k : ℕ) → n ≤ 8 → k ≡ min n 4294967295 → k ≡ n
fit_count n k h e = omega (arith, e)

abbrev siteOf : {V : Type 0} → Stored V → Stored ℕ → List (Stored V) → Records → State V
siteOf d ms ls t = record { disk = d; marks = ms; locals = ls; table = t }

pub made_fit : {V : Type 0} (d : Stored V) (ms : Stored ℕ) (ls : List (Stored V)) (session : ℕ) (o : Looked) (t : Records) (size count : ℕ)
    → looked None ms ≡ o → t ≡ new_records None size count session → size ≡ length d.cells → count ≡ length ls → siteOf d ms ls t ≡ new_site d ls session o
made_fit d ms ls session o t size count e q r w =
    ap (siteOf d ms ls) (q ∙ ap (λ n. new_records None n count session) r ∙ ap (λ n. new_records None (length d.cells) n session) w) ∙ ap (new_site d ls session) e

pub made_unfit : {V : Type 0} (d : Stored V) (ms : Stored ℕ) (ls : List (Stored V)) (session : ℕ) (o : Looked) (t : Records) (u : Unfit)
    → looked (Some u) ms ≡ o → t ≡ new_records (Some u) 0 0 session → siteOf d ms ls t ≡ new_site d ls session o
made_unfit d ms ls session o t u e q = ap (siteOf d ms ls) q ∙ ap (new_site d ls session) e
