-- How a proof follows a call: at each question, at each store operation, and at each table entry.
use Rattle.std.proofs.Common.{◌≡◌, ℕ, zero, suc, ◌+◌, ◌<◌, ◌≤◌, Bool, true, false, eqb, ltb, List, length, get_or, set, is_some, Some, None, Ok, Err, Option, Result, sym, refl, subst, ⊎_elim, arith}
use Rattle.std.specs.List.{slice_get}
use Rattle.std.specs.Option.{is_none}
use Rattle.std.proofs.lemmas.Bool.{cond_both, ltb-true, eqb-true, eqb-false, cases_eq}
use Rattle.std.proofs.lemmas.List.{get_or-set_same, get_or-set_other}
use Rattle.std.proofs.lemmas.Option.{get_or_from_slice_get, slice_get_within, cond_some}
use Rattle.store.specs.declared.life.Life.{Life}
use Rattle.store.specs.Stores.{Stored, stored, granted, alive, spent, within, after, read_answer, write_answer, after_read, after_write}
use Rattle.store.specs.declared.life.Fault.{Fault}
use Rattle.store.specs.declared.life.Fault.TheVariants.{OutOfRange, NoLife}
use Rattle.records.specs.Records.{Records, names, cell_of, journal_of, flushing, unsent_at}
use Rattle.records.specs.Questions.{holding, admitted, opening, beginning, committing, closing, first_from}
use Rattle.rules.specs.Site.{State, Outcome, outcome, next, ◌then◌, with_disk, with_marks, told, disk_read, disk_write, mark_read, mark_write}
use Rattle.rules.specs.Book.{put}
use Rattle.records.specs.declared.records.CellRecord.{CellRecord}
use Rattle.records.specs.declared.fault.SiteFault.{SiteFault}
use Rattle.records.specs.declared.fault.StoreName.TheVariants.{Marks, Disk}
use Rattle.records.specs.declared.fault.Operation.TheVariants.{Read, Write}

-- a question or a call that was answered, and what follows
pub followed : {V X Y : Type 0} (P : Outcome V Y → Type 0) (s : State V) (r : Result X SiteFault) (f : State V → X → Outcome V Y)
    → ((e : SiteFault) → P (outcome s (Err e))) → ((x : X) → r ≡ Ok x → P (f s x)) → P (next s r f)
followed P s (Ok x) f bad go = go x refl
followed P s (Err e) f bad go = bad e

-- an operation that would answer x: refused, and the store is as before; or accepted, and it has other cells and another life
tried : {X V : Type 0} (P : Stored V → Result X Fault → Type 0) (b : Stored V) (xs : List V) (o : Option X)
    → ((e : Fault) → P b (Err e)) → ((x : X) → o ≡ Some x → (l : Life) → P (stored xs l) (Ok x)) → P (after (granted b.life o) b xs) (granted b.life o)
tried P b xs None bad go = bad OutOfRange
tried {X} P b xs (Some x) bad go = cond_both (alive b.life) _ _ (λ (r : Result X Fault). P (after r b xs) r) (λ _. go x refl (spent b.life)) (λ _. bad NoLife)

pub store_read : {V : Type 0} (P : Stored V → Result V Fault → Type 0) (b : Stored V) (i : ℕ) (blank : V)
    → ((e : Fault) → P b (Err e)) → (i < length b.cells → (l : Life) → P (stored b.cells l) (Ok (get_or b.cells i blank))) → P (after_read b i) (read_answer b i)
store_read {V} P b i blank bad go =
    tried P b b.cells (slice_get b.cells i) bad
    (λ v e l. subst (λ (w : V). P (stored b.cells l) (Ok w)) (get_or_from_slice_get b.cells i v blank e) (go (slice_get_within b.cells i v e) l))

pub store_write : {V : Type 0} (P : Stored V → Result (Unit {0}) Fault → Type 0) (b : Stored V) (i : ℕ) (v : V)
    → ((e : Fault) → P b (Err e)) → (i < length b.cells → (l : Life) → P (stored (set b.cells i v) l) (Ok tt)) → P (after_write b i v) (write_answer b i)
store_write P b i v bad go = tried P b (set b.cells i v) (within (length b.cells) i) bad (λ x e l. go (ltb-true _ _ (cond_some (ltb i (length b.cells)) tt x e).0) l)

module _ {V Y : Type 0} (P : Outcome V Y → Type 0) (s : State V) where
  pub by_disk_read : (i : ℕ) (blank : V) (f : State V → V → Outcome V Y) → ((e : SiteFault) → P (outcome s (Err e)))
      → ((l : Life) → P (f (with_disk s (stored s.disk.cells l)) (get_or s.disk.cells i blank))) → P (disk_read s i then f)
  by_disk_read i blank f bad go = store_read (λ b r. P (next (with_disk s b) (told Disk i Read r) f)) s.disk i blank (λ e. bad _) (λ _. go)

  pub by_mark_read : (i : ℕ) (f : State V → ℕ → Outcome V Y) → ((e : SiteFault) → P (outcome s (Err e)))
      → ((l : Life) → P (f (with_marks s (stored s.marks.cells l)) (get_or s.marks.cells i 0))) → P (mark_read s i then f)
  by_mark_read i f bad go = store_read (λ b r. P (next (with_marks s b) (told Marks i Read r) f)) s.marks i 0 (λ e. bad _) (λ _. go)

  pub by_disk_write : (i : ℕ) (v : V) (f : State V → Unit {0} → Outcome V Y) → ((e : SiteFault) → P (outcome s (Err e)))
      → (i < length s.disk.cells → (l : Life) → P (f (with_disk s (stored (set s.disk.cells i v) l)) tt)) → P (disk_write s i v then f)
  by_disk_write i v f bad go = store_write (λ b r. P (next (with_disk s b) (told Disk i Write r) f)) s.disk i v (λ e. bad _) go

  pub by_mark_write : (i n : ℕ) (f : State V → Unit {0} → Outcome V Y) → ((e : SiteFault) → P (outcome s (Err e)))
      → (i < length s.marks.cells → (l : Life) → P (f (with_marks s (stored (set s.marks.cells i n) l)) tt)) → P (mark_write s i n then f)
  by_mark_write i n f bad go = store_write (λ b r. P (next (with_marks s b) (told Marks i Write r) f)) s.marks i n (λ e. bad _) go

-- an entry of a changed table, and a cell of a changed list
pub entry : {A : Type 0} (P : A → Type 0) (f : ℕ → A) (i : ℕ) (a : A) (j : ℕ) → (j ≡ i → P a) → ((j ≡ i → ⊥) → P (f j)) → P (put f i a j)
entry P f i a j same other = cond_both (eqb j i) _ _ P (λ e. same (eqb-true j i e)) (λ e. other (eqb-false j i e))

pub cell : {V : Type 0} (P : V → Type 0) (l : List V) (i : ℕ) (v : V) (j : ℕ) (d : V) → i < length l → (j ≡ i → P v) → ((j ≡ i → ⊥) → P (get_or l j d)) → P (get_or (set l i v) j d)
cell P l i v j d h same other =
    ⊎_elim
    (λ e. subst (λ (n : ℕ). P (get_or (set l i v) n d)) (sym e) (subst P (sym (get_or-set_same l i v d h)) (same e)))
    (λ n. subst P (sym (get_or-set_other l i j v d n)) (other n))
    (cases_eq j i)

pub equal_or_not : (P : Type 0) (j i : ℕ) → (j ≡ i → P) → ((j ≡ i → ⊥) → P) → P
equal_or_not P j i same other = ⊎_elim same other (cases_eq j i)

pub unnamed : (h : Option ℕ) → is_none h ≡ true → (c : ℕ) → names h c ≡ false
unnamed h e c = grind arith

-- only one client is named
pub somebody : (h : Option ℕ) (c : ℕ) → names h c ≡ true → is_some h ≡ true
somebody h c e = grind arith

pub nobody_else : (h : Option ℕ) (c c' : ℕ) → names h c ≡ true → (c' ≡ c → ⊥) → names h c' ≡ false
nobody_else h c c' e n = grind arith

-- what an accepted question says
pub holding_says : (t : Records) (k : ℕ) (x : Unit {0}) → holding t k ≡ Ok x → names t.holder k ≡ true
holding_says t k x e = grind arith

pub admitted_says : (t : Records) (k i : ℕ) (r : CellRecord) → admitted t k i ≡ Ok r → (names t.holder k ≡ true) × (i < t.size) × (cell_of t k i ≡ Some r)
admitted_says t k i r e = grind (arith, ltb-true)

pub opening_says : (t : Records) (k n : ℕ) → opening t k ≡ Ok n → (is_none t.holder ≡ true) × (n ≡ t.session + 1)
opening_says t k n e = grind arith

pub beginning_says : (t : Records) (k i : ℕ) (x : CellRecord × ℕ) → beginning t k i ≡ Ok x
    → (names t.holder k ≡ true) × (i < t.size) × (cell_of t k i ≡ Some x.0) × (is_none (journal_of t k) ≡ true) × (x.0.dirty ≡ true)
beginning_says t k i x e = grind (arith, ltb-true)

pub committing_says : (t : Records) (k i n : ℕ) (x : Unit {0}) → committing t k i n ≡ Ok x → (names t.holder k ≡ true) × (flushing t k i n ≡ true)
committing_says t k i n x e = grind arith

-- nothing was found among the numbers looked at
none_found : (p : ℕ → Bool) (n i : ℕ) → first_from p n i ≡ None → (k : ℕ) → i ≤ k → k < i + n → p k ≡ false
unfolding first_from
none_found p zero i e k a z = absurd (omega arith)
none_found p (suc n) i e k a z = equal_or_not (p k ≡ false) k i (λ r. grind arith) (λ r. none_found p n (suc i) (grind arith) k (omega arith) (omega arith))

pub closing_says : (t : Records) (k : ℕ) (x : Unit {0}) → closing t k ≡ Ok x → (names t.holder k ≡ true) × ((i : ℕ) → i < t.size → unsent_at t k i ≡ false)
closing_says t k x e =
    let n : first_from (unsent_at t k) t.size 0 ≡ None = grind arith in
    (grind arith, λ i z. none_found (unsent_at t k) t.size 0 n i (omega arith) (omega arith))
