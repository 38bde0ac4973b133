-- What the invariant looks at: each client's store, cells and journal, by client number.
use Rattle.std.proofs.Common.{◌≡◌, ℕ, zero, suc, ◌<◌, true, false, List, [], ◌∷◌, length, get_or, set, Some, None, Ok, Err, Option, Result, unwrap_or, sym, refl, ap, ◌∙◌, subst, arith}
use Rattle.std.specs.List.{slice_get}
use Rattle.std.specs.Option.{option_flatten, option_map}
use Rattle.store.specs.declared.life.Life.{Life}
use Rattle.store.specs.Stores.{Stored, endless, stored, read_answer, write_answer, after_read, after_write}
use Rattle.store.specs.declared.life.Fault.{Fault}
use Rattle.records.specs.Clients.{asked, changed}
use Rattle.records.specs.Cells.{new_cell}
use Rattle.records.specs.Records.{Records, names, cell_of, journal_of, record_of, flushing, flush_is, with_clients}
use Rattle.rules.specs.Site.{State, Outcome, outcome, next, ◌then◌, with_locals, with_table, told, told_local, local_read, local_write}
use Rattle.rules.specs.Book.{put}
use Rattle.records.specs.declared.records.CellRecord.{CellRecord}
use Rattle.records.specs.declared.records.ClientRecord.{ClientRecord}
use Rattle.records.specs.declared.fault.SiteFault.{SiteFault}
use Rattle.records.specs.declared.fault.SiteFault.TheVariants.{NoClient}
use Rattle.records.specs.declared.fault.StoreName.TheVariants.{Local}
use Rattle.records.specs.declared.fault.Operation.{Operation}
use Rattle.records.specs.declared.fault.Operation.TheVariants.{Read, Write}
use Rattle.std.proofs.lemmas.Bool.{and_parts}
use Rattle.std.proofs.lemmas.Option.{get_or_from_slice_get, slice_get_within, unwrap_or-slice_get}
use Rattle.records.proofs.Tables.{asked_as}
use Rattle.rules.proofs.Ways.{store_read, store_write, entry}

pub record Client (V : Type 0) : Type 0 where
  pub local : Stored V
  pub cells : List CellRecord
  pub journal : Option ℕ

pub record View (V : Type 0) : Type 0 where
  pub disk : Stored V
  pub marks : Stored ℕ
  pub session : ℕ
  pub holder : Option ℕ
  pub clients : ℕ → Client V

module _ {V : Type 0} where
  abbrev pub with_client : View V → ℕ → Client V → View V
  with_client s c cl = record { disk = s.disk; marks = s.marks; session = s.session; holder = s.holder; clients = put s.clients c cl }

  abbrev pub with_disk : View V → Stored V → View V
  with_disk s d = record { disk = d; marks = s.marks; session = s.session; holder = s.holder; clients = s.clients }

  abbrev pub with_marks : View V → Stored ℕ → View V
  with_marks s d = record { disk = s.disk; marks = d; session = s.session; holder = s.holder; clients = s.clients }

  abbrev pub held_by : View V → ℕ → Option ℕ → View V
  held_by s n h = record { disk = s.disk; marks = s.marks; session = n; holder = h; clients = s.clients }

  abbrev pub with_cells : Client V → List CellRecord → Client V
  with_cells cl xs = record { local = cl.local; cells = xs; journal = cl.journal }

  abbrev pub no_store : Stored V
  no_store = endless []

  abbrev pub or_no_store : Option (Stored V) → Stored V
  or_no_store None = no_store
  or_no_store (Some b) = b

  abbrev pub store_of : List (Stored V) → ℕ → Stored V
  store_of ls c = or_no_store (asked (λ b. b) ls c)

abbrev pub cells_in : Option ClientRecord → List CellRecord
cells_in None = []
cells_in (Some x) = x.cells

abbrev pub journal_in : Option ClientRecord → Option ℕ
journal_in None = None
journal_in (Some x) = x.journal

abbrev pub client_of : Records → ℕ → Option ClientRecord
client_of t c = asked (λ x. x) t.clients c

abbrev pub seen : {V : Type 0} → Stored V → Option ClientRecord → Client V
seen l o = record { local = l; cells = cells_in o; journal = journal_in o }

abbrev pub view : {V : Type 0} → State V → View V
view s = record {
  disk = s.disk;
  marks = s.marks;
  session = s.table.session;
  holder = s.table.holder;
  clients = λ c. seen (store_of s.locals c) (client_of s.table c);
}

-- entries of a list told by client number
pub changed_at : {X : Type 0} (f : X → X) (xs : List X) (k : ℕ) → asked (λ x. x) (changed f xs k) k ≡ option_map f (asked (λ x. x) xs k)
changed_at f [] k = refl
changed_at f (x ∷ xs) zero = refl
changed_at f (x ∷ xs) (suc zero) = refl
changed_at f (x ∷ xs) (suc (suc k)) = changed_at f xs (suc k)

pub changed_else : {X : Type 0} (f : X → X) (xs : List X) (k j : ℕ) → (j ≡ k → ⊥) → asked (λ x. x) (changed f xs k) j ≡ asked (λ x. x) xs j
changed_else f [] k j n = refl
changed_else f (x ∷ xs) zero j n = refl
changed_else f (x ∷ xs) (suc zero) zero n = refl
changed_else f (x ∷ xs) (suc zero) (suc zero) n = absurd (n refl)
changed_else f (x ∷ xs) (suc zero) (suc (suc j)) n = refl
changed_else f (x ∷ xs) (suc (suc k)) zero n = refl
changed_else f (x ∷ xs) (suc (suc k)) (suc zero) n = refl
changed_else f (x ∷ xs) (suc (suc k)) (suc (suc j)) n = changed_else f xs (suc k) (suc j) (λ e. n (ap suc e))

-- nothing changes where f leaves the entry as it is, or there is none
pub changed_same : {X : Type 0} (f : X → X) (xs : List X) (k : ℕ) → option_map f (asked (λ x. x) xs k) ≡ asked (λ x. x) xs k → changed f xs k ≡ xs
changed_same f [] k e = refl
changed_same f (x ∷ xs) zero e = refl
changed_same f (x ∷ xs) (suc zero) e = let q : f x ≡ x = cc in ap (λ y. y ∷ xs) q
changed_same f (x ∷ xs) (suc (suc k)) e = ap (λ ys. x ∷ ys) (changed_same f xs (suc k) e)

-- local stores of which only that of client c is another, with these cells
pub record Relocal {V : Type 0} (ls : List (Stored V)) (c : ℕ) (b : Stored V) (ls' : List (Stored V)) : Type 0 where
  pub own : store_of ls' c ≡ b
  pub else : (c' : ℕ) → (c' ≡ c → ⊥) → store_of ls' c' ≡ store_of ls c'

pub same_locals : {V : Type 0} (ls : List (Stored V)) (c : ℕ) → Relocal ls c (store_of ls c) ls
same_locals ls c = record { own = refl; else = λ c' n. refl }

-- client c's store was changed to b, and its record by f
pub view_both : {V : Type 0} (s : State V) (ls : List (Stored V)) (f : ClientRecord → ClientRecord) (c : ℕ) (b : Stored V) → Relocal s.locals c b ls
    → view (with_table (with_locals s ls) (with_clients s.table (changed f s.table.clients c))) ≡ with_client (view s) c (seen b (option_map f (client_of s.table c)))
view_both {V} s ls f c b r = λ i. record { disk = s.disk; marks = s.marks; session = s.table.session; holder = s.table.holder; clients = λ c'. at c' i }
  where
    at : (c' : ℕ) → seen (store_of ls c') (asked (λ x. x) (changed f s.table.clients c) c') ≡ put (view s).clients c (seen b (option_map f (client_of s.table c))) c'
    at c' =
        entry (λ z. seen (store_of ls c') (asked (λ x. x) (changed f s.table.clients c) c') ≡ z) (view s).clients c _ c'
        (λ e. subst (λ (j : ℕ). seen (store_of ls j) (asked (λ x. x) (changed f s.table.clients c) j) ≡ seen b (option_map f (client_of s.table c))) (sym e)
        (ap (λ (x : Stored V). seen x (asked (λ x. x) (changed f s.table.clients c) c)) r.own ∙ ap (seen b) (changed_at f s.table.clients c)))
        (λ n. ap (λ (x : Stored V). seen x (asked (λ x. x) (changed f s.table.clients c) c')) (r.else c' n) ∙ ap (seen (store_of s.locals c')) (changed_else f s.table.clients c c' n))

module _ {V Y : Type 0} (P : Outcome V Y → Type 0) (s : State V) (c : ℕ) where
  relocal : (f : Stored V → Stored V) (b b' : Stored V) → asked (λ x. x) s.locals c ≡ Some b → f b ≡ b' → Relocal s.locals c b' (changed f s.locals c)
  relocal f b b' e q =
      record {
        own = ap or_no_store (changed_at f s.locals c ∙ ap (option_map f) e) ∙ q;
        else = λ c' n. ap or_no_store (changed_else f s.locals c c' n);
      }

  -- an operation of client c's local store that leaves other cells and another life, or the store as it was
  by_local : {X : Type 0} (i : ℕ) (o : Operation) (does : Stored V → Stored V) (says : Stored V → Result X Fault) (cells : Stored V → List V) (x : Stored V → X)
      → ((Q : Stored V → Result X Fault → Type 0) (b : Stored V) → ((e : Fault) → Q b (Err e)) → (i < length b.cells → (l : Life) → Q (stored (cells b) l) (Ok (x b))) → Q (does b) (says b))
      → (f : State V → X → Outcome V Y) → ((e : SiteFault) → P (outcome s (Err e)))
      → (i < length (store_of s.locals c).cells → (l : Life) (ls : List (Stored V)) → Relocal s.locals c (stored (cells (store_of s.locals c)) l) ls
      → P (f (with_locals s ls) (x (store_of s.locals c))))
      → P (next (with_locals s (changed does s.locals c)) (told_local i o (asked says s.locals c)) f)
  by_local {X} i o does says cells x each f bad go =
      subst (λ (r : Option (Result X Fault)). P (next (with_locals s (changed does s.locals c)) (told_local i o r) f)) (sym (asked_as says s.locals c)) (by (asked (λ x. x) s.locals c) refl)
    where
      by : (b : Option (Stored V)) → asked (λ x. x) s.locals c ≡ b → P (next (with_locals s (changed does s.locals c)) (told_local i o (option_map says b)) f)
      by None e = subst (λ (xs : List (Stored V)). P (outcome (with_locals s xs) (Err NoClient))) (sym (changed_same does s.locals c (ap (option_map does) e ∙ sym e))) (bad NoClient)
      by (Some b) e =
          each (λ b' r. does b ≡ b' → P (next (with_locals s (changed does s.locals c)) (told Local i o r) f)) b
          (λ y q. subst (λ (xs : List (Stored V)). P (outcome (with_locals s xs) (told Local i o (Err y)))) (sym (changed_same does s.locals c (ap (option_map does) e ∙ (ap Some q ∙ sym e)))) (bad _))
          (λ h l q.
          subst (λ (z : Stored V). i < length z.cells → Relocal s.locals c (stored (cells z) l) (changed does s.locals c) → P (f (with_locals s (changed does s.locals c)) (x z)))
          (ap or_no_store e) (λ w. go w l (changed does s.locals c)) h (relocal does b (stored (cells b) l) e q))
          refl

  pub by_local_read : (i : ℕ) (blank : V) (f : State V → V → Outcome V Y) → ((e : SiteFault) → P (outcome s (Err e)))
      → ((l : Life) (ls : List (Stored V)) → Relocal s.locals c (stored (store_of s.locals c).cells l) ls
      → P (f (with_locals s ls) (get_or (store_of s.locals c).cells i blank)))
      → P (local_read s c i then f)
  by_local_read i blank f bad go =
      by_local i Read (λ b. after_read b i) (λ b. read_answer b i) (λ b. b.cells) (λ b. get_or b.cells i blank) (λ Q b. store_read Q b i blank) f bad (λ _. go)

  pub by_local_write : (i : ℕ) (v : V) (f : State V → Unit {0} → Outcome V Y) → ((e : SiteFault) → P (outcome s (Err e)))
      → (i < length (store_of s.locals c).cells → (l : Life) (ls : List (Stored V)) → Relocal s.locals c (stored (set (store_of s.locals c).cells i v) l) ls → P (f (with_locals s ls) tt))
      → P (local_write s c i v then f)
  by_local_write i v f bad go = by_local i Write (λ b. after_write b i v) (λ b. write_answer b i) (λ b. set b.cells i v) (λ _. tt) (λ Q b. store_write Q b i v) f bad go

-- what the table's answers say of a client
pub journal_is : (t : Records) (c : ℕ) → journal_of t c ≡ journal_in (client_of t c)
unfolding journal_of
journal_is t c = ap option_flatten (asked_as (λ x. x.journal) t.clients c) ∙ grind arith

pub record_is : (t : Records) (c i : ℕ) → record_of t c i ≡ get_or (cells_in (client_of t c)) i new_cell
unfolding cell_of
record_is t c i = ap (λ o. unwrap_or (option_flatten o) new_cell) (asked_as (λ x. slice_get x.cells i) t.clients c) ∙ grind (arith, unwrap_or-slice_get)

pub cell_known : (t : Records) (c i : ℕ) (r : CellRecord) → cell_of t c i ≡ Some r → (get_or (cells_in (client_of t c)) i new_cell ≡ r) × (i < length (cells_in (client_of t c)))
unfolding cell_of
cell_known t c i r e =
    let q : option_flatten (option_map (λ (x : ClientRecord). slice_get x.cells i) (client_of t c)) ≡ Some r = sym (ap option_flatten (asked_as (λ x. slice_get x.cells i) t.clients c)) ∙ e in
    grind (arith, get_or_from_slice_get, slice_get_within)

pub flush_known : (t : Records) (c i n : ℕ) → flushing t c i n ≡ true → names (journal_in (client_of t c)) i ≡ true
unfolding flushing
flush_known t c i n e =
    let q : unwrap_or (option_map (λ (x : ClientRecord). flush_is x i n) (client_of t c)) false ≡ true = sym (ap (λ o. unwrap_or o false) (asked_as (λ x. flush_is x i n) t.clients c)) ∙ e in
    grind (arith, and_parts)
