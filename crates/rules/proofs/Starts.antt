-- A new fit site satisfies the invariant.
use Rattle.std.proofs.Common.{◌≡◌, ℕ, zero, suc, ◌+◌, ◌<◌, ◌≤◌, Bool, true, false, ◌&&◌, eqb, ltb, leb, List, length, get_or, replicate, Some, None, Option, sym, refl, ap, ◌∙◌, arith}
use Rattle.std.proofs.lemmas.Grind.{common_steps}
use Rattle.std.proofs.lemmas.Bool.{cond_both, leb-true}
use Rattle.store.specs.Lengths.{all_long}
use Rattle.store.specs.Stores.{Stored, stored}
use Rattle.records.specs.Clients.{asked}
use Rattle.records.specs.Cells.{new_cell}
use Rattle.records.specs.Records.{names, new_client, new_clients}
use Rattle.rules.specs.Making.{Looked, looked, look_from, look_more, surveyed, new_site}
use Rattle.rules.specs.Book.{Book, sent}
use Rattle.records.specs.declared.records.ClientRecord.{ClientRecord}
use Rattle.records.specs.declared.fault.Unfit.{Unfit}
use Rattle.records.specs.declared.fault.Unfit.TheVariants.{DiskSize, MarksSize, ClientCount, LocalSize}
use Rattle.rules.proofs.Ways.{store_read, equal_or_not}
use Rattle.rules.proofs.Sight.{view, cells_in, journal_in}
use Rattle.rules.proofs.Invariant.{Keeps, Inv}

-- the starting image, all sent
abbrev pub image_book : {V : Type 0} → V → Stored V → Book V
image_book blank d = λ i. record { last = get_or d.cells i blank; stage = sent }

-- the marks that were looked at are at most the starting session, and only lives changed
pub look_says : (f i n : ℕ) (ms : Stored ℕ) → ((look_from f i n ms).first ≡ None → (k : ℕ) → i ≤ k → k < i + f → get_or ms.cells k 0 ≤ n) × ((look_from f i n ms).marks.cells ≡ ms.cells)
unfolding look_from
look_says zero i n ms = ((λ _ k a z. omega arith), refl)
look_says (suc f) i n ms =
    let P : Looked → Type 0 = λ o. (o.first ≡ None → (k : ℕ) → i ≤ k → k < i + suc f → get_or ms.cells k 0 ≤ n) × (o.marks.cells ≡ ms.cells) in
    store_read (λ b r. P (look_more (look_from f (i + 1) n) n b r)) ms i 0
    (λ e. ((λ q. cc), refl))
    λ _ l.
    cond_both (leb (get_or ms.cells i 0) n) _ _ P
    (λ y.
    let r = look_says f (i + 1) n (stored ms.cells l) in
    let x : get_or ms.cells i 0 ≤ n = leb-true _ _ y in
    ((λ e k a z. equal_or_not (get_or ms.cells k 0 ≤ n) k i (λ q. rw q x) (λ q. r.0 e k (omega arith) (omega arith))), r.1))
    (λ _. ((λ q. cc), refl))

new_keeps : {V : Type 0} (n x : ℕ) (d l j : V) → Keeps false false n x d d sent l j None false false false
new_keeps n x d l j = grind arith

-- a new client's record
pub replicated : (x : ClientRecord) (n c : ℕ) (P : Option ClientRecord → Type 0) → P None → P (Some x) → P (asked (λ y. y) (replicate n x) c)
replicated x zero c P a b = a
replicated x (suc n) zero P a b = a
replicated x (suc n) (suc zero) P a b = b
replicated x (suc n) (suc (suc c)) P a b = replicated x n (suc c) P a b

get_or_new : (n k : ℕ) → get_or (replicate n new_cell) k new_cell ≡ new_cell
get_or_new n k = grind (arith, common_steps)

pub new_client_is : (c : ℕ) (P : Option ClientRecord → Type 0) → P None → P (Some new_client) → P (asked (λ y. y) new_clients c)
unfolding new_clients
new_client_is c P a b = replicated new_client 8 c P a b

new_cell_is : (c k : ℕ) → (get_or (cells_in (asked (λ y. y) new_clients c)) k new_cell ≡ new_cell) × (journal_in (asked (λ y. y) new_clients c) ≡ None)
unfolding new_client
new_cell_is c k = new_client_is c (λ o. (get_or (cells_in o) k new_cell ≡ new_cell) × (journal_in o ≡ None)) (refl, refl) (get_or_new 1024 k, refl)

-- the invariant of a new site whose marks are low
site_inv : {V : Type 0} (blank : V) (d : Stored V) (ms : Stored ℕ) (ls : List (Stored V)) (n : ℕ) (o : Looked) → ((k : ℕ) → k < length d.cells → get_or o.marks.cells k 0 ≤ n)
    → Inv blank (length d.cells) (view (new_site d ls n o)) (image_book blank d)
site_inv blank d ms ls n o h =
    record {
      serves = λ k z. record { same = λ _. refl; idle = λ _. refl; marked = h k z };
      keeps = λ k c z. let e = new_cell_is c k in rw (e.0, e.1) (new_keeps n _ _ _ _);
      filed = λ c k e. let z = new_cell_is c k in let y : ◌≡◌ {A = Bool} false true = sym (ap (λ (j : Option ℕ). names j k) z.1) ∙ e in cc;
    }

abbrev Starts : {V : Type 0} → V → Stored V → List (Stored V) → ℕ → Looked → Type 0
Starts blank d ls n o = o.first ≡ None → Inv blank (length d.cells) (view (new_site d ls n o)) (image_book blank d)

looked_starts : {V : Type 0} (blank : V) (d : Stored V) (ms : Stored ℕ) (ls : List (Stored V)) (n : ℕ) → Starts blank d ls n (look_from (length d.cells) 0 n ms)
looked_starts blank d ms ls n e =
    let o = look_says (length d.cells) 0 n ms in
    site_inv blank d ms ls n (look_from (length d.cells) 0 n ms) (λ k h. rw o.1 (o.0 e k (omega arith) (omega arith)))

-- what a survey finds: one of four noes, or, past these, what the look at the marks finds
pub survey_finds : {V : Type 0} (P : Looked → Type 0) (d : Stored V) (ms : Stored ℕ) (ls : List (Stored V)) (n : ℕ) → ((u : Unfit) → P (looked (Some u) ms))
    → ((ltb 0 (length d.cells) && leb (length d.cells) 1024) ≡ true → eqb (length ms.cells) (length d.cells) ≡ true → (ltb 0 (length ls) && leb (length ls) 8) ≡ true
    → all_long (length d.cells + 1) ls ≡ true → P (look_from (length d.cells) 0 n ms))
    → P (surveyed d ms ls n)
unfolding surveyed
survey_finds P d ms ls n refused go =
    cond_both (ltb 0 (length d.cells) && leb (length d.cells) 1024) _ _ P
    (λ p.
    cond_both (eqb (length ms.cells) (length d.cells)) _ _ P
    (λ q.
    cond_both (ltb 0 (length ls) && leb (length ls) 8) _ _ P
    (λ r. cond_both (all_long (length d.cells + 1) ls) _ _ P (λ z. go p q r z) (λ _. refused LocalSize))
    (λ _. refused ClientCount))
    (λ _. refused MarksSize))
    (λ _. refused DiskSize)

pub new_inv : {V : Type 0} (blank : V) (d : Stored V) (ms : Stored ℕ) (ls : List (Stored V)) (n : ℕ) → Starts blank d ls n (surveyed d ms ls n)
new_inv blank d ms ls n = survey_finds (Starts blank d ls n) d ms ls n (λ u e. cc) (λ _ _ _ _. looked_starts blank d ms ls n)
