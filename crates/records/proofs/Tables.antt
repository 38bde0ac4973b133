-- What the table's reads and changes come to, in terms of the records that it is seen as.
use Rattle.std.proofs.Common.{◌≤◌, ◌≡◌, ℕ, zero, suc, ◌+◌, ◌<◌, Bool, true, false, cond, List, [], ◌∷◌, length, get_or, set, Some, None, Option, MatchOption, ◌⊎◌, inl, inr, unwrap_or, slice_get, sym, refl, ap, ◌∙◌, arith}
use Rattle.std.proofs.lemmas.Bool.{cases_lt}
use Rattle.std.proofs.lemmas.Option.{slice_get-get_or, slice_get_past}
use Rattle.std.specs.Borrow.{Bor}
use Rattle.std.specs.Option.{option_copied, option_flatten, option_map}
use Rattle.std.specs.Slice.{IsItemAt}
use Rattle.records.specs.Clients.{asked, changed}
use Rattle.records.specs.Means.{records}
use Rattle.records.specs.Questions.{first_from}
use Rattle.records.specs.Records.{Records, client_of, cell_of, journal_of, note_of, turn_of, flushing, flush_is, with_clients}
use Rattle.records.specs.Shape.{no_client, Stands}
use Rattle.records.specs.declared.records.ClientRecord.{ClientRecord}
use Rattle.records.specs.declared.table.Table.TheInside.{Inside}
use Rattle.records.proofs.Told.{asked_in, asked_out, changed_in, changed_out}

-- an item that is lent, copied
pub item_copied : {X : Type 0} (xs : List X) (i : ℕ) (r : Option (Bor X)) → IsItemAt xs i r → option_copied r ≡ slice_get xs i
item_copied xs i None h = sym (slice_get_past xs i (grind arith))
item_copied xs i (Some x) h = let l : i < length xs = grind arith in sym (slice_get-get_or xs i x.now l ∙ grind arith)

-- a question to client k's entry is one to the entry that was found
pub asked_as : {X Y : Type 0} (f : X → Y) (cs : List X) (k : ℕ) → asked f cs k ≡ option_map f (asked (λ c. c) cs k)
asked_as f [] k = refl
asked_as f (c ∷ cs) zero = refl
asked_as f (c ∷ cs) (suc zero) = refl
asked_as f (c ∷ cs) (suc (suc k)) = asked_as f cs (suc k)

-- what is asked of client k's record, by the record
module _ (t : Records) (k : ℕ) where
  pub cell_is : (i : ℕ) → cell_of t k i ≡ option_flatten (option_map (λ c. slice_get c.cells i) (client_of t k))
  unfolding cell_of client_of
  cell_is i = ap option_flatten (asked_as (λ c. slice_get c.cells i) t.clients k)

  pub journal_is : journal_of t k ≡ option_flatten (option_map (λ c. c.journal) (client_of t k))
  unfolding journal_of client_of
  journal_is = ap option_flatten (asked_as (λ c. c.journal) t.clients k)

  pub note_is : note_of t k ≡ option_flatten (option_map (λ c. c.note) (client_of t k))
  unfolding note_of client_of
  note_is = ap option_flatten (asked_as (λ c. c.note) t.clients k)

  pub turn_is : turn_of t k ≡ unwrap_or (option_map (λ c. c.turn) (client_of t k)) 0
  unfolding turn_of client_of
  turn_is = ap (λ x. unwrap_or x 0) (asked_as (λ c. c.turn) t.clients k)

  pub flushing_is : (i turn : ℕ) → flushing t k i turn ≡ unwrap_or (option_map (λ c. flush_is c i turn) (client_of t k)) false
  unfolding flushing client_of
  flushing_is i turn = ap (λ x. unwrap_or x false) (asked_as (λ c. flush_is c i turn) t.clients k)

-- changes of client k's record, at its place in the table's fields; t is what these are seen as
module _ (u : Inside) (t : Records) (k p : ℕ) (v : records u ≡ t) (s : Stands t.clients k (Some p)) where
  pub client_in : Some (get_or u.clients p no_client) ≡ client_of t k
  unfolding client_of
  client_in = ap (λ (t : Records). Some (get_or t.clients p no_client)) v ∙ asked_in t.clients k (λ c. c) p no_client s

  pub change_in : (f : ClientRecord → ClientRecord) (x : ClientRecord) → x ≡ f (get_or u.clients p no_client) → with_clients (records u) (set u.clients p x) ≡ with_clients t (changed f t.clients k)
  change_in f x e =
      ap (λ y. with_clients (records u) (set u.clients p y)) e
      ∙ ap (λ (t : Records). with_clients t (set t.clients p (f (get_or t.clients p no_client)))) v
      ∙ ap (with_clients t) (changed_in t.clients k f p no_client s)

-- a client that the table has not
pub client_out : (t : Records) (k : ℕ) → Stands t.clients k None → None ≡ client_of t k
unfolding client_of
client_out t k s = asked_out t.clients k (λ c. c) s

pub change_out : (t : Records) (k : ℕ) → Stands t.clients k None → (f : ClientRecord → ClientRecord) → t ≡ with_clients t (changed f t.clients k)
change_out t k s f = ap (with_clients t) (sym (changed_out t.clients k f s))

-- the first number that passes, by what is said of the numbers
first_after : (p : ℕ → Bool) (n i : ℕ) → ((j : ℕ) → i ≤ j → j < i + n → p j ≡ false) → first_from p n i ≡ None
unfolding first_from
first_after p zero i h = refl
first_after p (suc n) i h =
    ap (λ b. cond b (Some i) (first_from p n (suc i))) (h i (omega arith) (omega arith))
    ∙ first_after p n (suc i) (λ j l u. h j (omega arith) (omega arith))

first_at : (p : ℕ → Bool) (n i j : ℕ) → i ≤ j → j < i + n → p j ≡ true → ((k : ℕ) → i ≤ k → k < j → p k ≡ false) → first_from p n i ≡ Some j
unfolding first_from
first_at p zero i j l u e h = absurd (omega arith)
first_at p (suc n) i j l u e h =
    by (cases_lt i j) (λ s. first_at p n (suc i) j (omega arith) (omega arith) e (λ k a b. h k (omega arith) b))
  where
    by : (i < j) ⊎ (j ≤ i) → (i < j → first_from p n (suc i) ≡ Some j) → cond (p i) (Some i) (first_from p n (suc i)) ≡ Some j
    by (inl s) later = ap (λ b. cond b (Some i) (first_from p n (suc i))) (h i (omega arith) s) ∙ later s
    by (inr s) later =
        let same : i ≡ j = omega arith in
        ap (λ b. cond b (Some i) (first_from p n (suc i))) (ap p same ∙ e) ∙ ap Some same

pub first_is : (p : ℕ → Bool) (n : ℕ) (r : Option ℕ)
    → MatchOption r ((k : ℕ) → 0 ≤ k → k < n → p k ≡ false) (λ i. (0 ≤ i) × (i < n) × (p i ≡ true) × ((k : ℕ) → 0 ≤ k → k < i → p k ≡ false))
    → r ≡ first_from p n 0
first_is p n None h = sym (first_after p n 0 (λ j l u. h j l (omega arith)))
first_is p n (Some i) h = sym (first_at p n 0 i h.0 (omega (arith, h.1)) h.2 h.3)
