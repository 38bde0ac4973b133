-- A new fit site is sound, and stays so whatever is done to it.
use Rattle.std.proofs.Common.{◌≡◌, ℕ, zero, suc, ◌+◌, ◌≤◌, true, List, [], ◌∷◌, map, length, replicate, None, Option, sym, refl, ap, ◌∙◌, subst}
use Rattle.std.proofs.lemmas.List.{length-replicate}
use Rattle.std.proofs.lemmas.Bool.{leb-true, eqb-true, and_parts}
use Rattle.store.specs.Lengths.{all_long}
use Rattle.store.specs.Stores.{Stored}
use Rattle.records.specs.Cells.{new_cell}
use Rattle.records.specs.Clients.{asked}
use Rattle.records.specs.Records.{new_client, new_clients}
use Rattle.rules.specs.Site.{State}
use Rattle.rules.specs.Making.{Looked, within, surveyed, Start, made}
use Rattle.rules.specs.Replies.{Call, called}
use Rattle.rules.specs.History.{after}
use Rattle.rules.specs.Claim.{Fit, Shaped, KeepsShape}
use Rattle.records.specs.declared.fault.Unfit.{Unfit}
use Rattle.rules.proofs.Plays.{calls, calls_after, acts_do}
use Rattle.rules.proofs.Starts.{look_says, new_client_is, survey_finds}
use Rattle.rules.proofs.Shapes.{Sound, ProperAt, note_own, journal_inside, cells_count, records_count}
use Rattle.rules.proofs.Refusals.{all_end}

-- what the six questions say when none is a no
record Measured {V : Type 0} (d : Stored V) (ms : Stored ℕ) (ls : List (Stored V)) (o : Looked) : Type 0 where
  pub few_cells : length d.cells ≤ 1024
  pub as_many : length ms.cells ≡ length d.cells
  pub few_clients : length ls ≤ 8
  pub one_more : all_long (length d.cells + 1) ls ≡ true
  pub marks_same : o.marks.cells ≡ ms.cells

survey_says : {V : Type 0} (d : Stored V) (ms : Stored ℕ) (ls : List (Stored V)) (n : ℕ) → (surveyed d ms ls n).first ≡ None → Measured d ms ls (surveyed d ms ls n)
survey_says d ms ls n =
    survey_finds (λ o. o.first ≡ None → Measured d ms ls o) d ms ls n (λ u e. cc) λ p q r z _.
    record { few_cells = leb-true _ _ (and_parts _ _ p).1; as_many = eqb-true _ _ q; few_clients = leb-true _ _ (and_parts _ _ r).1; one_more = z; marks_same = (look_says (length d.cells) 0 n ms).1 }

all_long_says : {V : Type 0} (m : ℕ) (ls : List (Stored V)) → all_long m ls ≡ true → map cells_count ls ≡ replicate (length ls) m
all_long_says m [] e = refl
all_long_says m (l ∷ ls) e = let a = and_parts _ _ e in let p : length l.cells ≡ m = eqb-true _ _ a.0 in let q = all_long_says m ls a.1 in λ i. p i ∷ q i

map_replicate : {A B : Type 0} (g : A → B) (n : ℕ) (x : A) → map g (replicate n x) ≡ replicate n (g x)
map_replicate g zero x = refl
map_replicate g (suc n) x = ap (λ ys. g x ∷ ys) (map_replicate g n x)

new_records_count : map records_count new_clients ≡ replicate 8 1024
unfolding new_clients new_client
new_records_count = map_replicate records_count 8 new_client ∙ ap (replicate 8) (length-replicate 1024 new_cell)

module _ {V : Type 0} where
  new_proper : (x : Start V) (m k : ℕ) → ProperAt m k (asked (λ c. c) (made x).table.clients k)
  unfolding new_client
  new_proper x m k = new_client_is k (ProperAt m k) tt (tt, tt)

  new_sound : (x : Start V) → Fit x → Sound (length x.disk.cells) (length x.locals) (made x)
  new_sound x e =
      let h = survey_says x.disk x.marks x.locals x.session e in
      let size : (made x).table.size ≡ length x.disk.cells = ap (λ (u : Option Unfit). within u (length x.disk.cells)) e in
      let count : (made x).table.count ≡ length x.locals = ap (λ (u : Option Unfit). within u (length x.locals)) e in
      record {
        size = size;
        count = count;
        fit = e;
        cells = rw size h.few_cells;
        clients = rw count h.few_clients;
        disk = sym size;
        marks = ap length h.marks_same ∙ (h.as_many ∙ sym size);
        locals = rw (size, count) (all_long_says (length x.disk.cells + 1) x.locals h.one_more);
        records = new_records_count;
        proper = new_proper x (made x).table.size;
      }

  shaped : {wide many : ℕ} (s : State V) → Sound wide many s → Shaped s
  shaped s h =
      record {
        fit = h.fit;
        cells = h.cells;
        clients = h.clients;
        disk = h.disk;
        marks = h.marks;
        locals = h.locals;
        records = h.records;
        journals = λ k i. journal_inside s k i h;
        notes = λ k n. note_own s k n h;
      }

  stays_sound : {wide many : ℕ} (blank : V) (s : State V) (qs : List (Call V)) → Sound wide many s → Sound wide many (calls_after (called blank) s qs)
  stays_sound blank s [] h = h
  stays_sound blank s (q ∷ qs) h = stays_sound blank (called blank s q).state qs (all_end blank s q h).0

pub keeps_shape : (V : Type 0) → KeepsShape V called
keeps_shape V blank x fit acts =
    let e = (acts_do blank (made x) acts).0 in
    let h = subst (Sound (length x.disk.cells) (length x.locals)) (sym e) (stays_sound blank (made x) (calls acts) (new_sound x fit)) in
    (h.size, h.count, shaped _ h, λ q. (all_end blank (after (called blank) (made x) acts) q h).1)
