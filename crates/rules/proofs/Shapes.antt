-- A fit site's parts go on fitting together, so that 8 and 12 are answered only by their own questions.
use Rattle.std.proofs.Common.{◌≡◌, ℕ, zero, suc, ◌+◌, ◌<◌, ◌≤◌, true, false, ◌↔◌, List, [], ◌∷◌, map, length, get_or, replicate, Some, None, Ok, Err, Option, Result, sym, refl, ap, ◌∙◌, subst, arith}
use Rattle.std.specs.List.{slice_get}
use Rattle.std.specs.Option.{option_flatten, option_map}
use Rattle.std.proofs.lemmas.List.{length-set}
use Rattle.std.proofs.lemmas.Option.{slice_get-get_or}
use Rattle.std.proofs.lemmas.Bool.{ltb-true, ltb-false, leb-true, and_parts}
use Rattle.store.specs.Stores.{Stored, read_answer, write_answer, after_read, after_write}
use Rattle.store.specs.declared.life.Fault.{Fault}
use Rattle.records.specs.Cells.{new_cell}
use Rattle.records.specs.Clients.{asked, changed}
use Rattle.records.specs.Faults.{says}
use Rattle.records.specs.Records.{Records, names, cell_of, journal_of, note_of}
use Rattle.records.specs.Questions.{and_then, there, present, holding, admitted}
use Rattle.rules.specs.Site.{State, Outcome, next, ◌then◌, with_table, with_disk, with_marks, with_locals, told, told_local, disk_read, disk_write, mark_read, mark_write, local_read, local_write}
use Rattle.records.specs.declared.records.CellRecord.{CellRecord}
use Rattle.records.specs.declared.records.ClientRecord.{ClientRecord}
use Rattle.records.specs.declared.records.Flush.{Flush}
use Rattle.records.specs.declared.fault.SiteFault.{SiteFault}
use Rattle.records.specs.declared.fault.StoreName.{StoreName}
use Rattle.records.specs.declared.fault.StoreName.TheVariants.{Local, Marks, Disk}
use Rattle.records.specs.declared.fault.Operation.{Operation}
use Rattle.records.specs.declared.fault.Operation.TheVariants.{Read, Write}
use Rattle.records.proofs.Tables.{asked_as}
use Rattle.rules.proofs.Sight.{changed_at, changed_else}
use Rattle.rules.proofs.Ways.{equal_or_not}

-- lists told by client number, by what their entries measure
changed_measure : {X Y : Type 0} (g : X → Y) (f : X → X) → ((x : X) → g (f x) ≡ g x) → (xs : List X) (k : ℕ) → map g (changed f xs k) ≡ map g xs
changed_measure g f h [] k = refl
changed_measure g f h (x ∷ xs) zero = refl
changed_measure g f h (x ∷ xs) (suc zero) = ap (λ y. y ∷ map g xs) (h x)
changed_measure g f h (x ∷ xs) (suc (suc k)) = ap (λ ys. g x ∷ ys) (changed_measure g f h xs (suc k))

-- an entry that is there, with its measure
pub entry_there : {X Y : Type 0} (g : X → Y) (xs : List X) (n : ℕ) (y : Y) (k : ℕ) → map g xs ≡ replicate n y → 0 < k → k ≤ n → (x : X) × (asked (λ z. z) xs k ≡ Some x) × (g x ≡ y)
entry_there g [] zero y k e a b = absurd (omega arith)
entry_there g [] (suc n) y k e a b = cc
entry_there g (x ∷ xs) zero y k e a b = absurd (omega arith)
entry_there g (x ∷ xs) (suc n) y zero e a b = absurd (omega arith)
entry_there g (x ∷ xs) (suc n) y (suc zero) e a b = (x, refl, cc)
entry_there g (x ∷ xs) (suc n) y (suc (suc k)) e a b = entry_there g xs n y (suc k) (cc) (omega arith) (omega arith)

module _ {V : Type 0} where
  abbrev pub cells_count : Stored V → ℕ
  cells_count b = length b.cells

  -- what a store's operations leave has as many cells
  pub read_long : (b : Stored V) (i : ℕ) → cells_count (after_read b i) ≡ cells_count b
  read_long b i = grind arith

  pub write_long : (b : Stored V) (i : ℕ) (v : V) → cells_count (after_write b i v) ≡ cells_count b
  write_long b i v = grind (arith, length-set)

abbrev pub records_count : ClientRecord → ℕ
records_count c = length c.cells

-- client k's record: a note is the client's own slip, and a cell in the journal is one of the site's m
abbrev pub Own : ℕ → Option Flush → Type 0
Own k None = Unit {0}
Own k (Some n) = n.client ≡ k

abbrev pub Inside : ℕ → Option ℕ → Type 0
Inside m None = Unit {0}
Inside m (Some i) = i < m

abbrev pub Proper : ℕ → ℕ → ClientRecord → Type 0
Proper m k c = Own k c.note × Inside m c.journal

abbrev pub ProperAt : ℕ → ℕ → Option ClientRecord → Type 0
ProperAt m k None = Unit {0}
ProperAt m k (Some c) = Proper m k c

-- a fit site of `wide` cells and `many` clients
pub record Sound {V : Type 0} (wide many : ℕ) (s : State V) : Type 0 where
  pub size : s.table.size ≡ wide
  pub count : s.table.count ≡ many
  pub fit : s.table.unfit ≡ None
  pub cells : s.table.size ≤ 1024
  pub clients : s.table.count ≤ 8
  pub disk : length s.disk.cells ≡ s.table.size
  pub marks : length s.marks.cells ≡ s.table.size
  pub locals : map (λ b. length b.cells) s.locals ≡ replicate s.table.count (s.table.size + 1)
  pub records : map records_count s.table.clients ≡ replicate 8 1024
  pub proper : (k : ℕ) → ProperAt s.table.size k (asked (λ c. c) s.table.clients k)

-- the number of a result
abbrev pub num : {X : Type 0} → Result X SiteFault → ℕ
num (Ok x) = 0
num (Err e) = (says e).number

-- neither 8 nor 12
pub record Clear (n : ℕ) : Type 0 where
  pub eight : n ≡ 8 → ⊥
  pub twelve : n ≡ 12 → ⊥

module _ {V : Type 0} {wide many : ℕ} where
  pub with_disk_sound : (s : State V) (d : Stored V) → Sound wide many s → length d.cells ≡ length s.disk.cells → Sound wide many (with_disk s d)
  with_disk_sound s d h e =
      record { size = h.size; count = h.count; fit = h.fit; cells = h.cells; clients = h.clients; disk = e ∙ h.disk; marks = h.marks; locals = h.locals; records = h.records; proper = h.proper }

  pub with_marks_sound : (s : State V) (d : Stored ℕ) → Sound wide many s → length d.cells ≡ length s.marks.cells → Sound wide many (with_marks s d)
  with_marks_sound s d h e =
      record { size = h.size; count = h.count; fit = h.fit; cells = h.cells; clients = h.clients; disk = h.disk; marks = e ∙ h.marks; locals = h.locals; records = h.records; proper = h.proper }

  pub with_locals_sound : (s : State V) (f : Stored V → Stored V) (k : ℕ) → Sound wide many s → ((b : Stored V) → cells_count (f b) ≡ cells_count b) → Sound wide many (with_locals s (changed f s.locals k))
  with_locals_sound s f k h e =
      record {
        size = h.size;
        count = h.count;
        fit = h.fit;
        cells = h.cells;
        clients = h.clients;
        disk = h.disk;
        marks = h.marks;
        locals = changed_measure cells_count f e s.locals k ∙ h.locals;
        records = h.records;
        proper = h.proper;
      }

  -- a client's record changes, and stays proper
  pub with_client_sound : (s : State V) (n : ℕ) (o : Option ℕ) (f : ClientRecord → ClientRecord) (k : ℕ) → Sound wide many s → ((c : ClientRecord) → records_count (f c) ≡ records_count c)
      → ((c : ClientRecord) → Proper s.table.size k c → Proper s.table.size k (f c))
      → Sound wide many (with_table s (record { unfit = s.table.unfit; size = s.table.size; count = s.table.count; session = n; holder = o; clients = changed f s.table.clients k }))
  with_client_sound s n o f k h e w =
      let cs : List ClientRecord = s.table.clients in
      let m : ℕ = s.table.size in
      record {
        size = h.size;
        count = h.count;
        fit = h.fit;
        cells = h.cells;
        clients = h.clients;
        disk = h.disk;
        marks = h.marks;
        locals = h.locals;
        records = changed_measure records_count f e cs k ∙ h.records;
        proper = λ j.
            equal_or_not (ProperAt m j (asked (λ c. c) (changed f cs k) j)) j k
            (λ q.
            subst (λ (x : ℕ). ProperAt m x (asked (λ c. c) (changed f cs k) x)) (sym q)
            (subst (ProperAt m k) (sym (changed_at f cs k)) (moved (asked (λ c. c) cs k) (h.proper k))))
            (λ q. subst (ProperAt m j) (sym (changed_else f cs k j q)) (h.proper j));
      }
    where
      moved : (x : Option ClientRecord) → ProperAt s.table.size k x → ProperAt s.table.size k (option_map f x)
      moved None q = tt
      moved (Some c) q = w c q

module _ {V : Type 0} {wide many : ℕ} (s : State V) (k : ℕ) where
  -- what a proper record says of its field f, if the field is there
  proper_says : {X : Type 0} (f : ClientRecord → Option X) (P : X → Type 0) → Sound wide many s → ((c : ClientRecord) → Proper s.table.size k c → (x : X) → f c ≡ Some x → P x)
      → (x : X) → option_flatten (asked f s.table.clients k) ≡ Some x → P x
  proper_says {X} f P h g x e = by (asked (λ c. c) s.table.clients k) (h.proper k) (sym (ap option_flatten (asked_as f s.table.clients k)) ∙ e)
    where
      by : (o : Option ClientRecord) → ProperAt s.table.size k o → option_flatten (option_map f o) ≡ Some x → P x
      by None w q = cc
      by (Some c) w q = g c w x q

  -- the note and the journal
  pub note_own : (n : Flush) → Sound wide many s → note_of s.table k ≡ Some n → n.client ≡ k
  unfolding note_of
  note_own n h e = proper_says (λ c. c.note) (λ n. n.client ≡ k) h (λ c w n q. subst (Own k) q w.0) n e

  pub journal_inside : (i : ℕ) → Sound wide many s → journal_of s.table k ≡ Some i → i < s.table.size
  unfolding journal_of
  journal_inside i h e = proper_says (λ c. c.journal) (λ i. i < s.table.size) h (λ c w i q. subst (Inside s.table.size) q w.1) i e

pub zero_clear : Clear 0
zero_clear = grind arith

-- a store's refusal is 18, 19 or 20
told_clear : {X : Type 0} (w : StoreName) (i : ℕ) (o : Operation) (r : Result X Fault) → Clear (num (told w i o r))
told_clear w i o r = grind arith

pub there_says : (t : Records) (k : ℕ) → there t k ≡ true → (0 < k) × (k ≤ t.count)
there_says t k h = let a = and_parts _ _ h in (ltb-true _ _ a.0, leb-true _ _ a.1)

-- once the questions are a yes: the site is sound, and no refusal is 8 or 12
abbrev pub Safe : {V X : Type 0} → ℕ → ℕ → Outcome V X → Type 0
Safe wide many o = Sound wide many o.state × Clear (num o.answer)

module _ {V : Type 0} {wide many : ℕ} where
  -- every client that is there has a local store
  local_clear : {X : Type 0} (s : State V) (k i : ℕ) (o : Operation) (f : Stored V → Result X Fault) → Sound wide many s → there s.table k ≡ true
      → Clear (num (told_local i o (asked f s.locals k)))
  local_clear {X} s k i o f h th =
      let z = there_says s.table k th in
      let b = entry_there cells_count s.locals s.table.count (s.table.size + 1) k h.locals z.0 z.1 in
      subst (λ (r : Option (Result X Fault)). Clear (num (told_local i o r))) (sym (asked_as f s.locals k ∙ ap (option_map f) b.1)) (told_clear Local i o (f b.0))

  pub safe_then : {X Y : Type 0} (o : Outcome V X) (f : State V → X → Outcome V Y) → Safe wide many o → ((x : X) → Sound wide many o.state → Safe wide many (f o.state x)) → Safe wide many (o then f)
  safe_then o f h go = grind arith

  pub disk_read_safe : (s : State V) (i : ℕ) → Sound wide many s → Safe wide many (disk_read s i)
  disk_read_safe s i h = (with_disk_sound s _ h (read_long s.disk i), told_clear Disk i Read (read_answer s.disk i))

  pub disk_write_safe : (s : State V) (i : ℕ) (v : V) → Sound wide many s → Safe wide many (disk_write s i v)
  disk_write_safe s i v h = (with_disk_sound s _ h (write_long s.disk i v), told_clear Disk i Write (write_answer s.disk i))

  pub mark_read_safe : (s : State V) (i : ℕ) → Sound wide many s → Safe wide many (mark_read s i)
  mark_read_safe s i h = (with_marks_sound s _ h (read_long s.marks i), told_clear Marks i Read (read_answer s.marks i))

  pub mark_write_safe : (s : State V) (i n : ℕ) → Sound wide many s → Safe wide many (mark_write s i n)
  mark_write_safe s i n h = (with_marks_sound s _ h (write_long s.marks i n), told_clear Marks i Write (write_answer s.marks i))

  pub local_read_safe : (s : State V) (k i : ℕ) → Sound wide many s → there s.table k ≡ true → Safe wide many (local_read s k i)
  local_read_safe s k i h th = (with_locals_sound s _ k h (λ b. read_long b i), local_clear s k i Read (λ b. read_answer b i) h th)

  pub local_write_safe : (s : State V) (k i : ℕ) (v : V) → Sound wide many s → there s.table k ≡ true → Safe wide many (local_write s k i v)
  local_write_safe s k i v h th = (with_locals_sound s _ k h (λ b. write_long b i v), local_clear s k i Write (λ b. write_answer b i) h th)

-- 8 is the answer exactly where the client is not there
abbrev pub EightIs : Records → ℕ → ℕ → Type 0
EightIs t k n = (n ≡ 8) ↔ (there t k ≡ false)

-- 12 is the answer to a call that takes a cell exactly where it is not below the number of cells, once 8 and 11 are a yes
abbrev pub TwelveIs : Records → ℕ → Option ℕ → ℕ → Type 0
TwelveIs t k None n = n ≡ 12 → ⊥
TwelveIs t k (Some i) n = (n ≡ 12 → t.size ≤ i) × (there t k ≡ true → names t.holder k ≡ true → t.size ≤ i → n ≡ 12)

-- what an answer to a call of client k, and of cell c if it takes one, may be
abbrev pub Exact : Records → ℕ → Option ℕ → ℕ → Type 0
Exact t k c n = EightIs t k n × TwelveIs t k c n

-- a number that is neither, where the client is there and the cell is below the number of cells
pub clear_exact : (t : Records) (k : ℕ) (c : Option ℕ) (n : ℕ) → Clear n → there t k ≡ true → ((i : ℕ) → c ≡ Some i → names t.holder k ≡ true → t.size ≤ i → ⊥) → Exact t k c n
clear_exact t k c n h th w = grind arith

-- questions 7 and 8, and then g
pub question : {Y : Type 0} (t : Records) (k : ℕ) (c : Option ℕ) (g : Result Y SiteFault) → t.unfit ≡ None → (there t k ≡ true → Exact t k c (num g)) → Exact t k c (num (and_then (present t k) (λ _. g)))
question t k c g u h = grind arith

-- questions 7, 8 and 11, and then g
pub held : {Y : Type 0} (t : Records) (k : ℕ) (c : Option ℕ) (g : Result Y SiteFault) → t.unfit ≡ None → (there t k ≡ true → names t.holder k ≡ true → Exact t k c (num g))
    → Exact t k c (num (and_then (holding t k) (λ _. g)))
held t k c g u h = grind arith

module _ {V : Type 0} {wide many : ℕ} where
  -- every cell of a client that is there has a record
  record_there : (s : State V) (k i : ℕ) → Sound wide many s → there s.table k ≡ true → i < s.table.size → (r : CellRecord) × (cell_of s.table k i ≡ Some r)
  unfolding cell_of
  record_there s k i h th l =
      let z = there_says s.table k th in
      let b = h.clients in
      let m = h.cells in
      let c = entry_there records_count s.table.clients 8 1024 k h.records z.0 (omega arith) in
      let q = c.2 in
      (get_or c.0.cells i new_cell, ap option_flatten (asked_as (λ x. slice_get x.cells i) s.table.clients k ∙ ap (option_map (λ (x : ClientRecord). slice_get x.cells i)) c.1) ∙ slice_get-get_or c.0.cells i new_cell (omega arith))

  -- questions 7, 8, 11 and 12, and then g of the cell's record
  pub celled : {Y : Type 0} (s : State V) (k i : ℕ) (g : CellRecord → Result Y SiteFault) → Sound wide many s → ((r : CellRecord) → Clear (num (g r)))
      → Exact s.table k (Some i) (num (and_then (admitted s.table k i) g))
  celled s k i g h cl = let u = h.fit in grind (arith, ltb-true, ltb-false, record_there s k i h)

  -- a call: its questions r, and what follows
  pub whole : {X Y : Type 0} (s : State V) (k : ℕ) (c : Option ℕ) (r : Result X SiteFault) (f : State V → X → Outcome V Y) → Sound wide many s → Exact s.table k c (num r)
      → ((x : X) → r ≡ Ok x → there s.table k ≡ true → Safe wide many (f s x)) → Sound wide many (next s r f).state × Exact s.table k c (num (next s r f).answer)
  whole s k c r f h q go = grind arith
