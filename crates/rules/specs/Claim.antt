-- What a site keeps, whatever is done to it: reads give the last write, the disk lags only at unsent cells, copies are true, equal sites
-- reply alike, and the site's parts fit together. `perform` is what a call does; the rules' own is `called`.
use Rattle.std.specs.Prelude.{◌≡◌, ℕ, ◌+◌, ◌<◌, ◌≤◌, Bool, true, false, ◌↔◌, List, ◌∷◌, ◌++◌, map, length, get_or, replicate, Some, None, Option, ◌≢◌, slice_index, slice_index_or}
use Rattle.std.specs.Option.{unwrap_or}
use Rattle.records.specs.Clients.{asked}
use Rattle.records.specs.Cells.{fresh}
use Rattle.records.specs.Records.{Records, journal_of, note_of, record_of, unsent_at}
use Rattle.rules.specs.Site.{State}
use Rattle.rules.specs.Making.{Start, made}
use Rattle.rules.specs.Replies.{Call, Open, Read, Write, Begin, Commit, GiveUp, Close, Invalidate, RestartClient, RestartServer, BeginStep, CommitStep, GiveUpStep, NoStep, Reply, Out, called}
use Rattle.rules.specs.Book.{Book, sent, unsent, Deed, reads, writes, begins, sends, other, deed}
use Rattle.records.specs.declared.records.Flush.{Flush}
use Rattle.rules.specs.History.{Entry, Act, book_of, after, log}

-- a new site without a no
abbrev pub Fit : {V : Type 0} → Start V → Type 0
Fit x = (made x).table.unfit ≡ None

-- dirty or in the journal of the client that holds the session
abbrev pub held_back : Records → Option ℕ → ℕ → Bool
held_back t None i = false
held_back t (Some k) i = unsent_at t k i

-- a read, if it was accepted, got the last write
abbrev pub ReadRight : {V : Type 0} → Book V → Deed V → Reply V → Type 0
ReadRight b (reads i) r = r.answer.number ≡ 0 → r.got ≡ Some (b i).last
ReadRight b (writes i v) r = Unit {0}
ReadRight b (begins i) r = Unit {0}
ReadRight b (sends i) r = Unit {0}
ReadRight b other r = Unit {0}

module _ {V : Type 0} (blank : V) where
  -- the book of a new site: the disk's cells, the starting image, all sent
  abbrev pub new_book : Start V → Book V
  new_book x = λ i. record { last = slice_index_or x.disk.cells i blank; stage = sent }

  -- at cell i the disk differs from the last write only if the cell is unsent, which is exactly that it is held back
  pub record Lags (s : State V) (b : Book V) (i : ℕ) : Type 0 where
    pub disk_is : (b i).stage ≡ sent → slice_index_or s.disk.cells i blank ≡ (b i).last
    pub exactly : unsent (b i).stage ≡ held_back s.table s.table.holder i

  -- client k's local cell i
  abbrev pub copy_of : State V → ℕ → ℕ → V
  copy_of s k i = unwrap_or (asked (λ b. get_or b.cells i blank) s.locals k) blank

  -- a copy that is neither dirty nor in the journal, and kept with a mark not below the server's, is the disk's cell
  abbrev pub CopyTrue : State V → ℕ → ℕ → Type 0
  CopyTrue s k i =
      unsent_at s.table k i ≡ false → fresh (record_of s.table k i).kept (slice_index s.marks.cells i) ≡ true → copy_of s k i ≡ slice_index_or s.disk.cells i blank

  -- a start, the log of what was done since, and what the site is then:
  -- each accepted read got the last write before it, or the starting image's cell; the disk lags only at unsent cells;
  -- and every client's copies are true, so that a client who is lost for good leaves nothing stale behind
  pub record Upheld (x : Start V) (history : List (Entry V)) (final : State V) : Type 0 where
    pub each_read : (before : List (Entry V)) (e : Entry V) (rest : List (Entry V)) → history ≡ before ++ (e ∷ rest)
        → ReadRight (book_of (new_book x) before) (deed e.call e.reply.answer) e.reply
    pub lags : (i : ℕ) → i < length x.disk.cells → Lags final (book_of (new_book x) history) i
    pub copies : (k i : ℕ) → i < length x.disk.cells → CopyTrue final k i

-- whatever is done to a new fit site, all of that holds
abbrev pub Upholds : (V : Type 0) → (V → State V → Call V → Out V) → Type 0
Upholds V perform = (blank : V) (x : Start V) → Fit x → (acts : List (Act V)) → Upheld blank x (log (perform blank) (made x) acts) (after (perform blank) (made x) acts)

-- equal client counts, starting sessions, cells and lives
pub record SameStart {V : Type 0} (x y : Start V) : Type 0 where
  pub counts : length x.locals ≡ length y.locals
  pub sessions : x.session ≡ y.session
  pub disk_cells : x.disk.cells ≡ y.disk.cells
  pub disk_lives : x.disk.life ≡ y.disk.life
  pub marks_cells : x.marks.cells ≡ y.marks.cells
  pub marks_lives : x.marks.life ≡ y.marks.life
  pub local_cells : map (λ b. b.cells) x.locals ≡ map (λ b. b.cells) y.locals
  pub local_lives : map (λ b. b.life) x.locals ≡ map (λ b. b.life) y.locals

-- two such sites reply alike to the same list, and their notes end alike
abbrev pub RepliesAlike : (V : Type 0) → (V → State V → Call V → Out V) → Type 0
RepliesAlike V perform = (blank : V) (x y : Start V) → Fit x → Fit y → SameStart x y → (acts : List (Act V))
    → (log (perform blank) (made x) acts ≡ log (perform blank) (made y) acts)
    × ((after (perform blank) (made x) acts).table ≡ (after (perform blank) (made y) acts).table)

-- a fit site's parts fit together: as many disk cells and marks as the site has cells, a local store for each client, of one cell more,
-- a record for each of up to 1,024 cells of up to 8 clients, only the site's cells in journals, and only the client's own slip in its note
pub record Shaped {V : Type 0} (s : State V) : Type 0 where
  pub fit : s.table.unfit ≡ None
  pub cells : s.table.size ≤ 1024
  pub clients : s.table.count ≤ 8
  pub disk : length s.disk.cells ≡ s.table.size
  pub marks : length s.marks.cells ≡ s.table.size
  pub locals : map (λ b. length b.cells) s.locals ≡ replicate s.table.count (s.table.size + 1)
  pub records : map (λ c. length c.cells) s.table.clients ≡ replicate 8 1024
  pub journals : (k i : ℕ) → journal_of s.table k ≡ Some i → i < s.table.size
  pub notes : (k : ℕ) (n : Flush) → note_of s.table k ≡ Some n → n.client ≡ k

-- of whom a call asks 8, and of which cell 12
pub data Asking : Type 0 where
  nobody : Asking
  of_client : ℕ → Asking
  of_cell : ℕ → ℕ → Asking

abbrev pub asking : {V : Type 0} → Call V → Asking
asking (Open k) = of_client k
asking (Read k i) = of_cell k i
asking (Write k i v) = of_cell k i
asking (Begin k i) = of_cell k i
asking (Commit n) = of_client n.client
asking (GiveUp n) = nobody
asking (Close k) = of_client k
asking (Invalidate k) = of_client k
asking (RestartClient k n) = of_client k
asking (RestartServer n m) = nobody
asking (BeginStep k i) = of_cell k i
asking (CommitStep k) = of_client k
asking (GiveUpStep k) = of_client k
asking NoStep = nobody

-- client k is one of the site's
abbrev pub IsThere : Records → ℕ → Type 0
IsThere t k = (0 < k) × (k ≤ t.count)

-- 8 is answered exactly where the client is not one of the site's; 12 only where the cell is not below the number of cells, and then always,
-- if the client is one of the site's and holds; neither is answered where it is not asked
abbrev pub Rightly : Records → Asking → ℕ → Type 0
Rightly t nobody n = (n ≢ 8) × (n ≢ 12)
Rightly t (of_client k) n = ((n ≡ 8) ↔ (IsThere t k → ⊥)) × (n ≢ 12)
Rightly t (of_cell k i) n = ((n ≡ 8) ↔ (IsThere t k → ⊥)) × (n ≡ 12 → t.size ≤ i) × (IsThere t k → t.holder ≡ Some k → t.size ≤ i → n ≡ 12)

-- whatever was done to a new fit site, it has as many cells and clients as it was made with, its parts fit together, and the next call
-- answers 8 and 12 rightly
abbrev pub KeepsShape : (V : Type 0) → (V → State V → Call V → Out V) → Type 0
KeepsShape V perform = (blank : V) (x : Start V) → Fit x → (acts : List (Act V))
    → ((after (perform blank) (made x) acts).table.size ≡ length x.disk.cells)
    × ((after (perform blank) (made x) acts).table.count ≡ length x.locals)
    × Shaped (after (perform blank) (made x) acts)
    × ((q : Call V) → Rightly (after (perform blank) (made x) acts).table (asking q) (perform blank (after (perform blank) (made x) acts) q).reply.answer.number)

-- all of it, for one kind of cell
pub record StaysConsistent (V : Type 0) : Type 0 where
  pub upheld : Upholds V called
  pub alike : RepliesAlike V called
  pub shaped : KeepsShape V called
