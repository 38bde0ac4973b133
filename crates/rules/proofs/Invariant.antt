-- What holds between calls: of each cell at the server, and of each client's copy of it.
use Rattle.std.proofs.Common.{◌≡◌, ℕ, suc, ◌<◌, ◌≤◌, Bool, true, false, ◌&&◌, ◌||◌, length, get_or, set, is_some, Some, None, Option, sym, refl, subst, arith}
use Rattle.store.specs.declared.life.Life.{Life}
use Rattle.store.specs.Stores.{stored}
use Rattle.records.specs.Cells.{new_cell, fresh}
use Rattle.records.specs.Records.{names}
use Rattle.rules.specs.Book.{Book, Line, Stage, sent, waiting, begun, unsent, after_sending, put}
use Rattle.records.specs.declared.records.CellRecord.{CellRecord}
use Rattle.rules.proofs.Ways.{entry, cell, equal_or_not, somebody, nobody_else}
use Rattle.rules.proofs.Sight.{Client, View, with_client, with_marks, with_disk}

-- a kept mark is below n
abbrev pub Below : Option ℕ → ℕ → Type 0
Below None n = Unit {0}
Below (Some y) n = y < n

-- a cell of one client: whether this client holds, whether anybody does, the session, the server's mark and cell, the last write and its stage,
-- the local cell, the journal's cell, the record, and whether the cell is in the journal
pub record Keeps {V : Type 0} (mine held : Bool) (session mark : ℕ) (disk last : V) (stage : Stage) (local journal : V) (kept : Option ℕ) (checked dirty flying : Bool) : Type 0 where
  pub quiet : mine ≡ false → (dirty ≡ false) × (flying ≡ false) × (checked ≡ false)
  pub exactly : mine ≡ true → unsent stage ≡ (dirty || flying)
  pub newest : dirty ≡ true → local ≡ last
  pub flown : flying ≡ true → dirty ≡ false → (local ≡ last) × (journal ≡ last) × (stage ≡ begun)
  pub again : flying ≡ true → dirty ≡ true → stage ≡ waiting
  pub current : (dirty || flying) ≡ true → kept ≡ Some session
  pub valid : dirty ≡ false → flying ≡ false → is_some kept ≡ true → checked ≡ true → fresh kept mark ≡ true
  pub copied : dirty ≡ false → flying ≡ false → fresh kept mark ≡ true → local ≡ disk
  pub low : Below kept (suc session)
  pub lower : held ≡ true → mine ≡ false → Below kept session

-- a cell at the server
pub record Serves {V : Type 0} (held : Bool) (session mark : ℕ) (disk last : V) (stage : Stage) : Type 0 where
  pub same : stage ≡ sent → disk ≡ last
  pub idle : held ≡ false → stage ≡ sent
  pub marked : mark ≤ session

pub served : {V : Type 0} {held : Bool} {session mark : ℕ} {disk last : V} {stage : Stage} → Serves held session mark disk last stage → Serves held session session disk last stage
served h = grind arith

-- a write or a begin, at the server
pub unsent_serves : {V : Type 0} {held : Bool} {session mark : ℕ} {disk last : V} {stage : Stage} → Serves held session mark disk last stage → held ≡ true → (v : V) (g : Stage) → unsent g ≡ true
    → Serves held session mark disk v g
unsent_serves h m v g u = grind arith

pub open_serves : {V : Type 0} {held : Bool} {session mark : ℕ} {disk last : V} {stage : Stage} → Serves held session mark disk last stage → Serves true (suc session) mark disk last stage
open_serves h = grind arith

-- one move at one cell, as each side sees it
module _ {V : Type 0} {mine held : Bool} {session mark : ℕ} {disk last : V} {stage : Stage} {local journal : V} {kept : Option ℕ} {checked dirty flying : Bool} where
  pub write_own : Keeps mine held session mark disk last stage local journal kept checked dirty flying → mine ≡ true → (v : V)
      → Keeps mine held session mark disk v waiting v journal (Some session) true true flying
  write_own h m v = grind arith

  pub book_other : Keeps mine held session mark disk last stage local journal kept checked dirty flying → mine ≡ false → (v : V) (g : Stage)
      → Keeps mine held session mark disk v g local journal kept checked dirty flying
  book_other h m v g = grind arith

  pub check_own : Keeps mine held session mark disk last stage local journal kept checked dirty flying → mine ≡ true → dirty ≡ false → flying ≡ false → fresh kept mark ≡ true
      → Keeps mine held session mark disk last stage local journal kept true dirty flying
  check_own h m d f e = grind arith

  pub fetch_own : Keeps mine held session mark disk last stage local journal kept checked dirty flying → mine ≡ true → dirty ≡ false → flying ≡ false → mark ≤ session
      → Keeps mine held session mark disk last stage disk journal (Some mark) true dirty flying
  fetch_own h m d f e = grind arith

  pub begin_own : Keeps mine held session mark disk last stage local journal kept checked dirty flying → mine ≡ true → dirty ≡ true
      → Keeps mine held session mark disk last begun local local kept checked false true
  begin_own h m d = grind arith

  -- what is not in the journal does not look at it
  pub journal_else : Keeps mine held session mark disk last stage local journal kept checked dirty flying → flying ≡ false → (v : V)
      → Keeps mine held session mark disk last stage local v kept checked dirty false
  journal_else h f v = grind arith

  pub serve_own : Keeps mine held session mark disk last stage local journal kept checked dirty flying → flying ≡ true → (x : ℕ) (v : V)
      → Keeps mine held session x v last stage local journal kept checked dirty flying
  serve_own h f x v = grind arith

  pub serve_other : Keeps mine held session mark disk last stage local journal kept checked dirty flying → mine ≡ false → held ≡ true → (x : ℕ) → x ≡ session → (v : V)
      → Keeps mine held session x v last stage local journal kept checked dirty flying
  serve_other h m e x q v = grind arith

  pub flying_serves : Serves held session mark disk last stage → Keeps mine held session mark disk last stage local journal kept checked dirty flying → mine ≡ true → flying ≡ true → (v : V)
      → Serves held session mark v last stage
  flying_serves s h m f v = grind arith

  pub sent_own : Keeps mine held session mark disk last stage local journal kept checked dirty flying → mine ≡ true → flying ≡ true → disk ≡ journal → mark ≤ session → (v : V)
      → Keeps mine held session mark disk last (after_sending stage) local v kept checked dirty false
  sent_own h m f e y v = grind arith

  pub sent_serves : Keeps mine held session mark disk last stage local journal kept checked dirty flying → Serves held session mark disk last stage → mine ≡ true → held ≡ true → flying ≡ true → disk ≡ journal
      → Serves held session mark disk last (after_sending stage)
  sent_serves h s m y f e = grind arith

  pub give_own : Keeps mine held session mark disk last stage local journal kept checked dirty flying → flying ≡ true
      → Keeps mine held session mark disk last stage local journal kept checked true false
  give_own h f = grind arith

  pub restart_own : Keeps mine held session mark disk last stage local journal kept checked dirty flying
      → Keeps mine held session mark disk last stage local journal kept false (dirty || flying) false
  restart_own h = grind arith

  pub drop_own : Keeps mine held session mark disk last stage local journal kept checked dirty flying → dirty ≡ false → flying ≡ false
      → Keeps mine held session mark disk last stage local journal None checked dirty flying
  drop_own h d f = grind arith

  pub open_own : Keeps mine held session mark disk last stage local journal kept checked dirty flying → mine ≡ false → stage ≡ sent
      → Keeps true true (suc session) mark disk last stage local journal kept false dirty flying
  open_own h m e = grind arith

  pub open_other : Keeps mine held session mark disk last stage local journal kept checked dirty flying → mine ≡ false
      → Keeps false true (suc session) mark disk last stage local journal kept checked dirty flying
  open_other h m = grind arith

  pub close_own : Keeps mine held session mark disk last stage local journal kept checked dirty flying → dirty ≡ false → flying ≡ false
      → Keeps false false session mark disk last stage local journal kept false dirty flying
  close_own h d f = grind arith

  pub close_other : Keeps mine held session mark disk last stage local journal kept checked dirty flying → mine ≡ false
      → Keeps false false session mark disk last stage local journal kept checked dirty flying
  close_other h m = grind arith

  pub close_serves : Keeps mine held session mark disk last stage local journal kept checked dirty flying → Serves held session mark disk last stage → mine ≡ true → dirty ≡ false → flying ≡ false
      → Serves false session mark disk last stage
  close_serves h s m d f = grind arith

  -- what a read gives
  pub read_sure : Keeps mine held session mark disk last stage local journal kept checked dirty flying → Serves held session mark disk last stage → mine ≡ true
      → (dirty || (flying || (is_some kept && checked))) ≡ true → local ≡ last
  read_sure h s m e = grind arith

  pub read_fresh : Keeps mine held session mark disk last stage local journal kept checked dirty flying → Serves held session mark disk last stage → mine ≡ true
      → dirty ≡ false → flying ≡ false → fresh kept mark ≡ true → local ≡ last
  read_fresh h s m d f e = grind arith

  pub read_disk : Keeps mine held session mark disk last stage local journal kept checked dirty flying → Serves held session mark disk last stage → mine ≡ true
      → dirty ≡ false → flying ≡ false → disk ≡ last
  read_disk h s m d f = grind arith

abbrev pub mark_at : {V : Type 0} → View V → ℕ → ℕ
mark_at s k = get_or s.marks.cells k 0

module _ {V : Type 0} (blank : V) (m : ℕ) where
  abbrev pub disk_at : View V → ℕ → V
  disk_at s k = get_or s.disk.cells k blank

  -- client c, with the record cl, at cell k with the record r, with the book's line n and the server's mark x and cell d
  abbrev pub Knows : View V → Line V → ℕ → ℕ → Client V → CellRecord → ℕ → V → Type 0
  Knows s n k c cl r x d =
      Keeps (names s.holder c) (is_some s.holder) s.session x d n.last n.stage
      (get_or cl.local.cells k blank) (get_or cl.local.cells m blank) r.kept r.checked r.dirty (names cl.journal k)

  abbrev pub Seen : View V → Line V → ℕ → ℕ → Client V → ℕ → V → Type 0
  Seen s n k c cl x d = Knows s n k c cl (get_or cl.cells k new_cell) x d

  abbrev pub Of : View V → Line V → ℕ → ℕ → Client V → Type 0
  Of s n k c cl = Seen s n k c cl (mark_at s k) (disk_at s k)

  abbrev pub Stands : View V → Line V → ℕ → V → Type 0
  Stands s n x d = Serves (is_some s.holder) s.session x d n.last n.stage

  abbrev pub At : View V → Line V → ℕ → Type 0
  At s n k = Stands s n (mark_at s k) (disk_at s k)

  -- a cell in the journal has a record
  abbrev pub Filed : Client V → Type 0
  Filed cl = (k : ℕ) → names cl.journal k ≡ true → k < length cl.cells

  pub record Inv (s : View V) (b : Book V) : Type 0 where
    pub serves : (k : ℕ) → k < m → At s (b k) k
    pub keeps : (k c : ℕ) → k < m → Of s (b k) k c (s.clients c)
    pub filed : (c : ℕ) → Filed (s.clients c)

  -- one client's record changes, and the server and the book do not
  pub changed : (s : View V) (b : Book V) (c : ℕ) (cl : Client V) → Inv s b → ((k : ℕ) → k < m → Of s (b k) k c cl) → Filed cl → Inv (with_client s c cl) b
  changed s b c cl i f w =
      record {
        serves = i.serves;
        keeps = λ k c' h. entry (λ x. Of s (b k) k c' x) s.clients c cl c' (λ e. subst (λ (n : ℕ). Of s (b k) k n cl) (sym e) (f k h)) (λ _. i.keeps k c' h);
        filed = λ c'. entry Filed s.clients c cl c' (λ _. w) (λ _. i.filed c');
      }

  -- one client's record changes at one cell, and so does the cell's line in the book
  pub moved : (s : View V) (b : Book V) (c k : ℕ) (cl : Client V) (n : Line V) → Inv s b
      → (k < m → At s n k)
      → (k < m → Of s n k c cl)
      → (k < m → (c' : ℕ) → (c' ≡ c → ⊥) → Of s n k c' (s.clients c'))
      → ((k' : ℕ) → k' < m → (k' ≡ k → ⊥) → Of s (b k') k' c cl)
      → Filed cl
      → Inv (with_client s c cl) (put b k n)
  moved s b c k cl n i server own others else w =
      record {
        serves = λ k' h'. entry (λ x. At s x k') b k n k' (λ e. subst (λ (j : ℕ). j < m → At s n j) (sym e) server h') (λ _. i.serves k' h');
        keeps = λ k' c' h'.
            entry (λ x. Of s (put b k n k') k' c' x) s.clients c cl c'
            (λ e. subst (λ (j : ℕ). Of s (put b k n k') k' j cl) (sym e)
            (entry (λ x. Of s x k' c cl) b k n k' (λ e'. subst (λ (j : ℕ). j < m → Of s n j c cl) (sym e') own h') (else k' h')))
            (λ ne. entry (λ x. Of s x k' c' (s.clients c')) b k n k'
            (λ e'. subst (λ (j : ℕ). j < m → Of s n j c' (s.clients c')) (sym e') (λ h. others h c' ne) h')
            (λ _. i.keeps k' c' h'));
        filed = λ c'. entry Filed s.clients c cl c' (λ _. w) (λ _. i.filed c');
      }

  -- other lives of the server's stores
  pub lives : {s : View V} {b : Book V} (l l' : Life) → Inv s b → Inv (with_disk (with_marks s (stored s.marks.cells l)) (stored s.disk.cells l')) b
  lives l l' i = record { serves = i.serves; keeps = i.keeps; filed = i.filed }

  -- the server's mark of a cell in the holder's journal is raised to the session
  pub remarked : (s : View V) (b : Book V) (c k : ℕ) (l : Life) → Inv s b → k < length s.marks.cells
      → names s.holder c ≡ true → names (s.clients c).journal k ≡ true
      → Inv (with_marks s (stored (set s.marks.cells k s.session) l)) b
  remarked s b c k l i h mine f =
      record {
        serves = λ k' h'. cell (λ x. Stands s (b k') x (disk_at s k')) s.marks.cells k s.session k' 0 h (λ _. served (i.serves k' h')) (λ _. i.serves k' h');
        keeps = λ k' c' h'.
            cell (λ x. Seen s (b k') k' c' (s.clients c') x (disk_at s k')) s.marks.cells k s.session k' 0 h
            (λ e.
            equal_or_not _ c' c
            (λ e'. serve_own (i.keeps k' c' h') (cc) s.session (disk_at s k'))
            (λ n. serve_other (i.keeps k' c' h') (nobody_else s.holder c c' mine n) (somebody s.holder c mine) s.session refl (disk_at s k')))
            (λ _. i.keeps k' c' h');
        filed = i.filed;
      }

  -- the server's cell is written while it is in the holder's journal and its mark is the session
  pub rewritten : (s : View V) (b : Book V) (c k : ℕ) (v : V) (l : Life) → Inv s b → k < length s.disk.cells
      → names s.holder c ≡ true → names (s.clients c).journal k ≡ true → mark_at s k ≡ s.session
      → Inv (with_disk s (stored (set s.disk.cells k v) l)) b
  rewritten s b c k v l i h mine f q =
      record {
        serves = λ k' h'.
            cell (λ x. Stands s (b k') (mark_at s k') x) s.disk.cells k v k' blank h
            (λ e. flying_serves (i.serves k' h') (i.keeps k' c h') mine (cc) v)
            (λ _. i.serves k' h');
        keeps = λ k' c' h'.
            cell (λ x. Seen s (b k') k' c' (s.clients c') (mark_at s k') x) s.disk.cells k v k' blank h
            (λ e.
            equal_or_not _ c' c
            (λ e'. serve_own (i.keeps k' c' h') (cc) (mark_at s k') v)
            (λ n. serve_other (i.keeps k' c' h') (nobody_else s.holder c c' mine n) (somebody s.holder c mine) (mark_at s k') (cc) v))
            (λ _. i.keeps k' c' h');
        filed = i.filed;
      }
