-- From a new fit site, after any list of acts, reads gave the last writes, and the disk lags only at unsent cells.
use Rattle.std.proofs.Common.{◌≡◌, ℕ, ◌<◌, true, List, [], ◌∷◌, ◌++◌, map, length, get_or, Some, None, Option, unwrap_or, sym, refl, ap, ◌∙◌, subst, arith}
use Rattle.std.proofs.lemmas.Bool.{eq-eqb}
use Rattle.store.specs.Stores.{Stored, stored}
use Rattle.records.specs.Cells.{fresh}
use Rattle.rules.specs.Site.{State}
use Rattle.rules.specs.Making.{within, Start, made}
use Rattle.rules.specs.Replies.{Call, Open, Read, Write, Begin, Commit, GiveUp, Close, Invalidate, RestartClient, RestartServer, BeginStep, CommitStep, GiveUpStep, NoStep, Reply, Out, out, called}
use Rattle.rules.specs.Runs.{Rows, Running, running, run_calls, ran}
use Rattle.rules.specs.Book.{Book, unsent, feed, deed}
use Rattle.rules.specs.History.{Entry, Act, logged, row_log, book_of, after, log}
use Rattle.rules.specs.Claim.{ReadRight, Fit, held_back, new_book, Lags, copy_of, CopyTrue, Upheld, Upholds, SameStart, RepliesAlike}
use Rattle.rules.specs.Carry.{Continues, ContinuesRun}
use Rattle.rules.specs.declared.answer.Answer.{Answer}
use Rattle.records.specs.declared.records.CellRecord.{CellRecord}
use Rattle.records.specs.declared.fault.Unfit.{Unfit}
use Rattle.records.proofs.Tables.{asked_as}
use Rattle.rules.proofs.Sight.{view, store_of, record_is, journal_is}
use Rattle.rules.proofs.Invariant.{Inv, Of, At}
use Rattle.rules.proofs.Steps.{Fine, clean_at, open_fine, read_fine, write_fine, begin_fine, commit_fine, give_up_fine, close_fine, invalidate_fine, restart_client_fine, restart_server_fine, begin_step_fine, commit_step_fine, give_up_step_fine, no_step_fine}
use Rattle.rules.proofs.Plays.{calls, calls_after, calls_log, after_joined, log_joined, run_does, acts_do}
use Rattle.rules.proofs.Starts.{new_inv}

module _ {V : Type 0} (blank : V) where
  all_fine : (s : State V) (b : Book V) (q : Call V) → Inv blank s.table.size (view s) b → Fine blank s.table.size b (deed q (called blank s q).reply.answer) (called blank s q)
  unfolding called
  all_fine s b (Open c) i = open_fine blank s b c i
  all_fine s b (Read c k) i = read_fine blank s b c k i
  all_fine s b (Write c k v) i = write_fine blank s b c k v i
  all_fine s b (Begin c k) i = begin_fine blank s b c k i
  all_fine s b (Commit t) i = commit_fine blank s b t.client t.cell t.turn i
  all_fine s b (GiveUp t) i = give_up_fine blank s b t.client t.cell t.turn i
  all_fine s b (Close c) i = close_fine blank s b c i
  all_fine s b (Invalidate c) i = invalidate_fine blank s b c i
  all_fine s b (RestartClient c n) i = restart_client_fine blank s b c n i
  all_fine s b (RestartServer n n') i = restart_server_fine blank s b n n' i
  all_fine s b (BeginStep c k) i = begin_step_fine blank s b c k i
  all_fine s b (CommitStep c) i = commit_step_fine blank s b c i
  all_fine s b (GiveUpStep c) i = give_up_step_fine blank s b c i
  all_fine s b NoStep i = no_step_fine blank s b i

  -- the same at a size that is the site's
  abbrev Kept : ℕ → State V → Book V → Type 0
  Kept m s b = (s.table.size ≡ m) × Inv blank m (view s) b

  fine_at : (m : ℕ) (s : State V) (b : Book V) (q : Call V) → Kept m s b → Fine blank m b (deed q (called blank s q).reply.answer) (called blank s q)
  fine_at m s b q i = subst (λ (n : ℕ). Inv blank n (view s) b → Fine blank n b (deed q (called blank s q).reply.answer) (called blank s q)) i.0 (all_fine s b q) i.1

  after_kept : (m : ℕ) (s : State V) (b : Book V) → Kept m s b → (qs : List (Call V)) → Kept m (calls_after (called blank) s qs) (book_of b (calls_log (called blank) s qs))
  after_kept m s b i [] = i
  after_kept m s b i (q ∷ qs) =
      let f = fine_at m s b q i in
      after_kept m (called blank s q).state (feed b q (called blank s q).reply.answer) (f.size, f.inv) qs

  reads_right : (m : ℕ) (s : State V) (b : Book V) → Kept m s b → (qs : List (Call V)) (before : List (Entry V)) (e : Entry V) (rest : List (Entry V))
      → calls_log (called blank) s qs ≡ before ++ (e ∷ rest) → ReadRight (book_of b before) (deed e.call e.reply.answer) e.reply
  reads_right m s b i [] [] e rest q = cc
  reads_right m s b i [] (x ∷ before) e rest q = cc
  reads_right m s b i (q ∷ qs) [] e rest z =
      let w : logged q (called blank s q).reply ≡ e = cc in
      subst (λ (x : Entry V). ReadRight b (deed x.call x.reply.answer) x.reply) w (fine_at m s b q i).right
  reads_right m s b i (q ∷ qs) (x ∷ before) e rest z =
      let w : logged q (called blank s q).reply ≡ x = cc in
      let w' : calls_log (called blank) (called blank s q).state qs ≡ before ++ (e ∷ rest) = cc in
      let f = fine_at m s b q i in
      subst (λ (y : Entry V). ReadRight (book_of (feed b y.call y.reply.answer) before) (deed e.call e.reply.answer) e.reply) w
      (reads_right m (called blank s q).state (feed b q (called blank s q).reply.answer) (f.size, f.inv) qs before e rest w')

  -- what the invariant says of the holder
  held_exactly : (m : ℕ) (s : State V) (b : Book V) (k : ℕ) (h : Option ℕ) → s.table.holder ≡ h → At blank m (view s) (b k) k → ((c : ℕ) → Of blank m (view s) (b k) k c ((view s).clients c))
      → unsent (b k).stage ≡ held_back s.table h k
  held_exactly m s b k None e a f = let i = a.idle (rw e refl) in grind arith
  held_exactly m s b k (Some c) e a f =
      let x = (f c).exactly (rw e (eq-eqb c c refl)) in
      let r = record_is s.table c k in
      let j = journal_is s.table c in
      grind arith

  lags_at : (m : ℕ) (s : State V) (b : Book V) → Inv blank m (view s) b → (k : ℕ) → k < m → Lags blank s b k
  lags_at m s b i k h = record { disk_is = (i.serves k h).same; exactly = held_exactly m s b k s.table.holder refl (i.serves k h) (λ c. i.keeps k c h) }

  -- the local cell, as the invariant sees it
  copy_is : (s : State V) (k i : ℕ) → copy_of blank s k i ≡ get_or (store_of s.locals k).cells i blank
  copy_is s k i = ap (λ (o : Option V). unwrap_or o blank) (asked_as (λ b. get_or b.cells i blank) s.locals k) ∙ grind arith

  copies_at : (m : ℕ) (s : State V) (b : Book V) → Inv blank m (view s) b → (k i : ℕ) → i < m → CopyTrue blank s k i
  copies_at m s b w k i h e f =
      let c = clean_at blank s k i e in
      copy_is s k i ∙ (w.keeps i k h).copied c.0 c.1 (subst (λ (r : CellRecord). fresh r.kept (get_or s.marks.cells i 0) ≡ true) (record_is s.table k i) f)

  -- a list of calls
  calls_upheld : (x : Start V) → Fit x → (qs : List (Call V)) → Upheld blank x (calls_log (called blank) (made x) qs) (calls_after (called blank) (made x) qs)
  calls_upheld x e qs =
      let m : ℕ = length x.disk.cells in
      let i : Inv blank m (view (made x)) (new_book blank x) = new_inv blank x.disk x.marks x.locals x.session e in
      let z : (made x).table.size ≡ m = ap (λ (u : Option Unfit). within u m) e in
      let w = after_kept m (made x) (new_book blank x) (z, i) qs in
      record {
        each_read = reads_right m (made x) (new_book blank x) (z, i) qs;
        lags = λ k h. lags_at m (calls_after (called blank) (made x) qs) (book_of (new_book blank x) (calls_log (called blank) (made x) qs)) w.1 k h;
        copies = copies_at m (calls_after (called blank) (made x) qs) (book_of (new_book blank x) (calls_log (called blank) (made x) qs)) w.1;
      }

  -- a list of acts, and then a list of calls
  pub upheld_on : (x : Start V) → Fit x → (before : List (Act V)) (qs : List (Call V))
      → Upheld blank x (log (called blank) (made x) before ++ calls_log (called blank) (after (called blank) (made x) before) qs) (calls_after (called blank) (after (called blank) (made x) before) qs)
  upheld_on x e before qs =
      let d = acts_do blank (made x) before in
      rw (d.0, d.1, ← log_joined (called blank) (made x) (calls before) qs, ← after_joined (called blank) (made x) (calls before) qs) (calls_upheld x e (calls before ++ qs))

  -- a call that does what the rules say
  pub continues : (entry : State V) (q : Call V) (exit : State V) (r : Reply V) → out exit r ≡ called blank entry q → Continues blank entry q exit r
  continues entry q exit r e = record {
    whatever = λ x before fit led.
        let f : called blank (after (called blank) (made x) before) q ≡ out exit r = ap (λ (u : State V). called blank u q) led ∙ sym e in
        subst (λ (o : Out V). Upheld blank x (log (called blank) (made x) before ++ (logged q o.reply ∷ [])) o.state) f (upheld_on x fit before (q ∷ []));
  }

  -- a run that does what the rules say
  pub continues_run : (entry : State V) (r : Rows V) (exit : State V) (answers : List Answer) (got : List V) → running exit answers got ≡ ran (called blank) entry r
      → ContinuesRun blank entry r exit answers got
  unfolding ran
  continues_run entry r exit answers got e = record {
    whatever = λ x before fit led.
        let d = run_does blank entry r in
        subst (λ (w : Running V). Upheld blank x (log (called blank) (made x) before ++ row_log (run_calls r) w.answers w.got) w.state) (sym e)
        (rw (d.1, d.0, ← led) (upheld_on x fit before (run_calls r)));
  }

pub upholds : (V : Type 0) → Upholds V called
upholds V blank x fit acts =
    let d = acts_do blank (made x) acts in
    rw (d.0, d.1) (calls_upheld blank x fit (calls acts))

-- stores with the same cells and lives are the same
same_stores : {V : Type 0} (xs ys : List (Stored V)) → map (λ b. b.cells) xs ≡ map (λ b. b.cells) ys → map (λ b. b.life) xs ≡ map (λ b. b.life) ys → xs ≡ ys
same_stores [] [] e f = refl
same_stores [] (y ∷ ys) e f = cc
same_stores (x ∷ xs) [] e f = cc
same_stores {V} (x ∷ xs) (y ∷ ys) e f =
    let c : x.cells ≡ y.cells = cc in
    let l : x.life ≡ y.life = cc in
    let more : xs ≡ ys = same_stores xs ys (cc) (cc) in
    λ i. stored (c i) (l i) ∷ more i

pub same_start : {V : Type 0} (x y : Start V) → SameStart x y → x ≡ y
same_start x y e =
    let ls = same_stores x.locals y.locals e.local_cells e.local_lives in
    λ i. record { disk = stored (e.disk_cells i) (e.disk_lives i); marks = stored (e.marks_cells i) (e.marks_lives i); locals = ls i; session = e.sessions i }

pub replies_alike : (V : Type 0) → RepliesAlike V called
replies_alike V blank x y fit fit' e acts =
    let q = same_start x y e in
    (ap (λ (z : Start V). log (called blank) (made z) acts) q, ap (λ (z : Start V). (after (called blank) (made z) acts).table) q)
