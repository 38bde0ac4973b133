-- Each call keeps the invariant, with the book fed, and an accepted read gives the last write.
use Rattle.std.proofs.Common.{◌≡◌, ℕ, zero, suc, ◌+◌, ◌<◌, Bool, true, false, cond, ◌||◌, eqb, List, map, length, get_or, set, Some, None, Ok, Err, Option, Result, sym, refl, ap, ◌∙◌, subst, add-one, arith, ◌≢◌}
use Rattle.std.specs.Option.{is_none, option_map}
use Rattle.std.proofs.Math.ListN.{get_or-map}
use Rattle.std.proofs.lemmas.Grind.{get_or-set_at}
use Rattle.std.proofs.lemmas.List.{get_or-set_same, get_or-set_other, length-set, length-map}
use Rattle.std.proofs.lemmas.Bool.{cond_both, eqb-true, eqb-false, eq-eqb, ne_eqb, not-true}
use Rattle.store.specs.declared.life.Life.{Life}
use Rattle.store.specs.Stores.{Stored, stored, after_renew}
use Rattle.records.specs.Clients as clients
use Rattle.records.specs.Faults.{says}
use Rattle.records.specs.Cells.{new_cell, unchecked_cell, dirtied, fresh, settled, marked, written_cell, swept_cell, sweeps}
use Rattle.records.specs.Records.{names, cell_of, is_in_journal, unsent_at, with_cell}
use Rattle.records.specs.Questions.{admitted, opening, beginning, committing, closing}
use Rattle.rules.specs.Site.{State, Outcome, outcome, with_table, with_disk, with_marks, with_locals}
use Rattle.rules.specs.Calls.{open_call, read_local, read_confirmed, read_fetched, read_call, write_call, begin_call, commit_call, give_up_call, close_call, sweep_cell, sweep_from, sweep_more, sweep_record, Sweeping, sweep_admitted, invalidate_call, restart_client_call, restart_server_call, with_note_of, begin_step, returned, commit_taken, commit_step, give_up_step}
use Rattle.rules.specs.declared.answer.Source.{Source}
use Rattle.rules.specs.Replies.{Out, out, refused, replied, open_reply, read_reply, begin_reply, noted_reply, plain_reply, plain, Reply, swept_out}
use Rattle.rules.specs.Book.{Book, waiting, begun, after_sending, staged, entered, fed, Deed, reads, writes, begins, sends, other}
use Rattle.rules.specs.Claim.{ReadRight}
use Rattle.records.specs.Records as records
use Rattle.records.specs.Questions as questions
use Rattle.rules.specs.Site as site
use Rattle.records.specs.declared.records.CellRecord.{CellRecord}
use Rattle.records.specs.declared.records.ClientRecord.{ClientRecord}
use Rattle.records.specs.declared.records.Flush.{Flush}
use Rattle.records.specs.declared.fault.SiteFault.{SiteFault}
use Rattle.records.specs.declared.fault.SiteFault.TheVariants as fault
use Rattle.rules.proofs.Ways.{followed, by_disk_read, by_mark_read, by_disk_write, by_mark_write, entry, equal_or_not, somebody, nobody_else, unnamed, admitted_says, opening_says, beginning_says, committing_says, closing_says, holding_says}
use Rattle.rules.proofs.Sight.{Client, View, with_client, with_cells, held_by, store_of, client_of, cells_in, journal_in, seen, view, Relocal, same_locals, view_both, by_local_read, by_local_write, journal_is, record_is, cell_known, flush_known}
use Rattle.rules.proofs.Sight as sight
use Rattle.rules.proofs.Invariant.{Inv, Of, Knows, Filed, mark_at, disk_at, changed, moved, lives, remarked, rewritten, write_own, book_other, check_own, fetch_own, begin_own, journal_else, sent_own, sent_serves, give_own, restart_own, drop_own, open_own, open_other, open_serves, close_own, close_other, close_serves, read_sure, read_fresh, read_disk, unsent_serves}

pub fault_nonzero : (e : SiteFault) → eqb (says e).number 0 ≡ false
fault_nonzero e = grind arith

module _ {V : Type 0} (blank : V) where
  -- after a call that means q to the book b, at a site of m cells
  pub record Fine (m : ℕ) (b : Book V) (q : Deed V) (o : Out V) : Type 0 where
    pub size : o.state.table.size ≡ m
    pub inv : Inv blank m (view o.state) (fed b q o.reply.answer)
    pub right : ReadRight b q o.reply

  abbrev Kept : State V → Book V → Type 0
  Kept s b = Inv blank s.table.size (view s) b

  -- a refusal
  bad : {m : ℕ} {b : Book V} {q : Deed V} {s : State V} (e : SiteFault) (p n : ℕ) → s.table.size ≡ m → Inv blank m (view s) b → Fine m b q (out s (plain (refused p n e)))
  bad {m} {b} {q} {s} e p n z i = record { size = z; inv = rw (fault_nonzero e) i; right = let z = fault_nonzero e in grind (arith, eqb-false) }

  -- client c's store was changed to l and its record by f, which the invariant sees as cl
  seen_as : {m : ℕ} {b : Book V} {ls : List (Stored V)} {l : Stored V} (s : State V) (c : ℕ) (f : ClientRecord → ClientRecord) (cl : Client V) → Relocal s.locals c l ls
      → seen l (option_map f (client_of s.table c)) ≡ cl → Inv blank m (with_client (view s) c cl) b
      → Inv blank m (view (with_table (with_locals s ls) (records.with_clients s.table (clients.changed f s.table.clients c)))) b
  seen_as {m} {b} {ls} {l} s c f cl r e i = subst (λ (u : View V). Inv blank m u b) (sym (view_both s ls f c l r ∙ ap (with_client (view s) c) e)) i

  abbrev cs : State V → ℕ → List CellRecord
  cs s c = cells_in (client_of s.table c)

  abbrev js : State V → ℕ → Option ℕ
  js s c = journal_in (client_of s.table c)

  -- the local store has another life
  aged_local : (s : State V) (b : Book V) (c : ℕ) (l : Life) (ls : List (Stored V)) → Relocal s.locals c (stored (store_of s.locals c).cells l) ls → Kept s b → Kept (with_locals s ls) b
  aged_local s b c l ls r i =
      let cl : Client V = record { local = stored (store_of s.locals c).cells l; cells = cs s c; journal = js s c } in
      subst (λ (xs : List ClientRecord). Kept (with_table (with_locals s ls) (records.with_clients s.table xs)) b) (sight.changed_same (λ x. x) s.table.clients c (grind arith))
      (seen_as s c _ cl r (grind arith) (changed blank s.table.size (view s) b c cl i (λ k h. i.keeps k c h) (i.filed c)))

  filed_set : (s : State V) (b : Book V) (c k : ℕ) (r : CellRecord) (l : Stored V) → Kept s b → Filed blank s.table.size (record { local = l; cells = set (cs s c) k r; journal = js s c })
  filed_set s b c k r l i j e = rw (length-set (cs s c) k r) (i.filed c j e)

  pub write_fine : (s : State V) (b : Book V) (c k : ℕ) (v : V) → Kept s b → Fine s.table.size b (writes k v) (replied (plain_reply k) (write_call s c k v))
  write_fine s b c k v i =
      let m : ℕ = s.table.size in
      let P : Outcome V (Unit {0}) → Type 0 = λ o. Fine m b (writes k v) (replied (plain_reply k) o) in
      followed P s (admitted s.table c k) _ (λ e. bad e k 0 refl i) λ x a.
      let y = admitted_says s.table c k x a in
      let h : k < m = y.1 in
      let w = cell_known s.table c k x y.2 in
      by_local_write P s c k v _ (λ e. bad e k 0 refl i) λ z l ls rel.
      let n : m ≡ k → ⊥ = omega arith in
      let xs : List V = (store_of s.locals c).cells in
      let r : CellRecord = written_cell s.table.session in
      let cl : Client V = record { local = stored (set xs k v) l; cells = set (cs s c) k r; journal = js s c } in
      record {
        size = refl;
        inv =
            seen_as s c _ cl rel (grind arith)
            (moved blank m (view s) b c k cl (record { last = v; stage = waiting }) i
            (λ _. unsent_serves (i.serves k h) (somebody s.table.holder c y.0) v waiting refl)
            (λ _. rw (get_or-set_same (cs s c) k r new_cell w.1, get_or-set_same xs k v blank z, get_or-set_other xs k m v blank n) (write_own (i.keeps k c h) y.0 v))
            (λ _ c' ne. book_other (i.keeps k c' h) (nobody_else s.table.holder c c' y.0 ne) v waiting)
            (λ k' h' ne. rw (get_or-set_other (cs s c) k k' r new_cell ne, get_or-set_other xs k k' v blank ne, get_or-set_other xs k m v blank n) (i.keeps k' c h'))
            (filed_set s b c k r (stored (set xs k v) l) i));
        right = tt;
      }

  -- what is known of an admitted cell
  own_keeps : (s : State V) (b : Book V) (c k : ℕ) (x : CellRecord) → Kept s b → k < s.table.size → get_or (cs s c) k new_cell ≡ x
      → Knows blank s.table.size (view s) (b k) k c ((view s).clients c) x (mark_at (view s) k) (disk_at blank s.table.size (view s) k)
  own_keeps s b c k x i h e =
      subst (λ (r : CellRecord). Knows blank s.table.size (view s) (b k) k c ((view s).clients c) r (mark_at (view s) k) (disk_at blank s.table.size (view s) k)) e (i.keeps k c h)

  begun_client : (b : Stored V) (o : Option ClientRecord) (k : ℕ) (r : CellRecord) (n : ℕ) → k < length (cells_in o)
      → seen b (option_map (λ c. records.begun_client c k r n) o) ≡ record { local = b; cells = set (cells_in o) k (dirtied false r); journal = Some k }
  begun_client b o k r n h = grind arith

  pub begin_fine : (s : State V) (b : Book V) (c k : ℕ) → Kept s b → Fine s.table.size b (begins k) (replied (begin_reply k) (begin_call s c k))
  begin_fine s b c k i =
      let m : ℕ = s.table.size in
      let P : Outcome V Flush → Type 0 = λ o. Fine m b (begins k) (replied (begin_reply k) o) in
      followed P s (beginning s.table c k) _ (λ e. bad e k 0 refl i) λ xn a.
      let x : CellRecord = xn.0 in
      let y = beginning_says s.table c k xn a in
      let h : k < m = y.1 in
      let w = cell_known s.table c k x y.2 in
      let j : is_none (js s c) ≡ true = sym (ap is_none (journal_is s.table c)) ∙ y.3 in
      by_local_read P s c k blank _ (λ e. bad e k 0 refl i) λ l ls rel.
      let v : V = get_or (store_of s.locals c).cells k blank in
      let s₁ : State V = with_locals s ls in
      let i₁ : Kept s₁ b = aged_local s b c l ls rel i in
      by_local_write P s₁ c m v _ (λ e. bad e k 0 refl i₁) λ z l' ls' rel'.
      let n : k ≡ m → ⊥ = omega arith in
      let xs : List V = (store_of ls c).cells in
      let same : v ≡ get_or xs k blank = sym (ap (λ (u : Stored V). get_or u.cells k blank) rel.own) in
      let r : CellRecord = dirtied false x in
      let cl : Client V = record { local = stored (set xs m v) l'; cells = set (cs s c) k r; journal = Some k } in
      record {
        size = refl;
        inv =
            seen_as s₁ c _ cl rel' (begun_client _ (client_of s.table c) k x xn.1 w.1)
            (moved blank m (view s₁) b c k cl (staged (b k) begun) i₁
            (λ _. unsent_serves (i₁.serves k h) (somebody s.table.holder c y.0) (b k).last begun refl)
            (λ _. rw (get_or-set_same (cs s c) k r new_cell w.1, get_or-set_other xs m k v blank n, get_or-set_same xs m v blank z, eq-eqb k k refl, same) (begin_own (own_keeps s₁ b c k x i₁ h w.0) y.0 y.4))
            (λ _ c' ne. book_other (i₁.keeps k c' h) (nobody_else s.table.holder c c' y.0 ne) (b k).last begun)
            (λ k' h' ne.
            let n' : k' ≡ m → ⊥ = omega arith in
            rw (get_or-set_other (cs s c) k k' r new_cell ne, get_or-set_other xs m k' v blank n', ne_eqb k k' (λ e. ne (sym e)))
            (journal_else (i₁.keeps k' c h') (unnamed (js s c) j k') (get_or (set xs m v) m blank)))
            (λ k' e. rw (length-set (cs s c) k r) (subst (λ (n : ℕ). n < length (cs s c)) (eqb-true k k' e) w.1)));
        right = tt;
      }

  no_journal : (m : ℕ) (l : Stored V) (xs : List CellRecord) → Filed blank m (record { local = l; cells = xs; journal = None })
  no_journal m l xs k e = cc

  pub commit_fine : (s : State V) (b : Book V) (c k t : ℕ) → Kept s b → Fine s.table.size b (sends k) (replied (plain_reply k) (commit_call blank s c k t))
  commit_fine s b c k t i =
      let m : ℕ = s.table.size in
      let P : Outcome V (Unit {0}) → Type 0 = λ o. Fine m b (sends k) (replied (plain_reply k) o) in
      followed P s (committing s.table c k t) _ (λ e. bad e k 0 refl i) λ x a.
      let y = committing_says s.table c k t x a in
      let mine : names s.table.holder c ≡ true = y.0 in
      let f : names (js s c) k ≡ true = flush_known s.table c k t y.1 in
      by_local_read P s c m blank _ (λ e. bad e k 0 refl i) λ l ls rel.
      let v : V = get_or (store_of s.locals c).cells m blank in
      let s₁ : State V = with_locals s ls in
      let i₁ : Kept s₁ b = aged_local s b c l ls rel i in
      by_mark_write P s₁ k s.table.session _ (λ e. bad e k 0 refl i₁) λ z lm.
      let s₂ : State V = with_marks s₁ (stored (set s.marks.cells k s.table.session) lm) in
      let i₂ : Kept s₂ b = remarked blank m (view s₁) b c k lm i₁ z mine f in
      by_disk_write P s₂ k v _ (λ e. bad e k 0 refl i₂) λ z' ld.
      let s₃ : State V = with_disk s₂ (stored (set s.disk.cells k v) ld) in
      let i₃ : Kept s₃ b = rewritten blank m (view s₂) b c k v ld i₂ z' mine f (get_or-set_same s.marks.cells k s.table.session 0 z) in
      by_local_write P s₃ c m blank _ (λ e. bad e k 0 refl i₃) λ z'' l' ls' rel'.
      let xs : List V = (store_of ls c).cells in
      let same : v ≡ get_or xs m blank = sym (ap (λ (u : Stored V). get_or u.cells m blank) rel.own) in
      let cl : Client V = record { local = stored (set xs m blank) l'; cells = cs s c; journal = None } in
      let e : disk_at blank m (view s₃) k ≡ get_or xs m blank = get_or-set_same s.disk.cells k v blank z' ∙ same in
      record {
        size = refl;
        inv =
            seen_as s₃ c _ cl rel' (grind arith)
            (moved blank m (view s₃) b c k cl (staged (b k) (after_sending (b k).stage)) i₃
            (λ h. sent_serves (i₃.keeps k c h) (i₃.serves k h) mine (somebody s.table.holder c mine) f e)
            (λ h.
            let n : k ≡ m → ⊥ = omega arith in
            rw (get_or-set_other xs m k blank blank n) (sent_own (i₃.keeps k c h) mine f e (i₃.serves k h).marked (get_or (set xs m blank) m blank)))
            (λ h c' ne. book_other (i₃.keeps k c' h) (nobody_else s.table.holder c c' mine ne) (b k).last (after_sending (b k).stage))
            (λ k' h' ne.
            let n' : k' ≡ m → ⊥ = omega arith in
            rw (get_or-set_other xs m k' blank blank n') (journal_else (i₃.keeps k' c h') (nobody_else (js s c) k k' f ne) (get_or (set xs m blank) m blank)))
            (no_journal m (stored (set xs m blank) l') (cs s c)));
        right = tt;
      }

  pub give_up_fine : (s : State V) (b : Book V) (c k t : ℕ) → Kept s b → Fine s.table.size b other (replied (plain_reply k) (give_up_call s c k t))
  give_up_fine s b c k t i =
      let m : ℕ = s.table.size in
      let P : Outcome V (Unit {0}) → Type 0 = λ o. Fine m b other (replied (plain_reply k) o) in
      followed P s (questions.giving_up s.table c k t) _ (λ e. bad e k 0 refl i) λ x a.
      let f : names (js s c) k ≡ true = flush_known s.table c k t (grind arith) in
      let r : CellRecord = dirtied true (get_or (cs s c) k new_cell) in
      let cl : Client V = record { local = store_of s.locals c; cells = set (cs s c) k r; journal = None } in
      record {
        size = refl;
        inv =
            seen_as s c _ cl (same_locals s.locals c) (grind arith)
            (changed blank m (view s) b c cl i
            (λ k' h'.
            equal_or_not _ k' k
            (λ e. subst (λ (j : ℕ). j < m → Of blank m (view s) (b j) j c cl) (sym e) (λ h. rw (get_or-set_same (cs s c) k r new_cell (i.filed c k f)) (give_own (i.keeps k c h) f)) h')
            (λ n. rw (get_or-set_other (cs s c) k k' r new_cell n) (journal_else (i.keeps k' c h') (nobody_else (js s c) k k' f n) _)))
            (no_journal m (store_of s.locals c) (set (cs s c) k r)));
        right = tt;
      }

  get_or_unchecked : (xs : List CellRecord) (k : ℕ) → get_or (map unchecked_cell xs) k new_cell ≡ unchecked_cell (get_or xs k new_cell)
  get_or_unchecked xs k = get_or-map unchecked_cell xs k new_cell

  filed_unchecked : (s : State V) (b : Book V) (c : ℕ) → Kept s b → Filed blank s.table.size (record { local = store_of s.locals c; cells = map unchecked_cell (cs s c); journal = js s c })
  filed_unchecked s b c i k e = rw (length-map (cs s c) unchecked_cell) (i.filed c k e)

  pub open_fine : (s : State V) (b : Book V) (c : ℕ) → Kept s b → Fine s.table.size b other (replied open_reply (open_call s c))
  open_fine s b c i =
      let m : ℕ = s.table.size in
      let P : Outcome V ℕ → Type 0 = λ o. Fine m b other (replied open_reply o) in
      followed P s (opening s.table c) _ (λ e. bad e 0 0 refl i) λ n a.
      let y = opening_says s.table c n a in
      let u : is_none s.table.holder ≡ true = y.0 in
      let cl : Client V = record { local = store_of s.locals c; cells = map unchecked_cell (cs s c); journal = js s c } in
      let s₁ : State V = with_table s (records.with_holder s.table n (Some c)) in
      let v₁ : View V = held_by (view s) (suc s.table.session) (Some c) in
      let raised : n ≡ suc s.table.session = y.1 ∙ add-one _ in
      record {
        size = refl;
        inv =
            seen_as s₁ c _ cl (same_locals s.locals c) (grind arith)
            (subst (λ (x : ℕ). Inv blank m (with_client (held_by (view s) x (Some c)) c cl) b) (sym raised)
            (record {
              serves = λ k h. open_serves (i.serves k h);
              keeps = λ k c' h.
                  entry (λ x. Of blank m v₁ (b k) k c' x) (view s).clients c cl c'
                  (λ e. subst (λ (j : ℕ). Of blank m v₁ (b k) k j cl) (sym e)
                  (rw (get_or_unchecked (cs s c) k, eq-eqb c c refl) (open_own (i.keeps k c h) (unnamed s.table.holder u c) ((i.serves k h).idle (not-true _ u)))))
                  (λ ne. rw (ne_eqb c c' (λ e. ne (sym e))) (open_other (i.keeps k c' h) (unnamed s.table.holder u c')));
              filed = λ c'. entry (Filed blank m) (view s).clients c cl c' (λ _. filed_unchecked s b c i) (λ _. i.filed c');
            }));
        right = tt;
      }

  -- a cell that is neither dirty nor in the journal, by a test that failed
  pub clean_at : (s : State V) (c k : ℕ) → unsent_at s.table c k ≡ false → ((get_or (cs s c) k new_cell).dirty ≡ false) × (names (js s c) k ≡ false)
  clean_at s c k e = let r = record_is s.table c k in let j = journal_is s.table c in grind arith

  pub close_fine : (s : State V) (b : Book V) (c : ℕ) → Kept s b → Fine s.table.size b other (replied (plain_reply 0) (close_call s c))
  close_fine s b c i =
      let m : ℕ = s.table.size in
      let P : Outcome V (Unit {0}) → Type 0 = λ o. Fine m b other (replied (plain_reply 0) o) in
      followed P s (closing s.table c) _ (λ e. bad e 0 0 refl i) λ x a.
      let y = closing_says s.table c x a in
      let mine : names s.table.holder c ≡ true = y.0 in
      let clean : (k : ℕ) → k < m → ((get_or (cs s c) k new_cell).dirty ≡ false) × (names (js s c) k ≡ false) = λ k h. clean_at s c k (y.1 k h) in
      let cl : Client V = record { local = store_of s.locals c; cells = map unchecked_cell (cs s c); journal = js s c } in
      let s₁ : State V = with_table s (records.with_holder s.table s.table.session None) in
      let v₁ : View V = held_by (view s) s.table.session None in
      record {
        size = refl;
        inv =
            seen_as s₁ c _ cl (same_locals s.locals c) (grind arith)
            (record {
              serves = λ k h. close_serves (i.keeps k c h) (i.serves k h) mine (clean k h).0 (clean k h).1;
              keeps = λ k c' h.
                  entry (λ x. Of blank m v₁ (b k) k c' x) (view s).clients c cl c'
                  (λ e. rw (get_or_unchecked (cs s c) k) (close_own (i.keeps k c h) (clean k h).0 (clean k h).1))
                  (λ n. close_other (i.keeps k c' h) (nobody_else s.table.holder c c' mine n));
              filed = λ c'. entry (Filed blank m) (view s).clients c cl c' (λ _. filed_unchecked s b c i) (λ _. i.filed c');
            });
        right = tt;
      }

  -- a record of the holder's cell k changes: to checked, or to absent
  noticed : (s : State V) (b : Book V) (c k : ℕ) (r : CellRecord) → Kept s b → k < length (cs s c)
      → (k < s.table.size → Knows blank s.table.size (view s) (b k) k c ((view s).clients c) r (mark_at (view s) k) (disk_at blank s.table.size (view s) k))
      → Kept (with_table s (with_cell s.table c k r)) b
  noticed s b c k r i w own =
      let m : ℕ = s.table.size in
      let cl : Client V = record { local = store_of s.locals c; cells = set (cs s c) k r; journal = js s c } in
      seen_as s c _ cl (same_locals s.locals c) (grind arith)
      (changed blank m (view s) b c cl i
      (λ k' h'.
      equal_or_not _ k' k
      (λ e. subst (λ (j : ℕ). j < m → Of blank m (view s) (b j) j c cl) (sym e) (λ h. rw (get_or-set_same (cs s c) k r new_cell w) (own h)) h')
      (λ n. rw (get_or-set_other (cs s c) k k' r new_cell n) (i.keeps k' c h')))
      (filed_set s b c k r (store_of s.locals c) i))

  -- what a read's first test says
  pub read_fine : (s : State V) (b : Book V) (c k : ℕ) → Kept s b → Fine s.table.size b (reads k) (replied (read_reply k) (read_call s c k))
  unfolding read_local read_confirmed read_fetched
  read_fine s b c k i =
      let m : ℕ = s.table.size in
      let P : Outcome V (V × Source) → Type 0 = λ o. Fine m b (reads k) (replied (read_reply k) o) in
      followed P s (admitted s.table c k) _ (λ e. bad e k 0 refl i) λ x a.
      let y = admitted_says s.table c k x a in
      let mine : names s.table.holder c ≡ true = y.0 in
      let h : k < m = y.1 in
      let w = cell_known s.table c k x y.2 in
      let xs : List V = (store_of s.locals c).cells in
      let j = journal_is s.table c in
      let kp = own_keeps s b c k x i h w.0 in
      cond_both (settled x (is_in_journal s.table c k)) _ _ P
      (λ u.
      by_local_read P s c k blank _ (λ e. bad e k 0 refl i) λ l ls rel.
      record {
        size = refl;
        inv = aged_local s b c l ls rel i;
        right = λ _. ap Some (read_sure kp (i.serves k h) mine (grind arith));
      })
      (λ u.
      let clean : (x.dirty ≡ false) × (names (js s c) k ≡ false) = grind arith in
      by_mark_read P s k _ (λ e. bad e k 0 refl i) λ lm.
      let s₁ : State V = with_marks s (stored s.marks.cells lm) in
      let i₁ : Kept s₁ b = lives blank m lm s.disk.life i in
      cond_both (fresh x.kept (get_or s.marks.cells k 0)) _ _ P
      (λ f.
      by_local_read P s₁ c k blank _ (λ e. bad e k 0 refl i₁) λ l ls rel.
      record {
        size = refl;
        inv = noticed (with_locals s₁ ls) b c k (marked x x.kept) (aged_local s₁ b c l ls rel i₁) w.1
            (λ _. check_own (own_keeps (with_locals s₁ ls) b c k x (aged_local s₁ b c l ls rel i₁) h w.0) mine clean.0 clean.1 f);
        right = λ _. ap Some (read_fresh kp (i.serves k h) mine clean.0 clean.1 f);
      })
      (λ _.
      by_disk_read P s₁ k blank _ (λ e. bad e k 0 refl i₁) λ ld.
      let s₂ : State V = with_disk s₁ (stored s.disk.cells ld) in
      let i₂ : Kept s₂ b = lives blank m lm ld i in
      let v : V = get_or s.disk.cells k blank in
      by_local_write P s₂ c k v _ (λ e. bad e k 0 refl i₂) λ z l ls rel.
      let n : m ≡ k → ⊥ = omega arith in
      let r : CellRecord = marked x (Some (mark_at (view s) k)) in
      let cl : Client V = record { local = stored (set xs k v) l; cells = set (cs s c) k r; journal = js s c } in
      record {
        size = refl;
        inv =
            seen_as s₂ c _ cl rel (grind arith)
            (changed blank m (view s₂) b c cl i₂
            (λ k' h'.
            equal_or_not _ k' k
            (λ e. subst (λ (j : ℕ). Of blank m (view s) (b j) j c cl) (sym e)
            (rw (get_or-set_same (cs s c) k r new_cell w.1, get_or-set_same xs k v blank z, get_or-set_other xs k m v blank n)
            (fetch_own kp mine clean.0 clean.1 (i.serves k h).marked)))
            (λ ne. rw (get_or-set_other (cs s c) k k' r new_cell ne, get_or-set_other xs k k' v blank ne, get_or-set_other xs k m v blank n) (i.keeps k' c h')))
            (filed_set s b c k r (stored (set xs k v) l) i));
        right = λ _. ap Some (read_disk kp (i.serves k h) mine clean.0 clean.1);
      }))

  -- what a sweep goes on with after cell j
  abbrev Onward : State V → Book V → (State V → ℕ → ℕ → Sweeping V) → ℕ → ℕ → Outcome V Bool → Type 0
  Onward s b rest j d o = Fine s.table.size b other (swept_out (sweep_more rest o.state o.answer j d))

  sweep_step : (s : State V) (b : Book V) (c j d : ℕ) (rest : State V → ℕ → ℕ → Sweeping V) → Kept s b → names s.table.holder c ≡ true
      → ((s' : State V) (d' : ℕ) → Kept s' b → names s'.table.holder c ≡ true → Fine s'.table.size b other (swept_out (rest s' (j + 1) d')))
      → Onward s b rest j d (sweep_cell s c j)
  unfolding sweep_cell
  sweep_step s b c j d rest i mine go = by (cell_of s.table c j) refl
    where
      by : (o : Option CellRecord) → cell_of s.table c j ≡ o → Onward s b rest j d (sweep_record s c j o)
      by None e = go s _ i mine
      by (Some x) e =
          let P : Outcome V Bool → Type 0 = Onward s b rest j d in
          cond_both (sweeps x (is_in_journal s.table c j)) _ _ P
          (λ u.
          let w = cell_known s.table c j x e in
          let y = journal_is s.table c in
          let q : (x.dirty ≡ false) × (names (js s c) j ≡ false) = grind arith in
          by_mark_read P s j _ (λ z. bad z j d refl i) λ lm.
          let s₁ : State V = with_marks s (stored s.marks.cells lm) in
          let i₁ : Kept s₁ b = lives blank s.table.size lm s.disk.life i in
          let mark : ℕ = get_or s.marks.cells j 0 in
          let R : CellRecord → Type 0 = λ r. j < s.table.size
          → Knows blank s.table.size (view s₁) (b j) j c ((view s₁).clients c) r (mark_at (view s₁) j) (disk_at blank s.table.size (view s₁) j) in
          let own : R (swept_cell x mark) =
          cond_both (fresh x.kept mark) _ _ R
          (λ z h. check_own (own_keeps s₁ b c j x i₁ h w.0) mine q.0 q.1 z)
          (λ _ h. drop_own (own_keeps s₁ b c j x i₁ h w.0) q.0 q.1) in
          go (with_table s₁ (with_cell s.table c j (swept_cell x mark))) _ (noticed s₁ b c j (swept_cell x mark) i₁ w.1 own) mine)
          (λ _. go s _ i mine)

  pub sweep_fine : (n j d : ℕ) (s : State V) (b : Book V) (c : ℕ) → Kept s b → names s.table.holder c ≡ true → Fine s.table.size b other (swept_out (sweep_from c n s j d))
  unfolding sweep_from
  sweep_fine zero j d s b c i mine = record { size = refl; inv = i; right = tt }
  sweep_fine (suc n) j d s b c i mine = sweep_step s b c j d (sweep_from c n) i mine (λ s' d' i' m'. sweep_fine n (j + 1) d' s' b c i' m')

  pub invalidate_fine : (s : State V) (b : Book V) (c : ℕ) → Kept s b → Fine s.table.size b other (swept_out (invalidate_call s c))
  invalidate_fine s b c i = by (questions.holding s.table c) refl
    where
      by : (r : Result (Unit {0}) SiteFault) → questions.holding s.table c ≡ r → Fine s.table.size b other (swept_out (sweep_admitted s c r))
      by (Ok x) e = sweep_fine s.table.size 0 0 s b c i (holding_says s.table c x e)
      by (Err q) e = bad q 0 0 refl i

  pub restart_server_fine : (s : State V) (b : Book V) (n n' : ℕ) → Kept s b → Fine s.table.size b other (replied (plain_reply 0) (restart_server_call s n n'))
  restart_server_fine s b n n' i =
      let P : Outcome V (Unit {0}) → Type 0 = λ o. Fine s.table.size b other (replied (plain_reply 0) o) in
      followed P s (questions.fit s.table) _ (λ e. bad e 0 0 refl i) λ x a.
      record { size = refl; inv = record { serves = i.serves; keeps = i.keeps; filed = i.filed }; right = tt }

  -- unchecked, and dirty if it was in the journal
  abbrev revived : CellRecord → Bool → CellRecord
  revived r j = record { kept = r.kept; checked = false; dirty = r.dirty || j }

  get_or_soiled : (xs : List CellRecord) (j : Option ℕ) (k : ℕ) → (names j k ≡ true → k < length xs)
      → get_or (map unchecked_cell (records.soiled xs j)) k new_cell ≡ revived (get_or xs k new_cell) (names j k)
  get_or_soiled xs None k f = get_or_unchecked xs k ∙ grind arith
  get_or_soiled xs (Some j) k f = get_or_unchecked (records.soiled xs (Some j)) k ∙ by (eqb j k) refl
    where
      by : (t : Bool) → eqb j k ≡ t → unchecked_cell (get_or (records.soiled xs (Some j)) k new_cell) ≡ revived (get_or xs k new_cell) t
      by true t = let l : k < length xs = f t in let e : j ≡ k = eqb-true j k t in grind (arith, get_or-set_at)
      by false t = let n : k ≢ j = λ e. eqb-false j k t (sym e) in grind (arith, get_or-set_other)

  -- the local store of client c renewed
  renewed_locals : (ls : List (Stored V)) (c n : ℕ) → (l : Life) × Relocal ls c (stored (store_of ls c).cells l) (clients.changed (after_renew n) ls c)
  renewed_locals ls c n = by (clients.asked (λ x. x) ls c) refl
    where
      by : (o : Option (Stored V)) → clients.asked (λ x. x) ls c ≡ o → (l : Life) × Relocal ls c (stored (store_of ls c).cells l) (clients.changed (after_renew n) ls c)
      by None e = (
        (store_of ls c).life,
        record {
          own = ap (λ (xs : List (Stored V)). store_of xs c) (sight.changed_same (after_renew n) ls c (ap (option_map (after_renew n)) e ∙ sym e));
          else = λ c' z. ap sight.or_no_store (sight.changed_else (after_renew n) ls c c' z);
        },
      )
      by (Some b) e = (
        (after_renew n (store_of ls c)).life,
        record {
          own = ap sight.or_no_store (sight.changed_at (after_renew n) ls c ∙ ap (option_map (after_renew n)) e) ∙ sym (ap (after_renew n) (ap sight.or_no_store e));
          else = λ c' z. ap sight.or_no_store (sight.changed_else (after_renew n) ls c c' z);
        },
      )

  pub restart_client_fine : (s : State V) (b : Book V) (c n : ℕ) → Kept s b → Fine s.table.size b other (replied (plain_reply 0) (restart_client_call s c n))
  restart_client_fine s b c n i =
      let m : ℕ = s.table.size in
      let P : Outcome V (Unit {0}) → Type 0 = λ o. Fine m b other (replied (plain_reply 0) o) in
      followed P s (questions.present s.table c) _ (λ e. bad e 0 0 refl i) λ x a.
      let z = renewed_locals s.locals c n in
      let cl : Client V = record { local = stored (store_of s.locals c).cells z.0; cells = map unchecked_cell (records.soiled (cs s c) (js s c)); journal = None } in
      record {
        size = refl;
        inv =
            seen_as s c _ cl z.1 (grind arith)
            (changed blank m (view s) b c cl i
            (λ k h. rw (get_or_soiled (cs s c) (js s c) k (i.filed c k)) (restart_own (i.keeps k c h)))
            (no_journal m (stored (store_of s.locals c).cells z.0) (map unchecked_cell (records.soiled (cs s c) (js s c)))));
        right = tt;
      }

  -- a note changes nothing that the invariant speaks of
  note_kept : (s : State V) (b : Book V) (m c : ℕ) (n : Option Flush) → Inv blank m (view s) b → Inv blank m (view (with_note_of s c n)) b
  note_kept s b m c n i =
      seen_as s c _ ((view s).clients c) (same_locals s.locals c) (grind arith)
      (changed blank m (view s) b c _ i (λ k h. i.keeps k c h) (i.filed c))

  note_fine : (m : ℕ) (b : Book V) (q : Deed V) (s : State V) (r : Reply V) (c : ℕ) (n : Option Flush) → Fine m b q (out s r) → Fine m b q (out (with_note_of s c n) r)
  note_fine m b q s r c n f = record { size = f.size; inv = note_kept s (fed b q r.answer) m c n f.inv; right = f.right }

  -- the slip is noted in place of being given out
  pub begin_step_fine : (s : State V) (b : Book V) (c k : ℕ) → Kept s b → Fine s.table.size b (begins k) (replied (noted_reply k) (begin_step s c k))
  begin_step_fine s b c k i = by (begin_call s c k).answer (begin_fine s b c k i)
    where
      by : (r : Result Flush SiteFault) → Fine s.table.size b (begins k) (replied (begin_reply k) (outcome (begin_call s c k).state r))
          → Fine s.table.size b (begins k) (replied (noted_reply k) (site.next (begin_call s c k).state r (λ s₁ n. outcome (with_note_of s₁ c (Some n)) (Ok n))))
      by (Ok n) f = note_fine s.table.size b (begins k) (begin_call s c k).state (noted_reply k (Ok n)) c (Some n) (record { size = f.size; inv = f.inv; right = tt })
      by (Err x) f = f

  taken_fine : (s : State V) (b : Book V) (c : ℕ) (n : Flush) → Kept s b → Fine s.table.size b (sends n.cell) (replied (plain_reply n.cell) (commit_taken blank s c n))
  unfolding commit_taken
  taken_fine s b c n i = by (commit_call blank s n.client n.cell n.turn).answer (commit_fine s b n.client n.cell n.turn i)
    where
      by : (r : Result (Unit {0}) SiteFault) → Fine s.table.size b (sends n.cell) (replied (plain_reply n.cell) (outcome (commit_call blank s n.client n.cell n.turn).state r))
          → Fine s.table.size b (sends n.cell) (replied (plain_reply n.cell) (returned c n (commit_call blank s n.client n.cell n.turn).state r))
      by (Ok x) f = f
      by (Err e) f = note_fine s.table.size b (sends n.cell) (commit_call blank s n.client n.cell n.turn).state _ c (Some n) f

  -- what is sent is the cell that the answer names
  placed : (m p : ℕ) (b : Book V) (o : Outcome V (Unit {0})) → Fine m b (sends p) (replied (plain_reply p) o)
      → Fine m b (sends (replied {V = V} (plain_reply p) o).reply.answer.place) (replied (plain_reply p) o)
  placed m p b o = by o.answer
    where
      by : (r : Result (Unit {0}) SiteFault) → Fine m b (sends p) (replied (plain_reply p) (outcome o.state r))
          → Fine m b (sends (plain_reply {V = V} p r).answer.place) (replied (plain_reply p) (outcome o.state r))
      by (Ok x) f = f
      by (Err e) f =
          bad e p 0 f.size (subst (λ (t : Bool). Inv blank m (view o.state) (cond t (entered b (sends p)) b)) (fault_nonzero e) f.inv)

  pub commit_step_fine : (s : State V) (b : Book V) (c : ℕ) → Kept s b
      → Fine s.table.size b (sends (replied {V = V} (plain_reply (questions.taken_place (questions.taking_to_commit s.table c))) (commit_step blank s c)).reply.answer.place)
      (replied (plain_reply (questions.taken_place (questions.taking_to_commit s.table c))) (commit_step blank s c))
  commit_step_fine s b c i = placed s.table.size _ b (commit_step blank s c) (by (questions.taking_to_commit s.table c))
    where
      by : (r : Result Flush SiteFault) → Fine s.table.size b (sends (questions.taken_place r)) (replied (plain_reply (questions.taken_place r)) (site.next s r (λ s₁ n. commit_taken blank (with_note_of s₁ c None) c n)))
      by (Ok n) = taken_fine (with_note_of s c None) b c n (note_kept s b s.table.size c None i)
      by (Err e) = bad e 0 0 refl i

  pub give_up_step_fine : (s : State V) (b : Book V) (c : ℕ) → Kept s b
      → Fine s.table.size b other (replied (plain_reply (questions.taken_place (questions.taking_to_give_up s.table c))) (give_up_step s c))
  give_up_step_fine s b c i = by (questions.taking_to_give_up s.table c)
    where
      by : (r : Result Flush SiteFault) → Fine s.table.size b other (replied (plain_reply (questions.taken_place r)) (site.next s r (λ s₁ n. give_up_call (with_note_of s₁ c None) n.client n.cell n.turn)))
      by (Ok n) = give_up_fine (with_note_of s c None) b n.client n.cell n.turn (note_kept s b s.table.size c None i)
      by (Err e) = bad e 0 0 refl i

  pub no_step_fine : (s : State V) (b : Book V) → Kept s b → Fine s.table.size b other (out s (plain (refused 0 0 fault.NoCall)))
  no_step_fine s b i = bad fault.NoCall 0 0 refl i
