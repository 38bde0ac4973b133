-- What a restart comes to, step by step.
use Rattle.std.proofs.Common.{◌≡◌, ℕ, true, ◌||◌, List, map, set, Some, None, Option, sym, refl, ap, ◌∙◌, arith}
use Rattle.std.proofs.lemmas.Bool.{or_right}
use Rattle.std.proofs.lemmas.Grind.{common_steps}
use Rattle.std.proofs.lemmas.List.{set_past}
use Rattle.std.proofs.lemmas.Option.{get_or_from_slice_get, slice_get_cases}
use Rattle.std.specs.List.{slice_get}
use Rattle.std.specs.Option.{option_flatten}
use Rattle.records.specs.Cells.{new_cell, unchecked_cell, dirtied}
use Rattle.records.specs.Clients.{changed}
use Rattle.records.specs.Records.{Records, cell_of, journal_of, with_clients, with_cells, with_cell, with_journal, with_note, unchecked_client, unchecked, noted, emptied, soiled, revived, restarted_client, restarted}
use Rattle.records.specs.declared.records.CellRecord.{CellRecord}
use Rattle.records.specs.declared.records.ClientRecord.{ClientRecord}
use Rattle.records.proofs.Told.{changed_same, changed_nothing}
use Rattle.records.proofs.InPlace.{twice, unchecked_revived}

-- cell j of client k starts again, dirty and unchecked
abbrev pub restored : Records → ℕ → ℕ → Records
restored t k j = with_clients t (changed (λ c. with_cells c (revived c.cells (Some j))) t.clients k)

-- the cell in the journal, as its record is known
module _ (t : Records) (k j : ℕ) where
  pub cell_restored : (r : CellRecord) → Some r ≡ cell_of t k j → with_cell t k j (unchecked_cell (dirtied (r.dirty || true) r)) ≡ restored t k j
  unfolding cell_of
  cell_restored r e =
      ap (λ b. with_cell t k j (unchecked_cell (dirtied b r))) (or_right r.dirty true refl)
      ∙ ap (with_clients t)
      (changed_same (λ c. slice_get c.cells j) (Some r) (λ c. with_cells c (set c.cells j (unchecked_cell (dirtied true r))))
      (λ c. with_cells c (revived c.cells (Some j)))
      (λ c q. ap (λ (x : CellRecord). with_cells c (set c.cells j (unchecked_cell (dirtied true x)))) (sym (get_or_from_slice_get c.cells j r new_cell q)))
      t.clients k (λ z q. sym (e ∙ ap option_flatten q)))

  pub cell_missing : None ≡ cell_of t k j → t ≡ restored t k j
  unfolding cell_of
  cell_missing e =
      ap (with_clients t)
      (sym (changed_nothing t.clients k)
      ∙ changed_same (λ c. slice_get c.cells j) None (λ c. c) (λ c. with_cells c (revived c.cells (Some j)))
      (λ c q. let past = slice_get_cases c.cells j in ap (with_cells c) (sym (set_past c.cells j _ (grind (arith, common_steps)))))
      t.clients k (λ z q. sym (e ∙ ap option_flatten q)))

-- what the steps make of a client's record, by what was in the journal
abbrev cleared : ClientRecord → ClientRecord
cleared c = unchecked_client (with_note (with_journal c None) None)

abbrev started : Option ℕ → ClientRecord → ClientRecord
started None c = cleared c
started (Some j) c = cleared (with_cells c (revived c.cells (Some j)))

abbrev as_if : Option ℕ → ClientRecord → ClientRecord
as_if o c = record { cells = map unchecked_cell (soiled c.cells o); journal = None; turn = c.turn; note = None }

started_as_if : (o : Option ℕ) (c : ClientRecord) → started o c ≡ as_if o c
started_as_if None c = refl
started_as_if (Some j) c = ap (λ (xs : List CellRecord). record { cells = xs; journal = None; turn = c.turn; note = None }) (unchecked_revived c.cells (Some j))

module _ (t u v w : Records) (k : ℕ) where
  all_started : (o : Option ℕ) → o ≡ journal_of t k → with_clients t (changed (started o) t.clients k) ≡ restarted t k
  unfolding journal_of
  all_started o e =
      ap (with_clients t)
      (changed_same (λ c. c.journal) o (started o) restarted_client
      (λ c q. started_as_if o c ∙ ap (λ (p : Option ℕ). as_if p c) (sym q))
      t.clients k (λ z q. sym (e ∙ ap option_flatten q)))

  all_cleared : u ≡ emptied t k → v ≡ noted u k None → w ≡ unchecked v k → w ≡ with_clients t (changed cleared t.clients k)
  all_cleared a b c =
      twice (λ x. with_note (with_journal x None) None) unchecked_client t v w k
      (twice (λ x. with_journal x None) (λ x. with_note x None) t u v k a b) c

  pub restart_empty : None ≡ journal_of t k → u ≡ emptied t k → v ≡ noted u k None → w ≡ unchecked v k → w ≡ restarted t k
  restart_empty e a b c = all_cleared a b c ∙ all_started None e

pub restart_full : (s t u v w : Records) (k j : ℕ) → Some j ≡ journal_of s k → t ≡ restored s k j → u ≡ emptied t k → v ≡ noted u k None → w ≡ unchecked v k → w ≡ restarted s k
restart_full s t u v w k j e d a b c =
    twice (λ x. with_cells x (revived x.cells (Some j))) cleared s t w k d (all_cleared t u v w k a b c) ∙ all_started s s s s k (Some j) e
