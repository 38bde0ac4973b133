-- Each turned rule breaks the claim, by computation.
use Rattle.std.proofs.Common.{◌≡◌, ℕ, [], ◌∷◌, Some, None, Option, sym, refl, subst, arith, lit<}
use Rattle.records.specs.Records.{cell_of, journal_of, note_of, turn_of, flushing, new_client, new_clients}
use Rattle.records.specs.Questions.{first_from}
use Rattle.rules.specs.Site.{State}
use Rattle.rules.specs.Making.{look_from, surveyed, made}
use Rattle.rules.specs.Calls.{read_local, read_confirmed, read_fetched, sweep_cell, sweep_from, commit_taken}
use Rattle.rules.specs.Replies.{Call, Open, Read, Write, Begin, Commit, GiveUp, Close, Invalidate, RestartClient, RestartServer, BeginStep, CommitStep, GiveUpStep, NoStep, called}
use Rattle.rules.specs.Claim.{Upholds}
use Rattle.rules.proofs.Theorem.{upholds}
use Rattle.script.specs.Printed.{start}
use Rattle.cases.specs.Turned.{Parts, built, true_parts, disk_first, last_session, dirty_dropped, marks_down, stale_copy, swept_write, after_loss, Breaks, FaultsShown}

built_true : (blank : ℕ) (s : State ℕ) (q : Call ℕ) → built true_parts blank s q ≡ called blank s q
unfolding built called commit_taken
built_true blank s (Open k) = refl
built_true blank s (Read k i) = refl
built_true blank s (Write k i v) = refl
built_true blank s (Begin k i) = refl
built_true blank s (Commit n) = refl
built_true blank s (GiveUp n) = refl
built_true blank s (Close k) = refl
built_true blank s (Invalidate k) = refl
built_true blank s (RestartClient k n) = refl
built_true blank s (RestartServer n m) = refl
built_true blank s (BeginStep k i) = refl
built_true blank s (CommitStep k) = refl
built_true blank s (GiveUpStep k) = refl
built_true blank s NoStep = refl

-- client 1's copy of cell 3 counts as new, and the disk has another cell
disk_first_breaks : Breaks disk_first marks_down
unfolding built called cell_of journal_of note_of turn_of flushing new_client new_clients first_from look_from surveyed read_local read_confirmed read_fetched sweep_cell sweep_from commit_taken
disk_first_breaks h = let q : ◌≡◌ {A = ℕ} 0 5 = h.copies 1 3 (lit< tt) refl refl in omega arith

disk_first_loss : after_loss disk_first ≡ 0 ∷ 5 ∷ []
unfolding built called cell_of journal_of note_of turn_of flushing new_client new_clients first_from look_from surveyed read_local read_confirmed read_fetched sweep_cell sweep_from commit_taken
disk_first_loss = refl

true_loss : after_loss true_parts ≡ 0 ∷ 0 ∷ []
unfolding built called cell_of journal_of note_of turn_of flushing new_client new_clients first_from look_from surveyed read_local read_confirmed read_fetched sweep_cell sweep_from commit_taken
true_loss = refl

-- client 1's last read got 0, and the last write is 77
last_session_breaks : Breaks last_session stale_copy
unfolding built called cell_of journal_of note_of turn_of flushing new_client new_clients first_from look_from surveyed read_local read_confirmed read_fetched sweep_cell sweep_from commit_taken
last_session_breaks h =
    let e : ◌≡◌ {A = Option ℕ} (Some 0) (Some 77) = h.each_read (_ ∷ _ ∷ _ ∷ _ ∷ _ ∷ _ ∷ _ ∷ _ ∷ _ ∷ _ ∷ _ ∷ []) _ [] refl refl in
    cc

-- client 1's read got 0, and it had written 5
dirty_dropped_breaks : Breaks dirty_dropped swept_write
unfolding built called cell_of journal_of note_of turn_of flushing new_client new_clients first_from look_from surveyed read_local read_confirmed read_fetched sweep_cell sweep_from commit_taken
dirty_dropped_breaks h =
    let e : ◌≡◌ {A = Option ℕ} (Some 0) (Some 5) = h.each_read (_ ∷ _ ∷ _ ∷ []) _ [] refl refl in
    cc

fit : (made start).table.unfit ≡ None
unfolding look_from surveyed
fit = refl

fails : (p : Parts ℕ) (acts : _) → Breaks p acts → Upholds ℕ (built p) → ⊥
fails p acts b u = b (u 0 start fit acts)

pub shown : FaultsShown
shown = record {
  true_rules = built_true;
  true_upheld = subst (Upholds ℕ) (λ i blank s q. sym (built_true blank s q) i) (upholds ℕ);
  disk_first_breaks = disk_first_breaks;
  last_session_breaks = last_session_breaks;
  dirty_dropped_breaks = dirty_dropped_breaks;
  disk_first_loss = disk_first_loss;
  true_loss = true_loss;
  disk_first_fails = fails disk_first marks_down disk_first_breaks;
  last_session_fails = fails last_session stale_copy last_session_breaks;
  dirty_dropped_fails = fails dirty_dropped swept_write dirty_dropped_breaks;
}
