-- What a window shows of the cells below, and what it leaves. Assumes nothing.
use Rattle.std.proofs.Common.{◌≡◌, ℕ, ◌+◌, ◌<◌, ◌≤◌, List, length, set, Ok, Err, Result, sym, refl, ap, ◌∙◌, arith}
use lib.Seq.{take-set-lt}
use Rattle.std.specs.List.{slice_get}
use Rattle.std.proofs.lemmas.List.{drop-set-add, drop-set-lt, take-set-le}
use Rattle.std.proofs.lemmas.Option.{slice_get_cases}
use Rattle.std.proofs.lemmas.Grind.{common_steps}
use Rattle.store.proofs.Asked.{read_outside}
use Rattle.store.specs.declared.life.Fault.{Fault}
use Rattle.store.specs.declared.life.Life.{Life}
use Rattle.store.specs.Stores.{Stored, stored, part, span_of, through, around, granted, after, read_answer, after_read, write_answer, after_write}

module _ {C : Type 0} (f n : ℕ) (cs : List C) where
  -- as many cells as the window counts
  pub part_count : length (part f n cs) ≡ span_of f n (length cs)
  unfolding part
  part_count = grind (arith, common_steps)

  -- a cell that the window finds below
  pub found_below : (i at : ℕ) → Ok at ≡ through f n (length cs) i → (i < length (part f n cs)) × (at ≡ f + i)
  found_below i at e = let count = part_count in grind arith

  pub none_below : (i : ℕ) (x : Fault) → Err x ≡ through f n (length cs) i → length (part f n cs) ≤ i
  none_below i x e = let count = part_count in grind arith

  -- its cell i is the cell f + i below
  pub part_nth : (i : ℕ) → i < length (part f n cs) → slice_get (part f n cs) i ≡ slice_get cs (f + i)
  unfolding part
  part_nth i h =
      let count = part_count in
      let here = slice_get_cases (part f n cs) i in
      let below = slice_get_cases cs (f + i) in
      grind (arith, common_steps)

  -- a write to cell f + i below is a write to its cell i
  pub part_set : (i : ℕ) (v : C) → i < length (part f n cs) → part f n (set cs (f + i) v) ≡ set (part f n cs) i v
  unfolding part
  part_set i v h =
      let count = part_count in
      grind (arith, common_steps, drop-set-add, take-set-lt)

-- what a read or a write through a window comes to
pub ruleset shown = (part_count, found_below, none_below, read_outside, part_nth, part_set)

-- what the window leaves out stays
pub around_set : {R C : Type 0} (f n : ℕ) (cs : List C) (i : ℕ) (v : C) (a : R) → i < length (part f n cs) → around f n (set cs (f + i) v) a ≡ around f n cs a
around_set f n cs i v a h =
    let count = part_count f n cs in
    let before = take-set-le f cs (f + i) v (omega arith) in
    let after = drop-set-lt (f + n) cs (f + i) v (grind arith) in
    cc

module _ {C : Type 0} (f n : ℕ) where
  -- the store below, seen through the window
  abbrev pub seen : Stored C → Stored C
  seen s = stored (part f n s.cells) s.life

  seen_after : {A : Type 0} (r : Result A Fault) (s : Stored C) (xs : List C) → seen (after r s xs) ≡ after r (seen s) (part f n xs)
  seen_after (Ok x) s xs = refl
  seen_after (Err e) s xs = refl

  module _ (cs : List C) (life : Life) (i : ℕ) (h : i < length (part f n cs)) where
    pub read_through : read_answer (stored cs life) (f + i) ≡ read_answer (stored (part f n cs) life) i
    read_through = ap (granted life) (sym (part_nth f n cs i h))

    pub seen_read : seen (after_read (stored cs life) (f + i)) ≡ after_read (stored (part f n cs) life) i
    seen_read =
        seen_after (read_answer (stored cs life) (f + i)) (stored cs life) cs
        ∙ ap (λ r. after r (stored (part f n cs) life) (part f n cs)) read_through

    pub write_through : write_answer (stored cs life) (f + i) ≡ write_answer (stored (part f n cs) life) i
    write_through = let count = part_count f n cs in ap (granted life) (grind arith)

    pub seen_write : (v : C) → seen (after_write (stored cs life) (f + i) v) ≡ after_write (stored (part f n cs) life) i v
    seen_write v =
        seen_after (write_answer (stored cs life) (f + i)) (stored cs life) (set cs (f + i) v)
        ∙ ap (λ (xs : List C). after (write_answer (stored cs life) (f + i)) (stored (part f n cs) life) xs) (part_set f n cs i v h)
        ∙ ap (λ r. after r (stored (part f n cs) life) (set (part f n cs) i v)) write_through

  -- a read leaves what lies around, and so does a write through the window
  around_after : {A R : Type 0} (r : Result A Fault) (s : Stored C) (xs : List C) (a : R) → around f n xs a ≡ around f n s.cells a → around f n (after r s xs).cells a ≡ around f n s.cells a
  around_after (Ok x) s xs a e = e
  around_after (Err x) s xs a e = refl

  pub around_read : {R : Type 0} (s : Stored C) (i : ℕ) (a : R) → around f n (after_read s i).cells a ≡ around f n s.cells a
  around_read s i a = around_after (read_answer s i) s s.cells a refl

  pub around_write : {R : Type 0} (s : Stored C) (i : ℕ) (v : C) (a : R) → i < length (part f n s.cells) → around f n (after_write s (f + i) v).cells a ≡ around f n s.cells a
  around_write s i v a h = around_after (write_answer s (f + i)) s (set s.cells (f + i) v) a (around_set f n s.cells i v a h)
