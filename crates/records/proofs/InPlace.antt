-- Changes of a client's record, in place, and in several steps.
use Rattle.std.proofs.Common.{◌≡◌, ℕ, ◌+◌, ◌<◌, ◌≤◌, true, List, ◌++◌, map, length, get_or, take, drop, set, Some, None, Option, sym, refl, ap, ◌∙◌, arith}
use Rattle.std.proofs.lemmas.List.Edits.{map_over_more}
use Rattle.std.proofs.lemmas.List.{map-set, get_or_default, length-append, length-map, length-take-le, length-drop, append-nil, take_all, drop_all}
use Rattle.records.specs.Cells.{new_cell, unchecked_cell, dirtied}
use Rattle.records.specs.Clients.{changed}
use Rattle.records.specs.Records.{Records, with_clients, soiled, revived}
use Rattle.records.specs.declared.records.CellRecord.{CellRecord}
use Rattle.records.specs.declared.records.ClientRecord.{ClientRecord}
use Rattle.records.proofs.Told.{changed_twice}

-- one change of a client's record after another
pub twice : (f g : ClientRecord → ClientRecord) (t u v : Records) (k : ℕ) → u ≡ with_clients t (changed f t.clients k) → v ≡ with_clients u (changed g u.clients k) → v ≡ with_clients t (changed (λ c. g (f c)) t.clients k)
twice f g t u v k a b =
    b ∙ ap (λ (w : Records). with_clients w (changed g w.clients k)) a ∙ ap (with_clients t) (changed_twice f g t.clients k)

-- the first i cells unchecked
unfoldable pub half : List CellRecord → ℕ → List CellRecord
half xs i = map unchecked_cell (take i xs) ++ drop i xs

half_length : (xs : List CellRecord) (i : ℕ) → i ≤ length xs → length (half xs i) ≡ length xs
unfolding half
half_length xs i h =
    length-append (map unchecked_cell (take i xs)) (drop i xs)
    ∙ omega (arith, length-map (take i xs) unchecked_cell, length-take-le i xs h, length-drop i xs)

pub half_none : (xs : List CellRecord) → xs ≡ half xs 0
unfolding half
half_none xs = refl

-- one cell more
pub half_more : (xs ys : List CellRecord) (i : ℕ) → i < length xs → ys ≡ half xs i → set ys i (unchecked_cell (get_or ys i new_cell)) ≡ half xs (i + 1)
unfolding half
half_more xs ys i l e =
    let zs = half xs i in
    let z : length zs ≡ length xs = half_length xs i (omega arith) in
    let x = get_or zs i new_cell in
    ap (λ ws. set ws i (unchecked_cell (get_or ws i new_cell))) e
    ∙ map_over_more unchecked_cell xs zs i x (omega arith) refl (get_or_default zs i new_cell x (omega arith))

-- past the last cell that is all of them
pub half_all : (xs : List CellRecord) (i : ℕ) → length xs ≤ i → half xs i ≡ map unchecked_cell xs
unfolding half
half_all xs i l =
    ap (λ zs. map unchecked_cell zs ++ drop i xs) (take_all i xs l)
    ∙ (ap (λ zs. map unchecked_cell xs ++ zs) (drop_all i xs l) ∙ append-nil (map unchecked_cell xs))

-- once all cells are unchecked it does not matter that the one in the journal was already
pub unchecked_revived : (xs : List CellRecord) (o : Option ℕ) → map unchecked_cell (revived xs o) ≡ map unchecked_cell (soiled xs o)
unchecked_revived xs None = refl
unchecked_revived xs (Some j) =
    let r = get_or xs j new_cell in
    map-set unchecked_cell xs j (unchecked_cell (dirtied true r)) ∙ sym (map-set unchecked_cell xs j (dirtied true r))
