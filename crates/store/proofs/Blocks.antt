-- Bytes as cells of w bytes: a read and a write of one. Assumes nothing.
use Rattle.std.proofs.Common.{◌≡◌, ℕ, zero, suc, ◌+◌, ◌*◌, ◌/◌, ◌<◌, ◌≤◌, List, length, get_or, take, drop, set, sym, refl, ap, ◌∙◌, ⊎_elim, mul-le-mul_left, mul-one, mul-add, arith, rules}
use native.Mathlib.Nat.{mul-div-le}
use borrow.Rule.Slice.PartMut.{put_mid}
use Rattle.std.proofs.lemmas.List.{length-set, get_or-set_same, get_or-set_other, same_lists, drop-take, drop-drop}
use Rattle.std.proofs.lemmas.Grind.{common_steps}
use Rattle.std.proofs.lemmas.Slice.{take-put_mid_below, drop-put_mid, overwrites}
use Rattle.std.proofs.lemmas.Bool.{cases_order}
use Rattle.std.proofs.Math.Nat.{mul-zero, mul-suc}
use Rattle.std.specs.Simd.{first_chunks}
use Rattle.store.specs.Bytes.{blocks, spare}
use Rattle.store.proofs.Asked.{write_endless, written_endless}

length_chunks : (w k : ℕ) (bs : List ℕ) → length (first_chunks w k bs) ≡ k
length_chunks w zero bs = refl
length_chunks w (suc k) bs = ap suc (length_chunks w k (drop w bs))

get_or_chunks : (w k : ℕ) (bs : List ℕ) (i : ℕ) (d : List ℕ) → i < k → get_or (first_chunks w k bs) i d ≡ take w (drop (w * i) bs)
get_or_chunks w zero bs i d h = absurd (omega arith)
get_or_chunks w (suc k) bs zero d h = rw (mul-zero w) refl
get_or_chunks w (suc k) bs (suc i) d h =
    let next : w + w * i ≡ w * suc i = omega (arith, mul-suc w i) in
    get_or_chunks w k (drop w bs) i d (omega arith) ∙ ap (take w) (drop-drop (w * i) w bs ∙ ap (λ (j : ℕ). drop j bs) next)

pub length_blocks : (w : ℕ) (bs : List ℕ) → length (blocks w bs) ≡ length bs / w
unfolding blocks
length_blocks w bs = length_chunks w (length bs / w) bs

pub get_or_blocks : (w : ℕ) (bs : List ℕ) (i : ℕ) (d : List ℕ) → i < length bs / w → get_or (blocks w bs) i d ≡ take w (drop (w * i) bs)
unfolding blocks
get_or_blocks w bs i d h = get_or_chunks w (length bs / w) bs i d h

-- a cell ends within the whole cells
pub block_end : (w k i : ℕ) → k < i → w * k + w ≤ w * i
block_end w k i h =
    let m : w * (k + 1) ≤ w * i = mul-le-mul_left w (omega arith) in
    omega (arith, m, mul-add w k 1, mul-one w)

pub block_within : (w : ℕ) (bs : List ℕ) (i : ℕ) → i < length bs / w → w * i + w ≤ length bs
block_within w bs i h = omega (arith, block_end w i (length bs / w) h, mul-div-le (length bs) w)

module _ (w : ℕ) (bs : List ℕ) (i : ℕ) (v : List ℕ) (h : i < length bs / w) (whole : length v ≡ w) where
  pub length_put : length (put_mid (w * i) w bs v) ≡ length bs
  length_put = let e = block_within w bs i h in search (rules, overwrites)

  pub put_spare : spare w (put_mid (w * i) w bs v) ≡ spare w bs
  unfolding spare
  put_spare = rw length_put (drop-put_mid (w * i) w bs v (w * (length bs / w)) (block_end w i (length bs / w) h) (omega (arith, block_within w bs i h)) whole)

  -- cell k is the new one, or as it was
  put_here : take w (drop (w * i) (put_mid (w * i) w bs v)) ≡ v
  put_here = let le = block_within w bs i h in grind (arith, common_steps)

  put_before : (k : ℕ) → k < i → take w (drop (w * k) (put_mid (w * i) w bs v)) ≡ take w (drop (w * k) bs)
  put_before k lt =
      sym (drop-take (w * k) w (put_mid (w * i) w bs v))
      ∙ ap (drop (w * k)) (take-put_mid_below (w * i) w bs v (w * k + w) (block_end w k i lt) (omega (arith, block_within w bs i h)))
      ∙ drop-take (w * k) w bs

  put_after : (k : ℕ) → i < k → take w (drop (w * k) (put_mid (w * i) w bs v)) ≡ take w (drop (w * k) bs)
  put_after k lt = ap (take w) (drop-put_mid (w * i) w bs v (w * k) (block_end w i k lt) (omega (arith, block_within w bs i h)) whole)

  pub put_blocks : blocks w (put_mid (w * i) w bs v) ≡ set (blocks w bs) i v
  put_blocks =
      let n = length_blocks w (put_mid (w * i) w bs v) in
      let m = length_blocks w bs in
      let e = length_put in
      same_lists _ _ (grind (arith, length-set))
      (λ k d lt. ⊎_elim
      (λ same. let here = put_here in grind (arith, get_or_blocks, get_or-set_same))
      (⊎_elim
      (λ below. let b = put_before k below in grind (arith, get_or_blocks, get_or-set_other))
      (λ above. let a = put_after k above in grind (arith, get_or_blocks, get_or-set_other)))
      (cases_order k i))

-- what a write to a sector comes to
pub ruleset put = (length_blocks, block_within, put_blocks, put_spare, write_endless, written_endless)
