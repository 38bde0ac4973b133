-- Texts and numbers put at the end of their columns.
use Rattle.std.proofs.Common.{◌≡◌, ℕ, ◌+◌, ◌-◌, ◌<◌, ◌≤◌, Bool, true, false, cond, ◌&&◌, leb, List, [], ◌∷◌, ◌++◌, length, take, drop, set, replicate, decimal, sym, refl, ap, ◌∙◌, subst, append_assoc, arith}
use borrow.Rule.Slice.PartMut.{put_mid, post_of}
use Rattle.std.proofs.lemmas.List.{length-replicate, length-drop, length-append, length-take-le, length-set, take_at, take_all, drop-drop, drop_all, append-nil, take-append-drop, take_more_set}
use Rattle.std.proofs.lemmas.Bool.{le-leb}
use Rattle.sheet.specs.Columns.{right_justified, columns_for, fits_columns, with_columns}
use Rattle.sheet.specs.Output.{output_fits, output_bytes}
use Rattle.sheet.specs.declared.output.OutputLine.{OutputLine}

-- blanks put over the front, and then the text over the rest
pub put_right : (out text front last back : List ℕ) → length text ≤ length out
    → front ≡ replicate (length (take (length out - length text - 0) out)) 32 → last ≡ text
    → put_mid (length out - length text) (length (front ++ back) - (length out - length text)) (front ++ back) last ≡ right_justified (length out) text
put_right out text front last back fits filled copied =
    let b : ℕ = length out - length text in
    let zs : List ℕ = front ++ back in
    let whole : b - 0 ≡ b = omega arith in
    let blank : front ≡ replicate b 32 = filled ∙ ap (λ k. replicate k 32) (ap (λ k. length (take k out)) whole ∙ length-take-le b out (omega arith)) in
    let long : length front ≡ b = ap length blank ∙ length-replicate {A = ℕ} b 32 in
    let none : post_of b (length zs - b) zs ≡ [] = drop_all (length zs - b) (drop b zs) (omega (arith, length-drop b zs)) in
    ap (λ l. l ++ (last ++ post_of b (length zs - b) zs)) (take_at front back b long ∙ blank)
    ∙ ap (λ l. replicate b 32 ++ (last ++ l)) none
    ∙ ap (λ l. replicate b 32 ++ l) (append-nil last ∙ copied)

-- the bytes with n in w of them, after the first i
abbrev over : ℕ → ℕ → ℕ → List ℕ → List ℕ
over i w n xs = take i xs ++ (columns_for w n ++ drop (i + w) xs)

-- what putting n into a part of w bytes answers, and leaves
abbrev Put : List ℕ → List ℕ → Bool → ℕ → ℕ → ℕ → Type 0
Put xs ys r n i w = (r ≡ (leb (i + w) (length xs) && fits_columns w n)) × (ys ≡ cond r (over i w n xs) xs)

module _ (xs : List ℕ) (n i w : ℕ) where
  -- what stands after the part
  after : post_of i (i + w - i) xs ≡ drop (i + w) xs
  after =
      let k : i + w - i ≡ w = omega arith in
      ap (λ j. post_of i j xs) k ∙ drop-drop w i xs

  -- the bytes with n in them, or as they were
  either : (r : Bool) → take i xs ++ (cond r (columns_for w n) (take w (drop i xs)) ++ drop (i + w) xs) ≡ cond r (over i w n xs) xs
  either true = refl
  either false =
      ap (λ l. take i xs ++ (take w (drop i xs) ++ l)) (sym (drop-drop w i xs))
      ∙ ap (λ l. take i xs ++ l) (take-append-drop w (drop i xs))
      ∙ take-append-drop i xs

  -- a number put into the part from i to i + w
  put_between : (last : List ℕ) (r : Bool) → i + w ≤ length xs
      → r ≡ leb (length (decimal n)) (length (take (i + w - i) (drop i xs)))
      → last ≡ cond r (columns_for (length (take (i + w - i) (drop i xs))) n) (take (i + w - i) (drop i xs))
      → Put xs (put_mid i (i + w - i) xs last) r n i w
  put_between last r room fits is =
      let k : i + w - i ≡ w = omega arith in
      let cut : take (i + w - i) (drop i xs) ≡ take w (drop i xs) = ap (λ j. take j (drop i xs)) k in
      let long : length (take (i + w - i) (drop i xs)) ≡ w = ap length cut ∙ length-take-le w (drop i xs) (omega (arith, length-drop i xs)) in
      let same : last ≡ cond r (columns_for w n) (take w (drop i xs)) =
      is ∙ ap (λ l. cond r (columns_for l n) (take (i + w - i) (drop i xs))) long ∙ ap (λ l. cond r (columns_for w n) l) cut
      in (
        fits ∙ ap (λ l. leb (length (decimal n)) l) long ∙ sym (ap (λ t. t && fits_columns w n) (le-leb (i + w) (length xs) room)),
        ap (λ l. take i xs ++ (l ++ post_of i (i + w - i) xs)) same
            ∙ ap (λ l. take i xs ++ (cond r (columns_for w n) (take w (drop i xs)) ++ l)) after
            ∙ either r,
      )

-- the same in the v columns from column k on
pub put_part : (xs last : List ℕ) (r : Bool) (n i w k v : ℕ) → i ≡ k - 1 → w ≡ v → i + w ≤ length xs
    → r ≡ leb (length (decimal n)) (length (take (i + w - i) (drop i xs)))
    → last ≡ cond r (columns_for (length (take (i + w - i) (drop i xs))) n) (take (i + w - i) (drop i xs))
    → Put xs (put_mid i (i + w - i) xs last) r n (k - 1) v
put_part xs last r n i w k v first width room fits is =
    let ys : List ℕ = put_mid i (i + w - i) xs last in
    subst (λ j. Put xs ys r n j v) first (subst (λ u. Put xs ys r n i u) width (put_between xs n i w last r room fits is))

-- a number that is put has no more digits than columns
narrow : (t : Bool) (w n : ℕ) → true ≡ (t && fits_columns w n) → length (decimal n) ≤ w
narrow t w n e = grind arith

second : (t u : Bool) → true ≡ (t && u) → true ≡ u
second t u e = grind arith

-- so a line whose five numbers are put fits
pub all_fit : (l : OutputLine) (ta tb tc td te : Bool)
    → true ≡ (ta && fits_columns 4 l.step) → true ≡ (tb && fits_columns 3 l.answer) → true ≡ (tc && fits_columns 5 l.place)
    → true ≡ (td && fits_columns 11 l.value) → true ≡ (te && fits_columns 2 l.source)
    → true ≡ output_fits l
all_fit l ta tb tc td te fa fb fc fd fe = rw (← second ta _ fa, ← second tb _ fb, ← second tc _ fc, ← second td _ fd, ← second te _ fe)

-- a number that fits takes all its columns
length_columns : (w n : ℕ) → length (decimal n) ≤ w → length (columns_for w n) ≡ w
length_columns w n h =
    let a = length-append (replicate (w - length (decimal n)) 32) (decimal n) in
    omega (arith, length-replicate {A = ℕ} (w - length (decimal n)) 32)

-- after a number is put into an output line: what stands up to its end, and the line's length
put_on : (xs ys : List ℕ) (i w n : ℕ) (t : Bool) → length xs ≡ 26 → i + w ≤ 26 → true ≡ (t && fits_columns w n) → ys ≡ over i w n xs
    → (take (i + w) ys ≡ take i xs ++ columns_for w n) × (length ys ≡ 26)
put_on xs ys i w n t long room fits put =
    let wide = length_columns w n (narrow t w n fits) in
    let back : List ℕ = drop (i + w) xs in
    let front = length-take-le i xs (omega arith) in
    let up_to : length (take i xs ++ columns_for w n) ≡ i + w = omega (arith, length-append (take i xs) (columns_for w n)) in
    let split : ys ≡ (take i xs ++ columns_for w n) ++ back = put ∙ sym (append_assoc (take i xs) (columns_for w n) back) in (
      ap (λ l. take (i + w) l) split ∙ take_at (take i xs ++ columns_for w n) back (i + w) up_to,
      ap length split ∙ length-append (take i xs ++ columns_for w n) back ∙ (omega (arith, length-drop (i + w) xs)),
    )

-- regrouped
joined : (a b c d e f : List ℕ) → ((((a ++ b) ++ c) ++ d) ++ e) ++ f ≡ a ++ (b ++ (c ++ (d ++ (e ++ f))))
joined a b c d e f = simp append_assoc

-- all five numbers and the line feed
pub whole_line : (l : OutputLine) (xs a b c d e : List ℕ) (ta tb tc td te : Bool) → length xs ≡ 26
    → true ≡ (ta && fits_columns 4 l.step) → a ≡ with_columns 1 4 l.step xs
    → true ≡ (tb && fits_columns 3 l.answer) → b ≡ with_columns 5 3 l.answer a
    → true ≡ (tc && fits_columns 5 l.place) → c ≡ with_columns 8 5 l.place b
    → true ≡ (td && fits_columns 11 l.value) → d ≡ with_columns 13 11 l.value c
    → true ≡ (te && fits_columns 2 l.source) → e ≡ with_columns 24 2 l.source d
    → set e 25 10 ≡ output_bytes l
whole_line l xs a b c d e ta tb tc td te long fa pa fb pb fc pc fd pd fe pe =
    let on-a = put_on xs a 0 4 l.step ta long (omega arith) fa pa in
    let on-b = put_on a b 4 3 l.answer tb on-a.1 (omega arith) fb pb in
    let on-c = put_on b c 7 5 l.place tc on-b.1 (omega arith) fc pc in
    let on-d = put_on c d 12 11 l.value td on-c.1 (omega arith) fd pd in
    let on-e = put_on d e 23 2 l.source te on-d.1 (omega arith) fe pe in
    let last : 25 < length e = omega (arith, on-e.1) in
    let front : take 25 e ≡ (((columns_for 4 l.step ++ columns_for 3 l.answer) ++ columns_for 5 l.place) ++ columns_for 11 l.value) ++ columns_for 2 l.source =
    on-e.0
    ∙ ap (λ f. f ++ columns_for 2 l.source) (on-d.0
    ∙ ap (λ f. f ++ columns_for 11 l.value) (on-c.0
    ∙ ap (λ f. f ++ columns_for 5 l.place) (on-b.0
    ∙ ap (λ f. f ++ columns_for 3 l.answer) on-a.0)))
    in
    sym (take_all 26 (set e 25 10) (omega (arith, length-set e 25 10, on-e.1)))
    ∙ take_more_set e 25 10 last
    ∙ ap (λ f. f ++ (10 ∷ [])) front
    ∙ joined (columns_for 4 l.step) (columns_for 3 l.answer) (columns_for 5 l.place) (columns_for 11 l.value) (columns_for 2 l.source) (10 ∷ [])
