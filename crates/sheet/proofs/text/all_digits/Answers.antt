use Rattle.std.proofs.Common.{◌≡◌, ℕ, ◌&&◌, List, refl, ◌∙◌, rules}
use Rattle.std.specs.Char.{is_ascii_digit}
use Rattle.std.specs.List.{list_all}
use Rattle.std.specs.Str.{all_ascii_digits}
use Rattle.std.proofs.lemmas.Iterator.{YieldsList-from_slice}
use Rattle.std.proofs.lemmas.Iterator.Search.{all_from_yields_List}
use Rattle.std.proofs.lemmas.List.Recursion.{same_from_clauses}
use Rattle.sheet.proofs.text.all_digits.Goals as goal

each : (bs : List ℕ) → list_all is_ascii_digit bs ≡ all_ascii_digits bs
each bs = same_from_clauses (list_all is_ascii_digit) all_ascii_digits (λ b rest. is_ascii_digit b && rest) refl (λ _ _. refl) (λ _ _. refl) bs

pub returns : goal.returns
returns c =
    all_from_yields_List is_ascii_digit _ _ _ c.all.ensures.ran (YieldsList-from_slice c.args.s.now (cc)) (λ x b q k. search rules)
    ∙ each c.args.s.now
