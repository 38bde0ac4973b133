-- Lines of text as bytes.
use Rattle.std.specs.Prelude.{ℕ, List, [], ◌∷◌, ◌++◌, codes}
use Prim.Native.String.{String}

-- each line ended by a line feed
abbrev pub text : List String → List ℕ
text [] = []
text (l ∷ ls) = codes l ++ (10 ∷ text ls)
