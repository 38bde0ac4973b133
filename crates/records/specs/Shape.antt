-- The fixed size of the table: 8 clients with 1,024 cells each.
use Rattle.std.specs.Prelude.{◌≡◌, ℕ, ◌+◌, ◌<◌, ◌⊎◌, List, [], length, None, Some, Option, slice_index_or}
use Rattle.records.specs.declared.records.ClientRecord.{ClientRecord}

-- what stands past a list's end
abbrev pub no_client : ClientRecord
no_client = record { cells = []; journal = None; turn = 0; note = None }

abbrev pub Wide : List ClientRecord → Type 0
Wide cs = (p : ℕ) → p < 8 → length (slice_index_or cs p no_client).cells ≡ 1024

-- 8 clients, each with 1,024 cells
pub record FixedSize (cs : List ClientRecord) : Type 0 where
  pub eight : length cs ≡ 8
  pub wide : Wide cs

-- where client k's entry stands in the list: at the place before its number, if the list goes that far
abbrev pub Stands : {X : Type 0} → List X → ℕ → Option ℕ → Type 0
Stands xs k None = (k ≡ 0) ⊎ (length xs < k)
Stands xs k (Some p) = (k ≡ p + 1) × (p < length xs)
