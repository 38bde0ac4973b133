-- The numbers under which a read's sources are reported; 0 is none.
use Rattle.std.specs.Prelude.{ℕ}
use Rattle.rules.specs.declared.answer.Source.{Source}
use Rattle.rules.specs.declared.answer.Source.TheVariants.{Cached, Checked, Fetched}

abbrev pub source_number : Source → ℕ
source_number Cached = 1
source_number Checked = 2
source_number Fetched = 3
