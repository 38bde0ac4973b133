-- What a site means, by what its stores mean.
use Rattle.std.specs.Prelude.{ℕ}
use Rattle.store.specs.Stores.{stored}
use Rattle.store.specs.declared.store.Store.{Ghosts as StoreMeaning}
use Rattle.bank.specs.declared.Bank.{Ghosts as BankMeaning}
use Rattle.rules.specs.Site.{State}
use Rattle.site.specs.declared.site.Site.{Site}

abbrev pub site_state : {D M B V : Type 0} → StoreMeaning D V → StoreMeaning M ℕ → BankMeaning B V → Site D M B V → State V
site_state d m b s = record {
  disk = stored (d.cells s.disk) (d.life s.disk);
  marks = stored (m.cells s.marks) (m.life s.marks);
  locals = b.stores s.bank;
  table = s.table;
}

-- what a site's stores stand on besides their cells and lives
pub record Rests (D M B : Type 0) : Type 0 where
  pub disk : D
  pub marks : M
  pub locals : B

unfoldable pub rests : {D M B : Type 0} → D → M → B → Rests D M B
rests d m b = record { disk = d; marks = m; locals = b }

abbrev pub site_rests : {D M B V : Type 0} (d : StoreMeaning D V) (m : StoreMeaning M ℕ) (b : BankMeaning B V) → Site D M B V → Rests d.Rest m.Rest b.Rest
site_rests d m b s = rests (d.rest s.disk) (m.rest s.marks) (b.rest s.bank)
