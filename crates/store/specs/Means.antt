-- What a store means: its cells and its life.
use Rattle.store.specs.Stores.{Stored, stored}
use Rattle.store.specs.declared.store.Store.{Ghosts as StoreMeaning}

abbrev pub meaning : {S C : Type 0} → StoreMeaning S C → S → Stored C
meaning d s = stored (d.cells s) (d.life s)
