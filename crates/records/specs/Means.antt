-- The records that a table's fields are.
use Rattle.records.specs.Records.{Records}
use Rattle.records.specs.declared.table.Table.TheInside.{Inside}

abbrev pub records : Inside → Records
records t = record { unfit = t.unfit; size = t.size; count = t.count; session = t.session; holder = t.holder; clients = t.clients }
