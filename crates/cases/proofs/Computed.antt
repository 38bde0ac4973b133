-- The worked cases and the readings hold by computation.
use Rattle.std.proofs.Common.{refl}
use Rattle.std.specs.Fmt.{digits}
use Rattle.store.specs.Stores.{part}
use Rattle.records.specs.Records.{cell_of, journal_of, note_of, turn_of, flushing, new_client, new_clients}
use Rattle.records.specs.Questions.{first_from}
use Rattle.rules.specs.Making.{look_from, surveyed}
use Rattle.rules.specs.Calls.{read_local, read_confirmed, read_fetched, sweep_cell, sweep_from, commit_taken}
use Rattle.rules.specs.Replies.{called}
use Rattle.rules.specs.Runs.{run_from, ran}
use Rattle.sheet.specs.Text.{ends_at_32, number_of}
use Rattle.sheet.specs.Sheet.{in_columns}
use Rattle.script.specs.Printed.{site, printed}
use Rattle.script.specs.Scripts.{read_from, answered, line_bytes}
use Rattle.cases.specs.Setting.{played}
use Rattle.cases.specs.Cases.{Worked}
use Rattle.cases.specs.Readings.{ReadSo}

pub worked : Worked
unfolding digits part cell_of journal_of note_of turn_of flushing new_client new_clients first_from look_from surveyed read_local read_confirmed read_fetched sweep_cell sweep_from commit_taken called run_from ran ends_at_32 number_of in_columns site read_from answered line_bytes printed played
worked = refl

pub read_so : ReadSo
unfolding cell_of journal_of note_of turn_of flushing new_client new_clients first_from look_from surveyed read_local read_confirmed read_fetched sweep_cell sweep_from commit_taken called run_from ran site played
read_so = refl
