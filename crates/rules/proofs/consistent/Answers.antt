-- `consistent` cites the theorem: the search, given the lemmas, does not put `StaysConsistent` together.
use Rattle.rules.proofs.consistent.Goals as goal
use Rattle.rules.proofs.Theorem.{upholds, replies_alike, continues, continues_run}
use Rattle.rules.proofs.Fits.{keeps_shape}

pub returns : goal.returns
returns g c = record {
  stays = record { upheld = upholds _; alike = replies_alike _; shaped = keeps_shape _ };
  carries = record { call = continues; run = continues_run };
}
