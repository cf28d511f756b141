-- What is worked out afresh and the last minute, put together.
use Rattle.runs.specs.Runs.{Runs}
use Rattle.runs.proofs.LastMinute.{last_minute_lem}
use Rattle.runs.proofs.Maximal.{maximal, only}

pub runs : Runs
runs = record { maximal = maximal; only = only; last_minute_lem = last_minute_lem }
