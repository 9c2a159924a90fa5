use Rattle.run_log.proofs.runs_stand.Goals as goal
use Rattle.run_log.proofs.RunSound.{run_sound}
use Rattle.run_log.proofs.RunComplete.{run_complete, run_unique, run_logged}
use Rattle.run_log.proofs.Tests.{run_decided}

pub returns : goal.returns
returns g c =
    record { sound = run_sound _; complete = run_complete _; unique = run_unique _; logged = run_logged _; decided = run_decided _ }
