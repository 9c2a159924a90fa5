use Rattle.tinyram.proofs.programs_stand.Goals as goal
use Rattle.tinyram.proofs.Kept.{program_words, program_counts, program_decided}
use Rattle.tinyram.proofs.Run.{accepting, program_sound, program_complete, program_logged, program_unique}

pub returns : goal.returns
returns c = record {
  accepting = accepting;
  sound = program_sound;
  complete = program_complete;
  logged = program_logged;
  counts = program_counts;
  unique = program_unique;
  words = program_words;
  decided = program_decided;
}
