use Rattle.eir_opt.proofs.TrimmedRuns.{trimmed_runs_alike}
use Rattle.eir_opt.proofs.laws.trimming_leaves_steps_out.Goals as goal

pub returns : goal.returns
returns c = trimmed_runs_alike c.words_stay_words.ensures c.runs_meet_operations.ensures c.jumps_end_blocks.ensures
