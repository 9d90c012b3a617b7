use Rattle.eir_text.proofs.LowestLine.{lowest_bad, bad_is_refused, lowest_repeat, repeat_is_lowest, lowest_unknown, unknown_is_lowest, repeated_is_twice}
use Rattle.eir_text.proofs.laws.refusals_name_the_lowest_line.Goals as goal

pub returns : goal.returns
returns c = record {
  bad = lowest_bad;
  bad_back = bad_is_refused;
  repeated = lowest_repeat;
  repeated_back = repeat_is_lowest;
  unknown = lowest_unknown;
  unknown_back = unknown_is_lowest;
  twice = repeated_is_twice;
}
