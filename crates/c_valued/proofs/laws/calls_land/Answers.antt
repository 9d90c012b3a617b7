use Rattle.c_valued.proofs.Arguments.{arguments_land}
use Rattle.c_valued.proofs.Calls.{call_valued}
use Rattle.c_valued.proofs.laws.calls_land.Goals as goal

pub returns : goal.returns
returns c = λ S w u may agrees. record {
  arguments = λ es site xs b c k d n i o le lt. arguments_land S w agrees u es site xs b c k d n i o le lt;
  call = λ at f es site land ls called known pointer xs. call_valued S w agrees u may land at f es site ls called known pointer xs;
}
