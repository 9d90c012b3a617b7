use Rattle.c_stated.proofs.Statements.{stated}
use Rattle.c_stated.proofs.laws.statements_land.Goals as goal

pub returns : goal.returns
returns c = λ S w u worth_one t site agrees unit valued le. stated S w agrees u worth_one unit t site valued le
