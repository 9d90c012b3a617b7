use Rattle.std.proofs.Common.{arith, suc, ◌+◌}
use Rattle.c_memory.proofs.Following.{comes_then, comes_quiet, paid_by_unit}
use Rattle.c_memory.proofs.laws.runs_compose.Goals as goal

pub returns : goal.returns
returns c = λ p input mode. record {
  in_turn = λ a b e x y z c1 c2 f g. comes_then p input mode c1 c2 (c1 + c2) f g (omega arith);
  quiet = λ s m st ops x q h. comes_quiet p input mode s m st ops x q h;
  paid = λ a b e x y z u c step less f. paid_by_unit p input mode (suc u) (c + u) c step less f (omega arith);
}
