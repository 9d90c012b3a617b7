use Rattle.std.proofs.Common.{length, ap, arith}
use Rattle.c_memory.specs.Lies.{reached}
use Rattle.c_memory.proofs.Entering.{enter_lies, leave_lies, out_of_helper}
use Rattle.c_memory.proofs.laws.blocks_come_and_go.Goals as goal

pub returns : goal.returns
returns c = record {
  come = enter_lies;
  go = leave_lies;
  away = λ g bs os mem top bs2 os2 mem2 top2 whole is l p. (let all = ap (λ r. reached r bs) whole in out_of_helper g bs os mem top bs2 os2 mem2 top2 (length bs) is (omega (arith, all)) (omega (arith, all)) l p);
}
