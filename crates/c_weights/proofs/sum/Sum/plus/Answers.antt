use Rattle.c_weights.specs.Sums.{weighing, widening, counting, measuring}
use Rattle.c_weights.proofs.SumLemmas.{both_wide}
use Rattle.c_weights.proofs.sum.Sum.plus.Goals as goal

pub returns : goal.returns
returns c = λ m n h k. record {
  weight = c.plus.ensures (m weighing) (n weighing) h.weight k.weight;
  wide = both_wide c.args.self.is_wide c.args.other.is_wide c.either.result (m widening) (n widening) c.either.ensures h.wide k.wide;
  nodes = c.together.ensures (m counting) (n counting) h.nodes k.nodes;
  words = c.together-2.ensures (m measuring) (n measuring) h.words k.words;
}
