use Rattle.c_types.proofs.WordsLemmas.{times_counts}
use Rattle.c_types.proofs.words.Words.times.Goals as goal

pub returns : goal.returns
returns c = λ n counts. times_counts c.args.self _ c.args.count n c.low_product.ensures c.capped_product.ensures counts
