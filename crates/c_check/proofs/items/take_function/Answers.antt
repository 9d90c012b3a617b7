use Rattle.std.proofs.Common.{◌≡◌, ◌∙◌}
use Rattle.c_check.proofs.items.take_function.Goals as goal

pub judge_function-requires : goal.judge_function-requires
judge_function-requires c =
    let h = c.requires in
    (h.0, c.in_ok-sum.ensures.holds h.0 h.1)

pub returns : goal.returns
returns c =
    let m = c.in_ok-sum.ensures in
    let r = c.in_ok-refusal.ensures in
    record {
      refusal = λ s holds. r.judged s (m.holds s holds);
      sums = λ s holds. m.counted.sums s holds;
      words = λ s holds. c.of.ensures;
      holds = λ s holds. r.holds s (m.holds s holds);
      tags = r.tags ∙ m.counted.tags;
    }
