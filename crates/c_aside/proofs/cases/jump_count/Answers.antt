use Rattle.std.proofs.Common.{◌+◌, ℕ, sym, ap, ◌∙◌}
use Rattle.c_aside.proofs.CaseLemmas.{jumps_counted}
use Rattle.c_aside.proofs.cases.jump_count.Goals as goal

pub returns : goal.returns
returns c = λ otherwise. ap (λ (n : ℕ). n + 2) (c.in_ok-cases.ensures ∙ c.case_count.ensures) ∙ sym (jumps_counted c.args.labels.now otherwise)
