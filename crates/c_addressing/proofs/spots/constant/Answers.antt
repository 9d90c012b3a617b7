use Rattle.std.proofs.Common.{ℕ, subst, refl}
use Rattle.c_counted.specs.Numbers.{IsNumber}
use Rattle.c_addressing.proofs.HereLemmas.{behind_same}
use Rattle.c_addressing.proofs.spots.constant.Goals as goal

pub returns-clause-value : goal.returns-clause-value
returns-clause-value c = λ s h. (subst (λ (n : ℕ). IsNumber c.in_ok-word.word n) (c.in_ok-word.ensures.word s h) (record { same = refl }), behind_same c.args.out.now.literals)
