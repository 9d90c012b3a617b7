use Rattle.std.proofs.Common.{ℕ, sym, subst}
use Rattle.c_counted.specs.Numbers.{IsNumber}
use Rattle.c_addressing.proofs.names.entry_of.Goals as goal

pub returns : goal.returns
returns c = λ out w env is. subst (λ (n : ℕ). IsNumber n (w.entry c.args.name.now)) (sym c.entry_in.ensures) (is.entries c.args.name.now)
