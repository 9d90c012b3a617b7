use Rattle.std.proofs.Common.{◌≡◌, ℕ, ◌+◌, ◌++◌, Bool, true, false, not, ◌||◌, List, [], ◌∷◌, length, refl, sym, ap, subst, ◌∙◌, append_assoc, append-nil, arith, if◌then◌else◌}
use Rattle.std.specs.Prelude.{Option, Some, None, OnOk, IfOk}
use Rattle.c_addressing.proofs.HereLemmas.{moved}
use Rattle.c_applied.proofs.LeadsLemmas.{keeps_none}
use Rattle.c_applied.proofs.known.pass.Goals as goal

pub returns-clause-passed : goal.returns-clause-passed
returns-clause-passed c = λ count h. moved c.args.out.now (record c.args.out.now { literals = c.args.literals }) count refl refl h

pub returns-clause-keeps : goal.returns-clause-keeps
returns-clause-keeps c = record { grows = λ n k h. h; tags = refl }
