use Rattle.std.proofs.Common.{◌≡◌, ℕ, ◌+◌, ◌++◌, Bool, true, false, not, ◌||◌, List, [], ◌∷◌, length, refl, sym, ap, subst, ◌∙◌, append_assoc, append-nil, arith, if◌then◌else◌}
use Rattle.std.specs.Prelude.{Option, Some, None, OnOk, IfOk}
use Rattle.c_applied.proofs.LeadsLemmas.{kept, same_number}
use Rattle.c_applied.proofs.steps.wait.Goals as goal

pub returns-in_ok-save-clause-keeps : goal.returns-in_ok-save-clause-keeps
returns-in_ok-save-clause-keeps c = kept (c.in_ok-save.ensures c.args.d (same_number c.args.d))
