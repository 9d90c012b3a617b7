use Rattle.std.proofs.Common.{◌≡◌, ℕ, ◌+◌, ◌++◌, Bool, true, false, not, ◌||◌, List, [], ◌∷◌, length, refl, sym, ap, subst, ◌∙◌, append_assoc, append-nil, arith, if◌then◌else◌}
use Rattle.std.specs.Prelude.{Option, Some, None, OnOk, IfOk}
use Rattle.c_emission.specs.View.{direct_of}
use Rattle.c_applied.proofs.LeadsLemmas.{kept, keeps_then, then_piece, same_direct}
use Rattle.c_applied.proofs.known.put_known.Goals as goal

pub returns-clause-code : goal.returns-clause-code
returns-clause-code c = λ x count is behind. then_piece (c.pass.ensures.passed count behind) (c.in_ok-load.ensures x is)

pub returns-clause-keeps : goal.returns-clause-keeps
returns-clause-keeps c = keeps_then c.pass.ensures.keeps (kept (c.in_ok-load.ensures (direct_of c.args.known.value) (same_direct c.args.known.value)))
