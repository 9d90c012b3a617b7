use Rattle.std.proofs.Common.{◌≡◌, ℕ, ◌+◌, ◌++◌, Bool, true, false, not, ◌||◌, List, [], ◌∷◌, length, refl, sym, ap, subst, ◌∙◌, append_assoc, append-nil, arith, if◌then◌else◌}
use Rattle.std.specs.Prelude.{Option, Some, None, OnOk, IfOk}
use Rattle.std.proofs.Common.{nat_lt}
use Rattle.c_applied.proofs.PieceLemmas.{several_is}
use Rattle.c_applied.proofs.calls.are_several.Goals as goal

pub returns : goal.returns
returns c = ap (nat_lt 1) c.len.ensures ∙ several_is c.args.es.now
