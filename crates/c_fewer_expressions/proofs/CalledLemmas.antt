-- What is called, where the table of types grew.
use Rattle.std.proofs.Common.{◌≡◌, ℕ}
use Rattle.c_syntax.specs.Plain.{CExpr}
use Rattle.c_types.specs.Scope.{Scope}
use Rattle.c_types.specs.Expressions.{judged, callee_of}
use Rattle.c_types.specs.Table.{Table}
use Rattle.c_expressions.proofs.KeptLemmas.{callee_kept}
use Rattle.c_fewer_trees.proofs.OnwardLemmas.{Onward}
use Rattle.c_fewer_expressions.specs.declared.calls.Called.{Called}
use Rattle.c_fewer_expressions.specs.Calls.{CalledFrom}

pub called_on : {a b : Table} {c : Called} {s : Scope} {at : ℕ} {f : CExpr} → Onward a b → CalledFrom a c s at f → CalledFrom b c s at f
called_on {a} {b} {c} {s} {at} {f} g h = record { tree = h.tree; judged = callee_kept a b c.judged (callee_of s at f (judged s f)) g.grows h.judged }
