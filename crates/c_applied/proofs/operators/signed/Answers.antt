use Rattle.std.proofs.Common.{◌≡◌, ℕ, ◌+◌, ◌++◌, Bool, true, false, not, ◌||◌, List, [], ◌∷◌, length, refl, sym, ap, subst, ◌∙◌, append_assoc, append-nil, arith, if◌then◌else◌}
use Rattle.std.specs.Prelude.{Option, Some, None, OnOk, IfOk}
use Rattle.c_syntax.specs.View.{expr_of}
use Rattle.c_eval.specs.Environment.{type_in}
use Rattle.c_addressing.proofs.HereLemmas.{both, holds_later, some_later}
use Rattle.c_applied.proofs.PieceLemmas.{signed_is}
use Rattle.c_applied.proofs.operators.signed.Goals as goal

pub class_in-requires-2 : goal.class_in-requires-2
class_in-requires-2 c = some_later c.args.out.now c.class_in.new.out c.args.here.now.declared c.in_ok-left.ensures.still c.requires

pub returns-clause-signed : goal.returns-clause-signed
returns-clause-signed c = λ s h.
    c.signed_by.ensures ∙ signed_is c.args.op (type_in s (expr_of c.args.a.now)) (type_in s (expr_of c.args.b.now)) c.in_ok-left.left c.in_ok-right.right
    (c.in_ok-left.ensures.class s h) (c.in_ok-right.ensures.class s (holds_later c.args.out.now c.class_in.new.out c.args.here.now.declared s c.in_ok-left.ensures.still h))

pub returns-clause-still : goal.returns-clause-still
returns-clause-still c = both c.in_ok-left.ensures.still c.in_ok-right.ensures.still
