use Rattle.std.proofs.Common.{true}
use Rattle.c_syntax.specs.View.{decl_of}
use Rattle.c_types.specs.Declarations.{declared, scope_or}
use Rattle.c_lower.proofs.texts.take_object.Goals as goal

pub returns-clause-some : goal.returns-clause-some
returns-clause-some c =
    let h = c.requires in
    (scope_or h.0 (declared h.0 true (decl_of c.args.d.now)), c.in_ok-declare_object.ensures.holds h.0 h.1)

pub returns-clause-passes : goal.returns-clause-passes
returns-clause-passes c = λ here holds.
    let s = here.scope in
    let behind = scope_or s (declared s true (decl_of c.args.d.now)) in
    let h = c.in_ok-declare_object.ensures.holds s holds in
    record { holds = h; adds = c.in_ok-first_literals.ensures c.declare_object.new.types behind h.fits }
