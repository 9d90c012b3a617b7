use Rattle.std.proofs.Common.{true}
use Rattle.c_syntax.specs.View.{decl_of}
use Rattle.c_types.specs.Declarations.{declared, scope_or}
use Rattle.c_lower.proofs.WalkLemmas.{other_passes, object_structs}
use Rattle.c_lower.proofs.functions.take_object.Goals as goal

pub returns-clause-some : goal.returns-clause-some
returns-clause-some c =
    let h = c.requires in
    (scope_or h.0 (declared h.0 true (decl_of c.args.d.now)), c.in_ok-declare_object.ensures.holds h.0 h.1)

pub returns-clause-passes : goal.returns-clause-passes
returns-clause-passes c = λ w names s is ok.
    let d = decl_of c.args.d.now in
    let a = c.args.out.now in
    let t1 = c.declare_object.new.types in
    let kinds = c.args.structs.now in
    let k = c.in_ok-declare_object.ensures in
    other_passes c.args.here.now c.declare_object.new.declared kinds kinds a t1 c.args.placed.now w names s (scope_or s (declared s true d)) c.args.k is k.grows k.tags (k.holds s is.holds) (object_structs a.types t1 kinds s d k.tags ok is.structs)
