use Rattle.std.proofs.Common.{true}
use Rattle.c_syntax.specs.View.{decl_of}
use Rattle.c_types.specs.Declarations.{declared, scope_or}
use Rattle.c_flat.proofs.ItemLemmas.{other_passes, object_structs}
use Rattle.c_flat.proofs.items.take_object.Goals as goal

pub returns-clause-some : goal.returns-clause-some
returns-clause-some c =
    let h = c.requires in
    (scope_or h.0 (declared h.0 true (decl_of c.args.d.now)), c.in_ok-declare_object.ensures.holds h.0 h.1)

pub returns-clause-passes : goal.returns-clause-passes
returns-clause-passes c = λ rules s names is ok.
    let d = decl_of c.args.d.now in
    let t1 = c.declare_object.new.types in
    other_passes rules t1 (record c.args.here.now { declared = c.declare_object.new.declared }) c.args.structs.now c.args.out.now names c.args.compiled.now.items (scope_or s (declared s true d)) is.files
    (c.in_ok-declare_object.ensures.holds s is.holds) (object_structs c.args.types.now t1 c.args.structs.now s d c.in_ok-declare_object.ensures.tags ok is.structs)
