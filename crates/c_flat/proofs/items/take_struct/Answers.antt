use Rattle.c_syntax.specs.View.{tag_of}
use Rattle.c_types.specs.Declarations.{scope_or, tag_declared}
use Rattle.c_emitted.proofs.EmitLemmas.{on_ok}
use Rattle.c_objects.proofs.PassedLemmas.{on_both}
use Rattle.c_flat.proofs.ItemLemmas.{other_passes}
use Rattle.c_flat.proofs.items.take_struct.Goals as goal

pub returns-clause-some : goal.returns-clause-some
returns-clause-some c =
    let h = c.requires.holds in
    on_ok c.declare_struct.result (λ holds. (scope_or h.0 (tag_declared h.0 (tag_of c.args.tag.now)), holds)) (c.declare_struct.ensures.holds h.0 h.1)

pub returns-clause-passes : goal.returns-clause-passes
returns-clause-passes c = λ rules s names is.
    let inner = scope_or s (tag_declared s (tag_of c.args.tag.now)) in
    on_both c.declare_struct.result
    (λ holds structs. other_passes rules c.declare_struct.new.types (record c.args.here.now { declared = c.declare_struct.new.declared }) c.declare_struct.new.structs c.args.out.now names c.args.compiled.now.items inner is.files holds structs)
    (c.declare_struct.ensures.holds s is.holds) (c.declare_struct.ensures.structs s is.holds is.structs)
