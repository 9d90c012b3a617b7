use Rattle.c_syntax.specs.View.{tag_of}
use Rattle.c_types.specs.Declarations.{scope_or, tag_declared}
use Rattle.c_emitted.proofs.EmitLemmas.{on_ok}
use Rattle.c_objects.proofs.PassedLemmas.{on_both}
use Rattle.c_objects.proofs.WalkLemmas.{none_made}
use Rattle.c_objects.proofs.walk.take_struct.Goals as goal

pub returns-clause-some : goal.returns-clause-some
returns-clause-some c =
    let h = c.requires.holds in
    on_ok c.declare_struct.result (λ holds. (scope_or h.0 (tag_declared h.0 (tag_of c.args.tag.now)), holds)) (c.declare_struct.ensures.holds h.0 h.1)

pub returns-clause-makes : goal.returns-clause-makes
returns-clause-makes c = λ here new file kinds ok.
    let s = here.scope in
    let behind = scope_or s (tag_declared s (tag_of c.args.tag.now)) in
    on_both c.declare_struct.result
    (λ holds structs. none_made c.args.types.now c.declare_struct.new.types c.args.declared.now c.declare_struct.new.declared c.declare_struct.new.structs c.args.out.now here behind new file holds structs)
    (c.declare_struct.ensures.holds s file.holds) (c.declare_struct.ensures.structs s file.holds kinds)
