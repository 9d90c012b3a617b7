use Rattle.c_syntax.specs.View.{tag_of}
use Rattle.c_types.specs.Declarations.{scope_or, tag_declared}
use Rattle.c_lower.proofs.WalkLemmas.{other_passes}
use Rattle.c_lower.proofs.functions.take_struct.Goals as goal

pub returns-clause-some : goal.returns-clause-some
returns-clause-some c =
    let h = c.requires.holds in
    (scope_or h.0 (tag_declared h.0 (tag_of c.args.tag.now)), c.in_ok-declare_struct.ensures.holds h.0 h.1)

pub returns-clause-passes : goal.returns-clause-passes
returns-clause-passes c = λ w names s is.
    let k = c.in_ok-declare_struct.ensures in
    other_passes c.args.here.now c.declare_struct.new.declared c.args.structs.now c.declare_struct.new.structs c.args.out.now c.declare_struct.new.types c.args.placed.now w names s (scope_or s (tag_declared s (tag_of c.args.tag.now))) c.args.k is k.grows k.tags
    (k.holds s is.holds) (k.structs s is.holds is.structs)
