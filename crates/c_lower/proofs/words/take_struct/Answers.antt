use Rattle.std.proofs.Common.{refl}
use Rattle.c_syntax.specs.Plain as tree
use Rattle.c_syntax.specs.View.{tag_of}
use Rattle.c_types.specs.Declarations.{scope_or, tag_declared}
use Rattle.c_lower.proofs.WordLemmas.{other_passes}
use Rattle.c_lower.proofs.words.take_struct.Goals as goal

pub returns-clause-some : goal.returns-clause-some
returns-clause-some c =
    let h = c.requires.holds in
    (scope_or h.0 (tag_declared h.0 (tag_of c.args.tag.now)), c.in_ok-declare_struct.ensures.holds h.0 h.1)

pub returns-clause-passes : goal.returns-clause-passes
returns-clause-passes c = λ w env is.
    let s = env.scope in
    let tag = tag_of c.args.tag.now in
    let behind = scope_or s (tag_declared s tag) in
    other_passes c.args.here.now c.declare_struct.new.declared c.declare_struct.new.structs c.args.out.now c.declare_struct.new.types c.args.number w env behind (tree.StructItem tag) c.args.words.now.items is.at is.next
    (c.in_ok-declare_struct.ensures.holds s is.at.here.holds) (c.in_ok-declare_struct.ensures.structs s is.at.here.holds is.structs) refl refl
