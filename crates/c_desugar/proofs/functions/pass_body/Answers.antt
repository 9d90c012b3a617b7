use Rattle.std.proofs.Common.{Bool, sym, subst, ◌∙◌}
use Rattle.c_syntax.specs.View.{ty_of, decls_of}
use Rattle.c_declared.specs.Held.{Holds}
use Rattle.c_objects.specs.Passed.{behind_function}
use Rattle.c_objects.proofs.PassedLemmas.{some_body}
use Rattle.c_fewer_trees.proofs.OnwardLemmas.{Onward, then_on}
use Rattle.c_desugar.proofs.functions.pass_body.Goals as goal

pub declare_function-requires : goal.declare_function-requires
declare_function-requires c =
    let h = c.requires in
    (h.0, (c.in_ok-inner.ensures.stands h.0 h.1).holds)

pub returns-clause-tree : goal.returns-clause-tree
returns-clause-tree c = λ s stands ok. c.in_ok-inner.ensures.tree s stands ok

pub returns-clause-stands : goal.returns-clause-stands
returns-clause-stands c = λ s stands.
    let at = c.args.at in
    let gives = ty_of c.args.gives.now in
    let params = decls_of c.args.parameters.now.items.items in
    let types = c.declare_function.new.types in
    let d = c.declare_function.new.declared in
    let mid = c.in_ok-inner.ensures.stands s stands in
    let defines = some_body c.args.body.now c.is_some-defines.result c.is_some-defines.ensures in
    record {
      holds = subst (λ (b : Bool). Holds types d (behind_function s c.args.name.now at gives params b)) defines (c.in_ok-declare_function.ensures.holds s mid.holds);
      names = mid.names ∙ sym c.in_ok-declare_function.ensures.tags;
    }

pub returns-clause-grows : goal.returns-clause-grows
returns-clause-grows c =
    let f : Onward c.args.types.now c.fewer_in_body.new.types = record { grows = c.in_ok-inner.ensures.grows; tags = c.in_ok-inner.ensures.tags } in
    let g : Onward c.fewer_in_body.new.types c.declare_function.new.types = record { grows = c.in_ok-declare_function.ensures.grows; tags = c.in_ok-declare_function.ensures.tags } in
    (then_on f g).grows

pub returns-clause-tags : goal.returns-clause-tags
returns-clause-tags c = c.in_ok-declare_function.ensures.tags ∙ c.in_ok-inner.ensures.tags
