use Rattle.std.proofs.Common.{◌≡◌, List, [], ◌∷◌, ◌++◌, true, refl, ap, ◌∙◌}
use Rattle.c_types.specs.Units.{type_of, entity_behind}
use Rattle.c_types.specs.Scope.{with_name}
use Rattle.c_syntax.specs.Words.{meaning}
use Rattle.c_operands.specs.declared.declarations.Declarations.{Declarations}
use Rattle.c_declared.proofs.HeldLemmas.{one_named, block_entered}
use Rattle.c_signatures.specs.Parameters.{Entries, with_entries}
use Rattle.c_signatures.proofs.SignatureLemmas.{body_held}
use Rattle.c_signatures.proofs.bodies.enter_body.Goals as goal

pub returns-clause-holds : goal.returns-clause-holds
returns-clause-holds c = λ s g holds is.
    let table = c.args.types.now in
    let d0 = c.args.declared.now in
    let d1 : Declarations = record d0 { names = c.declare.new.self } in
    let d2 = c.begin_block-mark.new.declared in
    let d3 = c.declare_again.new.declared in
    let f = c.args.f.now in
    let name = c.args.name.now in
    let e = entity_behind (meaning s.block name) (type_of g) true in
    let known = c.entity_behind-entity.ensures table (meaning s.block name) (type_of g) (c.found_here-found.ensures s holds.fits) is.ty in
    let named = one_named table d0 d1 s name c.entity_behind-entity.result e (record { outer = c.in_ok-declare.ensures.outer; layouts = refl; defined = refl }) c.in_ok-declare.ensures.block known holds in
    let i = c.begin_block-mark.ensures.inside in
    let inner = block_entered table d1 d2 (with_name s name e) c.begin_block-mark.ensures.block i.outer i.layouts i.defined named in
    let block : d3.names.block ≡ with_entries [] f.parameters.items =
    c.in_ok-declare_again.ensures.block
    ∙ (ap (λ (l : Entries). with_entries l c.as_slice.result.now) c.begin_block-mark.ensures.block ∙ ap (λ (l : List _). with_entries [] l) c.as_slice.ensures.value) in
    body_held table d2 d3 s name f g is block c.in_ok-declare_again.ensures.around inner

pub returns-clause-inside : goal.returns-clause-inside
returns-clause-inside c =
    let i = c.begin_block-mark.ensures.inside in
    let a = c.in_ok-declare_again.ensures.around in
    let d0 = c.args.declared.now in
    record {
      name = c.args.name.now;
      entity = c.entity_behind-entity.result;
      outer = a.outer ∙ (i.outer ∙ (ap (λ (l : Entries). l ++ c.declare.new.self.outer) c.in_ok-declare.ensures.block ∙ ap (λ (l : Entries). (c.args.name.now, c.entity_behind-entity.result) ∷ (d0.names.block ++ l)) c.in_ok-declare.ensures.outer));
      layouts = a.layouts ∙ i.layouts;
      defined = a.defined ∙ i.defined;
    }
