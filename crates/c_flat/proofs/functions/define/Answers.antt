use Rattle.std.proofs.Common.{◌≡◌, List, length, map, sym, ap, subst, ◌∙◌}
use Rattle.std.proofs.lemmas.List.{length-map}
use Rattle.c_syntax.specs.Plain.{CDecl}
use Rattle.c_syntax.specs.View.{decl_of, decls_of, stmt_of}
use Rattle.c_syntax.specs.declared.tree.Decl.{Decl}
use Rattle.c_types.specs.Units.{body_scope}
use Rattle.c_types.specs.Room.{charge_of}
use Rattle.c_code.specs.Machine.{parameter_slots}
use Rattle.c_types.specs.Table.{known}
use Rattle.c_types.specs.Known.{OneType}
use Rattle.c_operands.proofs.OperandLemmas.{grows_then, type_within}
use Rattle.c_signatures.proofs.BlockLemmas.{same_holds}
use Rattle.c_check.proofs.BodyLemmas.{signature_kept}
use Rattle.c_scopes.specs.Blocks.{Blocks}
use Rattle.c_pieces.specs.Places.{AreInSlots}
use Rattle.c_cells.proofs.StructLemmas.{struct_kinds_kept}
use Rattle.c_flat.proofs.FunctionLemmas.{with_later, same_then, function_defines}
use Rattle.c_flat.proofs.functions.define.Goals as goal

pub body_code-requires : goal.body_code-requires
body_code-requires c =
    let k = c.in_ok-charge.ensures in
    with_later c.args.types.now c.charge.new.types c.args.here.now.declared c.charge.new.declared c.args.f.now k.grows k.tags k.same c.requires

pub entry-requires : goal.entry-requires
entry-requires c =
    let h = c.requires in
    let n = c.args.f.now.result in
    type_within c.body_code.new.types n h.1.result (c.in_ok-body_code.ensures.grows n (OneType h.1.result) (c.in_ok-charge.ensures.grows n (OneType h.1.result) h.3.result))

pub returns-clause-defines : goal.returns-clause-defines
returns-clause-defines c = λ s g names holds is files structs fit.
    let t0 = c.args.types.now in
    let t1 = c.charge.new.types in
    let t2 = c.body_code.new.types in
    let d0 = c.args.here.now.declared in
    let d1 = c.charge.new.declared in
    let f = c.args.f.now in
    let k = c.in_ok-charge.ensures in
    let ds = c.args.parameters.now.items.items in
    let t = stmt_of c.args.body.now in
    let same : c.as_slice-items.result.now ≡ ds = c.as_slice-items.ensures.value in
    let made = subst (λ (l : List Decl). AreInSlots c.in_ok-slots.slots (parameter_slots (map (λ (d : CDecl). d.name) (decls_of l)) 0)) same c.in_ok-slots.ensures in
    let slots = subst (λ (x : Blocks). AreInSlots x (parameter_slots (map (λ (d : CDecl). d.name) (decls_of ds)) 0)) (sym c.replace-before.ensures.after) made in
    let many : c.in_ok-count.count ≡ length ds = c.in_ok-count.ensures ∙ ap (λ (l : List Decl). length l) same in
    let long : length (decls_of ds) ≡ length c.as_slice-items.result.now = length-map ds decl_of ∙ sym (ap (λ (l : List Decl). length l) same) in
    function_defines t1 t2 (record c.args.here.now { declared = d1; slots = c.replace-before.new.dest }) f c.args.kinds.now c.args.out.now c.begin_function.new.out c.body_code.new.out c.in_ok-function.function c.args.name.now ds t s g names
    c.in_ok-count.count (charge_of (body_scope s c.args.name.now g) (decls_of ds) t) c.entry.result c.in_ok-function.ensures c.in_ok-body_code.ensures.code (same_holds t0 t1 d0 d1 s k.grows k.tags k.same holds) (signature_kept t0 t1 s f g k.grows is) files
    (struct_kinds_kept t0 t1 c.args.kinds.now s.tags k.tags structs) fit slots many (c.entry.ensures.at ∙ c.count-at.ensures) c.entry.ensures.params
    (c.entry.ensures.result g.result (c.in_ok-body_code.ensures.grows f.result (OneType g.result) (k.grows f.result (OneType g.result) is.result)))
    (c.entry.ensures.charge ∙ k.charge s g (decls_of ds) holds is long)

pub returns-clause-same : goal.returns-clause-same
returns-clause-same c = same_then c.args.here.now.declared c.charge.new.declared c.body_code.new.here.declared c.in_ok-charge.ensures.same c.in_ok-body_code.ensures.same

pub returns-clause-grows : goal.returns-clause-grows
returns-clause-grows c = grows_then (known c.args.types.now) (known c.charge.new.types) (known c.body_code.new.types) c.in_ok-charge.ensures.grows c.in_ok-body_code.ensures.grows

pub returns-clause-tags : goal.returns-clause-tags
returns-clause-tags c = c.in_ok-body_code.ensures.tags ∙ c.in_ok-charge.ensures.tags
