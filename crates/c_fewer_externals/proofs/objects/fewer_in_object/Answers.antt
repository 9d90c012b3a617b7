use Rattle.std.proofs.Common.{sym, ◌∙◌}
use Rattle.std.specs.Prelude.{option_map}
use Rattle.c_syntax.specs.Plain as plain
use Rattle.c_syntax.specs.View.{maybe_value, decl_of, ty_of}
use Rattle.c_types.specs.Declarations.{scope_or}
use Rattle.c_types.specs.Units.{item_judged}
use Rattle.c_declared.proofs.HeldLemmas.{holds_kept}
use Rattle.c_helpers.specs.Fewer as fewer
use Rattle.c_fewer_trees.proofs.OnwardLemmas.{Onward, then_on}
use Rattle.c_fewer_declarations.proofs.StandingLemmas.{standing, some_standing, holds_on, some_holds, declaration_is}
use Rattle.c_fewer_externals.proofs.objects.fewer_in_object.Goals as goal

pub fewer_in_type-requires : goal.fewer_in_type-requires
fewer_in_type-requires c =
    some_standing c.requires

pub declare_object-requires : goal.declare_object-requires
declare_object-requires c =
    let f : Onward c.args.types.now c.fewer_in_type.new.types = record { grows = c.in_ok-ty.ensures.grows; tags = c.in_ok-ty.ensures.tags } in
    some_holds f c.requires

pub static_first-requires : goal.static_first-requires
static_first-requires c =
    let f : Onward c.args.types.now c.fewer_in_type.new.types = record { grows = c.in_ok-ty.ensures.grows; tags = c.in_ok-ty.ensures.tags } in
    let g : Onward c.fewer_in_type.new.types c.declare_object.new.types = record { grows = c.in_ok-declare_object.ensures.grows; tags = c.in_ok-declare_object.ensures.tags } in
    let s = c.requires.0 in
    (scope_or s (item_judged s (plain.Object (decl_of c.args.d.now))), record { fits = (c.in_ok-declare_object.ensures.holds s (holds_on f c.requires.1)).fits; names = c.requires.1.names ∙ sym (then_on f g).tags })

pub returns-clause-tree : goal.returns-clause-tree
returns-clause-tree c = λ s stands.
    let f : Onward c.args.types.now c.fewer_in_type.new.types = record { grows = c.in_ok-ty.ensures.grows; tags = c.in_ok-ty.ensures.tags } in
    let g : Onward c.fewer_in_type.new.types c.declare_object.new.types = record { grows = c.in_ok-declare_object.ensures.grows; tags = c.in_ok-declare_object.ensures.tags } in
    let d = c.args.d.now in
    let behind = scope_or s (item_judged s (plain.Object (decl_of d))) in
    declaration_is c.in_ok-name.name d.name d.pos (ty_of c.in_ok-ty.ty) (fewer.fewer_in_type s (ty_of d.ty)) (maybe_value c.in_ok-first.first) (option_map (fewer.with_values (fewer.static_tree behind)) (maybe_value d.first))
    c.in_ok-name.ensures (c.in_ok-ty.ensures.tree s (standing stands))
    (c.in_ok-first.ensures.tree behind (record { fits = (c.in_ok-declare_object.ensures.holds s (holds_on f stands)).fits; names = stands.names ∙ sym (then_on f g).tags }))

pub returns-clause-stands : goal.returns-clause-stands
returns-clause-stands c = λ s stands.
    let f : Onward c.args.types.now c.fewer_in_type.new.types = record { grows = c.in_ok-ty.ensures.grows; tags = c.in_ok-ty.ensures.tags } in
    let g : Onward c.fewer_in_type.new.types c.declare_object.new.types = record { grows = c.in_ok-declare_object.ensures.grows; tags = c.in_ok-declare_object.ensures.tags } in
    let k : Onward c.declare_object.new.types c.static_first.new.types = record { grows = c.in_ok-first.ensures.grows; tags = c.in_ok-first.ensures.tags } in
    let behind = scope_or s (item_judged s (plain.Object (decl_of c.args.d.now))) in
    record {
      holds = holds_kept c.declare_object.new.types c.static_first.new.types c.declare_object.new.declared behind k.grows k.tags (c.in_ok-declare_object.ensures.holds s (holds_on f stands));
      names = stands.names ∙ sym (then_on (then_on f g) k).tags;
    }

pub returns-clause-grows : goal.returns-clause-grows
returns-clause-grows c =
    let f : Onward c.args.types.now c.fewer_in_type.new.types = record { grows = c.in_ok-ty.ensures.grows; tags = c.in_ok-ty.ensures.tags } in
    let g : Onward c.fewer_in_type.new.types c.declare_object.new.types = record { grows = c.in_ok-declare_object.ensures.grows; tags = c.in_ok-declare_object.ensures.tags } in
    let k : Onward c.declare_object.new.types c.static_first.new.types = record { grows = c.in_ok-first.ensures.grows; tags = c.in_ok-first.ensures.tags } in
    (then_on (then_on f g) k).grows

pub returns-clause-tags : goal.returns-clause-tags
returns-clause-tags c =
    let f : Onward c.args.types.now c.fewer_in_type.new.types = record { grows = c.in_ok-ty.ensures.grows; tags = c.in_ok-ty.ensures.tags } in
    let g : Onward c.fewer_in_type.new.types c.declare_object.new.types = record { grows = c.in_ok-declare_object.ensures.grows; tags = c.in_ok-declare_object.ensures.tags } in
    let k : Onward c.declare_object.new.types c.static_first.new.types = record { grows = c.in_ok-first.ensures.grows; tags = c.in_ok-first.ensures.tags } in
    (then_on (then_on f g) k).tags
