use Rattle.std.proofs.Common.{refl, sym, ap, ◌∙◌}
use Rattle.std.specs.Prelude.{option_map}
use Rattle.c_syntax.specs.Plain as plain
use Rattle.c_syntax.specs.View.{maybe_value, ty_of, decl_of}
use Rattle.c_types.specs.Census.{scope_behind}
use Rattle.c_declared.proofs.HeldLemmas.{holds_kept}
use Rattle.c_helpers.specs.Fewer as fewer
use Rattle.c_fewer_trees.proofs.OnwardLemmas.{Onward, then_on}
use Rattle.c_fewer_declarations.proofs.StandingLemmas.{standing, some_standing, holds_on, some_holds, declaration_is}
use Rattle.c_fewer_parts.proofs.locals.announce.Goals as goal

pub fewer_in_type-requires : goal.fewer_in_type-requires
fewer_in_type-requires c =
    some_standing c.requires

pub declare_object-requires : goal.declare_object-requires
declare_object-requires c =
    let f : Onward c.args.types.now c.fewer_in_type.new.types = record { grows = c.in_ok-ty.ensures.grows; tags = c.in_ok-ty.ensures.tags } in
    some_holds f c.requires

pub fewer_in_first-requires : goal.fewer_in_first-requires
fewer_in_first-requires c =
    let f : Onward c.args.types.now c.fewer_in_type.new.types = record { grows = c.in_ok-ty.ensures.grows; tags = c.in_ok-ty.ensures.tags } in
    let g : Onward c.fewer_in_type.new.types c.declare_object.new.types = record { grows = c.in_ok-refusal.ensures.grows; tags = c.in_ok-refusal.ensures.tags } in
    let s = c.requires.0 in
    (scope_behind s (plain.Local (decl_of c.args.d.now)), record { fits = (c.in_ok-refusal.ensures.holds s (holds_on f c.requires.1)).fits; names = c.requires.1.names ∙ sym (then_on f g).tags })

pub returns-clause-tree : goal.returns-clause-tree
returns-clause-tree c = λ s stands.
    let f : Onward c.args.types.now c.fewer_in_type.new.types = record { grows = c.in_ok-ty.ensures.grows; tags = c.in_ok-ty.ensures.tags } in
    let g : Onward c.fewer_in_type.new.types c.declare_object.new.types = record { grows = c.in_ok-refusal.ensures.grows; tags = c.in_ok-refusal.ensures.tags } in
    let d = c.args.d.now in
    let behind_it = scope_behind s (plain.Local (decl_of c.args.d.now)) in
    ap plain.Local
    (declaration_is c.in_ok-name.name d.name d.pos (ty_of c.in_ok-ty.ty) (fewer.fewer_in_type s (ty_of d.ty)) (maybe_value c.in_ok-first.first) (option_map (fewer.with_values (fewer.fewer behind_it)) (maybe_value d.first))
    c.in_ok-name.ensures (c.in_ok-ty.ensures.tree s (standing stands))
    (c.in_ok-first.ensures.tree behind_it (record { fits = (c.in_ok-refusal.ensures.holds s (holds_on f stands)).fits; names = stands.names ∙ sym (then_on f g).tags })))

pub returns-clause-refusal : goal.returns-clause-refusal
returns-clause-refusal c = λ s stands.
    let f : Onward c.args.types.now c.fewer_in_type.new.types = record { grows = c.in_ok-ty.ensures.grows; tags = c.in_ok-ty.ensures.tags } in
    c.in_ok-refusal.ensures.judged s (holds_on f stands)

pub returns-clause-behind : goal.returns-clause-behind
returns-clause-behind c = λ s stands.
    let f : Onward c.args.types.now c.fewer_in_type.new.types = record { grows = c.in_ok-ty.ensures.grows; tags = c.in_ok-ty.ensures.tags } in
    let g : Onward c.fewer_in_type.new.types c.declare_object.new.types = record { grows = c.in_ok-refusal.ensures.grows; tags = c.in_ok-refusal.ensures.tags } in
    let k : Onward c.declare_object.new.types c.fewer_in_first.new.types = record { grows = c.in_ok-first.ensures.grows; tags = c.in_ok-first.ensures.tags } in
    let behind_it = scope_behind s (plain.Local (decl_of c.args.d.now)) in
    record {
      holds = holds_kept c.declare_object.new.types c.fewer_in_first.new.types c.declare_object.new.declared behind_it k.grows k.tags (c.in_ok-refusal.ensures.holds s (holds_on f stands));
      names = stands.names ∙ sym (then_on (then_on f g) k).tags;
    }

pub returns-clause-goes : goal.returns-clause-goes
returns-clause-goes c =
    let f : Onward c.args.types.now c.fewer_in_type.new.types = record { grows = c.in_ok-ty.ensures.grows; tags = c.in_ok-ty.ensures.tags } in
    let g : Onward c.fewer_in_type.new.types c.declare_object.new.types = record { grows = c.in_ok-refusal.ensures.grows; tags = c.in_ok-refusal.ensures.tags } in
    let k : Onward c.declare_object.new.types c.fewer_in_first.new.types = record { grows = c.in_ok-first.ensures.grows; tags = c.in_ok-first.ensures.tags } in
    let all = then_on (then_on f g) k in
    record { grows = all.grows; tags = all.tags; around = c.in_ok-refusal.ensures.around; names = refl }
