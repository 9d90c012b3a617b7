use Rattle.std.proofs.Common.{◌≡◌, ◌<◌, ◌≤◌, List, length, get_or, subst}
use Rattle.c_syntax.specs.declared.tree.Decl.{Decl}
use Rattle.c_expressions.proofs.GoingLemmas.{drop_at}
use Rattle.c_fewer_trees.proofs.OnwardLemmas.{Onward}
use Rattle.c_fewer_externals.proofs.ParameterLemmas.{none_passed, one_passed, some_passed, all_passed}
use Rattle.c_fewer_externals.proofs.parameters.fewer_in_all.Goals as goal

pub loop-p-init : goal.loop-p-init
loop-p-init c = none_passed c.args.types.now c.args.here.now c.new-trees.result.items c.args.all.now.items.items c.new-trees.ensures.items

pub fewer_in_parameter-requires : goal.fewer_in_parameter-requires
fewer_in_parameter-requires c = some_passed c.loop-p.invariant c.requires

pub loop-p-preserved : goal.loop-p-preserved
loop-p-preserved c =
    let items = c.args.all.now.items.items in
    let i = c.loop-p.p-index in
    let within : i < length items = subst (λ (l : List Decl). i < length l) c.deref-p-items.ensures.value c.loop-p-test.true in
    let next : c.p-item.result ≡ get_or items i c.p-item.result = subst (λ (l : List Decl). c.p-item.result ≡ get_or l i c.p-item.result) c.deref-p-items.ensures.value c.p-item.is in
    let f : Onward c.loop-p.types c.fewer_in_parameter.new.types = record { grows = c.in_ok-tree.ensures.grows; tags = c.in_ok-tree.ensures.tags } in
    one_passed c.args.types.now c.loop-p.types c.fewer_in_parameter.new.types c.args.here.now c.loop-p.here c.fewer_in_parameter.new.here c.loop-p.trees.items c.push.new.self.items items i c.p-item.result c.in_ok-tree.tree
    c.loop-p.invariant (drop_at items i c.p-item.result within next) c.in_ok-tree.ensures.tree c.in_ok-tree.ensures.behind f c.in_ok-tree.ensures.around c.in_ok-push.ensures.items

pub returns-clause-trees : goal.returns-clause-trees
returns-clause-trees c = λ s stands.
    let items = c.args.all.now.items.items in
    let past : length items ≤ c.loop-p.p-index = subst (λ (l : List Decl). length l ≤ c.loop-p.p-index) c.deref-p-items.ensures.value c.loop-p-test.false in
    all_passed c.args.types.now c.loop-p.types c.args.here.now c.loop-p.here c.loop-p.trees.items items c.loop-p.p-index c.loop-p.invariant past s stands

pub returns-clause-stands : goal.returns-clause-stands
returns-clause-stands c = some_passed c.loop-p.invariant c.requires

pub returns-clause-grows : goal.returns-clause-grows
returns-clause-grows c = c.loop-p.invariant.onward.grows

pub returns-clause-tags : goal.returns-clause-tags
returns-clause-tags c = c.loop-p.invariant.onward.tags

pub returns-clause-around : goal.returns-clause-around
returns-clause-around c = c.loop-p.invariant.around
