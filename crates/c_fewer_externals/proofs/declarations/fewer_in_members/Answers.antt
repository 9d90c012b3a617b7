use Rattle.std.proofs.Common.{◌≡◌, ◌<◌, ◌≤◌, List, length, get_or, subst}
use Rattle.c_syntax.specs.declared.tree.Decl.{Decl}
use Rattle.c_expressions.proofs.GoingLemmas.{drop_at}
use Rattle.c_fewer_trees.proofs.OnwardLemmas.{Onward, some_on}
use Rattle.c_fewer_externals.proofs.ListLemmas.{none_listed, one_listed, all_listed}
use Rattle.c_fewer_externals.proofs.declarations.fewer_in_members.Goals as goal

pub loop-d-init : goal.loop-d-init
loop-d-init c = none_listed c.args.types.now c.args.here.now c.new-trees.result.items c.args.all.now.items.items c.new-trees.ensures.items

pub fewer_in_plain-requires : goal.fewer_in_plain-requires
fewer_in_plain-requires c = some_on c.loop-d.invariant.onward c.requires

pub loop-d-preserved : goal.loop-d-preserved
loop-d-preserved c =
    let items = c.args.all.now.items.items in
    let i = c.loop-d.d-index in
    let within : i < length items = subst (λ (l : List Decl). i < length l) c.deref-d-items.ensures.value c.loop-d-test.true in
    let next : c.d-item.result ≡ get_or items i c.d-item.result = subst (λ (l : List Decl). c.d-item.result ≡ get_or l i c.d-item.result) c.deref-d-items.ensures.value c.d-item.is in
    let f : Onward c.loop-d.types c.fewer_in_plain.new.types = record { grows = c.in_ok-tree.ensures.grows; tags = c.in_ok-tree.ensures.tags } in
    one_listed c.args.types.now c.loop-d.types c.fewer_in_plain.new.types c.args.here.now c.loop-d.trees.items c.push.new.self.items items i c.d-item.result c.in_ok-tree.tree c.loop-d.invariant (drop_at items i c.d-item.result within next) c.in_ok-tree.ensures.tree f c.in_ok-push.ensures.items

pub returns-clause-trees : goal.returns-clause-trees
returns-clause-trees c = λ s stands.
    let items = c.args.all.now.items.items in
    let past : length items ≤ c.loop-d.d-index = subst (λ (l : List Decl). length l ≤ c.loop-d.d-index) c.deref-d-items.ensures.value c.loop-d-test.false in
    all_listed c.args.types.now c.loop-d.types c.args.here.now c.loop-d.trees.items items c.loop-d.d-index c.loop-d.invariant past s stands

pub returns-clause-grows : goal.returns-clause-grows
returns-clause-grows c = c.loop-d.invariant.onward.grows

pub returns-clause-tags : goal.returns-clause-tags
returns-clause-tags c = c.loop-d.invariant.onward.tags
