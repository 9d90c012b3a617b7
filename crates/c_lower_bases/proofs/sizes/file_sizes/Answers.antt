use Rattle.std.proofs.Common.{◌≡◌, ℕ, List, [], map, sym, ap, subst, ◌∙◌}
use Rattle.std.specs.Prelude.{true, IfOk}
use Rattle.c_syntax.specs.View.{item_of, unit_of}
use Rattle.c_syntax.specs.declared.tree.Item.{Item}
use Rattle.c_types.specs.Scope.{contains}
use Rattle.c_types.specs.Units.{start_scope, all_items}
use Rattle.c_eval.specs.Text.{text_of, file_start, file_objects, behind_items}
use Rattle.c_opening.specs.Named.{tags_in, HasNumber}
use Rattle.c_objects.specs.Made.{Makes}
use Rattle.c_lower_bases.proofs.ObjectLemmas.{sizes_in, sizes_are}
use Rattle.c_lower_bases.proofs.StartLemmas.{starts}
use Rattle.c_lower_bases.proofs.sizes.file_sizes.Goals as goal

pub file_objects-requires-clause-holds : goal.file_objects-requires-clause-holds
file_objects-requires-clause-holds c = (start_scope (unit_of c.args.unit.now), c.in_ok-opening.ensures.holds)

pub file_objects-requires-clause-numbered : goal.file_objects-requires-clause-numbered
file_objects-requires-clause-numbered c =
    subst (λ (l : List Item). (name : List ℕ) → contains (tags_in (map item_of l)) name ≡ true → HasNumber c.in_ok-opening.opening.types name) (sym c.as_slice-items.ensures.value) c.in_ok-opening.ensures.numbered

pub returns : goal.returns
returns c = λ end typed.
    let u = unit_of c.args.unit.now in
    let types = c.in_ok-opening.opening.types in
    let declared = c.in_ok-opening.opening.declared in
    let out = c.new-out.result in
    let last = c.file_objects.new.out in
    let items = c.as_slice-items.ensures.value in
    let k = c.new-out.ensures in
    let start = starts types declared out u c.in_ok-opening.ensures.holds k.code k.tables k.owner k.before k.files in
    let of = c.in_ok-file_objects.ensures (file_start u) end [] start (c.new-structs.ensures types) (ap (λ (l : List Item). all_items (start_scope u) (map item_of l)) items ∙ typed) in
    let m = subst (λ (l : List Item). Makes c.file_objects.new.types c.file_objects.new.declared c.file_objects.new.structs last (behind_items (map item_of l) (file_start u)) [] (file_objects (map item_of l) (file_start u))) items of in
    let sizes = ap sizes_in c.as_slice.ensures.value ∙ sizes_are last m.more (text_of u).objects m.is.shown m.made in
    subst (λ (l : List ℕ). IfOk c.sizes_of.result (λ v. v.items ≡ l)) sizes c.sizes_of.ensures
