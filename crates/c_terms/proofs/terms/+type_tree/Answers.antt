use Rattle.std.proofs.Common.{List, ℕ, ◌++◌, map, sym, ap, ◌∙◌, append-nil}
use Rattle.std.specs.Prelude.{slice_get}
use Rattle.c_syntax.specs.Plain as plain
use Rattle.c_syntax.specs.Plain.{CTy, tys}
use Rattle.c_syntax.specs.View.{ty_of}
use Rattle.c_syntax.specs.declared.tree.Ty.{Ty}
use Rattle.c_types.specs.Types as types
use Rattle.c_types.specs.Types.{CType, NoType}
use Rattle.c_types.specs.declared.shape.Shape.TheVariants as shape
use Rattle.c_types.specs.Table.{known}
use Rattle.c_operands.proofs.ListLemmas.{more_is, none_is}
use Rattle.c_helpers.specs.Fewer as fewer
use Rattle.c_terms.specs.Trees.{trees_of}
use Rattle.c_terms.proofs.ShapeLemmas.{said, struct_is, type_is, function_is, plain_tree, no_list, same_tree, list_tree, tree_put, trees_then, text_at}
use Rattle.c_types.proofs.ByShape.{no_type}
use Rattle.c_terms.proofs.terms.+type_tree.Goals as goal

-- ---- a type

pub type_tree-returns-in-Int : goal.type_tree-returns-in-Int
type_tree-returns-in-Int t c = λ u same has.
    let table = c.args.types.now in
    plain_tree types.Int u (said table.tags (known table) c.shape-shape.result shape.Int _ c.in-Int.is (c.shape-shape.ensures.says ∙ has))

pub type_tree-returns-in-Unsigned : goal.type_tree-returns-in-Unsigned
type_tree-returns-in-Unsigned t c = λ u same has.
    let table = c.args.types.now in
    plain_tree types.Unsigned u (said table.tags (known table) c.shape-shape.result shape.Unsigned _ c.in-Unsigned.is (c.shape-shape.ensures.says ∙ has))

pub type_tree-returns-in-Char : goal.type_tree-returns-in-Char
type_tree-returns-in-Char t c = λ u same has.
    let table = c.args.types.now in
    plain_tree types.Char u (said table.tags (known table) c.shape-shape.result shape.Char _ c.in-Char.is (c.shape-shape.ensures.says ∙ has))

pub type_tree-returns-in-UChar : goal.type_tree-returns-in-UChar
type_tree-returns-in-UChar t c = λ u same has.
    let table = c.args.types.now in
    plain_tree types.UChar u (said table.tags (known table) c.shape-shape.result shape.UChar _ c.in-UChar.is (c.shape-shape.ensures.says ∙ has))

pub type_tree-returns-in-Void : goal.type_tree-returns-in-Void
type_tree-returns-in-Void t c = λ u same has.
    let table = c.args.types.now in
    plain_tree types.Void u (said table.tags (known table) c.shape-shape.result shape.Void _ c.in-Void.is (c.shape-shape.ensures.says ∙ has))

pub type_tree-returns-in-Null : goal.type_tree-returns-in-Null
type_tree-returns-in-Null t c = λ u same has.
    let table = c.args.types.now in
    plain_tree types.Null u (said table.tags (known table) c.shape-shape.result shape.Null _ c.in-Null.is (c.shape-shape.ensures.says ∙ has))

pub type_tree-returns-in-NoType : goal.type_tree-returns-in-NoType
type_tree-returns-in-NoType t c = λ u same has.
    let table = c.args.types.now in
    absurd (no_list NoType u (said table.tags (known table) c.shape-shape.result shape.NoType _ c.in-NoType.is (c.shape-shape.ensures.says ∙ has)))

pub type_tree-returns-in-MoreType : goal.type_tree-returns-in-MoreType
type_tree-returns-in-MoreType t c = λ u same has.
    let table = c.args.types.now in
    let n = c.in-MoreType._ty in
    let m = c.in-MoreType._behind in
    absurd (no_type (slice_get (known table) n) (slice_get (known table) m) u (said table.tags (known table) c.shape-shape.result (shape.MoreType n m) _ c.in-MoreType.is (c.shape-shape.ensures.says ∙ has)))

pub type_tree-returns-in_ok-name-in-Struct : goal.type_tree-returns-in_ok-name-in-Struct
type_tree-returns-in_ok-name-in-Struct t c = λ u same has.
    let table = c.args.types.now in
    let n = c.in-Struct.tag in
    let p = struct_is (slice_get table.tags n) u (said table.tags (known table) c.shape-shape.result (shape.Struct n) _ c.in-Struct.is (c.shape-shape.ensures.says ∙ has)) in
    let k = text_at c.args.tags.now n p.0 (ap (λ (l : List (List ℕ)). slice_get l n) same ∙ p.2) in
    ap plain.Struct (c.in_ok-name-in-Struct.ensures k.0 k.1 ∙ k.2) ∙ ap fewer.type_tree p.1

pub type_tree-returns-in_ok-tree-in-Pointer : goal.type_tree-returns-in_ok-tree-in-Pointer
type_tree-returns-in_ok-tree-in-Pointer t c = λ u same has.
    let table = c.args.types.now in
    let n = c.in-Pointer.to in
    let p = type_is (slice_get (known table) n) (λ (v : CType). types.Pointer v) u (said table.tags (known table) c.shape-shape.result (shape.Pointer n) _ c.in-Pointer.is (c.shape-shape.ensures.says ∙ has)) in
    same_tree c.pointer.result (plain.Pointer (ty_of c.in_ok-tree-in-Pointer.tree)) (fewer.type_tree u) (ap plain.Pointer (c.in_ok-tree-in-Pointer.ensures p.0 same p.2) ∙ ap fewer.type_tree p.1) c.pointer.ensures

pub type_tree-returns-in_ok-tree-in-Array : goal.type_tree-returns-in_ok-tree-in-Array
type_tree-returns-in_ok-tree-in-Array t c = λ u same has.
    let table = c.args.types.now in
    let n = c.in-Array.of in
    let m = c.in-Array.count in
    let p = type_is (slice_get (known table) n) (λ (v : CType). types.Array v m) u (said table.tags (known table) c.shape-shape.result (shape.Array n m) _ c.in-Array.is (c.shape-shape.ensures.says ∙ has)) in
    same_tree c.array_tree.result (fewer.array_tree (ty_of c.in_ok-tree-in-Array.tree) m) (fewer.type_tree u) (ap (λ (x : CTy). fewer.array_tree x m) (c.in_ok-tree-in-Array.ensures p.0 same p.2) ∙ ap fewer.type_tree p.1) c.array_tree.ensures

pub type_tree-returns-in-Function : goal.type_tree-returns-in-Function
type_tree-returns-in-Function t c = λ u same has.
    let table = c.args.types.now in
    let n = c.in-Function.gives in
    let m = c.in-Function.parameters in
    let p = function_is (slice_get (known table) n) (slice_get (known table) m) u (said table.tags (known table) c.shape-shape.result (shape.Function n m) _ c.in-Function.is (c.shape-shape.ensures.says ∙ has)) in
    same_tree c.function_tree.result (fewer.type_tree (types.Function p.0 p.1)) (fewer.type_tree u) (ap fewer.type_tree p.2) (c.function_tree.ensures p.0 p.1 same p.3 p.4)

-- ---- a function's type

pub function_tree-returns : goal.function_tree-returns
function_tree-returns t c = λ u us same one list.
    let trees = c.add_trees.new.trees in
    same_tree c.function.result (plain.Func (ty_of c.in_ok-tree.tree) (tys (map ty_of trees.items))) (fewer.type_tree (types.Function u us))
    (ap (λ (x : CTy). plain.Func x (tys (map ty_of trees.items))) (c.in_ok-tree.ensures u same one)
    ∙ ap (plain.Func (fewer.type_tree u)) (ap tys (c.in_ok-add_trees.ensures us same list ∙ ap (λ (l : List Ty). map ty_of l ++ trees_of us) c.new-trees.ensures.items) ∙ list_tree us))
    c.function.ensures

-- ---- the types of a list

pub add_trees-returns-in_ok-push-in-Some : goal.add_trees-returns-in_ok-push-in-Some
add_trees-returns-in_ok-push-in-Some t c = λ us same list.
    let table = c.args.types.now in
    let m = more_is table.tags (known table) c.shape-shape.result c.in-Some.ty c.in-Some.behind us (sym c.in-Some.ensures) (c.shape-shape.ensures.says ∙ list) in
    let old = c.args.trees.now.items in
    let put = c.push.new.self.items in
    trees_then c.add_trees.result (map ty_of old) (map ty_of put) (map ty_of c.add_trees.new.trees.items) m.t m.us us
    (tree_put old c.in_ok-tree-in-Some.tree put m.t c.in_ok-push-in-Some.ensures.items (c.in_ok-tree-in-Some.ensures m.t same m.first)) m.is (c.add_trees.ensures m.us same m.rest)

pub add_trees-returns-in-None : goal.add_trees-returns-in-None
add_trees-returns-in-None t c = λ us same list.
    let table = c.args.types.now in
    let none = none_is table.tags (known table) c.shape-shape.result us (sym c.in-None.ensures) (c.shape-shape.ensures.says ∙ list) in
    sym (ap (λ ts. map ty_of c.args.trees.now.items ++ trees_of ts) none ∙ append-nil (map ty_of c.args.trees.now.items))
