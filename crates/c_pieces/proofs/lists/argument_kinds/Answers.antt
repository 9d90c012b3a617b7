use Rattle.std.proofs.Common.{◌≡◌, ◌+◌, ℕ, List, [], ◌∷◌, ◌++◌, Vec, sym, subst, ap, ◌∙◌, arith}
use Rattle.std.specs.declared.alloc.Global.{Global}
use Rattle.c_store.specs.declared.kind.Kind.{Kind}
use Rattle.c_store.specs.declared.kind.Kind.TheVariants.{Number}
use Rattle.c_types.specs.Known.{OneType}
use Rattle.c_types.specs.Table.{known}
use Rattle.std.proofs.lemmas.Option.{slice_get_within}
use Rattle.c_operands.proofs.ListLemmas.{list_within, more_is, none_is}
use Rattle.c_pieces.proofs.CallLemmas.{SoFar, begun, one_more, none_more, all_told}
use Rattle.c_pieces.proofs.lists.argument_kinds.Goals as goal
use Rattle.c_pieces.proofs.lists.argument_kinds.Goals.{in-Some+in_ok-push-in-Some, in-None+in_ok-push-in-None}

pub loop-index-init : goal.loop-index-init
loop-index-init c = λ ts h. subst (λ (l : List Kind). SoFar c.args.types.now ts c.args.count l c.args.list 0) (sym c.new-kinds.ensures.items) (begun c.args.types.now ts c.args.count c.args.list h)

pub shape-requires : goal.shape-requires
shape-requires c =
    let s = c.loop-index.invariant c.requires.0 c.requires.1 in
    list_within c.args.types.now c.loop-index.rest s.us s.list

pub kind-requires : goal.kind-requires
kind-requires c =
    let table = c.args.types.now in
    let s = c.loop-index.invariant c.requires.0 c.requires.1 in
    let m = more_is table.tags (known table) c.shape.result c.in-Some.ty c.in-Some.behind s.us (sym c.first_type.ensures ∙ c.in-Some.is) (c.shape.ensures.says ∙ s.list) in
    slice_get_within (known table) c.in-Some.ty (OneType m.t) m.first

pub loop-index-preserved : goal.loop-index-preserved
loop-index-preserved c = λ ts h.
    let table = c.args.types.now in
    let s = c.loop-index.invariant ts h in
    let l = c.loop-index in
    let kinds = c.match-first_type.kinds.items in
    elim c.match-first_type.branch [
      | in-Some+in_ok-push-in-Some w ↦
          let m = more_is table.tags (known table) c.shape.result w.in-Some.ty w.in-Some.behind s.us (sym c.first_type.ensures ∙ w.in-Some.is) (c.shape.ensures.says ∙ s.list) in
          let more : kinds ≡ l.kinds.items ++ w.kind.result ∷ [] = ap (λ (v : Vec Kind Global). v.items) w.kinds-is ∙ w.in_ok-push-in-Some.ensures.items in
          subst (λ (r : ℕ). SoFar table ts c.args.count kinds r (l._index + 1)) (sym w.rest-is)
          (one_more table ts m.us m.t c.args.count l.rest l._index w.in-Some.behind l.kinds.items kinds w.kind.result s m.is m.rest (w.kind.ensures m.t m.first) more)
      | in-None+in_ok-push-in-None w ↦
          let none = none_is table.tags (known table) c.shape.result s.us (sym c.first_type.ensures ∙ w.in-None.is) (c.shape.ensures.says ∙ s.list) in
          let more : kinds ≡ l.kinds.items ++ Number ∷ [] = ap (λ (v : Vec Kind Global). v.items) w.kinds-is ∙ w.in_ok-push-in-None.ensures.items in
          subst (λ (r : ℕ). SoFar table ts c.args.count kinds r (l._index + 1)) (sym w.rest-is) (none_more table ts c.args.count l.rest l._index l.kinds.items kinds s none more)
    ]

pub returns : goal.returns
returns c = λ ts h.
    let done : c.loop-index._index ≡ c.args.count = omega (arith, c.loop-index-test.false, c.loop-index.auto._index-end) in
    all_told c.args.types.now ts c.args.count c.loop-index.rest c.loop-index._index c.loop-index.kinds.items (c.loop-index.invariant ts h) done
