use Rattle.std.proofs.Common.{◌≡◌, ◌<◌, get_or, [], ◌+◌, ◌-◌, ℕ, List, ◌∷◌, length, drop, arith}
use Rattle.c_types.specs.declared.shape.Shape.TheVariants as shape
use Rattle.c_types.specs.Known.{TypeList, says}
use Rattle.c_types.specs.Table.{known}
use Rattle.c_expressions.proofs.GoingLemmas.{drop_before}
use Rattle.c_forms.proofs.WrittenLemmas.{known_some}
use Rattle.c_signatures.specs.declared.parameters.Parameter.{Parameter}
use Rattle.std.proofs.lemmas.List.{get_or_default}
use Rattle.c_signatures.proofs.SignatureLemmas.{list_goes_on, one_says, typed_behind}
use Rattle.c_signatures.proofs.signature.parameter_list.Goals as goal

abbrev none : Parameter
none = record { name = record { ref_ptr = (0, 0); now = [] }; ty = 0 }

-- what is left from the next parameter on
next_is : (items : List Parameter) (k : ℕ) → k < length items → drop (length items - (k + 1)) items ≡ get_or items (length items - 1 - k) none ∷ drop (length items - k) items
next_is items k less =
    let i = length items - 1 - k in
    let within : i < length items = omega arith in
    let same : get_or items i none ≡ get_or items i (get_or items i none) = get_or_default items i none (get_or items i none) within in
    drop_before items (length items) k (get_or items i none) less (omega arith) same

pub number-requires-in-loop-k : goal.number-requires-in-loop-k
number-requires-in-loop-k c =
    let items = c.args.parameters.now in
    let now = c.loop-k.types in
    let k = c.loop-k.k in
    let p = get_or items (length items - 1 - k) none in
    let r = c.requires in
    let n = length items - k in
    let m = length items - (k + 1) in
    let h = typed_behind (known c.args.types.now) items r.0 m r.1 in
    known_some (says now.tags (known now) (shape.MoreType p.ty c.loop-k.list)) (TypeList h.0) (one_says c.args.types.now now items c.loop-k.list n m p h.0 c.loop-k.invariant (next_is items k c.loop-k-test.true) h.1)

pub loop-k-preserved : goal.loop-k-preserved
loop-k-preserved c =
    let items = c.args.parameters.now in
    let k = c.loop-k.k in
    let p = get_or items (length items - 1 - k) none in
    list_goes_on c.args.types.now c.loop-k.types c.number-in-loop-k.new.self items c.loop-k.list c.in_ok-list-2.list (length items - k) (length items - (k + 1)) p c.loop-k.invariant (next_is items k c.loop-k-test.true)
    c.in_ok-list-2.ensures.number c.in_ok-list-2.ensures.grows c.in_ok-list-2.ensures.tags
