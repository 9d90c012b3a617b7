use Rattle.std.proofs.Common.{◌≡◌, ◌<◌, ℕ, sym, ap, subst, ◌∙◌, arith}
use Rattle.std.specs.Prelude.{nat_lt}
use Rattle.c_types.specs.Types as types
use Rattle.c_types.specs.Types.{CType, CTypes, words_of}
use Rattle.c_types.specs.Limits.{is_over, wide_types, wide_types_in}
use Rattle.c_types.specs.Table.{known}
use Rattle.c_weights.proofs.WideLemmas.{whole_is, whole_lists, empty_is, empty_types, pointer_is, pointer_lists, array_is, array_lists, function_is, list_is}
use Rattle.c_weights.proofs.SumLemmas.{both_wide}
use Rattle.c_weights.proofs.wide.+has_wide.Goals as goal

pub returns-in-Whole-clause-one : goal.returns-in-Whole-clause-one
returns-in-Whole-clause-one t c = λ u tags h all.
    let table = c.args.types.now in
    let parts = sym c.parts_in-parts.ensures ∙ c.in-Whole.is in
    c.is_over.ensures u tags h all ∙ ap (nat_lt 0) (sym (whole_is table.tags (known table) c.shape.result u tags parts (c.shape.ensures.says ∙ h)))

pub returns-in-Whole-clause-list : goal.returns-in-Whole-clause-list
returns-in-Whole-clause-list t c = λ us tags h all.
    let table = c.args.types.now in
    absurd (whole_lists table.tags (known table) c.shape.result us (sym c.parts_in-parts.ensures ∙ c.in-Whole.is) (c.shape.ensures.says ∙ h))

pub returns-in-Empty-clause-one : goal.returns-in-Empty-clause-one
returns-in-Empty-clause-one t c = λ u tags h all.
    let table = c.args.types.now in
    absurd (empty_types table.tags (known table) c.shape.result u (sym c.parts_in-parts.ensures ∙ c.in-Empty.is) (c.shape.ensures.says ∙ h))

pub returns-in-Empty-clause-list : goal.returns-in-Empty-clause-list
returns-in-Empty-clause-list t c = λ us tags h all.
    let table = c.args.types.now in
    ap (λ (vs : CTypes). nat_lt 0 (wide_types_in tags vs)) (sym (empty_is table.tags (known table) c.shape.result us (sym c.parts_in-parts.ensures ∙ c.in-Empty.is) (c.shape.ensures.says ∙ h)))

pub returns-in-Pointer-clause-one : goal.returns-in-Pointer-clause-one
returns-in-Pointer-clause-one t c = λ u tags h all.
    let table = c.args.types.now in
    let k = pointer_is table.tags (known table) c.shape.result c.in-Pointer.to u (sym c.parts_in-parts.ensures ∙ c.in-Pointer.is) (c.shape.ensures.says ∙ h) in
    c.has_wide.ensures.one k.0 tags k.2 all ∙ ap (λ (v : CType). nat_lt 0 (wide_types tags v)) (sym k.1)

pub returns-in-Pointer-clause-list : goal.returns-in-Pointer-clause-list
returns-in-Pointer-clause-list t c = λ us tags h all.
    let table = c.args.types.now in
    absurd (pointer_lists table.tags (known table) c.shape.result c.in-Pointer.to us (sym c.parts_in-parts.ensures ∙ c.in-Pointer.is) (c.shape.ensures.says ∙ h))

pub returns-in-Array-clause-one : goal.returns-in-Array-clause-one
returns-in-Array-clause-one t c = λ u tags h all.
    let table = c.args.types.now in
    let k = array_is table.tags (known table) c.shape.result c.in-Array.of u (sym c.parts_in-parts.ensures ∙ c.in-Array.is) (c.shape.ensures.says ∙ h) in
    let whole = types.Array k.0 k.1 in
    let over = c.is_over-in-Array.ensures u tags h all ∙ ap (λ (v : CType). nat_lt 0 (is_over (words_of tags v))) k.2 in
    both_wide c.is_over-in-Array.result c.has_wide-in-Array.result c.either.result (is_over (words_of tags whole)) (wide_types tags k.0) c.either.ensures over (c.has_wide-in-Array.ensures.one k.0 tags k.3 all)
    ∙ ap (λ (v : CType). nat_lt 0 (wide_types tags v)) (sym k.2)

pub returns-in-Array-clause-list : goal.returns-in-Array-clause-list
returns-in-Array-clause-list t c = λ us tags h all.
    let table = c.args.types.now in
    absurd (array_lists table.tags (known table) c.shape.result c.in-Array.of us (sym c.parts_in-parts.ensures ∙ c.in-Array.is) (c.shape.ensures.says ∙ h))

pub returns-in-Both-clause-one : goal.returns-in-Both-clause-one
returns-in-Both-clause-one t c = λ u tags h all.
    let table = c.args.types.now in
    let k = function_is table.tags (known table) c.shape.result c.in-Both.first c.in-Both.others u (sym c.parts_in-parts.ensures ∙ c.in-Both.is) (c.shape.ensures.says ∙ h) in
    both_wide c.has_wide-in-Both.result c.has_wide-in-Both-2.result c.either-in-Both.result (wide_types tags k.0) (wide_types_in tags k.1) c.either-in-Both.ensures
    (c.has_wide-in-Both.ensures.one k.0 tags k.3.first all) (c.has_wide-in-Both-2.ensures.list k.1 tags k.3.others all)
    ∙ ap (λ (v : CType). nat_lt 0 (wide_types tags v)) (sym k.2)

pub returns-in-Both-clause-list : goal.returns-in-Both-clause-list
returns-in-Both-clause-list t c = λ us tags h all.
    let table = c.args.types.now in
    let k = list_is table.tags (known table) c.shape.result c.in-Both.first c.in-Both.others us (sym c.parts_in-parts.ensures ∙ c.in-Both.is) (c.shape.ensures.says ∙ h) in
    both_wide c.has_wide-in-Both.result c.has_wide-in-Both-2.result c.either-in-Both.result (wide_types tags k.0) (wide_types_in tags k.1) c.either-in-Both.ensures
    (c.has_wide-in-Both.ensures.one k.0 tags k.3.first all) (c.has_wide-in-Both-2.ensures.list k.1 tags k.3.others all)
    ∙ ap (λ (vs : CTypes). nat_lt 0 (wide_types_in tags vs)) (sym k.2)
