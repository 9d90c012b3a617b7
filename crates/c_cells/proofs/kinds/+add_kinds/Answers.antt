use Rattle.std.proofs.Common.{◌≡◌, ℕ, List, [], ◌∷◌, ◌++◌, map, replicate, sym, ap, ◌∙◌, arith, append_assoc, add-one}
use Rattle.std.specs.List.{flat_map}
use Rattle.c_eval.specs.Environment.{cell_kinds}
use Rattle.std.proofs.lemmas.List.{map-append}
use Rattle.c_types.specs.Table.{known}
use Rattle.c_eval.specs.Memory as memory
use Rattle.c_resolved.specs.Same.{kind_in}
use Rattle.c_resolved.proofs.Meant.{kinds_meant}
use Rattle.c_cells.proofs.KindLemmas.{single, array_is, repeated_more}
use Rattle.c_cells.proofs.kinds.+add_kinds.Goals as goal

pub returns-in_ok-push-in-None : goal.returns-in_ok-push-in-None
returns-in_ok-push-in-None t c = λ u tags has structs.
    let table = c.args.types.now in
    let old = c.args.kinds.now.items in
    let one = single table.tags (known table) c.shape-shape.result tags u (sym c.array_parts.ensures ∙ c.in_default.is) (sym c.tag_of.ensures ∙ c.in-None.is) (c.shape-shape.ensures.says ∙ has) in
    let meant = kinds_meant u ∙ ap kind_in (sym (c.kind.ensures u has)) in
    ap (map kind_in) c.in_ok-push-in-None.ensures.items
    ∙ (map-append kind_in old (c.kind.result ∷ [])
    ∙ ap (λ (l : List memory.Kind). map kind_in old ++ l) (sym (one ∙ ap (λ (k : memory.Kind). k ∷ []) meant)))

pub returns-in-Some : goal.returns-in-Some
returns-in-Some t c = λ u tags has structs.
    let table = c.args.types.now in
    let old = map kind_in c.args.kinds.now.items in
    let p = array_is table.tags (known table) c.shape-shape.result c.in-Some.of c.in-Some.count u (sym c.array_parts.ensures ∙ c.in-Some.is) (c.shape-shape.ensures.says ∙ has) in
    let all : c.loop-index._index ≡ c.in-Some.count = omega arith in
    c.loop-index.invariant p.0 tags p.2 structs
    ∙ (ap (λ (k : ℕ). old ++ flat_map (λ x. x) (replicate k (cell_kinds tags p.0))) all ∙ ap (λ v. old ++ cell_kinds tags v) (sym p.1))

pub loop-index-preserved : goal.loop-index-preserved
loop-index-preserved t c = λ v tags has structs.
    let old = map kind_in c.args.kinds.now.items in
    let one = cell_kinds tags v in
    let k = c.loop-index._index in
    rw add-one (c.in_ok-add_kinds.ensures v tags has structs
    ∙ (ap (λ (l : List memory.Kind). l ++ one) (c.loop-index.invariant v tags has structs)
    ∙ (append_assoc old (flat_map (λ x. x) (replicate k one)) one ∙ ap (λ (l : List memory.Kind). old ++ l) (sym (repeated_more k one)))))
