use Rattle.std.proofs.Common.{sym, subst, ◌∙◌}
use Rattle.c_syntax.specs.Words.{meaning}
use Rattle.c_types.specs.Types.{words_of}
use Rattle.c_types.specs.Seen.{Counts}
use Rattle.c_types.specs.Table.{known}
use Rattle.c_layouts.proofs.SizeLemmas.{tag_is, array_is}
use Rattle.c_layouts.proofs.size.+words.Goals as goal

pub returns-in-Some-tag_of : goal.returns-in-Some-tag_of
returns-in-Some-tag_of t c = λ u tags h all.
    let p = tag_is c.args.types.now.tags (known c.args.types.now) c.shape-shape.result c.in-Some-tag_of.tag u (sym c.in-Some-tag_of.ensures) (c.shape-shape.ensures.says ∙ h) in
    subst (λ v. Counts c.struct_words.result (words_of tags v)) (sym p.1)
    (c.struct_words.ensures (known c.args.types.now) (meaning tags p.0) (all c.in-Some-tag_of.tag p.0 p.2))

pub returns-in-Some : goal.returns-in-Some
returns-in-Some t c = λ u tags h all.
    let table = c.args.types.now in
    let p = array_is table.tags (known table) c.shape-shape.result (c.in-Some.of, c.in-Some.count) u (sym c.array_parts.ensures ∙ c.in-Some.is) (c.shape-shape.ensures.says ∙ h) in
    subst (λ v. Counts c.times.result (words_of tags v)) (sym p.1) (c.times.ensures (words_of tags p.0) (c.words.ensures p.0 tags p.2 all))
