use Rattle.c_syntax.specs.View.{decl_of}
use Rattle.c_types.specs.Declarations.{declared_type}
use Rattle.c_operands.proofs.NameLemmas.{fits_kept}
use Rattle.c_expressions.proofs.KeptLemmas.{layouts_at}
use Rattle.c_check.proofs.words.object_words.Goals as goal

pub judged_words-requires : goal.judged_words-requires
judged_words-requires c =
    let h = c.requires in
    (declared_type h.0 (decl_of c.args.d.now), c.in_ok-ty.ensures.judged h.0 h.1)

pub returns-clause-words : goal.returns-clause-words
returns-clause-words c = λ s holds.
    let old = c.args.types.now in
    let new = c.declared_type.new.types in
    let d = c.args.declared.now in
    c.judged_words.ensures (declared_type s (decl_of c.args.d.now)) s.tags (c.in_ok-ty.ensures.judged s holds)
    (layouts_at new d s c.as_slice.result.now c.as_slice.ensures.value (fits_kept old new d s c.in_ok-ty.ensures.grows c.in_ok-ty.ensures.tags holds.fits))
