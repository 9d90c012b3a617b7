use Rattle.std.proofs.Common.{refl}
use Rattle.c_syntax.specs.Words.{meaning}
use Rattle.c_syntax.specs.View.{tag_of}
use Rattle.c_declarations.proofs.TagLemmas.{tag_told}
use Rattle.c_declarations.proofs.tags.tag_fault.Goals as goal

pub returns : goal.returns
returns c = λ all s h.
    let tag = c.args.tag.now in
    tag_told s (tag_of tag) c.is_tag-is_new.result c.has_members-is_full.result tag.pos c.broken_rule.result c.broken_rule-2.result c.merged.result c.broken_rule.ensures c.broken_rule-2.ensures c.merged.ensures
    (c.is_tag-is_new.ensures all (meaning s.tags tag.name) h) c.has_members-is_full.ensures refl
