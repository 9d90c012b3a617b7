use Rattle.std.proofs.Common.{sym, ◌∙◌}
use Rattle.c_syntax.specs.Words.{meaning}
use Rattle.c_types.specs.Table.{known}
use Rattle.c_layouts.proofs.SizeLemmas.{tag_is}
use Rattle.c_offsets.proofs.offset.member_words.Goals as goal

pub offset_in-requires : goal.offset_in-requires
offset_in-requires c =
    let table = c.args.types.now in
    let t = c.requires.0 in
    let tags = c.requires.1 in
    let among = c.requires.2 in
    let p = tag_is table.tags (known table) c.shape.result c.in-Some.tag t (sym c.tag_of.ensures ∙ c.in-Some.is) (c.shape.ensures.says ∙ among.is) in
    (meaning tags p.0, tags, record { members = among.members; layout = among.members c.in-Some.tag p.0 p.2; listed = among.ordered c.in-Some.tag p.0 p.2 })
