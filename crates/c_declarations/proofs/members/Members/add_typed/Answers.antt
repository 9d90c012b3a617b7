use Rattle.std.proofs.Common.{sym, ◌∙◌}
use Rattle.c_syntax.specs.View.{decl_of}
use Rattle.c_types.specs.Types.{words_of}
use Rattle.c_types.specs.Declarations.{words_of_members}
use Rattle.c_types.specs.Table.{known}
use Rattle.c_declarations.specs.declared.members.Members.{Members}
use Rattle.c_declarations.proofs.MemberLemmas.{one_member, none_by}
use Rattle.c_declarations.proofs.members.Members.add_typed.Goals as goal

pub returns-in_ok-insert-clause-are : goal.returns-in_ok-insert-clause-are
returns-in_ok-insert-clause-are c = λ s before t h ty all.
    let k = known c.args.types.now in
    let new : Members = record { entries = c.insert.new.self; words = c.plus-self.result } in
    one_member k s.tags c.args.self.now new before (decl_of c.args.m.now) c.as_bytes.result c.args.ty t c.words.result c.rules-refusal.result h (c.rules-refusal.ensures k s.tags before h)
    (sym (none_by c.rules-refusal.result c.is_none.result c.is_none.ensures) ∙ c.if-is_none.true) c.as_bytes.ensures ty c.in_ok-insert.ensures.entries
    (c.plus-self.ensures (words_of_members s.tags before) (words_of s.tags t) h.counts (c.words.ensures t s.tags ty all))
