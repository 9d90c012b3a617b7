use Rattle.std.proofs.Common.{◌≡◌, ℕ, List, refl, sym, ap, ◌∙◌}
use Rattle.std.specs.Prelude.{is_some, not}
use Rattle.c_syntax.specs.View.{decl_of}
use Rattle.c_declarations.proofs.MemberLemmas.{found, new_name, member_told, none_view, none_by}
use Rattle.c_declarations.proofs.members.Members.rules.Goals as goal

pub returns : goal.returns
returns c = λ all tags before h.
    let m = c.args.m.now in
    let entries = c.args.self.now.entries.entries in
    let there = c.contains_key-is_new.result in
    let known : there ≡ is_some (found m.name entries) = c.contains_key-is_new.ensures ∙ ap (λ (n : List ℕ). is_some (found n entries)) c.as_bytes-name.ensures in
    member_told before (decl_of m) (not there) c.is_none-is_plain.result m.pos c.broken_rule.result c.broken_rule-2.result c.merged.result c.broken_rule.ensures c.broken_rule-2.ensures c.merged.ensures
    (new_name all entries before m.name there h.listed known) (none_by m.first c.is_none-is_plain.result c.is_none-is_plain.ensures ∙ none_view m.first) refl
