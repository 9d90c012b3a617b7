use Rattle.std.proofs.Common.{ap, ◌++◌, ◌∙◌}
use Rattle.c_syntax.specs.View.{decls_of}
use Rattle.c_grammar.specs.Tree.{several, all_declared}
use Rattle.c_held.specs.View.{means, base_of, all_of}
use Rattle.c_declare.proofs.Same.{all_behind}
use Rattle.c_declare.proofs.declarations.declare_all.Goals as goal

pub returns : goal.returns
returns c =
    let base = base_of c.args.base.now in
    all_behind c.new-decls.result.items c.push.new.self.items c.push_declarations.new.decls.items c.args.first c.new-all.result.items c.push_declared.new.all.items base
    (all_declared base (several (means c.args.others.now)))
    c.new-decls.ensures.items c.in_ok-push.ensures.items c.new-all.ensures.items (c.in_ok-push_declared.ensures base)
    (c.in_ok-push_declarations.ensures ∙ ap (λ z. decls_of c.push.new.self.items ++ all_of z base) c.as_mut_slice.ensures.value)
