use Rattle.std.proofs.Common.{◌≡◌, ◌++◌, ℕ, List, sym, ap, subst, ◌∙◌}
use Rattle.std.specs.Prelude.{Ok}
use Rattle.c_syntax.specs.Plain as tree
use Rattle.c_syntax.specs.Plain.{CItem}
use Rattle.c_syntax.specs.View.{ty_of, decls_of, maybe_stmt, item_of}
use Rattle.c_types.specs.Units.{item_judged}
use Rattle.c_eval.specs.Text.{item_definitions}
use Rattle.c_lower_data.specs.Entries.{AreEntered}
use Rattle.c_lower_data.proofs.blocks.add_item.Goals as goal

pub returns-in-Function : goal.returns-in-Function
returns-in-Function c = λ s inner all rest typed are.
    let f = c.in-Function in
    let same : item_of c.args.item.now ≡ tree.Function c.as_bytes.result.now f.pos (ty_of f.gives) (decls_of f.params.items.items) (maybe_stmt f.body) =
    ap item_of f.is ∙ ap (λ (n : List ℕ). tree.Function n f.pos (ty_of f.gives) (decls_of f.params.items.items) (maybe_stmt f.body)) (sym c.as_bytes.ensures) in
    c.add_body.ensures s inner all rest (subst (λ (x : CItem). item_judged s x ≡ Ok inner) same typed)
    (subst (λ (x : CItem). AreEntered c.args.entries.now.entries c.args.block all (item_definitions s x ++ rest)) same are)
