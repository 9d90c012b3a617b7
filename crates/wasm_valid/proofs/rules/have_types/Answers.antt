use Rattle.std.proofs.Common.{ap, sym, ◌∙◌, ◌&&◌, length}
use Rattle.std.specs.Prelude.{nat_lt}
use Rattle.std.specs.List.{list_all}
use Rattle.wasm_valid.proofs.RuleLemmas.{have_types-parts}
use Rattle.wasm_valid.proofs.rules.have_types.Goals as goal

pub returns-then-have_import_types : goal.returns-then-have_import_types
returns-then-have_import_types c =
    let own = list_all (λ index. nat_lt index (length c.args.m.now.types)) c.args.m.now.funcs in
    c.have_own_types.ensures ∙ sym (have_types-parts c.args.m.now ∙ ap (λ b. b && own) (sym c.have_import_types.ensures ∙ c.if-have_import_types.true))

pub returns-else-have_import_types : goal.returns-else-have_import_types
returns-else-have_import_types c =
    let own = list_all (λ index. nat_lt index (length c.args.m.now.types)) c.args.m.now.funcs in
    c.if-have_import_types.false ∙ sym (have_types-parts c.args.m.now ∙ ap (λ b. b && own) (sym c.have_import_types.ensures ∙ c.if-have_import_types.false))
