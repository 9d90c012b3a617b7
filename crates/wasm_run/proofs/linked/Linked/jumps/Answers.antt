use Rattle.std.proofs.Common.{◌≡◌, List, Some, None, sym, ap, subst, ◌∙◌}
use Rattle.std.specs.Prelude.{Vec, slice_get}
use Rattle.std.specs.declared.alloc.Global.{Global}
use Rattle.wasm_bin.specs.declared.module.Module.{Module}
use Rattle.wasm_parts.specs.declared.jumps.Jump.{Jump}
use Rattle.wasm_rule.specs.Code.{own_code}
use Rattle.wasm_parts.specs.Jumps.{IsTable}
use Rattle.wasm_run.specs.Linking.{table_in, table_at}
use Rattle.std.proofs.lemmas.Option.{slice_get_past}
use Rattle.wasm_run.proofs.HeldSteps.{found}
use Rattle.wasm_run.proofs.linked.Linked.jumps.Goals as goal

pub returns-in-Some : goal.returns-in-Some
returns-in-Some c =
    let tables = c.self.inside.tables.items in
    let own = c.args.own in
    let at : IsTable (own_code c.args.self.now own) (table_at tables own) = subst (λ (m : Module). IsTable (own_code m own) (table_at tables own)) c.self.view_is (c.self.invariant own) in
    let there : slice_get tables own ≡ Some c.in-Some.table.now = ap (λ (l : List (Vec Jump Global)). slice_get l own) (sym c.deref.ensures.value) ∙ found c.deref.result.now own c.in-Some.table.now c.in-Some.ensures.lookup.3.0 c.in-Some.ensures.lookup.1 in
    let same : c.in-Some.table.now.items ≡ c.as_slice.result.now = sym c.as_slice.ensures.value in
    subst (λ t. IsTable (own_code c.args.self.now own) t) same (subst (λ o. IsTable (own_code c.args.self.now own) (table_in o)) there at)

pub returns-in-None : goal.returns-in-None
returns-in-None c =
    let tables = c.self.inside.tables.items in
    let own = c.args.own in
    let at : IsTable (own_code c.args.self.now own) (table_at tables own) = subst (λ (m : Module). IsTable (own_code m own) (table_at tables own)) c.self.view_is (c.self.invariant own) in
    let there : slice_get tables own ≡ None = ap (λ (l : List (Vec Jump Global)). slice_get l own) (sym c.deref.ensures.value) ∙ slice_get_past c.deref.result.now own c.in-None.ensures.lookup.3 in
    subst (λ o. IsTable (own_code c.args.self.now own) (table_in o)) there at
