use Rattle.std.specs.Prelude.{slice_get}
use Rattle.wasm_valid.proofs.RuleLemmas.{GivesFew-context_of}
use Rattle.wasm_valid.proofs.body.is_typed.Goals as goal

pub is_typed_expression-requires : goal.is_typed_expression-requires
is_typed_expression-requires c = GivesFew-context_of c.args.m.now 0 (slice_get c.args.m.now.funcs c.args.k) c.in-Some.kind c.requires c.in-Some.ensures
