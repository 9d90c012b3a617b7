use Rattle.std.proofs.Common.{◌≡◌, true, Some, rules}
use Rattle.wasm_rule.specs.Start.{are_known, main_of}
use Rattle.wasm_rule.proofs.MainLemmas.{main_own}
use Rattle.wasm_run.proofs.link.check.Goals as goal

pub returns-clause-own : goal.returns-clause-own
returns-clause-own c =
    let known : are_known c.args.m.now ≡ true = search rules in
    let main : main_of c.args.m.now ≡ Some c.in-Some.main = search rules in
    main_own c.args.m.now c.in-Some.main known main
