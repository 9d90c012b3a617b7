use Rattle.wasm_rule.proofs.Mains.{main_shown, no_main, one_main}
use Rattle.wasm_rule.proofs.laws.one_main_is_shown.Goals as goal

pub returns : goal.returns
returns c = record { shown = main_shown; none = no_main; one = one_main }
