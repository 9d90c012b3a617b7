use Rattle.std.proofs.Common.{ap}
use Rattle.wasm_rule.specs.Rule.{wasm_rule}
use Rattle.elvm_cli.proofs.Modules.{unread_link}
use Rattle.elvm_cli.proofs.language.WasmMachineLanguage.load.Goals as goal

pub returns-in-Err-clause-err : goal.returns-in-Err-clause-err
returns-in-Err-clause-err c = rw c.outcome.ensures (unread_link c.args.text.now c.in_ok-valid.valid c.in-Err.fault c.in_ok-valid.ensures.read c.in_ok-valid.ensures.valid c.in-Err.ensures.linkable)

pub returns-in-Ok-clause-loaded : goal.returns-in-Ok-clause-loaded
returns-in-Ok-clause-loaded c =
    let valid = c.in_ok-valid in
    record {
      program = valid.valid;
      is_of = record { spelled = valid.ensures.read; valid = valid.ensures.valid; linkable = c.in-Ok.ensures.linkable };
      goes = ap wasm_rule c.in-Ok.ensures.code;
      stands = c.in-Ok.ensures.config;
    }
