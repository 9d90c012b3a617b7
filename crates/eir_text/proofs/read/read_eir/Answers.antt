use Rattle.eir_text.proofs.Once.{read_spelled, read_refusal}
use Rattle.eir_text.proofs.read.read_eir.Goals as goal

pub returns-clause-spelled : goal.returns-clause-spelled
returns-clause-spelled c = read_spelled c.args.text.now c.read.result (record { program = c.read.ensures.program; small = c.read.ensures.small; fault = c.read.ensures.fault })

pub returns-clause-refusal : goal.returns-clause-refusal
returns-clause-refusal c = read_refusal c.args.text.now c.read.result (record { program = c.read.ensures.program; small = c.read.ensures.small; fault = c.read.ensures.fault })
