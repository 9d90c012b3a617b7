use Rattle.elvm_sample.proofs.Ends.{ends_within, every_code, only_memory}
use Rattle.elvm_sample.proofs.runs.whitespace_steps.Goals as goal

pub unreachable-requires : goal.unreachable-requires
unreachable-requires c = only_memory c.args.n c.args.text.now c.in-Err.fault c.requires.stands c.in-Err.ensures c.in_default.not-Memory

pub count_steps-requires : goal.count_steps-requires
count_steps-requires c =
    rw (c.in_ok-machine.ensures.code, c.in_ok-machine.ensures.config, c.step_bound.ensures) (ends_within c.args.n c.args.text.now c.in-Ok.program c.requires.few c.requires.stands c.in-Ok.ensures)

pub returns : goal.returns
returns c =
    every_code c.args.n c.args.text.now c.in-Ok.program c.requires.few c.requires.stands c.in-Ok.ensures c.count_steps.result
    (rw (c.in_ok-machine.ensures.code, c.in_ok-machine.ensures.config) at c.count_steps.ensures)
