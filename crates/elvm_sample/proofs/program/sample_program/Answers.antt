use Rattle.eir_core.specs.Eir.{IsEir, program_of}
use Rattle.elvm_sample.proofs.Blocks.{sample_is_eir}
use Rattle.elvm_sample.proofs.program.sample_program.Goals as goal

pub unreachable-requires : goal.unreachable-requires
unreachable-requires c =
    let is : IsEir (program_of c.in_ok-blocks.blocks.items c.new.result.items 0) = rw (c.in_ok-blocks.ensures.blocks, c.new.ensures.items) (sample_is_eir c.args.n c.requires) in
    let no = c.in_default.ensures.ok.1 is in
    cc
