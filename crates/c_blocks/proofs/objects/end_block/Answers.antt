use Rattle.std.proofs.Common.{refl}
use Rattle.c_code.specs.Code as code
use Rattle.c_emitted.proofs.EmitLemmas.{on_ok}
use Rattle.c_blocks.specs.Objects.{EndsBlock}
use Rattle.c_blocks.proofs.objects.end_block.Goals as goal

pub returns : goal.returns
returns c =
    on_ok {Q = EndsBlock c.args.out.now c.add.new.self c.args.start c.args.lengths.now} c.add.result
    (λ e. record { span = c.in_ok-span.span; told = c.lengths.new.self; tells = c.in_ok-span.ensures.emits; is = c.in_ok-span.ensures.span; filled = c.fill.new.out; fills = c.in_ok-fill.ensures; leaves = e })
    (c.add.ensures code.Leave (record { means = λ names p g. refl }))
