use Rattle.std.proofs.Common.{ap, ◌∙◌}
use Rattle.c_code.specs.Code as code
use Rattle.c_emitted.proofs.EmitLemmas.{on_ok, both}
use Rattle.c_blocks.specs.Objects.{unset_objects}
use Rattle.c_blocks.proofs.objects.enter_objects.Goals as goal

pub returns : goal.returns
returns c = λ cells count same many.
    on_ok c.add.result (both c.in_ok-span.ensures.emits)
    (c.add.ensures (code.Enter cells count) (record { means = λ names p g. (ap unset_objects (c.in_ok-span.ensures.span.is names p g) ∙ same, many) }))
