use Rattle.std.proofs.Common.{refl}
use Rattle.c_code.specs.Code as code
use Rattle.c_emitted.proofs.EmitLemmas.{on_ok, both}
use Rattle.c_flat.proofs.pieces.spell.Goals as goal

pub returns : goal.returns
returns c =
    on_ok c.add.result (λ emits. both c.in_ok-span.ensures.emits emits)
    (c.add.ensures (code.Spell c.args.slot c.args.offset c.args.bytes.now) (record { means = λ names p more. ((refl, refl), c.in_ok-span.ensures.span.is names p more) }))
