use Rattle.std.proofs.Common.{◌<◌, ◌≤◌, ◌^◌, ◌∙◌, Err, sym, ap, subst, arith}
use Rattle.eir_core.specs.Eir.{Eir, size_of}
use Rattle.c_syntax.specs.Plain.{CUnit}
use Rattle.c_lowered.specs.Whole.{lowered}
use Rattle.c_types.specs.Typed.{plain_of}
use Rattle.c_compiled.specs.Compiled.{compiled}
use Rattle.c_compiled.specs.Texts.{IsLowerable}
use Rattle.elvm_cli.proofs.compile.compile_tree.Goals as goal

pub lower-requires-clause-typed : goal.lower-requires-clause-typed
lower-requires-clause-typed c = (subst IsLowerable (sym c.in-Ok.ensures) c.requires.lowerable).typed

pub lower-requires-clause-blocks : goal.lower-requires-clause-blocks
lower-requires-clause-blocks c = (subst IsLowerable (sym c.in-Ok.ensures) c.requires.lowerable).blocks

pub returns-in-Ok-lower-clause-ok : goal.returns-in-Ok-lower-clause-ok
returns-in-Ok-lower-clause-ok c = c.in-Ok-lower.ensures.program ∙ ap lowered c.in-Ok.ensures

pub returns-in-Ok-lower-clause-within : goal.returns-in-Ok-lower-clause-within
returns-in-Ok-lower-clause-within c = subst (λ (p : Eir). size_of p ≤ 2 ^ 21) (sym c.in-Ok-lower.ensures.program) c.in-Ok-lower.ensures.small

-- a program that is within its room is not too large
pub unreachable-requires : goal.unreachable-requires
unreachable-requires c =
    let large : 2 ^ 21 < size_of (compiled (plain_of c.args.typed.now)) =
    subst (λ (u : CUnit). 2 ^ 21 < size_of (lowered u)) c.in-Ok.ensures (c.lower.ensures.too_large (c.in-Err-TooLarge.is ∙ ap Err c.in-Err-TooLarge.field-0-is)) in
    omega (arith, c.requires.small, large)
