use Rattle.std.proofs.Common.{refl, ◌∷◌, [], arith}
use Rattle.c_emitted.specs.Emits.{tables_of}
use Rattle.c_emitted.proofs.TableLemmas.{extends_same}
use Rattle.c_emitted.proofs.EmitLemmas.{quiet}
use Rattle.c_static.proofs.strings.pass_literal.Goals as goal

pub returns : goal.returns
returns c = λ text.
    let a = c.args.out.now in
    quiet a (record a { before = c.in_ok-out.field-0 }) (text ∷ []) refl (extends_same (tables_of a)) (record { owner = refl; objects = refl; files = refl }) (omega (arith, c.in_ok-out.ensures))
