use Rattle.std.proofs.Common.{◌≡◌, ◌+◌, ◌-◌, ℕ, [], ◌∷◌, length, refl, sym, ap, subst, arith}
use Rattle.std.specs.Prelude.{Option, Some, None}
use Rattle.word24.specs.declared.word.Word.{Word}
use Rattle.word24.specs.Word.{number_of}
use Rattle.c_code.specs.Code as code
use Rattle.c_emitted.proofs.EmitLemmas.{nothing}
use Rattle.c_aside.specs.Cases.{JumpsTo}
use Rattle.c_aside.proofs.CaseLemmas.{no_jump, one_jump}
use Rattle.c_aside.proofs.cases.case_jump.Goals as goal

pub returns-in_default : goal.returns-in_default
returns-in_default c = no_jump c.args.out.now c.args.label c.args.left c.in_default.is

pub returns : goal.returns
returns c =
    one_jump c.args.out.now c.add.new.self c.args.label c.in-Some.word c.args.left (c.args.left - 1) c.in-Some.is (omega (arith, c.requires))
    (c.in_ok-add.ensures (code.JumpAt (number_of c.in-Some.word) (c.args.label.at + (c.args.left - 1))) (record { means = λ names p e. (refl, refl) }))
