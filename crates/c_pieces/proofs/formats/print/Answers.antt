use Rattle.std.proofs.Common.{ℕ, List, [], Bor, sym, ap, subst}
use Rattle.std.specs.Prelude.{OnOk, Option, option_map}
use Rattle.c_code.specs.Code as code
use Rattle.c_code.specs.Code.{print_code}
use Rattle.c_plain.specs.declared.instruction.Instruction.TheVariants as plain
use Rattle.c_emitted.specs.Emits.{Emits}
use Rattle.c_emitted.proofs.EmitLemmas.{on_ok, both}
use Rattle.c_pieces.proofs.formats.print.Goals as goal

pub returns-in_ok-add-in-Some : goal.returns-in_ok-add-in-Some
returns-in_ok-add-in-Some c =
    subst (λ (f : Option (Bor (List ℕ))). OnOk c.pieces.result (Emits c.args.out.now c.pieces.new.out (print_code (option_map (λ x. x.now) f) c.args.count) [])) (sym c.in-Some.is)
    (on_ok c.pieces.result (both (c.in_ok-add-in-Some.ensures (code.Turn c.args.count) (record { means = λ names p e. ap plain.Turn c.in_ok-number-in-Some.ensures }))) c.pieces.ensures)
