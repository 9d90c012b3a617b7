use Rattle.std.proofs.Common.{ℕ, [], refl, sym, subst}
use Rattle.std.specs.Prelude.{OnOk}
use Rattle.c_code.specs.Code as code
use Rattle.c_code.specs.Code.{convert_code}
use Rattle.c_emitted.specs.Emits.{Emits}
use Rattle.c_emitted.proofs.EmitLemmas.{on_ok, both}
use Rattle.c_pieces.proofs.formats.convert.Goals as goal

pub returns-in_ok-add : goal.returns-in_ok-add
returns-in_ok-add c =
    subst (λ (letter : ℕ). OnOk c.add-then-letter-eq120-2.result (Emits c.args.out.now c.add-then-letter-eq120-2.new.self (convert_code letter) [])) (sym c.if-letter-eq120.true)
    (on_ok c.add-then-letter-eq120-2.result (both (c.in_ok-add.ensures code.Hex (record { means = λ names p e. refl }))) (c.add-then-letter-eq120-2.ensures code.Digits (record { means = λ names p e. refl })))
