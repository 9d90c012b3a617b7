use Rattle.std.proofs.Common.{◌≡◌, ◌-◌, ℕ, suc, [], refl, sym, ap, subst, ◌∙◌, arith}
use Rattle.std.specs.Prelude.{OnOk}
use Rattle.c_eval.specs.State as run
use Rattle.c_code.specs.Code as code
use Rattle.c_code.specs.Code.{puts_code}
use Rattle.c_plain.specs.declared.instruction.Instruction.TheVariants as plain
use Rattle.c_emitted.specs.Emits.{Emits}
use Rattle.c_emitted.proofs.EmitLemmas.{on_ok, both}
use Rattle.c_pieces.proofs.calls.puts.Goals as goal

pub returns : goal.returns
returns c = λ ts h.
    let n = c.args.count in
    let some : n ≡ suc (n - 1) = omega (arith, c.if-count-eq0.false) in
    let turn : c.in_ok-number.number ≡ suc (n - 1) = c.in_ok-number.ensures ∙ some in
    let rest : c.in_ok-number.number - 1 ≡ n - 1 = ap (λ (m : ℕ). m - 1) c.in_ok-number.ensures in
    subst (λ (m : ℕ). OnOk c.add-7.result (Emits c.args.out.now c.add-7.new.self (puts_code ts m) [])) (sym some)
    (on_ok c.add-7.result (λ last.
    both (c.in_ok-add.ensures (code.Turn (suc (n - 1))) (record { means = λ names p e. ap plain.Turn turn }))
    (both (c.in_ok-first_converted.ensures ts h)
    (both (c.in_ok-add-2.ensures code.Text (record { means = λ names p e. refl }))
    (both (c.in_ok-add-3.ensures (code.Put 10) (record { means = λ names p e. (refl, omega arith) }))
    (both (c.in_ok-add-4.ensures (code.Printed (n - 1)) (record { means = λ names p e. ap plain.Printed rest }))
    (both (c.in_ok-add-5.ensures code.Drop (record { means = λ names p e. refl })) last))))))
    (c.add-7.ensures (code.Push (run.Word 0)) (record { means = λ names p e. c.wrap.ensures })))
