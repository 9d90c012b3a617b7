use Rattle.std.proofs.Common.{◌≡◌, List, [], ◌∷◌, sym, ap, subst, ◌∙◌}
use Rattle.std.specs.Prelude.{OnOk, false, codes}
use Rattle.std.specs.Str.{bytes_eq}
use Rattle.c_code.specs.Code as code
use Rattle.c_code.specs.Code.{puts_code}
use Rattle.c_emitted.specs.Emits.{Emits}
use Rattle.c_emitted.proofs.EmitLemmas.{on_ok, both}
use Rattle.c_pieces.proofs.CallLemmas.{by_name}
use Rattle.c_pieces.proofs.calls.known.Goals as goal

pub returns : goal.returns
returns c = λ ts h.
    let name = c.args.name.now in
    let other : bytes_eq name (codes "puts") ≡ false = ap (bytes_eq name) (sym c.as_slice.ensures) ∙ (sym c.eq.ensures ∙ c.if-eq.false) in
    subst (λ (is : List code.Instruction). OnOk c.add.result (Emits c.args.out.now c.add.new.self is []))
    (by_name (bytes_eq name (codes "puts")) (puts_code ts c.args.count) (code.BuiltIn name ts c.args.count ∷ []) other)
    (on_ok c.add.result (both c.in_ok-given.ensures.emits)
    (c.add.ensures (code.BuiltIn name ts c.args.count) (record { means = λ names p e. (c.known_by.ensures, (c.in_ok-given.ensures.told ts h).are names p e) })))
