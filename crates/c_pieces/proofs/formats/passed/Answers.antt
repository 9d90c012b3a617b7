use Rattle.std.proofs.Common.{Bool, ◌∷◌, [], refl, sym, ap, ◌∙◌}
use Rattle.c_code.specs.Code as code
use Rattle.c_code.specs.Code.{pieces}
use Rattle.c_emitted.proofs.EmitLemmas.{nothing}
use Rattle.c_pieces.proofs.CallLemmas.{a_percent, a_character}
use Rattle.c_pieces.proofs.formats.passed.Goals as goal

pub returns-then-byte-eq37 : goal.returns-then-byte-eq37
returns-then-byte-eq37 c =
    let byte = c.args.byte in
    let n = c.args.left.count in
    ([], nothing c.args.out.now, λ rest. ap (λ (b : Bool). pieces b (byte ∷ rest) n) c.if-left.false ∙ a_percent byte n rest c.if-byte-eq37.true)

pub returns : goal.returns
returns c =
    let byte = c.args.byte in
    let n = c.args.left.count in (
      code.Put byte ∷ [],
      c.in_ok-add.ensures (code.Put byte) (record { means = λ names p e. (refl, c.ranges.byte.fits) }),
      λ rest. ap (λ (b : Bool). pieces b (byte ∷ rest) n) c.if-left.false ∙ (a_character byte n rest c.if-byte-eq37.false ∙ ap (λ (b : Bool). code.Put byte ∷ pieces b rest n) (sym c.if-left.false)),
    )
