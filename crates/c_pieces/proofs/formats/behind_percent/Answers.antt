use Rattle.std.proofs.Common.{◌∷◌, [], refl}
use Rattle.c_code.specs.Code as code
use Rattle.c_pieces.proofs.CallLemmas.{percent_again}
use Rattle.c_pieces.proofs.formats.behind_percent.Goals as goal

pub returns-then-byte-eq37 : goal.returns-then-byte-eq37
returns-then-byte-eq37 c =
    let byte = c.args.byte in
    (code.Put byte ∷ [], c.in_ok-add.ensures (code.Put byte) (record { means = λ names p e. (refl, c.ranges.byte.fits) }), λ rest. percent_again byte c.args.count rest c.if-byte-eq37.true)
