use Rattle.std.proofs.Common.{rules, ◌≡◌, ◌*◌, ◌^◌, ◌≤◌, ◌<◌, lit<, ap, ◌∙◌, sym, arith, ℤ, ◌*ℤ◌, FitsSigned, w64, to_z, of_z, unsigned_abs}
use Rattle.std.proofs.lemmas.Int.{to_z-of_z, fits_signed_mul, unsigned_abs-mul}
use Rattle.std.proofs.lemmas.Nat.{mul-le}
use Rattle.c_parts.proofs.operate.cells.Goals as goal

pub returns-clause-number : goal.returns-clause-number
returns-clause-number c =
    let count_fits : FitsSigned w64 c.args.count = search rules in
    let words_fits : FitsSigned w64 c.args.words = search rules in
    let count = to_z-of_z w64 c.args.count count_fits in
    let words = to_z-of_z w64 c.args.words words_fits in
    let fits : FitsSigned w64 (c.args.count *ℤ c.args.words) = fits_signed_mul w64 c.args.count c.args.words (2 ^ 24) (2 ^ 32) (omega arith) (omega arith) (lit< tt) in
    ap (λ (z : ℤ). to_z w64 (of_z w64 z)) (ap (λ (x : ℤ). x *ℤ to_z w64 (of_z w64 c.args.words)) count ∙ ap (λ (y : ℤ). c.args.count *ℤ y) words) ∙ to_z-of_z w64 _ fits

pub returns-clause-small : goal.returns-clause-small
returns-clause-small c =
    let size : unsigned_abs c.args.count * unsigned_abs c.args.words ≤ 2 ^ 24 * 2 ^ 32 = mul-le (unsigned_abs c.args.count) (unsigned_abs c.args.words) (2 ^ 24) (2 ^ 32) (omega arith) (omega arith) in
    let few : unsigned_abs (c.args.count *ℤ c.args.words) < 2 ^ 57 = omega (arith, size, unsigned_abs-mul c.args.count c.args.words) in
    rw (returns-clause-number c) few
