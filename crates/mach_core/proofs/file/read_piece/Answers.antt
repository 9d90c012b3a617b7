use Rattle.std.proofs.Common.{arith, ◌≡◌, ◌<◌, ◌++◌, ℕ, zero, suc, Bool, false, List, [], take, drop, length-take, length-append, Option, None, Some, Result, Ok, Err, refl, sym}
use Rattle.std.proofs.lemmas.List.{take-append-le}
use Rattle.std.specs.Io.KnownBytes.{Consumes, Keeps}
use Rattle.std.proofs.lemmas.Result.{err_from_is_err_and}
use Rattle.mach_core.specs.Outside.{tells_end}
use Rattle.mach_core.specs.declared.outside.Failed.{Failed}
use Rattle.mach_core.specs.declared.file.FileFault.{FileFault}
use Rattle.mach_core.specs.declared.file.FileFault.TheVariants.{File, TooLarge, Memory}
use Rattle.mach_core.proofs.file.read_piece.Goals as goal

kept : (a b : Option (List ℕ)) → Keeps a b → Consumes a b []
kept None b h = tt
kept (Some x) None h = h
kept (Some x) (Some y) h = sym h

other_fault : {r : Result ℕ FileFault} {y : FileFault} → r ≡ Err y → y ≡ File → r ≡ Err TooLarge → ⊥
other_fault a b h = cc

no_memory : {r : Result ℕ FileFault} {y : FileFault} → r ≡ Err y → y ≡ Memory → r ≡ Err TooLarge → ⊥
no_memory a b h = cc

no_file : {A : Type 0} {r : Result ℕ FileFault} {y : FileFault} → r ≡ Err y → y ≡ Memory → r ≡ Err File → A
no_file a b h = absurd cc

ok_err : {n : ℕ} {r : Result ℕ FileFault} {y : FileFault} → r ≡ Ok n → r ≡ Err y → ⊥
ok_err a h = cc

not_end : (n : ℕ) {b : Bool} → b ≡ tells_end {E = Failed} (Ok n) → 0 < n → b ≡ false
not_end zero e h = absurd (omega arith)
not_end (suc n) e h = e

pub returns-in_err-count-clause-still : goal.returns-in_err-count-clause-still
returns-in_err-count-clause-still g c = c.in_err-count.ensures.still

pub returns-in_err-count-clause-same : goal.returns-in_err-count-clause-same
returns-in_err-count-clause-same g c = c.in_err-count.ensures.same

pub returns-in_err-count-clause-no_lookup : goal.returns-in_err-count-clause-no_lookup
returns-in_err-count-clause-no_lookup g c = c.in_err-count.ensures.no_lookup

pub returns-in_err-count-clause-later : goal.returns-in_err-count-clause-later
returns-in_err-count-clause-later g c = c.in_err-count.ensures.cause.later

pub returns-in_err-count-clause-quiet : goal.returns-in_err-count-clause-quiet
returns-in_err-count-clause-quiet g c = let p = err_from_is_err_and c.from_residual.result c.from_residual.ensures.1 in rw p.1 tt

pub returns-in_err-count-clause-took : goal.returns-in_err-count-clause-took
returns-in_err-count-clause-took g c = ([], omega arith, kept _ _ c.in_err-count.ensures.bytes)

pub returns-in_err-count-clause-bound : goal.returns-in_err-count-clause-bound
returns-in_err-count-clause-bound g c = let p = err_from_is_err_and c.from_residual.result c.from_residual.ensures.1 in rw p.1 tt

pub returns-in_err-count-clause-open : goal.returns-in_err-count-clause-open
returns-in_err-count-clause-open g c = let p = err_from_is_err_and c.from_residual.result c.from_residual.ensures.1 in rw p.1 tt

pub returns-in_err-count-clause-grows : goal.returns-in_err-count-clause-grows
returns-in_err-count-clause-grows g c = let p = err_from_is_err_and c.from_residual.result c.from_residual.ensures.1 in rw p.1 tt

pub returns-in_err-count-clause-bytes : goal.returns-in_err-count-clause-bytes
returns-in_err-count-clause-bytes g c = let p = err_from_is_err_and c.from_residual.result c.from_residual.ensures.1 in rw p.1 tt

pub returns-in_err-count-clause-end : goal.returns-in_err-count-clause-end
returns-in_err-count-clause-end g c = let p = err_from_is_err_and c.from_residual.result c.from_residual.ensures.1 in rw p.1 tt

pub returns-in_err-count-clause-file : goal.returns-in_err-count-clause-file
returns-in_err-count-clause-file g c = λ _. c.in_err-count.ensures.cause.failed

pub returns-in_err-count-clause-small : goal.returns-in_err-count-clause-small
returns-in_err-count-clause-small g c = λ h. let p = err_from_is_err_and c.from_residual.result c.from_residual.ensures.1 in other_fault p.1 p.2 h

pub returns-in_err-extend_from_slice-clause-still : goal.returns-in_err-extend_from_slice-clause-still
returns-in_err-extend_from_slice-clause-still g c = c.in_ok-count.ensures.still

pub returns-in_err-extend_from_slice-clause-same : goal.returns-in_err-extend_from_slice-clause-same
returns-in_err-extend_from_slice-clause-same g c = c.in_ok-count.ensures.same

pub returns-in_err-extend_from_slice-clause-no_lookup : goal.returns-in_err-extend_from_slice-clause-no_lookup
returns-in_err-extend_from_slice-clause-no_lookup g c = c.in_ok-count.ensures.no_lookup

pub returns-in_err-extend_from_slice-clause-later : goal.returns-in_err-extend_from_slice-clause-later
returns-in_err-extend_from_slice-clause-later g c = c.in_ok-count.ensures.cause.later

pub returns-in_err-extend_from_slice-clause-quiet : goal.returns-in_err-extend_from_slice-clause-quiet
returns-in_err-extend_from_slice-clause-quiet g c = let p = err_from_is_err_and c.from_residual-in_err-extend_from_slice.result c.from_residual-in_err-extend_from_slice.ensures.1 in rw p.1 tt

pub returns-in_err-extend_from_slice-clause-took : goal.returns-in_err-extend_from_slice-clause-took
returns-in_err-extend_from_slice-clause-took g c = (take c.in_ok-count.count c.read.new.buf, omega (arith, length-take c.in_ok-count.count c.read.new.buf, c.in_ok-count.ensures.bound, c.min-size.ensures, c.read.auto.buf, length-take c.min-size.result c.args.buf.now), c.in_ok-count.ensures.bytes.0)

pub returns-in_err-extend_from_slice-clause-bound : goal.returns-in_err-extend_from_slice-clause-bound
returns-in_err-extend_from_slice-clause-bound g c = let p = err_from_is_err_and c.from_residual-in_err-extend_from_slice.result c.from_residual-in_err-extend_from_slice.ensures.1 in rw p.1 tt

pub returns-in_err-extend_from_slice-clause-open : goal.returns-in_err-extend_from_slice-clause-open
returns-in_err-extend_from_slice-clause-open g c = let p = err_from_is_err_and c.from_residual-in_err-extend_from_slice.result c.from_residual-in_err-extend_from_slice.ensures.1 in rw p.1 tt

pub returns-in_err-extend_from_slice-clause-grows : goal.returns-in_err-extend_from_slice-clause-grows
returns-in_err-extend_from_slice-clause-grows g c = let p = err_from_is_err_and c.from_residual-in_err-extend_from_slice.result c.from_residual-in_err-extend_from_slice.ensures.1 in rw p.1 tt

pub returns-in_err-extend_from_slice-clause-bytes : goal.returns-in_err-extend_from_slice-clause-bytes
returns-in_err-extend_from_slice-clause-bytes g c = let p = err_from_is_err_and c.from_residual-in_err-extend_from_slice.result c.from_residual-in_err-extend_from_slice.ensures.1 in rw p.1 tt

pub returns-in_err-extend_from_slice-clause-end : goal.returns-in_err-extend_from_slice-clause-end
returns-in_err-extend_from_slice-clause-end g c = let p = err_from_is_err_and c.from_residual-in_err-extend_from_slice.result c.from_residual-in_err-extend_from_slice.ensures.1 in rw p.1 tt

pub returns-in_err-extend_from_slice-clause-file : goal.returns-in_err-extend_from_slice-clause-file
returns-in_err-extend_from_slice-clause-file g c = λ h. let p = err_from_is_err_and c.from_residual-in_err-extend_from_slice.result c.from_residual-in_err-extend_from_slice.ensures.1 in no_file p.1 p.2 h

pub returns-in_err-extend_from_slice-clause-small : goal.returns-in_err-extend_from_slice-clause-small
returns-in_err-extend_from_slice-clause-small g c = λ h. let p = err_from_is_err_and c.from_residual-in_err-extend_from_slice.result c.from_residual-in_err-extend_from_slice.ensures.1 in no_memory p.1 p.2 h

pub returns-clause-still : goal.returns-clause-still
returns-clause-still g c = c.in_ok-count.ensures.still

pub returns-clause-same : goal.returns-clause-same
returns-clause-same g c = c.in_ok-count.ensures.same

pub returns-clause-no_lookup : goal.returns-clause-no_lookup
returns-clause-no_lookup g c = c.in_ok-count.ensures.no_lookup

pub returns-clause-later : goal.returns-clause-later
returns-clause-later g c = c.in_ok-count.ensures.cause.later

pub returns-clause-quiet : goal.returns-clause-quiet
returns-clause-quiet g c = c.in_ok-count.ensures.cause.quiet

pub returns-clause-took : goal.returns-clause-took
returns-clause-took g c = (take c.in_ok-count.count c.read.new.buf, omega (arith, length-take c.in_ok-count.count c.read.new.buf, c.in_ok-count.ensures.bound, c.min-size.ensures, c.read.auto.buf, length-take c.min-size.result c.args.buf.now), c.in_ok-count.ensures.bytes.0)

pub returns-clause-bound : goal.returns-clause-bound
returns-clause-bound g c = omega (arith, c.in_ok-count.ensures.bound, c.min-size.ensures, c.read.auto.buf, length-take c.min-size.result c.args.buf.now)

pub returns-clause-open : goal.returns-clause-open
returns-clause-open g c = not_end _ c.in_ok-count.ensures.over

pub returns-clause-grows : goal.returns-clause-grows
returns-clause-grows g c = omega (arith, c.in_ok-extend_from_slice.ensures.len, length-take c.in_ok-count.count (c.read.new.buf ++ drop c.min-size.result c.args.buf.now), length-append c.read.new.buf (drop c.min-size.result c.args.buf.now), c.in_ok-count.ensures.bound)

pub returns-clause-bytes : goal.returns-clause-bytes
returns-clause-bytes g c = (take c.in_ok-count.count (c.read.new.buf ++ drop c.min-size.result c.args.buf.now), c.in_ok-extend_from_slice.ensures.items, rw (take-append-le c.in_ok-count.count c.read.new.buf (drop c.min-size.result c.args.buf.now) c.in_ok-count.ensures.bound) c.in_ok-count.ensures.bytes.0)

pub returns-clause-end : goal.returns-clause-end
returns-clause-end g c = λ z. c.in_ok-count.ensures.bytes.1 z (omega (arith, c.requires.some, c.requires.room, c.min-size.ensures, c.read.auto.buf, length-take c.min-size.result c.args.buf.now))

pub returns-clause-file : goal.returns-clause-file
returns-clause-file g c = λ h. absurd (ok_err refl h)

pub returns-clause-small : goal.returns-clause-small
returns-clause-small g c = λ h. ok_err refl h
