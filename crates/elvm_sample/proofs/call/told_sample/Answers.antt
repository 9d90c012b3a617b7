use Rattle.std.proofs.Common.{◌≡◌, length, ap, arith}
use Rattle.eir_core.specs.Eir.{size_of}
use Rattle.elvm_sample.proofs.Blocks.{sample_size}
use Rattle.elvm_sample.proofs.Told.{told}
use Rattle.elvm_sample.proofs.call.told_sample.Goals as goal

pub whitespace_text-requires : goal.whitespace_text-requires
whitespace_text-requires c = omega (arith, sample_size c.args.n, ap size_of c.in_ok-program.ensures, c.requires)

pub returns : goal.returns
returns c =
    let count : c.len.result ≡ length c.in_ok-text.text.items = omega (arith, c.len.ensures, c.as_slice.ensures.len, ap length c.as_slice.ensures.value) in
    told c.args.n c.in_ok-text.text.items c.in_ok-last.last c.len.result c.in_ok-moves.moves c.sample_line.result
    (rw c.in_ok-program.ensures at c.in_ok-text.ensures) (rw c.as_slice.ensures.value at c.in_ok-moves.ensures)
    (rw (c.in_ok-program.ensures, c.from.ensures) at c.in_ok-last.ensures) count c.sample_line.ensures
