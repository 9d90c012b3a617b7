use Rattle.std.proofs.Common.{◌+◌, ◌-◌, ◌/◌, ◌<◌, ap, ◌∙◌, arith}
use Rattle.wasm_rule.specs.Memory.{with_bytes, bytes_of}
use Rattle.wasm_parts.specs.Inside.{bytes_of_pages}
use Rattle.wasm_parts.proofs.WordLemmas.{stored_more}
use Rattle.wasm_parts.proofs.Fits.{fits_first, fits_left, grows_on}
use Rattle.wasm_parts.proofs.memory.set_bytes.Goals as goal

pub set_byte-requires-clause-fits : goal.set_byte-requires-clause-fits
set_byte-requires-clause-fits c = fits_first c.loop-k.pages.items c.args.address c.args.count c.loop-k.k c.loop-k.rest (omega arith) c.loop-k.invariant.fits

pub loop-k-preserved : goal.loop-k-preserved
loop-k-preserved c =
    let pages = c.loop-k.pages.items in
    let changed = c.set_byte.new.pages.items in
    let a = c.args.address in
    let n = c.args.count in
    let k = c.loop-k.k in
    let rest = c.loop-k.rest in
    let within : k < n = omega arith in
    record {
      bytes = ap (λ m. with_bytes m (a + (k + 1)) (bytes_of (n - (k + 1)) (rest / 256))) c.set_byte.ensures.bytes ∙ (stored_more (bytes_of_pages pages) a n k rest within ∙ c.loop-k.invariant.bytes);
      grows = grows_on c.args.pages.now.items pages changed c.loop-k.invariant.grows c.set_byte.ensures.grows;
      fits = fits_left pages changed a n k rest within c.set_byte.ensures.grows c.loop-k.invariant.fits;
    }
