use Rattle.std.proofs.Common.{◌+◌, ◌<◌, ap, ◌∙◌, subst, arith}
use Rattle.wasm_rule.specs.Memory.{IsBlank, WantsPage, bytes_of}
use Rattle.wasm_parts.specs.Inside.{bytes_of_pages}
use Rattle.wasm_parts.proofs.Fits.{serves_more, asks_first, asks_more, grows_on, on_err_always}
use Rattle.wasm_parts.proofs.memory.take_pages.Goals as goal

pub returns-in_err-take_page-clause-wants : goal.returns-in_err-take_page-clause-wants
returns-in_err-take_page-clause-wants c =
    let a = c.args.address in
    let k = c.loop-k.k in
    let wants = c.in_err-take_page.ensures.wants in
    on_err_always c.from_residual.result
    (asks_first (bytes_of_pages c.args.pages.now.items) a c.args.count k c.loop-k.rest c.args.word (omega arith) c.loop-k.invariant.asks wants.0 (subst (λ m. IsBlank m (a + k)) c.loop-k.invariant.bytes wants.1))

pub loop-k-preserved : goal.loop-k-preserved
loop-k-preserved c =
    let pages = c.loop-k.pages.items in
    let changed = c.take_page.new.pages.items in
    let a = c.args.address in
    let n = c.args.count in
    let k = c.loop-k.k in
    let rest = c.loop-k.rest in
    let within : k < n = omega arith in
    record {
      bytes = c.take_page.ensures.bytes ∙ c.loop-k.invariant.bytes;
      grows = grows_on c.args.pages.now.items pages changed c.loop-k.invariant.grows c.take_page.ensures.grows;
      serves = serves_more pages changed a n k rest c.args.word within c.take_page.ensures.grows c.in_ok-take_page.ensures.has c.loop-k.invariant.serves;
      asks = asks_more (bytes_of_pages c.args.pages.now.items) a n k rest c.args.word within c.loop-k.invariant.asks;
    }
