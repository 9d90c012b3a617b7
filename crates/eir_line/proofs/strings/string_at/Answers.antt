use Rattle.std.proofs.Common.{List, ℕ, Bor, length}
use Rattle.eir_line.specs.Grammar.{string_at}
use Rattle.eir_line.proofs.Loops.{next_byte, no_byte, closing, unclosed, none_found}
use Rattle.eir_line.specs.Bytes.{quote, past}
use Rattle.eir_line.proofs.strings.string_at.Goals as goal

pub returns-in-Some : goal.returns-in-Some
returns-in-Some c = closing c.loop.string.items (length c.args.bytes.now) c.loop.counter c.loop.rest.now c.in-Some.after.now (string_at (length c.args.bytes.now) c.args.bytes.now) c.loop-test.true (c.in-Some.ensures) c.loop.invariant

pub returns-in-None : goal.returns-in-None
returns-in-None c = no_byte c.loop.string.items (length c.args.bytes.now) c.loop.counter c.loop.rest.now (string_at (length c.args.bytes.now) c.args.bytes.now) c.loop-test.true (none_found (λ (x : Bor (List ℕ)). x.now) c.past.result (past quote c.loop.rest.now) c.in_default.not-Some c.past.ensures) (c.in-None.ensures) c.loop.invariant

pub loop-preserved : goal.loop-preserved
loop-preserved c =
    rw c.in_ok-push-in-Some-byte_at.ensures.items (next_byte c.loop.string.items (length c.args.bytes.now) c.loop.counter c.loop.rest.now c.in-Some-byte_at.after.now c.in-Some-byte_at.b (string_at (length c.args.bytes.now) c.args.bytes.now) c.loop-test.true
    (none_found (λ (x : Bor (List ℕ)). x.now) c.past.result (past quote c.loop.rest.now) c.in_default.not-Some c.past.ensures) (c.in-Some-byte_at.ensures) c.loop.invariant)

pub returns : goal.returns
returns c = unclosed c.loop.string.items (length c.args.bytes.now) c.loop.counter c.loop.rest.now (string_at (length c.args.bytes.now) c.args.bytes.now) c.loop-test.false c.loop.invariant
