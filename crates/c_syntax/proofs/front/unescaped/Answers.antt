use Rattle.std.proofs.Common.{◌≡◌, ◌+◌, ◌-◌, ◌≤◌, ap, ◌∙◌, length, arith}
use Rattle.std.specs.Prelude.{◌++◌, ◌∷◌, [], Ok}
use Rattle.c_syntax.specs.Front.{unescaped}
use Rattle.c_syntax.proofs.Loops.{with_bytes, is_none, is_some, all_bytes, next_byte, no_byte}
use Rattle.c_syntax.proofs.front.unescaped.Goals as goal

pub returns-then-is_empty-clause-value : goal.returns-then-is_empty-clause-value
returns-then-is_empty-clause-value c =
    ap Ok c.from_bytes.ensures ∙ all_bytes c.loop.text.items c.loop.rest.now (length c.args.bytes.now - c.loop.counter) (length c.args.bytes.now - length c.loop.rest.now) _ (is_none (length c.loop.rest.now) c.is_empty.result c.is_empty.ensures c.if-is_empty.true) c.loop.invariant.same

pub returns-in-None-clause-value : goal.returns-in-None-clause-value
returns-in-None-clause-value c =
    no_byte c.loop.text.items c.loop.rest.now (length c.args.bytes.now) c.loop.counter (length c.args.bytes.now - length c.loop.rest.now) _ c.loop-test.true (is_some (length c.loop.rest.now) c.is_empty.result c.is_empty.ensures c.if-is_empty.false) c.in-None.ensures.value c.loop.invariant.same

pub loop-preserved : goal.loop-preserved
loop-preserved c =
    let within : c.in-Some.len ≤ length c.loop.rest.now = c.in-Some.ensures.within in
    let old = c.loop.invariant.within in
    let shorter : length c.split_at.result.1.now + c.in-Some.len ≡ length c.loop.rest.now = omega (arith, c.split_at.ensures.back_len) in
    let place : length c.args.bytes.now - length c.split_at.result.1.now ≡ length c.args.bytes.now - length c.loop.rest.now + c.in-Some.len = omega arith in
    record {
      within = omega arith;
      same =
          ap (λ n. with_bytes c.push.new.self.items (unescaped (length c.args.bytes.now - (c.loop.counter + 1)) n c.split_at.result.1.now)) place
          ∙ ap (λ z. with_bytes z (unescaped (length c.args.bytes.now - (c.loop.counter + 1)) (length c.args.bytes.now - length c.loop.rest.now + c.in-Some.len) c.split_at.result.1.now)) c.in_ok-push-in-Some.ensures.items
          ∙ ap (λ z. with_bytes (c.loop.text.items ++ c.in-Some.c ∷ []) (unescaped (length c.args.bytes.now - (c.loop.counter + 1)) (length c.args.bytes.now - length c.loop.rest.now + c.in-Some.len) z)) c.split_at.ensures.back
          ∙ next_byte c.loop.text.items c.loop.rest.now (length c.args.bytes.now) c.loop.counter (length c.args.bytes.now - length c.loop.rest.now) c.in-Some.c c.in-Some.len _ c.loop-test.true (is_some (length c.loop.rest.now) c.is_empty.result c.is_empty.ensures c.if-is_empty.false) c.in-Some.ensures.value c.loop.invariant.same;
    }
