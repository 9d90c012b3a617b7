use Rattle.std.proofs.Common.{◌-◌, ◌++◌, ◌∷◌, [], ap, sym, ◌∙◌, length, arith}
use Rattle.c_syntax.proofs.Loops.{is_none, is_some, scan_end, scan_none, part_follows, part_stops}
use Rattle.c_syntax.proofs.scan.scan.Goals as goal
use Rattle.c_syntax.proofs.scan.scan.Goals.{else-loop-test, then-loop-test+then-is_empty}

pub returns-in-None : goal.returns-in-None
returns-in-None c =
    part_stops c.loop.found.items c.add_pieces.new.pieces.items (length c.args.text.now) c.loop.counter c.loop.pos c.in_ok-lexeme.len c.loop.gap c.loop.rest.now c.split_at.result.1.now c.in_ok-lexeme.lexeme c.in_ok-next.field-0 _
    c.loop-test.true (is_some (length c.loop.rest.now) c.is_empty.result c.is_empty.ensures c.if-is_empty.false) c.in_ok-lexeme.ensures.value c.split_at.ensures.back c.in_ok-next.ensures.0 c.in_ok-next.ensures.1 c.in-None.is c.loop.invariant.same

pub loop-preserved : goal.loop-preserved
loop-preserved c =
    record {
      place = omega (arith, c.loop.invariant.place, c.split_at.ensures.back_len, c.in_ok-lexeme.ensures.within);
      same = part_follows c.loop.found.items c.add_pieces.new.pieces.items (length c.args.text.now) c.loop.counter c.loop.pos c.in_ok-lexeme.len c.loop.gap c.in-Some.next c.loop.rest.now c.split_at.result.1.now c.in_ok-lexeme.lexeme c.in_ok-next.field-0 _
          c.loop-test.true (is_some (length c.loop.rest.now) c.is_empty.result c.is_empty.ensures c.if-is_empty.false) c.in_ok-lexeme.ensures.value c.split_at.ensures.back c.in_ok-next.ensures.0 c.in_ok-next.ensures.1 c.in-Some.is c.loop.invariant.same;
    }

pub returns : goal.returns
returns c =
    c.in_ok-push_back.ensures.items ∙ ap (λ p. c.loop.found.items ++ p ∷ []) c.end_piece.ensures
    ∙ elim c.loop-test.branch [
      | else-loop-test w ↦ sym (ap (λ ps. c.loop.found.items ++ ps) (scan_none (length c.args.text.now) c.loop.counter c.loop.pos c.loop.gap c.loop.rest.now w.loop-test.false))
      | then-loop-test+then-is_empty w ↦ sym (ap (λ ps. c.loop.found.items ++ ps) (scan_end (length c.args.text.now - c.loop.counter) c.loop.pos c.loop.gap c.loop.rest.now (is_none (length c.loop.rest.now) w.is_empty.result w.is_empty.ensures w.if-is_empty.true)))
    ] ∙ c.loop.invariant.same
