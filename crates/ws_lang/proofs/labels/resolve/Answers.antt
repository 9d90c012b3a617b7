use Rattle.std.proofs.Common.{◌≡◌, ◌≤◌, length, map, refl, ap, ◌∙◌, arith}
use Rattle.std.proofs.lemmas.Result.{err_from_is_err_and}
use Rattle.std.proofs.lemmas.List.{take_all, length-map}
use Rattle.ws_lang.specs.OpInstruction.{instruction_of}
use Rattle.ws_lang.specs.Resolved.{resolved_in}
use Rattle.ws_lang.proofs.WalkLemmas.{right_more, resolved_more, walk_refused}
use Rattle.ws_lang.proofs.labels.resolve.Goals as goal

pub returns-in_err-to : goal.returns-in_err-to
returns-in_err-to c =
    let p = err_from_is_err_and c.from_residual-in_err-to.result c.from_residual-in_err-to.ensures.1 in
    rw (p.1, p.2) (walk_refused c.args.ops.now c.loop-place.place _ c.index-ops-place.result c.args.starts.now c.in_err-to.field-0.0 c.loop-place-test.true c.index-ops-place.is refl c.loop-place.invariant.right (c.in_err-to.ensures (map instruction_of c.args.ops.now) c.in_ok-table.ensures))

pub loop-place-preserved : goal.loop-place-preserved
loop-place-preserved c =
    let answer = c.in_ok-to.ensures (map instruction_of c.args.ops.now) c.in_ok-table.ensures in
    record {
      right = right_more c.args.ops.now c.loop-place.place c.index-ops-place.result c.loop-place-test.true c.index-ops-place.is c.loop-place.invariant.right answer.1;
      done = resolved_more c.args.ops.now c.loop-place.place c.index-ops-place.result c.loop-place.steps.items c.push.new.self.items c.in_ok-to.to c.with_target.result c.loop-place-test.true c.index-ops-place.is c.loop-place.invariant.done answer.0 c.with_target.ensures c.in_ok-push.ensures.items;
    }

pub returns : goal.returns
returns c =
    let code = map instruction_of c.args.ops.now in
    let size : length code ≡ length c.args.ops.now = length-map c.args.ops.now instruction_of in
    let le : length code ≤ c.loop-place.place = omega arith in
    (c.loop-place.invariant.done ∙ ap (map (resolved_in code)) (take_all c.loop-place.place code le), λ k d below. c.loop-place.invariant.right k d (omega arith))
