use Rattle.std.proofs.Common.{◌≡◌, ◌+◌, ◌-◌, ◌<◌, ◌≤◌, length, drop, unwrap_or, sym, ap, subst, ◌∙◌, arith, rules}
use Rattle.std.proofs.lemmas.Option.{unwrap_or-slice_get}
use Rattle.wasm_parts.specs.declared.jumps.Jump.{Jump}
use Rattle.wasm_parts.specs.Jumps.{Leads}
use Rattle.wasm_parts.proofs.JumpLemmas.{open_before, filled_before}
use Rattle.wasm_parts.proofs.jumps.jumps_of.Goals as goal

pub loop-place-preserved : goal.loop-place-preserved
loop-place-preserved c =
    let code = c.args.code.now in
    let place = c.loop-place.place in
    let before = c.loop-place.place - 1 in
    let last : Jump = record { past = length code; other = length code } in
    let next : place ≡ before + 1 = omega (arith, c.loop-place-test.true) in
    let high : place ≤ length code = omega (arith, c.loop-place.auto.place) in
    let within : before < length code = omega arith in
    let jump = c.unwrap_or.ensures ∙ (ap (λ o. unwrap_or o last) c.get.ensures ∙ unwrap_or-slice_get c.loop-place.blocks 0 last) in
    let leads : Leads code 0 (drop place code) c.unwrap_or.result = subst (λ (j : Jump). Leads code 0 (drop place code) j) (sym jump) (c.loop-place.invariant.blocks 0) in
    record {
      blocks = open_before code place before c.index-code-place.result last c.loop-place.blocks c.enclose.new.blocks next within c.index-code-place.is c.loop-place.invariant.blocks c.in_ok-enclose.ensures;
      filled = filled_before code c.loop-place.jumps.items place before c.unwrap_or.result next c.loop-place.invariant.len within leads c.loop-place.invariant.filled;
      len = search rules;
    }
