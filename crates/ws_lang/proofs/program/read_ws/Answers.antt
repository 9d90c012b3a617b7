use Rattle.std.proofs.Common.{◌≡◌, ◌≤◌, ◌^◌, length, map, subst, arith}
use Rattle.std.proofs.lemmas.Result.{err_from_is_err_and}
use Rattle.std.proofs.lemmas.List.{length-map}
use Rattle.ws_lang.specs.OpInstruction.{instruction_of}
use Rattle.ws_lang.specs.Resolved.{resolved_in}
use Rattle.ws_lang.specs.Listing.{IsListing, AllRight, WalkRefused}
use Rattle.ws_lang.proofs.RuleLemmas.{whole_program, walk_is_refused}
use Rattle.ws_lang.proofs.program.read_ws.Goals as goal

pub returns-in_err-steps : goal.returns-in_err-steps
returns-in_err-steps c =
    let p = err_from_is_err_and c.from_residual-in_err-steps.result c.from_residual-in_err-steps.ensures.1 in
    let fault = c.in_err-steps.field-0.0 in
    rw (p.1, p.2) (walk_is_refused c.args.text.now (map instruction_of c.in_ok-ops.field-0.ops.items) c.in_ok-ops.field-0.starts.items fault c.in_ok-ops.ensures
    (subst (λ s. WalkRefused (map instruction_of c.in_ok-ops.field-0.ops.items) s fault) c.deref-2.ensures.value
    (subst (λ o. WalkRefused (map instruction_of o) c.deref-2.result.now fault) c.deref.ensures.value c.in_err-steps.ensures)))

pub invariant_of-result : goal.invariant_of-result
invariant_of-result c =
    let listing : IsListing c.args.text.now (map instruction_of c.in_ok-ops.field-0.ops.items) c.in_ok-ops.field-0.starts.items = c.in_ok-ops.ensures in
    let size = length-map c.in_ok-ops.field-0.ops.items instruction_of in
    let few : length (map instruction_of c.in_ok-ops.field-0.ops.items) ≤ length c.args.text.now = listing.few in
    let small : length c.args.text.now ≤ 2 ^ 29 = c.requires in
    let walked = subst (λ o. (c.in_ok-steps.steps.items ≡ map (resolved_in (map instruction_of o)) (map instruction_of o)) × AllRight (map instruction_of o) (length (map instruction_of o))) c.deref.ensures.value c.in_ok-steps.ensures in
    record {
      sound = whole_program c.args.text.now (map instruction_of c.in_ok-ops.field-0.ops.items) c.in_ok-ops.field-0.starts.items listing walked.1;
      steps = walked.0;
      few = omega arith;
    }

pub returns : goal.returns
returns c =
    let walked = subst (λ o. AllRight (map instruction_of o) (length (map instruction_of o))) c.deref.ensures.value c.in_ok-steps.ensures.1 in
    record {
      spelled = c.in_ok-ops.ensures.spelled;
      sound = whole_program c.args.text.now (map instruction_of c.in_ok-ops.field-0.ops.items) c.in_ok-ops.field-0.starts.items c.in_ok-ops.ensures walked;
    }
