use Rattle.std.proofs.Common.{◌≡◌, ◌+◌, ◌-◌, ◌∙◌, ap, arith, drop, ◌++◌, []}
use Rattle.std.specs.Prelude.{suc}
use Rattle.c_plain.specs.Machine.{Open, Call, Piled, Machine}
use Rattle.c_plain.specs.Calls.{call_of}
use Rattle.c_parts.specs.Parts.{machine_of}
use Rattle.c_parts.proofs.Leaving.{begins}
use Rattle.c_parts.proofs.calls.begin.Goals as goal

pub returns : goal.returns
returns c =
    let after : c.args.parts.now.at + 1 ≡ suc c.args.parts.now.at = omega arith in
    let same : Call (c.args.parts.now.at + 1) c.callers.result c.callers-2.result c.args.entry.result c.next.result c.args.parts.now.charge ≡ call_of (machine_of c.args.parts.now) c.args.entry = cc (after, c.callers.ensures, c.callers-2.ensures, c.next.ensures.next) in
    let V : Piled → Piled = λ p. record { mine = []; below = p.mine ++ p.below } in
    let W : Machine → Piled = λ m. record { mine = []; below = drop c.args.count m.values.mine ++ m.values.below } in
    begins (machine_of c.args.parts.now) (machine_of c.open_call.new.parts) c.args.entry c.args.count c.min-used.result (c.args.entry.params - c.min-used.result) c.in-Some.charge _ c.args.parts.now.arguments.items c.open.new.self
    (omega (arith, c.args.parts.now.arguments.ok.0)) (omega arith) c.in-Some.ensures.0 c.in-Some.ensures.1 same c.in-Ok.ensures.ok
    (c.open.ensures.values ∙ (ap V c.drop_many.ensures ∙ ap W c.in-Ok.ensures.ok))
