use Rattle.std.proofs.Common.{◌≡◌, ◌<◌, ◌-◌, ℕ, List, ◌∷◌, length, refl, ap, ◌∙◌, arith}
use Rattle.c_scopes.specs.declared.entity.Entity.TheVariants.{Object}
use Rattle.c_lower.proofs.ParameterLemmas.{none_numbered, one_numbered, all_numbered}
use Rattle.c_lower.proofs.parameters.number_parameters.Goals as goal

pub loop-step-init : goal.loop-step-init
loop-step-init c = none_numbered c.args.parameters.now c.args.end c.args.slots.now

pub loop-step-preserved : goal.loop-step-preserved
loop-step-preserved c =
    let ds = c.args.parameters.now in
    let end = c.args.end in
    let step = c.loop-step.step in
    let number : ℕ = end - 1 - step in
    let d = c.index-parameters-index.result in
    let within : step < length ds = omega arith in
    one_numbered ds end step (length ds - 1 - step) number c.args.slots.now c.loop-step.slots c.declare.new.self d c.requires within refl refl c.index-parameters-index.is c.loop-step.invariant
    (c.in_ok-declare.ensures.block ∙ ap (λ (n : List ℕ). (n, Object number) ∷ c.loop-step.slots.block) c.as_bytes.ensures) c.in_ok-declare.ensures.outer

pub returns-clause-block : goal.returns-clause-block
returns-clause-block c =
    let ds = c.args.parameters.now in
    let same : length ds ≡ c.loop-step.step = omega arith in
    all_numbered ds c.args.end c.loop-step.step c.args.slots.now c.loop-step.slots same c.loop-step.invariant

pub returns-clause-outer : goal.returns-clause-outer
returns-clause-outer c = c.loop-step.invariant.outer
