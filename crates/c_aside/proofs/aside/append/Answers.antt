use Rattle.std.proofs.Common.{◌≡◌, List, length, get_or, refl, subst, ap, ◌∙◌, take}
use Rattle.std.proofs.lemmas.List.{take_all}
use Rattle.c_plain.specs.declared.instruction.Instruction.{Instruction}
use Rattle.c_aside.specs.Aside.{Appends}
use Rattle.c_aside.proofs.AsideLemmas.{appends_none, appends_one, take_at}
use Rattle.c_aside.proofs.aside.append.Goals as goal

pub loop-instruction-init : goal.loop-instruction-init
loop-instruction-init c = appends_none c.args.out.now

pub loop-instruction-preserved : goal.loop-instruction-preserved
loop-instruction-preserved c =
    let l = c.loop-instruction in
    let items = c.deref-instruction-items.result.now in
    appends_one c.args.out.now l.out (record l.out { code = c.push.new.self }) (take l.instruction-index items) _ c.instruction-item.result l.invariant c.in_ok-push.ensures.ok (record { tables = refl; stays = record { owner = refl; objects = refl; files = refl }; before = refl })
    (take_at items l.instruction-index c.instruction-item.result c.loop-instruction-test.true c.instruction-item.is)

pub returns : goal.returns
returns c =
    let l = c.loop-instruction in
    let items = c.deref-instruction-items.result.now in
    subst (λ (js : List Instruction). Appends c.args.out.now l.out js) (take_all l.instruction-index items c.loop-instruction-test.false ∙ (c.deref-instruction-items.ensures.value ∙ c.instructions-instructions.ensures.instructions)) l.invariant
