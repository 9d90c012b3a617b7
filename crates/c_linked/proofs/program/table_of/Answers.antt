use Rattle.std.proofs.Common.{ap, refl, length, ◌∙◌, subst, sym, List, Option, None, drop, ◌-◌, arith}
use Rattle.std.proofs.lemmas.List.{length-replicate}
use Rattle.c_plain.specs.declared.code.Entry.{Entry}
use Rattle.c_linked.specs.Linked.{Tells}
use Rattle.c_linked.proofs.EntryLemmas.{none_yet, goes_on, all_seen}
use Rattle.c_linked.proofs.program.table_of.Goals as goal

pub loop-step-init : goal.loop-step-init
loop-step-init c =
    let none = c.in_ok-table.ensures in
    let cs = c.args.compiled.now in (
      ap (λ (l : List (Option Entry)). length l) none ∙ length-replicate c.args.count None,
      subst (λ (l : List (Option Entry)). Tells l c.args.count (drop (length cs - 0) cs)) (sym none) (none_yet c.args.count cs (length cs - 0) (omega arith)),
    )

pub loop-step-preserved : goal.loop-step-preserved
loop-step-preserved c =
    let cs = c.args.compiled.now in
    let before = c.loop-step.invariant in (
      c.put.ensures.length ∙ before.0,
      goes_on c.put.new.table.items c.args.count cs c.loop-step.step _ _ c.loop-step-test.true refl (c.put.ensures.more c.args.count (drop (length cs - c.loop-step.step) cs) before.0 before.1),
    )

pub returns : goal.returns
returns c = all_seen c.loop-step.table.items c.args.count c.args.compiled.now c.loop-step.step c.loop-step-test.false c.loop-step.invariant.1
