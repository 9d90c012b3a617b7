use Rattle.std.proofs.Common.{◌≡◌, ◌<◌, ℕ, List, length, refl, sym, subst}
use Rattle.std.proofs.lemmas.List.{drop_all}
use Rattle.c_code.specs.Code as code
use Rattle.c_plain.specs.declared.instruction.Instruction.TheVariants as plain
use Rattle.c_emitted.proofs.EmitLemmas.{on_ok, both}
use Rattle.c_aside.proofs.AsideLemmas.{drop_at}
use Rattle.c_aside.proofs.CaseLemmas.{jumps_begun, jumps_left, jump_more, jumps_done}
use Rattle.std.proofs.Common.{drop}
use Rattle.c_aside.specs.Cases.{labels_of}
use Rattle.c_aside.proofs.cases.case_jumps.Goals as goal

pub loop-label-init : goal.loop-label-init
loop-label-init c = jumps_begun c.args.out.now c.args.labels.now c.args.otherwise c.in_ok-left.left (c.in_ok-left.ensures c.args.otherwise)

pub case_jump-requires : goal.case_jump-requires
case_jump-requires c =
    let l = c.loop-label in
    subst (λ (n : ℕ). 0 < n) (sym l.invariant.left_over) (jumps_left (drop l.label-index c.args.labels.now) c.args.otherwise)

pub loop-label-preserved : goal.loop-label-preserved
loop-label-preserved c =
    let l = c.loop-label in
    let ls = c.args.labels.now in
    jump_more c.args.out.now l.out c.case_jump.new.out ls c.args.otherwise l.label-index l.left c.in_ok-left-2.left c.label-item.result l.invariant (drop_at ls l.label-index c.label-item.result c.loop-label-test.true c.label-item.is) c.in_ok-left-2.ensures

pub returns : goal.returns
returns c =
    let l = c.loop-label in
    let ls = c.args.labels.now in
    on_ok c.add-2.result (λ e. jumps_done c.args.out.now l.out c.add-2.new.self ls c.args.otherwise l.label-index l.left l.invariant (drop_all l.label-index ls c.loop-label-test.false) (both (c.in_ok-add.ensures code.Drop (record { means = λ names p f. refl })) e))
    (c.add-2.ensures (code.Jump c.args.otherwise) (record { means = λ names p f. refl }))
