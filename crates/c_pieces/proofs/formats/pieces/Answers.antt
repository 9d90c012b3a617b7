use Rattle.std.proofs.Common.{get_or, refl, ap, subst}
use Rattle.std.specs.Prelude.{Option}
use Rattle.c_code.specs.Code as code
use Rattle.c_plain.specs.declared.instruction.Instruction.TheVariants as plain
use Rattle.c_emitted.proofs.EmitLemmas.{on_ok}
use Rattle.c_operands.proofs.FormatLemmas.{drop_byte}
use Rattle.std.proofs.lemmas.List.{drop_all}
use Rattle.c_pieces.specs.declared.formats.Left.{Left}
use Rattle.c_pieces.specs.Called.{Passes}
use Rattle.c_pieces.proofs.CallLemmas.{goes_first, passed_on, stuck, all_passed}
use Rattle.c_pieces.proofs.formats.pieces.Goals as goal

pub loop-byte-init : goal.loop-byte-init
loop-byte-init c = goes_first c.args.out.now c.args.format.now c.args.count _ refl

pub loop-byte-preserved : goal.loop-byte-preserved
loop-byte-preserved c =
    let l = c.loop-byte in
    let format = c.args.format.now in
    let byte = get_or format l.byte-index 0 in
    passed_on c.args.out.now l.out c.passed.new.out format c.args.count l.byte-index byte l.left c.in-Some.behind l.invariant (drop_byte format l.byte-index c.loop-byte-test.true)
    (subst (λ (o : Option Left). Passes l.out c.passed.new.out l.left.percent byte l.left.count o) c.in-Some.is c.in_ok-next.ensures)

pub returns-in-None : goal.returns-in-None
returns-in-None c =
    let l = c.loop-byte in
    let format = c.args.format.now in
    let byte = get_or format l.byte-index 0 in
    stuck c.args.out.now l.out c.passed.new.out format c.args.count l.byte-index byte l.left l.invariant (drop_byte format l.byte-index c.loop-byte-test.true)
    (subst (λ (o : Option Left). Passes l.out c.passed.new.out l.left.percent byte l.left.count o) c.in-None.is c.in_ok-next.ensures)

pub returns : goal.returns
returns c =
    let l = c.loop-byte in
    on_ok c.add.result (all_passed c.args.out.now l.out c.add.new.self c.args.format.now c.args.count l.byte-index l.left l.invariant (drop_all l.byte-index c.args.format.now c.loop-byte-test.false))
    (c.add.ensures (code.Printed l.left.count) (record { means = λ names p e. ap plain.Printed c.in_ok-number.ensures }))
