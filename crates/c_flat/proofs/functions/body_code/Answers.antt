use Rattle.std.proofs.Common.{refl}
use Rattle.c_syntax.specs.View.{stmt_of}
use Rattle.c_types.specs.Units.{body_scope}
use Rattle.c_signatures.proofs.BlockLemmas.{body_then, body_may_end}
use Rattle.c_flat.proofs.FunctionLemmas.{body_emits}
use Rattle.c_flat.proofs.functions.body_code.Goals as goal

pub statement-requires : goal.statement-requires
statement-requires c = let h = c.requires in (body_scope h.0 c.args.name.now h.1, c.in_ok-mark.ensures.holds h.0 h.1 h.2 h.3)

pub leave_body-requires : goal.leave_body-requires
leave_body-requires c =
    let d0 = c.args.here.now.declared in
    let d2 = c.statement.new.here.declared in
    body_may_end d0 d2 c.in_ok-mark.mark (body_then d0 c.enter_body.new.declared d2 c.in_ok-mark.ensures.inside c.in_ok-statement.ensures.goes.keeps.beside.declared) c.in_ok-mark.ensures.mark

pub returns-clause-code : goal.returns-clause-code
returns-clause-code c =
    let h0 = c.args.here.now in
    body_emits c.args.types.now c.statement.new.types h0 (record h0 { declared = c.enter_body.new.declared }) c.statement.new.here c.args.f.now c.args.kinds.now c.args.out.now c.statement.new.out c.end_function.new.out c.in_ok-block.block c.statement.new.block
    c.args.name.now c.args.count (stmt_of c.args.body.now) c.in_ok-mark.ensures.holds refl c.in_ok-block.ensures.next c.in_ok-block.ensures.free c.in_ok-statement.ensures c.in_ok-end_function.ensures

pub returns-clause-same : goal.returns-clause-same
returns-clause-same c =
    let d0 = c.args.here.now.declared in
    c.in_ok-leave_body.ensures d0 (body_then d0 c.enter_body.new.declared c.statement.new.here.declared c.in_ok-mark.ensures.inside c.in_ok-statement.ensures.goes.keeps.beside.declared) c.in_ok-mark.ensures.mark

pub returns-clause-grows : goal.returns-clause-grows
returns-clause-grows c = c.in_ok-statement.ensures.goes.keeps.grows

pub returns-clause-tags : goal.returns-clause-tags
returns-clause-tags c = c.in_ok-statement.ensures.goes.keeps.tags
