use Rattle.std.proofs.Common.{◌≤◌, length, refl, sym, subst, arith}
use Rattle.std.proofs.lemmas.Result.{err_from_is_err_and}
use Rattle.std.specs.Prelude.{Result}
use Rattle.c_prep.specs.declared.fault.PrepFault.{PrepFault}
use Rattle.c_prep.specs.declared.output.Output.{Output}
use Rattle.c_prep.specs.Lines.{lines, acts_in, first_state}
use Rattle.c_prep.specs.Views.{size_of, ReadsActs}
use Rattle.c_prep.proofs.Obeying.{as_err}
use Rattle.c_prep.proofs.Reading.{read_none, line_split, read_next, read_fails, read_all, empty}
use Rattle.c_prep.proofs.lines.read_lines.Goals as goal

pub loop-rest-init : goal.loop-rest-init
loop-rest-init c = read_none _ _ _ c.new-context.ensures.size c.new-context.ensures.state c.new-out.ensures

pub returns-in_err-read_line : goal.returns-in_err-read_line
returns-in_err-read_line c =
    subst (λ (r : Result Output PrepFault). ReadsActs r (acts_in (length c.args.raws.now) first_state (lines c.args.raws.now))) (sym (as_err c.from_residual.result c.in_err-read_line.field-0.0 (err_from_is_err_and c.from_residual.result c.from_residual.ensures.1))) (
    read_fails c.args.raws.now c.loop-rest.rest.now c.split_at.result.0.now c.split_at.result.1.now c.loop-rest.context c.loop-rest.out c.in_err-read_line.field-0.0
    (line_split c.loop-rest.rest.now _ c.split_at.result.0.now c.split_at.result.1.now c.line_len.result c.in-len1-up.len_at_least refl c.line_len.ensures.value c.split_at.ensures.front c.split_at.ensures.back)
    (c.in_err-read_line.ensures.state (length c.args.raws.now) (omega (arith, c.loop-rest.invariant.small))) c.loop-rest.invariant
    )

pub loop-rest-preserved : goal.loop-rest-preserved
loop-rest-preserved c =
    let fits : size_of c.loop-rest.context.table ≤ length c.args.raws.now = omega (arith, c.loop-rest.invariant.small) in
    read_next c.args.raws.now c.loop-rest.rest.now c.split_at.result.0.now c.split_at.result.1.now c.loop-rest.context c.read_line.new.context c.loop-rest.out c.read_line.new.out (tt {0})
    (line_split c.loop-rest.rest.now _ c.split_at.result.0.now c.split_at.result.1.now c.line_len.result c.in-len1-up.len_at_least refl c.line_len.ensures.value c.split_at.ensures.front c.split_at.ensures.back)
    (omega (arith, c.split_at.ensures.back_len, c.in-len1-up.len_at_least)) c.in_ok-read_line.ensures.size (c.in_ok-read_line.ensures.state (length c.args.raws.now) fits) (c.in_ok-read_line.ensures.acts (length c.args.raws.now) fits) c.loop-rest.invariant

pub returns : goal.returns
returns c = read_all c.args.raws.now c.loop-rest.context c.loop-rest.out c.loop-rest.rest.now (empty c.loop-rest.rest.now c.in_default.len_below) c.in-None.ensures c.loop-rest.invariant
