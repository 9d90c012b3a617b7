use Rattle.std.proofs.Common.{Vec, Global, sym, subst}
use Rattle.std.proofs.lemmas.Result.{err_from_is_err_and}
use Rattle.std.specs.Prelude.{Result}
use Rattle.c_syntax.specs.declared.token.Token.{Token}
use Rattle.c_syntax.specs.Scan.{raw_tokens}
use Rattle.c_prep.specs.declared.fault.PrepFault.{PrepFault}
use Rattle.c_prep.specs.Outcome.{Fails, Answers}
use Rattle.c_prep.specs.Prepared.{of_raws, prepared}
use Rattle.c_prep.proofs.Obeying.{as_err}
use Rattle.c_prep.proofs.Preparing.{lexing_fails, reading_fails, answered}
use Rattle.c_prep.proofs.whole.prepare.Goals as goal

pub returns-in-Err : goal.returns-in-Err
unfolding prepared
returns-in-Err c = subst (λ (e : PrepFault). Fails e (of_raws (raw_tokens c.args.text.now))) (sym c.refusal_of.ensures) (lexing_fails c.in-Err.fault (raw_tokens c.args.text.now) c.in-Err.ensures)

pub returns-in_err-out : goal.returns-in_err-out
unfolding prepared
returns-in_err-out c =
    subst (λ (r : Result (Vec Token Global) PrepFault). Answers (λ (v : Vec Token Global). v.items) r (of_raws (raw_tokens c.args.text.now))) (sym (as_err c.from_residual.result c.in_err-out.field-0.0 (err_from_is_err_and c.from_residual.result c.from_residual.ensures.1)))
    (reading_fails c.in_err-out.field-0.0 c.in-Ok.raws.items c.as_slice.result.now (raw_tokens c.args.text.now) c.in-Ok.ensures c.as_slice.ensures.value c.in_err-out.ensures)

pub returns : goal.returns
unfolding prepared
returns c =
    answered (λ (v : Vec Token Global). v.items) c.into_tokens.result c.in_ok-out.out c.in-Ok.raws.items c.as_slice.result.now (raw_tokens c.args.text.now) c.in-Ok.ensures c.as_slice.ensures.value c.in_ok-out.ensures c.into_tokens.ensures
