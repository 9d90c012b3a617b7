use Rattle.std.proofs.lemmas.Result.{err_from_is_err_and}
use Rattle.ws_lang.specs.Cursor.{left}
use Rattle.ws_lang.specs.Instruction.{Push, Copy, Slide}
use Rattle.ws_lang.proofs.ReadLemmas.{number_fault}
use Rattle.ws_lang.proofs.read.read_parameter.Goals as goal

pub returns-in_err-read_number-in-Push-clause-answer : goal.returns-in_err-read_number-in-Push-clause-answer
returns-in_err-read_number-in-Push-clause-answer c =
    let p = err_from_is_err_and c.from_residual.result c.from_residual.ensures.1 in
    rw (p.1, p.2, c.in-Push.is) (number_fault Push (left c.args.cursor.now) c.args.start c.in_err-read_number-in-Push.field-0.0 (λ n k. k.0) c.in_err-read_number-in-Push.ensures.answer)

pub returns-in_err-read_number-in-Copy-clause-answer : goal.returns-in_err-read_number-in-Copy-clause-answer
returns-in_err-read_number-in-Copy-clause-answer c =
    let p = err_from_is_err_and c.from_residual-in_err-read_number-in-Copy.result c.from_residual-in_err-read_number-in-Copy.ensures.1 in
    rw (p.1, p.2, c.in-Copy.is) (number_fault Copy (left c.args.cursor.now) c.args.start c.in_err-read_number-in-Copy.field-0.0 (λ n k. k.0) c.in_err-read_number-in-Copy.ensures.answer)

pub returns-in_err-read_number-in-Slide-clause-answer : goal.returns-in_err-read_number-in-Slide-clause-answer
returns-in_err-read_number-in-Slide-clause-answer c =
    let p = err_from_is_err_and c.from_residual-in_err-read_number-in-Slide.result c.from_residual-in_err-read_number-in-Slide.ensures.1 in
    rw (p.1, p.2, c.in-Slide.is) (number_fault Slide (left c.args.cursor.now) c.args.start c.in_err-read_number-in-Slide.field-0.0 (λ n k. k.0) c.in_err-read_number-in-Slide.ensures.answer)
