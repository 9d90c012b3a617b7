use Rattle.std.proofs.lemmas.Result.{on_ok_weaker}
use Rattle.bf_columns.proofs.NotedSteps.{question_noted}
use Rattle.bf_columns.proofs.operation.put_question_body.Goals as goal

pub returns : goal.returns
returns c = on_ok_weaker c.put_text.result (question_noted c.args.question c.args.register c.args.other c.args.code.now.items c.put_text.new.code.items c.text.result.now c.text.ensures) c.put_text.ensures
