use Rattle.std.proofs.Common.{List, ◌++◌, ◌∙◌, ap, refl}
use Rattle.eir_core.specs.declared.ops.Op.{Op}
use Rattle.c_addressing.proofs.HereLemmas.{added}
use Rattle.c_addressing.proofs.SameLemmas.{call_is}
use Rattle.c_addressing.proofs.operators.call.Goals as goal

pub returns : goal.returns
returns c = λ m n k h i j. added c.args.out.now (record c.args.out.now { ops = c.put_call.new.ops }) _ refl (c.in_ok-put_call.ensures ∙ ap (λ (l : List Op). c.args.out.now.ops.items ++ l) (call_is c.args.d c.args.back c.args.entry m n k h i j)) refl
