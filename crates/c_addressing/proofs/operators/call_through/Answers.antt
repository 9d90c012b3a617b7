use Rattle.std.proofs.Common.{List, ◌++◌, ◌∙◌, ap, refl}
use Rattle.eir_core.specs.declared.ops.Op.{Op}
use Rattle.c_addressing.proofs.HereLemmas.{added}
use Rattle.c_addressing.proofs.SameLemmas.{call_through_is}
use Rattle.c_addressing.proofs.operators.call_through.Goals as goal

pub returns : goal.returns
returns c = λ m n h i. added c.args.out.now (record c.args.out.now { ops = c.put_call_through.new.ops }) _ refl (c.in_ok-put_call_through.ensures ∙ ap (λ (l : List Op). c.args.out.now.ops.items ++ l) (call_through_is c.args.d c.args.back m n h i)) refl
