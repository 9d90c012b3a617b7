use Rattle.std.proofs.Common.{List, ◌++◌, ◌∙◌, ap, refl}
use Rattle.eir_core.specs.declared.ops.Op.{Op}
use Rattle.c_addressing.proofs.HereLemmas.{added}
use Rattle.c_addressing.proofs.SameLemmas.{update_is}
use Rattle.c_addressing.proofs.operators.update_by.Goals as goal

pub returns : goal.returns
returns c = λ x h. added c.args.out.now (record c.args.out.now { ops = c.put_update_by.new.ops }) _ refl (c.in_ok-put_update_by.ensures ∙ ap (λ (l : List Op). c.args.out.now.ops.items ++ l) (update_is c.args.op c.args.v x h)) refl
