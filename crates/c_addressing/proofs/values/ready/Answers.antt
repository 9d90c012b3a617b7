use Rattle.std.proofs.Common.{List, ◌++◌, ◌∙◌, ap, refl}
use Rattle.eir_core.specs.declared.ops.Op.{Op}
use Rattle.c_addressing.proofs.HereLemmas.{added}
use Rattle.c_addressing.proofs.SameLemmas.{ready_is}
use Rattle.c_addressing.proofs.values.ready.Goals as goal

pub returns : goal.returns
returns c = λ x h. added c.args.out.now (record c.args.out.now { ops = c.put_ready.new.ops }) _ refl (c.in_ok-put_ready.ensures ∙ ap (λ (l : List Op). c.args.out.now.ops.items ++ l) (ready_is c.args.v x h)) refl
