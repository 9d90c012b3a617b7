use Rattle.std.proofs.Common.{List, ◌++◌, ◌∙◌, ap, refl}
use Rattle.eir_core.specs.declared.ops.Op.{Op}
use Rattle.c_addressing.proofs.HereLemmas.{added}
use Rattle.c_addressing.proofs.SameLemmas.{load_is}
use Rattle.c_addressing.proofs.values.load.Goals as goal

pub returns : goal.returns
returns c = λ x h. added c.args.out.now (record c.args.out.now { ops = c.put_load.new.ops }) _ refl (c.in_ok-put_load.ensures ∙ ap (λ (l : List Op). c.args.out.now.ops.items ++ l) (load_is c.args.r c.args.v x h)) refl
