use Rattle.std.proofs.Common.{List, ◌++◌, ◌∙◌, ap, refl}
use Rattle.eir_core.specs.declared.ops.Op.{Op}
use Rattle.c_addressing.proofs.HereLemmas.{added}
use Rattle.c_addressing.proofs.SameLemmas.{save_is}
use Rattle.c_addressing.proofs.values.save.Goals as goal

pub returns : goal.returns
returns c = λ n h. added c.args.out.now (record c.args.out.now { ops = c.put_save.new.ops }) _ refl (c.in_ok-put_save.ensures ∙ ap (λ (l : List Op). c.args.out.now.ops.items ++ l) (save_is c.args.d n h)) refl
