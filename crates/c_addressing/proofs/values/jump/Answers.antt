use Rattle.std.proofs.Common.{List, ◌++◌, ◌∙◌, ap, refl}
use Rattle.eir_core.specs.declared.ops.Op.{Op}
use Rattle.c_addressing.proofs.HereLemmas.{added}
use Rattle.c_addressing.proofs.SameLemmas.{jump_is}
use Rattle.c_addressing.proofs.values.jump.Goals as goal

pub returns : goal.returns
returns c = λ n h. added c.args.out.now (record c.args.out.now { ops = c.put_jump.new.ops }) _ refl (c.in_ok-put_jump.ensures ∙ ap (λ (l : List Op). c.args.out.now.ops.items ++ l) (jump_is c.args.block n h)) refl
