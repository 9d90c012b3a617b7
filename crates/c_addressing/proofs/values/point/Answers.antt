use Rattle.std.proofs.Common.{List, ◌++◌, ◌∙◌, ap, refl}
use Rattle.eir_core.specs.declared.ops.Op.{Op}
use Rattle.c_addressing.proofs.HereLemmas.{added}
use Rattle.c_addressing.proofs.SameLemmas.{point_is}
use Rattle.c_addressing.proofs.values.point.Goals as goal

pub returns : goal.returns
returns c = λ l h. added c.args.out.now (record c.args.out.now { ops = c.put_point.new.ops }) _ refl (c.in_ok-put_point.ensures ∙ ap (λ (l : List Op). c.args.out.now.ops.items ++ l) (point_is c.args.to l h)) refl
