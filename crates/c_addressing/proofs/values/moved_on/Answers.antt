use Rattle.std.proofs.Common.{List, ◌++◌, ◌∙◌, ap, refl}
use Rattle.eir_core.specs.declared.ops.Op.{Op}
use Rattle.c_addressing.proofs.HereLemmas.{added}
use Rattle.c_lowered.specs.Operations.{moved_on}
use Rattle.c_addressing.proofs.values.moved_on.Goals as goal

pub returns : goal.returns
returns c = λ n h. added c.args.out.now (record c.args.out.now { ops = c.put_words.new.ops }) (moved_on n) refl (c.in_ok-put_words.ensures n h) refl
