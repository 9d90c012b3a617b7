use Rattle.piet_lang.proofs.ExitLemmas.{further_first, further_second, level}
use Rattle.piet_lang.proofs.exits.is_before.Goals as goal

pub returns-then-is_further : goal.returns-then-is_further
returns-then-is_further c = further_first c.args.pointer c.args.to c.args.place c.args.other c.if-is_further.ensures

pub returns-then-is_further-2 : goal.returns-then-is_further-2
returns-then-is_further-2 c = further_second c.args.pointer c.args.to c.args.place c.args.other c.if-is_further-2.ensures

pub returns : goal.returns
returns c = level c.args.pointer c.args.to c.args.place c.args.other c.is_further-3.result c.if-is_further.ensures c.if-is_further-2.ensures c.is_further-3.ensures
