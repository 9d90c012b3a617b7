use Rattle.c_lower_literals.proofs.GatherLemmas.{text_added}
use Rattle.c_lower_literals.proofs.expressions.add_text.Goals as goal

pub returns : goal.returns
returns c = text_added c.args.texts.now.items c.push.new.self.items c.args.text c.in_ok-push.ensures.items
