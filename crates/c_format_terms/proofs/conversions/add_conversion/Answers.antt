use Rattle.c_types.specs.Operands.{conversions_behind}
use Rattle.std.proofs.Common.{false}
use Rattle.c_format_terms.proofs.ConversionLemmas.{letter_put}
use Rattle.c_format_terms.proofs.conversions.add_conversion.Goals as goal

pub returns : goal.returns
returns c = λ format. letter_put c.args.letters.now.items c.args.letter c.push.new.self.items (conversions_behind false format) c.in_ok-push.ensures.items
