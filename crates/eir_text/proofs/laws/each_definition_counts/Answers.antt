use Rattle.eir_text.proofs.EachDefinition.{each_definition_counts}
use Rattle.eir_text.proofs.laws.each_definition_counts.Goals as goal

pub returns : goal.returns
returns c = each_definition_counts
