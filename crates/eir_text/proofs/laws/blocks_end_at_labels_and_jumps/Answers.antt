use Rattle.std.proofs.Common.{[]}
use Rattle.eir_text.specs.Spells.{op_for}
use Rattle.eir_text.proofs.TextLabels.{op_for_operates}
use Rattle.eir_text.proofs.BlockEnds.{blocks_operations, blocks_filled, blocks_apart, blocks_together}
use Rattle.eir_text.proofs.laws.blocks_end_at_labels_and_jumps.Goals as goal

pub returns : goal.returns
returns c = record {
  operations = λ values lines. blocks_operations (op_for values) lines [];
  filled = λ values lines. blocks_filled (op_for values) (op_for_operates values) lines [];
  apart = λ values. blocks_apart (op_for values) (op_for_operates values);
  together = λ values. blocks_together (op_for values) (op_for_operates values);
}
