use Rattle.eir_text.specs.Spells.{op_for}
use Rattle.eir_text.proofs.TextLabels.{op_for_operates, text_labels_name_what_follows, text_blocks_follow}
use Rattle.eir_text.proofs.laws.text_labels_name_what_follows.Goals as goal

pub returns : goal.returns
returns c = record {
  labels = λ values. text_labels_name_what_follows (op_for values) (op_for_operates values);
  blocks = λ values. text_blocks_follow (op_for values);
}
