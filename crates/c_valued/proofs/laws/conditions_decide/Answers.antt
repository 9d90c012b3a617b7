use Rattle.c_valued.proofs.Deciding.{tested_decides, compared_decides, denied_decides, both_decide, either_decides, choice_lands, truth_word_lands}
use Rattle.c_valued.proofs.laws.conditions_decide.Goals as goal

pub returns : goal.returns
returns c = λ S d n. record {
  value = λ w code block c run wanted target agrees lt l. tested_decides S w agrees code block d n c run wanted target lt l;
  comparison = λ code block c run test first second wanted target lt l. compared_decides S code block d n c run test first second wanted target lt l;
  denied = λ code block c run wanted target h. denied_decides S code block d n c run wanted target h;
  both = λ a b block c1 c2 ra rb wanted target left e h k. both_decide S a b block d n c1 c2 ra rb wanted target left e h k;
  either = λ a b block c1 c2 ra rb wanted target left e h k. either_decides S a b block d n c1 c2 ra rb wanted target left e h k;
  branches = λ test one other block c0 c1 c2 t e ra rb rc it ie lt h l k. choice_lands S test one other block d n c0 c1 c2 t e ra rb rc it ie lt h l k;
  word = λ test block c k run e lt h. truth_word_lands S test block d n c k run e lt h;
}
