use Rattle.c_landing.proofs.Sums.{sum_gives, difference_gives}
use Rattle.c_landing.proofs.Compared.{true_word}
use Rattle.c_landing.proofs.laws.operators_on_words.Goals as goal

pub returns : goal.returns
returns c = λ S w bs st m d n agrees r. record {
  sums = λ tags t u x y a b nt nu mx my. sum_gives S w agrees bs st m d n r tags t u x y a b nt nu mx my;
  differences = λ tags t u x y a b nt mx my. difference_gives S w agrees bs st m d n r tags t u x y a b nt mx my;
  truth = λ x a i h. true_word S w agrees bs st m d n r x a i h;
}
