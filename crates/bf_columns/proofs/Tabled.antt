-- The texts of a column follow their rules, case by case.
use Rattle.std.proofs.Common.{◌≡◌, true, nat_eq, cond, [], ◌∷◌, refl}
use Rattle.bf_columns.specs.Text.{comes, each_below}
use Rattle.bf_columns.specs.Told.{answers, pass_text, passed, differ_text, differing, differ_y_text, differing_y, answer_cells, none_text, some_text}
use Rattle.bf_columns.specs.Bodies.{follows, clear_text, clear_rule, copy_text, copy_rule, to_y_text, to_y_rule, to_x_text, to_x_rule, sum_text, sum_rule, sum_y_text, sum_y_rule, difference_text, difference_rule, difference_y_text, difference_y_rule, less_text, less_rule, more_text, more_rule, less_y_text, less_y_rule, more_y_text, more_y_rule}

pub clear_follows : follows clear_text clear_rule 4 1 20 ≡ true
clear_follows = refl

pub copy_follows : follows copy_text copy_rule 1 1 140 ≡ true
copy_follows = refl

pub to_y_follows : follows to_y_text to_y_rule 1 1 140 ≡ true
to_y_follows = refl

pub to_x_follows : follows to_x_text to_x_rule 1 1 140 ≡ true
to_x_follows = refl

pub sum_follows : follows sum_text sum_rule 1 2 345 ≡ true
sum_follows = refl

pub sum_y_follows : follows sum_y_text sum_y_rule 4 2 270 ≡ true
sum_y_follows = refl

pub difference_follows : follows difference_text difference_rule 1 2 300 ≡ true
difference_follows = refl

pub difference_y_follows : follows difference_y_text difference_y_rule 4 2 230 ≡ true
difference_y_follows = refl

pub less_follows : follows less_text less_rule 1 2 280 ≡ true
less_follows = refl

pub more_follows : follows more_text more_rule 1 2 280 ≡ true
more_follows = refl

pub less_y_follows : follows less_y_text less_y_rule 4 2 200 ≡ true
less_y_follows = refl

pub more_y_follows : follows more_y_text more_y_rule 4 2 200 ≡ true
more_y_follows = refl

pub pass_answers : answers pass_text passed 1 2 40 ≡ true
pass_answers = refl

pub differ_answers : answers differ_text differing 1 12 500 ≡ true
differ_answers = refl

pub differ_y_answers : answers differ_y_text differing_y 4 12 440 ≡ true
differ_y_answers = refl

pub none_answers : each_below 13 (λ n. comes answer_cells answer_cells none_text 2 (n ∷ 0 ∷ 0 ∷ []) (0 ∷ cond (nat_eq n 0) 1 0 ∷ 0 ∷ []) 100) ≡ true
none_answers = refl

pub some_answers : each_below 2 (λ n. comes answer_cells answer_cells some_text 2 (n ∷ 0 ∷ 0 ∷ []) (0 ∷ n ∷ 0 ∷ []) 100) ≡ true
some_answers = refl
