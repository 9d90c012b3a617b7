-- The texts at one column, and what each makes of its digits. A row is the register's digit, another register's, x, y, z, the left column's z and the guide.
use Rattle.std.specs.Prelude.{ℕ, zero, suc, ◌+◌, ◌-◌, ◌/◌, ◌%◌, nat_lt, Bool, cond, List, [], ◌∷◌}
use Rattle.bf_columns.specs.Text.{Text, comes, each_below}
use Rattle.bf_columns.specs.Text.Text.{Done, Go, Up, Down, While}

abbrev pub ups : ℕ → Text → Text
ups zero t = t
ups (suc n) t = Up (ups n t)

abbrev pub downs : ℕ → Text → Text
downs zero t = t
downs (suc n) t = Down (downs n t)

-- a cell goes down to 0, and each time a text runs
abbrev pub times : ℕ → (Text → Text) → Text → Text
times i body t = Go i (While (Down (body (Go i Done))) t)

abbrev pub clears : ℕ → Text → Text
clears i t = Go i (While (Down Done) t)

-- a cell goes to another, by `Up`, or is taken from it, by `Down`
abbrev pub moves : ℕ → ℕ → (Text → Text) → Text → Text
moves i k sign t = times i (λ t. Go k (sign t)) t

-- the same with the cell kept, by a cell to spare
abbrev pub copies : ℕ → ℕ → ℕ → (Text → Text) → Text → Text
copies i k spare sign t = times i (λ t. Go k (sign (Go spare (Up t)))) (moves spare i Up t)

-- a unit of a cell goes to x, and more follows
abbrev pub quarter : ℕ → (Text → Text) → Text → Text
quarter i more t = times i (λ t. Go 2 (Up (more t))) t

-- what is over from four stays, and the left column's z changes by one where there was a four
abbrev pub settles : ℕ → (Text → Text) → Text → Text
settles i sign t =
    quarter i (quarter i (quarter i (times i (λ t. Go 2 (downs 3 (Go 5 (sign (moves i 2 Up t)))))))) (moves 2 i Up t)

abbrev pub home : Text
home = Go 6 Done

-- what becomes of the digit, of x and of y, and what is carried to the left, by the digit, the other register's, y and z
pub record Rule : Type 0 where
  pub own : ℕ → ℕ → ℕ → ℕ → ℕ
  pub spare : ℕ → ℕ → ℕ → ℕ → ℕ
  pub lane : ℕ → ℕ → ℕ → ℕ → ℕ
  pub carry : ℕ → ℕ → ℕ → ℕ → ℕ

-- between which cells of a frame each cell of a row stands
abbrev pub lows : List ℕ
lows = 10 ∷ 10 ∷ 13 ∷ 16 ∷ 19 ∷ 9 ∷ 15 ∷ []

abbrev pub highs : List ℕ
highs = 18 ∷ 18 ∷ 13 ∷ 16 ∷ 19 ∷ 9 ∷ 15 ∷ []

-- a text follows a rule, for digits below 4, y below one number and z below another
abbrev pub follows : Text → Rule → ℕ → ℕ → ℕ → Bool
follows text r ny nz most =
    each_below 4 (λ a. each_below 4 (λ b. each_below ny (λ y. each_below nz (λ z.
    comes lows highs text 6 (a ∷ b ∷ 0 ∷ y ∷ z ∷ 0 ∷ 1 ∷ []) (r.own a b y z ∷ b ∷ r.spare a b y z ∷ r.lane a b y z ∷ 0 ∷ r.carry a b y z ∷ 1 ∷ []) most))))

-- a register becomes 0
abbrev pub clear_text : Text
clear_text = clears 0 home

abbrev pub clear_rule : Rule
clear_rule = record { own = λ a b y z. 0; spare = λ a b y z. 0; lane = λ a b y z. y; carry = λ a b y z. 0 }

-- a register becomes another
abbrev pub copy_text : Text
copy_text = clears 0 (copies 1 0 2 Up home)

abbrev pub copy_rule : Rule
copy_rule = record { own = λ a b y z. b; spare = λ a b y z. 0; lane = λ a b y z. y; carry = λ a b y z. 0 }

-- a register goes to y, or to x, and is kept
abbrev pub to_y_text : Text
to_y_text = copies 0 3 2 Up home

abbrev pub to_y_rule : Rule
to_y_rule = record { own = λ a b y z. a; spare = λ a b y z. 0; lane = λ a b y z. a; carry = λ a b y z. 0 }

abbrev pub to_x_text : Text
to_x_text = copies 0 2 3 Up home

abbrev pub to_x_rule : Rule
to_x_rule = record { own = λ a b y z. a; spare = λ a b y z. a; lane = λ a b y z. 0; carry = λ a b y z. 0 }

-- a sum: with another register, and with y
abbrev pub sum_text : Text
sum_text = copies 1 0 2 Up (moves 4 0 Up (settles 0 Up home))

abbrev pub sum_rule : Rule
sum_rule = record { own = λ a b y z. (a + b + z) % 4; spare = λ a b y z. 0; lane = λ a b y z. y; carry = λ a b y z. (a + b + z) / 4 }

abbrev pub sum_y_text : Text
sum_y_text = moves 3 0 Up (moves 4 0 Up (settles 0 Up home))

abbrev pub sum_y_rule : Rule
sum_y_rule = record { own = λ a b y z. (a + y + z) % 4; spare = λ a b y z. 0; lane = λ a b y z. 0; carry = λ a b y z. (a + y + z) / 4 }

-- a difference: a borrow is set beforehand, and taken back where there was a four
abbrev pub difference_text : Text
difference_text = Go 5 (Up (Go 0 (ups 4 (copies 1 0 2 Down (moves 4 0 Down (settles 0 Down home))))))

abbrev pub difference_rule : Rule
difference_rule = record { own = λ a b y z. (a + 4 - (b + z)) % 4; spare = λ a b y z. 0; lane = λ a b y z. y; carry = λ a b y z. 1 - (a + 4 - (b + z)) / 4 }

abbrev pub difference_y_text : Text
difference_y_text = Go 5 (Up (Go 0 (ups 4 (moves 3 0 Down (moves 4 0 Down (settles 0 Down home))))))

abbrev pub difference_y_rule : Rule
difference_y_rule = record { own = λ a b y z. (a + 4 - (y + z)) % 4; spare = λ a b y z. 0; lane = λ a b y z. 0; carry = λ a b y z. 1 - (a + 4 - (y + z)) / 4 }

-- the borrow of a difference alone, of the register less another one, or of the other one less the register; then the same with y
abbrev pub borrows : Text → Text
borrows t = moves 4 2 Down (Go 5 (Up (Go 2 (ups 4 (While (Down (While (Down (While (Down (While (Down (Go 5 (Down (clears 2 Done)))) Done)) Done)) Done)) t)))))

abbrev pub less_text : Text
less_text = copies 1 2 3 Down (copies 0 2 3 Up (borrows home))

abbrev pub less_rule : Rule
less_rule = record { own = λ a b y z. a; spare = λ a b y z. 0; lane = λ a b y z. 0; carry = λ a b y z. cond (nat_lt a (b + z)) 1 0 }

abbrev pub more_text : Text
more_text = copies 1 2 3 Up (copies 0 2 3 Down (borrows home))

abbrev pub more_rule : Rule
more_rule = record { own = λ a b y z. a; spare = λ a b y z. 0; lane = λ a b y z. 0; carry = λ a b y z. cond (nat_lt b (a + z)) 1 0 }

abbrev pub less_y_text : Text
less_y_text = moves 3 2 Down (copies 0 2 3 Up (borrows home))

abbrev pub less_y_rule : Rule
less_y_rule = record { own = λ a b y z. a; spare = λ a b y z. 0; lane = λ a b y z. 0; carry = λ a b y z. cond (nat_lt a (y + z)) 1 0 }

abbrev pub more_y_text : Text
more_y_text = moves 3 2 Up (copies 0 2 3 Down (borrows home))

abbrev pub more_y_rule : Rule
more_y_rule = record { own = λ a b y z. a; spare = λ a b y z. 0; lane = λ a b y z. 0; carry = λ a b y z. cond (nat_lt y (a + z)) 1 0 }
