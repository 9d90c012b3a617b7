-- The nesting at the token that the machine has just read.
use Rattle.std.specs.Prelude.{ℕ, List, [], ◌∷◌, Option, Some, None}
use Rattle.c_syntax.specs.declared.token.Token.{Token}
use Rattle.c_grammar.specs.Spelling.{Spellings, Nil, Cons}
use Rattle.c_grammar.specs.Machine.{Frame, At, step}
use Rattle.c_grammar.specs.Nesting.{Context, Walk, walk, past, place, past_item, total, outside}

-- behind the parts so far
abbrev pub past_all : Walk → Spellings → Walk
past_all w Nil = w
past_all w (Cons x xs) = past_all (past w x) xs

abbrev pub past_items : Context → Spellings → Context
past_items c Nil = c
past_items c (Cons x xs) = past_items (past_item c x) xs

-- what is counted before the part that comes next on a stack
abbrev pub context : List Frame → Context
context [] = outside
context (At p done row left ∷ s) = past_items (place (past_all (walk p (context s)) done)) row

-- the nesting at the last of some parts, a token
abbrev pub last_depth : Walk → Spellings → ℕ
last_depth w Nil = 0
last_depth w (Cons x Nil) = total (place w)
last_depth w (Cons x (Cons y ys)) = last_depth (past w x) (Cons y ys)

abbrev pub top_depth : List Frame → ℕ
top_depth [] = 0
top_depth (At p done row left ∷ s) = last_depth (walk p (context s)) done

unfoldable pub then_depths : Option (List Frame) → (List Frame → List ℕ) → List ℕ
then_depths None f = []
then_depths (Some s) f = top_depth s ∷ f s

-- at each token that is read
abbrev pub read_depths : List Token → List Frame → List ℕ
read_depths [] s = []
read_depths (t ∷ ts) s = then_depths (step s t) (read_depths ts)
