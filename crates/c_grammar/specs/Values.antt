-- The machine on values: of each part it keeps what it means and what the machine asks of it, and no spelling.
use Rattle.std.specs.Prelude.{ℕ, ◌+◌, List, [], ◌∷◌, Option, Some, None, Bool, true, false}
use Rattle.c_syntax.specs.declared.token.Token.{Token}
use Rattle.c_syntax.specs.Plain.{CUnit}
use Rattle.c_grammar.specs.Class.{class_of}
use Rattle.c_grammar.specs.Grammar.{Part, Symbol, Tok, One, Many, Maybe, Production, Parens, TypeInside, PieceP, NameCore, If, Whole, rhs}
use Rattle.c_grammar.specs.Spelling.{Spelling, Leaf, Node, Row, Spellings, Nil, Cons, Category, Level, BracketedType, CoreC, IfC, category, accepts, or, and, is_if, has_body}
use Rattle.c_grammar.specs.Machine.{takes, opening, announced}
use Rattle.c_grammar.specs.Nesting.{Context, Walk, walk, place, other_counts, other_hands, total, outside, operators_of, piece_stars}
use Rattle.c_grammar.specs.Tree.{Meaning, Word, Several, Meanings, none, more, act, items, end_place}
use Rattle.c_syntax.specs.Plain as plain

-- what the machine asks of a part
pub record Facts : Type 0 where
  pub category : Category
  pub open' : Bool
  pub operators : ℕ
  pub stars : ℕ
  -- `(` and a type
  pub type_inside : Bool

mutual
  pub data Value : Type 0 where
    Token' : (t : Token) → Value
    Made : (facts : Facts) → (m : Meaning) → Value
    Values : (vs : ValueList) → Value

  pub data ValueList : Type 0 where
    nil : ValueList
    cons : (v : Value) → (vs : ValueList) → ValueList

abbrev mutual
  pub meaning_of : Value → Meaning
  meaning_of (Token' t) = Word t
  meaning_of (Made f m) = m
  meaning_of (Values vs) = Several (meanings_of vs)

  pub meanings_of : ValueList → Meanings
  meanings_of nil = none
  meanings_of (cons v vs) = more (meaning_of v) (meanings_of vs)

abbrev pub operators_in : Value → ℕ
operators_in (Made f m) = f.operators
operators_in _ = 0

abbrev pub all_operators_in : ValueList → ℕ
all_operators_in nil = 0
all_operators_in (cons v vs) = operators_in v + all_operators_in vs

abbrev mutual
  pub stars_in : Value → ℕ
  stars_in (Made f m) = f.stars
  stars_in (Token' t) = 0
  stars_in (Values vs) = all_stars_in vs

  pub all_stars_in : ValueList → ℕ
  all_stars_in nil = 0
  all_stars_in (cons v vs) = stars_in v + all_stars_in vs

abbrev pub is_open : Value → Bool
is_open (Made f m) = f.open'
is_open _ = false

abbrev pub last_is_open : ValueList → Bool
last_is_open nil = false
last_is_open (cons v nil) = is_open v
last_is_open (cons v (cons w ws)) = last_is_open (cons w ws)

abbrev pub type_or_expression : Bool → Category
type_or_expression true = BracketedType
type_or_expression false = Level 15

abbrev pub inside_of : Value → Category
inside_of (Made f m) = type_or_expression f.type_inside
inside_of _ = Level 15

abbrev pub brackets_of : ValueList → Category
brackets_of (cons o (cons v vs)) = inside_of v
brackets_of _ = Level 15

abbrev pub is_blank : Value → Bool
is_blank (Values nil) = true
is_blank _ = false

abbrev pub has_none : ValueList → Bool
has_none (cons o (cons v vs)) = is_blank v
has_none _ = false

-- three categories depend on the parts
abbrev pub category_of : Production → ValueList → Category
category_of Parens vs = brackets_of vs
category_of (NameCore o) vs = CoreC o (has_none vs)
category_of If vs = IfC (last_is_open vs)
category_of p vs = category p Nil

abbrev pub operators_made : Production → ValueList → ℕ
operators_made p nil = 0
operators_made p (cons v vs) = operators_of p (operators_in v) (all_operators_in vs)

abbrev pub stars_made : Production → ℕ
stars_made (PieceP k) = piece_stars k
stars_made _ = 0

abbrev pub is_type_inside : Production → Bool
is_type_inside TypeInside = true
is_type_inside _ = false

abbrev pub facts_of : Production → ValueList → Facts
facts_of p vs = record { category = category_of p vs; open' = or (is_if p) (and (has_body p) (last_is_open vs)); operators = operators_made p vs; stars = stars_made p; type_inside = is_type_inside p }

abbrev pub made : Production → ValueList → Value
made p vs = Made (facts_of p vs) (act p (meanings_of vs))

-- the value of a spelling
abbrev mutual
  pub value_of : Spelling → Value
  value_of (Leaf t) = Token' t
  value_of (Node p kids) = made p (values_of kids)
  value_of (Row items) = Values (values_of items)

  pub values_of : Spellings → ValueList
  values_of Nil = nil
  values_of (Cons x xs) = cons (value_of x) (values_of xs)

abbrev pub joined : ValueList → ValueList → ValueList
joined nil ws = ws
joined (cons v vs) ws = cons v (joined vs ws)

abbrev pub with_last : ValueList → Value → ValueList
with_last vs v = joined vs (cons v nil)

-- a production that is open
pub data Open : Type 0 where
  At : (p : Production) → (done row : ValueList) → (left : List Symbol) → Open

pub data Progress : Type 0 where
  Moved : (s : List Open) → Progress
  Finished : (vs : ValueList) → Progress
  Stuck : Progress

abbrev pub moved : Option (List Open) → Progress
moved None = Stuck
moved (Some s) = Moved s

abbrev pub at_token : Bool → Production → ValueList → Token → List Symbol → List Open → Option (List Open)
at_token true p done t left s = Some (At p (with_last done (Token' t)) nil left ∷ s)
at_token false p done t left s = None

abbrev pub first_token : List Symbol → Production → Token → List Open → Option (List Open)
first_token (Tok k ∷ left) p t s = at_token (takes k (class_of t)) p nil t left s
first_token _ p t s = None

unfoldable pub enter : Production → Token → List Open → Option (List Open)
enter p t s = first_token (rhs p) p t s

abbrev pub choose : Option Production → Token → List Open → Progress → Progress
choose None t s r = r
choose (Some p) t s r = moved (enter p t s)

abbrev pub begin : Token → Production → ValueList → List Symbol → List Open → Progress
begin t p done [] s = Finished done
begin t p done (Tok k ∷ left) s = moved (at_token (takes k (class_of t)) p done t left s)
begin t p done (One n ∷ left) s = choose (opening n (class_of t)) t (At p done nil (One n ∷ left) ∷ s) Stuck
begin t p done (Many n ∷ left) s = choose (opening n (class_of t)) t (At p done nil (Many n ∷ left) ∷ s) (begin t p (with_last done (Values nil)) left s)
begin t p done (Maybe n ∷ left) s = choose (opening n (class_of t)) t (At p done nil (Maybe n ∷ left) ∷ s) (begin t p (with_last done (Values nil)) left s)

abbrev pub unfinished : Progress → Progress
unfinished (Moved s) = Moved s
unfinished (Finished vs) = Stuck
unfinished Stuck = Stuck

abbrev pub where_so : Bool → Progress → Progress
where_so true r = r
where_so false r = Stuck

abbrev pub wraps : List Symbol → Production → Category → Value → Token → List Open → Progress
wraps (One m ∷ left) q c v t s = where_so (accepts c m) (unfinished (begin t q (cons v nil) left s))
wraps _ q c v t s = Stuck

abbrev pub wrapped : Option Production → Part → Category → Value → Token → List Open → Progress → Progress
wrapped (Some q) n c v t s r = wraps (rhs q) q c v t s
wrapped None n c v t s r = where_so (accepts c n) r

abbrev pub placed : Category → Value → Token → Production → ValueList → ValueList → List Symbol → List Open → Progress
placed c v t q done row [] s = Stuck
placed c v t q done row (Tok k ∷ left) s = Stuck
placed c v t q done row (One n ∷ left) s = wrapped (announced c n (class_of t)) n c v t (At q done row (One n ∷ left) ∷ s) (begin t q (with_last done v) left s)
placed c v t q done row (Many n ∷ left) s =
    wrapped (announced c n (class_of t)) n c v t (At q done row (Many n ∷ left) ∷ s)
    (choose (opening n (class_of t)) t (At q done (with_last row v) (Many n ∷ left) ∷ s) (begin t q (with_last done (Values (with_last row v))) left s))
placed c v t q done row (Maybe n ∷ left) s = wrapped (announced c n (class_of t)) n c v t (At q done row (Maybe n ∷ left) ∷ s) (begin t q (with_last done (Values (cons v nil))) left s)

abbrev pub closed : Progress → (ValueList → Option (List Open)) → Option (List Open)
closed (Moved s) f = Some s
closed (Finished vs) f = f vs
closed Stuck f = None

abbrev pub give : Production → ValueList → Token → List Open → Option (List Open)
give p vs t [] = None
give p vs t (At q done row left ∷ s) = closed (placed (category_of p vs) (made p vs) t q done row left s) (λ all. give q all t s)

unfoldable pub step : List Open → Token → Option (List Open)
step [] t = None
step (At p done (cons v vs) left ∷ s) t = None
step (At p done nil left ∷ s) t = closed (begin t p done left s) (λ all. give p all t s)

unfoldable pub then_run : Option (List Open) → (List Open → Option (List Open)) → Option (List Open)
then_run None f = None
then_run (Some s) f = f s

abbrev pub run : List Token → List Open → Option (List Open)
run [] s = Some s
run (t ∷ ts) s = then_run (step s t) (run ts)

abbrev pub start : List Open
start = At Whole nil nil (rhs Whole) ∷ []

abbrev pub whole : ValueList → List Open
whole vs = At Whole vs nil [] ∷ []

-- the tree of a whole text
abbrev pub tree_of : ValueList → CUnit
tree_of vs = record { items = items (act Whole (meanings_of vs)) plain.Void plain.Void; end = end_place (meanings_of vs) }

-- the nesting at the token that was just read
abbrev pub later_in : Bool → Value → ℕ
later_in true v = operators_in v
later_in false v = 0

abbrev pub past_value : Walk → Value → Walk
past_value w v =
    record {
      so_far = record { rest = w.so_far.rest + later_in w.carries v; declarator = w.so_far.declarator + stars_in v; cast = w.so_far.cast };
      carries = w.then';
      then' = w.then';
      counts = other_counts w.counts;
      hands = other_hands w.hands;
    }

abbrev pub past_values : Walk → ValueList → Walk
past_values w nil = w
past_values w (cons v vs) = past_values (past_value w v) vs

abbrev pub past_row : Context → ValueList → Context
past_row c nil = c
past_row c (cons v vs) = past_row (record { rest = c.rest; declarator = c.declarator + stars_in v; cast = c.cast }) vs

abbrev pub context_of : List Open → Context
context_of [] = outside
context_of (At p done row left ∷ s) = past_row (place (past_values (walk p (context_of s)) done)) row

abbrev pub last_depth_of : Walk → ValueList → ℕ
last_depth_of w nil = 0
last_depth_of w (cons v nil) = total (place w)
last_depth_of w (cons v (cons x xs)) = last_depth_of (past_value w v) (cons x xs)

abbrev pub depth_of : List Open → ℕ
depth_of [] = 0
depth_of (At p done row left ∷ s) = last_depth_of (walk p (context_of s)) done
