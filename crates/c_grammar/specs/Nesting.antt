-- The nesting at each token: the operators so far of the expressions in hand, the open brackets, the statements whose body hasn't ended, and the stars and opening
-- square brackets so far of the declarators in hand.
use Rattle.std.specs.Prelude.{ℕ, suc, ◌+◌, ◌-◌, Bool, true, false, List, [], ◌∷◌, ◌++◌}
use Rattle.c_grammar.specs.Grammar.{Piece, FunctionPart, Pointer, Members, NextMember, AnyLength, FullLength, NextParam, ParamLengths, NamePart, NextInit, Production, Parens, ExprInside, TypeInside, Prefix, SizeOf, Suffix, Member, Index, Call, Arguments, Assign, Cond, CommaExpr, Cast, Binary, PieceP, MemberP, NameCore, FunctionCore, NoParams, Params, ParamName, ParamFunction, Declaration, FirstValue, ValueComma, NextValue, Braces, Block, ExprStatement, If, IfElse, While, Do, For, Switch, Whole, DeclaredP, Pointed, Function, Objects}
use Rattle.c_grammar.specs.Spelling.{Spelling, Leaf, Node, Row, Spellings, Nil, Cons}

-- what is counted before a part: the declarator in hand, all else, and whether a type in brackets makes a cast there, as it does but behind `sizeof`
pub record Context : Type 0 where
  pub rest : ℕ
  pub declarator : ℕ
  pub cast : Bool

-- what a place of a production counts besides what is counted before the production: nothing, as for the part that it begins with; none, one or two of its
-- brackets, statements and operators; `sizeof`; a bracket whose inside is what the production is; or a bracket is closed there, that of a type in a cast counting as the cast
pub data Count : Type 0 where
  Same None' One' Two' Sized Inner Close CloseType : Count

-- behind the last of the list it is None'
abbrev pub piece_counts : Piece → List Count
piece_counts FunctionPart = One' ∷ One' ∷ None' ∷ One' ∷ One' ∷ []
piece_counts Members = One' ∷ One' ∷ []
piece_counts AnyLength = One' ∷ One' ∷ []
piece_counts FullLength = One' ∷ One' ∷ []
piece_counts ParamLengths = One' ∷ One' ∷ []
piece_counts _ = []

abbrev pub counts : Production → List Count
counts Parens = One' ∷ Inner ∷ []
counts ExprInside = Same ∷ Close ∷ []
counts TypeInside = Same ∷ Same ∷ Same ∷ CloseType ∷ []
counts Prefix = One' ∷ One' ∷ []
counts SizeOf = One' ∷ Sized ∷ []
counts Suffix = Same ∷ One' ∷ []
counts Member = Same ∷ One' ∷ One' ∷ []
-- an index and a call count at their closing brackets
counts Index = Same ∷ One' ∷ One' ∷ One' ∷ []
counts Call = Same ∷ One' ∷ One' ∷ []
counts Arguments = Same ∷ []
counts Cast = Same ∷ One' ∷ []
counts (Binary n) = Same ∷ One' ∷ One' ∷ []
counts Assign = Same ∷ One' ∷ One' ∷ []
counts CommaExpr = Same ∷ One' ∷ One' ∷ []
counts Cond = Same ∷ One' ∷ One' ∷ One' ∷ One' ∷ []
counts (PieceP k) = piece_counts k
counts (FunctionCore o) = One' ∷ One' ∷ One' ∷ One' ∷ None' ∷ One' ∷ One' ∷ []
counts ParamFunction = One' ∷ One' ∷ One' ∷ One' ∷ None' ∷ One' ∷ One' ∷ []
counts NoParams = Close ∷ []
counts Params = Same ∷ None' ∷ None' ∷ None' ∷ Close ∷ []
counts Function = Same ∷ One' ∷ One' ∷ []
counts Objects = Same ∷ []
counts MemberP = Same ∷ []
counts Declaration = Same ∷ []
counts DeclaredP = Same ∷ []
counts FirstValue = One' ∷ One' ∷ []
counts ValueComma = Same ∷ One' ∷ []
counts NextValue = Same ∷ One' ∷ []
counts Braces = Same ∷ []
counts ExprStatement = Same ∷ []
counts Block = One' ∷ One' ∷ []
counts If = One' ∷ Two' ∷ Two' ∷ One' ∷ One' ∷ []
counts IfElse = Same ∷ One' ∷ One' ∷ []
counts While = One' ∷ Two' ∷ Two' ∷ One' ∷ One' ∷ []
counts Do = One' ∷ One' ∷ None' ∷ One' ∷ One' ∷ []
counts For = One' ∷ Two' ∷ Two' ∷ Two' ∷ Two' ∷ Two' ∷ One' ∷ One' ∷ []
counts Switch = One' ∷ Two' ∷ Two' ∷ One' ∷ Two' ∷ Two' ∷ One' ∷ []
counts _ = []

-- the declarator in hand at a place: as before the production; one more; it has ended; or an expression within its square brackets is wanted
pub data Hand : Type 0 where
  Stay More Ended Within : Hand

abbrev pub piece_hands : Piece → List Hand
piece_hands FunctionPart = Stay ∷ Stay ∷ []
piece_hands Pointer = More ∷ More ∷ []
piece_hands NextMember = Ended ∷ Stay ∷ Stay ∷ []
piece_hands AnyLength = More ∷ Within ∷ More ∷ []
piece_hands FullLength = More ∷ Within ∷ More ∷ []
piece_hands NextParam = Ended ∷ Ended ∷ Stay ∷ Stay ∷ []
piece_hands ParamLengths = More ∷ Within ∷ More ∷ More ∷ []
piece_hands NamePart = Stay ∷ []
piece_hands NextInit = Ended ∷ Stay ∷ Stay ∷ []
piece_hands _ = []

-- behind the last of the list it has ended
abbrev pub hands : Production → List Hand
hands (PieceP k) = piece_hands k
hands TypeInside = Stay ∷ Stay ∷ Stay ∷ []
hands MemberP = Stay ∷ Stay ∷ Stay ∷ []
hands (NameCore o) = Stay ∷ Stay ∷ []
hands (FunctionCore o) = Stay ∷ Stay ∷ Stay ∷ Stay ∷ []
hands Params = Stay ∷ Stay ∷ Stay ∷ []
hands ParamName = Stay ∷ Stay ∷ []
hands ParamFunction = Stay ∷ Stay ∷ Stay ∷ Stay ∷ []
hands Declaration = Stay ∷ Stay ∷ Stay ∷ []
hands Pointed = More ∷ More ∷ More ∷ []
hands ExprInside = Stay ∷ []
hands Suffix = Stay ∷ []
hands Member = Stay ∷ []
hands Index = Stay ∷ []
hands Call = Stay ∷ []
hands Arguments = Stay ∷ []
hands (Binary n) = Stay ∷ []
hands Assign = Stay ∷ []
hands Cond = Stay ∷ []
hands CommaExpr = Stay ∷ []
hands Cast = Stay ∷ []
hands ValueComma = Stay ∷ []
hands NextValue = Stay ∷ []
hands Braces = Stay ∷ []
hands ExprStatement = Stay ∷ []
hands IfElse = Stay ∷ []
hands DeclaredP = Stay ∷ []
hands Function = Stay ∷ []
hands Objects = Stay ∷ []
hands _ = []

-- the operators of an expression outside brackets
abbrev pub operators_of : Production → ℕ → ℕ → ℕ
operators_of Prefix a rest = suc rest
operators_of SizeOf a rest = suc rest
operators_of Suffix a rest = suc a
operators_of Member a rest = suc a
operators_of Index a rest = suc a
operators_of Call a rest = suc a
operators_of Cast a rest = suc rest
operators_of (Binary n) a rest = suc (a + rest)
operators_of Assign a rest = suc (a + rest)
operators_of CommaExpr a rest = suc (a + rest)
operators_of Cond a rest = suc (a + rest)
operators_of _ a rest = 0

abbrev mutual
  pub operators : Spelling → ℕ
  operators (Leaf t) = 0
  operators (Row items) = 0
  operators (Node p Nil) = 0
  operators (Node p (Cons x xs)) = operators_of p (operators x) (all_operators xs)

  pub all_operators : Spellings → ℕ
  all_operators Nil = 0
  all_operators (Cons x xs) = operators x + all_operators xs

-- those of the part that an operator's tree begins with count at the places behind it
abbrev pub is_operator : Production → Bool
is_operator Suffix = true
is_operator Member = true
is_operator Index = true
is_operator Call = true
is_operator (Binary n) = true
is_operator Assign = true
is_operator CommaExpr = true
is_operator Cond = true
is_operator _ = false

-- and those of the parts behind it, outside brackets
abbrev pub goes_on : Production → Bool
goes_on (Binary n) = true
goes_on Assign = true
goes_on CommaExpr = true
goes_on Cond = true
goes_on _ = false

abbrev pub later : Bool → Spelling → ℕ
later true x = operators x
later false x = 0

-- the stars and opening square brackets that a part adds to the declarator in hand
abbrev pub piece_stars : Piece → ℕ
piece_stars Pointer = 1
piece_stars AnyLength = 1
piece_stars FullLength = 1
piece_stars _ = 0

abbrev mutual
  pub stars : Spelling → ℕ
  stars (Leaf t) = 0
  stars (Node (PieceP k) kids) = piece_stars k
  stars (Node p kids) = 0
  stars (Row items) = all_stars items

  pub all_stars : Spellings → ℕ
  all_stars Nil = 0
  all_stars (Cons x xs) = stars x + all_stars xs

-- how far a production is: what is counted so far, whether the operators of the part that comes next count behind it, and of those then, and its places that are left
pub record Walk : Type 0 where
  pub so_far : Context
  pub carries : Bool
  pub then' : Bool
  pub counts : List Count
  pub hands : List Hand

abbrev pub walk : Production → Context → Walk
walk p c = record { so_far = c; carries = is_operator p; then' = goes_on p; counts = counts p; hands = hands p }

abbrev pub other_counts : List Count → List Count
other_counts [] = []
other_counts (c ∷ cs) = cs

abbrev pub other_hands : List Hand → List Hand
other_hands [] = []
other_hands (h ∷ hs) = hs

-- behind a part
abbrev pub past : Walk → Spelling → Walk
past w x =
    record {
      so_far = record { rest = w.so_far.rest + later w.carries x; declarator = w.so_far.declarator + stars x; cast = w.so_far.cast };
      carries = w.then';
      then' = w.then';
      counts = other_counts w.counts;
      hands = other_hands w.hands;
    }

abbrev pub closed_type : Bool → ℕ → ℕ
closed_type true n = n
closed_type false n = n - 1

abbrev pub counted : List Count → Context → Context
counted [] c = record { rest = c.rest; declarator = c.declarator; cast = true }
counted (Same ∷ cs) c = c
counted (None' ∷ cs) c = record { rest = c.rest; declarator = c.declarator; cast = true }
counted (One' ∷ cs) c = record { rest = suc c.rest; declarator = c.declarator; cast = true }
counted (Two' ∷ cs) c = record { rest = suc (suc c.rest); declarator = c.declarator; cast = true }
counted (Sized ∷ cs) c = record { rest = suc c.rest; declarator = c.declarator; cast = false }
counted (Inner ∷ cs) c = record { rest = suc c.rest; declarator = c.declarator; cast = c.cast }
counted (Close ∷ cs) c = record { rest = c.rest - 1; declarator = c.declarator; cast = true }
counted (CloseType ∷ cs) c = record { rest = closed_type c.cast c.rest; declarator = c.declarator; cast = true }

abbrev pub in_hand : List Hand → Context → Context
in_hand [] c = record { rest = c.rest; declarator = 0; cast = c.cast }
in_hand (Stay ∷ hs) c = c
in_hand (More ∷ hs) c = record { rest = c.rest; declarator = suc c.declarator; cast = c.cast }
in_hand (Ended ∷ hs) c = record { rest = c.rest; declarator = 0; cast = c.cast }
in_hand (Within ∷ hs) c = record { rest = suc (c.rest + c.declarator); declarator = 0; cast = c.cast }

-- what is counted before the part that comes next
abbrev pub place : Walk → Context
place w = in_hand w.hands (counted w.counts w.so_far)

-- and before the next part of a row
abbrev pub past_item : Context → Spelling → Context
past_item c x = record { rest = c.rest; declarator = c.declarator + stars x; cast = c.cast }

abbrev pub total : Context → ℕ
total c = c.rest + c.declarator

abbrev mutual
  pub depths : Context → Spelling → List ℕ
  depths c (Leaf t) = total c ∷ []
  depths c (Node p kids) = kids_depths (walk p c) kids
  depths c (Row items) = row_depths c items

  pub kids_depths : Walk → Spellings → List ℕ
  kids_depths w Nil = []
  kids_depths w (Cons x xs) = depths (place w) x ++ kids_depths (past w x) xs

  pub row_depths : Context → Spellings → List ℕ
  row_depths c Nil = []
  row_depths c (Cons x xs) = depths c x ++ row_depths (past_item c x) xs

abbrev pub outside : Context
outside = record { rest = 0; declarator = 0; cast = true }

-- of a whole text
abbrev pub unit_depths : Spellings → List ℕ
unit_depths kids = kids_depths (walk Whole outside) kids
