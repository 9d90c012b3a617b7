-- Which tokens spell a unit, and the first token that none can have or that is nested too deep.
use Rattle.std.specs.Prelude.{◌≡◌, ℕ, suc, ◌<◌, List, length, take, slice_get, Some}
use Rattle.c_syntax.specs.declared.token.Token.{Token}
use Rattle.c_syntax.specs.Plain.{CUnit}
use Rattle.c_grammar.specs.Spelling.{Spelt, Starts}
use Rattle.c_grammar.specs.Tree.{unit_tree}
use Rattle.c_grammar.specs.Nesting.{unit_depths}

-- these tokens spell this unit
pub record Spells (ts : List Token) (tree : CUnit) : Type 0 where
  pub spelt : Spelt ts
  pub tree_is : tree ≡ unit_tree spelt.kids

-- the tokens before token k start a unit, and those through it do not
pub record IsFirstBad (ts : List Token) (k : ℕ) : Type 0 where
  pub starts : Starts (take k ts)
  pub dead : Starts (take (suc k) ts) → ⊥

-- some unit starts with the tokens through token k, whose nesting there passes 256
pub record IsDeepAt (ts : List Token) (k : ℕ) : Type 0 where
  pub start : Starts (take (suc k) ts)
  pub depth : ℕ
  pub depth_is : slice_get (unit_depths start.spelt.kids) k ≡ Some depth
  pub passes : 256 < depth

-- no token before token k is nested too deep
abbrev pub IsShallowBefore : List Token → ℕ → Type 0
IsShallowBefore ts k = (j : ℕ) → j < k → IsDeepAt ts j → ⊥

-- token k stands at a place
abbrev pub StandsAt : List Token → ℕ → ℕ → Type 0
StandsAt ts k p = (t : Token) × (slice_get ts k ≡ Some t) × (t.pos ≡ p)

-- the first token that no unit can have stands at a place, and none before it is nested too deep
pub record IsSyntaxAt (ts : List Token) (p : ℕ) : Type 0 where
  pub k : ℕ
  pub bad : IsFirstBad ts k
  pub shallow : IsShallowBefore ts k
  pub place : StandsAt ts k p

-- the first token that is nested too deep stands at a place; some unit starts with the tokens through it
pub record IsTooDeepAt (ts : List Token) (p : ℕ) : Type 0 where
  pub k : ℕ
  pub deep : IsDeepAt ts k
  pub shallow : IsShallowBefore ts k
  pub place : StandsAt ts k p

-- the tokens spell this unit, and none is nested too deep
pub record IsUnitWithin (ts : List Token) (tree : CUnit) : Type 0 where
  pub spells : Spells ts tree
  pub shallow : IsShallowBefore ts (length ts)
