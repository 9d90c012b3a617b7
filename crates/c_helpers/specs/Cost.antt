-- The cost of a tree: a number that the operations are at most to which its nodes are lowered.
use Rattle.std.specs.Prelude.{ℕ, ◌+◌, ◌*◌, List, [], ◌∷◌, Option, Some, None}
use Rattle.c_syntax.specs.Plain as plain
use Rattle.c_syntax.specs.Plain.{CExpr, CExprs, CValue, CValues, CDecl, CStmt, CStmts, CPart, CParts, CItem, CUnit}
use Rattle.c_types.specs.Limits.{string_words, initialised_words}
use Rattle.c_types.specs.Census.{unit_sum}
use Rattle.c_helpers.specs.Functions.{Helper}

abbrev mutual
  -- a number for each variant; types come to no operation, nor does what stands in them, nor a cast
  pub cost_of : CExpr → ℕ
  cost_of (plain.Number at n unsigned) = 4
  cost_of (plain.Str at text) = 4
  cost_of (plain.Null at) = 4
  cost_of (plain.Var at name) = 6
  cost_of (plain.Unary at op a) = 5 + cost_of a
  cost_of (plain.Step at op a) = 20 + cost_of a
  cost_of (plain.Binary at op a b) = 15 + cost_of a + cost_of b
  cost_of (plain.Assign at op a b) = 15 + cost_of a + cost_of b
  cost_of (plain.Cond at a b c) = 8 + cost_of a + cost_of b + cost_of c
  cost_of (plain.Comma at a b) = 4 + cost_of a + cost_of b
  cost_of (plain.Cast at t a) = cost_of a
  cost_of (plain.SizeTy at t) = 4
  cost_of (plain.SizeOf at a) = 4
  cost_of (plain.Index at a b) = 18 + cost_of a + cost_of b
  cost_of (plain.Call at f es) = 11 + cost_of f + costs_of es
  cost_of (plain.Member at a m) = 9 + cost_of a
  cost_of (plain.Arrow at a m) = 9 + cost_of a

  pub costs_of : CExprs → ℕ
  costs_of plain.NoExpr = 0
  costs_of (plain.MoreExpr e es) = cost_of e + costs_of es

abbrev pub maybe_cost : Option CExpr → ℕ
maybe_cost None = 0
maybe_cost (Some e) = cost_of e

abbrev mutual
  -- of a first value
  pub value_cost : CValue → ℕ
  value_cost (plain.One e) = 4 + cost_of e
  value_cost (plain.Many vs) = 4 + values_cost vs

  pub values_cost : CValues → ℕ
  values_cost plain.NoValue = 0
  values_cost (plain.MoreValue v vs) = value_cost v + values_cost vs

abbrev pub first_cost : Option CValue → ℕ
first_cost None = 0
first_cost (Some v) = value_cost v

abbrev mutual
  -- of a statement
  pub stmt_cost : CStmt → ℕ
  stmt_cost (plain.Block ss) = 4 + stmts_cost ss
  stmt_cost (plain.Local d) = 4 + first_cost d.first
  stmt_cost (plain.Do_expr e) = cost_of e
  stmt_cost plain.Empty = 1
  stmt_cost (plain.If e t) = 8 + cost_of e + stmt_cost t
  stmt_cost (plain.IfElse e t u) = 8 + cost_of e + stmt_cost t + stmt_cost u
  stmt_cost (plain.While e t) = 8 + cost_of e + stmt_cost t
  stmt_cost (plain.Do t e) = 8 + stmt_cost t + cost_of e
  stmt_cost (plain.For first test step t) = 8 + stmt_cost first + maybe_cost test + maybe_cost step + stmt_cost t
  stmt_cost (plain.Return at e) = 8 + maybe_cost e
  stmt_cost (plain.Break at) = 4
  stmt_cost (plain.Continue at) = 4
  stmt_cost (plain.Switch e ps) = 12 + cost_of e + parts_cost ps

  pub stmts_cost : CStmts → ℕ
  stmts_cost plain.NoStmt = 0
  stmts_cost (plain.MoreStmt t ts) = stmt_cost t + stmts_cost ts

  pub part_cost : CPart → ℕ
  part_cost (plain.Label at e) = 12
  part_cost (plain.Item t) = stmt_cost t

  pub parts_cost : CParts → ℕ
  parts_cost plain.NoPart = 0
  parts_cost (plain.MorePart p ps) = part_cost p + parts_cost ps

-- of a function that has a body, and of an object at file scope, whose words are counted apart
abbrev pub item_cost : CItem → ℕ
item_cost (plain.Function name at result params (Some body)) = 12 + stmt_cost body
item_cost _ = 0

abbrev pub items_cost : List CItem → ℕ
items_cost [] = 0
items_cost (item ∷ items) = item_cost item + items_cost items

-- the words of initialised objects and of string literals
abbrev pub word_count : CUnit → ℕ
word_count u = unit_sum (record { expr = λ s e. string_words e; node = 0; ty = λ tags t. 0; object = initialised_words }) u

-- of a whole text
abbrev pub unit_cost : CUnit → ℕ
unit_cost u = items_cost u.items + 8 * word_count u

-- of a helper function
abbrev pub helper_cost : Helper → ℕ
helper_cost h = 12 + stmt_cost h.body
