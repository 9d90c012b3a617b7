-- Trees in postfix: what a tree is made of stands before it, and steps open and close a block.
use Rattle.std.specs.Prelude.{ℕ, ◌-◌, List, [], ◌∷◌, ◌++◌, length, take, get_or, codes}
use Rattle.c_syntax.specs.Plain as plain
use Rattle.c_syntax.specs.Plain.{CExpr, CTy, CStmt}
use Rattle.c_syntax.specs.declared.tree.UnOp.TheVariants as unary
use Rattle.c_helpers.specs.Terms.{number, unsigned_number, variable, minus, operation, at_most, assigned, call, block, set, fresh, local, give_back}
use Rattle.c_helpers.specs.Functions.{a, r, doubled, raised, lowered, is_negative}
use Rattle.c_helper_steps.specs.declared.steps.TypeName.{TypeName}
use Rattle.c_helper_steps.specs.declared.steps.TypeName.TheVariants as type
use Rattle.c_helper_steps.specs.declared.steps.Step.{Step}
use Rattle.c_helper_steps.specs.declared.steps.Step.TheVariants as step

abbrev pub tree_of : TypeName → CTy
tree_of type.Void = plain.Void
tree_of type.Int = plain.Int
tree_of type.Unsigned = plain.Unsigned
tree_of type.ToAny = plain.Pointer plain.Void
tree_of type.ToInt = plain.Pointer plain.Int
tree_of type.ToChar = plain.Pointer plain.Char
tree_of type.ToPointer = plain.Pointer (plain.Pointer plain.Void)

-- what no other tree has taken yet: expressions, the arguments of the next call, the statements of the innermost open block, and those of the blocks around it
pub record Parts : Type 0 where
  pub exprs : List CExpr
  pub arguments : List CExpr
  pub row : List CStmt
  pub blocks : List (List CStmt)

abbrev pub nothing : Parts
nothing = record { exprs = []; arguments = []; row = []; blocks = [] }

abbrev pub last_or : {A : Type 0} → A → List A → A
last_or d xs = get_or xs (length xs - 1) d

abbrev pub without_last : {A : Type 0} → List A → List A
without_last xs = take (length xs - 1) xs

abbrev pub with_expr : CExpr → Parts → Parts
with_expr e p = record p { exprs = p.exprs ++ e ∷ [] }

abbrev pub with_stmt : CStmt → Parts → Parts
with_stmt s p = record p { row = p.row ++ s ∷ [] }

-- the last expression, and what is there without it
abbrev pub top : Parts → CExpr
top p = last_or (plain.Null 0) p.exprs

abbrev pub below : Parts → Parts
below p = record p { exprs = without_last p.exprs }

-- the last statement, and what is there without it
abbrev pub last_stmt : Parts → CStmt
last_stmt p = last_or plain.Empty p.row

abbrev pub before : Parts → Parts
before p = record p { row = without_last p.row }

-- the digit at a place is written where a has one there
abbrev pub place_written : ℕ → CStmt
place_written n = plain.If (at_most (unsigned_number n) (variable a)) (set r (call (codes "one digit") (variable r ∷ unsigned_number n ∷ [])))

-- what is there behind a step
abbrev pub after : Parts → Step → Parts
after p (step.Number n) = with_expr (number n) p
after p (step.Unsigned n) = with_expr (unsigned_number n) p
after p (step.Name x) = with_expr (variable x.now) p
after p (step.Negative x) = with_expr (is_negative (variable x.now)) p
after p step.Minus = with_expr (minus (top p)) (below p)
after p (step.Cast t) = with_expr (plain.Cast 0 (tree_of t) (top p)) (below p)
after p step.Deref = with_expr (plain.Unary 0 unary.Deref (top p)) (below p)
after p (step.Operation op) = with_expr (operation op (top (below p)) (top p)) (below (below p))
after p step.Assign = with_expr (assigned (top (below p)) (top p)) (below (below p))
after p step.Argument = record (below p) { arguments = p.arguments ++ top p ∷ [] }
after p (step.Call f) = with_expr (call f.now p.arguments) (record p { arguments = [] })
after p step.Do = with_stmt (plain.Do_expr (top p)) (below p)
after p (step.Set x) = with_stmt (set x.now (top p)) (below p)
after p (step.Double x) = with_stmt (doubled x.now) p
after p (step.Raise x) = with_stmt (raised x.now) p
after p (step.Lower x) = with_stmt (lowered x.now) p
after p (step.Place n) = with_stmt (place_written n) p
after p (step.Fresh t x) = with_stmt (fresh (tree_of t) x.now) p
after p (step.Local t x) = with_stmt (local (tree_of t) x.now (top p)) (below p)
after p step.If = with_stmt (plain.If (top p) (last_stmt p)) (before (below p))
after p step.While = with_stmt (plain.While (top p) (last_stmt p)) (before (below p))
after p step.Return = with_stmt (give_back (top p)) (below p)
after p step.Open = record p { row = []; blocks = p.blocks ++ p.row ∷ [] }
after p step.Close = record p { row = last_or [] p.blocks ++ block p.row ∷ []; blocks = without_last p.blocks }

abbrev pub after_all : Parts → List Step → Parts
after_all p [] = p
after_all p (s ∷ ss) = after_all (after p s) ss

-- the statement that steps make
abbrev pub made : List Step → CStmt
made ss = last_stmt (after_all nothing ss)
