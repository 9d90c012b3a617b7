-- Expressions with fewer operators by their parts.
use Rattle.std.proofs.Common.{◌≡◌, ◌<◌, ◌+◌, ◌==◌, ℕ, Bool, true, false, List, [], ◌∷◌, ◌++◌, length, map, take, drop, refl, ap, ◌∙◌, arith}
use Rattle.std.specs.Prelude.{Result, Ok, Err}
use Rattle.std.proofs.lemmas.Bool.Decides.{nat_tests}
use Rattle.c_syntax.specs.Plain as plain
use Rattle.c_syntax.specs.Plain.{CExpr, exprs}
use Rattle.c_syntax.specs.View.{expr_of}
use Rattle.c_syntax.specs.declared.tree.Expr.{Expr}
use Rattle.c_syntax.specs.declared.tree.UnOp.{UnOp}
use Rattle.c_syntax.specs.declared.tree.UnOp.TheVariants as unary
use Rattle.c_types.specs.declared.fault.TypeFault.{TypeFault}
use Rattle.c_types.specs.Types.{is_unsigned}
use Rattle.c_types.specs.Refusals.{Judged}
use Rattle.c_types.specs.Operands as operands
use Rattle.c_types.specs.Scope.{Scope}
use Rattle.c_types.specs.Table.{Table, known, HasType}
use Rattle.c_types.specs.Seen.{constant_of}
use Rattle.c_operands.specs.declared.operand.Operand.{Operand}
use Rattle.c_operands.specs.Seen.{IsOperand, IsJudged}
use Rattle.c_operands.proofs.OperandLemmas.{type_within}
use Rattle.c_eval.specs.Environment.{type_in, operand_type, word_in, constant_word}
use Rattle.c_helpers.specs.Fewer.{fewer, behind_format}
use Rattle.c_fewer_operators.specs.Parts.{unary_tree}

pub unary_is : (s : Scope) (at : ℕ) (op : UnOp) (x : CExpr) → unary_tree at op (type_in s (plain.Unary at op x)) (fewer s x) ≡ fewer s (plain.Unary at op x)
unary_is s at unary.Address x = refl
unary_is s at unary.Deref x = refl
unary_is s at unary.Plus x = refl
unary_is s at unary.Minus x = refl
unary_is s at unary.Invert x = refl
unary_is s at unary.Not x = refl

-- ---- the value of what is judged

pub value_is : (table : Table) (x : Operand) (p : Judged operands.Operand) (n : ℕ) (u : Bool) → IsJudged (IsOperand table) (Ok x) p → n ≡ constant_word (constant_of x.constant)
    → ((t : _) → HasType table x.ty t → u ≡ is_unsigned t) → plain.Number 0 n u ≡ plain.Number 0 (word_in p) (is_unsigned (operand_type p))
value_is table x (Ok a) n u h e k = ap (λ (m : ℕ). plain.Number 0 m u) (e ∙ ap constant_word h.constant) ∙ ap (λ (b : Bool). plain.Number 0 (constant_word a.constant) b) (k a.ty h.ty)
value_is table x (Err d) n u h e k = absurd h

pub no_value : (table : Table) (d : TypeFault) (p : Judged operands.Operand) → IsJudged (IsOperand table) (Err d) p → plain.Number 0 0 false ≡ plain.Number 0 (word_in p) (is_unsigned (operand_type p))
no_value table d (Err e) h = refl
no_value table d (Ok a) h = absurd h

-- the type of what is judged is there
pub there : (table : Table) (x : Operand) (p : Judged operands.Operand) → IsJudged (IsOperand table) (Ok x) p → x.ty < length (known table)
there table x (Ok a) h = type_within table x.ty a.ty h.ty
there table x (Err d) h = absurd h

-- ---- the arguments but the first

pub none_behind : (es : List Expr) (n : ℕ) (b : Bool) → n ≡ length es → b ≡ (n == 0) → b ≡ true → exprs (map expr_of es) ≡ behind_format (exprs (map expr_of es))
none_behind [] n b many e h = refl
none_behind (x ∷ es) n b many e h = absurd (grind (arith, nat_tests))

pub others_behind : (es new : List Expr) (n : ℕ) (b : Bool) → n ≡ length es → b ≡ (n == 0) → b ≡ false → new ≡ take 0 es ++ drop (0 + 1) es → exprs (map expr_of new) ≡ behind_format (exprs (map expr_of es))
others_behind [] new n b many e h same = absurd (grind (arith, nat_tests))
others_behind (x ∷ es) new n b many e h same = ap (λ (l : List Expr). exprs (map expr_of l)) same
