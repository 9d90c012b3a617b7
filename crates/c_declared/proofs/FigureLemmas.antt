-- Expressions by how they stand as first values.
use Rattle.std.proofs.Common.{◌≡◌, ℕ, Bool, true, false, ◌||◌, length, refl, ap, ◌∙◌}
use Rattle.c_syntax.specs.Plain as plain
use Rattle.c_syntax.specs.Plain.{CExpr}
use Rattle.c_syntax.specs.declared.tree.UnOp.TheVariants as unary
use Rattle.c_types.specs.Types as types
use Rattle.c_types.specs.Types.{CType}
use Rattle.c_types.specs.Operands.{Operand, is_array, is_designator}
use Rattle.c_types.specs.Declarations.{is_static_form, takes_string}
use Rattle.c_declared.specs.declared.figure.Figure.{Figure}
use Rattle.c_declared.specs.declared.figure.Figure.TheVariants.{Text, Name}
use Rattle.c_declared.specs.Figures.{figure_of}
use Rattle.c_declared.specs.Slots.{takes_text}

-- a name is static where it is that of an array or of a function
pub name_static : (e : CExpr) (x : Operand) → Name ≡ figure_of e → is_static_form e x ≡ (is_array x.ty || is_designator x.sort)
name_static (plain.Var at name) x h = refl
name_static (plain.Unary at unary.Address (plain.Var pos name)) x h = absurd cc
name_static _ x h = absurd cc

pub or_true : (r b d : Bool) → r ≡ true → r ≡ b → r ≡ (b || d)
or_true r true d h e = h
or_true r false d h e = absurd cc

pub or_false : (r b d q : Bool) → r ≡ false → r ≡ b → q ≡ d → q ≡ (b || d)
or_false r true d q h e f = absurd cc
or_false r false d q h e f = f

abbrev bytes_of : Figure → ℕ
bytes_of (Text n) = n
bytes_of _ = 0

text_by_type : (t : CType) (at : ℕ) (text : _) → takes_text t (length text) ≡ takes_string t (plain.Str at text)
text_by_type (types.Array t n) at text = refl
text_by_type _ at text = refl

-- a string is taken by its bytes
pub text_taken : (t : CType) (e : CExpr) (n : ℕ) → Text n ≡ figure_of e → takes_text t n ≡ takes_string t e
text_taken t (plain.Str at text) n h = ap (λ f. takes_text t (bytes_of f)) h ∙ text_by_type t at text
text_taken t (plain.Unary at unary.Address (plain.Var pos name)) n h = absurd cc
text_taken t _ n h = absurd cc
