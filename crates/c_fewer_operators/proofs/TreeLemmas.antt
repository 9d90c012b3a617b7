-- Trees by their parts.
use Rattle.std.proofs.Common.{◌≡◌, ◌%◌, ◌^◌, ℕ, Bool, true, false, not, nat_le, nat_lt, List, ◌++◌, map, refl, sym, ap, subst, ◌∙◌, arith, if◌then◌else◌}
use Rattle.std.specs.Prelude.{Result, Ok, Err, IfOk, codes}
use Rattle.std.proofs.lemmas.Bool.Decides.{nat_tests}
use denote.Ref.{Bor}
use Rattle.c_syntax.specs.Plain as plain
use Rattle.c_syntax.specs.Plain.{CExpr}
use Rattle.c_syntax.specs.View.{expr_of}
use Rattle.c_syntax.specs.declared.tree.Expr.{Expr}
use Rattle.c_syntax.specs.declared.tree.UnOp.{UnOp}
use Rattle.c_syntax.specs.declared.tree.BinOp.{BinOp}
use Rattle.c_syntax.specs.declared.tree.UnOp.TheVariants as unary
use Rattle.c_syntax.specs.declared.tree.BinOp.TheVariants as binary
use Rattle.c_types.specs.Types as types
use Rattle.c_types.specs.Types.{CType, Tags}
use Rattle.c_types.specs.Scope.{Scope}
use Rattle.c_types.specs.Room.{is_wide_pointer}
use Rattle.c_eval.specs.Operators.{element_words}
use Rattle.c_types.specs.Table.{Table, texts}
use Rattle.c_layouts.specs.declared.layout.Layout.{Layout}
use Rattle.c_layouts.specs.Layouts.{AreLayouts}
use Rattle.c_helpers.specs.Fewer as fewer
use Rattle.c_fewer_operators.specs.declared.here.Here.{Here}
use Rattle.c_fewer_operators.specs.Here.{Stands}
use Rattle.c_fewer_operators.specs.Parts as parts

-- a tree that is made is another one, if the two are equal
pub made : {E : Type 0} (r : Result Expr E) (a b : CExpr) → a ≡ b → IfOk r (λ e. expr_of e ≡ a) → IfOk r (λ e. expr_of e ≡ b)
made (Ok e) a b same h = h ∙ same
made (Err x) a b same h = tt

pub called : {E : Type 0} (r : Result Expr E) (at : ℕ) (name : List ℕ) (xs ys : List Expr) → xs ≡ ys → IfOk r (λ e. expr_of e ≡ fewer.helper_call at name (map expr_of xs)) → IfOk r (λ e. expr_of e ≡ fewer.helper_call at name (map expr_of ys))
called r at name xs ys same h = made r (fewer.helper_call at name (map expr_of xs)) (fewer.helper_call at name (map expr_of ys)) (ap (λ (l : List Expr). fewer.helper_call at name (map expr_of l)) same) h

-- ---- where an expression stands

pub layouts_at : (table : Table) (h : Here) (s : Scope) (layouts : List Layout) → layouts ≡ h.declared.layouts.items → Stands table h s → AreLayouts table layouts s.tags
layouts_at table h s layouts e stands = subst (λ (l : List Layout). AreLayouts table l s.tags) (sym e) stands.fits.layouts

pub names_at : (table : Table) (h : Here) (s : Scope) (names : List (Bor (List ℕ))) → names ≡ h.tags.items → Stands table h s → texts names ≡ table.tags
names_at table h s names e stands = ap texts e ∙ stands.names

-- ---- words of elements

pub not_wide : (n : ℕ) → not (nat_le n 1) ≡ nat_lt 1 n
not_wide n = grind (arith, nat_tests)

pub wide_by : (tags : Tags) (t : CType) → nat_lt 1 (element_words tags t) ≡ is_wide_pointer tags t
wide_by tags (types.Pointer t) = refl
wide_by tags types.Void = refl
wide_by tags t = refl

pub whole : (n : ℕ) → true ≡ nat_le n 4194304 → n % 2 ^ 24 ≡ n
whole n h = grind (arith, nat_tests)

-- ---- names of helper functions

pub moved_name : (unsigned : Bool) → (if unsigned then codes "pointer + unsigned" else codes "pointer + int") ≡ codes "pointer + " ++ fewer.kind_word unsigned
moved_name true = refl
moved_name false = refl

pub behind_name : (unsigned : Bool) → (if unsigned then codes "unsigned + pointer" else codes "int + pointer") ≡ fewer.kind_word unsigned ++ codes " + pointer"
behind_name true = refl
behind_name false = refl

pub place_name : (unsigned : Bool) → (if unsigned then codes "pointer += unsigned" else codes "pointer += int") ≡ codes "pointer += " ++ fewer.kind_word unsigned
place_name true = refl
place_name false = refl

-- ---- operators for which no function stands

pub unary_else : (at : ℕ) (op : UnOp) (t : CType) (a : CExpr) → (op ≡ unary.Invert → ⊥) → plain.Unary at op a ≡ parts.unary_tree at op t a
unary_else at unary.Invert t a h = absurd (h refl)
unary_else at op t a h = refl

pub plain_else : (tags : Tags) (at : ℕ) (op : BinOp) (t u : CType) (a b : CExpr) → (op ≡ binary.Add → ⊥) → (op ≡ binary.Sub → ⊥) → plain.Binary at op a b ≡ fewer.plain_operator tags at op t u a b
plain_else tags at binary.Add t u a b h k = absurd (h refl)
plain_else tags at binary.Sub t u a b h k = absurd (k refl)
plain_else tags at op t u a b h k = refl

pub words_else : (op : BinOp) (tags : Tags) (t : CType) → (op ≡ binary.Sub → ⊥) → fewer.words_in tags t ≡ fewer.words_by op tags t
words_else binary.Sub tags t h = absurd (h refl)
words_else op tags t h = refl
