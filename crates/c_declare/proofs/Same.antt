-- What is declared is the same where its parts are.
use Rattle.std.proofs.Common.{◌≡◌, ℕ, List, [], ◌∷◌, ◌++◌, Option, Some, None, refl, ap, sym, ◌∙◌}
use Rattle.c_syntax.specs.Plain as plain
use Rattle.c_syntax.specs.Plain.{CExpr, CTy, CDecl}
use Rattle.c_syntax.specs.View.{maybe, decl_of, decls_of}
use Rattle.c_syntax.specs.declared.tree.Decl.{Decl}
use Rattle.c_syntax.specs.declared.tree.Expr.{Expr}
use Rattle.c_grammar.specs.Tree as grammar
use Rattle.c_grammar.specs.Tree.{Meaning, Meanings, more, Several, Length, array, arrays}
use Rattle.c_held.specs.View.{meaning_of, around, layers_of, all_of}
use Rattle.c_held.specs.declared.value.Declared.{Declared}
use Rattle.c_held.specs.declared.value.Layer.{Layer}
use Rattle.c_held.specs.declared.value.Layer.TheVariants.{Array}
use Rattle.c_held.specs.declared.value.Meaning.{Meaning as Held}
use Rattle.c_held.specs.declared.value.Meaning.TheVariants as held

pub named_same : (n : List ℕ) (p : ℕ) (g : CTy → CTy) (m : Meaning) (f : CTy → CTy) → n ≡ grammar.name m → p ≡ grammar.place m → ((t : CTy) → g t ≡ f t) → grammar.Declares (λ t. record { name = n; pos = p; ty = g t; first = None }) ≡ grammar.Declares (grammar.named m f)
named_same n p g m f a b h = λ i. grammar.Declares (λ t. record { name = a i; pos = b i; ty = h t i; first = None })

-- a first declaration, and those of a row behind it
pub all_behind : (start pushed out : List Decl) (first : Decl) (begun all : List Declared) (base : CTy) (rest : List CDecl) → start ≡ [] → pushed ≡ start ++ first ∷ [] → begun ≡ [] → all_of all base ≡ all_of begun base ++ rest → decls_of out ≡ decls_of pushed ++ all_of all base → decls_of out ≡ decl_of first ∷ rest
all_behind start pushed out first begun all base rest a p b f e =
    e ∙ ap (λ z. decls_of z ++ all_of all base) (p ∙ ap (λ z. z ++ first ∷ []) a) ∙ ap (λ z. decl_of first ∷ z) (f ∙ ap (λ z. all_of z base ++ rest) b)

length_around : (e : Option Expr) (t : CTy) → around (Array e) t ≡ array (Length (maybe e)) t
length_around None t = refl
length_around (Some e) t = refl

-- a first length, and those of a row inside
pub lengths_behind : (start pushed out : List Layer) (e : Option Expr) (n : Option CExpr) (others : Meanings) → start ≡ [] → pushed ≡ start ++ Array e ∷ [] → maybe e ≡ n → ((t : CTy) → layers_of out t ≡ layers_of pushed (arrays others t)) → (t : CTy) → layers_of out t ≡ array (Length n) (arrays others t)
lengths_behind start pushed out e n others a p m h t =
    h t ∙ ap (λ z. layers_of z (arrays others t)) (p ∙ ap (λ z. z ++ Array e ∷ []) a) ∙ length_around e (arrays others t) ∙ ap (λ z. array (Length z) (arrays others t)) m

abbrev pub unnamed_decl : ℕ → CTy → CDecl
unnamed_decl p t = record { name = []; pos = p; ty = t; first = None }

unnamed_at : (m : Held) → ((d : Declared) → m ≡ held.Declares d → ⊥) → (ms : Meanings) (p : ℕ) (t : CTy) → unnamed_decl p (grammar.unnamed (Several (more (meaning_of m) ms)) t) ≡ grammar.parameter_of (Several (more (meaning_of m) ms)) p t
unnamed_at (held.Declares d) h ms p t = absurd (h d refl)
unnamed_at held.Nothing h ms p t = refl
unnamed_at _ h ms p t = refl

-- a parameter that declares no name
pub parameter_unnamed : (m : Held) → ((d : Declared) → m ≡ held.Declares d → ⊥) → (ms : Meanings) (p : ℕ) (t u : CTy) → u ≡ grammar.unnamed (Several (more (meaning_of m) ms)) t → unnamed_decl p u ≡ grammar.parameter_of (Several (more (meaning_of m) ms)) p t
parameter_unnamed m h ms p t u e = ap (unnamed_decl p) e ∙ unnamed_at m h ms p t
