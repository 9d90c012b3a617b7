-- Meanings that are functions are the same where their values are.
use Rattle.std.proofs.Common.{◌≡◌, ℕ, List, Option}
use Rattle.c_syntax.specs.Plain.{CTy, CDecl, CItem, CValue}
use Rattle.c_grammar.specs.Tree.{Meaning, Declares, Unnamed, Items}

pub declares_same : (f g : CTy → CDecl) → ((t : CTy) → f t ≡ g t) → Declares f ≡ Declares g
declares_same f g h = λ i. Declares (λ t. h t i)

pub unnamed_same : (f g : CTy → CTy) → ((t : CTy) → f t ≡ g t) → Unnamed f ≡ Unnamed g
unnamed_same f g h = λ i. Unnamed (λ t. h t i)

pub items_same : (f g : CTy → CTy → List CItem) → ((b t : CTy) → f b t ≡ g b t) → Items f ≡ Items g
items_same f g h = λ i. Items (λ b t. h b t i)

abbrev pub decl_at : List ℕ → ℕ → CTy → Option CValue → CDecl
decl_at n p t v = record { name = n; pos = p; ty = t; first = v }

pub decl_same : (n m : List ℕ) (p q : ℕ) (t u : CTy) (v w : Option CValue) → n ≡ m → p ≡ q → t ≡ u → v ≡ w → decl_at n p t v ≡ decl_at m q u w
decl_same n m p q t u v w a b c d = λ i. decl_at (a i) (b i) (c i) (d i)
