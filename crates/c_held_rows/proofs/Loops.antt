-- Lists that grow as others are taken.
use Rattle.std.proofs.Common.{◌≡◌, ℕ, zero, suc, List, [], ◌∷◌, ◌++◌, map, refl, sym, ap, ◌∙◌, append_assoc, append-nil}
use Rattle.c_syntax.specs.Plain as plain
use Rattle.c_syntax.specs.Plain.{CTy, CStmt, CPart, CDecl}
use Rattle.c_grammar.specs.Tree.{Meaning, Nothing, Word, Expression, Expressions, Bracketed, Type', Declares, Declarations, Length, TheValue, TheValues, Statement, Label, Unnamed, Items, Several, Meanings, more, none, block_items, switch_parts, local_part, pointers, array, arrays, count}
use Rattle.c_grammar.specs.Values.{meanings_of}
use Rattle.c_held.specs.View.{meaning_of, row_of, around, layers_of}
use Rattle.c_held.specs.declared.value.Layer.{Layer}
use Rattle.c_held.specs.declared.value.Made.{Made}

-- what is taken next is added
pub next_of : {A C : Type 0} (h : List A → List C) (k : A → List C) (x : A) (xs left : List A) (o p total : List C) → h (x ∷ xs) ≡ k x ++ h xs → left ≡ x ∷ xs → p ≡ o ++ k x → o ++ h left ≡ total → p ++ h xs ≡ total
next_of h k x xs left o p total e l a inv = ap (λ z. z ++ h xs) a ∙ append_assoc o (k x) (h xs) ∙ ap (λ z. o ++ z) (sym e ∙ ap h (sym l)) ∙ inv

-- and in the end all is
pub all_taken : {A C : Type 0} (h : List A → List C) (left : List A) (o total : List C) → h [] ≡ [] → left ≡ [] → o ++ h left ≡ total → o ≡ total
all_taken h left o total e l inv = sym (append-nil o) ∙ ap (λ z. o ++ z) (sym e ∙ ap h (sym l)) ∙ inv

pub block_split : (m : Meaning) (ms : Meanings) → block_items (more m ms) ≡ block_items (more m none) ++ block_items ms
block_split (Declarations ds) ms = ap (λ z. z ++ block_items ms) (sym (append-nil (map plain.Local ds)))
block_split Nothing ms = refl
block_split _ ms = refl

pub switch_split : (m : Meaning) (ms : Meanings) → switch_parts (more m ms) ≡ switch_parts (more m none) ++ switch_parts ms
switch_split (Declarations ds) ms = ap (λ z. z ++ switch_parts ms) (sym (append-nil (map local_part ds)))
switch_split (Label p) ms = refl
switch_split _ ms = refl

pub pointers_inside : (n : ℕ) (t : CTy) → pointers n (plain.Pointer t) ≡ plain.Pointer (pointers n t)
pointers_inside zero t = refl
pointers_inside (suc n) t = ap plain.Pointer (pointers_inside n t)

pub layers_last : (ls : List Layer) (l : Layer) (t : CTy) → layers_of (ls ++ l ∷ []) t ≡ layers_of ls (around l t)
layers_last [] l t = refl
layers_last (k ∷ ls) l t = ap (around k) (layers_last ls l t)

-- of its stars
abbrev pub stars_in : List Made → CTy → CTy
stars_in xs t = pointers (count (meanings_of (row_of xs))) t

pub all_stars : (left : List Made) (o total : CTy → CTy) → left ≡ [] → ((t : CTy) → o (stars_in left t) ≡ total t) → (t : CTy) → o t ≡ total t
all_stars left o total l inv t = ap (λ z. o (stars_in z t)) (sym l) ∙ inv t
