-- What the values of a parser stand for in the grammar.
use Rattle.std.specs.Prelude.{ℕ, false, List, [], ◌∷◌, ◌++◌, map, Option, Some, None}
use Rattle.c_syntax.specs.Plain as plain
use Rattle.c_syntax.specs.Plain.{CTy, CDecl, CItem, tys}
use Rattle.c_syntax.specs.View.{expr_of, maybe, ty_of, value_of, maybe_value, decl_of, decls_of, stmt_of, maybe_stmt, part_of, tag_of, item_of}
use Rattle.c_syntax.specs.declared.tree.Tag.{Tag}
use Rattle.c_grammar.specs.Tree as tree
use Rattle.c_grammar.specs.Values as values
use Rattle.c_grammar.specs.Values.{ValueList, nil, cons}
use Rattle.c_held.specs.declared.value.Layer.{Layer}
use Rattle.c_held.specs.declared.value.Layer.TheVariants.{Pointer, Array, FunctionPointer}
use Rattle.c_held.specs.declared.value.Declarator.{Declarator}
use Rattle.c_held.specs.declared.value.Declared.{Declared}
use Rattle.c_held.specs.declared.value.Declared.TheVariants.{Of, Fixed}
use Rattle.c_held.specs.declared.value.Rest.{Rest}
use Rattle.c_held.specs.declared.value.Rest.TheVariants.{Items, Function, Objects}
use Rattle.c_held.specs.declared.value.Base.{Base}
use Rattle.c_held.specs.declared.value.Base.TheVariants.{Void, Int, Unsigned, Char, UChar, Struct}
use Rattle.c_held.specs.declared.value.Meaning.{Meaning}
use Rattle.c_held.specs.declared.value.Meaning.TheVariants as is
use Rattle.c_held.specs.declared.value.Facts.{Facts}
use Rattle.c_held.specs.declared.value.Made.{Made}
use Rattle.c_held.specs.declared.value.Value.{Value}
use Rattle.c_held.specs.declared.value.Value.TheVariants.{Token, Part, Row}

-- what a layer puts around a type
abbrev pub around : Layer → CTy → CTy
around Pointer t = plain.Pointer t
around (Array None) t = plain.Array t
around (Array (Some e)) t = plain.ArrayOf t (expr_of e)
around (FunctionPointer types) t = plain.Pointer (plain.Func t (tys (map ty_of types.items)))

-- the first is the outermost
abbrev pub layers_of : List Layer → CTy → CTy
layers_of [] t = t
layers_of (l ∷ ls) t = around l (layers_of ls t)

abbrev pub declared_of : Declared → CTy → CDecl
declared_of (Of d) t = record { name = d.name; pos = d.pos; ty = layers_of d.layers.items t; first = maybe_value d.first }
declared_of (Fixed d) t = decl_of d

abbrev pub all_of : List Declared → CTy → List CDecl
all_of [] t = []
all_of (d ∷ ds) t = declared_of d t ∷ all_of ds t

-- of the type that words say, and of what stars make of it
abbrev pub rest_of : Rest → CTy → CTy → List CItem
rest_of (Items items) base t = map item_of items.items
rest_of (Function d params body) base t = tree.function (declared_of d t) (decls_of params.items) (maybe_stmt body) ∷ []
rest_of (Objects d others) base t = map plain.Object (declared_of d t ∷ all_of others.items base)

abbrev pub base_of : Base → CTy
base_of Void = plain.Void
base_of Int = plain.Int
base_of Unsigned = plain.Unsigned
base_of Char = plain.Char
base_of UChar = plain.UChar
base_of (Struct name) = plain.Struct name

abbrev pub struct_items : Option Tag → List CItem
struct_items None = []
struct_items (Some tag) = plain.StructItem (tag_of tag) ∷ []

abbrev pub meaning_of : Meaning → tree.Meaning
meaning_of is.Nothing = tree.Nothing
meaning_of (is.Word t) = tree.Word t
meaning_of (is.Expression e) = tree.Expression (expr_of e)
meaning_of (is.Expressions es) = tree.Expressions (map expr_of es.items)
meaning_of (is.Bracketed pos t) = tree.Bracketed pos (ty_of t)
meaning_of (is.Words base pos bare tag) = tree.Type' (base_of base) pos bare (struct_items tag)
meaning_of (is.TypeName t) = tree.Type' (ty_of t) 0 false []
meaning_of (is.Declares d) = tree.Declares (declared_of d)
meaning_of (is.Declarations ds) = tree.Declarations (decls_of ds.items)
meaning_of (is.Length n) = tree.Length (maybe n)
meaning_of (is.Initial v) = tree.TheValue (value_of v)
meaning_of (is.Initials vs) = tree.TheValues (map value_of vs.items)
meaning_of (is.Statement s) = tree.Statement (stmt_of s)
meaning_of (is.Label p) = tree.Label (part_of p)
meaning_of (is.Unnamed layers) = tree.Unnamed (layers_of layers.items)
meaning_of (is.External r) = tree.Items (rest_of r)

abbrev pub facts_of : Facts → values.Facts
facts_of f = record { category = f.category; open' = f.ends_open; operators = f.operators; stars = f.stars; type_inside = f.type_inside }

abbrev pub made_of : Made → values.Value
made_of m = values.Made (facts_of m.facts) (meaning_of m.meaning)

abbrev pub row_of : List Made → ValueList
row_of [] = nil
row_of (m ∷ ms) = cons (made_of m) (row_of ms)

abbrev pub value_at : Value → values.Value
value_at (Token t) = values.Token' t
value_at (Part m) = made_of m
value_at (Row ms) = values.Values (row_of ms.items)

abbrev pub values_of : List Value → ValueList
values_of [] = nil
values_of (v ∷ vs) = cons (value_at v) (values_of vs)

-- what a value means
abbrev pub means : Value → tree.Meaning
means v = values.meaning_of (value_at v)
