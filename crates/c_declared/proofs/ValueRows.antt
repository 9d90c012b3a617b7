-- Rows of first values as lists.
use Rattle.std.proofs.Common.{◌≡◌, ℕ, List, [], ◌∷◌, map, length, refl, ap, ◌∙◌, arith}
use Rattle.c_syntax.specs.Plain as plain
use Rattle.c_syntax.specs.Plain.{MoreValue, values}
use Rattle.c_syntax.specs.View.{value_of, values_in}
use Rattle.c_syntax.specs.declared.tree.Value.{Value, Many'}
use Rattle.c_syntax.specs.declared.tree.Value.TheVariants as value
use Rattle.c_syntax.specs.declared.tree.Values.{Values, Row_of-Value, end_of-Value, more_of-Value, items-the_row-Value, items_hidden-the_row-Value-0}
use Rattle.c_types.specs.Declarations.{count_values}

values_row : (m : _) (row : Row_of-Value m) → values_in row ≡ values (map value_of (items-the_row-Value m row))
values_row m end_of-Value = refl
values_row m (more_of-Value v rest) = ap (λ z. MoreValue (value_of v) z) (values_row _ rest)

-- a braced list is that of its row
abbrev Listed : Value → Type 0
Listed (Many' shape row) = (xs : List Value) → items-the_row-Value _ row ≡ xs → plain.Many (values_in row) ≡ plain.Many (values (map value_of xs))
Listed _ = Unit {0}

listed : (v : Value) → Listed v
listed (Many' shape row) = λ xs e. ap plain.Many (values_row _ row ∙ ap (λ z. values (map value_of z)) e)
listed _ = tt

pub braces_made : (vs : Values) → value_of (value.Many vs) ≡ plain.Many (values (map value_of vs.items.items))
braces_made vs = listed (value.Many vs) vs.items.items (items_hidden-the_row-Value-0 vs.items)

counted : (vs : List Value) → length vs ≡ count_values (values (map value_of vs))
counted [] = refl
counted (v ∷ vs) = let more = counted vs in omega (arith, more)

pub braces_counted : (vs : List Value) (n : ℕ) → n ≡ length vs → n ≡ count_values (values (map value_of vs))
braces_counted vs n e = e ∙ counted vs
