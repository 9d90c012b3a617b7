-- The values in braces, by their elements and by their row.
use Rattle.std.proofs.Common.{◌≡◌, List, map, refl, ap, ◌∙◌}
use Rattle.c_syntax.specs.Plain as plain
use Rattle.c_syntax.specs.Plain.{MoreValue, values}
use Rattle.c_syntax.specs.View.{value_of, values_in}
use Rattle.c_syntax.specs.declared.tree.Value.{Value, One, Many'}
use Rattle.c_syntax.specs.declared.tree.Values.{Values, Row_of-Value, end_of-Value, more_of-Value, items-the_row-Value, items_hidden-the_row-Value-0}
use Rattle.c_syntax.specs.declared.tree.Value.TheVariants as value

values_row : (m : _) (row : Row_of-Value m) → values_in row ≡ values (map value_of (items-the_row-Value m row))
values_row m end_of-Value = refl
values_row m (more_of-Value v rest) = ap (λ z. MoreValue (value_of v) z) (values_row _ rest)

-- the values in braces are those of their row
abbrev Braced : Value → Type 0
Braced (Many' shape row) = (xs : List Value) → items-the_row-Value _ row ≡ xs → plain.Many (values_in row) ≡ plain.Many (values (map value_of xs))
Braced _ = Unit {0}

braced : (x : Value) → Braced x
braced (Many' shape row) = λ xs e. ap plain.Many (values_row _ row ∙ ap (λ z. values (map value_of z)) e)
braced (One e) = tt

pub braces_made : (vs : Values) → value_of (value.Many vs) ≡ plain.Many (values (map value_of vs.items.items))
braces_made vs = braced (value.Many vs) vs.items.items (items_hidden-the_row-Value-0 vs.items)
