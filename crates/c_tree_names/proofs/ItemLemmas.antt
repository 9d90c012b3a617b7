-- The names of the first external come before those of the others.
use Rattle.std.proofs.Common.{◌≡◌, List, ◌∷◌, ◌++◌, Some, None, refl}
use Rattle.c_syntax.specs.Plain as plain
use Rattle.c_syntax.specs.Plain.{CItem}
use Rattle.c_helpers.specs.Fewer.{names_in_bodies, names_at_file_scope}
use Rattle.c_tree_names.specs.Items.{names_in_body, names_of_object}

pub bodies_first : (item : CItem) (items : List CItem) → names_in_bodies (item ∷ items) ≡ names_in_body item ++ names_in_bodies items
bodies_first (plain.Function name at result params (Some body)) items = refl
bodies_first (plain.Function name at result params None) items = refl
bodies_first (plain.StructItem tag) items = refl
bodies_first (plain.Object d) items = refl

pub objects_first : (item : CItem) (items : List CItem) → names_at_file_scope (item ∷ items) ≡ names_of_object item ++ names_at_file_scope items
objects_first (plain.Object d) items = refl
objects_first (plain.StructItem tag) items = refl
objects_first (plain.Function name at result params body) items = refl
