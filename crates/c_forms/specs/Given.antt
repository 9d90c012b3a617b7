-- The types that operators give.
use Rattle.std.specs.Prelude.{◌≡◌, ℕ, List, Option, Some, None}
use Rattle.c_types.specs.Types.{CType, Tags}
use Rattle.c_types.specs.Known.{OneType, says}
use Rattle.c_types.specs.Table.{Table, known, HasType}
use Rattle.c_layouts.specs.declared.layout.Layout.{Layout}
use Rattle.c_layouts.specs.Layouts.{AreLayouts}
use Rattle.c_forms.specs.declared.given.Given.{Given}
use Rattle.c_forms.specs.declared.given.Given.TheVariants.{Number, Shape}

-- what is given is this type
abbrev pub GivenIs : Table → Given → CType → Type 0
GivenIs table (Number n) t = HasType table n t
GivenIs table (Shape s) t = says table.tags (known table) s ≡ Some (OneType t)

abbrev pub CanBeGiven : Table → Given → Type 0
CanBeGiven table given = (t : CType) × GivenIs table given t

-- there is a type where the definitions have one, and it is theirs
abbrev pub IsGiven : Table → Option Given → Option CType → Type 0
IsGiven table (Some given) (Some t) = GivenIs table given t
IsGiven table None None = Unit {0}
IsGiven table _ _ = ⊥

-- there are tags whose layouts these are
abbrev pub HaveLayouts : Table → List Layout → Type 0
HaveLayouts table layouts = (tags : Tags) × AreLayouts table layouts tags
