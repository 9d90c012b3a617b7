-- The members of a tag that are declared one after the other, as the definitions have them.
use Rattle.std.specs.Prelude.{ℕ, Bool, true, false, not, List, [], ◌∷◌, Some, is_none}
use Rattle.std.specs.Option.{option_map_or}
use Rattle.c_syntax.specs.Plain.{CDecl, CTag}
use Rattle.c_syntax.specs.Words.{meaning}
use Rattle.c_types.specs.declared.fault.TypeFault.TheVariants as fault
use Rattle.c_types.specs.Types as types
use Rattle.c_types.specs.Types.{CType, Tags}
use Rattle.c_types.specs.Refusals.{Judged, Rule, keeping}
use Rattle.c_types.specs.Scope.{Scope}
use Rattle.c_types.specs.Declarations.{words_of_members, is_tag, some_members}
use Rattle.c_types.specs.Known.{Known}
use Rattle.c_types.specs.Seen.{Counts}
use Rattle.c_layouts.specs.declared.layout.Layout.{Layout}
use Rattle.c_layouts.specs.Layouts.{LayoutIs}
use Rattle.c_declared.specs.Slots.{AreListed, IsListed}
use Rattle.c_declarations.specs.declared.members.Members.{Members}

-- the members of the code are these, and take as many words
pub record AreSoFar (all : List Known) (tags : Tags) (m : Members) (members : List (List ℕ × CType)) : Type 0 where
  pub listed : AreListed all m.entries.entries members
  pub counts : Counts m.words (words_of_members tags members)

-- a layout of the code has these members, which are closed
pub record IsClosed (all : List Known) (tags : Tags) (l : Layout) (members : List (List ℕ × CType)) : Type 0 where
  pub is : LayoutIs all l (Some (types.Members members (words_of_members tags members)))
  pub listed : IsListed all (Some l) (Some (types.Members members (words_of_members tags members)))

-- a member's own rules, beside those before it
abbrev pub member_rules : List (List ℕ × CType) → CDecl → List Rule
member_rules before m = (option_map_or (λ _. false) (meaning before m.name) true, fault.Twice m.pos) ∷ (is_none m.first, fault.Mismatch m.pos) ∷ []

-- a member of a type
abbrev pub member_of : List (List ℕ × CType) → CDecl → CType → Judged (List ℕ × CType)
member_of before m t = keeping (member_rules before m) (m.name, t)

-- a tag's own rules
abbrev pub tag_rules : Scope → CTag → List Rule
tag_rules s tag = (not (is_tag s tag.name), fault.Twice tag.pos) ∷ (some_members tag.members, fault.Mismatch tag.pos) ∷ []
