-- First values that stay, and structs by their parts.
use Rattle.std.proofs.Common.{◌≡◌, ℕ, List, Option, Some, None, refl, ap, ◌∙◌}
use Rattle.std.specs.Prelude.{option_map}
use Rattle.c_syntax.specs.Plain as plain
use Rattle.c_syntax.specs.Plain.{CValue, CValues, CDecl, CTag}
use Rattle.c_helpers.specs.Fewer.{with_values, with_all_values}

mutual
  same_value : (v : CValue) → v ≡ with_values (λ e. e) v
  same_value (plain.One e) = refl
  same_value (plain.Many vs) = ap plain.Many (same_values vs)

  same_values : (vs : CValues) → vs ≡ with_all_values (λ e. e) vs
  same_values plain.NoValue = refl
  same_values (plain.MoreValue v vs) = ap (λ (x : CValue). plain.MoreValue x vs) (same_value v) ∙ ap (plain.MoreValue (with_values (λ e. e) v)) (same_values vs)

pub same_first : (o : Option CValue) → o ≡ option_map (with_values (λ e. e)) o
same_first None = refl
same_first (Some v) = ap Some (same_value v)

-- a struct by its parts
abbrev pub tag_as : List ℕ → ℕ → List CDecl → CTag
tag_as name pos members = record { name = name; pos = pos; members = members }

pub tag_is : (name other : List ℕ) (pos : ℕ) (ms ns : List CDecl) → name ≡ other → ms ≡ ns → plain.StructItem (tag_as name pos ms) ≡ plain.StructItem (tag_as other pos ns)
tag_is name other pos ms ns e f = ap (λ (n : List ℕ). plain.StructItem (tag_as n pos ms)) e ∙ ap (λ (l : List CDecl). plain.StructItem (tag_as other pos l)) f
