-- Where the code of a function begins.
use Rattle.std.specs.Prelude.{◌≡◌, ℕ, List, Some, slice_get}
use Rattle.c_resolved.specs.Same.{IsOwner}
use Rattle.c_emitted.specs.declared.emitter.Emitter.{Emitter}
use Rattle.c_emitted.specs.Tables.{Extends}
use Rattle.c_emitted.specs.Emits.{tables_of}

-- no code was emitted, and what follows is that of the function of a name, before its first string literal
pub record BeginsFunction (a b : Emitter) (name : List ℕ) (f : ℕ) : Type 0 where
  pub code : b.code ≡ a.code
  pub tables : Extends (tables_of a) (tables_of b)
  pub number : slice_get (tables_of b).names f ≡ Some name
  pub owner : IsOwner (tables_of b).names (Some name) b.owner
  pub before : b.before ≡ 0
  pub objects : b.objects.items ≡ a.objects.items
  pub files : b.files.entries ≡ a.files.entries
