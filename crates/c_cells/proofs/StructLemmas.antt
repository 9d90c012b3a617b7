-- The kinds of structs, tag by tag.
use Rattle.std.proofs.Common.{◌≡◌, ℕ, Bool, true, false, List, [], ◌∷◌, Some, refl, sym, ap, subst, ◌∙◌, if◌then◌else◌, map}
use Rattle.std.specs.Prelude.{slice_get, nat_eq, Vec}
use Rattle.std.specs.declared.alloc.Global.{Global}
use Rattle.std.specs.Cmp.Lexicographic.{bytes_decides}
use Rattle.ordered.specs.Order.{insert_entry}
use Rattle.std.specs.List.{flat_map}
use Rattle.std.specs.Map.{lookup}
use Rattle.std.specs.Str.{bytes_eq}
use Rattle.c_types.specs.Types as types
use Rattle.c_types.specs.Types.{CType, Tags}
use Rattle.c_types.specs.Declarations.{types_of_members}
use Rattle.c_types.specs.Table.{Table, known}
use Rattle.c_store.specs.declared.kind.Kind.{Kind}
use Rattle.c_resolved.specs.Same.{kind_in}
use Rattle.c_eval.specs.Environment.{kinds_with, struct_kinds}
use Rattle.c_declared.specs.Held.{AreDistinct}
use Rattle.c_declared.specs.Slots.{Entries, AreListed, AreTypes}
use Rattle.c_cells.specs.declared.structs.StructKinds.{StructKinds}
use Rattle.c_cells.specs.Structs.{row_of, AreStructKinds}
use Rattle.c_cells.proofs.MapLemmas.{inserted, numbers}

-- the types of listed members
pub listed_types : (table : Table) (entries : Entries) (members : List (List ℕ × CType)) → AreListed (known table) entries members → AreTypes table entries (types_of_members members)
listed_types table [] [] h = tt
listed_types table (e ∷ entries) (m ∷ members) h = (h.1, listed_types table entries members h.2)
listed_types table [] (m ∷ members) h = absurd h
listed_types table (e ∷ entries) [] h = absurd h

some_name : (a b : List ℕ) → Some a ≡ Some b → a ≡ b
some_name a b e = cc

-- the members of one tag more are closed
pub closed : (table : Table) (structs new : StructKinds) (tag : ℕ) (name : List ℕ) (members : List (List ℕ × CType)) (words : ℕ) (tags : Tags) (row : Vec Kind Global)
    → AreDistinct table.tags → slice_get table.tags tag ≡ Some name → new.rows.entries ≡ insert_entry nat_eq structs.rows.entries tag row
    → map kind_in row.items ≡ flat_map (λ t. kinds_with (struct_kinds tags) t) (types_of_members members) → AreStructKinds table structs tags
    → AreStructKinds table new ((name, types.Members members words) ∷ tags)
closed table structs new tag name members words tags row distinct at made kinds old = record {
  found = λ n other there.
      ap (λ es. map kind_in (row_of (lookup (λ m. nat_eq n m) es))) made
      ∙ (ap (λ o. map kind_in (row_of o)) (inserted (λ x. x) nat_eq numbers n structs.rows.entries tag row)
      ∙ by n other there (nat_eq n tag) refl (bytes_eq other name) refl);
}
  where
    by : (n : ℕ) (other : List ℕ) → slice_get table.tags n ≡ Some other → (b : Bool) → nat_eq n tag ≡ b → (c : Bool) → bytes_eq other name ≡ c
        → map kind_in (row_of (if b then Some row else lookup (λ m. nat_eq n m) structs.rows.entries))
        ≡ (if c then flat_map (λ t. kinds_with (struct_kinds tags) t) (types_of_members members) else struct_kinds tags other)
    by n other there true e true f = kinds
    by n other there true e false f =
        let same : n ≡ tag = numbers.same n tag e in
        let named : other ≡ name = some_name other name (sym there ∙ (ap (slice_get table.tags) same ∙ at)) in
        let met : bytes_eq other name ≡ true = (bytes_decides other name).1 named in
        absurd cc
    by n other there false e true f =
        let named : other ≡ name = (bytes_decides other name).0 f in
        let same : n ≡ tag = distinct n tag name (there ∙ ap (λ (x : List ℕ). Some x) named) at in
        let met : nat_eq n tag ≡ true = numbers.equal n tag same in
        absurd cc
    by n other there false e false f = old.found n other there

-- the kinds of structs while types grow
pub struct_kinds_kept : (old new : Table) (structs : StructKinds) (tags : Tags) → new.tags ≡ old.tags → AreStructKinds old structs tags → AreStructKinds new structs tags
struct_kinds_kept old new structs tags same h = record { found = λ n tag at. h.found n tag (subst (λ (l : List (List ℕ)). slice_get l n ≡ Some tag) same at) }
