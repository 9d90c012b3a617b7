-- Layouts while the table of types grows.
use Rattle.std.proofs.Common.{◌≡◌, ℕ, List, Option, Some, None, subst}
use Rattle.std.specs.Prelude.{slice_get}
use Rattle.c_syntax.specs.Words.{meaning}
use Rattle.c_types.specs.Types as types
use Rattle.c_types.specs.Types.{CType, Tags}
use Rattle.c_types.specs.Known.{Known, OneType, Grows}
use Rattle.c_types.specs.Table.{Table, known}
use Rattle.c_layouts.specs.declared.layout.Layout.{Layout}
use Rattle.c_layouts.specs.declared.layout.Layout.TheVariants.{Undeclared, Unfinished, Members}
use Rattle.c_layouts.specs.Layouts.{IsMember, LayoutIs, LayoutIsThere, AreLayouts}

member_kept : (old new : List Known) (n : Option ℕ) (t : Option CType) → Grows old new → IsMember old n t → IsMember new n t
member_kept old new None t grows h = h
member_kept old new (Some n) (Some t) grows h = grows n (OneType t) h
member_kept old new (Some n) None grows h = h

layout_kept : (old new : List Known) (layout : Layout) (o : Option types.Layout) → Grows old new → LayoutIs old layout o → LayoutIs new layout o
layout_kept old new Undeclared o grows h = h
layout_kept old new Unfinished o grows h = h
layout_kept old new (Members map words) o grows h = record {
  members = h.members;
  count = h.count;
  is = h.is;
  found = λ name. member_kept old new _ _ grows (h.found name);
  counts = h.counts;
}

there_kept : (old new : List Known) (layout : Option Layout) (o : Option types.Layout) → Grows old new → LayoutIsThere old layout o → LayoutIsThere new layout o
there_kept old new (Some layout) o grows h = layout_kept old new layout o grows h
there_kept old new None o grows h = h

pub layouts_kept : (old new : Table) (layouts : List Layout) (all : Tags) → Grows (known old) (known new) → new.tags ≡ old.tags → AreLayouts old layouts all → AreLayouts new layouts all
layouts_kept old new layouts all grows same h = λ n tag at.
    there_kept (known old) (known new) (slice_get layouts n) (meaning all tag) grows
    (h n tag (subst (λ (names : List (List ℕ)). slice_get names n ≡ Some tag) same at))
