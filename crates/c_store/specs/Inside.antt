-- How the live objects are held.
use Rattle.std.specs.Prelude.{List, [], ◌∷◌, length, map, take, drop}
use Rattle.c_store.specs.declared.live.Live.{Live}
use Rattle.c_store.specs.declared.store.Store.TheInside.{Inside}
use Rattle.c_store.specs.Values.{Cell, Object, Stack}
use Rattle.c_store.specs.Shown.{cell_of}
use Rattle.c_store.specs.Live.{IsHeld}

-- objects whose cells stand one after the other
abbrev pub objects_of : List Live → List Cell → List Object
objects_of [] cells = []
objects_of (x ∷ xs) cells = record { number = x.number; cells = take x.length cells } ∷ objects_of xs (drop x.length cells)

abbrev pub stack_of : Inside → Stack
stack_of a = record { next = a.next; live = objects_of a.objects.items (map cell_of a.cells.items) }

abbrev pub IsInside : Inside → Type 0
IsInside a = IsHeld a.objects.items (length a.cells.items) a.next
