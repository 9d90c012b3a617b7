-- The laws of the crate.
use Rattle.std.proofs.Common.{ℕ, ◌+◌, ◌≤◌, arith}
use Rattle.std.proofs.lemmas.Bool.{lt-ltb}
use Rattle.c_syntax.specs.Plain.{CUnit}
use Rattle.c_types.specs.Units.{start_scope}
use Rattle.c_types.specs.Room.{uses_of}
use Rattle.c_programs.specs.Programs.{IsProgram}
use Rattle.c_fewer_names.specs.Names.{fewer_items, kept_in, passes}
use Rattle.c_types.specs.Units.{defined_in}
use Rattle.c_fewer_names.proofs.Scopes.{starts_file}
use Rattle.c_fewer_names.proofs.Whole.{typed_as, items_are_fit}
use Rattle.c_compiled.specs.HelperCostsLaws.{occurs_in, KeptHelpersFit, HelpersFit}
use Rattle.c_compiled.proofs.HelperCostsSums.{kinds_pay}
use Rattle.c_compiled.proofs.RoomItems.{ItemsCall, walk}
use Rattle.c_compiled.proofs.Closed.{kept_functions}
use Rattle.c_compiled.proofs.Words.{firsts_fit}

calls : (u : CUnit) → IsProgram u → ItemsCall (occurs_in u) (fewer_items u)
calls u p =
    let t = typed_as u p in
    walk (occurs_in u) (passes (kept_in u) (defined_in u.items)) (kept_in u) u.items (start_scope u) t.end (starts_file (defined_in u.items)) p.names p.bodies (items_are_fit u p) t.items (λ k m. lt-ltb 0 (uses_of k u) m)

through : (x y z : ℕ) → x ≤ y → y ≤ z → x ≤ z
through x y z e f = omega (arith, e, f)

above : (x y z : ℕ) → x ≤ y + 48 → y ≤ z → x ≤ z + 48
above x y z e f = omega (arith, e, f)

pub kept_helpers_fit : KeptHelpersFit
kept_helpers_fit u p = through _ _ _ (kept_functions (occurs_in u) (fewer_items u) (calls u p)) (kinds_pay u)

pub helpers_fit : HelpersFit
helpers_fit u s p = above _ _ _ (firsts_fit (kept_in u) s) (kept_helpers_fit u p)
