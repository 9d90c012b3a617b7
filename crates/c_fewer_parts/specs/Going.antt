-- What stays while statements are made anew.
use Rattle.std.specs.Prelude.{◌≡◌, Option}
use Rattle.c_syntax.specs.Plain.{CExpr, CStmt}
use Rattle.c_syntax.specs.View.{maybe, stmt_of}
use Rattle.c_types.specs.Scope.{Scope}
use Rattle.c_types.specs.Known.{Grows}
use Rattle.c_types.specs.Table.{Table, known, texts}
use Rattle.c_declared.specs.Held.{Holds, IsAround}
use Rattle.c_helpers.specs.Fewer.{maybe_fewer, fewer_in}
use Rattle.c_fewer_operators.specs.declared.here.Here.{Here}
use Rattle.c_fewer_parts.specs.declared.parts.Turns.{Turns}

-- the table of types has grown, and only the names of the innermost block changed
pub record Goes (a b : Table) (h k : Here) : Type 0 where
  pub grows : Grows (known a) (known b)
  pub tags : b.tags ≡ a.tags
  pub around : IsAround h.declared k.declared
  pub names : texts k.tags.items ≡ texts h.tags.items

-- and what was declared is declared
pub record Stays (a b : Table) (h k : Here) : Type 0 where
  pub goes : Goes a b h k
  pub holds : (s : Scope) → Holds a h.declared s → Holds b k.declared s

-- what stands behind the head of a `for` comes from these in a scope
pub record TurnsFrom (r : Turns) (s : Scope) (e f : Option CExpr) (t : CStmt) : Type 0 where
  pub test : maybe r.test ≡ maybe_fewer s e
  pub step : maybe r.step ≡ maybe_fewer s f
  pub body : stmt_of r.body ≡ fewer_in s t
