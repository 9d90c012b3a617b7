-- Cells written one behind the other.
use Rattle.std.proofs.Common.{◌≡◌, ℕ, ◌+◌, ◌<◌, List, [], ◌∷◌, length, map, drop, Result, Ok, Err, refl, sym, ap, ◌∙◌, arith, get_or}
use Rattle.std.specs.Prelude.{suc}
use Rattle.std.proofs.Math.Seq.{drop-cons}
use Rattle.c_store.specs.declared.act.Act.{Act}
use Rattle.c_store.specs.declared.kind.Kind.{Kind}
use Rattle.c_store.specs.Values.{Value, Word, Null, Point, Letter, Function, Missing, Literal, Stack}
use Rattle.c_store.specs.Words.{offset_of, at_offset, stored}
use Rattle.c_plain.specs.Operators.{and_then}
use Rattle.c_plain.specs.Rule.{filled}

-- the cell behind one
behind : (p : Value) (j : ℕ) → at_offset (at_offset p j) (suc (offset_of (at_offset p j))) ≡ at_offset p (j + 1)
behind (Point o n l) j = ap (Point o n) (omega arith)
behind (Letter l m) j = ap (Letter l) (omega arith)
behind (Word n) j = refl
behind Null j = refl
behind (Function f) j = refl
behind Missing j = refl
