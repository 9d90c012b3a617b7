-- Functions that have got code.
use Rattle.std.specs.Prelude.{◌≡◌, ℕ, ◌<◌, List, [], ◌∷◌, Option, Some, None, slice_get, true, if◌then◌else◌, ◌==◌}
use Rattle.std.specs.List.{AllByRecursion}
use Rattle.c_code.specs.Machine as code
use Rattle.c_rule.specs.Stepping.{FlatCode, is_single}
use Rattle.c_plain.specs.declared.code.Entry.{Entry}
use Rattle.c_resolved.specs.Resolved.{kind_of}
use Rattle.c_emitted.specs.declared.emitter.Emitter.{Emitter}
use Rattle.c_emitted.specs.Tables.{AreMeant}
use Rattle.c_emitted.specs.Emits.{tables_of}
use Rattle.c_tracks.specs.Tracks.{told_charge}
use Rattle.c_linked.specs.declared.program.Compiled.{Compiled}
use Rattle.std.specs.Prelude.{length}

-- the first entry that a function has
abbrev pub entry_in : List Compiled → ℕ → Option Entry
entry_in [] f = None
entry_in (c ∷ cs) f = if c.function == f then Some c.entry else entry_in cs f

-- a table tells of so many functions the first entry that each has
abbrev pub Tells : List (Option Entry) → ℕ → List Compiled → Type 0
Tells table count compiled = (f : ℕ) → f < count → slice_get table f ≡ Some (entry_in compiled f)

-- an entry is that of a function of C's code
pub record IsEntry (e : code.Entry) (g : Entry) : Type 0 where
  pub at : g.at ≡ e.at
  pub params : g.params ≡ length e.params
  pub result : g.result ≡ kind_of e.result
  pub charge : g.charge ≡ told_charge e.charge
  pub more : e.more ≡ 0

-- the functions of C's code, one for one, by the numbers of their names
pub data AreCompiled (names : List (List ℕ)) : List (List ℕ × code.Entry) → List Compiled → Type 0 where
  no_function : AreCompiled names [] []
  more_functions : {e : List ℕ × code.Entry} → {c : Compiled} → {es : List (List ℕ × code.Entry)} → {cs : List Compiled} → slice_get names c.function ≡ Some e.0 → IsEntry e.1 c.entry → AreCompiled names es cs → AreCompiled names (e ∷ es) (c ∷ cs)

-- what was emitted is C's code, and these functions have their entries in it
pub record IsEmitted (out : Emitter) (compiled : List Compiled) (f : FlatCode) : Type 0 where
  pub meant : AreMeant (tables_of out) f.instructions out.code
  pub single : AllByRecursion (λ i. is_single i ≡ true) f.instructions
  pub entries : AreCompiled (tables_of out).names f.entries compiled
