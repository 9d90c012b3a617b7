-- What is emitted for a program behaves as the program.
use Rattle.std.proofs.Common.{◌≡◌, ℕ, ◌<◌, ◌^◌, ◌≤◌, List, [], ◌∷◌, Bool, true, false, refl, ap₂, arith}
use Rattle.std.specs.Prelude.{not, ◌&&◌, ◌||◌}
use Rattle.std.specs.List.{list_any}
use Rattle.std.proofs.lemmas.Bool.{and_parts}
use Rattle.eir_core.specs.Eir.{size_of}
use Rattle.c_syntax.specs.Plain.{CUnit}
use Rattle.c_types.specs.Scope.{contains}
use Rattle.c_types.specs.Units.{defined_in}
use Rattle.c_eval.specs.State as state
use Rattle.c_eval.specs.State.{Value, Cell, Unset, Holds}
use Rattle.c_eval.specs.Text.{text_of, file_start}
use Rattle.c_valid.specs.Valid.{AreBytes}
use Rattle.c_helpers.specs.Laws.{is_strange}
use Rattle.c_helpers.specs.Simple.{desugared}
use Rattle.c_worlds.specs.Named.{IsNamed, CellsAreNamed, ObjectsAreNamed}
use Rattle.c_programs.specs.Programs.{IsProgram}
use Rattle.c_fewer_names.specs.Names.{kept_in, is_reached}
use Rattle.c_fewer_names.proofs.Whole.{firsts_start}
use Rattle.c_fewer_names.proofs.Starts.{file_objects_are_named}
use Rattle.c_compiled.specs.MeaningKeptLaws.{ProgramStands}
use Rattle.c_compiled.proofs.Stand.{desugared_texts_stand}
use Rattle.c_laid.proofs.Objects.{pointed_functions_are_defined}
use Rattle.c_rates.specs.Rates.{ration}
use Rattle.c_laid.proofs.Sizes.{small_programs_have_room}
use Rattle.c_compiled.proofs.RoomWhole.{programs_are_small}
use Rattle.c_compiled.specs.PrintersFailLaws.{PrintersFail}
use Rattle.c_compiled.proofs.Whole.{printers_fail}
use Rattle.c_laid.proofs.Data.{first_memories_mean}
use Rattle.c_lowered.specs.Whole.{entry_in}
use Rattle.c_laid.specs.Data.{is_valued}
use Rattle.c_compiled.proofs.Programs.{FitsWords}
use Rattle.c_compiled.proofs.Found.{denied, entry_some, positive}
use Rattle.c_compiled.proofs.Made.{made}
use Rattle.c_compiled.proofs.Lowered.{programs_are_lowered}
use Rattle.c_compiled.specs.Compiled.{compiled}
use Rattle.c_compiled.specs.Laws.{ProgramsAreCompiled}

-- ---- pointers of objects

module _ (P Q R : List ℕ → Type 0) (both : (name : List ℕ) → P name → Q name → R name) where
  value_both : (v : Value) → IsNamed P v → IsNamed Q v → IsNamed R v
  value_both (state.Function name) p q = both name p q
  value_both v p q = tt

  cells_both : (cs : List Cell) → CellsAreNamed P cs → CellsAreNamed Q cs → CellsAreNamed R cs
  cells_both [] p q = tt
  cells_both (Unset ∷ cs) p q = (tt, cells_both cs p.1 q.1)
  cells_both (Holds v ∷ cs) p q = (value_both v p.0 q.0, cells_both cs p.1 q.1)

  objects_both : (xs : List state.Object) → ObjectsAreNamed P xs → ObjectsAreNamed Q xs → ObjectsAreNamed R xs
  objects_both [] p q = tt
  objects_both (x ∷ xs) p q = (cells_both x.cells p.0 q.0, objects_both xs p.1 q.1)

module _ (u : CUnit) (p : IsProgram u) (input : List ℕ) (bytes : AreBytes input) (size : size_of (compiled u) ≤ 2 ^ 21) where
  abbrev own : List (List ℕ)
  own = defined_in u.items

  abbrev reached : List ℕ → Bool
  reached = is_reached (kept_in u) own

  -- a function of the text that is reached
  abbrev pointed : List ℕ → Bool
  pointed name = reached name && contains own name

  stands : ProgramStands u input ration
  stands = desugared_texts_stand u input ration p bytes (omega arith)

  objects_point : ObjectsAreNamed (λ name. pointed name ≡ true) (text_of u).objects
  objects_point =
      objects_both (λ name. reached name ≡ true) (λ name. contains own name ≡ true) (λ name. pointed name ≡ true) (λ name r d. ap₂ (λ a b. a && b) r d) (text_of u).objects (file_objects_are_named reached u.items (file_start u) (firsts_start u p)) (pointed_functions_are_defined u p.typed)

  pointed_valued : (name : List ℕ) → pointed name ≡ true → is_valued (desugared u) name ≡ true
  pointed_valued name e =
      let functions = (text_of (desugared u)).functions in
      let k = and_parts (reached name) (contains own name) e in
      let l = and_parts (not (list_any is_strange name)) (contains (kept_in u) name || not (contains own name)) k.0 in
      let first : 1 ≤ entry_in functions 2 name = entry_some functions 2 name (omega arith) ((made u p).found name (kept_so (contains (kept_in u) name) (contains own name) k.1 l.1)) in
      ap₂ (λ a b. not a && b) (denied (list_any is_strange name) l.0) (positive (entry_in functions 2 name) first)
    where
      kept_so : (b c : Bool) → c ≡ true → (b || not c) ≡ true → b ≡ true
      kept_so true c e h = refl
      kept_so false true e h = absurd (cc h)
      kept_so false false e h = absurd (cc e)

  fits : PrintersFail u input → FitsWords u input
  fits fails =
      let room = small_programs_have_room u (desugared u) p.typed p.small stands.objects size in
      record {
        few = room.few;
        room = room.room;
        memory = first_memories_mean u pointed p.typed p.small p.bytes stands.objects stands.limited size objects_point pointed_valued;
        fails = fails;
      }

pub programs_are_compiled : ProgramsAreCompiled
programs_are_compiled u input p blocks bytes fuel =
    let less : size_of (compiled u) < 2 ^ 21 = programs_are_small u p blocks in
    programs_are_lowered u input fuel p blocks bytes (fits u p input bytes (omega (arith, less)) (printers_fail u input p))
