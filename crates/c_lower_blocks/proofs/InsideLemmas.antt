-- Blocks that begin and end.
use Rattle.std.proofs.Common.{◌≡◌, ◌+◌, ◌≤◌, ℕ, List, ◌++◌, length, take, refl, sym, ap, subst, ◌∙◌, length-append, arith}
use Rattle.std.proofs.Math.Seq.{take-length}
use Rattle.std.specs.Prelude.{Option}
use denote.Ref.{Bor}
use Rattle.c_syntax.specs.Words.{meaning}
use Rattle.c_types.specs.Scope.{entered}
use Rattle.c_eval.specs.Environment.{Environment}
use Rattle.eir_core.specs.declared.ops.Op.{Op}
use Rattle.c_types.specs.Table.{Table}
use Rattle.c_scopes.specs.declared.entity.Entity.{Entity}
use Rattle.c_scopes.specs.Blocks.{Blocks}
use Rattle.c_emission.specs.declared.location.Location.{Location}
use Rattle.c_declared.specs.Held.{HoldsSome, IsAround}
use Rattle.c_declared.proofs.HeldLemmas.{block_entered, block_left, front_same}
use Rattle.c_lowered.specs.Locations.{Linking}
use Rattle.c_counted.specs.Numbers.{IsNumber}
use Rattle.c_addressing.specs.declared.here.Here.{Here}
use Rattle.c_addressing.specs.declared.here.Output.{Output}
use Rattle.c_addressing.specs.Here.{IsHere, Emits}
use Rattle.c_addressing.specs.Names.{slot_of, entry_in}
use Rattle.c_addressing.specs.Places.{AreLocations}
use Rattle.c_addressing.proofs.HereLemmas.{literals_behind}
use Rattle.c_applied.specs.Leads.{Keeps}
use Rattle.c_lower_blocks.specs.declared.blocks.Marks.{Marks}
use Rattle.c_lower_blocks.specs.Blocks.{IsInside, AreMarks, IsEntered, IsBeside, IsSame}

abbrev Entries : Type 0
Entries = List (List ℕ × Entity)

-- the names behind the end are those before the beginning
pub names_left : (d e : Entries) (outer last names : Entries) (mark : ℕ) → names ≡ d ++ outer → e ++ last ≡ names → mark ≡ length outer → length last ≡ mark → (e ≡ d) × (last ≡ outer)
names_left d e outer last names mark all parts is count = front_same e last d outer (parts ∙ all) (count ∙ is)

-- what stands before places
pub taken : (all before : List Location) → all ≡ before → take (length before) all ≡ before
taken all before e = ap (λ (l : List Location). take (length before) l) e ∙ take-length before

pub beside_none : (h : Here) → IsBeside h h
beside_none h = record { declared = record { outer = refl; layouts = refl; defined = refl }; slots = refl; bases = refl; entries = refl }

pub beside_then : {h e f : Here} → IsBeside h e → IsBeside e f → IsBeside h f
beside_then b d = record {
  declared = record { outer = d.declared.outer ∙ b.declared.outer; layouts = d.declared.layouts ∙ b.declared.layouts; defined = d.declared.defined ∙ b.declared.defined };
  slots = d.slots ∙ b.slots;
  bases = d.bases ∙ b.bases;
  entries = d.entries ∙ b.entries;
}

pub inside_then : {h e f : Here} → IsInside h e → IsBeside e f → IsInside h f
inside_then {h} {e} {f} i b = record {
  names = b.declared.outer ∙ i.names;
  slots = b.slots ∙ i.slots;
  layouts = b.declared.layouts ∙ i.layouts;
  defined = b.declared.defined ∙ i.defined;
  bases = ap (λ (l : List Location). take (length h.bases.items) l) b.bases ∙ i.bases;
  entries = b.entries ∙ i.entries;
}

-- a block may end
pub names_end : (h e : Here) (m : Marks) → IsInside h e → AreMarks h m → m.names ≤ length e.declared.names.outer
names_end h e m i are =
    let k = ap length i.names ∙ length-append h.declared.names.block h.declared.names.outer in
    omega (arith, k, are.names)

pub slots_end : (h e : Here) (m : Marks) → IsInside h e → AreMarks h m → m.slots ≤ length e.slots.outer
slots_end h e m i are =
    let k = ap length i.slots ∙ length-append h.slots.block h.slots.outer in
    omega (arith, k, are.slots)

-- the names of the block that began may be forgotten
pub names_anew : (h e f : Here) (m : Marks) → IsEntered h e m → IsAround e.declared f.declared → m.names ≤ length f.declared.names.outer
names_anew h e f m i around =
    let k = ap length (around.outer ∙ i.inside.names) ∙ length-append h.declared.names.block h.declared.names.outer in
    omega (arith, k, i.marks.names)

pub entered_some : (table : Table) (h e : Here) (m : Marks) → IsEntered h e m → HoldsSome table h.declared → HoldsSome table e.declared
entered_some table h e m i some = (entered some.0, block_entered table h.declared e.declared some.0 i.names i.inside.names i.inside.layouts i.inside.defined some.1)

-- numbers of the same names
pub slots_same : (slots new : Blocks) (objects : List (List ℕ × Option ℕ)) → new.block ++ new.outer ≡ slots.block ++ slots.outer → ((name : List ℕ) → slot_of (meaning (slots.block ++ slots.outer) name) ≡ meaning objects name)
    → (name : List ℕ) → slot_of (meaning (new.block ++ new.outer) name) ≡ meaning objects name
slots_same slots new objects e h name = ap (λ (l : Entries). slot_of (meaning l name)) e ∙ h name

-- the same is declared, where code was added
pub same_here : (h e : Here) (a b : Output) (w : Linking) (env : Environment) {code : List Op} {n : ℕ} → IsSame h e → Emits a b code n → IsHere h a w env → IsHere e b w (record env { literals_before = env.literals_before + n })
same_here h e a b w env {code} {n} s emits is = record {
  holds =
      block_left a.types b.types h.declared e.declared env.scope emits.grows emits.tags
      (ap (λ (l : Entries). l ++ e.declared.names.outer) s.names ∙ ap (λ (l : Entries). h.declared.names.block ++ l) s.beside.declared.outer)
      (ap length s.beside.declared.outer) s.beside.declared.layouts s.beside.declared.defined is.holds;
  slots = slots_same h.slots e.slots env.objects (ap (λ (l : Entries). l ++ e.slots.outer) s.slots ∙ ap (λ (l : Entries). h.slots.block ++ l) s.beside.slots) is.slots;
  bases = subst (λ (l : List Location). AreLocations l w.bases) (sym s.beside.bases) is.bases;
  entries = λ name. subst (λ (x : List (Bor (List ℕ) × ℕ)). IsNumber (entry_in x name) (w.entry name)) (sym s.beside.entries) (is.entries name);
  literals = literals_behind a.literals b.literals w env.literals_before n is.literals emits.passed;
}

pub same_some : (old new : Output) (h e : Here) → IsSame h e → Keeps old new → HoldsSome old.types h.declared → HoldsSome new.types e.declared
same_some old new h e s keeps some = (
  some.0,
  block_left old.types new.types h.declared e.declared some.0 keeps.grows keeps.tags
      (ap (λ (l : Entries). l ++ e.declared.names.outer) s.names ∙ ap (λ (l : Entries). h.declared.names.block ++ l) s.beside.declared.outer)
      (ap length s.beside.declared.outer) s.beside.declared.layouts s.beside.declared.defined some.1,
)
