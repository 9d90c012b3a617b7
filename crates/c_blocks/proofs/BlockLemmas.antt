-- Blocks that begin and end.
use Rattle.std.proofs.Common.{◌≡◌, ◌+◌, ◌<◌, ◌≤◌, ℕ, List, [], ◌∷◌, ◌++◌, length, map, Option, refl, sym, ap, subst, ◌∙◌, length-append, arith}
use Rattle.std.proofs.lemmas.List.{append-nil}
use Rattle.c_syntax.specs.Words.{meaning}
use Rattle.c_eval.specs.State.{Cell}
use Rattle.c_eval.specs.Environment.{Environment, in_block, behind_literals}
use Rattle.c_code.specs.Code as code
use Rattle.c_code.specs.Code.{Site}
use Rattle.c_plain.specs.declared.instruction.Instruction.TheVariants as plain
use Rattle.c_types.specs.Known.{Grows}
use Rattle.c_types.specs.Table.{Table, known}
use Rattle.c_scopes.specs.declared.entity.Entity.{Entity}
use Rattle.c_scopes.specs.Blocks.{Blocks}
use Rattle.c_declared.specs.Held.{HoldsSome}
use Rattle.c_declared.proofs.HeldLemmas.{block_entered, block_left, front_same}
use Rattle.c_emitted.specs.declared.emitter.Emitter.{Emitter}
use Rattle.c_emitted.specs.Tables.{Tables, tables_in, Extends}
use Rattle.c_emitted.specs.Emits.{tables_of, Emits, Reserves}
use Rattle.c_emitted.proofs.EmitLemmas.{both, later, patched}
use Rattle.c_pieces.specs.Places.{AreInSlots, slot_of}
use Rattle.c_here.specs.declared.here.Here.{Here}
use Rattle.c_here.specs.Here.{IsHere}
use Rattle.c_here.proofs.HereLemmas.{here_behind}
use Rattle.c_blocks.specs.declared.blocks.Marks.{Marks}
use Rattle.c_blocks.specs.Blocks.{IsInside, AreMarks, IsEntered, IsBeside, IsSame}
use Rattle.c_blocks.specs.Objects.{unset_objects, EndsBlock}

abbrev Entries : Type 0
Entries = List (List ℕ × Entity)

-- the names behind the end are those before the beginning
pub names_left : (d e : Entries) (outer last names : Entries) (mark : ℕ) → names ≡ d ++ outer → e ++ last ≡ names → mark ≡ length outer → length last ≡ mark → (e ≡ d) × (last ≡ outer)
names_left d e outer last names mark all parts is count = front_same e last d outer (parts ∙ all) (count ∙ is)

pub inside_then : (h e f : Here) → IsInside h e → IsBeside e f → IsInside h f
inside_then h e f i b = record { names = b.declared.outer ∙ i.names; slots = b.slots ∙ i.slots; layouts = b.declared.layouts ∙ i.layouts; defined = b.declared.defined ∙ i.defined }

-- a block may end
pub names_end : (h e : Here) (m : Marks) → IsInside h e → AreMarks h m → m.names ≤ length e.declared.names.outer
names_end h e m i are =
    let k = ap length i.names ∙ length-append h.declared.names.block h.declared.names.outer in
    omega (arith, k, are.names)

pub slots_end : (h e : Here) (m : Marks) → IsInside h e → AreMarks h m → m.slots ≤ length e.slots.outer
slots_end h e m i are =
    let k = ap length i.slots ∙ length-append h.slots.block h.slots.outer in
    omega (arith, k, are.slots)

pub entered_some : (table : Table) (h e : Here) (m : Marks) → IsEntered h e m → HoldsSome table h.declared → HoldsSome table e.declared
entered_some table h e m i some = (_, block_entered table h.declared e.declared some.0 i.names i.inside.names i.inside.layouts i.inside.defined some.1)

-- slots of the same names
slots_same : (slots new : Blocks) (objects : List (List ℕ × Option ℕ)) → new.block ++ new.outer ≡ slots.block ++ slots.outer → AreInSlots slots objects → AreInSlots new objects
slots_same slots new objects e h = record { found = λ name. ap (λ (l : Entries). slot_of (meaning l name)) e ∙ h.found name }

-- a block begins
pub entered_here : (table : Table) (h e : Here) (m : Marks) (out : Emitter) (site : Site) (env : Environment) (n : ℕ) → IsEntered h e m → IsHere table h out site env → IsHere table e out site (in_block n env)
entered_here table h e m out site env n i is = record {
  holds = block_entered table h.declared e.declared env.scope i.names i.inside.names i.inside.layouts i.inside.defined is.holds;
  slots = slots_same h.slots e.slots env.objects (ap (λ (l : Entries). l ++ e.slots.outer) i.slots ∙ i.inside.slots) is.slots;
  files = is.files;
  owner = is.owner;
  before = is.before;
}

-- the same is declared, where types have grown
same_now : (old new : Table) (h e : Here) (out : Emitter) (site : Site) (env : Environment) → IsSame h e → Grows (known old) (known new) → new.tags ≡ old.tags → IsHere old h out site env → IsHere new e out site env
same_now old new h e out site env s grows tags is = record {
  holds =
      block_left old new h.declared e.declared env.scope grows tags
      (ap (λ (l : Entries). l ++ e.declared.names.outer) s.names ∙ ap (λ (l : Entries). h.declared.names.block ++ l) s.beside.declared.outer)
      (ap length s.beside.declared.outer) s.beside.declared.layouts s.beside.declared.defined is.holds;
  slots = slots_same h.slots e.slots env.objects (ap (λ (l : Entries). l ++ e.slots.outer) s.slots ∙ ap (λ (l : Entries). h.slots.block ++ l) s.beside.slots) is.slots;
  files = is.files;
  owner = is.owner;
  before = is.before;
}

-- and where code was emitted meanwhile
pub same_behind : (old new : Table) (h e : Here) (a b : Emitter) (site : Site) (env : Environment) {is : List code.Instruction} {ls : List (List ℕ)} → IsSame h e → Grows (known old) (known new) → new.tags ≡ old.tags → Emits a b is ls
    → IsHere old h a site env → IsHere new e b site (behind_literals ls env)
same_behind old new h e a b site env {is} {ls} s grows tags emits here =
    same_now new new h e b site (behind_literals ls env) s (λ n k x. x) refl (here_behind old new h a b site env grows tags emits here)

pub same_some : (old new : Table) (h e : Here) → IsSame h e → Grows (known old) (known new) → new.tags ≡ old.tags → HoldsSome old h.declared → HoldsSome new e.declared
same_some old new h e s grows tags some = (
  some.0,
  block_left old new h.declared e.declared some.0 grows tags
      (ap (λ (l : Entries). l ++ e.declared.names.outer) s.names ∙ ap (λ (l : Entries). h.declared.names.block ++ l) s.beside.declared.outer)
      (ap length s.beside.declared.outer) s.beside.declared.layouts s.beside.declared.defined some.1,
)

-- ---- code of a block

-- the code of a block's statements, whose objects are entered at its begin
pub block_emitted : (a b c d : Emitter) (start : ℕ) (lengths : List ℕ) (cells : List (List Cell)) (count : ℕ) {is : List code.Instruction} {ls : List (List ℕ)} → Reserves a b start → Emits b c is ls → EndsBlock c d start lengths
    → unset_objects lengths ≡ cells → length cells ≡ count → Emits a d (code.Enter cells count ∷ (is ++ code.Leave ∷ [])) ls
block_emitted a b c d start lengths cells count {is} {ls} opens e ends same many =
    let inner : Emits b ends.told is ls = subst (λ (l : List code.Instruction). Emits b ends.told l ls) (append-nil is) (later e ends.tells) in
    let enters : Emits a ends.filled (code.Enter cells count ∷ is) ls =
    patched a b ends.told ends.filled start (code.Enter cells count) (plain.Enter ends.span) opens inner ends.fills
    (record { means = λ names p g. (ap unset_objects (ends.is.is names p (subst (λ (t : Tables). Extends t (tables_in names p)) ends.fills.keeps.tables g)) ∙ same, many) }) in
    later enters ends.leaves
