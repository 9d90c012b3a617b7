-- Places and judgements while types grow and code is emitted.
use Rattle.std.proofs.Common.{◌≡◌, ◌+◌, ◌++◌, ℕ, suc, List, [], length, refl, sym, ap, subst, ◌∙◌, arith}
use Rattle.std.specs.Prelude.{Result}
use Rattle.std.specs.Map.{lookup}
use Rattle.std.specs.Str.{bytes_eq}
use Rattle.c_syntax.specs.Words.{meaning}
use Rattle.c_types.specs.declared.fault.TypeFault.{TypeFault}
use Rattle.c_types.specs.Refusals.{Judged}
use Rattle.c_types.specs.Scope.{Scope}
use Rattle.c_types.specs.Operands as operands
use Rattle.c_types.specs.Types.{CType}
use Rattle.c_eval.specs.Environment.{Environment, behind_literals}
use Rattle.c_code.specs.Code as code
use Rattle.c_code.specs.Code.{Site, choice_code}
use Rattle.c_resolved.specs.Same.{IsOwner}
use Rattle.c_plain.specs.declared.instruction.Instruction.TheVariants as plain
use Rattle.c_types.specs.Known.{Grows}
use Rattle.c_types.specs.Table.{Table, known, HasType}
use Rattle.c_layouts.specs.declared.layout.Layout.{Layout}
use Rattle.c_layouts.specs.Layouts.{AreLayouts}
use Rattle.c_operands.specs.declared.operand.Operand.{Operand}
use Rattle.c_operands.specs.Seen.{IsOperand, IsJudged}
use Rattle.c_operands.proofs.OperandLemmas.{grows_then}
use Rattle.c_operands.specs.declared.declarations.Declarations.{Declarations}
use Rattle.c_operands.specs.Scoped.{Fits}
use Rattle.c_operands.proofs.NameLemmas.{fits_kept}
use Rattle.c_expressions.proofs.KeptLemmas.{judged_kept, type_kept, layouts_at}
use Rattle.c_declared.specs.Slots.{AreOrdered}
use Rattle.c_declared.specs.Held.{Holds, HoldsSome}
use Rattle.c_declared.proofs.HeldLemmas.{holds_kept}
use Rattle.c_offsets.specs.Offsets.{IsTypeAmong}
use Rattle.c_emitted.specs.declared.emitter.Emitter.{Emitter}
use Rattle.c_emitted.specs.Tables.{Tables}
use Rattle.c_emitted.specs.Emits.{tables_of, file_named, IsFile, Emits, KeepsTables, Reserves, Fills}
use Rattle.c_emitted.proofs.EmitLemmas.{behind_place}
use Rattle.c_jumps.specs.Jumps.{Turns}
use Rattle.c_jumps.proofs.JumpLemmas.{chosen}
use Rattle.c_here.specs.declared.here.Here as rust
use Rattle.c_here.specs.Here.{IsHere}
use Rattle.c_here.proofs.HereLemmas.{here_behind, here_later}

-- the table of types has grown
pub record Onward (old new : Table) : Type 0 where
  pub grows : Grows (known old) (known new)
  pub tags : new.tags ≡ old.tags

pub then_on : {a b c : Table} → Onward a b → Onward b c → Onward a c
then_on {a} {b} {c} f g = record { grows = grows_then (known a) (known b) (known c) f.grows g.grows; tags = g.tags ∙ f.tags }

pub fits_on : {a b : Table} {d : Declarations} {s : Scope} → Onward a b → Fits a d s → Fits b d s
fits_on {a} {b} {d} {s} f h = fits_kept a b d s f.grows f.tags h

pub holds_on : {a b : Table} {d : Declarations} {s : Scope} → Onward a b → Holds a d s → Holds b d s
holds_on {a} {b} {d} {s} f h = holds_kept a b d s f.grows f.tags h

pub some_on : {a b : Table} (d : Declarations) → Onward a b → HoldsSome a d → HoldsSome b d
some_on d f h = (h.0, holds_on f h.1)

pub judged_on : {a b : Table} (r : Result Operand TypeFault) (p : Judged operands.Operand) → Onward a b → IsJudged (IsOperand a) r p → IsJudged (IsOperand b) r p
judged_on {a} {b} r p f h = judged_kept a b r p f.grows h

pub type_on : {a b : Table} (r : Result ℕ TypeFault) (p : Judged CType) → Onward a b → IsJudged (HasType a) r p → IsJudged (HasType b) r p
type_on {a} {b} r p f h = type_kept a b r p f.grows h

pub layouts_on : {a b : Table} {d : Declarations} {s : Scope} (layouts : List Layout) → Onward a b → layouts ≡ d.layouts.items → Fits a d s → AreLayouts b layouts s.tags
layouts_on {a} {b} {d} {s} layouts f e h = layouts_at b d s layouts e (fits_on f h)

-- a type, with the tags that are declared
pub type_among : {a b : Table} {d : Declarations} {s : Scope} (layouts : List Layout) (n : ℕ) (t : CType) → Onward a b → layouts ≡ d.layouts.items → Holds a d s → HasType b n t → IsTypeAmong b layouts n t s.tags
type_among {a} {b} {d} {s} layouts n t f e h is = record {
  is = is;
  members = layouts_on layouts f e h.fits;
  ordered = subst (λ (ls : List Layout). AreOrdered b ls s.tags) (sym e) (holds_on f h).ordered;
}

-- ---- where code stands

pub here_on : {a b : Table} {h : rust.Here} {o q : Emitter} {site : Site} {env : Environment} {is : List code.Instruction} {ls : List (List ℕ)} → Onward a b → Emits o q is ls → IsHere a h o site env → IsHere b h q site (behind_literals ls env)
here_on {a} {b} {h} {o} {q} {site} {env} f e here = here_behind a b h o q site env f.grows f.tags e here

-- types alone grow
pub here_grown : {a b : Table} {h : rust.Here} {o : Emitter} {site : Site} {env : Environment} → Onward a b → IsHere a h o site env → IsHere b h o site env
here_grown {a} {b} {h} {o} {site} {env} f here = here_later a b h o site env f.grows f.tags here

-- no literals stand before
pub behind_nothing : (env : Environment) → behind_literals [] env ≡ env
behind_nothing env =
    let none : env.literals_before + 0 ≡ env.literals_before = omega arith in
    ap (λ (n : ℕ). record env { literals_before = n }) none

-- code alone is emitted, without literals
pub here_behind_code : {a : Table} {h : rust.Here} {o q : Emitter} {site : Site} {env : Environment} {is : List code.Instruction} → Emits o q is [] → IsHere a h o site env → IsHere a h q site env
here_behind_code {a} {h} {o} {q} {site} {env} e here = subst (IsHere a h q site) (behind_nothing env) (here_behind a a h o q site env (λ n k x. x) refl e here)

-- an instruction is told later
pub here_kept : {a : Table} {h : rust.Here} {o q : Emitter} {site : Site} {env : Environment} → KeepsTables o q → IsHere a h o site env → IsHere a h q site env
here_kept {a} {h} {o} {q} {site} {env} k here = record {
  holds = here.holds;
  slots = here.slots;
  files = record {
    found = λ name.
        subst (λ (t : Tables). IsFile t.files (file_named q name) (meaning site.names name)) (sym k.tables)
        (subst (λ es. IsFile (tables_of o).files (lookup (λ key. bytes_eq name key.now) es) (meaning site.names name)) (sym k.stays.files) (here.files.found name));
  };
  owner = subst (λ (t : Tables). IsOwner t.names site.owner q.owner) (sym k.tables) (subst (λ (n : ℕ). IsOwner (tables_of o).names site.owner n) (sym k.stays.owner) here.owner);
  before = k.before ∙ here.before;
}

pub here_turned : {a : Table} {h : rust.Here} {o q : Emitter} {site : Site} {env : Environment} {test jump : ℕ} → Turns o q test jump → IsHere a h o site env → IsHere a h q site env
here_turned t here = here_kept t.reserves.keeps (here_kept t.fills.keeps here)

-- both sides of a choice stand
pub sides : {s a b c d e f : Emitter} {test jump : ℕ} {xs bs cs : List code.Instruction} {ls ms ns : List (List ℕ)} → Emits s a xs ls → Reserves a b test → Emits b c bs ms → Turns c d test jump → Emits d e cs ns
    → ((n : ℕ) → n + suc jump ≡ length e.code → Fills e f jump (plain.Jump n)) → Emits s f (choice_code xs bs cs) (ls ++ (ms ++ ns))
sides {s} {a} {b} {c} {d} {e} {f} {test} {jump} {xs} {bs} {cs} first r yea t nay fills =
    let behind = behind_place t.filled d e jump t.reserves nay in
    let many : length cs + suc jump ≡ length e.code = omega (arith, behind) in
    chosen s a b c d e f test jump (length cs) first r yea t nay many (fills (length cs) many)
