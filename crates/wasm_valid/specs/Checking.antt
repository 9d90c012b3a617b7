-- How the flat list of instructions is checked. Only private contracts cite these.
use Rattle.std.specs.Prelude.{◌≡◌, ◌≤◌, ℕ, Bool, true, false, cond, not, ◌&&◌, List, [], ◌∷◌, ◌++◌, map, Option, Some, None, length, nat_eq}
use Rattle.std.specs.List.{AllByRecursion}
use Rattle.std.specs.Option.{option_map, option_and_then}
use Rattle.wasm_bin.specs.declared.module.Instr.{Instr}
use Rattle.wasm_bin.specs.declared.module.Instr.TheVariants as instr
pub use Rattle.wasm_valid.specs.declared.frames.Kind.{Kind}
use Rattle.wasm_valid.specs.declared.frames.Kind.TheVariants as kind
pub use Rattle.wasm_valid.specs.declared.frames.Frame.{Frame}
pub use Rattle.wasm_valid.specs.declared.shape.Shape.{Shape}
pub use Rattle.wasm_valid.specs.declared.shape.Shape.TheVariants.{Opens, Parts, Closes, Plain}
pub use Rattle.wasm_valid.specs.declared.state.State.{State}
use Rattle.wasm_valid.specs.Context.{Context}
use Rattle.wasm_valid.specs.Effects.{effect_of}
use Rattle.wasm_valid.specs.Typing.{arity}
use Rattle.wasm_valid.specs.Levels.{Level, at_start, is_allowed, without, with_more, level_after}

-- how an instruction stands to blocks
unfoldable pub shape_of : Instr → Shape
shape_of (instr.Block result) = Opens kind.Block result
shape_of (instr.Loop result) = Opens kind.Loop result
shape_of (instr.If result) = Opens kind.If result
shape_of instr.Else = Parts
shape_of instr.End = Closes
shape_of _ = Plain

-- how many values a branch to a block of this kind takes
abbrev pub label_as : Kind → Bool → ℕ
label_as kind.Block result = arity result
label_as kind.Loop result = 0
label_as kind.If result = arity result
label_as kind.Else result = arity result

abbrev pub label_of : Frame → ℕ
label_of f = label_as f.kind f.result

-- the labels under the open blocks and the function
abbrev pub labels_under : List Frame → ℕ → List ℕ
labels_under frames results = map label_of frames ++ results ∷ []

abbrev pub is_if : Kind → Bool
is_if kind.Block = false
is_if kind.Loop = false
is_if kind.If = true
is_if kind.Else = false

-- what lies on the stack before a block of this kind opens, without what it takes
abbrev pub outer_as : Kind → Level → Option Level
outer_as kind.Block l = Some l
outer_as kind.Loop l = Some l
outer_as kind.If l = without l 1
outer_as kind.Else l = None

-- in a new block
abbrev pub opened : Kind → Bool → List Frame → Level → State
opened kind result frames outer = record { level = at_start; frames = record { kind = kind; result = result; outer = outer } ∷ frames }

-- a block can end here: it has its values, and an `if` without `else` has none
abbrev pub may_close : Frame → Level → Bool
may_close f l = is_allowed l (arity f.result) && not (is_if f.kind && f.result)

abbrev pub closed : List Frame → Level → Option State
closed [] l = None
closed (f ∷ frames) l = cond (may_close f l) (Some (record { level = with_more (arity f.result) f.outer; frames = frames })) None

-- the first part of an `if` can end here
abbrev pub may_part : Frame → Level → Bool
may_part f l = is_allowed l (arity f.result) && is_if f.kind

abbrev pub parted : List Frame → Level → Option State
parted [] l = None
parted (f ∷ frames) l = cond (may_part f l) (Some (opened kind.Else f.result frames f.outer)) None

-- the state after an instruction of this shape
abbrev pub stepped : Context → Shape → Instr → State → Option State
stepped c (Opens kind result) i s = option_map (opened kind result s.frames) (outer_as kind s.level)
stepped c Parts i s = parted s.frames s.level
stepped c Closes i s = closed s.frames s.level
stepped c Plain i s = option_map (λ l. record s { level = l }) (option_and_then (level_after s.level) (effect_of c (labels_under s.frames c.results) i))

abbrev pub step : Context → Instr → State → Option State
step c i s = stepped c (shape_of i) i s

-- the state after these instructions
abbrev pub walk : Context → List Instr → State → Option State
walk c [] s = Some s
walk c (i ∷ code) s = option_and_then (walk c code) (step c i s)

abbrev pub first_state : State
first_state = record { level = at_start; frames = [] }

-- there is something, and it passes
abbrev pub option_any : {X : Type 0} → (X → Bool) → Option X → Bool
option_any test None = false
option_any test (Some x) = test x

-- no block is open, and the function has its values
abbrev pub is_last : ℕ → State → Bool
is_last results s = nat_eq (length s.frames) 0 && is_allowed s.level results

-- the code of a function is right up to its last `end`
abbrev pub accepts : Context → List Instr → Bool
accepts c code = option_any (is_last c.results) (walk c code first_state)

-- no height is above k
abbrev pub IsLow : ℕ → State → Type 0
IsLow k s = (s.level.height ≤ k) × AllByRecursion (λ f. f.outer.height ≤ k) s.frames

-- the state is the one that is wanted, or there is none
abbrev pub Leads : Option State → Bool → State → Type 0
Leads None going s = going ≡ false
Leads (Some wanted) going s = (going ≡ true) × (s ≡ wanted)
