-- How high the levels are.
use Rattle.std.proofs.Common.{◌≡◌, ℕ, zero, suc, ◌+◌, ◌≤◌, Bool, true, false, List, [], ◌∷◌, Option, Some, None, sym, subst, ◌∙◌, arith}
use Rattle.std.specs.Prelude.{IfSome, slice_get, nat_le}
use Rattle.std.specs.List.{AllByRecursion}
use Rattle.std.specs.Option.{option_map, option_and_then}
use Rattle.wasm_bin.specs.declared.module.Instr.{Instr}
use Rattle.wasm_bin.specs.declared.module.Instr.TheVariants as instr
use Rattle.wasm_bin.specs.declared.module.FuncType.{FuncType}
use Rattle.wasm_bin.specs.declared.module.GlobalVar.{GlobalVar}
use Rattle.wasm_valid.specs.Context.{Context, GivesFew}
use Rattle.wasm_valid.specs.Effects.{Effect, Turns, Breaks, gives_of, provided, effect_of, numeric_effect, have_arity}
use Rattle.wasm_valid.specs.Typing.{arity}
use Rattle.wasm_valid.specs.Levels.{Level, at_break, without, with_more, level_after}
use Rattle.wasm_valid.specs.Checking.{Kind, Frame, Shape, Opens, Parts, Closes, Plain, State, label_as, labels_under, outer_as, may_close, may_part, opened, closed, parted, stepped, IsLow, shape_of}
use Rattle.wasm_valid.specs.declared.frames.Kind.TheVariants as kind
use Rattle.wasm_valid.proofs.Levels.{by_test, level}

abbrev Few : Option Effect → Type 0
Few None = Unit {0}
Few (Some effect) = gives_of effect ≤ 1

arity_few : (result : Bool) → arity result ≤ 1
arity_few true = omega arith
arity_few false = omega arith

label_few : (k : Kind) (result : Bool) → label_as k result ≤ 1
label_few kind.Block result = arity_few result
label_few kind.Loop result = omega arith
label_few kind.If result = arity_few result
label_few kind.Else result = arity_few result

-- a branch takes one value at most
pub labels_few : (frames : List Frame) (results : ℕ) → results ≤ 1 → (l : ℕ) → IfSome (slice_get (labels_under frames results) l) (λ n. n ≤ 1)
labels_few [] results few zero = few
labels_few [] results few (suc l) = tt
labels_few (f ∷ frames) results few zero = label_few f.kind f.result
labels_few (f ∷ frames) results few (suc l) = labels_few frames results few l

provided_few : (b : Bool) (effect : Effect) → gives_of effect ≤ 1 → Few (provided b effect)
provided_few true effect few = few
provided_few false effect few = tt

branch_few : (o : Option ℕ) → Few (option_map (λ n. Breaks n) o)
branch_few None = tt
branch_few (Some n) = omega arith

branch_if_few : (o : Option ℕ) → IfSome o (λ n. n ≤ 1) → Few (option_map (λ n. Turns (n + 1) n) o)
branch_if_few None few = tt
branch_if_few (Some n) few = few

table_few : (labels targets : List ℕ) (o : Option ℕ) → Few (option_and_then (λ n. provided (have_arity labels n targets) (Breaks (n + 1))) o)
table_few labels targets None = tt
table_few labels targets (Some n) = provided_few (have_arity labels n targets) (Breaks (n + 1)) (omega arith)

call_few : (o : Option FuncType) → IfSome o (λ t. t.results ≤ 1) → Few (option_map (λ t. Turns t.params t.results) o)
call_few None few = tt
call_few (Some t) few = few

global_few : (o : Option GlobalVar) → Few (option_and_then (λ g. provided g.mutable (Turns 1 0)) o)
global_few None = tt
global_few (Some g) = provided_few g.mutable (Turns 1 0) (omega arith)

all_few : (c : Context) (labels : List ℕ) (i : Instr) → GivesFew c → ((l : ℕ) → IfSome (slice_get labels l) (λ n. n ≤ 1)) → Few (effect_of c labels i)
unfolding effect_of numeric_effect
all_few c labels (instr.Block result) few h = tt
all_few c labels (instr.Loop result) few h = tt
all_few c labels (instr.If result) few h = tt
all_few c labels instr.Else few h = tt
all_few c labels instr.End few h = tt
all_few c labels (instr.Br label) few h = branch_few (slice_get labels label)
all_few c labels (instr.BrIf label) few h = branch_if_few (slice_get labels label) (h label)
all_few c labels (instr.BrTable targets label) few h = table_few labels targets (slice_get labels label)
all_few c labels (instr.Call index) few h = call_few (c.functions index) (few.1 index)
all_few c labels (instr.LocalGet index) few h = provided_few _ _ (omega arith)
all_few c labels (instr.LocalSet index) few h = provided_few _ _ (omega arith)
all_few c labels (instr.LocalTee index) few h = provided_few _ _ (omega arith)
all_few c labels (instr.GlobalGet index) few h = provided_few _ _ (omega arith)
all_few c labels (instr.GlobalSet index) few h = global_few (slice_get c.globals index)
all_few c labels (instr.Load a) few h = provided_few _ _ (omega arith)
all_few c labels (instr.Load8S a) few h = provided_few _ _ (omega arith)
all_few c labels (instr.Load8U a) few h = provided_few _ _ (omega arith)
all_few c labels (instr.Load16S a) few h = provided_few _ _ (omega arith)
all_few c labels (instr.Load16U a) few h = provided_few _ _ (omega arith)
all_few c labels (instr.Store a) few h = provided_few _ _ (omega arith)
all_few c labels (instr.Store8 a) few h = provided_few _ _ (omega arith)
all_few c labels (instr.Store16 a) few h = provided_few _ _ (omega arith)
all_few c labels instr.MemorySize few h = provided_few _ _ (omega arith)
all_few c labels instr.MemoryGrow few h = provided_few _ _ (omega arith)
all_few c labels _ few h = omega arith

few_at : (o : Option Effect) (x : Effect) → Few o → o ≡ Some x → gives_of x ≤ 1
few_at None x few e = cc
few_at (Some y) x few e = let f : y ≡ x = cc in subst (λ z. gives_of z ≤ 1) f few

-- an instruction gives one value at most
pub effect_few : (c : Context) (frames : List Frame) (i : Instr) (o : Option Effect) → GivesFew c → o ≡ effect_of c (labels_under frames c.results) i → (x : Effect) → o ≡ Some x → gives_of x ≤ 1
effect_few c frames i o few e x f = few_at (effect_of c (labels_under frames c.results) i) x (all_few c (labels_under frames c.results) i few (labels_few frames c.results few.0)) (sym e ∙ f)

abbrev MayBeLow : ℕ → Option Level → Type 0
MayBeLow k o = IfSome o (λ l. l.height ≤ k)

without_low : (h : ℕ) (r : Bool) (n : ℕ) → MayBeLow h (without (level h r) n)
without_low h true n = by_test {P = MayBeLow h (without (level h true) n)} (nat_le n h) (λ t. rw t (omega arith)) (λ t. rw t tt)
without_low h false n = by_test {P = MayBeLow h (without (level h false) n)} (nat_le n h) (λ t. rw t (omega arith)) (λ t. rw t (omega arith))

more_low : (o : Option Level) (k n : ℕ) → n ≤ 1 → MayBeLow k o → MayBeLow (k + 1) (option_map (with_more n) o)
more_low None k n few h = tt
more_low (Some l) k n few h = omega arith

break_low : (o : Option Level) (k : ℕ) → MayBeLow k (option_map (λ _. at_break) o)
break_low None k = tt
break_low (Some l) k = omega arith

raised : (o : Option Level) (j k : ℕ) → j ≤ k → MayBeLow j o → MayBeLow k o
raised None j k le h = tt
raised (Some l) j k le h = omega arith

after_low : (l : Level) (k : ℕ) (effect : Effect) → l.height ≤ k → gives_of effect ≤ 1 → MayBeLow (k + 1) (level_after l effect)
after_low l k (Turns takes gives) h few = more_low (without l takes) k gives few (raised (without l takes) l.height k h (without_low l.height l.reached takes))
after_low l k (Breaks takes) h few = break_low (without l takes) (k + 1)

effect_low : (l : Level) (k : ℕ) (o : Option Effect) → l.height ≤ k → Few o → MayBeLow (k + 1) (option_and_then (level_after l) o)
effect_low l k None h few = tt
effect_low l k (Some effect) h few = after_low l k effect h few

frames_low : (frames : List Frame) (j k : ℕ) → j ≤ k → AllByRecursion (λ f. f.outer.height ≤ j) frames → AllByRecursion (λ f. f.outer.height ≤ k) frames
frames_low [] j k le h = tt
frames_low (f ∷ frames) j k le h = (omega (arith, h.0), frames_low frames j k le h.1)

outer_low : (k : Kind) (l : Level) → MayBeLow l.height (outer_as k l)
outer_low kind.Block l = omega arith
outer_low kind.Loop l = omega arith
outer_low kind.If l = without_low l.height l.reached 1
outer_low kind.Else l = tt

abbrev MayBeLowState : ℕ → Option State → Type 0
MayBeLowState k o = IfSome o (λ s. IsLow k s)

open_low : (o : Option Level) (kd : Kind) (result : Bool) (frames : List Frame) (k : ℕ) → MayBeLow k o → AllByRecursion (λ f. f.outer.height ≤ k) frames → MayBeLowState k (option_map (opened kd result frames) o)
open_low None kd result frames k h all = tt
open_low (Some l) kd result frames k h all = (omega arith, (h, all))

part_low : (frames : List Frame) (l : Level) (k : ℕ) → AllByRecursion (λ f. f.outer.height ≤ k) frames → MayBeLowState k (parted frames l)
part_low [] l k all = tt
part_low (f ∷ frames) l k all = by_test {P = MayBeLowState k (parted (f ∷ frames) l)} (may_part f l) (λ t. rw t (omega arith, (all.0, all.1))) (λ t. rw t tt)

one_higher : (h k : ℕ) (result : Bool) → h ≤ k → h + arity result ≤ k + 1
one_higher h k result le = omega (arith, arity_few result)

close_low : (frames : List Frame) (l : Level) (k : ℕ) → AllByRecursion (λ f. f.outer.height ≤ k) frames → MayBeLowState (k + 1) (closed frames l)
close_low [] l k all = tt
close_low (f ∷ frames) l k all = by_test {P = MayBeLowState (k + 1) (closed (f ∷ frames) l)} (may_close f l) (λ t. rw t (one_higher f.outer.height k f.result all.0, frames_low frames k (k + 1) (omega arith) all.1)) (λ t. rw t tt)

apply_low : (o : Option Level) (frames : List Frame) (k : ℕ) → MayBeLow k o → AllByRecursion (λ f. f.outer.height ≤ k) frames → MayBeLowState k (option_map (λ l. record { level = l; frames = frames }) o)
apply_low None frames k h all = tt
apply_low (Some l) frames k h all = (h, all)

-- a step goes one higher at most
step_low : (c : Context) (shape : Shape) (i : Instr) (s : State) (k : ℕ) → GivesFew c → IsLow k s → MayBeLowState (k + 1) (stepped c shape i s)
step_low c (Opens kd result) i s k few low =
    open_low (outer_as kd s.level) kd result s.frames (k + 1) (raised (outer_as kd s.level) s.level.height (k + 1) (omega (arith, low.0)) (outer_low kd s.level)) (frames_low s.frames k (k + 1) (omega arith) low.1)
step_low c Parts i s k few low = part_low s.frames s.level (k + 1) (frames_low s.frames k (k + 1) (omega arith) low.1)
step_low c Closes i s k few low = close_low s.frames s.level k low.1
step_low c Plain i s k few low =
    let effect = effect_of c (labels_under s.frames c.results) i in
    apply_low (option_and_then (level_after s.level) effect) s.frames (k + 1)
    (effect_low s.level k effect low.0 (all_few c (labels_under s.frames c.results) i few (labels_few s.frames c.results few.0)))
    (frames_low s.frames k (k + 1) (omega arith) low.1)

low_at : (o : Option State) (t : State) (k : ℕ) → MayBeLowState k o → o ≡ Some t → IsLow k t
low_at None t k h e = cc
low_at (Some s) t k h e = let f : s ≡ t = cc in subst (IsLow k) f h

pub IsLow-step : (c : Context) (i : Instr) (s t : State) (k : ℕ) → GivesFew c → IsLow k s → stepped c (shape_of i) i s ≡ Some t → IsLow (k + 1) t
IsLow-step c i s t k few low e = low_at (stepped c (shape_of i) i s) t (k + 1) (step_low c (shape_of i) i s k few low) e
