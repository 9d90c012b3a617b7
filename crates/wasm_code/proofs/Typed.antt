-- The module of a program is valid.
use Rattle.std.proofs.Common.{◌≡◌, ℕ, zero, suc, ◌+◌, ◌<◌, ◌≤◌, Bool, true, false, ◌||◌, List, [], ◌∷◌, ◌++◌, length, Some, refl, sym, subst, arith}
use Rattle.std.specs.Prelude.{slice_get, nat_lt, nat_eq, pos}
use Rattle.std.specs.List.{range_with_len}
use Rattle.eir_core.specs.declared.ops.Reg.{Reg}
use Rattle.eir_core.specs.declared.ops.Reg.TheVariants.{A, B, C, D, SP, BP}
use Rattle.eir_core.specs.declared.ops.Operand.{Operand}
use Rattle.eir_core.specs.declared.ops.Operand.TheVariants.{Reg as register, Imm}
use Rattle.eir_core.specs.declared.ops.Cond.{Cond}
use Rattle.eir_core.specs.declared.ops.Cond.TheVariants.{Eq, Ne, Lt, Gt, Le, Ge}
use Rattle.eir_core.specs.declared.ops.Op.{Op}
use Rattle.eir_core.specs.declared.ops.Op.TheVariants.{Mov, Add, Sub, Load, Store, Putc, Getc, Exit, Set, Jump, JumpIf}
use Rattle.eir_core.specs.Eir.{Eir}
use Rattle.wasm_bin.specs.declared.module.Instr.{Instr}
use Rattle.wasm_bin.specs.declared.module.Instr.TheVariants as instr
use Rattle.wasm_valid.specs.Context.{Context, context_of}
use Rattle.wasm_valid.specs.Effects.{MayApply, effect_of, numeric_effect, is_arity, have_arity}
use Rattle.wasm_valid.specs.Nesting.{InBlock, Code}
use Rattle.wasm_valid.specs.Rules.{FollowsRules, IsTypedAt, IsValid}
use Rattle.wasm_valid.specs.Typing.{HasType}
use Rattle.wasm_code.specs.Emitted.{register_local, goal_local, value_code, wrapped_code, place_code, whole_word, test_code, flag_code, goal_code, op_code, ops_code, segments_for, module_for}
use Rattle.wasm_code.proofs.Nest.{singles, nest, choice, main, main_spelled}

-- what the code of `main` may name
abbrev pub within : Eir → Context
within p = context_of (module_for p) 7 0

-- code of which no instruction opens a block makes a stack of b values of one of a
record Types (p : Eir) (labels : List ℕ) (code : List Instr) (a b : ℕ) : Type 0 where
  has : HasType (within p) labels (singles code) a b

has_then : (p : Eir) (labels : List ℕ) (x y : List Instr) (a b c : ℕ) → HasType (within p) labels (singles x) a b → HasType (within p) labels (singles y) b c → HasType (within p) labels (singles (x ++ y)) a c
has_then p labels [] y a b c h k = subst (λ n. HasType (within p) labels (singles y) n c) (sym h) k
has_then p labels (i ∷ x) y a b c h k = (h.0, h.1, has_then p labels x y h.0 b c h.2 k)

next : {p : Eir} {labels : List ℕ} {x y : List Instr} {a b c : ℕ} → Types p labels x a b → Types p labels y b c → Types p labels (x ++ y) a c
next {p} {labels} {x} {y} {a} {b} {c} h k = record { has = has_then p labels x y a b c h.has k.has }

-- an instruction takes and gives so many values, over those that it leaves alone
record Acts (p : Eir) (labels : List ℕ) (i : Instr) (takes gives : ℕ) : Type 0 where
  applies : (kept : ℕ) → MayApply (effect_of (within p) labels i) (kept + takes) (kept + gives)

-- behind an instruction that takes so many values nothing runs
record Stops (p : Eir) (labels : List ℕ) (i : Instr) (takes : ℕ) : Type 0 where
  applies : (a b : ℕ) → takes ≤ a → MayApply (effect_of (within p) labels i) a b

turns : {p : Eir} {labels : List ℕ} {i : Instr} {takes gives : ℕ} (kept : ℕ) → Acts p labels i takes gives → Types p labels (i ∷ []) (kept + takes) (kept + gives)
turns {p} {labels} {i} {takes} {gives} kept h = record { has = (kept + gives, h.applies kept, refl) }

stops : {p : Eir} {labels : List ℕ} {i : Instr} {takes : ℕ} (a b : ℕ) → takes ≤ a → Stops p labels i takes → Types p labels (i ∷ []) a b
stops {p} {labels} {i} {takes} a b le h = record { has = (b, h.applies a b le, refl) }

is_local : (r : Reg) → nat_lt (register_local r) 7 ≡ true
is_local A = refl
is_local B = refl
is_local C = refl
is_local D = refl
is_local SP = refl
is_local BP = refl

get_acts : (p : Eir) (labels : List ℕ) (k : ℕ) → nat_lt k 7 ≡ true → Acts p labels (instr.LocalGet k) 0 1
unfolding effect_of
get_acts p labels k h = record { applies = λ kept. rw h (kept, refl, refl) }

set_acts : (p : Eir) (labels : List ℕ) (k : ℕ) → nat_lt k 7 ≡ true → Acts p labels (instr.LocalSet k) 1 0
unfolding effect_of
set_acts p labels k h = record { applies = λ kept. rw h (kept, refl, refl) }

const_acts : (p : Eir) (labels : List ℕ) (n : ℕ) → Acts p labels (instr.Const (pos n)) 0 1
unfolding effect_of
const_acts p labels n = record { applies = λ kept. (kept, refl, refl) }

add_acts : (p : Eir) (labels : List ℕ) → Acts p labels instr.Add 2 1
unfolding effect_of numeric_effect
add_acts p labels = record { applies = λ kept. (kept, refl, refl) }

sub_acts : (p : Eir) (labels : List ℕ) → Acts p labels instr.Sub 2 1
unfolding effect_of numeric_effect
sub_acts p labels = record { applies = λ kept. (kept, refl, refl) }

and_acts : (p : Eir) (labels : List ℕ) → Acts p labels instr.And 2 1
unfolding effect_of numeric_effect
and_acts p labels = record { applies = λ kept. (kept, refl, refl) }

shl_acts : (p : Eir) (labels : List ℕ) → Acts p labels instr.Shl 2 1
unfolding effect_of numeric_effect
shl_acts p labels = record { applies = λ kept. (kept, refl, refl) }

test_acts : (p : Eir) (labels : List ℕ) (test : Cond) → Acts p labels (test_code test) 2 1
unfolding effect_of numeric_effect
test_acts p labels Eq = record { applies = λ kept. (kept, refl, refl) }
test_acts p labels Ne = record { applies = λ kept. (kept, refl, refl) }
test_acts p labels Lt = record { applies = λ kept. (kept, refl, refl) }
test_acts p labels Gt = record { applies = λ kept. (kept, refl, refl) }
test_acts p labels Le = record { applies = λ kept. (kept, refl, refl) }
test_acts p labels Ge = record { applies = λ kept. (kept, refl, refl) }

load_acts : (p : Eir) (labels : List ℕ) → Acts p labels (instr.Load whole_word) 1 1
unfolding effect_of
load_acts p labels = record { applies = λ kept. (kept, refl, refl) }

store_acts : (p : Eir) (labels : List ℕ) → Acts p labels (instr.Store whole_word) 2 0
unfolding effect_of
store_acts p labels = record { applies = λ kept. (kept, refl, refl) }

getchar_acts : (p : Eir) (labels : List ℕ) → Acts p labels (instr.Call 0) 0 1
unfolding effect_of
getchar_acts p labels = record { applies = λ kept. (kept, refl, refl) }

putchar_acts : (p : Eir) (labels : List ℕ) → Acts p labels (instr.Call 1) 1 0
unfolding effect_of
putchar_acts p labels = record { applies = λ kept. (kept, refl, refl) }

return_stops : (p : Eir) (labels : List ℕ) → Stops p labels instr.Return 0
unfolding effect_of
return_stops p labels = record { applies = λ a b le. le }

br_stops : (p : Eir) (labels : List ℕ) (out : ℕ) → slice_get labels out ≡ Some 0 → Stops p labels (instr.Br out) 0
unfolding effect_of
br_stops p labels out h = record { applies = λ a b le. rw h le }

br_if_acts : (p : Eir) (labels : List ℕ) (out : ℕ) → slice_get labels out ≡ Some 0 → Acts p labels (instr.BrIf out) 1 0
unfolding effect_of
br_if_acts p labels out h = record { applies = λ kept. rw h (kept, refl, refl) }

table_stops : (p : Eir) (labels targets : List ℕ) (last : ℕ) → slice_get labels last ≡ Some 0 → have_arity labels 0 targets ≡ true → Stops p labels (instr.BrTable targets last) 1
unfolding effect_of
table_stops p labels targets last h k = record { applies = λ a b le. rw (h, k) le }

-- pieces of code, over so many values
get : (p : Eir) (labels : List ℕ) (r : Reg) (kept : ℕ) → Types p labels (instr.LocalGet (register_local r) ∷ []) (kept + 0) (kept + 1)
get p labels r kept = turns kept (get_acts p labels (register_local r) (is_local r))

set : (p : Eir) (labels : List ℕ) (r : Reg) → Types p labels (instr.LocalSet (register_local r) ∷ []) 1 0
set p labels r = turns 0 (set_acts p labels (register_local r) (is_local r))

value : (p : Eir) (labels : List ℕ) (v : Operand) (kept : ℕ) → Types p labels (value_code v) (kept + 0) (kept + 1)
value p labels (register r) kept = get p labels r kept
value p labels (Imm w) kept = turns kept (const_acts p labels w.value)

wrapped : (p : Eir) (labels : List ℕ) (r : Reg) → Types p labels (wrapped_code r) 1 0
wrapped p labels r = next (turns 1 (const_acts p labels 16777215)) (next (turns 0 (and_acts p labels)) (set p labels r))

place : (p : Eir) (labels : List ℕ) (v : Operand) → Types p labels (place_code v) 0 1
place p labels v = next (value p labels v 0) (next (turns 1 (const_acts p labels 2)) (turns 0 (shl_acts p labels)))

flag : (p : Eir) (labels : List ℕ) (test : Cond) (r : Reg) (v : Operand) → Types p labels (flag_code test r v) 0 1
flag p labels test r v = next (get p labels r 0) (next (value p labels v 1) (turns 0 (test_acts p labels test)))

goal : (p : Eir) (labels : List ℕ) (target : Operand) → Types p labels (goal_code target) 0 0
goal p labels target = next (value p labels target 0) (turns 0 (set_acts p labels goal_local refl))

none : 0 ≤ 0
none = omega arith

op : (p : Eir) (labels : List ℕ) (out : ℕ) → slice_get labels out ≡ Some 0 → (o : Op) → Types p labels (op_code out o) 0 0
op p labels out loop (Mov r v) = next (value p labels v 0) (set p labels r)
op p labels out loop (Add r v) = next (get p labels r 0) (next (value p labels v 1) (next (turns 0 (add_acts p labels)) (wrapped p labels r)))
op p labels out loop (Sub r v) = next (get p labels r 0) (next (value p labels v 1) (next (turns 0 (sub_acts p labels)) (wrapped p labels r)))
op p labels out loop (Load r v) = next (place p labels v) (next (turns 0 (load_acts p labels)) (set p labels r))
op p labels out loop (Store r v) = next (place p labels v) (next (get p labels r 1) (turns 0 (store_acts p labels)))
op p labels out loop (Putc v) = next (value p labels v 0) (turns 0 (putchar_acts p labels))
op p labels out loop (Getc r) = next (turns 0 (getchar_acts p labels)) (set p labels r)
op p labels out loop Exit = stops 0 0 none (return_stops p labels)
op p labels out loop (Set test r v) = next (flag p labels test r v) (set p labels r)
op p labels out loop (Jump target) = next (goal p labels target) (stops 0 0 none (br_stops p labels out loop))
op p labels out loop (JumpIf test target r v) = next (goal p labels target) (next (flag p labels test r v) (turns 0 (br_if_acts p labels out loop)))

ops : (p : Eir) (labels : List ℕ) (out : ℕ) → slice_get labels out ≡ Some 0 → (os : List Op) → Types p labels (ops_code out os) 0 0
ops p labels out loop [] = record { has = refl }
ops p labels out loop (o ∷ os) = next (op p labels out loop o) (ops p labels out loop os)

-- the labels under which code stands within so many blocks, the loop and the function
abbrev labels_in : List (List Op) → List ℕ
labels_in [] = 0 ∷ 0 ∷ []
labels_in (os ∷ blocks) = 0 ∷ labels_in blocks

takes_none : (blocks : List (List Op)) (k : ℕ) → k < length blocks + 2 → slice_get (labels_in blocks) k ≡ Some 0
takes_none [] zero h = refl
takes_none [] (suc zero) h = refl
takes_none [] (suc (suc k)) h = absurd (omega arith)
takes_none (os ∷ blocks) zero h = refl
takes_none (os ∷ blocks) (suc k) h = takes_none blocks k (omega arith)

take_none : (labels : List ℕ) (a n : ℕ) → ((k : ℕ) → k < a + n → slice_get labels k ≡ Some 0) → have_arity labels 0 (range_with_len a n) ≡ true
take_none labels a zero h = refl
take_none labels a (suc n) h =
    let first : is_arity 0 (slice_get labels a) ≡ true = rw (h a (omega arith)) refl in
    let others = take_none labels (a + 1) n (λ k less. h k (omega arith)) in
    rw (first, others) refl

choice_typed : (p : Eir) (blocks : List (List Op)) → HasType (within p) (labels_in blocks) (choice (length blocks)) 0 0
choice_typed p blocks =
    let labels = labels_in blocks in
    let n = length blocks in
    let least : 1 ≤ 1 = omega arith in
    (next (turns 0 (get_acts p labels goal_local refl))
    (stops 1 0 least (table_stops p labels (range_with_len 0 n) (n + 1) (takes_none blocks (n + 1) (omega arith)) (take_none labels 0 n (λ k less. takes_none blocks k (omega arith)))))).has

nest_typed : (p : Eir) (inside : Code) (blocks : List (List Op)) → HasType (within p) (labels_in blocks) inside 0 0 → HasType (within p) (0 ∷ 0 ∷ []) (nest inside blocks) 0 0
nest_typed p inside [] h = h
nest_typed p inside (os ∷ blocks) h =
    nest_typed p (InBlock false inside (singles (ops_code (length blocks) os))) blocks (h, (ops p (labels_in blocks) (length blocks) (takes_none blocks (length blocks) (omega arith)) os).has)

pub main_typed : (p : Eir) → HasType (within p) (0 ∷ []) (main p) 0 0
unfolding effect_of
main_typed p = (1, (0, refl, refl), (0, (0, refl, refl), (nest_typed p (choice (length p.blocks)) p.blocks (choice_typed p p.blocks), refl)))

-- anything or true
or_true : (b : Bool) → (b || true) ≡ true
or_true false = refl
or_true true = refl

rules : (p : Eir) → FollowsRules (module_for p)
rules p = record {
  results = refl;
  types = refl;
  bodies = refl;
  memory = refl;
  exports = refl;
  names = λ i j d less last. absurd (omega arith);
  start = refl;
  segments = or_true (nat_eq (length (segments_for p.words)) 0);
}

typed : (p : Eir) (k : ℕ) → k < length (module_for p).bodies → IsTypedAt (module_for p) k
typed p zero h = (main p, main_spelled p, main_typed p)
typed p (suc k) h = absurd (omega arith)

pub valid : (p : Eir) → IsValid (module_for p)
valid p = record { rules = rules p; typed = typed p }
