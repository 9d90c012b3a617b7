-- How long short pieces of code are.
use Rattle.std.proofs.Common.{ℕ, zero, suc, ◌+◌, ◌≤◌, Bool, true, false, ◌||◌, List, [], ◌∷◌, ◌++◌, length, Option, Some, None, arith, length-append, if◌then◌else◌}
use Rattle.std.specs.Prelude.{codes}
use Rattle.std.specs.Str.{bytes_eq}
use Rattle.eir_core.specs.declared.ops.Reg.{Reg}
use Rattle.eir_core.specs.declared.ops.Reg.TheVariants.{A, B, C, D, SP, BP}
use Rattle.eir_core.specs.declared.ops.Operand.{Operand}
use Rattle.eir_core.specs.declared.ops.Operand.TheVariants.{Reg as register, Imm}
use Rattle.eir_core.specs.declared.ops.Cond.{Cond}
use Rattle.eir_core.specs.declared.ops.Cond.TheVariants.{Eq}
use Rattle.eir_core.specs.declared.ops.Op.{Op}
use Rattle.eir_core.specs.declared.ops.Op.TheVariants.{Mov, Sub, Store, Putc, Getc, Exit, Set}
use Rattle.c_syntax.specs.declared.tree.UnOp.{UnOp}
use Rattle.c_syntax.specs.declared.tree.UnOp.TheVariants as unary
use Rattle.c_syntax.specs.declared.tree.StepOp.{StepOp}
use Rattle.c_syntax.specs.declared.tree.StepOp.TheVariants as step
use Rattle.c_syntax.specs.declared.tree.BinOp.{BinOp}
use Rattle.c_syntax.specs.declared.tree.BinOp.TheVariants as binary
use Rattle.c_types.specs.Types as type
use Rattle.c_types.specs.Types.{CType}
use Rattle.c_eval.specs.Environment.{Callee, Direct as ByName, Known, Format, Through}
use Rattle.c_helpers.specs.Functions.{piece_name}
use Rattle.c_lowered.specs.Locations.{Location, Fixed, Framed, Linking, Direct, Exactly, Address, Stored, is_steady}
use Rattle.c_lowered.specs.Operations.{constant, load_to, loaded, direct_or, store_to, point_to, save, restore, fetched, fetched_behind, moved_on, Operands, turned, waiting, operands, ready, operand_of, moved_from, sum_code, difference_code, comparison_of, comparable, lift, lift_operand, comparison_code, junction, step_by, update_by, update_by_value}
use Rattle.c_lowered.specs.Expressions.{unary_code, step_back, pointed_by, assigned_code, updated_code, assignment_code, binary_code, tested, comparison_truth, binary_truth, unary_truth, choice_code, built_in_code, known_code, callee_code}
use Rattle.c_stated.specs.Counts.{binary_ops, binary_truth_ops, unary_truth_ops}

-- code has at most so many operations
pub record AtMost (ops : List Op) (n : ℕ) : Type 0 where
  pub bound : length ops ≤ n

pub most : {ops : List Op} {n : ℕ} → length ops ≤ n → AtMost ops n
most e = record { bound = e }

pub weaker : {ops : List Op} {m n : ℕ} → AtMost ops m → m ≤ n → AtMost ops n
weaker h le = most (omega (arith, h.bound, le))

pub joined : {xs ys : List Op} {m n : ℕ} → AtMost xs m → AtMost ys n → AtMost (xs ++ ys) (m + n)
joined {xs} {ys} hx hy = most (omega (arith, length-append xs ys, hx.bound, hy.bound))

pub one_and : {o : Op} {ys : List Op} {n : ℕ} → AtMost ys n → AtMost (o ∷ ys) (suc n)
one_and h = most (omega (arith, h.bound))

pub load_most : (r : Reg) (v : Direct) → AtMost (load_to r v) 3
load_most r (Exactly n) = most (omega arith)
load_most r (Address k) = most (omega arith)
load_most r (Stored (Fixed a)) = most (omega arith)
load_most r (Stored (Framed k)) = most (omega arith)

pub store_most : (l : Location) → AtMost (store_to l) 3
store_most (Fixed a) = most (omega arith)
store_most (Framed k) = most (omega arith)

point_most : (l : Location) → AtMost (point_to l) 2
point_most (Fixed a) = most (omega arith)
point_most (Framed k) = most (omega arith)

pub fetched_most : (t : CType) → AtMost (fetched t) 1
fetched_most (type.Array t n) = most (omega arith)
fetched_most (type.Struct tag) = most (omega arith)
fetched_most (type.Function t ts) = most (omega arith)
fetched_most type.Void = most (omega arith)
fetched_most type.Int = most (omega arith)
fetched_most type.Unsigned = most (omega arith)
fetched_most type.Char = most (omega arith)
fetched_most type.UChar = most (omega arith)
fetched_most type.Null = most (omega arith)
fetched_most (type.Pointer t) = most (omega arith)

fetched_behind_most : (t : CType) → AtMost (fetched_behind t) 1
fetched_behind_most (type.Pointer t) = fetched_most t
fetched_behind_most (type.Array t n) = most (omega arith)
fetched_behind_most (type.Struct tag) = most (omega arith)
fetched_behind_most (type.Function t ts) = most (omega arith)
fetched_behind_most type.Void = most (omega arith)
fetched_behind_most type.Int = most (omega arith)
fetched_behind_most type.Unsigned = most (omega arith)
fetched_behind_most type.Char = most (omega arith)
fetched_behind_most type.UChar = most (omega arith)
fetched_behind_most type.Null = most (omega arith)

pub moved_on_most : (n : ℕ) → AtMost (moved_on n) 1
moved_on_most zero = most (omega arith)
moved_on_most (suc n) = most (omega arith)

moved_from_most : (r : Reg) → AtMost (moved_from r) 1
moved_from_most A = most (omega arith)
moved_from_most B = most (omega arith)
moved_from_most C = most (omega arith)
moved_from_most D = most (omega arith)
moved_from_most SP = most (omega arith)
moved_from_most BP = most (omega arith)

ready_most : (v : Direct) → AtMost (ready v) 3
ready_most (Exactly n) = most (omega arith)
ready_most (Address k) = most (omega arith)
ready_most (Stored l) = load_most B (Stored l)

lift_most : (v : Operand) → AtMost (lift_operand v) 1
lift_most (register r) = most (omega arith)
lift_most (Imm w) = most (omega arith)

step_back_most : (op : StepOp) → AtMost (step_back op) 1
step_back_most step.PreInc = most (omega arith)
step_back_most step.PreDec = most (omega arith)
step_back_most step.PostInc = most (omega arith)
step_back_most step.PostDec = most (omega arith)

if_most : (b : Bool) (x y : List Op) (n : ℕ) → AtMost x n → AtMost y n → AtMost (if b then x else y) n
if_most true x y n hx hy = hx
if_most false x y n hx hy = hy

if_operands : (b : Bool) (x y : Operands) (n : ℕ) → AtMost x.code n → AtMost y.code n → AtMost (if b then x else y).code n
if_operands true x y n hx hy = hx
if_operands false x y n hx hy = hy

built_in_most : (name : List ℕ) → AtMost (built_in_code name) 4
built_in_most name =
    let last : List Op = if bytes_eq name (codes "exit") then Exit ∷ [] else [] in
    let third : List Op = if bytes_eq name (codes "putchar") then Putc (register A) ∷ [] else last in
    let second : List Op = if bytes_eq name (codes "__builtin_getc") then Getc A ∷ [] else third in
    if_most (bytes_eq name (codes "getchar")) (Getc A ∷ Mov B (register A) ∷ Set Eq B (constant 0) ∷ Sub A (register B) ∷ []) second 4 (most (omega arith))
    (if_most (bytes_eq name (codes "__builtin_getc")) (Getc A ∷ []) third 4 (most (omega arith))
    (if_most (bytes_eq name (codes "putchar")) (Putc (register A) ∷ []) last 4 (most (omega arith)) (if_most (bytes_eq name (codes "exit")) (Exit ∷ []) [] 4 (most (omega arith)) (most (omega arith)))))

pub known_most : (name : List ℕ) → AtMost (known_code name) 1
known_most name = if_most (bytes_eq name piece_name) (Putc (register A) ∷ []) (Mov A (constant 0) ∷ []) 1 (most (omega arith)) (most (omega arith))

-- ---- operands

waiting_most : (d : ℕ) (a b : List Op) (m n : ℕ) → AtMost a m → AtMost b n → AtMost (waiting d a b).code (m + n + 6)
waiting_most d a b m n ha hb = weaker (joined ha (joined {xs = save d} {m = 3} (most (omega arith)) (joined {ys = restore B d} {n = 3} hb (most (omega arith))))) (omega arith)

pub operands_most : (d : ℕ) (quiet : Bool) (first second : Option Direct) (a : List Op) (b : ℕ → List Op) (m n : ℕ) → AtMost a m → ((i : ℕ) → AtMost (b i) n) → AtMost (operands d quiet first second a b).code (m + n + 6)
operands_most d quiet None (Some v) a b m n ha hb = weaker (joined {ys = ready v} ha (ready_most v)) (omega arith)
operands_most d quiet (Some u) (Some v) a b m n ha hb = weaker (joined {ys = ready v} ha (ready_most v)) (omega arith)
operands_most d quiet None None a b m n ha hb = waiting_most d a (b (suc d)) m n ha (hb (suc d))
operands_most d quiet (Some v) None a b m n ha hb =
    if_operands (quiet || is_steady v) (turned v (b d)) (waiting d a (b (suc d))) (m + n + 6) (weaker (joined {ys = load_to B v} (hb d) (load_most B v)) (omega arith)) (waiting_most d a (b (suc d)) m n ha (hb (suc d)))

-- ---- operators

pub sum_most : (p : Operands) (n : ℕ) → AtMost p.code n → AtMost (sum_code p) (n + 1)
sum_most p n h = joined {xs = p.code} h (most (omega arith))

difference_most : (p : Operands) (n : ℕ) → AtMost p.code n → AtMost (difference_code p) (n + 2)
difference_most p n h = joined {xs = p.code} h (one_and (moved_from_most p.first))

comparable_most : (signed : Bool) (p : Operands) (n : ℕ) → AtMost p.code n → AtMost (comparable signed p).code (n + 2)
comparable_most false p n h = weaker h (omega arith)
comparable_most true p n h = joined {xs = p.code} h (joined {xs = lift p.first} {ys = lift_operand p.second} {m = 1} (most (omega arith)) (lift_most p.second))

comparison_most : (test : Option Cond) (p : Operands) (n : ℕ) → AtMost p.code n → AtMost (comparison_code test p) (n + 2)
comparison_most (Some test) p n h = joined {xs = p.code} h (one_and (moved_from_most p.first))
comparison_most None p n h = weaker h (omega arith)

pub tested_most : (holds : Bool) (target : ℕ) (value : List Op) (n : ℕ) → AtMost value n → AtMost (tested holds target value) (n + 1)
tested_most holds target value n h = joined h (most (omega arith))

pub junction_most : (decides holds : Bool) (target end : ℕ) (a b : Bool → ℕ → List Op) (s t : ℕ) → ((h : Bool) (i : ℕ) → AtMost (a h i) s) → ((h : Bool) (i : ℕ) → AtMost (b h i) t) → AtMost (junction decides holds target end a b) (s + t)
junction_most true true target end a b s t ha hb = joined (ha true target) (hb true target)
junction_most true false target end a b s t ha hb = joined (ha true end) (hb false target)
junction_most false true target end a b s t ha hb = joined (ha false end) (hb true target)
junction_most false false target end a b s t ha hb = joined (ha false target) (hb false target)

pub binary_code_most : (op : BinOp) (signed : Bool) (k i j s t : ℕ) (a b : Bool → ℕ → List Op) (p : Operands) (m n : ℕ)
    → ((h : Bool) (i : ℕ) → AtMost (a h i) s) → ((h : Bool) (i : ℕ) → AtMost (b h i) t) → AtMost p.code (m + n + 6) → AtMost (binary_code op signed k i j a b p) (binary_ops op s t m n)
binary_code_most binary.And signed k i j s t a b p m n ha hb hp = joined {n = 4} (junction_most false false (k + (i + j) + 1) (k + i + j) a b s t ha hb) (most (omega arith))
binary_code_most binary.Or signed k i j s t a b p m n ha hb hp = joined {n = 4} (junction_most true false (k + (i + j) + 1) (k + i + j) a b s t ha hb) (most (omega arith))
binary_code_most binary.Add signed k i j s t a b p m n ha hb hp = weaker (sum_most p (m + n + 6) hp) (omega arith)
binary_code_most binary.Sub signed k i j s t a b p m n ha hb hp = weaker (difference_most p (m + n + 6) hp) (omega arith)
binary_code_most binary.BitOr signed k i j s t a b p m n ha hb hp = weaker (comparison_most (comparison_of binary.BitOr) (comparable signed p) (m + n + 6 + 2) (comparable_most signed p (m + n + 6) hp)) (omega arith)
binary_code_most binary.BitXor signed k i j s t a b p m n ha hb hp = weaker (comparison_most (comparison_of binary.BitXor) (comparable signed p) (m + n + 6 + 2) (comparable_most signed p (m + n + 6) hp)) (omega arith)
binary_code_most binary.BitAnd signed k i j s t a b p m n ha hb hp = weaker (comparison_most (comparison_of binary.BitAnd) (comparable signed p) (m + n + 6 + 2) (comparable_most signed p (m + n + 6) hp)) (omega arith)
binary_code_most binary.Shl signed k i j s t a b p m n ha hb hp = weaker (comparison_most (comparison_of binary.Shl) (comparable signed p) (m + n + 6 + 2) (comparable_most signed p (m + n + 6) hp)) (omega arith)
binary_code_most binary.Shr signed k i j s t a b p m n ha hb hp = weaker (comparison_most (comparison_of binary.Shr) (comparable signed p) (m + n + 6 + 2) (comparable_most signed p (m + n + 6) hp)) (omega arith)
binary_code_most binary.Mul signed k i j s t a b p m n ha hb hp = weaker (comparison_most (comparison_of binary.Mul) (comparable signed p) (m + n + 6 + 2) (comparable_most signed p (m + n + 6) hp)) (omega arith)
binary_code_most binary.Div signed k i j s t a b p m n ha hb hp = weaker (comparison_most (comparison_of binary.Div) (comparable signed p) (m + n + 6 + 2) (comparable_most signed p (m + n + 6) hp)) (omega arith)
binary_code_most binary.Mod signed k i j s t a b p m n ha hb hp = weaker (comparison_most (comparison_of binary.Mod) (comparable signed p) (m + n + 6 + 2) (comparable_most signed p (m + n + 6) hp)) (omega arith)
binary_code_most binary.Eq signed k i j s t a b p m n ha hb hp = weaker (comparison_most (comparison_of binary.Eq) (comparable signed p) (m + n + 6 + 2) (comparable_most signed p (m + n + 6) hp)) (omega arith)
binary_code_most binary.Ne signed k i j s t a b p m n ha hb hp = weaker (comparison_most (comparison_of binary.Ne) (comparable signed p) (m + n + 6 + 2) (comparable_most signed p (m + n + 6) hp)) (omega arith)
binary_code_most binary.Lt signed k i j s t a b p m n ha hb hp = weaker (comparison_most (comparison_of binary.Lt) (comparable signed p) (m + n + 6 + 2) (comparable_most signed p (m + n + 6) hp)) (omega arith)
binary_code_most binary.Gt signed k i j s t a b p m n ha hb hp = weaker (comparison_most (comparison_of binary.Gt) (comparable signed p) (m + n + 6 + 2) (comparable_most signed p (m + n + 6) hp)) (omega arith)
binary_code_most binary.Le signed k i j s t a b p m n ha hb hp = weaker (comparison_most (comparison_of binary.Le) (comparable signed p) (m + n + 6 + 2) (comparable_most signed p (m + n + 6) hp)) (omega arith)
binary_code_most binary.Ge signed k i j s t a b p m n ha hb hp = weaker (comparison_most (comparison_of binary.Ge) (comparable signed p) (m + n + 6 + 2) (comparable_most signed p (m + n + 6) hp)) (omega arith)

comparison_truth_most : (test : Option Cond) (holds : Bool) (target : ℕ) (p : Operands) (value : List Op) (n : ℕ) → AtMost p.code n → AtMost value n → AtMost (comparison_truth test holds target p value) (n + 1)
comparison_truth_most (Some test) holds target p value n hp hv = joined {xs = p.code} hp (most (omega arith))
comparison_truth_most None holds target p value n hp hv = tested_most holds target value n hv

pub binary_truth_most : (op : BinOp) (signed holds : Bool) (target end : ℕ) (a b : Bool → ℕ → List Op) (p : Operands) (value : List Op) (s t m n : ℕ)
    → ((h : Bool) (i : ℕ) → AtMost (a h i) s) → ((h : Bool) (i : ℕ) → AtMost (b h i) t) → AtMost p.code (m + n + 6) → AtMost value (binary_ops op s t m n) → AtMost (binary_truth op signed holds target end a b p value) (binary_truth_ops op s t m n)
binary_truth_most binary.And signed holds target end a b p value s t m n ha hb hp hv = junction_most false holds target end a b s t ha hb
binary_truth_most binary.Or signed holds target end a b p value s t m n ha hb hp hv = junction_most true holds target end a b s t ha hb
binary_truth_most binary.Add signed holds target end a b p value s t m n ha hb hp hv = weaker (comparison_truth_most (comparison_of binary.Add) holds target (comparable signed p) value (m + n + 10) (weaker (comparable_most signed p (m + n + 6) hp) (omega arith)) hv) (omega arith)
binary_truth_most binary.Sub signed holds target end a b p value s t m n ha hb hp hv = weaker (comparison_truth_most (comparison_of binary.Sub) holds target (comparable signed p) value (m + n + 10) (weaker (comparable_most signed p (m + n + 6) hp) (omega arith)) hv) (omega arith)
binary_truth_most binary.BitOr signed holds target end a b p value s t m n ha hb hp hv = weaker (comparison_truth_most (comparison_of binary.BitOr) holds target (comparable signed p) value (m + n + 10) (weaker (comparable_most signed p (m + n + 6) hp) (omega arith)) hv) (omega arith)
binary_truth_most binary.BitXor signed holds target end a b p value s t m n ha hb hp hv = weaker (comparison_truth_most (comparison_of binary.BitXor) holds target (comparable signed p) value (m + n + 10) (weaker (comparable_most signed p (m + n + 6) hp) (omega arith)) hv) (omega arith)
binary_truth_most binary.BitAnd signed holds target end a b p value s t m n ha hb hp hv = weaker (comparison_truth_most (comparison_of binary.BitAnd) holds target (comparable signed p) value (m + n + 10) (weaker (comparable_most signed p (m + n + 6) hp) (omega arith)) hv) (omega arith)
binary_truth_most binary.Shl signed holds target end a b p value s t m n ha hb hp hv = weaker (comparison_truth_most (comparison_of binary.Shl) holds target (comparable signed p) value (m + n + 10) (weaker (comparable_most signed p (m + n + 6) hp) (omega arith)) hv) (omega arith)
binary_truth_most binary.Shr signed holds target end a b p value s t m n ha hb hp hv = weaker (comparison_truth_most (comparison_of binary.Shr) holds target (comparable signed p) value (m + n + 10) (weaker (comparable_most signed p (m + n + 6) hp) (omega arith)) hv) (omega arith)
binary_truth_most binary.Mul signed holds target end a b p value s t m n ha hb hp hv = weaker (comparison_truth_most (comparison_of binary.Mul) holds target (comparable signed p) value (m + n + 10) (weaker (comparable_most signed p (m + n + 6) hp) (omega arith)) hv) (omega arith)
binary_truth_most binary.Div signed holds target end a b p value s t m n ha hb hp hv = weaker (comparison_truth_most (comparison_of binary.Div) holds target (comparable signed p) value (m + n + 10) (weaker (comparable_most signed p (m + n + 6) hp) (omega arith)) hv) (omega arith)
binary_truth_most binary.Mod signed holds target end a b p value s t m n ha hb hp hv = weaker (comparison_truth_most (comparison_of binary.Mod) holds target (comparable signed p) value (m + n + 10) (weaker (comparable_most signed p (m + n + 6) hp) (omega arith)) hv) (omega arith)
binary_truth_most binary.Eq signed holds target end a b p value s t m n ha hb hp hv = weaker (comparison_truth_most (comparison_of binary.Eq) holds target (comparable signed p) value (m + n + 10) (weaker (comparable_most signed p (m + n + 6) hp) (omega arith)) hv) (omega arith)
binary_truth_most binary.Ne signed holds target end a b p value s t m n ha hb hp hv = weaker (comparison_truth_most (comparison_of binary.Ne) holds target (comparable signed p) value (m + n + 10) (weaker (comparable_most signed p (m + n + 6) hp) (omega arith)) hv) (omega arith)
binary_truth_most binary.Lt signed holds target end a b p value s t m n ha hb hp hv = weaker (comparison_truth_most (comparison_of binary.Lt) holds target (comparable signed p) value (m + n + 10) (weaker (comparable_most signed p (m + n + 6) hp) (omega arith)) hv) (omega arith)
binary_truth_most binary.Gt signed holds target end a b p value s t m n ha hb hp hv = weaker (comparison_truth_most (comparison_of binary.Gt) holds target (comparable signed p) value (m + n + 10) (weaker (comparable_most signed p (m + n + 6) hp) (omega arith)) hv) (omega arith)
binary_truth_most binary.Le signed holds target end a b p value s t m n ha hb hp hv = weaker (comparison_truth_most (comparison_of binary.Le) holds target (comparable signed p) value (m + n + 10) (weaker (comparable_most signed p (m + n + 6) hp) (omega arith)) hv) (omega arith)
binary_truth_most binary.Ge signed holds target end a b p value s t m n ha hb hp hv = weaker (comparison_truth_most (comparison_of binary.Ge) holds target (comparable signed p) value (m + n + 10) (weaker (comparable_most signed p (m + n + 6) hp) (omega arith)) hv) (omega arith)

pub unary_code_most : (op : UnOp) (t : CType) (value place : List Op) (n : ℕ) → AtMost value n → AtMost place n → AtMost (unary_code op t value place) (n + 3)
unary_code_most unary.Address t value place n hv hp = weaker hp (omega arith)
unary_code_most unary.Deref t value place n hv hp = weaker (joined {ys = fetched_behind t} hv (fetched_behind_most t)) (omega arith)
unary_code_most unary.Not t value place n hv hp = weaker (joined {n = 1} hv (most (omega arith))) (omega arith)
unary_code_most unary.Minus t value place n hv hp = joined hv (most (omega arith))
unary_code_most unary.Plus t value place n hv hp = weaker hv (omega arith)
unary_code_most unary.Invert t value place n hv hp = weaker hv (omega arith)

pub unary_truth_most : (op : UnOp) (holds : Bool) (target : ℕ) (test : Bool → ℕ → List Op) (value : List Op) (s n : ℕ) → ((h : Bool) (i : ℕ) → AtMost (test h i) s) → AtMost value (n + 3) → AtMost (unary_truth op holds target test value) (unary_truth_ops op s n)
unary_truth_most unary.Not holds target test value s n ht hv = ht _ target
unary_truth_most unary.Address holds target test value s n ht hv = weaker (tested_most holds target value (n + 3) hv) (omega arith)
unary_truth_most unary.Deref holds target test value s n ht hv = weaker (tested_most holds target value (n + 3) hv) (omega arith)
unary_truth_most unary.Minus holds target test value s n ht hv = weaker (tested_most holds target value (n + 3) hv) (omega arith)
unary_truth_most unary.Plus holds target test value s n ht hv = weaker (tested_most holds target value (n + 3) hv) (omega arith)
unary_truth_most unary.Invert holds target test value s n ht hv = weaker (tested_most holds target value (n + 3) hv) (omega arith)

pub direct_or_most : (v : Option Direct) (ops : List Op) (n : ℕ) → AtMost ops (n + 3) → AtMost (direct_or v ops) (n + 3)
direct_or_most None ops n h = h
direct_or_most (Some v) ops n h = weaker (load_most A v) (omega arith)

pub loaded_most : (v : Option Direct) → AtMost (loaded v) 3
loaded_most None = most (omega arith)
loaded_most (Some v) = load_most A v

-- ---- assignments

pointed_most : (l : Option Location) (place : List Op) (n : ℕ) → AtMost place n → AtMost (pointed_by l place) (n + 2)
pointed_most None place n h = weaker (joined {n = 1} h (most (omega arith))) (omega arith)
pointed_most (Some l) place n h = weaker (point_most l) (omega arith)

update_by_most : (op : BinOp) (v : Direct) → AtMost (update_by op v) 6
update_by_most op v = one_and (weaker (joined {xs = ready v} {ys = step_by op A (operand_of v) ∷ Store A (register C) ∷ []} {n = 2} (ready_most v) (most (omega arith))) (omega arith))

pub stepped_most : (op : BinOp) (back : StepOp) (l : Option Location) (place : List Op) (n : ℕ) → AtMost place n → AtMost (pointed_by l place ++ (update_by op (Exactly 1) ++ step_back back)) (n + 6)
stepped_most op back l place n h = weaker (joined {xs = pointed_by l place} (pointed_most l place n h) (joined {xs = update_by op (Exactly 1)} {ys = step_back back} {m = 3} (most (omega arith)) (step_back_most back))) (omega arith)

assigned_most : (d : ℕ) (l : Option Location) (v : Option Direct) (place : List Op) (value : ℕ → List Op) (m n : ℕ) → AtMost place m → ((i : ℕ) → AtMost (value i) n) → AtMost (assigned_code d l v place value) (m + n + 10)
assigned_most d (Some l) v place value m n hp hv = weaker (joined {ys = store_to l} (hv d) (store_most l)) (omega arith)
assigned_most d None (Some v) place value m n hp hv = weaker (joined hp (one_and (joined {xs = load_to A v} {n = 1} (load_most A v) (most (omega arith))))) (omega arith)
assigned_most d None None place value m n hp hv = weaker (joined hp (joined {xs = save d} {m = 3} (most (omega arith)) (joined {ys = restore B d ++ Store A (register B) ∷ []} {n = 4} (hv (suc d)) (most (omega arith))))) (omega arith)

updated_most : (op : BinOp) (d : ℕ) (l : Option Location) (v : Option Direct) (place : List Op) (value : ℕ → List Op) (m n : ℕ) → AtMost place m → ((i : ℕ) → AtMost (value i) n) → AtMost (updated_code op d l v place value) (m + n + 10)
updated_most op d l (Some v) place value m n hp hv = weaker (joined {xs = pointed_by l place} {ys = update_by op v} (pointed_most l place m hp) (update_by_most op v)) (omega arith)
updated_most op d (Some l) None place value m n hp hv = weaker (joined {ys = point_to l ++ update_by_value op} (hv d) (joined {xs = point_to l} {n = 4} (point_most l) (most (omega arith)))) (omega arith)
updated_most op d None None place value m n hp hv = weaker (joined hp (joined {xs = save d} {m = 3} (most (omega arith)) (joined {ys = restore C d ++ update_by_value op} {n = 7} (hv (suc d)) (most (omega arith))))) (omega arith)

pub assignment_most : (op : Option BinOp) (d : ℕ) (l : Option Location) (v : Option Direct) (place : List Op) (value : ℕ → List Op) (m n : ℕ) → AtMost place m → ((i : ℕ) → AtMost (value i) n) → AtMost (assignment_code op d l v place value) (m + n + 10)
assignment_most None d l v place value m n hp hv = assigned_most d l v place value m n hp hv
assignment_most (Some op) d l v place value m n hp hv = updated_most op d l v place value m n hp hv

-- ---- choices and calls

pub choice_most : (k i j l s m n : ℕ) (test : ℕ → List Op) (one other : List Op) → ((i : ℕ) → AtMost (test i) s) → AtMost one m → AtMost other n → AtMost (choice_code k i j l test one other) (s + m + n + 2)
choice_most k i j l s m n test one other ht ho hx = weaker (joined (ht (k + i + j + 1)) (joined ho (one_and (joined {n = 1} hx (most (omega arith)))))) (omega arith)

pub callee_most : (c : Callee) (d back : ℕ) (w : Linking) (pointer argument arguments : List Op) (m n : ℕ) → AtMost pointer m → AtMost argument (n + 3) → AtMost arguments n → AtMost (callee_code d back w c pointer argument arguments) (m + n + 9)
callee_most (ByName name ts) d back w pointer argument arguments m n hp ha hs = weaker (joined {n = 5} hs (most (omega arith))) (omega arith)
callee_most (Known name ts) d back w pointer argument arguments m n hp ha hs = weaker (joined ha (joined {xs = built_in_code name} {n = 1} (built_in_most name) (most (omega arith)))) (omega arith)
callee_most Format d back w pointer argument arguments m n hp ha hs = weaker (joined {n = 1} ha (most (omega arith))) (omega arith)
callee_most (Through ts) d back w pointer argument arguments m n hp ha hs = weaker (joined hp (joined {xs = save d} {m = 3} (most (omega arith)) (joined {n = 6} hs (most (omega arith))))) (omega arith)
