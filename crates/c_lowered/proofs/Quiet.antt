-- The jumps of short pieces of code.
use Rattle.std.proofs.Common.{◌≡◌, ℕ, zero, suc, ◌+◌, Bool, true, false, ◌||◌, List, [], ◌∷◌, ◌++◌, Option, Some, None, refl, sym, ap, ◌∙◌, arith, if◌then◌else◌}
use Rattle.eir_core.specs.declared.ops.Reg.{Reg}
use Rattle.eir_core.specs.declared.ops.Reg.TheVariants.{A, B, C, D, SP, BP}
use Rattle.eir_core.specs.declared.ops.Operand.{Operand}
use Rattle.eir_core.specs.declared.ops.Operand.TheVariants.{Reg as register, Imm}
use Rattle.eir_core.specs.declared.ops.Cond.{Cond}
use Rattle.eir_core.specs.declared.ops.Cond.TheVariants.{Eq}
use Rattle.eir_core.specs.declared.ops.Op.{Op}
use Rattle.eir_core.specs.declared.ops.Op.TheVariants.{Mov, Sub, Store, Putc, Getc, Exit, Set, Jump}
use Rattle.c_syntax.specs.declared.tree.UnOp.{UnOp}
use Rattle.c_syntax.specs.declared.tree.UnOp.TheVariants as unary
use Rattle.c_syntax.specs.declared.tree.StepOp.{StepOp}
use Rattle.c_syntax.specs.declared.tree.StepOp.TheVariants as step
use Rattle.c_syntax.specs.declared.tree.BinOp.{BinOp}
use Rattle.c_syntax.specs.declared.tree.BinOp.TheVariants as binary
use Rattle.c_types.specs.Types as type
use Rattle.c_types.specs.Types.{CType}
use Rattle.c_eval.specs.Environment.{Callee, Direct as ByName, Known, Format, Through}
use Rattle.eir_core.specs.Eir.{is_jump}
use Rattle.std.specs.Prelude.{codes}
use Rattle.std.specs.Str.{bytes_eq}
use Rattle.c_helpers.specs.Functions.{piece_name}
use Rattle.c_place.specs.Code.{jumps}
use Rattle.c_place.proofs.CutLemmas.{jumps_append}
use Rattle.c_lowered.specs.Locations.{Location, Fixed, Framed, Linking, Direct, Exactly, Address, Stored, is_steady}
use Rattle.c_lowered.specs.Operations.{constant, load_to, direct_or, store_to, point_to, save, restore, fetched, fetched_behind, moved_on, Operands, turned, waiting, operands, ready, operand_of, moved_from, sum_code, difference_code, comparison_of, comparable, lift, lift_operand, compared, comparison_code, truth_word, junction, step_by, update_by, update_by_value}
use Rattle.c_lowered.specs.Counts.{binary_jumps, binary_truth_jumps, unary_truth_jumps}
use Rattle.c_lowered.specs.Expressions.{unary_code, step_back, pointed_by, assigned_code, updated_code, assignment_code, binary_code, tested, comparison_truth, binary_truth, unary_truth, choice_code, built_in_code, known_code, callee_code}

-- code has so many jumps
pub record HasJumps (ops : List Op) (n : ℕ) : Type 0 where
  pub count : jumps ops ≡ n

pub exactly : {ops : List Op} {n : ℕ} → jumps ops ≡ n → HasJumps ops n
exactly e = record { count = e }

-- the same number
pub the_same : {ops : List Op} {m n : ℕ} → HasJumps ops m → m ≡ n → HasJumps ops n
the_same h e = exactly (h.count ∙ e)

-- ---- without jumps

pub load_jumps : (r : Reg) (v : Direct) → HasJumps (load_to r v) 0
load_jumps r (Exactly n) = exactly refl
load_jumps r (Address k) = exactly refl
load_jumps r (Stored (Fixed a)) = exactly refl
load_jumps r (Stored (Framed k)) = exactly refl

pub store_jumps : (l : Location) → HasJumps (store_to l) 0
store_jumps (Fixed a) = exactly refl
store_jumps (Framed k) = exactly refl

pub point_jumps : (l : Location) → HasJumps (point_to l) 0
point_jumps (Fixed a) = exactly refl
point_jumps (Framed k) = exactly refl

pub fetched_jumps : (t : CType) → HasJumps (fetched t) 0
fetched_jumps (type.Array t n) = exactly refl
fetched_jumps (type.Struct tag) = exactly refl
fetched_jumps (type.Function t ts) = exactly refl
fetched_jumps type.Void = exactly refl
fetched_jumps type.Int = exactly refl
fetched_jumps type.Unsigned = exactly refl
fetched_jumps type.Char = exactly refl
fetched_jumps type.UChar = exactly refl
fetched_jumps type.Null = exactly refl
fetched_jumps (type.Pointer t) = exactly refl

pub fetched_behind_jumps : (t : CType) → HasJumps (fetched_behind t) 0
fetched_behind_jumps (type.Pointer t) = fetched_jumps t
fetched_behind_jumps (type.Array t n) = exactly refl
fetched_behind_jumps (type.Struct tag) = exactly refl
fetched_behind_jumps (type.Function t ts) = exactly refl
fetched_behind_jumps type.Void = exactly refl
fetched_behind_jumps type.Int = exactly refl
fetched_behind_jumps type.Unsigned = exactly refl
fetched_behind_jumps type.Char = exactly refl
fetched_behind_jumps type.UChar = exactly refl
fetched_behind_jumps type.Null = exactly refl

pub moved_on_jumps : (n : ℕ) → HasJumps (moved_on n) 0
moved_on_jumps zero = exactly refl
moved_on_jumps (suc n) = exactly refl

pub moved_from_jumps : (r : Reg) → HasJumps (moved_from r) 0
moved_from_jumps A = exactly refl
moved_from_jumps B = exactly refl
moved_from_jumps C = exactly refl
moved_from_jumps D = exactly refl
moved_from_jumps SP = exactly refl
moved_from_jumps BP = exactly refl

ready_jumps : (v : Direct) → HasJumps (ready v) 0
ready_jumps (Exactly n) = exactly refl
ready_jumps (Address k) = exactly refl
ready_jumps (Stored l) = load_jumps B (Stored l)

lift_jumps : (v : Operand) → HasJumps (lift_operand v) 0
lift_jumps (register r) = exactly refl
lift_jumps (Imm w) = exactly refl

pub step_back_jumps : (op : StepOp) → HasJumps (step_back op) 0
step_back_jumps step.PreInc = exactly refl
step_back_jumps step.PreDec = exactly refl
step_back_jumps step.PostInc = exactly refl
step_back_jumps step.PostDec = exactly refl

pub if_jumps : (b : Bool) (x y : List Op) (n : ℕ) → HasJumps x n → HasJumps y n → HasJumps (if b then x else y) n
if_jumps true x y n hx hy = hx
if_jumps false x y n hx hy = hy

pub if_operands : (b : Bool) (x y : Operands) (n : ℕ) → HasJumps x.code n → HasJumps y.code n → HasJumps (if b then x else y).code n
if_operands true x y n hx hy = hx
if_operands false x y n hx hy = hy

pub built_in_jumps : (name : List ℕ) → HasJumps (built_in_code name) 0
built_in_jumps name =
    let one = bytes_eq name (codes "getchar") in
    let two = bytes_eq name (codes "__builtin_getc") in
    let three = bytes_eq name (codes "putchar") in
    let four = bytes_eq name (codes "exit") in
    let last : List Op = if four then Exit ∷ [] else [] in
    let third : List Op = if three then Putc (register A) ∷ [] else last in
    let second : List Op = if two then Getc A ∷ [] else third in
    if_jumps one (Getc A ∷ Mov B (register A) ∷ Set Eq B (constant 0) ∷ Sub A (register B) ∷ []) second 0 (exactly refl) (if_jumps two (Getc A ∷ []) third 0 (exactly refl) (if_jumps three (Putc (register A) ∷ []) last 0 (exactly refl) (if_jumps four (Exit ∷ []) [] 0 (exactly refl) (exactly refl))))

pub known_jumps : (name : List ℕ) → HasJumps (known_code name) 0
known_jumps name = if_jumps (bytes_eq name piece_name) (Putc (register A) ∷ []) (Mov A (constant 0) ∷ []) 0 (exactly refl) (exactly refl)

-- code before code without jumps
pub and_quiet : {xs ys : List Op} {n : ℕ} → HasJumps xs n → HasJumps ys 0 → HasJumps (xs ++ ys) n
and_quiet {xs} {ys} hx hy = exactly (omega (arith, jumps_append xs ys, hx.count, hy.count))

pub quiet_and : {xs ys : List Op} {n : ℕ} → HasJumps xs 0 → HasJumps ys n → HasJumps (xs ++ ys) n
quiet_and {xs} {ys} hx hy = exactly (omega (arith, jumps_append xs ys, hx.count, hy.count))

pub and_then : {xs ys : List Op} {m n : ℕ} → HasJumps xs m → HasJumps ys n → HasJumps (xs ++ ys) (m + n)
and_then {xs} {ys} hx hy = exactly (omega (arith, jumps_append xs ys, hx.count, hy.count))

-- behind a jump
pub jump_and : {o : Op} {ys : List Op} {n : ℕ} → is_jump o ≡ true → HasJumps ys n → HasJumps (o ∷ ys) (suc n)
jump_and {o} {ys} e h = exactly (ap (λ b. if b then suc (jumps ys) else jumps ys) e ∙ ap suc h.count)

pub other_and : {o : Op} {ys : List Op} {n : ℕ} → is_jump o ≡ false → HasJumps ys n → HasJumps (o ∷ ys) n
other_and {o} {ys} e h = exactly (ap (λ b. if b then suc (jumps ys) else jumps ys) e ∙ h.count)

-- ---- operands

waiting_jumps : (d : ℕ) (a b : List Op) (m n : ℕ) → HasJumps a m → HasJumps b n → HasJumps (waiting d a b).code (m + n)
waiting_jumps d a b m n ha hb = and_then ha (quiet_and {xs = save d} (exactly refl) (and_quiet {ys = restore B d} hb (exactly refl)))

pub operands_jumps : (d : ℕ) (quiet : Bool) (first second : Option Direct) (a : List Op) (b : ℕ → List Op) (m n : ℕ)
    → HasJumps a m → ((i : ℕ) → HasJumps (b i) n) → ((v : Direct) → first ≡ Some v → m ≡ 0) → ((v : Direct) → second ≡ Some v → n ≡ 0) → HasJumps (operands d quiet first second a b).code (m + n)
operands_jumps d quiet None (Some v) a b m n ha hb hf hs = the_same (and_quiet {ys = ready v} ha (ready_jumps v)) (omega (arith, hs v refl))
operands_jumps d quiet (Some u) (Some v) a b m n ha hb hf hs = the_same (and_quiet {ys = ready v} ha (ready_jumps v)) (omega (arith, hs v refl))
operands_jumps d quiet None None a b m n ha hb hf hs = waiting_jumps d a (b (suc d)) m n ha (hb (suc d))
operands_jumps d quiet (Some v) None a b m n ha hb hf hs =
    if_operands (quiet || is_steady v) (turned v (b d)) (waiting d a (b (suc d))) (m + n)
    (the_same (and_quiet {ys = load_to B v} (hb d) (load_jumps B v)) (omega (arith, hf v refl))) (waiting_jumps d a (b (suc d)) m n ha (hb (suc d)))

-- ---- operators

pub sum_jumps : (p : Operands) (n : ℕ) → HasJumps p.code n → HasJumps (sum_code p) n
sum_jumps p n h = and_quiet {xs = p.code} h (exactly refl)

difference_jumps : (p : Operands) (n : ℕ) → HasJumps p.code n → HasJumps (difference_code p) n
difference_jumps p n h = and_quiet {xs = p.code} h (other_and refl (moved_from_jumps p.first))

comparable_jumps : (signed : Bool) (p : Operands) (n : ℕ) → HasJumps p.code n → HasJumps (comparable signed p).code n
comparable_jumps false p n h = h
comparable_jumps true p n h = and_quiet {xs = p.code} h (and_quiet {xs = lift p.first} {ys = lift_operand p.second} (exactly refl) (lift_jumps p.second))

compared_jumps : (test : Cond) (p : Operands) (n : ℕ) → HasJumps p.code n → HasJumps (compared test p) n
compared_jumps test p n h = and_quiet {xs = p.code} h (other_and refl (moved_from_jumps p.first))

comparison_jumps : (test : Option Cond) (p : Operands) (n : ℕ) → HasJumps p.code n → HasJumps (comparison_code test p) n
comparison_jumps (Some test) p n h = compared_jumps test p n h
comparison_jumps None p n h = h

pub tested_jumps : (holds : Bool) (target : ℕ) (value : List Op) (n : ℕ) → HasJumps value n → HasJumps (tested holds target value) (n + 1)
tested_jumps holds target value n h = and_then h (exactly refl)

pub junction_jumps : (decides holds : Bool) (target end : ℕ) (a b : Bool → ℕ → List Op) (s t : ℕ) → ((h : Bool) (i : ℕ) → HasJumps (a h i) s) → ((h : Bool) (i : ℕ) → HasJumps (b h i) t)
    → HasJumps (junction decides holds target end a b) (s + t)
junction_jumps true true target end a b s t ha hb = and_then (ha true target) (hb true target)
junction_jumps true false target end a b s t ha hb = and_then (ha true end) (hb false target)
junction_jumps false true target end a b s t ha hb = and_then (ha false end) (hb true target)
junction_jumps false false target end a b s t ha hb = and_then (ha false target) (hb false target)

truth_word_jumps : (k n : ℕ) (test : ℕ → List Op) (m : ℕ) → ((i : ℕ) → HasJumps (test i) m) → HasJumps (truth_word k n test) (m + 2)
truth_word_jumps k n test m h = and_then (h (k + n + 1)) (exactly refl)

pub binary_code_jumps : (op : BinOp) (signed : Bool) (k s t : ℕ) (a b : Bool → ℕ → List Op) (p : Operands) (m n : ℕ)
    → ((h : Bool) (i : ℕ) → HasJumps (a h i) s) → ((h : Bool) (i : ℕ) → HasJumps (b h i) t) → HasJumps p.code (m + n) → HasJumps (binary_code op signed k s t a b p) (binary_jumps op s t m n)
binary_code_jumps binary.And signed k s t a b p m n ha hb hp = truth_word_jumps k (s + t) _ (s + t) (λ i. junction_jumps false false i (k + s + t) a b s t ha hb)
binary_code_jumps binary.Or signed k s t a b p m n ha hb hp = truth_word_jumps k (s + t) _ (s + t) (λ i. junction_jumps true false i (k + s + t) a b s t ha hb)
binary_code_jumps binary.Add signed k s t a b p m n ha hb hp = sum_jumps p (m + n) hp
binary_code_jumps binary.Sub signed k s t a b p m n ha hb hp = difference_jumps p (m + n) hp
binary_code_jumps binary.BitOr signed k s t a b p m n ha hb hp = comparison_jumps None (comparable signed p) (m + n) (comparable_jumps signed p (m + n) hp)
binary_code_jumps binary.BitXor signed k s t a b p m n ha hb hp = comparison_jumps None (comparable signed p) (m + n) (comparable_jumps signed p (m + n) hp)
binary_code_jumps binary.BitAnd signed k s t a b p m n ha hb hp = comparison_jumps None (comparable signed p) (m + n) (comparable_jumps signed p (m + n) hp)
binary_code_jumps binary.Shl signed k s t a b p m n ha hb hp = comparison_jumps None (comparable signed p) (m + n) (comparable_jumps signed p (m + n) hp)
binary_code_jumps binary.Shr signed k s t a b p m n ha hb hp = comparison_jumps None (comparable signed p) (m + n) (comparable_jumps signed p (m + n) hp)
binary_code_jumps binary.Mul signed k s t a b p m n ha hb hp = comparison_jumps None (comparable signed p) (m + n) (comparable_jumps signed p (m + n) hp)
binary_code_jumps binary.Div signed k s t a b p m n ha hb hp = comparison_jumps None (comparable signed p) (m + n) (comparable_jumps signed p (m + n) hp)
binary_code_jumps binary.Mod signed k s t a b p m n ha hb hp = comparison_jumps None (comparable signed p) (m + n) (comparable_jumps signed p (m + n) hp)
binary_code_jumps binary.Eq signed k s t a b p m n ha hb hp = comparison_jumps (comparison_of binary.Eq) (comparable signed p) (m + n) (comparable_jumps signed p (m + n) hp)
binary_code_jumps binary.Ne signed k s t a b p m n ha hb hp = comparison_jumps (comparison_of binary.Ne) (comparable signed p) (m + n) (comparable_jumps signed p (m + n) hp)
binary_code_jumps binary.Lt signed k s t a b p m n ha hb hp = comparison_jumps (comparison_of binary.Lt) (comparable signed p) (m + n) (comparable_jumps signed p (m + n) hp)
binary_code_jumps binary.Gt signed k s t a b p m n ha hb hp = comparison_jumps (comparison_of binary.Gt) (comparable signed p) (m + n) (comparable_jumps signed p (m + n) hp)
binary_code_jumps binary.Le signed k s t a b p m n ha hb hp = comparison_jumps (comparison_of binary.Le) (comparable signed p) (m + n) (comparable_jumps signed p (m + n) hp)
binary_code_jumps binary.Ge signed k s t a b p m n ha hb hp = comparison_jumps (comparison_of binary.Ge) (comparable signed p) (m + n) (comparable_jumps signed p (m + n) hp)

comparison_truth_jumps : (test : Option Cond) (holds : Bool) (target : ℕ) (p : Operands) (value : List Op) (n : ℕ) → HasJumps p.code n → HasJumps value n → HasJumps (comparison_truth test holds target p value) (n + 1)
comparison_truth_jumps (Some test) holds target p value n hp hv = and_then {xs = p.code} hp (exactly refl)
comparison_truth_jumps None holds target p value n hp hv = tested_jumps holds target value n hv

pub binary_truth_jumps_are : (op : BinOp) (signed holds : Bool) (target end : ℕ) (a b : Bool → ℕ → List Op) (p : Operands) (value : List Op) (s t m n : ℕ)
    → ((h : Bool) (i : ℕ) → HasJumps (a h i) s) → ((h : Bool) (i : ℕ) → HasJumps (b h i) t) → HasJumps p.code (m + n) → HasJumps value (binary_jumps op s t m n)
    → HasJumps (binary_truth op signed holds target end a b p value) (binary_truth_jumps op s t m n)
binary_truth_jumps_are binary.And signed holds target end a b p value s t m n ha hb hp hv = junction_jumps false holds target end a b s t ha hb
binary_truth_jumps_are binary.Or signed holds target end a b p value s t m n ha hb hp hv = junction_jumps true holds target end a b s t ha hb
binary_truth_jumps_are binary.Add signed holds target end a b p value s t m n ha hb hp hv = comparison_truth_jumps (comparison_of binary.Add) holds target (comparable signed p) value (m + n) (comparable_jumps signed p (m + n) hp) hv
binary_truth_jumps_are binary.Sub signed holds target end a b p value s t m n ha hb hp hv = comparison_truth_jumps (comparison_of binary.Sub) holds target (comparable signed p) value (m + n) (comparable_jumps signed p (m + n) hp) hv
binary_truth_jumps_are binary.BitOr signed holds target end a b p value s t m n ha hb hp hv = comparison_truth_jumps (comparison_of binary.BitOr) holds target (comparable signed p) value (m + n) (comparable_jumps signed p (m + n) hp) hv
binary_truth_jumps_are binary.BitXor signed holds target end a b p value s t m n ha hb hp hv = comparison_truth_jumps (comparison_of binary.BitXor) holds target (comparable signed p) value (m + n) (comparable_jumps signed p (m + n) hp) hv
binary_truth_jumps_are binary.BitAnd signed holds target end a b p value s t m n ha hb hp hv = comparison_truth_jumps (comparison_of binary.BitAnd) holds target (comparable signed p) value (m + n) (comparable_jumps signed p (m + n) hp) hv
binary_truth_jumps_are binary.Shl signed holds target end a b p value s t m n ha hb hp hv = comparison_truth_jumps (comparison_of binary.Shl) holds target (comparable signed p) value (m + n) (comparable_jumps signed p (m + n) hp) hv
binary_truth_jumps_are binary.Shr signed holds target end a b p value s t m n ha hb hp hv = comparison_truth_jumps (comparison_of binary.Shr) holds target (comparable signed p) value (m + n) (comparable_jumps signed p (m + n) hp) hv
binary_truth_jumps_are binary.Mul signed holds target end a b p value s t m n ha hb hp hv = comparison_truth_jumps (comparison_of binary.Mul) holds target (comparable signed p) value (m + n) (comparable_jumps signed p (m + n) hp) hv
binary_truth_jumps_are binary.Div signed holds target end a b p value s t m n ha hb hp hv = comparison_truth_jumps (comparison_of binary.Div) holds target (comparable signed p) value (m + n) (comparable_jumps signed p (m + n) hp) hv
binary_truth_jumps_are binary.Mod signed holds target end a b p value s t m n ha hb hp hv = comparison_truth_jumps (comparison_of binary.Mod) holds target (comparable signed p) value (m + n) (comparable_jumps signed p (m + n) hp) hv
binary_truth_jumps_are binary.Eq signed holds target end a b p value s t m n ha hb hp hv = comparison_truth_jumps (comparison_of binary.Eq) holds target (comparable signed p) value (m + n) (comparable_jumps signed p (m + n) hp) hv
binary_truth_jumps_are binary.Ne signed holds target end a b p value s t m n ha hb hp hv = comparison_truth_jumps (comparison_of binary.Ne) holds target (comparable signed p) value (m + n) (comparable_jumps signed p (m + n) hp) hv
binary_truth_jumps_are binary.Lt signed holds target end a b p value s t m n ha hb hp hv = comparison_truth_jumps (comparison_of binary.Lt) holds target (comparable signed p) value (m + n) (comparable_jumps signed p (m + n) hp) hv
binary_truth_jumps_are binary.Gt signed holds target end a b p value s t m n ha hb hp hv = comparison_truth_jumps (comparison_of binary.Gt) holds target (comparable signed p) value (m + n) (comparable_jumps signed p (m + n) hp) hv
binary_truth_jumps_are binary.Le signed holds target end a b p value s t m n ha hb hp hv = comparison_truth_jumps (comparison_of binary.Le) holds target (comparable signed p) value (m + n) (comparable_jumps signed p (m + n) hp) hv
binary_truth_jumps_are binary.Ge signed holds target end a b p value s t m n ha hb hp hv = comparison_truth_jumps (comparison_of binary.Ge) holds target (comparable signed p) value (m + n) (comparable_jumps signed p (m + n) hp) hv

pub unary_code_jumps : (op : UnOp) (t : CType) (value place : List Op) (n : ℕ) → HasJumps value n → HasJumps place n → HasJumps (unary_code op t value place) n
unary_code_jumps unary.Address t value place n hv hp = hp
unary_code_jumps unary.Deref t value place n hv hp = and_quiet {ys = fetched_behind t} hv (fetched_behind_jumps t)
unary_code_jumps unary.Not t value place n hv hp = and_quiet hv (exactly refl)
unary_code_jumps unary.Minus t value place n hv hp = and_quiet hv (exactly refl)
unary_code_jumps unary.Plus t value place n hv hp = hv
unary_code_jumps unary.Invert t value place n hv hp = hv

pub unary_truth_jumps_are : (op : UnOp) (holds : Bool) (target : ℕ) (test : Bool → ℕ → List Op) (value : List Op) (s n : ℕ)
    → ((h : Bool) (i : ℕ) → HasJumps (test h i) s) → HasJumps value n → HasJumps (unary_truth op holds target test value) (unary_truth_jumps op s n)
unary_truth_jumps_are unary.Not holds target test value s n ht hv = ht _ target
unary_truth_jumps_are unary.Address holds target test value s n ht hv = tested_jumps holds target value n hv
unary_truth_jumps_are unary.Deref holds target test value s n ht hv = tested_jumps holds target value n hv
unary_truth_jumps_are unary.Minus holds target test value s n ht hv = tested_jumps holds target value n hv
unary_truth_jumps_are unary.Plus holds target test value s n ht hv = tested_jumps holds target value n hv
unary_truth_jumps_are unary.Invert holds target test value s n ht hv = tested_jumps holds target value n hv

pub direct_or_jumps : (v : Option Direct) (ops : List Op) (n : ℕ) → HasJumps ops n → ((u : Direct) → v ≡ Some u → n ≡ 0) → HasJumps (direct_or v ops) n
direct_or_jumps None ops n h k = h
direct_or_jumps (Some v) ops n h k = the_same (load_jumps A v) (sym (k v refl))

-- ---- assignments

pub pointed_jumps : (l : Option Location) (place : List Op) (n : ℕ) → HasJumps place n → ((x : Location) → l ≡ Some x → n ≡ 0) → HasJumps (pointed_by l place) n
pointed_jumps None place n h k = and_quiet h (exactly refl)
pointed_jumps (Some l) place n h k = the_same (point_jumps l) (sym (k l refl))

step_by_quiet : (op : BinOp) (r : Reg) (v : Operand) (ops : List Op) (n : ℕ) → HasJumps ops n → HasJumps (step_by op r v ∷ ops) n
step_by_quiet binary.Sub r v ops n h = other_and refl h
step_by_quiet binary.And r v ops n h = other_and refl h
step_by_quiet binary.Or r v ops n h = other_and refl h
step_by_quiet binary.Add r v ops n h = other_and refl h
step_by_quiet binary.BitOr r v ops n h = other_and refl h
step_by_quiet binary.BitXor r v ops n h = other_and refl h
step_by_quiet binary.BitAnd r v ops n h = other_and refl h
step_by_quiet binary.Shl r v ops n h = other_and refl h
step_by_quiet binary.Shr r v ops n h = other_and refl h
step_by_quiet binary.Mul r v ops n h = other_and refl h
step_by_quiet binary.Div r v ops n h = other_and refl h
step_by_quiet binary.Mod r v ops n h = other_and refl h
step_by_quiet binary.Eq r v ops n h = other_and refl h
step_by_quiet binary.Ne r v ops n h = other_and refl h
step_by_quiet binary.Lt r v ops n h = other_and refl h
step_by_quiet binary.Gt r v ops n h = other_and refl h
step_by_quiet binary.Le r v ops n h = other_and refl h
step_by_quiet binary.Ge r v ops n h = other_and refl h

pub update_by_jumps : (op : BinOp) (v : Direct) → HasJumps (update_by op v) 0
update_by_jumps op v = other_and refl (quiet_and {xs = ready v} (ready_jumps v) (step_by_quiet op A (operand_of v) (Store A (register C) ∷ []) 0 (exactly refl)))

update_by_value_jumps : (op : BinOp) → HasJumps (update_by_value op) 0
update_by_value_jumps op = other_and refl (step_by_quiet op B (register A) (Mov A (register B) ∷ Store A (register C) ∷ []) 0 (exactly refl))

pub assigned_jumps : (d : ℕ) (l : Option Location) (v : Option Direct) (place : List Op) (value : ℕ → List Op) (m n : ℕ)
    → HasJumps place m → ((i : ℕ) → HasJumps (value i) n) → ((x : Location) → l ≡ Some x → m ≡ 0) → ((u : Direct) → v ≡ Some u → n ≡ 0) → HasJumps (assigned_code d l v place value) (m + n)
assigned_jumps d (Some l) v place value m n hp hv hl hd = the_same (and_quiet {ys = store_to l} (hv d) (store_jumps l)) (omega (arith, hl l refl))
assigned_jumps d None (Some v) place value m n hp hv hl hd =
    the_same (and_quiet hp (other_and refl (and_quiet {xs = load_to A v} (load_jumps A v) (exactly refl)))) (omega (arith, hd v refl))
assigned_jumps d None None place value m n hp hv hl hd =
    and_then hp (quiet_and {xs = save d} (exactly refl) (and_quiet {ys = restore B d ++ Store A (register B) ∷ []} (hv (suc d)) (exactly refl)))

pub updated_jumps : (op : BinOp) (d : ℕ) (l : Option Location) (v : Option Direct) (place : List Op) (value : ℕ → List Op) (m n : ℕ)
    → HasJumps place m → ((i : ℕ) → HasJumps (value i) n) → ((x : Location) → l ≡ Some x → m ≡ 0) → ((u : Direct) → v ≡ Some u → n ≡ 0) → HasJumps (updated_code op d l v place value) (m + n)
updated_jumps op d l (Some v) place value m n hp hv hl hd = the_same (and_quiet {xs = pointed_by l place} {ys = update_by op v} (pointed_jumps l place m hp hl) (update_by_jumps op v)) (omega (arith, hd v refl))
updated_jumps op d (Some l) None place value m n hp hv hl hd =
    the_same (and_quiet {ys = point_to l ++ update_by_value op} (hv d) (quiet_and {xs = point_to l} (point_jumps l) (update_by_value_jumps op))) (omega (arith, hl l refl))
updated_jumps op d None None place value m n hp hv hl hd =
    and_then hp (quiet_and {xs = save d} (exactly refl) (and_quiet {ys = restore C d ++ update_by_value op} (hv (suc d)) (quiet_and {xs = restore C d} (exactly refl) (update_by_value_jumps op))))

pub assignment_jumps : (op : Option BinOp) (d : ℕ) (l : Option Location) (v : Option Direct) (place : List Op) (value : ℕ → List Op) (m n : ℕ)
    → HasJumps place m → ((i : ℕ) → HasJumps (value i) n) → ((x : Location) → l ≡ Some x → m ≡ 0) → ((u : Direct) → v ≡ Some u → n ≡ 0) → HasJumps (assignment_code op d l v place value) (m + n)
assignment_jumps None d l v place value m n hp hv hl hd = assigned_jumps d l v place value m n hp hv hl hd
assignment_jumps (Some op) d l v place value m n hp hv hl hd = updated_jumps op d l v place value m n hp hv hl hd

-- ---- choices and calls

pub choice_jumps : (k s m n : ℕ) (test : ℕ → List Op) (one other : List Op) → ((i : ℕ) → HasJumps (test i) s) → HasJumps one m → HasJumps other n → HasJumps (choice_code k s m n test one other) (s + m + n + 2)
choice_jumps k s m n test one other ht ho hx =
    let rest = jump_and {o = Jump (constant (k + s + m + n + 2))} refl (and_then {n = 1} hx (exactly refl)) in
    the_same (and_then (ht (k + s + m + 1)) (and_then ho rest)) (omega arith)

pub callee_jumps : (c : Callee) (d back : ℕ) (w : Linking) (pointer argument arguments : List Op) (n : ℕ) → HasJumps pointer 0 → HasJumps argument n → HasJumps arguments n
    → HasJumps (callee_code d back w c pointer argument arguments) (n + 1)
callee_jumps (ByName name ts) d back w pointer argument arguments n hp ha hs = and_then {n = 1} hs (exactly refl)
callee_jumps (Known name ts) d back w pointer argument arguments n hp ha hs = and_then {n = 1} ha (quiet_and {xs = built_in_code name} (built_in_jumps name) (exactly refl))
callee_jumps Format d back w pointer argument arguments n hp ha hs = and_then {n = 1} ha (exactly refl)
callee_jumps (Through ts) d back w pointer argument arguments n hp ha hs = quiet_and hp (quiet_and {xs = save d} (exactly refl) (and_then {n = 1} hs (exactly refl)))

pub through_jumps : (ts : _) (d back : ℕ) (w : Linking) (pointer argument arguments : List Op) (m n : ℕ) → HasJumps pointer m → HasJumps arguments n
    → HasJumps (callee_code d back w (Through ts) pointer argument arguments) (m + n + 1)
through_jumps ts d back w pointer argument arguments m n hp hs = the_same (and_then hp (quiet_and {xs = save d} (exactly refl) (and_then {n = 1} hs (exactly refl)))) (omega arith)
