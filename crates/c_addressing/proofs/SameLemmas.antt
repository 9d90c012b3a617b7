-- Pieces of code are the same where their numbers are the same modulo 2^24.
use Rattle.std.proofs.Common.{◌≡◌, ℕ, ◌+◌, ◌%◌, ◌^◌, ◌<◌, List, [], ◌∷◌, ◌++◌, refl, sym, ap, ◌∙◌, subst}
use Rattle.std.proofs.Props.{props}
use Rattle.std.specs.Prelude.{Bool, if◌then◌else◌}
use Rattle.word24.specs.declared.word.Word.{Word}
use Rattle.eir_core.specs.declared.ops.Reg.{Reg}
use Rattle.eir_core.specs.declared.ops.Reg.TheVariants.{A, B, C, BP}
use Rattle.eir_core.specs.declared.ops.Operand.{Operand}
use Rattle.eir_core.specs.declared.ops.Operand.TheVariants.{Reg as register, Imm}
use Rattle.eir_core.specs.declared.ops.Cond.{Cond}
use Rattle.eir_core.specs.declared.ops.Cond.TheVariants.{Eq, Ne}
use Rattle.eir_core.specs.declared.ops.Op.{Op}
use Rattle.eir_core.specs.declared.ops.Op.TheVariants.{Mov, Add, Sub, Load, Store, Jump, JumpIf}
use Rattle.c_syntax.specs.declared.tree.BinOp.{BinOp}
use Rattle.c_lowered.specs.Locations as plain
use Rattle.c_lowered.specs.Operations.{wrapped, constant, load_to, store_to, point_to, save, restore, ready, operand_of, opposite, jump_if_zero, call_at, call_through_at, step_by, update_by}
use Rattle.c_lowered.specs.Statements.{jump_to}
use Rattle.c_emission.specs.declared.location.Location.{Location}
use Rattle.c_emission.specs.declared.location.Location.TheVariants.{Fixed, Framed}
use Rattle.c_emission.specs.declared.location.Direct.{Direct}
use Rattle.c_emission.specs.declared.location.Direct.TheVariants.{Exactly, Address, Stored}
use Rattle.c_emission.specs.View.{location_of, direct_of}
use Rattle.c_counted.specs.Numbers.{IsNumber}
use Rattle.c_addressing.specs.Places.{IsLocation, IsDirect}

word : (n : ℕ) → n < 2 ^ 24 → Word
word n h = record { value = n; in_range = h }

small_once : (n : ℕ) → IsProp (n < 2 ^ 24)
small_once n = hlevel props

by_value : (n m : ℕ) → n ≡ m → (h : n < 2 ^ 24) (k : m < 2 ^ 24) → word n h ≡ word m k
by_value n m e h = subst (λ m. (k : m < 2 ^ 24) → word n h ≡ word m k) e (λ k. ap (word n) (small_once n h k))

-- a word is the one of its number
pub same_word : (v w : Word) → v.value ≡ w.value → v ≡ w
unfolding word
same_word v w e = by_value v.value w.value e v.in_range w.in_range

pub same_constant : (a n : ℕ) → IsNumber a n → constant a ≡ constant n
same_constant a n h = ap Imm (same_word (wrapped a) (wrapped n) h.same)

pub save_is : (a n : ℕ) → IsNumber a n → save a ≡ save n
save_is a n h = ap (λ (o : Operand). Mov C (register BP) ∷ Add C o ∷ Store A (register C) ∷ []) (same_constant a n h)

pub restore_is : (r : Reg) (a n : ℕ) → IsNumber a n → restore r a ≡ restore r n
restore_is r a n h = ap (λ (o : Operand). Mov r (register BP) ∷ Add r o ∷ Load r (register r) ∷ []) (same_constant a n h)

pub store_is : (l : Location) (p : plain.Location) → IsLocation l p → store_to (location_of l) ≡ store_to p
store_is (Fixed a) (plain.Fixed n) h = ap (λ (o : Operand). Store A o ∷ []) (same_constant a n h)
store_is (Framed a) (plain.Framed n) h = save_is a n h
store_is (Fixed a) (plain.Framed n) h = absurd h
store_is (Framed a) (plain.Fixed n) h = absurd h

pub point_is : (l : Location) (p : plain.Location) → IsLocation l p → point_to (location_of l) ≡ point_to p
point_is (Fixed a) (plain.Fixed n) h = ap (λ (o : Operand). Mov C o ∷ []) (same_constant a n h)
point_is (Framed a) (plain.Framed n) h = ap (λ (o : Operand). Mov C (register BP) ∷ Add C o ∷ []) (same_constant a n h)
point_is (Fixed a) (plain.Framed n) h = absurd h
point_is (Framed a) (plain.Fixed n) h = absurd h

stored_is : (r : Reg) (l : Location) (p : plain.Location) → IsLocation l p → load_to r (plain.Stored (location_of l)) ≡ load_to r (plain.Stored p)
stored_is r (Fixed a) (plain.Fixed n) h = ap (λ (o : Operand). Load r o ∷ []) (same_constant a n h)
stored_is r (Framed a) (plain.Framed n) h = restore_is r a n h
stored_is r (Fixed a) (plain.Framed n) h = absurd h
stored_is r (Framed a) (plain.Fixed n) h = absurd h

pub load_is : (r : Reg) (v : Direct) (x : plain.Direct) → IsDirect v x → load_to r (direct_of v) ≡ load_to r x
load_is r (Exactly a) (plain.Exactly n) h = ap (λ (o : Operand). Mov r o ∷ []) (same_constant a n h)
load_is r (Address a) (plain.Address n) h = ap (λ (o : Operand). Mov r (register BP) ∷ Add r o ∷ []) (same_constant a n h)
load_is r (Stored l) (plain.Stored p) h = stored_is r l p h
load_is r (Exactly a) (plain.Address n) h = absurd h
load_is r (Exactly a) (plain.Stored p) h = absurd h
load_is r (Address a) (plain.Exactly n) h = absurd h
load_is r (Address a) (plain.Stored p) h = absurd h
load_is r (Stored l) (plain.Exactly n) h = absurd h
load_is r (Stored l) (plain.Address n) h = absurd h

pub ready_is : (v : Direct) (x : plain.Direct) → IsDirect v x → ready (direct_of v) ≡ ready x
ready_is (Exactly a) (plain.Exactly n) h = refl
ready_is (Address a) (plain.Address n) h = load_is B (Address a) (plain.Address n) h
ready_is (Stored l) (plain.Stored p) h = load_is B (Stored l) (plain.Stored p) h
ready_is (Exactly a) (plain.Address n) h = absurd h
ready_is (Exactly a) (plain.Stored p) h = absurd h
ready_is (Address a) (plain.Exactly n) h = absurd h
ready_is (Address a) (plain.Stored p) h = absurd h
ready_is (Stored l) (plain.Exactly n) h = absurd h
ready_is (Stored l) (plain.Address n) h = absurd h

pub operand_is : (v : Direct) (x : plain.Direct) → IsDirect v x → operand_of (direct_of v) ≡ operand_of x
operand_is (Exactly a) (plain.Exactly n) h = same_constant a n h
operand_is (Address a) (plain.Address n) h = refl
operand_is (Stored l) (plain.Stored p) h = refl
operand_is (Exactly a) (plain.Address n) h = absurd h
operand_is (Exactly a) (plain.Stored p) h = absurd h
operand_is (Address a) (plain.Exactly n) h = absurd h
operand_is (Address a) (plain.Stored p) h = absurd h
operand_is (Stored l) (plain.Exactly n) h = absurd h
operand_is (Stored l) (plain.Address n) h = absurd h

pub jump_is : (a n : ℕ) → IsNumber a n → jump_to a ≡ jump_to n
jump_is a n h = ap (λ (o : Operand). Jump o ∷ []) (same_constant a n h)

pub jump_where_is : (holds : Bool) (a : ℕ) (test : Cond) (first : Reg) (second : Operand) (n : ℕ) → IsNumber a n
    → JumpIf (if holds then test else opposite test) (constant a) first second ∷ [] ≡ JumpIf (if holds then test else opposite test) (constant n) first second ∷ []
jump_where_is holds a test first second n h = ap (λ (o : Operand). JumpIf (if holds then test else opposite test) o first second ∷ []) (same_constant a n h)

pub jump_if_zero_is : (is_zero : Bool) (a n : ℕ) → IsNumber a n → jump_if_zero is_zero a ≡ jump_if_zero is_zero n
jump_if_zero_is is_zero a n h = ap (λ (o : Operand). JumpIf (if is_zero then Eq else Ne) o A (constant 0) ∷ []) (same_constant a n h)

abbrev call_code : Operand → Operand → Operand → List Op
call_code d back entry = Add BP d ∷ Mov A back ∷ Store A (register BP) ∷ Jump entry ∷ Sub BP d ∷ []

pub call_is : (d back entry m n k : ℕ) → IsNumber d m → IsNumber back n → IsNumber entry k → call_at d back entry ≡ call_at m n k
call_is d back entry m n k h i j =
    ap (λ (o : Operand). call_code o (constant back) (constant entry)) (same_constant d m h)
    ∙ (ap (λ (o : Operand). call_code (constant m) o (constant entry)) (same_constant back n i) ∙ ap (λ (o : Operand). call_code (constant m) (constant n) o) (same_constant entry k j))

abbrev through_code : Operand → Operand → List Op
through_code d back = Add BP d ∷ Load B (register BP) ∷ Mov A back ∷ Store A (register BP) ∷ Jump (register B) ∷ Sub BP d ∷ []

pub call_through_is : (d back m n : ℕ) → IsNumber d m → IsNumber back n → call_through_at d back ≡ call_through_at m n
call_through_is d back m n h i = ap (λ (o : Operand). through_code o (constant back)) (same_constant d m h) ∙ ap (λ (o : Operand). through_code (constant m) o) (same_constant back n i)

pub update_is : (op : BinOp) (v : Direct) (x : plain.Direct) → IsDirect v x → update_by op (direct_of v) ≡ update_by op x
update_is op v x h =
    ap (λ (code : List Op). Load A (register C) ∷ (code ++ step_by op A (operand_of (direct_of v)) ∷ Store A (register C) ∷ [])) (ready_is v x h)
    ∙ ap (λ (o : Operand). Load A (register C) ∷ (ready x ++ step_by op A o ∷ Store A (register C) ∷ [])) (operand_is v x h)
