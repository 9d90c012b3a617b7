-- Code with the literals of its parts.
use Rattle.std.proofs.Common.{◌≡◌, ℕ, ◌+◌, Bool, true, false, List, [], ◌∷◌, ◌++◌, length, length-append, append_assoc, append-nil, refl, sym, ap, subst, ◌∙◌, arith}
use Rattle.std.specs.Prelude.{Option, Some, None}
use Rattle.eir_core.specs.declared.ops.Op.{Op}
use Rattle.eir_core.specs.declared.ops.Op.TheVariants.{Mov}
use Rattle.eir_core.specs.declared.ops.Reg.{Reg}
use Rattle.eir_core.specs.declared.ops.Reg.TheVariants.{A, C}
use Rattle.eir_core.specs.declared.ops.Operand.{Operand}
use Rattle.eir_core.specs.declared.ops.Operand.TheVariants.{Reg as register}
use Rattle.eir_core.specs.declared.ops.Cond.{Cond}
use Rattle.eir_core.specs.declared.ops.Cond.TheVariants as eir
use Rattle.c_syntax.specs.declared.tree.BinOp.{BinOp}
use Rattle.c_syntax.specs.declared.tree.BinOp.TheVariants as binary
use Rattle.c_lowered.specs.Locations as plain
use Rattle.c_syntax.specs.Plain.{CExpr}
use Rattle.c_eval.specs.Environment.{Environment, past}
use Rattle.c_eval.specs.LiteralsIn.{literals_in}
use Rattle.c_lowered.specs.Locations.{Linking, direct, is_quiet}
use Rattle.c_lowered.specs.Operations.{Operands, direct_or, operands, operator_code, comparison_code, comparable, jump_where, update_by, lift, lift_operand, lifted_operand}
use Rattle.c_lowered.specs.Counts.{expr_jumps, binary_jumps}
use Rattle.c_lowered.specs.Expressions.{value_code, assigned_code, updated_code}
use Rattle.c_applied.specs.Pieces.{operated, bare, junction_of}
use Rattle.c_addressing.specs.declared.here.Output.{Output}
use Rattle.c_addressing.specs.Here.{Emits}
use Rattle.c_applied.specs.Leads.{Leads, MayLead, literal_count}
use Rattle.c_applied.proofs.LeadsLemmas.{leads_then, literals_lead, with_count, at_block, piece_then, then_piece, as_count}
use Rattle.c_addressing.proofs.HereLemmas.{both}
use Rattle.c_lower_expressions.specs.declared.expressions.Sides.{Sides}
use Rattle.c_lower_expressions.specs.Adds.{Readies}
use Rattle.c_lower_expressions.specs.Parts.{second_side, right_code, stored_code, changed_code}

pub some_direct : {a b : Output} {n k : ℕ} (t : ℕ) (d : Option plain.Direct) (ops : List Op) → MayLead a b (Some t) d n k → Leads a b (direct_or d ops) n t k
some_direct t (Some v) ops h = h
some_direct t None ops h = absurd h

pub none_direct : {a b : Output} (n k : ℕ) (d : Option plain.Direct) → MayLead a b None d n k → (d ≡ None) × Emits a b [] 0
none_direct n k None h = (refl, h)
none_direct n k (Some v) h = absurd h

-- with the literals of both pieces
pub leads_two : {a b c : Output} {is js : List Op} {t k u l : ℕ} (xs ys : List (List ℕ)) → Leads a b is (length xs) t k → Leads b c js (length ys) u l → Leads a c (is ++ js) (length (xs ++ ys)) u l
leads_two xs ys f g = with_count (sym (length-append xs ys)) (leads_then f g)

pub literals_two : {a b c : Output} {is : List Op} {t k : ℕ} (xs ys : List (List ℕ)) → Emits a b [] (length xs) → Leads b c is (length ys) t k → Leads a c is (length (xs ++ ys)) t k
literals_two xs ys e f = with_count (sym (length-append xs ys)) (literals_lead e f)

pub one_more : (m x : ℕ) → m + x + 1 ≡ m + (x + 1)
one_more m x = omega arith

pub then_more : (m x y : ℕ) → m + x + y ≡ m + (x + y)
then_more m x y = omega arith

-- the second operand behind the code of the first
pub second_behind : {x y z : Output} {t k : ℕ} {told : Sides} (a b : CExpr) (w : Linking) (here : Environment) (m n : ℕ) → Leads x y (value_code a w here m n) (literal_count here.scope a) t k
    → Readies y z (second_side n (direct b w (past a here)) [] (right_code a b w here m)) (literal_count here.scope b) told (m + expr_jumps a + expr_jumps b)
    → Readies x z (operands n (is_quiet b) None (direct b w (past a here)) (value_code a w here m n) (right_code a b w here m)) (length (literals_in here.scope a ++ literals_in here.scope b)) told (m + (expr_jumps a + expr_jumps b))
second_behind {x} {y} {z} {t} {k} {told} a b w here m n f h = by (direct b w (past a here)) h where
  by : (d : Option plain.Direct) → Readies y z (second_side n d [] (right_code a b w here m)) (literal_count here.scope b) told (m + expr_jumps a + expr_jumps b)
      → Readies x z (operands n (is_quiet b) None d (value_code a w here m n) (right_code a b w here m)) (length (literals_in here.scope a ++ literals_in here.scope b)) told (m + (expr_jumps a + expr_jumps b))
  by None h = record { leads = at_block (then_more m (expr_jumps a) (expr_jumps b)) (leads_two (literals_in here.scope a) (literals_in here.scope b) f h.leads); first = h.first; second = h.second }
  by (Some v) h = record { leads = at_block (then_more m (expr_jumps a) (expr_jumps b)) (leads_two (literals_in here.scope a) (literals_in here.scope b) f h.leads); first = h.first; second = h.second }

pub three_more : (m x : ℕ) → m + (x + 2 + 1) ≡ m + (x + 3)
three_more m x = omega arith

pub two_more : (m j : ℕ) → m + j + 1 + 1 ≡ m + j + 2
two_more m j = omega arith

pub two_jumps : (m j : ℕ) → m + j + 1 + 1 ≡ m + (j + 2)
two_jumps m j = omega arith

pub assigned_behind : (d : ℕ) (v : Option plain.Direct) (place : List Op) (value : ℕ → List Op) → place ++ stored_code d v value ≡ assigned_code d None v place value
assigned_behind d (Some v) place value = refl
assigned_behind d None place value = refl

pub updated_behind : (op : BinOp) (d : ℕ) (v : Option plain.Direct) (place : List Op) (value : ℕ → List Op) → place ++ changed_code op d v value ≡ updated_code op d None v place value
updated_behind op d (Some v) place value = sym (append_assoc place (Mov C (register A) ∷ []) (update_by op v))
updated_behind op d None place value = refl

pub spot_updated : (op : BinOp) (d : ℕ) (l : plain.Location) (v : Option plain.Direct) (one other : List Op) (value : ℕ → List Op) → updated_code op d (Some l) v one value ≡ updated_code op d (Some l) v other value
spot_updated op d l (Some v) one other value = refl
spot_updated op d l None one other value = refl

-- an operator behind its operands
compared_behind : (signed : Bool) (test : Option Cond) (p : Operands) → p.code ++ comparison_code test (comparable signed (bare p.first p.second)) ≡ comparison_code test (comparable signed p)
compared_behind false (Some test) p = refl
compared_behind false None p = append-nil p.code
compared_behind true (Some test) p = sym (append_assoc p.code (lift p.first ++ lift_operand p.second) (comparison_code (Some test) (bare p.first (lifted_operand p.second))))
compared_behind true None p = refl

operator_behind : (op : BinOp) (signed : Bool) (p : Operands) → p.code ++ operated op signed p.first p.second ≡ operator_code op signed p
operator_behind binary.Add signed p = refl
operator_behind binary.Sub signed p = refl
operator_behind binary.Eq signed p = compared_behind signed (Some eir.Eq) p
operator_behind binary.Ne signed p = compared_behind signed (Some eir.Ne) p
operator_behind binary.Lt signed p = compared_behind signed (Some eir.Lt) p
operator_behind binary.Gt signed p = compared_behind signed (Some eir.Gt) p
operator_behind binary.Le signed p = compared_behind signed (Some eir.Le) p
operator_behind binary.Ge signed p = compared_behind signed (Some eir.Ge) p
operator_behind binary.Or signed p = compared_behind signed None p
operator_behind binary.And signed p = compared_behind signed None p
operator_behind binary.BitOr signed p = compared_behind signed None p
operator_behind binary.BitXor signed p = compared_behind signed None p
operator_behind binary.BitAnd signed p = compared_behind signed None p
operator_behind binary.Shl signed p = compared_behind signed None p
operator_behind binary.Shr signed p = compared_behind signed None p
operator_behind binary.Mul signed p = compared_behind signed None p
operator_behind binary.Div signed p = compared_behind signed None p
operator_behind binary.Mod signed p = compared_behind signed None p

pub operator_is : (op : BinOp) (told signed : Bool) (r : Reg) (v : Operand) (p : Operands) → told ≡ signed → r ≡ p.first → v ≡ p.second → p.code ++ operated op told r v ≡ operator_code op signed p
operator_is op told signed r v p e f h =
    ap (λ (b : Bool). p.code ++ operated op b r v) e ∙ (ap (λ (x : Reg). p.code ++ operated op signed x v) f ∙ (ap (λ (x : Operand). p.code ++ operated op signed p.first x) h ∙ operator_behind op signed p))

pub comparison_is : (holds : Bool) (t : ℕ) (test : Cond) (told signed : Bool) (r : Reg) (v : Operand) (p : Operands) → told ≡ signed → r ≡ p.first → v ≡ p.second
    → p.code ++ jump_where holds t test (comparable told (bare r v)) ≡ jump_where holds t test (comparable signed p)
comparison_is holds t test told signed r v p e f h =
    ap (λ (b : Bool). p.code ++ jump_where holds t test (comparable b (bare r v))) e ∙ (ap (λ (x : Reg). p.code ++ jump_where holds t test (comparable signed (bare x v))) f
    ∙ (ap (λ (x : Operand). p.code ++ jump_where holds t test (comparable signed (bare p.first x))) h ∙ by signed)) where
      by : (b : Bool) → p.code ++ jump_where holds t test (comparable b (bare p.first p.second)) ≡ jump_where holds t test (comparable b p)
      by false = refl
      by true = sym (append_assoc p.code (lift p.first ++ lift_operand p.second) (jump_where holds t test (bare p.first (lifted_operand p.second))))

pub choice_end : (m s x y : ℕ) → m + s + x + 1 + y + 1 ≡ m + s + x + y + 2
choice_end m s x y = omega arith

pub choice_block : (m s x y : ℕ) → m + s + x + y + 2 ≡ m + (s + x + y + 2)
choice_block m s x y = omega arith

pub call_block : (m f e : ℕ) → m + f + e + 1 ≡ m + (f + e + 1)
call_block m f e = omega arith

pub other_jumps : (op : BinOp) (m s t x y : ℕ) → junction_of op ≡ None → m + (binary_jumps op s t x y + 1) ≡ m + (x + y + 1)
other_jumps binary.And m s t x y h = absurd cc
other_jumps binary.Or m s t x y h = absurd cc
other_jumps _ m s t x y h = refl

pub three_literals : {o a b c d e : Output} {is js ks ls ms : List Op} (xs ys zs : List (List ℕ)) → Emits o a is (length xs) → Emits a b js (length ys) → Emits b c ks 0 → Emits c d ls (length zs) → Emits d e ms 0
    → Emits o e (is ++ (js ++ (ks ++ (ls ++ ms)))) (length (xs ++ (ys ++ zs)))
three_literals xs ys zs f one j other k =
    let tail = piece_then j (then_piece other k) in
    let both_sides = as_count (sym (length-append ys zs)) (both one tail) in
    as_count (sym (length-append xs (ys ++ zs))) (both f both_sides)
