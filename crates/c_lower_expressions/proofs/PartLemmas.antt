-- The code of an expression, by its parts.
use Rattle.std.proofs.Common.{◌≡◌, ℕ, zero, suc, ◌+◌, Bool, true, false, not, List, [], ◌∷◌, ◌++◌, refl, sym, ap, subst, ◌∙◌, append_assoc, append-nil, arith, if◌then◌else◌}
use Rattle.std.specs.Prelude.{Option, Some, None}
use Rattle.eir_core.specs.declared.ops.Reg.TheVariants.{A}
use Rattle.eir_core.specs.declared.ops.Cond.{Cond}
use Rattle.eir_core.specs.declared.ops.Op.{Op}
use Rattle.c_syntax.specs.Plain as tree
use Rattle.c_syntax.specs.Plain.{CExpr, CExprs}
use Rattle.c_syntax.specs.declared.tree.UnOp.{UnOp}
use Rattle.c_syntax.specs.declared.tree.UnOp.TheVariants as unary
use Rattle.c_syntax.specs.declared.tree.BinOp.{BinOp}
use Rattle.c_syntax.specs.declared.tree.BinOp.TheVariants as binary
use Rattle.c_types.specs.Types.{CType}
use Rattle.c_eval.specs.Environment.{Environment, past, type_in, value_type_in, member_offset}
use Rattle.c_lowered.specs.Locations as plain
use Rattle.c_lowered.specs.Locations.{Linking, direct}
use Rattle.c_lowered.specs.Operations.{Operands, load_to, loaded, direct_or, fetched, moved_on, truth_word, junction, operator_code, comparison_of, comparable, jump_where, compared, save, restore}
use Rattle.c_lowered.specs.Counts.{binary_jumps, binary_truth_jumps, expr_jumps, exprs_jumps}
use Rattle.c_lowered.specs.Expressions.{value_code, place_code, unary_code, binary_code, binary_truth, comparison_truth, tested, argument_code, arguments_code}
use Rattle.c_applied.specs.Pieces.{takes_place, after_code, junction_of, aimed, bare, operated, are_several, waited}
use Rattle.c_lower_expressions.specs.Parts.{given_code}

some_is : {X : Type 0} (a b : X) → Some a ≡ Some b → a ≡ b
some_is a b e = cc

-- a value that needs no evaluation is loaded
pub direct_code : (e : CExpr) (w : Linking) (here : Environment) (k d : ℕ) (x : plain.Direct) → direct e w here ≡ Some x → value_code e w here k d ≡ load_to A x
direct_code (tree.Number at n unsigned) w here k d x h = ap loaded h
direct_code (tree.Str at text) w here k d x h = ap loaded h
direct_code (tree.Null at) w here k d x h = ap loaded h
direct_code (tree.Var at name) w here k d x h = ap loaded h
direct_code (tree.Unary at op a) w here k d x h = ap (λ (o : Option plain.Direct). direct_or o (unary_code op (value_type_in here.scope a) (value_code a w here k d) (place_code a w here k d (value_code a w here k d)))) h
direct_code (tree.Cast at t a) w here k d x h = direct_code a w here k d x h
direct_code (tree.SizeTy at t) w here k d x h = ap loaded h
direct_code (tree.SizeOf at a) w here k d x h = ap loaded h
direct_code (tree.Member at a m) w here k d x h = ap (λ (o : Option plain.Direct). direct_or o (place_code a w here k d (value_code a w here k d) ++ (moved_on (member_offset here.scope.tags (type_in here.scope a) m) ++ fetched (type_in here.scope (tree.Member at a m))))) h
direct_code _ w here k d x h = absurd cc

-- ---- operators on one side

pub place_taken : (op : UnOp) (t : CType) (value place : List Op) → takes_place op ≡ true → unary_code op t value place ≡ place
place_taken unary.Address t value place h = refl
place_taken _ t value place h = absurd cc

pub value_taken : (op : UnOp) (t : CType) (value place : List Op) → takes_place op ≡ false → unary_code op t value place ≡ value ++ after_code op t
value_taken unary.Address t value place h = absurd cc
value_taken unary.Deref t value place h = refl
value_taken unary.Not t value place h = refl
value_taken unary.Minus t value place h = refl
value_taken unary.Plus t value place h = sym (append-nil value)
value_taken unary.Invert t value place h = sym (append-nil value)

-- ---- operators on two sides

pub junction_value : (op : BinOp) (decides signed : Bool) (k s t m n : ℕ) (a b : Bool → ℕ → List Op) (p : Operands) → junction_of op ≡ Some decides
    → (binary_code op signed k s t a b p ≡ truth_word k (s + t) (λ target. junction decides false target (k + s + t) a b)) × (binary_jumps op s t m n ≡ s + t + 2)
junction_value binary.And decides signed k s t m n a b p h = (ap (λ (d : Bool). truth_word k (s + t) (λ target. junction d false target (k + s + t) a b)) (some_is false decides h), refl)
junction_value binary.Or decides signed k s t m n a b p h = (ap (λ (d : Bool). truth_word k (s + t) (λ target. junction d false target (k + s + t) a b)) (some_is true decides h), refl)
junction_value _ decides signed k s t m n a b p h = absurd cc

pub operation_value : (op : BinOp) (signed : Bool) (k s t m n : ℕ) (a b : Bool → ℕ → List Op) (p : Operands) → junction_of op ≡ None
    → (binary_code op signed k s t a b p ≡ operator_code op signed p) × (binary_jumps op s t m n ≡ m + n)
operation_value binary.And signed k s t m n a b p h = absurd cc
operation_value binary.Or signed k s t m n a b p h = absurd cc
operation_value _ signed k s t m n a b p h = (refl, refl)

pub junction_truth : (op : BinOp) (decides signed holds : Bool) (target end s t m n : ℕ) (a b : Bool → ℕ → List Op) (p : Operands) (value : List Op) → junction_of op ≡ Some decides
    → (binary_truth op signed holds target end a b p value ≡ junction decides holds target end a b) × (binary_truth_jumps op s t m n ≡ s + t)
junction_truth binary.And decides signed holds target end s t m n a b p value h = (ap (λ (d : Bool). junction d holds target end a b) (some_is false decides h), refl)
junction_truth binary.Or decides signed holds target end s t m n a b p value h = (ap (λ (d : Bool). junction d holds target end a b) (some_is true decides h), refl)
junction_truth _ decides signed holds target end s t m n a b p value h = absurd cc

pub comparison_truth_is : (op : BinOp) (test : Option Cond) (signed holds : Bool) (target end s t m n : ℕ) (a b : Bool → ℕ → List Op) (p : Operands) (value : List Op) → junction_of op ≡ None
    → (binary_truth op signed holds target end a b p value ≡ comparison_truth (comparison_of op) holds target (comparable signed p) value) × (binary_truth_jumps op s t m n ≡ m + n + 1)
comparison_truth_is binary.And test signed holds target end s t m n a b p value h = absurd cc
comparison_truth_is binary.Or test signed holds target end s t m n a b p value h = absurd cc
comparison_truth_is _ test signed holds target end s t m n a b p value h = (refl, refl)

-- where the left side decides
pub junction_is : (decides holds : Bool) (target end : ℕ) (a b : Bool → ℕ → List Op) → a decides (aimed decides holds target end) ++ b holds target ≡ junction decides holds target end a b
junction_is true true target end a b = refl
junction_is true false target end a b = refl
junction_is false true target end a b = refl
junction_is false false target end a b = refl

-- ---- arguments

pub all_wait : (es : CExprs) (w : Linking) (here : Environment) (k d : ℕ) → given_code true es w here k d ≡ arguments_code es w here k d
all_wait tree.NoExpr w here k d = refl
all_wait (tree.MoreExpr e es) w here k d = ap (λ (l : List Op). value_code e w here k d ++ (save d ++ l)) (all_wait es w (past e here) (k + expr_jumps e) (suc d))

restored : Bool → ℕ → List Op
restored b d = if b then restore A d else []

pub argument_is : (es : CExprs) (w : Linking) (here : Environment) (k d : ℕ) → given_code (are_several es) es w here k d ++ (if are_several es then restore A d else []) ≡ argument_code es w here k d
argument_is tree.NoExpr w here k d = refl
argument_is (tree.MoreExpr e tree.NoExpr) w here k d = append-nil _ ∙ append-nil (value_code e w here k d)
argument_is (tree.MoreExpr e (tree.MoreExpr f es)) w here k d =
    append_assoc (value_code e w here k d) (save d ++ given_code true (tree.MoreExpr f es) w (past e here) (k + expr_jumps e) (suc d)) (restore A d)
    ∙ ap (λ (l : List Op). value_code e w here k d ++ l)
    (append_assoc (save d) (given_code true (tree.MoreExpr f es) w (past e here) (k + expr_jumps e) (suc d)) (restore A d)
    ∙ ap (λ (l : List Op). save d ++ (l ++ restore A d)) (all_wait (tree.MoreExpr f es) w (past e here) (k + expr_jumps e) (suc d)))
