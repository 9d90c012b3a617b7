-- Worked rows: what the definitions say of small modules and small bodies.
use Rattle.std.proofs.Common.{◌≡◌, inl, inr, ℕ, zero, suc, ◌<◌, Bool, true, false, List, [], ◌∷◌, ◌++◌, map, Option, Some, None, pos, refl, arith}
use Rattle.wasm_bin.specs.declared.module.FuncType.{FuncType}
use Rattle.wasm_bin.specs.declared.module.Module.{Module}
use Rattle.wasm_bin.specs.declared.module.Instr.{Instr}
use Rattle.wasm_bin.specs.declared.module.Instr.TheVariants.{Unreachable, Nop, Block, Loop, If, Else, End, Br, BrIf, BrTable, Return, Call, Drop, Select, LocalGet, LocalTee, GlobalGet, GlobalSet, Load, Load8U, Load16S, MemorySize, Const, Add}
use Rattle.wasm_valid.specs.declared.fault.ValidFault.TheVariants.{Invalid}
use Rattle.wasm_valid.specs.Context.{Context, context_of}
use Rattle.wasm_valid.specs.Effects.{effect_of, numeric_effect}
use Rattle.wasm_valid.specs.Nesting.{Nothing, Single, InLoop, InIfElse}
use Rattle.wasm_valid.specs.Typing.{IsTypedExpression}
use Rattle.wasm_valid.specs.Checking.{accepts, shape_of}
use Rattle.wasm_valid.specs.Rules.{have_few_results, have_types, is_memory, is_start, is_there, IsTypedAt, FollowsRules, IsValid, IsRefused}
use Rattle.wasm_valid.proofs.Deciding.{answered}

-- the instructions and an end are typed, or not
abbrev Judged : Context → List Instr → Bool → Type 0
Judged c code true = IsTypedExpression c (code ++ End ∷ [])
Judged c code false = IsTypedExpression c (code ++ End ∷ []) → ⊥

-- the same of each of these, in turn
abbrev AreJudged : Context → List (List Instr × Bool) → Type 0
AreJudged c [] = Unit {0}
AreJudged c (row ∷ rows) = Judged c row.0 row.1 × AreJudged c rows

judged : (c : Context) (code : List Instr) (right : Bool) → right ≡ accepts c code → Judged c code right
judged c code true e = answered c code (code ++ End ∷ []) refl true e
judged c code false e = answered c code (code ++ End ∷ []) refl false e

right_of : (x y : Bool) (xs ys : List Bool) → x ∷ xs ≡ y ∷ ys → (x ≡ y) × (xs ≡ ys)
right_of x y xs ys e = (cc, cc)

each_judged : (c : Context) (rows : List (List Instr × Bool)) → map (λ row. row.1) rows ≡ map (λ row. accepts c row.0) rows → AreJudged c rows
each_judged c [] e = tt
each_judged c (row ∷ rows) e =
    let parts = right_of row.1 (accepts c row.0) (map (λ row. row.1) rows) (map (λ row. accepts c row.0) rows) e in
    (judged c row.0 row.1 parts.0, each_judged c rows parts.1)

-- each body is typed or not, as it says
pub record Verdicts (c : Context) (rows : List (List Instr × Bool)) : Type 0 where
  pub each : AreJudged c rows

verdicts : {c : Context} {rows : List (List Instr × Bool)} → map (λ row. row.1) rows ≡ map (λ row. accepts c row.0) rows → Verdicts c rows
verdicts {c} {rows} e = record { each = each_judged c rows e }

-- one function, which takes two values and gives one
abbrev functions : ℕ → Option FuncType
functions zero = Some (record { params = 2; results = 1 })
functions (suc k) = None

-- with that function, a memory, a constant global and a variable one, and two locals
abbrev context : ℕ → Context
context results = record {
  functions = functions;
  memory = Some (record { min = 1; max = None });
  globals = record { mutable = false; first = pos 0 } ∷ record { mutable = true; first = pos 0 } ∷ [];
  locals = 2;
  results = results;
}

abbrev bare : Context
bare = record { functions = functions; memory = None; globals = []; locals = 0; results = 0 }

-- two values give one by an addition; one value is too few, and a value that is left over is too many
pub row_counts : Verdicts (context 1) (
    ((Const (pos 1) ∷ Const (pos 2) ∷ Add ∷ []), true)
    ∷ ((Const (pos 1) ∷ Add ∷ []), false)
    ∷ ((Const (pos 1) ∷ Const (pos 2) ∷ []), false)
    ∷ ([], false)
    ∷ [])
unfolding effect_of numeric_effect shape_of
row_counts = verdicts refl

-- behind what never goes on any values are there, and what comes then is typed as ever
pub row_unreachable : Verdicts (context 1) (
    ((Unreachable ∷ Add ∷ []), true)
    ∷ ((Unreachable ∷ []), true)
    ∷ ((Const (pos 1) ∷ Return ∷ Drop ∷ Drop ∷ []), true)
    ∷ ((Unreachable ∷ Const (pos 1) ∷ Const (pos 2) ∷ []), false)
    ∷ ((Return ∷ []), false)
    ∷ [])
unfolding effect_of numeric_effect shape_of
row_unreachable = verdicts refl

-- an if with a value has an else; one without a value needs none
pub row_if : Verdicts (context 1) (
    ((Const (pos 1) ∷ If true ∷ Const (pos 2) ∷ Else ∷ Const (pos 3) ∷ End ∷ []), true)
    ∷ ((Const (pos 1) ∷ If true ∷ Const (pos 2) ∷ End ∷ []), false)
    ∷ ((Const (pos 1) ∷ Const (pos 1) ∷ If false ∷ Nop ∷ End ∷ []), true)
    ∷ ((If false ∷ Nop ∷ End ∷ Const (pos 1) ∷ []), false)
    ∷ ((Const (pos 1) ∷ If true ∷ Const (pos 2) ∷ Else ∷ End ∷ []), false)
    ∷ [])
unfolding effect_of numeric_effect shape_of
row_if = verdicts refl

-- a branch to a block takes the block's value, one to a loop takes none, and one that may not be taken leaves the value
pub row_branches : Verdicts (context 1) (
    ((Block true ∷ Br 0 ∷ End ∷ []), false)
    ∷ ((Block true ∷ Const (pos 1) ∷ Br 0 ∷ End ∷ []), true)
    ∷ ((Loop true ∷ Br 0 ∷ End ∷ []), true)
    ∷ ((Block true ∷ Const (pos 1) ∷ Const (pos 2) ∷ BrIf 0 ∷ End ∷ []), true)
    ∷ ((Block true ∷ Const (pos 1) ∷ BrIf 0 ∷ End ∷ []), false)
    ∷ ((Const (pos 1) ∷ Br 0 ∷ []), true)
    ∷ ((Const (pos 1) ∷ Br 1 ∷ []), false)
    ∷ [])
unfolding effect_of numeric_effect shape_of
row_branches = verdicts refl

-- all targets of a table take as many values as its last one
pub row_tables : Verdicts (context 1) (
    ((Block true ∷ Const (pos 1) ∷ Const (pos 2) ∷ BrTable ((0 ∷ 1 ∷ [])) 0 ∷ End ∷ []), true)
    ∷ ((Block false ∷ Const (pos 1) ∷ Const (pos 2) ∷ BrTable ((0 ∷ [])) 1 ∷ End ∷ Const (pos 1) ∷ []), false)
    ∷ ((Loop false ∷ Const (pos 2) ∷ BrTable ([]) 0 ∷ End ∷ Const (pos 1) ∷ []), true)
    ∷ [])
unfolding effect_of numeric_effect shape_of
row_tables = verdicts refl

-- a block doesn't reach the values beneath it, nor does it leave more than its own
pub row_blocks : Verdicts (context 1) (
    ((Const (pos 1) ∷ Block false ∷ Drop ∷ End ∷ Const (pos 1) ∷ []), false)
    ∷ ((Const (pos 1) ∷ Block false ∷ Nop ∷ End ∷ []), true)
    ∷ ((Block false ∷ Const (pos 1) ∷ End ∷ []), false)
    ∷ ((Block false ∷ Else ∷ End ∷ Const (pos 1) ∷ []), false)
    ∷ [])
unfolding effect_of numeric_effect shape_of
row_blocks = verdicts refl

-- an access is aligned to its size at most: 4, 2 and 1 bytes
pub row_accesses : Verdicts (context 1) (
    ((Const (pos 0) ∷ Load (record { align = 2; offset = 0 }) ∷ []), true)
    ∷ ((Const (pos 0) ∷ Load (record { align = 3; offset = 0 }) ∷ []), false)
    ∷ ((Const (pos 0) ∷ Load16S (record { align = 1; offset = 0 }) ∷ []), true)
    ∷ ((Const (pos 0) ∷ Load16S (record { align = 2; offset = 0 }) ∷ []), false)
    ∷ ((Const (pos 0) ∷ Load8U (record { align = 0; offset = 0 }) ∷ []), true)
    ∷ ((Const (pos 0) ∷ Load8U (record { align = 1; offset = 0 }) ∷ []), false)
    ∷ [])
unfolding effect_of numeric_effect shape_of
row_accesses = verdicts refl

-- without a memory there is no size of it, and without a global none is read
pub row_absent : Verdicts bare (
    ((MemorySize ∷ Drop ∷ []), false)
    ∷ ((GlobalGet 0 ∷ Drop ∷ []), false)
    ∷ ((Call 1 ∷ []), false)
    ∷ ((Nop ∷ []), true)
    ∷ [])
unfolding effect_of numeric_effect shape_of
row_absent = verdicts refl

-- the last local and one past it, a constant global that is written, a call, and a choice of two values
pub row_names : Verdicts (context 1) (
    ((LocalGet 1 ∷ []), true)
    ∷ ((LocalGet 2 ∷ []), false)
    ∷ ((Const (pos 1) ∷ LocalTee 1 ∷ []), true)
    ∷ ((GlobalGet 0 ∷ GlobalSet 1 ∷ GlobalGet 1 ∷ []), true)
    ∷ ((Const (pos 1) ∷ GlobalSet 0 ∷ GlobalGet 1 ∷ []), false)
    ∷ ((Const (pos 1) ∷ Const (pos 2) ∷ Call 0 ∷ []), true)
    ∷ ((Const (pos 1) ∷ Call 0 ∷ []), false)
    ∷ ((Const (pos 1) ∷ Const (pos 2) ∷ Const (pos 3) ∷ Select ∷ []), true)
    ∷ [])
unfolding effect_of numeric_effect shape_of
row_names = verdicts refl

-- by hand: a loop within the arms of an if, as the rules type it
pub row_by_hand : IsTypedExpression (context 1) (Const (pos 1) ∷ If true ∷ Loop true ∷ Const (pos 2) ∷ End ∷ Else ∷ Unreachable ∷ End ∷ End ∷ [])
unfolding effect_of numeric_effect
row_by_hand = (
  Single (Const (pos 1)) (InIfElse true (InLoop true (Single (Const (pos 2)) Nothing) Nothing) (Single Unreachable Nothing) Nothing),
  refl,
  (1, (0, refl, refl), (0, refl, ((1, (0, refl, refl), refl), refl), (1, omega arith, refl), refl)),
)

-- `env`
abbrev pub env : List ℕ
env = 0x65 ∷ 0x6E ∷ 0x76 ∷ []

-- `putchar`
abbrev pub putchar : List ℕ
putchar = 0x70 ∷ 0x75 ∷ 0x74 ∷ 0x63 ∷ 0x68 ∷ 0x61 ∷ 0x72 ∷ []

-- `main`
abbrev pub main : List ℕ
main = 0x6D ∷ 0x61 ∷ 0x69 ∷ 0x6E ∷ []

-- a module that imports putchar, with this code as its function `main`
abbrev pub with_main : List Instr → Module
with_main code = record {
  types = (record { params = 0; results = 0 } ∷ record { params = 1; results = 0 } ∷ []);
  imports = (record { «module» = env; name = putchar; kind = 1 } ∷ []);
  funcs = (0 ∷ []);
  memory = None;
  globals = [];
  exports = (record { name = main; sort = 0; index = 1 } ∷ []);
  start = None;
  bodies = (record { locals = 0; code = code } ∷ []);
  segments = [];
}

one_name : (i j : ℕ) → i < j → j < 1 → ⊥
one_name i j h k = absurd (omega arith)

rules_of : (code : List Instr) → FollowsRules (with_main code)
rules_of code = record { results = refl; types = refl; bodies = refl; memory = refl; exports = refl; names = λ i j d h k. absurd (one_name i j h k); start = refl; segments = refl }

writes_typed : (k : ℕ) → k < 1 → IsTypedAt (with_main (Const (pos 72) ∷ Call 0 ∷ End ∷ [])) k
unfolding effect_of numeric_effect
writes_typed zero lt = (Single (Const (pos 72)) (Single (Call 0) Nothing), refl, (1, (0, refl, refl), (0, (0, refl, refl), refl)))
writes_typed (suc k) lt = absurd (omega arith)

-- the module that writes `H` is valid
pub row_valid : IsValid (with_main (Const (pos 72) ∷ Call 0 ∷ End ∷ []))
row_valid = record { rules = rules_of (Const (pos 72) ∷ Call 0 ∷ End ∷ []); typed = writes_typed }

-- with nops in the place of the constant there is no value for the call: the first body, number 0, is not typed
pub row_invalid : IsRefused (with_main (Nop ∷ Nop ∷ Nop ∷ Call 0 ∷ End ∷ [])) (Invalid 0)
unfolding effect_of numeric_effect shape_of
row_invalid =
    let m = with_main (Nop ∷ Nop ∷ Nop ∷ Call 0 ∷ End ∷ []) in
    inr (
      rules_of (Nop ∷ Nop ∷ Nop ∷ Call 0 ∷ End ∷ []),
      record {
        there = omega arith;
        typed = λ j h. absurd (omega arith);
        untyped = judged (context_of m 0 0) (Nop ∷ Nop ∷ Nop ∷ Call 0 ∷ []) false refl;
      },
    )

-- two exports of one name break the rules, which has the number of the bodies
pub row_same_names : IsRefused (record (with_main (End ∷ [])) { exports = (record { name = main; sort = 0; index = 0 } ∷ record { name = main; sort = 0; index = 1 } ∷ []) }) (Invalid 1)
row_same_names = inl (λ rules. rules.names 0 1 (record { name = main; sort = 0; index = 0 }) (omega arith) (omega arith) refl, refl)

-- no memory; one that may not grow; more at the start than in the end; the largest, and one page past it
pub row_memories : map is_memory (None ∷ Some (record { min = 1; max = Some 1 }) ∷ Some (record { min = 2; max = Some 1 }) ∷ Some (record { min = 0; max = Some 65536 }) ∷ Some (record { min = 0; max = Some 65537 }) ∷ []) ≡ true ∷ true ∷ false ∷ true ∷ false ∷ []
row_memories = refl

-- what runs first: nothing, a function that takes a value, one of type [] to [], and one that is not there
pub row_starts : map (is_start (with_main (End ∷ []))) (None ∷ Some 0 ∷ Some 1 ∷ Some 2 ∷ []) ≡ true ∷ false ∷ true ∷ false ∷ []
row_starts = refl

-- what is shown: a function of the host, the own one, one past it, a memory and a global that are not there
pub row_exports : map (λ (e : ℕ × ℕ). is_there (with_main (End ∷ [])) e.0 e.1) ((0, 0) ∷ (0, 1) ∷ (0, 2) ∷ (2, 0) ∷ (3, 0) ∷ []) ≡ true ∷ true ∷ false ∷ false ∷ false ∷ []
row_exports = refl

-- a type of two results breaks the rules, also where no function has it, and so does a function whose type is not there
pub row_types : (have_few_results (record (with_main (End ∷ [])) { types = (record { params = 0; results = 0 } ∷ record { params = 1; results = 0 } ∷ record { params = 0; results = 2 } ∷ []) }) ≡ false)
    × (have_types (record (with_main (End ∷ [])) { funcs = (2 ∷ []) }) ≡ false)
row_types = (refl, refl)
