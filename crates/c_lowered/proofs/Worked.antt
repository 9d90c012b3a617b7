-- Small texts, lowered and run.
use Rattle.std.proofs.Common.{◌≡◌, refl}
use Rattle.std.specs.Fmt.{digits}
use Rattle.std.specs.Option.{option_map, option_map_or}
use Rattle.std.specs.Prelude.{ℕ, zero, suc, ◌+◌, ◌-◌, ◌%◌, ◌^◌, Bool, true, false, nat_eq, nat_le, cond, List, [], ◌∷◌, ◌++◌, length, Option, Some, None, is_ok, if◌then◌else◌, codes}
use Rattle.word24.specs.Word.{sum_word, difference_word}
use Rattle.eir_core.specs.declared.ops.Op.{Op}
use Rattle.eir_core.specs.declared.ops.Op.TheVariants.{Mov, Add, Sub, Load, Store, Putc, Getc, Exit, Set as SetTo, Jump, JumpIf}
use Rattle.eir_core.specs.Eir.{is_jump}
use Rattle.eir_core.specs.Step.{Regs, reg_of, with_reg, value_of, holds}
use Rattle.c_syntax.specs.Plain.{Number, Str, Var, Unary, Step, Binary, Assign, Cond, Index, Call, Member, Arrow, exprs, CTy, Int, Unsigned, Char, Struct, Pointer, Array, ArrayOf, Func, tys, CValue, One, Many, values, CDecl, Block, Local, Do_expr, If, IfElse, While, Do, For, Return, Break, Continue, Switch, stmts, Label, Item, parts, CItem, StructItem, Object, Function, CUnit}
use Rattle.c_syntax.specs.declared.tree.UnOp.TheVariants as unary
use Rattle.c_syntax.specs.declared.tree.StepOp.TheVariants as step
use Rattle.c_syntax.specs.declared.tree.BinOp.TheVariants as binary
use Rattle.c_types.specs.Units.{unit_judged}
use Rattle.c_helpers.specs.Simple.{desugared}
use Rattle.c_helpers.specs.Cost.{unit_cost}
use Rattle.c_place.specs.Code.{jumps}
use Rattle.c_lowered.specs.Whole.{whole_code, data_words}

abbrev decl : List ℕ → CTy → Option CValue → CDecl
decl name t first = record { name = name; pos = 0; ty = t; first = first }

abbrev unit : List CItem → CUnit
unit items = record { items = items; end = 0 }

-- ---- a small machine: the rule's own reading of registers and words, with the memory as a list

record Small : Type 0 where
  regs : Regs
  words : List (ℕ × ℕ)
  input : List ℕ
  output : List ℕ

abbrev word_in : List (ℕ × ℕ) → ℕ → ℕ
word_in [] a = 0
word_in (entry ∷ more) a = if nat_eq entry.0 a then entry.1 else word_in more a

abbrev placed : ℕ → List ℕ → List (ℕ × ℕ)
placed a [] = []
placed a (n ∷ ns) = (a, n) ∷ placed (suc a) ns

abbrev first_of : List ℕ → ℕ
first_of [] = 0
first_of (c ∷ cs) = c

abbrev behind_first : List ℕ → List ℕ
behind_first [] = []
behind_first (c ∷ cs) = cs

abbrev made : Op → Small → Small
made (Mov r v) m = record m { regs = with_reg m.regs r (value_of m.regs v) }
made (Add r v) m = record m { regs = with_reg m.regs r (sum_word (reg_of m.regs r) (value_of m.regs v)) }
made (Sub r v) m = record m { regs = with_reg m.regs r (difference_word (reg_of m.regs r) (value_of m.regs v)) }
made (Load r v) m = record m { regs = with_reg m.regs r (word_in m.words (value_of m.regs v)) }
made (Store r v) m = record m { words = (value_of m.regs v, reg_of m.regs r) ∷ m.words }
made (SetTo test r v) m = record m { regs = with_reg m.regs r (cond (holds test (reg_of m.regs r) (value_of m.regs v)) 1 0) }
made (Putc v) m = record m { output = m.output ++ value_of m.regs v % 2 ^ 8 ∷ [] }
made (Getc r) m = record m { regs = with_reg m.regs r (first_of m.input); input = behind_first m.input }
made op m = m

-- the code from a block on
abbrev from_block : ℕ → List Op → List Op
from_block zero ops = ops
from_block (suc k) [] = []
from_block (suc k) (op ∷ ops) = if is_jump op then from_block k ops else from_block (suc k) ops

abbrev leads : List Op → Op → Small → List Op → List Op
leads all (Jump v) m rest = from_block (value_of m.regs v) all
leads all (JumpIf test v r w) m rest = if holds test (reg_of m.regs r) (value_of m.regs w) then from_block (value_of m.regs v) all else rest
leads all op m rest = rest

-- what is written when the run ends, within so many operations, and how many are left then
abbrev goes : ℕ → List Op → List Op → Small → Option (List ℕ × ℕ)
goes zero all rest m = None
goes (suc n) all [] m = None
goes (suc n) all (Exit ∷ rest) m = Some (m.output, n)
goes (suc n) all (op ∷ rest) m = goes n all (leads all op m rest) (made op m)

abbrev of_typed : Bool → Option (List ℕ × ℕ) → Option (List ℕ × ℕ)
of_typed true m = m
of_typed false m = None

-- the run of a typed text: its output, and how many operations are left
abbrev counted : ℕ → List ℕ → CUnit → Option (List ℕ × ℕ)
counted n input u =
    of_typed (is_ok (unit_judged u))
    (goes n (whole_code u) (whole_code u) (record { regs = record { a = 0; b = 0; c = 0; d = 0; sp = 0; bp = 0 }; words = placed 0 (data_words u); input = input; output = [] }))

abbrev ran : List ℕ → CUnit → Option (List ℕ)
ran input u = option_map (λ m. m.0) (counted 9000 input u)

-- with calls of helper functions
abbrev helped : List ℕ → CUnit → Option (List ℕ)
helped input u = ran input (desugared u)

-- how many operations a text takes
abbrev taken : CUnit → ℕ
taken u = option_map_or (λ m. 9000 - m.1) (counted 9000 [] u) 0

abbrev fits : CUnit → Bool
fits u = nat_le (length (whole_code u) + jumps (whole_code u) + length (data_words u)) (unit_cost u)

-- loops: while, do, for, break and continue
--     "6": int main(void){int i; int s; s=0; for(i=0;i<4;i++) s=s+i; putchar(48+s); return 0;}
--     "321ABC": int main(void){int i; i=3; while(i) {putchar(48+i); i--;} do putchar(65+i++); while(i<3); return 0;}
--     "023": int main(void){for(int i=0,j=5;;i++){ if(i==1) continue; if(i>j-2) break; putchar(48+i);} return 0;}
loops_row :
    ran [] (unit (Function (codes "main") 0 Int ([]) (Some (Block (stmts ((Local (decl (codes "i") Int None)) ∷ (Local (decl (codes "s") Int None)) ∷ (Do_expr (Assign 0 None (Var 0 (codes "s")) (Number 0 0 false))) ∷ (For (Do_expr (Assign 0 None (Var 0 (codes "i")) (Number 0 0 false))) (Some (Binary 0 binary.Lt (Var 0 (codes "i")) (Number 0 4 false))) (Some (Step 0 step.PostInc (Var 0 (codes "i")))) (Do_expr (Assign 0 None (Var 0 (codes "s")) (Binary 0 binary.Add (Var 0 (codes "s")) (Var 0 (codes "i")))))) ∷ (Do_expr (Call 0 (Var 0 (codes "putchar")) (exprs ((Binary 0 binary.Add (Number 0 48 false) (Var 0 (codes "s"))) ∷ [])))) ∷ (Return 0 (Some (Number 0 0 false))) ∷ [])))) ∷ []))
    ∷ ran [] (unit (Function (codes "main") 0 Int ([]) (Some (Block (stmts ((Local (decl (codes "i") Int None)) ∷ (Do_expr (Assign 0 None (Var 0 (codes "i")) (Number 0 3 false))) ∷ (While (Var 0 (codes "i")) (Block (stmts ((Do_expr (Call 0 (Var 0 (codes "putchar")) (exprs ((Binary 0 binary.Add (Number 0 48 false) (Var 0 (codes "i"))) ∷ [])))) ∷ (Do_expr (Step 0 step.PostDec (Var 0 (codes "i")))) ∷ [])))) ∷ (Do (Do_expr (Call 0 (Var 0 (codes "putchar")) (exprs ((Binary 0 binary.Add (Number 0 65 false) (Step 0 step.PostInc (Var 0 (codes "i")))) ∷ [])))) (Binary 0 binary.Lt (Var 0 (codes "i")) (Number 0 3 false))) ∷ (Return 0 (Some (Number 0 0 false))) ∷ [])))) ∷ []))
    ∷ ran [] (unit (Function (codes "main") 0 Int ([]) (Some (Block (stmts ((For (Block (stmts ((Local (decl (codes "i") Int (Some (One (Number 0 0 false))))) ∷ (Local (decl (codes "j") Int (Some (One (Number 0 5 false))))) ∷ []))) None (Some (Step 0 step.PostInc (Var 0 (codes "i")))) (Block (stmts ((If (Binary 0 binary.Eq (Var 0 (codes "i")) (Number 0 1 false)) (Continue 0)) ∷ (If (Binary 0 binary.Gt (Var 0 (codes "i")) (Binary 0 binary.Sub (Var 0 (codes "j")) (Number 0 2 false))) (Break 0)) ∷ (Do_expr (Call 0 (Var 0 (codes "putchar")) (exprs ((Binary 0 binary.Add (Number 0 48 false) (Var 0 (codes "i"))) ∷ [])))) ∷ [])))) ∷ (Return 0 (Some (Number 0 0 false))) ∷ [])))) ∷ []))
    ∷ []
    ≡ Some (codes "6") ∷ Some (codes "321ABC") ∷ Some (codes "023") ∷ []
loops_row = refl

-- order of ints and of unsigned numbers, and truth
--     "10111y": int main(void){int a; unsigned u; a=-3; u=a; putchar(48+(a<2)); putchar(48+(u<2)); putchar(48+(2>=a)); putchar(48+(a<=-3&&u>7u)); putchar(48+!(a>0||u==3)); putchar(a>-4?'y':'n'); return 0;}
--     "ad/": int main(void){int x; int y; x=5; y=7; if(x-y<0&&!(y<x)) putchar('a'); else putchar('b'); if(x==y||x!=5) putchar('c'); else putchar('d'); putchar(48+(x-(y-(x-4)))); return 0;}
order_row :
    ran [] (unit (Function (codes "main") 0 Int ([]) (Some (Block (stmts ((Local (decl (codes "a") Int None)) ∷ (Local (decl (codes "u") Unsigned None)) ∷ (Do_expr (Assign 0 None (Var 0 (codes "a")) (Unary 0 unary.Minus (Number 0 3 false)))) ∷ (Do_expr (Assign 0 None (Var 0 (codes "u")) (Var 0 (codes "a")))) ∷ (Do_expr (Call 0 (Var 0 (codes "putchar")) (exprs ((Binary 0 binary.Add (Number 0 48 false) (Binary 0 binary.Lt (Var 0 (codes "a")) (Number 0 2 false))) ∷ [])))) ∷ (Do_expr (Call 0 (Var 0 (codes "putchar")) (exprs ((Binary 0 binary.Add (Number 0 48 false) (Binary 0 binary.Lt (Var 0 (codes "u")) (Number 0 2 false))) ∷ [])))) ∷ (Do_expr (Call 0 (Var 0 (codes "putchar")) (exprs ((Binary 0 binary.Add (Number 0 48 false) (Binary 0 binary.Ge (Number 0 2 false) (Var 0 (codes "a")))) ∷ [])))) ∷ (Do_expr (Call 0 (Var 0 (codes "putchar")) (exprs ((Binary 0 binary.Add (Number 0 48 false) (Binary 0 binary.And (Binary 0 binary.Le (Var 0 (codes "a")) (Unary 0 unary.Minus (Number 0 3 false))) (Binary 0 binary.Gt (Var 0 (codes "u")) (Number 0 7 true)))) ∷ [])))) ∷ (Do_expr (Call 0 (Var 0 (codes "putchar")) (exprs ((Binary 0 binary.Add (Number 0 48 false) (Unary 0 unary.Not (Binary 0 binary.Or (Binary 0 binary.Gt (Var 0 (codes "a")) (Number 0 0 false)) (Binary 0 binary.Eq (Var 0 (codes "u")) (Number 0 3 false))))) ∷ [])))) ∷ (Do_expr (Call 0 (Var 0 (codes "putchar")) (exprs ((Cond 0 (Binary 0 binary.Gt (Var 0 (codes "a")) (Unary 0 unary.Minus (Number 0 4 false))) (Number 0 121 false) (Number 0 110 false)) ∷ [])))) ∷ (Return 0 (Some (Number 0 0 false))) ∷ [])))) ∷ []))
    ∷ ran [] (unit (Function (codes "main") 0 Int ([]) (Some (Block (stmts ((Local (decl (codes "x") Int None)) ∷ (Local (decl (codes "y") Int None)) ∷ (Do_expr (Assign 0 None (Var 0 (codes "x")) (Number 0 5 false))) ∷ (Do_expr (Assign 0 None (Var 0 (codes "y")) (Number 0 7 false))) ∷ (IfElse (Binary 0 binary.And (Binary 0 binary.Lt (Binary 0 binary.Sub (Var 0 (codes "x")) (Var 0 (codes "y"))) (Number 0 0 false)) (Unary 0 unary.Not (Binary 0 binary.Lt (Var 0 (codes "y")) (Var 0 (codes "x"))))) (Do_expr (Call 0 (Var 0 (codes "putchar")) (exprs ((Number 0 97 false) ∷ [])))) (Do_expr (Call 0 (Var 0 (codes "putchar")) (exprs ((Number 0 98 false) ∷ []))))) ∷ (IfElse (Binary 0 binary.Or (Binary 0 binary.Eq (Var 0 (codes "x")) (Var 0 (codes "y"))) (Binary 0 binary.Ne (Var 0 (codes "x")) (Number 0 5 false))) (Do_expr (Call 0 (Var 0 (codes "putchar")) (exprs ((Number 0 99 false) ∷ [])))) (Do_expr (Call 0 (Var 0 (codes "putchar")) (exprs ((Number 0 100 false) ∷ []))))) ∷ (Do_expr (Call 0 (Var 0 (codes "putchar")) (exprs ((Binary 0 binary.Add (Number 0 48 false) (Binary 0 binary.Sub (Var 0 (codes "x")) (Binary 0 binary.Sub (Var 0 (codes "y")) (Binary 0 binary.Sub (Var 0 (codes "x")) (Number 0 4 false))))) ∷ [])))) ∷ (Return 0 (Some (Number 0 0 false))) ∷ [])))) ∷ []))
    ∷ []
    ≡ Some (codes "10111y") ∷ Some (codes "ad/") ∷ []
order_row = refl

-- places: arrays, pointers, structs, steps and compound assignments
--     "EC1CCAC": int main(void){int a[3]; int *p; int i; for(i=0;i<3;i++) a[i]=65+i; p=a; a[1]+=3; p++; putchar(*p); putchar(p[1]); putchar(p-a+48); *p++-=2; putchar(a[1]); putchar(*p--); putchar(*--p); putchar(*&a[2]); return 0;}
--     "396017": struct s{int x; int y[2];}; struct s g={1,{2,3}}; int h; int n[2]={7,};int main(void){struct s l={4,{5}}; struct s *q; q=&l; q->y[1]=6; l.x+=l.y[0]; putchar(48+g.y[1]); putchar(48+q->x); putchar(48+(*q).y[1]); putchar(48+h); h=g.x; putchar(48+h); putchar(n[0]+n[1]+48); return 0;}
places_row :
    ran [] (unit (Function (codes "main") 0 Int ([]) (Some (Block (stmts ((Local (decl (codes "a") (ArrayOf Int (Number 0 3 false)) None)) ∷ (Local (decl (codes "p") (Pointer Int) None)) ∷ (Local (decl (codes "i") Int None)) ∷ (For (Do_expr (Assign 0 None (Var 0 (codes "i")) (Number 0 0 false))) (Some (Binary 0 binary.Lt (Var 0 (codes "i")) (Number 0 3 false))) (Some (Step 0 step.PostInc (Var 0 (codes "i")))) (Do_expr (Assign 0 None (Index 0 (Var 0 (codes "a")) (Var 0 (codes "i"))) (Binary 0 binary.Add (Number 0 65 false) (Var 0 (codes "i")))))) ∷ (Do_expr (Assign 0 None (Var 0 (codes "p")) (Var 0 (codes "a")))) ∷ (Do_expr (Assign 0 (Some binary.Add) (Index 0 (Var 0 (codes "a")) (Number 0 1 false)) (Number 0 3 false))) ∷ (Do_expr (Step 0 step.PostInc (Var 0 (codes "p")))) ∷ (Do_expr (Call 0 (Var 0 (codes "putchar")) (exprs ((Unary 0 unary.Deref (Var 0 (codes "p"))) ∷ [])))) ∷ (Do_expr (Call 0 (Var 0 (codes "putchar")) (exprs ((Index 0 (Var 0 (codes "p")) (Number 0 1 false)) ∷ [])))) ∷ (Do_expr (Call 0 (Var 0 (codes "putchar")) (exprs ((Binary 0 binary.Add (Binary 0 binary.Sub (Var 0 (codes "p")) (Var 0 (codes "a"))) (Number 0 48 false)) ∷ [])))) ∷ (Do_expr (Assign 0 (Some binary.Sub) (Unary 0 unary.Deref (Step 0 step.PostInc (Var 0 (codes "p")))) (Number 0 2 false))) ∷ (Do_expr (Call 0 (Var 0 (codes "putchar")) (exprs ((Index 0 (Var 0 (codes "a")) (Number 0 1 false)) ∷ [])))) ∷ (Do_expr (Call 0 (Var 0 (codes "putchar")) (exprs ((Unary 0 unary.Deref (Step 0 step.PostDec (Var 0 (codes "p")))) ∷ [])))) ∷ (Do_expr (Call 0 (Var 0 (codes "putchar")) (exprs ((Unary 0 unary.Deref (Step 0 step.PreDec (Var 0 (codes "p")))) ∷ [])))) ∷ (Do_expr (Call 0 (Var 0 (codes "putchar")) (exprs ((Unary 0 unary.Deref (Unary 0 unary.Address (Index 0 (Var 0 (codes "a")) (Number 0 2 false)))) ∷ [])))) ∷ (Return 0 (Some (Number 0 0 false))) ∷ [])))) ∷ []))
    ∷ ran [] (unit (StructItem (record { name = codes "s"; pos = 0; members = (decl (codes "x") Int None) ∷ (decl (codes "y") (ArrayOf Int (Number 0 2 false)) None) ∷ [] }) ∷ Object (decl (codes "g") (Struct (codes "s")) (Some (Many (values ((One (Number 0 1 false)) ∷ (Many (values ((One (Number 0 2 false)) ∷ (One (Number 0 3 false)) ∷ []))) ∷ []))))) ∷ Object (decl (codes "h") Int None) ∷ Object (decl (codes "n") (ArrayOf Int (Number 0 2 false)) (Some (Many (values ((One (Number 0 7 false)) ∷ []))))) ∷ Function (codes "main") 0 Int ([]) (Some (Block (stmts ((Local (decl (codes "l") (Struct (codes "s")) (Some (Many (values ((One (Number 0 4 false)) ∷ (Many (values ((One (Number 0 5 false)) ∷ []))) ∷ [])))))) ∷ (Local (decl (codes "q") (Pointer (Struct (codes "s"))) None)) ∷ (Do_expr (Assign 0 None (Var 0 (codes "q")) (Unary 0 unary.Address (Var 0 (codes "l"))))) ∷ (Do_expr (Assign 0 None (Index 0 (Arrow 0 (Var 0 (codes "q")) (codes "y")) (Number 0 1 false)) (Number 0 6 false))) ∷ (Do_expr (Assign 0 (Some binary.Add) (Member 0 (Var 0 (codes "l")) (codes "x")) (Index 0 (Member 0 (Var 0 (codes "l")) (codes "y")) (Number 0 0 false)))) ∷ (Do_expr (Call 0 (Var 0 (codes "putchar")) (exprs ((Binary 0 binary.Add (Number 0 48 false) (Index 0 (Member 0 (Var 0 (codes "g")) (codes "y")) (Number 0 1 false))) ∷ [])))) ∷ (Do_expr (Call 0 (Var 0 (codes "putchar")) (exprs ((Binary 0 binary.Add (Number 0 48 false) (Arrow 0 (Var 0 (codes "q")) (codes "x"))) ∷ [])))) ∷ (Do_expr (Call 0 (Var 0 (codes "putchar")) (exprs ((Binary 0 binary.Add (Number 0 48 false) (Index 0 (Member 0 (Unary 0 unary.Deref (Var 0 (codes "q"))) (codes "y")) (Number 0 1 false))) ∷ [])))) ∷ (Do_expr (Call 0 (Var 0 (codes "putchar")) (exprs ((Binary 0 binary.Add (Number 0 48 false) (Var 0 (codes "h"))) ∷ [])))) ∷ (Do_expr (Assign 0 None (Var 0 (codes "h")) (Member 0 (Var 0 (codes "g")) (codes "x")))) ∷ (Do_expr (Call 0 (Var 0 (codes "putchar")) (exprs ((Binary 0 binary.Add (Number 0 48 false) (Var 0 (codes "h"))) ∷ [])))) ∷ (Do_expr (Call 0 (Var 0 (codes "putchar")) (exprs ((Binary 0 binary.Add (Binary 0 binary.Add (Index 0 (Var 0 (codes "n")) (Number 0 0 false)) (Index 0 (Var 0 (codes "n")) (Number 0 1 false))) (Number 0 48 false)) ∷ [])))) ∷ (Return 0 (Some (Number 0 0 false))) ∷ [])))) ∷ []))
    ∷ []
    ≡ Some (codes "EC1CCAC") ∷ Some (codes "396017") ∷ []
places_row = refl

-- calls, by name and through pointers, and recursion
--     "52": int f(int n){ if(n<2) return n; return f(n-1)+f(n-2);} int main(void){int (*p)(int); p=f; putchar(48+p(5)); putchar(48+(p==f)+(f!=0)); return 0;}
--     "7": int d(int a,int b){return a-b;} int k(int a){return d(a,d(9,a+1));} int (*t[2])(int)={k,}; int main(void){putchar(48+t[0](6)+d(4,d(3,2))); exit(0); putchar(48); return 0;}
calls_row :
    ran [] (unit (Function (codes "f") 0 Int (decl (codes "n") Int None ∷ []) (Some (Block (stmts ((If (Binary 0 binary.Lt (Var 0 (codes "n")) (Number 0 2 false)) (Return 0 (Some (Var 0 (codes "n"))))) ∷ (Return 0 (Some (Binary 0 binary.Add (Call 0 (Var 0 (codes "f")) (exprs ((Binary 0 binary.Sub (Var 0 (codes "n")) (Number 0 1 false)) ∷ []))) (Call 0 (Var 0 (codes "f")) (exprs ((Binary 0 binary.Sub (Var 0 (codes "n")) (Number 0 2 false)) ∷ [])))))) ∷ [])))) ∷ Function (codes "main") 0 Int ([]) (Some (Block (stmts ((Local (decl (codes "p") (Pointer (Func Int (tys (Int ∷ [])))) None)) ∷ (Do_expr (Assign 0 None (Var 0 (codes "p")) (Var 0 (codes "f")))) ∷ (Do_expr (Call 0 (Var 0 (codes "putchar")) (exprs ((Binary 0 binary.Add (Number 0 48 false) (Call 0 (Var 0 (codes "p")) (exprs ((Number 0 5 false) ∷ [])))) ∷ [])))) ∷ (Do_expr (Call 0 (Var 0 (codes "putchar")) (exprs ((Binary 0 binary.Add (Binary 0 binary.Add (Number 0 48 false) (Binary 0 binary.Eq (Var 0 (codes "p")) (Var 0 (codes "f")))) (Binary 0 binary.Ne (Var 0 (codes "f")) (Number 0 0 false))) ∷ [])))) ∷ (Return 0 (Some (Number 0 0 false))) ∷ [])))) ∷ []))
    ∷ ran [] (unit (Function (codes "d") 0 Int (decl (codes "a") Int None ∷ decl (codes "b") Int None ∷ []) (Some (Block (stmts ((Return 0 (Some (Binary 0 binary.Sub (Var 0 (codes "a")) (Var 0 (codes "b"))))) ∷ [])))) ∷ Function (codes "k") 0 Int (decl (codes "a") Int None ∷ []) (Some (Block (stmts ((Return 0 (Some (Call 0 (Var 0 (codes "d")) (exprs ((Var 0 (codes "a")) ∷ (Call 0 (Var 0 (codes "d")) (exprs ((Number 0 9 false) ∷ (Binary 0 binary.Add (Var 0 (codes "a")) (Number 0 1 false)) ∷ []))) ∷ []))))) ∷ [])))) ∷ Object (decl (codes "t") (ArrayOf (Pointer (Func Int (tys (Int ∷ [])))) (Number 0 2 false)) (Some (Many (values ((One (Var 0 (codes "k"))) ∷ []))))) ∷ Function (codes "main") 0 Int ([]) (Some (Block (stmts ((Do_expr (Call 0 (Var 0 (codes "putchar")) (exprs ((Binary 0 binary.Add (Binary 0 binary.Add (Number 0 48 false) (Call 0 (Index 0 (Var 0 (codes "t")) (Number 0 0 false)) (exprs ((Number 0 6 false) ∷ [])))) (Call 0 (Var 0 (codes "d")) (exprs ((Number 0 4 false) ∷ (Call 0 (Var 0 (codes "d")) (exprs ((Number 0 3 false) ∷ (Number 0 2 false) ∷ []))) ∷ [])))) ∷ [])))) ∷ (Do_expr (Call 0 (Var 0 (codes "exit")) (exprs ((Number 0 0 false) ∷ [])))) ∷ (Do_expr (Call 0 (Var 0 (codes "putchar")) (exprs ((Number 0 48 false) ∷ [])))) ∷ (Return 0 (Some (Number 0 0 false))) ∷ [])))) ∷ []))
    ∷ []
    ≡ Some (codes "52") ∷ Some (codes "7") ∷ []
calls_row = refl

-- input, switch and strings
--     "AB...": int main(void){int c; while((c=getchar())!=-1){switch(c){case 'a': putchar('A'); break; case 'b': putchar('B'); default: putchar('.');}} return 0;}
--     "hib0yr": char u[]="xyz"; char *v="pqr";int main(void){char *s; char t[4]="ab"; s="hi"; while(*s) putchar(*s++); putchar(t[1]); putchar(t[3]+48); putchar(u[1]); s=v; putchar(s[2]); return 0;}
input_row :
    ran (codes "abcx") (unit (Function (codes "main") 0 Int ([]) (Some (Block (stmts ((Local (decl (codes "c") Int None)) ∷ (While (Binary 0 binary.Ne (Assign 0 None (Var 0 (codes "c")) (Call 0 (Var 0 (codes "getchar")) (exprs ([])))) (Unary 0 unary.Minus (Number 0 1 false))) (Block (stmts ((Switch (Var 0 (codes "c")) (parts ((Label 0 (Some (Number 0 97 false))) ∷ (Item (Do_expr (Call 0 (Var 0 (codes "putchar")) (exprs ((Number 0 65 false) ∷ []))))) ∷ (Item (Break 0)) ∷ (Label 0 (Some (Number 0 98 false))) ∷ (Item (Do_expr (Call 0 (Var 0 (codes "putchar")) (exprs ((Number 0 66 false) ∷ []))))) ∷ (Label 0 None) ∷ (Item (Do_expr (Call 0 (Var 0 (codes "putchar")) (exprs ((Number 0 46 false) ∷ []))))) ∷ []))) ∷ [])))) ∷ (Return 0 (Some (Number 0 0 false))) ∷ [])))) ∷ []))
    ∷ ran [] (unit (Object (decl (codes "u") (Array Char) (Some (One (Str 0 (codes "xyz"))))) ∷ Object (decl (codes "v") (Pointer Char) (Some (One (Str 0 (codes "pqr"))))) ∷ Function (codes "main") 0 Int ([]) (Some (Block (stmts ((Local (decl (codes "s") (Pointer Char) None)) ∷ (Local (decl (codes "t") (ArrayOf Char (Number 0 4 false)) (Some (One (Str 0 (codes "ab")))))) ∷ (Do_expr (Assign 0 None (Var 0 (codes "s")) (Str 0 (codes "hi")))) ∷ (While (Unary 0 unary.Deref (Var 0 (codes "s"))) (Do_expr (Call 0 (Var 0 (codes "putchar")) (exprs ((Unary 0 unary.Deref (Step 0 step.PostInc (Var 0 (codes "s")))) ∷ []))))) ∷ (Do_expr (Call 0 (Var 0 (codes "putchar")) (exprs ((Index 0 (Var 0 (codes "t")) (Number 0 1 false)) ∷ [])))) ∷ (Do_expr (Call 0 (Var 0 (codes "putchar")) (exprs ((Binary 0 binary.Add (Index 0 (Var 0 (codes "t")) (Number 0 3 false)) (Number 0 48 false)) ∷ [])))) ∷ (Do_expr (Call 0 (Var 0 (codes "putchar")) (exprs ((Index 0 (Var 0 (codes "u")) (Number 0 1 false)) ∷ [])))) ∷ (Do_expr (Assign 0 None (Var 0 (codes "s")) (Var 0 (codes "v")))) ∷ (Do_expr (Call 0 (Var 0 (codes "putchar")) (exprs ((Index 0 (Var 0 (codes "s")) (Number 0 2 false)) ∷ [])))) ∷ (Return 0 (Some (Number 0 0 false))) ∷ [])))) ∷ []))
    ∷ []
    ≡ Some (codes "AB...") ∷ Some (codes "hib0yr") ∷ []
input_row = refl

-- operators for which helper functions stand
--     "0": int main(void){putchar(6*8); return 0;}
--     "K% ": int main(void){int i; i=75; printf("%c%% ",i); return 0;}
helped_row :
    helped [] (unit (Function (codes "main") 0 Int ([]) (Some (Block (stmts ((Do_expr (Call 0 (Var 0 (codes "putchar")) (exprs ((Binary 0 binary.Mul (Number 0 6 false) (Number 0 8 false)) ∷ [])))) ∷ (Return 0 (Some (Number 0 0 false))) ∷ [])))) ∷ []))
    ∷ helped [] (unit (Function (codes "main") 0 Int ([]) (Some (Block (stmts ((Local (decl (codes "i") Int None)) ∷ (Do_expr (Assign 0 None (Var 0 (codes "i")) (Number 0 75 false))) ∷ (Do_expr (Call 0 (Var 0 (codes "printf")) (exprs ((Str 0 (codes "%c%% ")) ∷ (Var 0 (codes "i")) ∷ [])))) ∷ (Return 0 (Some (Number 0 0 false))) ∷ [])))) ∷ []))
    ∷ []
    ≡ Some (codes "0") ∷ Some (codes "K% ") ∷ []
unfolding digits
helped_row = refl

-- a turn of a loop with a sum takes 22 operations
--     110: int main(void){int i; int s; s=0; for(i=0;i<4;i++) s=s+i; return 0;}
--     132: int main(void){int i; int s; s=0; for(i=0;i<5;i++) s=s+i; return 0;}
loop_cost_row :
    taken (unit (Function (codes "main") 0 Int ([]) (Some (Block (stmts ((Local (decl (codes "i") Int None)) ∷ (Local (decl (codes "s") Int None)) ∷ (Do_expr (Assign 0 None (Var 0 (codes "s")) (Number 0 0 false))) ∷ (For (Do_expr (Assign 0 None (Var 0 (codes "i")) (Number 0 0 false))) (Some (Binary 0 binary.Lt (Var 0 (codes "i")) (Number 0 4 false))) (Some (Step 0 step.PostInc (Var 0 (codes "i")))) (Do_expr (Assign 0 None (Var 0 (codes "s")) (Binary 0 binary.Add (Var 0 (codes "s")) (Var 0 (codes "i")))))) ∷ (Return 0 (Some (Number 0 0 false))) ∷ [])))) ∷ []))
    ∷ taken (unit (Function (codes "main") 0 Int ([]) (Some (Block (stmts ((Local (decl (codes "i") Int None)) ∷ (Local (decl (codes "s") Int None)) ∷ (Do_expr (Assign 0 None (Var 0 (codes "s")) (Number 0 0 false))) ∷ (For (Do_expr (Assign 0 None (Var 0 (codes "i")) (Number 0 0 false))) (Some (Binary 0 binary.Lt (Var 0 (codes "i")) (Number 0 5 false))) (Some (Step 0 step.PostInc (Var 0 (codes "i")))) (Do_expr (Assign 0 None (Var 0 (codes "s")) (Binary 0 binary.Add (Var 0 (codes "s")) (Var 0 (codes "i")))))) ∷ (Return 0 (Some (Number 0 0 false))) ∷ [])))) ∷ []))
    ∷ []
    ≡ 110 ∷ 132 ∷ []
loop_cost_row = refl

-- `a[i]=a[i]+1` takes 9 operations beside its two sums of 6
--     42: int main(void){int a[2]; int i; i=0; a[i]=0; a[i]=a[i]+1; return 0;}
--     21: int main(void){int a[2]; int i; i=0; a[i]=0; return 0;}
element_cost_row :
    taken (unit (Function (codes "main") 0 Int ([]) (Some (Block (stmts ((Local (decl (codes "a") (ArrayOf Int (Number 0 2 false)) None)) ∷ (Local (decl (codes "i") Int None)) ∷ (Do_expr (Assign 0 None (Var 0 (codes "i")) (Number 0 0 false))) ∷ (Do_expr (Assign 0 None (Index 0 (Var 0 (codes "a")) (Var 0 (codes "i"))) (Number 0 0 false))) ∷ (Do_expr (Assign 0 None (Index 0 (Var 0 (codes "a")) (Var 0 (codes "i"))) (Binary 0 binary.Add (Index 0 (Var 0 (codes "a")) (Var 0 (codes "i"))) (Number 0 1 false)))) ∷ (Return 0 (Some (Number 0 0 false))) ∷ [])))) ∷ []))
    ∷ taken (unit (Function (codes "main") 0 Int ([]) (Some (Block (stmts ((Local (decl (codes "a") (ArrayOf Int (Number 0 2 false)) None)) ∷ (Local (decl (codes "i") Int None)) ∷ (Do_expr (Assign 0 None (Var 0 (codes "i")) (Number 0 0 false))) ∷ (Do_expr (Assign 0 None (Index 0 (Var 0 (codes "a")) (Var 0 (codes "i"))) (Number 0 0 false))) ∷ (Return 0 (Some (Number 0 0 false))) ∷ [])))) ∷ []))
    ∷ []
    ≡ 42 ∷ 21 ∷ []
element_cost_row = refl

-- the code, its blocks and the data words are at most what the text costs
sizes_row :
    fits (unit (Function (codes "main") 0 Int ([]) (Some (Block (stmts ((Local (decl (codes "i") Int None)) ∷ (Local (decl (codes "s") Int None)) ∷ (Do_expr (Assign 0 None (Var 0 (codes "s")) (Number 0 0 false))) ∷ (For (Do_expr (Assign 0 None (Var 0 (codes "i")) (Number 0 0 false))) (Some (Binary 0 binary.Lt (Var 0 (codes "i")) (Number 0 4 false))) (Some (Step 0 step.PostInc (Var 0 (codes "i")))) (Do_expr (Assign 0 None (Var 0 (codes "s")) (Binary 0 binary.Add (Var 0 (codes "s")) (Var 0 (codes "i")))))) ∷ (Do_expr (Call 0 (Var 0 (codes "putchar")) (exprs ((Binary 0 binary.Add (Number 0 48 false) (Var 0 (codes "s"))) ∷ [])))) ∷ (Return 0 (Some (Number 0 0 false))) ∷ [])))) ∷ []))
    ∷ fits (unit (Function (codes "main") 0 Int ([]) (Some (Block (stmts ((Local (decl (codes "i") Int None)) ∷ (Do_expr (Assign 0 None (Var 0 (codes "i")) (Number 0 3 false))) ∷ (While (Var 0 (codes "i")) (Block (stmts ((Do_expr (Call 0 (Var 0 (codes "putchar")) (exprs ((Binary 0 binary.Add (Number 0 48 false) (Var 0 (codes "i"))) ∷ [])))) ∷ (Do_expr (Step 0 step.PostDec (Var 0 (codes "i")))) ∷ [])))) ∷ (Do (Do_expr (Call 0 (Var 0 (codes "putchar")) (exprs ((Binary 0 binary.Add (Number 0 65 false) (Step 0 step.PostInc (Var 0 (codes "i")))) ∷ [])))) (Binary 0 binary.Lt (Var 0 (codes "i")) (Number 0 3 false))) ∷ (Return 0 (Some (Number 0 0 false))) ∷ [])))) ∷ []))
    ∷ fits (unit (Function (codes "main") 0 Int ([]) (Some (Block (stmts ((For (Block (stmts ((Local (decl (codes "i") Int (Some (One (Number 0 0 false))))) ∷ (Local (decl (codes "j") Int (Some (One (Number 0 5 false))))) ∷ []))) None (Some (Step 0 step.PostInc (Var 0 (codes "i")))) (Block (stmts ((If (Binary 0 binary.Eq (Var 0 (codes "i")) (Number 0 1 false)) (Continue 0)) ∷ (If (Binary 0 binary.Gt (Var 0 (codes "i")) (Binary 0 binary.Sub (Var 0 (codes "j")) (Number 0 2 false))) (Break 0)) ∷ (Do_expr (Call 0 (Var 0 (codes "putchar")) (exprs ((Binary 0 binary.Add (Number 0 48 false) (Var 0 (codes "i"))) ∷ [])))) ∷ [])))) ∷ (Return 0 (Some (Number 0 0 false))) ∷ [])))) ∷ []))
    ∷ fits (unit (Function (codes "main") 0 Int ([]) (Some (Block (stmts ((Local (decl (codes "a") Int None)) ∷ (Local (decl (codes "u") Unsigned None)) ∷ (Do_expr (Assign 0 None (Var 0 (codes "a")) (Unary 0 unary.Minus (Number 0 3 false)))) ∷ (Do_expr (Assign 0 None (Var 0 (codes "u")) (Var 0 (codes "a")))) ∷ (Do_expr (Call 0 (Var 0 (codes "putchar")) (exprs ((Binary 0 binary.Add (Number 0 48 false) (Binary 0 binary.Lt (Var 0 (codes "a")) (Number 0 2 false))) ∷ [])))) ∷ (Do_expr (Call 0 (Var 0 (codes "putchar")) (exprs ((Binary 0 binary.Add (Number 0 48 false) (Binary 0 binary.Lt (Var 0 (codes "u")) (Number 0 2 false))) ∷ [])))) ∷ (Do_expr (Call 0 (Var 0 (codes "putchar")) (exprs ((Binary 0 binary.Add (Number 0 48 false) (Binary 0 binary.Ge (Number 0 2 false) (Var 0 (codes "a")))) ∷ [])))) ∷ (Do_expr (Call 0 (Var 0 (codes "putchar")) (exprs ((Binary 0 binary.Add (Number 0 48 false) (Binary 0 binary.And (Binary 0 binary.Le (Var 0 (codes "a")) (Unary 0 unary.Minus (Number 0 3 false))) (Binary 0 binary.Gt (Var 0 (codes "u")) (Number 0 7 true)))) ∷ [])))) ∷ (Do_expr (Call 0 (Var 0 (codes "putchar")) (exprs ((Binary 0 binary.Add (Number 0 48 false) (Unary 0 unary.Not (Binary 0 binary.Or (Binary 0 binary.Gt (Var 0 (codes "a")) (Number 0 0 false)) (Binary 0 binary.Eq (Var 0 (codes "u")) (Number 0 3 false))))) ∷ [])))) ∷ (Do_expr (Call 0 (Var 0 (codes "putchar")) (exprs ((Cond 0 (Binary 0 binary.Gt (Var 0 (codes "a")) (Unary 0 unary.Minus (Number 0 4 false))) (Number 0 121 false) (Number 0 110 false)) ∷ [])))) ∷ (Return 0 (Some (Number 0 0 false))) ∷ [])))) ∷ []))
    ∷ fits (unit (Function (codes "main") 0 Int ([]) (Some (Block (stmts ((Local (decl (codes "x") Int None)) ∷ (Local (decl (codes "y") Int None)) ∷ (Do_expr (Assign 0 None (Var 0 (codes "x")) (Number 0 5 false))) ∷ (Do_expr (Assign 0 None (Var 0 (codes "y")) (Number 0 7 false))) ∷ (IfElse (Binary 0 binary.And (Binary 0 binary.Lt (Binary 0 binary.Sub (Var 0 (codes "x")) (Var 0 (codes "y"))) (Number 0 0 false)) (Unary 0 unary.Not (Binary 0 binary.Lt (Var 0 (codes "y")) (Var 0 (codes "x"))))) (Do_expr (Call 0 (Var 0 (codes "putchar")) (exprs ((Number 0 97 false) ∷ [])))) (Do_expr (Call 0 (Var 0 (codes "putchar")) (exprs ((Number 0 98 false) ∷ []))))) ∷ (IfElse (Binary 0 binary.Or (Binary 0 binary.Eq (Var 0 (codes "x")) (Var 0 (codes "y"))) (Binary 0 binary.Ne (Var 0 (codes "x")) (Number 0 5 false))) (Do_expr (Call 0 (Var 0 (codes "putchar")) (exprs ((Number 0 99 false) ∷ [])))) (Do_expr (Call 0 (Var 0 (codes "putchar")) (exprs ((Number 0 100 false) ∷ []))))) ∷ (Do_expr (Call 0 (Var 0 (codes "putchar")) (exprs ((Binary 0 binary.Add (Number 0 48 false) (Binary 0 binary.Sub (Var 0 (codes "x")) (Binary 0 binary.Sub (Var 0 (codes "y")) (Binary 0 binary.Sub (Var 0 (codes "x")) (Number 0 4 false))))) ∷ [])))) ∷ (Return 0 (Some (Number 0 0 false))) ∷ [])))) ∷ []))
    ∷ fits (unit (Function (codes "main") 0 Int ([]) (Some (Block (stmts ((Local (decl (codes "a") (ArrayOf Int (Number 0 3 false)) None)) ∷ (Local (decl (codes "p") (Pointer Int) None)) ∷ (Local (decl (codes "i") Int None)) ∷ (For (Do_expr (Assign 0 None (Var 0 (codes "i")) (Number 0 0 false))) (Some (Binary 0 binary.Lt (Var 0 (codes "i")) (Number 0 3 false))) (Some (Step 0 step.PostInc (Var 0 (codes "i")))) (Do_expr (Assign 0 None (Index 0 (Var 0 (codes "a")) (Var 0 (codes "i"))) (Binary 0 binary.Add (Number 0 65 false) (Var 0 (codes "i")))))) ∷ (Do_expr (Assign 0 None (Var 0 (codes "p")) (Var 0 (codes "a")))) ∷ (Do_expr (Assign 0 (Some binary.Add) (Index 0 (Var 0 (codes "a")) (Number 0 1 false)) (Number 0 3 false))) ∷ (Do_expr (Step 0 step.PostInc (Var 0 (codes "p")))) ∷ (Do_expr (Call 0 (Var 0 (codes "putchar")) (exprs ((Unary 0 unary.Deref (Var 0 (codes "p"))) ∷ [])))) ∷ (Do_expr (Call 0 (Var 0 (codes "putchar")) (exprs ((Index 0 (Var 0 (codes "p")) (Number 0 1 false)) ∷ [])))) ∷ (Do_expr (Call 0 (Var 0 (codes "putchar")) (exprs ((Binary 0 binary.Add (Binary 0 binary.Sub (Var 0 (codes "p")) (Var 0 (codes "a"))) (Number 0 48 false)) ∷ [])))) ∷ (Do_expr (Assign 0 (Some binary.Sub) (Unary 0 unary.Deref (Step 0 step.PostInc (Var 0 (codes "p")))) (Number 0 2 false))) ∷ (Do_expr (Call 0 (Var 0 (codes "putchar")) (exprs ((Index 0 (Var 0 (codes "a")) (Number 0 1 false)) ∷ [])))) ∷ (Do_expr (Call 0 (Var 0 (codes "putchar")) (exprs ((Unary 0 unary.Deref (Step 0 step.PostDec (Var 0 (codes "p")))) ∷ [])))) ∷ (Do_expr (Call 0 (Var 0 (codes "putchar")) (exprs ((Unary 0 unary.Deref (Step 0 step.PreDec (Var 0 (codes "p")))) ∷ [])))) ∷ (Do_expr (Call 0 (Var 0 (codes "putchar")) (exprs ((Unary 0 unary.Deref (Unary 0 unary.Address (Index 0 (Var 0 (codes "a")) (Number 0 2 false)))) ∷ [])))) ∷ (Return 0 (Some (Number 0 0 false))) ∷ [])))) ∷ []))
    ∷ fits (unit (StructItem (record { name = codes "s"; pos = 0; members = (decl (codes "x") Int None) ∷ (decl (codes "y") (ArrayOf Int (Number 0 2 false)) None) ∷ [] }) ∷ Object (decl (codes "g") (Struct (codes "s")) (Some (Many (values ((One (Number 0 1 false)) ∷ (Many (values ((One (Number 0 2 false)) ∷ (One (Number 0 3 false)) ∷ []))) ∷ []))))) ∷ Object (decl (codes "h") Int None) ∷ Object (decl (codes "n") (ArrayOf Int (Number 0 2 false)) (Some (Many (values ((One (Number 0 7 false)) ∷ []))))) ∷ Function (codes "main") 0 Int ([]) (Some (Block (stmts ((Local (decl (codes "l") (Struct (codes "s")) (Some (Many (values ((One (Number 0 4 false)) ∷ (Many (values ((One (Number 0 5 false)) ∷ []))) ∷ [])))))) ∷ (Local (decl (codes "q") (Pointer (Struct (codes "s"))) None)) ∷ (Do_expr (Assign 0 None (Var 0 (codes "q")) (Unary 0 unary.Address (Var 0 (codes "l"))))) ∷ (Do_expr (Assign 0 None (Index 0 (Arrow 0 (Var 0 (codes "q")) (codes "y")) (Number 0 1 false)) (Number 0 6 false))) ∷ (Do_expr (Assign 0 (Some binary.Add) (Member 0 (Var 0 (codes "l")) (codes "x")) (Index 0 (Member 0 (Var 0 (codes "l")) (codes "y")) (Number 0 0 false)))) ∷ (Do_expr (Call 0 (Var 0 (codes "putchar")) (exprs ((Binary 0 binary.Add (Number 0 48 false) (Index 0 (Member 0 (Var 0 (codes "g")) (codes "y")) (Number 0 1 false))) ∷ [])))) ∷ (Do_expr (Call 0 (Var 0 (codes "putchar")) (exprs ((Binary 0 binary.Add (Number 0 48 false) (Arrow 0 (Var 0 (codes "q")) (codes "x"))) ∷ [])))) ∷ (Do_expr (Call 0 (Var 0 (codes "putchar")) (exprs ((Binary 0 binary.Add (Number 0 48 false) (Index 0 (Member 0 (Unary 0 unary.Deref (Var 0 (codes "q"))) (codes "y")) (Number 0 1 false))) ∷ [])))) ∷ (Do_expr (Call 0 (Var 0 (codes "putchar")) (exprs ((Binary 0 binary.Add (Number 0 48 false) (Var 0 (codes "h"))) ∷ [])))) ∷ (Do_expr (Assign 0 None (Var 0 (codes "h")) (Member 0 (Var 0 (codes "g")) (codes "x")))) ∷ (Do_expr (Call 0 (Var 0 (codes "putchar")) (exprs ((Binary 0 binary.Add (Number 0 48 false) (Var 0 (codes "h"))) ∷ [])))) ∷ (Do_expr (Call 0 (Var 0 (codes "putchar")) (exprs ((Binary 0 binary.Add (Binary 0 binary.Add (Index 0 (Var 0 (codes "n")) (Number 0 0 false)) (Index 0 (Var 0 (codes "n")) (Number 0 1 false))) (Number 0 48 false)) ∷ [])))) ∷ (Return 0 (Some (Number 0 0 false))) ∷ [])))) ∷ []))
    ∷ fits (unit (Function (codes "f") 0 Int (decl (codes "n") Int None ∷ []) (Some (Block (stmts ((If (Binary 0 binary.Lt (Var 0 (codes "n")) (Number 0 2 false)) (Return 0 (Some (Var 0 (codes "n"))))) ∷ (Return 0 (Some (Binary 0 binary.Add (Call 0 (Var 0 (codes "f")) (exprs ((Binary 0 binary.Sub (Var 0 (codes "n")) (Number 0 1 false)) ∷ []))) (Call 0 (Var 0 (codes "f")) (exprs ((Binary 0 binary.Sub (Var 0 (codes "n")) (Number 0 2 false)) ∷ [])))))) ∷ [])))) ∷ Function (codes "main") 0 Int ([]) (Some (Block (stmts ((Local (decl (codes "p") (Pointer (Func Int (tys (Int ∷ [])))) None)) ∷ (Do_expr (Assign 0 None (Var 0 (codes "p")) (Var 0 (codes "f")))) ∷ (Do_expr (Call 0 (Var 0 (codes "putchar")) (exprs ((Binary 0 binary.Add (Number 0 48 false) (Call 0 (Var 0 (codes "p")) (exprs ((Number 0 5 false) ∷ [])))) ∷ [])))) ∷ (Do_expr (Call 0 (Var 0 (codes "putchar")) (exprs ((Binary 0 binary.Add (Binary 0 binary.Add (Number 0 48 false) (Binary 0 binary.Eq (Var 0 (codes "p")) (Var 0 (codes "f")))) (Binary 0 binary.Ne (Var 0 (codes "f")) (Number 0 0 false))) ∷ [])))) ∷ (Return 0 (Some (Number 0 0 false))) ∷ [])))) ∷ []))
    ∷ fits (unit (Function (codes "d") 0 Int (decl (codes "a") Int None ∷ decl (codes "b") Int None ∷ []) (Some (Block (stmts ((Return 0 (Some (Binary 0 binary.Sub (Var 0 (codes "a")) (Var 0 (codes "b"))))) ∷ [])))) ∷ Function (codes "k") 0 Int (decl (codes "a") Int None ∷ []) (Some (Block (stmts ((Return 0 (Some (Call 0 (Var 0 (codes "d")) (exprs ((Var 0 (codes "a")) ∷ (Call 0 (Var 0 (codes "d")) (exprs ((Number 0 9 false) ∷ (Binary 0 binary.Add (Var 0 (codes "a")) (Number 0 1 false)) ∷ []))) ∷ []))))) ∷ [])))) ∷ Object (decl (codes "t") (ArrayOf (Pointer (Func Int (tys (Int ∷ [])))) (Number 0 2 false)) (Some (Many (values ((One (Var 0 (codes "k"))) ∷ []))))) ∷ Function (codes "main") 0 Int ([]) (Some (Block (stmts ((Do_expr (Call 0 (Var 0 (codes "putchar")) (exprs ((Binary 0 binary.Add (Binary 0 binary.Add (Number 0 48 false) (Call 0 (Index 0 (Var 0 (codes "t")) (Number 0 0 false)) (exprs ((Number 0 6 false) ∷ [])))) (Call 0 (Var 0 (codes "d")) (exprs ((Number 0 4 false) ∷ (Call 0 (Var 0 (codes "d")) (exprs ((Number 0 3 false) ∷ (Number 0 2 false) ∷ []))) ∷ [])))) ∷ [])))) ∷ (Do_expr (Call 0 (Var 0 (codes "exit")) (exprs ((Number 0 0 false) ∷ [])))) ∷ (Do_expr (Call 0 (Var 0 (codes "putchar")) (exprs ((Number 0 48 false) ∷ [])))) ∷ (Return 0 (Some (Number 0 0 false))) ∷ [])))) ∷ []))
    ∷ fits (unit (Function (codes "main") 0 Int ([]) (Some (Block (stmts ((Local (decl (codes "c") Int None)) ∷ (While (Binary 0 binary.Ne (Assign 0 None (Var 0 (codes "c")) (Call 0 (Var 0 (codes "getchar")) (exprs ([])))) (Unary 0 unary.Minus (Number 0 1 false))) (Block (stmts ((Switch (Var 0 (codes "c")) (parts ((Label 0 (Some (Number 0 97 false))) ∷ (Item (Do_expr (Call 0 (Var 0 (codes "putchar")) (exprs ((Number 0 65 false) ∷ []))))) ∷ (Item (Break 0)) ∷ (Label 0 (Some (Number 0 98 false))) ∷ (Item (Do_expr (Call 0 (Var 0 (codes "putchar")) (exprs ((Number 0 66 false) ∷ []))))) ∷ (Label 0 None) ∷ (Item (Do_expr (Call 0 (Var 0 (codes "putchar")) (exprs ((Number 0 46 false) ∷ []))))) ∷ []))) ∷ [])))) ∷ (Return 0 (Some (Number 0 0 false))) ∷ [])))) ∷ []))
    ∷ fits (unit (Object (decl (codes "u") (Array Char) (Some (One (Str 0 (codes "xyz"))))) ∷ Object (decl (codes "v") (Pointer Char) (Some (One (Str 0 (codes "pqr"))))) ∷ Function (codes "main") 0 Int ([]) (Some (Block (stmts ((Local (decl (codes "s") (Pointer Char) None)) ∷ (Local (decl (codes "t") (ArrayOf Char (Number 0 4 false)) (Some (One (Str 0 (codes "ab")))))) ∷ (Do_expr (Assign 0 None (Var 0 (codes "s")) (Str 0 (codes "hi")))) ∷ (While (Unary 0 unary.Deref (Var 0 (codes "s"))) (Do_expr (Call 0 (Var 0 (codes "putchar")) (exprs ((Unary 0 unary.Deref (Step 0 step.PostInc (Var 0 (codes "s")))) ∷ []))))) ∷ (Do_expr (Call 0 (Var 0 (codes "putchar")) (exprs ((Index 0 (Var 0 (codes "t")) (Number 0 1 false)) ∷ [])))) ∷ (Do_expr (Call 0 (Var 0 (codes "putchar")) (exprs ((Binary 0 binary.Add (Index 0 (Var 0 (codes "t")) (Number 0 3 false)) (Number 0 48 false)) ∷ [])))) ∷ (Do_expr (Call 0 (Var 0 (codes "putchar")) (exprs ((Index 0 (Var 0 (codes "u")) (Number 0 1 false)) ∷ [])))) ∷ (Do_expr (Assign 0 None (Var 0 (codes "s")) (Var 0 (codes "v")))) ∷ (Do_expr (Call 0 (Var 0 (codes "putchar")) (exprs ((Index 0 (Var 0 (codes "s")) (Number 0 2 false)) ∷ [])))) ∷ (Return 0 (Some (Number 0 0 false))) ∷ [])))) ∷ []))
    ∷ []
    ≡ true ∷ true ∷ true ∷ true ∷ true ∷ true ∷ true ∷ true ∷ true ∷ true ∷ true ∷ []
sizes_row = refl
