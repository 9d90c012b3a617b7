-- Worked rows: what the definitions say of small texts, one rule of types after the other. Beside each tree stands its text.
use Rattle.std.proofs.Common.{◌≡◌, ℕ, true, false, [], ◌∷◌, map, Option, Some, None, refl}
use Rattle.std.specs.Prelude.{codes}
use Rattle.std.specs.Result.{result_err}
use Rattle.c_syntax.specs.Plain.{CUnit, Number, Str, Null, Var, Unary, Step, Binary, Assign, Cond, Comma, Cast, SizeTy, SizeOf, Index, Call, Member, Arrow, NoExpr, MoreExpr, Void, Int, Unsigned, Char, UChar, Struct, Pointer, Array, ArrayOf, Func, NoTy, MoreTy, One, Many, NoValue, MoreValue, Block, Local, Do_expr, Empty, If, IfElse, While, Do, For, Return, Break, Continue, Switch, NoStmt, MoreStmt, Label, Item, NoPart, MorePart, StructItem, Object, Function}
use Rattle.c_syntax.specs.declared.tree.UnOp.TheVariants as unary
use Rattle.c_syntax.specs.declared.tree.StepOp.TheVariants as step
use Rattle.c_syntax.specs.declared.tree.BinOp.TheVariants as binary
use Rattle.c_types.specs.declared.fault.TypeFault.{TypeFault}
use Rattle.c_types.specs.declared.fault.TypeFault.TheVariants as fault
use Rattle.c_types.specs.Limits.{answer_to, weight_of}
use Rattle.c_types.specs.Room.{charges_of, kinds_of, room_of}

-- nothing where a text is typed and within the limits, else its refusal
abbrev refusal_of : CUnit → Option TypeFault
refusal_of u = result_err (answer_to u)

abbrev weight_and_room : CUnit → ℕ × ℕ
weight_and_room u = (weight_of u, room_of u)

-- char, int, unsigned and pointers are one word
--     typed      struct t{char c;int i;unsigned u;int *p;};int a[sizeof(struct t)==4?1:0];int main(void){return 0;}
words_row :
    map refusal_of (
    record { items = StructItem (record { name = codes "t"; pos = 7; members = record { name = codes "c"; pos = 14; ty = Char; first = None } ∷ record { name = codes "i"; pos = 20; ty = Int; first = None } ∷ record { name = codes "u"; pos = 31; ty = Unsigned; first = None } ∷ record { name = codes "p"; pos = 38; ty = Pointer Int; first = None } ∷ [] }) ∷ Object (record { name = codes "a"; pos = 46; ty = ArrayOf (Int) (Cond 67 (Binary 64 binary.Eq (SizeTy 48 (Struct (codes "t"))) (Number 66 4 false)) (Number 68 1 false) (Number 70 0 false)); first = None }) ∷ Function (codes "main") 77 (Int) ([]) (Some (Block (MoreStmt (Return 88 (Some (Number 95 0 false))) (NoStmt)))) ∷ []; end = 98 }
    ∷ [])
    ≡ (None ∷ [])
words_row = refl

-- char and int are signed, unsigned char is as unsigned
--     typed      int a[(char)-1<0?1:0];int main(void){return 0;}
--     typed      int a[-1<0?1:0];int main(void){return 0;}
--     Mismatch   int a[(unsigned char)-1<0?1:0];int main(void){return 0;}
signs_row :
    map refusal_of (
    record { items = Object (record { name = codes "a"; pos = 4; ty = ArrayOf (Int) (Cond 16 (Binary 14 binary.Lt (Cast 6 (Char) (Unary 12 unary.Minus (Number 13 1 false))) (Number 15 0 false)) (Number 17 1 false) (Number 19 0 false)); first = None }) ∷ Function (codes "main") 26 (Int) ([]) (Some (Block (MoreStmt (Return 37 (Some (Number 44 0 false))) (NoStmt)))) ∷ []; end = 47 }
    ∷ record { items = Object (record { name = codes "a"; pos = 4; ty = ArrayOf (Int) (Cond 10 (Binary 8 binary.Lt (Unary 6 unary.Minus (Number 7 1 false)) (Number 9 0 false)) (Number 11 1 false) (Number 13 0 false)); first = None }) ∷ Function (codes "main") 20 (Int) ([]) (Some (Block (MoreStmt (Return 31 (Some (Number 38 0 false))) (NoStmt)))) ∷ []; end = 41 }
    ∷ record { items = Object (record { name = codes "a"; pos = 4; ty = ArrayOf (Int) (Cond 25 (Binary 23 binary.Lt (Cast 6 (UChar) (Unary 21 unary.Minus (Number 22 1 false))) (Number 24 0 false)) (Number 26 1 false) (Number 28 0 false)); first = None }) ∷ Function (codes "main") 35 (Int) ([]) (Some (Block (MoreStmt (Return 46 (Some (Number 53 0 false))) (NoStmt)))) ∷ []; end = 56 }
    ∷ [])
    ≡ (None ∷ None ∷ Some (fault.Mismatch 25) ∷ [])
signs_row = refl

-- if one operand is unsigned, both count as unsigned; a shift has its left operand's type
--     typed      int a[-1<1u?0:1];int main(void){return 0;}
--     typed      int a[(-1+0u)/2==8388607?1:0];int main(void){return 0;}
--     typed      int a[(-2>>1u)<0?1:0];int main(void){return 0;}
--     typed      int a[(-1/2u)==8388607?1:0];int main(void){return 0;}
both_unsigned_row :
    map refusal_of (
    record { items = Object (record { name = codes "a"; pos = 4; ty = ArrayOf (Int) (Cond 11 (Binary 8 binary.Lt (Unary 6 unary.Minus (Number 7 1 false)) (Number 9 1 true)) (Number 12 0 false) (Number 14 1 false)); first = None }) ∷ Function (codes "main") 21 (Int) ([]) (Some (Block (MoreStmt (Return 32 (Some (Number 39 0 false))) (NoStmt)))) ∷ []; end = 42 }
    ∷ record { items = Object (record { name = codes "a"; pos = 4; ty = ArrayOf (Int) (Cond 24 (Binary 15 binary.Eq (Binary 13 binary.Div (Binary 9 binary.Add (Unary 7 unary.Minus (Number 8 1 false)) (Number 10 0 true)) (Number 14 2 false)) (Number 17 8388607 false)) (Number 25 1 false) (Number 27 0 false)); first = None }) ∷ Function (codes "main") 34 (Int) ([]) (Some (Block (MoreStmt (Return 45 (Some (Number 52 0 false))) (NoStmt)))) ∷ []; end = 55 }
    ∷ record { items = Object (record { name = codes "a"; pos = 4; ty = ArrayOf (Int) (Cond 16 (Binary 14 binary.Lt (Binary 9 binary.Shr (Unary 7 unary.Minus (Number 8 2 false)) (Number 11 1 true)) (Number 15 0 false)) (Number 17 1 false) (Number 19 0 false)); first = None }) ∷ Function (codes "main") 26 (Int) ([]) (Some (Block (MoreStmt (Return 37 (Some (Number 44 0 false))) (NoStmt)))) ∷ []; end = 47 }
    ∷ record { items = Object (record { name = codes "a"; pos = 4; ty = ArrayOf (Int) (Cond 22 (Binary 13 binary.Eq (Binary 9 binary.Div (Unary 7 unary.Minus (Number 8 1 false)) (Number 10 2 true)) (Number 15 8388607 false)) (Number 23 1 false) (Number 25 0 false)); first = None }) ∷ Function (codes "main") 32 (Int) ([]) (Some (Block (MoreStmt (Return 43 (Some (Number 50 0 false))) (NoStmt)))) ∷ []; end = 53 }
    ∷ [])
    ≡ (None ∷ None ∷ None ∷ None ∷ [])
both_unsigned_row = refl

-- comparisons, `!`, `&&` and `||` give int; `sizeof` gives unsigned, in words
--     typed      int a[(1u<2u)-2<0?1:0];int b[!0u-2<0?1:0];int c[(1u&&1u)-2<0?1:0];int d[(0u||1u)-2<0?1:0];int main(void){return 0;}
--     Mismatch   int a[sizeof(int)-2<0?1:0];int main(void){return 0;}
--     typed      int b[3];int a[sizeof b==3?1:0];int main(void){return 0;}
int_results_row :
    map refusal_of (
    record { items = Object (record { name = codes "a"; pos = 4; ty = ArrayOf (Int) (Cond 17 (Binary 15 binary.Lt (Binary 13 binary.Sub (Binary 9 binary.Lt (Number 7 1 true) (Number 10 2 true)) (Number 14 2 false)) (Number 16 0 false)) (Number 18 1 false) (Number 20 0 false)); first = None }) ∷ Object (record { name = codes "b"; pos = 27; ty = ArrayOf (Int) (Cond 36 (Binary 34 binary.Lt (Binary 32 binary.Sub (Unary 29 unary.Not (Number 30 0 true)) (Number 33 2 false)) (Number 35 0 false)) (Number 37 1 false) (Number 39 0 false)); first = None }) ∷ Object (record { name = codes "c"; pos = 46; ty = ArrayOf (Int) (Cond 60 (Binary 58 binary.Lt (Binary 56 binary.Sub (Binary 51 binary.And (Number 49 1 true) (Number 53 1 true)) (Number 57 2 false)) (Number 59 0 false)) (Number 61 1 false) (Number 63 0 false)); first = None }) ∷ Object (record { name = codes "d"; pos = 70; ty = ArrayOf (Int) (Cond 84 (Binary 82 binary.Lt (Binary 80 binary.Sub (Binary 75 binary.Or (Number 73 0 true) (Number 77 1 true)) (Number 81 2 false)) (Number 83 0 false)) (Number 85 1 false) (Number 87 0 false)); first = None }) ∷ Function (codes "main") 94 (Int) ([]) (Some (Block (MoreStmt (Return 105 (Some (Number 112 0 false))) (NoStmt)))) ∷ []; end = 115 }
    ∷ record { items = Object (record { name = codes "a"; pos = 4; ty = ArrayOf (Int) (Cond 21 (Binary 19 binary.Lt (Binary 17 binary.Sub (SizeTy 6 (Int)) (Number 18 2 false)) (Number 20 0 false)) (Number 22 1 false) (Number 24 0 false)); first = None }) ∷ Function (codes "main") 31 (Int) ([]) (Some (Block (MoreStmt (Return 42 (Some (Number 49 0 false))) (NoStmt)))) ∷ []; end = 52 }
    ∷ record { items = Object (record { name = codes "b"; pos = 4; ty = ArrayOf (Int) (Number 6 3 false); first = None }) ∷ Object (record { name = codes "a"; pos = 13; ty = ArrayOf (Int) (Cond 26 (Binary 23 binary.Eq (SizeOf 15 (Var 22 (codes "b"))) (Number 25 3 false)) (Number 27 1 false) (Number 29 0 false)); first = None }) ∷ Function (codes "main") 36 (Int) ([]) (Some (Block (MoreStmt (Return 47 (Some (Number 54 0 false))) (NoStmt)))) ∷ []; end = 57 }
    ∷ [])
    ≡ (None ∷ Some (fault.Mismatch 21) ∷ None ∷ [])
int_results_row = refl

-- an array is used as a pointer to its first element except under `sizeof` and `&`; array parameters are pointers
--     typed      int main(void){int a[2];int *p;p=a;p=a+1;}
--     typed      int main(void){int a[2];int b[sizeof a==2?1:0];}
--     Mismatch   int main(void){int a[2];int *p;p=&a;}
--     typed      int f(int a[3]){int *p;a=p;return sizeof a;}int main(void){return 0;}
arrays_row :
    map refusal_of (
    record { items = Function (codes "main") 4 (Int) ([]) (Some (Block (MoreStmt (Local (record { name = codes "a"; pos = 19; ty = ArrayOf (Int) (Number 21 2 false); first = None })) (MoreStmt (Local (record { name = codes "p"; pos = 29; ty = Pointer Int; first = None })) (MoreStmt (Do_expr (Assign 32 None (Var 31 (codes "p")) (Var 33 (codes "a")))) (MoreStmt (Do_expr (Assign 36 None (Var 35 (codes "p")) (Binary 38 binary.Add (Var 37 (codes "a")) (Number 39 1 false)))) (NoStmt))))))) ∷ []; end = 42 }
    ∷ record { items = Function (codes "main") 4 (Int) ([]) (Some (Block (MoreStmt (Local (record { name = codes "a"; pos = 19; ty = ArrayOf (Int) (Number 21 2 false); first = None })) (MoreStmt (Local (record { name = codes "b"; pos = 28; ty = ArrayOf (Int) (Cond 41 (Binary 38 binary.Eq (SizeOf 30 (Var 37 (codes "a"))) (Number 40 2 false)) (Number 42 1 false) (Number 44 0 false)); first = None })) (NoStmt))))) ∷ []; end = 48 }
    ∷ record { items = Function (codes "main") 4 (Int) ([]) (Some (Block (MoreStmt (Local (record { name = codes "a"; pos = 19; ty = ArrayOf (Int) (Number 21 2 false); first = None })) (MoreStmt (Local (record { name = codes "p"; pos = 29; ty = Pointer Int; first = None })) (MoreStmt (Do_expr (Assign 32 None (Var 31 (codes "p")) (Unary 33 unary.Address (Var 34 (codes "a"))))) (NoStmt)))))) ∷ []; end = 37 }
    ∷ record { items = Function (codes "f") 4 (Int) (record { name = codes "a"; pos = 10; ty = ArrayOf (Int) (Number 12 3 false); first = None } ∷ []) (Some (Block (MoreStmt (Local (record { name = codes "p"; pos = 21; ty = Pointer Int; first = None })) (MoreStmt (Do_expr (Assign 24 None (Var 23 (codes "a")) (Var 25 (codes "p")))) (MoreStmt (Return 27 (Some (SizeOf 34 (Var 41 (codes "a"))))) (NoStmt)))))) ∷ Function (codes "main") 48 (Int) ([]) (Some (Block (MoreStmt (Return 59 (Some (Number 66 0 false))) (NoStmt)))) ∷ []; end = 69 }
    ∷ [])
    ≡ (None ∷ None ∷ Some (fault.Mismatch 32) ∷ None ∷ [])
arrays_row = refl

-- what converts without a cast
--     typed      int main(void){int i;unsigned u;char c;i=u;u=c;c=i;}
--     typed      int main(void){int *p;int *q;p=q;}
--     Mismatch   int main(void){int *p;char *q;p=q;}
--     typed      int main(void){void *v;int *p;v=p;p=v;}
--     Mismatch   int main(void){void *v;int (*f)(void);v=f;}
--     Mismatch   int main(void){void *v;int (*f)(void);f=v;}
--     typed      int main(void){int *p;int (*f)(void);p=NULL;p=0;f=NULL;f='\0';p=0u;}
--     Mismatch   int main(void){int *p; p=1;}
--     Mismatch   int main(void){int *p; p=1-1;}
--     Mismatch   int main(void){int i;i=NULL;}
conversions_row :
    map refusal_of (
    record { items = Function (codes "main") 4 (Int) ([]) (Some (Block (MoreStmt (Local (record { name = codes "i"; pos = 19; ty = Int; first = None })) (MoreStmt (Local (record { name = codes "u"; pos = 30; ty = Unsigned; first = None })) (MoreStmt (Local (record { name = codes "c"; pos = 37; ty = Char; first = None })) (MoreStmt (Do_expr (Assign 40 None (Var 39 (codes "i")) (Var 41 (codes "u")))) (MoreStmt (Do_expr (Assign 44 None (Var 43 (codes "u")) (Var 45 (codes "c")))) (MoreStmt (Do_expr (Assign 48 None (Var 47 (codes "c")) (Var 49 (codes "i")))) (NoStmt))))))))) ∷ []; end = 52 }
    ∷ record { items = Function (codes "main") 4 (Int) ([]) (Some (Block (MoreStmt (Local (record { name = codes "p"; pos = 20; ty = Pointer Int; first = None })) (MoreStmt (Local (record { name = codes "q"; pos = 27; ty = Pointer Int; first = None })) (MoreStmt (Do_expr (Assign 30 None (Var 29 (codes "p")) (Var 31 (codes "q")))) (NoStmt)))))) ∷ []; end = 34 }
    ∷ record { items = Function (codes "main") 4 (Int) ([]) (Some (Block (MoreStmt (Local (record { name = codes "p"; pos = 20; ty = Pointer Int; first = None })) (MoreStmt (Local (record { name = codes "q"; pos = 28; ty = Pointer Char; first = None })) (MoreStmt (Do_expr (Assign 31 None (Var 30 (codes "p")) (Var 32 (codes "q")))) (NoStmt)))))) ∷ []; end = 35 }
    ∷ record { items = Function (codes "main") 4 (Int) ([]) (Some (Block (MoreStmt (Local (record { name = codes "v"; pos = 21; ty = Pointer Void; first = None })) (MoreStmt (Local (record { name = codes "p"; pos = 28; ty = Pointer Int; first = None })) (MoreStmt (Do_expr (Assign 31 None (Var 30 (codes "v")) (Var 32 (codes "p")))) (MoreStmt (Do_expr (Assign 35 None (Var 34 (codes "p")) (Var 36 (codes "v")))) (NoStmt))))))) ∷ []; end = 39 }
    ∷ record { items = Function (codes "main") 4 (Int) ([]) (Some (Block (MoreStmt (Local (record { name = codes "v"; pos = 21; ty = Pointer Void; first = None })) (MoreStmt (Local (record { name = codes "f"; pos = 29; ty = Pointer (Func (Int) (NoTy)); first = None })) (MoreStmt (Do_expr (Assign 39 None (Var 38 (codes "v")) (Var 40 (codes "f")))) (NoStmt)))))) ∷ []; end = 43 }
    ∷ record { items = Function (codes "main") 4 (Int) ([]) (Some (Block (MoreStmt (Local (record { name = codes "v"; pos = 21; ty = Pointer Void; first = None })) (MoreStmt (Local (record { name = codes "f"; pos = 29; ty = Pointer (Func (Int) (NoTy)); first = None })) (MoreStmt (Do_expr (Assign 39 None (Var 38 (codes "f")) (Var 40 (codes "v")))) (NoStmt)))))) ∷ []; end = 43 }
    ∷ record { items = Function (codes "main") 4 (Int) ([]) (Some (Block (MoreStmt (Local (record { name = codes "p"; pos = 20; ty = Pointer Int; first = None })) (MoreStmt (Local (record { name = codes "f"; pos = 28; ty = Pointer (Func (Int) (NoTy)); first = None })) (MoreStmt (Do_expr (Assign 38 None (Var 37 (codes "p")) (Null 39))) (MoreStmt (Do_expr (Assign 45 None (Var 44 (codes "p")) (Number 46 0 false))) (MoreStmt (Do_expr (Assign 49 None (Var 48 (codes "f")) (Null 50))) (MoreStmt (Do_expr (Assign 56 None (Var 55 (codes "f")) (Number 57 0 false))) (MoreStmt (Do_expr (Assign 63 None (Var 62 (codes "p")) (Number 64 0 true))) (NoStmt)))))))))) ∷ []; end = 68 }
    ∷ record { items = Function (codes "main") 4 (Int) ([]) (Some (Block (MoreStmt (Local (record { name = codes "p"; pos = 20; ty = Pointer Int; first = None })) (MoreStmt (Do_expr (Assign 24 None (Var 23 (codes "p")) (Number 25 1 false))) (NoStmt))))) ∷ []; end = 28 }
    ∷ record { items = Function (codes "main") 4 (Int) ([]) (Some (Block (MoreStmt (Local (record { name = codes "p"; pos = 20; ty = Pointer Int; first = None })) (MoreStmt (Do_expr (Assign 24 None (Var 23 (codes "p")) (Binary 26 binary.Sub (Number 25 1 false) (Number 27 1 false)))) (NoStmt))))) ∷ []; end = 30 }
    ∷ record { items = Function (codes "main") 4 (Int) ([]) (Some (Block (MoreStmt (Local (record { name = codes "i"; pos = 19; ty = Int; first = None })) (MoreStmt (Do_expr (Assign 22 None (Var 21 (codes "i")) (Null 23))) (NoStmt))))) ∷ []; end = 29 }
    ∷ [])
    ≡ (None ∷ None ∷ Some (fault.Mismatch 31) ∷ None ∷ Some (fault.Mismatch 39) ∷ Some (fault.Mismatch 39) ∷ None ∷ Some (fault.Mismatch 24) ∷ Some (fault.Mismatch 24) ∷ Some (fault.Mismatch 22) ∷ [])
conversions_row = refl

-- a cast converts among arithmetic types, among object pointers, from a function pointer to an equal type, and to void
--     typed      int main(void){int *p;char *q;int i;p=(int*)q;i=(char)1u;(void)p;}
--     Mismatch   int main(void){int *p;p=(int*)1;}
--     Mismatch   int main(void){int *p;int i;i=(int)p;}
--     Mismatch   int main(void){char *q;q=(char*)NULL;}
--     Mismatch   int main(void){int (*f)(void);void *v;v=(void*)f;}
--     typed      int main(void){int (*f)(void);f=(int(*)(void))f;(void)f;}
--     Mismatch   int main(void){int (*f)(void);(int(*)(int))f;}
casts_row :
    map refusal_of (
    record { items = Function (codes "main") 4 (Int) ([]) (Some (Block (MoreStmt (Local (record { name = codes "p"; pos = 20; ty = Pointer Int; first = None })) (MoreStmt (Local (record { name = codes "q"; pos = 28; ty = Pointer Char; first = None })) (MoreStmt (Local (record { name = codes "i"; pos = 34; ty = Int; first = None })) (MoreStmt (Do_expr (Assign 37 None (Var 36 (codes "p")) (Cast 38 (Pointer Int) (Var 44 (codes "q"))))) (MoreStmt (Do_expr (Assign 47 None (Var 46 (codes "i")) (Cast 48 (Char) (Number 54 1 true)))) (MoreStmt (Do_expr (Cast 57 (Void) (Var 63 (codes "p")))) (NoStmt))))))))) ∷ []; end = 66 }
    ∷ record { items = Function (codes "main") 4 (Int) ([]) (Some (Block (MoreStmt (Local (record { name = codes "p"; pos = 20; ty = Pointer Int; first = None })) (MoreStmt (Do_expr (Assign 23 None (Var 22 (codes "p")) (Cast 24 (Pointer Int) (Number 30 1 false)))) (NoStmt))))) ∷ []; end = 33 }
    ∷ record { items = Function (codes "main") 4 (Int) ([]) (Some (Block (MoreStmt (Local (record { name = codes "p"; pos = 20; ty = Pointer Int; first = None })) (MoreStmt (Local (record { name = codes "i"; pos = 26; ty = Int; first = None })) (MoreStmt (Do_expr (Assign 29 None (Var 28 (codes "i")) (Cast 30 (Int) (Var 35 (codes "p"))))) (NoStmt)))))) ∷ []; end = 38 }
    ∷ record { items = Function (codes "main") 4 (Int) ([]) (Some (Block (MoreStmt (Local (record { name = codes "q"; pos = 21; ty = Pointer Char; first = None })) (MoreStmt (Do_expr (Assign 24 None (Var 23 (codes "q")) (Cast 25 (Pointer Char) (Null 32)))) (NoStmt))))) ∷ []; end = 38 }
    ∷ record { items = Function (codes "main") 4 (Int) ([]) (Some (Block (MoreStmt (Local (record { name = codes "f"; pos = 21; ty = Pointer (Func (Int) (NoTy)); first = None })) (MoreStmt (Local (record { name = codes "v"; pos = 36; ty = Pointer Void; first = None })) (MoreStmt (Do_expr (Assign 39 None (Var 38 (codes "v")) (Cast 40 (Pointer Void) (Var 47 (codes "f"))))) (NoStmt)))))) ∷ []; end = 50 }
    ∷ record { items = Function (codes "main") 4 (Int) ([]) (Some (Block (MoreStmt (Local (record { name = codes "f"; pos = 21; ty = Pointer (Func (Int) (NoTy)); first = None })) (MoreStmt (Do_expr (Assign 31 None (Var 30 (codes "f")) (Cast 32 (Pointer (Func (Int) (NoTy))) (Var 46 (codes "f"))))) (MoreStmt (Do_expr (Cast 48 (Void) (Var 54 (codes "f")))) (NoStmt)))))) ∷ []; end = 57 }
    ∷ record { items = Function (codes "main") 4 (Int) ([]) (Some (Block (MoreStmt (Local (record { name = codes "f"; pos = 21; ty = Pointer (Func (Int) (NoTy)); first = None })) (MoreStmt (Do_expr (Cast 30 (Pointer (Func (Int) (MoreTy (Int) (NoTy)))) (Var 43 (codes "f")))) (NoStmt))))) ∷ []; end = 46 }
    ∷ [])
    ≡ (None ∷ Some (fault.Mismatch 24) ∷ Some (fault.Mismatch 30) ∷ Some (fault.Mismatch 25) ∷ Some (fault.Mismatch 40) ∷ None ∷ Some (fault.Mismatch 30) ∷ [])
casts_row = refl

-- a place is a name of an object, `*p`, `a[i]`, `s.m`, `p->m`
--     typed      int main(void){int i;int *p;int a[2];i=1;*p=1;a[0]=1;1[a]=1;}
--     typed      struct t{int m;};int main(void){struct t s;struct t *p;s.m=1;p->m=1;return 0;}
--     NotLvalue  int main(void){int (*f)(void);*f=NULL;}
--     NotLvalue  int main(void){1=2;}
places_row :
    map refusal_of (
    record { items = Function (codes "main") 4 (Int) ([]) (Some (Block (MoreStmt (Local (record { name = codes "i"; pos = 19; ty = Int; first = None })) (MoreStmt (Local (record { name = codes "p"; pos = 26; ty = Pointer Int; first = None })) (MoreStmt (Local (record { name = codes "a"; pos = 32; ty = ArrayOf (Int) (Number 34 2 false); first = None })) (MoreStmt (Do_expr (Assign 38 None (Var 37 (codes "i")) (Number 39 1 false))) (MoreStmt (Do_expr (Assign 43 None (Unary 41 unary.Deref (Var 42 (codes "p"))) (Number 44 1 false))) (MoreStmt (Do_expr (Assign 50 None (Index 47 (Var 46 (codes "a")) (Number 48 0 false)) (Number 51 1 false))) (MoreStmt (Do_expr (Assign 57 None (Index 54 (Number 53 1 false) (Var 55 (codes "a"))) (Number 58 1 false))) (NoStmt)))))))))) ∷ []; end = 61 }
    ∷ record { items = StructItem (record { name = codes "t"; pos = 7; members = record { name = codes "m"; pos = 13; ty = Int; first = None } ∷ [] }) ∷ Function (codes "main") 21 (Int) ([]) (Some (Block (MoreStmt (Local (record { name = codes "s"; pos = 41; ty = Struct (codes "t"); first = None })) (MoreStmt (Local (record { name = codes "p"; pos = 53; ty = Pointer (Struct (codes "t")); first = None })) (MoreStmt (Do_expr (Assign 58 None (Member 56 (Var 55 (codes "s")) (codes "m")) (Number 59 1 false))) (MoreStmt (Do_expr (Assign 65 None (Arrow 62 (Var 61 (codes "p")) (codes "m")) (Number 66 1 false))) (MoreStmt (Return 68 (Some (Number 75 0 false))) (NoStmt)))))))) ∷ []; end = 78 }
    ∷ record { items = Function (codes "main") 4 (Int) ([]) (Some (Block (MoreStmt (Local (record { name = codes "f"; pos = 21; ty = Pointer (Func (Int) (NoTy)); first = None })) (MoreStmt (Do_expr (Assign 32 None (Unary 30 unary.Deref (Var 31 (codes "f"))) (Null 33))) (NoStmt))))) ∷ []; end = 39 }
    ∷ record { items = Function (codes "main") 4 (Int) ([]) (Some (Block (MoreStmt (Do_expr (Assign 16 None (Number 15 1 false) (Number 17 2 false))) (NoStmt)))) ∷ []; end = 20 }
    ∷ [])
    ≡ (None ∷ None ∷ Some (fault.NotLvalue 30) ∷ Some (fault.NotLvalue 15) ∷ [])
places_row = refl

-- assignment needs a place of one word, `&` a place, an array or a function's name
--     NotLvalue  int main(void){int a[1];a=NULL;}
--     NotLvalue  struct t{int m;};int main(void){struct t s;struct t r;s=r;}
--     NotLvalue  int main(void){int i;(i+1)++;}
--     NotLvalue  int main(void){++1;}
--     NotLvalue  int main(void){&1;}
--     typed      int main(void){int i;int *p;char (*f)(void);p=&i;&"a";}
--     typed      int main(void){int (*f)(void);f=&main;}
--     typed      int main(void){int i;i+=1;i<<=2;}
--     NotLvalue  int main(void){1+=2;}
needs_places_row :
    map refusal_of (
    record { items = Function (codes "main") 4 (Int) ([]) (Some (Block (MoreStmt (Local (record { name = codes "a"; pos = 19; ty = ArrayOf (Int) (Number 21 1 false); first = None })) (MoreStmt (Do_expr (Assign 25 None (Var 24 (codes "a")) (Null 26))) (NoStmt))))) ∷ []; end = 32 }
    ∷ record { items = StructItem (record { name = codes "t"; pos = 7; members = record { name = codes "m"; pos = 13; ty = Int; first = None } ∷ [] }) ∷ Function (codes "main") 21 (Int) ([]) (Some (Block (MoreStmt (Local (record { name = codes "s"; pos = 41; ty = Struct (codes "t"); first = None })) (MoreStmt (Local (record { name = codes "r"; pos = 52; ty = Struct (codes "t"); first = None })) (MoreStmt (Do_expr (Assign 55 None (Var 54 (codes "s")) (Var 56 (codes "r")))) (NoStmt)))))) ∷ []; end = 59 }
    ∷ record { items = Function (codes "main") 4 (Int) ([]) (Some (Block (MoreStmt (Local (record { name = codes "i"; pos = 19; ty = Int; first = None })) (MoreStmt (Do_expr (Step 26 step.PostInc (Binary 23 binary.Add (Var 22 (codes "i")) (Number 24 1 false)))) (NoStmt))))) ∷ []; end = 30 }
    ∷ record { items = Function (codes "main") 4 (Int) ([]) (Some (Block (MoreStmt (Do_expr (Step 15 step.PreInc (Number 17 1 false))) (NoStmt)))) ∷ []; end = 20 }
    ∷ record { items = Function (codes "main") 4 (Int) ([]) (Some (Block (MoreStmt (Do_expr (Unary 15 unary.Address (Number 16 1 false))) (NoStmt)))) ∷ []; end = 19 }
    ∷ record { items = Function (codes "main") 4 (Int) ([]) (Some (Block (MoreStmt (Local (record { name = codes "i"; pos = 19; ty = Int; first = None })) (MoreStmt (Local (record { name = codes "p"; pos = 26; ty = Pointer Int; first = None })) (MoreStmt (Local (record { name = codes "f"; pos = 35; ty = Pointer (Func (Char) (NoTy)); first = None })) (MoreStmt (Do_expr (Assign 45 None (Var 44 (codes "p")) (Unary 46 unary.Address (Var 47 (codes "i"))))) (MoreStmt (Do_expr (Unary 49 unary.Address (Str 50 (codes "a")))) (NoStmt)))))))) ∷ []; end = 55 }
    ∷ record { items = Function (codes "main") 4 (Int) ([]) (Some (Block (MoreStmt (Local (record { name = codes "f"; pos = 21; ty = Pointer (Func (Int) (NoTy)); first = None })) (MoreStmt (Do_expr (Assign 31 None (Var 30 (codes "f")) (Unary 32 unary.Address (Var 33 (codes "main"))))) (NoStmt))))) ∷ []; end = 39 }
    ∷ record { items = Function (codes "main") 4 (Int) ([]) (Some (Block (MoreStmt (Local (record { name = codes "i"; pos = 19; ty = Int; first = None })) (MoreStmt (Do_expr (Assign 22 (Some binary.Add) (Var 21 (codes "i")) (Number 24 1 false))) (MoreStmt (Do_expr (Assign 27 (Some binary.Shl) (Var 26 (codes "i")) (Number 30 2 false))) (NoStmt)))))) ∷ []; end = 33 }
    ∷ record { items = Function (codes "main") 4 (Int) ([]) (Some (Block (MoreStmt (Do_expr (Assign 16 (Some binary.Add) (Number 15 1 false) (Number 18 2 false))) (NoStmt)))) ∷ []; end = 21 }
    ∷ [])
    ≡ (Some (fault.NotLvalue 24) ∷ Some (fault.NotLvalue 54) ∷ Some (fault.NotLvalue 23) ∷ Some (fault.NotLvalue 17) ∷ Some (fault.NotLvalue 16) ∷ None ∷ None ∷ None ∷ Some (fault.NotLvalue 15) ∷ [])
needs_places_row = refl

-- lengths are constant expressions of numbers, `sizeof` and the operators without places, of value 1 to 2^22
--     typed      int a[2*3-1];int b[(1,2)];int c[sizeof(int)];int d[1?2:3];int e[(char)3];int main(void){return 0;}
--     Mismatch   int n;int a[n];int main(void){return 0;}
--     Mismatch   int a[0];int main(void){return 0;}
--     typed      int a[4194304];int main(void){return 0;}
--     Mismatch   int a[4194305];int main(void){return 0;}
--     Mismatch   int a[-1];int main(void){return 0;}
--     Unknown    int a[x];int main(void){return 0;}
lengths_row :
    map refusal_of (
    record { items = Object (record { name = codes "a"; pos = 4; ty = ArrayOf (Int) (Binary 9 binary.Sub (Binary 7 binary.Mul (Number 6 2 false) (Number 8 3 false)) (Number 10 1 false)); first = None }) ∷ Object (record { name = codes "b"; pos = 17; ty = ArrayOf (Int) (Comma 21 (Number 20 1 false) (Number 22 2 false)); first = None }) ∷ Object (record { name = codes "c"; pos = 30; ty = ArrayOf (Int) (SizeTy 32 (Int)); first = None }) ∷ Object (record { name = codes "d"; pos = 49; ty = ArrayOf (Int) (Cond 52 (Number 51 1 false) (Number 53 2 false) (Number 55 3 false)); first = None }) ∷ Object (record { name = codes "e"; pos = 62; ty = ArrayOf (Int) (Cast 64 (Char) (Number 70 3 false)); first = None }) ∷ Function (codes "main") 77 (Int) ([]) (Some (Block (MoreStmt (Return 88 (Some (Number 95 0 false))) (NoStmt)))) ∷ []; end = 98 }
    ∷ record { items = Object (record { name = codes "n"; pos = 4; ty = Int; first = None }) ∷ Object (record { name = codes "a"; pos = 10; ty = ArrayOf (Int) (Var 12 (codes "n")); first = None }) ∷ Function (codes "main") 19 (Int) ([]) (Some (Block (MoreStmt (Return 30 (Some (Number 37 0 false))) (NoStmt)))) ∷ []; end = 40 }
    ∷ record { items = Object (record { name = codes "a"; pos = 4; ty = ArrayOf (Int) (Number 6 0 false); first = None }) ∷ Function (codes "main") 13 (Int) ([]) (Some (Block (MoreStmt (Return 24 (Some (Number 31 0 false))) (NoStmt)))) ∷ []; end = 34 }
    ∷ record { items = Object (record { name = codes "a"; pos = 4; ty = ArrayOf (Int) (Number 6 4194304 false); first = None }) ∷ Function (codes "main") 19 (Int) ([]) (Some (Block (MoreStmt (Return 30 (Some (Number 37 0 false))) (NoStmt)))) ∷ []; end = 40 }
    ∷ record { items = Object (record { name = codes "a"; pos = 4; ty = ArrayOf (Int) (Number 6 4194305 false); first = None }) ∷ Function (codes "main") 19 (Int) ([]) (Some (Block (MoreStmt (Return 30 (Some (Number 37 0 false))) (NoStmt)))) ∷ []; end = 40 }
    ∷ record { items = Object (record { name = codes "a"; pos = 4; ty = ArrayOf (Int) (Unary 6 unary.Minus (Number 7 1 false)); first = None }) ∷ Function (codes "main") 14 (Int) ([]) (Some (Block (MoreStmt (Return 25 (Some (Number 32 0 false))) (NoStmt)))) ∷ []; end = 35 }
    ∷ record { items = Object (record { name = codes "a"; pos = 4; ty = ArrayOf (Int) (Var 6 (codes "x")); first = None }) ∷ Function (codes "main") 13 (Int) ([]) (Some (Block (MoreStmt (Return 24 (Some (Number 31 0 false))) (NoStmt)))) ∷ []; end = 34 }
    ∷ [])
    ≡ (None ∷ Some (fault.Mismatch 12) ∷ Some (fault.Mismatch 6) ∷ None ∷ Some (fault.Mismatch 6) ∷ Some (fault.Mismatch 6) ∷ Some (fault.Unknown 6) ∷ [])
lengths_row = refl

-- an empty length needs an initialiser or is a parameter's
--     typed      int a[]={1,2};int b[sizeof a==2?1:0];int main(void){return 0;}
--     Mismatch   int a[];int main(void){return 0;}
--     typed      int f(int a[]){return a[0];}int main(void){return 0;}
--     Mismatch   int a[2][]={{1}};int main(void){return 0;}
empty_lengths_row :
    map refusal_of (
    record { items = Object (record { name = codes "a"; pos = 4; ty = Array (Int); first = Some (Many (MoreValue (One (Number 9 1 false)) (MoreValue (One (Number 11 2 false)) (NoValue)))) }) ∷ Object (record { name = codes "b"; pos = 18; ty = ArrayOf (Int) (Cond 31 (Binary 28 binary.Eq (SizeOf 20 (Var 27 (codes "a"))) (Number 30 2 false)) (Number 32 1 false) (Number 34 0 false)); first = None }) ∷ Function (codes "main") 41 (Int) ([]) (Some (Block (MoreStmt (Return 52 (Some (Number 59 0 false))) (NoStmt)))) ∷ []; end = 62 }
    ∷ record { items = Object (record { name = codes "a"; pos = 4; ty = Array (Int); first = None }) ∷ Function (codes "main") 12 (Int) ([]) (Some (Block (MoreStmt (Return 23 (Some (Number 30 0 false))) (NoStmt)))) ∷ []; end = 33 }
    ∷ record { items = Function (codes "f") 4 (Int) (record { name = codes "a"; pos = 10; ty = Array (Int); first = None } ∷ []) (Some (Block (MoreStmt (Return 15 (Some (Index 23 (Var 22 (codes "a")) (Number 24 0 false)))) (NoStmt)))) ∷ Function (codes "main") 32 (Int) ([]) (Some (Block (MoreStmt (Return 43 (Some (Number 50 0 false))) (NoStmt)))) ∷ []; end = 53 }
    ∷ record { items = Object (record { name = codes "a"; pos = 4; ty = ArrayOf (Array (Int)) (Number 6 2 false); first = Some (Many (MoreValue (Many (MoreValue (One (Number 13 1 false)) (NoValue))) (NoValue))) }) ∷ Function (codes "main") 21 (Int) ([]) (Some (Block (MoreStmt (Return 32 (Some (Number 39 0 false))) (NoStmt)))) ∷ []; end = 42 }
    ∷ [])
    ≡ (None ∷ Some (fault.Mismatch 4) ∷ None ∷ Some (fault.Mismatch 4) ∷ [])
empty_lengths_row = refl

-- a zero divisor or a shift count of 24 or more that an evaluation meets
--     Mismatch   int a[1/0];int main(void){return 0;}
--     Mismatch   int a[1%0];int main(void){return 0;}
--     Mismatch   int a[1<<24];int main(void){return 0;}
--     Mismatch   int a[1>>-1];int main(void){return 0;}
--     typed      int a[1||1/0];int b[0&&1/0?0:1];int c[0?1/0:1];int main(void){return 0;}
--     Mismatch   int a[(1/0,1)];int main(void){return 0;}
zero_divisors_row :
    map refusal_of (
    record { items = Object (record { name = codes "a"; pos = 4; ty = ArrayOf (Int) (Binary 7 binary.Div (Number 6 1 false) (Number 8 0 false)); first = None }) ∷ Function (codes "main") 15 (Int) ([]) (Some (Block (MoreStmt (Return 26 (Some (Number 33 0 false))) (NoStmt)))) ∷ []; end = 36 }
    ∷ record { items = Object (record { name = codes "a"; pos = 4; ty = ArrayOf (Int) (Binary 7 binary.Mod (Number 6 1 false) (Number 8 0 false)); first = None }) ∷ Function (codes "main") 15 (Int) ([]) (Some (Block (MoreStmt (Return 26 (Some (Number 33 0 false))) (NoStmt)))) ∷ []; end = 36 }
    ∷ record { items = Object (record { name = codes "a"; pos = 4; ty = ArrayOf (Int) (Binary 7 binary.Shl (Number 6 1 false) (Number 9 24 false)); first = None }) ∷ Function (codes "main") 17 (Int) ([]) (Some (Block (MoreStmt (Return 28 (Some (Number 35 0 false))) (NoStmt)))) ∷ []; end = 38 }
    ∷ record { items = Object (record { name = codes "a"; pos = 4; ty = ArrayOf (Int) (Binary 7 binary.Shr (Number 6 1 false) (Unary 9 unary.Minus (Number 10 1 false))); first = None }) ∷ Function (codes "main") 17 (Int) ([]) (Some (Block (MoreStmt (Return 28 (Some (Number 35 0 false))) (NoStmt)))) ∷ []; end = 38 }
    ∷ record { items = Object (record { name = codes "a"; pos = 4; ty = ArrayOf (Int) (Binary 7 binary.Or (Number 6 1 false) (Binary 10 binary.Div (Number 9 1 false) (Number 11 0 false))); first = None }) ∷ Object (record { name = codes "b"; pos = 18; ty = ArrayOf (Int) (Cond 26 (Binary 21 binary.And (Number 20 0 false) (Binary 24 binary.Div (Number 23 1 false) (Number 25 0 false))) (Number 27 0 false) (Number 29 1 false)); first = None }) ∷ Object (record { name = codes "c"; pos = 36; ty = ArrayOf (Int) (Cond 39 (Number 38 0 false) (Binary 41 binary.Div (Number 40 1 false) (Number 42 0 false)) (Number 44 1 false)); first = None }) ∷ Function (codes "main") 51 (Int) ([]) (Some (Block (MoreStmt (Return 62 (Some (Number 69 0 false))) (NoStmt)))) ∷ []; end = 72 }
    ∷ record { items = Object (record { name = codes "a"; pos = 4; ty = ArrayOf (Int) (Comma 10 (Binary 8 binary.Div (Number 7 1 false) (Number 9 0 false)) (Number 11 1 false)); first = None }) ∷ Function (codes "main") 19 (Int) ([]) (Some (Block (MoreStmt (Return 30 (Some (Number 37 0 false))) (NoStmt)))) ∷ []; end = 40 }
    ∷ [])
    ≡ (Some (fault.Mismatch 7) ∷ Some (fault.Mismatch 7) ∷ Some (fault.Mismatch 7) ∷ Some (fault.Mismatch 7) ∷ None ∷ Some (fault.Mismatch 8) ∷ [])
zero_divisors_row = refl

-- an initialiser with braces goes level by level; what is missing is 0 or null
--     typed      int a[2][2]={{1,2},{3}};int main(void){return 0;}
--     typed      struct t{int x;int a[2];};struct t s={1,{2,3}};int main(void){return 0;}
--     Mismatch   int a[2][2]={1,2};int main(void){return 0;}
--     Mismatch   int a[1]={1,2};int main(void){return 0;}
--     Mismatch   int a={1};int main(void){return 0;}
--     Unknown    int a[1]={1,x};int main(void){return 0;}
levels_row :
    map refusal_of (
    record { items = Object (record { name = codes "a"; pos = 4; ty = ArrayOf (ArrayOf (Int) (Number 9 2 false)) (Number 6 2 false); first = Some (Many (MoreValue (Many (MoreValue (One (Number 14 1 false)) (MoreValue (One (Number 16 2 false)) (NoValue)))) (MoreValue (Many (MoreValue (One (Number 20 3 false)) (NoValue))) (NoValue)))) }) ∷ Function (codes "main") 28 (Int) ([]) (Some (Block (MoreStmt (Return 39 (Some (Number 46 0 false))) (NoStmt)))) ∷ []; end = 49 }
    ∷ record { items = StructItem (record { name = codes "t"; pos = 7; members = record { name = codes "x"; pos = 13; ty = Int; first = None } ∷ record { name = codes "a"; pos = 19; ty = ArrayOf (Int) (Number 21 2 false); first = None } ∷ [] }) ∷ Object (record { name = codes "s"; pos = 35; ty = Struct (codes "t"); first = Some (Many (MoreValue (One (Number 38 1 false)) (MoreValue (Many (MoreValue (One (Number 41 2 false)) (MoreValue (One (Number 43 3 false)) (NoValue)))) (NoValue)))) }) ∷ Function (codes "main") 51 (Int) ([]) (Some (Block (MoreStmt (Return 62 (Some (Number 69 0 false))) (NoStmt)))) ∷ []; end = 72 }
    ∷ record { items = Object (record { name = codes "a"; pos = 4; ty = ArrayOf (ArrayOf (Int) (Number 9 2 false)) (Number 6 2 false); first = Some (Many (MoreValue (One (Number 13 1 false)) (MoreValue (One (Number 15 2 false)) (NoValue)))) }) ∷ Function (codes "main") 22 (Int) ([]) (Some (Block (MoreStmt (Return 33 (Some (Number 40 0 false))) (NoStmt)))) ∷ []; end = 43 }
    ∷ record { items = Object (record { name = codes "a"; pos = 4; ty = ArrayOf (Int) (Number 6 1 false); first = Some (Many (MoreValue (One (Number 10 1 false)) (MoreValue (One (Number 12 2 false)) (NoValue)))) }) ∷ Function (codes "main") 19 (Int) ([]) (Some (Block (MoreStmt (Return 30 (Some (Number 37 0 false))) (NoStmt)))) ∷ []; end = 40 }
    ∷ record { items = Object (record { name = codes "a"; pos = 4; ty = Int; first = Some (Many (MoreValue (One (Number 7 1 false)) (NoValue))) }) ∷ Function (codes "main") 14 (Int) ([]) (Some (Block (MoreStmt (Return 25 (Some (Number 32 0 false))) (NoStmt)))) ∷ []; end = 35 }
    ∷ record { items = Object (record { name = codes "a"; pos = 4; ty = ArrayOf (Int) (Number 6 1 false); first = Some (Many (MoreValue (One (Number 10 1 false)) (MoreValue (One (Var 12 (codes "x"))) (NoValue)))) }) ∷ Function (codes "main") 19 (Int) ([]) (Some (Block (MoreStmt (Return 30 (Some (Number 37 0 false))) (NoStmt)))) ∷ []; end = 40 }
    ∷ [])
    ≡ (None ∷ None ∷ Some (fault.Mismatch 13) ∷ Some (fault.Mismatch 4) ∷ Some (fault.Mismatch 4) ∷ Some (fault.Unknown 12) ∷ [])
levels_row = refl

-- a char array may take a string, with its zero if there is room
--     typed      char a[3]="abc";unsigned char b[4]="abc";char c[]="abc";int d[sizeof c==4?1:0];int main(void){return 0;}
--     Mismatch   char a[2]="abc";int main(void){return 0;}
--     Mismatch   int a[4]="abc";int main(void){return 0;}
--     Mismatch   char a[2]={"b"};int main(void){return 0;}
strings_row :
    map refusal_of (
    record { items = Object (record { name = codes "a"; pos = 5; ty = ArrayOf (Char) (Number 7 3 false); first = Some (One (Str 10 (codes "abc"))) }) ∷ Object (record { name = codes "b"; pos = 30; ty = ArrayOf (UChar) (Number 32 4 false); first = Some (One (Str 35 (codes "abc"))) }) ∷ Object (record { name = codes "c"; pos = 46; ty = Array (Char); first = Some (One (Str 50 (codes "abc"))) }) ∷ Object (record { name = codes "d"; pos = 60; ty = ArrayOf (Int) (Cond 73 (Binary 70 binary.Eq (SizeOf 62 (Var 69 (codes "c"))) (Number 72 4 false)) (Number 74 1 false) (Number 76 0 false)); first = None }) ∷ Function (codes "main") 83 (Int) ([]) (Some (Block (MoreStmt (Return 94 (Some (Number 101 0 false))) (NoStmt)))) ∷ []; end = 104 }
    ∷ record { items = Object (record { name = codes "a"; pos = 5; ty = ArrayOf (Char) (Number 7 2 false); first = Some (One (Str 10 (codes "abc"))) }) ∷ Function (codes "main") 20 (Int) ([]) (Some (Block (MoreStmt (Return 31 (Some (Number 38 0 false))) (NoStmt)))) ∷ []; end = 41 }
    ∷ record { items = Object (record { name = codes "a"; pos = 4; ty = ArrayOf (Int) (Number 6 4 false); first = Some (One (Str 9 (codes "abc"))) }) ∷ Function (codes "main") 19 (Int) ([]) (Some (Block (MoreStmt (Return 30 (Some (Number 37 0 false))) (NoStmt)))) ∷ []; end = 40 }
    ∷ record { items = Object (record { name = codes "a"; pos = 5; ty = ArrayOf (Char) (Number 7 2 false); first = Some (Many (MoreValue (One (Str 11 (codes "b"))) (NoValue))) }) ∷ Function (codes "main") 20 (Int) ([]) (Some (Block (MoreStmt (Return 31 (Some (Number 38 0 false))) (NoStmt)))) ∷ []; end = 41 }
    ∷ [])
    ≡ (None ∷ Some (fault.Mismatch 10) ∷ Some (fault.Mismatch 9) ∷ Some (fault.Mismatch 11) ∷ [])
strings_row = refl

-- at file scope: constant expressions, strings, NULL, `&name`, array names and names of functions
--     typed      int i;int a[2];int f(void){return 0;}int *p=&i;int *q=a;int (*g)(void)=f;char *s="x";int *n=NULL;int k=1+2;int main(void){return 0;}
--     Mismatch   int i;int j=i;int main(void){return 0;}
--     Mismatch   int a[2];int *p=&a[1];int main(void){return 0;}
--     Mismatch   int i=1/0;int main(void){return 0;}
--     typed      int main(void){int i=0;int j=i;int k=1/0;}
file_values_row :
    map refusal_of (
    record { items = Object (record { name = codes "i"; pos = 4; ty = Int; first = None }) ∷ Object (record { name = codes "a"; pos = 10; ty = ArrayOf (Int) (Number 12 2 false); first = None }) ∷ Function (codes "f") 19 (Int) ([]) (Some (Block (MoreStmt (Return 27 (Some (Number 34 0 false))) (NoStmt)))) ∷ Object (record { name = codes "p"; pos = 42; ty = Pointer Int; first = Some (One (Unary 44 unary.Address (Var 45 (codes "i")))) }) ∷ Object (record { name = codes "q"; pos = 52; ty = Pointer Int; first = Some (One (Var 54 (codes "a"))) }) ∷ Object (record { name = codes "g"; pos = 62; ty = Pointer (Func (Int) (NoTy)); first = Some (One (Var 71 (codes "f"))) }) ∷ Object (record { name = codes "s"; pos = 79; ty = Pointer Char; first = Some (One (Str 81 (codes "x"))) }) ∷ Object (record { name = codes "n"; pos = 90; ty = Pointer Int; first = Some (One (Null 92)) }) ∷ Object (record { name = codes "k"; pos = 101; ty = Int; first = Some (One (Binary 104 binary.Add (Number 103 1 false) (Number 105 2 false))) }) ∷ Function (codes "main") 111 (Int) ([]) (Some (Block (MoreStmt (Return 122 (Some (Number 129 0 false))) (NoStmt)))) ∷ []; end = 132 }
    ∷ record { items = Object (record { name = codes "i"; pos = 4; ty = Int; first = None }) ∷ Object (record { name = codes "j"; pos = 10; ty = Int; first = Some (One (Var 12 (codes "i"))) }) ∷ Function (codes "main") 18 (Int) ([]) (Some (Block (MoreStmt (Return 29 (Some (Number 36 0 false))) (NoStmt)))) ∷ []; end = 39 }
    ∷ record { items = Object (record { name = codes "a"; pos = 4; ty = ArrayOf (Int) (Number 6 2 false); first = None }) ∷ Object (record { name = codes "p"; pos = 14; ty = Pointer Int; first = Some (One (Unary 16 unary.Address (Index 18 (Var 17 (codes "a")) (Number 19 1 false)))) }) ∷ Function (codes "main") 26 (Int) ([]) (Some (Block (MoreStmt (Return 37 (Some (Number 44 0 false))) (NoStmt)))) ∷ []; end = 47 }
    ∷ record { items = Object (record { name = codes "i"; pos = 4; ty = Int; first = Some (One (Binary 7 binary.Div (Number 6 1 false) (Number 8 0 false))) }) ∷ Function (codes "main") 14 (Int) ([]) (Some (Block (MoreStmt (Return 25 (Some (Number 32 0 false))) (NoStmt)))) ∷ []; end = 35 }
    ∷ record { items = Function (codes "main") 4 (Int) ([]) (Some (Block (MoreStmt (Local (record { name = codes "i"; pos = 19; ty = Int; first = Some (One (Number 21 0 false)) })) (MoreStmt (Local (record { name = codes "j"; pos = 27; ty = Int; first = Some (One (Var 29 (codes "i"))) })) (MoreStmt (Local (record { name = codes "k"; pos = 35; ty = Int; first = Some (One (Binary 38 binary.Div (Number 37 1 false) (Number 39 0 false))) })) (NoStmt)))))) ∷ []; end = 42 }
    ∷ [])
    ≡ (None ∷ Some (fault.Mismatch 12) ∷ Some (fault.Mismatch 16) ∷ Some (fault.Mismatch 7) ∷ None ∷ [])
file_values_row = refl

-- Unknown: a name, tag or member that isn't declared before
--     Unknown    int main(void){return x;}
--     Unknown    int main(void){struct t *p;}
--     Unknown    struct t{int m;};int main(void){struct t s;s.n;}
--     Unknown    struct t{int m;};int main(void){struct t *p;p->n;}
--     Unknown    int main(void){f(1);}
--     Unknown    int main(void){{int i;}return i;}
--     Unknown    int main(void){for(int i=0;i<2;i++)putchar(i);return i;}
--     typed      int main(void){int i=i;}
unknown_row :
    map refusal_of (
    record { items = Function (codes "main") 4 (Int) ([]) (Some (Block (MoreStmt (Return 15 (Some (Var 22 (codes "x")))) (NoStmt)))) ∷ []; end = 25 }
    ∷ record { items = Function (codes "main") 4 (Int) ([]) (Some (Block (MoreStmt (Local (record { name = codes "p"; pos = 25; ty = Pointer (Struct (codes "t")); first = None })) (NoStmt)))) ∷ []; end = 28 }
    ∷ record { items = StructItem (record { name = codes "t"; pos = 7; members = record { name = codes "m"; pos = 13; ty = Int; first = None } ∷ [] }) ∷ Function (codes "main") 21 (Int) ([]) (Some (Block (MoreStmt (Local (record { name = codes "s"; pos = 41; ty = Struct (codes "t"); first = None })) (MoreStmt (Do_expr (Member 44 (Var 43 (codes "s")) (codes "n"))) (NoStmt))))) ∷ []; end = 48 }
    ∷ record { items = StructItem (record { name = codes "t"; pos = 7; members = record { name = codes "m"; pos = 13; ty = Int; first = None } ∷ [] }) ∷ Function (codes "main") 21 (Int) ([]) (Some (Block (MoreStmt (Local (record { name = codes "p"; pos = 42; ty = Pointer (Struct (codes "t")); first = None })) (MoreStmt (Do_expr (Arrow 45 (Var 44 (codes "p")) (codes "n"))) (NoStmt))))) ∷ []; end = 50 }
    ∷ record { items = Function (codes "main") 4 (Int) ([]) (Some (Block (MoreStmt (Do_expr (Call 16 (Var 15 (codes "f")) (MoreExpr (Number 17 1 false) (NoExpr)))) (NoStmt)))) ∷ []; end = 21 }
    ∷ record { items = Function (codes "main") 4 (Int) ([]) (Some (Block (MoreStmt (Block (MoreStmt (Local (record { name = codes "i"; pos = 20; ty = Int; first = None })) (NoStmt))) (MoreStmt (Return 23 (Some (Var 30 (codes "i")))) (NoStmt))))) ∷ []; end = 33 }
    ∷ record { items = Function (codes "main") 4 (Int) ([]) (Some (Block (MoreStmt (For (Block (MoreStmt (Local (record { name = codes "i"; pos = 23; ty = Int; first = Some (One (Number 25 0 false)) })) (NoStmt))) (Some (Binary 28 binary.Lt (Var 27 (codes "i")) (Number 29 2 false))) (Some (Step 32 step.PostInc (Var 31 (codes "i")))) (Do_expr (Call 42 (Var 35 (codes "putchar")) (MoreExpr (Var 43 (codes "i")) (NoExpr))))) (MoreStmt (Return 46 (Some (Var 53 (codes "i")))) (NoStmt))))) ∷ []; end = 56 }
    ∷ record { items = Function (codes "main") 4 (Int) ([]) (Some (Block (MoreStmt (Local (record { name = codes "i"; pos = 19; ty = Int; first = Some (One (Var 21 (codes "i"))) })) (NoStmt)))) ∷ []; end = 24 }
    ∷ [])
    ≡ (Some (fault.Unknown 22) ∷ Some (fault.Unknown 25) ∷ Some (fault.Unknown 44) ∷ Some (fault.Unknown 45) ∷ Some (fault.Unknown 16) ∷ Some (fault.Unknown 30) ∷ Some (fault.Unknown 53) ∷ None ∷ [])
unknown_row = refl

-- Twice: a second declaration of a name in its scope
--     Twice      int a; int a;
--     typed      int main(void){int i;{int i;}}
--     Twice      int main(void){int i;int i;}
--     Twice      struct t{int m;};struct t{int m;};int main(void){return 0;}
--     Twice      struct t{int m;int m;};int main(void){return 0;}
--     typed      int main(void){for(int i=0;;){int i;}}
twice_row :
    map refusal_of (
    record { items = Object (record { name = codes "a"; pos = 4; ty = Int; first = None }) ∷ Object (record { name = codes "a"; pos = 11; ty = Int; first = None }) ∷ []; end = 13 }
    ∷ record { items = Function (codes "main") 4 (Int) ([]) (Some (Block (MoreStmt (Local (record { name = codes "i"; pos = 19; ty = Int; first = None })) (MoreStmt (Block (MoreStmt (Local (record { name = codes "i"; pos = 26; ty = Int; first = None })) (NoStmt))) (NoStmt))))) ∷ []; end = 30 }
    ∷ record { items = Function (codes "main") 4 (Int) ([]) (Some (Block (MoreStmt (Local (record { name = codes "i"; pos = 19; ty = Int; first = None })) (MoreStmt (Local (record { name = codes "i"; pos = 25; ty = Int; first = None })) (NoStmt))))) ∷ []; end = 28 }
    ∷ record { items = StructItem (record { name = codes "t"; pos = 7; members = record { name = codes "m"; pos = 13; ty = Int; first = None } ∷ [] }) ∷ StructItem (record { name = codes "t"; pos = 24; members = record { name = codes "m"; pos = 30; ty = Int; first = None } ∷ [] }) ∷ Function (codes "main") 38 (Int) ([]) (Some (Block (MoreStmt (Return 49 (Some (Number 56 0 false))) (NoStmt)))) ∷ []; end = 59 }
    ∷ record { items = StructItem (record { name = codes "t"; pos = 7; members = record { name = codes "m"; pos = 13; ty = Int; first = None } ∷ record { name = codes "m"; pos = 19; ty = Int; first = None } ∷ [] }) ∷ Function (codes "main") 27 (Int) ([]) (Some (Block (MoreStmt (Return 38 (Some (Number 45 0 false))) (NoStmt)))) ∷ []; end = 48 }
    ∷ record { items = Function (codes "main") 4 (Int) ([]) (Some (Block (MoreStmt (For (Block (MoreStmt (Local (record { name = codes "i"; pos = 23; ty = Int; first = Some (One (Number 25 0 false)) })) (NoStmt))) None None (Block (MoreStmt (Local (record { name = codes "i"; pos = 34; ty = Int; first = None })) (NoStmt)))) (NoStmt)))) ∷ []; end = 38 }
    ∷ [])
    ≡ (Some (fault.Twice 11) ∷ None ∷ Some (fault.Twice 25) ∷ Some (fault.Twice 24) ∷ Some (fault.Twice 19) ∷ None ∷ [])
twice_row = refl

-- prototypes and the one definition agree; parameters share the scope of the body's outer block
--     typed      int f(int);int f(int a);int f(int a){return a;}int f(int);int main(void){return 0;}
--     Twice      int f(int);int f(void);int main(void){return 0;}
--     Twice      int f(void){return 0;}int f(void){return 0;}int main(void){return 0;}
--     Twice      int f;int f(void){return 0;}int main(void){return 0;}
--     Twice      int f(int a,int a){return 0;}int main(void){return 0;}
--     Twice      int f(int a){int a;return 0;}int main(void){return 0;}
--     typed      int f(int a){{int a;}return 0;}int main(void){return 0;}
--     typed      int putchar(int c);int main(void){return 0;}
--     Twice      int putchar(int c){return c;}int main(void){return 0;}
--     Twice      int puts;int main(void){return 0;}
functions_twice_row :
    map refusal_of (
    record { items = Function (codes "f") 4 (Int) (record { name = []; pos = 6; ty = Int; first = None } ∷ []) None ∷ Function (codes "f") 15 (Int) (record { name = codes "a"; pos = 21; ty = Int; first = None } ∷ []) None ∷ Function (codes "f") 28 (Int) (record { name = codes "a"; pos = 34; ty = Int; first = None } ∷ []) (Some (Block (MoreStmt (Return 37 (Some (Var 44 (codes "a")))) (NoStmt)))) ∷ Function (codes "f") 51 (Int) (record { name = []; pos = 53; ty = Int; first = None } ∷ []) None ∷ Function (codes "main") 62 (Int) ([]) (Some (Block (MoreStmt (Return 73 (Some (Number 80 0 false))) (NoStmt)))) ∷ []; end = 83 }
    ∷ record { items = Function (codes "f") 4 (Int) (record { name = []; pos = 6; ty = Int; first = None } ∷ []) None ∷ Function (codes "f") 15 (Int) ([]) None ∷ Function (codes "main") 27 (Int) ([]) (Some (Block (MoreStmt (Return 38 (Some (Number 45 0 false))) (NoStmt)))) ∷ []; end = 48 }
    ∷ record { items = Function (codes "f") 4 (Int) ([]) (Some (Block (MoreStmt (Return 12 (Some (Number 19 0 false))) (NoStmt)))) ∷ Function (codes "f") 26 (Int) ([]) (Some (Block (MoreStmt (Return 34 (Some (Number 41 0 false))) (NoStmt)))) ∷ Function (codes "main") 48 (Int) ([]) (Some (Block (MoreStmt (Return 59 (Some (Number 66 0 false))) (NoStmt)))) ∷ []; end = 69 }
    ∷ record { items = Object (record { name = codes "f"; pos = 4; ty = Int; first = None }) ∷ Function (codes "f") 10 (Int) ([]) (Some (Block (MoreStmt (Return 18 (Some (Number 25 0 false))) (NoStmt)))) ∷ Function (codes "main") 32 (Int) ([]) (Some (Block (MoreStmt (Return 43 (Some (Number 50 0 false))) (NoStmt)))) ∷ []; end = 53 }
    ∷ record { items = Function (codes "f") 4 (Int) (record { name = codes "a"; pos = 10; ty = Int; first = None } ∷ record { name = codes "a"; pos = 16; ty = Int; first = None } ∷ []) (Some (Block (MoreStmt (Return 19 (Some (Number 26 0 false))) (NoStmt)))) ∷ Function (codes "main") 33 (Int) ([]) (Some (Block (MoreStmt (Return 44 (Some (Number 51 0 false))) (NoStmt)))) ∷ []; end = 54 }
    ∷ record { items = Function (codes "f") 4 (Int) (record { name = codes "a"; pos = 10; ty = Int; first = None } ∷ []) (Some (Block (MoreStmt (Local (record { name = codes "a"; pos = 17; ty = Int; first = None })) (MoreStmt (Return 19 (Some (Number 26 0 false))) (NoStmt))))) ∷ Function (codes "main") 33 (Int) ([]) (Some (Block (MoreStmt (Return 44 (Some (Number 51 0 false))) (NoStmt)))) ∷ []; end = 54 }
    ∷ record { items = Function (codes "f") 4 (Int) (record { name = codes "a"; pos = 10; ty = Int; first = None } ∷ []) (Some (Block (MoreStmt (Block (MoreStmt (Local (record { name = codes "a"; pos = 18; ty = Int; first = None })) (NoStmt))) (MoreStmt (Return 21 (Some (Number 28 0 false))) (NoStmt))))) ∷ Function (codes "main") 35 (Int) ([]) (Some (Block (MoreStmt (Return 46 (Some (Number 53 0 false))) (NoStmt)))) ∷ []; end = 56 }
    ∷ record { items = Function (codes "putchar") 4 (Int) (record { name = codes "c"; pos = 16; ty = Int; first = None } ∷ []) None ∷ Function (codes "main") 23 (Int) ([]) (Some (Block (MoreStmt (Return 34 (Some (Number 41 0 false))) (NoStmt)))) ∷ []; end = 44 }
    ∷ record { items = Function (codes "putchar") 4 (Int) (record { name = codes "c"; pos = 16; ty = Int; first = None } ∷ []) (Some (Block (MoreStmt (Return 19 (Some (Var 26 (codes "c")))) (NoStmt)))) ∷ Function (codes "main") 33 (Int) ([]) (Some (Block (MoreStmt (Return 44 (Some (Number 51 0 false))) (NoStmt)))) ∷ []; end = 54 }
    ∷ record { items = Object (record { name = codes "puts"; pos = 4; ty = Int; first = None }) ∷ Function (codes "main") 13 (Int) ([]) (Some (Block (MoreStmt (Return 24 (Some (Number 31 0 false))) (NoStmt)))) ∷ []; end = 34 }
    ∷ [])
    ≡ (None ∷ Some (fault.Twice 15) ∷ Some (fault.Twice 26) ∷ Some (fault.Twice 10) ∷ Some (fault.Twice 16) ∷ Some (fault.Twice 17) ∷ None ∷ None ∷ Some (fault.Twice 4) ∷ Some (fault.Twice 4) ∷ [])
functions_twice_row = refl

-- BadCall: a wrong number of arguments, no definition, no function or pointer to one
--     BadCall    int main(void){getchar(1);}
--     BadCall    int f(int);int main(void){return f(1);}
--     typed      int f(int);int main(void){return f(1);}int f(int a){return a;}
--     BadCall    int main(void){int i;i(1);}
--     BadCall    int main(void){return 1(2);}
--     BadCall    int main(void){int putchar;putchar(1);}
--     BadCall    int main(void){int (*p)(int);p();}
bad_calls_row :
    map refusal_of (
    record { items = Function (codes "main") 4 (Int) ([]) (Some (Block (MoreStmt (Do_expr (Call 22 (Var 15 (codes "getchar")) (MoreExpr (Number 23 1 false) (NoExpr)))) (NoStmt)))) ∷ []; end = 27 }
    ∷ record { items = Function (codes "f") 4 (Int) (record { name = []; pos = 6; ty = Int; first = None } ∷ []) None ∷ Function (codes "main") 15 (Int) ([]) (Some (Block (MoreStmt (Return 26 (Some (Call 34 (Var 33 (codes "f")) (MoreExpr (Number 35 1 false) (NoExpr))))) (NoStmt)))) ∷ []; end = 39 }
    ∷ record { items = Function (codes "f") 4 (Int) (record { name = []; pos = 6; ty = Int; first = None } ∷ []) None ∷ Function (codes "main") 15 (Int) ([]) (Some (Block (MoreStmt (Return 26 (Some (Call 34 (Var 33 (codes "f")) (MoreExpr (Number 35 1 false) (NoExpr))))) (NoStmt)))) ∷ Function (codes "f") 43 (Int) (record { name = codes "a"; pos = 49; ty = Int; first = None } ∷ []) (Some (Block (MoreStmt (Return 52 (Some (Var 59 (codes "a")))) (NoStmt)))) ∷ []; end = 62 }
    ∷ record { items = Function (codes "main") 4 (Int) ([]) (Some (Block (MoreStmt (Local (record { name = codes "i"; pos = 19; ty = Int; first = None })) (MoreStmt (Do_expr (Call 22 (Var 21 (codes "i")) (MoreExpr (Number 23 1 false) (NoExpr)))) (NoStmt))))) ∷ []; end = 27 }
    ∷ record { items = Function (codes "main") 4 (Int) ([]) (Some (Block (MoreStmt (Return 15 (Some (Call 23 (Number 22 1 false) (MoreExpr (Number 24 2 false) (NoExpr))))) (NoStmt)))) ∷ []; end = 28 }
    ∷ record { items = Function (codes "main") 4 (Int) ([]) (Some (Block (MoreStmt (Local (record { name = codes "putchar"; pos = 19; ty = Int; first = None })) (MoreStmt (Do_expr (Call 34 (Var 27 (codes "putchar")) (MoreExpr (Number 35 1 false) (NoExpr)))) (NoStmt))))) ∷ []; end = 39 }
    ∷ record { items = Function (codes "main") 4 (Int) ([]) (Some (Block (MoreStmt (Local (record { name = codes "p"; pos = 21; ty = Pointer (Func (Int) (MoreTy (Int) (NoTy))); first = None })) (MoreStmt (Do_expr (Call 30 (Var 29 (codes "p")) (NoExpr))) (NoStmt))))) ∷ []; end = 34 }
    ∷ [])
    ≡ (Some (fault.BadCall 22) ∷ Some (fault.BadCall 34) ∷ None ∷ Some (fault.BadCall 22) ∷ Some (fault.BadCall 23) ∷ Some (fault.BadCall 34) ∷ Some (fault.BadCall 30) ∷ [])
bad_calls_row = refl

-- BadCall: a `printf` that isn't of its form
--     typed      int main(void){printf("%d %s%%",1,"x");}
--     BadCall    int main(void){printf("%d");}
--     BadCall    int main(void){char *s;printf(s);}
--     BadCall    int main(void){printf("%q");}
--     BadCall    int main(void){printf("%");}
--     BadCall    int main(void){int *p;printf("%d",p);}
--     BadCall    int main(void){unsigned char *p;printf("%s",p);}
--     BadCall    int main(void){printf("",1);}
print_forms_row :
    map refusal_of (
    record { items = Function (codes "main") 4 (Int) ([]) (Some (Block (MoreStmt (Do_expr (Call 21 (Var 15 (codes "printf")) (MoreExpr (Str 22 (codes "%d %s%%")) (MoreExpr (Number 32 1 false) (MoreExpr (Str 34 (codes "x")) (NoExpr)))))) (NoStmt)))) ∷ []; end = 40 }
    ∷ record { items = Function (codes "main") 4 (Int) ([]) (Some (Block (MoreStmt (Do_expr (Call 21 (Var 15 (codes "printf")) (MoreExpr (Str 22 (codes "%d")) (NoExpr)))) (NoStmt)))) ∷ []; end = 29 }
    ∷ record { items = Function (codes "main") 4 (Int) ([]) (Some (Block (MoreStmt (Local (record { name = codes "s"; pos = 21; ty = Pointer Char; first = None })) (MoreStmt (Do_expr (Call 29 (Var 23 (codes "printf")) (MoreExpr (Var 30 (codes "s")) (NoExpr)))) (NoStmt))))) ∷ []; end = 34 }
    ∷ record { items = Function (codes "main") 4 (Int) ([]) (Some (Block (MoreStmt (Do_expr (Call 21 (Var 15 (codes "printf")) (MoreExpr (Str 22 (codes "%q")) (NoExpr)))) (NoStmt)))) ∷ []; end = 29 }
    ∷ record { items = Function (codes "main") 4 (Int) ([]) (Some (Block (MoreStmt (Do_expr (Call 21 (Var 15 (codes "printf")) (MoreExpr (Str 22 (codes "%")) (NoExpr)))) (NoStmt)))) ∷ []; end = 28 }
    ∷ record { items = Function (codes "main") 4 (Int) ([]) (Some (Block (MoreStmt (Local (record { name = codes "p"; pos = 20; ty = Pointer Int; first = None })) (MoreStmt (Do_expr (Call 28 (Var 22 (codes "printf")) (MoreExpr (Str 29 (codes "%d")) (MoreExpr (Var 34 (codes "p")) (NoExpr))))) (NoStmt))))) ∷ []; end = 38 }
    ∷ record { items = Function (codes "main") 4 (Int) ([]) (Some (Block (MoreStmt (Local (record { name = codes "p"; pos = 30; ty = Pointer UChar; first = None })) (MoreStmt (Do_expr (Call 38 (Var 32 (codes "printf")) (MoreExpr (Str 39 (codes "%s")) (MoreExpr (Var 44 (codes "p")) (NoExpr))))) (NoStmt))))) ∷ []; end = 48 }
    ∷ record { items = Function (codes "main") 4 (Int) ([]) (Some (Block (MoreStmt (Do_expr (Call 21 (Var 15 (codes "printf")) (MoreExpr (Str 22 ([])) (MoreExpr (Number 25 1 false) (NoExpr))))) (NoStmt)))) ∷ []; end = 29 }
    ∷ [])
    ≡ (None ∷ Some (fault.BadCall 21) ∷ Some (fault.BadCall 29) ∷ Some (fault.BadCall 21) ∷ Some (fault.BadCall 21) ∷ Some (fault.BadCall 28) ∷ Some (fault.BadCall 38) ∷ Some (fault.BadCall 21) ∷ [])
print_forms_row = refl

-- BadCall at the name: a function without a definition or a built-in used as a value
--     BadCall    int main(void){int (*p)(void); p=putchar; return 0;}
--     BadCall    int f(void);int main(void){int (*p)(void);p=f;}
--     BadCall    int main(void){&printf;}
names_as_values_row :
    map refusal_of (
    record { items = Function (codes "main") 4 (Int) ([]) (Some (Block (MoreStmt (Local (record { name = codes "p"; pos = 21; ty = Pointer (Func (Int) (NoTy)); first = None })) (MoreStmt (Do_expr (Assign 32 None (Var 31 (codes "p")) (Var 33 (codes "putchar")))) (MoreStmt (Return 42 (Some (Number 49 0 false))) (NoStmt)))))) ∷ []; end = 52 }
    ∷ record { items = Function (codes "f") 4 (Int) ([]) None ∷ Function (codes "main") 16 (Int) ([]) (Some (Block (MoreStmt (Local (record { name = codes "p"; pos = 33; ty = Pointer (Func (Int) (NoTy)); first = None })) (MoreStmt (Do_expr (Assign 43 None (Var 42 (codes "p")) (Var 44 (codes "f")))) (NoStmt))))) ∷ []; end = 47 }
    ∷ record { items = Function (codes "main") 4 (Int) ([]) (Some (Block (MoreStmt (Do_expr (Unary 15 unary.Address (Var 16 (codes "printf")))) (NoStmt)))) ∷ []; end = 24 }
    ∷ [])
    ≡ (Some (fault.BadCall 33) ∷ Some (fault.BadCall 44) ∷ Some (fault.BadCall 16) ∷ [])
names_as_values_row = refl

-- `break` outside a loop and a `switch`, `continue` outside a loop
--     Mismatch   int main(void){break;}
--     Mismatch   int main(void){continue;}
--     typed      int main(void){while(1){break;continue;}do{break;}while(0);for(;;){continue;}}
--     typed      int main(void){switch(1){case 1:break;}}
--     Mismatch   int main(void){switch(1){case 1:continue;}}
--     typed      int main(void){while(1)switch(1){case 1:continue;}}
jumps_row :
    map refusal_of (
    record { items = Function (codes "main") 4 (Int) ([]) (Some (Block (MoreStmt (Break 15) (NoStmt)))) ∷ []; end = 22 }
    ∷ record { items = Function (codes "main") 4 (Int) ([]) (Some (Block (MoreStmt (Continue 15) (NoStmt)))) ∷ []; end = 25 }
    ∷ record { items = Function (codes "main") 4 (Int) ([]) (Some (Block (MoreStmt (While (Number 21 1 false) (Block (MoreStmt (Break 24) (MoreStmt (Continue 30) (NoStmt))))) (MoreStmt (Do (Block (MoreStmt (Break 43) (NoStmt))) (Number 56 0 false)) (MoreStmt (For (Empty) None None (Block (MoreStmt (Continue 67) (NoStmt)))) (NoStmt)))))) ∷ []; end = 78 }
    ∷ record { items = Function (codes "main") 4 (Int) ([]) (Some (Block (MoreStmt (Switch (Number 22 1 false) (MorePart (Label 25 (Some (Number 30 1 false))) (MorePart (Item (Break 32)) (NoPart)))) (NoStmt)))) ∷ []; end = 40 }
    ∷ record { items = Function (codes "main") 4 (Int) ([]) (Some (Block (MoreStmt (Switch (Number 22 1 false) (MorePart (Label 25 (Some (Number 30 1 false))) (MorePart (Item (Continue 32)) (NoPart)))) (NoStmt)))) ∷ []; end = 43 }
    ∷ record { items = Function (codes "main") 4 (Int) ([]) (Some (Block (MoreStmt (While (Number 21 1 false) (Switch (Number 30 1 false) (MorePart (Label 33 (Some (Number 38 1 false))) (MorePart (Item (Continue 40)) (NoPart))))) (NoStmt)))) ∷ []; end = 51 }
    ∷ [])
    ≡ (Some (fault.Mismatch 15) ∷ Some (fault.Mismatch 15) ∷ None ∷ None ∷ Some (fault.Mismatch 32) ∷ None ∷ [])
jumps_row = refl

-- the use of a void value, conditions, results and arguments
--     Mismatch   void f(void){}int main(void){return 1+f();}
--     Mismatch   void f(void){}int main(void){int i;i=f();}
--     typed      void f(void){}int main(void){f();(void)f();f(),1;1?f():f();}
--     Mismatch   struct t{int m;};int main(void){struct t s;if(s);}
--     Mismatch   void f(void){}int main(void){if(f());}
--     Mismatch   void f(void){return 1;}int main(void){return 0;}
--     Mismatch   int f(void){return;}int main(void){return 0;}
--     typed      void f(void){return;}int main(void){return 0;}
--     Mismatch   void f(void){}void g(void){return f();}int main(void){return 0;}
--     Mismatch   int f(int *p){return 0;}int main(void){return f(1);}
--     Mismatch   int main(void){void v;}
voids_row :
    map refusal_of (
    record { items = Function (codes "f") 5 (Void) ([]) (Some (Block (NoStmt))) ∷ Function (codes "main") 18 (Int) ([]) (Some (Block (MoreStmt (Return 29 (Some (Binary 37 binary.Add (Number 36 1 false) (Call 39 (Var 38 (codes "f")) (NoExpr))))) (NoStmt)))) ∷ []; end = 43 }
    ∷ record { items = Function (codes "f") 5 (Void) ([]) (Some (Block (NoStmt))) ∷ Function (codes "main") 18 (Int) ([]) (Some (Block (MoreStmt (Local (record { name = codes "i"; pos = 33; ty = Int; first = None })) (MoreStmt (Do_expr (Assign 36 None (Var 35 (codes "i")) (Call 38 (Var 37 (codes "f")) (NoExpr)))) (NoStmt))))) ∷ []; end = 42 }
    ∷ record { items = Function (codes "f") 5 (Void) ([]) (Some (Block (NoStmt))) ∷ Function (codes "main") 18 (Int) ([]) (Some (Block (MoreStmt (Do_expr (Call 30 (Var 29 (codes "f")) (NoExpr))) (MoreStmt (Do_expr (Cast 33 (Void) (Call 40 (Var 39 (codes "f")) (NoExpr)))) (MoreStmt (Do_expr (Comma 46 (Call 44 (Var 43 (codes "f")) (NoExpr)) (Number 47 1 false))) (MoreStmt (Do_expr (Cond 50 (Number 49 1 false) (Call 52 (Var 51 (codes "f")) (NoExpr)) (Call 56 (Var 55 (codes "f")) (NoExpr)))) (NoStmt))))))) ∷ []; end = 60 }
    ∷ record { items = StructItem (record { name = codes "t"; pos = 7; members = record { name = codes "m"; pos = 13; ty = Int; first = None } ∷ [] }) ∷ Function (codes "main") 21 (Int) ([]) (Some (Block (MoreStmt (Local (record { name = codes "s"; pos = 41; ty = Struct (codes "t"); first = None })) (MoreStmt (If (Var 46 (codes "s")) (Empty)) (NoStmt))))) ∷ []; end = 50 }
    ∷ record { items = Function (codes "f") 5 (Void) ([]) (Some (Block (NoStmt))) ∷ Function (codes "main") 18 (Int) ([]) (Some (Block (MoreStmt (If (Call 33 (Var 32 (codes "f")) (NoExpr)) (Empty)) (NoStmt)))) ∷ []; end = 38 }
    ∷ record { items = Function (codes "f") 5 (Void) ([]) (Some (Block (MoreStmt (Return 13 (Some (Number 20 1 false))) (NoStmt)))) ∷ Function (codes "main") 27 (Int) ([]) (Some (Block (MoreStmt (Return 38 (Some (Number 45 0 false))) (NoStmt)))) ∷ []; end = 48 }
    ∷ record { items = Function (codes "f") 4 (Int) ([]) (Some (Block (MoreStmt (Return 12 None) (NoStmt)))) ∷ Function (codes "main") 24 (Int) ([]) (Some (Block (MoreStmt (Return 35 (Some (Number 42 0 false))) (NoStmt)))) ∷ []; end = 45 }
    ∷ record { items = Function (codes "f") 5 (Void) ([]) (Some (Block (MoreStmt (Return 13 None) (NoStmt)))) ∷ Function (codes "main") 25 (Int) ([]) (Some (Block (MoreStmt (Return 36 (Some (Number 43 0 false))) (NoStmt)))) ∷ []; end = 46 }
    ∷ record { items = Function (codes "f") 5 (Void) ([]) (Some (Block (NoStmt))) ∷ Function (codes "g") 19 (Void) ([]) (Some (Block (MoreStmt (Return 27 (Some (Call 35 (Var 34 (codes "f")) (NoExpr)))) (NoStmt)))) ∷ Function (codes "main") 43 (Int) ([]) (Some (Block (MoreStmt (Return 54 (Some (Number 61 0 false))) (NoStmt)))) ∷ []; end = 64 }
    ∷ record { items = Function (codes "f") 4 (Int) (record { name = codes "p"; pos = 11; ty = Pointer Int; first = None } ∷ []) (Some (Block (MoreStmt (Return 14 (Some (Number 21 0 false))) (NoStmt)))) ∷ Function (codes "main") 28 (Int) ([]) (Some (Block (MoreStmt (Return 39 (Some (Call 47 (Var 46 (codes "f")) (MoreExpr (Number 48 1 false) (NoExpr))))) (NoStmt)))) ∷ []; end = 52 }
    ∷ record { items = Function (codes "main") 4 (Int) ([]) (Some (Block (MoreStmt (Local (record { name = codes "v"; pos = 20; ty = Void; first = None })) (NoStmt)))) ∷ []; end = 23 }
    ∷ [])
    ≡ (Some (fault.Mismatch 37) ∷ Some (fault.Mismatch 36) ∷ None ∷ Some (fault.Mismatch 46) ∷ Some (fault.Mismatch 33) ∷ Some (fault.Mismatch 13) ∷ Some (fault.Mismatch 12) ∷ None ∷ Some (fault.Mismatch 27) ∷ Some (fault.Mismatch 48) ∷ Some (fault.Mismatch 20) ∷ [])
voids_row = refl

-- each other break of these rules
--     Mismatch   int main(void){int *p;int *q;p+q;}
--     Mismatch   int main(void){int *p;char *q;p-q;}
--     Mismatch   int main(void){void *v;v+1;}
--     typed      int main(void){int *p;int *q;int i;i=p-q;i=p<q;p+=1;p-=i;}
--     Mismatch   int main(void){int *p;int *q;p-=q;}
--     Mismatch   int main(void){int *p;char *q;p<q;}
--     Mismatch   int main(void){int *p;p<NULL;}
--     typed      int main(void){void *v;void *w;v<w;}
--     Mismatch   int main(void){int *p;void *v;p<v;}
--     Mismatch   int main(void){int *p;char *q;p==q;}
--     typed      int main(void){int *p;void *v;p==v;p==NULL;0!=p;!p;p&&v;}
--     Mismatch   int main(void){int *p;~p;}
--     Mismatch   int main(void){int *p;p*2;}
--     Mismatch   int main(void){int i;*i;}
--     Mismatch   int main(void){void *v;*v;}
--     Mismatch   int main(void){int i;i[1];}
--     Mismatch   int main(void){int i;i.m;}
operators_row :
    map refusal_of (
    record { items = Function (codes "main") 4 (Int) ([]) (Some (Block (MoreStmt (Local (record { name = codes "p"; pos = 20; ty = Pointer Int; first = None })) (MoreStmt (Local (record { name = codes "q"; pos = 27; ty = Pointer Int; first = None })) (MoreStmt (Do_expr (Binary 30 binary.Add (Var 29 (codes "p")) (Var 31 (codes "q")))) (NoStmt)))))) ∷ []; end = 34 }
    ∷ record { items = Function (codes "main") 4 (Int) ([]) (Some (Block (MoreStmt (Local (record { name = codes "p"; pos = 20; ty = Pointer Int; first = None })) (MoreStmt (Local (record { name = codes "q"; pos = 28; ty = Pointer Char; first = None })) (MoreStmt (Do_expr (Binary 31 binary.Sub (Var 30 (codes "p")) (Var 32 (codes "q")))) (NoStmt)))))) ∷ []; end = 35 }
    ∷ record { items = Function (codes "main") 4 (Int) ([]) (Some (Block (MoreStmt (Local (record { name = codes "v"; pos = 21; ty = Pointer Void; first = None })) (MoreStmt (Do_expr (Binary 24 binary.Add (Var 23 (codes "v")) (Number 25 1 false))) (NoStmt))))) ∷ []; end = 28 }
    ∷ record { items = Function (codes "main") 4 (Int) ([]) (Some (Block (MoreStmt (Local (record { name = codes "p"; pos = 20; ty = Pointer Int; first = None })) (MoreStmt (Local (record { name = codes "q"; pos = 27; ty = Pointer Int; first = None })) (MoreStmt (Local (record { name = codes "i"; pos = 33; ty = Int; first = None })) (MoreStmt (Do_expr (Assign 36 None (Var 35 (codes "i")) (Binary 38 binary.Sub (Var 37 (codes "p")) (Var 39 (codes "q"))))) (MoreStmt (Do_expr (Assign 42 None (Var 41 (codes "i")) (Binary 44 binary.Lt (Var 43 (codes "p")) (Var 45 (codes "q"))))) (MoreStmt (Do_expr (Assign 48 (Some binary.Add) (Var 47 (codes "p")) (Number 50 1 false))) (MoreStmt (Do_expr (Assign 53 (Some binary.Sub) (Var 52 (codes "p")) (Var 55 (codes "i")))) (NoStmt)))))))))) ∷ []; end = 58 }
    ∷ record { items = Function (codes "main") 4 (Int) ([]) (Some (Block (MoreStmt (Local (record { name = codes "p"; pos = 20; ty = Pointer Int; first = None })) (MoreStmt (Local (record { name = codes "q"; pos = 27; ty = Pointer Int; first = None })) (MoreStmt (Do_expr (Assign 30 (Some binary.Sub) (Var 29 (codes "p")) (Var 32 (codes "q")))) (NoStmt)))))) ∷ []; end = 35 }
    ∷ record { items = Function (codes "main") 4 (Int) ([]) (Some (Block (MoreStmt (Local (record { name = codes "p"; pos = 20; ty = Pointer Int; first = None })) (MoreStmt (Local (record { name = codes "q"; pos = 28; ty = Pointer Char; first = None })) (MoreStmt (Do_expr (Binary 31 binary.Lt (Var 30 (codes "p")) (Var 32 (codes "q")))) (NoStmt)))))) ∷ []; end = 35 }
    ∷ record { items = Function (codes "main") 4 (Int) ([]) (Some (Block (MoreStmt (Local (record { name = codes "p"; pos = 20; ty = Pointer Int; first = None })) (MoreStmt (Do_expr (Binary 23 binary.Lt (Var 22 (codes "p")) (Null 24))) (NoStmt))))) ∷ []; end = 30 }
    ∷ record { items = Function (codes "main") 4 (Int) ([]) (Some (Block (MoreStmt (Local (record { name = codes "v"; pos = 21; ty = Pointer Void; first = None })) (MoreStmt (Local (record { name = codes "w"; pos = 29; ty = Pointer Void; first = None })) (MoreStmt (Do_expr (Binary 32 binary.Lt (Var 31 (codes "v")) (Var 33 (codes "w")))) (NoStmt)))))) ∷ []; end = 36 }
    ∷ record { items = Function (codes "main") 4 (Int) ([]) (Some (Block (MoreStmt (Local (record { name = codes "p"; pos = 20; ty = Pointer Int; first = None })) (MoreStmt (Local (record { name = codes "v"; pos = 28; ty = Pointer Void; first = None })) (MoreStmt (Do_expr (Binary 31 binary.Lt (Var 30 (codes "p")) (Var 32 (codes "v")))) (NoStmt)))))) ∷ []; end = 35 }
    ∷ record { items = Function (codes "main") 4 (Int) ([]) (Some (Block (MoreStmt (Local (record { name = codes "p"; pos = 20; ty = Pointer Int; first = None })) (MoreStmt (Local (record { name = codes "q"; pos = 28; ty = Pointer Char; first = None })) (MoreStmt (Do_expr (Binary 31 binary.Eq (Var 30 (codes "p")) (Var 33 (codes "q")))) (NoStmt)))))) ∷ []; end = 36 }
    ∷ record { items = Function (codes "main") 4 (Int) ([]) (Some (Block (MoreStmt (Local (record { name = codes "p"; pos = 20; ty = Pointer Int; first = None })) (MoreStmt (Local (record { name = codes "v"; pos = 28; ty = Pointer Void; first = None })) (MoreStmt (Do_expr (Binary 31 binary.Eq (Var 30 (codes "p")) (Var 33 (codes "v")))) (MoreStmt (Do_expr (Binary 36 binary.Eq (Var 35 (codes "p")) (Null 38))) (MoreStmt (Do_expr (Binary 44 binary.Ne (Number 43 0 false) (Var 46 (codes "p")))) (MoreStmt (Do_expr (Unary 48 unary.Not (Var 49 (codes "p")))) (MoreStmt (Do_expr (Binary 52 binary.And (Var 51 (codes "p")) (Var 54 (codes "v")))) (NoStmt)))))))))) ∷ []; end = 57 }
    ∷ record { items = Function (codes "main") 4 (Int) ([]) (Some (Block (MoreStmt (Local (record { name = codes "p"; pos = 20; ty = Pointer Int; first = None })) (MoreStmt (Do_expr (Unary 22 unary.Invert (Var 23 (codes "p")))) (NoStmt))))) ∷ []; end = 26 }
    ∷ record { items = Function (codes "main") 4 (Int) ([]) (Some (Block (MoreStmt (Local (record { name = codes "p"; pos = 20; ty = Pointer Int; first = None })) (MoreStmt (Do_expr (Binary 23 binary.Mul (Var 22 (codes "p")) (Number 24 2 false))) (NoStmt))))) ∷ []; end = 27 }
    ∷ record { items = Function (codes "main") 4 (Int) ([]) (Some (Block (MoreStmt (Local (record { name = codes "i"; pos = 19; ty = Int; first = None })) (MoreStmt (Do_expr (Unary 21 unary.Deref (Var 22 (codes "i")))) (NoStmt))))) ∷ []; end = 25 }
    ∷ record { items = Function (codes "main") 4 (Int) ([]) (Some (Block (MoreStmt (Local (record { name = codes "v"; pos = 21; ty = Pointer Void; first = None })) (MoreStmt (Do_expr (Unary 23 unary.Deref (Var 24 (codes "v")))) (NoStmt))))) ∷ []; end = 27 }
    ∷ record { items = Function (codes "main") 4 (Int) ([]) (Some (Block (MoreStmt (Local (record { name = codes "i"; pos = 19; ty = Int; first = None })) (MoreStmt (Do_expr (Index 22 (Var 21 (codes "i")) (Number 23 1 false))) (NoStmt))))) ∷ []; end = 27 }
    ∷ record { items = Function (codes "main") 4 (Int) ([]) (Some (Block (MoreStmt (Local (record { name = codes "i"; pos = 19; ty = Int; first = None })) (MoreStmt (Do_expr (Member 22 (Var 21 (codes "i")) (codes "m"))) (NoStmt))))) ∷ []; end = 26 }
    ∷ [])
    ≡ (Some (fault.Mismatch 30) ∷ Some (fault.Mismatch 31) ∷ Some (fault.Mismatch 24) ∷ None ∷ Some (fault.Mismatch 30) ∷ Some (fault.Mismatch 31) ∷ Some (fault.Mismatch 23) ∷ None ∷ Some (fault.Mismatch 31) ∷ Some (fault.Mismatch 31) ∷ None ∷ Some (fault.Mismatch 22) ∷ Some (fault.Mismatch 23) ∷ Some (fault.Mismatch 21) ∷ Some (fault.Mismatch 23) ∷ Some (fault.Mismatch 22) ∷ Some (fault.Mismatch 22) ∷ [])
operators_row = refl

-- `?:` on numbers, void, and pointers of which one converts to the other's type, and on no structs
--     typed      int main(void){int *p;void *v;int i;p=i?p:NULL;p=i?0:p;v=i?p:v;i=i?1:2u;}
--     Mismatch   int main(void){int *p;char *q;1?p:q;}
--     Mismatch   struct t{int m;};int main(void){struct t s;1?s:s;}
--     Mismatch   struct t{int m;};int main(void){struct t s;s?1:2;}
branches_row :
    map refusal_of (
    record { items = Function (codes "main") 4 (Int) ([]) (Some (Block (MoreStmt (Local (record { name = codes "p"; pos = 20; ty = Pointer Int; first = None })) (MoreStmt (Local (record { name = codes "v"; pos = 28; ty = Pointer Void; first = None })) (MoreStmt (Local (record { name = codes "i"; pos = 34; ty = Int; first = None })) (MoreStmt (Do_expr (Assign 37 None (Var 36 (codes "p")) (Cond 39 (Var 38 (codes "i")) (Var 40 (codes "p")) (Null 42)))) (MoreStmt (Do_expr (Assign 48 None (Var 47 (codes "p")) (Cond 50 (Var 49 (codes "i")) (Number 51 0 false) (Var 53 (codes "p"))))) (MoreStmt (Do_expr (Assign 56 None (Var 55 (codes "v")) (Cond 58 (Var 57 (codes "i")) (Var 59 (codes "p")) (Var 61 (codes "v"))))) (MoreStmt (Do_expr (Assign 64 None (Var 63 (codes "i")) (Cond 66 (Var 65 (codes "i")) (Number 67 1 false) (Number 69 2 true)))) (NoStmt)))))))))) ∷ []; end = 73 }
    ∷ record { items = Function (codes "main") 4 (Int) ([]) (Some (Block (MoreStmt (Local (record { name = codes "p"; pos = 20; ty = Pointer Int; first = None })) (MoreStmt (Local (record { name = codes "q"; pos = 28; ty = Pointer Char; first = None })) (MoreStmt (Do_expr (Cond 31 (Number 30 1 false) (Var 32 (codes "p")) (Var 34 (codes "q")))) (NoStmt)))))) ∷ []; end = 37 }
    ∷ record { items = StructItem (record { name = codes "t"; pos = 7; members = record { name = codes "m"; pos = 13; ty = Int; first = None } ∷ [] }) ∷ Function (codes "main") 21 (Int) ([]) (Some (Block (MoreStmt (Local (record { name = codes "s"; pos = 41; ty = Struct (codes "t"); first = None })) (MoreStmt (Do_expr (Cond 44 (Number 43 1 false) (Var 45 (codes "s")) (Var 47 (codes "s")))) (NoStmt))))) ∷ []; end = 50 }
    ∷ record { items = StructItem (record { name = codes "t"; pos = 7; members = record { name = codes "m"; pos = 13; ty = Int; first = None } ∷ [] }) ∷ Function (codes "main") 21 (Int) ([]) (Some (Block (MoreStmt (Local (record { name = codes "s"; pos = 41; ty = Struct (codes "t"); first = None })) (MoreStmt (Do_expr (Cond 44 (Var 43 (codes "s")) (Number 45 1 false) (Number 47 2 false))) (NoStmt))))) ∷ []; end = 50 }
    ∷ [])
    ≡ (None ∷ Some (fault.Mismatch 31) ∷ Some (fault.Mismatch 44) ∷ Some (fault.Mismatch 43) ∷ [])
branches_row = refl

-- NoMain: no definition `int main(void)` or `int main()`
--     NoMain     int f(void){return 0;}
--     NoMain     void main(void){}
--     NoMain     int main;
--     NoMain     int main(int a){return a;}
--     NoMain     int main(void);
--     typed      int main(){return 0;}
no_main_row :
    map refusal_of (
    record { items = Function (codes "f") 4 (Int) ([]) (Some (Block (MoreStmt (Return 12 (Some (Number 19 0 false))) (NoStmt)))) ∷ []; end = 22 }
    ∷ record { items = Function (codes "main") 5 (Void) ([]) (Some (Block (NoStmt))) ∷ []; end = 17 }
    ∷ record { items = Object (record { name = codes "main"; pos = 4; ty = Int; first = None }) ∷ []; end = 9 }
    ∷ record { items = Function (codes "main") 4 (Int) (record { name = codes "a"; pos = 13; ty = Int; first = None } ∷ []) (Some (Block (MoreStmt (Return 16 (Some (Var 23 (codes "a")))) (NoStmt)))) ∷ []; end = 26 }
    ∷ record { items = Function (codes "main") 4 (Int) ([]) None ∷ []; end = 15 }
    ∷ record { items = Function (codes "main") 4 (Int) ([]) (Some (Block (MoreStmt (Return 11 (Some (Number 18 0 false))) (NoStmt)))) ∷ []; end = 21 }
    ∷ [])
    ≡ (Some (fault.NoMain 22) ∷ Some (fault.NoMain 17) ∷ Some (fault.NoMain 9) ∷ Some (fault.NoMain 26) ∷ Some (fault.NoMain 15) ∷ None ∷ [])
no_main_row = refl

-- TooLarge comes after NoMain, NoMain after all with a place
--     Unknown    int f(void){return x;}
--     NoMain     int a[4194304];int b;
--     TooLarge   int a[4194304];int b;int main(void){return 0;}
--     TooLarge   int main(void){int a[4194304][2];return 0;}
--     typed      int f(int a[4194304][2]){return 0;}int main(void){return 0;}
--     typed      int main(void){sizeof(int);}
--     TooLarge   int f(int a[][4194304][2]){return 0;}int main(void){return 0;}
--     TooLarge   struct t{int a[4194304];int b;};int main(void){return 0;}
too_large_row :
    map refusal_of (
    record { items = Function (codes "f") 4 (Int) ([]) (Some (Block (MoreStmt (Return 12 (Some (Var 19 (codes "x")))) (NoStmt)))) ∷ []; end = 22 }
    ∷ record { items = Object (record { name = codes "a"; pos = 4; ty = ArrayOf (Int) (Number 6 4194304 false); first = None }) ∷ Object (record { name = codes "b"; pos = 19; ty = Int; first = None }) ∷ []; end = 21 }
    ∷ record { items = Object (record { name = codes "a"; pos = 4; ty = ArrayOf (Int) (Number 6 4194304 false); first = None }) ∷ Object (record { name = codes "b"; pos = 19; ty = Int; first = None }) ∷ Function (codes "main") 25 (Int) ([]) (Some (Block (MoreStmt (Return 36 (Some (Number 43 0 false))) (NoStmt)))) ∷ []; end = 46 }
    ∷ record { items = Function (codes "main") 4 (Int) ([]) (Some (Block (MoreStmt (Local (record { name = codes "a"; pos = 19; ty = ArrayOf (ArrayOf (Int) (Number 30 2 false)) (Number 21 4194304 false); first = None })) (MoreStmt (Return 33 (Some (Number 40 0 false))) (NoStmt))))) ∷ []; end = 43 }
    ∷ record { items = Function (codes "f") 4 (Int) (record { name = codes "a"; pos = 10; ty = ArrayOf (ArrayOf (Int) (Number 21 2 false)) (Number 12 4194304 false); first = None } ∷ []) (Some (Block (MoreStmt (Return 25 (Some (Number 32 0 false))) (NoStmt)))) ∷ Function (codes "main") 39 (Int) ([]) (Some (Block (MoreStmt (Return 50 (Some (Number 57 0 false))) (NoStmt)))) ∷ []; end = 60 }
    ∷ record { items = Function (codes "main") 4 (Int) ([]) (Some (Block (MoreStmt (Do_expr (SizeTy 15 (Int))) (NoStmt)))) ∷ []; end = 28 }
    ∷ record { items = Function (codes "f") 4 (Int) (record { name = codes "a"; pos = 10; ty = Array (ArrayOf (ArrayOf (Int) (Number 23 2 false)) (Number 14 4194304 false)); first = None } ∷ []) (Some (Block (MoreStmt (Return 27 (Some (Number 34 0 false))) (NoStmt)))) ∷ Function (codes "main") 41 (Int) ([]) (Some (Block (MoreStmt (Return 52 (Some (Number 59 0 false))) (NoStmt)))) ∷ []; end = 62 }
    ∷ record { items = StructItem (record { name = codes "t"; pos = 7; members = record { name = codes "a"; pos = 13; ty = ArrayOf (Int) (Number 15 4194304 false); first = None } ∷ record { name = codes "b"; pos = 28; ty = Int; first = None } ∷ [] }) ∷ Function (codes "main") 36 (Int) ([]) (Some (Block (MoreStmt (Return 47 (Some (Number 54 0 false))) (NoStmt)))) ∷ []; end = 57 }
    ∷ [])
    ≡ (Some (fault.Unknown 19) ∷ Some (fault.NoMain 21) ∷ Some fault.TooLarge ∷ Some fault.TooLarge ∷ None ∷ None ∷ Some fault.TooLarge ∷ Some fault.TooLarge ∷ [])
too_large_row = refl

-- a tag is declared from its name on; until its members are closed its type may stand under a pointer alone; a struct has members
--     typed      struct t{struct t *n;struct t *a[2];};int main(void){return 0;}
--     Mismatch   struct t{struct t n;};int main(void){return 0;}
--     Mismatch   struct t{};int main(void){return 0;}
--     Mismatch   struct t{int a[sizeof(struct t)];};int main(void){return 0;}
--     typed      struct t{int a[sizeof(struct t*)];};int main(void){return 0;}
tags_row :
    map refusal_of (
    record { items = StructItem (record { name = codes "t"; pos = 7; members = record { name = codes "n"; pos = 19; ty = Pointer (Struct (codes "t")); first = None } ∷ record { name = codes "a"; pos = 31; ty = ArrayOf (Pointer (Struct (codes "t"))) (Number 33 2 false); first = None } ∷ [] }) ∷ Function (codes "main") 42 (Int) ([]) (Some (Block (MoreStmt (Return 53 (Some (Number 60 0 false))) (NoStmt)))) ∷ []; end = 63 }
    ∷ record { items = StructItem (record { name = codes "t"; pos = 7; members = record { name = codes "n"; pos = 18; ty = Struct (codes "t"); first = None } ∷ [] }) ∷ Function (codes "main") 26 (Int) ([]) (Some (Block (MoreStmt (Return 37 (Some (Number 44 0 false))) (NoStmt)))) ∷ []; end = 47 }
    ∷ record { items = StructItem (record { name = codes "t"; pos = 7; members = [] }) ∷ Function (codes "main") 15 (Int) ([]) (Some (Block (MoreStmt (Return 26 (Some (Number 33 0 false))) (NoStmt)))) ∷ []; end = 36 }
    ∷ record { items = StructItem (record { name = codes "t"; pos = 7; members = record { name = codes "a"; pos = 13; ty = ArrayOf (Int) (SizeTy 15 (Struct (codes "t"))); first = None } ∷ [] }) ∷ Function (codes "main") 39 (Int) ([]) (Some (Block (MoreStmt (Return 50 (Some (Number 57 0 false))) (NoStmt)))) ∷ []; end = 60 }
    ∷ record { items = StructItem (record { name = codes "t"; pos = 7; members = record { name = codes "a"; pos = 13; ty = ArrayOf (Int) (SizeTy 15 (Pointer (Struct (codes "t")))); first = None } ∷ [] }) ∷ Function (codes "main") 40 (Int) ([]) (Some (Block (MoreStmt (Return 51 (Some (Number 58 0 false))) (NoStmt)))) ∷ []; end = 61 }
    ∷ [])
    ≡ (None ∷ Some (fault.Mismatch 18) ∷ Some (fault.Mismatch 7) ∷ Some (fault.Mismatch 15) ∷ None ∷ [])
tags_row = refl

-- the lowest place comes; a tree with a refused part has no refusal of its own
--     Unknown    int main(void){x+y;}
--     Unknown    int main(void){1[x];}
--     Unknown    int a; int a[x];int main(void){return 0;}
--     Unknown    int main(void){putchar(x,1);}
--     Unknown    int main(void){f(x);}
--     Unknown    int main(void){(struct t*)0;}
--     Unknown    int f(struct t *p){return 0;}int main(void){return 0;}
--     Unknown    struct t *f(void){return 0;}int main(void){return 0;}
--     Unknown    int main(void){switch(1){case 1: case 1:x;}}
least_row :
    map refusal_of (
    record { items = Function (codes "main") 4 (Int) ([]) (Some (Block (MoreStmt (Do_expr (Binary 16 binary.Add (Var 15 (codes "x")) (Var 17 (codes "y")))) (NoStmt)))) ∷ []; end = 20 }
    ∷ record { items = Function (codes "main") 4 (Int) ([]) (Some (Block (MoreStmt (Do_expr (Index 16 (Number 15 1 false) (Var 17 (codes "x")))) (NoStmt)))) ∷ []; end = 21 }
    ∷ record { items = Object (record { name = codes "a"; pos = 4; ty = Int; first = None }) ∷ Object (record { name = codes "a"; pos = 11; ty = ArrayOf (Int) (Var 13 (codes "x")); first = None }) ∷ Function (codes "main") 20 (Int) ([]) (Some (Block (MoreStmt (Return 31 (Some (Number 38 0 false))) (NoStmt)))) ∷ []; end = 41 }
    ∷ record { items = Function (codes "main") 4 (Int) ([]) (Some (Block (MoreStmt (Do_expr (Call 22 (Var 15 (codes "putchar")) (MoreExpr (Var 23 (codes "x")) (MoreExpr (Number 25 1 false) (NoExpr))))) (NoStmt)))) ∷ []; end = 29 }
    ∷ record { items = Function (codes "main") 4 (Int) ([]) (Some (Block (MoreStmt (Do_expr (Call 16 (Var 15 (codes "f")) (MoreExpr (Var 17 (codes "x")) (NoExpr)))) (NoStmt)))) ∷ []; end = 21 }
    ∷ record { items = Function (codes "main") 4 (Int) ([]) (Some (Block (MoreStmt (Do_expr (Cast 15 (Pointer (Struct (codes "t"))) (Number 26 0 false))) (NoStmt)))) ∷ []; end = 29 }
    ∷ record { items = Function (codes "f") 4 (Int) (record { name = codes "p"; pos = 16; ty = Pointer (Struct (codes "t")); first = None } ∷ []) (Some (Block (MoreStmt (Return 19 (Some (Number 26 0 false))) (NoStmt)))) ∷ Function (codes "main") 33 (Int) ([]) (Some (Block (MoreStmt (Return 44 (Some (Number 51 0 false))) (NoStmt)))) ∷ []; end = 54 }
    ∷ record { items = Function (codes "f") 10 (Pointer (Struct (codes "t"))) ([]) (Some (Block (MoreStmt (Return 18 (Some (Number 25 0 false))) (NoStmt)))) ∷ Function (codes "main") 32 (Int) ([]) (Some (Block (MoreStmt (Return 43 (Some (Number 50 0 false))) (NoStmt)))) ∷ []; end = 53 }
    ∷ record { items = Function (codes "main") 4 (Int) ([]) (Some (Block (MoreStmt (Switch (Number 22 1 false) (MorePart (Label 25 (Some (Number 30 1 false))) (MorePart (Label 33 (Some (Number 38 1 false))) (MorePart (Item (Do_expr (Var 40 (codes "x")))) (NoPart))))) (NoStmt)))) ∷ []; end = 44 }
    ∷ [])
    ≡ (Some (fault.Unknown 15) ∷ Some (fault.Unknown 17) ∷ Some (fault.Unknown 13) ∷ Some (fault.Unknown 23) ∷ Some (fault.Unknown 16) ∷ Some (fault.Unknown 15) ∷ Some (fault.Unknown 16) ∷ Some (fault.Unknown 10) ∷ Some (fault.Unknown 40) ∷ [])
least_row = refl

-- a function's name that isn't called is a pointer to it; `&f` and `*p` are that pointer; `sizeof` of it is Mismatch
--     typed      int f(int a){return a;}int main(void){int (*p)(int)=f;p=&f;p=*p;return p(1)+(*p)(1)+(&f)(1)+f(1);}
--     Mismatch   int main(void){return sizeof main;}
--     Mismatch   int main(void){return sizeof putchar;}
function_names_row :
    map refusal_of (
    record { items = Function (codes "f") 4 (Int) (record { name = codes "a"; pos = 10; ty = Int; first = None } ∷ []) (Some (Block (MoreStmt (Return 13 (Some (Var 20 (codes "a")))) (NoStmt)))) ∷ Function (codes "main") 27 (Int) ([]) (Some (Block (MoreStmt (Local (record { name = codes "p"; pos = 44; ty = Pointer (Func (Int) (MoreTy (Int) (NoTy))); first = Some (One (Var 52 (codes "f"))) })) (MoreStmt (Do_expr (Assign 55 None (Var 54 (codes "p")) (Unary 56 unary.Address (Var 57 (codes "f"))))) (MoreStmt (Do_expr (Assign 60 None (Var 59 (codes "p")) (Unary 61 unary.Deref (Var 62 (codes "p"))))) (MoreStmt (Return 64 (Some (Binary 91 binary.Add (Binary 83 binary.Add (Binary 75 binary.Add (Call 72 (Var 71 (codes "p")) (MoreExpr (Number 73 1 false) (NoExpr))) (Call 80 (Unary 77 unary.Deref (Var 78 (codes "p"))) (MoreExpr (Number 81 1 false) (NoExpr)))) (Call 88 (Unary 85 unary.Address (Var 86 (codes "f"))) (MoreExpr (Number 89 1 false) (NoExpr)))) (Call 93 (Var 92 (codes "f")) (MoreExpr (Number 94 1 false) (NoExpr)))))) (NoStmt))))))) ∷ []; end = 98 }
    ∷ record { items = Function (codes "main") 4 (Int) ([]) (Some (Block (MoreStmt (Return 15 (Some (SizeOf 22 (Var 29 (codes "main"))))) (NoStmt)))) ∷ []; end = 35 }
    ∷ record { items = Function (codes "main") 4 (Int) ([]) (Some (Block (MoreStmt (Return 15 (Some (SizeOf 22 (Var 29 (codes "putchar"))))) (NoStmt)))) ∷ []; end = 38 }
    ∷ [])
    ≡ (None ∷ Some (fault.Mismatch 22) ∷ Some (fault.Mismatch 22) ∷ [])
function_names_row = refl

-- a function pointer converts to an equal type alone; `==`, `!=`, conditions and `!` take it; no order, sum, difference or step
--     Mismatch   int f(int a){return a;}int main(void){int (*p)(void);p=f;}
--     typed      int main(void){int (*p)(void);if(p)return p==main&&p!=NULL&&!p;}
--     Mismatch   int main(void){int (*p)(void);p<p;}
--     Mismatch   int main(void){int (*p)(void);p+1;}
--     Mismatch   int main(void){int (*p)(void);p-p;}
--     Mismatch   int main(void){int (*p)(void);p++;}
--     Mismatch   int main(void){int (*p)(void);int (*q)(int);p==q;}
function_pointers_row :
    map refusal_of (
    record { items = Function (codes "f") 4 (Int) (record { name = codes "a"; pos = 10; ty = Int; first = None } ∷ []) (Some (Block (MoreStmt (Return 13 (Some (Var 20 (codes "a")))) (NoStmt)))) ∷ Function (codes "main") 27 (Int) ([]) (Some (Block (MoreStmt (Local (record { name = codes "p"; pos = 44; ty = Pointer (Func (Int) (NoTy)); first = None })) (MoreStmt (Do_expr (Assign 54 None (Var 53 (codes "p")) (Var 55 (codes "f")))) (NoStmt))))) ∷ []; end = 58 }
    ∷ record { items = Function (codes "main") 4 (Int) ([]) (Some (Block (MoreStmt (Local (record { name = codes "p"; pos = 21; ty = Pointer (Func (Int) (NoTy)); first = None })) (MoreStmt (If (Var 33 (codes "p")) (Return 35 (Some (Binary 58 binary.And (Binary 49 binary.And (Binary 43 binary.Eq (Var 42 (codes "p")) (Var 45 (codes "main"))) (Binary 52 binary.Ne (Var 51 (codes "p")) (Null 54))) (Unary 60 unary.Not (Var 61 (codes "p"))))))) (NoStmt))))) ∷ []; end = 64 }
    ∷ record { items = Function (codes "main") 4 (Int) ([]) (Some (Block (MoreStmt (Local (record { name = codes "p"; pos = 21; ty = Pointer (Func (Int) (NoTy)); first = None })) (MoreStmt (Do_expr (Binary 31 binary.Lt (Var 30 (codes "p")) (Var 32 (codes "p")))) (NoStmt))))) ∷ []; end = 35 }
    ∷ record { items = Function (codes "main") 4 (Int) ([]) (Some (Block (MoreStmt (Local (record { name = codes "p"; pos = 21; ty = Pointer (Func (Int) (NoTy)); first = None })) (MoreStmt (Do_expr (Binary 31 binary.Add (Var 30 (codes "p")) (Number 32 1 false))) (NoStmt))))) ∷ []; end = 35 }
    ∷ record { items = Function (codes "main") 4 (Int) ([]) (Some (Block (MoreStmt (Local (record { name = codes "p"; pos = 21; ty = Pointer (Func (Int) (NoTy)); first = None })) (MoreStmt (Do_expr (Binary 31 binary.Sub (Var 30 (codes "p")) (Var 32 (codes "p")))) (NoStmt))))) ∷ []; end = 35 }
    ∷ record { items = Function (codes "main") 4 (Int) ([]) (Some (Block (MoreStmt (Local (record { name = codes "p"; pos = 21; ty = Pointer (Func (Int) (NoTy)); first = None })) (MoreStmt (Do_expr (Step 31 step.PostInc (Var 30 (codes "p")))) (NoStmt))))) ∷ []; end = 35 }
    ∷ record { items = Function (codes "main") 4 (Int) ([]) (Some (Block (MoreStmt (Local (record { name = codes "p"; pos = 21; ty = Pointer (Func (Int) (NoTy)); first = None })) (MoreStmt (Local (record { name = codes "q"; pos = 36; ty = Pointer (Func (Int) (MoreTy (Int) (NoTy))); first = None })) (MoreStmt (Do_expr (Binary 45 binary.Eq (Var 44 (codes "p")) (Var 47 (codes "q")))) (NoStmt)))))) ∷ []; end = 50 }
    ∷ [])
    ≡ (Some (fault.Mismatch 54) ∷ None ∷ Some (fault.Mismatch 31) ∷ Some (fault.Mismatch 31) ∷ Some (fault.Mismatch 31) ∷ Some (fault.Mismatch 31) ∷ Some (fault.Mismatch 45) ∷ [])
function_pointers_row = refl

-- the value of a `switch` is arithmetic; a case has a constant expression, converted to the switch's type; no two are equal
--     Mismatch   int main(void){int *p;switch(p){}}
--     Mismatch   int main(void){int i;switch(1){case i:;}}
--     Twice      int main(void){switch(1){case 1: case 1:;}}
--     Twice      int main(void){switch(1){default:; default:;}}
--     Twice      int main(void){switch(1){case -1:; case 16777215u:;}}
--     Mismatch   int main(void){switch(1){case 1/0:;}}
--     typed      int main(void){switch(1){case 1:;case 2:{switch(2){case 1:;default:;}}default:;}}
switches_row :
    map refusal_of (
    record { items = Function (codes "main") 4 (Int) ([]) (Some (Block (MoreStmt (Local (record { name = codes "p"; pos = 20; ty = Pointer Int; first = None })) (MoreStmt (Switch (Var 29 (codes "p")) (NoPart)) (NoStmt))))) ∷ []; end = 34 }
    ∷ record { items = Function (codes "main") 4 (Int) ([]) (Some (Block (MoreStmt (Local (record { name = codes "i"; pos = 19; ty = Int; first = None })) (MoreStmt (Switch (Number 28 1 false) (MorePart (Label 31 (Some (Var 36 (codes "i")))) (MorePart (Item (Empty)) (NoPart)))) (NoStmt))))) ∷ []; end = 41 }
    ∷ record { items = Function (codes "main") 4 (Int) ([]) (Some (Block (MoreStmt (Switch (Number 22 1 false) (MorePart (Label 25 (Some (Number 30 1 false))) (MorePart (Label 33 (Some (Number 38 1 false))) (MorePart (Item (Empty)) (NoPart))))) (NoStmt)))) ∷ []; end = 43 }
    ∷ record { items = Function (codes "main") 4 (Int) ([]) (Some (Block (MoreStmt (Switch (Number 22 1 false) (MorePart (Label 25 None) (MorePart (Item (Empty)) (MorePart (Label 35 None) (MorePart (Item (Empty)) (NoPart)))))) (NoStmt)))) ∷ []; end = 46 }
    ∷ record { items = Function (codes "main") 4 (Int) ([]) (Some (Block (MoreStmt (Switch (Number 22 1 false) (MorePart (Label 25 (Some (Unary 30 unary.Minus (Number 31 1 false)))) (MorePart (Item (Empty)) (MorePart (Label 35 (Some (Number 40 16777215 true))) (MorePart (Item (Empty)) (NoPart)))))) (NoStmt)))) ∷ []; end = 53 }
    ∷ record { items = Function (codes "main") 4 (Int) ([]) (Some (Block (MoreStmt (Switch (Number 22 1 false) (MorePart (Label 25 (Some (Binary 31 binary.Div (Number 30 1 false) (Number 32 0 false)))) (MorePart (Item (Empty)) (NoPart)))) (NoStmt)))) ∷ []; end = 37 }
    ∷ record { items = Function (codes "main") 4 (Int) ([]) (Some (Block (MoreStmt (Switch (Number 22 1 false) (MorePart (Label 25 (Some (Number 30 1 false))) (MorePart (Item (Empty)) (MorePart (Label 33 (Some (Number 38 2 false))) (MorePart (Item (Block (MoreStmt (Switch (Number 48 2 false) (MorePart (Label 51 (Some (Number 56 1 false))) (MorePart (Item (Empty)) (MorePart (Label 59 None) (MorePart (Item (Empty)) (NoPart)))))) (NoStmt)))) (MorePart (Label 70 None) (MorePart (Item (Empty)) (NoPart)))))))) (NoStmt)))) ∷ []; end = 81 }
    ∷ [])
    ≡ (Some (fault.Mismatch 29) ∷ Some (fault.Mismatch 36) ∷ Some (fault.Twice 33) ∷ Some (fault.Twice 35) ∷ Some (fault.Twice 35) ∷ Some (fault.Mismatch 31) ∷ None ∷ [])
switches_row = refl

-- texts that are typed
--     typed      int abs(int a){return a<0?-a:a;}int main(void){return abs(-1);}
--     typed      unsigned strlen(const char *s){unsigned n=0;while(s[n])n++;return n;}int strcmp(const char *a,const char *b){unsigned char x,y;while(*a&&*a==*b){a++;b++;}x=*a;y=*b;return x<y?-1:x>y;}char *strcpy(char *d,const char *s){char *r=d;while(*d++=*s++);return r;}void *memset(void *p,int c,unsigned n){char *q=p;while(n){*q++=c;n--;}return p;}void *memcpy(void *d,const void *s,unsigned n){char *q=d;const char *r=s;while(n){*q++=*r++;n--;}return d;}int main(void){char s[6]; strcpy(s,"hello"); printf("%s %u",s,strlen(s)); return 0;}
--     typed      int main(void){printf("%d %d %d %d",-7/2,-7%2,(-8388607-1)/-1,-1<1);return 0;}
--     typed      int main(void){int z; z=0; putchar('x'); return 1/z;}
--     typed      int f(int n){int a[3]; a[0]=n; if(n==0) return 0; return f(n-1)+a[0]-n+1;} int main(void){printf("%d",f(1000)); if(1) if(0) putchar('a'); else putchar('b'); return 0;}
--     typed      int add(int a,int b){return a+b;} int sub(int a,int b){return a-b;} int main(void){int (*t[2])(int,int)={add,sub}; int i; for(i=0;i<2;i++) printf("%d ",t[i](7,3)); return 0;}
--     typed      int main(void){int (*p)(void); p=NULL; putchar('x'); return p();}
--     typed      struct node{int value;struct node *next;};struct node nodes[2]={{1,NULL},{2,nodes}};int sum(struct node *n){int s;for(s=0;n;n=n->next)s+=n->value;return s;}int main(){return sum(&nodes[1])-(*nodes).value;}
accepted_row :
    map refusal_of (
    record { items = Function (codes "abs") 4 (Int) (record { name = codes "a"; pos = 12; ty = Int; first = None } ∷ []) (Some (Block (MoreStmt (Return 15 (Some (Cond 25 (Binary 23 binary.Lt (Var 22 (codes "a")) (Number 24 0 false)) (Unary 26 unary.Minus (Var 27 (codes "a"))) (Var 29 (codes "a"))))) (NoStmt)))) ∷ Function (codes "main") 36 (Int) ([]) (Some (Block (MoreStmt (Return 47 (Some (Call 57 (Var 54 (codes "abs")) (MoreExpr (Unary 58 unary.Minus (Number 59 1 false)) (NoExpr))))) (NoStmt)))) ∷ []; end = 63 }
    ∷ record { items = Function (codes "strlen") 9 (Unsigned) (record { name = codes "s"; pos = 28; ty = Pointer Char; first = None } ∷ []) (Some (Block (MoreStmt (Local (record { name = codes "n"; pos = 40; ty = Unsigned; first = Some (One (Number 42 0 false)) })) (MoreStmt (While (Index 51 (Var 50 (codes "s")) (Var 52 (codes "n"))) (Do_expr (Step 56 step.PostInc (Var 55 (codes "n"))))) (MoreStmt (Return 59 (Some (Var 66 (codes "n")))) (NoStmt)))))) ∷ Function (codes "strcmp") 73 (Int) (record { name = codes "a"; pos = 92; ty = Pointer Char; first = None } ∷ record { name = codes "b"; pos = 106; ty = Pointer Char; first = None } ∷ []) (Some (Block (MoreStmt (Local (record { name = codes "x"; pos = 123; ty = UChar; first = None })) (MoreStmt (Local (record { name = codes "y"; pos = 125; ty = UChar; first = None })) (MoreStmt (While (Binary 135 binary.And (Unary 133 unary.Deref (Var 134 (codes "a"))) (Binary 139 binary.Eq (Unary 137 unary.Deref (Var 138 (codes "a"))) (Unary 141 unary.Deref (Var 142 (codes "b"))))) (Block (MoreStmt (Do_expr (Step 146 step.PostInc (Var 145 (codes "a")))) (MoreStmt (Do_expr (Step 150 step.PostInc (Var 149 (codes "b")))) (NoStmt))))) (MoreStmt (Do_expr (Assign 155 None (Var 154 (codes "x")) (Unary 156 unary.Deref (Var 157 (codes "a"))))) (MoreStmt (Do_expr (Assign 160 None (Var 159 (codes "y")) (Unary 161 unary.Deref (Var 162 (codes "b"))))) (MoreStmt (Return 164 (Some (Cond 174 (Binary 172 binary.Lt (Var 171 (codes "x")) (Var 173 (codes "y"))) (Unary 175 unary.Minus (Number 176 1 false)) (Binary 179 binary.Gt (Var 178 (codes "x")) (Var 180 (codes "y")))))) (NoStmt))))))))) ∷ Function (codes "strcpy") 189 (Pointer Char) (record { name = codes "d"; pos = 202; ty = Pointer Char; first = None } ∷ record { name = codes "s"; pos = 216; ty = Pointer Char; first = None } ∷ []) (Some (Block (MoreStmt (Local (record { name = codes "r"; pos = 225; ty = Pointer Char; first = Some (One (Var 227 (codes "d"))) })) (MoreStmt (While (Assign 239 None (Unary 235 unary.Deref (Step 237 step.PostInc (Var 236 (codes "d")))) (Unary 240 unary.Deref (Step 242 step.PostInc (Var 241 (codes "s"))))) (Empty)) (MoreStmt (Return 246 (Some (Var 253 (codes "r")))) (NoStmt)))))) ∷ Function (codes "memset") 262 (Pointer Void) (record { name = codes "p"; pos = 275; ty = Pointer Void; first = None } ∷ record { name = codes "c"; pos = 281; ty = Int; first = None } ∷ record { name = codes "n"; pos = 292; ty = Unsigned; first = None } ∷ []) (Some (Block (MoreStmt (Local (record { name = codes "q"; pos = 301; ty = Pointer Char; first = Some (One (Var 303 (codes "p"))) })) (MoreStmt (While (Var 311 (codes "n")) (Block (MoreStmt (Do_expr (Assign 318 None (Unary 314 unary.Deref (Step 316 step.PostInc (Var 315 (codes "q")))) (Var 319 (codes "c")))) (MoreStmt (Do_expr (Step 322 step.PostDec (Var 321 (codes "n")))) (NoStmt))))) (MoreStmt (Return 326 (Some (Var 333 (codes "p")))) (NoStmt)))))) ∷ Function (codes "memcpy") 342 (Pointer Void) (record { name = codes "d"; pos = 355; ty = Pointer Void; first = None } ∷ record { name = codes "s"; pos = 369; ty = Pointer Void; first = None } ∷ record { name = codes "n"; pos = 380; ty = Unsigned; first = None } ∷ []) (Some (Block (MoreStmt (Local (record { name = codes "q"; pos = 389; ty = Pointer Char; first = Some (One (Var 391 (codes "d"))) })) (MoreStmt (Local (record { name = codes "r"; pos = 405; ty = Pointer Char; first = Some (One (Var 407 (codes "s"))) })) (MoreStmt (While (Var 415 (codes "n")) (Block (MoreStmt (Do_expr (Assign 422 None (Unary 418 unary.Deref (Step 420 step.PostInc (Var 419 (codes "q")))) (Unary 423 unary.Deref (Step 425 step.PostInc (Var 424 (codes "r")))))) (MoreStmt (Do_expr (Step 429 step.PostDec (Var 428 (codes "n")))) (NoStmt))))) (MoreStmt (Return 433 (Some (Var 440 (codes "d")))) (NoStmt))))))) ∷ Function (codes "main") 447 (Int) ([]) (Some (Block (MoreStmt (Local (record { name = codes "s"; pos = 463; ty = ArrayOf (Char) (Number 465 6 false); first = None })) (MoreStmt (Do_expr (Call 475 (Var 469 (codes "strcpy")) (MoreExpr (Var 476 (codes "s")) (MoreExpr (Str 478 (codes "hello")) (NoExpr))))) (MoreStmt (Do_expr (Call 494 (Var 488 (codes "printf")) (MoreExpr (Str 495 (codes "%s %u")) (MoreExpr (Var 503 (codes "s")) (MoreExpr (Call 511 (Var 505 (codes "strlen")) (MoreExpr (Var 512 (codes "s")) (NoExpr))) (NoExpr)))))) (MoreStmt (Return 517 (Some (Number 524 0 false))) (NoStmt))))))) ∷ []; end = 527 }
    ∷ record { items = Function (codes "main") 4 (Int) ([]) (Some (Block (MoreStmt (Do_expr (Call 21 (Var 15 (codes "printf")) (MoreExpr (Str 22 (codes "%d %d %d %d")) (MoreExpr (Binary 38 binary.Div (Unary 36 unary.Minus (Number 37 7 false)) (Number 39 2 false)) (MoreExpr (Binary 43 binary.Mod (Unary 41 unary.Minus (Number 42 7 false)) (Number 44 2 false)) (MoreExpr (Binary 58 binary.Div (Binary 55 binary.Sub (Unary 47 unary.Minus (Number 48 8388607 false)) (Number 56 1 false)) (Unary 59 unary.Minus (Number 60 1 false))) (MoreExpr (Binary 64 binary.Lt (Unary 62 unary.Minus (Number 63 1 false)) (Number 65 1 false)) (NoExpr)))))))) (MoreStmt (Return 68 (Some (Number 75 0 false))) (NoStmt))))) ∷ []; end = 78 }
    ∷ record { items = Function (codes "main") 4 (Int) ([]) (Some (Block (MoreStmt (Local (record { name = codes "z"; pos = 19; ty = Int; first = None })) (MoreStmt (Do_expr (Assign 23 None (Var 22 (codes "z")) (Number 24 0 false))) (MoreStmt (Do_expr (Call 34 (Var 27 (codes "putchar")) (MoreExpr (Number 35 120 false) (NoExpr)))) (MoreStmt (Return 41 (Some (Binary 49 binary.Div (Number 48 1 false) (Var 50 (codes "z"))))) (NoStmt))))))) ∷ []; end = 53 }
    ∷ record { items = Function (codes "f") 4 (Int) (record { name = codes "n"; pos = 10; ty = Int; first = None } ∷ []) (Some (Block (MoreStmt (Local (record { name = codes "a"; pos = 17; ty = ArrayOf (Int) (Number 19 3 false); first = None })) (MoreStmt (Do_expr (Assign 27 None (Index 24 (Var 23 (codes "a")) (Number 25 0 false)) (Var 28 (codes "n")))) (MoreStmt (If (Binary 35 binary.Eq (Var 34 (codes "n")) (Number 37 0 false)) (Return 40 (Some (Number 47 0 false)))) (MoreStmt (Return 50 (Some (Binary 70 binary.Add (Binary 68 binary.Sub (Binary 63 binary.Add (Call 58 (Var 57 (codes "f")) (MoreExpr (Binary 60 binary.Sub (Var 59 (codes "n")) (Number 61 1 false)) (NoExpr))) (Index 65 (Var 64 (codes "a")) (Number 66 0 false))) (Var 69 (codes "n"))) (Number 71 1 false)))) (NoStmt))))))) ∷ Function (codes "main") 79 (Int) ([]) (Some (Block (MoreStmt (Do_expr (Call 96 (Var 90 (codes "printf")) (MoreExpr (Str 97 (codes "%d")) (MoreExpr (Call 103 (Var 102 (codes "f")) (MoreExpr (Number 104 1000 false) (NoExpr))) (NoExpr))))) (MoreStmt (If (Number 115 1 false) (IfElse (Number 121 0 false) (Do_expr (Call 131 (Var 124 (codes "putchar")) (MoreExpr (Number 132 97 false) (NoExpr)))) (Do_expr (Call 150 (Var 143 (codes "putchar")) (MoreExpr (Number 151 98 false) (NoExpr)))))) (MoreStmt (Return 157 (Some (Number 164 0 false))) (NoStmt)))))) ∷ []; end = 167 }
    ∷ record { items = Function (codes "add") 4 (Int) (record { name = codes "a"; pos = 12; ty = Int; first = None } ∷ record { name = codes "b"; pos = 18; ty = Int; first = None } ∷ []) (Some (Block (MoreStmt (Return 21 (Some (Binary 29 binary.Add (Var 28 (codes "a")) (Var 30 (codes "b"))))) (NoStmt)))) ∷ Function (codes "sub") 38 (Int) (record { name = codes "a"; pos = 46; ty = Int; first = None } ∷ record { name = codes "b"; pos = 52; ty = Int; first = None } ∷ []) (Some (Block (MoreStmt (Return 55 (Some (Binary 63 binary.Sub (Var 62 (codes "a")) (Var 64 (codes "b"))))) (NoStmt)))) ∷ Function (codes "main") 72 (Int) ([]) (Some (Block (MoreStmt (Local (record { name = codes "t"; pos = 89; ty = ArrayOf (Pointer (Func (Int) (MoreTy (Int) (MoreTy (Int) (NoTy))))) (Number 91 2 false); first = Some (Many (MoreValue (One (Var 105 (codes "add"))) (MoreValue (One (Var 109 (codes "sub"))) (NoValue)))) })) (MoreStmt (Local (record { name = codes "i"; pos = 119; ty = Int; first = None })) (MoreStmt (For (Do_expr (Assign 127 None (Var 126 (codes "i")) (Number 128 0 false))) (Some (Binary 131 binary.Lt (Var 130 (codes "i")) (Number 132 2 false))) (Some (Step 135 step.PostInc (Var 134 (codes "i")))) (Do_expr (Call 145 (Var 139 (codes "printf")) (MoreExpr (Str 146 (codes "%d ")) (MoreExpr (Call 156 (Index 153 (Var 152 (codes "t")) (Var 154 (codes "i"))) (MoreExpr (Number 157 7 false) (MoreExpr (Number 159 3 false) (NoExpr)))) (NoExpr)))))) (MoreStmt (Return 164 (Some (Number 171 0 false))) (NoStmt))))))) ∷ []; end = 174 }
    ∷ record { items = Function (codes "main") 4 (Int) ([]) (Some (Block (MoreStmt (Local (record { name = codes "p"; pos = 21; ty = Pointer (Func (Int) (NoTy)); first = None })) (MoreStmt (Do_expr (Assign 32 None (Var 31 (codes "p")) (Null 33))) (MoreStmt (Do_expr (Call 46 (Var 39 (codes "putchar")) (MoreExpr (Number 47 120 false) (NoExpr)))) (MoreStmt (Return 53 (Some (Call 61 (Var 60 (codes "p")) (NoExpr)))) (NoStmt))))))) ∷ []; end = 65 }
    ∷ record { items = StructItem (record { name = codes "node"; pos = 7; members = record { name = codes "value"; pos = 16; ty = Int; first = None } ∷ record { name = codes "next"; pos = 35; ty = Pointer (Struct (codes "node")); first = None } ∷ [] }) ∷ Object (record { name = codes "nodes"; pos = 54; ty = ArrayOf (Struct (codes "node")) (Number 60 2 false); first = Some (Many (MoreValue (Many (MoreValue (One (Number 65 1 false)) (MoreValue (One (Null 67)) (NoValue)))) (MoreValue (Many (MoreValue (One (Number 74 2 false)) (MoreValue (One (Var 76 (codes "nodes"))) (NoValue)))) (NoValue)))) }) ∷ Function (codes "sum") 88 (Int) (record { name = codes "n"; pos = 105; ty = Pointer (Struct (codes "node")); first = None } ∷ []) (Some (Block (MoreStmt (Local (record { name = codes "s"; pos = 112; ty = Int; first = None })) (MoreStmt (For (Do_expr (Assign 119 None (Var 118 (codes "s")) (Number 120 0 false))) (Some (Var 122 (codes "n"))) (Some (Assign 125 None (Var 124 (codes "n")) (Arrow 127 (Var 126 (codes "n")) (codes "next")))) (Do_expr (Assign 135 (Some binary.Add) (Var 134 (codes "s")) (Arrow 138 (Var 137 (codes "n")) (codes "value"))))) (MoreStmt (Return 146 (Some (Var 153 (codes "s")))) (NoStmt)))))) ∷ Function (codes "main") 160 (Int) ([]) (Some (Block (MoreStmt (Return 167 (Some (Binary 188 binary.Sub (Call 177 (Var 174 (codes "sum")) (MoreExpr (Unary 178 unary.Address (Index 184 (Var 179 (codes "nodes")) (Number 185 1 false))) (NoExpr))) (Member 197 (Unary 190 unary.Deref (Var 191 (codes "nodes"))) (codes "value"))))) (NoStmt)))) ∷ []; end = 205 }
    ∷ [])
    ≡ (None ∷ None ∷ None ∷ None ∷ None ∷ None ∷ None ∷ None ∷ [])
accepted_row = refl

-- weights and rooms
--     5 and 406   int main(void){return 0;}
--     20 and 856   int main(void){int c; while((c=getchar())!=-1) putchar(c+1); return 0;}
--     37 and 1366   int main(void){int c; while((c=getchar())!=-1){switch(c){case 'a': putchar('A'); break; case 'b': putchar('B'); default: putchar('.');}} return 0;}
weights_row :
    map weight_and_room (
    record { items = Function (codes "main") 4 (Int) ([]) (Some (Block (MoreStmt (Return 15 (Some (Number 22 0 false))) (NoStmt)))) ∷ []; end = 25 }
    ∷ record { items = Function (codes "main") 4 (Int) ([]) (Some (Block (MoreStmt (Local (record { name = codes "c"; pos = 19; ty = Int; first = None })) (MoreStmt (While (Binary 41 binary.Ne (Assign 30 None (Var 29 (codes "c")) (Call 38 (Var 31 (codes "getchar")) (NoExpr))) (Unary 43 unary.Minus (Number 44 1 false))) (Do_expr (Call 54 (Var 47 (codes "putchar")) (MoreExpr (Binary 56 binary.Add (Var 55 (codes "c")) (Number 57 1 false)) (NoExpr))))) (MoreStmt (Return 61 (Some (Number 68 0 false))) (NoStmt)))))) ∷ []; end = 71 }
    ∷ record { items = Function (codes "main") 4 (Int) ([]) (Some (Block (MoreStmt (Local (record { name = codes "c"; pos = 19; ty = Int; first = None })) (MoreStmt (While (Binary 41 binary.Ne (Assign 30 None (Var 29 (codes "c")) (Call 38 (Var 31 (codes "getchar")) (NoExpr))) (Unary 43 unary.Minus (Number 44 1 false))) (Block (MoreStmt (Switch (Var 54 (codes "c")) (MorePart (Label 57 (Some (Number 62 97 false))) (MorePart (Item (Do_expr (Call 74 (Var 67 (codes "putchar")) (MoreExpr (Number 75 65 false) (NoExpr))))) (MorePart (Item (Break 81)) (MorePart (Label 88 (Some (Number 93 98 false))) (MorePart (Item (Do_expr (Call 105 (Var 98 (codes "putchar")) (MoreExpr (Number 106 66 false) (NoExpr))))) (MorePart (Label 112 None) (MorePart (Item (Do_expr (Call 128 (Var 121 (codes "putchar")) (MoreExpr (Number 129 46 false) (NoExpr))))) (NoPart))))))))) (NoStmt)))) (MoreStmt (Return 137 (Some (Number 144 0 false))) (NoStmt)))))) ∷ []; end = 147 }
    ∷ [])
    ≡ ((5, 406) ∷ (20, 856) ∷ (37, 1366) ∷ [])
weights_row = refl

-- kinds: the nine operators and their compound assignments, conversions, `puts`, arithmetic and difference of pointers to elements of more than one word
--     1   int main(void){int i;i=1;i*=2;}
--     1   int main(void){int i;i=1;i/=2;}
--     1   int main(void){int i;i=1;i%=2;}
--     1   int main(void){int i;i=1;i&=2;}
--     1   int main(void){int i;i=1;i|=2;}
--     1   int main(void){int i;i=1;i^=2;}
--     1   int main(void){int i;i=1;i<<=2;}
--     1   int main(void){int i;i=1;i>>=2;}
--     1   int main(void){return ~1;}
--     3   int main(void){return 1*2/3%4;}
--     4   int main(void){printf("%d%u%x%s%c%%",1,1,1,"",1);}
--     1   int main(void){printf("%d%d",1,1);}
--     1   int main(void){puts("");puts("a");}
--     1   struct t{int a;int b;};int main(void){struct t s[2];struct t *p;p=s+1;}
--     2   struct t{int a;int b;};int main(void){struct t *p;int n;p=NULL;p++;n=p-p;}
--     1   int main(void){int a[2][2];a[1][0]=1;}
--     0   int main(void){int a[2];a[1]=*(a+1);&a[1]-a;}
--     1   int main(void){sizeof(1*2);}
--     1   int a[1*2];int main(void){return 0;}
--     1   int f(void){return 1*2;}int main(void){return 0;}
kinds_row :
    map kinds_of (
    record { items = Function (codes "main") 4 (Int) ([]) (Some (Block (MoreStmt (Local (record { name = codes "i"; pos = 19; ty = Int; first = None })) (MoreStmt (Do_expr (Assign 22 None (Var 21 (codes "i")) (Number 23 1 false))) (MoreStmt (Do_expr (Assign 26 (Some binary.Mul) (Var 25 (codes "i")) (Number 28 2 false))) (NoStmt)))))) ∷ []; end = 31 }
    ∷ record { items = Function (codes "main") 4 (Int) ([]) (Some (Block (MoreStmt (Local (record { name = codes "i"; pos = 19; ty = Int; first = None })) (MoreStmt (Do_expr (Assign 22 None (Var 21 (codes "i")) (Number 23 1 false))) (MoreStmt (Do_expr (Assign 26 (Some binary.Div) (Var 25 (codes "i")) (Number 28 2 false))) (NoStmt)))))) ∷ []; end = 31 }
    ∷ record { items = Function (codes "main") 4 (Int) ([]) (Some (Block (MoreStmt (Local (record { name = codes "i"; pos = 19; ty = Int; first = None })) (MoreStmt (Do_expr (Assign 22 None (Var 21 (codes "i")) (Number 23 1 false))) (MoreStmt (Do_expr (Assign 26 (Some binary.Mod) (Var 25 (codes "i")) (Number 28 2 false))) (NoStmt)))))) ∷ []; end = 31 }
    ∷ record { items = Function (codes "main") 4 (Int) ([]) (Some (Block (MoreStmt (Local (record { name = codes "i"; pos = 19; ty = Int; first = None })) (MoreStmt (Do_expr (Assign 22 None (Var 21 (codes "i")) (Number 23 1 false))) (MoreStmt (Do_expr (Assign 26 (Some binary.BitAnd) (Var 25 (codes "i")) (Number 28 2 false))) (NoStmt)))))) ∷ []; end = 31 }
    ∷ record { items = Function (codes "main") 4 (Int) ([]) (Some (Block (MoreStmt (Local (record { name = codes "i"; pos = 19; ty = Int; first = None })) (MoreStmt (Do_expr (Assign 22 None (Var 21 (codes "i")) (Number 23 1 false))) (MoreStmt (Do_expr (Assign 26 (Some binary.BitOr) (Var 25 (codes "i")) (Number 28 2 false))) (NoStmt)))))) ∷ []; end = 31 }
    ∷ record { items = Function (codes "main") 4 (Int) ([]) (Some (Block (MoreStmt (Local (record { name = codes "i"; pos = 19; ty = Int; first = None })) (MoreStmt (Do_expr (Assign 22 None (Var 21 (codes "i")) (Number 23 1 false))) (MoreStmt (Do_expr (Assign 26 (Some binary.BitXor) (Var 25 (codes "i")) (Number 28 2 false))) (NoStmt)))))) ∷ []; end = 31 }
    ∷ record { items = Function (codes "main") 4 (Int) ([]) (Some (Block (MoreStmt (Local (record { name = codes "i"; pos = 19; ty = Int; first = None })) (MoreStmt (Do_expr (Assign 22 None (Var 21 (codes "i")) (Number 23 1 false))) (MoreStmt (Do_expr (Assign 26 (Some binary.Shl) (Var 25 (codes "i")) (Number 29 2 false))) (NoStmt)))))) ∷ []; end = 32 }
    ∷ record { items = Function (codes "main") 4 (Int) ([]) (Some (Block (MoreStmt (Local (record { name = codes "i"; pos = 19; ty = Int; first = None })) (MoreStmt (Do_expr (Assign 22 None (Var 21 (codes "i")) (Number 23 1 false))) (MoreStmt (Do_expr (Assign 26 (Some binary.Shr) (Var 25 (codes "i")) (Number 29 2 false))) (NoStmt)))))) ∷ []; end = 32 }
    ∷ record { items = Function (codes "main") 4 (Int) ([]) (Some (Block (MoreStmt (Return 15 (Some (Unary 22 unary.Invert (Number 23 1 false)))) (NoStmt)))) ∷ []; end = 26 }
    ∷ record { items = Function (codes "main") 4 (Int) ([]) (Some (Block (MoreStmt (Return 15 (Some (Binary 27 binary.Mod (Binary 25 binary.Div (Binary 23 binary.Mul (Number 22 1 false) (Number 24 2 false)) (Number 26 3 false)) (Number 28 4 false)))) (NoStmt)))) ∷ []; end = 31 }
    ∷ record { items = Function (codes "main") 4 (Int) ([]) (Some (Block (MoreStmt (Do_expr (Call 21 (Var 15 (codes "printf")) (MoreExpr (Str 22 (codes "%d%u%x%s%c%%")) (MoreExpr (Number 37 1 false) (MoreExpr (Number 39 1 false) (MoreExpr (Number 41 1 false) (MoreExpr (Str 43 ([])) (MoreExpr (Number 46 1 false) (NoExpr))))))))) (NoStmt)))) ∷ []; end = 50 }
    ∷ record { items = Function (codes "main") 4 (Int) ([]) (Some (Block (MoreStmt (Do_expr (Call 21 (Var 15 (codes "printf")) (MoreExpr (Str 22 (codes "%d%d")) (MoreExpr (Number 29 1 false) (MoreExpr (Number 31 1 false) (NoExpr)))))) (NoStmt)))) ∷ []; end = 35 }
    ∷ record { items = Function (codes "main") 4 (Int) ([]) (Some (Block (MoreStmt (Do_expr (Call 19 (Var 15 (codes "puts")) (MoreExpr (Str 20 ([])) (NoExpr)))) (MoreStmt (Do_expr (Call 28 (Var 24 (codes "puts")) (MoreExpr (Str 29 (codes "a")) (NoExpr)))) (NoStmt))))) ∷ []; end = 35 }
    ∷ record { items = StructItem (record { name = codes "t"; pos = 7; members = record { name = codes "a"; pos = 13; ty = Int; first = None } ∷ record { name = codes "b"; pos = 19; ty = Int; first = None } ∷ [] }) ∷ Function (codes "main") 27 (Int) ([]) (Some (Block (MoreStmt (Local (record { name = codes "s"; pos = 47; ty = ArrayOf (Struct (codes "t")) (Number 49 2 false); first = None })) (MoreStmt (Local (record { name = codes "p"; pos = 62; ty = Pointer (Struct (codes "t")); first = None })) (MoreStmt (Do_expr (Assign 65 None (Var 64 (codes "p")) (Binary 67 binary.Add (Var 66 (codes "s")) (Number 68 1 false)))) (NoStmt)))))) ∷ []; end = 71 }
    ∷ record { items = StructItem (record { name = codes "t"; pos = 7; members = record { name = codes "a"; pos = 13; ty = Int; first = None } ∷ record { name = codes "b"; pos = 19; ty = Int; first = None } ∷ [] }) ∷ Function (codes "main") 27 (Int) ([]) (Some (Block (MoreStmt (Local (record { name = codes "p"; pos = 48; ty = Pointer (Struct (codes "t")); first = None })) (MoreStmt (Local (record { name = codes "n"; pos = 54; ty = Int; first = None })) (MoreStmt (Do_expr (Assign 57 None (Var 56 (codes "p")) (Null 58))) (MoreStmt (Do_expr (Step 64 step.PostInc (Var 63 (codes "p")))) (MoreStmt (Do_expr (Assign 68 None (Var 67 (codes "n")) (Binary 70 binary.Sub (Var 69 (codes "p")) (Var 71 (codes "p"))))) (NoStmt)))))))) ∷ []; end = 74 }
    ∷ record { items = Function (codes "main") 4 (Int) ([]) (Some (Block (MoreStmt (Local (record { name = codes "a"; pos = 19; ty = ArrayOf (ArrayOf (Int) (Number 24 2 false)) (Number 21 2 false); first = None })) (MoreStmt (Do_expr (Assign 34 None (Index 31 (Index 28 (Var 27 (codes "a")) (Number 29 1 false)) (Number 32 0 false)) (Number 35 1 false))) (NoStmt))))) ∷ []; end = 38 }
    ∷ record { items = Function (codes "main") 4 (Int) ([]) (Some (Block (MoreStmt (Local (record { name = codes "a"; pos = 19; ty = ArrayOf (Int) (Number 21 2 false); first = None })) (MoreStmt (Do_expr (Assign 28 None (Index 25 (Var 24 (codes "a")) (Number 26 1 false)) (Unary 29 unary.Deref (Binary 32 binary.Add (Var 31 (codes "a")) (Number 33 1 false))))) (MoreStmt (Do_expr (Binary 41 binary.Sub (Unary 36 unary.Address (Index 38 (Var 37 (codes "a")) (Number 39 1 false))) (Var 42 (codes "a")))) (NoStmt)))))) ∷ []; end = 45 }
    ∷ record { items = Function (codes "main") 4 (Int) ([]) (Some (Block (MoreStmt (Do_expr (SizeOf 15 (Binary 23 binary.Mul (Number 22 1 false) (Number 24 2 false)))) (NoStmt)))) ∷ []; end = 28 }
    ∷ record { items = Object (record { name = codes "a"; pos = 4; ty = ArrayOf (Int) (Binary 7 binary.Mul (Number 6 1 false) (Number 8 2 false)); first = None }) ∷ Function (codes "main") 15 (Int) ([]) (Some (Block (MoreStmt (Return 26 (Some (Number 33 0 false))) (NoStmt)))) ∷ []; end = 36 }
    ∷ record { items = Function (codes "f") 4 (Int) ([]) (Some (Block (MoreStmt (Return 12 (Some (Binary 20 binary.Mul (Number 19 1 false) (Number 21 2 false)))) (NoStmt)))) ∷ Function (codes "main") 28 (Int) ([]) (Some (Block (MoreStmt (Return 39 (Some (Number 46 0 false))) (NoStmt)))) ∷ []; end = 49 }
    ∷ [])
    ≡ (1 ∷ 1 ∷ 1 ∷ 1 ∷ 1 ∷ 1 ∷ 1 ∷ 1 ∷ 1 ∷ 3 ∷ 4 ∷ 1 ∷ 1 ∷ 1 ∷ 2 ∷ 1 ∷ 0 ∷ 1 ∷ 1 ∷ 1 ∷ [])
kinds_row = refl

-- weights
--     16   int a[3]={1};int main(void){return 0;}   (5 of main; the object: Item, Decl, Array, Int, Number 3, the braces, Value and Number 1; 3 words)
--     17   char s[]="ab";int main(void){return 0;}   (5 of main; Item, Decl, Array, Char, Value and Str; 3 words of the string and 3 of the object)
--     13   int (*p)(int,char*);int main(void){return 0;}   (5 of main; Item, Decl, Pointer, Func, Int, Int, Pointer, Char)
--     17   int main(void){int (*p)(void);p=main;return p()+main();}   (Item, Int, Block; Local, Decl, Pointer, Func, Int; Expr, =, p, main; Return, +, call, p, call)
more_weights_row :
    map weight_of (
    record { items = Object (record { name = codes "a"; pos = 4; ty = ArrayOf (Int) (Number 6 3 false); first = Some (Many (MoreValue (One (Number 10 1 false)) (NoValue))) }) ∷ Function (codes "main") 17 (Int) ([]) (Some (Block (MoreStmt (Return 28 (Some (Number 35 0 false))) (NoStmt)))) ∷ []; end = 38 }
    ∷ record { items = Object (record { name = codes "s"; pos = 5; ty = Array (Char); first = Some (One (Str 9 (codes "ab"))) }) ∷ Function (codes "main") 18 (Int) ([]) (Some (Block (MoreStmt (Return 29 (Some (Number 36 0 false))) (NoStmt)))) ∷ []; end = 39 }
    ∷ record { items = Object (record { name = codes "p"; pos = 6; ty = Pointer (Func (Int) (MoreTy (Int) (MoreTy (Pointer Char) (NoTy)))); first = None }) ∷ Function (codes "main") 24 (Int) ([]) (Some (Block (MoreStmt (Return 35 (Some (Number 42 0 false))) (NoStmt)))) ∷ []; end = 45 }
    ∷ record { items = Function (codes "main") 4 (Int) ([]) (Some (Block (MoreStmt (Local (record { name = codes "p"; pos = 21; ty = Pointer (Func (Int) (NoTy)); first = None })) (MoreStmt (Do_expr (Assign 31 None (Var 30 (codes "p")) (Var 32 (codes "main")))) (MoreStmt (Return 37 (Some (Binary 47 binary.Add (Call 45 (Var 44 (codes "p")) (NoExpr)) (Call 52 (Var 48 (codes "main")) (NoExpr))))) (NoStmt)))))) ∷ []; end = 56 }
    ∷ [])
    ≡ (16 ∷ 17 ∷ 13 ∷ 17 ∷ [])
more_weights_row = refl

-- charges
--     main 14   int main(void){return 0;}
--     f 55, main 18   int f(int n){int a[3];{int b;}return n;}int main(void){return f(1);}
charges_row :
    map charges_of (
    record { items = Function (codes "main") 4 (Int) ([]) (Some (Block (MoreStmt (Return 15 (Some (Number 22 0 false))) (NoStmt)))) ∷ []; end = 25 }
    ∷ record { items = Function (codes "f") 4 (Int) (record { name = codes "n"; pos = 10; ty = Int; first = None } ∷ []) (Some (Block (MoreStmt (Local (record { name = codes "a"; pos = 17; ty = ArrayOf (Int) (Number 19 3 false); first = None })) (MoreStmt (Block (MoreStmt (Local (record { name = codes "b"; pos = 27; ty = Int; first = None })) (NoStmt))) (MoreStmt (Return 30 (Some (Var 37 (codes "n")))) (NoStmt)))))) ∷ Function (codes "main") 44 (Int) ([]) (Some (Block (MoreStmt (Return 55 (Some (Call 63 (Var 62 (codes "f")) (MoreExpr (Number 64 1 false) (NoExpr))))) (NoStmt)))) ∷ []; end = 68 }
    ∷ [])
    ≡ (((codes "main", 14) ∷ []) ∷ ((codes "f", 55) ∷ (codes "main", 18) ∷ []) ∷ [])
charges_row = refl
