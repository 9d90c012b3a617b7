-- Tokens, what is read of them, and the trees that they spell.
use Rattle.std.proofs.Common.{◌≡◌, ℕ, Bool, true, false, List, [], ◌∷◌, ◌++◌, refl}
use Rattle.std.specs.Prelude.{Option, Some, None}
use Rattle.c_syntax.specs.declared.token.Token.{Token}
use Rattle.c_syntax.specs.declared.token.Kind.TheVariants as kind
use Rattle.c_syntax.specs.declared.token.Key.{Key}
use Rattle.c_syntax.specs.declared.token.Key.TheVariants as key
use Rattle.c_syntax.specs.declared.token.Mark.{Mark}
use Rattle.c_syntax.specs.declared.token.Mark.TheVariants as mark
use Rattle.c_syntax.specs.declared.tree.BinOp.TheVariants.{Sub, Lt, Or, Shl, Add}
use Rattle.c_syntax.specs.declared.tree.StepOp.TheVariants.{PostInc}
use Rattle.c_syntax.specs.declared.tree.UnOp.TheVariants.{Deref, Minus, Not}
use Rattle.c_syntax.specs.Plain as plain
use Rattle.c_syntax.specs.Plain.{CUnit, CStmt}
use Rattle.c_grammar.specs.Class.{class_of, same_class}
use Rattle.c_grammar.specs.Grammar.{rhs}
use Rattle.c_grammar.specs.Spelling.{Spellings, Nil}
use Rattle.c_grammar.specs.Machine.{Frame, At, opening, announced, enter, step, then_run, run, start, whole}
use Rattle.c_grammar.specs.Tree.{act, unit_tree}
use Rattle.c_grammar.specs.Nesting.{unit_depths}
use Rattle.c_grammar.specs.Spells.{Spells}
use Rattle.c_grammar.proofs.Sound.{whole_fits, whole_tokens}

abbrev m : Mark → ℕ → Token
m k p = record { kind = kind.Mark k; pos = p }

abbrev k : Key → ℕ → Token
k w p = record { kind = kind.Key w; pos = p }

abbrev n : ℕ → ℕ → Token
n x p = record { kind = kind.Name (x ∷ []); pos = p }

abbrev number : ℕ → ℕ → Token
number v p = record { kind = kind.Number v false; pos = p }

abbrev string : ℕ → ℕ → Token
string x p = record { kind = kind.Str (x ∷ []); pos = p }

abbrev end : ℕ → Token
end p = record { kind = kind.End; pos = p }

abbrev read_kids : Option (List Frame) → Spellings
read_kids (Some (At p kids row left ∷ s)) = kids
read_kids _ = Nil

-- what is read of tokens
abbrev read : List Token → Spellings
read ts = read_kids (run ts start)

spells : (ts : List Token) (kids : Spellings) (tree : CUnit) → run ts start ≡ Some (whole kids) → tree ≡ unit_tree kids → Spells ts tree
spells ts kids tree e t = record { spelt = record { kids = kids; fits = whole_fits ts kids e; tokens_are = whole_tokens ts kids e }; tree_is = t }

-- `int m(void){ .. }` with some statements
abbrev main : List Token → List Token
main body = k key.Int 0 ∷ n 109 4 ∷ m mark.LParen 5 ∷ k key.Void 6 ∷ m mark.RParen 10 ∷ m mark.LBrace 11 ∷ body

abbrev main_tree : CStmt → CUnit
main_tree s = record { items = plain.Function (109 ∷ []) 4 plain.Int [] (Some (plain.Block (plain.MoreStmt s plain.NoStmt))) ∷ []; end = 99 }

-- `int m(void){return 0;}`
abbrev return_tokens : List Token
return_tokens = main (k key.Return 12 ∷ number 0 19 ∷ m mark.Semi 20 ∷ m mark.RBrace 21 ∷ end 99 ∷ [])

return_row : Spells return_tokens (main_tree (plain.Return 12 (Some (plain.Number 19 0 false))))
unfolding class_of same_class rhs opening announced enter step then_run act
return_row = spells return_tokens (read return_tokens) _ refl refl

-- `a-a-a` to the left
abbrev left_tokens : List Token
left_tokens = main (n 97 12 ∷ m mark.Minus 13 ∷ n 97 14 ∷ m mark.Minus 15 ∷ n 97 16 ∷ m mark.Semi 17 ∷ m mark.RBrace 18 ∷ end 99 ∷ [])

left_row : Spells left_tokens (main_tree (plain.Do_expr (plain.Binary 15 Sub (plain.Binary 13 Sub (plain.Var 12 (97 ∷ [])) (plain.Var 14 (97 ∷ []))) (plain.Var 16 (97 ∷ [])))))
unfolding class_of same_class rhs opening announced enter step then_run act
left_row = spells left_tokens (read left_tokens) _ refl refl

-- an `else` is the inner `if`'s
abbrev else_tokens : List Token
else_tokens =
    main (k key.If 12 ∷ m mark.LParen 14 ∷ n 97 15 ∷ m mark.RParen 16 ∷ k key.If 17 ∷ m mark.LParen 19 ∷ n 98 20 ∷ m mark.RParen 21 ∷ m mark.Semi 22 ∷ k key.Else 23 ∷ m mark.Semi 27 ∷ m mark.RBrace 28 ∷ end 99 ∷ [])

else_row : Spells else_tokens (main_tree (plain.If (plain.Var 15 (97 ∷ [])) (plain.IfElse (plain.Var 20 (98 ∷ [])) plain.Empty plain.Empty)))
unfolding class_of same_class rhs opening announced enter step then_run act
else_row = spells else_tokens (read else_tokens) _ refl refl

-- `(int)a`, `(a)(1,2)`, `sizeof(int)`
abbrev cast_tokens : List Token
cast_tokens =
    main (m mark.LParen 12 ∷ k key.Int 13 ∷ m mark.Star 14 ∷ m mark.RParen 16 ∷ m mark.LParen 17 ∷ n 97 18 ∷ m mark.RParen 19 ∷ m mark.LParen 20 ∷ number 1 21 ∷ m mark.Comma 22 ∷ k key.Sizeof 23 ∷ m mark.LParen 29 ∷ k key.Int 30 ∷ m mark.RParen 33 ∷ m mark.RParen 34 ∷ m mark.Semi 35 ∷ m mark.RBrace 36 ∷ end 99 ∷ [])

cast_row : Spells cast_tokens (main_tree (plain.Do_expr (plain.Cast 12 (plain.Pointer plain.Int) (plain.Call 20 (plain.Var 18 (97 ∷ [])) (plain.MoreExpr (plain.Number 21 1 false) (plain.MoreExpr (plain.SizeTy 23 plain.Int) plain.NoExpr))))))
unfolding class_of same_class rhs opening announced enter step then_run act
cast_row = spells cast_tokens (read cast_tokens) _ refl refl

-- `int*a[2],b=1;` and `int(*f)(int x,char);`
abbrev object_tokens : List Token
object_tokens = k key.Int 0 ∷ m mark.Star 3 ∷ n 97 4 ∷ m mark.LBracket 5 ∷ number 2 6 ∷ m mark.RBracket 7 ∷ m mark.Comma 8 ∷ n 98 9 ∷ m mark.Assign 10 ∷ number 1 11 ∷ m mark.Semi 12 ∷ k key.Int 13 ∷ m mark.LParen 16 ∷ m mark.Star 17 ∷ n 102 18 ∷ m mark.RParen 19 ∷ m mark.LParen 20 ∷ k key.Int 21 ∷ n 120 25 ∷ m mark.Comma 26 ∷ k key.Char 27 ∷ m mark.RParen 31 ∷ m mark.Semi 32 ∷ end 33 ∷ []

object_row : Spells object_tokens
    (record { items = plain.Object (record { name = 97 ∷ []; pos = 4; ty = plain.ArrayOf (plain.Pointer plain.Int) (plain.Number 6 2 false); first = None }) ∷ plain.Object (record { name = 98 ∷ []; pos = 9; ty = plain.Int; first = Some (plain.One (plain.Number 11 1 false)) }) ∷ plain.Object (record { name = 102 ∷ []; pos = 18; ty = plain.Pointer (plain.Func plain.Int (plain.MoreTy plain.Int (plain.MoreTy plain.Char plain.NoTy))); first = None }) ∷ []; end = 33 })
unfolding class_of same_class rhs opening announced enter step then_run act
object_row = spells object_tokens (read object_tokens) _ refl refl

-- `return 1 2;` goes wrong at the 2, and `int 3;` at the 3
abbrev two_numbers : List Token
two_numbers = main (k key.Return 12 ∷ number 1 19 ∷ number 2 21 ∷ [])

two_numbers_row : run two_numbers start ≡ None
unfolding class_of same_class rhs opening announced enter step then_run
two_numbers_row = refl

no_name_row : run (k key.Int 0 ∷ number 3 4 ∷ []) start ≡ None
unfolding class_of same_class rhs opening announced enter step then_run
no_name_row = refl

-- the nesting of each token
return_depths : unit_depths (read return_tokens) ≡ 0 ∷ 0 ∷ 1 ∷ 1 ∷ 0 ∷ 1 ∷ 1 ∷ 1 ∷ 1 ∷ 0 ∷ 0 ∷ []
unfolding class_of same_class rhs opening announced enter step then_run
return_depths = refl

left_depths : unit_depths (read left_tokens) ≡ 0 ∷ 0 ∷ 1 ∷ 1 ∷ 0 ∷ 1 ∷ 1 ∷ 2 ∷ 2 ∷ 3 ∷ 3 ∷ 1 ∷ 0 ∷ 0 ∷ []
unfolding class_of same_class rhs opening announced enter step then_run
left_depths = refl

-- a cast, a call and `sizeof`
cast_depths : unit_depths (read cast_tokens) ≡ 0 ∷ 0 ∷ 1 ∷ 1 ∷ 0 ∷ 1 ∷ 2 ∷ 2 ∷ 3 ∷ 2 ∷ 3 ∷ 3 ∷ 2 ∷ 3 ∷ 3 ∷ 3 ∷ 4 ∷ 5 ∷ 5 ∷ 4 ∷ 3 ∷ 1 ∷ 0 ∷ 0 ∷ []
unfolding class_of same_class rhs opening announced enter step then_run
cast_depths = refl

-- stars and lengths, which end at the comma, and a pointer to a function
object_depths : unit_depths (read object_tokens) ≡ 0 ∷ 1 ∷ 1 ∷ 3 ∷ 3 ∷ 2 ∷ 0 ∷ 0 ∷ 0 ∷ 0 ∷ 0 ∷ 0 ∷ 1 ∷ 2 ∷ 2 ∷ 0 ∷ 1 ∷ 1 ∷ 1 ∷ 1 ∷ 1 ∷ 0 ∷ 0 ∷ 0 ∷ []
unfolding class_of same_class rhs opening announced enter step then_run
object_depths = refl

-- an `if` counts to the end of its `else` part
else_depths : unit_depths (read else_tokens) ≡ 0 ∷ 0 ∷ 1 ∷ 1 ∷ 0 ∷ 1 ∷ 2 ∷ 3 ∷ 3 ∷ 2 ∷ 3 ∷ 4 ∷ 4 ∷ 3 ∷ 3 ∷ 3 ∷ 3 ∷ 0 ∷ 0 ∷ []
unfolding class_of same_class rhs opening announced enter step then_run
else_depths = refl

-- `struct s{int a,*b[3];char c;};struct s x={1,{2,},"t"};`
abbrev struct_tokens : List Token
struct_tokens = k key.Struct 0 ∷ n 115 7 ∷ m mark.LBrace 8 ∷ k key.Int 9 ∷ n 97 13 ∷ m mark.Comma 14 ∷ m mark.Star 15 ∷ n 98 16 ∷ m mark.LBracket 17 ∷ number 3 18 ∷ m mark.RBracket 19 ∷ m mark.Semi 20 ∷ k key.Char 21 ∷ n 99 26 ∷ m mark.Semi 27 ∷ m mark.RBrace 28 ∷ m mark.Semi 29 ∷ k key.Struct 30 ∷ n 115 37 ∷ n 120 39 ∷ m mark.Assign 40 ∷ m mark.LBrace 41 ∷ number 1 42 ∷ m mark.Comma 43 ∷ m mark.LBrace 44 ∷ number 2 45 ∷ m mark.Comma 46 ∷ m mark.RBrace 47 ∷ m mark.Comma 48 ∷ string 116 49 ∷ m mark.RBrace 52 ∷ m mark.Semi 53 ∷ end 54 ∷ []

struct_row : Spells struct_tokens (record { items = plain.StructItem (record { name = (115 ∷ []); pos = 7; members = (record { name = (97 ∷ []); pos = 13; ty = plain.Int; first = None }) ∷ (record { name = (98 ∷ []); pos = 16; ty = plain.ArrayOf (plain.Pointer plain.Int) (plain.Number 18 3 false); first = None }) ∷ (record { name = (99 ∷ []); pos = 26; ty = plain.Char; first = None }) ∷ [] }) ∷ plain.Object (record { name = (120 ∷ []); pos = 39; ty = plain.Struct (115 ∷ []); first = Some (plain.Many (plain.MoreValue (plain.One (plain.Number 42 1 false)) (plain.MoreValue (plain.Many (plain.MoreValue (plain.One (plain.Number 45 2 false)) plain.NoValue)) (plain.MoreValue (plain.One (plain.Str 49 (116 ∷ []))) plain.NoValue)))) }) ∷ []; end = 54 })
unfolding class_of same_class rhs opening announced enter step then_run act
struct_row = spells struct_tokens (read struct_tokens) _ refl refl

-- `static unsigned char const*f(const int,char n[],int(*g)(void),int*);`
abbrev prototype_tokens : List Token
prototype_tokens = k key.Static 0 ∷ k key.Unsigned 7 ∷ k key.Char 16 ∷ k key.Const 21 ∷ m mark.Star 26 ∷ n 102 27 ∷ m mark.LParen 28 ∷ k key.Const 29 ∷ k key.Int 35 ∷ m mark.Comma 38 ∷ k key.Char 39 ∷ n 110 44 ∷ m mark.LBracket 45 ∷ m mark.RBracket 46 ∷ m mark.Comma 47 ∷ k key.Int 48 ∷ m mark.LParen 51 ∷ m mark.Star 52 ∷ n 103 53 ∷ m mark.RParen 54 ∷ m mark.LParen 55 ∷ k key.Void 56 ∷ m mark.RParen 60 ∷ m mark.Comma 61 ∷ k key.Int 62 ∷ m mark.Star 65 ∷ m mark.RParen 66 ∷ m mark.Semi 67 ∷ end 68 ∷ []

prototype_row : Spells prototype_tokens (record { items = plain.Function (102 ∷ []) 27 (plain.Pointer plain.UChar) ((record { name = []; pos = 29; ty = plain.Int; first = None }) ∷ (record { name = (110 ∷ []); pos = 44; ty = plain.Array plain.Char; first = None }) ∷ (record { name = (103 ∷ []); pos = 53; ty = plain.Pointer (plain.Func plain.Int plain.NoTy); first = None }) ∷ (record { name = []; pos = 62; ty = plain.Pointer plain.Int; first = None }) ∷ []) None ∷ []; end = 68 })
unfolding class_of same_class rhs opening announced enter step then_run act
prototype_row = spells prototype_tokens (read prototype_tokens) _ refl refl

-- `int m(void){for(int i=0,j;i<2;i++)while(1)do;while(3);for(;;)break;}`
abbrev loops_tokens : List Token
loops_tokens = k key.Int 0 ∷ n 109 4 ∷ m mark.LParen 5 ∷ k key.Void 6 ∷ m mark.RParen 10 ∷ m mark.LBrace 11 ∷ k key.For 12 ∷ m mark.LParen 15 ∷ k key.Int 16 ∷ n 105 20 ∷ m mark.Assign 21 ∷ number 0 22 ∷ m mark.Comma 23 ∷ n 106 24 ∷ m mark.Semi 25 ∷ n 105 26 ∷ m mark.Less 27 ∷ number 2 28 ∷ m mark.Semi 29 ∷ n 105 30 ∷ m mark.PlusPlus 31 ∷ m mark.RParen 33 ∷ k key.While 34 ∷ m mark.LParen 39 ∷ number 1 40 ∷ m mark.RParen 41 ∷ k key.Do 42 ∷ m mark.Semi 44 ∷ k key.While 45 ∷ m mark.LParen 50 ∷ number 3 51 ∷ m mark.RParen 52 ∷ m mark.Semi 53 ∷ k key.For 54 ∷ m mark.LParen 57 ∷ m mark.Semi 58 ∷ m mark.Semi 59 ∷ m mark.RParen 60 ∷ k key.Break 61 ∷ m mark.Semi 66 ∷ m mark.RBrace 67 ∷ end 68 ∷ []

loops_row : Spells loops_tokens (record { items = plain.Function (109 ∷ []) 4 plain.Int [] (Some (plain.Block (plain.MoreStmt (plain.For (plain.Block (plain.MoreStmt (plain.Local (record { name = (105 ∷ []); pos = 20; ty = plain.Int; first = Some (plain.One (plain.Number 22 0 false)) })) (plain.MoreStmt (plain.Local (record { name = (106 ∷ []); pos = 24; ty = plain.Int; first = None })) plain.NoStmt))) (Some (plain.Binary 27 Lt (plain.Var 26 (105 ∷ [])) (plain.Number 28 2 false))) (Some (plain.Step 31 PostInc (plain.Var 30 (105 ∷ [])))) (plain.While (plain.Number 40 1 false) (plain.Do plain.Empty (plain.Number 51 3 false)))) (plain.MoreStmt (plain.For plain.Empty None None (plain.Break 61)) plain.NoStmt)))) ∷ []; end = 68 })
unfolding class_of same_class rhs opening announced enter step then_run act
loops_row = spells loops_tokens (read loops_tokens) _ refl refl

-- `int m(void){switch(a){int z;case 1:default:return;}{}}`
abbrev switch_tokens : List Token
switch_tokens = k key.Int 0 ∷ n 109 4 ∷ m mark.LParen 5 ∷ k key.Void 6 ∷ m mark.RParen 10 ∷ m mark.LBrace 11 ∷ k key.Switch 12 ∷ m mark.LParen 18 ∷ n 97 19 ∷ m mark.RParen 20 ∷ m mark.LBrace 21 ∷ k key.Int 22 ∷ n 122 26 ∷ m mark.Semi 27 ∷ k key.Case 28 ∷ number 1 33 ∷ m mark.Colon 34 ∷ k key.Default 35 ∷ m mark.Colon 42 ∷ k key.Return 43 ∷ m mark.Semi 49 ∷ m mark.RBrace 50 ∷ m mark.LBrace 51 ∷ m mark.RBrace 52 ∷ m mark.RBrace 53 ∷ end 54 ∷ []

switch_row : Spells switch_tokens (record { items = plain.Function (109 ∷ []) 4 plain.Int [] (Some (plain.Block (plain.MoreStmt (plain.Switch (plain.Var 19 (97 ∷ [])) (plain.MorePart (plain.Item (plain.Local (record { name = (122 ∷ []); pos = 26; ty = plain.Int; first = None }))) (plain.MorePart (plain.Label 28 (Some (plain.Number 33 1 false))) (plain.MorePart (plain.Label 35 None) (plain.MorePart (plain.Item (plain.Return 43 None)) plain.NoPart))))) (plain.MoreStmt (plain.Block plain.NoStmt) plain.NoStmt)))) ∷ []; end = 54 })
unfolding class_of same_class rhs opening announced enter step then_run act
switch_row = spells switch_tokens (read switch_tokens) _ refl refl

-- `int m(void){x=a?b:c,d+=*p->q.r[1]<<-2||!s++;}`
abbrev operators_tokens : List Token
operators_tokens = k key.Int 0 ∷ n 109 4 ∷ m mark.LParen 5 ∷ k key.Void 6 ∷ m mark.RParen 10 ∷ m mark.LBrace 11 ∷ n 120 12 ∷ m mark.Assign 13 ∷ n 97 14 ∷ m mark.Question 15 ∷ n 98 16 ∷ m mark.Colon 17 ∷ n 99 18 ∷ m mark.Comma 19 ∷ n 100 20 ∷ m mark.PlusAssign 21 ∷ m mark.Star 23 ∷ n 112 24 ∷ m mark.Arrow 25 ∷ n 113 27 ∷ m mark.Dot 28 ∷ n 114 29 ∷ m mark.LBracket 30 ∷ number 1 31 ∷ m mark.RBracket 32 ∷ m mark.Shl 33 ∷ m mark.Minus 35 ∷ number 2 36 ∷ m mark.OrOr 37 ∷ m mark.Bang 39 ∷ n 115 40 ∷ m mark.PlusPlus 41 ∷ m mark.Semi 43 ∷ m mark.RBrace 44 ∷ end 45 ∷ []

operators_row : Spells operators_tokens (record { items = plain.Function (109 ∷ []) 4 plain.Int [] (Some (plain.Block (plain.MoreStmt (plain.Do_expr (plain.Comma 19 (plain.Assign 13 None (plain.Var 12 (120 ∷ [])) (plain.Cond 15 (plain.Var 14 (97 ∷ [])) (plain.Var 16 (98 ∷ [])) (plain.Var 18 (99 ∷ [])))) (plain.Assign 21 (Some Add) (plain.Var 20 (100 ∷ [])) (plain.Binary 37 Or (plain.Binary 33 Shl (plain.Unary 23 Deref (plain.Index 30 (plain.Member 28 (plain.Arrow 25 (plain.Var 24 (112 ∷ [])) (113 ∷ [])) (114 ∷ [])) (plain.Number 31 1 false))) (plain.Unary 35 Minus (plain.Number 36 2 false))) (plain.Unary 39 Not (plain.Step 41 PostInc (plain.Var 40 (115 ∷ [])))))))) plain.NoStmt))) ∷ []; end = 45 })
unfolding class_of same_class rhs opening announced enter step then_run act
operators_row = spells operators_tokens (read operators_tokens) _ refl refl

-- `int m(void){sizeof(a)[0];sizeof(int*(*)(char));sizeof a+b;}`
abbrev sizeof_tokens : List Token
sizeof_tokens = k key.Int 0 ∷ n 109 4 ∷ m mark.LParen 5 ∷ k key.Void 6 ∷ m mark.RParen 10 ∷ m mark.LBrace 11 ∷ k key.Sizeof 12 ∷ m mark.LParen 18 ∷ n 97 19 ∷ m mark.RParen 20 ∷ m mark.LBracket 21 ∷ number 0 22 ∷ m mark.RBracket 23 ∷ m mark.Semi 24 ∷ k key.Sizeof 25 ∷ m mark.LParen 31 ∷ k key.Int 32 ∷ m mark.Star 35 ∷ m mark.LParen 36 ∷ m mark.Star 37 ∷ m mark.RParen 38 ∷ m mark.LParen 39 ∷ k key.Char 40 ∷ m mark.RParen 44 ∷ m mark.RParen 45 ∷ m mark.Semi 46 ∷ k key.Sizeof 47 ∷ n 97 54 ∷ m mark.Plus 55 ∷ n 98 56 ∷ m mark.Semi 57 ∷ m mark.RBrace 58 ∷ end 59 ∷ []

sizeof_row : Spells sizeof_tokens (record { items = plain.Function (109 ∷ []) 4 plain.Int [] (Some (plain.Block (plain.MoreStmt (plain.Do_expr (plain.SizeOf 12 (plain.Index 21 (plain.Var 19 (97 ∷ [])) (plain.Number 22 0 false)))) (plain.MoreStmt (plain.Do_expr (plain.SizeTy 25 (plain.Pointer (plain.Func (plain.Pointer plain.Int) (plain.MoreTy plain.Char plain.NoTy))))) (plain.MoreStmt (plain.Do_expr (plain.Binary 55 Add (plain.SizeOf 47 (plain.Var 54 (97 ∷ []))) (plain.Var 56 (98 ∷ [])))) plain.NoStmt))))) ∷ []; end = 59 })
unfolding class_of same_class rhs opening announced enter step then_run act
sizeof_row = spells sizeof_tokens (read sizeof_tokens) _ refl refl

-- the first impossible token of some texts is their last
abbrev is_there : Option (List Frame) → Bool
is_there None = false
is_there (Some s) = true

abbrev Refused : List Token → Token → Type 0
Refused ts t = (is_there (run ts start) ≡ true) × (run (ts ++ t ∷ []) start ≡ None)

-- `int m(void){case`
case_outside : Refused (k key.Int 0 ∷ n 109 4 ∷ m mark.LParen 5 ∷ k key.Void 6 ∷ m mark.RParen 10 ∷ m mark.LBrace 11 ∷ []) (k key.Case 12)
unfolding class_of same_class rhs opening announced enter step then_run
case_outside = (refl, refl)

-- `int*;`
star_alone : Refused (k key.Int 0 ∷ m mark.Star 3 ∷ []) (m mark.Semi 4)
unfolding class_of same_class rhs opening announced enter step then_run
star_alone = (refl, refl)

-- `int a[3](`
called_array : Refused (k key.Int 0 ∷ n 97 4 ∷ m mark.LBracket 5 ∷ number 3 6 ∷ m mark.RBracket 7 ∷ []) (m mark.LParen 8)
unfolding class_of same_class rhs opening announced enter step then_run
called_array = (refl, refl)

-- `int a={1,,`
two_commas : Refused (k key.Int 0 ∷ n 97 4 ∷ m mark.Assign 5 ∷ m mark.LBrace 6 ∷ number 1 7 ∷ m mark.Comma 8 ∷ []) (m mark.Comma 9)
unfolding class_of same_class rhs opening announced enter step then_run
two_commas = (refl, refl)

-- `int m(void){sizeof(int)x`
cast_of_sizeof : Refused (k key.Int 0 ∷ n 109 4 ∷ m mark.LParen 5 ∷ k key.Void 6 ∷ m mark.RParen 10 ∷ m mark.LBrace 11 ∷ k key.Sizeof 12 ∷ m mark.LParen 18 ∷ k key.Int 19 ∷ m mark.RParen 22 ∷ []) (n 120 23)
unfolding class_of same_class rhs opening announced enter step then_run
cast_of_sizeof = (refl, refl)

-- `struct{`
no_tag : Refused (k key.Struct 0 ∷ []) (m mark.LBrace 6)
unfolding class_of same_class rhs opening announced enter step then_run
no_tag = (refl, refl)

-- `int m(void){if(1)else`
else_alone : Refused (k key.Int 0 ∷ n 109 4 ∷ m mark.LParen 5 ∷ k key.Void 6 ∷ m mark.RParen 10 ∷ m mark.LBrace 11 ∷ k key.If 12 ∷ m mark.LParen 14 ∷ number 1 15 ∷ m mark.RParen 16 ∷ []) (k key.Else 17)
unfolding class_of same_class rhs opening announced enter step then_run
else_alone = (refl, refl)

-- `int a,f(`
function_in_list : Refused (k key.Int 0 ∷ n 97 4 ∷ m mark.Comma 5 ∷ n 102 6 ∷ []) (m mark.LParen 7)
unfolding class_of same_class rhs opening announced enter step then_run
function_in_list = (refl, refl)

-- `f`
no_type : Refused ([]) (n 102 0)
unfolding class_of same_class rhs opening announced enter step then_run
no_type = (refl, refl)

-- `int int`
two_words : Refused (k key.Int 0 ∷ []) (k key.Int 4)
unfolding class_of same_class rhs opening announced enter step then_run
two_words = (refl, refl)

-- `struct s{int a[]`
empty_length : Refused (k key.Struct 0 ∷ n 115 7 ∷ m mark.LBrace 8 ∷ k key.Int 9 ∷ n 97 13 ∷ m mark.LBracket 14 ∷ []) (m mark.RBracket 15)
unfolding class_of same_class rhs opening announced enter step then_run
empty_length = (refl, refl)

-- `int a={}`
no_value : Refused (k key.Int 0 ∷ n 97 4 ∷ m mark.Assign 5 ∷ m mark.LBrace 6 ∷ []) (m mark.RBrace 7)
unfolding class_of same_class rhs opening announced enter step then_run
no_value = (refl, refl)
