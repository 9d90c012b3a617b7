-- Codes of expressions and their parts.
use Rattle.std.proofs.Common.{◌≡◌, ◌-◌, ℕ, suc, true, false, List, [], ◌∷◌, ◌++◌, length, map, arith, Option, Some, None, refl, sym, ap, ◌∙◌, append-nil}
use Rattle.std.specs.Prelude.{Ok, Err, vec_len}
use Rattle.c_syntax.specs.Plain as tree
use Rattle.c_syntax.specs.Plain.{CExpr, CExprs, exprs}
use Rattle.std.proofs.lemmas.List.{length-map}
use Rattle.c_syntax.specs.View.{form_of, expr_of, exprs_of}
use Rattle.c_syntax.specs.declared.tree.Exprs.{Exprs, out-Exprs}
use Rattle.c_expressions.proofs.RowLemmas.{exprs_view}
use Rattle.c_syntax.specs.declared.tree.Form.{Form, Number, Str, Null, Name, Unary', Step', Binary', Assign', Cond', Comma', Cast', SizeTy', SizeOf', Index', Call', Member', Arrow'}
use Rattle.c_syntax.specs.declared.tree.Form.TheVariants as form
use Rattle.c_syntax.specs.declared.tree.UnOp.{UnOp}
use Rattle.c_syntax.specs.declared.tree.UnOp.TheVariants as unary
use Rattle.c_syntax.specs.declared.tree.BinOp.{BinOp}
use Rattle.c_syntax.specs.declared.tree.BinOp.TheVariants as binary
use Rattle.c_types.specs.Types as types
use Rattle.c_types.specs.Types.{CType, Tags}
use Rattle.c_types.specs.Refusals.{Judged}
use Rattle.c_types.specs.Scope as scope
use Rattle.c_types.specs.Scope.{Scope, entity_of, is_function, contains}
use Rattle.c_types.specs.Operands as operands
use Rattle.c_types.specs.Expressions as expressions
use Rattle.c_types.specs.Expressions.{judged, callee_of, format_of}
use Rattle.c_eval.specs.Environment.{Environment, past, value_type_in, Through, callee_in, named_callee, operand_type, parameters_of}
use Rattle.c_scopes.specs.declared.entity.Entity as rust
use Rattle.c_scopes.specs.declared.entity.Entity.TheVariants as entity
use Rattle.c_types.specs.Table.{Table}
use Rattle.c_operands.specs.Scoped.{IsEntityOrNone}
use Rattle.c_eval.specs.LiteralsIn.{is_printf, names_printf}
use Rattle.c_code.specs.Code as code
use Rattle.c_code.specs.Code.{Instruction, Site, unary_place_code, binary_code, assign_code, call_code, name_code, count_of, count_behind, value_code, place_code, values_code, values_code_behind}
use Rattle.c_expressions.specs.Named.{name_in}
use Rattle.c_here.specs.Behind.{behind_one, behind_both}
use Rattle.c_fitting.specs.Fit.{IsPlace}
use Rattle.c_flat_expressions.proofs.OnwardLemmas.{behind_nothing}
use Rattle.c_flat_expressions.specs.Parts.{is_format, operand_code, parameters_in, parameters_told, pointer_code, ending_code, given_code}

-- an operator on one side
pub unary_is : (op : UnOp) (at : ℕ) (a : CExpr) (site : Site) (env : Environment) → operand_code op a site env ++ behind_one op (value_type_in env.scope a) ≡ value_code (tree.Unary at op a) site env
unary_is unary.Address at a site env = append-nil (operand_code unary.Address a site env)
unary_is unary.Deref at a site env = refl
unary_is unary.Not at a site env = refl
unary_is unary.Plus at a site env = refl
unary_is unary.Minus at a site env = refl
unary_is unary.Invert at a site env = refl

-- the operand of an operator that takes no address
pub operand_used : (op : UnOp) (a : CExpr) (site : Site) (env : Environment) → (op ≡ unary.Address → ⊥) → value_code a site env ++ code.Use ∷ [] ≡ operand_code op a site env
operand_used unary.Address a site env other = absurd (other refl)
operand_used _ a site env other = refl

-- what a pointer points to
pub pointed_is : (op : UnOp) (at : ℕ) (a : CExpr) (value : List Instruction) → IsPlace (tree.Unary at op a) → value ≡ unary_place_code op value
pointed_is unary.Deref at a value place = refl
pointed_is unary.Address at a value place = absurd place
pointed_is unary.Not at a value place = absurd place
pointed_is unary.Plus at a value place = absurd place
pointed_is unary.Minus at a value place = absurd place
pointed_is unary.Invert at a value place = absurd place

-- an operator on two values
pub binary_is : (op : BinOp) (tags : Tags) (t u : CType) (a b : List Instruction) → (op ≡ binary.And → ⊥) → (op ≡ binary.Or → ⊥) → a ++ (b ++ code.Operate tags op t u ∷ []) ≡ binary_code tags op t u a b
binary_is binary.And tags t u a b other another = absurd (other refl)
binary_is binary.Or tags t u a b other another = absurd (another refl)
binary_is _ tags t u a b other another = refl

pub assign_is : (op : Option BinOp) (tags : Tags) (t u : CType) (place value : List Instruction) → place ++ (value ++ behind_both tags op t u) ≡ assign_code tags op t u place value
assign_is None tags t u place value = refl
assign_is (Some op) tags t u place value = refl

-- ---- calls

some_name : (m n : List ℕ) → Some m ≡ Some n → m ≡ n
some_name m n e = cc

-- a name, by the expression that is one
pub name_is : (e : CExpr) (name : List ℕ) → Some name ≡ name_in e → (pos : ℕ) × (e ≡ tree.Var pos name)
name_is (tree.Var pos other) name h = (pos, ap (tree.Var pos) (sym (some_name name other h)))
name_is _ name h = absurd cc

-- what is called, by its name
pub called_named : (s : Scope) (e : CExpr) (name : List ℕ) → Some name ≡ name_in e → callee_in s e ≡ named_callee name (entity_of s name)
called_named s e name h = let p = name_is e name h in ap (callee_in s) p.1

-- the parameters, by the type of what is called
told_named : (s : Scope) (at : ℕ) (name : List ℕ) (o : Option scope.Entity) → parameters_told (expressions.named_callee s at name o) ≡ parameters_in (named_callee name o)
told_named s at name (Some (scope.Object t)) = refl
told_named s at name (Some (scope.Routine t begun)) = refl
told_named s at name (Some (scope.BuiltIn t)) = refl
told_named s at name (Some scope.Printf) = refl
told_named s at name None = refl

told_through : (j : Judged operands.Operand) → parameters_told (expressions.through j) ≡ parameters_of (types.decayed (operand_type j))
told_through (Ok x) = refl
told_through (Err e) = refl

pub parameters_are : (s : Scope) (at : ℕ) (f : CExpr) → parameters_told (callee_of s at f (judged s f)) ≡ parameters_in (callee_in s f)
parameters_are s at (tree.Var pos name) = told_named s at name (entity_of s name)
parameters_are s at f = told_through (judged s f)

-- a pointer is called, or a function by its name
pub pointer_named : (name : List ℕ) (o : Option scope.Entity) (value : List Instruction) → is_function o ≡ true → [] ≡ pointer_code (named_callee name o) value
pointer_named name (Some (scope.Object t)) value h = absurd cc
pointer_named name (Some (scope.Routine t begun)) value h = refl
pointer_named name (Some (scope.BuiltIn t)) value h = refl
pointer_named name (Some scope.Printf) value h = refl
pointer_named name None value h = absurd cc

pub pointer_called : (name : List ℕ) (o : Option scope.Entity) (value : List Instruction) → is_function o ≡ false → value ≡ pointer_code (named_callee name o) value
pointer_called name (Some (scope.Object t)) value h = refl
pointer_called name (Some (scope.Routine t begun)) value h = absurd cc
pointer_called name (Some (scope.BuiltIn t)) value h = absurd cc
pointer_called name (Some scope.Printf) value h = absurd cc
pointer_called name None value h = refl

-- a call is its pointer, its arguments and what it does behind them
named_call_is : (name : List ℕ) (o : Option scope.Entity) (es : CExprs) (site : Site) (env : Environment) (value : List Instruction)
    → pointer_code (named_callee name o) value ++ (given_code (is_printf o) es site env ++ ending_code (named_callee name o) (format_of es) (count_of es) (count_behind es))
    ≡ call_code (named_callee name o) (format_of es) (count_of es) (count_behind es) value (values_code es site env) (values_code_behind es site env)
named_call_is name (Some (scope.Object t)) es site env value = refl
named_call_is name (Some (scope.Routine t begun)) es site env value = refl
named_call_is name (Some (scope.BuiltIn t)) es site env value = refl
named_call_is name (Some scope.Printf) es site env value = refl
named_call_is name None es site env value = refl

pub call_is : (at : ℕ) (f : CExpr) (es : CExprs) (site : Site) (env : Environment)
    → pointer_code (callee_in env.scope f) (value_code f site env ++ code.Use ∷ [])
    ++ (given_code (names_printf env.scope f) es site (past f env) ++ ending_code (callee_in env.scope f) (format_of es) (count_of es) (count_behind es))
    ≡ value_code (tree.Call at f es) site env
call_is at (tree.Var pos name) es site env =
    let found = entity_of env.scope name in
    let value = name_code site env name found ++ code.Use ∷ [] in
    ap (λ (e : Environment). pointer_code (named_callee name found) value ++ (given_code (is_printf found) es site e ++ ending_code (named_callee name found) (format_of es) (count_of es) (count_behind es))) (behind_nothing env)
    ∙ (named_call_is name found es site env value ∙ ap (λ (e : Environment). call_code (named_callee name found) (format_of es) (count_of es) (count_behind es) value (values_code es site e) (values_code_behind es site env)) (sym (behind_nothing env)))
call_is at f es site env = refl

-- what is called by no name is a pointer
pub pointer_unnamed : (s : Scope) (e : CExpr) (value : List Instruction) → None ≡ name_in e → value ≡ pointer_code (callee_in s e) value
pointer_unnamed s (tree.Var pos name) value h = absurd cc
pointer_unnamed s e value h = refl

pub through_unnamed : (s : Scope) (e : CExpr) → None ≡ name_in e → callee_in s e ≡ Through (parameters_in (callee_in s e))
through_unnamed s (tree.Var pos name) h = absurd cc
through_unnamed s e h = refl

pub printf_unnamed : (s : Scope) (e : CExpr) → None ≡ name_in e → false ≡ names_printf s e
printf_unnamed s (tree.Var pos name) h = absurd cc
printf_unnamed s e h = refl

-- a name stands for `printf` where the definitions say so
pub format_is : (table : Table) (e : Option rust.Entity) (o : Option scope.Entity) → IsEntityOrNone table e o → is_format e ≡ is_printf o
format_is table (Some entity.Printf) (Some scope.Printf) h = refl
format_is table (Some entity.Printf) (Some (scope.Object t)) h = absurd h
format_is table (Some entity.Printf) (Some (scope.Routine t b)) h = absurd h
format_is table (Some entity.Printf) (Some (scope.BuiltIn t)) h = absurd h
format_is table (Some entity.Printf) None h = absurd h
format_is table (Some (entity.Object n)) (Some (scope.Object t)) h = refl
format_is table (Some (entity.Object n)) (Some (scope.Routine t b)) h = absurd h
format_is table (Some (entity.Object n)) (Some (scope.BuiltIn t)) h = absurd h
format_is table (Some (entity.Object n)) (Some scope.Printf) h = absurd h
format_is table (Some (entity.Object n)) None h = absurd h
format_is table (Some (entity.Routine n k)) (Some (scope.Routine t b)) h = refl
format_is table (Some (entity.Routine n k)) (Some (scope.Object t)) h = absurd h
format_is table (Some (entity.Routine n k)) (Some (scope.BuiltIn t)) h = absurd h
format_is table (Some (entity.Routine n k)) (Some scope.Printf) h = absurd h
format_is table (Some (entity.Routine n k)) None h = absurd h
format_is table (Some (entity.BuiltIn n)) (Some (scope.BuiltIn t)) h = refl
format_is table (Some (entity.BuiltIn n)) (Some (scope.Object t)) h = absurd h
format_is table (Some (entity.BuiltIn n)) (Some (scope.Routine t b)) h = absurd h
format_is table (Some (entity.BuiltIn n)) (Some scope.Printf) h = absurd h
format_is table (Some (entity.BuiltIn n)) None h = absurd h
format_is table None None h = refl
format_is table None (Some o) h = absurd h

-- how many arguments a call has
counted : (xs : List CExpr) → length xs ≡ count_of (exprs xs)
counted [] = refl
counted (x ∷ xs) = ap suc (counted xs)

pub count_is : (es : Exprs) → vec_len (out-Exprs es).items ≡ count_of (exprs_of es)
count_is es = (out-Exprs es).items.ok.0 ∙ (sym (length-map (out-Exprs es).items.items expr_of) ∙ (counted (map expr_of (out-Exprs es).items.items) ∙ ap count_of (sym (exprs_view es))))

pub count_behind_is : (es : CExprs) → count_of es - 1 ≡ count_behind es
count_behind_is tree.NoExpr = refl
count_behind_is (tree.MoreExpr e es) = omega arith

-- an expression of no other form is a place
pub no_place : (f : Form) (pos : ℕ) → ((t : List ℕ) → f ≡ Str t → ⊥) → ((t : List ℕ) → f ≡ Name t → ⊥) → ((op : UnOp) (a : _) → f ≡ form.Unary op a → ⊥) → ((a b : _) → f ≡ form.Index a b → ⊥)
    → ((a : _) (m : List ℕ) → f ≡ form.Member a m → ⊥) → ((a : _) (m : List ℕ) → f ≡ form.Arrow a m → ⊥) → IsPlace (form_of f pos) → ⊥
no_place (Str t) pos str name unary index member arrow place = str t refl
no_place (Name t) pos str name unary index member arrow place = name t refl
no_place (Unary' op p pa a) pos str name unary index member arrow place = unary op _ refl
no_place (Index' p pa a q pb b) pos str name unary index member arrow place = index _ _ refl
no_place (Member' p pa a m) pos str name unary index member arrow place = member _ m refl
no_place (Arrow' p pa a m) pos str name unary index member arrow place = arrow _ m refl
no_place (Number v u) pos str name unary index member arrow place = place
no_place Null pos str name unary index member arrow place = place
no_place (Step' op p pa a) pos str name unary index member arrow place = place
no_place (Binary' op p pa a q pb b) pos str name unary index member arrow place = place
no_place (Assign' op p pa a q pb b) pos str name unary index member arrow place = place
no_place (Cond' p pa a q pb b r pc c) pos str name unary index member arrow place = place
no_place (Comma' p pa a q pb b) pos str name unary index member arrow place = place
no_place (Cast' p t q pa a) pos str name unary index member arrow place = place
no_place (SizeTy' p t) pos str name unary index member arrow place = place
no_place (SizeOf' p pa a) pos str name unary index member arrow place = place
no_place (Call' p pa a args) pos str name unary index member arrow place = place
