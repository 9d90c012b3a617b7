-- The code of a call, by how what is called is called.
use Rattle.std.proofs.Common.{◌≡◌, ℕ, suc, ◌+◌, Bool, true, false, List, [], ◌∷◌, ◌++◌, length, length-append, refl, sym, ap, subst, ◌∙◌, add-zero, append_assoc, arith, if◌then◌else◌}
use Rattle.std.specs.Prelude.{Option, Some, None}
use Rattle.eir_core.specs.declared.ops.Op.{Op}
use Rattle.eir_core.specs.declared.ops.Op.TheVariants.{Jump}
use Rattle.c_syntax.specs.Plain as tree
use Rattle.c_syntax.specs.Plain.{CExpr, CExprs}
use Rattle.c_types.specs.Scope.{Scope}
use Rattle.c_eval.specs.Environment.{Environment, past, callee_in, Callee, Direct, Known, Format, Through}
use Rattle.c_eval.specs.LiteralsIn.{literals_in, literals_in_all, literals_behind, names_printf}
use Rattle.c_lowered.specs.Locations.{Linking}
use Rattle.c_lowered.specs.Operations.{constant, call_at, call_through_at, save}
use Rattle.c_lowered.specs.Counts.{is_known_to_helpers, names_known, expr_jumps, exprs_jumps}
use Rattle.c_lowered.specs.Expressions.{value_code, argument_code, arguments_code, call_code, known_name, known_code, built_in_code}
use Rattle.c_applied.specs.Calls.{IsHelper, IsNamed, IsRoutine, IsBuiltIn, IsFormat, IsThrough, given_literals}
use Rattle.c_applied.specs.Leads.{literal_count}
use Rattle.c_lower_expressions.specs.Parts.{given_code}
use Rattle.c_lower_expressions.proofs.PartLemmas.{all_wait}

called : CExpr → CExprs → CExpr
called f es = tree.Call 0 f es

-- a name has no code and no literals in front of the arguments
here_named : (here : Environment) → record here { literals_before = here.literals_before + 0 } ≡ here
here_named here = ap (λ (n : ℕ). record here { literals_before = n }) (add-zero here.literals_before)

-- the literals of a call of a name
pub given_count : (s : Scope) (f : CExpr) (at : ℕ) (name : List ℕ) (es : CExprs) → f ≡ tree.Var at name → literal_count s (tree.Call 0 f es) ≡ length (given_literals (names_printf s f) s es)
given_count s f at name es is = subst (λ (x : CExpr). literal_count s (tree.Call 0 x es) ≡ length (given_literals (names_printf s x) s es)) (sym is) (by (names_printf s (tree.Var at name))) where
  by : (b : Bool) → length (if b then literals_behind s es else literals_in_all s es) ≡ length (given_literals b s es)
  by true = refl
  by false = refl

known_is : (at : ℕ) (name : List ℕ) → is_known_to_helpers name ≡ true → known_name (tree.Var at name) ≡ Some name
known_is at name h = ap (λ (b : Bool). if b then Some name else None) h

unknown_is : (at : ℕ) (name : List ℕ) → is_known_to_helpers name ≡ false → known_name (tree.Var at name) ≡ None
unknown_is at name h = ap (λ (b : Bool). if b then Some name else None) h

-- the code of a call of a name
named_code : (at : ℕ) (name : List ℕ) (es : CExprs) (o : Option (List ℕ)) (callee : Callee) (w : Linking) (here : Environment) (m n : ℕ) → known_name (tree.Var at name) ≡ o → callee_in here.scope (tree.Var at name) ≡ callee
    → value_code (tree.Call 0 (tree.Var at name) es) w here m n ≡ call_code n (m + exprs_jumps es + 1) w o callee (value_code (tree.Var at name) w here m n) (argument_code es w here m n) (arguments_code es w here m (suc n))
named_code at name es o callee w here m n e f =
    ap (λ (x : Option (List ℕ)). call_code n (m + 0 + exprs_jumps es + 1) w x (callee_in here.scope (tree.Var at name)) (value_code (tree.Var at name) w here m n) (argument_code es w (past (tree.Var at name) here) (m + 0) n) (arguments_code es w (past (tree.Var at name) here) (m + 0) (suc n))) e
    ∙ (ap (λ (x : Callee). call_code n (m + 0 + exprs_jumps es + 1) w o x (value_code (tree.Var at name) w here m n) (argument_code es w (past (tree.Var at name) here) (m + 0) n) (arguments_code es w (past (tree.Var at name) here) (m + 0) (suc n))) f
    ∙ (ap (λ (x : Environment). call_code n (m + 0 + exprs_jumps es + 1) w o callee (value_code (tree.Var at name) w here m n) (argument_code es w x (m + 0) n) (arguments_code es w x (m + 0) (suc n))) (here_named here)
    ∙ ap (λ (x : ℕ). call_code n (x + exprs_jumps es + 1) w o callee (value_code (tree.Var at name) w here m n) (argument_code es w here x n) (arguments_code es w here x (suc n))) (add-zero m)))

pub helper_code : (name : List ℕ) (f : CExpr) (es : CExprs) (w : Linking) (here : Environment) (m n : ℕ) → IsHelper name f → value_code (tree.Call 0 f es) w here m n ≡ argument_code es w here m n ++ known_code name
helper_code name f es w here m n h = subst (λ (x : CExpr). value_code (tree.Call 0 x es) w here m n ≡ argument_code es w here m n ++ known_code name) (sym h.is) (named_code h.at name es (Some name) (callee_in here.scope (tree.Var h.at name)) w here m n (known_is h.at name h.known) refl)

pub helper_jumps : (name : List ℕ) (f : CExpr) (es : CExprs) (m : ℕ) → IsHelper name f → m + expr_jumps (tree.Call 0 f es) ≡ m + exprs_jumps es
helper_jumps name f es m h = subst (λ (x : CExpr). m + expr_jumps (tree.Call 0 x es) ≡ m + exprs_jumps es) (sym h.is) (ap (λ (b : Bool). m + (0 + exprs_jumps es + (if b then 0 else 1))) h.known ∙ omega arith)

pub named_jumps : {s : Scope} {callee : Callee} (name : List ℕ) (f : CExpr) (es : CExprs) (m : ℕ) → IsNamed s name callee f → m + expr_jumps (tree.Call 0 f es) ≡ m + exprs_jumps es + 1
named_jumps name f es m h = subst (λ (x : CExpr). m + expr_jumps (tree.Call 0 x es) ≡ m + exprs_jumps es + 1) (sym h.is) (ap (λ (b : Bool). m + (0 + exprs_jumps es + (if b then 0 else 1))) h.unknown ∙ omega arith)

pub code_of_named : (name : List ℕ) (callee : Callee) (f : CExpr) (es : CExprs) (w : Linking) (here : Environment) (m n : ℕ) → IsNamed here.scope name callee f
    → value_code (tree.Call 0 f es) w here m n ≡ call_code n (m + exprs_jumps es + 1) w None callee (value_code f w here m n) (argument_code es w here m n) (arguments_code es w here m (suc n))
code_of_named name callee f es w here m n h =
    subst (λ (x : CExpr). value_code (tree.Call 0 x es) w here m n ≡ call_code n (m + exprs_jumps es + 1) w None callee (value_code x w here m n) (argument_code es w here m n) (arguments_code es w here m (suc n))) (sym h.is)
    (named_code h.at name es None callee w here m n (unknown_is h.at name h.unknown) (subst (λ (x : CExpr). callee_in here.scope x ≡ callee) h.is h.callee))

-- what is called through its value is no name of helper functions
no_helper : (f : CExpr) → known_name f ≡ None → names_known f ≡ false
no_helper (tree.Var at name) h = by (is_known_to_helpers name) h where
  by : (b : Bool) → (if b then Some name else None) ≡ None → b ≡ false
  by true h = absurd cc
  by false h = refl
no_helper _ h = refl

pub through_code : (f : CExpr) (es : CExprs) (w : Linking) (here : Environment) (m n : ℕ) → IsThrough here.scope f
    → value_code (tree.Call 0 f es) w here m n ≡ value_code f w here m n ++ (save n ++ (given_code true es w (past f here) (m + expr_jumps f) (suc n) ++ call_through_at n (m + expr_jumps f + exprs_jumps es + 1)))
through_code f es w here m n h =
    let back = m + expr_jumps f + exprs_jumps es + 1 in
    let pointer = value_code f w here m n in
    let one = argument_code es w (past f here) (m + expr_jumps f) n in
    let all = arguments_code es w (past f here) (m + expr_jumps f) (suc n) in
    ap (λ (o : Option (List ℕ)). call_code n back w o (callee_in here.scope f) pointer one all) h.unknown
    ∙ (ap (λ (x : Callee). call_code n back w None x pointer one all) h.callee
    ∙ ap (λ (l : List Op). pointer ++ (save n ++ (l ++ call_through_at n back))) (sym (all_wait es w (past f here) (m + expr_jumps f) (suc n))))

pub through_jumps : (f : CExpr) (es : CExprs) (m : ℕ) → known_name f ≡ None → m + expr_jumps (tree.Call 0 f es) ≡ m + (expr_jumps f + exprs_jumps es + 1)
through_jumps f es m h = ap (λ (b : Bool). m + (expr_jumps f + exprs_jumps es + (if b then 0 else 1))) (no_helper f h)

pub through_count : (s : Scope) (f : CExpr) (es : CExprs) → names_printf s f ≡ false → literal_count s (tree.Call 0 f es) ≡ length (literals_in s f ++ literals_in_all s es)
through_count s f es h = ap (λ (b : Bool). length (literals_in s f ++ (if b then literals_behind s es else literals_in_all s es))) h
