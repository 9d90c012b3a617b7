-- The code of a text: each instruction writes at most one piece, and only one that pays leads to one that takes a byte.
use Rattle.std.proofs.Common.{◌≡◌, ℕ, zero, suc, ◌+◌, ◌-◌, ◌≤◌, List, [], ◌∷◌, ◌++◌, length, Option, Some, None, Bool, true, false, refl, ap, ◌∙◌, subst, arith, length-append}
use Rattle.std.specs.Prelude.{not, cond, ◌==◌, slice_get, codes, if◌then◌else◌}
use Rattle.std.proofs.lemmas.Option.{slice_get_past}
use Rattle.std.specs.List.{AllByRecursion}
use Rattle.std.specs.Str.{bytes_eq}
use Rattle.c_syntax.specs.Plain as plain
use Rattle.c_syntax.specs.Words.{meaning}
use Rattle.c_syntax.specs.Plain.{CUnit, CExpr, CExprs, CValue, CValues, CDecl, CStmt, CStmts, CPart, CParts}
use Rattle.c_syntax.specs.declared.tree.UnOp.{UnOp}
use Rattle.c_syntax.specs.declared.tree.BinOp.{BinOp}
use Rattle.c_syntax.specs.declared.tree.UnOp.TheVariants as unary
use Rattle.c_syntax.specs.declared.tree.BinOp.TheVariants as binary
use Rattle.c_types.specs.Types.{CType, CTypes, MoreType, Tags, words_of}
use Rattle.c_types.specs.Scope.{Scope, Entity, Object, entity_of, entered}
use Rattle.c_eval.specs.State.{Cell}
use Rattle.c_types.specs.Expressions.{names_function, format_of}
use Rattle.c_types.specs.Declarations.{Slots, first_slot, next_slots, slots_of, takes_string}
use Rattle.c_eval.specs.Environment.{object_type_in, type_or_nothing, Environment, past, past_maybe, past_value, declaring, past_stmt, behind, behind_all, behind_part, in_block, Callee, Direct, Known, Format, Through, callee_in, Target, Default, parts_objects}
use Rattle.c_eval.specs.Text.{Definition, Text, text_of}
use Rattle.c_eval.specs.Meaning.{Rules, own_rules}
use Rattle.c_code.specs.Code
use Rattle.c_code.specs.Code.{Instruction, Site, object_code, place_of_name, count_of, count_behind, name_code, unary_code, unary_place_code, choice_code, binary_code, assign_code, convert_code, pieces, print_code, first_converted, puts_code, known_code, call_code, value_code, place_code, values_code, values_code_behind, first_code, firsts_code, local_code, maybe_test_code, maybe_effect_code, loop_code, do_code, return_code, Label, case_jump, case_jumps, label_of, label_place, is_wanted, slots_for, slots_for_all, slots_for_parts, stmt_code, stmts_code, part_code, parts_code, labels_in}
use Rattle.c_code.specs.Machine.{Entry, Program, body_place, site_of, function_code, functions_code, entry_of, entries_of, program_of}
use Rattle.c_flow.proofs.Standing.{Stands, stands_first, stands_rest, stands_at, end_place}
use Rattle.c_rule.specs.Stepping.{takes, is_single}
use Rattle.c_rule.specs.Laws.{FaultsOfTextsAreSilent, TextsMoveByPieces, text_code}
use Rattle.c_rule.proofs.Faults.{faults_of_code_are_silent, code_moves_by_pieces}

-- a place where no instruction takes a byte
abbrev pub Safe : Program → ℕ → Type 0
Safe p at = takes (slice_get p.instructions at) ≡ false

-- where an instruction may lead, now or later, other than one that pays
abbrev pub targets : Instruction → ℕ → List ℕ
targets Code.Pay at = []
targets (Code.JumpUnless n) at = suc at ∷ (suc at + n) ∷ []
targets (Code.Jump n) at = (suc at + n) ∷ []
targets (Code.Back n) at = (suc at - n) ∷ []
targets (Code.JumpAt word n) at = suc at ∷ (suc at + n) ∷ []
targets (Code.Loop again over) at = suc at ∷ (suc at + again) ∷ (suc at + over) ∷ []
targets (Code.Switch over) at = suc at ∷ (suc at + over) ∷ []
targets i at = suc at ∷ []

abbrev pub AllSafe : Program → List ℕ → Type 0
AllSafe p [] = Unit {0}
AllSafe p (at ∷ ats) = Safe p at × AllSafe p ats

-- code at a place leads to safe places
abbrev pub Sits : Program → ℕ → List Instruction → Type 0
Sits p at [] = Unit {0}
Sits p at (i ∷ is) = AllSafe p (targets i at) × Sits p (suc at) is

-- code each instruction of which writes at most one piece and leads to safe places, if a safe one lies behind
pub record Behind (is : List Instruction) : Type 0 where
  pub all : AllByRecursion (λ i. is_single i ≡ true) is
  pub sits : (p : Program) (at to : ℕ) → to ≡ at + length is → Stands p at is → Safe p to → Sits p at is

-- and it is safe to begin it
pub record Fits (is : List Instruction) : Type 0 where
  pub all : AllByRecursion (λ i. is_single i ≡ true) is
  pub fits : (p : Program) (at to : ℕ) → to ≡ at + length is → Stands p at is → Safe p to → Safe p at × Sits p at is

behind_of : {is : List Instruction} → Fits is → Behind is
behind_of t = record { all = t.all; sits = λ p at to e s safe. (t.fits p at to e s safe).1 }

-- ---- one after the other

safe_at : (p : Program) (at to : ℕ) → at ≡ to → Safe p at → Safe p to
safe_at p at to e safe = subst (λ k. Safe p k) e safe

sits_both : (p : Program) (at mid : ℕ) (is js : List Instruction) → mid ≡ at + length is → Sits p at is → Sits p mid js → Sits p at (is ++ js)
sits_both p at mid [] js e t u = let f : mid ≡ at = omega (arith, e) in subst (λ k. Sits p k js) f u
sits_both p at mid (i ∷ is) js e t u = (t.0, sits_both p (suc at) mid is js (further e) t.1 u)
  where
    further : mid ≡ at + length (i ∷ is) → mid ≡ suc at + length is
    further e = omega (arith, e)

both_all : (is js : List Instruction) → AllByRecursion (λ i. is_single i ≡ true) is → AllByRecursion (λ i. is_single i ≡ true) js → AllByRecursion (λ i. is_single i ≡ true) (is ++ js)
both_all [] js t u = u
both_all (i ∷ is) js t u = (t.0, both_all is js t.1 u)

both_fit : (is js : List Instruction) → Fits is → Fits js → (p : Program) (at to : ℕ) → to ≡ at + length (is ++ js) → Stands p at (is ++ js) → Safe p to → Safe p at × Sits p at (is ++ js)
both_fit is js t u p at to e s safe =
    let second = u.fits p (at + length is) to (end_place at to is js e) (stands_rest p at (at + length is) is js refl s) safe in
    let first = t.fits p at (at + length is) refl (stands_first p at is js s) second.0 in
    (first.0, sits_both p at (at + length is) is js refl first.1 second.1)

both : {is js : List Instruction} → Fits is → Fits js → Fits (is ++ js)
both {is = is} {js = js} t u = record { all = both_all is js t.all u.all; fits = both_fit is js t u }

none : Fits []
none = record { all = tt; fits = λ p at to e s safe. let f : to ≡ at = omega (arith, e) in (safe_at p to at f safe, tt) }

-- an instruction that only goes on
abbrev is_plain : Instruction → Bool
is_plain Code.Pay = false
is_plain (Code.JumpUnless n) = false
is_plain (Code.Jump n) = false
is_plain (Code.Back n) = false
is_plain (Code.JumpAt word n) = false
is_plain (Code.Loop again over) = false
is_plain (Code.Switch over) = false
is_plain (Code.BuiltIn name params n) = false
is_plain i = true

plain_takes : (i : Instruction) → is_plain i ≡ true → takes (Some i) ≡ false
plain_takes (Code.BuiltIn name params n) e = absurd (cc e)
plain_takes i e = refl

plain_single : (i : Instruction) → is_plain i ≡ true → is_single i ≡ true
plain_single (Code.BuiltIn name params n) e = absurd (cc e)
plain_single i e = refl

plain_leads : (i : Instruction) → is_plain i ≡ true → (p : Program) (at : ℕ) → Safe p (suc at) → AllSafe p (targets i at)
plain_leads Code.Pay e p at safe = absurd (cc e)
plain_leads (Code.JumpUnless n) e p at safe = absurd (cc e)
plain_leads (Code.Jump n) e p at safe = absurd (cc e)
plain_leads (Code.Back n) e p at safe = absurd (cc e)
plain_leads (Code.JumpAt word n) e p at safe = absurd (cc e)
plain_leads (Code.Loop again over) e p at safe = absurd (cc e)
plain_leads (Code.Switch over) e p at safe = absurd (cc e)
plain_leads i e p at safe = (safe, tt)

-- an instruction that takes nothing stands at a safe place
pub safe_here : (p : Program) (at : ℕ) (i : Instruction) → takes (Some i) ≡ false → slice_get p.instructions at ≡ Some i → Safe p at
safe_here p at i e s = ap takes s ∙ e

first_fit : (i : Instruction) (is : List Instruction) → is_plain i ≡ true → Fits is → (p : Program) (at to : ℕ) → to ≡ at + length (i ∷ is) → Stands p at (i ∷ is) → Safe p to → Safe p at × Sits p at (i ∷ is)
first_fit i is e t p at to f s safe =
    let g : to ≡ suc at + length is = omega (arith, f) in
    let rest = t.fits p (suc at) to g s.1 safe in
    (safe_here p at i (plain_takes i e) s.0, (plain_leads i e p at rest.0, rest.1))

first : {is : List Instruction} (i : Instruction) → is_plain i ≡ true → Fits is → Fits (i ∷ is)
first {is = is} i e t = record { all = (plain_single i e, t.all); fits = first_fit i is e t }

one : (i : Instruction) → is_plain i ≡ true → Fits (i ∷ [])
one i e = first i e none

if_fits : (b : Bool) {is js : List Instruction} → Fits is → Fits js → Fits (if b then is else js)
if_fits true t u = t
if_fits false t u = u

-- and one more
more : {is : List Instruction} (i : Instruction) → is_plain i ≡ true → Fits is → Fits (is ++ i ∷ [])
more i e t = both t (one i e)

used : {is : List Instruction} → Fits is → Fits (is ++ Code.Use ∷ [])
used t = more Code.Use refl t

-- behind a unit stands what may take a byte
paid_fit : (is : List Instruction) → Behind is → (p : Program) (at to : ℕ) → to ≡ at + length (Code.Pay ∷ is) → Stands p at (Code.Pay ∷ is) → Safe p to → Safe p at × Sits p at (Code.Pay ∷ is)
paid_fit is t p at to e s safe =
    let g : to ≡ suc at + length is = omega (arith, e) in
    (safe_here p at Code.Pay refl s.0, (tt, t.sits p (suc at) to g s.1 safe))

paid : {is : List Instruction} → Behind is → Fits (Code.Pay ∷ is)
paid {is = is} t = record { all = (refl, t.all); fits = paid_fit is t }

built : (name : List ℕ) (params : CTypes) (n : ℕ) → is_single (Code.BuiltIn name params n) ≡ true → Behind (Code.BuiltIn name params n ∷ [])
built name params n e = record { all = (e, tt); sits = λ p at to f s safe. let g : to ≡ suc at = omega (arith, f) in ((safe_at p to (suc at) g safe, tt), tt) }

-- ---- expressions

object_fits : (slot file : Option (Option ℕ)) → is_plain (object_code slot file) ≡ true
object_fits (Some (Some slot)) file = refl
object_fits (Some None) file = refl
object_fits None (Some (Some o)) = refl
object_fits None (Some None) = refl
object_fits None None = refl

place_fits : (site : Site) (here : Environment) (name : List ℕ) → Fits (place_of_name site here name ∷ [])
place_fits site here name = one _ (object_fits (meaning here.objects name) (meaning site.names name))

name_fits : (site : Site) (here : Environment) (name : List ℕ) (e : Option Entity) → Fits (name_code site here name e)
name_fits site here name (Some (Object t)) = more _ refl (place_fits site here name)
name_fits site here name e = one _ refl

unary_fits : (s : Scope) (op : UnOp) (a : CExpr) {value place : List Instruction} → Fits value → Fits place → Fits (unary_code s op a value place)
unary_fits s unary.Address a t u = if_fits (names_function s a) t u
unary_fits s unary.Deref a t u = more _ refl t
unary_fits s unary.Not a t u = more _ refl t
unary_fits s op a t u = more _ refl t

unary_place_fits : (op : UnOp) {value : List Instruction} → Fits value → Fits (unary_place_code op value)
unary_place_fits unary.Deref t = t
unary_place_fits op t = one _ refl

-- what is jumped past
choice_rest_fit : (yea nay : List Instruction) → Fits yea → Fits nay → (p : Program) (at to : ℕ) → to ≡ at + length (Code.JumpUnless (length yea + 1) ∷ (yea ++ (Code.Jump (length nay) ∷ nay))) →
    Stands p at (Code.JumpUnless (length yea + 1) ∷ (yea ++ (Code.Jump (length nay) ∷ nay))) → Safe p to → Safe p at × Sits p at (Code.JumpUnless (length yea + 1) ∷ (yea ++ (Code.Jump (length nay) ∷ nay)))
choice_rest_fit yea nay t u p at to e s safe =
    let mid : ℕ = suc at + length yea in
    let l : length (yea ++ (Code.Jump (length nay) ∷ nay)) ≡ length yea + length (Code.Jump (length nay) ∷ nay) = length-append yea (Code.Jump (length nay) ∷ nay) in
    let end : to ≡ suc (suc at + length yea) + length nay = omega (arith, e, l) in
    let other : suc (suc at + length yea) ≡ suc at + (length yea + 1) = omega arith in
    let rest = stands_rest p (suc at) mid yea (Code.Jump (length nay) ∷ nay) refl s.1 in
    let nays = u.fits p (suc mid) to end rest.1 safe in
    let yeas = t.fits p (suc at) mid refl (stands_first p (suc at) yea (Code.Jump (length nay) ∷ nay) s.1) (safe_here p mid (Code.Jump (length nay)) refl rest.0) in (
      safe_here p at (Code.JumpUnless (length yea + 1)) refl s.0,
      (
        (yeas.0, (safe_at p (suc mid) (suc at + (length yea + 1)) other nays.0, tt)),
        sits_both p (suc at) mid yea (Code.Jump (length nay) ∷ nay) refl yeas.1 ((safe_at p to (suc mid + length nay) end safe, tt), nays.1),
      ),
    )

choice_rest : {yea nay : List Instruction} → Fits yea → Fits nay → Fits (Code.JumpUnless (length yea + 1) ∷ (yea ++ (Code.Jump (length nay) ∷ nay)))
choice_rest {yea = yea} {nay = nay} t u = record { all = (refl, both_all yea (Code.Jump (length nay) ∷ nay) t.all (refl, u.all)); fits = choice_rest_fit yea nay t u }

choice_fits : {a yea nay : List Instruction} → Fits a → Fits yea → Fits nay → Fits (choice_code a yea nay)
choice_fits t u v = both t (choice_rest u v)

skip_fit : (yea : List Instruction) → Fits yea → (p : Program) (at to : ℕ) → to ≡ at + length (Code.JumpUnless (length yea) ∷ yea) → Stands p at (Code.JumpUnless (length yea) ∷ yea) → Safe p to → Safe p at × Sits p at (Code.JumpUnless (length yea) ∷ yea)
skip_fit yea t p at to e s safe =
    let end : to ≡ suc at + length yea = omega (arith, e) in
    let yeas = t.fits p (suc at) to end s.1 safe in
    (safe_here p at (Code.JumpUnless (length yea)) refl s.0, ((yeas.0, (safe_at p to (suc at + length yea) end safe, tt)), yeas.1))

skip : {yea : List Instruction} → Fits yea → Fits (Code.JumpUnless (length yea) ∷ yea)
skip {yea = yea} t = record { all = (refl, t.all); fits = skip_fit yea t }

binary_fits : (tags : Tags) (op : BinOp) (t u : CType) {a b : List Instruction} → Fits a → Fits b → Fits (binary_code tags op t u a b)
binary_fits tags binary.And t u x y = choice_fits x (more _ refl y) (one _ refl)
binary_fits tags binary.Or t u x y = choice_fits x (one _ refl) (more _ refl y)
binary_fits tags op t u x y = both x (more _ refl y)

assign_fits : (tags : Tags) (op : Option BinOp) (t u : CType) {place value : List Instruction} → Fits place → Fits value → Fits (assign_code tags op t u place value)
assign_fits tags None t u x y = both x (more _ refl y)
assign_fits tags (Some op) t u x y = both x (more _ refl y)

convert_fits : (letter : ℕ) → Fits (convert_code letter)
convert_fits letter =
    if_fits (letter == 100) (one _ refl) (if_fits (letter == 117) (one _ refl) (if_fits (letter == 120) (first _ refl (one _ refl)) (if_fits (letter == 99) (one _ refl) (one _ refl))))

pieces_fits : (percent : Bool) (format : List ℕ) (left : ℕ) → Fits (pieces percent format left)
pieces_fits percent [] left = one _ refl
pieces_fits false (c ∷ format) left = if_fits (c == 37) (pieces_fits true format left) (first _ refl (pieces_fits false format left))
pieces_fits true (c ∷ format) zero = if_fits (c == 37) (first _ refl (pieces_fits false format zero)) (one _ refl)
pieces_fits true (c ∷ format) (suc left) = if_fits (c == 37) (first _ refl (pieces_fits false format (suc left))) (both (convert_fits c) (pieces_fits false format left))

print_fits : (format : Option (List ℕ)) (count : ℕ) → Fits (print_code format count)
print_fits None count = one _ refl
print_fits (Some format) count = first _ refl (pieces_fits false format count)

converted_fits : (params : CTypes) → Fits (first_converted params)
converted_fits (MoreType t ts) = one _ refl
converted_fits ts = none

puts_fits : (params : CTypes) (count : ℕ) → Fits (puts_code params count)
puts_fits params zero = one _ refl
puts_fits params (suc count) = first _ refl (both (converted_fits params) (first _ refl (first _ refl (first _ refl (first _ refl (one _ refl))))))

named_behind : (b : Bool) (name : List ℕ) (params : CTypes) (count : ℕ) → bytes_eq name (codes "puts") ≡ b → Behind (if b then puts_code params count else Code.BuiltIn name params count ∷ [])
named_behind true name params count e = behind_of (puts_fits params count)
named_behind false name params count e = built name params count (ap not e)

known_behind : (name : List ℕ) (params : CTypes) (count : ℕ) → Behind (known_code name params count)
known_behind name params count = named_behind (bytes_eq name (codes "puts")) name params count refl

call_fits : (callee : Callee) (format : Option (List ℕ)) (n m : ℕ) {pointer arguments printed : List Instruction} → Fits pointer → Fits arguments → Fits printed → Fits (call_code callee format n m pointer arguments printed)
call_fits (Direct name params) format n m t u v = more _ refl u
call_fits (Known name params) format n m t u v = both u (paid (known_behind name params n))
call_fits Format format n m t u v = both v (paid (behind_of (print_fits format m)))
call_fits (Through params) format n m t u v = both t (more _ refl u)

cast_fits : (b : Bool) → is_plain (if b then Code.Forget else Code.Use) ≡ true
cast_fits true = refl
cast_fits false = refl

mutual
  value_fits : (e : CExpr) (site : Site) (here : Environment) → Fits (value_code e site here)
  value_fits (plain.Number at n unsigned) site here = one _ refl
  value_fits (plain.Str at text) site here = one _ refl
  value_fits (plain.Null at) site here = one _ refl
  value_fits (plain.Var at name) site here = name_fits site here name (entity_of here.scope name)
  value_fits (plain.Unary at op a) site here = unary_fits here.scope op a (used (value_fits a site here)) (place_code_fits a site here)
  value_fits (plain.Step at op a) site here = more _ refl (place_code_fits a site here)
  value_fits (plain.Binary at op a b) site here = binary_fits here.scope.tags op _ _ (used (value_fits a site here)) (used (value_fits b site (past a here)))
  value_fits (plain.Assign at op a b) site here = assign_fits here.scope.tags op _ _ (place_code_fits a site here) (used (value_fits b site (past a here)))
  value_fits (plain.Cond at a b c) site here = more _ refl (choice_fits (used (value_fits a site here)) (value_fits b site (past a here)) (value_fits c site (past b (past a here))))
  value_fits (plain.Comma at a b) site here = both (value_fits a site here) (first _ refl (value_fits b site (past a here)))
  value_fits (plain.Cast at t a) site here = more _ (cast_fits _) (value_fits a site here)
  value_fits (plain.SizeTy at t) site here = one _ refl
  value_fits (plain.SizeOf at a) site here = one _ refl
  value_fits (plain.Index at a b) site here = more _ refl (both (used (value_fits a site here)) (more _ refl (used (value_fits b site (past a here)))))
  value_fits (plain.Call at f es) site here =
      call_fits (callee_in here.scope f) (format_of es) (count_of es) (count_behind es) (used (value_fits f site here)) (values_fits es site (past f here)) (behind_fits es site here)
  value_fits (plain.Member at a m) site here = more _ refl (more _ refl (place_code_fits a site here))
  value_fits (plain.Arrow at a m) site here = more _ refl (more _ refl (used (value_fits a site here)))

  place_code_fits : (e : CExpr) (site : Site) (here : Environment) → Fits (place_code e site here)
  place_code_fits (plain.Str at text) site here = one _ refl
  place_code_fits (plain.Var at name) site here = place_fits site here name
  place_code_fits (plain.Unary at op a) site here = unary_place_fits op (used (value_fits a site here))
  place_code_fits (plain.Index at a b) site here = both (used (value_fits a site here)) (more _ refl (used (value_fits b site (past a here))))
  place_code_fits (plain.Member at a m) site here = more _ refl (place_code_fits a site here)
  place_code_fits (plain.Arrow at a m) site here = more _ refl (used (value_fits a site here))
  place_code_fits e site here = one _ refl

  values_fits : (es : CExprs) (site : Site) (here : Environment) → Fits (values_code es site here)
  values_fits plain.NoExpr site here = none
  values_fits (plain.MoreExpr e es) site here = both (used (value_fits e site here)) (values_fits es site (past e here))

  behind_fits : (es : CExprs) (site : Site) (here : Environment) → Fits (values_code_behind es site here)
  behind_fits plain.NoExpr site here = none
  behind_fits (plain.MoreExpr e es) site here = values_fits es site here

-- ---- first values

mutual
  first_fits : (v : CValue) (t : CType) (slot k : ℕ) (site : Site) (here : Environment) → Fits (first_code v t slot k site here)
  first_fits (plain.One e) t slot k site here = if_fits (takes_string t e) (one _ refl) (more _ refl (used (value_fits e site here)))
  first_fits (plain.Many vs) t slot k site here = firsts_fits vs (slots_of here.scope.tags (Some t)) slot k site here

  firsts_fits : (vs : CValues) (slots : Slots) (slot k : ℕ) (site : Site) (here : Environment) → Fits (firsts_code vs slots slot k site here)
  firsts_fits plain.NoValue slots slot k site here = one _ refl
  firsts_fits (plain.MoreValue v vs) slots slot k site here =
      both (first_fits v (type_or_nothing (first_slot slots)) slot k site here) (firsts_fits vs (next_slots slots) slot (k + words_of here.scope.tags (type_or_nothing (first_slot slots))) site (past_value v here))

local_fits : (d : CDecl) (site : Site) (here : Environment) (v : Option CValue) → Fits (local_code d site here v)
local_fits d site here None = none
local_fits d site here (Some v) = first_fits v (object_type_in here.scope d) here.next 0 site (declaring d here)

-- ---- statements

test_fits : (e : Option CExpr) (site : Site) (here : Environment) → Fits (maybe_test_code e site here)
test_fits None site here = one _ refl
test_fits (Some e) site here = used (value_fits e site here)

effect_fits : (e : Option CExpr) (site : Site) (here : Environment) → Fits (maybe_effect_code e site here)
effect_fits None site here = none
effect_fits (Some e) site here = more _ refl (value_fits e site here)

loop_fit : (test step body : List Instruction) → Fits test → Fits step → Fits body → (p : Program) (at to : ℕ) → to ≡ at + length (loop_code test step body) → Stands p at (loop_code test step body) → Safe p to → Safe p at × Sits p at (loop_code test step body)
loop_fit test step body t u v p at to e s safe = (safe_here p at _ refl s.0, ((tests.0, (safe_at p mid _ again_place steps.0, (safe_at p to _ past_place safe, tt))), whole))
  where
    tail : List Instruction
    tail = Code.Back (length test + length body + length step + 3) ∷ Code.Done ∷ []

    turn : List Instruction
    turn = Code.JumpUnless (length body + length step + 2) ∷ Code.Pay ∷ (body ++ (step ++ tail))

    up : ℕ
    up = suc at + length test

    mid : ℕ
    mid = suc (suc up) + length body

    end : ℕ
    end = mid + length step

    turn_length : length turn ≡ suc (suc (length body + (length step + 2)))
    turn_length =
        let l : length (body ++ (step ++ tail)) ≡ length body + length (step ++ tail) = length-append body (step ++ tail) in
        let k : length (step ++ tail) ≡ length step + 2 = length-append step tail in
        omega (arith, l, k)

    past_place : to ≡ suc at + (length test + length turn)
    past_place = let l : length (test ++ turn) ≡ length test + length turn = length-append test turn in omega (arith, e, l)

    again_place : mid ≡ suc at + (length test + length body + 2)
    again_place = omega arith

    end_place_is : to ≡ suc (suc end)
    end_place_is = let l = turn_length in omega (arith, past_place, l)

    turning : Stands p up turn
    turning = stands_rest p (suc at) up test turn refl s.1

    below_body : Stands p mid (step ++ tail)
    below_body = stands_rest p (suc (suc up)) mid body (step ++ tail) refl turning.1.1

    last : Stands p end tail
    last = stands_rest p mid end step tail refl below_body

    steps : Safe p mid × Sits p mid step
    steps = u.fits p mid end refl (stands_first p mid step tail below_body) (safe_here p end (Code.Back (length test + length body + length step + 3)) refl last.0)

    bodies : Safe p (suc (suc up)) × Sits p (suc (suc up)) body
    bodies = v.fits p (suc (suc up)) mid refl (stands_first p (suc (suc up)) body (step ++ tail) turning.1.1) steps.0

    tests : Safe p (suc at) × Sits p (suc at) test
    tests = t.fits p (suc at) up refl (stands_first p (suc at) test turn s.1) (safe_here p up (Code.JumpUnless (length body + length step + 2)) refl turning.0)

    done : Safe p (suc end)
    done = safe_here p (suc end) Code.Done refl last.1.0

    out_place : suc end ≡ suc up + (length body + length step + 2)
    out_place = omega arith

    back_place : suc at ≡ suc end - (length test + length body + length step + 3)
    back_place = omega arith

    tails : Sits p end tail
    tails = ((safe_at p (suc at) _ back_place tests.0, tt), ((safe_at p to (suc (suc end)) end_place_is safe, tt), tt))

    turns : Sits p up turn
    turns = (
      (safe_here p (suc up) Code.Pay refl turning.1.0, (safe_at p (suc end) _ out_place done, tt)),
      (tt, sits_both p (suc (suc up)) mid body (step ++ tail) refl bodies.1 (sits_both p mid end step tail refl steps.1 tails)),
    )

    whole : Sits p (suc at) (test ++ turn)
    whole = sits_both p (suc at) up test turn refl tests.1 turns

loop_fits : {test step body : List Instruction} → Fits test → Fits step → Fits body → Fits (loop_code test step body)
loop_fits {test = test} {step = step} {body = body} t u v =
    record { all = (refl, both_all test _ t.all (refl, (refl, both_all body _ v.all (both_all step _ u.all (refl, (refl, tt)))))); fits = loop_fit test step body t u v }

do_fit : (body test : List Instruction) → Fits body → Fits test → (p : Program) (at to : ℕ) → to ≡ at + length (do_code body test) → Stands p at (do_code body test) → Safe p to → Safe p at × Sits p at (do_code body test)
do_fit body test t u p at to e s safe = (safe_here p at _ refl s.0, ((pays, (safe_at p mid _ again_place tests.0, (safe_at p to _ past_place safe, tt))), (tt, whole)))
  where
    tail : List Instruction
    tail = Code.JumpUnless 1 ∷ Code.Back (length body + length test + 3) ∷ Code.Done ∷ []

    mid : ℕ
    mid = suc (suc at) + length body

    up : ℕ
    up = mid + length test

    end_is : to ≡ suc (suc (suc up))
    end_is =
        let l : length (body ++ (test ++ tail)) ≡ length body + length (test ++ tail) = length-append body (test ++ tail) in
        let k : length (test ++ tail) ≡ length test + 3 = length-append test tail in
        omega (arith, e, l, k)

    past_place : to ≡ suc at + (length body + length test + 4)
    past_place = omega (arith, end_is)

    again_place : mid ≡ suc at + (length body + 1)
    again_place = omega arith

    pays : Safe p (suc at)
    pays = safe_here p (suc at) Code.Pay refl s.1.0

    below_body : Stands p mid (test ++ tail)
    below_body = stands_rest p (suc (suc at)) mid body (test ++ tail) refl s.1.1

    last : Stands p up tail
    last = stands_rest p mid up test tail refl below_body

    tests : Safe p mid × Sits p mid test
    tests = u.fits p mid up refl (stands_first p mid test tail below_body) (safe_here p up (Code.JumpUnless 1) refl last.0)

    bodies : Safe p (suc (suc at)) × Sits p (suc (suc at)) body
    bodies = t.fits p (suc (suc at)) mid refl (stands_first p (suc (suc at)) body (test ++ tail) s.1.1) tests.0

    done : Safe p (suc (suc up))
    done = safe_here p (suc (suc up)) Code.Done refl last.1.1.0

    out_place : suc (suc up) ≡ suc up + 1
    out_place = omega arith

    back_place : suc at ≡ suc (suc up) - (length body + length test + 3)
    back_place = omega arith

    tails : Sits p up tail
    tails = (
      (safe_here p (suc up) (Code.Back (length body + length test + 3)) refl last.1.0, (safe_at p (suc (suc up)) _ out_place done, tt)),
      ((safe_at p (suc at) _ back_place pays, tt), ((safe_at p to (suc (suc (suc up))) end_is safe, tt), tt)),
    )

    whole : Sits p (suc (suc at)) (body ++ (test ++ tail))
    whole = sits_both p (suc (suc at)) mid body (test ++ tail) refl bodies.1 (sits_both p mid up test tail refl tests.1 tails)

do_fits : {body test : List Instruction} → Fits body → Fits test → Fits (do_code body test)
do_fits {body = body} {test = test} t u = record { all = (refl, (refl, both_all body _ t.all (both_all test _ u.all (refl, (refl, (refl, tt)))))); fits = do_fit body test t u }

return_fits : (e : Option CExpr) (site : Site) (here : Environment) → Fits (return_code e site here)
return_fits None site here = first _ refl (one _ refl)
return_fits (Some e) site here = more _ refl (used (value_fits e site here))

-- ---- tables of labels

-- each label is at a safe place of the parts that begin there
abbrev pub Labelled : Program → ℕ → List Label → Type 0
Labelled p start [] = Unit {0}
Labelled p start (l ∷ ls) = Safe p (start + l.at) × Labelled p start ls

place_by : (p : Program) (start : ℕ) (b : Bool) (m n : ℕ) → Safe p (start + m) → Safe p (start + n) → Safe p (start + (if b then m else n))
place_by p start true m n t u = t
place_by p start false m n t u = u

place_safe : (p : Program) (start : ℕ) (target : Target) (ls : List Label) (past : ℕ) → Labelled p start ls → Safe p (start + past) → Safe p (start + label_place target ls past)
place_safe p start target [] past t safe = safe
place_safe p start target (l ∷ ls) past t safe = place_by p start (is_wanted target l.word) l.at (label_place target ls past) t.0 (place_safe p start target ls past t.1 safe)

jumps_all : (ls : List Label) (otherwise : ℕ) → AllByRecursion (λ i. is_single i ≡ true) (case_jumps ls otherwise)
jumps_all [] otherwise = (refl, (refl, tt))
jumps_all (l ∷ ls) otherwise = both_all (case_jump l.word (l.at + length (case_jumps ls otherwise))) (case_jumps ls otherwise) (jump_all l.word _) (jumps_all ls otherwise)
  where
    jump_all : (word : Option ℕ) (count : ℕ) → AllByRecursion (λ i. is_single i ≡ true) (case_jump word count)
    jump_all None count = tt
    jump_all (Some word) count = (refl, tt)

-- one jump of the table, and the rest
one_jump : (p : Program) (word : Option ℕ) (place start : ℕ) (rest : List Instruction) (at : ℕ) → start ≡ at + length (case_jump word (place + length rest) ++ rest) → Stands p at (case_jump word (place + length rest) ++ rest) → Safe p (start + place) →
    ((at : ℕ) → start ≡ at + length rest → Stands p at rest → Safe p at × Sits p at rest) → Safe p at × Sits p at (case_jump word (place + length rest) ++ rest)
one_jump p None place start rest at e s safe t = t at e s
one_jump p (Some word) place start rest at e s safe t =
    let f : start ≡ suc at + length rest = omega (arith, e) in
    let to : start + place ≡ suc at + (place + length rest) = omega (arith, f) in
    let later = t (suc at) f s.1 in
    (safe_here p at (Code.JumpAt word (place + length rest)) refl s.0, ((later.0, (safe_at p (start + place) _ to safe, tt)), later.1))

jumps_fit : (p : Program) (ls : List Label) (otherwise start at : ℕ) → start ≡ at + length (case_jumps ls otherwise) → Stands p at (case_jumps ls otherwise) → Labelled p start ls → Safe p (start + otherwise) → Safe p at × Sits p at (case_jumps ls otherwise)
jumps_fit p [] otherwise start at e s labels safe =
    let to : start + otherwise ≡ suc (suc at) + otherwise = omega (arith, e) in
    (safe_here p at Code.Drop refl s.0, ((safe_here p (suc at) (Code.Jump otherwise) refl s.1.0, tt), ((safe_at p (start + otherwise) _ to safe, tt), tt)))
jumps_fit p (l ∷ ls) otherwise start at e s labels safe = one_jump p l.word l.at start (case_jumps ls otherwise) at e s labels.0 (λ k f u. jumps_fit p ls otherwise start k f u labels.1 safe)

-- what stands behind the value of a `switch`
abbrev table : List Label → List Instruction → List (List Cell) → ℕ → List Instruction
table labels body new count =
    let jumps = case_jumps labels (label_place Default labels (length body)) in
    Code.CheckWord ∷ Code.Switch (length jumps + length body + 3) ∷ Code.Enter new count ∷ (jumps ++ (body ++ Code.Leave ∷ Code.Done ∷ []))

table_fit : (labels : List Label) (body : List Instruction) (new : List (List Cell)) (count : ℕ) → Fits body → ((p : Program) (start end : ℕ) → end ≡ start + length body → Stands p start body → Safe p end → Labelled p start labels) →
    (p : Program) (at to : ℕ) → to ≡ at + length (table labels body new count) → Stands p at (table labels body new count) → Safe p to → Safe p at × Sits p at (table labels body new count)
table_fit labels body new count t places p at to e s safe = (
  safe_here p at Code.CheckWord refl s.0,
  (
    (safe_here p (suc at) (Code.Switch (length jumps + length body + 3)) refl s.1.0, tt),
    (
      (safe_here p (suc (suc at)) (Code.Enter new count) refl s.1.1.0, (safe_at p to _ past_place safe, tt)),
      (
        (table_sits.0, tt),
        sits_both p (suc (suc (suc at))) start jumps _ refl table_sits.1 (sits_both p start last body _ refl bodies.1 ((safe_here p (suc last) Code.Done refl ended.1.0, tt), ((safe_at p to (suc (suc last)) end_is safe, tt), tt))),
      ),
    ),
  ),
)
  where
    jumps : List Instruction
    jumps = case_jumps labels (label_place Default labels (length body))

    start : ℕ
    start = suc (suc (suc at)) + length jumps

    last : ℕ
    last = start + length body

    bodied : Stands p start (body ++ Code.Leave ∷ Code.Done ∷ [])
    bodied = stands_rest p (suc (suc (suc at))) start jumps _ refl s.1.1.1

    ended : Stands p last (Code.Leave ∷ Code.Done ∷ [])
    ended = stands_rest p start last body _ refl bodied

    leaves : Safe p last
    leaves = safe_here p last Code.Leave refl ended.0

    end_is : to ≡ suc (suc last)
    end_is =
        let l : length (jumps ++ (body ++ Code.Leave ∷ Code.Done ∷ [])) ≡ length jumps + length (body ++ Code.Leave ∷ Code.Done ∷ []) = length-append jumps _ in
        let k : length (body ++ Code.Leave ∷ Code.Done ∷ []) ≡ length body + 2 = length-append body _ in
        omega (arith, e, l, k)

    past_place : to ≡ suc (suc at) + (length jumps + length body + 3)
    past_place = omega (arith, end_is)

    bodies : Safe p start × Sits p start body
    bodies = t.fits p start last refl (stands_first p start body _ bodied) leaves

    labelled : Labelled p start labels
    labelled = places p start last refl (stands_first p start body _ bodied) leaves

    table_sits : Safe p (suc (suc (suc at))) × Sits p (suc (suc (suc at))) jumps
    table_sits =
        jumps_fit p labels (label_place Default labels (length body)) start (suc (suc (suc at))) refl (stands_first p (suc (suc (suc at))) jumps _ s.1.1.1) labelled (place_safe p start Default labels (length body) labelled leaves)

table_fits : (labels : List Label) (body : List Instruction) (new : List (List Cell)) (count : ℕ) → Fits body → ((p : Program) (start end : ℕ) → end ≡ start + length body → Stands p start body → Safe p end → Labelled p start labels) →
    Fits (table labels body new count)
table_fits labels body new count t places =
    record { all = (refl, (refl, (refl, both_all _ _ (jumps_all labels (label_place Default labels (length body))) (both_all body _ t.all (refl, (refl, tt)))))); fits = table_fit labels body new count t places }

-- a label stands where the rest of the parts begins
label_here : (p : Program) (start at : ℕ) (pos : ℕ) (e : Option CExpr) (here : Environment) (ls : List Label) → Safe p (start + at) → Labelled p start ls → Labelled p start (label_of (plain.Label pos e) here at ++ ls)
label_here p start at pos None here ls safe t = (safe, t)
label_here p start at pos (Some e) here ls safe t = (safe, t)

from_start : (start end n : ℕ) → end ≡ start + n → end ≡ (start + 0) + n
from_start start end n e = omega (arith, e)

no_further : (start : ℕ) → start ≡ start + 0
no_further start = omega arith

none_further : (start at end n : ℕ) → end ≡ (start + at) + n → end ≡ (start + (at + 0)) + n
none_further start at end n e = omega (arith, e)

none_added : (start at : ℕ) → start + at ≡ start + (at + 0)
none_added start at = omega arith

added : (start at n : ℕ) → start + (at + n) ≡ (start + at) + n
added start at n = omega arith

later_end : (start at end : ℕ) (is js : List Instruction) → end ≡ (start + at) + length (is ++ js) → end ≡ (start + (at + length is)) + length js
later_end start at end is js e = let l : length (is ++ js) ≡ length is + length js = length-append is js in omega (arith, e, l)

mutual
  stmt_fits : (t : CStmt) (free : ℕ) (site : Site) (here : Environment) → Fits (stmt_code t free site here)
  stmt_fits (plain.Block ss) free site here = first _ refl (more _ refl (stmts_fits ss (free + slots_for_all ss) site (in_block free here)))
  stmt_fits (plain.Local d) free site here = local_fits d site here d.first
  stmt_fits (plain.Do_expr e) free site here = more _ refl (value_fits e site here)
  stmt_fits plain.Empty free site here = none
  stmt_fits (plain.If e t) free site here = both (used (value_fits e site here)) (skip (stmt_fits t free site (past e here)))
  stmt_fits (plain.IfElse e t u) free site here =
      choice_fits (used (value_fits e site here)) (stmt_fits t free site (past e here)) (stmt_fits u free site (past_stmt t (past e here)))
  stmt_fits (plain.While e t) free site here = loop_fits (used (value_fits e site here)) none (stmt_fits t free site (past e here))
  stmt_fits (plain.Do t e) free site here = do_fits (stmt_fits t free site here) (used (value_fits e site (past_stmt t here)))
  stmt_fits (plain.For (plain.Block ss) test step t) free site here =
      let inner = behind_all ss (in_block free here) in
      let count = free + (slots_for_all ss + slots_for t) in
      first _ refl (more _ refl (both (stmts_fits ss count site (in_block free here)) (loop_fits (test_fits test site inner) (effect_fits step site (past_maybe test inner)) (stmt_fits t count site (past_maybe step (past_maybe test inner))))))
  stmt_fits (plain.For start test step t) free site here =
      let inner = behind start here in
      both (stmt_fits start free site here) (loop_fits (test_fits test site inner) (effect_fits step site (past_maybe test inner)) (stmt_fits t free site (past_maybe step (past_maybe test inner))))
  stmt_fits (plain.Return at e) free site here = return_fits e site here
  stmt_fits (plain.Break at) free site here = one _ refl
  stmt_fits (plain.Continue at) free site here = one _ refl
  stmt_fits (plain.Switch e ps) free site here =
      let inner = in_block free (past e here) in
      let count = free + slots_for_parts ps in
      both (used (value_fits e site here))
      (table_fits (labels_in ps count site inner 0) (parts_code ps count site inner) (parts_objects (entered here.scope) ps) (slots_for_parts ps) (parts_fits ps count site inner)
      (λ p start end f s safe. labels_fit ps count site inner 0 p start end (from_start start end _ f) (stands_at p start (start + 0) _ (no_further start) s) safe))

  stmts_fits : (ts : CStmts) (free : ℕ) (site : Site) (here : Environment) → Fits (stmts_code ts free site here)
  stmts_fits plain.NoStmt free site here = none
  stmts_fits (plain.MoreStmt t ts) free site here = both (stmt_fits t free site here) (stmts_fits ts free site (behind t here))

  part_fits : (p : CPart) (free : ℕ) (site : Site) (here : Environment) → Fits (part_code p free site here)
  part_fits (plain.Label at e) free site here = none
  part_fits (plain.Item t) free site here = stmt_fits t free site here

  parts_fits : (ps : CParts) (free : ℕ) (site : Site) (here : Environment) → Fits (parts_code ps free site here)
  parts_fits plain.NoPart free site here = none
  parts_fits (plain.MorePart p ps) free site here = both (part_fits p free site here) (parts_fits ps free site (behind_part p here))

  labels_fit : (ps : CParts) (free : ℕ) (site : Site) (here : Environment) (at : ℕ) (p : Program) (start end : ℕ) → end ≡ (start + at) + length (parts_code ps free site here) → Stands p (start + at) (parts_code ps free site here) → Safe p end →
      Labelled p start (labels_in ps free site here at)
  labels_fit plain.NoPart free site here at p start end e s safe = tt
  labels_fit (plain.MorePart (plain.Label pos a) ps) free site here at p start end e s safe =
      label_here p start at pos a here _ ((parts_fits ps free site here).fits p (start + at) end e s safe).0
      (labels_fit ps free site here (at + 0) p start end (none_further start at end _ e) (stands_at p (start + at) (start + (at + 0)) _ (none_added start at) s) safe)
  labels_fit (plain.MorePart (plain.Item t) ps) free site here at p start end e s safe =
      labels_fit ps free site (behind t here) (at + length (stmt_code t free site here)) p start end (later_end start at end (stmt_code t free site here) (parts_code ps free site (behind t here)) e)
      (stands_rest p (start + at) (start + (at + length (stmt_code t free site here))) (stmt_code t free site here) (parts_code ps free site (behind t here)) (added start at _) s) safe

-- ---- whole texts

function_fits : (names : List (List ℕ × Option ℕ)) (f : Definition) → Fits (function_code names f)
function_fits names f = both (stmt_fits f.body (length f.params + slots_for f.body) (site_of names f) (body_place f)) (first _ refl (one _ refl))

functions_fits : (names : List (List ℕ × Option ℕ)) (fs : List Definition) → Fits (functions_code names fs)
functions_fits names [] = none
functions_fits names (f ∷ fs) = both (function_fits names f) (functions_fits names fs)

text_fits : (rules : Rules) (t : Text) (input : List ℕ) → Fits (program_of rules t input).instructions
text_fits rules t input = first _ refl (first _ refl (functions_fits t.names t.functions))

stands_by : (p : Program) (k : ℕ) (xs : List Instruction) → ((j : ℕ) → slice_get p.instructions (k + j) ≡ slice_get xs j) → Stands p k xs
stands_by p k [] e = tt
stands_by p k (x ∷ xs) e = (first_of (e zero), stands_by p (suc k) xs (λ j. later j (e (suc j))))
  where
    first_of : slice_get p.instructions (k + zero) ≡ Some x → slice_get p.instructions k ≡ Some x
    first_of f = let z : k ≡ k + zero = omega arith in ap (slice_get p.instructions) z ∙ f

    later : (j : ℕ) → slice_get p.instructions (k + suc j) ≡ slice_get xs j → slice_get p.instructions (suc k + j) ≡ slice_get xs j
    later j f = let z : suc k + j ≡ k + suc j = omega arith in ap (slice_get p.instructions) z ∙ f

-- a whole program stands where it begins
stands_whole : (p : Program) → Stands p 0 p.instructions
stands_whole p = stands_by p 0 p.instructions (λ j. let e : 0 + j ≡ j = omega arith in ap (slice_get p.instructions) e)

past_is_safe : (p : Program) (at : ℕ) → length p.instructions ≤ at → Safe p at
past_is_safe p at le = ap takes (slice_get_past p.instructions at le)

-- each instruction of a text leads to safe places
text_sits : (rules : Rules) (t : Text) (input : List ℕ) → Sits (program_of rules t input) 0 (program_of rules t input).instructions
text_sits rules t input =
    let p = program_of rules t input in
    ((text_fits rules t input).fits p 0 (length p.instructions) (omega arith) (stands_whole p) (past_is_safe p (length p.instructions) (omega arith))).1

sits_at : (p : Program) (k : ℕ) (is : List Instruction) → Sits p k is → (j : ℕ) (i : Instruction) → slice_get is j ≡ Some i → AllSafe p (targets i (k + j))
sits_at p k [] s j i e = absurd (cc e)
sits_at p k (x ∷ is) s zero i e = let same : x ≡ i = cc e in let z : k ≡ k + zero = omega arith in subst (λ n. AllSafe p (targets i n)) z (subst (λ y. AllSafe p (targets y k)) same s.0)
sits_at p k (x ∷ is) s (suc j) i e = let z : suc k + j ≡ k + suc j = omega arith in subst (λ n. AllSafe p (targets i n)) z (sits_at p (suc k) is s.1 j i e)

-- each of a program's instructions leads to safe places
abbrev pub LeadsSafely : Program → Type 0
LeadsSafely p = (at : ℕ) (i : Instruction) → slice_get p.instructions at ≡ Some i → AllSafe p (targets i at)

pub text_leads : (rules : Rules) (t : Text) (input : List ℕ) → LeadsSafely (program_of rules t input)
text_leads rules t input at i e = let z : 0 + at ≡ at = omega arith in subst (λ n. AllSafe (program_of rules t input) (targets i n)) z (sits_at (program_of rules t input) 0 (program_of rules t input).instructions (text_sits rules t input) at i e)

-- a function begins at a safe place
abbrev pub SafeEntry : Program → Option Entry → Type 0
SafeEntry p None = Unit {0}
SafeEntry p (Some e) = Safe p e.at

entry_by : (p : Program) (b : Bool) (x y : Option Entry) → SafeEntry p x → SafeEntry p y → SafeEntry p (cond b x y)
entry_by p true x y t u = t
entry_by p false x y t u = u

entries_safe : (p : Program) (rules : Rules) (names : List (List ℕ × Option ℕ)) (name : List ℕ) (fs : List Definition) (at to : ℕ) → to ≡ at + length (functions_code names fs) → Stands p at (functions_code names fs) → Safe p to →
    SafeEntry p (meaning (entries_of rules names fs at) name)
entries_safe p rules names name [] at to e s safe = tt
entries_safe p rules names name (f ∷ fs) at to e s safe =
    let mid : ℕ = at + length (function_code names f) in
    let rest = stands_rest p at mid (function_code names f) (functions_code names fs) refl s in
    let end = end_place at to (function_code names f) (functions_code names fs) e in
    let later = (functions_fits names fs).fits p mid to end rest safe in
    let here = (function_fits names f).fits p at mid refl (stands_first p at (function_code names f) (functions_code names fs) s) later.0 in
    entry_by p (bytes_eq name f.name) (Some (entry_of rules f at)) _ here.0 (entries_safe p rules names name fs mid to end rest safe)

pub text_entries : (rules : Rules) (t : Text) (input name : List ℕ) → SafeEntry (program_of rules t input) (meaning (program_of rules t input).entries name)
text_entries rules t input name =
    let p = program_of rules t input in
    entries_safe p rules t.names name t.functions 2 (2 + length (functions_code t.names t.functions)) refl (stands_whole p).1.1 (past_is_safe p (2 + length (functions_code t.names t.functions)) (omega arith))

pub text_all : (u : CUnit) → AllByRecursion (λ i. is_single i ≡ true) (text_code u).instructions
text_all u = (text_fits (own_rules u) (text_of u) []).all

pub faults_of_texts_are_silent : FaultsOfTextsAreSilent
faults_of_texts_are_silent u = faults_of_code_are_silent (text_code u) (text_all u)

pub texts_move_by_pieces : TextsMoveByPieces
texts_move_by_pieces u = code_moves_by_pieces (text_code u) (text_all u)
