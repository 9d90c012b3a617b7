-- The code of an expression does what the expression does.
use Rattle.std.proofs.Common.{◌≡◌, ℕ, suc, ◌+◌, List, [], ◌∷◌, ◌++◌, length, Option, Bool, true, false, refl, sym, ap, subst, arith}
use Rattle.std.specs.Prelude.{◌%◌, ◌^◌, if◌then◌else◌, codes}
use Rattle.std.specs.Str.{bytes_eq}
use Rattle.std.proofs.lemmas.Slice.Eq.{bytes_eq-Decides}
use Rattle.c_syntax.specs.Plain as plain
use Rattle.c_syntax.specs.Plain.{CExpr, CExprs}
use Rattle.c_syntax.specs.Words.{meaning}
use Rattle.c_types.specs.Types.{CTypes}
use Rattle.c_types.specs.Scope.{entity_of}
use Rattle.c_types.specs.Expressions.{format_of}
use Rattle.c_eval.specs.State.{Value, Word, Null, Letter, Run}
use Rattle.c_eval.specs.Run.{◌>>=◌, give, paid}
use Rattle.c_eval.specs.Operators.{used, converted, all_converted}
use Rattle.c_eval.specs.BuiltIns.{printf, built_in}
use Rattle.c_eval.specs.Environment.{Environment, past, type_in, value_type_in, callee_in, Callee, Direct, Known, Format, Through}
use Rattle.c_eval.specs.Eval.{call_through, call, value_of, place_of, values_of, values_behind}
use Rattle.c_code.specs.Code as code
use Rattle.c_code.specs.Code.{Instruction, Site, choice_code, print_code, puts_code, known_code, call_code, value_code, place_code, values_code, values_code_behind, count_of, count_behind}
use Rattle.c_code.specs.Machine.{Control}
use Rattle.c_flow.proofs.Leading.{Bounded, Leads, moved, in_parts, leads_then, leads_as}
use Rattle.c_flow.proofs.Standing.{Stands, stands_first, stands_rest, end_place, one_on, none_on, behind_one}
use Rattle.c_flow.proofs.Landing.{Lands, push_lands, then_top, use_does, fetch_does, member_does, convert_does}
use Rattle.c_flow.proofs.Choosing.{choice_lands, push_all}
use Rattle.c_flow.proofs.Printing.{print_leads, puts_leads}
use Rattle.c_flow.proofs.Forms.{Alike, seen, Calls, outer, object_lands, no_place_lands, lands_as, name_lands, unary_lands, unary_place_lands, binary_lands, assign_lands, step_lands, cast_value_lands, element_lands, comma_lands, CallsLead, leads_pay_here, known_leads, direct_leads, through_leads, first_given, more_given}

-- arguments stand on the stack, the last one on top, and then the rest follows
abbrev pub ArgumentsThen : Bounded → List (Option ℕ) → List Instruction → ℕ → Run (List Value) → Type 0
ArgumentsThen p slots is count m =
    (c : Control) (to : ℕ) (g : List Value → Run Value) (h : Value → Run Control) → to ≡ c.at + length is → c.slots ≡ slots → Stands p.program c.at is →
    ((vs : List Value) → length vs ≡ count → Leads p (give (moved c to (push_all c.stack vs))) (g vs) h) → Leads p (give c) (m >>= g) h

no_arguments : (p : Bounded) (slots : List (Option ℕ)) → ArgumentsThen p slots [] 0 (give [])
no_arguments p slots c to g h e sl s t = leads_as p (g []) (give [] >>= g) (λ st. first_given [] g st) (subst (λ k. Leads p (give (moved c k c.stack)) (g []) h) (sym (none_on c.at to e)) (t [] refl))

more_arguments : (p : Bounded) (slots : List (Option ℕ)) (is js : List Instruction) (count : ℕ) (m : Run Value) (m' : Run (List Value)) → Lands p slots is m → ArgumentsThen p slots js count m' →
    ArgumentsThen p slots (is ++ js) (suc count) (m >>= λ v. m' >>= λ vs. give (v ∷ vs))
more_arguments p slots is js count m m' t u c to g h e sl s k =
    let mid : ℕ = c.at + length is in
    leads_as p (m >>= λ v. (m' >>= λ vs. g (v ∷ vs))) _ (λ st. more_given m (λ v. m') g st)
    (leads_then p (λ v. give (moved c mid (v ∷ c.stack))) (t c mid refl sl (stands_first p.program c.at is js s))
    (λ v. u (moved c mid (v ∷ c.stack)) to (λ vs. g (v ∷ vs)) h (end_place c.at to is js e) sl (stands_rest p.program c.at mid is js refl s)
    (λ vs l. k (v ∷ vs) (ap suc l))))

pay_place : (mid to k : ℕ) → to ≡ mid + suc k → to ≡ suc mid + k
pay_place mid to k e = omega (arith, e)

-- a function that is always known, `puts` being parted
by_name : (p : Bounded) (c : Control) (name : List ℕ) (params : CTypes) (count : ℕ) (stack vs : List Value) (to : ℕ) → length vs ≡ count → (b : Bool) → bytes_eq name (codes "puts") ≡ b →
    to ≡ c.at + length (if b then puts_code params count else code.BuiltIn name params count ∷ []) → Stands p.program c.at (if b then puts_code params count else code.BuiltIn name params count ∷ []) → c.stack ≡ push_all stack vs →
    Leads p (give c) (built_in p.program.input false name (all_converted params vs)) (λ v. give (moved c to (v ∷ stack)))
by_name p c name params count stack vs to l true g e s f = puts_leads p c name params count stack vs to ((bytes_eq-Decides name (codes "puts")).0 g) l e s f
by_name p c name params count stack vs to l false g e s f = known_leads p c name params count stack vs to l s.0 (one_on c.at to e) f

call_lands : (p : Bounded) (slots : List (Option ℕ)) (site : Site) (calls : Calls) → CallsLead p calls → (callee : Callee) (format : Option (List ℕ)) (n m : ℕ) (pointer args printed : List Instruction) (l : Run Value) (a b : Run (List Value)) →
    Lands p slots pointer l → ArgumentsThen p slots args n a → ArgumentsThen p slots printed m b → Lands p slots (call_code callee format n m pointer args printed) (call (outer p site calls) callee format l a b)
unfolding call
call_lands p slots site calls k (Direct name params) format n m pointer args printed l a b t u v c to e sl s =
    u c (c.at + length args) (λ vs. calls name (all_converted params vs)) (λ w. give (moved c to (w ∷ c.stack))) refl sl (stands_first p.program c.at args _ s)
    (λ vs len. direct_leads p calls k (moved c (c.at + length args) (push_all c.stack vs)) name params n c.stack vs to len (stands_rest p.program c.at (c.at + length args) args _ refl s).0 (behind_one c.at to args _ e) refl)
call_lands p slots site calls k (Known name params) format n m pointer args printed l a b t u v c to e sl s =
    let behind = stands_rest p.program c.at (c.at + length args) args (code.Pay ∷ known_code name params n) refl s in
    u c (c.at + length args) (λ vs. paid false (built_in p.program.input false name (all_converted params vs))) (λ w. give (moved c to (w ∷ c.stack))) refl sl (stands_first p.program c.at args _ s)
    (λ vs len. leads_pay_here p (moved c (c.at + length args) (push_all c.stack vs)) behind.0
    (by_name p (moved c (suc (c.at + length args)) (push_all c.stack vs)) name params n c.stack vs to len (bytes_eq name (codes "puts")) refl (pay_place (c.at + length args) to (length (known_code name params n)) (end_place c.at to args (code.Pay ∷ known_code name params n) e)) behind.1 refl))
call_lands p slots site calls k Format format n m pointer args printed l a b t u v c to e sl s =
    let behind = stands_rest p.program c.at (c.at + length printed) printed (code.Pay ∷ print_code format m) refl s in
    v c (c.at + length printed) (λ vs. paid false (printf false format vs)) (λ w. give (moved c to (w ∷ c.stack))) refl sl (stands_first p.program c.at printed _ s)
    (λ vs len. leads_pay_here p (moved c (c.at + length printed) (push_all c.stack vs)) behind.0
    (print_leads p (moved c (suc (c.at + length printed)) (push_all c.stack vs)) format m c.stack vs to len (pay_place (c.at + length printed) to (length (print_code format m)) (end_place c.at to printed (code.Pay ∷ print_code format m) e)) behind.1 refl))
call_lands p slots site calls k (Through params) format n m pointer args printed l a b t u v c to e sl s =
    let mid : ℕ = c.at + length pointer in
    let behind = stands_rest p.program c.at mid pointer (args ++ code.CallThrough params n ∷ []) refl s in
    leads_then p (λ q. give (moved c mid (q ∷ c.stack))) (t c mid refl sl (stands_first p.program c.at pointer _ s))
    (λ q. u (moved c mid (q ∷ c.stack)) (mid + length args) (λ vs. call_through (outer p site calls) q (all_converted params vs)) (λ w. give (moved c to (w ∷ c.stack))) refl sl (stands_first p.program mid args _ behind)
    (λ vs len. through_leads p site calls k (moved c (mid + length args) (push_all (q ∷ c.stack) vs)) params n q c.stack vs to len (stands_rest p.program mid (mid + length args) args _ refl behind).0
    (behind_one mid to args (code.CallThrough params n) (end_place c.at to pointer (args ++ code.CallThrough params n ∷ []) e)) refl))

mutual
  pub value_lands : (e : CExpr) (p : Bounded) (slots : List (Option ℕ)) (site : Site) (calls : Calls) (there : Environment) (os : List (List ℕ × Option ℕ)) (n : ℕ) → CallsLead p calls → Alike slots site there os →
      Lands p slots (value_code e site there) (value_of e (outer p site calls) (seen there os n))
  value_lands (plain.Number at v unsigned) p slots site calls there os n k t = push_lands p slots (Word (v % 2 ^ 24))
  value_lands (plain.Str at text) p slots site calls there os n k t = push_lands p slots (Letter site.owner there.literals_before text 0)
  value_lands (plain.Null at) p slots site calls there os n k t = push_lands p slots Null
  value_lands (plain.Var at name) p slots site calls there os n k t = name_lands p slots site calls there os n t name (entity_of there.scope name)
  value_lands (plain.Unary at op a) p slots site calls there os n k t =
      unary_lands p slots site calls there.scope op a _ _ _ _ (then_top p slots (value_code a site there) code.Use _ used (use_does p) (value_lands a p slots site calls there os n k t)) (place_lands a p slots site calls there os n k t)
  value_lands (plain.Step at op a) p slots site calls there os n k t = step_lands p slots site calls there.scope.tags op (type_in there.scope a) (place_code a site there) _ (place_lands a p slots site calls there os n k t)
  value_lands (plain.Binary at op a b) p slots site calls there os n k t =
      binary_lands p slots there.scope.tags op (value_type_in there.scope a) (value_type_in there.scope b) (value_code a site there ++ code.Use ∷ []) (value_code b site (past a there) ++ code.Use ∷ []) _ _
      (then_top p slots (value_code a site there) code.Use _ used (use_does p) (value_lands a p slots site calls there os n k t))
      (then_top p slots (value_code b site (past a there)) code.Use _ used (use_does p) (value_lands b p slots site calls (past a there) os n k (record { finds = t.finds })))
  value_lands (plain.Assign at op a b) p slots site calls there os n k t =
      assign_lands p slots site calls there.scope.tags op (type_in there.scope a) (value_type_in there.scope b) (place_code a site there) (value_code b site (past a there) ++ code.Use ∷ []) _ _
      (place_lands a p slots site calls there os n k t)
      (then_top p slots (value_code b site (past a there)) code.Use _ used (use_does p) (value_lands b p slots site calls (past a there) os n k (record { finds = t.finds })))
  value_lands (plain.Cond at a b d) p slots site calls there os n k t =
      lands_as p slots _ _ _
      (λ st. sym (in_parts _ _ (λ v. give (converted (type_in there.scope (plain.Cond at a b d)) v)) st))
      (then_top p slots (choice_code (value_code a site there ++ code.Use ∷ []) (value_code b site (past a there)) (value_code d site (past b (past a there)))) (code.Convert (type_in there.scope (plain.Cond at a b d))) _ _
      (convert_does p (type_in there.scope (plain.Cond at a b d)))
      (choice_lands p slots (value_code a site there ++ code.Use ∷ []) (value_code b site (past a there)) (value_code d site (past b (past a there))) _ _ _
      (then_top p slots (value_code a site there) code.Use _ used (use_does p) (value_lands a p slots site calls there os n k t))
      (value_lands b p slots site calls (past a there) os n k (record { finds = t.finds }))
      (value_lands d p slots site calls (past b (past a there)) os n k (record { finds = t.finds }))))
  value_lands (plain.Comma at a b) p slots site calls there os n k t =
      comma_lands p slots (value_code a site there) (value_code b site (past a there)) _ _ (value_lands a p slots site calls there os n k t) (value_lands b p slots site calls (past a there) os n k (record { finds = t.finds }))
  value_lands (plain.Cast at ty a) p slots site calls there os n k t = cast_value_lands p slots (type_in there.scope (plain.Cast at ty a)) (value_code a site there) _ (value_lands a p slots site calls there os n k t)
  value_lands (plain.SizeTy at ty) p slots site calls there os n k t = push_lands p slots _
  value_lands (plain.SizeOf at a) p slots site calls there os n k t = push_lands p slots _
  value_lands (plain.Index at a b) p slots site calls there os n k t =
      then_top p slots (place_code (plain.Index at a b) site there) (code.Fetch (type_in there.scope (plain.Index at a b))) _ _ (fetch_does p (type_in there.scope (plain.Index at a b)))
      (element_lands p slots site calls there.scope.tags (value_type_in there.scope a) (value_type_in there.scope b) (value_code a site there ++ code.Use ∷ []) (value_code b site (past a there) ++ code.Use ∷ []) _ _
      (then_top p slots (value_code a site there) code.Use _ used (use_does p) (value_lands a p slots site calls there os n k t))
      (then_top p slots (value_code b site (past a there)) code.Use _ used (use_does p) (value_lands b p slots site calls (past a there) os n k (record { finds = t.finds }))))
  value_lands (plain.Call at f es) p slots site calls there os n k t =
      call_lands p slots site calls k (callee_in there.scope f) (format_of es) (count_of es) (count_behind es) (value_code f site there ++ code.Use ∷ []) (values_code es site (past f there)) (values_code_behind es site there) _ _ _
      (then_top p slots (value_code f site there) code.Use _ used (use_does p) (value_lands f p slots site calls there os n k t))
      (values_land es p slots site calls (past f there) os n k (record { finds = t.finds })) (behind_land es p slots site calls there os n k t)
  value_lands (plain.Member at a m) p slots site calls there os n k t =
      then_top p slots (place_code (plain.Member at a m) site there) (code.Fetch (type_in there.scope (plain.Member at a m))) _ _ (fetch_does p (type_in there.scope (plain.Member at a m)))
      (then_top p slots (place_code a site there) _ _ _ (member_does p _) (place_lands a p slots site calls there os n k t))
  value_lands (plain.Arrow at a m) p slots site calls there os n k t =
      then_top p slots (place_code (plain.Arrow at a m) site there) (code.Fetch (type_in there.scope (plain.Arrow at a m))) _ _ (fetch_does p (type_in there.scope (plain.Arrow at a m)))
      (then_top p slots (value_code a site there ++ code.Use ∷ []) _ _ _ (member_does p _) (then_top p slots (value_code a site there) code.Use _ used (use_does p) (value_lands a p slots site calls there os n k t)))

  pub place_lands : (e : CExpr) (p : Bounded) (slots : List (Option ℕ)) (site : Site) (calls : Calls) (there : Environment) (os : List (List ℕ × Option ℕ)) (n : ℕ) → CallsLead p calls → Alike slots site there os →
      Lands p slots (place_code e site there) (place_of e (outer p site calls) (seen there os n))
  place_lands (plain.Str at text) p slots site calls there os n k t = push_lands p slots (Letter site.owner there.literals_before text 0)
  place_lands (plain.Var at name) p slots site calls there os n k t = object_lands p slots (meaning there.objects name) (meaning site.names name) (meaning os name) (t.finds name)
  place_lands (plain.Unary at op a) p slots site calls there os n k t =
      unary_place_lands p slots op (value_code a site there ++ code.Use ∷ []) _ (then_top p slots (value_code a site there) code.Use _ used (use_does p) (value_lands a p slots site calls there os n k t))
  place_lands (plain.Index at a b) p slots site calls there os n k t =
      element_lands p slots site calls there.scope.tags (value_type_in there.scope a) (value_type_in there.scope b) (value_code a site there ++ code.Use ∷ []) (value_code b site (past a there) ++ code.Use ∷ []) _ _
      (then_top p slots (value_code a site there) code.Use _ used (use_does p) (value_lands a p slots site calls there os n k t))
      (then_top p slots (value_code b site (past a there)) code.Use _ used (use_does p) (value_lands b p slots site calls (past a there) os n k (record { finds = t.finds })))
  place_lands (plain.Member at a m) p slots site calls there os n k t = then_top p slots (place_code a site there) _ _ _ (member_does p _) (place_lands a p slots site calls there os n k t)
  place_lands (plain.Arrow at a m) p slots site calls there os n k t =
      then_top p slots (value_code a site there ++ code.Use ∷ []) _ _ _ (member_does p _) (then_top p slots (value_code a site there) code.Use _ used (use_does p) (value_lands a p slots site calls there os n k t))
  place_lands (plain.Number at v unsigned) p slots site calls there os n k t = no_place_lands p slots
  place_lands (plain.Null at) p slots site calls there os n k t = no_place_lands p slots
  place_lands (plain.Step at op a) p slots site calls there os n k t = no_place_lands p slots
  place_lands (plain.Binary at op a b) p slots site calls there os n k t = no_place_lands p slots
  place_lands (plain.Assign at op a b) p slots site calls there os n k t = no_place_lands p slots
  place_lands (plain.Cond at a b d) p slots site calls there os n k t = no_place_lands p slots
  place_lands (plain.Comma at a b) p slots site calls there os n k t = no_place_lands p slots
  place_lands (plain.Cast at ty a) p slots site calls there os n k t = no_place_lands p slots
  place_lands (plain.SizeTy at ty) p slots site calls there os n k t = no_place_lands p slots
  place_lands (plain.SizeOf at a) p slots site calls there os n k t = no_place_lands p slots
  place_lands (plain.Call at f es) p slots site calls there os n k t = no_place_lands p slots

  pub values_land : (es : CExprs) (p : Bounded) (slots : List (Option ℕ)) (site : Site) (calls : Calls) (there : Environment) (os : List (List ℕ × Option ℕ)) (n : ℕ) → CallsLead p calls → Alike slots site there os →
      ArgumentsThen p slots (values_code es site there) (count_of es) (values_of es (outer p site calls) (seen there os n))
  values_land plain.NoExpr p slots site calls there os n k t = no_arguments p slots
  values_land (plain.MoreExpr e es) p slots site calls there os n k t =
      more_arguments p slots (value_code e site there ++ code.Use ∷ []) (values_code es site (past e there)) (count_of es) _ _
      (then_top p slots (value_code e site there) code.Use _ used (use_does p) (value_lands e p slots site calls there os n k t)) (values_land es p slots site calls (past e there) os n k (record { finds = t.finds }))

  behind_land : (es : CExprs) (p : Bounded) (slots : List (Option ℕ)) (site : Site) (calls : Calls) (there : Environment) (os : List (List ℕ × Option ℕ)) (n : ℕ) → CallsLead p calls → Alike slots site there os →
      ArgumentsThen p slots (values_code_behind es site there) (count_behind es) (values_behind es (outer p site calls) (seen there os n))
  behind_land plain.NoExpr p slots site calls there os n k t = no_arguments p slots
  behind_land (plain.MoreExpr e es) p slots site calls there os n k t = values_land es p slots site calls there os n k t
