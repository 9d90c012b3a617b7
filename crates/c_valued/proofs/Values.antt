-- All expressions land, with calls of what may be called.
use Rattle.std.proofs.Common.{◌≡◌, ℕ, Bool, true, false, List, ◌++◌, Option, Some, None, refl, sym, ◌∙◌, subst, if◌then◌else◌}
use Rattle.c_syntax.specs.Plain.{CExpr, CExprs, NoExpr, MoreExpr, Number, Str, Null, Var, Unary, Step, Binary, Assign, Cond as Choice, Comma, Cast, SizeTy, SizeOf, Index, Call, Member, Arrow}
use Rattle.c_types.specs.Scope.{Scope, Entity, Object as TheObject, Routine, BuiltIn, Printf, entity_of}
use Rattle.c_eval.specs.Environment.{Environment, past, Callee, Direct, Known, Format, Through, named_callee, callee_in}
use Rattle.c_eval.specs.LiteralsIn.{is_printf, names_printf, literals_in, literals_in_all, literals_behind}
use Rattle.c_eval.specs.Eval.{World}
use Rattle.c_landing.specs.Landing.{Setting}
use Rattle.c_landing.specs.Few.{Agrees, LiteralsAre, IsFew}
use Rattle.c_valued.specs.Laws.{Valued}
use Rattle.c_valued.proofs.Parts.{literals_left, literals_right}
use Rattle.c_valued.proofs.Valuing.{number_lands, null_lands, text_lands, name_lands, unary_valued}
use Rattle.c_valued.proofs.Operating.{comma_valued, cast_valued, step_valued, index_valued, arrow_valued, member_valued, assign_valued, choice_valued}
use Rattle.c_valued.proofs.Truths.{binary_valued}
use Rattle.c_valued.specs.Calls.{CallsLand, OfPointer, CallsAre, ArgumentsAre, ArgumentsValued}
use Rattle.c_valued.proofs.Calls.{call_valued}

-- a callee that isn't a format isn't `printf`
no_printf : (may : Callee → Bool) → may Format ≡ false → (s : Scope) (f : CExpr) → may (callee_in s f) ≡ true → names_printf s f ≡ false
no_printf may none s (Var at name) h = by (entity_of s name) h
  where
    by : (x : Option Entity) → may (named_callee name x) ≡ true → is_printf x ≡ false
    by (Some Printf) h = absurd (let e : true ≡ false = sym h ∙ none in cc e)
    by (Some (Routine t begun)) h = refl
    by (Some (TheObject t)) h = refl
    by (Some (BuiltIn t)) h = refl
    by None h = refl
no_printf may none s (Number at n u) h = refl
no_printf may none s (Str at text) h = refl
no_printf may none s (Null at) h = refl
no_printf may none s (SizeTy at t) h = refl
no_printf may none s (SizeOf at a) h = refl
no_printf may none s (Unary at op a) h = refl
no_printf may none s (Step at op a) h = refl
no_printf may none s (Binary at op a b) h = refl
no_printf may none s (Assign at op a b) h = refl
no_printf may none s (Choice at a b c) h = refl
no_printf may none s (Comma at a b) h = refl
no_printf may none s (Cast at t a) h = refl
no_printf may none s (Index at a b) h = refl
no_printf may none s (Call at f es) h = refl
no_printf may none s (Member at a m) h = refl
no_printf may none s (Arrow at a m) h = refl

-- what a call asks of its pointer is had from what is asked of the expression
of_pointer : {T R : Type 0} (c : Callee) → (T → R) → OfPointer c T → OfPointer c R
of_pointer (Through params) f h = f h
of_pointer (Direct name params) f h = tt
of_pointer (Known name params) f h = tt
of_pointer Format f h = tt

module _ (S : Setting) (w : World) (agrees : Agrees S w) (u : ℕ) (may : Callee → Bool) (land : CallsLand S w u may) where
  abbrev V : CExpr → Environment → Type 0
  V e site = Valued S w u e site

  abbrev G : List (List ℕ) → ℕ → Type 0
  G texts before = LiteralsAre S.ground w.owner texts before

  mutual
    pub values : (e : CExpr) (site : Environment) → CallsAre may S.ground.valued e site.scope → IsFew e S.ground.valued site.scope → G (literals_in site.scope e) site.literals_before → V e site
    values (Number at n x) site calls few ls = number_lands S w agrees u at n x site
    values (Str at text) site calls few ls = text_lands S w agrees u at text site ls
    values (Null at) site calls few ls = null_lands S w agrees u at site
    values (Var at name) site calls few ls = name_lands S w agrees u at name site few
    values (Unary at op a) site calls few ls = unary_valued S w agrees u at op a site few (values a site calls few.1 ls)
    values (Step at op a) site calls few ls = step_valued S w agrees u at op a site few (values a site calls few.1 ls)
    values (Binary at op a b) site calls few ls =
        binary_valued S w agrees u at op a b site few ls (values a site calls.0 few.2 (literals_left S.ground w.owner (literals_in site.scope a) (literals_in site.scope b) site.literals_before ls)) (values b (past a site) calls.1 few.3 (literals_right S.ground w.owner (literals_in site.scope a) (literals_in site.scope b) site.literals_before ls))
    values (Assign at op a b) site calls few ls =
        assign_valued S w agrees u at op a b site few ls (values a site calls.0 few.2 (literals_left S.ground w.owner (literals_in site.scope a) (literals_in site.scope b) site.literals_before ls)) (values b (past a site) calls.1 few.3 (literals_right S.ground w.owner (literals_in site.scope a) (literals_in site.scope b) site.literals_before ls))
    values (Choice at a b c) site calls few ls =
        let right = literals_right S.ground w.owner (literals_in site.scope a) (literals_in site.scope b ++ literals_in site.scope c) site.literals_before ls in
        choice_valued S w agrees u at a b c site few ls (values a site calls.0 few.0 (literals_left S.ground w.owner (literals_in site.scope a) (literals_in site.scope b ++ literals_in site.scope c) site.literals_before ls))
        (values b (past a site) calls.1 few.1 (literals_left S.ground w.owner (literals_in site.scope b) (literals_in site.scope c) _ right)) (values c (past b (past a site)) calls.2 few.2 (literals_right S.ground w.owner (literals_in site.scope b) (literals_in site.scope c) _ right))
    values (Comma at a b) site calls few ls =
        comma_valued S w agrees u at a b site few ls (values a site calls.0 few.0 (literals_left S.ground w.owner (literals_in site.scope a) (literals_in site.scope b) site.literals_before ls)) (values b (past a site) calls.1 few.1 (literals_right S.ground w.owner (literals_in site.scope a) (literals_in site.scope b) site.literals_before ls))
    values (Cast at t a) site calls few ls = cast_valued S w agrees u at t a site (values a site calls few ls)
    values (SizeTy at t) site calls few ls = absurd few
    values (SizeOf at a) site calls few ls = absurd few
    values (Index at a b) site calls few ls =
        index_valued S w agrees u at a b site few ls (values a site calls.0 few.3 (literals_left S.ground w.owner (literals_in site.scope a) (literals_in site.scope b) site.literals_before ls)) (values b (past a site) calls.1 few.4 (literals_right S.ground w.owner (literals_in site.scope a) (literals_in site.scope b) site.literals_before ls))
    values (Call at f es) site calls few ls =
        let right = literals_right S.ground w.owner (literals_in site.scope f) (if names_printf site.scope f then literals_behind site.scope es else literals_in_all site.scope es) site.literals_before ls in
        let left = literals_left S.ground w.owner (literals_in site.scope f) (if names_printf site.scope f then literals_behind site.scope es else literals_in_all site.scope es) site.literals_before ls in
        let args = subst (λ (t : Bool). G (if t then literals_behind site.scope es else literals_in_all site.scope es) (past f site).literals_before) (no_printf may land.format site.scope f calls.0) right in
        call_valued S w agrees u may land at f es site ls calls.0 calls.1 (of_pointer (callee_in site.scope f) (λ h. values f site h.1 h.0 left) calls.2) calls.4 (all_values es (past f site) calls.3 args)
    values (Member at a name) site calls few ls = member_valued S w agrees u at a name site few (values a site calls few.1 ls)
    values (Arrow at a name) site calls few ls = arrow_valued S w agrees u at a name site few (values a site calls few.1 ls)

    all_values : (es : CExprs) (site : Environment) → ArgumentsAre may S.ground.valued es site.scope → G (literals_in_all site.scope es) site.literals_before → ArgumentsValued S w u es site
    all_values NoExpr site calls ls = tt
    all_values (MoreExpr e es) site calls ls = (
      values e site calls.1 calls.0 (literals_left S.ground w.owner (literals_in site.scope e) (literals_in_all site.scope es) site.literals_before ls),
      all_values es (past e site) calls.2 (literals_right S.ground w.owner (literals_in site.scope e) (literals_in_all site.scope es) site.literals_before ls),
    )
