-- Calls land, from their parts.
use Rattle.std.proofs.Common.{◌≡◌, ℕ, zero, suc, ◌+◌, ◌^◌, ◌<◌, ◌≤◌, Bool, true, false, List, [], ◌∷◌, ◌++◌, Option, Some, None, refl, sym, ap, ◌∙◌, subst, arith, if◌then◌else◌}
use Rattle.std.specs.Prelude.{max}
use Rattle.eir_core.specs.declared.ops.Op.TheVariants.{Jump}
use Rattle.c_syntax.specs.Plain.{CExpr, CExprs, Number, Str, Null, Var, Unary, Step, Binary, Assign, Cond as Choice, Comma, Cast, SizeTy, SizeOf, Index, Call, Member, Arrow}
use Rattle.c_types.specs.Types.{CTypes}
use Rattle.c_types.specs.Expressions.{format_of}
use Rattle.c_types.specs.Scope.{Scope, Entity, Object as TheObject, Routine, BuiltIn, Printf, entity_of}
use Rattle.c_eval.specs.State as value
use Rattle.c_eval.specs.State.{Value, State, Run, OutsideObject, OtherKind, NullCall}
use Rattle.c_eval.specs.Run.{◌>>=◌, paid}
use Rattle.c_eval.specs.Operators.{used, all_converted}
use Rattle.c_eval.specs.BuiltIns.{built_in}
use Rattle.c_eval.specs.Environment.{Environment, past, Callee, Direct, Known, Format, Through, named_callee, callee_in}
use Rattle.c_eval.specs.LiteralsIn.{literals_in}
use Rattle.c_eval.specs.Eval.{World, call_through, call, value_of, values_of, values_behind}
use Rattle.c_helpers.specs.Frames.{beyond, waiting, waiting_all}
use Rattle.c_place.specs.Code.{jumps}
use Rattle.c_lowered.specs.Counts.{is_known_to_helpers, names_known, expr_jumps, exprs_jumps}
use Rattle.c_lowered.specs.Locations.{Linking}
use Rattle.c_lowered.specs.Operations.{constant, call_at, call_through_at}
use Rattle.c_lowered.specs.Expressions.{known_name, known_code, built_in_code, call_code, value_code, argument_code, arguments_code}
use Rattle.c_lowered.proofs.Jumping.{value_jumps}
use Rattle.c_landing.specs.Landing.{Setting, placed, Lands, Goes, InA}
use Rattle.c_landing.specs.Few.{Agrees, LiteralsAre, words_there}
use Rattle.c_landing.proofs.Landing.{lands_within, then_lands}
use Rattle.c_valued.specs.Steps.{steps, all_steps}
use Rattle.c_valued.specs.Laws.{Valued}
use Rattle.c_valued.proofs.Parts.{max_left, max_right, at_block, undefined_lands, used_in_a}
use Rattle.c_valued.proofs.Valuing.{condition}
use Rattle.c_valued.specs.Calls.{InFrame, FirstInA, CallsLand, KnownIsFunction, HasWords, OfPointer, ArgumentsValued}
use Rattle.c_valued.proofs.Frames.{lands_up, Waited, save_then_goes}
use Rattle.c_valued.proofs.Built.{paid_undefined, built_goes}
use Rattle.c_valued.proofs.Arguments.{waits_least, arguments_count, argument_count, arguments_land, argument_lands, words_converted, first_converted}

-- whether the name that is called has code of its own
abbrev Fits : Option (List ℕ) → Callee → Type 0
Fits None (Direct name params) = is_known_to_helpers name ≡ false
Fits (Some known) (Direct name params) = (known ≡ name) × (is_known_to_helpers name ≡ true)
Fits None callee = Unit {0}
Fits (Some known) callee = ⊥

fits_name : (name : List ℕ) (t : Bool) → is_known_to_helpers name ≡ t → (x : Option Entity) → KnownIsFunction (if t then Some name else None) (named_callee name x) → Fits (if t then Some name else None) (named_callee name x)
fits_name name true e (Some (Routine t begun)) h = (refl, e)
fits_name name false e (Some (Routine t begun)) h = e
fits_name name true e (Some (TheObject t)) h = h
fits_name name false e (Some (TheObject t)) h = tt
fits_name name true e (Some (BuiltIn t)) h = h
fits_name name false e (Some (BuiltIn t)) h = tt
fits_name name true e (Some Printf) h = h
fits_name name false e (Some Printf) h = tt
fits_name name true e None h = h
fits_name name false e None h = tt

fits : (s : Scope) (f : CExpr) → KnownIsFunction (known_name f) (callee_in s f) → Fits (known_name f) (callee_in s f)
fits s (Var at name) h = fits_name name (is_known_to_helpers name) refl (entity_of s name) h
fits s (Number at n u) h = tt
fits s (Str at text) h = tt
fits s (Null at) h = tt
fits s (SizeTy at t) h = tt
fits s (SizeOf at a) h = tt
fits s (Unary at op a) h = tt
fits s (Step at op a) h = tt
fits s (Binary at op a b) h = tt
fits s (Assign at op a b) h = tt
fits s (Choice at a b c) h = tt
fits s (Comma at a b) h = tt
fits s (Cast at t a) h = tt
fits s (Index at a b) h = tt
fits s (Call at f es) h = tt
fits s (Member at a m) h = tt
fits s (Arrow at a m) h = tt

-- a name has no jump
abbrev OfName : Callee → Type 0 → Type 0
OfName (Through params) T = Unit {0}
OfName _ T = T

name_quiet : (s : Scope) (f : CExpr) → OfName (callee_in s f) (expr_jumps f ≡ 0)
name_quiet s (Var at name) = by (entity_of s name)
  where
    by : (x : Option Entity) → OfName (named_callee name x) (expr_jumps (Var at name) ≡ 0)
    by (Some (Routine t begun)) = refl
    by (Some (TheObject t)) = tt
    by (Some (BuiltIn t)) = refl
    by (Some Printf) = refl
    by None = tt
name_quiet s (Number at n u) = tt
name_quiet s (Str at text) = tt
name_quiet s (Null at) = tt
name_quiet s (SizeTy at t) = tt
name_quiet s (SizeOf at a) = tt
name_quiet s (Unary at op a) = tt
name_quiet s (Step at op a) = tt
name_quiet s (Binary at op a b) = tt
name_quiet s (Assign at op a b) = tt
name_quiet s (Choice at a b c) = tt
name_quiet s (Comma at a b) = tt
name_quiet s (Cast at t a) = tt
name_quiet s (Index at a b) = tt
name_quiet s (Call at f es) = tt
name_quiet s (Member at a m) = tt
name_quiet s (Arrow at a m) = tt

-- what isn't known has a jump
not_known : (f : CExpr) → known_name f ≡ None → names_known f ≡ false
not_known (Var at name) h = by (is_known_to_helpers name) refl h
  where
    by : (t : Bool) → is_known_to_helpers name ≡ t → (if t then Some name else None) ≡ None → is_known_to_helpers name ≡ false
    by true e h = absurd (cc h)
    by false e h = e
not_known (Number at n u) h = refl
not_known (Str at text) h = refl
not_known (Null at) h = refl
not_known (SizeTy at t) h = refl
not_known (SizeOf at a) h = refl
not_known (Unary at op a) h = refl
not_known (Step at op a) h = refl
not_known (Binary at op a b) h = refl
not_known (Assign at op a b) h = refl
not_known (Choice at a b c) h = refl
not_known (Comma at a b) h = refl
not_known (Cast at t a) h = refl
not_known (Index at a b) h = refl
not_known (Call at f es) h = refl
not_known (Member at a m) h = refl
not_known (Arrow at a m) h = refl

next_block : (f : CExpr) (k n : ℕ) → k + (expr_jumps f + n + (if names_known f then 0 else 1)) < 2 ^ 24 → known_name f ≡ None → k + expr_jumps f + n + 1 < 2 ^ 24
next_block f k n lt h = let j : ◌≡◌ {A = ℕ} (if names_known f then 0 else 1) 1 = ap (λ (t : Bool). if t then 0 else 1) (not_known f h) in omega (arith, lt, j)

module _ (S : Setting) (w : World) (agrees : Agrees S w) (u : ℕ) (may : Callee → Bool) (land : CallsLand S w u may) where
  abbrev L : Linking
  L = S.linking

  -- ---- what is called, with its arguments converted

  direct_goes : (name : List ℕ) (params : CTypes) (block back d n : ℕ) → may (Direct name params) ≡ true → is_known_to_helpers name ≡ false → words_there name ≤ n → back ≡ suc block → back < 2 ^ 24
      → Goes S (call_at d back (L.entry name)) block d n (5 + u) (λ vs. w.calls name (all_converted params vs)) (InFrame S (suc d)) (InA S)
  direct_goes name params block back d n is known words e lt =
      let g = land.direct L.bases S.coded S.named name params block d n is known words (omega (arith, e, lt)) in
      subst (λ z. Goes S (call_at d z (L.entry name)) block d n (5 + u) (λ vs. w.calls name (all_converted params vs)) (InFrame S (suc d)) (InA S)) (sym e)
      (record { at = λ vs s bs st m f stands r h. g.at (all_converted params vs) s bs st m f stands r (words_converted S w agrees u bs st m d n r params vs m.memory (m.regs.bp + suc d) h) })

  known_goes : (name : List ℕ) (params : CTypes) (block d n : ℕ) → may (Direct name params) ≡ true → is_known_to_helpers name ≡ true → Goes S (known_code name) block d n (1 + u) (λ vs. w.calls name (all_converted params vs)) (FirstInA S) (InA S)
  known_goes name params block d n is known =
      let g = land.known L.bases S.coded S.named name params block d n is known in
      record { at = λ vs s bs st m f stands r h. g.at (all_converted params vs) s bs st m f stands r (first_converted S w agrees u bs st m d n r params vs h) }

  through_goes : (params : CTypes) (p : Value) (block back d n : ℕ) → may (Through params) ≡ true → back ≡ suc block → back < 2 ^ 24
      → Goes S (call_through_at d back) block d n (6 + u) (λ vs. call_through w p (all_converted params vs)) (Waited S d (InFrame S (suc d)) p) (InA S)
  unfolding call_through
  through_goes params (value.Function name) block back d n is e lt =
      subst (λ z. Goes S (call_through_at d z) block d n (6 + u) (λ vs. w.calls name (all_converted params vs)) (Waited S d (InFrame S (suc d)) (value.Function name)) (InA S)) (sym e)
      (record { at = λ vs s bs st m f stands r h. (land.through L.bases S.coded S.named name params block d n is h.1.0 (omega (arith, e, lt))).at (all_converted params vs) s bs st m f stands r (h.1.1, words_converted S w agrees u bs st m d n r params vs m.memory (m.regs.bp + suc d) h.0) })
  through_goes params value.Null block back d n is e lt = record { at = λ vs s bs st m f stands r h. paid_undefined S s m st _ stands.0.inside w.inner NullCall (6 + u) }
  through_goes params (value.Word j) block back d n is e lt = record { at = λ vs s bs st m f stands r h. paid_undefined S s m st _ stands.0.inside w.inner OtherKind (6 + u) }
  through_goes params (value.Point o j) block back d n is e lt = record { at = λ vs s bs st m f stands r h. paid_undefined S s m st _ stands.0.inside w.inner OtherKind (6 + u) }
  through_goes params (value.Letter g i text j) block back d n is e lt = record { at = λ vs s bs st m f stands r h. paid_undefined S s m st _ stands.0.inside w.inner OtherKind (6 + u) }
  through_goes params value.Missing block back d n is e lt = record { at = λ vs s bs st m f stands r h. paid_undefined S s m st _ stands.0.inside w.inner OtherKind (6 + u) }

  known_built : (name : List ℕ) (params : CTypes) (block back d n : ℕ) → may (Known name params) ≡ true → back ≡ suc block → back < 2 ^ 24
      → Goes S (built_in_code name ++ Jump (constant back) ∷ []) block d n 5 (λ vs. paid w.inner (built_in w.input w.inner name (all_converted params vs))) (FirstInA S) (InA S)
  known_built name params block back d n is e lt =
      let b = land.built_in name params is in
      let g = built_goes S w agrees.input b.0 land.bytes block d n back lt e name b.1 in
      record { at = λ vs s bs st m f stands r h. g.at (all_converted params vs) s bs st m f stands r (first_converted S w agrees u bs st m d n r params vs h) }

  -- ---- calls by what is called

  module _ (f : CExpr) (es : CExprs) (site : Environment) (xs : ArgumentsValued S w u es (past f site)) where
    abbrev CallLands : Option (List ℕ) → Callee → (k d n i o : ℕ) → Type 0
    CallLands x callee k d n i o =
        Lands S (call_code d (k + expr_jumps f + exprs_jumps es + 1) L x callee (value_code f L (placed S.coded i site) k d) (argument_code es L (placed S.coded i (past f site)) (k + expr_jumps f) d) (arguments_code es L (placed S.coded i (past f site)) (k + expr_jumps f) (suc d))) k d n (steps u f + all_steps u es + 9 + u)
        (call w callee (format_of es) (value_of f w (placed S.named o site) >>= used) (values_of es w (placed S.named o (past f site))) (values_behind es w (placed S.named o site))) (InA S)

    has_word : (n : ℕ) → waiting_all 1 (beyond f) es ≤ n → 1 ≤ n
    has_word n le = let h = waits_least 1 (beyond f) es in omega (arith, h, le)

    args_count : (i k d : ℕ) → jumps (arguments_code es L (placed S.coded i (past f site)) k d) ≡ exprs_jumps es
    args_count i k d = arguments_count es L (placed S.coded i (past f site)) k d

    arg_count : (i k d : ℕ) → jumps (argument_code es L (placed S.coded i (past f site)) k d) ≡ exprs_jumps es
    arg_count i k d = argument_count es L (placed S.coded i (past f site)) k d

    direct_lands : (name : List ℕ) (params : CTypes) → may (Direct name params) ≡ true → is_known_to_helpers name ≡ false → words_there name ≤ waiting_all 1 (beyond f) es → expr_jumps f ≡ 0 → (k d n i o : ℕ) → waiting_all 1 (beyond f) es ≤ n → k + expr_jumps f + exprs_jumps es + 1 < 2 ^ 24 → CallLands None (Direct name params) k d n i o
    unfolding call
    direct_lands name params is known words quiet k d zero i o le lt = absurd (let h = has_word 0 le in omega (arith, h))
    direct_lands name params is known words quiet k d (suc n) i o le lt =
        let k1 = k + expr_jumps f in
        let same : k1 ≡ k = omega (arith, quiet) in
        let args = lands_up (arguments_land S w agrees u es (past f site) xs 1 (beyond f) k1 (suc d) n i o (omega (arith, le)) (omega (arith, lt))) in
        lands_within (suc n) (all_steps u es + (5 + u)) (omega arith) (omega arith)
        (at_block k1 k same (then_lands args (direct_goes name params _ (k1 + exprs_jumps es + 1) d (suc n) is known (omega (arith, words, le)) (omega (arith, args_count i k1 (suc d))) lt)))

    known_lands : (name : List ℕ) (params : CTypes) → may (Direct name params) ≡ true → is_known_to_helpers name ≡ true → expr_jumps f ≡ 0 → (k d n i o : ℕ) → waiting_all 1 (beyond f) es ≤ n → k + expr_jumps f + exprs_jumps es < 2 ^ 24 → CallLands (Some name) (Direct name params) k d n i o
    unfolding call
    known_lands name params is known quiet k d n i o le lt =
        let k1 = k + expr_jumps f in
        let same : k1 ≡ k = omega (arith, quiet) in
        let arg = argument_lands S w agrees u es (past f site) xs 1 (beyond f) k1 d n i o (omega (arith, le)) (omega (arith, lt)) in
        lands_within n (all_steps u es + 3 + (1 + u)) (omega arith) (omega arith) (at_block k1 k same (then_lands arg (known_goes name params _ d n is known)))

    built_lands : (name : List ℕ) (params : CTypes) → may (Known name params) ≡ true → expr_jumps f ≡ 0 → (k d n i o : ℕ) → waiting_all 1 (beyond f) es ≤ n → k + expr_jumps f + exprs_jumps es + 1 < 2 ^ 24 → CallLands None (Known name params) k d n i o
    unfolding call
    built_lands name params is quiet k d n i o le lt =
        let k1 = k + expr_jumps f in
        let same : k1 ≡ k = omega (arith, quiet) in
        let arg = argument_lands S w agrees u es (past f site) xs 1 (beyond f) k1 d n i o (omega (arith, le)) (omega (arith, lt)) in
        lands_within n (all_steps u es + 3 + 5) (omega arith) (omega arith) (at_block k1 k same (then_lands arg (known_built name params _ (k1 + exprs_jumps es + 1) d n is (omega (arith, arg_count i k1 d)) lt)))

    through_lands : (params : CTypes) → may (Through params) ≡ true → Valued S w u f site → (k d n i o : ℕ) → waiting f ≤ n → waiting_all 1 (beyond f) es ≤ n → k + expr_jumps f + exprs_jumps es + 1 < 2 ^ 24 → CallLands None (Through params) k d n i o
    unfolding call
    through_lands params is x k d zero i o lf le lt = absurd (let h = has_word 0 le in omega (arith, h))
    through_lands params is x k d (suc n) i o lf le lt =
        let k1 = k + expr_jumps f in
        let pointer = value_code f L (placed S.coded i site) k d in
        let counted : jumps pointer ≡ expr_jumps f = (value_jumps f L (placed S.coded i site) k d).count in
        let args = at_block k1 (k + jumps pointer) (omega (arith, counted)) (arguments_land S w agrees u es (past f site) xs 1 (beyond f) k1 (suc d) n i o (omega (arith, le)) (omega (arith, lt))) in
        let first = used_in_a S w agrees (x.value k d (suc n) i o lf (omega (arith, lt))) in
        lands_within (suc n) (steps u f + (3 + (all_steps u es + (6 + u)))) (omega arith) (omega arith)
        (then_lands first (save_then_goes (λ p vs. call_through w p (all_converted params vs)) args (λ p. through_goes params p _ (k1 + exprs_jumps es + 1) d (suc n) is (omega (arith, counted, args_count i k1 (suc d))) lt)))

    call_by : (x : Option (List ℕ)) (callee : Callee) → Fits x callee → may callee ≡ true → OfPointer callee (Valued S w u f site) → HasWords callee (waiting_all 1 (beyond f) es) → OfName callee (expr_jumps f ≡ 0)
        → (k d n i o : ℕ) → waiting f ≤ n → waiting_all 1 (beyond f) es ≤ n → k + expr_jumps f + exprs_jumps es < 2 ^ 24 → (x ≡ None → k + expr_jumps f + exprs_jumps es + 1 < 2 ^ 24) → CallLands x callee k d n i o
    call_by None (Direct name params) h is p words q k d n i o lf le lt lt1 = direct_lands name params is h words q k d n i o le (lt1 refl)
    call_by (Some known) (Direct name params) h is p words q k d n i o lf le lt lt1 = subst (λ z. CallLands (Some z) (Direct name params) k d n i o) (sym h.0) (known_lands name params is h.1 q k d n i o le lt)
    call_by None (Known name params) h is p words q k d n i o lf le lt lt1 = built_lands name params is q k d n i o le (lt1 refl)
    call_by None (Through params) h is p words q k d n i o lf le lt lt1 = through_lands params is p k d n i o lf le (lt1 refl)
    call_by None Format h is p words q k d n i o lf le lt lt1 = absurd (let e : true ≡ false = sym is ∙ land.format in cc e)
    call_by (Some known) (Known name params) h is p words q k d n i o lf le lt lt1 = absurd h
    call_by (Some known) (Through params) h is p words q k d n i o lf le lt lt1 = absurd h
    call_by (Some known) Format h is p words q k d n i o lf le lt lt1 = absurd h

  pub call_valued : (at : ℕ) (f : CExpr) (es : CExprs) (site : Environment) → LiteralsAre S.ground w.owner (literals_in site.scope (Call at f es)) site.literals_before → may (callee_in site.scope f) ≡ true → KnownIsFunction (known_name f) (callee_in site.scope f)
      → OfPointer (callee_in site.scope f) (Valued S w u f site) → HasWords (callee_in site.scope f) (waiting_all 1 (beyond f) es) → ArgumentsValued S w u es (past f site) → Valued S w u (Call at f es) site
  call_valued at f es site ls is known p words xs = record {
    few = tt;
    literals = ls;
    value = value;
    place = λ k d n i o le lt. undefined_lands OutsideObject;
    truth = λ k d n i o wanted target le lt lt2. condition S w agrees u k d n (steps u f + all_steps u es + 9 + u) wanted target lt2 (value k d n i o le (omega (arith, lt))) (steps u f + all_steps u es + 10 + u) (omega arith);
  }
    where
      value : (k d n i o : ℕ) → max (waiting f) (waiting_all 1 (beyond f) es) ≤ n → k + (expr_jumps f + exprs_jumps es + (if names_known f then 0 else 1)) < 2 ^ 24
          → Lands S (value_code (Call at f es) L (placed S.coded i site) k d) k d n (steps u f + all_steps u es + 9 + u) (value_of (Call at f es) w (placed S.named o site)) (InA S)
      value k d n i o le lt =
          call_by f es site xs (known_name f) (callee_in site.scope f) (fits site.scope f known) is p words (name_quiet site.scope f) k d n i o (max_left (waiting f) (waiting_all 1 (beyond f) es) n le) (max_right (waiting f) (waiting_all 1 (beyond f) es) n le) (omega (arith, lt)) (next_block f k (exprs_jumps es) lt)
