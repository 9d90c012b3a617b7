-- Expressions of statements, and first values, with fewer operators do what they did.
use Rattle.std.proofs.Common.{◌≡◌, ℕ, ◌+◌, List, [], ◌∷◌, ◌++◌, Option, Some, None, Bool, true, false, refl, sym, ap, ◌∙◌, subst}
use Rattle.std.specs.Prelude.{not, Ok, if◌then◌else◌}
use Rattle.std.specs.Option.{option_map}
use Rattle.c_syntax.specs.Plain as plain
use Rattle.c_syntax.specs.Plain.{CExpr, CValue, CValues, CDecl}
use Rattle.c_types.specs.declared.fault.TypeFault.TheVariants as fault
use Rattle.c_types.specs.Types as type
use Rattle.c_types.specs.Types.{CType, words_of}
use Rattle.c_types.specs.Refusals.{keeping}
use Rattle.c_types.specs.Scope as entity
use Rattle.c_types.specs.Scope.{Scope, with_name, is_declared_here}
use Rattle.c_types.specs.Expressions.{judged}
use Rattle.c_types.specs.Declarations.{Site, Slots, first_slot, next_slots, slots_of, takes_string, site_rules, object_rules, braces_rules, fitting, all_fitting, first_fitting, declared_type, declared_object}
use Rattle.c_types.specs.Census.{scope_behind}
use Rattle.c_eval.specs.State.{Value, Point, Run}
use Rattle.c_eval.specs.Run.{◌>>=◌, give}
use Rattle.c_eval.specs.Memory.{offset_of, at_offset}
use Rattle.c_eval.specs.Operators.{used, is_true, assigned}
use Rattle.c_eval.specs.Environment.{object_type_in, slot_kinds, type_or_nothing, Environment, past_value, declaring}
use Rattle.c_eval.specs.Eval.{World, value_of, used_value, condition, clear, spell, array_text, initialise, initialise_all, first_value, maybe_condition, maybe_effect, Returned, returned}
use Rattle.c_valid.specs.Limited.{MaybeIsLimited, ValueIsLimited, ValuesAreLimited, FirstIsLimited}
use Rattle.c_valid.proofs.Keeping.{Keeps, Any, bind_keeps, give_keeps, if_keeps}
use Rattle.c_valid.proofs.Operators.{assigned_keeps}
use Rattle.c_valid.proofs.Meanings.{WorldKeeps, value_keeps, used_value_keeps, condition_keeps, clear_keeps, spell_keeps, array_bytes}
use Rattle.c_alike.specs.Alike.{EachName}
use Rattle.c_fewer_types.specs.Written.{StringsAreShort}
use Rattle.c_helpers.specs.Fewer.{fewer, maybe_fewer, with_values, with_all_values, fewer_in, fewer_in_declaration}
use Rattle.c_fewer_types.proofs.Judged.{keeping_is}
use Rattle.c_fewer_types.specs.Standing.{ScopesStand, ValueHas, ValuesHave, FirstHas}
use Rattle.c_fewer_types.proofs.FewerTypedRules.{after_is, both_is}
use Rattle.c_fewer_types.proofs.Texts.{is_text, not_text}
use Rattle.c_fewer_types.proofs.Behind.{stated_behind}
use Rattle.c_fewer_values.specs.Helping.{Helps}
use Rattle.c_fewer_values.proofs.Runs.{first_is}
use Rattle.c_fewer_meaning.specs.Ordinary.{StaysValid}
use Rattle.c_fewer_meaning.specs.Laws.{elsewhere}
use Rattle.c_fewer_meaning.proofs.Kept.{expressions_are_kept}
use Rattle.c_fewer_meaning.proofs.Same.{Agree, used_agree, bind_agree}
use Rattle.c_fewer_meaning.specs.FewerStatementsOrdinary.{ValueIsOrdinary, ValuesAreOrdinary, FirstIsOrdinary}
use Rattle.c_fewer_meaning.proofs.Runs.{itself}
use Rattle.c_fewer_meaning.proofs.Fits.{ExprFits, MaybeFits, StmtFits, some_fits, stands_behind}
use Rattle.c_fewer_meaning.proofs.Objects.{type_same}
use Rattle.c_fewer_meaning.proofs.Places.{value_past}

-- ---- what first values keep

module _ (w : World) (t : WorldKeeps w) where
  mutual
    initialise_keeps : (v : CValue) (ty : CType) (p : Value) (here : Environment) → ValueIsLimited v → Keeps Any (initialise v ty p w here)
    initialise_keeps (plain.One e) ty p here l =
        if_keeps (takes_string ty e) (spell_keeps (array_text ty e) p (array_bytes ty e l)) (bind_keeps (used_value_keeps e w here l t) (λ v a. bind_keeps (assigned_keeps ty p v a) (λ _ _. give_keeps tt tt)))
    initialise_keeps (plain.Many vs) ty p here l = all_keep vs (slots_of here.scope.tags (Some ty)) p here l

    all_keep : (vs : CValues) (slots : Slots) (p : Value) (here : Environment) → ValuesAreLimited vs → Keeps Any (initialise_all vs slots p w here)
    all_keep plain.NoValue slots p here l = clear_keeps (slot_kinds here.scope.tags slots) p
    all_keep (plain.MoreValue v vs) slots p here l =
        bind_keeps (initialise_keeps v (type_or_nothing (first_slot slots)) p here l.0)
        (λ _ _. all_keep vs (next_slots slots) (at_offset p (offset_of p + words_of here.scope.tags (type_or_nothing (first_slot slots)))) (past_value v here) l.1)

-- only a string literal is one that an array takes
no_string : (t : CType) (e : CExpr) → is_text e ≡ false → takes_string t e ≡ false
no_string (type.Array t n) (plain.Str at text) h = absurd (cc h)
no_string (type.Array t n) e h = refl
no_string t e h = refl

module _ (test : List ℕ → Bool) (w : World) (o' : Scope) (helps : (name : List ℕ) → test name ≡ true → Helps w o' name) (outer : w.inner ≡ false) (stays : StaysValid w) where
  abbrev P : List ℕ → Type 0
  P name = test name ≡ true

  pub world : WorldKeeps w
  world = record { input = stays.input; calls = λ name vs a. record { keeps = λ st s. stays.calls name vs st a s } }

  -- in each scope that stands for one of the text the names of helper functions are known
  helps_in : (s s' : Scope) → ScopesStand P s s' → (name : List ℕ) → test name ≡ true → Helps w s' name
  helps_in s s' a name p = record { known = λ t e. let h = (a.names name p).helper t e in (h.0, h.1); does = (helps name p).does; differs = (helps name p).differs }

  -- ---- expressions

  pub value_same : (e : CExpr) (here : Environment) (s' : Scope) → ExprFits P here.scope s' e → Agree (value_of (fewer here.scope e) w (elsewhere s' here)) (value_of e w here)
  value_same e here s' a st v = (expressions_are_kept test w here s' e a.operand st a.stand (helps_in here.scope s' a.stand) outer stays a.short a.limited a.ordinary a.names a.is v).0

  pub used_same : (e : CExpr) (here : Environment) (s' : Scope) → ExprFits P here.scope s' e → Agree (used_value (fewer here.scope e) w (elsewhere s' here)) (used_value e w here)
  unfolding used_value
  used_same e here s' a = used_agree (value_of (fewer here.scope e) w (elsewhere s' here)) (value_of e w here) (value_same e here s' a)

  pub condition_same : (e : CExpr) (here : Environment) (s' : Scope) → ExprFits P here.scope s' e → Agree (condition (fewer here.scope e) w (elsewhere s' here)) (condition e w here)
  unfolding condition
  condition_same e here s' a st v =
      first_is (value_of (fewer here.scope e) w (elsewhere s' here) >>= used) (value_of e w here >>= used) (λ v. give (is_true v)) st (used_agree (value_of (fewer here.scope e) w (elsewhere s' here)) (value_of e w here) (value_same e here s' a) st v)

  -- ---- expressions that may be missing

  pub test_same : (e : Option CExpr) (here : Environment) (s' : Scope) → MaybeFits P here.scope s' e → Agree (maybe_condition (maybe_fewer here.scope e) w (elsewhere s' here)) (maybe_condition e w here)
  unfolding maybe_condition
  test_same None here s' a = itself (give true)
  test_same (Some e) here s' a = condition_same e here s' (some_fits P here.scope s' e a)

  pub test_keeps : (e : Option CExpr) (here : Environment) → MaybeIsLimited e → Keeps Any (maybe_condition e w here)
  unfolding maybe_condition
  test_keeps None here l = give_keeps true tt
  test_keeps (Some e) here l = condition_keeps e w here l world

  pub effect_same : (e : Option CExpr) (here : Environment) (s' : Scope) → MaybeFits P here.scope s' e → Agree (maybe_effect (maybe_fewer here.scope e) w (elsewhere s' here)) (maybe_effect e w here)
  unfolding maybe_effect
  effect_same None here s' a st v = refl
  effect_same (Some e) here s' a st v = first_is (value_of (fewer here.scope e) w (elsewhere s' here)) (value_of e w here) (λ _. give tt) st (value_same e here s' (some_fits P here.scope s' e a) st v)

  pub effect_keeps : (e : Option CExpr) (here : Environment) → MaybeIsLimited e → Keeps Any (maybe_effect e w here)
  unfolding maybe_effect
  effect_keeps None here l = give_keeps tt tt
  effect_keeps (Some e) here l = bind_keeps (value_keeps e w here l world) (λ _ _. give_keeps tt tt)

  pub returned_same : (e : Option CExpr) (here : Environment) (s' : Scope) → MaybeFits P here.scope s' e → Agree (returned (maybe_fewer here.scope e) w (elsewhere s' here)) (returned e w here)
  unfolding returned
  returned_same None here s' a st v = refl
  returned_same (Some e) here s' a st v = first_is (used_value (fewer here.scope e) w (elsewhere s' here)) (used_value e w here) (λ v. give (Returned v)) st (used_same e here s' (some_fits P here.scope s' e a) st v)

  -- ---- first values

  text_same : (at : ℕ) (text : List ℕ) (t : CType) (p : Value) (here : Environment) (s' : Scope) → Agree (initialise (plain.One (plain.Str at text)) t p w (elsewhere s' here)) (initialise (plain.One (plain.Str at text)) t p w here)
  unfolding used_value
  text_same at text t p here s' st v = refl

  other_same : (e : CExpr) (t : CType) (p : Value) (here : Environment) (s' : Scope) → is_text e ≡ false → ExprFits P here.scope s' e → Agree (initialise (plain.One (fewer here.scope e)) t p w (elsewhere s' here)) (initialise (plain.One e) t p w here)
  other_same e t p here s' h a st v =
      let e' : CExpr = fewer here.scope e in
      let set : Value → Run (Unit {0}) = λ v. assigned t p v >>= λ _. give tt in
      ap (λ b. (if b then spell (array_text t e') p else (used_value e' w (elsewhere s' here) >>= set)) st) (no_string t e' (not_text here.scope e h))
      ∙ (first_is (used_value e' w (elsewhere s' here)) (used_value e w here) set st (used_same e here s' a st v)
      ∙ sym (ap (λ b. (if b then spell (array_text t e) p else (used_value e w here >>= set)) st) (no_string t e h)))

  one_same : (e : CExpr) (t : CType) (p : Value) (here : Environment) (s' : Scope) → ExprFits P here.scope s' e → Agree (initialise (plain.One (fewer here.scope e)) t p w (elsewhere s' here)) (initialise (plain.One e) t p w here)
  one_same (plain.Str at text) t p here s' a = text_same at text t p here s'
  one_same e t p here s' a = other_same e t p here s' refl a

  -- a first value that fits, in the scope behind its declaration
  record FirstFits (here : Environment) (s' : Scope) (v : CValue) : Type 0 where
    stand : ScopesStand P here.scope s'
    short : ValueHas StringsAreShort v
    limited : ValueIsLimited v
    ordinary : ValueIsOrdinary here.scope v
    names : ValueHas (EachName P) (with_values (fewer here.scope) v)

  record AllFit (here : Environment) (s' : Scope) (vs : CValues) : Type 0 where
    stand : ScopesStand P here.scope s'
    short : ValuesHave StringsAreShort vs
    limited : ValuesAreLimited vs
    ordinary : ValuesAreOrdinary here.scope vs
    names : ValuesHave (EachName P) (with_all_values (fewer here.scope) vs)

  mutual
    set_same : (v : CValue) (t : CType) (p : Value) (here : Environment) (s' : Scope) (site : Site) (o : Option CType) (u : Unit {0}) → FirstFits here s' v → fitting here.scope site o v ≡ Ok u
        → Agree (initialise (with_values (fewer here.scope) v) t p w (elsewhere s' here)) (initialise v t p w here)
    set_same (plain.One e) t p here s' site o u a k =
        let m = after_is (judged here.scope e) (λ x. keeping (object_rules o e x ++ site_rules site.file e x) tt) u k in
        one_same e t p here s' (record { stand = a.stand; short = a.short; limited = a.limited; ordinary = a.ordinary; names = a.names; operand = m.0; is = m.1 })
    set_same (plain.Many vs) t p here s' site o u a k =
        let m = after_is (all_fitting here.scope site (slots_of here.scope.tags o) vs) (λ _. keeping (braces_rules site.pos (slots_of here.scope.tags o) vs) tt) u k in
        λ st v.
        (λ i. initialise_all (with_all_values (fewer here.scope) vs) (slots_of (sym a.stand.tags i) (Some t)) p w (elsewhere s' here) st)
        ∙ all_set_same vs (slots_of here.scope.tags (Some t)) (slots_of here.scope.tags o) p here s' site m.0 (record { stand = a.stand; short = a.short; limited = a.limited; ordinary = a.ordinary; names = a.names }) m.1 st v

    all_set_same : (vs : CValues) (slots fits : Slots) (p : Value) (here : Environment) (s' : Scope) (site : Site) (u : Unit {0}) → AllFit here s' vs → all_fitting here.scope site fits vs ≡ Ok u
        → Agree (initialise_all (with_all_values (fewer here.scope) vs) slots p w (elsewhere s' here)) (initialise_all vs slots p w here)
    all_set_same plain.NoValue slots fits p here s' site u a k = λ st v. ap (λ tags. clear (slot_kinds tags slots) p st) (sym a.stand.tags)
    all_set_same (plain.MoreValue v vs) slots fits p here s' site u a k =
        let m = both_is (fitting here.scope site (first_slot fits) v) (all_fitting here.scope site (next_slots fits) vs) (λ _ _. Ok tt) u k in
        let t : CType = type_or_nothing (first_slot slots) in
        let there : Environment = elsewhere s' here in
        let v' : CValue = with_values (fewer here.scope) v in
        let vs' : CValues = with_all_values (fewer here.scope) vs in
        bind_agree Any (initialise v' t p w there) (initialise v t p w here)
        (λ _. initialise_all vs' (next_slots slots) (at_offset p (offset_of p + words_of s'.tags t)) w (past_value v' there)) (λ _. initialise_all vs (next_slots slots) (at_offset p (offset_of p + words_of here.scope.tags t)) w (past_value v here))
        (set_same v t p here s' site (first_slot fits) m.0 (record { stand = a.stand; short = a.short.0; limited = a.limited.0; ordinary = a.ordinary.0; names = a.names.0 }) m.1.1)
        (initialise_keeps w world v t p here a.limited.0)
        (λ _ _ st s.
        (λ i. initialise_all vs' (next_slots slots) (at_offset p (offset_of p + words_of (sym a.stand.tags i) t)) w (value_past test v here s' a.stand a.names.0 i) st)
        ∙ all_set_same vs (next_slots slots) (next_slots fits) (at_offset p (offset_of p + words_of here.scope.tags t)) (past_value v here) s' site m.1.0
        (record { stand = a.stand; short = a.short.1; limited = a.limited.1; ordinary = a.ordinary.1; names = a.names.1 }) m.1.2 st s)

  -- a local's first value fits in the scope behind it
  first_fitted : (s s' : Scope) (d : CDecl) → (a : StmtFits P s s' (plain.Local d)) → (t : CType) × ((u : Unit {0}) × (first_fitting (scope_behind s (plain.Local d)) (record { file = false; pos = d.pos }) t d.first ≡ Ok u))
  first_fitted s s' d a =
      let k = after_is (declared_type s d) (λ t. declared_object s false d t) a.scope a.is in
      let t : CType = k.0 in
      let inner : Scope = with_name s d.name (entity.Object t) in
      let l = after_is (first_fitting inner (record { file = false; pos = d.pos }) t d.first) (λ _. keeping ((not (is_declared_here s d.name), fault.Twice d.pos) ∷ []) inner) a.scope k.2 in
      let m = keeping_is {A = Scope} ((not (is_declared_here s d.name), fault.Twice d.pos) ∷ []) inner a.scope l.2 in
      (t, (l.0, subst (λ z. first_fitting z (record { file = false; pos = d.pos }) t d.first ≡ Ok l.0) (m.1 ∙ sym (stated_behind s a.around (plain.Local d) a.scope a.is)) l.1))

  record OptionFits (here : Environment) (s' : Scope) (site : Site) (o : Option CValue) : Type 0 where
    stand : ScopesStand P here.scope s'
    short : FirstHas StringsAreShort o
    limited : FirstIsLimited o
    ordinary : FirstIsOrdinary here.scope o
    names : FirstHas (EachName P) (option_map (with_values (fewer here.scope)) o)
    ty : CType
    unit : Unit {0}
    fits : first_fitting here.scope site ty o ≡ Ok unit

  first_agree : (d d' : CDecl) (here : Environment) (s' inner : Scope) (o : Option CValue) → object_type_in s' d' ≡ object_type_in here.scope d → declaring d' (elsewhere s' here) ≡ elsewhere inner (declaring d here) → OptionFits (declaring d here) inner (record { file = false; pos = d.pos }) o
      → Agree (first_value d' w (elsewhere s' here) (option_map (with_values (fewer (declaring d here).scope)) o)) (first_value d w here o)
  unfolding first_value
  first_agree d d' here s' inner None ty e a st s = refl
  first_agree d d' here s' inner (Some v) ty e a st s =
      (λ i. initialise (with_values (fewer (declaring d here).scope) v) (ty i) (Point here.next 0) w (e i) st)
      ∙ set_same v (object_type_in here.scope d) (Point here.next 0) (declaring d here) inner (record { file = false; pos = d.pos }) (Some a.ty) a.unit (record { stand = a.stand; short = a.short; limited = a.limited; ordinary = a.ordinary; names = a.names }) a.fits st s

  pub local_same : (d : CDecl) (here : Environment) (s' : Scope) → StmtFits P here.scope s' (plain.Local d)
      → Agree (first_value (fewer_in_declaration here.scope (fewer (scope_behind here.scope (plain.Local d))) d) w (elsewhere s' here) (option_map (with_values (fewer (scope_behind here.scope (plain.Local d)))) d.first)) (first_value d w here d.first)
  local_same d here s' a =
      let k = first_fitted here.scope s' d a in
      first_agree d (fewer_in_declaration here.scope (fewer (scope_behind here.scope (plain.Local d))) d) here s' (scope_behind s' (fewer_in here.scope (plain.Local d))) d.first (type_same test here.scope s' d a) refl
      (record { stand = stands_behind test here.scope s' (plain.Local d) a; short = a.short.1; limited = a.limited.1; ordinary = a.ordinary; names = a.names.1; ty = k.0; unit = k.1.0; fits = k.1.1 })
