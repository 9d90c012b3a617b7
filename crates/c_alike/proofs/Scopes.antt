-- Scopes that are alike stay so behind declarations.
use Rattle.std.proofs.Common.{◌≡◌, ℕ, List, [], ◌∷◌, ◌++◌, Option, Some, None, Bool, true, false, refl, ap, ◌∙◌, subst, cond}
use Rattle.std.specs.Prelude.{not, Ok, Err}
use Rattle.std.specs.Option.{option_map_or}
use Rattle.std.specs.Str.{bytes_eq}
use Rattle.c_syntax.specs.Plain as plain
use Rattle.c_syntax.specs.Plain.{CExpr, CExprs, CTy, CTys, CValue, CValues, CDecl}
use Rattle.c_syntax.specs.Words.{meaning}
use Rattle.c_types.specs.declared.fault.TypeFault.{TypeFault}
use Rattle.c_types.specs.declared.fault.TypeFault.TheVariants as fault
use Rattle.c_types.specs.Types.{CType, is_object_type}
use Rattle.c_types.specs.Refusals.{Judged, Rule, after, both, broken, keeping}
use Rattle.c_types.specs.Scope.{Scope, Entity, Object, with_name, is_declared_here, entered}
use Rattle.c_types.specs.Declarations.{Site, Slots, first_slot, next_slots, slots_of, object_rules, site_rules, braces_rules, fitting, all_fitting, first_fitting, completed, declared_type, declared_object, declared, scope_or}
use Rattle.c_types.specs.Census.{scope_behind}
use Rattle.c_alike.specs.Alike.{NameIsAlike, EachName, EachNameOf, EachNameIn, EachNameInAll, ScopesAreAlike, EachNameOfValue, EachNameOfValues, EachNameOfFirst, EachNameOfDecl}
use Rattle.c_alike.specs.Laws.{DeclarationsKeepScopesAlike}
use Rattle.c_alike.proofs.Judged.{judged_alike, written_alike}

-- ---- what holds of names

module _ (P Q : List ℕ → Type 0) (f : (name : List ℕ) → P name → Q name) where
  mutual
    pub each : (e : CExpr) → EachName P e → EachName Q e
    each (plain.Number at n unsigned) a = tt
    each (plain.Str at text) a = tt
    each (plain.Null at) a = tt
    each (plain.Var at name) a = f name a
    each (plain.Unary at op x) a = each x a
    each (plain.Step at op x) a = each x a
    each (plain.Binary at op x y) a = (each x a.0, each y a.1)
    each (plain.Assign at op x y) a = (each x a.0, each y a.1)
    each (plain.Cond at x y z) a = (each x a.0, each y a.1, each z a.2)
    each (plain.Comma at x y) a = (each x a.0, each y a.1)
    each (plain.Cast at t x) a = (each_in t a.0, each x a.1)
    each (plain.SizeTy at t) a = each_in t a
    each (plain.SizeOf at x) a = each x a
    each (plain.Index at x y) a = (each x a.0, each y a.1)
    each (plain.Call at g es) a = (each g a.0, each_of es a.1)
    each (plain.Member at x m) a = each x a
    each (plain.Arrow at x m) a = each x a

    pub each_of : (es : CExprs) → EachNameOf P es → EachNameOf Q es
    each_of plain.NoExpr a = tt
    each_of (plain.MoreExpr e es) a = (each e a.0, each_of es a.1)

    pub each_in : (t : CTy) → EachNameIn P t → EachNameIn Q t
    each_in plain.Void a = tt
    each_in plain.Int a = tt
    each_in plain.Unsigned a = tt
    each_in plain.Char a = tt
    each_in plain.UChar a = tt
    each_in (plain.Struct name) a = tt
    each_in (plain.Pointer t) a = each_in t a
    each_in (plain.Array t) a = each_in t a
    each_in (plain.ArrayOf t n) a = (each_in t a.0, each n a.1)
    each_in (plain.Func t ts) a = (each_in t a.0, each_in_all ts a.1)

    pub each_in_all : (ts : CTys) → EachNameInAll P ts → EachNameInAll Q ts
    each_in_all plain.NoTy a = tt
    each_in_all (plain.MoreTy t ts) a = (each_in t a.0, each_in_all ts a.1)

-- ---- blocks and names

pub with_name_alike : (P : List ℕ → Type 0) (s s' : Scope) (name : List ℕ) (x : Entity) → ScopesAreAlike P s s' → ScopesAreAlike P (with_name s name x) (with_name s' name x)
with_name_alike P s s' name x a = record {
  tags = a.tags;
  names = λ other p. record { entity = ap (λ o. cond (bytes_eq other name) (Some x) o) (a.names other p).entity; defined = (a.names other p).defined };
  here = λ other p. by_name (bytes_eq other name) (meaning s.block other) (meaning s'.block other) (a.here other p);
}
  where
    by_name : (b : Bool) (o o' : Option Entity) → option_map_or (λ _. true) o false ≡ option_map_or (λ _. true) o' false → option_map_or (λ _. true) (cond b (Some x) o) false ≡ option_map_or (λ _. true) (cond b (Some x) o') false
    by_name true o o' e = refl
    by_name false o o' e = e

-- ---- declarations

module _ (P : List ℕ → Type 0) (s s' : Scope) (a : ScopesAreAlike P s s') where
  mutual
    fitting_alike : (site : Site) (t : Option CType) (v : CValue) → EachNameOfValue P v → fitting s site t v ≡ fitting s' site t v
    fitting_alike site t (plain.One e) p = ap (λ r. after r (λ x. keeping (object_rules t e x ++ site_rules site.file e x) tt)) (judged_alike s s' e a.tags (each P (NameIsAlike s s') a.names e p))
    fitting_alike site t (plain.Many vs) p =
        let e = all_fitting_alike site (slots_of s.tags t) vs p in
        ap (λ r. after r (λ _. keeping (braces_rules site.pos (slots_of s.tags t) vs) tt)) e ∙ ap (λ tags. after (all_fitting s' site (slots_of tags t) vs) (λ _. keeping (braces_rules site.pos (slots_of tags t) vs) tt)) a.tags

    all_fitting_alike : (site : Site) (slots : Slots) (vs : CValues) → EachNameOfValues P vs → all_fitting s site slots vs ≡ all_fitting s' site slots vs
    all_fitting_alike site slots plain.NoValue p = refl
    all_fitting_alike site slots (plain.MoreValue v vs) p = let e = fitting_alike site (first_slot slots) v p.0 in let f = all_fitting_alike site (next_slots slots) vs p.1 in λ i. both (e i) (f i) (λ _ _. Ok tt)

  first_alike : (site : Site) (t : CType) (v : Option CValue) → EachNameOfFirst P v → first_fitting s site t v ≡ first_fitting s' site t v
  first_alike site t None p = refl
  first_alike site t (Some v) p = fitting_alike site (Some t) v p

  pub type_alike : (d : CDecl) → EachNameIn P d.ty → declared_type s d ≡ declared_type s' d
  type_alike d p =
      let e = written_alike s s' d.pos d.ty a.tags (each_in P (NameIsAlike s s') a.names d.ty p) in
      λ i. after (e i) (λ t. keeping ((is_object_type (a.tags i) (completed t d.first), fault.Mismatch d.pos) ∷ []) (completed t d.first))

-- the one scope or the other, in both alike
by_rule : (P : List ℕ → Type 0) (s s' inner inner' : Scope) (o : Option TypeFault) → ScopesAreAlike P s s' → ScopesAreAlike P inner inner' → ScopesAreAlike P (scope_or s (option_map_or (λ e. Err e) o (Ok inner))) (scope_or s' (option_map_or (λ e. Err e) o (Ok inner')))
by_rule P s s' inner inner' None a b = b
by_rule P s s' inner inner' (Some e) a b = a

by_first : (P : List ℕ → Type 0) (s s' inner inner' : Scope) (r : Judged (Unit {0})) (rules : List Rule) → ScopesAreAlike P s s' → ScopesAreAlike P inner inner' → ScopesAreAlike P (scope_or s (after r (λ _. keeping rules inner))) (scope_or s' (after r (λ _. keeping rules inner')))
by_first P s s' inner inner' (Ok u) rules a b = by_rule P s s' inner inner' (broken rules) a b
by_first P s s' inner inner' (Err e) rules a b = a

object_alike : (P : List ℕ → Type 0) (s s' : Scope) (d : CDecl) (t : CType) → EachNameOfDecl P d → ScopesAreAlike P s s' → ScopesAreAlike P (scope_or s (declared_object s false d t)) (scope_or s' (declared_object s' false d t))
object_alike P s s' d t p a =
    let b : ScopesAreAlike P (with_name s d.name (Object t)) (with_name s' d.name (Object t)) = with_name_alike P s s' d.name (Object t) a in
    let f : first_fitting (with_name s d.name (Object t)) (record { file = false; pos = d.pos }) t d.first ≡ first_fitting (with_name s' d.name (Object t)) (record { file = false; pos = d.pos }) t d.first =
    first_alike P (with_name s d.name (Object t)) (with_name s' d.name (Object t)) b (record { file = false; pos = d.pos }) t d.first p.2 in
    subst (λ r. ScopesAreAlike P (scope_or s (declared_object s false d t)) (scope_or s' (after r (λ _. keeping ((not (is_declared_here s' d.name), fault.Twice d.pos) ∷ []) (with_name s' d.name (Object t)))))) f
    (subst (λ h. ScopesAreAlike P (scope_or s (declared_object s false d t)) (scope_or s' (after (first_fitting (with_name s d.name (Object t)) (record { file = false; pos = d.pos }) t d.first) (λ _. keeping ((not h, fault.Twice d.pos) ∷ []) (with_name s' d.name (Object t)))))) (a.here d.name p.0)
    (by_first P s s' (with_name s d.name (Object t)) (with_name s' d.name (Object t)) (first_fitting (with_name s d.name (Object t)) (record { file = false; pos = d.pos }) t d.first) ((not (is_declared_here s d.name), fault.Twice d.pos) ∷ []) a b))

by_type : (P : List ℕ → Type 0) (s s' : Scope) (d : CDecl) (r : Judged CType) → EachNameOfDecl P d → ScopesAreAlike P s s' → ScopesAreAlike P (scope_or s (after r (λ t. declared_object s false d t))) (scope_or s' (after r (λ t. declared_object s' false d t)))
by_type P s s' d (Ok t) p a = object_alike P s s' d t p a
by_type P s s' d (Err e) p a = a

pub declared_alike : (P : List ℕ → Type 0) (s s' : Scope) (d : CDecl) → EachNameOfDecl P d → ScopesAreAlike P s s' → ScopesAreAlike P (scope_behind s (plain.Local d)) (scope_behind s' (plain.Local d))
declared_alike P s s' d p a =
    subst (λ r. ScopesAreAlike P (scope_or s (declared s false d)) (scope_or s' (after r (λ t. declared_object s' false d t)))) (type_alike P s s' a d p.1) (by_type P s s' d (declared_type s d) p a)

pub declarations_keep_scopes_alike : DeclarationsKeepScopesAlike
declarations_keep_scopes_alike test s s' d p a = declared_alike (λ name. test name ≡ true) s s' d p a
