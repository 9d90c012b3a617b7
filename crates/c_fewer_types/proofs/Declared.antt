-- A declaration stays typed, and the scopes behind it stand for each other.
use Rattle.std.proofs.Common.{◌≡◌, ℕ, zero, suc, ◌+◌, ◌^◌, ◌≤◌, List, [], ◌∷◌, ◌++◌, length, Option, Some, None, Bool, true, false, refl, sym, ap, ap₂, ◌∙◌, subst, arith}
use Rattle.std.specs.Prelude.{◌||◌, not, IfOk, Ok, nat_le, if◌then◌else◌}
use Rattle.std.specs.Option.{option_map}
use Rattle.c_syntax.specs.Plain as plain
use Rattle.c_syntax.specs.Plain.{CExpr, CValue, CValues, CDecl, CTy}
use Rattle.c_types.specs.declared.fault.TypeFault.TheVariants as fault
use Rattle.c_types.specs.Types as type
use Rattle.c_types.specs.Types.{CType, Tags, is_character, is_object_type}
use Rattle.c_types.specs.Refusals.{Judged, after, both, broken, keeping}
use Rattle.c_types.specs.Scope.{Scope, Object, with_name, is_declared_here}
use Rattle.c_types.specs.Operands.{Operand, converts}
use Rattle.c_types.specs.Expressions.{judged, written}
use Rattle.c_types.specs.Declarations.{Site, Slots, Elements, Fields, Nothing, first_slot, next_slots, slots_of, takes_string, site_rules, object_rules, count_values, braces_rules, fitting, all_fitting, elements_given, completed, first_fitting, object_type, declared_type, declared_object, declared}
use Rattle.c_fewer_types.specs.AsGood.{IsAsGood}
use Rattle.c_alike.specs.Alike.{EachName}
use Rattle.c_alike.proofs.Scopes.{each}
use Rattle.c_fewer_types.specs.Stands.{NameStands}
use Rattle.c_fewer_types.specs.Written.{CanBeWritten, StringsAreShort}
use Rattle.c_fewer_types.proofs.TypeTreesProofs.{fewer_types_are_the_same}
use Rattle.c_fewer_types.proofs.Can.{types_can_be_written}
use Rattle.c_helpers.specs.Fewer.{with_values, with_all_values, fewer_in_declaration, fewer}
use Rattle.c_fewer_types.proofs.Judged.{keeping_is, first_kept}
use Rattle.c_fewer_types.proofs.Kept.{types_are_kept}
use Rattle.c_fewer_types.specs.Standing.{ScopesStand, ValueHas, ValuesHave, FirstHas, FirstIsShort, IsDeclaration}
use Rattle.c_fewer_types.proofs.Scopes.{object_behind}
use Rattle.c_fewer_types.proofs.FewerTypedRules.{after_is, both_is, kept_is, first_broken, converts_too}
use Rattle.c_fewer_types.proofs.Texts.{given_too}

-- ---- first values

-- what fits an object before fits it after, where an expression becomes another
abbrev pub Fits : Scope → Scope → Site → CExpr → CExpr → Type 0
Fits s s' site e f = (t : Option CType) (a : Operand) → judged s e ≡ Ok a → broken (object_rules t e a ++ site_rules site.file e a) ≡ None → (b : Operand) × (judged s' f ≡ Ok b) × (broken (object_rules t f b ++ site_rules site.file f b) ≡ None)

module _ (s s' : Scope) (tags : s.tags ≡ s'.tags) (site : Site) (f : CExpr → CExpr) where
  counted_too : (vs : CValues) → count_values (with_all_values f vs) ≡ count_values vs
  counted_too plain.NoValue = refl
  counted_too (plain.MoreValue v vs) = ap (λ n. 1 + n) (counted_too vs)

  braces_too : (slots : Slots) (vs : CValues) → braces_rules site.pos slots (with_all_values f vs) ≡ braces_rules site.pos slots vs
  braces_too (Elements t n) vs = ap (λ m. (nat_le m n, fault.Mismatch site.pos) ∷ []) (counted_too vs)
  braces_too (Fields ts) vs = ap (λ m. (nat_le m (length ts), fault.Mismatch site.pos) ∷ []) (counted_too vs)
  braces_too Nothing vs = refl

  mutual
    pub value_too : (t : Option CType) (v : CValue) (u : Unit {0}) → ValueHas (λ e. Fits s s' site e (f e)) v → fitting s site t v ≡ Ok u → fitting s' site t (with_values f v) ≡ Ok u
    value_too t (plain.One e) u h k =
        let l = after_is (judged s e) (λ a. keeping (object_rules t e a ++ site_rules site.file e a) tt) u k in
        let m = keeping_is {A = Unit {0}} (object_rules t e l.0 ++ site_rules site.file e l.0) tt u l.2 in
        let n = h t l.0 l.1 m.0 in
        ap (λ r. after r (λ a. keeping (object_rules t (f e) a ++ site_rules site.file (f e) a) tt)) n.1 ∙ kept_is {A = Unit {0}} (object_rules t (f e) n.0 ++ site_rules site.file (f e) n.0) tt n.2
    value_too t (plain.Many vs) u h k =
        let l = after_is (all_fitting s site (slots_of s.tags t) vs) (λ _. keeping (braces_rules site.pos (slots_of s.tags t) vs) tt) u k in
        let m = all_too (slots_of s.tags t) vs l.0 h l.1 in
        ap (λ z. after (all_fitting s' site (slots_of z t) (with_all_values f vs)) (λ _. keeping (braces_rules site.pos (slots_of z t) (with_all_values f vs)) tt)) (sym tags)
        ∙ (ap (λ r. after {A = Unit {0}} r (λ _. keeping (braces_rules site.pos (slots_of s.tags t) (with_all_values f vs)) tt)) m
        ∙ (ap (λ rules. keeping {A = Unit {0}} rules tt) (braces_too (slots_of s.tags t) vs) ∙ l.2))

    all_too : (slots : Slots) (vs : CValues) (u : Unit {0}) → ValuesHave (λ e. Fits s s' site e (f e)) vs → all_fitting s site slots vs ≡ Ok u → all_fitting s' site slots (with_all_values f vs) ≡ Ok u
    all_too slots plain.NoValue u h k = k
    all_too slots (plain.MoreValue v vs) u h k =
        let l = both_is (fitting s site (first_slot slots) v) (all_fitting s site (next_slots slots) vs) (λ _ _. Ok tt) u k in
        ap₂ (λ r q. both {A = Unit {0}} {B = Unit {0}} r q (λ _ _. Ok tt)) (value_too (first_slot slots) v l.0 h.0 l.1.1) (all_too (next_slots slots) vs l.1.0 h.1 l.1.2) ∙ l.1.3

  pub first_too : (t : CType) (o : Option CValue) (u : Unit {0}) → FirstHas (λ e. Fits s s' site e (f e)) o → first_fitting s site t o ≡ Ok u → first_fitting s' site t (option_map (with_values f) o) ≡ Ok u
  first_too t None u h k = k
  first_too t (Some v) u h k = value_too (Some t) v u h k

-- ---- an array whose length is left open

abbrev pub Given : (CExpr → CExpr) → Type 0
Given f = (e : CExpr) (t : CType) → elements_given t (plain.One (f e)) ≡ elements_given t (plain.One e)

pub completed_too : (f : CExpr → CExpr) → Given f → (t : CType) (o : Option CValue) → completed t (option_map (with_values f) o) ≡ completed t o
completed_too f g (type.Array t zero) (Some (plain.One e)) = ap (λ n. type.Array t n) (g e t)
completed_too f g (type.Array t zero) (Some (plain.Many vs)) = ap (λ n. type.Array t n) (counted vs)
  where
    counted : (vs : CValues) → count_values (with_all_values f vs) ≡ count_values vs
    counted plain.NoValue = refl
    counted (plain.MoreValue v vs) = ap (λ n. 1 + n) (counted vs)
completed_too f g (type.Array t zero) None = refl
completed_too f g (type.Array t (suc n)) None = refl
completed_too f g (type.Array t (suc n)) (Some v) = refl
completed_too f g t None = refl
completed_too f g t (Some v) = refl

-- the type that an object gets can be written
completed_can : (tags : Tags) (t : CType) (o : Option CValue) → CanBeWritten tags t → FirstIsShort o → FirstHas StringsAreShort o → CanBeWritten tags (completed t o)
completed_can tags (type.Array t zero) (Some (plain.Many vs)) c h q = (c.0, h, c.2)
completed_can tags (type.Array t zero) (Some (plain.One (plain.Str at text))) c h q = (c.0, at_most (is_character t), c.2)
  where
    at_most : (b : Bool) → (if b then length text + 1 else 1) ≤ 2 ^ 22
    at_most true = q
    at_most false = omega arith
completed_can tags (type.Array t zero) (Some (plain.One e)) c h q = (c.0, omega arith, c.2)
completed_can tags (type.Array t zero) None c h q = c
completed_can tags (type.Array t (suc n)) None c h q = c
completed_can tags (type.Array t (suc n)) (Some v) c h q = c
completed_can tags t None c h q = c
completed_can tags t (Some v) c h q = c

-- ---- declarations

pub record Declares (P : List ℕ → Type 0) (s s' : Scope) (file : Bool) (d d' : CDecl) (r : Scope) : Type 0 where
  pub other : Scope
  pub is : declared s' file d' ≡ Ok other
  pub stand : ScopesStand P r other

module _ (P : List ℕ → Type 0) (s s' : Scope) (a : ScopesStand P s s') (file : Bool) (d : CDecl) (f : CExpr → CExpr) where
  -- the declaration with other expressions
  abbrev changed : CDecl
  changed = fewer_in_declaration s f d

  abbrev site : Site
  site = record { file = file; pos = d.pos }

  abbrev inner : CType → Scope
  inner t = with_name s d.name (Object t)

  abbrev inner' : CType → Scope
  inner' t = with_name s' d.name (Object t)

  pub of_type : (t u : CType) → Given f → written s d.pos d.ty ≡ Ok t → object_type s d.pos (completed t d.first) ≡ Ok u → declared_type s' changed ≡ Ok u
  of_type t u g e k =
      ap (λ r. after r (λ t. object_type s' d.pos (completed t (option_map (with_values f) d.first)))) (fewer_types_are_the_same s s' d.pos d.ty t a.tags e)
      ∙ (ap (λ t. object_type s' d.pos t) (completed_too f g t d.first) ∙ (ap (λ z. keeping ((is_object_type z (completed t d.first), fault.Mismatch d.pos) ∷ []) (completed t d.first)) (sym a.tags) ∙ k))

  type_can : (t u : CType) → IsDeclaration d → FirstHas StringsAreShort d.first → written s d.pos d.ty ≡ Ok t → object_type s d.pos (completed t d.first) ≡ Ok u → CanBeWritten s.tags u
  type_can t u n q e k =
      let c : CanBeWritten s.tags t = subst (λ r. IfOk r (CanBeWritten s.tags)) e (types_can_be_written s d.pos d.ty) in
      let l = keeping_is {A = CType} ((is_object_type s.tags (completed t d.first), fault.Mismatch d.pos) ∷ []) (completed t d.first) u k in
      subst (λ z. CanBeWritten s.tags z) l.1 (completed_can s.tags t d.first c n.1 q)

  pub declared_too : (r : Scope) → IsDeclaration d → FirstHas StringsAreShort d.first → Given f
      → ((t : CType) → ScopesStand P (inner t) (inner' t) → declared s file d ≡ Ok (inner t) → FirstHas (λ e. Fits (inner t) (inner' t) site e (f e)) d.first) → declared s file d ≡ Ok r → Declares P s s' file d changed r
  declared_too r n q g h e =
      let k = after_is (declared_type s d) (λ t. declared_object s file d t) r e in
      let w = after_is (written s d.pos d.ty) (λ t. object_type s d.pos (completed t d.first)) k.0 k.1 in
      let t : CType = k.0 in
      let l = after_is (first_fitting (inner t) site t d.first) (λ _. keeping ((not (is_declared_here s d.name), fault.Twice d.pos) ∷ []) (inner t)) r k.2 in
      let m = keeping_is {A = Scope} ((not (is_declared_here s d.name), fault.Twice d.pos) ∷ []) (inner t) r l.2 in
      let o = first_kept (not (is_declared_here s d.name)) (fault.Twice d.pos) [] m.0 in
      let stand : ScopesStand P (inner t) (inner' t) = object_behind P s s' d.name t n.0 a (type_can w.0 t n q w.1 w.2) in
      let fit = first_too (inner t) (inner' t) a.tags site f t d.first l.0 (h t stand (subst (λ z. declared s file d ≡ Ok z) (sym m.1) e)) l.1 in
      let once : not (is_declared_here s' d.name) ≡ true = ap not (sym (a.here d.name n.0)) ∙ o.0 in
      record {
        other = inner' t;
        is =
            ap (λ r. after r (λ t. declared_object s' file changed t)) (of_type w.0 t g w.1 w.2)
            ∙ (ap (λ r. after {A = Unit {0}} r (λ _. keeping ((not (is_declared_here s' d.name), fault.Twice d.pos) ∷ []) (inner' t))) fit ∙ kept_is {A = Scope} ((not (is_declared_here s' d.name), fault.Twice d.pos) ∷ []) (inner' t) (first_broken (not (is_declared_here s' d.name)) (fault.Twice d.pos) [] once refl));
        stand = subst (λ z. ScopesStand P z (inner' t)) m.1 stand;
      }

-- ---- what holds of each expression of a first value

module _ (Q R S : CExpr → Type 0) (f : CExpr → CExpr) (g : (e : CExpr) → Q e → R (f e) → S e) where
  mutual
    pub value_each : (v : CValue) → ValueHas Q v → ValueHas R (with_values f v) → ValueHas S v
    value_each (plain.One e) q r = g e q r
    value_each (plain.Many vs) q r = values_each vs q r

    values_each : (vs : CValues) → ValuesHave Q vs → ValuesHave R (with_all_values f vs) → ValuesHave S vs
    values_each plain.NoValue q r = tt
    values_each (plain.MoreValue v vs) q r = (value_each v q.0 r.0, values_each vs q.1 r.1)

  pub first_each : (o : Option CValue) → FirstHas Q o → FirstHas R (option_map (with_values f) o) → FirstHas S o
  first_each None q r = tt
  first_each (Some v) q r = value_each v q r

-- ---- locals

string_too : (s : Scope) (u : CType) (e : CExpr) → takes_string u e ≡ true → takes_string u (fewer s e) ≡ true
string_too s (type.Array t n) (plain.Str at text) h = h
string_too s (type.Array t n) e h = absurd (cc h)
string_too s u e h = absurd (cc h)

or_too : (x y u v : Bool) → (x ≡ true → y ≡ true) → (u ≡ true → v ≡ true) → (x || u) ≡ true → (y || v) ≡ true
or_too true y u v f g e = ap (λ z. z || v) (f refl)
or_too false true u v f g e = refl
or_too false false u v f g e = g e

-- an expression of a local's first value fits what it fitted
fewer_fits : (P : List ℕ → Type 0) (s s' : Scope) (at : ℕ) (e : CExpr) → ScopesStand P s s' → StringsAreShort e → EachName P (fewer s e) → Fits s s' (record { file = false; pos = at }) e (fewer s e)
fewer_fits P s s' at e a h p t x k b =
    let l = types_are_kept s s' e a.tags a.written a.built_in h (each P (NameStands s s') a.names (fewer s e) p) x k in
    (l.0, l.1, of_object t b l.0 l.2)
  where
    of_object : (t : Option CType) → broken (object_rules t e x ++ []) ≡ None → (y : Operand) → IsAsGood x y → broken (object_rules t (fewer s e) y ++ []) ≡ None
    of_object None b y g = refl
    of_object (Some u) b y g =
        first_broken (takes_string u (fewer s e) || converts y u) (fault.Mismatch y.pos) []
        (or_too (takes_string u e) (takes_string u (fewer s e)) (converts x u) (converts y u) (string_too s u e) (converts_too x y u g) (first_kept (takes_string u e || converts x u) (fault.Mismatch x.pos) [] b).0) refl

-- a local stays typed, its first value in the scope behind it
pub local_too : (P : List ℕ → Type 0) (s s' : Scope) (d : CDecl) (r : Scope) → ScopesStand P s s' → IsDeclaration d → FirstHas StringsAreShort d.first → FirstHas (EachName P) (option_map (with_values (fewer r)) d.first) → declared s false d ≡ Ok r
    → Declares P s s' false d (fewer_in_declaration s (fewer r) d) r
local_too P s s' d r a n q p e =
    declared_too P s s' a false d (fewer r) r n q (λ e t. given_too r e t)
    (λ t stand k.
    let same : r ≡ with_name s d.name (Object t) = of_ok (sym e ∙ k) in
    let inner : Scope = with_name s d.name (Object t) in
    let inner' : Scope = with_name s' d.name (Object t) in
    subst (λ z. FirstHas (EachName P) (option_map (with_values (fewer z)) d.first) → FirstHas (λ e. Fits inner inner' (record { file = false; pos = d.pos }) e (fewer z e)) d.first) (sym same)
    (λ p. first_each StringsAreShort (EachName P) (λ e. Fits inner inner' (record { file = false; pos = d.pos }) e (fewer inner e)) (fewer inner) (λ e h o. fewer_fits P inner inner' d.pos e stand h o) d.first q p) p)
    e
  where
    told : Scope → Judged Scope
    told x = Ok x

    of_ok : {x y : Scope} → told x ≡ told y → x ≡ y
    of_ok e = cc e
