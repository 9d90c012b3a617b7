-- An object at file scope is declared with the numbers that its first values are.
use Rattle.std.proofs.Common.{◌≡◌, ℕ, List, [], ◌∷◌, ◌++◌, Option, Some, None, Bool, true, false, refl, sym, ap, ◌∙◌, subst}
use Rattle.std.specs.Prelude.{◌&&◌, ◌||◌, not, Ok, if◌then◌else◌}
use Rattle.c_syntax.specs.Plain as plain
use Rattle.c_syntax.specs.Plain.{CExpr, CValue, CValues, CDecl}
use Rattle.c_syntax.specs.declared.tree.UnOp.TheVariants as unary
use Rattle.c_types.specs.declared.fault.TypeFault.TheVariants as fault
use Rattle.c_types.specs.Types as type
use Rattle.c_types.specs.Types.{CType, is_arithmetic, is_unsigned, is_pointer, is_void_pointer, is_object_pointer, decayed, same_type}
use Rattle.c_types.specs.Constants as constant
use Rattle.c_types.specs.Constants.{Constant, is_constant}
use Rattle.c_types.specs.Refusals.{Judged, Rule, after, broken, keeping}
use Rattle.c_types.specs.Scope.{Scope, Entity, Object, Routine, BuiltIn, Printf, entity_of, with_name, is_declared_here, contains}
use Rattle.c_types.specs.Operands.{Sort, Zero, Designator, Operand, operand, is_zero, is_null_constant, converts, value_type, address_operand, value_at, is_designator, is_place, is_array, unary_operand}
use Rattle.c_types.specs.Expressions.{literal, judged, named, written}
use Rattle.c_types.specs.Declarations.{takes_string, is_static_form, static_rules, object_rules, elements_given, completed, first_fitting, object_type, declared_type, declared_object, declared}
use Rattle.c_eval.specs.Environment.{type_in, constant_word, word_in, constant_in}
use Rattle.c_fewer_types.specs.Written.{ScopeCanBeWritten, StringsAreShort}
use Rattle.c_helpers.specs.Fewer.{constant_tree, static_tree, fewer_in_declaration}
use Rattle.c_fewer_types.specs.Stands.{NameStands}
use Rattle.c_fewer_types.specs.Laws.{KnowsBuiltIns}
use Rattle.c_fewer_types.proofs.Judged.{keeping_is, first_kept}
use Rattle.c_fewer_types.specs.Standing.{ScopesStand, ValueHas, ValuesHave, FirstHas, IsDeclaration}
use Rattle.c_fewer_types.proofs.FewerTypedRules.{after_is, first_broken}
use Rattle.c_fewer_types.proofs.Texts.{is_text}
use Rattle.c_fewer_types.proofs.Declared.{Fits, of_type, declared_too}
use Rattle.c_fewer_items.specs.Files.{FilesStand}
use Rattle.c_fewer_items.specs.Kept.{StartsAt}
use Rattle.c_fewer_items.proofs.Files.{file_stands, named_behind}
use Rattle.c_fewer_items.proofs.Numbers.{expr_is}

-- ---- what a number converts to

void_not : (t : CType) → is_arithmetic t ≡ true → is_void_pointer (decayed t) ≡ false
void_not type.Int h = refl
void_not type.Unsigned h = refl
void_not type.Char h = refl
void_not type.UChar h = refl
void_not t h = absurd (cc h)

object_not : (t : CType) → is_arithmetic t ≡ true → is_object_pointer (decayed t) ≡ false
object_not type.Int h = refl
object_not type.Unsigned h = refl
object_not type.Char h = refl
object_not type.UChar h = refl
object_not t h = absurd (cc h)

none_holds : (p q r u v w x y z m : Bool) → q ≡ false → r ≡ false → v ≡ false → x ≡ false → m ≡ false → ((p && q) || (r && u) || (v && w) || (x && y) || (z && m)) ≡ false
none_holds p q r u v w x y z m a b c d e = (λ i. (p && a i) || (b i && u) || (c i && w) || (d i && y) || (z && e i)) ∙ go p z
  where
    go : (p z : Bool) → ((p && false) || false || false || false || (z && false)) ≡ false
    go true true = refl
    go true false = refl
    go false true = refl
    go false false = refl

-- to no other type
nothing_else : (a : Operand) (u : CType) → is_arithmetic a.ty ≡ true → is_arithmetic u ≡ false → is_pointer u ≡ false → converts a u ≡ true → ⊥
nothing_else a u h b c e =
    absurd (cc (sym e ∙ none_holds (is_arithmetic (value_type a)) (is_arithmetic u) (is_pointer u) (same_type (value_type a) u) (is_void_pointer (value_type a)) (is_object_pointer u) (is_object_pointer (value_type a)) (is_void_pointer u) (is_null_constant a) (is_pointer u) b c (void_not a.ty h) (object_not a.ty h) c))

-- to a pointer if it is a literal 0
pointer_zero : (at : ℕ) (t v : CType) (sort : Sort) (c : Constant) → is_arithmetic t ≡ true → converts (operand at t sort c) (type.Pointer v) ≡ true → is_zero sort ≡ true
pointer_zero at type.Int v Zero c h e = refl
pointer_zero at type.Int v sort c h e = absurd (cc e)
pointer_zero at type.Unsigned v Zero c h e = refl
pointer_zero at type.Unsigned v sort c h e = absurd (cc e)
pointer_zero at type.Char v Zero c h e = refl
pointer_zero at type.Char v sort c h e = absurd (cc e)
pointer_zero at type.UChar v Zero c h e = refl
pointer_zero at type.UChar v sort c h e = absurd (cc e)
pointer_zero at t v sort c h e = absurd (cc h)

zero_converts : (v : CType) (unsigned : Bool) → converts (literal 0 0 unsigned) (type.Pointer v) ≡ true
zero_converts v true = refl
zero_converts v false = refl

word_converts : (n : ℕ) (unsigned : Bool) (u : CType) → is_arithmetic u ≡ true → converts (literal 0 n unsigned) u ≡ true
word_converts n true u h = ap (λ b. (true && b) || (is_pointer u && same_type type.Unsigned u) || (false && is_object_pointer u) || (false && is_void_pointer u) || (is_null_constant (literal 0 n true) && is_pointer u)) h
word_converts n false u h = ap (λ b. (true && b) || (is_pointer u && same_type type.Int u) || (false && is_object_pointer u) || (false && is_void_pointer u) || (is_null_constant (literal 0 n false) && is_pointer u)) h

number_converts : (a : Operand) (n : ℕ) (unsigned : Bool) (u : CType) → is_arithmetic a.ty ≡ true → (is_zero a.sort ≡ true → n ≡ 0) → converts a u ≡ true → converts (literal 0 n unsigned) u ≡ true
number_converts a n unsigned type.Int h z e = word_converts n unsigned type.Int refl
number_converts a n unsigned type.Unsigned h z e = word_converts n unsigned type.Unsigned refl
number_converts a n unsigned type.Char h z e = word_converts n unsigned type.Char refl
number_converts a n unsigned type.UChar h z e = word_converts n unsigned type.UChar refl
number_converts a n unsigned (type.Pointer v) h z e = ap (λ m. converts (literal 0 m unsigned) (type.Pointer v)) (z (pointer_zero a.pos a.ty v a.sort a.constant h e)) ∙ zero_converts v unsigned
number_converts a n unsigned u h z e = absurd (nothing_else a u h refl refl e)

-- ---- first values

pub last_broken : (rules more : List Rule) → broken (rules ++ more) ≡ None → broken more ≡ None
last_broken [] more e = e
last_broken (r ∷ rules) more e = last_broken rules more (first_kept r.0 r.1 (rules ++ more) e).1

or_last : (x y : Bool) → y ≡ true → (x || y) ≡ true
or_last true y e = refl
or_last false y e = e

pub no_string : (u : CType) (e : CExpr) → is_text e ≡ false → takes_string u e ≡ false
no_string (type.Array t n) (plain.Str at text) h = absurd (cc h)
no_string (type.Array t n) e h = refl
no_string u e h = refl

-- a first value of no static form has a value
pub has_value : (e : CExpr) (a : Operand) → is_static_form e a ≡ false → (c : Constant) → broken (static_rules e a c) ≡ None → (n : ℕ) × (c ≡ constant.Value n)
has_value e a h constant.NotConstant b = absurd (cc (sym h ∙ (first_kept (is_static_form e a) (fault.Mismatch a.pos) [] b).0))
has_value e a h (constant.Undefined pos) b = absurd (cc b)
has_value e a h (constant.Value n) b = (n, refl)

-- the number that it is fits where it does
number_fits : (s s' : Scope) (at : ℕ) (e : CExpr) → ((a : Operand) → is_static_form e a ≡ false) → is_text e ≡ false → Fits s s' (record { file = true; pos = at }) e (constant_tree s e)
number_fits s s' at e form text t a k b = (literal 0 (constant_in s e) (is_unsigned (type_in s e)), refl, of_object t b)
  where
    of_object : (t : Option CType) → broken (object_rules t e a ++ static_rules e a a.constant) ≡ None → broken (object_rules t (constant_tree s e) (literal 0 (constant_in s e) (is_unsigned (type_in s e))) ++ []) ≡ None
    of_object None b = refl
    of_object (Some u) b =
        let last = last_broken (object_rules (Some u) e a) (static_rules e a a.constant) b in
        let v = has_value e a (form a) a.constant last in
        let i = expr_is s e a k in
        let number_is = (i.0 (ap is_constant v.1)).0 in
        let front = (first_kept (takes_string u e || converts a u) (fault.Mismatch a.pos) (static_rules e a a.constant) b).0 in
        let converts_is : converts a u ≡ true = ap (λ z. z || converts a u) (sym (no_string u e text)) ∙ front in
        let zero : is_zero a.sort ≡ true → constant_in s e ≡ 0 = λ z. ap word_in k ∙ ap constant_word (i.1 z) in
        first_broken (takes_string u (constant_tree s e) || converts (literal 0 (constant_in s e) (is_unsigned (type_in s e))) u) (fault.Mismatch 0) []
        (or_last (takes_string u (constant_tree s e)) (converts (literal 0 (constant_in s e) (is_unsigned (type_in s e))) u) (number_converts a (constant_in s e) (is_unsigned (type_in s e)) u number_is zero converts_is)) refl

-- a name is worth the same
name_same : (s s' : Scope) (at : ℕ) (name : List ℕ) (a : Operand) → NameStands s s' name → judged s (plain.Var at name) ≡ Ok a → judged s' (plain.Var at name) ≡ Ok a
name_same s s' at name a n k = go (entity_of s name) refl k
  where
    go : (o : Option Entity) → entity_of s name ≡ o → named s at name o ≡ Ok a → named s' at name (entity_of s' name) ≡ Ok a
    go None e k = absurd (cc k)
    go (Some (Object t)) e k = ap (λ z. named s' at name z) (n.text (Object t) e) ∙ k
    go (Some (Routine t begun)) e k =
        let h = n.text (Routine t begun) e in
        let pointer : Operand = operand at (type.Pointer t) Designator constant.NotConstant in
        let l = keeping_is {A = Operand} ((contains s.defined name, fault.BadCall at) ∷ []) pointer a k in
        let known = n.defined (first_kept (contains s.defined name) (fault.BadCall at) [] l.0).0 in
        ap (λ z. named s' at name z) h.1 ∙ (ap (λ b. keeping ((b, fault.BadCall at) ∷ []) pointer) known ∙ ap (λ z. Ok z) l.1)
    go (Some (BuiltIn t)) e k = absurd (cc k)
    go (Some Printf) e k = absurd (cc k)

-- an address is no constant expression
address_not : (at : ℕ) (x a : Operand) → address_operand at x ≡ Ok a → a.constant ≡ constant.NotConstant
address_not at x a e = go (is_designator x.sort) e
  where
    go : (b : Bool) → (if b then Ok (value_at at x.ty) else keeping ((is_place x.sort || is_array x.ty, fault.NotLvalue x.pos) ∷ []) (value_at at (type.Pointer x.ty))) ≡ Ok a → a.constant ≡ constant.NotConstant
    go true e = let same : value_at at x.ty ≡ a = cc e in ap (λ (z : Operand). z.constant) (sym same)
    go false e = ap (λ (z : Operand). z.constant) (sym (keeping_is {A = Operand} ((is_place x.sort || is_array x.ty, fault.NotLvalue x.pos) ∷ []) (value_at at (type.Pointer x.ty)) a e).1)

-- so it is a first value only of a name
pub no_address : (s : Scope) (pos : ℕ) (x : CExpr) → ((a : Operand) → is_static_form (plain.Unary pos unary.Address x) a ≡ false) → (t : Option CType) (a : Operand) → judged s (plain.Unary pos unary.Address x) ≡ Ok a
    → broken (object_rules t (plain.Unary pos unary.Address x) a ++ static_rules (plain.Unary pos unary.Address x) a a.constant) ≡ None → ⊥
no_address s pos x form t a k b =
    let l = after_is (judged s x) (λ y. unary_operand s.tags pos unary.Address y) a k in
    let c = address_not pos l.0 a l.2 in
    let last = last_broken (object_rules t (plain.Unary pos unary.Address x) a) (static_rules (plain.Unary pos unary.Address x) a a.constant) b in
    let v = has_value (plain.Unary pos unary.Address x) a (form a) a.constant last in
    absurd (cc (sym c ∙ v.1))

static_fits : (P : List ℕ → Type 0) (s s' : Scope) (at : ℕ) (e : CExpr) → ScopesStand P s s' → StartsAt P e → Fits s s' (record { file = true; pos = at }) e (static_tree s e)
static_fits P s s' at (plain.Str pos text) a h t x k b = (x, k, b)
static_fits P s s' at (plain.Null pos) a h t x k b = (x, k, b)
static_fits P s s' at (plain.Var pos name) a h t x k b = (x, name_same s s' pos name x (a.names name h) k, b)
static_fits P s s' at (plain.Unary pos unary.Address (plain.Var there name)) a h t x k b =
    let l = after_is (judged s (plain.Var there name)) (λ y. address_operand pos y) x k in
    (x, ap (λ q. after q (λ y. address_operand pos y)) (name_same s s' there name l.0 (a.names name h) l.1) ∙ l.2, b)
static_fits P s s' at (plain.Unary pos unary.Address y) a h t x k b = absurd (no_address s pos y (λ a. refl) t x k b)
static_fits P s s' at (plain.Unary pos op y) a h t x k b = number_fits s s' at (plain.Unary pos op y) (λ a. refl) refl t x k b
static_fits P s s' at e a h t x k b = number_fits s s' at e (λ a. refl) refl t x k b

static_given : (s : Scope) (e : CExpr) (t : CType) → elements_given t (plain.One (static_tree s e)) ≡ elements_given t (plain.One e)
static_given s (plain.Str at text) t = refl
static_given s (plain.Unary at unary.Address y) t = refl
static_given s (plain.Unary at op y) t = refl
static_given s e t = refl

-- ---- the declaration

module _ (Q R : CExpr → Type 0) (f : (e : CExpr) → Q e → R e) where
  mutual
    value_then : (v : CValue) → ValueHas Q v → ValueHas R v
    value_then (plain.One e) q = f e q
    value_then (plain.Many vs) q = values_then vs q

    values_then : (vs : CValues) → ValuesHave Q vs → ValuesHave R vs
    values_then plain.NoValue q = tt
    values_then (plain.MoreValue v vs) q = (value_then v q.0, values_then vs q.1)

  first_then : (o : Option CValue) → FirstHas Q o → FirstHas R o
  first_then None q = tt
  first_then (Some v) q = value_then v q

-- what a declaration was made of
pub record Declared (s : Scope) (d : CDecl) (r : Scope) : Type 0 where
  pub ty : CType
  pub type_is : declared_type s d ≡ Ok ty
  pub is : with_name s d.name (Object ty) ≡ r
  pub unit : Unit {0}
  pub fits : first_fitting (with_name s d.name (Object ty)) (record { file = true; pos = d.pos }) ty d.first ≡ Ok unit

pub declared_is : (s : Scope) (d : CDecl) (r : Scope) → declared s true d ≡ Ok r → Declared s d r
declared_is s d r e =
    let k = after_is (declared_type s d) (λ t. declared_object s true d t) r e in
    let inner : Scope = with_name s d.name (Object k.0) in
    let l = after_is (first_fitting inner (record { file = true; pos = d.pos }) k.0 d.first) (λ _. keeping ((not (is_declared_here s d.name), fault.Twice d.pos) ∷ []) inner) r k.2 in
    record { ty = k.0; type_is = k.1; is = (keeping_is {A = Scope} ((not (is_declared_here s d.name), fault.Twice d.pos) ∷ []) inner r l.2).1; unit = l.0; fits = l.1 }

abbrev told : CType → Judged CType
told t = Ok t

told_is : (t u : CType) → told t ≡ told u → t ≡ u
told_is t u e = cc e

abbrev scope_told : Scope → Judged Scope
scope_told s = Ok s

scope_is : (x y : Scope) → scope_told x ≡ scope_told y → x ≡ y
scope_is x y e = cc e

pub record ObjectGoes (test : List ℕ → Bool) (s s' : Scope) (d d' : CDecl) (r : Scope) : Type 0 where
  pub other : Scope
  pub is : declared s' true d' ≡ Ok other
  pub stand : FilesStand test r other
  pub ty : CType
  pub type_is : declared_type s d ≡ Ok ty
  pub type_too : declared_type s' d' ≡ Ok ty

pub object_goes : (test : List ℕ → Bool) (s s' : Scope) (d : CDecl) (r : Scope) → FilesStand test s s' → IsDeclaration d → FirstHas StringsAreShort d.first → FirstHas (StartsAt (λ name. test name ≡ true)) d.first → declared s true d ≡ Ok r
    → ObjectGoes test s s' d (fewer_in_declaration s (static_tree r) d) r
object_goes test s s' d r a n q h e =
    let P : List ℕ → Type 0 = λ name. test name ≡ true in
    let x = declared_is s d r e in
    let k = declared_too P s s' (file_stands test s s' a) true d (static_tree r) r n q (λ e t. static_given r e t) (λ t stand l. fits t stand (scope_is r (with_name s d.name (Object t)) (sym e ∙ l))) e in
    let y = declared_is s' (fewer_in_declaration s (static_tree r) d) k.other k.is in
    let w = after_is (written s d.pos d.ty) (λ t. object_type s d.pos (completed t d.first)) x.ty x.type_is in
    let too : declared_type s' (fewer_in_declaration s (static_tree r) d) ≡ Ok x.ty = of_type P s s' (file_stands test s s' a) true d (static_tree r) w.0 x.ty (λ e t. static_given r e t) w.1 w.2 in
    let same : x.ty ≡ y.ty = told_is x.ty y.ty (sym too ∙ y.type_is) in
    let there : with_name s' d.name (Object x.ty) ≡ k.other = ap (λ t. with_name s' d.name (Object t)) same ∙ y.is in
    let stand : FilesStand test (with_name s d.name (Object x.ty)) (with_name s' d.name (Object x.ty)) =
    named_behind test s s' a d.name (Object x.ty) (Object x.ty) n.0 refl (subst (λ z. ScopeCanBeWritten z) (sym x.is) k.stand.written) (subst (λ z. KnowsBuiltIns z) (sym x.is) k.stand.built_in) in
    record { other = k.other; is = k.is; stand = subst (λ z. FilesStand test r z) there (subst (λ z. FilesStand test z (with_name s' d.name (Object x.ty))) x.is stand); ty = x.ty; type_is = x.type_is; type_too = too }
  where
    fits : (t : CType) → ScopesStand (λ name. test name ≡ true) (with_name s d.name (Object t)) (with_name s' d.name (Object t)) → r ≡ with_name s d.name (Object t) → FirstHas (λ e. Fits (with_name s d.name (Object t)) (with_name s' d.name (Object t)) (record { file = true; pos = d.pos }) e (static_tree r e)) d.first
    fits t stand same =
        subst (λ z. FirstHas (λ e. Fits (with_name s d.name (Object t)) (with_name s' d.name (Object t)) (record { file = true; pos = d.pos }) e (static_tree z e)) d.first) (sym same)
        (first_then (StartsAt (λ name. test name ≡ true)) (λ e. Fits (with_name s d.name (Object t)) (with_name s' d.name (Object t)) (record { file = true; pos = d.pos }) e (static_tree (with_name s d.name (Object t)) e))
        (λ e p. static_fits (λ name. test name ≡ true) (with_name s d.name (Object t)) (with_name s' d.name (Object t)) d.pos e stand p) d.first h)
