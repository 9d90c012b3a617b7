-- File scopes of a typed text: their names, and the functions whose definitions have begun.
use Rattle.std.proofs.Common.{◌≡◌, ℕ, List, [], ◌∷◌, ◌++◌, Option, Some, None, Bool, true, false, refl, sym, ap, ◌∙◌, subst, cond}
use Rattle.std.specs.Prelude.{◌&&◌, ◌||◌, not, is_some, Ok}
use Rattle.std.specs.List.{list_any}
use Rattle.std.specs.Option.{option_map_or}
use Rattle.std.specs.Str.{bytes_eq}
use Rattle.std.proofs.lemmas.Bool.{and_parts}
use Rattle.std.proofs.lemmas.Slice.Eq.{bytes_eq-Decides}
use Rattle.c_syntax.specs.Plain as plain
use Rattle.c_syntax.specs.Plain.{CTy, CDecl, CStmt, CItem, CTag}
use Rattle.c_syntax.specs.Words.{meaning}
use Rattle.c_types.specs.declared.fault.TypeFault.TheVariants as fault
use Rattle.c_types.specs.Types.{CType, Members, Unfinished, same_type}
use Rattle.c_types.specs.Refusals.{Rule, keeping}
use Rattle.c_types.specs.Scope.{Names, Scope, Entity, Object, Routine, BuiltIn, Printf, entity_of, entered, with_name, is_declared_here, built_ins, file_scope}
use Rattle.c_types.specs.Declarations.{declared_type, declared_object, declared, first_fitting, members, is_tag, some_members, words_of_members, with_tag, tag_declared}
use Rattle.c_types.specs.Units.{Signature, type_of, signature, may_declare, entity_behind, with_function, body_scope, around_body, body_judged, declared_function, item_judged}
use Rattle.c_helpers.specs.Laws.{is_strange}
use Rattle.c_fewer_types.proofs.Judged.{keeping_is, first_kept}
use Rattle.c_fewer_types.specs.Standing.{IsTextName}
use Rattle.c_fewer_types.proofs.FewerTypedRules.{after_is}
use Rattle.c_fewer_items.specs.Kept.{EachIsNamed}
use Rattle.c_fewer_items.proofs.Files.{in_file, other_name}
use Rattle.c_fewer_items.proofs.Heads.{Heads, within, Signs, signature_too}
use Rattle.c_fewer_names.specs.FewerKnownLaws.{NamesAreOfText}

-- a function that is always known
abbrev pub is_known : Entity → Bool
is_known (BuiltIn t) = true
is_known Printf = true
is_known x = false

-- a file scope that has names of a text alone, and those of the functions that are always known for these
pub record IsFile (s : Scope) : Type 0 where
  pub outer : s.outer ≡ []
  pub none : (name : List ℕ) → list_any is_strange name ≡ true → meaning s.block name ≡ None
  pub built : (name : List ℕ) (x : Entity) → meaning s.block name ≡ Some x → is_known x ≡ true → meaning built_ins name ≡ Some x
  pub stays : (name : List ℕ) (x : Entity) → meaning built_ins name ≡ Some x → meaning s.block name ≡ Some x

pub names_of_text : (s : Scope) → IsFile s → NamesAreOfText s
names_of_text s f name x e = go (list_any is_strange name) refl
  where
    go : (b : Bool) → list_any is_strange name ≡ b → b ≡ false
    go true k = absurd (cc (sym e ∙ (in_file s f.outer name ∙ f.none name k)))
    go false k = refl

-- the definition of a function has begun
abbrev pub is_begun : Option Entity → Bool
is_begun (Some (Routine t begun)) = begun
is_begun o = false

abbrev pub Begun : Scope → List ℕ → Type 0
Begun s name = is_begun (meaning s.block name) ≡ true

-- what an external leads to
pub record Behind (s r : Scope) : Type 0 where
  pub file : IsFile r
  pub begun : (name : List ℕ) → Begun s name → Begun r name

-- behind a name that is declared as it may be
named_behind : (s : Scope) (n : List ℕ) (x : Entity) → IsFile s → IsTextName n → (Begun s n → is_begun (Some x) ≡ true) → (is_known x ≡ true → meaning built_ins n ≡ Some x) → ((y : Entity) → meaning built_ins n ≡ Some y → Some x ≡ Some y) → Behind s (with_name s n x)
named_behind s n x f text goes known same = record {
  file = record {
    outer = f.outer;
    none = λ name e. ap (λ z. cond z (Some x) (meaning s.block name)) (other_name name n text e) ∙ f.none name e;
    built = λ name y e k. built name y k (bytes_eq name n) refl e;
    stays = λ name y e. stays name y e (bytes_eq name n) refl;
  };
  begun = λ name b. go name b (bytes_eq name n) refl;
}
  where
    go : (name : List ℕ) → Begun s name → (z : Bool) → bytes_eq name n ≡ z → is_begun (cond z (Some x) (meaning s.block name)) ≡ true
    go name b true e = goes (subst (λ y. Begun s y) ((bytes_eq-Decides name n).0 e) b)
    go name b false e = b

    built : (name : List ℕ) (y : Entity) → is_known y ≡ true → (z : Bool) → bytes_eq name n ≡ z → cond z (Some x) (meaning s.block name) ≡ Some y → meaning built_ins name ≡ Some y
    built name y k true e l = let is : x ≡ y = cc l in ap (λ q. meaning built_ins q) ((bytes_eq-Decides name n).0 e) ∙ (known (ap is_known is ∙ k) ∙ l)
    built name y k false e l = f.built name y l k

    stays : (name : List ℕ) (y : Entity) → meaning built_ins name ≡ Some y → (z : Bool) → bytes_eq name n ≡ z → cond z (Some x) (meaning s.block name) ≡ Some y
    stays name y e true k = same y (ap (λ q. meaning built_ins q) (sym ((bytes_eq-Decides name n).0 k)) ∙ e)
    stays name y e false k = f.stays name y e

-- a struct
pub struct_behind : (s : Scope) (tag : CTag) (r : Scope) → IsFile s → tag_declared s tag ≡ Ok r → Behind s r
struct_behind s tag r f e =
    let inner : Scope = with_tag s tag.name Unfinished in
    let rules : List Rule = (not (is_tag s tag.name), fault.Twice tag.pos) ∷ (some_members tag.members, fault.Mismatch tag.pos) ∷ [] in
    let k = after_is (members inner [] tag.members) (λ ms. keeping rules (with_tag s tag.name (Members ms (words_of_members inner.tags ms)))) r e in
    let there : Scope = with_tag s tag.name (Members k.0 (words_of_members inner.tags k.0)) in
    let l = keeping_is {A = Scope} rules there r k.2 in
    subst (λ z. Behind s z) l.1 (record { file = record { outer = f.outer; none = f.none; built = f.built; stays = f.stays }; begun = λ name b. b })

not_fresh : (o : Option Entity) (x : Entity) → not (option_map_or (λ (_ : Entity). true) o false) ≡ true → o ≡ Some x → ⊥
not_fresh None x e k = absurd (cc k)
not_fresh (Some y) x e k = absurd (cc e)

no_object : (o : Option Entity) → not (option_map_or (λ (_ : Entity). true) o false) ≡ true → is_begun o ≡ true → ⊥
no_object None e b = absurd (cc b)
no_object (Some x) e b = absurd (cc e)

-- an object
pub record ObjectIs (s : Scope) (d : CDecl) (r : Scope) : Type 0 where
  pub ty : CType
  pub is : with_name s d.name (Object ty) ≡ r
  pub behind : Behind s r
  pub unit : Unit {0}
  pub fits : first_fitting r (record { file = true; pos = d.pos }) ty d.first ≡ Ok unit

pub object_behind : (s : Scope) (d : CDecl) (r : Scope) → IsFile s → IsTextName d.name → declared s true d ≡ Ok r → ObjectIs s d r
object_behind s d r f text e =
    let k = after_is (declared_type s d) (λ t. declared_object s true d t) r e in
    let inner : Scope = with_name s d.name (Object k.0) in
    let rules : List Rule = (not (is_declared_here s d.name), fault.Twice d.pos) ∷ [] in
    let l = after_is (first_fitting inner (record { file = true; pos = d.pos }) k.0 d.first) (λ _. keeping rules inner) r k.2 in
    let m = keeping_is {A = Scope} rules inner r l.2 in
    let fresh = (first_kept (not (is_declared_here s d.name)) (fault.Twice d.pos) [] m.0).0 in
    let b : Behind s inner = named_behind s d.name (Object k.0) f text (λ g. absurd (no_object (meaning s.block d.name) fresh g)) (λ e. absurd (cc e)) (λ y e. absurd (not_fresh (meaning s.block d.name) y fresh (f.stays d.name y e))) in
    record {
      ty = k.0;
      is = m.1;
      behind = subst (λ z. Behind s z) m.1 b;
      unit = l.0;
      fits = subst (λ z. first_fitting z (record { file = true; pos = d.pos }) k.0 d.first ≡ Ok l.0) m.1 l.1;
    }

-- ---- a function

stays_begun : (o : Option Entity) (t : CType) (d : Bool) → is_begun o ≡ true → is_begun (Some (entity_behind o t d)) ≡ true
stays_begun None t d e = absurd (cc e)
stays_begun (Some (Object u)) t d e = absurd (cc e)
stays_begun (Some (Routine u b)) t d e = ap (λ z. z || d) e
stays_begun (Some (BuiltIn u)) t d e = absurd (cc e)
stays_begun (Some Printf) t d e = absurd (cc e)

-- one that is defined here wasn't defined before
not_begun : (o : Option Entity) (t : CType) → may_declare o t true ≡ true → is_begun o ≡ false
not_begun None t e = refl
not_begun (Some (Object u)) t e = refl
not_begun (Some (Routine u true)) t e = absurd (cc (sym (and_parts (same_type t u) false e).1))
not_begun (Some (Routine u false)) t e = refl
not_begun (Some (BuiltIn u)) t e = refl
not_begun (Some Printf) t e = refl

or_last : (b : Bool) → (b || true) ≡ true
or_last true = refl
or_last false = refl

-- and then is
then_begun : (o : Option Entity) (t : CType) → may_declare o t true ≡ true → is_begun (Some (entity_behind o t true)) ≡ true
then_begun None t e = refl
then_begun (Some (Object u)) t e = refl
then_begun (Some (Routine u b)) t e = or_last b
then_begun (Some (BuiltIn u)) t e = absurd (cc (sym (and_parts (same_type t u) false e).1))
then_begun (Some Printf) t e = refl

-- each of the functions that are always known is such
abbrev EachKnown : Names → Type 0
EachKnown [] = Unit {0}
EachKnown (x ∷ xs) = (is_known x.1 ≡ true) × EachKnown xs

found_known : (xs : Names) → EachKnown xs → (name : List ℕ) (x : Entity) → meaning xs name ≡ Some x → is_known x ≡ true
found_known [] h name x e = absurd (cc e)
found_known (y ∷ ys) h name x e = go (bytes_eq name y.0) e (λ k. found_known ys h.1 name x k)
  where
    go : (b : Bool) → cond b (Some y.1) (meaning ys name) ≡ Some x → (meaning ys name ≡ Some x → is_known x ≡ true) → is_known x ≡ true
    go true e more = let same : y.1 ≡ x = cc e in ap is_known (sym same) ∙ h.0
    go false e more = more e

built_known : (name : List ℕ) (x : Entity) → meaning built_ins name ≡ Some x → is_known x ≡ true
built_known name x e = found_known built_ins (refl, (refl, (refl, (refl, (refl, (refl, tt)))))) name x e

-- what a function's name stands for is always known only where it was
known_before : (s : Scope) (n : List ℕ) (t : CType) (d : Bool) → IsFile s → (o : Option Entity) → meaning s.block n ≡ o → is_known (entity_behind o t d) ≡ true → meaning built_ins n ≡ Some (entity_behind o t d)
known_before s n t d f None e k = absurd (cc k)
known_before s n t d f (Some (Object u)) e k = absurd (cc k)
known_before s n t d f (Some (Routine u b)) e k = absurd (cc k)
known_before s n t d f (Some (BuiltIn u)) e k = f.built n (BuiltIn u) e refl
known_before s n t d f (Some Printf) e k = absurd (cc k)

-- and then stands for it
known_then : (o : Option Entity) (t : CType) (d : Bool) (y : Entity) → may_declare o t d ≡ true → is_known y ≡ true → o ≡ Some y → Some (entity_behind o t d) ≡ Some y
known_then None t d y e k l = absurd (cc l)
known_then (Some (Object u)) t d y e k l = absurd (cc e)
known_then (Some (Routine u b)) t d y e k l = let same : Routine u b ≡ y = cc l in absurd (cc (sym k ∙ ap is_known (sym same)))
known_then (Some (BuiltIn u)) t d y e k l = l
known_then (Some Printf) t d y e k l = absurd (cc e)

-- no function of a text is named as one of them
not_built : (o : Option Entity) (t : CType) (y : Entity) → may_declare o t true ≡ true → is_known y ≡ true → o ≡ Some y → ⊥
not_built None t y e k l = absurd (cc l)
not_built (Some (Object u)) t y e k l = absurd (cc e)
not_built (Some (Routine u b)) t y e k l = let same : Routine u b ≡ y = cc l in absurd (cc (sym k ∙ ap is_known (sym same)))
not_built (Some (BuiltIn u)) t y e k l = absurd (cc (sym (and_parts (same_type t u) false e).1))
not_built (Some Printf) t y e k l = absurd (cc e)

none_built : (s : Scope) (n : List ℕ) → IsFile s → (t : CType) (z : Option Entity) → meaning built_ins n ≡ z → may_declare (meaning s.block n) t true ≡ true → z ≡ None
none_built s n f t None e m = refl
none_built s n f t (Some y) e m = absurd (not_built (meaning s.block n) t y m (built_known n y e) (f.stays n y e))

same_name : (x : List ℕ) → bytes_eq x x ≡ true
same_name x = (bytes_eq-Decides x x).1 refl

pub record FunctionIs (s : Scope) (name : List ℕ) (at : ℕ) (result : CTy) (params : List CDecl) (body : Option CStmt) (r : Scope) : Type 0 where
  pub head : Signature
  pub told : signature s at result params ≡ Ok head
  pub behind : Behind s r
  pub inner : Scope
  pub typed : body_judged (body_scope s name head) (around_body head) body ≡ Ok inner
  pub fresh : is_some body ≡ true → is_begun (meaning s.block name) ≡ false
  pub begins : is_some body ≡ true → is_begun (meaning r.block name) ≡ true
  pub other : is_some body ≡ true → meaning built_ins name ≡ None
  pub texts : is_some body ≡ true → NamesAreOfText (body_scope s name head)
  pub known : is_some body ≡ true → (x : List ℕ) (y : Entity) → entity_of (body_scope s name head) x ≡ Some y → is_known y ≡ true → meaning built_ins x ≡ Some y

-- parameters are named as a text names them
heads_of_text : (s : Scope) (block : Names) → NamesAreOfText s → Heads s.tags block → NamesAreOfText (within s block)
heads_of_text s [] a h name x e = a name x e
heads_of_text s ((n, Object t) ∷ xs) a h name x e = go (bytes_eq name n) refl e (λ k. heads_of_text s xs a h.2 name x k)
  where
    go : (b : Bool) → bytes_eq name n ≡ b → cond b (Some (Object t)) (entity_of (within s xs) name) ≡ Some x → (entity_of (within s xs) name ≡ Some x → IsTextName name) → IsTextName name
    go true k e more = ap (λ z. list_any is_strange z) ((bytes_eq-Decides name n).0 k) ∙ h.0
    go false k e more = more e
heads_of_text s ((n, Routine t b) ∷ xs) a h name x e = absurd h
heads_of_text s ((n, BuiltIn t) ∷ xs) a h name x e = absurd h
heads_of_text s ((n, Printf) ∷ xs) a h name x e = absurd h

-- nor is one of them a function that is always known
heads_known : (s : Scope) (block : Names) → IsFile s → Heads s.tags block → (x : List ℕ) (y : Entity) → entity_of (within s block) x ≡ Some y → is_known y ≡ true → meaning built_ins x ≡ Some y
heads_known s [] f h x y e k = f.built x y (sym (in_file s f.outer x) ∙ e) k
heads_known s ((n, Object t) ∷ xs) f h x y e k = go (bytes_eq x n) e (λ l. heads_known s xs f h.2 x y l k)
  where
    go : (b : Bool) → cond b (Some (Object t)) (entity_of (within s xs) x) ≡ Some y → (entity_of (within s xs) x ≡ Some y → meaning built_ins x ≡ Some y) → meaning built_ins x ≡ Some y
    go true e more = let same : Object t ≡ y = cc e in absurd (cc (sym k ∙ ap is_known (sym same)))
    go false e more = more e
heads_known s ((n, Routine t b) ∷ xs) f h x y e k = absurd h
heads_known s ((n, BuiltIn t) ∷ xs) f h x y e k = absurd h
heads_known s ((n, Printf) ∷ xs) f h x y e k = absurd h

pub function_behind : (s : Scope) (name : List ℕ) (at : ℕ) (result : CTy) (params : List CDecl) (body : Option CStmt) (r : Scope) → IsFile s → IsTextName name → EachIsNamed params → item_judged s (plain.Function name at result params body) ≡ Ok r → FunctionIs s name at result params body r
function_behind s name at result params body r f text n e =
    let k = after_is (signature s at result params) (λ g. declared_function s name at body g) r e in
    let t : CType = type_of k.0 in
    let there : Scope = with_function s name t (is_some body) in
    let rules : List Rule = (may_declare (meaning s.block name) t (is_some body), fault.Twice at) ∷ [] in
    let l = after_is (body_judged (body_scope s name k.0) (around_body k.0) body) (λ _. keeping rules there) r k.2 in
    let m = keeping_is {A = Scope} rules there r l.2 in
    let may = (first_kept (may_declare (meaning s.block name) t (is_some body)) (fault.Twice at) [] m.0).0 in
    let may_begin : is_some body ≡ true → may_declare (meaning s.block name) t true ≡ true = λ b. ap (λ z. may_declare (meaning s.block name) t z) (sym b) ∙ may in
    let o : Option Entity = meaning s.block name in
    let behind_so : (d : Bool) → may_declare o t d ≡ true → Behind s (with_function s name t d) = λ d e. named_behind s name (entity_behind o t d) f text (λ g. stays_begun o t d g) (known_before s name t d f o refl) (λ y k. known_then o t d y e (built_known name y k) (f.stays name y k)) in
    let b : Behind s there = behind_so (is_some body) may in
    let q = signature_too s s at result params k.0 refl n k.1 in
    let inside : body_scope s name k.0 ≡ within (with_function s name t true) q.block = ap (λ (z : Scope). record z { outer = (with_function s name t true).block ++ s.outer }) q.there in
    record {
      head = k.0;
      told = k.1;
      behind = subst (λ z. Behind s z) m.1 b;
      inner = l.0;
      typed = l.1;
      fresh = λ i. not_begun (meaning s.block name) t (may_begin i);
      begins = λ i. subst (λ (z : Scope). is_begun (meaning z.block name) ≡ true) m.1 (ap (λ z. is_begun (cond z (Some (entity_behind (meaning s.block name) t (is_some body))) (meaning s.block name))) (same_name name) ∙ (ap (λ z. is_begun (Some (entity_behind (meaning s.block name) t z))) i ∙ then_begun (meaning s.block name) t (may_begin i)));
      other = λ i. none_built s name f t (meaning built_ins name) refl (may_begin i);
      texts = λ i. subst (λ z. NamesAreOfText z) (sym inside) (heads_of_text (with_function s name t true) q.block (names_of_text (with_function s name t true) (behind_so true (may_begin i)).file) q.heads);
      known = λ i. subst (λ z. (x : List ℕ) (y : Entity) → entity_of z x ≡ Some y → is_known y ≡ true → meaning built_ins x ≡ Some y) (sym inside) (heads_known (with_function s name t true) q.block (behind_so true (may_begin i)).file q.heads);
    }

-- ---- the first

abbrev EachPlain : Names → Type 0
EachPlain [] = Unit {0}
EachPlain (x ∷ xs) = IsTextName x.0 × EachPlain xs

none_strange : (xs : Names) → EachPlain xs → (name : List ℕ) → list_any is_strange name ≡ true → meaning xs name ≡ None
none_strange [] h name e = refl
none_strange (x ∷ xs) h name e = ap (λ z. cond z (Some x.1) (meaning xs name)) (other_name name x.0 h.0 e) ∙ none_strange xs h.1 name e

-- no name has another character before the first external
pub starts_file : (defined : List (List ℕ)) → IsFile (file_scope defined)
starts_file defined = record { outer = refl; none = λ name e. none_strange built_ins (refl, (refl, (refl, (refl, (refl, (refl, tt)))))) name e; built = λ name x e k. e; stays = λ name x e. e }
