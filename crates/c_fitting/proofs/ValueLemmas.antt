-- First values and declared objects within the limits.
use Rattle.std.proofs.Common.{◌≡◌, ℕ, zero, suc, ◌+◌, Bool, true, false, not, List, [], ◌∷◌, ◌++◌, Option, Some, None, refl, sym, ap, subst, ◌∙◌, cond, arith, if◌then◌else◌}
use Rattle.std.specs.Prelude.{Ok, Err}
use Rattle.std.specs.Option.{option_map_or}
use Rattle.std.specs.Str.{bytes_eq}
use Rattle.c_syntax.specs.Plain as plain
use Rattle.c_syntax.specs.Plain.{CExpr, CValue, CValues, CDecl}
use Rattle.c_syntax.specs.Words.{meaning}
use Rattle.c_types.specs.declared.fault.TypeFault.{TypeFault}
use Rattle.c_types.specs.declared.fault.TypeFault.TheVariants as fault
use Rattle.c_types.specs.Types as type
use Rattle.c_types.specs.Types.{CType, Layout, Tags, words_of, is_object_type}
use Rattle.c_types.specs.Refusals.{Judged, Rule, after, both, broken, least_of, keeping}
use Rattle.c_types.specs.Scope.{Scope, Entity, Object, entity_of, with_name, is_declared_here}
use Rattle.c_types.specs.Expressions.{judged, written}
use Rattle.c_types.specs.Declarations.{Site, Slots, Elements, Fields, Nothing, types_of_members, slots_of_struct, first_slot, next_slots, slots_of, object_rules, site_rules, braces_rules, fitting, all_fitting, first_fitting, completed, object_type, declared_type, declared_object, declared}
use Rattle.c_types.specs.Census.{of_type, value_sum, values_sum, first_sum, object_sum}
use Rattle.c_types.specs.Limits.{wide_types}
use Rattle.c_eval.specs.Environment.{type_or_void, object_type_in, type_or_nothing}
use Rattle.c_fitting.specs.Whole.{IsShort, ValueIsFit, ValuesAreFit, FirstIsFit, ObjectIsFit}
use Rattle.c_fitting.specs.Good.{IsGood, EachIsGood, LayoutIsGood, TagsAreGood, EntityIsGood, ScopeIsGood}
use Rattle.c_fitting.proofs.Judgement.{IfOk, Any, any_ok, after_ok, both_ok, keeping_ok, keeping_one, told}
use Rattle.c_fitting.proofs.Sums.{weighing, widening, IsLight, first, last}
use Rattle.c_fitting.proofs.TypeLemmas.{words_short}
use Rattle.c_fitting.proofs.WrittenLemmas.{IsFormed, good_formed, written_formed}
use Rattle.c_fitting.proofs.ExprLemmas.{IsKnown}
use Rattle.c_fitting.proofs.KnownLemmas.{expr_known}

-- what a first value gives
abbrev it : Unit {0}
it = tt

-- ---- what the values of a list stand for

abbrev MaybeIsGood : Tags → Option CType → Type 0
MaybeIsGood tags None = Unit {0}
MaybeIsGood tags (Some t) = IsGood tags t

abbrev EachTypeIsGood : Tags → List CType → Type 0
EachTypeIsGood tags [] = Unit {0}
EachTypeIsGood tags (t ∷ ts) = IsGood tags t × EachTypeIsGood tags ts

abbrev SlotsAreGood : Tags → Slots → Type 0
SlotsAreGood tags (Elements t n) = IsGood tags t
SlotsAreGood tags (Fields ts) = EachTypeIsGood tags ts
SlotsAreGood tags Nothing = Unit {0}

members_good : (tags : Tags) (ms : List (List ℕ × CType)) → EachIsGood tags ms → EachTypeIsGood tags (types_of_members ms)
members_good tags [] g = tt
members_good tags (m ∷ ms) g = (g.0, members_good tags ms g.1)

struct_slots : (tags : Tags) (o : Option Layout) → LayoutIsGood tags o → SlotsAreGood tags (slots_of_struct o)
struct_slots tags (Some (type.Members ms words)) g = members_good tags ms g.types
struct_slots tags (Some type.Unfinished) g = tt
struct_slots tags None g = tt

slots_good : (tags : Tags) → TagsAreGood tags → (t : CType) → IsGood tags t → SlotsAreGood tags (slots_of tags (Some t))
slots_good tags h (type.Array t n) g = g.0
slots_good tags h (type.Struct tag) g = struct_slots tags (meaning tags tag) (h.at tag)
slots_good tags h (type.Pointer t) g = tt
slots_good tags h (type.Function t ts) g = tt
slots_good tags h type.Void g = tt
slots_good tags h type.Int g = tt
slots_good tags h type.Unsigned g = tt
slots_good tags h type.Char g = tt
slots_good tags h type.UChar g = tt
slots_good tags h type.Null g = tt

first_good : (tags : Tags) (slots : Slots) → SlotsAreGood tags slots → MaybeIsGood tags (first_slot slots)
first_good tags (Elements t zero) g = tt
first_good tags (Elements t (suc n)) g = g
first_good tags (Fields []) g = tt
first_good tags (Fields (t ∷ ts)) g = g.0
first_good tags Nothing g = tt

next_good : (tags : Tags) (slots : Slots) → SlotsAreGood tags slots → SlotsAreGood tags (next_slots slots)
next_good tags (Elements t zero) g = tt
next_good tags (Elements t (suc n)) g = g
next_good tags (Fields []) g = tt
next_good tags (Fields (t ∷ ts)) g = g.1
next_good tags Nothing g = tt

nothing_good : (tags : Tags) (o : Option CType) → MaybeIsGood tags o → IsGood tags (type_or_nothing o)
nothing_good tags None g = tt
nothing_good tags (Some t) g = g

-- ---- first values

mutual
  value_known : (s : Scope) → ScopeIsGood s → (site : Site) (o : Option CType) → MaybeIsGood s.tags o → (v : CValue) → IsLight (value_sum weighing s v) (value_sum widening s v)
      → IfOk (λ _. ValueIsFit s (type_or_nothing o) v) (fitting s site o v)
  value_known s h site o g (plain.One e) l =
      after_ok (IsKnown s e) (λ _. ValueIsFit s (type_or_nothing o) (plain.One e)) (judged s e) (λ a. keeping (object_rules o e a ++ site_rules site.file e a) it) (expr_known s h e (last _ _ _ _ l))
      (λ a _ k. keeping_ok (λ _. ValueIsFit s (type_or_nothing o) (plain.One e)) (object_rules o e a ++ site_rules site.file e a) it (λ _. k.fit))
  value_known s h site (Some t) g (plain.Many vs) l =
      after_ok (λ _. ValuesAreFit s (slots_of s.tags (Some t)) vs) (λ _. ValueIsFit s t (plain.Many vs)) (all_fitting s site (slots_of s.tags (Some t)) vs) (λ _. keeping (braces_rules site.pos (slots_of s.tags (Some t)) vs) it)
      (values_known s h site (slots_of s.tags (Some t)) (slots_good s.tags h.tags t g) vs (last _ _ _ _ l))
      (λ u _ f. keeping_ok (λ _. ValueIsFit s t (plain.Many vs)) (braces_rules site.pos (slots_of s.tags (Some t)) vs) it (λ _. f))
  value_known s h site None g (plain.Many vs) l =
      after_ok (λ _. ValuesAreFit s Nothing vs) (λ _. ValueIsFit s type.Void (plain.Many vs)) (all_fitting s site Nothing vs) (λ _. keeping (braces_rules site.pos Nothing vs) it)
      (values_known s h site Nothing tt vs (last _ _ _ _ l))
      (λ u _ f. keeping_ok (λ _. ValueIsFit s type.Void (plain.Many vs)) (braces_rules site.pos Nothing vs) it (λ _. f))

  values_known : (s : Scope) → ScopeIsGood s → (site : Site) (slots : Slots) → SlotsAreGood s.tags slots → (vs : CValues) → IsLight (values_sum weighing s vs) (values_sum widening s vs)
      → IfOk (λ _. ValuesAreFit s slots vs) (all_fitting s site slots vs)
  values_known s h site slots g plain.NoValue l = tt
  values_known s h site slots g (plain.MoreValue v vs) l =
      both_ok (λ _. ValueIsFit s (type_or_nothing (first_slot slots)) v) (λ _. ValuesAreFit s (next_slots slots) vs) (λ _. ValuesAreFit s slots (plain.MoreValue v vs)) (fitting s site (first_slot slots) v)
      (all_fitting s site (next_slots slots) vs) (λ _ _. Ok it)
      (value_known s h site (first_slot slots) (first_good s.tags slots g) v (first _ _ _ _ l)) (values_known s h site (next_slots slots) (next_good s.tags slots g) vs (last _ _ _ _ l))
      (λ _ _ _ _ f fs. (words_short s.tags h.tags (type_or_nothing (first_slot slots)) (nothing_good s.tags (first_slot slots) (first_good s.tags slots g)), f, fs))

first_known : (s : Scope) → ScopeIsGood s → (site : Site) (t : CType) → IsGood s.tags t → (v : Option CValue) → IsLight (first_sum weighing s v) (first_sum widening s v) → IfOk (λ _. FirstIsFit s t v) (first_fitting s site t v)
first_known s h site t g None l = tt
first_known s h site t g (Some v) l = value_known s h site (Some t) g v l

-- ---- declarations

-- what a declaration that isn't refused declares
pub record Declares (s : Scope) (file : Bool) (d : CDecl) (inner : Scope) : Type 0 where
  pub ty : CType
  pub type_is : declared_type s d ≡ Ok ty
  pub inner_is : inner ≡ with_name s d.name (Object ty)
  pub first_is : first_fitting (with_name s d.name (Object ty)) (record { file = file; pos = d.pos }) ty d.first ≡ Ok it
  pub fresh : is_declared_here s d.name ≡ false

not_true : (b : Bool) → not b ≡ true → b ≡ false
not_true true h = absurd cc
not_true false h = refl

pub declares : (s : Scope) (file : Bool) (d : CDecl) → IfOk (Declares s file d) (declared s file d)
declares s file d =
    after_ok Any (Declares s file d) (declared_type s d) (λ t. declared_object s file d t) (any_ok (declared_type s d))
    (λ t e _.
    after_ok Any (Declares s file d) (first_fitting (with_name s d.name (Object t)) (record { file = file; pos = d.pos }) t d.first) (λ _. keeping ((not (is_declared_here s d.name), fault.Twice d.pos) ∷ []) (with_name s d.name (Object t)))
    (any_ok (first_fitting (with_name s d.name (Object t)) (record { file = file; pos = d.pos }) t d.first))
    (λ u f _. keeping_one (Declares s file d) (not (is_declared_here s d.name)) (fault.Twice d.pos) (with_name s d.name (Object t))
    (λ n. record { ty = t; type_is = e; inner_is = refl; first_is = f; fresh = not_true (is_declared_here s d.name) n })))

-- and one that has what it takes isn't refused
pub is_declared : (s : Scope) (file : Bool) (d : CDecl) (t : CType) → declared_type s d ≡ Ok t → first_fitting (with_name s d.name (Object t)) (record { file = file; pos = d.pos }) t d.first ≡ Ok it → is_declared_here s d.name ≡ false
    → declared s file d ≡ Ok (with_name s d.name (Object t))
is_declared s file d t e f n =
    ap (λ r. after r (λ u. declared_object s file d u)) e
    ∙ (ap (λ r. after r (λ _. keeping ((not (is_declared_here s d.name), fault.Twice d.pos) ∷ []) (with_name s d.name (Object t)))) f
    ∙ ap (λ b. keeping ((not b, fault.Twice d.pos) ∷ []) (with_name s d.name (Object t))) n)

completed_formed : (tags : Tags) (t : CType) (v : Option CValue) → IsFormed tags t → IsFormed tags (completed t v)
completed_formed tags (type.Array t zero) (Some v) f = f
completed_formed tags (type.Array t zero) None f = f
completed_formed tags (type.Array t (suc n)) (Some v) f = f
completed_formed tags (type.Array t (suc n)) None f = f
completed_formed tags (type.Struct tag) v f = f
completed_formed tags (type.Pointer t) v f = f
completed_formed tags (type.Function t ts) v f = f
completed_formed tags type.Void v f = f
completed_formed tags type.Int v f = f
completed_formed tags type.Unsigned v f = f
completed_formed tags type.Char v f = f
completed_formed tags type.UChar v f = f
completed_formed tags type.Null v f = f

type_formed : (s : Scope) (d : CDecl) → IfOk (IsFormed s.tags) (declared_type s d)
type_formed s d =
    after_ok (IsFormed s.tags) (IsFormed s.tags) (written s d.pos d.ty) (λ t. object_type s d.pos (completed t d.first)) (written_formed s d.pos d.ty)
    (λ t _ f. keeping_one (IsFormed s.tags) (is_object_type s.tags (completed t d.first)) (fault.Mismatch d.pos) (completed t d.first) (λ _. completed_formed s.tags t d.first f))

-- the types of an object that is declared are among the sums
wide_of : (tags : Tags) (k : CType → ℕ) (r : Judged CType) (t : CType) → r ≡ Ok t → of_type (λ u. wide_types tags u + 0) r ≡ 0 → wide_types tags t ≡ 0
wide_of tags k r t e w = let x : wide_types tags t + 0 ≡ 0 = subst (λ q. of_type (λ u. wide_types tags u + 0) q ≡ 0) e w in omega (arith, x)

pub declared_good : (s : Scope) (d : CDecl) (t : CType) → declared_type s d ≡ Ok t → IsLight (object_sum weighing s d) (object_sum widening s d) → IsGood s.tags t
declared_good s d t e l = good_formed s.tags t (told (IsFormed s.tags) (declared_type s d) t e (type_formed s d)) (wide_of s.tags (λ _. 0) (declared_type s d) t e (last _ _ _ _ l).wide_is)

entity_good : (tags : Tags) (b : Bool) (x : Entity) (o : Option Entity) → EntityIsGood tags (Some x) → EntityIsGood tags o → EntityIsGood tags (cond b (Some x) o)
entity_good tags true x o g h = g
entity_good tags false x o g h = h

pub name_good : (s : Scope) → ScopeIsGood s → (name : List ℕ) (x : Entity) → EntityIsGood s.tags (Some x) → ScopeIsGood (with_name s name x)
name_good s h name x g = record { tags = h.tags; names = λ other. entity_good s.tags (bytes_eq other name) x (entity_of s other) g (h.names other) }

type_in_is : (s : Scope) (d : CDecl) (t : CType) → declared_type s d ≡ Ok t → object_type_in s d ≡ t
type_in_is s d t e = ap type_or_void e

-- an object with its first value in the scope that has its name
pub object_known : (s : Scope) → ScopeIsGood s → (site : Site) (d : CDecl) (t : CType) → declared_type s d ≡ Ok t → IsGood s.tags t → IsLight (first_sum weighing (with_name s d.name (Object t)) d.first) (first_sum widening (with_name s d.name (Object t)) d.first)
    → first_fitting (with_name s d.name (Object t)) site t d.first ≡ Ok it → ObjectIsFit s (with_name s d.name (Object t)) d
object_known s h site d t e g l f =
    let inner = with_name s d.name (Object t) in
    let known : FirstIsFit inner t d.first = told (λ _. FirstIsFit inner t d.first) (first_fitting inner site t d.first) it f (first_known inner (name_good s h d.name (Object t) g) site t g d.first l) in
    (subst (λ u. IsShort s u) (sym (type_in_is s d t e)) (words_short s.tags h.tags t g), subst (λ u. FirstIsFit inner u d.first) (sym (type_in_is s d t e)) known)

by_rule : (b : Bool) (e : TypeFault) (o o' : Option TypeFault) → (o ≡ None → o' ≡ None) → (if b then o else Some (least_of e o)) ≡ None → (if b then o' else Some (least_of e o')) ≡ None
by_rule true e o o' f h = f h
by_rule false e o o' f h = absurd cc

fewer_rules : (xs ys : List Rule) → broken (xs ++ ys) ≡ None → broken (xs ++ []) ≡ None
fewer_rules [] ys h = refl
fewer_rules (x ∷ xs) ys h = by_rule x.0 x.1 (broken (xs ++ ys)) (broken (xs ++ [])) (fewer_rules xs ys) h

kept : (xs ys : List Rule) → broken (xs ++ ys) ≡ None → keeping (xs ++ []) it ≡ Ok it
kept xs ys h = ap (λ o. option_map_or (λ e. Err e) o (Ok it)) (fewer_rules xs ys h)

-- what fits at file scope fits in a function
mutual
  pub local_fits : (s : Scope) (at : ℕ) (o : Option CType) (v : CValue) → IfOk (λ _. fitting s (record { file = false; pos = at }) o v ≡ Ok it) (fitting s (record { file = true; pos = at }) o v)
  local_fits s at o (plain.One e) =
      after_ok Any (λ _. fitting s (record { file = false; pos = at }) o (plain.One e) ≡ Ok it) (judged s e) (λ a. keeping (object_rules o e a ++ site_rules true e a) it) (any_ok (judged s e))
      (λ a j _. keeping_ok (λ _. fitting s (record { file = false; pos = at }) o (plain.One e) ≡ Ok it) (object_rules o e a ++ site_rules true e a) it
      (λ b. ap (λ r. after r (λ x. keeping (object_rules o e x ++ []) it)) j ∙ kept (object_rules o e a) (site_rules true e a) b))
  local_fits s at o (plain.Many vs) =
      after_ok (λ _. all_fitting s (record { file = false; pos = at }) (slots_of s.tags o) vs ≡ Ok it) (λ _. fitting s (record { file = false; pos = at }) o (plain.Many vs) ≡ Ok it) (all_fitting s (record { file = true; pos = at }) (slots_of s.tags o) vs)
      (λ _. keeping (braces_rules at (slots_of s.tags o) vs) it) (all_local_fit s at (slots_of s.tags o) vs)
      (λ u _ f. keeping_ok (λ _. fitting s (record { file = false; pos = at }) o (plain.Many vs) ≡ Ok it) (braces_rules at (slots_of s.tags o) vs) it
      (λ b. ap (λ r. after r (λ _. keeping (braces_rules at (slots_of s.tags o) vs) it)) f ∙ ap (λ x. option_map_or (λ e. Err e) x (Ok it)) b))

  all_local_fit : (s : Scope) (at : ℕ) (slots : Slots) (vs : CValues) → IfOk (λ _. all_fitting s (record { file = false; pos = at }) slots vs ≡ Ok it) (all_fitting s (record { file = true; pos = at }) slots vs)
  all_local_fit s at slots plain.NoValue = refl
  all_local_fit s at slots (plain.MoreValue v vs) =
      both_ok (λ _. fitting s (record { file = false; pos = at }) (first_slot slots) v ≡ Ok it) (λ _. all_fitting s (record { file = false; pos = at }) (next_slots slots) vs ≡ Ok it)
      (λ _. all_fitting s (record { file = false; pos = at }) slots (plain.MoreValue v vs) ≡ Ok it) (fitting s (record { file = true; pos = at }) (first_slot slots) v) (all_fitting s (record { file = true; pos = at }) (next_slots slots) vs) (λ _ _. Ok it)
      (local_fits s at (first_slot slots) v) (all_local_fit s at (next_slots slots) vs)
      (λ _ _ _ _ f g. λ i. both (f i) (g i) (λ _ _. Ok it))
