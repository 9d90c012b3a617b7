-- A typed text defines no function twice, so each function's charge is the first of its name.
use Rattle.std.proofs.Common.{◌≡◌, ℕ, Bool, true, false, not, ◌&&◌, List, [], ◌∷◌, ◌++◌, Option, Some, None, refl, sym, ap, subst, ◌∙◌, append_assoc, if◌then◌else◌}
use Rattle.std.specs.Prelude.{Ok, Err, IsOk, is_some}
use Rattle.std.specs.Option.{option_map_or}
use Rattle.std.specs.Str.{bytes_eq}
use Rattle.std.specs.Cmp.Lexicographic.{bytes_decides}
use Rattle.c_syntax.specs.Plain as plain
use Rattle.c_syntax.specs.Plain.{CTy, CDecl, CStmt, CTag, CItem, CUnit}
use Rattle.c_syntax.specs.Words.{meaning}
use Rattle.c_types.specs.declared.fault.TypeFault.{TypeFault}
use Rattle.c_types.specs.declared.fault.TypeFault.TheVariants as fault
use Rattle.c_types.specs.Types.{CType, Unfinished, Members, same_type}
use Rattle.c_types.specs.Refusals.{Judged, Rule, after, keeping}
use Rattle.c_types.specs.Scope.{Scope, Names, Entity, Object, Routine, BuiltIn, Printf, with_name, is_declared_here}
use Rattle.c_types.specs.Declarations.{first_fitting, declared_type, declared_object, declared, scope_or, with_tag, is_tag, some_members, words_of_members, tag_declared}
use Rattle.c_types.specs.Declarations.{members as member_list}
use Rattle.c_types.specs.Units.{Signature, signature, type_of, may_declare, entity_behind, with_function, body_judged, body_scope, around_body, declared_function, item_judged, all_items, start_scope}
use Rattle.c_types.specs.Limits.{IsTyped}
use Rattle.c_types.specs.Room.{charge_in, charges_in}
use Rattle.c_eval.specs.Meaning.{Rules, own_rules}
use Rattle.c_static.proofs.ConstantLemmas.{after_ok, keeping_ok}
use Rattle.c_objects.proofs.PassedLemmas.{item_passed}
use Rattle.c_flat.specs.Walk.{KnowsCharges}

-- the definition of a function has begun
abbrev pub begun : Option Entity → Bool
begun (Some (Routine t b)) = b
begun _ = false

-- ---- rules that are kept

first_kept : (b : Bool) (e : TypeFault) (rules : List Rule) (s inner : Scope) → keeping ((b, e) ∷ rules) s ≡ Ok inner → b ≡ true
first_kept true e rules s inner h = refl
first_kept false e rules s inner h = absurd cc

-- ---- names in a table

own_meaning : {A : Type 0} (name : List ℕ) (x : A) (rest : List (List ℕ × A)) → meaning ((name, x) ∷ rest) name ≡ Some x
own_meaning {A} name x rest = ap (λ (b : Bool). if b then Some x else meaning rest name) ((bytes_decides name name).1 refl)

behind_meaning : {A : Type 0} (xs ys : List (List ℕ × A)) (name : List ℕ) → meaning xs name ≡ None → meaning (xs ++ ys) name ≡ meaning ys name
behind_meaning [] ys name h = refl
behind_meaning {A} (x ∷ xs) ys name h = by (bytes_eq name x.0) (λ e. behind_meaning xs ys name e) h where
  by : (b : Bool) → (meaning xs name ≡ None → meaning (xs ++ ys) name ≡ meaning ys name) → (if b then Some x.1 else meaning xs name) ≡ None → (if b then Some x.1 else meaning (xs ++ ys) name) ≡ meaning ys name
  by true rest e = absurd cc
  by false rest e = rest e

-- ---- what has begun behind an external

-- nothing has begun that hadn't
record Keeps (s inner : Scope) : Type 0 where
  back : (name : List ℕ) → begun (meaning inner.block name) ≡ false → begun (meaning s.block name) ≡ false

-- one function has begun that hadn't
record Begins (s inner : Scope) (name : List ℕ) : Type 0 where
  fresh : begun (meaning s.block name) ≡ false
  other : (others : List ℕ) → begun (meaning inner.block others) ≡ false → bytes_eq others name ≡ false
  back : (others : List ℕ) → begun (meaning inner.block others) ≡ false → begun (meaning s.block others) ≡ false

named_back : (block : Names) (own : List ℕ) (x : Entity) → (begun (Some x) ≡ false → begun (meaning block own) ≡ false) → (name : List ℕ) → begun (meaning ((own, x) ∷ block) name) ≡ false → begun (meaning block name) ≡ false
named_back block own x f name h = by (bytes_eq name own) (λ e. (bytes_decides name own).0 e) h where
  by : (b : Bool) → (b ≡ true → name ≡ own) → begun (if b then Some x else meaning block name) ≡ false → begun (meaning block name) ≡ false
  by true same e = subst (λ (n : List ℕ). begun (meaning block n) ≡ false) (sym (same refl)) (f e)
  by false same e = e

named_other : (block : Names) (own : List ℕ) (x : Entity) → begun (Some x) ≡ true → (name : List ℕ) → begun (meaning ((own, x) ∷ block) name) ≡ false → bytes_eq name own ≡ false
named_other block own x f name h = by (bytes_eq name own) h where
  by : (b : Bool) → begun (if b then Some x else meaning block name) ≡ false → b ≡ false
  by true e = absurd (yes_no f e) where
    yes_no : begun (Some x) ≡ true → begun (Some x) ≡ false → ⊥
    yes_no p q = cc
  by false e = refl

not_here : (o : Option Entity) → not (option_map_or (λ entity. true) o false) ≡ true → begun o ≡ false
not_here None h = refl
not_here (Some x) h = absurd cc

object_keeps : (s inner : Scope) (d : CDecl) → declared s true d ≡ Ok inner → Keeps s inner
object_keeps s inner d h =
    let p = after_ok (declared_type s d) (λ t. declared_object s true d t) inner h in
    let behind : Scope = with_name s d.name (Object p.a) in
    let rules : List Rule = (not (is_declared_here s d.name), fault.Twice d.pos) ∷ [] in
    let q = after_ok (first_fitting behind (record { file = true; pos = d.pos }) p.a d.first) (λ _. keeping rules behind) inner p.rest in
    let same : behind ≡ inner = keeping_ok rules behind inner q.rest in
    let here = first_kept (not (is_declared_here s d.name)) (fault.Twice d.pos) [] behind inner q.rest in
    subst (λ (r : Scope). Keeps s r) same (record { back = named_back s.block d.name (Object p.a) (λ _. not_here (meaning s.block d.name) here) })

tag_keeps : (s inner : Scope) (tag : CTag) → tag_declared s tag ≡ Ok inner → Keeps s inner
tag_keeps s inner tag h =
    let open_tag = with_tag s tag.name Unfinished in
    let rules : List Rule = (not (is_tag s tag.name), fault.Twice tag.pos) ∷ (some_members tag.members, fault.Mismatch tag.pos) ∷ [] in
    let p = after_ok (member_list open_tag [] tag.members) (λ ms. keeping rules (with_tag s tag.name (Members ms (words_of_members open_tag.tags ms)))) inner h in
    let same : with_tag s tag.name (Members p.a (words_of_members open_tag.tags p.a)) ≡ inner = keeping_ok rules (with_tag s tag.name (Members p.a (words_of_members open_tag.tags p.a))) inner p.rest in
    subst (λ (r : Scope). Keeps s r) same (record { back = λ name e. e })

prototype_back : (o : Option Entity) (t : CType) → begun (Some (entity_behind o t false)) ≡ false → begun o ≡ false
prototype_back (Some (BuiltIn u)) t h = refl
prototype_back (Some (Routine u true)) t h = h
prototype_back (Some (Routine u false)) t h = refl
prototype_back (Some (Object u)) t h = refl
prototype_back (Some Printf) t h = refl
prototype_back None t h = refl

definition_fresh : (o : Option Entity) (t : CType) → may_declare o t true ≡ true → begun o ≡ false
definition_fresh (Some (BuiltIn u)) t h = refl
definition_fresh (Some (Routine u false)) t h = refl
definition_fresh (Some (Routine u true)) t h = by (same_type t u) h where
  by : (b : Bool) → (b && false) ≡ true → true ≡ false
  by true e = absurd cc
  by false e = absurd cc
definition_fresh (Some (Object u)) t h = refl
definition_fresh (Some Printf) t h = refl
definition_fresh None t h = refl

definition_begun : (o : Option Entity) (t : CType) → may_declare o t true ≡ true → begun (Some (entity_behind o t true)) ≡ true
definition_begun (Some (BuiltIn u)) t h = by (same_type t u) h where
  by : (b : Bool) → (b && false) ≡ true → false ≡ true
  by true e = absurd cc
  by false e = absurd cc
definition_begun (Some (Routine u false)) t h = refl
definition_begun (Some (Routine u true)) t h = refl
definition_begun (Some (Object u)) t h = refl
definition_begun (Some Printf) t h = refl
definition_begun None t h = refl

-- a function that is declared
record IsFunction (s inner : Scope) (name : List ℕ) (defines : Bool) : Type 0 where
  f : Signature
  may : may_declare (meaning s.block name) (type_of f) defines ≡ true
  is : inner ≡ with_function s name (type_of f) defines

function_is : (s inner : Scope) (name : List ℕ) (at : ℕ) (result : CTy) (params : List CDecl) (body : Option CStmt) → item_judged s (plain.Function name at result params body) ≡ Ok inner → IsFunction s inner name (is_some body)
function_is s inner name at result params body h =
    let p = after_ok (signature s at result params) (λ f. declared_function s name at body f) inner h in
    let f = p.a in
    let may : Bool = may_declare (meaning s.block name) (type_of f) (is_some body) in
    let behind : Scope = with_function s name (type_of f) (is_some body) in
    let q = after_ok (body_judged (body_scope s name f) (around_body f) body) (λ _. keeping ((may, fault.Twice at) ∷ []) behind) inner p.rest in
    record { f = f; may = first_kept may (fault.Twice at) [] behind inner q.rest; is = sym (keeping_ok ((may, fault.Twice at) ∷ []) behind inner q.rest) }

prototype_keeps : (s inner : Scope) (name : List ℕ) → IsFunction s inner name false → Keeps s inner
prototype_keeps s inner name k =
    let o = meaning s.block name in
    subst (λ (r : Scope). Keeps s r) (sym k.is) (record { back = named_back s.block name (entity_behind o (type_of k.f) false) (prototype_back o (type_of k.f)) })

definition_begins : (s inner : Scope) (name : List ℕ) → IsFunction s inner name true → Begins s inner name
definition_begins s inner name k =
    let o = meaning s.block name in
    let fresh = definition_fresh o (type_of k.f) k.may in
    subst (λ (r : Scope). Begins s r name) (sym k.is) (record {
      fresh = fresh;
      other = named_other s.block name (entity_behind o (type_of k.f) true) (definition_begun o (type_of k.f) k.may);
      back = named_back s.block name (entity_behind o (type_of k.f) true) (λ _. fresh);
    })

-- ---- charges

-- each name that has a charge has begun
pub record AreBegun (s : Scope) (charges : List (List ℕ × ℕ)) : Type 0 where
  pub none : (name : List ℕ) → begun (meaning s.block name) ≡ false → meaning charges name ≡ None

abbrev pub Gives : Rules → List (List ℕ × ℕ) → Type 0
Gives rules charges = (name : List ℕ) → rules.charge name ≡ option_map_or (λ n. n) (meaning charges name) 0

one_more : (charges : List (List ℕ × ℕ)) (own : List ℕ) (n : ℕ) (name : List ℕ) → meaning charges name ≡ None → bytes_eq name own ≡ false → meaning (charges ++ (own, n) ∷ []) name ≡ None
one_more charges own n name none other = behind_meaning charges ((own, n) ∷ []) name none ∙ ap (λ (b : Bool). if b then Some n else None) other

kept_on : (s inner : Scope) (charges : List (List ℕ × ℕ)) → Keeps s inner → AreBegun s charges → AreBegun inner charges
kept_on s inner charges k h = record { none = λ name e. h.none name (k.back name e) }

pub charges_known : (rules : Rules) (s : Scope) (items : List CItem) (end : Scope) (before : List (List ℕ × ℕ)) → all_items s items ≡ Ok end → AreBegun s before → Gives rules (before ++ charges_in s items) → KnowsCharges rules s items
charges_known rules s [] end before typed h gives = tt
charges_known rules s (plain.StructItem tag ∷ items) end before typed h gives =
    let p = item_passed s (plain.StructItem tag) items end typed in
    let same : p.inner ≡ scope_or s (item_judged s (plain.StructItem tag)) = sym (ap (scope_or s) p.first) in (
      tt,
      charges_known rules (scope_or s (item_judged s (plain.StructItem tag))) items end before (ap (λ (r : Scope). all_items r items) (sym same) ∙ p.rest)
          (subst (λ (r : Scope). AreBegun r before) same (kept_on s p.inner before (tag_keeps s p.inner tag p.first) h)) gives,
    )
charges_known rules s (plain.Object d ∷ items) end before typed h gives =
    let p = item_passed s (plain.Object d) items end typed in
    let same : p.inner ≡ scope_or s (item_judged s (plain.Object d)) = sym (ap (scope_or s) p.first) in (
      tt,
      charges_known rules (scope_or s (item_judged s (plain.Object d))) items end before (ap (λ (r : Scope). all_items r items) (sym same) ∙ p.rest)
          (subst (λ (r : Scope). AreBegun r before) same (kept_on s p.inner before (object_keeps s p.inner d p.first) h)) gives,
    )
charges_known rules s (plain.Function name at result params None ∷ items) end before typed h gives =
    let x : CItem = plain.Function name at result params None in
    let p = item_passed s x items end typed in
    let same : p.inner ≡ scope_or s (item_judged s x) = sym (ap (scope_or s) p.first) in (
      tt,
      charges_known rules (scope_or s (item_judged s x)) items end before (ap (λ (r : Scope). all_items r items) (sym same) ∙ p.rest)
          (subst (λ (r : Scope). AreBegun r before) same (kept_on s p.inner before (prototype_keeps s p.inner name (function_is s p.inner name at result params None p.first)) h)) gives,
    )
charges_known rules s (plain.Function name at result params (Some body) ∷ items) end before typed h gives =
    let x : CItem = plain.Function name at result params (Some body) in
    let p = item_passed s x items end typed in
    let same : p.inner ≡ scope_or s (item_judged s x) = sym (ap (scope_or s) p.first) in
    let k = definition_begins s p.inner name (function_is s p.inner name at result params (Some body) p.first) in
    let n : ℕ = charge_in s name params body (signature s at result params) in
    let rest : List (List ℕ × ℕ) = charges_in (scope_or s (item_judged s x)) items in
    let found : meaning (before ++ (name, n) ∷ rest) name ≡ Some n = behind_meaning before ((name, n) ∷ rest) name (h.none name k.fresh) ∙ own_meaning name n rest in
    let more : AreBegun p.inner (before ++ (name, n) ∷ []) = record { none = λ others e. one_more before name n others (h.none others (k.back others e)) (k.other others e) } in
    let grouped : (before ++ (name, n) ∷ []) ++ rest ≡ before ++ ((name, n) ∷ rest) = append_assoc before ((name, n) ∷ []) rest in (
      gives name ∙ ap (λ (o : Option ℕ). option_map_or (λ n. n) o 0) found,
      charges_known rules (scope_or s (item_judged s x)) items end (before ++ (name, n) ∷ []) (ap (λ (r : Scope). all_items r items) (sym same) ∙ p.rest)
          (subst (λ (r : Scope). AreBegun r (before ++ (name, n) ∷ [])) same more) (subst (λ (l : List (List ℕ × ℕ)). Gives rules l) (sym grouped) gives),
    )

-- the rules of a typed text have the charge of each function that it defines
pub text_charges_known : (u : CUnit) (end : Scope) → all_items (start_scope u) u.items ≡ Ok end → KnowsCharges (own_rules u) (start_scope u) u.items
text_charges_known u end typed = charges_known (own_rules u) (start_scope u) u.items end [] typed (record { none = λ name e. refl }) (λ name. refl)

ok_after : {A B : Type 0} (r : Judged A) (f : A → Judged B) → IsOk (after r f) → (a : A) × (r ≡ Ok a)
ok_after (Ok a) f h = (a, refl)
ok_after (Err e) f h = absurd cc

-- the externals of a typed text have a scope behind them
pub typed_end : (u : CUnit) → IsTyped u → (end : Scope) × (all_items (start_scope u) u.items ≡ Ok end)
typed_end u typed = ok_after (all_items (start_scope u) u.items) _ typed
