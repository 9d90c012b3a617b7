-- What typed externals declare, and first values that are typed.
use Rattle.std.proofs.Common.{◌≡◌, ℕ, Bool, true, false, List, [], ◌∷◌, ◌++◌, Option, Some, None, refl, sym, ap, subst, ◌∙◌, if◌then◌else◌}
use Rattle.std.specs.Prelude.{Result, Ok, Err, IsOk, OnOk, is_some, not}
use Rattle.c_syntax.specs.View.{maybe_stmt}
use Rattle.c_syntax.specs.declared.tree.Stmt.{Stmt}
use Rattle.std.specs.Prelude.{slice_get}
use Rattle.std.specs.Result.{result_err}
use Rattle.std.specs.Cmp.Lexicographic.{bytes_decides}
use Rattle.std.specs.Option.{option_map_or}
use Rattle.c_syntax.specs.Plain as plain
use Rattle.c_syntax.specs.Plain.{CExpr, CTy, CValue, CValues, CDecl, CStmt, CTag, CItem}
use Rattle.c_syntax.specs.declared.tree.UnOp.TheVariants as unary
use Rattle.c_syntax.specs.Words.{meaning}
use Rattle.c_types.specs.declared.fault.TypeFault.{TypeFault}
use Rattle.c_types.specs.declared.fault.TypeFault.TheVariants as fault
use Rattle.c_types.specs.Types as types
use Rattle.c_types.specs.Types.{CType, Unfinished, Members}
use Rattle.c_types.specs.Refusals.{Judged, Rule, least_of, after, keeping, broken}
use Rattle.c_types.specs.Constants.{Constant, NotConstant, Undefined, Value, is_constant}
use Rattle.c_types.specs.Scope.{Scope, Object, with_name}
use Rattle.c_types.specs.Operands.{Operand}
use Rattle.c_types.specs.Expressions.{judged}
use Rattle.c_types.specs.Declarations.{Site, Slots, first_slot, next_slots, slots_of, is_static_form, static_rules, object_rules, site_rules, braces_rules, fitting, all_fitting, first_fitting, declared_type, declared_object, declared, scope_or, with_tag, is_tag, some_members, words_of_members, tag_declared}
use Rattle.c_types.specs.Declarations.{members as member_list}
use Rattle.c_types.specs.Table.{Table, known}
use Rattle.c_layouts.specs.declared.layout.Layout.{Layout}
use Rattle.c_layouts.specs.declared.layout.Layout.TheVariants as layout
use Rattle.c_layouts.specs.Layouts.{LayoutIsThere}
use Rattle.c_operands.specs.declared.declarations.Declarations.{Declarations}
use Rattle.c_declared.specs.Held.{Holds}
use Rattle.c_declared.specs.Slots.{AreListed, IsListed, entries_in}
use Rattle.c_cells.specs.Structs.{HasMembers}
use Rattle.c_types.specs.Scope.{is_declared_here}
use Rattle.c_types.specs.Units.{Signature, signature, type_of, may_declare, with_function, body_judged, body_scope, around_body, declared_function, item_judged, all_items}
use Rattle.c_eval.specs.LiteralsIn.{literals_in}
use Rattle.c_static.specs.Forms.{PlainForm, Text, Null, Name, Constant as ConstantForm, static_form, IsQuietForm, IsQuiet, IsQuietValue, AreQuietValues}
use Rattle.c_static.proofs.ConstantLemmas.{after_ok, both_ok, keeping_ok, quiet}
use Rattle.c_objects.specs.Made.{IsQuietFirst}
use Rattle.c_objects.specs.Passed.{behind_function}

-- ---- functions

pub function_passed : (s : Scope) (name : List ℕ) (at : ℕ) (result : CTy) (params : List CDecl) (body : Option CStmt) (inner : Scope) → item_judged s (plain.Function name at result params body) ≡ Ok inner
    → behind_function s name at result params (is_some body) ≡ scope_or s (item_judged s (plain.Function name at result params body))
function_passed s name at result params body inner h =
    let p = after_ok (signature s at result params) (λ f. declared_function s name at body f) inner h in
    let f = p.a in
    let rules : List Rule = (may_declare (meaning s.block name) (type_of f) (is_some body), fault.Twice at) ∷ [] in
    let q = after_ok (body_judged (body_scope s name f) (around_body f) body) (λ _. keeping rules (with_function s name (type_of f) (is_some body))) inner p.rest in
    let same : with_function s name (type_of f) (is_some body) ≡ inner = keeping_ok rules (with_function s name (type_of f) (is_some body)) inner q.rest in
    ap (λ (r : Judged Signature). scope_or s (after r (λ g. Ok (with_function s name (type_of g) (is_some body))))) p.first ∙ (same ∙ sym (ap (scope_or s) h))

pub function_tags : (s : Scope) (name : List ℕ) (at : ℕ) (result : CTy) (params : List CDecl) (defines : Bool) → (behind_function s name at result params defines).tags ≡ s.tags
function_tags s name at result params defines = by (signature s at result params) where
  by : (r : Judged Signature) → (scope_or s (after r (λ f. Ok (with_function s name (type_of f) defines)))).tags ≡ s.tags
  by (Ok f) = refl
  by (Err e) = refl

-- ---- first values

no_rule : (xs ys : List Rule) → broken (xs ++ ys) ≡ None → broken ys ≡ None
no_rule [] ys h = h
no_rule (rule ∷ xs) ys h = by (λ e. no_rule xs ys e) rule.0 h where
  by : (broken (xs ++ ys) ≡ None → broken ys ≡ None) → (b : Bool) → (if b then broken (xs ++ ys) else Some (least_of rule.1 (broken (xs ++ ys)))) ≡ None → broken ys ≡ None
  by rest true e = rest e
  by rest false e = absurd cc

none_broken : {A : Type 0} (rules : List Rule) (a b : A) → keeping rules a ≡ Ok b → broken rules ≡ None
none_broken {A} rules a b h = by (broken rules) h where
  by : (o : Option TypeFault) → option_map_or (λ e. Err e) o (Ok a) ≡ Ok b → o ≡ None
  by None e = refl
  by (Some f) e = absurd cc

no_static : (e : CExpr) (a : Operand) → static_form e ≡ ConstantForm → is_static_form e a ≡ false
no_static (plain.Str at text) a h = absurd cc
no_static (plain.Null at) a h = absurd cc
no_static (plain.Var at name) a h = absurd cc
no_static (plain.Unary at unary.Address (plain.Var p name)) a h = absurd cc
no_static _ a h = refl

is_fixed : (e : CExpr) (a : Operand) (k : Constant) → static_form e ≡ ConstantForm → broken (static_rules e a k) ≡ None → is_constant k ≡ true
is_fixed e a NotConstant form h = by (is_static_form e a) (no_static e a form) h where
  by : (b : Bool) → b ≡ false → broken ((b, fault.Mismatch a.pos) ∷ []) ≡ None → is_constant NotConstant ≡ true
  by true f g = absurd cc
  by false f g = absurd cc
is_fixed e a (Undefined at) form h = refl
is_fixed e a (Value n) form h = refl

by_form : (form : PlainForm) (ls : List (List ℕ)) → (form ≡ ConstantForm → ls ≡ []) → IsQuietForm form ls
by_form (Text text) ls h = tt
by_form Null ls h = tt
by_form (Name name) ls h = tt
by_form ConstantForm ls h = h refl

one_quiet : (s : Scope) (pos : ℕ) (t : Option CType) (e : CExpr) (u : Unit {0}) → fitting s (record { file = true; pos = pos }) t (plain.One e) ≡ Ok u → IsQuiet s e
one_quiet s pos t e u h =
    let p = after_ok (judged s e) (λ a. keeping (object_rules t e a ++ site_rules true e a) tt) u h in
    let x = p.a in
    let none = no_rule (object_rules t e x) (static_rules e x x.constant) (none_broken (object_rules t e x ++ static_rules e x x.constant) tt u p.rest) in
    by_form (static_form e) (literals_in s e) (λ form. quiet s e x p.first (is_fixed e x x.constant form none))

mutual
  pub value_quiet : (s : Scope) (pos : ℕ) (t : Option CType) (v : CValue) (u : Unit {0}) → fitting s (record { file = true; pos = pos }) t v ≡ Ok u → IsQuietValue s v
  value_quiet s pos t (plain.One e) u h = one_quiet s pos t e u h
  value_quiet s pos t (plain.Many vs) u h =
      let site : Site = record { file = true; pos = pos } in
      let p = after_ok (all_fitting s site (slots_of s.tags t) vs) (λ _. keeping (braces_rules pos (slots_of s.tags t) vs) tt) u h in
      values_quiet s pos (slots_of s.tags t) vs p.a p.first

  values_quiet : (s : Scope) (pos : ℕ) (slots : Slots) (vs : CValues) (u : Unit {0}) → all_fitting s (record { file = true; pos = pos }) slots vs ≡ Ok u → AreQuietValues s vs
  values_quiet s pos slots plain.NoValue u h = tt
  values_quiet s pos slots (plain.MoreValue v vs) u h =
      let site : Site = record { file = true; pos = pos } in
      let p = both_ok (fitting s site (first_slot slots) v) (all_fitting s site (next_slots slots) vs) (λ _ _. Ok tt) u h in
      (value_quiet s pos (first_slot slots) v p.a p.first, values_quiet s pos (next_slots slots) vs p.b p.second)

-- ---- objects

-- an object that is declared
pub record IsObject (s inner : Scope) (d : CDecl) : Type 0 where
  pub t : CType
  pub typed : declared_type s d ≡ Ok t
  pub is : inner ≡ with_name s d.name (Object t)
  pub first : IsQuietFirst inner d.first

first_quiet : (s : Scope) (pos : ℕ) (t : CType) (first : Option CValue) (u : Unit {0}) → first_fitting s (record { file = true; pos = pos }) t first ≡ Ok u → IsQuietFirst s first
first_quiet s pos t None u h = tt
first_quiet s pos t (Some v) u h = value_quiet s pos (Some t) v u h

pub object_passed : (s inner : Scope) (d : CDecl) → declared s true d ≡ Ok inner → IsObject s inner d
object_passed s inner d h =
    let p = after_ok (declared_type s d) (λ t. declared_object s true d t) inner h in
    let t = p.a in
    let behind : Scope = with_name s d.name (Object t) in
    let rules : List Rule = (not (is_declared_here s d.name), fault.Twice d.pos) ∷ [] in
    let q = after_ok (first_fitting behind (record { file = true; pos = d.pos }) t d.first) (λ _. keeping rules behind) inner p.rest in
    let same : behind ≡ inner = keeping_ok rules behind inner q.rest in
    record { t = t; typed = p.first; is = sym same; first = subst (λ (r : Scope). IsQuietFirst r d.first) same (first_quiet behind d.pos t d.first q.a q.first) }

-- ---- externals

pub record IsItem (s : Scope) (item : CItem) (items : List CItem) (end : Scope) : Type 0 where
  pub inner : Scope
  pub first : item_judged s item ≡ Ok inner
  pub rest : all_items inner items ≡ Ok end

abbrev judged_scope : Scope → Judged Scope
judged_scope x = Ok x

same_scope : (a b : Scope) → judged_scope a ≡ Ok b → a ≡ b
same_scope a b e = cc

pub item_passed : (s : Scope) (item : CItem) (items : List CItem) (end : Scope) → all_items s (item ∷ items) ≡ Ok end → IsItem s item items end
item_passed s item items end h =
    let r = item_judged s item in
    let p = both_ok r (all_items (scope_or s r) items) (λ _ inner. Ok inner) end h in
    let last : p.b ≡ end = same_scope p.b end p.rest in
    let goes : scope_or s r ≡ p.a = ap (scope_or s) p.first in
    record { inner = p.a; first = p.first; rest = ap (λ (x : Scope). all_items x items) (sym goes) ∙ (p.second ∙ ap (λ (x : Scope). Ok x) last) }

-- ---- tags

-- a tag that is declared
pub record IsTag (s : Scope) (tag : CTag) (inner : Scope) : Type 0 where
  pub members : List (List ℕ × CType)
  pub words : ℕ
  pub is : inner ≡ with_tag s tag.name (Members members words)

accepted : (r : Judged Scope) → None ≡ result_err r → (inner : Scope) × (r ≡ Ok inner)
accepted (Ok inner) h = (inner, refl)
accepted (Err e) h = absurd cc

pub refused : (s : Scope) (r : Judged Scope) (e : TypeFault) → Some e ≡ result_err r → scope_or s r ≡ s
refused s (Ok inner) e h = absurd cc
refused s (Err d) e h = refl

tag_is : (s inner : Scope) (tag : CTag) → tag_declared s tag ≡ Ok inner → IsTag s tag inner
tag_is s inner tag h =
    let open_tag = with_tag s tag.name Unfinished in
    let rules : List Rule = (not (is_tag s tag.name), fault.Twice tag.pos) ∷ (some_members tag.members, fault.Mismatch tag.pos) ∷ [] in
    let p = after_ok (member_list open_tag [] tag.members) (λ ms. keeping rules (with_tag s tag.name (Members ms (words_of_members open_tag.tags ms)))) inner h in
    let words : ℕ = words_of_members open_tag.tags p.a in
    record { members = p.a; words = words; is = sym (keeping_ok rules (with_tag s tag.name (Members p.a words)) inner p.rest) }

-- a tag that isn't refused
pub record IsAccepted (s : Scope) (tag : CTag) : Type 0 where
  pub members : List (List ℕ × CType)
  pub words : ℕ
  pub is : scope_or s (tag_declared s tag) ≡ with_tag s tag.name (Members members words)

pub tag_accepted : (s : Scope) (tag : CTag) → None ≡ result_err (tag_declared s tag) → IsAccepted s tag
tag_accepted s tag h =
    let p = accepted (tag_declared s tag) h in
    let t = tag_is s p.0 tag p.1 in
    record { members = t.members; words = t.words; is = ap (scope_or s) p.1 ∙ t.is }

pub closed_there : (s : Scope) (name : List ℕ) (members : List (List ℕ × CType)) (words : ℕ) → meaning (with_tag s name (Members members words)).tags name ≡ Some (Members members words)
closed_there s name members words = ap (λ (b : Bool). if b then Some (Members members words) else meaning s.tags name) ((bytes_decides name name).1 refl)

-- the members of a closed tag stand at its number
pub closed_members : (table : Table) (d : Declarations) (s : Scope) (name : List ℕ) (n : ℕ) (members : List (List ℕ × CType)) (words : ℕ) → Holds table d (with_tag s name (Members members words)) → slice_get table.tags n ≡ Some name
    → HasMembers table d.layouts.items n members
closed_members table d s name n members words holds at = record { listed = by (slice_get d.layouts.items n) (layout_is (holds.fits.layouts n name at)) (list_is (holds.ordered n name at)) }
  where
    own : meaning (with_tag s name (Members members words)).tags name ≡ Some (Members members words)
    own = closed_there s name members words

    layout_is : LayoutIsThere (known table) (slice_get d.layouts.items n) (meaning (with_tag s name (Members members words)).tags name) → LayoutIsThere (known table) (slice_get d.layouts.items n) (Some (Members members words))
    layout_is h = subst (λ (o : Option types.Layout). LayoutIsThere (known table) (slice_get d.layouts.items n) o) own h

    list_is : IsListed (known table) (slice_get d.layouts.items n) (meaning (with_tag s name (Members members words)).tags name) → IsListed (known table) (slice_get d.layouts.items n) (Some (Members members words))
    list_is h = subst (λ (o : Option types.Layout). IsListed (known table) (slice_get d.layouts.items n) o) own h

    by : (l : Option Layout) → LayoutIsThere (known table) l (Some (Members members words)) → IsListed (known table) l (Some (Members members words)) → AreListed (known table) (entries_in l) members
    by (Some (layout.Members map count)) h k = k
    by (Some layout.Unfinished) h k = absurd cc
    by (Some layout.Undeclared) h k = absurd cc
    by None h k = absurd h

-- ---- what is judged to be there

pub ok_inner : {A : Type 0} (r : Judged A) → IsOk r → (a : A) × (r ≡ Ok a)
ok_inner (Ok a) h = (a, refl)
ok_inner (Err e) h = absurd cc

pub no_object : (s : Scope) (d : CDecl) (e : TypeFault) → declared_type s d ≡ Err e → IsOk (declared s true d) → ⊥
no_object s d e h ok =
    let P : Judged Scope → Type 0 = λ r. IsOk r in
    let none = subst P (ap (λ (r : Judged CType). after r (λ t. declared_object s true d t)) h) ok in
    cc

pub some_body : (o : Option Stmt) (b : Bool) → b ≡ is_some o → b ≡ is_some (maybe_stmt o)
some_body None b h = h
some_body (Some t) b h = h

pub on_both : {X E A B C : Type 0} (r : Result X E) → (A → B → C) → OnOk r A → OnOk r B → OnOk r C
on_both (Ok x) f a b = f a b
on_both (Err e) f a b = tt

pub on_three : {X E A B C D : Type 0} (r : Result X E) → (A → B → C → D) → OnOk r A → OnOk r B → OnOk r C → OnOk r D
on_three (Ok x) f a b c = f a b c
on_three (Err e) f a b c = tt
