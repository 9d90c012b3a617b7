-- File scopes of a typed text, and its functions.
use Rattle.std.proofs.Common.{◌≡◌, ℕ, ◌+◌, ◌≤◌, List, [], ◌∷◌, ◌++◌, Option, Some, None, Bool, true, false, refl, sym, ap, ◌∙◌, subst, cond, arith}
use Rattle.std.specs.Prelude.{not, is_none, is_some, is_ok, Ok, Err, if◌then◌else◌}
use Rattle.std.specs.List.{find}
use Rattle.std.specs.Option.{option_map_or}
use Rattle.std.specs.Str.{bytes_eq}
use Rattle.std.proofs.lemmas.Slice.Eq.{bytes_eq-Decides}
use Rattle.c_syntax.specs.Plain as plain
use Rattle.c_syntax.specs.Plain.{CTy, CDecl, CStmt, CTag, CItem}
use Rattle.c_syntax.specs.Words.{meaning}
use Rattle.c_types.specs.declared.fault.TypeFault.TheVariants as fault
use Rattle.c_types.specs.Types as type
use Rattle.c_types.specs.Types.{CType, Layout, Unfinished, Members, Tags, words_of, is_object_type}
use Rattle.c_types.specs.Refusals.{Judged, Rule, after, keeping}
use Rattle.c_types.specs.Scope.{Names, Scope, Entity, Object, entity_of, entered, with_name, is_declared_here, built_ins, file_scope}
use Rattle.c_types.specs.Expressions.{written}
use Rattle.c_types.specs.Declarations.{object_type, member, members_or, members, words_of_members, with_tag, is_tag, some_members, tag_declared, scope_or}
use Rattle.c_types.specs.Units.{Parameter, with_parameter, declared_parameter, parameter, parameter_scope_or, Parameters, all_parameters, Signature, type_of, result_type, signature, may_declare, entity_behind, with_function, body_scope, around_body, body_judged, declared_function, item_judged, all_items, defined_in, start_scope, unit_judged}
use Rattle.c_eval.specs.Text.{Definition, definition_in, item_definitions, definitions}
use Rattle.c_fewer_types.proofs.Judged.{keeping_is, first_kept}
use Rattle.c_fewer_types.specs.Standing.{IsTextName}
use Rattle.c_fewer_types.proofs.FewerTypedRules.{after_is, both_is}
use Rattle.c_fewer_items.proofs.Objects.{declared_is}
use Rattle.c_programs.specs.Programs.{DeclsHaveNames, ItemsHaveNames}
use Rattle.c_compiled.specs.Few.{TagsHaveObjects}
use Rattle.c_compiled.specs.Functions.{IsTextScope, IsTextFunction, FunctionsOfTextsAreTextFunctions}
use Rattle.c_compiled.proofs.Tags.{words_are_some, AllObjects, begun_words, tags_behind}

-- ---- names

named_scope : (defined : List (List ℕ)) (s : Scope) (n : List ℕ) (x : Entity) → IsTextName n → IsTextScope defined s → IsTextScope defined (with_name s n x)
named_scope defined s n x text a = record { tags = a.tags; names = λ name y e. go name y (bytes_eq name n) refl e; functions = a.functions }
  where
    go : (name : List ℕ) (y : Entity) (b : Bool) → bytes_eq name n ≡ b → cond b (Some x) (entity_of s name) ≡ Some y → IsTextName name
    go name y true k e = subst (λ z. IsTextName z) (sym ((bytes_eq-Decides name n).0 k)) text
    go name y false k e = a.names name y e

entered_scope : (defined : List (List ℕ)) (s : Scope) → IsTextScope defined s → IsTextScope defined (entered s)
entered_scope defined s a = record { tags = a.tags; names = a.names; functions = a.functions }

-- ---- structs

joined : (tags : Tags) (xs : List (List ℕ × CType)) (m : List ℕ × CType) → AllObjects tags xs → is_object_type tags m.1 ≡ true → AllObjects tags (xs ++ m ∷ [])
joined tags [] m c d = (d, tt)
joined tags (x ∷ xs) m c d = (c.0, joined tags xs m c.1 d)

longer : (tags : Tags) (xs : List (List ℕ × CType)) (m : List ℕ × CType) → words_of_members tags xs ≤ words_of_members tags (xs ++ m ∷ [])
longer tags [] m = omega arith
longer tags (x ∷ xs) m = let k = longer tags xs m in omega (arith, k)

abbrev member_rules : List (List ℕ × CType) → CDecl → List Rule
member_rules before d = (option_map_or (λ _. false) (meaning before d.name) true, fault.Twice d.pos) ∷ (is_none d.first, fault.Mismatch d.pos) ∷ []

member_object : (s : Scope) (before : List (List ℕ × CType)) (d : CDecl) (m : List ℕ × CType) → member s before d ≡ Ok m → is_object_type s.tags m.1 ≡ true
member_object s before d m e =
    let k = after_is (after (written s d.pos d.ty) (λ t. object_type s d.pos t)) (λ t. keeping (member_rules before d) (d.name, t)) m e in
    let w = after_is (written s d.pos d.ty) (λ t. object_type s d.pos t) k.0 k.1 in
    let o = keeping_is {A = CType} ((is_object_type s.tags w.0, fault.Mismatch d.pos) ∷ []) w.0 k.0 w.2 in
    let r = keeping_is {A = List ℕ × CType} (member_rules before d) (d.name, k.0) m k.2 in
    subst (λ z. is_object_type s.tags z ≡ true) (o.1 ∙ ap (λ z. z.1) r.1) (first_kept (is_object_type s.tags w.0) (fault.Mismatch d.pos) [] o.0).0

-- members are objects, and as many words as before at least
record MembersAre (tags : Tags) (before ms : List (List ℕ × CType)) : Type 0 where
  objects : AllObjects tags ms
  longer : words_of_members tags before ≤ words_of_members tags ms

members_are : (s : Scope) (before : List (List ℕ × CType)) (ds : List CDecl) (ms : List (List ℕ × CType)) → AllObjects s.tags before → members s before ds ≡ Ok ms → MembersAre s.tags before ms
members_are s before [] ms c e = let is : before ≡ ms = cc e in subst (λ z. MembersAre s.tags before z) is (record { objects = c; longer = omega arith })
members_are s before (d ∷ ds) ms c e =
    let k = both_is (member s before d) (members s (members_or before (member s before d)) ds) (λ _ ms. Ok ms) ms e in
    let rest : members s (before ++ k.0 ∷ []) ds ≡ Ok k.1.0 = subst (λ q. members s (members_or before q) ds ≡ Ok k.1.0) k.1.1 k.1.2 in
    let is : k.1.0 ≡ ms = cc k.1.3 in
    let m = members_are s (before ++ k.0 ∷ []) ds k.1.0 (joined s.tags before k.0 c (member_object s before d k.0 k.1.1)) rest in
    let one = longer s.tags before k.0 in
    let two = m.longer in
    subst (λ z. MembersAre s.tags before z) is (record { objects = m.objects; longer = omega (arith, one, two) })

-- some members have some words
some_words : (s : Scope) (ds : List CDecl) (ms : List (List ℕ × CType)) → ((t : CType) → is_object_type s.tags t ≡ true → 1 ≤ words_of s.tags t) → some_members ds ≡ true → members s [] ds ≡ Ok ms → 1 ≤ words_of_members s.tags ms
some_words s [] ms words some e = absurd (cc some)
some_words s (d ∷ ds) ms words some e =
    let k = both_is (member s [] d) (members s (members_or [] (member s [] d)) ds) (λ _ ms. Ok ms) ms e in
    let rest : members s (k.0 ∷ []) ds ≡ Ok k.1.0 = subst (λ q. members s (members_or [] q) ds ≡ Ok k.1.0) k.1.1 k.1.2 in
    let is : k.1.0 ≡ ms = cc k.1.3 in
    let object : is_object_type s.tags k.0.1 ≡ true = member_object s [] d k.0 k.1.1 in
    let m = members_are s (k.0 ∷ []) ds k.1.0 (object, tt) rest in
    let one : 1 ≤ words_of s.tags k.0.1 = words k.0.1 object in
    let two : words_of s.tags k.0.1 + 0 ≤ words_of_members s.tags k.1.0 = m.longer in
    subst (λ z. 1 ≤ words_of_members s.tags z) is (omega (arith, one, two))

no_tag : (o : Option Layout) → not (option_map_or (λ _. true) o false) ≡ true → o ≡ None
no_tag None e = refl
no_tag (Some l) e = absurd (cc e)

struct_scope : (defined : List (List ℕ)) (s : Scope) (tag : CTag) (r : Scope) → IsTextScope defined s → tag_declared s tag ≡ Ok r → IsTextScope defined r
struct_scope defined s tag r a e =
    let inner : Scope = with_tag s tag.name Unfinished in
    let rules : List Rule = (not (is_tag s tag.name), fault.Twice tag.pos) ∷ (some_members tag.members, fault.Mismatch tag.pos) ∷ [] in
    let k = after_is (members inner [] tag.members) (λ ms. keeping rules (with_tag s tag.name (Members ms (words_of_members inner.tags ms)))) r e in
    let ms : List (List ℕ × CType) = k.0 in
    let words : ℕ = words_of_members inner.tags ms in
    let l = keeping_is {A = Scope} rules (with_tag s tag.name (Members ms words)) r k.2 in
    let once = first_kept (not (is_tag s tag.name)) (fault.Twice tag.pos) ((some_members tag.members, fault.Mismatch tag.pos) ∷ []) l.0 in
    let one = first_kept (some_members tag.members) (fault.Mismatch tag.pos) [] once.1 in
    let all = members_are inner [] tag.members ms tt k.1 in
    let few : 1 ≤ words = some_words inner tag.members ms (λ t o. begun_words s.tags tag.name ms words a.tags t o) one.0 k.1 in
    let tags : TagsHaveObjects ((tag.name, Members ms words) ∷ s.tags) = tags_behind s.tags tag.name ms words (no_tag (meaning s.tags tag.name) once.0) a.tags all.objects few in
    subst (λ z. IsTextScope defined z) l.1 (record { tags = tags; names = λ name x e. a.names name x e; functions = a.functions })

-- ---- functions

-- with other names outside
abbrev outside : Scope → Names → Scope
outside s names = record s { outer = names }

parameter_scope : (defined : List (List ℕ)) (s : Scope) (names : Names) (name : List ℕ) (t : CType) → IsTextName name → IsTextScope defined (outside s names) → IsTextScope defined (outside (with_parameter s name t) names)
parameter_scope defined s names [] t n a = a
parameter_scope defined s names (c ∷ cs) t n a = named_scope defined (outside s names) (c ∷ cs) (Object t) n a

parameters_scope : (defined : List (List ℕ)) (s : Scope) (names : Names) (ds : List CDecl) (r : Parameters) → DeclsHaveNames ds → IsTextScope defined (outside s names) → all_parameters s ds ≡ Ok r → IsTextScope defined (outside r.scope names)
parameters_scope defined s names [] r n a e = let is : record { types = type.NoType; scope = s } ≡ r = cc e in subst (λ (z : Parameters). IsTextScope defined (outside z.scope names)) is a
parameters_scope defined s names (d ∷ ds) r n a e =
    let k = both_is (parameter s d) (all_parameters (parameter_scope_or s (parameter s d)) ds) (λ (first : Parameter) (rest : Parameters). Ok (record { types = type.MoreType first.ty rest.types; scope = rest.scope })) r e in
    let rules : List Rule = (not (is_declared_here s d.name), fault.Twice d.pos) ∷ (is_none d.first, fault.Mismatch d.pos) ∷ [] in
    let w = after_is (declared_parameter s d) (λ t. keeping rules (record { ty = t; scope = with_parameter s d.name t })) k.0 k.1.1 in
    let o = keeping_is {A = Parameter} rules (record { ty = w.0; scope = with_parameter s d.name w.0 }) k.0 w.2 in
    let first_is : parameter s d ≡ Ok (record { ty = w.0; scope = with_parameter s d.name w.0 }) = k.1.1 ∙ ap (λ (z : Parameter). Ok z) (sym o.1) in
    let m = parameters_scope defined (with_parameter s d.name w.0) names ds k.1.0 n.1 (parameter_scope defined s names d.name w.0 n.0 a) (subst (λ q. all_parameters (parameter_scope_or s q) ds ≡ Ok k.1.0) first_is k.1.2) in
    let is : record { types = type.MoreType k.0.ty k.1.0.types; scope = k.1.0.scope } ≡ r = cc k.1.3 in
    subst (λ (z : Parameters). IsTextScope defined (outside z.scope names)) is m

signature_scope : (defined : List (List ℕ)) (s : Scope) (at : ℕ) (name : List ℕ) (result : CTy) (params : List CDecl) (f : Signature) → IsTextName name → DeclsHaveNames params → IsTextScope defined s → signature s at result params ≡ Ok f → IsTextScope defined (body_scope s name f)
signature_scope defined s at name result params f n p a e =
    let k = both_is (result_type s at result) (all_parameters (entered s) params) (λ t ps. Ok (record { result = t; parameters = ps })) f e in
    let g : Signature = record { result = k.0; parameters = k.1.0 } in
    let own : Scope = with_function s name (type_of g) true in
    let inner = parameters_scope defined (entered s) (own.block ++ s.outer) params k.1.0 p (entered_scope defined own (named_scope defined s name (entity_behind (meaning s.block name) (type_of g) true) n a)) k.1.2 in
    let is : g ≡ f = cc k.1.3 in
    subst (λ (z : Signature). IsTextScope defined (body_scope s name z)) is inner

-- ---- externals

-- of each function it holds
abbrev AreFunctions : List (List ℕ) → List Definition → Type 0
AreFunctions defined [] = Unit {0}
AreFunctions defined (f ∷ fs) = IsTextFunction defined f × AreFunctions defined fs

functions_joined : (defined : List (List ℕ)) (fs gs : List Definition) → AreFunctions defined fs → AreFunctions defined gs → AreFunctions defined (fs ++ gs)
functions_joined defined [] gs h k = k
functions_joined defined (f ∷ fs) gs h k = (h.0, functions_joined defined fs gs h.1 k)

-- the scope behind an external, and the function that it is
record ItemIs (defined : List (List ℕ)) (s : Scope) (item : CItem) (r : Scope) : Type 0 where
  scope : IsTextScope defined r
  functions : AreFunctions defined (item_definitions s item)

abbrev ItemHasNames : CItem → Type 0
ItemHasNames item = ItemsHaveNames (item ∷ [])

body_is : (defined : List (List ℕ)) (s : Scope) (name : List ℕ) (at : ℕ) (result : CTy) (params : List CDecl) (body : Option CStmt) (f : Signature) (inner : Scope) → IsTextScope defined (body_scope s name f) → signature s at result params ≡ Ok f → body_judged (body_scope s name f) (around_body f) body ≡ Ok inner
    → AreFunctions defined (item_definitions s (plain.Function name at result params body))
body_is defined s name at result params None f inner a told e = tt
body_is defined s name at result params (Some body) f inner a told e = subst (λ q. AreFunctions defined (definition_in s name params body q)) (sym told) (record { scope = a; behind = inner; typed = e }, tt)

item_is : (defined : List (List ℕ)) (s : Scope) (item : CItem) (r : Scope) → ItemHasNames item → IsTextScope defined s → item_judged s item ≡ Ok r → ItemIs defined s item r
item_is defined s (plain.StructItem tag) r n a e = record { scope = struct_scope defined s tag r a e; functions = tt }
item_is defined s (plain.Object d) r n a e =
    let x = declared_is s d r e in
    record { scope = subst (λ z. IsTextScope defined z) x.is (named_scope defined s d.name (Object x.ty) n.0 a); functions = tt }
item_is defined s (plain.Function name at result params body) r n a e =
    let k = after_is (signature s at result params) (λ f. declared_function s name at body f) r e in
    let f : Signature = k.0 in
    let rules : List Rule = (may_declare (meaning s.block name) (type_of f) (is_some body), fault.Twice at) ∷ [] in
    let l = after_is (body_judged (body_scope s name f) (around_body f) body) (λ _. keeping rules (with_function s name (type_of f) (is_some body))) r k.2 in
    let m = keeping_is {A = Scope} rules (with_function s name (type_of f) (is_some body)) r l.2 in
    record {
      scope = subst (λ z. IsTextScope defined z) m.1 (named_scope defined s name (entity_behind (meaning s.block name) (type_of f) (is_some body)) n.0 a);
      functions = body_is defined s name at result params body f l.0 (signature_scope defined s at name result params f n.0 n.1 a k.1) k.1 l.1;
    }

first_named : (item : CItem) (items : List CItem) → ItemsHaveNames (item ∷ items) → ItemHasNames item × ItemsHaveNames items
first_named (plain.StructItem tag) items h = (tt, h)
first_named (plain.Object d) items h = ((h.0, tt), h.1)
first_named (plain.Function name at result params body) items h = ((h.0, h.1, tt), h.2)

items_are : (defined : List (List ℕ)) (items : List CItem) (s r : Scope) → ItemsHaveNames items → IsTextScope defined s → all_items s items ≡ Ok r → AreFunctions defined (definitions s items)
items_are defined [] s r n a e = tt
items_are defined (item ∷ items) s r n a e =
    let l = both_is (item_judged s item) (all_items (scope_or s (item_judged s item)) items) (λ _ inner. Ok inner) r e in
    let h = first_named item items n in
    let m = item_is defined s item l.0 h.0 a l.1.1 in
    let before : scope_or s (item_judged s item) ≡ l.0 = ap (λ q. scope_or s q) l.1.1 in
    let rest = items_are defined items l.0 l.1.0 h.1 m.scope (subst (λ z. all_items z items ≡ Ok l.1.0) before l.1.2) in
    functions_joined defined (item_definitions s item) (definitions (scope_or s (item_judged s item)) items) m.functions (subst (λ z. AreFunctions defined (definitions z items)) (sym before) rest)

-- ---- the whole

abbrev AllNamed : Names → Type 0
AllNamed [] = Unit {0}
AllNamed (x ∷ xs) = IsTextName x.0 × AllNamed xs

found : (xs : Names) (name : List ℕ) (y : Entity) → AllNamed xs → meaning (xs ++ []) name ≡ Some y → IsTextName name
found [] name y h e = absurd (cc e)
found (x ∷ xs) name y h e = go (bytes_eq name x.0) refl (λ k. found xs name y h.1 k) e
  where
    go : (b : Bool) → bytes_eq name x.0 ≡ b → (meaning (xs ++ []) name ≡ Some y → IsTextName name) → cond b (Some x.1) (meaning (xs ++ []) name) ≡ Some y → IsTextName name
    go true k more e = subst (λ z. IsTextName z) (sym ((bytes_eq-Decides name x.0).0 k)) h.0
    go false k more e = more e

start_is : (defined : List (List ℕ)) → IsTextScope defined (file_scope defined)
start_is defined = record {
  tags = record { words = λ t o. words_are_some [] (λ tag e. absurd (cc e)) t o; members = λ tag name ms words t e f. absurd (cc e) };
  names = λ name x e. found built_ins name x (refl, (refl, (refl, (refl, (refl, (refl, tt)))))) e;
  functions = refl;
}

-- a judgement that isn't refused
judged_is : {A : Type 0} (r : Judged A) → is_ok r ≡ true → (a : A) × (r ≡ Ok a)
judged_is (Ok a) e = (a, refl)
judged_is (Err f) e = absurd (cc e)

found_function : (defined : List (List ℕ)) (fs : List Definition) (name : List ℕ) (f : Definition) → AreFunctions defined fs → find (λ g. bytes_eq name g.name) fs ≡ Some f → IsTextFunction defined f
found_function defined [] name f all e = absurd (cc e)
found_function defined (g ∷ fs) name f all e = go (bytes_eq name g.name) (λ k. found_function defined fs name f all.1 k) e
  where
    go : (b : Bool) → (find (λ x. bytes_eq name x.name) fs ≡ Some f → IsTextFunction defined f) → (if b then Some g else find (λ x. bytes_eq name x.name) fs) ≡ Some f → IsTextFunction defined f
    go true more e = let is : g ≡ f = cc e in subst (λ z. IsTextFunction defined z) is all.0
    go false more e = more e

pub functions_of_texts_are_text_functions : FunctionsOfTextsAreTextFunctions
functions_of_texts_are_text_functions u typed n name f e =
    let whole = judged_is (unit_judged u) typed in
    let k = after_is (all_items (start_scope u) u.items) _ whole.0 whole.1 in
    found_function (defined_in u.items) (definitions (start_scope u) u.items) name f (items_are (defined_in u.items) u.items (start_scope u) k.0 n (start_is (defined_in u.items)) k.1) e
