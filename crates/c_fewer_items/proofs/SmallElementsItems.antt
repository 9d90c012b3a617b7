-- File scopes of a typed text within the limits are narrow, and so are the scopes of its bodies.
use Rattle.std.proofs.Common.{◌≡◌, ℕ, ◌+◌, ◌≤◌, List, [], ◌∷◌, ◌++◌, Option, Some, None, Bool, true, false, refl, sym, ap, ◌∙◌, subst, cond, arith}
use Rattle.std.specs.Prelude.{not, is_none, is_some, IfOk, Ok}
use Rattle.std.specs.Option.{option_map_or}
use Rattle.std.specs.Str.{bytes_eq}
use Rattle.std.proofs.lemmas.Slice.Eq.{bytes_eq-Decides}
use Rattle.c_syntax.specs.Plain as plain
use Rattle.c_syntax.specs.Plain.{CTy, CDecl, CStmt, CTag, CItem}
use Rattle.c_syntax.specs.Words.{meaning}
use Rattle.c_types.specs.declared.fault.TypeFault.TheVariants as fault
use Rattle.c_types.specs.Types as type
use Rattle.c_types.specs.Types.{CType, Layout, Unfinished, Members, Tags, layout_words, words_of, is_object_type, decayed}
use Rattle.c_types.specs.Limits.{is_over, wide_types, wide_types_in}
use Rattle.c_types.specs.Refusals.{Rule, after, keeping}
use Rattle.c_types.specs.Scope.{Names, Scope, Entity, Object, Routine, BuiltIn, Printf, entity_of, entered, with_name, is_declared_here}
use Rattle.c_types.specs.Expressions.{written, is_result_type}
use Rattle.c_types.specs.Declarations.{object_type, member, members_or, members, words_of_members, with_tag, is_tag, some_members, tag_declared, scope_or, declared_type}
use Rattle.c_types.specs.Units.{Parameter, with_parameter, declared_parameter, parameter, parameter_scope_or, Parameters, all_parameters, Signature, type_of, result_type, signature, may_declare, entity_behind, with_function, body_scope, around_body, body_judged, declared_function, item_judged, all_items}
use Rattle.c_types.specs.Census.{of_type, body_sum, parameters_sum, members_sum, maybe_body_sum, item_sum, items_sum}
use Rattle.c_eval.specs.Text.{Definition, definition_in, item_definitions, definitions}
use Rattle.c_fewer_types.specs.Written.{CanBeWritten, ScopeCanBeWritten, EntityCanBeWritten, StringsAreShort}
use Rattle.c_fewer_types.proofs.Can.{types_can_be_written}
use Rattle.c_limited.specs.Narrow.{IsNarrow, EntityIsNarrow, ScopeIsNarrow}
use Rattle.c_limited.proofs.Sums.{weight, wide, strange, Within, front, last}
use Rattle.c_fewer_types.proofs.Judged.{keeping_is, first_kept}
use Rattle.c_fewer_types.specs.Standing.{StmtHas, IsDeclaration}
use Rattle.c_fewer_types.proofs.FewerTypedRules.{after_is, both_is}
use Rattle.c_fewer_meaning.specs.FewerStatementsOrdinary.{StmtIsOrdinary}
use Rattle.c_fewer_items.proofs.Ordinary.{statements_are_ordinary}
use Rattle.c_fewer_meaning.specs.Seeing.{SeesAll}
use Rattle.c_fewer_meaning.proofs.Expressions.{sees_entered}
use Rattle.c_fewer_items.specs.Files.{FilesStand}
use Rattle.c_fewer_items.specs.Kept.{BodyFits, ItemFits, ItemsFit}
use Rattle.c_fewer_items.proofs.Files.{in_file}
use Rattle.c_fewer_items.proofs.Objects.{declared_is}
use Rattle.c_fewer_items.proofs.Items.{item_goes}
use Rattle.c_fewer_items.specs.SmallElementsLaws.{BodiesAreOrdinary}
use Rattle.c_fewer_items.proofs.Tags.{Keeps, behind_keeps, narrow_behind, narrow_closed}
use Rattle.c_fewer_items.proofs.Sums.{told_narrow, object_narrow, statement_writes, block_writes}

-- ---- names

name_narrow : (s : Scope) (n : List ℕ) (x : Entity) → ScopeIsNarrow s → EntityIsNarrow s.tags (Some x) → ScopeIsNarrow (with_name s n x)
name_narrow s n x a c = record { names = λ name. go name (bytes_eq name n); members = a.members }
  where
    go : (name : List ℕ) (b : Bool) → EntityIsNarrow s.tags (cond b (Some x) (entity_of s name))
    go name true = c
    go name false = a.names name

entered_narrow : (s : Scope) → ScopeIsNarrow s → ScopeIsNarrow (entered s)
entered_narrow s a = record { names = a.names; members = a.members }

-- ---- structs

abbrev AllNarrow : Tags → List (List ℕ × CType) → Type 0
AllNarrow tags [] = Unit {0}
AllNarrow tags (m ∷ ms) = (CanBeWritten tags m.1 × IsNarrow tags m.1) × AllNarrow tags ms

joined : (tags : Tags) (xs : List (List ℕ × CType)) (m : List ℕ × CType) → AllNarrow tags xs → CanBeWritten tags m.1 × IsNarrow tags m.1 → AllNarrow tags (xs ++ m ∷ [])
joined tags [] m c d = (d, tt)
joined tags (x ∷ xs) m c d = (c.0, joined tags xs m c.1 d)

found_narrow : (tags : Tags) (ms : List (List ℕ × CType)) (name : List ℕ) (t : CType) → AllNarrow tags ms → meaning ms name ≡ Some t → CanBeWritten tags t × IsNarrow tags t
found_narrow tags [] name t c e = absurd (cc e)
found_narrow tags (m ∷ ms) name t c e = go (bytes_eq name m.0) (λ k. found_narrow tags ms name t c.1 k) e
  where
    go : (b : Bool) → (meaning ms name ≡ Some t → CanBeWritten tags t × IsNarrow tags t) → cond b (Some m.1) (meaning ms name) ≡ Some t → CanBeWritten tags t × IsNarrow tags t
    go true more e = let is : m.1 ≡ t = cc e in subst (λ z. CanBeWritten tags z × IsNarrow tags z) is c.0
    go false more e = more e

abbrev member_rules : List (List ℕ × CType) → CDecl → List Rule
member_rules before d = (option_map_or (λ _. false) (meaning before d.name) true, fault.Twice d.pos) ∷ (is_none d.first, fault.Mismatch d.pos) ∷ []

member_narrow : (s : Scope) (before : List (List ℕ × CType)) (d : CDecl) (m : List ℕ × CType) → of_type (wide_types s.tags) (written s d.pos d.ty) ≤ 0 → member s before d ≡ Ok m → CanBeWritten s.tags m.1 × IsNarrow s.tags m.1
member_narrow s before d m few e =
    let k = after_is (after (written s d.pos d.ty) (λ t. object_type s d.pos t)) (λ t. keeping (member_rules before d) (d.name, t)) m e in
    let w = after_is (written s d.pos d.ty) (λ t. object_type s d.pos t) k.0 k.1 in
    let o = keeping_is {A = CType} ((is_object_type s.tags w.0, fault.Mismatch d.pos) ∷ []) w.0 k.0 w.2 in
    let r = keeping_is {A = List ℕ × CType} (member_rules before d) (d.name, k.0) m k.2 in
    let c : CanBeWritten s.tags w.0 = subst (λ q. IfOk q (CanBeWritten s.tags)) w.1 (types_can_be_written s d.pos d.ty) in
    let n : IsNarrow s.tags w.0 = subst (λ q. IfOk q (IsNarrow s.tags)) w.1 (told_narrow s.tags (written s d.pos d.ty) few) in
    subst (λ z. CanBeWritten s.tags z × IsNarrow s.tags z) (o.1 ∙ ap (λ z. z.1) r.1) (c, n)

members_narrow : (s : Scope) (before : List (List ℕ × CType)) (ds : List CDecl) (ms : List (List ℕ × CType)) → AllNarrow s.tags before → members_sum wide s ds ≤ 0 → members s before ds ≡ Ok ms → AllNarrow s.tags ms
members_narrow s before [] ms c few e = let is : before ≡ ms = cc e in subst (λ z. AllNarrow s.tags z) is c
members_narrow s before (d ∷ ds) ms c few e =
    let k = both_is (member s before d) (members s (members_or before (member s before d)) ds) (λ _ ms. Ok ms) ms e in
    let one : of_type (wide_types s.tags) (written s d.pos d.ty) ≤ 0 = omega (arith, few) in
    let two : members_sum wide s ds ≤ 0 = omega (arith, few) in
    let m = member_narrow s before d k.0 one k.1.1 in
    let rest : members s (before ++ k.0 ∷ []) ds ≡ Ok k.1.0 = subst (λ q. members s (members_or before q) ds ≡ Ok k.1.0) k.1.1 k.1.2 in
    let is : k.1.0 ≡ ms = cc k.1.3 in
    subst (λ z. AllNarrow s.tags z) is (members_narrow s (before ++ k.0 ∷ []) ds k.1.0 (joined s.tags before k.0 c m) two rest)

abbrev listed : Option Layout → List (List ℕ × CType)
listed (Some (Members others count)) = others
listed o = []

entity_behind_struct : (tags more : Tags) → Keeps tags more → (o : Option Entity) → EntityCanBeWritten tags o → EntityIsNarrow tags o → EntityIsNarrow more o
entity_behind_struct tags more k None c h = tt
entity_behind_struct tags more k (Some (Object t)) c h = narrow_behind tags more k t c h
entity_behind_struct tags more k (Some (Routine t begun)) c h = narrow_behind tags more k t c h
entity_behind_struct tags more k (Some (BuiltIn t)) c h = narrow_behind tags more k t c h
entity_behind_struct tags more k (Some Printf) c h = tt

tag_narrow : (s : Scope) (n : List ℕ) (ms : List (List ℕ × CType)) (words : ℕ) → is_over words ≡ 0 → meaning s.tags n ≡ None → ScopeCanBeWritten s → ScopeIsNarrow s → AllNarrow ((n, Unfinished) ∷ s.tags) ms → ScopeIsNarrow (with_tag s n (Members ms words))
tag_narrow s n ms words few fresh w a c = record {
  names = λ name. entity_behind_struct s.tags ((n, Members ms words) ∷ s.tags) (behind_keeps s.tags n (Members ms words) fresh) (entity_of s name) (w.names name) (a.names name);
  members = λ tag others count name t e f. go tag others count name t (bytes_eq tag n) e f;
}
  where
    go : (tag : List ℕ) (others : List (List ℕ × CType)) (count : ℕ) (name : List ℕ) (t : CType) (b : Bool) → cond b (Some (Members ms words)) (meaning s.tags tag) ≡ Some (Members others count) → meaning others name ≡ Some t → IsNarrow ((n, Members ms words) ∷ s.tags) t
    go tag others count name t true e f =
        let k = found_narrow ((n, Unfinished) ∷ s.tags) ms name t c (ap (λ z. meaning z name) (ap listed e) ∙ f) in
        narrow_closed s.tags n ms words few t k.0 k.1
    go tag others count name t false e f =
        narrow_behind s.tags ((n, Members ms words) ∷ s.tags) (behind_keeps s.tags n (Members ms words) fresh) t (w.members tag others count name t e f) (a.members tag others count name t e f)

no_tag : (o : Option Layout) → not (option_map_or (λ _. true) o false) ≡ true → o ≡ None
no_tag None e = refl
no_tag (Some l) e = absurd (cc e)

struct_narrow : (s : Scope) (tag : CTag) (r : Scope) → ScopeCanBeWritten s → ScopeIsNarrow s → item_sum wide s (plain.StructItem tag) ≤ 0 → tag_declared s tag ≡ Ok r → ScopeIsNarrow r
struct_narrow s tag r w a few e =
    let inner : Scope = with_tag s tag.name Unfinished in
    let rules : List Rule = (not (is_tag s tag.name), fault.Twice tag.pos) ∷ (some_members tag.members, fault.Mismatch tag.pos) ∷ [] in
    let k = after_is (members inner [] tag.members) (λ ms. keeping rules (with_tag s tag.name (Members ms (words_of_members inner.tags ms)))) r e in
    let ms : List (List ℕ × CType) = k.0 in
    let words : ℕ = words_of_members inner.tags ms in
    let l = keeping_is {A = Scope} rules (with_tag s tag.name (Members ms words)) r k.2 in
    let once = first_kept (not (is_tag s tag.name)) (fault.Twice tag.pos) ((some_members tag.members, fault.Mismatch tag.pos) ∷ []) l.0 in
    let members_few : members_sum wide inner tag.members ≤ 0 = omega (arith, few) in
    let here : scope_or s (tag_declared s tag) ≡ with_tag s tag.name (Members ms words) = ap (λ q. scope_or s q) e ∙ sym l.1 in
    let own : wide_types (scope_or s (tag_declared s tag)).tags (type.Struct tag.name) ≤ 0 = omega (arith, few) in
    let there : is_over (layout_words (meaning ((tag.name, Members ms words) ∷ s.tags) tag.name)) ≤ 0 = subst (λ (z : Scope). wide_types z.tags (type.Struct tag.name) ≤ 0) here own in
    let found : meaning ((tag.name, Members ms words) ∷ s.tags) tag.name ≡ Some (Members ms words) = ap (λ b. cond b (Some (Members ms words)) (meaning s.tags tag.name)) ((bytes_eq-Decides tag.name tag.name).1 refl) in
    let narrow : is_over words ≤ 0 = subst (λ o. is_over (layout_words o) ≤ 0) found there in
    subst (λ z. ScopeIsNarrow z) l.1 (tag_narrow s tag.name ms words (omega (arith, narrow)) (no_tag (meaning s.tags tag.name) once.0) w a (members_narrow inner [] tag.members ms tt members_few k.1))

-- ---- functions

decayed_narrow : (tags : Tags) (t : CType) → IsNarrow tags t → IsNarrow tags (decayed t)
decayed_narrow tags (type.Array t n) h = let whole : is_over (words_of tags (type.Array t n)) + wide_types tags t ≡ 0 = h in omega (arith, whole)
decayed_narrow tags type.Void h = h
decayed_narrow tags type.Int h = h
decayed_narrow tags type.Unsigned h = h
decayed_narrow tags type.Char h = h
decayed_narrow tags type.UChar h = h
decayed_narrow tags type.Null h = h
decayed_narrow tags (type.Struct tag) h = h
decayed_narrow tags (type.Pointer t) h = h
decayed_narrow tags (type.Function t ts) h = h

tags_stay : (s : Scope) (name : List ℕ) (t : CType) → (with_parameter s name t).tags ≡ s.tags
tags_stay s [] t = refl
tags_stay s (c ∷ cs) t = refl

-- with other names outside
abbrev outside : Scope → Names → Scope
outside s names = record s { outer = names }

parameter_narrow : (s : Scope) (names : Names) (name : List ℕ) (t : CType) → IsNarrow s.tags t → ScopeIsNarrow (outside s names) → ScopeIsNarrow (outside (with_parameter s name t) names)
parameter_narrow s names [] t h a = a
parameter_narrow s names (c ∷ cs) t h a = name_narrow (outside s names) (c ∷ cs) (Object t) a h

record Narrowly (s : Scope) (names : Names) (r : Parameters) : Type 0 where
  scope : ScopeIsNarrow (outside r.scope names)
  types : wide_types_in s.tags r.types ≡ 0

parameters_narrow : (s : Scope) (names : Names) (ds : List CDecl) (r : Parameters) → ScopeIsNarrow (outside s names) → parameters_sum wide s ds ≤ 0 → all_parameters s ds ≡ Ok r → Narrowly s names r
parameters_narrow s names [] r a few e = let is : record { types = type.NoType; scope = s } ≡ r = cc e in subst (λ (z : Parameters). Narrowly s names z) is (record { scope = a; types = refl })
parameters_narrow s names (d ∷ ds) r a few e =
    let k = both_is (parameter s d) (all_parameters (parameter_scope_or s (parameter s d)) ds) (λ (first : Parameter) (rest : Parameters). Ok (record { types = type.MoreType first.ty rest.types; scope = rest.scope })) r e in
    let rules : List Rule = (not (is_declared_here s d.name), fault.Twice d.pos) ∷ (is_none d.first, fault.Mismatch d.pos) ∷ [] in
    let w = after_is (declared_parameter s d) (λ t. keeping rules (record { ty = t; scope = with_parameter s d.name t })) k.0 k.1.1 in
    let o = keeping_is {A = Parameter} rules (record { ty = w.0; scope = with_parameter s d.name w.0 }) k.0 w.2 in
    let one : of_type (wide_types s.tags) (declared_parameter s d) ≤ 0 = omega (arith, few) in
    let t : IsNarrow s.tags w.0 = subst (λ q. IfOk q (IsNarrow s.tags)) w.1 (told_narrow s.tags (declared_parameter s d) one) in
    let first_is : parameter s d ≡ Ok (record { ty = w.0; scope = with_parameter s d.name w.0 }) = k.1.1 ∙ ap (λ (z : Parameter). Ok z) (sym o.1) in
    let two : parameters_sum wide (parameter_scope_or s (parameter s d)) ds ≤ 0 = omega (arith, few) in
    let m = parameters_narrow (with_parameter s d.name w.0) names ds k.1.0 (parameter_narrow s names d.name w.0 t a) (subst (λ q. parameters_sum wide (parameter_scope_or s q) ds ≤ 0) first_is two) (subst (λ q. all_parameters (parameter_scope_or s q) ds ≡ Ok k.1.0) first_is k.1.2) in
    let rest : wide_types_in s.tags k.1.0.types ≡ 0 = subst (λ z. wide_types_in z k.1.0.types ≡ 0) (tags_stay s d.name w.0) m.types in
    let is : record { types = type.MoreType w.0 k.1.0.types; scope = k.1.0.scope } ≡ r = ap (λ (z : Parameter). record { types = type.MoreType z.ty k.1.0.types; scope = k.1.0.scope }) o.1 ∙ cc k.1.3 in
    let both_none : wide_types s.tags w.0 + wide_types_in s.tags k.1.0.types ≡ 0 = omega (arith, t, rest) in
    subst (λ (z : Parameters). Narrowly s names z) is (record { scope = m.scope; types = both_none })

-- what a name of a function stands for
function_narrow : (s : Scope) (name : List ℕ) (t : CType) (d : Bool) → s.outer ≡ [] → ScopeIsNarrow s → IsNarrow s.tags t → ScopeIsNarrow (with_function s name t d)
function_narrow s name t d outer a h = name_narrow s name (entity_behind (meaning s.block name) t d) a (go (meaning s.block name) refl)
  where
    go : (o : Option Entity) → meaning s.block name ≡ o → EntityIsNarrow s.tags (Some (entity_behind o t d))
    go None e = h
    go (Some (Object u)) e = h
    go (Some (Routine u b)) e = h
    go (Some (BuiltIn u)) e = subst (λ o. EntityIsNarrow s.tags o) (in_file s outer name ∙ e) (a.names name)
    go (Some Printf) e = h

sees_self : (s : Scope) → SeesAll s s
sees_self s = record { tags = refl; names = λ name. record { entity = refl; defined = refl }; here = λ name e. e }

body_ordinary : (body : CStmt) (s : Scope) (f : Signature) (r : Scope) → ScopeIsNarrow s → StmtHas StringsAreShort IsDeclaration body → body_judged s (around_body f) (Some body) ≡ Ok r → Within (body_sum weight s body) (body_sum wide s body) (body_sum strange s body) → StmtIsOrdinary s body
body_ordinary (plain.Block ss) s f r a k e h = statements_are_ordinary s (plain.Block ss) a (block_writes ss s (entered s) (around_body f) r (sees_entered s) k e (last _ _ _ h))
body_ordinary t s f r a k e h = statements_are_ordinary s t a (statement_writes t s s (around_body f) r (sees_self s) k e h)

signature_narrow : (s : Scope) (at : ℕ) (name : List ℕ) (result : CTy) (params : List CDecl) (f : Signature) → s.outer ≡ [] → ScopeIsNarrow s → of_type (wide_types s.tags) (written s at result) ≤ 0 → parameters_sum wide (entered s) params ≤ 0 → signature s at result params ≡ Ok f → IsNarrow s.tags (type_of f) × ScopeIsNarrow (body_scope s name f)
signature_narrow s at name result params f outer a few more e =
    let k = both_is (result_type s at result) (all_parameters (entered s) params) (λ t ps. Ok (record { result = t; parameters = ps })) f e in
    let w = after_is (written s at result) (λ u. keeping ((is_result_type u, fault.Mismatch at) ∷ []) u) k.0 k.1.1 in
    let o = keeping_is {A = CType} ((is_result_type w.0, fault.Mismatch at) ∷ []) w.0 k.0 w.2 in
    let t : IsNarrow s.tags k.0 = subst (λ z. IsNarrow s.tags z) o.1 (subst (λ q. IfOk q (IsNarrow s.tags)) w.1 (told_narrow s.tags (written s at result) few)) in
    let plainly = parameters_narrow (entered s) (s.block ++ s.outer) params k.1.0 (entered_narrow s a) more k.1.2 in
    let types : wide_types_in s.tags k.1.0.types ≡ 0 = plainly.types in
    let whole : wide_types s.tags k.0 + wide_types_in s.tags k.1.0.types ≡ 0 = omega (arith, t, types) in
    let g : Signature = record { result = k.0; parameters = k.1.0 } in
    let names : Names = (with_function s name (type_of g) true).block ++ s.outer in
    let inner = parameters_narrow (entered s) names params k.1.0 (entered_narrow (with_function s name (type_of g) true) (function_narrow s name (type_of g) true outer a whole)) more k.1.2 in
    let is : g ≡ f = cc k.1.3 in
    subst (λ (z : Signature). IsNarrow s.tags (type_of z) × ScopeIsNarrow (body_scope s name z)) is (whole, inner.scope)

-- ---- externals

bodies_joined : (fs gs : List Definition) → BodiesAreOrdinary fs → BodiesAreOrdinary gs → BodiesAreOrdinary (fs ++ gs)
bodies_joined [] gs h k = k
bodies_joined (f ∷ fs) gs h k = (h.0, bodies_joined fs gs h.1 k)

-- the scope behind an external, and the bodies in it
record ItemIs (s : Scope) (item : CItem) (r : Scope) : Type 0 where
  scope : ScopeIsNarrow r
  bodies : BodiesAreOrdinary (item_definitions s item)

-- the body of a function that has one
body_is : (test : List ℕ → Bool) (names : List (List ℕ)) (s : Scope) (name : List ℕ) (at : ℕ) (result : CTy) (params : List CDecl) (body : Option CStmt) (f : Signature) (inner : Scope) → ScopeIsNarrow (body_scope s name f) → BodyFits test names s name (signature s at result params) body → signature s at result params ≡ Ok f
    → body_judged (body_scope s name f) (around_body f) body ≡ Ok inner → Within (maybe_body_sum weight s name body (signature s at result params)) (maybe_body_sum wide s name body (signature s at result params)) (maybe_body_sum strange s name body (signature s at result params))
    → BodiesAreOrdinary (item_definitions s (plain.Function name at result params body))
body_is test names s name at result params None f inner a fit told e h = tt
body_is test names s name at result params (Some body) f inner a fit told e h =
    let sums : Within (body_sum weight (body_scope s name f) body) (body_sum wide (body_scope s name f) body) (body_sum strange (body_scope s name f) body) =
    subst (λ q. Within (maybe_body_sum weight s name (Some body) q) (maybe_body_sum wide s name (Some body) q) (maybe_body_sum strange s name (Some body) q)) told h in
    subst (λ q. BodiesAreOrdinary (definition_in s name params body q)) (sym told) (body_ordinary body (body_scope s name f) f inner a fit.0 e sums, tt)

function_is : (test : List ℕ → Bool) (names : List (List ℕ)) (s : Scope) (name : List ℕ) (at : ℕ) (result : CTy) (params : List CDecl) (body : Option CStmt) (f : Signature) (r : Scope) → s.outer ≡ [] → ScopeIsNarrow s → BodyFits test names s name (signature s at result params) body → signature s at result params ≡ Ok f → declared_function s name at body f ≡ Ok r
    → Within (item_sum weight s (plain.Function name at result params body)) (item_sum wide s (plain.Function name at result params body)) (item_sum strange s (plain.Function name at result params body)) → ItemIs s (plain.Function name at result params body) r
function_is test names s name at result params body f r outer a fit told e h =
    let one : of_type (wide_types s.tags) (written s at result) ≤ 0 = omega (arith, h.narrow) in
    let two : parameters_sum wide (entered s) params ≤ 0 = omega (arith, h.narrow) in
    let k = signature_narrow s at name result params f outer a one two told in
    let rules : List Rule = (may_declare (meaning s.block name) (type_of f) (is_some body), fault.Twice at) ∷ [] in
    let l = after_is (body_judged (body_scope s name f) (around_body f) body) (λ _. keeping rules (with_function s name (type_of f) (is_some body))) r e in
    let m = keeping_is {A = Scope} rules (with_function s name (type_of f) (is_some body)) r l.2 in
    record { scope = subst (λ z. ScopeIsNarrow z) m.1 (function_narrow s name (type_of f) (is_some body) outer a k.0); bodies = body_is test names s name at result params body f l.0 k.1 fit told l.1 (last _ _ _ h) }

item_is : (test : List ℕ → Bool) (names : List (List ℕ)) (s s' : Scope) (item : CItem) (r : Scope) → FilesStand test s s' → ItemFits test names s item → ScopeIsNarrow s → item_judged s item ≡ Ok r → Within (item_sum weight s item) (item_sum wide s item) (item_sum strange s item) → ItemIs s item r
item_is test names s s' (plain.StructItem tag) r file fit a e h = record { scope = struct_narrow s tag r file.written a h.narrow e; bodies = tt }
item_is test names s s' (plain.Object d) r file fit a e h =
    let x = declared_is s d r e in
    let few : of_type (λ t. wide_types s.tags t + 0) (declared_type s d) ≤ 0 = omega (arith, h.narrow) in
    let t : IsNarrow s.tags x.ty = subst (λ q. IfOk q (IsNarrow s.tags)) x.type_is (object_narrow s.tags (declared_type s d) few) in
    record { scope = subst (λ z. ScopeIsNarrow z) x.is (name_narrow s d.name (Object x.ty) a t); bodies = tt }
item_is test names s s' (plain.Function name at result params body) r file fit a e h =
    let k = after_is (signature s at result params) (λ f. declared_function s name at body f) r e in
    function_is test names s name at result params body k.0 r file.outer a fit.2 k.1 k.2 h

pub items_are : (test : List ℕ → Bool) (names : List (List ℕ)) (items : List CItem) (s s' r : Scope) → FilesStand test s s' → ItemsFit test names s items → ScopeIsNarrow s → all_items s items ≡ Ok r → Within (items_sum weight s items) (items_sum wide s items) (items_sum strange s items) → BodiesAreOrdinary (definitions s items)
items_are test names [] s s' r file fit a e h = tt
items_are test names (item ∷ items) s s' r file fit a e h =
    let l = both_is (item_judged s item) (all_items (scope_or s (item_judged s item)) items) (λ _ inner. Ok inner) r e in
    let m = item_is test names s s' item l.0 file fit.0 a l.1.1 (front _ _ _ h) in
    let g = item_goes test names s s' item l.0 file fit.0 l.1.1 in
    let before : scope_or s (item_judged s item) ≡ l.0 = ap (λ q. scope_or s q) l.1.1 in
    let rest : Within (items_sum weight l.0 items) (items_sum wide l.0 items) (items_sum strange l.0 items) = subst (λ z. Within (items_sum weight z items) (items_sum wide z items) (items_sum strange z items)) before (last _ _ _ h) in
    let n = items_are test names items l.0 g.other l.1.0 g.stand (subst (λ z. ItemsFit test names z items) before fit.1) m.scope (subst (λ z. all_items z items ≡ Ok l.1.0) before l.1.2) rest in
    bodies_joined (item_definitions s item) (definitions (scope_or s (item_judged s item)) items) m.bodies (subst (λ z. BodiesAreOrdinary (definitions z items)) (sym before) n)
