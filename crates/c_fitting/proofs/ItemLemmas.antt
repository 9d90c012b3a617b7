-- Externals and whole texts within the limits.
use Rattle.std.proofs.Common.{◌≡◌, ℕ, Bool, true, false, ◌&&◌, List, [], ◌∷◌, ◌++◌, Option, Some, None, refl, sym, subst, ◌∙◌, cond, arith}
use Rattle.std.specs.Prelude.{nat_le, ◌==◌, is_none, is_ok, not, Ok, Err, IsOk}
use Rattle.std.specs.Str.{bytes_eq}
use Rattle.std.proofs.lemmas.Bool.{and_parts}
use Rattle.std.proofs.lemmas.Bool.Decides.{nat_tests}
use Rattle.c_syntax.specs.Plain as plain
use Rattle.c_syntax.specs.Plain.{CTy, CDecl, CStmt, CItem, CUnit}
use Rattle.c_syntax.specs.Words.{meaning}
use Rattle.c_types.specs.declared.fault.TypeFault.TheVariants as fault
use Rattle.c_types.specs.Types as type
use Rattle.c_types.specs.Types.{CType, CTypes, Tags}
use Rattle.c_types.specs.Refusals.{Judged, after, both, keeping}
use Rattle.c_types.specs.Scope.{Scope, Names, Entity, Object, Routine, BuiltIn, Printf, entity_of, with_name, is_declared_here, entered, built_ins}
use Rattle.c_types.specs.Expressions.{written, parameter_type, is_result_type}
use Rattle.c_types.specs.Declarations.{first_fitting, fitting, declared, scope_or}
use Rattle.c_types.specs.Statements.{Around, stated, all_stated}
use Rattle.c_types.specs.Units.{Parameter, with_parameter, declared_parameter, parameter, parameter_scope_or, Parameters, all_parameters, Signature, type_of, result_type, signature, may_declare, entity_behind, with_function, body_scope, around_body, body_judged, declared_function, item_judged, all_items, start_scope}
use Rattle.c_types.specs.Census.{of_type, first_sum, object_sum, body_sum, parameters_sum, maybe_body_sum, item_sum, items_sum}
use Rattle.c_types.specs.Limits.{most_words, wide_types, file_words}
use Rattle.c_eval.specs.Text.{definition_in}
use Rattle.c_fitting.specs.Whole.{ObjectIsFit, TakesNoSlot, StmtIsFit, DefinitionsAreFit, ItemIsFit, ItemsAreFit, UnitIsFit}
use Rattle.c_fitting.specs.Blocks.{IsNoDeclaration, DeclaresInBlocks, ItemDeclaresInBlocks, ItemsDeclareInBlocks}
use Rattle.c_fitting.specs.Good.{IsGood, AreGood, TagsAreGood, EntityIsGood, ScopeIsGood}
use Rattle.c_fitting.specs.Laws.{TypedTextsAreFit}
use Rattle.c_fitting.proofs.Judgement.{IfOk, after_ok, both_ok, keeping_one, keeping_two, told}
use Rattle.c_fitting.proofs.Sums.{weighing, widening, IsLight, first, last}
use Rattle.c_fitting.proofs.WrittenLemmas.{IsFormed, good_ok, written_formed, parameter_formed, good_written}
use Rattle.c_fitting.proofs.AlikeLemmas.{self_same, entered_same}
use Rattle.c_fitting.proofs.ValueLemmas.{Declares, declares, is_declared, declared_good, name_good, object_known, local_fits}
use Rattle.c_fitting.proofs.StmtLemmas.{Follows, no_slot, with_answer, finish, err_both, Said, SaidAll, stmt_known, stmts_known}
use Rattle.c_fitting.proofs.TagLemmas.{tag_known}

-- ---- judgements one after the other, the second in the scope that the first gives

then_ok : {A B : Type 0} (G : A → Type 0) (H K : B → Type 0) (or : Judged A → Scope) (k : A → B → B) (f : Scope → Judged B) (r : Judged A) → IfOk G r → ((a : A) → r ≡ Ok a → G a → IfOk H (f (or r)))
    → ((a : A) (b : B) → r ≡ Ok a → G a → H b → K (k a b)) → IfOk K (both r (f (or r)) (λ a b. Ok (k a b)))
then_ok G H K or k f (Ok a) g rest make = finish H K k a (f (or (Ok a))) (rest a refl g) (λ b h. make a b refl g h)
then_ok G H K or k f (Err e) g rest make = err_both K e (f (or (Err e))) (λ a b. Ok (k a b))

-- ---- names

entity_by : (tags : Tags) (b : Bool) (x : Entity) (o : Option Entity) → EntityIsGood tags (Some x) → EntityIsGood tags o → EntityIsGood tags (cond b (Some x) o)
entity_by tags true x o g h = g
entity_by tags false x o g h = h

-- what stands for a name in one list or behind it
joined_by : (tags : Tags) (b : Bool) (x : Entity) (o p : Option Entity) → (EntityIsGood tags o → EntityIsGood tags p) → EntityIsGood tags (cond b (Some x) o) → EntityIsGood tags (cond b (Some x) p)
joined_by tags true x o p f g = g
joined_by tags false x o p f g = f g

joined_good : (tags : Tags) (xs ys : Names) (name : List ℕ) → EntityIsGood tags (meaning xs name) → EntityIsGood tags (meaning ys name) → EntityIsGood tags (meaning (xs ++ ys) name)
joined_good tags [] ys name g h = h
joined_good tags (x ∷ xs) ys name g h = joined_by tags (bytes_eq name x.0) x.1 (meaning xs name) (meaning (xs ++ ys) name) (λ k. joined_good tags xs ys name k h) g

block_good : (tags : Tags) (xs ys : Names) (name : List ℕ) → EntityIsGood tags (meaning (xs ++ ys) name) → EntityIsGood tags (meaning xs name)
block_good tags [] ys name g = tt
block_good tags (x ∷ xs) ys name g = joined_by tags (bytes_eq name x.0) x.1 (meaning (xs ++ ys) name) (meaning xs name) (λ k. block_good tags xs ys name k) g

abbrev AllAreGood : Tags → Names → Type 0
AllAreGood tags [] = Unit {0}
AllAreGood tags (x ∷ xs) = EntityIsGood tags (Some x.1) × AllAreGood tags xs

listed_good : (tags : Tags) (xs : Names) (name : List ℕ) → AllAreGood tags xs → EntityIsGood tags (meaning xs name)
listed_good tags [] name g = tt
listed_good tags (x ∷ xs) name g = entity_by tags (bytes_eq name x.0) x.1 (meaning xs name) g.0 (listed_good tags xs name g.1)

-- ---- signatures

abbrev BlockIsGood : Tags → Scope → Type 0
BlockIsGood tags s = (name : List ℕ) → EntityIsGood tags (meaning s.block name)

-- parameters with the scope behind them
record ParametersAreGood (tags : Tags) (ps : Parameters) : Type 0 where
  types : AreGood tags ps.types
  tags_is : ps.scope.tags ≡ tags
  block : BlockIsGood tags ps.scope

record ParameterIsGood (tags : Tags) (p : Parameter) : Type 0 where
  ty : IsGood tags p.ty
  tags_is : p.scope.tags ≡ tags
  block : BlockIsGood tags p.scope

parameter_tags : (s : Scope) (name : List ℕ) (t : CType) → (with_parameter s name t).tags ≡ s.tags
parameter_tags s [] t = refl
parameter_tags s (c ∷ cs) t = refl

parameter_block : (tags : Tags) (s : Scope) (name : List ℕ) (t : CType) → IsGood tags t → BlockIsGood tags s → BlockIsGood tags (with_parameter s name t)
parameter_block tags s [] t g b = b
parameter_block tags s (c ∷ cs) t g b = λ name. entity_by tags (bytes_eq name (c ∷ cs)) (Object t) (meaning s.block name) g (b name)

type_good : (s : Scope) (p : CDecl) → of_type (λ t. wide_types s.tags t) (declared_parameter s p) ≡ 0 → IfOk (IsGood s.tags) (declared_parameter s p)
type_good s p w =
    good_ok s.tags (declared_parameter s p) (after_ok (IsFormed s.tags) (IsFormed s.tags) (written s p.pos p.ty) (λ t. parameter_type p.pos t) (written_formed s p.pos p.ty) (λ t _ f. parameter_formed s.tags p.pos t f)) w

parameter_good : (tags : Tags) (s : Scope) → s.tags ≡ tags → BlockIsGood tags s → (p : CDecl) → of_type (λ t. wide_types s.tags t) (declared_parameter s p) ≡ 0 → IfOk (ParameterIsGood tags) (parameter s p)
parameter_good tags s e b p w =
    after_ok (IsGood s.tags) (ParameterIsGood tags) (declared_parameter s p)
    (λ t. keeping ((not (is_declared_here s p.name), fault.Twice p.pos) ∷ (is_none p.first, fault.Mismatch p.pos) ∷ []) (record { ty = t; scope = with_parameter s p.name t })) (type_good s p w)
    (λ t _ g. keeping_two (ParameterIsGood tags) (not (is_declared_here s p.name)) (fault.Twice p.pos) (is_none p.first) (fault.Mismatch p.pos) (record { ty = t; scope = with_parameter s p.name t })
    (λ _ _. let h : IsGood tags t = subst (λ x. IsGood x t) e g in
    record { ty = h; tags_is = parameter_tags s p.name t ∙ e; block = parameter_block tags s p.name t h b }))

parameters_good : (tags : Tags) (s : Scope) → s.tags ≡ tags → BlockIsGood tags s → (ps : List CDecl) → IsLight (parameters_sum weighing s ps) (parameters_sum widening s ps) → IfOk (ParametersAreGood tags) (all_parameters s ps)
parameters_good tags s e b [] l = record { types = tt; tags_is = e; block = b }
parameters_good tags s e b (p ∷ ps) l =
    then_ok (ParameterIsGood tags) (ParametersAreGood tags) (ParametersAreGood tags) (λ r. parameter_scope_or s r) (λ x rest. record { types = type.MoreType x.ty rest.types; scope = rest.scope }) (λ x. all_parameters x ps) (parameter s p)
    (parameter_good tags s e b p (last _ _ _ _ (first _ _ _ _ l)).wide_is)
    (λ a j g. parameters_good tags (parameter_scope_or s (parameter s p)) (subst (λ r. (parameter_scope_or s r).tags ≡ tags) (sym j) g.tags_is) (subst (λ r. BlockIsGood tags (parameter_scope_or s r)) (sym j) g.block) ps (last _ _ _ _ l))
    (λ a rest j g k. record { types = (g.ty, k.types); tags_is = k.tags_is; block = k.block })

record SignatureIsGood (tags : Tags) (f : Signature) : Type 0 where
  result : IsGood tags f.result
  single : is_result_type f.result ≡ true
  parameters : ParametersAreGood tags f.parameters

abbrev IsResult : Tags → CType → Type 0
IsResult tags t = IsGood tags t × (is_result_type t ≡ true)

signature_good : (s : Scope) (at : ℕ) (result : CTy) (params : List CDecl) → of_type (wide_types s.tags) (written s at result) ≡ 0 → IsLight (parameters_sum weighing (entered s) params) (parameters_sum widening (entered s) params)
    → IfOk (SignatureIsGood s.tags) (signature s at result params)
signature_good s at result params w l =
    both_ok (IsResult s.tags) (ParametersAreGood s.tags) (SignatureIsGood s.tags) (result_type s at result) (all_parameters (entered s) params) (λ t ps. Ok (record { result = t; parameters = ps }))
    (after_ok (IsGood s.tags) (IsResult s.tags) (written s at result) (λ u. keeping ((is_result_type u, fault.Mismatch at) ∷ []) u) (good_written s at result w)
    (λ u _ g. keeping_one (IsResult s.tags) (is_result_type u) (fault.Mismatch at) u (λ o. (g, o))))
    (parameters_good s.tags (entered s) refl (λ name. tt) params l)
    (λ t ps _ _ g k. record { result = g.0; single = g.1; parameters = k })

-- ---- functions

behind_good : (tags : Tags) (o : Option Entity) (t : CType) (defines : Bool) → IsGood tags t → EntityIsGood tags o → EntityIsGood tags (Some (entity_behind o t defines))
behind_good tags (Some (BuiltIn u)) t defines g h = h
behind_good tags (Some (Routine u begun)) t defines g h = g
behind_good tags (Some (Object u)) t defines g h = g
behind_good tags (Some Printf) t defines g h = g
behind_good tags None t defines g h = g

own_good : (s : Scope) → ScopeIsGood s → (name : List ℕ) (f : Signature) (defines : Bool) → SignatureIsGood s.tags f → EntityIsGood s.tags (Some (entity_behind (meaning s.block name) (type_of f) defines))
own_good s h name f defines g = behind_good s.tags (meaning s.block name) (type_of f) defines (g.result, g.parameters.types, g.single) (block_good s.tags s.block s.outer name (h.names name))

body_good : (s : Scope) → ScopeIsGood s → (name : List ℕ) (f : Signature) → SignatureIsGood s.tags f → ScopeIsGood (body_scope s name f)
body_good s h name f g =
    let e = sym g.parameters.tags_is in
    record {
      tags = subst (λ x. TagsAreGood x) e h.tags;
      names = λ other. subst (λ x. EntityIsGood x (entity_of (body_scope s name f) other)) e
          (joined_good s.tags f.parameters.scope.block ((with_function s name (type_of f) true).block ++ s.outer) other (g.parameters.block other)
          (entity_by s.tags (bytes_eq other name) (entity_behind (meaning s.block name) (type_of f) true) (entity_of s other) (own_good s h name f true g) (h.names other)));
    }

abbrev BodyIsFit : Scope → CStmt → Type 0
BodyIsFit s t = StmtIsFit s t × TakesNoSlot t

self_follows : (s : Scope) → Follows s s
self_follows s = record { names = self_same s; fewer = λ name h. h }

block_follows : (s : Scope) → Follows s (entered s)
block_follows s = record { names = entered_same s; fewer = λ name h. refl }

body_known : (s : Scope) → ScopeIsGood s → (w : Around) (t : CStmt) → IsLight (body_sum weighing s t) (body_sum widening s t) → DeclaresInBlocks t → IsNoDeclaration t → IfOk (λ _. BodyIsFit s t) (body_judged s w (Some t))
body_known s h w (plain.Block ss) l d n =
    with_answer (SaidAll s (entered s) ss) (λ _. BodyIsFit s (plain.Block ss)) (all_stated s w ss) (stmts_known s (entered s) h (block_follows s) w ss (last _ _ _ _ l) d) (λ _ _ k. (k.0, refl))
body_known s h w t l d n = with_answer (Said s s t) (λ _. BodyIsFit s t) (stated s w t) (stmt_known s s h (self_follows s) w t l d) (λ _ _ k. (k.0, no_slot t d n))

-- what an external is, and the scope behind it
abbrev IsItem : Scope → CItem → Scope → Type 0
IsItem s item inner = ItemIsFit s item × ScopeIsGood inner

prototype_known : (s : Scope) → ScopeIsGood s → (name : List ℕ) (at : ℕ) (result : CTy) (params : List CDecl) (f : Signature) → SignatureIsGood s.tags f → IfOk (IsItem s (plain.Function name at result params None)) (declared_function s name at None f)
prototype_known s h name at result params f g =
    keeping_one (IsItem s (plain.Function name at result params None)) (may_declare (meaning s.block name) (type_of f) false) (fault.Twice at) (with_function s name (type_of f) false)
    (λ _. (tt, name_good s h name (entity_behind (meaning s.block name) (type_of f) false) (own_good s h name f false g)))

definition_known : (s : Scope) → ScopeIsGood s → (name : List ℕ) (at : ℕ) (result : CTy) (params : List CDecl) (body : CStmt) (f : Signature) → signature s at result params ≡ Ok f → SignatureIsGood s.tags f
    → IsLight (maybe_body_sum weighing s name (Some body) (signature s at result params)) (maybe_body_sum widening s name (Some body) (signature s at result params)) → DeclaresInBlocks body × IsNoDeclaration body
    → IfOk (IsItem s (plain.Function name at result params (Some body))) (declared_function s name at (Some body) f)
definition_known s h name at result params body f j g l d =
    let light : IsLight (body_sum weighing (body_scope s name f) body) (body_sum widening (body_scope s name f) body) =
    subst (λ r. IsLight (maybe_body_sum weighing s name (Some body) r) (maybe_body_sum widening s name (Some body) r)) j l in
    after_ok (λ _. BodyIsFit (body_scope s name f) body) (IsItem s (plain.Function name at result params (Some body))) (body_judged (body_scope s name f) (around_body f) (Some body))
    (λ _. keeping ((may_declare (meaning s.block name) (type_of f) true, fault.Twice at) ∷ []) (with_function s name (type_of f) true))
    (body_known (body_scope s name f) (body_good s h name f g) (around_body f) body light d.0 d.1)
    (λ _ _ k. keeping_one (IsItem s (plain.Function name at result params (Some body))) (may_declare (meaning s.block name) (type_of f) true) (fault.Twice at) (with_function s name (type_of f) true)
    (λ _. (subst (λ r. DefinitionsAreFit (definition_in s name params body r)) (sym j) (k, tt), name_good s h name (entity_behind (meaning s.block name) (type_of f) true) (own_good s h name f true g))))

-- ---- objects of file scope

first_local : (s : Scope) (at : ℕ) (t : CType) (v : Option plain.CValue) → first_fitting s (record { file = true; pos = at }) t v ≡ Ok (tt {0}) → first_fitting s (record { file = false; pos = at }) t v ≡ Ok (tt {0})
first_local s at t None e = refl
first_local s at t (Some v) e = told (λ _. fitting s (record { file = false; pos = at }) (Some t) v ≡ Ok (tt {0})) (fitting s (record { file = true; pos = at }) (Some t) v) (tt {0}) e (local_fits s at (Some t) v)

file_object_known : (s : Scope) → ScopeIsGood s → (d : CDecl) → IsLight (object_sum weighing s d) (object_sum widening s d) → IfOk (IsItem s (plain.Object d)) (declared s true d)
file_object_known s h d l =
    with_answer (Declares s true d) (IsItem s (plain.Object d)) (declared s true d) (declares s true d) (λ inner j k.
    let x : Entity = Object k.ty in
    let good : IsGood s.tags k.ty = declared_good s d k.ty k.type_is l in
    let local : declared s false d ≡ Ok (with_name s d.name x) = is_declared s false d k.ty k.type_is (first_local (with_name s d.name x) d.pos k.ty d.first k.first_is) k.fresh in
    let light : IsLight (first_sum weighing (with_name s d.name x) d.first) (first_sum widening (with_name s d.name x) d.first) =
    subst (λ r. IsLight (first_sum weighing (scope_or s r) d.first) (first_sum widening (scope_or s r) d.first)) local (last _ _ _ _ (first _ _ _ _ l)) in
    let object : ObjectIsFit s (with_name s d.name x) d = object_known s h (record { file = true; pos = d.pos }) d k.ty k.type_is good light k.first_is in
    (subst (λ r. ObjectIsFit s (scope_or s r) d) (sym j) (subst (λ z. ObjectIsFit s z d) (sym k.inner_is) object), subst (λ z. ScopeIsGood z) (sym k.inner_is) (name_good s h d.name x good)))

-- ---- externals

item_known : (s : Scope) → ScopeIsGood s → (item : CItem) → IsLight (item_sum weighing s item) (item_sum widening s item) → ItemDeclaresInBlocks item → IfOk (IsItem s item) (item_judged s item)
item_known s h (plain.StructItem tag) l d =
    with_answer ScopeIsGood (IsItem s (plain.StructItem tag)) (item_judged s (plain.StructItem tag)) (tag_known s h tag (last _ _ _ _ (first _ _ _ _ l)) (last _ _ _ _ l).wide_is) (λ x _ g. (tt, g))
item_known s h (plain.Object x) l d = file_object_known s h x (last _ _ _ _ l)
item_known s h (plain.Function name at result params None) l d =
    after_ok (SignatureIsGood s.tags) (IsItem s (plain.Function name at result params None)) (signature s at result params) (λ f. declared_function s name at None f)
    (signature_good s at result params (last _ _ _ _ (first _ _ _ _ (first _ _ _ _ l))).wide_is (last _ _ _ _ (first _ _ _ _ l)))
    (λ f _ g. prototype_known s h name at result params f g)
item_known s h (plain.Function name at result params (Some body)) l d =
    after_ok (SignatureIsGood s.tags) (IsItem s (plain.Function name at result params (Some body))) (signature s at result params) (λ f. declared_function s name at (Some body) f)
    (signature_good s at result params (last _ _ _ _ (first _ _ _ _ (first _ _ _ _ l))).wide_is (last _ _ _ _ (first _ _ _ _ l)))
    (λ f j g. definition_known s h name at result params body f j g (last _ _ _ _ l) d)

items_known : (s : Scope) → ScopeIsGood s → (items : List CItem) → IsLight (items_sum weighing s items) (items_sum widening s items) → ItemsDeclareInBlocks items → IfOk (λ _. ItemsAreFit s items) (all_items s items)
items_known s h [] l d = tt
items_known s h (item ∷ items) l d =
    then_ok (IsItem s item) (λ _. ItemsAreFit (scope_or s (item_judged s item)) items) (λ _. ItemsAreFit s (item ∷ items)) (λ r. scope_or s r) (λ _ inner. inner) (λ x. all_items x items) (item_judged s item)
    (item_known s h item (first _ _ _ _ l) d.0)
    (λ a j k. items_known (scope_or s (item_judged s item)) (subst (λ r. ScopeIsGood (scope_or s r)) (sym j) k.1) items (last _ _ _ _ l) d.1)
    (λ a inner j k m. (subst (λ r. IsOk r) (sym j) refl, k.0, m))

-- ---- whole texts

start_good : (u : CUnit) → ScopeIsGood (start_scope u)
start_good u = record {
  tags = record { at = λ name. tt };
  names = λ name. listed_good [] built_ins name ((tt, tt, refl), ((tt, tt, refl), ((tt, (tt, tt), refl), ((tt, (tt, tt), refl), (tt, ((tt, (tt, tt), refl), tt))))));
}

of_typed : {A B : Type 0} (X : Type 0) (r : Judged A) (f : A → Judged B) → is_ok (after r f) ≡ true → IfOk (λ _. X) r → X
of_typed X (Ok a) f t x = x
of_typed X (Err e) f t x = absurd cc

small_light : (weight wide words : ℕ) → (nat_le weight 65536 && nat_le words most_words && wide == 0) ≡ true → IsLight weight wide
small_light weight wide words h =
    let p = and_parts (nat_le weight 65536 && nat_le words most_words) (wide == 0) h in
    let q = and_parts (nat_le weight 65536) (nat_le words most_words) p.0 in
    let a = q.0 in let b = p.1 in
    record { weight_is = grind (arith, nat_tests, a); wide_is = grind (arith, nat_tests, b) }

pub typed_texts_are_fit : TypedTextsAreFit
typed_texts_are_fit u typed small blocks =
    of_typed (UnitIsFit u) (all_items (start_scope u) u.items) _ typed
    (items_known (start_scope u) (start_good u) u.items (small_light (items_sum weighing (start_scope u) u.items) (items_sum widening (start_scope u) u.items) (file_words (start_scope u) u.items) small) blocks)
