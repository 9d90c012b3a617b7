-- The scopes of the bodies of a program have names of a text.
use Rattle.std.proofs.Common.{◌≡◌, ℕ, List, [], ◌∷◌, ◌++◌, Some, None, Bool, true, false, refl, sym, ap, ◌∙◌, subst, cond}
use Rattle.std.specs.Prelude.{not, is_none, is_some, is_ok, Ok, Err}
use Rattle.std.specs.List.{list_any}
use Rattle.std.specs.Str.{bytes_eq}
use Rattle.std.specs.declared.option.Option.{Option}
use Rattle.std.proofs.lemmas.Slice.Eq.{bytes_eq-Decides}
use Rattle.c_syntax.specs.Plain as plain
use Rattle.c_syntax.specs.Plain.{CTy, CDecl, CStmt, CTag, CItem}
use Rattle.c_syntax.specs.Words.{meaning}
use Rattle.c_types.specs.declared.fault.TypeFault.TheVariants as fault
use Rattle.c_types.specs.Types as type
use Rattle.c_types.specs.Types.{CType, Members, Unfinished}
use Rattle.c_types.specs.Refusals.{Judged, Rule, keeping}
use Rattle.c_types.specs.Scope.{Names, Scope, Entity, Object, entered, with_name, is_declared_here}
use Rattle.c_types.specs.Declarations.{members, words_of_members, with_tag, is_tag, some_members, tag_declared, scope_or, declared}
use Rattle.c_types.specs.Units.{Parameter, with_parameter, declared_parameter, parameter, parameter_scope_or, Parameters, all_parameters, Signature, type_of, result_type, signature, may_declare, entity_behind, with_function, body_scope, around_body, body_judged, declared_function, item_judged, all_items, start_scope, unit_judged}
use Rattle.c_eval.specs.Text.{Definition, definition_in, item_definitions, definitions}
use Rattle.c_fewer_types.specs.Written.{StringsAreShort}
use Rattle.c_helpers.specs.Laws.{is_strange}
use Rattle.c_fewer_types.proofs.Judged.{keeping_is}
use Rattle.c_fewer_types.specs.Standing.{IsTextName, StmtHas, IsDeclaration}
use Rattle.c_fewer_types.proofs.FewerTypedRules.{after_is, both_is}
use Rattle.c_fewer_items.proofs.Objects.{declared_is}
use Rattle.c_fewer_names.specs.FewerKnownLaws.{NamesAreOfText}
use Rattle.c_programs.specs.Programs.{DeclsHaveNames, ItemsHaveNames, BodiesHave}
use Rattle.c_fewer_names.specs.ProgramBodiesLaws.{ItemIsTyped, BodiesAreTyped, BodiesOfProgramsAreTyped}

-- ---- lists of names

abbrev AreOfText : Names → Type 0
AreOfText [] = Unit {0}
AreOfText (x ∷ xs) = IsTextName x.0 × AreOfText xs

both_of_text : (xs ys : Names) → AreOfText xs → AreOfText ys → AreOfText (xs ++ ys)
both_of_text [] ys g h = h
both_of_text (x ∷ xs) ys g h = (g.0, both_of_text xs ys g.1 h)

found_of_text : (xs : Names) (name : List ℕ) (x : Entity) → AreOfText xs → meaning xs name ≡ Some x → IsTextName name
found_of_text [] name x h e = absurd (cc e)
found_of_text (y ∷ ys) name x h e = go (bytes_eq name y.0) refl (λ k. found_of_text ys name x h.1 k) e
  where
    go : (b : Bool) → bytes_eq name y.0 ≡ b → (meaning ys name ≡ Some x → IsTextName name) → cond b (Some y.1) (meaning ys name) ≡ Some x → IsTextName name
    go true k more e = ap (λ z. list_any is_strange z) ((bytes_eq-Decides name y.0).0 k) ∙ h.0
    go false k more e = more e

-- the names of a scope are of a text
record InText (s : Scope) : Type 0 where
  block : AreOfText s.block
  outer : AreOfText s.outer

in_text : (s : Scope) → InText s → NamesAreOfText s
in_text s a = λ name x e. found_of_text (s.block ++ s.outer) name x (both_of_text s.block s.outer a.block a.outer) e

with_one : (s : Scope) (name : List ℕ) (x : Entity) → IsTextName name → InText s → InText (with_name s name x)
with_one s name x n a = record { block = (n, a.block); outer = a.outer }

-- ---- parameters

parameter_in_text : (s : Scope) (name : List ℕ) (t : CType) → IsTextName name → AreOfText s.block → AreOfText (with_parameter s name t).block
parameter_in_text s [] t n a = a
parameter_in_text s (c ∷ cs) t n a = (n, a)

parameters_in_text : (s : Scope) (ds : List CDecl) (r : Parameters) → DeclsHaveNames ds → AreOfText s.block → all_parameters s ds ≡ Ok r → AreOfText r.scope.block
parameters_in_text s [] r n a e = let is : record { types = type.NoType; scope = s } ≡ r = cc e in subst (λ (z : Parameters). AreOfText z.scope.block) is a
parameters_in_text s (d ∷ ds) r n a e =
    let k = both_is (parameter s d) (all_parameters (parameter_scope_or s (parameter s d)) ds) (λ (first : Parameter) (rest : Parameters). Ok (record { types = type.MoreType first.ty rest.types; scope = rest.scope })) r e in
    let rules : List Rule = (not (is_declared_here s d.name), fault.Twice d.pos) ∷ (is_none d.first, fault.Mismatch d.pos) ∷ [] in
    let w = after_is (declared_parameter s d) (λ t. keeping rules (record { ty = t; scope = with_parameter s d.name t })) k.0 k.1.1 in
    let o = keeping_is {A = Parameter} rules (record { ty = w.0; scope = with_parameter s d.name w.0 }) k.0 w.2 in
    let here : AreOfText k.0.scope.block = subst (λ (z : Parameter). AreOfText z.scope.block) o.1 (parameter_in_text s d.name w.0 n.0 a) in
    let rest : all_parameters k.0.scope ds ≡ Ok k.1.0 = subst (λ q. all_parameters (parameter_scope_or s q) ds ≡ Ok k.1.0) k.1.1 k.1.2 in
    let is : record { types = type.MoreType k.0.ty k.1.0.types; scope = k.1.0.scope } ≡ r = cc k.1.3 in
    subst (λ (z : Parameters). AreOfText z.scope.block) is (parameters_in_text k.0.scope ds k.1.0 n.1 here rest)

head_in_text : (s : Scope) (at : ℕ) (result : CTy) (params : List CDecl) (f : Signature) → DeclsHaveNames params → signature s at result params ≡ Ok f → AreOfText f.parameters.scope.block
head_in_text s at result params f n e =
    let k = both_is (result_type s at result) (all_parameters (entered s) params) (λ t ps. Ok (record { result = t; parameters = ps })) f e in
    let g : Signature = record { result = k.0; parameters = k.1.0 } in
    let is : g ≡ f = cc k.1.3 in
    subst (λ (z : Signature). AreOfText z.parameters.scope.block) is (parameters_in_text (entered s) params k.1.0 n tt k.1.2)

body_in_text : (s : Scope) (name : List ℕ) (f : Signature) → IsTextName name → InText s → AreOfText f.parameters.scope.block → InText (body_scope s name f)
body_in_text s name f n a h = record { block = h; outer = both_of_text ((with_function s name (type_of f) true).block) s.outer (n, a.block) a.outer }

-- ---- externals

abbrev H : CStmt → Type 0
H = StmtHas StringsAreShort IsDeclaration

split_bodies : (fs gs : List Definition) → BodiesHave H (fs ++ gs) → BodiesHave H fs × BodiesHave H gs
split_bodies [] gs h = (tt, h)
split_bodies (f ∷ fs) gs h = let k = split_bodies fs gs h.1 in ((h.0, k.0), k.1)

abbrev told : Scope → Judged Scope
told s = Ok s

told_is : (x y : Scope) → told x ≡ told y → x ≡ y
told_is x y e = cc e

-- what an external is, and the scope behind it
record Goes (s : Scope) (item : CItem) (r : Scope) : Type 0 where
  typed : ItemIsTyped s item
  scope : InText r

struct_goes : (s : Scope) (tag : CTag) (r : Scope) → InText s → tag_declared s tag ≡ Ok r → InText r
struct_goes s tag r a e =
    let inner : Scope = with_tag s tag.name Unfinished in
    let rules : List Rule = (not (is_tag s tag.name), fault.Twice tag.pos) ∷ (some_members tag.members, fault.Mismatch tag.pos) ∷ [] in
    let k = after_is (members inner [] tag.members) (λ ms. keeping rules (with_tag s tag.name (Members ms (words_of_members inner.tags ms)))) r e in
    let l = keeping_is {A = Scope} rules (with_tag s tag.name (Members k.0 (words_of_members inner.tags k.0))) r k.2 in
    subst (λ z. InText z) l.1 (record { block = a.block; outer = a.outer })

object_goes : (s : Scope) (d : CDecl) (r : Scope) → IsTextName d.name → InText s → declared s true d ≡ Ok r → InText r
object_goes s d r n a e = let x = declared_is s d r e in subst (λ z. InText z) x.is (with_one s d.name (Object x.ty) n a)

function_goes : (s : Scope) (name : List ℕ) (at : ℕ) (result : CTy) (params : List CDecl) (body : Option CStmt) (r : Scope) → IsTextName name → DeclsHaveNames params → InText s
    → BodiesHave H (item_definitions s (plain.Function name at result params body)) → item_judged s (plain.Function name at result params body) ≡ Ok r → Goes s (plain.Function name at result params body) r
function_goes s name at result params body r n ns a h e =
    let k = after_is (signature s at result params) (λ f. declared_function s name at body f) r e in
    let f : Signature = k.0 in
    let rules : List Rule = (may_declare (meaning s.block name) (type_of f) (is_some body), fault.Twice at) ∷ [] in
    let l = after_is (body_judged (body_scope s name f) (around_body f) body) (λ _. keeping rules (with_function s name (type_of f) (is_some body))) r k.2 in
    let m = keeping_is {A = Scope} rules (with_function s name (type_of f) (is_some body)) r l.2 in
    record {
      typed = go body f k.1 l.0 l.1 h;
      scope = subst (λ z. InText z) m.1 (with_one s name (entity_behind (meaning s.block name) (type_of f) (is_some body)) n a);
    }
  where
    go : (body : Option CStmt) (f : Signature) → signature s at result params ≡ Ok f → (behind : Scope) → body_judged (body_scope s name f) (around_body f) body ≡ Ok behind
        → BodiesHave H (item_definitions s (plain.Function name at result params body)) → ItemIsTyped s (plain.Function name at result params body)
    go None f is behind typed h = tt
    go (Some t) f is behind typed h = record {
      head = f;
      head_is = is;
      names = in_text (body_scope s name f) (body_in_text s name f n a (head_in_text s at result params f ns is));
      short = (subst (λ q. BodiesHave H (definition_in s name params t q)) is h).0;
      behind = behind;
      typed = typed;
    }

item_goes : (s : Scope) (item : CItem) (items : List CItem) (r : Scope) → ItemsHaveNames (item ∷ items) → InText s → BodiesHave H (item_definitions s item) → item_judged s item ≡ Ok r → Goes s item r
item_goes s (plain.StructItem tag) items r n a h e = record { typed = tt; scope = struct_goes s tag r a e }
item_goes s (plain.Object d) items r n a h e = record { typed = tt; scope = object_goes s d r n.0 a e }
item_goes s (plain.Function name at result params body) items r n a h e = function_goes s name at result params body r n.0 n.1 a h e

names_behind : (item : CItem) (items : List CItem) → ItemsHaveNames (item ∷ items) → ItemsHaveNames items
names_behind (plain.StructItem tag) items n = n
names_behind (plain.Object d) items n = n.1
names_behind (plain.Function name at result params body) items n = n.2

items_go : (items : List CItem) (s r : Scope) → ItemsHaveNames items → InText s → BodiesHave H (definitions s items) → all_items s items ≡ Ok r → BodiesAreTyped s items
items_go [] s r n a h e = tt
items_go (item ∷ items) s r n a h e =
    let l = both_is (item_judged s item) (all_items (scope_or s (item_judged s item)) items) (λ _ inner. told inner) r e in
    let before : scope_or s (item_judged s item) ≡ l.0 = ap (λ q. scope_or s q) l.1.1 in
    let bodies = split_bodies (item_definitions s item) (definitions (scope_or s (item_judged s item)) items) h in
    let m = item_goes s item items l.0 n a bodies.0 l.1.1 in
    (in_text s a, m.typed, items_go items (scope_or s (item_judged s item)) l.1.0 (names_behind item items n) (subst (λ z. InText z) (sym before) m.scope) bodies.1 l.1.2)

-- ---- the whole

-- a judgement that isn't refused
judged_is : {A : Type 0} (r : Judged A) → is_ok r ≡ true → (a : A) × (r ≡ Ok a)
judged_is (Ok a) e = (a, refl)
judged_is (Err f) e = absurd (cc e)

pub bodies_of_programs_are_typed : BodiesOfProgramsAreTyped
bodies_of_programs_are_typed u h =
    let whole = judged_is (unit_judged u) h.typed in
    let k = after_is (all_items (start_scope u) u.items) _ whole.0 whole.1 in
    items_go u.items (start_scope u) k.0 h.names (record { block = (refl, (refl, (refl, (refl, (refl, (refl, tt)))))); outer = tt }) h.bodies k.1
