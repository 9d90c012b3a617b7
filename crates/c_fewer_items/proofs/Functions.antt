-- A function with fewer operators is typed, and stands for the one that it was.
use Rattle.std.proofs.Common.{◌≡◌, ℕ, List, [], ◌∷◌, ◌++◌, Option, Some, None, Bool, true, false, refl, sym, ap, ap₂, ◌∙◌, subst, cond}
use Rattle.std.specs.Prelude.{◌&&◌, ◌||◌, not, map, is_some, Ok, if◌then◌else◌}
use Rattle.std.specs.Str.{bytes_eq}
use Rattle.std.proofs.lemmas.Bool.{and_parts}
use Rattle.std.proofs.lemmas.Slice.Eq.{bytes_eq-Decides}
use Rattle.c_syntax.specs.Plain as plain
use Rattle.c_syntax.specs.Plain.{CTy, CDecl, CStmt, CStmts, CItem}
use Rattle.c_syntax.specs.Words.{meaning}
use Rattle.c_types.specs.declared.fault.TypeFault.TheVariants as fault
use Rattle.c_types.specs.Types.{CType, same_type}
use Rattle.c_types.specs.Refusals.{Judged, Rule, after, both, keeping}
use Rattle.c_types.specs.Scope.{Scope, Entity, Object, Routine, BuiltIn, Printf, entity_of, entered, contains, built_ins}
use Rattle.c_types.specs.Declarations.{scope_or}
use Rattle.c_types.specs.Statements.{Around, stated, all_stated}
use Rattle.c_types.specs.Units.{Signature, type_of, signature, may_declare, entity_behind, with_function, body_scope, around_body, body_judged, declared_function, item_judged, parameter, parameter_scope_or}
use Rattle.c_types.specs.Census.{scope_behind}
use Rattle.c_eval.specs.Text.{Definition, definition_in, item_definitions}
use Rattle.c_alike.specs.Alike.{EachName}
use Rattle.c_fewer_types.specs.Written.{CanBeWritten, EntityCanBeWritten, StringsAreShort}
use Rattle.c_helpers.specs.Fewer.{fewer_in_type, fewer_in, fewer_in_all, fewer_in_body, fewer_in_parameters, fewer_in_function, fewer_in_item}
use Rattle.c_helpers.specs.Simple.{kept}
use Rattle.c_fewer_types.proofs.Judged.{keeping_is, first_kept}
use Rattle.c_fewer_types.specs.Standing.{IsTextName, ScopesStand, StmtHas, StmtsHave, IsDeclaration, AnyDeclaration}
use Rattle.c_fewer_types.proofs.FewerTypedRules.{after_is, both_is, kept_is, first_broken}
use Rattle.c_fewer_types.proofs.Statements.{statements_stay_typed}
use Rattle.c_fewer_types.proofs.Behind.{stated_behind}
use Rattle.c_fewer_meaning.specs.FewerBodiesLaws.{fewer_in_definition}
use Rattle.c_fewer_items.specs.Files.{EntitiesStand, FilesStand}
use Rattle.c_fewer_items.specs.Kept.{EachIsNamed, BodyPasses, BodyFits, DefinitionStands, FrontStands, FunctionsStand}
use Rattle.c_fewer_items.proofs.Files.{in_file, file_stands, named_behind}
use Rattle.c_fewer_items.proofs.Heads.{within, within_stands, Signs, signature_too}

-- ---- bodies

abbrev told : Scope → Judged Scope
told s = Ok s

module _ (test : List ℕ → Bool) where
  abbrev P : List ℕ → Type 0
  P name = test name ≡ true

  all_typed : (ss : CStmts) (s s' : Scope) (w : Around) (r : Scope) → ScopesStand P s s' → StmtsHave StringsAreShort IsDeclaration ss → StmtsHave (EachName P) AnyDeclaration (fewer_in_all s ss) → all_stated s w ss ≡ Ok r → (other : Scope) × (all_stated s' w (fewer_in_all s ss) ≡ Ok other)
  all_typed plain.NoStmt s s' w r a h p e = (s', refl)
  all_typed (plain.MoreStmt t ts) s s' w r a h p e =
      let l = both_is (stated s w t) (all_stated (scope_or s (stated s w t)) w ts) (λ _ inner. Ok inner) r e in
      let m = statements_stay_typed test s s' w t l.0 a h.0 p.0 l.1.1 in
      let behind : scope_behind s t ≡ l.0 = stated_behind s w t l.0 l.1.1 in
      let inner : all_stated l.0 w ts ≡ Ok l.1.0 = subst (λ q. all_stated (scope_or s q) w ts ≡ Ok l.1.0) l.1.1 l.1.2 in
      let n = all_typed ts l.0 m.0 w l.1.0 m.2 h.1 (subst (λ z. StmtsHave (EachName P) AnyDeclaration (fewer_in_all z ts)) behind p.1) inner in (
        n.0,
        ap (λ z. both (stated s' w (fewer_in s t)) (all_stated (scope_or s' (stated s' w (fewer_in s t))) w (fewer_in_all z ts)) (λ _ inner. told inner)) behind
            ∙ (ap (λ q. both q (all_stated (scope_or s' q) w (fewer_in_all l.0 ts)) (λ _ inner. told inner)) m.1 ∙ ap (λ q. both {A = Scope} {B = Scope} (told m.0) q (λ _ inner. told inner)) n.1),
      )

  -- a typed body is typed with fewer operators
  body_typed : (body : CStmt) (s s' : Scope) (w : Around) (r : Scope) → ScopesStand P s s' → StmtHas StringsAreShort IsDeclaration body → StmtHas (EachName P) AnyDeclaration (fewer_in_body s body) → body_judged s w (Some body) ≡ Ok r
      → (other : Scope) × (body_judged s' w (Some (fewer_in_body s body)) ≡ Ok other)
  body_typed (plain.Block ss) s s' w r a h p e = all_typed ss s s' w r a h p e
  body_typed t s s' w r a h p e = let k = statements_stay_typed test s s' w t r a h p e in (k.0, k.1)

-- ---- what the name of a function stands for

or_begun : (b d b' d' : Bool) → (b' ≡ true → b ≡ true) → (d' ≡ true → d ≡ true) → (b' || d') ≡ true → (b || d) ≡ true
or_begun b d true d' i j e = ap (λ z. z || d) (i refl)
or_begun true d false d' i j e = refl
or_begun false d false d' i j e = j e

not_both : (b d b' d' : Bool) → (b' ≡ true → b ≡ true) → (d' ≡ true → d ≡ true) → not (b && d) ≡ true → not (b' && d') ≡ true
not_both b d true true i j e = absurd (cc (sym e ∙ ap₂ (λ x y. not (x && y)) (i refl) (j refl)))
not_both b d true false i j e = refl
not_both b d false d' i j e = refl

not_too : (d d' : Bool) → (d' ≡ true → d ≡ true) → not d ≡ true → not d' ≡ true
not_too d true j e = absurd (cc (sym e ∙ ap not (j refl)))
not_too d false j e = refl

entity_stands : (o p : Option Entity) (t : CType) (d d' : Bool) → EntitiesStand o p → (d' ≡ true → d ≡ true) → may_declare o t d ≡ true → EntitiesStand (Some (entity_behind o t d)) (Some (entity_behind p t d'))
entity_stands None p t d d' h j e = subst (λ z. EntitiesStand (Some (Routine t d)) (Some (entity_behind z t d'))) (sym h) (d', refl, j)
entity_stands (Some (Object u)) p t d d' h j e = absurd (cc e)
entity_stands (Some (Routine u b)) p t d d' h j e = subst (λ z. EntitiesStand (Some (Routine t (b || d))) (Some (entity_behind z t d'))) (sym h.1) (h.0 || d', refl, or_begun b d h.0 d' h.2 j)
entity_stands (Some (BuiltIn u)) p t d d' h j e = subst (λ z. EntitiesStand (Some (BuiltIn u)) (Some (entity_behind z t d'))) (sym h) refl
entity_stands (Some Printf) p t d d' h j e = absurd (cc e)

may_too : (o p : Option Entity) (t : CType) (d d' : Bool) → EntitiesStand o p → (d' ≡ true → d ≡ true) → may_declare o t d ≡ true → may_declare p t d' ≡ true
may_too None p t d d' h j e = ap (λ z. may_declare z t d') h
may_too (Some (Object u)) p t d d' h j e = absurd (cc e)
may_too (Some (Routine u b)) p t d d' h j e =
    let k = and_parts (same_type t u) (not (b && d)) e in
    ap (λ z. may_declare z t d') h.1 ∙ ap₂ (λ x y. x && y) k.0 (not_both b d h.0 d' h.2 j k.1)
may_too (Some (BuiltIn u)) p t d d' h j e = let k = and_parts (same_type t u) (not d) e in ap (λ z. may_declare z t d') h ∙ ap₂ (λ x y. x && y) k.0 (not_too d d' j k.1)
may_too (Some Printf) p t d d' h j e = absurd (cc e)

built_in_before : (o : Option Entity) (t u : CType) (d : Bool) → entity_behind o t d ≡ BuiltIn u → o ≡ Some (BuiltIn u)
built_in_before None t u d e = absurd (cc e)
built_in_before (Some (Object v)) t u d e = absurd (cc e)
built_in_before (Some (Routine v b)) t u d e = absurd (cc e)
built_in_before (Some (BuiltIn v)) t u d e = ap Some e
built_in_before (Some Printf) t u d e = absurd (cc e)

-- behind the name of a function that both declare
function_stands : (test : List ℕ → Bool) (s s' : Scope) (name : List ℕ) (t : CType) (d d' : Bool) → FilesStand test s s' → IsTextName name → CanBeWritten s.tags t → (d' ≡ true → d ≡ true) → may_declare (meaning s.block name) t d ≡ true
    → FilesStand test (with_function s name t d) (with_function s' name t d')
function_stands test s s' name t d d' a text c j e =
    named_behind test s s' a name (entity_behind (meaning s.block name) t d) (entity_behind (meaning s'.block name) t d') text (entity_stands (meaning s.block name) (meaning s'.block name) t d d' (a.names name text) j e)
    (record { names = λ other. of_name other (bytes_eq other name); members = a.written.members }) (λ other u k. of_built other u (bytes_eq other name) refl k)
  where
    can : (o : Option Entity) → meaning s.block name ≡ o → EntityCanBeWritten s.tags (Some (entity_behind o t d))
    can None k = c
    can (Some (Object u)) k = c
    can (Some (Routine u b)) k = c
    can (Some (BuiltIn u)) k = subst (λ o. EntityCanBeWritten s.tags o) (in_file s a.outer name ∙ k) (a.written.names name)
    can (Some Printf) k = c

    of_name : (other : List ℕ) (b : Bool) → EntityCanBeWritten s.tags (cond b (Some (entity_behind (meaning s.block name) t d)) (entity_of s other))
    of_name other true = can (meaning s.block name) refl
    of_name other false = a.written.names other

    of_built : (other : List ℕ) (u : CType) (b : Bool) → bytes_eq other name ≡ b → cond b (Some (entity_behind (meaning s.block name) t d)) (entity_of s other) ≡ Some (BuiltIn u) → meaning built_ins other ≡ Some (BuiltIn u)
    of_built other u true k l =
        let is : entity_behind (meaning s.block name) t d ≡ BuiltIn u = cc l in
        ap (λ z. meaning built_ins z) ((bytes_eq-Decides other name).0 k) ∙ a.built_in name u (in_file s a.outer name ∙ built_in_before (meaning s.block name) t u d is)
    of_built other u false k l = a.built_in other u l

-- ---- the function

-- what an external with fewer operators leads to
pub record Goes (test : List ℕ → Bool) (names : List (List ℕ)) (s s' : Scope) (item item' : CItem) (r : Scope) : Type 0 where
  pub other : Scope
  pub is : item_judged s' item' ≡ Ok other
  pub stand : FilesStand test r other
  pub functions : FunctionsStand test names (item_definitions s item) (item_definitions s' item')

names_too : (s : Scope) (ds : List CDecl) → map (λ (d : CDecl). d.name) (fewer_in_parameters s ds) ≡ map (λ (d : CDecl). d.name) ds
names_too s [] = refl
names_too s (d ∷ ds) = ap (λ xs. d.name ∷ xs) (names_too (parameter_scope_or s (parameter s d)) ds)

module _ (test : List ℕ → Bool) (names : List (List ℕ)) (s s' : Scope) (a : FilesStand test s s') (name : List ℕ) (at : ℕ) (result : CTy) (params : List CDecl) (text : IsTextName name) (f : Signature) (told_is : signature s at result params ≡ Ok f) (k : Signs s s' f (signature s' at (fewer_in_type s result) (fewer_in_parameters (entered s) params))) where
  abbrev t : CType
  t = type_of f

  abbrev result' : CTy
  result' = fewer_in_type s result

  abbrev params' : List CDecl
  params' = fewer_in_parameters (entered s) params

  abbrev f' : Signature
  f' = record { result = f.result; parameters = record { types = f.parameters.types; scope = within s' k.block } }

  abbrev body_in : Scope
  body_in = body_scope s name f

  abbrev body_in' : Scope
  body_in' = body_scope s' name f'

  body_is : body_in ≡ within (with_function s name t true) k.block
  body_is = ap (λ (z : Scope). record z { outer = (with_function s name t true).block ++ s.outer }) k.there

  bodies_stand : may_declare (meaning s.block name) t true ≡ true → ScopesStand (λ name. test name ≡ true) body_in body_in'
  bodies_stand e =
      subst (λ z. ScopesStand (λ name. test name ≡ true) z body_in') (sym body_is)
      (within_stands (λ name. test name ≡ true) (with_function s name t true) (with_function s' name t true) (file_stands test (with_function s name t true) (with_function s' name t true) (function_stands test s s' name t true true a text k.can (λ j. j) e)) k.block k.heads)

  abbrev rules : Option Entity → Bool → List Rule
  rules o d = (may_declare o t d, fault.Twice at) ∷ []

  -- what the declaration was made of
  record Declared (body : Option CStmt) (r : Scope) : Type 0 where
    inner : Scope
    typed : body_judged body_in (around_body f) body ≡ Ok inner
    may : may_declare (meaning s.block name) t (is_some body) ≡ true
    is : with_function s name t (is_some body) ≡ r

  declared_is : (body : Option CStmt) (r : Scope) → declared_function s name at body f ≡ Ok r → Declared body r
  declared_is body r e =
      let l = after_is (body_judged body_in (around_body f) body) (λ _. keeping (rules (meaning s.block name) (is_some body)) (with_function s name t (is_some body))) r e in
      let m = keeping_is {A = Scope} (rules (meaning s.block name) (is_some body)) (with_function s name t (is_some body)) r l.2 in
      record { inner = l.0; typed = l.1; may = (first_kept (may_declare (meaning s.block name) t (is_some body)) (fault.Twice at) [] m.0).0; is = m.1 }

  -- with a body that is typed, where there was one
  changed : (body body' : Option CStmt) (r inner : Scope) → Declared body r → (is_some body' ≡ true → is_some body ≡ true) → body_judged body_in' (around_body f') body' ≡ Ok inner
      → (other : Scope) × (item_judged s' (plain.Function name at result' params' body') ≡ Ok other) × FilesStand test r other
  changed body body' r inner d j e = (
    with_function s' name t (is_some body'),
    ap (λ q. after q (λ g. declared_function s' name at body' g)) k.is
        ∙ (ap (λ q. after {A = Scope} q (λ _. keeping (rules (meaning s'.block name) (is_some body')) (with_function s' name t (is_some body')))) e
        ∙ kept_is {A = Scope} (rules (meaning s'.block name) (is_some body')) (with_function s' name t (is_some body')) (first_broken (may_declare (meaning s'.block name) t (is_some body')) (fault.Twice at) [] (may_too (meaning s.block name) (meaning s'.block name) t (is_some body) (is_some body') (a.names name text) j d.may) refl)),
    subst (λ z. FilesStand test z (with_function s' name t (is_some body'))) d.is (function_stands test s s' name t (is_some body) (is_some body') a text k.can j d.may),
  )

  abbrev item : Option CStmt → CItem
  item body = plain.Function name at result params body

  abbrev item' : Option CStmt → CItem
  item' body = plain.Function name at result' params' body

  declared_alone : (body : Option CStmt) (r : Scope) → Declared body r → FunctionsStand test names (item_definitions s (item body)) [] → Goes test names s s' (item body) (item' None) r
  declared_alone body r d h = let m = changed body None r body_in' d (λ e. absurd (cc e)) refl in record { other = m.0; is = m.1; stand = m.2; functions = h }

  abbrev definition : CStmt → Definition
  definition body = record { name = name; result = f.result; params = map (λ (d : CDecl). d.name) params; scope = body_in; body = body }

  -- the definition where the function has one
  definition_is : (body : CStmt) → item_definitions s (item (Some body)) ≡ definition body ∷ []
  definition_is body = ap (λ q. definition_in s name params body q) told_is

  abbrev definition' : CStmt → Definition
  definition' body = record { name = name; result = f.result; params = map (λ (d : CDecl). d.name) params'; scope = body_in'; body = body }

  definition_is' : (body : CStmt) → item_definitions s' (item' (Some body)) ≡ definition' body ∷ []
  definition_is' body = ap (λ q. definition_in s' name params' body q) k.is

  stays : (body : CStmt) (r : Scope) → Declared (Some body) r → StmtHas StringsAreShort IsDeclaration body → StmtHas (EachName (λ name. test name ≡ true)) AnyDeclaration (fewer_in_body body_in body) → contains names name ≡ true → Goes test names s s' (item (Some body)) (item' (Some (fewer_in_body body_in body))) r
  stays body r d h p e =
      let b = body_typed test body body_in body_in' (around_body f) d.inner (bodies_stand d.may) h p d.typed in
      let m = changed (Some body) (Some (fewer_in_body body_in body)) r b.0 d (λ j. refl) b.1 in
      let same : definition' (fewer_in_body body_in body) ≡ fewer_in_definition (definition body) body_in' = ap (λ ps. record { name = name; result = f.result; params = ps; scope = body_in'; body = fewer_in_body body_in body }) (names_too (entered s) params) in
      let stand : DefinitionStands test (definition body) (definition' (fewer_in_body body_in body)) = record { scope = body_in'; is = same; stand = bodies_stand d.may; short = h; passes = p; around = around_body f; behind = d.inner; typed = d.typed } in
      let front : FrontStands test (contains names name) (definition body) (definition' (fewer_in_body body_in body) ∷ []) [] = subst (λ z. FrontStands test z (definition body) (definition' (fewer_in_body body_in body) ∷ []) []) (sym e) (definition' (fewer_in_body body_in body), refl, stand) in
      record {
        other = m.0;
        is = m.1;
        stand = m.2;
        functions = subst (λ z. FunctionsStand test names z (item_definitions s' (item' (Some (fewer_in_body body_in body))))) (sym (definition_is body)) (subst (λ z. FunctionsStand test names (definition body ∷ []) z) (sym (definition_is' (fewer_in_body body_in body))) ([], front, refl));
      }

  goes_away : (body : CStmt) (r : Scope) → Declared (Some body) r → contains names name ≡ false → Goes test names s s' (item (Some body)) (item' None) r
  goes_away body r d e = declared_alone (Some body) r d (subst (λ z. FunctionsStand test names z []) (sym (definition_is body)) ([], subst (λ z. FrontStands test z (definition body) [] []) (sym e) refl, refl))

  function_goes : (body : Option CStmt) (r : Scope) → BodyFits test names s name (signature s at result params) body → declared_function s name at body f ≡ Ok r → Goes test names s s' (item body) (kept names (fewer_in_item s (item body))) r
  function_goes None r h e = go (contains names name)
    where
      go : (b : Bool) → Goes test names s s' (item None) (item' (if b then None else None)) r
      go true = declared_alone None r (declared_is None r e) refl
      go false = declared_alone None r (declared_is None r e) refl
  function_goes (Some body) r h e =
      subst (λ q. Goes test names s s' (item (Some body)) (item' (if contains names name then Some (fewer_in_function s name q body) else None)) r) (sym told_is) (go (contains names name) refl (λ e. subst (λ q. BodyPasses test s name q body) told_is (h.1 e)))
    where
      go : (b : Bool) → contains names name ≡ b → (contains names name ≡ true → StmtHas (EachName (λ name. test name ≡ true)) AnyDeclaration (fewer_in_body body_in body)) → Goes test names s s' (item (Some body)) (item' (if b then Some (fewer_in_body body_in body) else None)) r
      go true l p = stays body r (declared_is (Some body) r e) h.0 (p l) l
      go false l p = goes_away body r (declared_is (Some body) r e) l

pub function_item_goes : (test : List ℕ → Bool) (names : List (List ℕ)) (s s' : Scope) (name : List ℕ) (at : ℕ) (result : CTy) (params : List CDecl) (body : Option CStmt) (r : Scope) → FilesStand test s s' → IsTextName name → EachIsNamed params → BodyFits test names s name (signature s at result params) body
    → item_judged s (plain.Function name at result params body) ≡ Ok r → Goes test names s s' (plain.Function name at result params body) (kept names (fewer_in_item s (plain.Function name at result params body))) r
function_item_goes test names s s' name at result params body r a text n h e =
    let k = after_is (signature s at result params) (λ f. declared_function s name at body f) r e in
    function_goes test names s s' a name at result params text k.0 k.1 (signature_too s s' at result params k.0 a.tags n k.1) body r h k.2
