-- The body of a function that a typed text defines is in the text's weight, and its scope has tags that are laid out.
use Rattle.std.proofs.Common.{◌≡◌, ℕ, ◌+◌, ◌≤◌, Bool, true, false, List, [], ◌∷◌, ◌++◌, map, Some, None, refl, sym, ap, ◌∙◌, subst, cond, arith}
use Rattle.std.specs.Prelude.{Ok, Err, IsOk, not, is_none}
use Rattle.std.specs.List.{find, list_any}
use Rattle.std.specs.Str.{bytes_eq}
use Rattle.c_syntax.specs.Plain as plain
use Rattle.c_syntax.specs.Plain.{CTy, CDecl, CStmt, CItem, CUnit}
use Rattle.c_types.specs.declared.fault.TypeFault.TheVariants as fault
use Rattle.c_types.specs.Types as type
use Rattle.c_types.specs.Types.{CType}
use Rattle.c_types.specs.Refusals.{Judged, keeping}
use Rattle.c_types.specs.Scope.{Scope, entered, is_declared_here}
use Rattle.c_types.specs.Declarations.{scope_or}
use Rattle.c_types.specs.Units.{with_parameter, declared_parameter, Parameter, parameter, parameter_scope_or, Parameters, all_parameters, Signature, result_type, signature, body_scope, declared_function, item_judged, all_items, start_scope, is_main, unit_judged}
use Rattle.c_types.specs.Census.{body_sum, maybe_body_sum, item_sum, items_sum}
use Rattle.c_types.specs.Limits.{weight_of, IsTyped}
use Rattle.c_eval.specs.Text.{Definition, definition_in, definitions, text_of, function_named}
use Rattle.c_eval.proofs.Cells.{LaidOut}
use Rattle.c_limited.proofs.Sums.{weight}
use Rattle.c_limited.proofs.Objects.{item_laid}
use Rattle.c_fewer_types.proofs.Judged.{keeping_is}
use Rattle.c_fewer_types.proofs.FewerTypedRules.{after_is, both_is}

abbrev named : List ℕ → Definition → Bool
named name f = bytes_eq name f.name

pub record IsWithin (f : Definition) (whole : ℕ) : Type 0 where
  pub laid : LaidOut f.scope.tags
  pub light : body_sum weight f.scope f.body ≤ whole

-- ---- tags of a body's scope

with_tags : (s : Scope) (name : List ℕ) (t : CType) → (with_parameter s name t).tags ≡ s.tags
with_tags s [] t = refl
with_tags s (c ∷ cs) t = refl

parameters_tags : (ps : List CDecl) (s : Scope) (r : Parameters) → all_parameters s ps ≡ Ok r → r.scope.tags ≡ s.tags
parameters_tags [] s r e = let same : record { types = type.NoType; scope = s } ≡ r = cc e in sym (ap (λ (z : Parameters). z.scope.tags) same)
parameters_tags (p ∷ ps) s r e =
    let l = both_is (parameter s p) (all_parameters (parameter_scope_or s (parameter s p)) ps) (λ first rest. Ok (record { types = type.MoreType first.ty rest.types; scope = rest.scope })) r e in
    let first : Parameter = l.0 in
    let rest : Parameters = l.1.0 in
    let same : record { types = type.MoreType first.ty rest.types; scope = rest.scope } ≡ r = cc l.1.3 in
    let k = after_is (declared_parameter s p) (λ t. keeping ((not (is_declared_here s p.name), fault.Twice p.pos) ∷ (is_none p.first, fault.Mismatch p.pos) ∷ []) (record { ty = t; scope = with_parameter s p.name t })) first l.1.1 in
    let m = keeping_is {A = Parameter} ((not (is_declared_here s p.name), fault.Twice p.pos) ∷ (is_none p.first, fault.Mismatch p.pos) ∷ []) (record { ty = k.0; scope = with_parameter s p.name k.0 }) first k.2 in
    let there : (parameter_scope_or s (parameter s p)).tags ≡ s.tags = ap (λ q. (parameter_scope_or s q).tags) l.1.1 ∙ (sym (ap (λ (z : Parameter). z.scope.tags) m.1) ∙ with_tags s p.name k.0) in
    sym (ap (λ (z : Parameters). z.scope.tags) same) ∙ (parameters_tags ps (parameter_scope_or s (parameter s p)) rest l.1.2 ∙ there)

body_tags : (s : Scope) (n : List ℕ) (at : ℕ) (result : CTy) (params : List CDecl) (g : Signature) → signature s at result params ≡ Ok g → (body_scope s n g).tags ≡ s.tags
body_tags s n at result params g e =
    let l = both_is (result_type s at result) (all_parameters (entered s) params) (λ t ps. Ok (record { result = t; parameters = ps })) g e in
    let same : record { result = l.0; parameters = l.1.0 } ≡ g = cc l.1.3 in
    sym (ap (λ (z : Signature). z.parameters.scope.tags) same) ∙ parameters_tags params (entered s) l.1.0 l.1.2

-- ---- the function that is found

module _ (s : Scope) (n : List ℕ) (at : ℕ) (result : CTy) (params : List CDecl) (body : CStmt) (g : Signature) (e : signature s at result params ≡ Ok g) (laid : LaidOut s.tags) (name : List ℕ) (f : Definition) (rest : List Definition) (more : ℕ) where
  abbrev own : Definition
  own = record { name = n; result = g.result; params = map (λ d. d.name) params; scope = body_scope s n g; body = body }

  own_within : (find (named name) rest ≡ Some f → IsWithin f more) → find (named name) (definition_in s n params body (signature s at result params) ++ rest) ≡ Some f → IsWithin f (item_sum weight s (plain.Function n at result params (Some body)) + more)
  own_within later h = go (bytes_eq name n) refl (ap (λ q. find (named name) (definition_in s n params body q ++ rest)) (sym e) ∙ h)
    where
      whole : ℕ
      whole = item_sum weight s (plain.Function n at result params (Some body)) + more

      has : maybe_body_sum weight s n (Some body) (signature s at result params) ≡ body_sum weight (body_scope s n g) body
      has = ap (λ q. maybe_body_sum weight s n (Some body) q) e

      go : (b : Bool) → bytes_eq name n ≡ b → cond b (Some own) (find (named name) rest) ≡ Some f → IsWithin f whole
      go true k h =
          let same : own ≡ f = cc h in
          subst (λ z. IsWithin z whole) same (record { laid = subst LaidOut (sym (body_tags s n at result params g e)) laid; light = omega (arith, has) })
      go false k h = let l = later h in record { laid = l.laid; light = omega (arith, l.light) }

next : (s : Scope) (item : CItem) (items : List CItem) (r : Scope) → all_items s (item ∷ items) ≡ Ok r → (a : Scope) × ((b : Scope) × (item_judged s item ≡ Ok a) × (all_items (scope_or s (item_judged s item)) items ≡ Ok b) × (◌≡◌ {A = Judged Scope} (Ok b) (Ok r)))
next s item items r e = both_is (item_judged s item) (all_items (scope_or s (item_judged s item)) items) (λ _ inner. Ok inner) r e

behind : (f : Definition) (n m : ℕ) → IsWithin f m → IsWithin f (n + m)
behind f n m k = record { laid = k.laid; light = let le = k.light in omega (arith, le) }

found_within : (items : List CItem) (s r : Scope) (name : List ℕ) (f : Definition) → LaidOut s.tags → all_items s items ≡ Ok r → find (named name) (definitions s items) ≡ Some f → IsWithin f (items_sum weight s items)
found_within [] s r name f laid e h = absurd (cc h)
found_within (plain.StructItem tag ∷ items) s r name f laid e h =
    let item : CItem = plain.StructItem tag in let k = next s item items r e in
    behind f (item_sum weight s item) (items_sum weight (scope_or s (item_judged s item)) items) (found_within items (scope_or s (item_judged s item)) k.1.0 name f (item_laid s item laid) k.1.2 h)
found_within (plain.Object d ∷ items) s r name f laid e h =
    let item : CItem = plain.Object d in let k = next s item items r e in
    behind f (item_sum weight s item) (items_sum weight (scope_or s (item_judged s item)) items) (found_within items (scope_or s (item_judged s item)) k.1.0 name f (item_laid s item laid) k.1.2 h)
found_within (plain.Function n at result params None ∷ items) s r name f laid e h =
    let item : CItem = plain.Function n at result params None in let k = next s item items r e in
    behind f (item_sum weight s item) (items_sum weight (scope_or s (item_judged s item)) items) (found_within items (scope_or s (item_judged s item)) k.1.0 name f (item_laid s item laid) k.1.2 h)
found_within (plain.Function n at result params (Some body) ∷ items) s r name f laid e h =
    let item : CItem = plain.Function n at result params (Some body) in
    let k = next s item items r e in
    let g = after_is (signature s at result params) (λ g. declared_function s n at (Some body) g) k.0 k.1.1 in
    let z : Scope = scope_or s (item_judged s item) in
    own_within s n at result params body g.0 g.1 laid name f (definitions z items) (items_sum weight z items) (λ h. found_within items z k.1.0 name f (item_laid s item laid) k.1.2 h) h

ok_is : (r : Judged Scope) → IsOk r → (x : Scope) × (r ≡ Ok x)
ok_is (Ok x) h = (x, refl)
ok_is (Err e) h = absurd (cc h)

pub body_within : (u : CUnit) (name : List ℕ) (f : Definition) → IsTyped u → function_named (text_of u) name ≡ Some f → IsWithin f (weight_of u)
body_within u name f typed found =
    let t = ok_is (unit_judged u) typed in
    let all = after_is (all_items (start_scope u) u.items) (λ s. keeping ((list_any is_main u.items, fault.NoMain u.end) ∷ []) s) t.0 t.1 in
    found_within u.items (start_scope u) all.0 name f tt all.1 found
