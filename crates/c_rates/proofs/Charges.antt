-- The charge of a function that a typed text defines.
use Rattle.std.proofs.Common.{◌≡◌, ℕ, suc, ◌+◌, ◌≤◌, Bool, true, false, List, [], ◌∷◌, ◌++◌, length, map, Option, Some, None, refl, sym, ap, ◌∙◌, subst, cond, arith}
use Rattle.std.specs.Prelude.{◌&&◌, Ok, Err, if◌then◌else◌, IsOk}
use Rattle.std.specs.List.{find, list_any}
use Rattle.std.specs.Option.{option_map_or, option_or}
use Rattle.std.specs.Str.{bytes_eq}
use Rattle.std.proofs.lemmas.List.{length-map}
use Rattle.std.proofs.lemmas.Slice.Eq.{bytes_eq-Decides}
use Rattle.c_syntax.specs.Plain as plain
use Rattle.c_syntax.specs.Plain.{CTy, CDecl, CStmt, CItem, CUnit}
use Rattle.c_syntax.specs.Words.{meaning}
use Rattle.c_types.specs.declared.fault.TypeFault.TheVariants as fault
use Rattle.c_types.specs.Refusals.{Judged, keeping}
use Rattle.c_types.specs.Scope.{Scope}
use Rattle.c_types.specs.Declarations.{scope_or}
use Rattle.c_types.specs.Units.{Signature, signature, body_scope, declared_function, item_judged, all_items, start_scope, is_main, unit_judged}
use Rattle.c_types.specs.Census.{Tally}
use Rattle.c_types.specs.Room as room
use Rattle.c_types.specs.Room.{charge_of, charges_in, charges_of}
use Rattle.c_eval.specs.Text.{Definition, definition_in, definitions}
use Rattle.c_helpers.specs.Laws.{each, is_strange}
use Rattle.c_helpers.specs.Simple.{helper_frames, charge_in}
use Rattle.c_stated.specs.Statements.{stmt_need}
use Rattle.c_fewer_types.specs.Standing.{IsTextName}
use Rattle.c_fewer_types.proofs.FewerTypedRules.{after_is, both_is}
use Rattle.c_rates.specs.Counts.{FramesFitCharges}
use Rattle.c_rates.proofs.Expressions.{text_calm}
use Rattle.c_rates.proofs.Statements.{body_sound}

-- ---- the charge that a text tells

abbrev named : List ℕ → Definition → Bool
named name f = bytes_eq name f.name

-- of the function that is found
record IsCharged (name : List ℕ) (f : Definition) (o : Option ℕ) : Type 0 where
  params : List CDecl
  names : f.params ≡ map (λ d. d.name) params
  is : o ≡ Some (charge_of f.scope params f.body)

module _ (s : Scope) (n : List ℕ) (at : ℕ) (result : CTy) (params : List CDecl) (body : CStmt) (g : Signature) (e : signature s at result params ≡ Ok g) (name : List ℕ) (f : Definition) (rest : List Definition) (more : List (List ℕ × ℕ)) where
  abbrev own : Definition
  own = record { name = n; result = g.result; params = map (λ d. d.name) params; scope = body_scope s n g; body = body }

  abbrev charge : Judged Signature → ℕ
  charge q = room.charge_in s n params body q

  own_charged : (find (named name) rest ≡ Some f → IsCharged name f (meaning more name)) → find (named name) (definition_in s n params body (signature s at result params) ++ rest) ≡ Some f → IsCharged name f (meaning ((n, charge (signature s at result params)) ∷ more) name)
  own_charged later h = go (bytes_eq name n) refl (ap (λ q. find (named name) (definition_in s n params body q ++ rest)) (sym e) ∙ h)
    where
      go : (b : Bool) → bytes_eq name n ≡ b → cond b (Some own) (find (named name) rest) ≡ Some f → IsCharged name f (cond b (Some (charge (signature s at result params))) (meaning more name))
      go true k h = let same : own ≡ f = cc h in subst (λ z. IsCharged name z (Some (charge (signature s at result params)))) same (record { params = params; names = refl; is = ap (λ q. Some (charge q)) e })
      go false k h = later h

next : (s : Scope) (item : CItem) (items : List CItem) (r : Scope) → all_items s (item ∷ items) ≡ Ok r → (a : Scope) × ((b : Scope) × (item_judged s item ≡ Ok a) × (all_items (scope_or s (item_judged s item)) items ≡ Ok b) × (◌≡◌ {A = Judged Scope} (Ok b) (Ok r)))
next s item items r e = both_is (item_judged s item) (all_items (scope_or s (item_judged s item)) items) (λ _ inner. Ok inner) r e

charged : (items : List CItem) (s r : Scope) (name : List ℕ) (f : Definition) → all_items s items ≡ Ok r → find (named name) (definitions s items) ≡ Some f → IsCharged name f (meaning (charges_in s items) name)
charged [] s r name f e h = absurd (cc h)
charged (plain.StructItem tag ∷ items) s r name f e h = let k = next s (plain.StructItem tag) items r e in charged items (scope_or s (item_judged s (plain.StructItem tag))) k.1.0 name f k.1.2 h
charged (plain.Object d ∷ items) s r name f e h = let k = next s (plain.Object d) items r e in charged items (scope_or s (item_judged s (plain.Object d))) k.1.0 name f k.1.2 h
charged (plain.Function n at result params None ∷ items) s r name f e h = let k = next s (plain.Function n at result params None) items r e in charged items (scope_or s (item_judged s (plain.Function n at result params None))) k.1.0 name f k.1.2 h
charged (plain.Function n at result params (Some body) ∷ items) s r name f e h =
    let item : CItem = plain.Function n at result params (Some body) in
    let k = next s item items r e in
    let g = after_is (signature s at result params) (λ g. declared_function s n at (Some body) g) k.0 k.1.1 in
    let z : Scope = scope_or s (item_judged s item) in
    own_charged s n at result params body g.0 g.1 name f (definitions z items) (charges_in z items) (λ h. charged items z k.1.0 name f k.1.2 h) h

-- ---- a name of a text is no helper function's

none_found : {A : Type 0} (xs : List (List ℕ × A)) (name : List ℕ) → each (λ x. list_any is_strange x.0) xs ≡ true → IsTextName name → meaning xs name ≡ None
none_found [] name e n = refl
none_found (x ∷ xs) name e n = go (bytes_eq name x.0) refl (list_any is_strange x.0) refl (λ k. none_found xs name k n) e
  where
    go : (b : Bool) → bytes_eq name x.0 ≡ b → (c : Bool) → list_any is_strange x.0 ≡ c → (each (λ x. list_any is_strange x.0) xs ≡ true → meaning xs name ≡ None) → (c && each (λ x. list_any is_strange x.0) xs) ≡ true → cond b (Some x.1) (meaning xs name) ≡ None
    go true k true l more e = absurd (cc (sym n ∙ (ap (λ z. list_any is_strange z) ((bytes_eq-Decides name x.0).0 k) ∙ l)))
    go false k true l more e = more e
    go b k false l more e = absurd (cc e)

own_only : (u : CUnit) (name : List ℕ) (n : ℕ) → IsTextName name → meaning (charges_of u) name ≡ Some n → charge_in u name ≡ n
own_only u name n text e =
    ap (λ b. if b then 0 else option_map_or (λ n. n) (option_or (meaning helper_frames name) (meaning (charges_of u) name)) 0) (text_calm name text)
    ∙ (ap (λ o. option_map_or (λ n. n) (option_or o (meaning (charges_of u) name)) 0) (none_found helper_frames name refl text) ∙ ap (λ o. option_map_or (λ n. n) o 0) e)

ok_is : (r : Judged Scope) → IsOk r → (x : Scope) × (r ≡ Ok x)
ok_is (Ok x) h = (x, refl)
ok_is (Err e) h = absurd (cc h)

-- ---- frames

abbrev node_tally : Tally
node_tally = record { expr = λ s e. 1; node = 1; ty = λ tags t. 0; object = λ tags t v. 0 }

pub frames_fit_charges : FramesFitCharges
frames_fit_charges u test reached name f g site typed text names found stands here =
    let t = ok_is (unit_judged u) typed in
    let all = after_is (all_items (start_scope u) u.items) (λ s. keeping ((list_any is_main u.items, fault.NoMain u.end) ∷ []) s) t.0 t.1 in
    let k = charged u.items (start_scope u) all.0 name f all.1 found in
    let b = body_sound node_tally (λ s e. omega arith) (omega arith) f.body f.scope stands.around stands.behind names stands.short stands.typed in
    let many : length f.params ≡ length k.params = ap length k.names ∙ length-map k.params (λ (d : CDecl). d.name) in
    let whole : charge_in u name ≡ charge_of f.scope k.params f.body = own_only u name (charge_of f.scope k.params f.body) text k.is in
    subst (λ z. site.scope ≡ z.scope → suc (length z.params) + stmt_need z.body site ≤ charge_in u name) (sym stands.is)
    (λ here. let fit = b.0 site (ap (λ (z : Scope). z.tags) here ∙ sym stands.stand.tags) in omega (arith, fit, many, whole)) here
