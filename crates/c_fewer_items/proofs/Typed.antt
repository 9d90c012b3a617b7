-- What is judged where its calls stand first is judged so wherever they are known.
use Rattle.std.proofs.Common.{◌≡◌, ℕ, List, [], ◌∷◌, ◌++◌, Some, None, Bool, true, false, refl, sym, ap, ◌∙◌, cond}
use Rattle.std.specs.Prelude.{◌||◌, map, is_ok, Ok, Err, codes, if◌then◌else◌}
use Rattle.std.specs.List.{filter}
use Rattle.std.specs.Str.{bytes_eq}
use Rattle.std.proofs.lemmas.Slice.Eq.{bytes_eq-Decides}
use Rattle.c_syntax.specs.Plain as plain
use Rattle.c_syntax.specs.Plain.{CDecl, CStmt, CStmts}
use Rattle.c_syntax.specs.Words.{meaning}
use Rattle.c_types.specs.declared.fault.TypeFault.TheVariants as fault
use Rattle.c_types.specs.Types.{Int, types, Tags}
use Rattle.c_types.specs.Refusals.{Judged, after, keeping}
use Rattle.c_types.specs.Scope.{Names, Scope, Entity, Object, Routine, entered, with_name, contains, built_in}
use Rattle.c_types.specs.Statements.{Around, all_stated}
use Rattle.c_types.specs.Units.{Signature, signature, may_declare, entity_behind, with_function, body_scope, body_judged, declared_function, item_judged}
use Rattle.c_helpers.specs.Functions.{Helper}
use Rattle.c_helpers.specs.Names.{stmt_names}
use Rattle.c_helpers.specs.Fewer.{function_of}
use Rattle.c_fewer_types.specs.Stands.{head_type, function_type}
use Rattle.c_fewer_meaning.specs.Seeing.{SeesAll}
use Rattle.c_fewer_meaning.proofs.Trees.{block_tree}
use Rattle.c_fewer_items.proofs.Files.{in_file}
use Rattle.c_fewer_items.specs.FewerHeadsLaws.{all_functions, KnowsCalls}
use Rattle.c_fewer_items.proofs.Short.{all_simple, stmts_short}

-- ---- names that are known already

module _ (names : Names) (defined : List (List ℕ)) where
  -- entries that say what is known
  abbrev Known : Names → Type 0
  Known [] = Unit {0}
  Known (x ∷ xs) = (meaning names x.0 ≡ Some x.1) × Known xs

  abbrev Defined : List (List ℕ) → Type 0
  Defined [] = Unit {0}
  Defined (x ∷ xs) = (contains defined x ≡ true) × Defined xs

  known_so : (xs : Names) → Known xs → (name : List ℕ) → meaning (xs ++ names) name ≡ meaning names name
  known_so [] h name = refl
  known_so (x ∷ xs) h name = go (bytes_eq name x.0) refl (known_so xs h.1 name)
    where
      go : (b : Bool) → bytes_eq name x.0 ≡ b → meaning (xs ++ names) name ≡ meaning names name → cond b (Some x.1) (meaning (xs ++ names) name) ≡ meaning names name
      go true e more = sym (ap (λ z. meaning names z) ((bytes_eq-Decides name x.0).0 e) ∙ h.0)
      go false e more = more

  defined_so : (xs : List (List ℕ)) → Defined xs → (name : List ℕ) → contains (xs ++ defined) name ≡ contains defined name
  defined_so [] h name = refl
  defined_so (x ∷ xs) h name = go (bytes_eq name x) refl (defined_so xs h.1 name)
    where
      go : (b : Bool) → bytes_eq name x ≡ b → contains (xs ++ defined) name ≡ contains defined name → (b || contains (xs ++ defined) name) ≡ contains defined name
      go true e more = sym (ap (λ z. contains defined z) ((bytes_eq-Decides name x).0 e) ∙ h.0)
      go false e more = more

in_front : (block xs ys : Names) (name : List ℕ) → meaning xs name ≡ meaning ys name → meaning (block ++ xs) name ≡ meaning (block ++ ys) name
in_front [] xs ys name e = e
in_front (x ∷ block) xs ys name e = ap (λ o. cond (bytes_eq name x.0) (Some x.1) o) (in_front block xs ys name e)

-- a scope of a block, behind such entries
abbrev scope_of : Tags → Names → Names → List (List ℕ) → Scope
scope_of tags block names defined = record { tags = tags; block = block; outer = names; defined = defined }

sees_known : (tags : Tags) (block names xs : Names) (defined ds : List (List ℕ)) → Known names defined xs → Defined names defined ds → SeesAll (scope_of tags block (xs ++ names) (ds ++ defined)) (scope_of tags block names defined)
sees_known tags block names xs defined ds h k = record {
  tags = refl;
  names = λ name. record { entity = in_front block (xs ++ names) names name (known_so names defined xs h name); defined = defined_so names defined ds k name };
  here = λ name e. e;
}

-- ---- helper functions

abbrev pub block_from : List CDecl → Names → Names
block_from [] names = names
block_from (d ∷ ds) names = block_from ds ((d.name, Object (head_type d.ty)) ∷ names)

abbrev pub sign : Scope → Helper → Signature
sign s g = record { result = head_type g.result; parameters = record { types = types (map (λ (d : CDecl). head_type d.ty) g.params); scope = record (entered s) { block = block_from g.params [] } } }

abbrev pub stmts_of : CStmt → CStmts
stmts_of (plain.Block ss) = ss
stmts_of t = plain.NoStmt

-- the functions that its body names
abbrev pub calls_of : Helper → List (List ℕ × Helper)
calls_of g = filter (λ c. contains (stmt_names g.body) c.0) all_functions

abbrev pub put_entry : List ℕ × Entity
put_entry = (codes "putchar", built_in Int (Int ∷ []))

abbrev pub entries : (List ℕ → Bool) → List (List ℕ × Helper) → Names
entries begun [] = put_entry ∷ []
entries begun (c ∷ cs) = (c.0, Routine (function_type c.1) (begun c.0)) ∷ entries begun cs

abbrev pub names_of : List (List ℕ × Helper) → List (List ℕ)
names_of cs = map (λ c. c.0) cs

-- judged where its calls stand first
pub record IsChecked (g : Helper) : Type 0 where
  pub head : (s : Scope) → signature s 0 g.result g.params ≡ Ok (sign s g)
  pub block : g.body ≡ plain.Block (stmts_of g.body)
  pub simple : all_simple (stmts_of g.body) ≡ true
  pub typed : (tags : Tags) (begun : List ℕ → Bool) (names : Names) (defined : List (List ℕ)) → is_ok (all_stated (scope_of tags (block_from g.params []) (entries begun (calls_of g) ++ names) (names_of (calls_of g) ++ defined)) (record { result = head_type g.result; continues = false; breaks = false }) (stmts_of g.body)) ≡ true

judged_is : {A : Type 0} (r : Judged A) → is_ok r ≡ true → (a : A) × (r ≡ Ok a)
judged_is (Ok a) e = (a, refl)
judged_is (Err f) e = absurd (cc e)

abbrev pub Every : (List ℕ × Helper → Type 0) → List (List ℕ × Helper) → Type 0
Every P [] = Unit {0}
Every P (x ∷ xs) = P x × Every P xs

-- its name is its own
abbrev pub IsListed : List ℕ × Helper → Type 0
IsListed c = meaning all_functions c.0 ≡ Some c.1

-- ---- declarations

module _ (s : Scope) (g : Helper) (fresh : meaning s.block g.name ≡ None) where
  abbrev pub behind : Bool → Scope
  behind d = with_name s g.name (Routine (function_type g) d)

  -- a name that isn't known becomes that of the function
  declared_so : (d : Bool) → keeping ((may_declare (meaning s.block g.name) (function_type g) d, fault.Twice 0) ∷ []) (with_function s g.name (function_type g) d) ≡ Ok (behind d)
  declared_so d = ap (λ o. keeping ((may_declare o (function_type g) d, fault.Twice 0) ∷ []) (with_name s g.name (entity_behind o (function_type g) d))) fresh

  pub declared_typed : IsChecked g → item_judged s (plain.Function g.name 0 g.result g.params None) ≡ Ok (behind false)
  declared_typed checked = ap (λ q. after q (λ f. declared_function s g.name 0 None f)) (checked.head s) ∙ declared_so false

-- ---- definitions

module _ (begun : List ℕ → Bool) (s : Scope) (g : Helper) (k : KnowsCalls begun s g) where
  -- the names outside its body
  abbrev pub outside : Names
  outside = (g.name, entity_behind (meaning s.block g.name) (function_type g) true) ∷ s.block ++ s.outer

  pub other : (name : List ℕ) (e : Entity) → meaning s.block name ≡ Some e → meaning outside name ≡ Some e
  other name e m = go (bytes_eq name g.name) refl
    where
      go : (b : Bool) → bytes_eq name g.name ≡ b → cond b (Some (entity_behind (meaning s.block g.name) (function_type g) true)) (meaning (s.block ++ s.outer) name) ≡ Some e
      go true l = absurd (cc (sym k.fresh ∙ (ap (λ z. meaning s.block z) (sym ((bytes_eq-Decides name g.name).0 l)) ∙ m)))
      go false l = in_file s k.outer name ∙ m

  abbrev is_called : List ℕ × Helper → Bool
  is_called c = contains (stmt_names g.body) c.0

  record CallsKnown (cs : List (List ℕ × Helper)) : Type 0 where
    known : Known outside s.defined (entries begun cs)
    defined : Defined outside s.defined (names_of cs)

  calls_known : (xs : List (List ℕ × Helper)) → Every IsListed xs → CallsKnown (filter is_called xs)
  calls_known [] h = record { known = (other (codes "putchar") (built_in Int (Int ∷ [])) k.put, tt); defined = tt }
  calls_known (x ∷ xs) h = go (is_called x) refl (calls_known xs h.1)
    where
      go : (b : Bool) → is_called x ≡ b → CallsKnown (filter is_called xs) → CallsKnown (if b then x ∷ filter is_called xs else filter is_called xs)
      go true e more = let m = k.calls x.0 x.1 h.0 e in record { known = (other x.0 (Routine (function_type x.1) (begun x.0)) m.0, more.known); defined = (m.1, more.defined) }
      go false e more = more

  abbrev around : Around
  around = record { result = head_type g.result; continues = false; breaks = false }

  body_typed : IsChecked g → Every IsListed all_functions → (other : Scope) × (body_judged (body_scope s g.name (sign s g)) around (Some g.body) ≡ Ok other)
  body_typed checked listed =
      let c = calls_known all_functions listed in
      let block : Names = block_from g.params [] in
      let first : Scope = scope_of s.tags block (entries begun (calls_of g) ++ outside) (names_of (calls_of g) ++ s.defined) in
      let j = judged_is (all_stated first around (stmts_of g.body)) (checked.typed s.tags begun outside s.defined) in
      let m = block_tree first (scope_of s.tags block outside s.defined) around (stmts_of g.body) j.0 (sees_known s.tags block outside (entries begun (calls_of g)) s.defined (names_of (calls_of g)) c.known c.defined) (stmts_short (stmts_of g.body) checked.simple) j.1 in
      (m.0, ap (λ b. body_judged (body_scope s g.name (sign s g)) around (Some b)) checked.block ∙ m.1)

  pub defined_typed : IsChecked g → Every IsListed all_functions → item_judged s (function_of g) ≡ Ok (behind s g k.fresh true)
  defined_typed checked listed =
      let b = body_typed checked listed in
      ap (λ q. after q (λ f. declared_function s g.name 0 (Some g.body) f)) (checked.head s)
      ∙ (ap (λ q. after {A = Scope} q (λ _. keeping ((may_declare (meaning s.block g.name) (function_type g) true, fault.Twice 0) ∷ []) (with_function s g.name (function_type g) true))) b.1 ∙ declared_so s g k.fresh true)
