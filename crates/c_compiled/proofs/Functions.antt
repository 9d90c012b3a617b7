-- The functions of a desugared program are as lowering asks.
use Rattle.std.proofs.Common.{◌≡◌, inl, inr, ℕ, ◌+◌, List, [], ◌∷◌, ◌++◌, Option, Some, None, Bool, true, false, refl, sym, ap, ap₂, subst, arith}
use Rattle.std.specs.Prelude.{not, ◌&&◌, ◌||◌, ◌⊎◌, is_some, nat_lt, Ok, Err, if◌then◌else◌, codes}
use Rattle.std.specs.List.{find, list_any}
use Rattle.std.specs.Option.{option_map}
use Rattle.std.specs.Str.{bytes_eq}
use Rattle.std.proofs.lemmas.Bool.{and_parts}
use Rattle.c_syntax.specs.Plain as plain
use Rattle.c_syntax.specs.Plain.{CStmt, CItem, CUnit}
use Rattle.c_types.specs.Refusals.{Judged}
use Rattle.c_types.specs.Scope.{Scope}
use Rattle.c_types.specs.Declarations.{scope_or}
use Rattle.c_types.specs.Units.{defined_in, start_scope, Signature, signature, item_judged}
use Rattle.c_eval.specs.State.{Value, Run}
use Rattle.c_eval.specs.Environment.{Callee}
use Rattle.c_eval.specs.Text.{Definition, Text, text_of, function_named, definition_in, item_definitions, definitions}
use Rattle.c_eval.specs.Meaning.{world_of}
use Rattle.c_valid.specs.Limited.{StmtIsLimited}
use Rattle.c_helpers.specs.Laws.{is_strange}
use Rattle.c_helpers.specs.Meanings.{Action, stands_for}
use Rattle.c_helpers.specs.Simple.{desugared, charge_in}
use Rattle.c_fewer_reached.specs.Updates.{UpdatesAre}
use Rattle.c_fewer_types.specs.Standing.{IsTextName, StmtHas, AnyDeclaration}
use Rattle.c_fewer_items.specs.Kept.{DefinitionStands}
use Rattle.c_programs.specs.Programs.{BodiesHave, IsProgram}
use Rattle.c_fitting.specs.Blocks.{IsNoDeclaration, DeclaresInBlocks, ItemDeclaresInBlocks, ItemsDeclareInBlocks, UnitDeclaresInBlocks}
use Rattle.c_rates.specs.Rates.{uses, rate_of}
use Rattle.c_lowered.specs.Counts.{is_known_to_helpers}
use Rattle.c_lowered.specs.Whole.{entry_in}
use Rattle.c_landing.specs.Landing.{Setting}
use Rattle.c_followed.specs.Bodies.{beginning, FunctionIs}
use Rattle.c_followed.specs.Framed.{MayBeCalled, IsOwn}
use Rattle.c_laid.specs.Data.{is_valued}
use Rattle.c_followed.specs.Lowered.{setting_of, rules_of}
use Rattle.c_laid.proofs.Functions.{functions_are_lettered}
use Rattle.c_compiled.specs.Functions.{NamesServe}
use Rattle.c_compiled.proofs.Items.{functions_of_texts_are_text_functions}
use Rattle.c_compiled.specs.FewFunctionsLaws.{BodyIs, IsOrdinaryFunction}
use Rattle.c_compiled.proofs.FewFunctions.{functions_are_few}
use Rattle.c_compiled.proofs.Programs.{helpers, may_call, IsMade, HasRoom}
use Rattle.c_compiled.proofs.Found.{some_is, denied, entry_some, positive}
use Rattle.c_compiled.proofs.Names.{text_unknown}

-- ---- what is found

-- what holds of each body holds of one that is found
body_found : (H : CStmt → Type 0) (fs : List Definition) (name : List ℕ) (f : Definition) → BodiesHave H fs → find (λ g. bytes_eq name g.name) fs ≡ Some f → H f.body
body_found H [] name f h e = absurd (cc e)
body_found H (g ∷ fs) name f h e = go (bytes_eq name g.name) (λ k. body_found H fs name f h.1 k) e
  where
    go : (b : Bool) → (find (λ x. bytes_eq name x.name) fs ≡ Some f → H f.body) → (if b then Some g else find (λ x. bytes_eq name x.name) fs) ≡ Some f → H f.body
    go true more e = let is : g ≡ f = cc e in subst (λ (z : Definition). H z.body) is h.0
    go false more e = more e

bodies_joined : (H : CStmt → Type 0) (fs gs : List Definition) → BodiesHave H fs → BodiesHave H gs → BodiesHave H (fs ++ gs)
bodies_joined H [] gs h k = k
bodies_joined H (f ∷ fs) gs h k = (h.0, bodies_joined H fs gs h.1 k)

-- ---- blocks

abbrev Blocked : CStmt → Type 0
Blocked t = DeclaresInBlocks t × IsNoDeclaration t

item_blocked : (s : Scope) (item : CItem) → ItemDeclaresInBlocks item → BodiesHave Blocked (item_definitions s item)
item_blocked s (plain.StructItem tag) h = tt
item_blocked s (plain.Object d) h = tt
item_blocked s (plain.Function name at result params None) h = tt
item_blocked s (plain.Function name at result params (Some body)) h = go (signature s at result params)
  where
    go : (q : Judged Signature) → BodiesHave Blocked (definition_in s name params body q)
    go (Ok f) = (h, tt)
    go (Err e) = tt

items_blocked : (items : List CItem) (s : Scope) → ItemsDeclareInBlocks items → BodiesHave Blocked (definitions s items)
items_blocked [] s h = tt
items_blocked (item ∷ items) s h = bodies_joined Blocked (item_definitions s item) (definitions (scope_or s (item_judged s item)) items) (item_blocked s item h.0) (items_blocked items (scope_or s (item_judged s item)) h.1)

-- ---- the functions

module _ (u : CUnit) (test reached kept : List ℕ → Bool) (input : List ℕ) (is : IsProgram u) (blocks : UnitDeclaresInBlocks u) (made : IsMade u test reached kept) (room : HasRoom u test reached input) where
  abbrev v : CUnit
  v = desugared u

  abbrev t : Text
  t = text_of v

  abbrev S : Setting
  S = setting_of v input (rate_of u)

  abbrev may : Callee → Bool
  may = may_call t

  abbrev defined : List (List ℕ)
  defined = defined_in u.items

  valued_is : (name : List ℕ) (f : Definition) → IsTextName name → function_named t name ≡ Some f → is_valued v name ≡ true
  valued_is name f n e = ap₂ (λ a b. not a && b) n (positive (entry_in t.functions 2 name) (entry_some t.functions 2 name (omega arith) (ap is_some e)))

  serve : NamesServe (is_valued v) may test defined
  serve = record {
    points = λ name p n d. let f = some_is (function_named t name) (made.found name (made.text name p n d)) in valued_is name f.0 n f.1;
    direct = λ name params p ours. direct name p (list_any is_strange name) refl ours;
    built_in = λ name params e. ap not e;
    through = λ params. refl;
    own = λ name p. own name p (list_any is_strange name) refl;
  }
    where
      direct : (name : List ℕ) → test name ≡ true → (b : Bool) → list_any is_strange name ≡ b → (not b || is_some (stands_for name)) ≡ true → (not b || (is_some (stands_for name) && is_some (function_named t name))) ≡ true
      direct name p true e ours = ap₂ (λ a b. a && b) ours (made.found name (made.strange name p e).0)
      direct name p false e ours = refl

      own : (name : List ℕ) → test name ≡ true → (b : Bool) → list_any is_strange name ≡ b → is_known_to_helpers name ≡ false
      own name p true e = (made.strange name p e).1
      own name p false e = text_unknown name e

  ordinary : (name : List ℕ) (f : Definition) → function_named (text_of u) name ≡ Some f → StmtIsLimited f.scope f.body → IsOrdinaryFunction defined f
  ordinary name f e l =
      let b : Blocked f.body = body_found Blocked (text_of u).functions name f (items_blocked u.items (start_scope u) blocks) e in
      record {
        text = functions_of_texts_are_text_functions u is.typed is.names name f e;
        updates = body_found (λ b. StmtHas UpdatesAre AnyDeclaration b) (text_of u).functions name f is.updates e;
        limited = l;
        blocks = b.0;
        block = b.1;
      }

  own_is : (name : List ℕ) (g : Definition) (calls : List ℕ → List Value → Run Value) → IsTextName name → function_named t name ≡ Some g → FunctionIs S (world_of t input name calls) uses may (charge_in u name) (rate_of u) g
  own_is name g calls n e =
      let k = made.functions name g n e in
      let f : Definition = k.0 in
      let stands = k.2 in
      let o : IsOrdinaryFunction defined f = ordinary name f k.1 stands.limited in
      let d : DefinitionStands test f g = record { scope = stands.scope; is = stands.is; stand = stands.stand; short = stands.short; passes = stands.names; around = stands.around; behind = stands.behind; typed = stands.typed } in
      let b : BodyIs S (world_of t input name calls) may g = functions_are_few S (world_of t input name calls) may test defined f g serve o d (functions_are_lettered v name g e) in
      record {
        body = b.body;
        declares = b.declares;
        breaks = b.breaks;
        framed = room.framed name f g (beginning S g) n o.text.scope.names k.1 stands refl;
        paid = room.paid name f g (beginning S g) n o.text.scope.names k.1 stands refl;
      }

  -- a function that may be called and is no helper function has a name of the text
  none_stands : (o : Option Action) (f : Action → List Value → Run Value) → option_map f o ≡ None → is_some o ≡ true → ⊥
  none_stands (Some a) f e h = cc e
  none_stands None f e h = cc h

  own_name : (name : List ℕ) → MayBeCalled S may name ⊎ (name ≡ codes "main") → (rules_of v (helpers u) input).helps name ≡ None → IsTextName name
  own_name name (inr same) helps = subst (λ z. IsTextName z) (sym same) refl
  own_name name (inl (inr c)) helps = denied (list_any is_strange name) (and_parts (not (list_any is_strange name)) (nat_lt 0 (entry_in t.functions 2 name)) c.2).0
  own_name name (inl (inl c)) helps = go (list_any is_strange name) c.1
    where
      go : (b : Bool) → (not b || (is_some (stands_for name) && is_some (function_named t name))) ≡ true → b ≡ false
      go true e = absurd (none_stands (stands_for name) _ helps (and_parts (is_some (stands_for name)) (is_some (function_named t name)) e).0)
      go false e = refl

  pub functions_are : (name : List ℕ) (f : Definition) (calls : List ℕ → List Value → Run Value) → IsOwn S t (rules_of v (helpers u) input) may name f → FunctionIs S (world_of t input name calls) uses may (charge_in u name) (rate_of u) f
  functions_are name f calls own = own_is name f calls (own_name name own.0 own.1) own.2
