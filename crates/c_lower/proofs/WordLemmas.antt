-- Words of first values, one external behind the other.
use Rattle.std.proofs.Common.{◌≡◌, ℕ, suc, Bool, true, List, [], ◌∷◌, ◌++◌, Option, Some, None, refl, sym, ap, subst, ◌∙◌, append_assoc, append-nil}
use Rattle.std.proofs.lemmas.List.{map-append}
use Rattle.std.specs.Prelude.{Ok, IsOk, is_some}
use Rattle.word24.specs.declared.word.Word.{Word as TheWord}
use Rattle.c_syntax.specs.Plain as plain
use Rattle.c_syntax.specs.Plain.{CTy, CValue, CDecl, CStmt, CItem}
use Rattle.c_types.specs.Types.{CType}
use Rattle.c_types.specs.Refusals.{Judged}
use Rattle.c_types.specs.Scope.{Scope, contains}
use Rattle.c_types.specs.Declarations.{declared_type, scope_or}
use Rattle.c_types.specs.Units.{item_judged, all_items}
use Rattle.c_eval.specs.State.{Object}
use Rattle.c_eval.specs.Memory.{live_object}
use Rattle.c_eval.specs.Environment.{Environment, type_or_void, object_type_in, past_first}
use Rattle.c_eval.specs.LiteralsIn.{value_literals}
use Rattle.c_eval.specs.Text.{static_cells, first_cells, behind_item, behind_items, file_objects}
use Rattle.c_types.specs.Table.{Table}
use Rattle.c_operands.specs.declared.declarations.Declarations.{Declarations}
use Rattle.c_declared.specs.Held.{Holds, HoldsSome}
use Rattle.c_cells.specs.declared.structs.StructKinds.{StructKinds}
use Rattle.c_cells.specs.Structs.{AreStructKinds}
use Rattle.c_cells.proofs.StructLemmas.{struct_kinds_kept}
use Rattle.c_opening.specs.Named.{tags_in, HasNumber}
use Rattle.c_objects.specs.Passed.{behind_function}
use Rattle.c_objects.proofs.PassedLemmas.{ok_inner, function_passed, function_tags, item_passed}
use Rattle.c_lowered.specs.Locations.{Linking}
use Rattle.c_lowered.specs.Operations.{wrapped}
use Rattle.c_lowered.specs.Whole.{words_from, firsts_given, given_words}
use Rattle.eir_core.specs.declared.ops.Op.{Op}
use Rattle.c_addressing.specs.declared.here.Here.{Here}
use Rattle.c_addressing.specs.declared.here.Output.{Output}
use Rattle.c_addressing.specs.Here.{Emits}
use Rattle.c_applied.proofs.LeadsLemmas.{here_on, here_still}
use Rattle.c_lower_data.specs.Statics.{IsAtFile, AddsWords}
use Rattle.c_lower.specs.Words.{behind_name, first_words, item_words, IsBefore, AddsFirst, Passes, PassesAll}
use Rattle.c_lower.proofs.TextLemmas.{others_numbered, is_ok, scope_behind}

-- words behind words
pub words_then : (old now new : List TheWord) (xs ys : List ℕ) → now ≡ old ++ words_from xs → new ≡ now ++ words_from ys → new ≡ old ++ words_from (xs ++ ys)
words_then old now new xs ys e f =
    f ∙ (ap (λ (l : List TheWord). l ++ words_from ys) e ∙ (append_assoc old (words_from xs) (words_from ys) ∙ ap (λ (l : List TheWord). old ++ l) (sym (map-append wrapped xs ys))))

-- ---- what is known at file scope

pub at_still : (h : Here) (a b : Output) (w : Linking) (env : Environment) {code : List Op} → Emits a b code 0 → IsAtFile h a w env → IsAtFile h b w env
at_still h a b w env e at = record { here = here_still e at.here; owner = at.owner }

-- what is declared alone is another one
pub at_declared : (h : Here) (d : Declarations) (a : Output) (t : Table) (w : Linking) (env : Environment) (s : Scope) → Holds t d s → IsAtFile h a w env → IsAtFile (record h { declared = d }) (record a { types = t }) w (record env { scope = s })
at_declared h d a t w env s holds at = record {
  here = record { holds = holds; slots = at.here.slots; bases = at.here.bases; entries = at.here.entries; literals = record { address = λ n. at.here.literals.address n } };
  owner = at.owner;
}

-- ---- first values

pub some_first : (h : Here) (a b : Output) (old new : List TheWord) (w : Linking) (t : CType) (v : CValue) (env : Environment) → AddsWords a b old new w (static_cells v t env) (value_literals env.scope v) → IsAtFile h a w env → AddsFirst h b old new w (first_words w t (Some v) env) (past_first (Some v) env)
some_first h a b old new w t v env adds at = record { words_are = adds.words; at = record { here = here_on adds.emits at.here; owner = at.owner } }

pub none_first : (h : Here) (a : Output) (old : List TheWord) (w : Linking) (t : CType) (env : Environment) → IsAtFile h a w env → AddsFirst h a old old w (first_words w t None env) (past_first None env)
none_first h a old w t env at = record { words_are = sym (append-nil old); at = at }

past_scope : (first : Option CValue) (env : Environment) → (past_first first env).scope ≡ env.scope
past_scope None env = refl
past_scope (Some v) env = refl

past_next : (first : Option CValue) (env : Environment) → (past_first first env).next ≡ env.next
past_next None env = refl
past_next (Some v) env = refl

-- ---- one external

pub object_passes : (h : Here) (kinds : StructKinds) (a b : Output) (next : ℕ) (w : Linking) (env : Environment) (d : CDecl) (t : CType) (old new : List TheWord) → next ≡ suc env.next → declared_type env.scope d ≡ Ok t → b.types.tags ≡ a.types.tags
    → AreStructKinds a.types kinds (behind_name d env).scope.tags → AddsFirst h b old new w (first_words w t d.first (behind_name d env)) (past_first d.first (behind_name d env)) → Passes h kinds b next w env (plain.Object d) old new
object_passes h kinds a b next w env d t old new number typed tags structs adds =
    let place = behind_name d env in
    let last : Environment = past_first d.first place in
    let kept : AreStructKinds b.types kinds place.scope.tags = struct_kinds_kept a.types b.types kinds place.scope.tags tags structs in
    record {
      words_are = adds.words_are ∙ ap (λ (u : Judged CType). old ++ words_from (first_words w (type_or_void u) d.first place)) (sym typed);
      is = record { at = adds.at; structs = subst (λ (s : Scope). AreStructKinds b.types kinds s.tags) (sym (past_scope d.first place)) kept; next = number ∙ sym (past_next d.first place) };
    }

-- what declares no object
pub other_passes : (h : Here) (d : Declarations) (kinds : StructKinds) (a : Output) (t : Table) (number : ℕ) (w : Linking) (env : Environment) (s : Scope) (item : CItem) (old : List TheWord) → IsAtFile h a w env → number ≡ env.next → Holds t d s → AreStructKinds t kinds s.tags
    → behind_item item env ≡ record env { scope = s } → item_words w item env ≡ [] → Passes (record h { declared = d }) kinds (record a { types = t }) number w env item old old
other_passes h d kinds a t number w env s item old at next holds structs behind none = record {
  words_are = sym (ap (λ (l : List ℕ). old ++ words_from l) none ∙ append-nil old);
  is = subst (IsBefore (record h { declared = d }) kinds (record a { types = t }) number w) (sym behind) (record { at = at_declared h d a t w env s holds at; structs = structs; next = next });
}

pub function_passes : (h : Here) (d : Declarations) (kinds : StructKinds) (a : Output) (t : Table) (number : ℕ) (w : Linking) (env : Environment) (name : List ℕ) (at : ℕ) (result : CTy) (params : List CDecl) (body : Option CStmt) (old : List TheWord)
    → IsBefore h kinds a number w env → t.tags ≡ a.types.tags → IsOk (item_judged env.scope (plain.Function name at result params body)) → Holds t d (behind_function env.scope name at result params (is_some body))
    → Passes (record h { declared = d }) kinds (record a { types = t }) number w env (plain.Function name at result params body) old old
function_passes h d kinds a t number w env name at result params body old is same ok holds =
    let s = env.scope in
    let item = plain.Function name at result params body in
    let p = ok_inner (item_judged s item) ok in
    let behind : Scope = behind_function s name at result params (is_some body) in
    let there : behind ≡ scope_or s (item_judged s item) = function_passed s name at result params body p.0 p.1 in
    let structs : AreStructKinds t kinds behind.tags = struct_kinds_kept a.types t kinds behind.tags same (subst (AreStructKinds a.types kinds) (sym (function_tags s name at result params (is_some body))) is.structs) in
    other_passes h d kinds a t number w env behind item old is.at is.next holds structs (ap (λ (z : Scope). record env { scope = z }) (sym there)) refl

-- ---- all externals

place_is : (first : Option CValue) (x : Environment) (n : ℕ) → record (past_first first x) { literals_before = n } ≡ record x { literals_before = n }
place_is None x n = refl
place_is (Some v) x n = refl

-- the words of an object, and those of the others
first_given : (w : Linking) (t : CType) (first : Option CValue) (env : Environment) (gs : List Bool) (os : List Object) → given_words w (is_some first ∷ gs) (live_object (first_cells t first env) ∷ os) ≡ first_words w t first env ++ given_words w gs os
first_given w t None env gs os = refl
first_given w t (Some v) env gs os = refl

item_given : (w : Linking) (x : CItem) (rest : List CItem) (env : Environment) → given_words w (firsts_given (x ∷ rest)) (file_objects (x ∷ rest) env) ≡ item_words w x env ++ given_words w (firsts_given rest) (file_objects rest (behind_item x env))
item_given w (plain.StructItem tag) rest env = refl
item_given w (plain.Object d) rest env =
    let bare : Environment = record env { scope = scope_or env.scope (item_judged env.scope (plain.Object d)); objects = (d.name, Some env.next) ∷ env.objects; next = suc env.next } in
    let gs = firsts_given rest in
    let os = file_objects rest (behind_item (plain.Object d) env) in
    ap (λ (e : Environment). given_words w (is_some d.first ∷ gs) (live_object (first_cells (object_type_in env.scope d) d.first e) ∷ os)) (place_is d.first bare env.literals_before)
    ∙ first_given w (object_type_in env.scope d) d.first (behind_name d env) gs os
item_given w (plain.Function name at result params body) rest env = refl

-- the externals so far, and those that are left
pub record SoFar (h : Here) (kinds : StructKinds) (out : Output) (number : ℕ) (w : Linking) (env : Environment) (end : Scope) (old new : List TheWord) (left all : List CItem) : Type 0 where
  pub place : Environment
  pub is : IsBefore h kinds out number w place
  pub typed : all_items place.scope left ≡ Ok end
  pub taken : List ℕ
  pub words : new ≡ old ++ words_from taken
  pub whole : given_words w (firsts_given all) (file_objects all env) ≡ taken ++ given_words w (firsts_given left) (file_objects left place)
  pub behind : behind_items all env ≡ behind_items left place

pub record Going (a out : Output) (h e : Here) (kinds structs : StructKinds) (number : ℕ) (old new : List TheWord) (left all : List CItem) : Type 0 where
  pub some : HoldsSome out.types e.declared
  pub tags : out.types.tags ≡ a.types.tags
  pub numbered : (name : List ℕ) → contains (tags_in left) name ≡ true → HasNumber a.types name
  pub so_far : (w : Linking) (env : Environment) (end : Scope) → IsBefore h kinds a 0 w env → all_items env.scope all ≡ Ok end → SoFar e structs out number w env end old new left all

pub begun : (a : Output) (h : Here) (kinds : StructKinds) (old : List TheWord) (all : List CItem) → HoldsSome a.types h.declared → ((name : List ℕ) → contains (tags_in all) name ≡ true → HasNumber a.types name) → Going a a h h kinds kinds 0 old old all all
begun a h kinds old all some numbered = record {
  some = some;
  tags = refl;
  numbered = numbered;
  so_far = λ w env end is typed. record { place = env; is = is; typed = typed; taken = []; words = sym (append-nil old); whole = refl; behind = refl };
}

-- an external more
pub goes_on : (a b c : Output) (h e g : Here) (kinds structs more : StructKinds) (number next : ℕ) (old mid new : List TheWord) (x : CItem) (left rest all : List CItem) → Going a b h e kinds structs number old mid left all → left ≡ x ∷ rest → HoldsSome c.types g.declared
    → c.types.tags ≡ b.types.tags → ((w : Linking) (env : Environment) → IsBefore e structs b number w env → IsOk (item_judged env.scope x) → Passes g more c next w env x mid new) → Going a c h g kinds more next old new rest all
goes_on a b c h e g kinds structs more number next old mid new x left rest all k same some tags passes = record {
  some = some;
  tags = tags ∙ k.tags;
  numbered = others_numbered a.types x rest (subst (λ (l : List CItem). (name : List ℕ) → contains (tags_in l) name ≡ true → HasNumber a.types name) same k.numbered);
  so_far = λ w env end is typed.
      let f = k.so_far w env end is typed in
      let s = f.place.scope in
      let p = item_passed s x rest end (ap (all_items s) (sym same) ∙ f.typed) in
      let m = passes w f.place f.is (is_ok (item_judged s x) p.inner p.first) in
      let behind = behind_item x f.place in
      let scope : behind.scope ≡ p.inner = scope_behind x f.place ∙ ap (scope_or s) p.first in
      let own = item_words w x f.place in
      record {
        place = behind;
        is = m.is;
        typed = ap (λ (z : Scope). all_items z rest) scope ∙ p.rest;
        taken = f.taken ++ own;
        words = words_then old mid new f.taken own f.words m.words_are;
        whole = f.whole ∙ (ap (λ (l : List CItem). f.taken ++ given_words w (firsts_given l) (file_objects l f.place)) same
            ∙ (ap (λ (l : List ℕ). f.taken ++ l) (item_given w x rest f.place) ∙ sym (append_assoc f.taken own (given_words w (firsts_given rest) (file_objects rest behind)))));
        behind = f.behind ∙ ap (λ (l : List CItem). behind_items l f.place) same;
      };
}

-- all are passed
pub done : (a b : Output) (h e : Here) (kinds structs : StructKinds) (number : ℕ) (old new : List TheWord) (left all : List CItem) (w : Linking) (env : Environment) (end : Scope) → Going a b h e kinds structs number old new left all → left ≡ [] → IsBefore h kinds a 0 w env
    → all_items env.scope all ≡ Ok end → PassesAll e b w env all old new
done a b h e kinds structs number old new left all w env end k none is typed =
    let f = k.so_far w env end is typed in
    let whole : given_words w (firsts_given all) (file_objects all env) ≡ f.taken = f.whole ∙ (ap (λ (l : List CItem). f.taken ++ given_words w (firsts_given l) (file_objects l f.place)) none ∙ append-nil f.taken) in
    let behind : behind_items all env ≡ f.place = f.behind ∙ ap (λ (l : List CItem). behind_items l f.place) none in
    record {
      words_are = f.words ∙ ap (λ (l : List ℕ). old ++ words_from l) (sym whole);
      at = subst (IsAtFile e b w) (sym behind) f.is.at;
    }
