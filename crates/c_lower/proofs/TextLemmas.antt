-- Texts of literals of file scope, one external behind the other.
use Rattle.std.proofs.Common.{◌≡◌, ℕ, suc, Bool, true, false, ◌||◌, List, [], ◌∷◌, ◌++◌, Option, Some, None, refl, sym, ap, subst, ◌∙◌, append_assoc, append-nil}
use Rattle.std.specs.Prelude.{Ok, IsOk}
use Rattle.std.specs.Str.{bytes_eq}
use denote.Ref.{Bor}
use Rattle.c_syntax.specs.Plain as plain
use Rattle.c_syntax.specs.Plain.{CValue, CItem}
use Rattle.c_types.specs.Refusals.{Judged}
use Rattle.c_types.specs.Scope.{Scope, contains}
use Rattle.c_types.specs.Declarations.{scope_or}
use Rattle.c_types.specs.Units.{item_judged, all_items}
use Rattle.c_eval.specs.Environment.{Environment, past_first}
use Rattle.c_eval.specs.Text.{behind_item}
use Rattle.c_types.specs.Table.{Table, texts}
use Rattle.c_operands.specs.declared.declarations.Declarations.{Declarations}
use Rattle.c_declared.specs.Held.{Holds, HoldsSome}
use Rattle.c_opening.specs.Named.{tag_in, tags_in, with_some, HasNumber}
use Rattle.c_objects.proofs.PassedLemmas.{item_passed}
use Rattle.c_lowered.specs.Whole.{item_literals, file_literals}
use Rattle.c_lower_literals.specs.Gathered.{Adds}
use Rattle.c_lower.specs.Texts.{Passes}

abbrev pub Texts : Type 0
Texts = List (Bor (List ℕ))

pub none_added : (xs : Texts) → Adds xs xs []
none_added xs = record { behind = sym (append-nil (texts xs)) }

adds_then : {xs ys zs : Texts} {ls ms : List (List ℕ)} → Adds xs ys ls → Adds ys zs ms → Adds xs zs (ls ++ ms)
adds_then {xs} {ys} {zs} {ls} {ms} e f = record { behind = f.behind ∙ (ap (λ (l : List (List ℕ)). l ++ ms) e.behind ∙ append_assoc (texts xs) ls ms) }

or_true : (b c : Bool) → c ≡ true → (b || c) ≡ true
or_true true c e = refl
or_true false c e = e

-- the tags of the others
pub others_numbered : (table : Table) (x : CItem) (rest : List CItem) → ((name : List ℕ) → contains (tags_in (x ∷ rest)) name ≡ true → HasNumber table name) → (name : List ℕ) → contains (tags_in rest) name ≡ true → HasNumber table name
others_numbered table x rest h name there = h name (by (tag_in x)) where
  by : (o : Option (List ℕ)) → contains (with_some o (tags_in rest)) name ≡ true
  by None = there
  by (Some tag) = or_true (bytes_eq name tag) (contains (tags_in rest) name) there

pub is_ok : {A : Type 0} (r : Judged A) (a : A) → r ≡ Ok a → IsOk r
is_ok {A} r a e = let P : Judged A → Type 0 = λ x. IsOk x in subst P (sym e) refl

pub scope_behind : (item : CItem) (here : Environment) → (behind_item item here).scope ≡ scope_or here.scope (item_judged here.scope item)
scope_behind (plain.StructItem tag) here = refl
scope_behind (plain.Object d) here = by d.first where
  by : (first : Option CValue) → (past_first first (record here { scope = scope_or here.scope (item_judged here.scope (plain.Object d)); objects = (d.name, Some here.next) ∷ here.objects; next = suc here.next })).scope ≡ scope_or here.scope (item_judged here.scope (plain.Object d))
  by None = refl
  by (Some v) = refl
scope_behind (plain.Function name at result params body) here = refl

-- the externals so far, and those that are left
pub record SoFar (now : Table) (e : Declarations) (old new : Texts) (here : Environment) (end : Scope) (left all : List CItem) : Type 0 where
  pub place : Environment
  pub holds : Holds now e place.scope
  pub typed : all_items place.scope left ≡ Ok end
  pub taken : List (List ℕ)
  pub adds : Adds old new taken
  pub is : file_literals all here ≡ taken ++ file_literals left place

pub record Going (t0 now : Table) (d e : Declarations) (old new : Texts) (left all : List CItem) : Type 0 where
  pub some : HoldsSome now e
  pub tags : now.tags ≡ t0.tags
  pub numbered : (name : List ℕ) → contains (tags_in left) name ≡ true → HasNumber t0 name
  pub so_far : (here : Environment) (end : Scope) → Holds t0 d here.scope → all_items here.scope all ≡ Ok end → SoFar now e old new here end left all

pub begun : (t0 : Table) (d : Declarations) (old : Texts) (all : List CItem) → HoldsSome t0 d → ((name : List ℕ) → contains (tags_in all) name ≡ true → HasNumber t0 name) → Going t0 t0 d d old old all all
begun t0 d old all some numbered = record {
  some = some;
  tags = refl;
  numbered = numbered;
  so_far = λ here end holds typed. record { place = here; holds = holds; typed = typed; taken = []; adds = none_added old; is = refl };
}

-- an external more
pub goes_on : (t0 t1 t2 : Table) (d e g : Declarations) (old mid new : Texts) (x : CItem) (left rest all : List CItem) → Going t0 t1 d e old mid left all → left ≡ x ∷ rest → HoldsSome t2 g → t2.tags ≡ t1.tags
    → ((here : Environment) → Holds t1 e here.scope → IsOk (item_judged here.scope x) → Passes t2 g mid new x here) → Going t0 t2 d g old new rest all
goes_on t0 t1 t2 d e g old mid new x left rest all h next some tags passes = record {
  some = some;
  tags = tags ∙ h.tags;
  numbered = others_numbered t0 x rest (subst (λ (l : List CItem). (name : List ℕ) → contains (tags_in l) name ≡ true → HasNumber t0 name) next h.numbered);
  so_far = λ here end holds typed.
      let f = h.so_far here end holds typed in
      let s = f.place.scope in
      let p = item_passed s x rest end (ap (all_items s) (sym next) ∙ f.typed) in
      let m = passes f.place f.holds (is_ok (item_judged s x) p.inner p.first) in
      let behind = behind_item x f.place in
      let is : behind.scope ≡ scope_or s (item_judged s x) = scope_behind x f.place in
      let own = item_literals x f.place in
      record {
        place = behind;
        holds = subst (λ (z : Scope). Holds t2 g z) (sym is) m.holds;
        typed = ap (λ (z : Scope). all_items z rest) (is ∙ ap (scope_or s) p.first) ∙ p.rest;
        taken = f.taken ++ own;
        adds = adds_then f.adds m.adds;
        is = f.is ∙ (ap (λ (l : List CItem). f.taken ++ file_literals l f.place) next ∙ sym (append_assoc f.taken own (file_literals rest behind)));
      };
}

-- all are passed
pub done : (t0 t1 : Table) (d e : Declarations) (old new : Texts) (left all : List CItem) (here : Environment) (end : Scope) → Going t0 t1 d e old new left all → left ≡ [] → Holds t0 d here.scope → all_items here.scope all ≡ Ok end → Adds old new (file_literals all here)
done t0 t1 d e old new left all here end h none holds typed =
    let f = h.so_far here end holds typed in
    let is : f.taken ≡ file_literals all here = sym (f.is ∙ (ap (λ (l : List CItem). f.taken ++ file_literals l f.place) none ∙ append-nil f.taken)) in
    subst (λ (l : List (List ℕ)). Adds old new l) is f.adds

-- behind none
pub first_ones : (old new : Texts) (ls : List (List ℕ)) → old ≡ [] → Adds old new ls → texts new ≡ ls
first_ones old new ls none adds = adds.behind ∙ ap (λ (l : Texts). texts l ++ ls) none
