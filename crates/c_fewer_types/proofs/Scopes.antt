-- Scopes stand for each other behind what is declared in both.
use Rattle.std.proofs.Common.{◌≡◌, ℕ, List, [], ◌∷◌, ◌++◌, Option, Some, Bool, true, false, refl, sym, ap, ◌∙◌, subst, cond, take, drop, take-append-drop}
use Rattle.std.specs.Prelude.{◌&&◌, map, if◌then◌else◌, codes}
use Rattle.std.specs.List.{list_any}
use Rattle.std.specs.Option.{option_map_or}
use Rattle.std.specs.Str.{bytes_eq}
use Rattle.std.proofs.lemmas.Slice.Eq.{bytes_eq-Decides}
use Rattle.c_syntax.specs.Words.{meaning}
use Rattle.c_types.specs.Types.{CType}
use Rattle.c_types.specs.Scope.{Scope, Entity, Object, Routine, BuiltIn, entity_of, is_declared_here, with_name, entered, contains, built_ins}
use Rattle.c_eval.specs.LiteralsIn.{is_printf}
use Rattle.c_fewer_types.specs.Written.{CanBeWritten, EntityCanBeWritten, ScopeCanBeWritten}
use Rattle.c_helpers.specs.Functions.{Helper, functions, print_format}
use Rattle.c_helpers.specs.Meanings.{is_format}
use Rattle.c_helpers.specs.Laws.{each, is_strange}
use Rattle.c_fewer_types.specs.Stands.{function_type, helper_type, EntityStands, NameStands}
use Rattle.c_fewer_types.specs.Laws.{KnowsBuiltIns}
use Rattle.c_fewer_types.specs.Standing.{IsTextName, ScopesStand}

-- ---- names of helper functions are none of a text

found_strange : (hs : List Helper) (name : List ℕ) (t : CType) → each (λ name. list_any is_strange name) (map (λ h. h.name) hs) ≡ true → meaning (map (λ h. (h.name, function_type h)) hs) name ≡ Some t → list_any is_strange name ≡ true
found_strange [] name t e f = absurd (cc f)
found_strange (h ∷ hs) name t e f = go (bytes_eq name h.name) refl (list_any is_strange h.name) refl (λ k l. found_strange hs name t k l) e f
  where
    go : (b : Bool) → bytes_eq name h.name ≡ b → (c : Bool) → list_any is_strange h.name ≡ c
        → (each (λ name. list_any is_strange name) (map (λ h. h.name) hs) ≡ true → meaning (map (λ h. (h.name, function_type h)) hs) name ≡ Some t → list_any is_strange name ≡ true)
        → (c && each (λ name. list_any is_strange name) (map (λ h. h.name) hs)) ≡ true
        → cond b (Some (function_type h)) (meaning (map (λ h. (h.name, function_type h)) hs) name) ≡ Some t → list_any is_strange name ≡ true
    go true k true l more e f = ap (λ z. list_any is_strange z) ((bytes_eq-Decides name h.name).0 k) ∙ l
    go false k true l more e f = more e f
    go b k false l more e f = absurd (cc e)

format_strange : (name : List ℕ) → is_format name ≡ true → list_any is_strange name ≡ true
format_strange name e =
    let front : take 7 name ≡ codes "printf " = (bytes_eq-Decides (take 7 name) (codes "printf ")).0 e in
    let whole : codes "printf " ++ drop 7 name ≡ name = ap (λ z. z ++ drop 7 name) (sym front) ∙ take-append-drop 7 name in
    subst (λ z. list_any is_strange z ≡ true) whole refl

helper_strange : (name : List ℕ) (t : CType) → helper_type name ≡ Some t → list_any is_strange name ≡ true
helper_strange name t e = go (is_format name) refl e
  where
    go : (b : Bool) → is_format name ≡ b → (if b then Some (function_type (print_format (drop 7 name))) else meaning (map (λ h. (h.name, function_type h)) functions) name) ≡ Some t → list_any is_strange name ≡ true
    go true k e = format_strange name k
    go false k e = found_strange functions name t refl e

pub no_helper : (name : List ℕ) (t : CType) → IsTextName name → helper_type name ≡ Some t → ⊥
no_helper name t n e = absurd (cc (sym n ∙ helper_strange name t e))

-- ---- an object that both declare

module _ (P : List ℕ → Type 0) (s s' : Scope) (n : List ℕ) (t : CType) (text : IsTextName n) where
  abbrev In : Option Entity → Option Entity
  In o = Some (Object t)

  -- what a name stands for behind it
  object_stands : (x : Entity) → Some (Object t) ≡ Some x → EntityStands x (Some (Object t))
  object_stands x e = let same : Object t ≡ x = cc e in subst (λ y. EntityStands y (Some (Object t))) same refl

  name_stands : (name : List ℕ) → NameStands s s' name → NameStands (with_name s n (Object t)) (with_name s' n (Object t)) name
  name_stands name p = record {
    text = λ x e. of_text x (bytes_eq name n) e;
    printf = of_printf (bytes_eq name n);
    defined = p.defined;
    helper = λ u e. of_helper u e (bytes_eq name n) refl;
  }
    where
      of_text : (x : Entity) (b : Bool) → cond b (Some (Object t)) (entity_of s name) ≡ Some x → EntityStands x (cond b (Some (Object t)) (entity_of s' name))
      of_text x true e = object_stands x e
      of_text x false e = p.text x e

      of_printf : (b : Bool) → is_printf (cond b (Some (Object t)) (entity_of s name)) ≡ is_printf (cond b (Some (Object t)) (entity_of s' name))
      of_printf true = refl
      of_printf false = p.printf

      of_helper : (u : CType) → helper_type name ≡ Some u → (b : Bool) → bytes_eq name n ≡ b → (begun : Bool) × (cond b (Some (Object t)) (entity_of s' name) ≡ Some (Routine u begun)) × (contains s'.defined name ≡ true)
      of_helper u e true k = absurd (no_helper n u text (subst (λ z. helper_type z ≡ Some u) ((bytes_eq-Decides name n).0 k) e))
      of_helper u e false k = p.helper u e

  here_stands : (name : List ℕ) → is_declared_here s name ≡ is_declared_here s' name → is_declared_here (with_name s n (Object t)) name ≡ is_declared_here (with_name s' n (Object t)) name
  here_stands name e = go (bytes_eq name n) (meaning s.block name) (meaning s'.block name) e
    where
      go : (b : Bool) (o o' : Option Entity) → option_map_or (λ _. true) o false ≡ option_map_or (λ _. true) o' false → option_map_or (λ _. true) (cond b (Some (Object t)) o) false ≡ option_map_or (λ _. true) (cond b (Some (Object t)) o') false
      go true o o' e = refl
      go false o o' e = e

  written_behind : ScopeCanBeWritten s → CanBeWritten s.tags t → ScopeCanBeWritten (with_name s n (Object t))
  written_behind w c = record { names = λ name. go name (bytes_eq name n); members = w.members }
    where
      go : (name : List ℕ) (b : Bool) → EntityCanBeWritten s.tags (cond b (Some (Object t)) (entity_of s name))
      go name true = c
      go name false = w.names name

  built_in_behind : KnowsBuiltIns s → KnowsBuiltIns (with_name s n (Object t))
  built_in_behind k name u e = go (bytes_eq name n) e
    where
      go : (b : Bool) → cond b (Some (Object t)) (entity_of s name) ≡ Some (BuiltIn u) → meaning built_ins name ≡ Some (BuiltIn u)
      go true e = absurd (cc e)
      go false e = k name u e

  pub object_behind : ScopesStand P s s' → CanBeWritten s.tags t → ScopesStand P (with_name s n (Object t)) (with_name s' n (Object t))
  object_behind a c = record {
    tags = a.tags;
    names = λ name p. name_stands name (a.names name p);
    here = λ name q. here_stands name (a.here name q);
    written = written_behind a.written c;
    built_in = built_in_behind a.built_in;
  }

-- a block begins in both
pub entered_stand : (P : List ℕ → Type 0) (s s' : Scope) → ScopesStand P s s' → ScopesStand P (entered s) (entered s')
entered_stand P s s' a = record {
  tags = a.tags;
  names = λ name p. let h = a.names name p in record { text = h.text; printf = h.printf; defined = h.defined; helper = h.helper };
  here = λ name q. refl;
  written = record { names = a.written.names; members = a.written.members };
  built_in = a.built_in;
}
