-- File scopes that stand for each other stand so as scopes, and behind what both declare.
use Rattle.std.proofs.Common.{◌≡◌, ℕ, List, [], ◌∷◌, ◌++◌, Option, Some, None, Bool, true, false, refl, sym, ap, ◌∙◌, subst, cond}
use Rattle.std.specs.List.{list_any}
use Rattle.std.specs.Option.{option_map_or}
use Rattle.std.specs.Str.{bytes_eq}
use Rattle.std.proofs.lemmas.Slice.Eq.{bytes_eq-Decides}
use Rattle.c_syntax.specs.Words.{meaning}
use Rattle.c_types.specs.Scope.{Names, Scope, Entity, Object, Routine, BuiltIn, Printf, entity_of, with_name}
use Rattle.c_eval.specs.LiteralsIn.{is_printf}
use Rattle.c_fewer_types.specs.Written.{ScopeCanBeWritten}
use Rattle.c_helpers.specs.Laws.{is_strange}
use Rattle.c_fewer_types.specs.Stands.{EntityStands, NameStands}
use Rattle.c_fewer_types.specs.Laws.{KnowsBuiltIns}
use Rattle.c_fewer_types.specs.Standing.{IsTextName, ScopesStand}
use Rattle.c_fewer_types.proofs.Scopes.{no_helper}
use Rattle.c_fewer_items.specs.Files.{EntitiesStand, FilesStand}

-- ---- names at file scope

found_alone : (xs : Names) (name : List ℕ) → meaning (xs ++ []) name ≡ meaning xs name
found_alone [] name = refl
found_alone (x ∷ xs) name = ap (λ o. cond (bytes_eq name x.0) (Some x.1) o) (found_alone xs name)

pub in_file : (s : Scope) → s.outer ≡ [] → (name : List ℕ) → entity_of s name ≡ meaning s.block name
in_file s e name = ap (λ o. meaning (s.block ++ o) name) e ∙ found_alone s.block name

-- a name that has another character is none of these
pub other_name : (name n : List ℕ) → IsTextName n → list_any is_strange name ≡ true → bytes_eq name n ≡ false
other_name name n t s = go (bytes_eq name n) refl
  where
    go : (b : Bool) → bytes_eq name n ≡ b → b ≡ false
    go false e = refl
    go true e = absurd (cc (sym s ∙ (ap (λ z. list_any is_strange z) ((bytes_eq-Decides name n).0 e) ∙ t)))

-- ---- as scopes

stands_so : (o p : Option Entity) → EntitiesStand o p → (x : Entity) → o ≡ Some x → EntityStands x p
stands_so None p h x e = absurd (cc e)
stands_so (Some (Object t)) p h x e = let same : Object t ≡ x = cc e in subst (λ z. EntityStands z p) same h
stands_so (Some (Routine t begun)) p h x e = let same : Routine t begun ≡ x = cc e in subst (λ z. EntityStands z p) same (h.0, h.1)
stands_so (Some (BuiltIn t)) p h x e = let same : BuiltIn t ≡ x = cc e in subst (λ z. EntityStands z p) same h
stands_so (Some Printf) p h x e = let same : Printf ≡ x = cc e in subst (λ z. EntityStands z p) same h

prints_so : (o p : Option Entity) → EntitiesStand o p → is_printf o ≡ is_printf p
prints_so None p h = ap is_printf (sym h)
prints_so (Some (Object t)) p h = ap is_printf (sym h)
prints_so (Some (Routine t begun)) p h = ap is_printf (sym h.1)
prints_so (Some (BuiltIn t)) p h = ap is_printf (sym h)
prints_so (Some Printf) p h = ap is_printf (sym h)

abbrev has_one : Option Entity → Bool
has_one o = option_map_or (λ entity. true) o false

here_so : (o p : Option Entity) → EntitiesStand o p → has_one o ≡ has_one p
here_so None p h = ap has_one (sym h)
here_so (Some (Object t)) p h = ap has_one (sym h)
here_so (Some (Routine t begun)) p h = ap has_one (sym h.1)
here_so (Some (BuiltIn t)) p h = ap has_one (sym h)
here_so (Some Printf) p h = ap has_one (sym h)

module _ (test : List ℕ → Bool) (s s' : Scope) (a : FilesStand test s s') where
  name_stands : (name : List ℕ) → test name ≡ true → NameStands s s' name
  name_stands name p = go (list_any is_strange name) refl
    where
      go : (b : Bool) → list_any is_strange name ≡ b → NameStands s s' name
      go true e =
          let h = a.helpers name e p in
          let nothing : entity_of s name ≡ None = in_file s a.outer name ∙ a.none name e in
          let there : entity_of s' name ≡ Some (Routine h.ty h.begun) = in_file s' a.outer_too name ∙ h.found in
          record {
            text = λ x k. absurd (cc (sym k ∙ nothing));
            printf = ap is_printf nothing ∙ sym (ap is_printf there);
            defined = a.defined name p;
            helper = λ u k. let same : h.ty ≡ u = cc (sym h.type_is ∙ k) in (h.begun, there ∙ ap (λ t. Some (Routine t h.begun)) same, h.defined);
          }
      go false e =
          let k = a.names name e in
          let here = in_file s a.outer name in
          let there = in_file s' a.outer_too name in
          record {
            text = λ x m. subst (λ z. EntityStands x z) (sym there) (stands_so (meaning s.block name) (meaning s'.block name) k x (sym here ∙ m));
            printf = ap is_printf here ∙ (prints_so (meaning s.block name) (meaning s'.block name) k ∙ sym (ap is_printf there));
            defined = a.defined name p;
            helper = λ u m. absurd (no_helper name u e m);
          }

  pub file_stands : ScopesStand (λ name. test name ≡ true) s s'
  file_stands = record {
    tags = a.tags;
    names = name_stands;
    here = λ name q. here_so (meaning s.block name) (meaning s'.block name) (a.names name q);
    written = a.written;
    built_in = a.built_in;
  }

  -- behind a name that both declare
  pub named_behind : (n : List ℕ) (x x' : Entity) → IsTextName n → EntitiesStand (Some x) (Some x') → ScopeCanBeWritten (with_name s n x) → KnowsBuiltIns (with_name s n x) → FilesStand test (with_name s n x) (with_name s' n x')
  named_behind n x x' text k w b = record {
    tags = a.tags;
    outer = a.outer;
    outer_too = a.outer_too;
    names = λ name q. of_name name q (bytes_eq name n);
    none = λ name e. ap (λ z. cond z (Some x) (meaning s.block name)) (other_name name n text e) ∙ a.none name e;
    helpers = λ name e p. let h = a.helpers name e p in record { ty = h.ty; type_is = h.type_is; begun = h.begun; found = ap (λ z. cond z (Some x') (meaning s'.block name)) (other_name name n text e) ∙ h.found; defined = h.defined };
    defined = a.defined;
    written = w;
    built_in = b;
  }
    where
      of_name : (name : List ℕ) → IsTextName name → (z : Bool) → EntitiesStand (cond z (Some x) (meaning s.block name)) (cond z (Some x') (meaning s'.block name))
      of_name name q true = k
      of_name name q false = a.names name q
