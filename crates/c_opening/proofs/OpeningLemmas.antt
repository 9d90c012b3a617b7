-- What is known before a text's first external.
use Rattle.std.proofs.Common.{◌≡◌, ℕ, zero, suc, ◌<◌, Bool, true, false, ◌||◌, List, [], ◌∷◌, length, map, replicate, Option, Some, None, refl, sym, ap, subst, ◌∙◌, arith}
use Rattle.std.specs.Prelude.{slice_get}
use Rattle.std.specs.Str.{bytes_eq}
use Rattle.std.specs.Cmp.Lexicographic.{bytes_decides}
use Rattle.std.proofs.lemmas.Option.{slice_get_within}
use Rattle.c_types.specs.Types as types
use Rattle.c_types.specs.Scope as scope
use Rattle.c_types.specs.Scope.{Scope, contains, built_ins, file_scope}
use Rattle.c_types.specs.Table.{Table, known, texts}
use Rattle.c_layouts.specs.declared.layout.Layout.{Layout}
use Rattle.c_layouts.specs.declared.layout.Layout.TheVariants.{Undeclared}
use Rattle.c_layouts.specs.Layouts.{LayoutIsThere, AreLayouts}
use Rattle.c_scopes.specs.declared.entity.Entity.{Entity}
use Rattle.c_operands.specs.declared.declarations.Declarations.{Declarations}
use Rattle.c_operands.specs.Scoped.{AreNames}
use Rattle.c_declared.specs.Slots.{IsListed}
use Rattle.c_declared.specs.Held.{AreDistinct, Holds}
use Rattle.c_opening.specs.Named.{HasNumber}

get_replicated : {X : Type 0} (count n : ℕ) (x : X) → n < count → slice_get (replicate count x) n ≡ Some x
get_replicated zero n x h = absurd (omega arith)
get_replicated (suc count) zero x h = refl
get_replicated (suc count) (suc n) x h = get_replicated count n x (omega arith)

no_layout : (o : types.Layout) → None ≡ Some o → ⊥
no_layout o e = cc

-- no tag is declared, and the functions are known that are always known
pub opened : (table : Table) (d : Declarations) (defined : List (List ℕ)) (count : ℕ) → d.layouts.items ≡ replicate count Undeclared → count ≡ length table.tags → AreNames table d.names.block built_ins
    → d.names.outer ≡ [] → ((name : List ℕ) → contains (texts d.defined.keys) name ≡ contains defined name) → AreDistinct table.tags → Holds table d (file_scope defined)
opened table d defined count layouts many block outer same distinct =
    let at : (n : ℕ) (tag : List ℕ) → slice_get table.tags n ≡ Some tag → slice_get d.layouts.items n ≡ Some Undeclared =
    λ n tag h.
    let within : n < count = subst (λ (k : ℕ). n < k) (sym many) (slice_get_within table.tags n tag h) in
    ap (λ (l : List Layout). slice_get l n) layouts ∙ get_replicated count n Undeclared within in
    record {
      fits = record {
        layouts = λ n tag h. subst (λ (l : Option Layout). LayoutIsThere (known table) l None) (sym (at n tag h)) refl;
        numbered = λ name o e. absurd (no_layout o e);
        block = block;
        outer = subst (λ (names : List (List ℕ × Entity)). AreNames table names []) (sym outer) tt;
        defined = same;
      };
      ordered = λ n tag h. subst (λ (l : Option Layout). IsListed (known table) l None) (sym (at n tag h)) tt;
      distinct = distinct;
    }

-- a name that is there has a number
pub numbered : (names : List (List ℕ)) (name : List ℕ) → contains names name ≡ true → (n : ℕ) × (slice_get names n ≡ Some name)
numbered [] name h = absurd cc
numbered (x ∷ names) name h = by (bytes_eq name x) refl h (numbered names name) where
  by : (b : Bool) → bytes_eq name x ≡ b → (b || contains names name) ≡ true → (contains names name ≡ true → (n : ℕ) × (slice_get names n ≡ Some name)) → (n : ℕ) × (slice_get (x ∷ names) n ≡ Some name)
  by true e g rest = (0, ap (λ (k : List ℕ). Some k) (sym ((bytes_decides name x).0 e)))
  by false e g rest = let p = rest g in (suc p.0, p.1)
