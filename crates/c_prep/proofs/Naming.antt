-- Macros by their names.
use Rattle.std.proofs.Common.{◌≡◌, ℕ, Bool, true, false, List, [], Option, Some, None, Bor, refl, sym, ap, ◌∙◌}
use Rattle.std.specs.Prelude.{if◌then◌else◌}
use Rattle.std.specs.Map.{lookup}
use Rattle.std.specs.Str.{bytes_eq}
use Rattle.std.specs.Option.{option_map}
use Rattle.std.specs.Cmp.Lexicographic.{bytes_decides}
use Rattle.std.proofs.Math.Path.{fun_ext}
use Rattle.c_syntax.specs.declared.token.Raw.{Raw}
use Rattle.c_syntax.specs.declared.token.RawKind.{RawKind}
use Rattle.c_prep.specs.declared.table.Table.{Table}
use Rattle.c_prep.specs.Macros.{Macros, kinds, no_macros, keep, without}
use Rattle.c_prep.specs.Views.{macros_of}

-- what a map's entries have at a name
abbrev pub found : List (Bor (List ℕ) × Bor (List Raw)) → List ℕ → Option (Bor (List Raw))
found es name = lookup (λ k. bytes_eq name k.now) es

abbrev view : Option (Bor (List Raw)) → Option (List RawKind)
view o = option_map (λ b. kinds b.now) o

pub none_kept : (t : Table) → t.bodies.entries ≡ [] → macros_of t ≡ no_macros
unfolding macros_of
none_kept t e = fun_ext (λ name. ap (λ es. view (found es name)) e)

pub one_dropped : (t u : Table) (key : List ℕ) → ((q : Bor (List ℕ)) → found u.bodies.entries q.now ≡ (if bytes_eq key q.now then None else found t.bodies.entries q.now)) → macros_of u ≡ without key (macros_of t)
unfolding macros_of
one_dropped t u key h = fun_ext (λ name. ap view (h (record { ref_ptr = (0, 0); now = name })) ∙ at (bytes_eq key name) (found t.bodies.entries name)) where
  at : (b : Bool) (o : Option (Bor (List Raw))) → view (if b then None else o) ≡ (if b then None else view o)
  at true o = refl
  at false o = refl

pub one_kept : (t u : Table) (key : List ℕ) (tokens : Bor (List Raw)) → ((q : Bor (List ℕ)) → found u.bodies.entries q.now ≡ (if bytes_eq key q.now then Some tokens else found t.bodies.entries q.now)) → macros_of u ≡ keep key (kinds tokens.now) (macros_of t)
unfolding macros_of
one_kept t u key tokens h = fun_ext (λ name. ap view (h (record { ref_ptr = (0, 0); now = name })) ∙ at (bytes_eq key name) (found t.bodies.entries name)) where
  at : (b : Bool) (o : Option (Bor (List Raw))) → view (if b then Some tokens else o) ≡ (if b then Some (kinds tokens.now) else view o)
  at true o = refl
  at false o = refl

-- a name that was dropped is kept again
pub restored : (name : List ℕ) (body : List RawKind) (m : Macros) → m name ≡ Some body → keep name body (without name m) ≡ m
restored name body m e = fun_ext (λ other. at other (bytes_eq name other) refl) where
  at : (other : List ℕ) (b : Bool) → bytes_eq name other ≡ b → (if b then Some body else (if b then None else m other)) ≡ m other
  at other true t = sym e ∙ ap m ((bytes_decides name other).0 t)
  at other false t = refl

-- nothing changes where a name wasn't kept
pub none_dropped : (name : List ℕ) (m : Macros) → None ≡ m name → without name m ≡ m
none_dropped name m e = fun_ext (λ other. at other (bytes_eq name other) refl) where
  at : (other : List ℕ) (b : Bool) → bytes_eq name other ≡ b → (if b then None else m other) ≡ m other
  at other true t = e ∙ ap m ((bytes_decides name other).0 t)
  at other false t = refl
