-- Where declarations stand.
use Rattle.std.proofs.Common.{◌≡◌, ℕ, List, Option, sym, ap, ◌∙◌}
use Rattle.c_syntax.specs.Plain.{CTy, CValue, CDecl}
use Rattle.c_types.specs.Scope.{Scope}
use Rattle.c_types.specs.Table.{Table}
use Rattle.c_declared.specs.Held.{Holds, HoldsSome}
use Rattle.c_declared.proofs.HeldLemmas.{holds_kept}
use Rattle.c_fewer_operators.specs.declared.here.Here.{Here}
use Rattle.c_fewer_operators.specs.Here.{Stands, StandsSome}
use Rattle.c_fewer_trees.proofs.OnwardLemmas.{Onward}
use Rattle.c_fewer_declarations.specs.Standing.{StandsIn, StandsInSome}

pub standing : {a : Table} {h : Here} {s : Scope} → StandsIn a h s → Stands a h s
standing stands = record { fits = stands.holds.fits; names = stands.names }

pub some_standing : {a : Table} {h : Here} → StandsInSome a h → StandsSome a h
some_standing some = (some.0, standing some.1)

pub holds_on : {a b : Table} {h : Here} {s : Scope} → Onward a b → StandsIn a h s → Holds b h.declared s
holds_on {a} {b} {h} {s} f stands = holds_kept a b h.declared s f.grows f.tags stands.holds

pub some_holds : {a b : Table} {h : Here} → Onward a b → StandsInSome a h → HoldsSome b h.declared
some_holds f some = (some.0, holds_on f some.1)

-- a declaration by its parts
abbrev pub declared_as : List ℕ → ℕ → CTy → Option CValue → CDecl
declared_as name pos ty first = record { name = name; pos = pos; ty = ty; first = first }

pub declaration_is : (name other : List ℕ) (pos : ℕ) (t u : CTy) (v w : Option CValue) → name ≡ other → t ≡ u → v ≡ w → declared_as name pos t v ≡ declared_as other pos u w
declaration_is name other pos t u v w a b c =
    ap (λ (n : List ℕ). declared_as n pos t v) a ∙ (ap (λ (k : CTy). declared_as other pos k v) b ∙ ap (λ (k : Option CValue). declared_as other pos u k) c)
