-- Objects that blocks declare.
use Rattle.std.proofs.Common.{◌≡◌, ◌+◌, ◌<◌, ◌%◌, ◌^◌, ℕ, suc, Bool, true, false, if◌then◌else◌, List, [], ◌∷◌, ◌++◌, Option, Some, None, refl, sym, ap, subst, ◌∙◌, arith}
use Rattle.std.specs.Prelude.{not, Result, Ok, Err, IsOk}
use Rattle.std.specs.Option.{option_map_or}
use Rattle.std.proofs.lemmas.Bool.{false≢true}
use Rattle.std.specs.Str.{bytes_eq}
use Rattle.c_syntax.specs.Plain as tree
use Rattle.c_syntax.specs.Plain.{CDecl}
use Rattle.c_syntax.specs.Words.{meaning}
use Rattle.c_types.specs.declared.fault.TypeFault.{TypeFault}
use Rattle.c_types.specs.declared.fault.TypeFault.TheVariants as fault
use Rattle.c_types.specs.Types.{CType}
use Rattle.c_types.specs.Refusals.{Judged, Rule, after, keeping, broken}
use Rattle.c_types.specs.Scope.{Scope, Object, with_name, is_declared_here}
use Rattle.c_types.specs.Declarations.{scope_or, declared, declared_type, declared_object, first_fitting}
use Rattle.c_types.specs.Census.{scope_behind}
use Rattle.c_eval.specs.Environment.{type_or_void, object_type_in}
use Rattle.c_types.specs.Table.{Table, HasType}
use Rattle.c_scopes.specs.declared.entity.Entity.{Entity}
use Rattle.c_scopes.specs.declared.entity.Entity.TheVariants as rust
use Rattle.c_scopes.specs.Blocks.{Blocks}
use Rattle.c_operands.specs.Seen.{IsJudged}
use Rattle.c_pieces.specs.Places.{slot_of, AreInSlots}

abbrev chosen : Option TypeFault → Scope → Judged Scope
chosen o s = option_map_or (λ e. Err e) o (Ok s)

-- a declaration that is no refusal has declared its name for its type
abbrev named_as : Scope → CDecl → CType → Judged Scope → Type 0
named_as s d t p = IsOk p → scope_or s p ≡ with_name s d.name (Object t)

by_rules : (o : Option TypeFault) (s : Scope) (d : CDecl) (t : CType) → named_as s d t (chosen o (with_name s d.name (Object t)))
by_rules None s d t = λ h. refl
by_rules (Some e) s d t = λ h. absurd (false≢true h)

by_value : {A : Type 0} (p : Judged A) (rules : List Rule) (s : Scope) (d : CDecl) (t : CType) → named_as s d t (after p (λ _. keeping rules (with_name s d.name (Object t))))
by_value (Ok a) rules s d t = by_rules (broken rules) s d t
by_value (Err e) rules s d t = λ h. absurd (false≢true h)

by_type : (p : Judged CType) (s : Scope) (d : CDecl) → ((t : CType) → named_as s d t (declared_object s false d t)) → named_as s d (type_or_void p) (after p (λ t. declared_object s false d t))
by_type (Ok t) s d each = each t
by_type (Err e) s d each = λ h. absurd (false≢true h)

pub declares_as : (s : Scope) (d : CDecl) → IsOk (declared s false d) → scope_behind s (tree.Local d) ≡ with_name s d.name (Object (object_type_in s d))
declares_as s d =
    by_type (declared_type s d) s d (λ t.
    by_value {A = Unit {0}} (first_fitting (with_name s d.name (Object t)) (record { file = false; pos = d.pos }) t d.first) ((not (is_declared_here s d.name), fault.Twice d.pos) ∷ []) s d t)

-- ---- types

pub typed_as : (table : Table) (j : Result ℕ TypeFault) (n : ℕ) (p : Judged CType) → IsJudged (HasType table) j p → j ≡ Ok n → HasType table n (type_or_void p)
typed_as table (Ok m) n (Ok t) h e = let same : m ≡ n = cc in subst (λ (k : ℕ). HasType table k t) same h
typed_as table (Ok m) n (Err f) h e = absurd h
typed_as table (Err d) n p h e = absurd cc

pub refused_type : (table : Table) (j : Result ℕ TypeFault) (e : TypeFault) (p : Judged CType) (f : CType → Judged Scope) → IsJudged (HasType table) j p → j ≡ Err e → IsOk (after p f) → ⊥
refused_type table (Ok m) e p f h is ok = absurd cc
refused_type table (Err d) e (Ok t) f h is ok = h
refused_type table (Err d) e (Err c) f h is ok = false≢true ok

pub small_number : (n : ℕ) → n < 2 ^ 24 → n % 2 ^ 24 ≡ n
small_number n h = omega arith

-- ---- slots

abbrev Objects : Type 0
Objects = List (List ℕ × Option ℕ)

found_or : (b : Bool) (n : ℕ) (o : Option Entity) (p : Option (Option ℕ)) → slot_of o ≡ p → slot_of (if b then Some (rust.Object n) else o) ≡ (if b then Some (Some n) else p)
found_or true n o p e = refl
found_or false n o p e = e

-- a name has the next slot
pub slot_named : (slots new : Blocks) (objects : Objects) (bytes name : List ℕ) (slot n : ℕ) → new.block ≡ (bytes, rust.Object slot) ∷ slots.block → new.outer ≡ slots.outer → bytes ≡ name → slot ≡ n
    → AreInSlots slots objects → AreInSlots new ((name, Some n) ∷ objects)
slot_named slots new objects bytes name slot n block outer same is h =
    let here : new.block ++ new.outer ≡ (name, rust.Object n) ∷ (slots.block ++ slots.outer) =
    ap (λ (l : List (List ℕ × Entity)). l ++ new.outer) block ∙ (ap (λ (l : List (List ℕ × Entity)). (bytes, rust.Object slot) ∷ (slots.block ++ l)) outer
    ∙ (ap (λ (x : List ℕ). (x, rust.Object slot) ∷ (slots.block ++ slots.outer)) same ∙ ap (λ (k : ℕ). (name, rust.Object k) ∷ (slots.block ++ slots.outer)) is)) in
    record {
      found = λ word.
          ap (λ (l : List (List ℕ × Entity)). slot_of (meaning l word)) here
          ∙ found_or (bytes_eq word name) n (meaning (slots.block ++ slots.outer) word) (meaning objects word) (h.found word);
    }
