-- Places while code is added, and code that is added piece by piece.
use Rattle.std.proofs.Common.{◌≡◌, ℕ, ◌+◌, List, [], ◌∷◌, ◌++◌, length, drop, refl, sym, ap, subst, ◌∙◌, append_assoc, append-nil, arith}
use Rattle.std.proofs.lemmas.List.{drop-drop}
use Rattle.std.specs.Prelude.{OnOk, Ok, Err, Result}
use Rattle.c_types.specs.Scope.{Scope}
use Rattle.c_eval.specs.Environment.{Environment}
use Rattle.eir_core.specs.declared.ops.Op.{Op}
use Rattle.c_types.specs.Known.{Grows}
use Rattle.c_types.specs.Table.{Table, known}
use Rattle.c_operands.specs.declared.declarations.Declarations.{Declarations}
use Rattle.c_operands.specs.Scoped.{FitsSome}
use Rattle.c_declared.specs.Held.{Holds, HoldsSome}
use Rattle.c_declared.proofs.HeldLemmas.{holds_kept, held_kept}
use Rattle.c_lowered.specs.Locations.{Linking}
use Rattle.c_counted.specs.Numbers.{IsNumber}
use Rattle.c_addressing.specs.declared.here.Here as rust
use Rattle.c_addressing.specs.declared.here.Literals.{Literals}
use Rattle.c_addressing.specs.declared.here.Output.{Output}
use Rattle.c_addressing.specs.Here.{first_or, AreLiterals, IsHere, IsBehind, Emits}

-- ---- literals

pub behind_same : (l : Literals) → IsBehind l l 0
behind_same l = record { next = refl; end = refl }

pub behind_then : (a b c : Literals) (m n : ℕ) → IsBehind a b m → IsBehind b c n → IsBehind a c (m + n)
behind_then a b c m n e f = record { next = f.next ∙ (ap (λ (l : List ℕ). drop n l) e.next ∙ drop-drop n m a.next.now); end = f.end ∙ e.end }

plus_assoc : (a m n : ℕ) → a + (m + n) ≡ a + m + n
plus_assoc a m n = omega arith

pub literals_behind : (a b : Literals) (w : Linking) (before n : ℕ) → AreLiterals a w before → IsBehind a b n → AreLiterals b w (before + n)
literals_behind a b w before n h e = record {
  address = λ m.
      subst (λ (k : ℕ). IsNumber (first_or b.end (drop m b.next.now)) (w.literal w.owner k)) (plus_assoc before n m)
      (subst (λ (k : ℕ). IsNumber (first_or k (drop m b.next.now)) (w.literal w.owner (before + (n + m)))) (sym e.end)
      (subst (λ (l : List ℕ). IsNumber (first_or a.end l) (w.literal w.owner (before + (n + m)))) (sym (ap (λ (l : List ℕ). drop m l) e.next ∙ drop-drop m n a.next.now)) (h.address (n + m))));
}

-- ---- what is declared

pub holds_later : (a b : Output) (d : Declarations) (s : Scope) {code : List Op} {n : ℕ} → Emits a b code n → Holds a.types d s → Holds b.types d s
holds_later a b d s e h = holds_kept a.types b.types d s e.grows e.tags h

pub some_later : (a b : Output) (d : Declarations) {code : List Op} {n : ℕ} → Emits a b code n → HoldsSome a.types d → HoldsSome b.types d
some_later a b d e h = held_kept a.types b.types d e.grows e.tags h

pub some_fits : (table : Table) (d : Declarations) → HoldsSome table d → FitsSome table d
some_fits table d h = (h.0, h.1.fits)

-- what the code knows holds behind code with so many literals
pub here_behind : (h : rust.Here) (a b : Output) (w : Linking) (here : Environment) {code : List Op} {n : ℕ} → Emits a b code n → IsHere h a w here → IsHere h b w (record here { literals_before = here.literals_before + n })
here_behind h a b w here {code} {n} e is = record {
  holds = holds_later a b h.declared here.scope e is.holds;
  slots = is.slots;
  bases = is.bases;
  entries = is.entries;
  literals = literals_behind a.literals b.literals w here.literals_before n is.literals e.passed;
}

-- ---- code

-- nothing is added but types
pub still : (a : Output) (b : Output) → Grows (known a.types) (known b.types) → b.types.tags ≡ a.types.tags → b.ops.items ≡ a.ops.items → b.literals ≡ a.literals → Emits a b [] 0
still a b grows tags ops literals = record {
  grows = grows;
  tags = tags;
  ops = ops ∙ sym (append-nil a.ops.items);
  passed = subst (λ (l : Literals). IsBehind a.literals l 0) (sym literals) (behind_same a.literals);
}

-- operations alone are added
pub added : (a b : Output) (code : List Op) → b.types ≡ a.types → b.ops.items ≡ a.ops.items ++ code → b.literals ≡ a.literals → Emits a b code 0
added a b code types ops literals = record {
  grows = subst (λ (t : Table). Grows (known a.types) (known t)) (sym types) (λ n k h. h);
  tags = ap (λ (t : Table). t.tags) types;
  ops = ops;
  passed = subst (λ (l : Literals). IsBehind a.literals l 0) (sym literals) (behind_same a.literals);
}

-- literals alone are passed
pub moved : (a b : Output) (n : ℕ) → b.types ≡ a.types → b.ops.items ≡ a.ops.items → IsBehind a.literals b.literals n → Emits a b [] n
moved a b n types ops literals = record {
  grows = subst (λ (t : Table). Grows (known a.types) (known t)) (sym types) (λ n k h. h);
  tags = ap (λ (t : Table). t.tags) types;
  ops = ops ∙ sym (append-nil a.ops.items);
  passed = literals;
}

-- one piece behind another
pub both : {a b c : Output} {is js : List Op} {m n : ℕ} → Emits a b is m → Emits b c js n → Emits a c (is ++ js) (m + n)
both {a} {b} {c} {is} {js} {m} {n} e f = record {
  grows = λ k x h. f.grows k x (e.grows k x h);
  tags = f.tags ∙ e.tags;
  ops = f.ops ∙ ap (λ (l : List Op). l ++ js) e.ops ∙ append_assoc a.ops.items is js;
  passed = behind_then a.literals b.literals c.literals m n e.passed f.passed;
}

-- the same code otherwise written
pub as_code : {a b : Output} {is js : List Op} {n : ℕ} → is ≡ js → Emits a b is n → Emits a b js n
as_code {a} {b} {is} {js} {n} same e = subst (λ (l : List Op). Emits a b l n) same e
