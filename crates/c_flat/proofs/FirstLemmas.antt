-- Code of first values, one behind the other.
use Rattle.std.proofs.Common.{◌≡◌, ℕ, suc, ◌+◌, ◌<◌, ◌≤◌, ◌^◌, List, [], ◌∷◌, ◌++◌, length, drop, refl, sym, ap, subst, ◌∙◌, append_assoc, add-one, arith}
use Rattle.std.proofs.lemmas.List.{append-nil, drop_all}
use Rattle.c_syntax.specs.View.{value_of}
use Rattle.c_syntax.specs.declared.tree.Value.{Value}
use Rattle.c_types.specs.Types.{CType, words_of}
use Rattle.c_types.specs.Declarations as plain
use Rattle.c_types.specs.Declarations.{first_slot, next_slots}
use Rattle.c_types.specs.Known.{Grows}
use Rattle.c_types.specs.Table.{Table, known, HasType}
use Rattle.c_operands.proofs.OperandLemmas.{grows_then}
use Rattle.c_declared.specs.declared.slots.Slots.{Slots}
use Rattle.c_declared.specs.Slots.{AreSlots, behind}
use Rattle.c_cells.specs.declared.structs.StructKinds.{StructKinds}
use Rattle.c_cells.specs.Structs.{AreStructKinds}
use Rattle.c_cells.proofs.KindLemmas.{next_behind}
use Rattle.c_cells.proofs.StructLemmas.{struct_kinds_kept}
use Rattle.c_eval.specs.Environment.{Environment, behind_literals, type_or_nothing, slot_kinds}
use Rattle.c_eval.specs.LiteralsIn.{value_literals, values_literals}
use Rattle.c_code.specs.Code as code
use Rattle.c_code.specs.Code.{Site, first_code, firsts_code}
use Rattle.c_emitted.specs.declared.emitter.Emitter.{Emitter}
use Rattle.c_emitted.specs.Emits.{Emits}
use Rattle.c_emitted.proofs.EmitLemmas.{nothing, both, later}
use Rattle.c_fitting.specs.Whole.{IsShort, ValueIsFit, ValuesAreFit}
use Rattle.c_here.specs.declared.here.Here as rust
use Rattle.c_here.specs.Here.{IsHere}
use Rattle.c_here.proofs.HereLemmas.{here_behind}
use Rattle.c_static.proofs.CellLemmas.{listed, slots_kept, behind_both, behind_none}

-- the code so far, and that of the values that are left, is that of all
pub record SoFar (a b : Emitter) (site : Site) (env : Environment) (s : plain.Slots) (k slot offset place : ℕ) (items : List Value) : Type 0 where
  pub code : List code.Instruction
  pub literals : List (List ℕ)
  pub emits : Emits a b code literals
  pub whole : firsts_code (listed items) s slot offset site env ≡ code ++ firsts_code (listed (drop k items)) (behind k s) slot place site (behind_literals literals env)
  pub all_literals : values_literals env.scope (listed items) ≡ literals ++ values_literals env.scope (listed (drop k items))
  pub fit : ValuesAreFit env.scope (behind k s) (listed (drop k items))

pub record Going (t0 now : Table) (h : rust.Here) (structs : StructKinds) (a b : Emitter) (slots : Slots) (k slot offset place : ℕ) (items : List Value) : Type 0 where
  pub grows : Grows (known t0) (known now)
  pub tags : now.tags ≡ t0.tags
  pub so_far : (s : plain.Slots) (site : Site) (env : Environment) → AreSlots t0 h.declared.layouts.items slots s → IsHere t0 h a site env → AreStructKinds t0 structs env.scope.tags → ValuesAreFit env.scope s (listed items)
      → SoFar a b site env s k slot offset place items

pub going_begun : (t0 : Table) (h : rust.Here) (structs : StructKinds) (a : Emitter) (slots : Slots) (slot offset : ℕ) (items : List Value) → Going t0 t0 h structs a a slots 0 slot offset offset items
going_begun t0 h structs a slots slot offset items = record {
  grows = λ n k h. h;
  tags = refl;
  so_far = λ s site env are here kinds fit. record {
    code = [];
    literals = [];
    emits = nothing a;
    whole = ap (λ (e : Environment). firsts_code (listed items) s slot offset site e) (sym (behind_none env));
    all_literals = refl;
    fit = fit;
  };
}

-- the value that comes next is fit, and so are those behind it
pub record NextIsFit (env : Environment) (s : plain.Slots) (k : ℕ) (items : List Value) (v : Value) : Type 0 where
  pub short : IsShort env.scope (type_or_nothing (first_slot (behind k s)))
  pub value : ValueIsFit env.scope (type_or_nothing (first_slot (behind k s))) (value_of v)
  pub rest : ValuesAreFit env.scope (behind (suc k) s) (listed (drop (suc k) items))

next_fit : (a b : Emitter) (site : Site) (env : Environment) (s : plain.Slots) (k slot offset place : ℕ) (items : List Value) (v : Value) → drop k items ≡ v ∷ drop (suc k) items → SoFar a b site env s k slot offset place items
    → NextIsFit env s k items v
next_fit a b site env s k slot offset place items v at g =
    let f = subst (λ (l : List Value). ValuesAreFit env.scope (behind k s) (listed l)) at g.fit in
    record { short = f.0; value = f.1; rest = subst (λ (r : plain.Slots). ValuesAreFit env.scope r (listed (drop (suc k) items))) (next_behind k s) f.2 }

value_more : (a b c : Emitter) (site : Site) (env : Environment) (s : plain.Slots) (k slot offset place : ℕ) (items : List Value) (v : Value) → drop k items ≡ v ∷ drop (suc k) items
    → (g : SoFar a b site env s k slot offset place items) → NextIsFit env s k items v
    → Emits b c (first_code (value_of v) (type_or_nothing (first_slot (behind k s))) slot place site (behind_literals g.literals env)) (value_literals env.scope (value_of v))
    → SoFar a c site env s (suc k) slot offset (place + words_of env.scope.tags (type_or_nothing (first_slot (behind k s)))) items
value_more a b c site env s k slot offset place items v at g next more =
    let rest = listed (drop (suc k) items) in
    let here = behind_literals g.literals env in
    let t = type_or_nothing (first_slot (behind k s)) in
    let on : ℕ = place + words_of env.scope.tags t in
    let own : List code.Instruction = first_code (value_of v) t slot place site here in
    let ls : List (List ℕ) = value_literals env.scope (value_of v) in
    record {
      code = g.code ++ own;
      literals = g.literals ++ ls;
      emits = both g.emits more;
      whole =
          g.whole
          ∙ (ap (λ (l : List Value). g.code ++ firsts_code (listed l) (behind k s) slot place site here) at
          ∙ (ap (λ (r : plain.Slots). g.code ++ (own ++ firsts_code rest r slot on site (behind_literals ls here))) (next_behind k s)
          ∙ (ap (λ (e : Environment). g.code ++ (own ++ firsts_code rest (behind (suc k) s) slot on site e)) (behind_both env g.literals ls)
          ∙ sym (append_assoc g.code own (firsts_code rest (behind (suc k) s) slot on site (behind_literals (g.literals ++ ls) env))))));
      all_literals =
          g.all_literals ∙ (ap (λ (l : List Value). g.literals ++ values_literals env.scope (listed l)) at ∙ sym (append_assoc g.literals ls (values_literals env.scope rest)));
      fit = next.rest;
    }

-- a value more
pub goes_on : (t0 t1 t2 t3 : Table) (h : rust.Here) (structs : StructKinds) (a b c : Emitter) (slots : Slots) (k slot offset place words on n : ℕ) (items : List Value) (v : Value)
    → Going t0 t1 h structs a b slots k slot offset place items → drop k items ≡ v ∷ drop (k + 1) items
    → Grows (known t1) (known t2) → t2.tags ≡ t1.tags → Grows (known t2) (known t3) → t3.tags ≡ t2.tags → on ≡ place + words
    → ((s : plain.Slots) → AreSlots t1 h.declared.layouts.items slots s → HasType t2 n (type_or_nothing (first_slot (behind k s))))
    → ((site : Site) (env : Environment) (t : CType) → HasType t2 n t → IsHere t2 h b site env → AreStructKinds t2 structs env.scope.tags → ValueIsFit env.scope t (value_of v)
    → Emits b c (first_code (value_of v) t slot place site env) (value_literals env.scope (value_of v)))
    → ((site : Site) (env : Environment) (t : CType) → HasType t2 n t → IsHere t2 h b site env → words_of env.scope.tags t < 2 ^ 24 → words ≡ words_of env.scope.tags t)
    → Going t0 t3 h structs a c slots (k + 1) slot offset on items
goes_on t0 t1 t2 t3 h structs a b c slots k slot offset place words on n items v g at grows1 tags1 grows2 tags2 step is_slot fills counts =
    let there : drop k items ≡ v ∷ drop (suc k) items = at ∙ ap (λ (i : ℕ). v ∷ drop i items) (add-one k) in
    let grows = grows_then (known t0) (known t1) (known t2) g.grows grows1 in
    let tags : t2.tags ≡ t0.tags = tags1 ∙ g.tags in
    record {
      grows = grows_then (known t0) (known t2) (known t3) grows grows2;
      tags = tags2 ∙ tags;
      so_far = λ s site env are here kinds fit.
          let f = g.so_far s site env are here kinds fit in
          let t = type_or_nothing (first_slot (behind k s)) in
          let next = next_fit a b site env s k slot offset place items v there f in
          let has = is_slot s (slots_kept t0 t1 h.declared.layouts.items slots s g.grows are) in
          let at_value = here_behind t0 t2 h a b site env grows tags f.emits here in
          let narrow : words_of env.scope.tags t < 2 ^ 24 = omega (arith, next.short) in
          let placed : on ≡ place + words_of env.scope.tags t = step ∙ ap (λ (m : ℕ). place + m) (counts site (behind_literals f.literals env) t has at_value narrow) in
          subst (λ (i : ℕ). SoFar a c site env s i slot offset on items) (sym (add-one k))
          (subst (λ (p : ℕ). SoFar a c site env s (suc k) slot offset p items) (sym placed)
          (value_more a b c site env s k slot offset place items v there f next (fills site (behind_literals f.literals env) t has at_value (struct_kinds_kept t0 t2 structs env.scope.tags tags kinds) next.value)));
    }

-- the values are all there, and what they leave is cleared
pub going_done : (t0 t1 : Table) (h : rust.Here) (structs : StructKinds) (a b c : Emitter) (slots : Slots) (k slot offset place : ℕ) (items : List Value) (s : plain.Slots) (site : Site) (env : Environment)
    → Going t0 t1 h structs a b slots k slot offset place items → length items ≤ k → AreSlots t0 h.declared.layouts.items slots s → IsHere t0 h a site env → AreStructKinds t0 structs env.scope.tags → ValuesAreFit env.scope s (listed items)
    → Emits b c (code.Clear slot place (slot_kinds env.scope.tags (behind k s)) ∷ []) []
    → Emits a c (firsts_code (listed items) s slot offset site env) (values_literals env.scope (listed items))
going_done t0 t1 h structs a b c slots k slot offset place items s site env g past are here kinds fit cleared =
    let f = g.so_far s site env are here kinds fit in
    let none : drop k items ≡ [] = drop_all k items past in
    let whole : firsts_code (listed items) s slot offset site env ≡ f.code ++ code.Clear slot place (slot_kinds env.scope.tags (behind k s)) ∷ [] =
    f.whole ∙ ap (λ (l : List Value). f.code ++ firsts_code (listed l) (behind k s) slot place site (behind_literals f.literals env)) none in
    let literals : values_literals env.scope (listed items) ≡ f.literals =
    f.all_literals ∙ (ap (λ (l : List Value). f.literals ++ values_literals env.scope (listed l)) none ∙ append-nil f.literals) in
    subst (λ (is : List code.Instruction). Emits a c is (values_literals env.scope (listed items))) (sym whole)
    (subst (λ (ls : List (List ℕ)). Emits a c (f.code ++ code.Clear slot place (slot_kinds env.scope.tags (behind k s)) ∷ []) ls) (sym literals) (later f.emits cleared))
