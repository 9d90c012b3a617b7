-- Cells of first values, one behind the other.
use Rattle.std.proofs.Common.{◌≡◌, ℕ, suc, ◌+◌, ◌<◌, ◌≤◌, get_or, take, List, [], ◌∷◌, ◌++◌, length, map, drop, refl, sym, ap, subst, ◌∙◌, append_assoc, length-append, add-one, arith}
use Rattle.std.proofs.lemmas.List.{append-nil, map-append, map_more, drop_all}
use Rattle.c_syntax.specs.Plain.{CValues, values}
use Rattle.c_syntax.specs.View.{value_of}
use Rattle.c_syntax.specs.declared.tree.Value.{Value}
use Rattle.c_types.specs.Declarations as plain
use Rattle.c_types.specs.Declarations.{first_slot, next_slots}
use Rattle.c_types.specs.Types.{CType}
use Rattle.c_types.specs.Known.{OneType, Grows}
use Rattle.c_types.specs.Table.{Table, known, HasType}
use Rattle.c_layouts.specs.declared.layout.Layout.{Layout}
use Rattle.c_operands.proofs.OperandLemmas.{grows_then}
use Rattle.c_operands.specs.declared.declarations.Declarations.{Declarations}
use Rattle.c_declared.specs.declared.slots.Slots.{Slots}
use Rattle.c_declared.specs.declared.slots.Slots.TheVariants as slot
use Rattle.c_declared.specs.Slots.{Entries, AreTypes, AreSlots, entries_at, behind}
use Rattle.c_declared.proofs.HeldLemmas.{holds_kept}
use Rattle.c_cells.specs.declared.structs.StructKinds.{StructKinds}
use Rattle.c_cells.specs.Structs.{AreStructKinds}
use Rattle.c_cells.proofs.KindLemmas.{next_behind}
use Rattle.c_cells.proofs.StructLemmas.{struct_kinds_kept}
use Rattle.c_eval.specs.State as run
use Rattle.c_eval.specs.Environment.{Environment, behind_literals, type_or_nothing, slot_kinds}
use Rattle.c_eval.specs.LiteralsIn.{value_literals, values_literals}
use Rattle.c_eval.specs.Text.{static_cells, all_static_cells, zero_cells}
use Rattle.std.specs.declared.alloc.Global.{Global}
use Rattle.std.specs.Prelude.{Vec}
use Rattle.std.specs.Map.{lookup}
use Rattle.std.specs.Str.{bytes_eq}
use Rattle.c_syntax.specs.Words.{meaning}
use Rattle.c_store.specs.declared.value.Value as worth
use Rattle.c_store.specs.declared.value.Cell as rust
use Rattle.c_store.specs.declared.value.Cell.TheVariants as cell
use Rattle.c_store.specs.Values as values
use Rattle.c_store.specs.Shown.{cell_of}
use Rattle.c_store.specs.Shown.{value_of as worth_of}
use Rattle.c_store.specs.declared.kind.Kind.{Kind}
use Rattle.c_store.specs.declared.kind.Kind.TheVariants as kind
use Rattle.c_plain.specs.Rule.{zero_of}
use Rattle.c_eval.specs.Memory as memory
use Rattle.c_resolved.specs.Same.{kind_in, Tables, SameCells, no_cell, more_cells, holds}
use Rattle.c_resolved.specs.Means as means
use Rattle.c_resolved.specs.Means.{file_lengths}
use Rattle.c_code.specs.Code as code
use Rattle.c_emitted.specs.declared.emitter.Emitter.{Emitter}
use Rattle.c_emitted.specs.Tables as emitted
use Rattle.c_emitted.specs.Tables.{Extends}
use Rattle.c_emitted.specs.Emits.{tables_of, file_named, IsFile, Emits}
use Rattle.c_emitted.proofs.TableLemmas.{extends_then}
use Rattle.c_emitted.proofs.EmitLemmas.{nothing, both}
use Rattle.c_static.specs.Forms.{IsQuietValue, AreQuietValues}
use Rattle.c_static.specs.File.{IsAtFile, IsWorth}
use Rattle.c_static.specs.Cells.{ShowCells, AddsShown, AddsCells}
use Rattle.c_static.proofs.FormLemmas.{word_worth, null_worth}

cells_then : {t : Tables} {lengths : List ℕ} {cs cs' : List run.Cell} {ds ds' : List values.Cell} → SameCells t lengths cs ds → SameCells t lengths cs' ds' → SameCells t lengths (cs ++ cs') (ds ++ ds')
cells_then no_cell after = after
cells_then (more_cells c before) after = more_cells c (cells_then before after)

pub no_cells : (t : emitted.Tables) → ShowCells t [] []
no_cells t = record { count = refl; same = λ names p x. no_cell }

pub shown_then : {t : emitted.Tables} {cs cs' : List run.Cell} {ds ds' : List rust.Cell} → ShowCells t cs ds → ShowCells t cs' ds' → ShowCells t (cs ++ cs') (ds ++ ds')
shown_then {t} {cs} {cs'} {ds} {ds'} a b = record {
  count = length-append ds ds' ∙ (ap (λ (n : ℕ). n + length ds') a.count ∙ (ap (λ (n : ℕ). length cs + n) b.count ∙ sym (length-append cs cs')));
  same = λ names p x.
      subst (λ (l : List values.Cell). SameCells (means.tables_of names p) (file_lengths p) (cs ++ cs') l) (sym (map-append cell_of ds ds')) (cells_then (a.same names p x) (b.same names p x));
}

pub shown_one : {t : emitted.Tables} {v : run.Value} {w : worth.Value} → IsWorth t v w → ShowCells t (run.Holds v ∷ []) (cell.Holds w ∷ [])
shown_one h = record { count = refl; same = λ names p x. more_cells (holds (h.same names p x)) no_cell }

pub shown_later : {t u : emitted.Tables} {cs : List run.Cell} {ds : List rust.Cell} → Extends t u → ShowCells t cs ds → ShowCells u cs ds
shown_later e h = record { count = h.count; same = λ names p x. h.same names p (extends_then e x) }

-- ---- cells that depend on no table

pub none_added : (old : List rust.Cell) → AddsShown old old []
none_added old = record { added = []; behind = sym (append-nil old); shown = no_cells }

pub one_added : (old now new : List rust.Cell) (cs : List run.Cell) (v : run.Value) (w : worth.Value) → AddsShown old now cs → new ≡ now ++ cell.Holds w ∷ [] → ((t : emitted.Tables) → IsWorth t v w) → AddsShown old new (cs ++ run.Holds v ∷ [])
one_added old now new cs v w h e is = record {
  added = h.added ++ cell.Holds w ∷ [];
  behind = e ∙ ap (λ (l : List rust.Cell). l ++ cell.Holds w ∷ []) h.behind ∙ append_assoc old h.added (cell.Holds w ∷ []);
  shown = λ t. shown_then (h.shown t) (shown_one (is t));
}

-- ---- and those that do

pub with_literals : {a b : Emitter} {old new : List rust.Cell} {cs : List run.Cell} {ls : List (List ℕ)} → AddsShown old new cs → Emits a b [] ls → AddsCells a b old new cs ls
with_literals {a} {b} h e = record { added = h.added; behind = h.behind; shown = h.shown (tables_of b); emits = e }

pub one_worth : {a b : Emitter} {old new : List rust.Cell} {v : run.Value} {w : worth.Value} {ls : List (List ℕ)} → new ≡ old ++ cell.Holds w ∷ [] → IsWorth (tables_of b) v w → Emits a b [] ls → AddsCells a b old new (run.Holds v ∷ []) ls
one_worth {w = w} e is emits = record { added = cell.Holds w ∷ []; behind = e; shown = shown_one is; emits = emits }

pub begun : (a : Emitter) (old : List rust.Cell) → AddsCells a a old old [] []
begun a old = record { added = []; behind = sym (append-nil old); shown = no_cells (tables_of a); emits = nothing a }

pub adds_then : {a b c : Emitter} {x y z : List rust.Cell} {cs ds : List run.Cell} {ls ms : List (List ℕ)} → AddsCells a b x y cs ls → AddsCells b c y z ds ms → AddsCells a c x z (cs ++ ds) (ls ++ ms)
adds_then {x = x} e f = record {
  added = e.added ++ f.added;
  behind = f.behind ∙ ap (λ (l : List rust.Cell). l ++ f.added) e.behind ∙ append_assoc x e.added f.added;
  shown = shown_then (shown_later f.emits.tables e.shown) f.shown;
  emits = both e.emits f.emits;
}

pub adds_rest : {a b : Emitter} {x y z : List rust.Cell} {cs ds : List run.Cell} {ls : List (List ℕ)} → AddsCells a b x y cs ls → AddsShown y z ds → AddsCells a b x z (cs ++ ds) ls
adds_rest {b = b} {x = x} e f = record {
  added = e.added ++ f.added;
  behind = f.behind ∙ ap (λ (l : List rust.Cell). l ++ f.added) e.behind ∙ append_assoc x e.added f.added;
  shown = shown_then e.shown (f.shown (tables_of b));
  emits = e.emits;
}

-- ---- what the code knows behind literals, and while types grow

pub at_file_behind : (old new : Table) (d : Declarations) (a b : Emitter) (env : Environment) {is : List code.Instruction} {ls : List (List ℕ)} → Grows (known old) (known new) → new.tags ≡ old.tags → Emits a b is ls
    → IsAtFile old d a env → IsAtFile new d b (behind_literals ls env)
at_file_behind old new d a b env {is} {ls} grows same e at =
    let entries = e.stays.files in
    let objects : (tables_of b).files ≡ (tables_of a).files = ap (λ (os : List (Vec rust.Cell Global)). map (λ (cells : List values.Cell). length cells) (map (λ (cells : Vec rust.Cell Global). map cell_of cells.items) os)) e.stays.objects in
    record {
      holds = holds_kept old new d env.scope grows same at.holds;
      files = record {
        found = λ name.
            subst (λ (ls : List ℕ). IsFile ls (file_named b name) (meaning env.objects name)) (sym objects)
            (subst (λ es. IsFile (tables_of a).files (lookup (λ k. bytes_eq name k.now) es) (meaning env.objects name)) (sym entries) (at.files.found name));
      };
      owner = e.stays.owner ∙ at.owner;
      before = e.before ∙ ap (λ (n : ℕ). n + length ls) at.before;
    }

pub behind_both : (env : Environment) (ls ms : List (List ℕ)) → behind_literals ms (behind_literals ls env) ≡ behind_literals (ls ++ ms) env
behind_both env ls ms = let e : env.literals_before + length ls + length ms ≡ env.literals_before + length (ls ++ ms) = omega (arith, length-append ls ms) in ap (λ (n : ℕ). record env { literals_before = n }) e

pub behind_none : (env : Environment) → behind_literals [] env ≡ env
behind_none env = let e : env.literals_before + 0 ≡ env.literals_before = omega arith in ap (λ (n : ℕ). record env { literals_before = n }) e

-- ---- the values of a braced list

abbrev pub listed : List Value → CValues
listed items = values (map value_of items)

-- the cells so far, and those of the values that are left, are those of all
pub record SoFar (a b : Emitter) (old now : List rust.Cell) (env : Environment) (s : plain.Slots) (k : ℕ) (items : List Value) : Type 0 where
  pub cells : List run.Cell
  pub literals : List (List ℕ)
  pub adds : AddsCells a b old now cells literals
  pub whole : all_static_cells (listed items) s env ≡ cells ++ all_static_cells (listed (drop k items)) (behind k s) (behind_literals literals env)
  pub all_literals : values_literals env.scope (listed items) ≡ literals ++ values_literals env.scope (listed (drop k items))
  pub quiet : AreQuietValues env.scope (listed (drop k items))

pub record Going (t0 now : Table) (d : Declarations) (structs : StructKinds) (a b : Emitter) (slots : Slots) (k : ℕ) (items : List Value) (old cells : List rust.Cell) : Type 0 where
  pub grows : Grows (known t0) (known now)
  pub tags : now.tags ≡ t0.tags
  pub so_far : (s : plain.Slots) (env : Environment) → AreSlots t0 d.layouts.items slots s → IsAtFile t0 d a env → AreStructKinds t0 structs env.scope.tags → AreQuietValues env.scope (listed items) → SoFar a b old cells env s k items

pub going_begun : (t0 : Table) (d : Declarations) (structs : StructKinds) (a : Emitter) (slots : Slots) (items : List Value) (old : List rust.Cell) → Going t0 t0 d structs a a slots 0 items old old
going_begun t0 d structs a slots items old = record {
  grows = λ n k h. h;
  tags = refl;
  so_far = λ s env are at kinds quiet. record { cells = []; literals = []; adds = begun a old; whole = ap (λ (e : Environment). all_static_cells (listed items) s e) (sym (behind_none env)); all_literals = refl; quiet = quiet };
}

-- a value more
pub first_quiet : (a b : Emitter) (old now : List rust.Cell) (env : Environment) (s : plain.Slots) (k : ℕ) (items : List Value) (v : Value) → drop k items ≡ v ∷ drop (suc k) items → SoFar a b old now env s k items
    → IsQuietValue env.scope (value_of v) × AreQuietValues env.scope (listed (drop (suc k) items))
first_quiet a b old now env s k items v at g = subst (λ (l : List Value). AreQuietValues env.scope (listed l)) at g.quiet

value_more : (a b c : Emitter) (old now new : List rust.Cell) (env : Environment) (s : plain.Slots) (k : ℕ) (items : List Value) (v : Value) → drop k items ≡ v ∷ drop (suc k) items
    → (g : SoFar a b old now env s k items)
    → AddsCells b c now new (static_cells (value_of v) (type_or_nothing (first_slot (behind k s))) (behind_literals g.literals env)) (value_literals env.scope (value_of v))
    → SoFar a c old new env s (suc k) items
value_more a b c old now new env s k items v at g more =
    let rest = listed (drop (suc k) items) in
    let here = behind_literals g.literals env in
    let own : List run.Cell = static_cells (value_of v) (type_or_nothing (first_slot (behind k s))) here in
    let ls : List (List ℕ) = value_literals env.scope (value_of v) in
    record {
      cells = g.cells ++ own;
      literals = g.literals ++ ls;
      adds = adds_then g.adds more;
      whole =
          g.whole
          ∙ (ap (λ (l : List Value). g.cells ++ all_static_cells (listed l) (behind k s) here) at
          ∙ (ap (λ (r : plain.Slots). g.cells ++ (own ++ all_static_cells rest r (behind_literals ls here))) (next_behind k s)
          ∙ (ap (λ (e : Environment). g.cells ++ (own ++ all_static_cells rest (behind (suc k) s) e)) (behind_both env g.literals ls)
          ∙ sym (append_assoc g.cells own (all_static_cells rest (behind (suc k) s) (behind_literals (g.literals ++ ls) env))))));
      all_literals =
          g.all_literals ∙ (ap (λ (l : List Value). g.literals ++ values_literals env.scope (listed l)) at ∙ sym (append_assoc g.literals ls (values_literals env.scope rest)));
      quiet = (first_quiet a b old now env s k items v at g).1;
    }

types_kept : (old new : Table) (entries : Entries) (ts : List CType) → Grows (known old) (known new) → AreTypes old entries ts → AreTypes new entries ts
types_kept old new [] [] grows h = h
types_kept old new (e ∷ entries) (t ∷ ts) grows h = (grows e.1 (OneType t) h.0, types_kept old new entries ts grows h.1)
types_kept old new [] (t ∷ ts) grows h = absurd h
types_kept old new (e ∷ entries) [] grows h = absurd h

pub slots_kept : (old new : Table) (layouts : List Layout) (slots : Slots) (s : plain.Slots) → Grows (known old) (known new) → AreSlots old layouts slots s → AreSlots new layouts slots s
slots_kept old new layouts (slot.Elements n count) (plain.Elements t many) grows h = (grows n (OneType t) h.0, h.1)
slots_kept old new layouts (slot.Members tag) (plain.Fields ts) grows h = types_kept old new (entries_at layouts tag) ts grows h
slots_kept old new layouts slot.Nothing plain.Nothing grows h = h
slots_kept old new layouts (slot.Elements n count) (plain.Fields ts) grows h = absurd h
slots_kept old new layouts (slot.Elements n count) plain.Nothing grows h = absurd h
slots_kept old new layouts (slot.Members tag) (plain.Elements t many) grows h = absurd h
slots_kept old new layouts (slot.Members tag) plain.Nothing grows h = absurd h
slots_kept old new layouts slot.Nothing (plain.Elements t many) grows h = absurd h
slots_kept old new layouts slot.Nothing (plain.Fields ts) grows h = absurd h

pub goes_on : (t0 t1 t2 t3 : Table) (d : Declarations) (structs : StructKinds) (a b c : Emitter) (slots : Slots) (k n : ℕ) (items : List Value) (v : Value) (old now new : List rust.Cell)
    → Going t0 t1 d structs a b slots k items old now → drop k items ≡ v ∷ drop (k + 1) items
    → Grows (known t1) (known t2) → t2.tags ≡ t1.tags → Grows (known t2) (known t3) → t3.tags ≡ t2.tags
    → ((s : plain.Slots) → AreSlots t1 d.layouts.items slots s → HasType t2 n (type_or_nothing (first_slot (behind k s))))
    → ((t : CType) (env : Environment) → HasType t2 n t → IsAtFile t2 d b env → AreStructKinds t2 structs env.scope.tags → IsQuietValue env.scope (value_of v)
    → AddsCells b c now new (static_cells (value_of v) t env) (value_literals env.scope (value_of v)))
    → Going t0 t3 d structs a c slots (k + 1) items old new
goes_on t0 t1 t2 t3 d structs a b c slots k n items v old now new g at grows1 tags1 grows2 tags2 slot adds =
    let there : drop k items ≡ v ∷ drop (suc k) items = at ∙ ap (λ (i : ℕ). v ∷ drop i items) (add-one k) in
    let grows = grows_then (known t0) (known t1) (known t2) g.grows grows1 in
    let tags : t2.tags ≡ t0.tags = tags1 ∙ g.tags in
    record {
      grows = grows_then (known t0) (known t2) (known t3) grows grows2;
      tags = tags2 ∙ tags;
      so_far = λ s env are file kinds quiet.
          let f = g.so_far s env are file kinds quiet in
          subst (λ (i : ℕ). SoFar a c old new env s i items) (sym (add-one k))
          (value_more a b c old now new env s k items v there f
          (adds (type_or_nothing (first_slot (behind k s))) (behind_literals f.literals env) (slot s (slots_kept t0 t1 d.layouts.items slots s g.grows are))
          (at_file_behind t0 t2 d a b env grows tags f.adds.emits file) (struct_kinds_kept t0 t2 structs env.scope.tags tags kinds) (first_quiet a b old now env s k items v there f).0));
    }

-- the values are all there
pub going_done : (t0 t1 : Table) (d : Declarations) (structs : StructKinds) (a b : Emitter) (slots : Slots) (k : ℕ) (items : List Value) (old now new : List rust.Cell) (s : plain.Slots) (env : Environment)
    → Going t0 t1 d structs a b slots k items old now → length items ≤ k → AreSlots t0 d.layouts.items slots s → IsAtFile t0 d a env → AreStructKinds t0 structs env.scope.tags → AreQuietValues env.scope (listed items)
    → AddsShown now new (zero_cells (slot_kinds env.scope.tags (behind k s)))
    → AddsCells a b old new (all_static_cells (listed items) s env) (values_literals env.scope (listed items))
going_done t0 t1 d structs a b slots k items old now new s env g past are file kinds quiet rest =
    let f = g.so_far s env are file kinds quiet in
    let none : drop k items ≡ [] = drop_all k items past in
    let cells : all_static_cells (listed items) s env ≡ f.cells ++ zero_cells (slot_kinds env.scope.tags (behind k s)) =
    f.whole ∙ ap (λ (l : List Value). f.cells ++ all_static_cells (listed l) (behind k s) (behind_literals f.literals env)) none in
    let literals : values_literals env.scope (listed items) ≡ f.literals =
    f.all_literals ∙ (ap (λ (l : List Value). f.literals ++ values_literals env.scope (listed l)) none ∙ append-nil f.literals) in
    subst (λ (cs : List run.Cell). AddsCells a b old new cs (values_literals env.scope (listed items))) (sym cells)
    (subst (λ (ls : List (List ℕ)). AddsCells a b old new (f.cells ++ zero_cells (slot_kinds env.scope.tags (behind k s))) ls) (sym literals)
    (adds_rest f.adds rest))

-- ---- cells of bytes, and of kinds

pub byte_added : (old now new : List rust.Cell) (bytes : List ℕ) (i d : ℕ) (w : worth.Value) → AddsShown old now (map (λ c. run.Holds (run.Word c)) (take i bytes)) → i < length bytes → new ≡ now ++ cell.Holds w ∷ []
    → worth_of w ≡ values.Word (get_or bytes i d) → AddsShown old new (map (λ c. run.Holds (run.Word c)) (take (i + 1) bytes))
byte_added old now new bytes i d w h within e is =
    let b = get_or bytes i d in
    subst (AddsShown old new) (sym (map_more (λ c. run.Holds (run.Word c)) bytes i d within))
    (one_added old now new (map (λ c. run.Holds (run.Word c)) (take i bytes)) (run.Word b) w h e (λ t. word_worth t b (run.Word b) w refl is))

zero_worth : (t : emitted.Tables) (k : Kind) (w : worth.Value) → worth_of w ≡ zero_of k → IsWorth t (memory.zero_of (kind_in k)) w
zero_worth t kind.Number w e = word_worth t 0 (run.Word 0) w refl e
zero_worth t kind.ObjectPointer w e = null_worth t run.Null w refl e
zero_worth t kind.FunctionPointer w e = null_worth t run.Null w refl e

pub zero_added : (old now new : List rust.Cell) (kinds : List Kind) (i : ℕ) (d : Kind) (w : worth.Value) → AddsShown old now (zero_cells (map kind_in (take i kinds))) → i < length kinds → new ≡ now ++ cell.Holds w ∷ []
    → worth_of w ≡ zero_of (get_or kinds i d) → AddsShown old new (zero_cells (map kind_in (take (i + 1) kinds)))
zero_added old now new kinds i d w h within e is =
    let k = get_or kinds i d in
    let more : zero_cells (map kind_in (take (i + 1) kinds)) ≡ zero_cells (map kind_in (take i kinds)) ++ run.Holds (memory.zero_of (kind_in k)) ∷ [] =
    ap zero_cells (map_more kind_in kinds i d within) ∙ map-append (λ x. run.Holds (memory.zero_of x)) (map kind_in (take i kinds)) (kind_in k ∷ []) in
    subst (AddsShown old new) (sym more) (one_added old now new (zero_cells (map kind_in (take i kinds))) (memory.zero_of (kind_in k)) w h e (λ t. zero_worth t k w is))
