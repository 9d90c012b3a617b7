-- Words of first values at file scope, one behind the other.
use Rattle.std.proofs.Common.{◌≡◌, ℕ, suc, ◌+◌, ◌≤◌, Bool, true, false, ◌&&◌, ◌||◌, List, [], ◌∷◌, ◌++◌, length, length-append, map, drop, replicate, refl, sym, ap, subst, ◌∙◌, append_assoc, append-nil, add-zero, add-one, if◌then◌else◌, arith}
use Rattle.std.proofs.lemmas.List.{drop_all, map-append}
use Rattle.std.proofs.lemmas.Bool.Decides.{nat_tests}
use Rattle.std.specs.Prelude.{Option, Some, None, Result, Ok, Err, OnOk, ◌==◌}
use Rattle.std.specs.declared.alloc.AllocError.{AllocError}
use Rattle.word24.specs.declared.word.Word.{Word as TheWord}
use Rattle.c_syntax.specs.View.{value_of}
use Rattle.c_syntax.specs.declared.tree.Value.{Value}
use Rattle.c_syntax.specs.Words.{meaning}
use Rattle.c_types.specs.Types.{CType, is_pointer, is_null}
use Rattle.c_types.specs.Scope as scope
use Rattle.c_types.specs.Scope.{entity_of}
use Rattle.c_types.specs.Declarations as plain
use Rattle.c_types.specs.Declarations.{first_slot, next_slots}
use Rattle.c_types.specs.Table.{Table, HasType}
use Rattle.c_scopes.specs.declared.entity.Entity.{Entity}
use Rattle.c_scopes.specs.declared.entity.Entity.TheVariants as entity
use Rattle.c_operands.specs.Scoped.{IsEntityOrNone}
use Rattle.c_declared.specs.declared.slots.Slots.{Slots}
use Rattle.c_declared.specs.Slots.{AreSlots, behind}
use Rattle.c_cells.specs.declared.structs.StructKinds.{StructKinds}
use Rattle.c_cells.specs.Structs.{AreStructKinds}
use Rattle.c_cells.proofs.KindLemmas.{next_behind}
use Rattle.c_cells.proofs.StructLemmas.{struct_kinds_kept}
use Rattle.c_eval.specs.State as run
use Rattle.c_eval.specs.State.{Cell, Holds}
use Rattle.c_eval.specs.Memory as memory
use Rattle.c_eval.specs.Memory.{Kind}
use Rattle.c_eval.specs.Operators.{as_pointer, converted}
use Rattle.c_eval.specs.Environment.{Environment, behind_literals, type_or_nothing, slot_kinds}
use Rattle.c_eval.specs.LiteralsIn.{value_literals, values_literals}
use Rattle.c_eval.specs.Text.{static_pointer, static_named, static_cells, all_static_cells, zero_cells}
use Rattle.c_static.specs.Forms.{is_object, IsQuietValue, AreQuietValues}
use Rattle.c_static.proofs.CellLemmas.{listed, slots_kept, behind_both, behind_none}
use Rattle.c_emission.specs.declared.location.Location.TheVariants.{Fixed, Framed}
use Rattle.c_lowered.specs.Locations as location
use Rattle.c_lowered.specs.Locations.{Linking, located}
use Rattle.c_lowered.specs.Whole.{address_in, word_of, cell_word, words_from}
use Rattle.c_counted.specs.Numbers.{IsNumber}
use Rattle.c_addressing.specs.declared.here.Here as rust
use Rattle.c_addressing.specs.declared.here.Output.{Output}
use Rattle.c_addressing.specs.Here.{IsHere, Emits}
use Rattle.c_addressing.specs.Names.{slot_of}
use Rattle.c_addressing.specs.Places.{IsLocation}
use Rattle.c_addressing.proofs.HereLemmas.{both}
use Rattle.c_addressing.proofs.PlaceLemmas.{entity_found}
use Rattle.c_applied.specs.Leads.{Keeps}
use Rattle.c_applied.proofs.LeadsLemmas.{nothing, keeps_none, keeps_then, kept, here_on, here_still, as_count}
use Rattle.c_lower_data.specs.Statics.{IsAtFile, AddsWords, names_object}
use Rattle.c_lower_data.proofs.LetterLemmas.{words_then}

-- ---- locations and names

pub fixed_told : (a : ℕ) (l : location.Location) → IsLocation (Fixed a) l → IsNumber a (address_in l)
fixed_told a (location.Fixed n) h = h
fixed_told a (location.Framed n) h = absurd h

pub framed_told : (k : ℕ) (l : location.Location) → IsLocation (Framed k) l → IsNumber k (address_in l)
framed_told k (location.Framed n) h = h
framed_told k (location.Fixed n) h = absurd h

-- an object that has a number
pointed : (table : Table) (w : Linking) (name : List ℕ) (a : Option Entity) (e : Option scope.Entity) (b : Option Entity) → IsEntityOrNone table a e → is_object a ≡ true → is_object b ≡ true → word_of w (static_pointer name e (slot_of b)) ≡ address_in (located w (slot_of b))
pointed table w name (Some (entity.Object n)) (Some (scope.Object t)) (Some (entity.Object k)) h f g = add-zero (address_in (located w (Some (Some k))))
pointed table w name (Some (entity.Object n)) (Some (scope.Object t)) (Some (entity.Routine k c)) h f g = absurd cc
pointed table w name (Some (entity.Object n)) (Some (scope.Object t)) (Some (entity.BuiltIn k)) h f g = absurd cc
pointed table w name (Some (entity.Object n)) (Some (scope.Object t)) (Some entity.Printf) h f g = absurd cc
pointed table w name (Some (entity.Object n)) (Some (scope.Object t)) None h f g = absurd cc
pointed table w name (Some (entity.Object n)) (Some (scope.Routine t c)) b h f g = absurd h
pointed table w name (Some (entity.Object n)) (Some (scope.BuiltIn t)) b h f g = absurd h
pointed table w name (Some (entity.Object n)) (Some scope.Printf) b h f g = absurd h
pointed table w name (Some (entity.Object n)) None b h f g = absurd h
pointed table w name (Some (entity.Routine n c)) e b h f g = absurd cc
pointed table w name (Some (entity.BuiltIn n)) e b h f g = absurd cc
pointed table w name (Some entity.Printf) e b h f g = absurd cc
pointed table w name None e b h f g = absurd cc

-- what is no object is a function
not_entity : (table : Table) (name : List ℕ) (a : Option Entity) (e : Option scope.Entity) (o : Option (Option ℕ)) → IsEntityOrNone table a e → is_object a ≡ false → static_pointer name e o ≡ run.Function name
not_entity table name (Some (entity.Object n)) e o h f = absurd cc
not_entity table name (Some (entity.Routine n c)) (Some (scope.Object t)) o h f = absurd h
not_entity table name (Some (entity.BuiltIn n)) (Some (scope.Object t)) o h f = absurd h
not_entity table name (Some entity.Printf) (Some (scope.Object t)) o h f = absurd h
not_entity table name None (Some (scope.Object t)) o h f = absurd h
not_entity table name a (Some (scope.Routine t c)) o h f = refl
not_entity table name a (Some (scope.BuiltIn t)) o h f = refl
not_entity table name a (Some scope.Printf) o h f = refl
not_entity table name a None o h f = refl

not_numbered : (name : List ℕ) (e : Option scope.Entity) (b : Option Entity) → is_object b ≡ false → static_pointer name e (slot_of b) ≡ run.Function name
not_numbered name e (Some (entity.Object n)) f = absurd cc
not_numbered name (Some (scope.Object t)) (Some (entity.Routine n c)) f = refl
not_numbered name (Some (scope.Object t)) (Some (entity.BuiltIn n)) f = refl
not_numbered name (Some (scope.Object t)) (Some entity.Printf) f = refl
not_numbered name (Some (scope.Object t)) None f = refl
not_numbered name (Some (scope.Routine t c)) b f = refl
not_numbered name (Some (scope.BuiltIn t)) b f = refl
not_numbered name (Some scope.Printf) b f = refl
not_numbered name None b f = refl

left_true : (a b : Bool) → (a && b) ≡ true → (a ≡ true) × (b ≡ true)
left_true true true h = (refl, refl)
left_true true false h = absurd cc
left_true false b h = absurd cc

pub object_word : (h : rust.Here) (out : Output) (w : Linking) (env : Environment) (name : List ℕ) → IsHere h out w env → names_object h name ≡ true → word_of w (static_named env name) ≡ address_in (located w (meaning env.objects name))
object_word h out w env name is both_objects =
    let a = meaning (h.declared.names.block ++ h.declared.names.outer) name in
    let b = meaning (h.slots.block ++ h.slots.outer) name in
    let k = left_true (is_object a) (is_object b) both_objects in
    subst (λ (o : Option (Option ℕ)). word_of w (static_pointer name (entity_of env.scope name) o) ≡ address_in (located w o)) (is.slots name)
    (pointed out.types w name a (entity_of env.scope name) b (entity_found out.types h.declared env.scope name is.holds.fits) k.0 k.1)

pub function_word : (h : rust.Here) (out : Output) (w : Linking) (env : Environment) (name : List ℕ) → IsHere h out w env → names_object h name ≡ false → word_of w (static_named env name) ≡ w.entry name
function_word h out w env name is lacks =
    let a = meaning (h.declared.names.block ++ h.declared.names.outer) name in
    let b = meaning (h.slots.block ++ h.slots.outer) name in
    ap (word_of w) (by (is_object a) (is_object b) refl refl lacks) where
      by : (x y : Bool) → is_object (meaning (h.declared.names.block ++ h.declared.names.outer) name) ≡ x → is_object (meaning (h.slots.block ++ h.slots.outer) name) ≡ y → (x && y) ≡ false → static_named env name ≡ run.Function name
      by true true e f g = absurd cc
      by true false e f g =
          subst (λ (o : Option (Option ℕ)). static_pointer name (entity_of env.scope name) o ≡ run.Function name) (is.slots name) (not_numbered name (entity_of env.scope name) (meaning (h.slots.block ++ h.slots.outer) name) f)
      by false y e f g = not_entity out.types name (meaning (h.declared.names.block ++ h.declared.names.outer) name) (entity_of env.scope name) (meaning env.objects name) (entity_found out.types h.declared env.scope name is.holds.fits) e

-- ---- words of cells

pub bytes_words : (w : Linking) (bytes : List ℕ) → map (cell_word w) (map (λ c. Holds (run.Word c)) bytes) ≡ bytes
bytes_words w [] = refl
bytes_words w (c ∷ bytes) = ap (λ (l : List ℕ). c ∷ l) (bytes_words w bytes)

zero_word : (w : Linking) (kind : Kind) → word_of w (memory.zero_of kind) ≡ 0
zero_word w memory.Number = refl
zero_word w memory.ObjectPointer = refl
zero_word w memory.FunctionPointer = refl

pub zero_words : (w : Linking) (kinds : List Kind) → map (cell_word w) (zero_cells kinds) ≡ replicate (length kinds) 0
zero_words w [] = refl
zero_words w (kind ∷ kinds) = ap (λ (n : ℕ). n ∷ map (cell_word w) (zero_cells kinds)) (zero_word w kind) ∙ ap (λ (l : List ℕ). 0 ∷ l) (zero_words w kinds)

pointer_word : (w : Linking) (v : run.Value) → word_of w (as_pointer v) ≡ word_of w v
pointer_word w (run.Word n) = by (n == 0) refl where
  by : (b : Bool) → (n == 0) ≡ b → word_of w (if b then run.Null else run.Word n) ≡ n
  by true h = let zero : n ≡ 0 = grind (arith, nat_tests) in sym zero
  by false h = refl
pointer_word w run.Null = refl
pointer_word w (run.Point o k) = refl
pointer_word w (run.Letter f i text k) = refl
pointer_word w (run.Function name) = refl
pointer_word w run.Missing = refl

pub converted_word : (w : Linking) (t : CType) (v : run.Value) → word_of w (converted t v) ≡ word_of w v
converted_word w t v = by (is_pointer t || is_null t) where
  by : (b : Bool) → word_of w (if b then as_pointer v else v) ≡ word_of w v
  by true = pointer_word w v
  by false = refl

pub always : {P : Type 0} (r : Result (Unit {0}) AllocError) → P → OnOk r P
always (Ok x) p = p
always (Err e) p = tt

-- ---- places at file scope

pub at_file_on : {h : rust.Here} {a b : Output} {w : Linking} {env : Environment} {n : ℕ} → Emits a b [] n → IsAtFile h a w env → IsAtFile h b w (record env { literals_before = env.literals_before + n })
at_file_on e at = record { here = here_on e at.here; owner = at.owner }

pub at_file_still : {h : rust.Here} {a b : Output} {w : Linking} {env : Environment} → Emits a b [] 0 → IsAtFile h a w env → IsAtFile h b w env
at_file_still e at = record { here = here_still e at.here; owner = at.owner }

-- ---- values, one behind the other

pub record SoFar (a b : Output) (old now : List TheWord) (w : Linking) (env : Environment) (s : plain.Slots) (i : ℕ) (items : List Value) : Type 0 where
  pub cells : List Cell
  pub literals : List (List ℕ)
  pub adds : AddsWords a b old now w cells literals
  pub whole : all_static_cells (listed items) s env ≡ cells ++ all_static_cells (listed (drop i items)) (behind i s) (behind_literals literals env)
  pub all_literals : values_literals env.scope (listed items) ≡ literals ++ values_literals env.scope (listed (drop i items))
  pub quiet : AreQuietValues env.scope (listed (drop i items))

pub record Going (h : rust.Here) (structs : StructKinds) (a b : Output) (slots : Slots) (i : ℕ) (items : List Value) (old now : List TheWord) : Type 0 where
  pub keeps : Keeps a b
  pub so_far : (s : plain.Slots) (w : Linking) (env : Environment) → AreSlots a.types h.declared.layouts.items slots s → IsAtFile h a w env → AreStructKinds a.types structs env.scope.tags → AreQuietValues env.scope (listed items)
      → SoFar a b old now w env s i items

pub going_begun : (h : rust.Here) (structs : StructKinds) (a : Output) (slots : Slots) (items : List Value) (old : List TheWord) → Going h structs a a slots 0 items old old
going_begun h structs a slots items old = record {
  keeps = keeps_none a;
  so_far = λ s w env are at kinds quiet. record {
    cells = [];
    literals = [];
    adds = record { words = sym (append-nil old); emits = nothing a };
    whole = ap (λ (e : Environment). all_static_cells (listed items) s e) (sym (behind_none env));
    all_literals = refl;
    quiet = quiet;
  };
}

adds_then : {a b c : Output} {x y z : List TheWord} {w : Linking} (cs ds : List Cell) (ls ms : List (List ℕ)) → AddsWords a b x y w cs ls → AddsWords b c y z w ds ms → AddsWords a c x z w (cs ++ ds) (ls ++ ms)
adds_then {x = x} {y} {z} {w} cs ds ls ms e f = record {
  words = words_then x y z (map (cell_word w) cs) (map (cell_word w) ds) e.words f.words ∙ ap (λ (l : List ℕ). x ++ words_from l) (sym (map-append (cell_word w) cs ds));
  emits = as_count (sym (length-append ls ms)) (both e.emits f.emits);
}

still_adds : {a b c : Output} {x y : List TheWord} {w : Linking} {cs : List Cell} {ls : List (List ℕ)} → Emits a b [] 0 → AddsWords b c x y w cs ls → AddsWords a c x y w cs ls
still_adds {ls = ls} e f = record { words = f.words; emits = as_count (none_first (length ls)) (both e f.emits) } where
  none_first : (n : ℕ) → 0 + n ≡ n
  none_first n = omega arith

value_more : (a b c : Output) (old now new : List TheWord) (w : Linking) (env : Environment) (s : plain.Slots) (i : ℕ) (items : List Value) (v : Value) → drop i items ≡ v ∷ drop (suc i) items
    → (g : SoFar a b old now w env s i items) → AreQuietValues env.scope (listed (drop (suc i) items))
    → AddsWords b c now new w (static_cells (value_of v) (type_or_nothing (first_slot (behind i s))) (behind_literals g.literals env)) (value_literals env.scope (value_of v))
    → SoFar a c old new w env s (suc i) items
value_more a b c old now new w env s i items v at g quiet more =
    let rest = listed (drop (suc i) items) in
    let here = behind_literals g.literals env in
    let own : List Cell = static_cells (value_of v) (type_or_nothing (first_slot (behind i s))) here in
    let ls : List (List ℕ) = value_literals env.scope (value_of v) in
    record {
      cells = g.cells ++ own;
      literals = g.literals ++ ls;
      adds = adds_then g.cells own g.literals ls g.adds more;
      whole =
          g.whole
          ∙ (ap (λ (l : List Value). g.cells ++ all_static_cells (listed l) (behind i s) here) at
          ∙ (ap (λ (r : plain.Slots). g.cells ++ (own ++ all_static_cells rest r (behind_literals ls here))) (next_behind i s)
          ∙ (ap (λ (e : Environment). g.cells ++ (own ++ all_static_cells rest (behind (suc i) s) e)) (behind_both env g.literals ls)
          ∙ sym (append_assoc g.cells own (all_static_cells rest (behind (suc i) s) (behind_literals (g.literals ++ ls) env))))));
      all_literals =
          g.all_literals ∙ (ap (λ (l : List Value). g.literals ++ values_literals env.scope (listed l)) at ∙ sym (append_assoc g.literals ls (values_literals env.scope rest)));
      quiet = quiet;
    }

pub goes_on : (h : rust.Here) (structs : StructKinds) (a b c e : Output) (slots : Slots) (i ty : ℕ) (items : List Value) (v : Value) (old now new : List TheWord)
    → Going h structs a b slots i items old now → drop i items ≡ v ∷ drop (i + 1) items → Emits b c [] 0 → Keeps c e
    → ((s : plain.Slots) → AreSlots b.types h.declared.layouts.items slots s → HasType c.types ty (type_or_nothing (first_slot (behind i s))))
    → ((t : CType) (w : Linking) (env : Environment) → HasType c.types ty t → IsAtFile h c w env → AreStructKinds c.types structs env.scope.tags → IsQuietValue env.scope (value_of v)
    → AddsWords c e now new w (static_cells (value_of v) t env) (value_literals env.scope (value_of v)))
    → Going h structs a e slots (i + 1) items old new
goes_on h structs a b c e slots i ty items v old now new g at_v still kept_e is_slot adds =
    let there : drop i items ≡ v ∷ drop (suc i) items = at_v ∙ ap (λ (j : ℕ). v ∷ drop j items) (add-one i) in
    record {
      keeps = keeps_then g.keeps (keeps_then (kept still) kept_e);
      so_far = λ s w env are at kinds quiet.
          let f = g.so_far s w env are at kinds quiet in
          let t = type_or_nothing (first_slot (behind i s)) in
          let has = is_slot s (slots_kept a.types b.types h.declared.layouts.items slots s g.keeps.grows are) in
          let next = subst (λ (l : List Value). AreQuietValues env.scope (listed l)) there f.quiet in
          let at_c = at_file_still still (at_file_on f.adds.emits at) in
          let kinds_c = struct_kinds_kept a.types c.types structs env.scope.tags (still.tags ∙ g.keeps.tags) kinds in
          subst (λ (j : ℕ). SoFar a e old new w env s j items) (sym (add-one i))
          (value_more a b e old now new w env s i items v there f next.1 (still_adds still (adds t w (behind_literals f.literals env) has at_c kinds_c next.0)));
    }

pub going_done : (h : rust.Here) (structs : StructKinds) (a b : Output) (slots : Slots) (i : ℕ) (items : List Value) (old now new : List TheWord) (s : plain.Slots) (w : Linking) (env : Environment)
    → Going h structs a b slots i items old now → length items ≤ i → AreSlots a.types h.declared.layouts.items slots s → IsAtFile h a w env → AreStructKinds a.types structs env.scope.tags → AreQuietValues env.scope (listed items)
    → new ≡ now ++ words_from (replicate (length (slot_kinds env.scope.tags (behind i s))) 0)
    → AddsWords a b old new w (all_static_cells (listed items) s env) (values_literals env.scope (listed items))
going_done h structs a b slots i items old now new s w env g past are at kinds quiet rest =
    let f = g.so_far s w env are at kinds quiet in
    let none : drop i items ≡ [] = drop_all i items past in
    let left = slot_kinds env.scope.tags (behind i s) in
    let zeros : List Cell = zero_cells left in
    let whole : all_static_cells (listed items) s env ≡ f.cells ++ zeros = f.whole ∙ ap (λ (l : List Value). f.cells ++ all_static_cells (listed l) (behind i s) (behind_literals f.literals env)) none in
    let literals : values_literals env.scope (listed items) ≡ f.literals =
    f.all_literals ∙ (ap (λ (l : List Value). f.literals ++ values_literals env.scope (listed l)) none ∙ append-nil f.literals) in
    let more : new ≡ now ++ words_from (map (cell_word w) zeros) = rest ∙ ap (λ (l : List ℕ). now ++ words_from l) (sym (zero_words w left)) in
    let all : new ≡ old ++ words_from (map (cell_word w) (f.cells ++ zeros)) =
    words_then old now new (map (cell_word w) f.cells) (map (cell_word w) zeros) f.adds.words more ∙ ap (λ (l : List ℕ). old ++ words_from l) (sym (map-append (cell_word w) f.cells zeros)) in
    record {
      words = all ∙ ap (λ (cs : List Cell). old ++ words_from (map (cell_word w) cs)) (sym whole);
      emits = as_count (sym (ap (λ (ls : List (List ℕ)). length ls) literals)) f.adds.emits;
    }
