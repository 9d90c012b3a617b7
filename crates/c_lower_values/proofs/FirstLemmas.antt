-- Code of first values, one behind the other.
use Rattle.std.proofs.Common.{◌≡◌, ℕ, suc, ◌+◌, ◌≤◌, true, List, [], ◌∷◌, ◌++◌, length, length-append, drop, replicate, refl, sym, ap, subst, ◌∙◌, append_assoc, append-nil, add-zero, add-one, arith}
use Rattle.std.proofs.lemmas.List.{drop_all}
use Rattle.eir_core.specs.declared.ops.Op.{Op}
use Rattle.c_syntax.specs.Plain as tree
use Rattle.c_syntax.specs.Plain.{CExpr}
use Rattle.c_syntax.specs.View.{value_of}
use Rattle.c_syntax.specs.declared.tree.Value.{Value}
use Rattle.c_types.specs.Types.{CType, Tags, Void, Array, words_of}
use Rattle.c_types.specs.Declarations as plain
use Rattle.c_types.specs.Declarations.{first_slot, next_slots, takes_string}
use Rattle.c_types.specs.Table.{HasType}
use Rattle.c_layouts.specs.Layouts.{AreLayouts}
use Rattle.c_declared.specs.declared.slots.Slots.{Slots}
use Rattle.c_declared.specs.Slots.{AreSlots, behind}
use Rattle.c_cells.specs.declared.structs.StructKinds.{StructKinds}
use Rattle.c_cells.specs.Structs.{AreStructKinds}
use Rattle.c_cells.proofs.KindLemmas.{next_behind}
use Rattle.c_cells.proofs.StructLemmas.{struct_kinds_kept}
use Rattle.c_eval.specs.Environment.{Environment, behind_literals, type_or_nothing, slot_kinds}
use Rattle.c_eval.specs.LiteralsIn.{value_literals, values_literals}
use Rattle.c_static.proofs.CellLemmas.{listed, slots_kept, behind_both, behind_none}
use Rattle.c_lowered.specs.Locations.{Linking}
use Rattle.c_lowered.specs.Counts.{expr_jumps, first_jumps, firsts_jumps}
use Rattle.c_lowered.specs.Statements.{spelled, first_code, firsts_code}
use Rattle.c_counted.specs.Numbers.{IsNumber}
use Rattle.c_addressing.specs.declared.here.Here as rust
use Rattle.c_addressing.specs.declared.here.Output.{Output}
use Rattle.c_addressing.specs.Here.{IsHere, Emits}
use Rattle.c_addressing.proofs.HereLemmas.{both, holds_later}
use Rattle.c_applied.specs.Leads.{Leads, Keeps}
use Rattle.c_applied.proofs.LeadsLemmas.{nothing, keeps_none, keeps_then, kept, here_on, here_still, then_still, as_count, told_block, as_lead, with_count, leads, then_piece}

-- a string in an array has no jump
pub taken_jumps : (t : CType) (e : CExpr) → takes_string t e ≡ true → expr_jumps e ≡ 0
taken_jumps (Array u n) (tree.Str at text) h = refl
taken_jumps (Array u n) (tree.Null at) h = absurd cc
taken_jumps (Array u n) _ h = absurd cc
taken_jumps Void e h = absurd cc
taken_jumps _ e h = absurd cc

-- the code so far, and that of the values that are left, is that of all
pub record SoFar (a b : Output) (w : Linking) (env : Environment) (s : plain.Slots) (from m n i place block : ℕ) (items : List Value) : Type 0 where
  pub is : List Op
  pub literals : List (List ℕ)
  pub jumps : ℕ
  pub word : ℕ
  pub emits : Emits a b is (length literals)
  pub told : IsNumber place word
  pub ends : IsNumber block (m + jumps)
  pub code : firsts_code (listed items) s from w env m n ≡ is ++ firsts_code (listed (drop i items)) (behind i s) word w (behind_literals literals env) (m + jumps) n
  pub all_literals : values_literals env.scope (listed items) ≡ literals ++ values_literals env.scope (listed (drop i items))
  pub all_jumps : firsts_jumps (listed items) ≡ jumps + firsts_jumps (listed (drop i items))

pub record Going (h : rust.Here) (structs : StructKinds) (a b : Output) (slots : Slots) (at k d i place block : ℕ) (items : List Value) : Type 0 where
  pub keeps : Keeps a b
  pub so_far : (s : plain.Slots) (from : ℕ) (w : Linking) (env : Environment) (m n : ℕ) → AreSlots a.types h.declared.layouts.items slots s → IsNumber at from → IsHere h a w env
      → AreStructKinds a.types structs env.scope.tags → IsNumber k m → IsNumber d n → SoFar a b w env s from m n i place block items

pub going_begun : (h : rust.Here) (structs : StructKinds) (a : Output) (slots : Slots) (at k d : ℕ) (items : List Value) → Going h structs a a slots at k d 0 at k items
going_begun h structs a slots at k d items = record {
  keeps = keeps_none a;
  so_far = λ s from w env m n are hp is kinds hk hd. record {
    is = [];
    literals = [];
    jumps = 0;
    word = from;
    emits = nothing a;
    told = hp;
    ends = told_block (sym (add-zero m)) hk;
    code = ap (λ (e : Environment). firsts_code (listed items) s from w e m n) (sym (behind_none env)) ∙ ap (λ (j : ℕ). firsts_code (listed items) s from w (behind_literals [] env) j n) (sym (add-zero m));
    all_literals = refl;
    all_jumps = by (firsts_jumps (listed items));
  };
} where
  by : (x : ℕ) → x ≡ 0 + x
  by x = omega arith

three : (i j l : ℕ) → i + (j + l) ≡ i + j + l
three i j l = omega arith

-- what a value more adds
value_more : (a b c d : Output) (w : Linking) (env : Environment) (s : plain.Slots) (from m n i place block on next : ℕ) (items : List Value) (v : Value) → drop i items ≡ v ∷ drop (suc i) items
    → (g : SoFar a b w env s from m n i place block items) → Emits b c [] 0
    → Leads c d (first_code (value_of v) (type_or_nothing (first_slot (behind i s))) g.word w (behind_literals g.literals env) (m + g.jumps) n) (length (value_literals env.scope (value_of v))) next (m + g.jumps + first_jumps (value_of v))
    → IsNumber on (g.word + words_of env.scope.tags (type_or_nothing (first_slot (behind i s))))
    → SoFar a d w env s from m n (suc i) on next items
value_more a b c d w env s from m n i place block on next items v at g still more told =
    let rest = listed (drop (suc i) items) in
    let here = behind_literals g.literals env in
    let t = type_or_nothing (first_slot (behind i s)) in
    let j = first_jumps (value_of v) in
    let there : ℕ = g.word + words_of env.scope.tags t in
    let own : List Op = first_code (value_of v) t g.word w here (m + g.jumps) n in
    let ls : List (List ℕ) = value_literals env.scope (value_of v) in
    let blocks : m + g.jumps + j ≡ m + (g.jumps + j) = sym (three m g.jumps j) in
    record {
      is = g.is ++ own;
      literals = g.literals ++ ls;
      jumps = g.jumps + j;
      word = there;
      emits = as_count (sym (length-append g.literals ls)) (both (then_still g.emits still) more.emits);
      told = told;
      ends = told_block blocks more.block;
      code =
          g.code
          ∙ (ap (λ (l : List Value). g.is ++ firsts_code (listed l) (behind i s) g.word w here (m + g.jumps) n) at
          ∙ (ap (λ (r : plain.Slots). g.is ++ (own ++ firsts_code rest r there w (behind_literals ls here) (m + g.jumps + j) n)) (next_behind i s)
          ∙ (ap (λ (e : Environment). g.is ++ (own ++ firsts_code rest (behind (suc i) s) there w e (m + g.jumps + j) n)) (behind_both env g.literals ls)
          ∙ (ap (λ (k : ℕ). g.is ++ (own ++ firsts_code rest (behind (suc i) s) there w (behind_literals (g.literals ++ ls) env) k n)) blocks
          ∙ sym (append_assoc g.is own (firsts_code rest (behind (suc i) s) there w (behind_literals (g.literals ++ ls) env) (m + (g.jumps + j)) n))))));
      all_literals =
          g.all_literals ∙ (ap (λ (l : List Value). g.literals ++ values_literals env.scope (listed l)) at ∙ sym (append_assoc g.literals ls (values_literals env.scope rest)));
      all_jumps = g.all_jumps ∙ (ap (λ (l : List Value). g.jumps + firsts_jumps (listed l)) at ∙ three g.jumps j (firsts_jumps rest));
    }

-- a value more
pub goes_on : (h : rust.Here) (structs : StructKinds) (a b c e : Output) (slots : Slots) (at k d i place block on next ty size : ℕ) (items : List Value) (v : Value)
    → Going h structs a b slots at k d i place block items → drop i items ≡ v ∷ drop (i + 1) items
    → Emits b c [] 0 → Keeps c e
    → ((s : plain.Slots) → AreSlots b.types h.declared.layouts.items slots s → HasType c.types ty (type_or_nothing (first_slot (behind i s))))
    → ((t : CType) (p : ℕ) → HasType c.types ty t → IsNumber place p → (w : Linking) (env : Environment) (m n : ℕ) → IsHere h c w env → AreStructKinds c.types structs env.scope.tags → IsNumber block m → IsNumber d n
    → Leads c e (first_code (value_of v) t p w env m n) (length (value_literals env.scope (value_of v))) next (m + first_jumps (value_of v)))
    → ((t : CType) (tags : Tags) → HasType e.types ty t → AreLayouts e.types h.declared.layouts.items tags → IsNumber size (words_of tags t))
    → ((x y : ℕ) → IsNumber place x → IsNumber size y → IsNumber on (x + y))
    → Going h structs a e slots at k d (i + 1) on next items
goes_on h structs a b c e slots at k d i place block on next ty size items v g at_v still kept_e is_slot fills counts adds =
    let there : drop i items ≡ v ∷ drop (suc i) items = at_v ∙ ap (λ (j : ℕ). v ∷ drop j items) (add-one i) in
    record {
      keeps = keeps_then g.keeps (keeps_then (kept still) kept_e);
      so_far = λ s from w env m n are hp is kinds hk hd.
          let f = g.so_far s from w env m n are hp is kinds hk hd in
          let t = type_or_nothing (first_slot (behind i s)) in
          let has = is_slot s (slots_kept a.types b.types h.declared.layouts.items slots s g.keeps.grows are) in
          let here_c = here_still still (here_on f.emits is) in
          let kinds_c = struct_kinds_kept a.types c.types structs env.scope.tags (still.tags ∙ g.keeps.tags) kinds in
          let more = fills t f.word has f.told w (behind_literals f.literals env) (m + f.jumps) n here_c kinds_c f.ends hd in
          let holds = holds_later c e h.declared env.scope more.emits here_c.holds in
          let told = adds f.word (words_of env.scope.tags t) f.told (counts t env.scope.tags (kept_e.grows ty _ has) holds.fits.layouts) in
          subst (λ (j : ℕ). SoFar a e w env s from m n j on next items) (sym (add-one i))
          (value_more a b c e w env s from m n i place block on next items v there f still more told);
    }

-- the values are all there, and what they leave is cleared
pub going_done : (h : rust.Here) (structs : StructKinds) (a b c : Output) (slots : Slots) (at k d i place block : ℕ) (items : List Value) (s : plain.Slots) (from : ℕ) (w : Linking) (env : Environment) (m n : ℕ)
    → Going h structs a b slots at k d i place block items → length items ≤ i
    → AreSlots a.types h.declared.layouts.items slots s → IsNumber at from → IsHere h a w env → AreStructKinds a.types structs env.scope.tags → IsNumber k m → IsNumber d n
    → ((p : ℕ) → AreSlots b.types h.declared.layouts.items slots s → AreStructKinds b.types structs env.scope.tags → IsNumber place p → Emits b c (spelled (replicate (length (slot_kinds env.scope.tags (behind i s))) 0) p) 0)
    → Leads a c (firsts_code (listed items) s from w env m n) (length (values_literals env.scope (listed items))) block (m + firsts_jumps (listed items))
going_done h structs a b c slots at k d i place block items s from w env m n g past are hp is kinds hk hd cleared =
    let f = g.so_far s from w env m n are hp is kinds hk hd in
    let none : drop i items ≡ [] = drop_all i items past in
    let are_b = slots_kept a.types b.types h.declared.layouts.items slots s g.keeps.grows are in
    let kinds_b = struct_kinds_kept a.types b.types structs env.scope.tags g.keeps.tags kinds in
    let code : firsts_code (listed items) s from w env m n ≡ f.is ++ spelled (replicate (length (slot_kinds env.scope.tags (behind i s))) 0) f.word =
    f.code ∙ ap (λ (l : List Value). f.is ++ firsts_code (listed l) (behind i s) f.word w (behind_literals f.literals env) (m + f.jumps) n) none in
    let literals : values_literals env.scope (listed items) ≡ f.literals =
    f.all_literals ∙ (ap (λ (l : List Value). f.literals ++ values_literals env.scope (listed l)) none ∙ append-nil f.literals) in
    let jumps : firsts_jumps (listed items) ≡ f.jumps = f.all_jumps ∙ (ap (λ (l : List Value). f.jumps + firsts_jumps (listed l)) none ∙ add-zero f.jumps) in
    as_lead (sym code) (with_count (sym (ap (λ (l : List (List ℕ)). length l) literals)) (leads (then_piece f.emits (cleared f.word are_b kinds_b f.told)) (told_block (sym (ap (λ (x : ℕ). m + x) jumps)) f.ends)))
