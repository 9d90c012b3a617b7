-- First values come into the cells of their object, which lies in the frame.
use Rattle.std.proofs.Common.{◌≡◌, ℕ, suc, ◌+◌, ◌*◌, ◌%◌, ◌^◌, ◌<◌, ◌≤◌, Bool, true, false, List, [], ◌∷◌, ◌++◌, length, Option, Some, None, refl, sym, ap, ◌∙◌, subst, arith, if◌then◌else◌}
use Rattle.std.specs.Prelude.{replicate}
use Rattle.std.proofs.lemmas.Option.{slice_get_within}
use Rattle.eir_core.specs.declared.ops.Reg.TheVariants.{A}
use Rattle.eir_core.specs.declared.ops.Op.{Op}
use Rattle.eir_core.specs.declared.ops.Op.TheVariants.{Mov}
use Rattle.c_syntax.specs.Plain.{CExpr, Number as Numeral, Str, Null as NullText, Var, Unary, Step, Binary, Assign, Cond, Comma, Cast, SizeTy, SizeOf, Index, Call, Member, Arrow, CValue, One, Many, CValues, NoValue, MoreValue, CDecl}
use Rattle.c_types.specs.Types as type
use Rattle.c_types.specs.Types.{CType, NoType, MoreType, words_of}
use Rattle.c_types.specs.Declarations.{Slots, first_slot, next_slots, slots_of, takes_string}
use Rattle.c_eval.specs.State.{Value, Word, Point, Cell, State, Run, OutsideObject}
use Rattle.c_eval.specs.Run.{◌>>=◌, after, give, objects_now}
use Rattle.c_eval.specs.Memory.{Kind, Number, ObjectPointer, FunctionPointer, kind_of, zero_of, cell_at, write_cell, store}
use Rattle.c_eval.specs.Operators.{used, converted, assigned}
use Rattle.c_eval.specs.Environment.{Environment, object_type_in, slot_kinds, type_or_nothing, past_value, declaring, unset_cells}
use Rattle.c_eval.specs.Eval.{World, Next, used_value, value_of, array_text, clear, spell, initialise, initialise_all, first_value}
use Rattle.c_helpers.specs.Frames.{waiting, value_waiting, values_waiting, first_waiting}
use Rattle.c_place.specs.Code.{jumps}
use Rattle.c_place.specs.Place.{Place, Machine, Stands, behind_all}
use Rattle.c_place.proofs.Running.{behind_append, behind_block, stands_first, stands_rest}
use Rattle.c_place.proofs.CutLemmas.{jumps_append}
use Rattle.c_lowered.specs.Counts.{expr_jumps, first_jumps, firsts_jumps, maybe_first_jumps}
use Rattle.c_lowered.specs.Locations.{Location, Framed, Linking, located}
use Rattle.c_lowered.specs.Operations.{constant, store_to}
use Rattle.c_lowered.specs.Expressions.{value_code}
use Rattle.c_lowered.specs.Statements.{spelled, first_code, firsts_code, offset_in_frame, declaration_code}
use Rattle.c_lowered.proofs.Jumping.{value_jumps}
use Rattle.c_memory.specs.Follows.{fuel_of, here}
use Rattle.c_memory.specs.Lies.{Extent, base, Means}
use Rattle.c_memory.proofs.Following.{comes_quiet, first_then, then_follows, give_follows, undefined_follows, wider}
use Rattle.c_memory.proofs.Lying.{holder}
use Rattle.c_landing.specs.Landing.{Names, placed, location_word, Setting, Ready, Left, Reached, InA}
use Rattle.c_landing.specs.Few.{Agrees}
use Rattle.c_landing.proofs.Landing.{F, from_place, left_here, ready_later, left_then, reached_then}
use Rattle.c_landing.proofs.Pieces.{ready_same, with_register}
use Rattle.c_landing.proofs.Stilling.{object_room}
use Rattle.c_landing.proofs.Stores.{StoresAt, store_follows}
use Rattle.c_valued.specs.Steps.{steps}
use Rattle.c_valued.proofs.Parts.{max_left, max_right, used_in_a}
use Rattle.c_valued.specs.Calls.{with_names}
use Rattle.c_valued.proofs.Arguments.{first_converted}
use Rattle.c_stated.specs.Flows.{FlowReached, Performs}
use Rattle.c_stated.specs.Statements.{ExprValued, AreWords, WhereTaken, FirstValued, FirstsValued, MaybeFirstValued, DeclarationValued, first_steps, firsts_steps, declared_steps}
use Rattle.c_stated.proofs.Parts.{ready_declared, agrees_named}

-- nothing is claimed of what is given
abbrev Anything : {X : Type 0} → X → List Extent → Machine → Type 0
Anything v bs m = Unit {0}

-- nothing more is to be done
abbrev done : Run (Unit {0})
done = give tt

-- an object lies at a word of the frame
record At (bs : List Extent) (bp o offset : ℕ) : Type 0 where
  there : o < length bs
  lies : base bs o ≡ bp + offset

-- a store by the code of a place of the frame
stored : (j : ℕ) (m : Machine) → StoresAt (store_to (Framed j)) m (location_word m (Framed j))
stored j m = record { quiet = (tt, (tt, (tt, tt))); memory = refl; frame = refl; value = refl }

module _ (S : Setting) (w : World) (agrees : Agrees S w) (d n : ℕ) where
  at_later : (bs bs1 : List Extent) (st st1 : State) (m m1 : Machine) (o offset : ℕ) → Left S bs st m.memory m.regs.bp d bs1 st1 m1 → At bs m.regs.bp o offset → At bs1 m1.regs.bp o offset
  at_later bs bs1 st st1 m m1 o offset l x = record { there = omega (arith, x.there, l.post.longer); lies = ap (λ (z : Extent). z.at) (l.post.grown o x.there) ∙ (x.lies ∙ ap (λ z. z + offset) (sym l.framed)) }

  -- what a cell of the object becomes
  cell_follows : (s : Place) (bs : List Extent) (st : State) (m : Machine) (kind : Kind) (o offset j k : ℕ) (v : Value) → Stands S.program s (store_to (Framed k)) → Ready S bs st m d n → At bs m.regs.bp o offset → k ≡ offset + j → Means S.ground bs v m.regs.a
      → F S (here s m st) (fuel_of st) 3 (store kind (Point o j) v st) (Reached S bs st m.memory m.regs.bp d (behind_all s (store_to (Framed k))) Anything)
  unfolding store objects_now ◌>>=◌ after write_cell
  cell_follows s bs st m kind o offset j k v stands r x is mv = by (cell_at st.objects (Point o j)) refl
    where
      by : (c : Option Cell) → cell_at st.objects (Point o j) ≡ c → F S (here s m st) (fuel_of st) 3 (write_cell kind c st.objects (Point o j) v st) (Reached S bs st m.memory m.regs.bp d (behind_all s (store_to (Framed k))) Anything)
      by None e = undefined_follows S.program S.input S.mode OutsideObject s m st (fuel_of st) 3 (Reached S bs st m.memory m.regs.bp d (behind_all s (store_to (Framed k))) Anything)
      by (Some c) e =
          let h = holder st.objects o j c e in
          let inside = slice_get_within h.object.cells j c h.cell in
          let full = r.lies.full o h.object h.is in
          let room = object_room S.ground bs st.objects m.memory (m.regs.bp + d) o r.lies x.there in
          let word : location_word m (Framed k) ≡ base bs o + j = omega (arith, is, x.lies, room.1, inside, full.1) in
          subst (λ z. F S (here s m st) (fuel_of st) 3 (write_cell kind z st.objects (Point o j) v st) (Reached S bs st m.memory m.regs.bp d (behind_all s (store_to (Framed k))) Anything)) e
          (store_follows S Anything s bs st m d n (store_to (Framed k)) kind (Point o j) v (location_word m (Framed k)) (stored k m) stands r (x.there, omega (arith, inside, full.1), word) mv tt)

  -- a word is spelled, and then the rest
  word_then : (s : Place) (bs : List Extent) (st : State) (m : Machine) (kind : Kind) (o offset j k c c1 : ℕ) (v : Value) (more : List Op) (rest : Run (Unit {0})) → Stands S.program s (Mov A (constant c) ∷ (store_to (Framed k) ++ more)) → Ready S bs st m d n → At bs m.regs.bp o offset → k ≡ offset + j → Means S.ground bs v (c % 2 ^ 24)
      → ((s1 : Place) (bs1 : List Extent) (st1 : State) (m1 : Machine) → s1.block ≡ s.block → Stands S.program s1 more → Ready S bs1 st1 m1 d n → At bs1 m1.regs.bp o offset → F S (here s1 m1 st1) (fuel_of st1) c1 (rest st1) (Reached S bs1 st1 m1.memory m1.regs.bp d (behind_all s1 more) Anything))
      → F S (here s m st) (fuel_of st) (4 + c1) ((store kind (Point o j) v >>= λ _. rest) st) (Reached S bs st m.memory m.regs.bp d (behind_all s (Mov A (constant c) ∷ (store_to (Framed k) ++ more))) Anything)
  word_then s bs st m kind o offset j k c c1 v more rest stands r x is mv g =
      let one : List Op = Mov A (constant c) ∷ [] in
      let s1 = behind_all s one in
      let m1 = with_register m A (c % 2 ^ 24) in
      let s2 = behind_all s1 (store_to (Framed k)) in
      let k1 = stands_first S.program s1 (store_to (Framed k)) more stands.1 in
      let k2 = stands_rest S.program s1 (store_to (Framed k)) more stands.1 in
      let r1 = ready_same S bs st m m1 d n refl refl r in
      let R = Reached S bs st m.memory m.regs.bp d (behind_all s2 more) Anything in
      subst (λ z. F S (here s m st) (fuel_of st) (4 + c1) ((store kind (Point o j) v >>= λ _. rest) st) (Reached S bs st m.memory m.regs.bp d z Anything)) (sym (behind_append s1 (store_to (Framed k)) more))
      (first_then S.program S.input S.mode 1 (3 + c1) (4 + c1) ((store kind (Point o j) v >>= λ _. rest) st) R (comes_quiet S.program S.input S.mode s m st one (fuel_of st) (tt, tt) (stands.0, tt))
      (then_follows S.program S.input S.mode (here s1 m1 st) (fuel_of st) 3 c1 (3 + c1) (store kind (Point o j) v) st (λ _. rest) (Reached S bs st m1.memory m1.regs.bp d s2 Anything) R (cell_follows s1 bs st m1 kind o offset j k v k1 r1 x is mv)
      (λ z st2 t2 m2 le q. from_place S m2 st2 c1 (rest st2) R q.place
      (wider S.program S.input S.mode (here s2 m2 st2) (fuel_of st2) c1 c1 (rest st2) (Reached S q.bases st2 m2.memory m2.regs.bp d (behind_all s2 more) Anything) R
      (g s2 q.bases st2 m2 refl k2 (ready_later S bs q.bases st st2 m m2 d n r q.left le) (at_later bs q.bases st st2 m m2 o offset q.left x))
      (λ y st3 s3 m3 q3. reached_then S bs q.bases st st2 m.memory m2 m.regs.bp d (behind_all s2 more) (behind_all s2 more) Anything refl q.left y st3 s3 m3 q3) (omega arith)))
      (omega arith)) (omega arith))

  -- ---- words that are spelled

  spell_follows : (cs : List ℕ) → AreWords cs → (s : Place) (bs : List Extent) (st : State) (m : Machine) (o offset j k : ℕ) → Stands S.program s (spelled cs k) → Ready S bs st m d n → At bs m.regs.bp o offset → k ≡ offset + j
      → F S (here s m st) (fuel_of st) (4 * length cs) (spell cs (Point o j) st) (Reached S bs st m.memory m.regs.bp d (behind_all s (spelled cs k)) Anything)
  unfolding spell
  spell_follows [] h s bs st m o offset j k stands r x is =
      give_follows S.program S.input S.mode tt s m st 0 (Reached S bs st m.memory m.regs.bp d s Anything) (record { place = refl; bases = bs; left = left_here S bs st m d n r; means = tt })
  spell_follows (c ∷ cs) h s bs st m o offset j k stands r x is =
      wider S.program S.input S.mode (here s m st) (fuel_of st) (4 + 4 * length cs) (4 * length (c ∷ cs)) (spell (c ∷ cs) (Point o j) st) _ _
      (word_then s bs st m Number o offset j k c (4 * length cs) (Word c) (spelled cs (suc k)) (spell cs (Point o (suc j))) stands r x is (omega (arith, h.0), h.0)
      (λ s1 bs1 st1 m1 e k1 r1 x1. spell_follows cs h.1 s1 bs1 st1 m1 o offset (suc j) (suc k) k1 r1 x1 (omega (arith, is)))) (λ y st1 s1 m1 q. q) (omega arith)

  zero_means : (bs : List Extent) (kind : Kind) → Means S.ground bs (zero_of kind) 0
  zero_means bs Number = (refl, omega arith)
  zero_means bs ObjectPointer = refl
  zero_means bs FunctionPointer = refl

  clear_follows : (kinds : List Kind) (s : Place) (bs : List Extent) (st : State) (m : Machine) (o offset j k : ℕ) → Stands S.program s (spelled (replicate (length kinds) 0) k) → Ready S bs st m d n → At bs m.regs.bp o offset → k ≡ offset + j
      → F S (here s m st) (fuel_of st) (4 * length kinds) (clear kinds (Point o j) st) (Reached S bs st m.memory m.regs.bp d (behind_all s (spelled (replicate (length kinds) 0) k)) Anything)
  unfolding clear
  clear_follows [] s bs st m o offset j k stands r x is =
      give_follows S.program S.input S.mode tt s m st 0 (Reached S bs st m.memory m.regs.bp d s Anything) (record { place = refl; bases = bs; left = left_here S bs st m d n r; means = tt })
  clear_follows (kind ∷ kinds) s bs st m o offset j k stands r x is =
      wider S.program S.input S.mode (here s m st) (fuel_of st) (4 + 4 * length kinds) (4 * length (kind ∷ kinds)) (clear (kind ∷ kinds) (Point o j) st) _ _
      (word_then s bs st m kind o offset j k 0 (4 * length kinds) (zero_of kind) (spelled (replicate (length kinds) 0) (suc k)) (clear kinds (Point o (suc j))) stands r x is (zero_means bs kind)
      (λ s1 bs1 st1 m1 e k1 r1 x1. clear_follows kinds s1 bs1 st1 m1 o offset (suc j) (suc k) k1 r1 x1 (omega (arith, is)))) (λ y st1 s1 m1 q. q) (omega arith)

-- ---- the jumps of their code

spelled_count : (cs : List ℕ) (k : ℕ) → jumps (spelled cs k) ≡ 0
spelled_count [] k = refl
spelled_count (c ∷ cs) k = spelled_count cs (suc k)

-- a string that is spelled
string_form : (t : CType) (n : ℕ) (e : CExpr) → takes_string (type.Array t n) e ≡ true → expr_jumps e ≡ 0
string_form t n (Str at text) h = refl
string_form t n (Numeral at m u) h = absurd (cc h)
string_form t n (NullText at) h = absurd (cc h)
string_form t n (Var at name) h = absurd (cc h)
string_form t n (SizeTy at y) h = absurd (cc h)
string_form t n (SizeOf at a) h = absurd (cc h)
string_form t n (Unary at op a) h = absurd (cc h)
string_form t n (Binary at op a b) h = absurd (cc h)
string_form t n (Assign at op a b) h = absurd (cc h)
string_form t n (Cond at a b c) h = absurd (cc h)
string_form t n (Comma at a b) h = absurd (cc h)
string_form t n (Cast at y a) h = absurd (cc h)
string_form t n (Index at a b) h = absurd (cc h)
string_form t n (Call at f es) h = absurd (cc h)
string_form t n (Member at a m) h = absurd (cc h)
string_form t n (Arrow at a m) h = absurd (cc h)
string_form t n (Step at op a) h = absurd (cc h)

string_is_quiet : (t : CType) (e : CExpr) → takes_string t e ≡ true → expr_jumps e ≡ 0
string_is_quiet (type.Array t n) e h = string_form t n e h
string_is_quiet type.Void e h = absurd (cc h)
string_is_quiet type.Int e h = absurd (cc h)
string_is_quiet type.Unsigned e h = absurd (cc h)
string_is_quiet type.Char e h = absurd (cc h)
string_is_quiet type.UChar e h = absurd (cc h)
string_is_quiet type.Null e h = absurd (cc h)
string_is_quiet (type.Struct tag) e h = absurd (cc h)
string_is_quiet (type.Pointer t) e h = absurd (cc h)
string_is_quiet (type.Function t ts) e h = absurd (cc h)

mutual
  first_count : (v : CValue) (t : CType) (k : ℕ) (w : Linking) (place : Environment) (block free : ℕ) → jumps (first_code v t k w place block free) ≡ first_jumps v
  first_count (One e) t k w place block free = by (takes_string t e) refl
    where
      by : (b : Bool) → takes_string t e ≡ b → jumps (if b then spelled (array_text t e) k else value_code e w place block free ++ store_to (Framed k)) ≡ expr_jumps e
      by true h = spelled_count (array_text t e) k ∙ sym (string_is_quiet t e h)
      by false h = let both = jumps_append (value_code e w place block free) (store_to (Framed k)) in let one = (value_jumps e w place block free).count in omega (arith, both, one)
  first_count (Many vs) t k w place block free = firsts_count vs (slots_of place.scope.tags (Some t)) k w place block free

  firsts_count : (vs : CValues) (slots : Slots) (k : ℕ) (w : Linking) (place : Environment) (block free : ℕ) → jumps (firsts_code vs slots k w place block free) ≡ firsts_jumps vs
  firsts_count NoValue slots k w place block free = spelled_count (replicate (length (slot_kinds place.scope.tags slots)) 0) k
  firsts_count (MoreValue v vs) slots k w place block free =
      let t = type_or_nothing (first_slot slots) in
      let k1 = k + words_of place.scope.tags t in
      let both = jumps_append (first_code v t k w place block free) (firsts_code vs (next_slots slots) k1 w (past_value v place) (block + first_jumps v) free) in
      let one = first_count v t k w place block free in
      let rest = firsts_count vs (next_slots slots) k1 w (past_value v place) (block + first_jumps v) free in
      omega (arith, both, one, rest)

-- ---- first values

module _ (S : Setting) (w : World) (agrees : Agrees S w) (u : ℕ) (bases : List Location) (coded named : Names) where
  abbrev T : Setting
  T = with_names S bases coded named

  abbrev here_agrees : Agrees T w
  here_agrees = agrees_named S w bases coded named agrees

  -- a value of an expression
  one_follows : (e : CExpr) (t : CType) (site : Environment) → ExprValued S w u e site → (k d n i p o offset j at : ℕ) → waiting e ≤ n → k + expr_jumps e < 2 ^ 24 → (s : Place) (bs : List Extent) (st : State) (m : Machine) → s.block ≡ k
      → Stands T.program s (value_code e T.linking (placed coded i site) k d ++ store_to (Framed at)) → Ready T bs st m d n → At bs m.regs.bp o offset → at ≡ offset + j
      → F T (here s m st) (fuel_of st) (steps u e + 3) (((value_of e w (placed named p site) >>= used) >>= λ v. assigned t (Point o j) v >>= λ _. done) st) (Reached T bs st m.memory m.regs.bp d (behind_all s (value_code e T.linking (placed coded i site) k d ++ store_to (Framed at))) Anything)
  unfolding assigned
  one_follows e t site valued k d n i p o offset j at le lt s bs st m eq stands r x is =
      let code = value_code e T.linking (placed coded i site) k d in
      let s1 = behind_all s code in
      let put = store_to (Framed at) in
      let end = behind_all s1 put in
      let run : Run Value = value_of e w (placed named p site) >>= used in
      let second : Value → Run (Unit {0}) = λ v. store (kind_of t) (Point o j) (converted t v) >>= λ _. done in
      let R = Reached T bs st m.memory m.regs.bp d end Anything in
      let l = used_in_a T w here_agrees ((valued bases coded named).value k d n i p le lt) in
      subst (λ z. F T (here s m st) (fuel_of st) (steps u e + 3) ((run >>= second) st) (Reached T bs st m.memory m.regs.bp d z Anything)) (sym (behind_append s code put))
      (then_follows T.program T.input T.mode (here s m st) (fuel_of st) (steps u e) 3 (steps u e + 3) run st second (Reached T bs st m.memory m.regs.bp d s1 (InA T)) R (l.at s bs st m eq (stands_first T.program s code put stands) r)
      (λ v st1 t1 m1 le1 q. from_place T m1 st1 3 (second v st1) R q.place
      (let r1 = ready_later T bs q.bases st st1 m m1 d n r q.left le1 in
      let means = first_converted T w here_agrees u q.bases st1 m1 d n r1 (MoreType t NoType) (v ∷ []) q.means in
      then_follows T.program T.input T.mode (here s1 m1 st1) (fuel_of st1) 3 0 3 (store (kind_of t) (Point o j) (converted t v)) st1 (λ _. done) (Reached T q.bases st1 m1.memory m1.regs.bp d end Anything) R
      (cell_follows T w here_agrees d n s1 q.bases st1 m1 (kind_of t) o offset j at (converted t v) (stands_rest T.program s code put stands) r1 (at_later T w here_agrees d n bs q.bases st st1 m m1 o offset q.left x) is means)
      (λ y st2 s2 m2 le2 q2. give_follows T.program T.input T.mode tt s2 m2 st2 0 R (record { place = q2.place; bases = q2.bases; left = left_then T bs q.bases q2.bases st st1 st2 m.memory m1 m2 m.regs.bp d q.left q2.left; means = tt })) (omega arith)))
      (omega arith))

  mutual
    unfolding used_value

    first_follows : (v : CValue) (t : CType) (site : Environment) → FirstValued S w u t v site → (k d n i p o offset j at : ℕ) → value_waiting v ≤ n → k + first_jumps v < 2 ^ 24 → (s : Place) (bs : List Extent) (st : State) (m : Machine) → s.block ≡ k
        → Stands T.program s (first_code v t at T.linking (placed coded i site) k d) → Ready T bs st m d n → At bs m.regs.bp o offset → at ≡ offset + j
        → F T (here s m st) (fuel_of st) (first_steps u site.scope t v) (initialise v t (Point o j) w (placed named p site) st) (Reached T bs st m.memory m.regs.bp d (behind_all s (first_code v t at T.linking (placed coded i site) k d)) Anything)
    first_follows (One e) t site valued k d n i p o offset j at le lt s bs st m eq stands r x is = by (takes_string t e) valued stands
      where
        by : (b : Bool) → WhereTaken b (AreWords (array_text t e)) (ExprValued S w u e site) → Stands T.program s (if b then spelled (array_text t e) at else value_code e T.linking (placed coded i site) k d ++ store_to (Framed at))
            → F T (here s m st) (fuel_of st) (if b then 4 * length (array_text t e) else steps u e + 3) ((if b then spell (array_text t e) (Point o j) else (value_of e w (placed named p site) >>= used) >>= λ v. assigned t (Point o j) v >>= λ _. done) st)
            (Reached T bs st m.memory m.regs.bp d (behind_all s (if b then spelled (array_text t e) at else value_code e T.linking (placed coded i site) k d ++ store_to (Framed at))) Anything)
        by true h stands = spell_follows T w here_agrees d n (array_text t e) h s bs st m o offset j at stands r x is
        by false h stands = one_follows e t site h k d n i p o offset j at (omega (arith, le)) lt s bs st m eq stands r x is
    first_follows (Many vs) t site valued k d n i p o offset j at le lt s bs st m eq stands r x is = firsts_follow vs (slots_of site.scope.tags (Some t)) site valued k d n i p o offset j at le lt s bs st m eq stands r x is

    firsts_follow : (vs : CValues) (slots : Slots) (site : Environment) → FirstsValued S w u slots vs site → (k d n i p o offset j at : ℕ) → values_waiting vs ≤ n → k + firsts_jumps vs < 2 ^ 24 → (s : Place) (bs : List Extent) (st : State) (m : Machine) → s.block ≡ k
        → Stands T.program s (firsts_code vs slots at T.linking (placed coded i site) k d) → Ready T bs st m d n → At bs m.regs.bp o offset → at ≡ offset + j
        → F T (here s m st) (fuel_of st) (firsts_steps u site.scope slots vs) (initialise_all vs slots (Point o j) w (placed named p site) st) (Reached T bs st m.memory m.regs.bp d (behind_all s (firsts_code vs slots at T.linking (placed coded i site) k d)) Anything)
    firsts_follow NoValue slots site valued k d n i p o offset j at le lt s bs st m eq stands r x is = clear_follows T w here_agrees d n (slot_kinds site.scope.tags slots) s bs st m o offset j at stands r x is
    firsts_follow (MoreValue v vs) slots site valued k d n i p o offset j at le lt s bs st m eq stands r x is =
        let t = type_or_nothing (first_slot slots) in
        let more = next_slots slots in
        let far = words_of site.scope.tags t in
        let one = first_code v t at T.linking (placed coded i site) k d in
        let k1 = k + first_jumps v in
        let two = firsts_code vs more (at + far) T.linking (placed coded i (past_value v site)) k1 d in
        let c1 = first_steps u site.scope t v in
        let c2 = firsts_steps u site.scope more vs in
        let s1 = behind_all s one in
        let counted = first_count v t at T.linking (placed coded i site) k d in
        let second : Run (Unit {0}) = initialise_all vs more (Point o (j + far)) w (placed named p (past_value v site)) in
        let R = Reached T bs st m.memory m.regs.bp d (behind_all s1 two) Anything in
        subst (λ z. F T (here s m st) (fuel_of st) (c1 + c2) ((initialise v t (Point o j) w (placed named p site) >>= λ _. second) st) (Reached T bs st m.memory m.regs.bp d z Anything)) (sym (behind_append s one two))
        (then_follows T.program T.input T.mode (here s m st) (fuel_of st) c1 c2 (c1 + c2) (initialise v t (Point o j) w (placed named p site)) st (λ _. second) (Reached T bs st m.memory m.regs.bp d s1 Anything) R
        (first_follows v t site valued.0 k d n i p o offset j at (max_left (value_waiting v) (values_waiting vs) n le) (omega (arith, lt)) s bs st m eq (stands_first T.program s one two stands) r x is)
        (λ z st1 t1 m1 le1 q. from_place T m1 st1 c2 (second st1) R q.place
        (wider T.program T.input T.mode (here s1 m1 st1) (fuel_of st1) c2 c2 (second st1) (Reached T q.bases st1 m1.memory m1.regs.bp d (behind_all s1 two) Anything) R
        (firsts_follow vs more (past_value v site) valued.1 k1 d n i p o offset (j + far) (at + far) (max_right (value_waiting v) (values_waiting vs) n le) (omega (arith, lt)) s1 q.bases st1 m1 (behind_block s one ∙ omega (arith, eq, counted)) (stands_rest T.program s one two stands)
        (ready_later T bs q.bases st st1 m m1 d n r q.left le1) (at_later T w here_agrees d n bs q.bases st st1 m m1 o offset q.left x) (omega (arith, is)))
        (λ y st2 s2 m2 q2. reached_then T bs q.bases st st1 m.memory m1 m.regs.bp d (behind_all s1 two) (behind_all s1 two) Anything refl q.left y st2 s2 m2 q2) (omega arith)))
        (omega arith))

-- ---- declarations

module _ (S : Setting) (w : World) (agrees : Agrees S w) (u : ℕ) where
  pub declared : (decl : CDecl) (site : Environment) → MaybeFirstValued S w u (object_type_in site.scope decl) decl.first (declaring decl site) → DeclarationValued S w u decl site
  unfolding first_value ◌>>=◌ after give
  declared decl site valued bases coded named k free n i o to le lt = by decl.first valued le lt
    where
      by : (x : Option CValue) → MaybeFirstValued S w u (object_type_in site.scope decl) x (declaring decl site) → first_waiting x ≤ n → k + maybe_first_jumps x < 2 ^ 24
          → Performs (with_names S bases coded named) (declaration_code decl x (record S.linking { bases = bases }) (placed coded i site) k free) k free n (declared_steps u (declaring decl site).scope (object_type_in site.scope decl) x)
          (first_value decl w (placed named o site) x >>= λ _. give Next) to i o (unset_cells site.scope decl ∷ [])
      by None valued le lt = record {
        at = λ s bs st m eq stands r pending. give_follows S.program S.input S.mode Next s m st 0 (FlowReached (with_names S bases coded named) bs st m.memory m.regs.bp free to s) (record { goes = refl; bases = bs; left = left_here (with_names S bases coded named) bs st m free n r; means = tt });
      }
      by (Some v) valued le lt = record {
        at = λ s bs st m eq stands r pending.
            (let coded1 : Names = (decl.name, Some i) ∷ coded in
            let named1 : Names = (decl.name, Some o) ∷ named in
            let T1 = with_names S bases coded1 named1 in
            let t = object_type_in site.scope decl in
            let inner = declaring decl site in
            let place = offset_in_frame (located (record S.linking { bases = bases }) (Some (Some i))) in
            let code = first_code v t place T1.linking (placed coded1 (suc i) inner) k free in
            let c = first_steps u inner.scope t v in
            let run : Run (Unit {0}) = initialise v t (Point o 0) w (placed named1 (suc o) inner) in
            let R = FlowReached (with_names S bases coded named) bs st m.memory m.regs.bp free to (behind_all s code) in
            let nothing : pending.0.offset ≡ pending.0.offset + 0 = omega arith in
            let is : place ≡ pending.0.offset + 0 = ap offset_in_frame pending.0.place ∙ nothing in
            then_follows S.program S.input S.mode (here s m st) (fuel_of st) c 0 c run st (λ _. give Next) (Reached T1 bs st m.memory m.regs.bp free (behind_all s code) Anything) R
            (first_follows S w agrees u bases coded1 named1 v t inner valued k free n (suc i) (suc o) o pending.0.offset 0 place le lt s bs st m eq stands (ready_declared S bases coded named decl.name i o bs st m free n pending.0 r) (record { there = pending.0.there; lies = pending.0.lies }) is)
            (λ y st1 s1 m1 le1 q. give_follows S.program S.input S.mode Next s1 m1 st1 0 R (record {
              goes = q.place;
              bases = q.bases;
              left = record { framed = q.left.framed; lies = q.left.lies; post = q.left.post; charge = q.left.charge; words = q.left.words };
              means = tt;
            }))
            (omega arith));
      }
