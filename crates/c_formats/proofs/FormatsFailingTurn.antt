-- A turn of the function of strings, over all objects.
use Rattle.std.proofs.Common.{◌≡◌, ℕ, suc, ◌%◌, ◌^◌, List, [], ◌∷◌, ◌++◌, length, Option, Some, None, Bool, true, false, slice_get, slice_set, refl, ◌∙◌, length-set}
use Rattle.std.specs.Prelude.{pos, not, ◌==◌}
use Rattle.c_syntax.specs.Plain.{stmts}
use Rattle.c_types.specs.Types as type
use Rattle.c_types.specs.Types.{Tags}
use Rattle.c_types.specs.Scope as entity
use Rattle.c_types.specs.Scope.{Names}
use Rattle.c_eval.specs.State.{Value, Word, Null, Point, Letter, Function, Missing, Cell, Unset, Holds, Object, State, Gives, Run}
use Rattle.c_eval.specs.Run.{◌>>=◌, after, give, undefined, unless, choose, paid, spend, put, objects_now, with_objects}
use Rattle.c_eval.specs.Memory.{ObjectPointer, is_of, cell_at, read_cell, load, store, write_cell, put_cell, live_object, moved}
use Rattle.c_eval.specs.Operators.{used, of_word, as_pointer, sum, operated, combined, pointer_sum, pointer_to, value_at, pointed_value, assigned}
use Rattle.c_eval.specs.Environment.{Environment, behind, in_block}
use Rattle.c_eval.specs.Eval.{World, place_named, value_named, unary_value, assignment, cast_value, call, condition, Next, does, all_do}
use Rattle.c_eval.specs.Helpers.{refill}
use Rattle.c_helpers.specs.Functions.{p, unit_name, piece_name, spend_unit, put_piece, raised}
use Rattle.c_helpers.specs.Meanings.{piece_put}
use Rattle.c_formats.specs.StringsLaws.{KnowsUnit, KnowsPiece}
use Rattle.c_formats.proofs.Turn.{next_character, string_turn}
use Rattle.c_failing.specs.Failing.{Fails}
use Rattle.c_failing.proofs.Parts.{within_none, do_next}

-- a pointer to an object, which may be null
pub record IsPointer (v : Value) : Type 0 where
  pub kind : is_of ObjectPointer v ≡ true
  pub uses : used v ≡ give v
  pub same : as_pointer v ≡ v

-- a cell that holds no character, or none
abbrev pub IsNoCharacter : Option Cell → Type 0
IsNoCharacter (Some (Holds (Word w))) = ⊥
IsNoCharacter c = Unit {0}

-- the place of the loop, the parameter's object having this number
abbrev pub here : Tags → Names → List (List ℕ) → (own next literals : ℕ) → Environment
here tags names defined own next literals = record {
  scope = record { tags = tags; block = []; outer = (p, entity.Object (type.Pointer type.Char)) ∷ names; defined = defined };
  objects = (p, Some own) ∷ [];
  next = next;
  literals_before = literals;
}

-- the parameter, which points to the next character
abbrev pub pointing : Value → Object
pointing v = live_object (Holds v ∷ [])

module _ (tags : Tags) (names : Names) (defined : List (List ℕ)) (unit : KnowsUnit names) (piece : KnowsPiece names) (input : List ℕ) (owner : Option (List ℕ)) (calls : List ℕ → List Value → Run Value) (ration : ℕ) (unit_is : calls unit_name [] ≡ paid false (give Missing)) (piece_is : (c : ℕ) → calls piece_name (Word c ∷ []) ≡ piece_put ration (Word c)) (deep own : ℕ) where
  abbrev pub world : World
  world = record { input = input; owner = owner; calls = calls; inner = true }

  abbrev pub place : ℕ → ℕ → Environment
  place next literals = here tags names defined own next literals

  pub test_is : (next literals : ℕ) (v : Value) (w : ℕ) (b : Bool) (st : State) → IsPointer v → slice_get st.objects own ≡ Some (pointing v) → cell_at st.objects v ≡ Some (Holds (Word w)) → not (w == 0) ≡ b → condition next_character world (place next literals) st ≡ Gives b st
  unfolding ◌>>=◌ after give undefined unless choose objects_now read_cell load used of_word pointer_to value_at pointed_value place_named value_named unary_value cast_value condition
  test_is next literals v w b st k o cell e = rw (o, k.kind, k.uses, k.uses, cell, e) refl

  pub unit_goes : (next literals n : ℕ) (st : State) → does spend_unit deep world (place next literals) (record st { left = suc n }) ≡ Gives Next (record st { left = n })
  unfolding ◌>>=◌ after give paid spend call
  unit_goes next literals n st = rw (unit.1, unit_is) refl

  piece_goes : (next literals : ℕ) (v : Value) (w : ℕ) (st : State) → IsPointer v → slice_get st.objects own ≡ Some (pointing v) → cell_at st.objects v ≡ Some (Holds (Word w)) → does (put_piece next_character) deep world (place next literals) st ≡ Gives Next (record st { spare = ration; output = st.output ++ w % 2 ^ 8 ∷ [] })
  unfolding ◌>>=◌ after give undefined unless choose objects_now read_cell load used of_word pointer_to value_at pointed_value place_named value_named unary_value cast_value call piece_put refill put
  piece_goes next literals v w st k o cell = rw (piece.1, o, k.kind, k.uses, k.uses, cell, piece_is w) refl

  raise_goes : (next literals : ℕ) (v u : Value) (st : State) → IsPointer v → IsPointer u → slice_get st.objects own ≡ Some (pointing v) → moved v (pos 1) st ≡ Gives u st → does (raised p) deep world (place next literals) st ≡ Gives Next (record st { objects = slice_set st.objects own (pointing u) })
  unfolding ◌>>=◌ after give undefined unless choose objects_now with_objects read_cell load store write_cell put_cell used of_word sum operated combined pointer_sum pointer_to value_at pointed_value assigned place_named value_named unary_value assignment
  raise_goes next literals v u st k l o e = rw (o, k.kind, k.uses, e, l.uses, o, k.kind, o, l.same) refl

  -- a character is written for a unit, and the parameter points to the next one
  pub turn_goes : (next literals : ℕ) (v u : Value) (w n spare : ℕ) (st : State) → IsPointer v → IsPointer u → slice_get st.objects own ≡ Some (pointing v) → cell_at st.objects v ≡ Some (Holds (Word w)) → ((left spare : ℕ) (output : List ℕ) → moved v (pos 1) (record st { left = left; spare = spare; output = output }) ≡ Gives u (record st { left = left; spare = spare; output = output }))
      → does string_turn deep world (place next literals) (record st { left = suc n; spare = spare }) ≡ Gives Next (record st { left = n; spare = ration; output = st.output ++ w % 2 ^ 8 ∷ []; objects = slice_set st.objects own (pointing u) })
  unfolding give
  turn_goes next literals v u w n spare st k l o cell moves =
      within_none (λ j. all_do (stmts (spend_unit ∷ put_piece next_character ∷ raised p ∷ [])) deep world (in_block j (place next literals))) _ _ Next inside (length-set st.objects own (pointing u))
    where
      first : ℕ
      first = length st.objects

      second : ℕ
      second = (behind spend_unit (place first literals)).literals_before

      third : ℕ
      third = (behind (put_piece next_character) (place first second)).literals_before

      inside : all_do (stmts (spend_unit ∷ put_piece next_character ∷ raised p ∷ [])) deep world (place first literals) (record st { left = suc n; spare = spare }) ≡ Gives Next (record st { left = n; spare = ration; output = st.output ++ w % 2 ^ 8 ∷ []; objects = slice_set st.objects own (pointing u) })
      inside =
          do_next spend_unit (stmts (put_piece next_character ∷ raised p ∷ [])) deep world (place first literals) _ _ (unit_goes first literals n (record st { spare = spare }))
          ∙ (do_next (put_piece next_character) (stmts (raised p ∷ [])) deep world (place first second) _ _ (piece_goes first second v w (record st { left = n; spare = spare }) k o cell)
          ∙ do_next (raised p) (stmts []) deep world (place first third) _ _ (raise_goes first third v u (record st { left = n; spare = ration; output = st.output ++ w % 2 ^ 8 ∷ [] }) k l o (moves n ration (st.output ++ w % 2 ^ 8 ∷ []))))

  -- ---- where no character can be read

  pub test_fails : (next literals : ℕ) (v : Value) (c : Option Cell) (st : State) → IsPointer v → slice_get st.objects own ≡ Some (pointing v) → cell_at st.objects v ≡ c → IsNoCharacter c → Fails st.taken st.output (condition next_character world (place next literals) st)
  unfolding ◌>>=◌ after give undefined unless choose objects_now read_cell load used of_word pointer_to value_at pointed_value place_named value_named unary_value cast_value condition
  test_fails next literals v None st k o cell blank = rw (o, k.kind, k.uses, k.uses, cell) (refl, refl)
  test_fails next literals v (Some Unset) st k o cell blank = rw (o, k.kind, k.uses, k.uses, cell) (refl, refl)
  test_fails next literals v (Some (Holds (Word w))) st k o cell blank = absurd blank
  test_fails next literals v (Some (Holds Null)) st k o cell blank = rw (o, k.kind, k.uses, k.uses, cell) (refl, refl)
  test_fails next literals v (Some (Holds (Point a b))) st k o cell blank = rw (o, k.kind, k.uses, k.uses, cell) (refl, refl)
  test_fails next literals v (Some (Holds (Letter f i text b))) st k o cell blank = rw (o, k.kind, k.uses, k.uses, cell) (refl, refl)
  test_fails next literals v (Some (Holds (Function f))) st k o cell blank = rw (o, k.kind, k.uses, k.uses, cell) (refl, refl)
  test_fails next literals v (Some (Holds Missing)) st k o cell blank = rw (o, k.kind, k.uses, k.uses, cell) (refl, refl)

  -- the parameter holds no pointer
  pub other_fails : (next literals : ℕ) (v : Value) (st : State) → slice_get st.objects own ≡ Some (pointing v) → is_of ObjectPointer v ≡ false → Fails st.taken st.output (condition next_character world (place next literals) st)
  unfolding ◌>>=◌ after give undefined unless choose objects_now read_cell load used of_word pointer_to value_at pointed_value place_named value_named unary_value cast_value condition
  other_fails next literals v st o kind = rw (o, kind) (refl, refl)
