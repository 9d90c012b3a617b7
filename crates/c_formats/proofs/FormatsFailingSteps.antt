-- What each piece of a format's function does, over all objects.
use Rattle.std.proofs.Common.{◌≡◌, ℕ, suc, ◌%◌, ◌^◌, List, [], ◌∷◌, ◌++◌, Option, Some, None, true, false, slice_get, refl}
use Rattle.c_syntax.specs.Plain.{CStmt}
use Rattle.c_syntax.specs.Words.{meaning}
use Rattle.c_types.specs.Types as type
use Rattle.c_types.specs.Types.{Tags}
use Rattle.c_types.specs.Scope as entity
use Rattle.c_types.specs.Scope.{Names}
use Rattle.c_eval.specs.State.{Value, Word, Missing, State, Gives, Run}
use Rattle.c_eval.specs.Run.{◌>>=◌, after, give, undefined, unless, paid, spend, put, objects_now}
use Rattle.c_eval.specs.Memory.{Number, ObjectPointer, is_of, read_cell, load}
use Rattle.c_eval.specs.Operators.{used, of_word, pointer_to, value_at}
use Rattle.c_eval.specs.Environment.{Environment}
use Rattle.c_eval.specs.Eval.{World, place_named, value_named, call, Next, does}
use Rattle.c_eval.specs.Helpers as helpers
use Rattle.c_helpers.specs.Terms.{number, variable}
use Rattle.c_helpers.specs.Functions.{Helper, unit_name, refill_name, piece_name, spend_unit, refill, put_piece, call_of}
use Rattle.c_helpers.specs.Meanings.{piece_put}
use Rattle.c_products.specs.MovesFound.{KnowsOf}
use Rattle.c_formats.specs.DigitsLaws.{unsigned_parameter, int_parameter}
use Rattle.c_formats.specs.StringsLaws.{string_parameter, KnowsUnit, KnowsPiece}
use Rattle.c_formats.specs.Laws.{KnowsRefill}
use Rattle.c_failing.specs.Failing.{Fails}
use Rattle.c_formats.proofs.FormatsFailingTurn.{IsPointer, pointing}

module _ (tags : Tags) (outer : Names) (defined : List (List ℕ)) (objects : List (List ℕ × Option ℕ)) (next : ℕ) (input : List ℕ) (owner : Option (List ℕ)) (calls : List ℕ → List Value → Run Value) (deep : ℕ) where
  abbrev pub world : World
  world = record { input = input; owner = owner; calls = calls; inner = true }

  -- behind so many literals of the function's block
  abbrev pub place : ℕ → Environment
  place literals = record {
    scope = record { tags = tags; block = []; outer = outer; defined = defined };
    objects = objects;
    next = next;
    literals_before = literals;
  }

  pub unit_goes : KnowsUnit outer → calls unit_name [] ≡ paid false (give Missing) → (l n : ℕ) (st : State) → does spend_unit deep world (place l) (record st { left = suc n }) ≡ Gives Next (record st { left = n })
  unfolding ◌>>=◌ after give paid spend call
  unit_goes known is l n st = rw (known.1, is) refl

  pub refill_goes : KnowsRefill outer → (ration : ℕ) → calls refill_name [] ≡ (helpers.refill ration >>= λ _. give Missing) → (l : ℕ) (st : State) → does refill deep world (place l) st ≡ Gives Next (record st { spare = ration })
  unfolding ◌>>=◌ after give helpers.refill call
  refill_goes known ration is l st = rw (known.1, is) refl

  pub character_goes : KnowsPiece outer → (ration : ℕ) → ((c : ℕ) → calls piece_name (Word c ∷ []) ≡ piece_put ration (Word c)) → (c l : ℕ) (st : State) → does (put_piece (number c)) deep world (place l) st ≡ Gives Next (record st { spare = ration; output = st.output ++ c % 2 ^ 24 % 2 ^ 8 ∷ [] })
  unfolding ◌>>=◌ after give used of_word put helpers.refill piece_put call
  character_goes known ration is c l st = rw (known.1, is (c % 2 ^ 24)) refl

  -- a call with an argument of the format's function
  module _ (g : Helper) (name : List ℕ) (l : ℕ) (st : State) where
    abbrev passing : CStmt
    passing = call_of g.name (variable name ∷ [])

    abbrev Passes : Value → Type 0
    Passes v = does passing deep world (place l) st ≡ after (calls g.name (v ∷ []) st) (λ _. give Next)

    abbrev Stops : Type 0
    Stops = Fails st.taken st.output (does passing deep world (place l) st)

    module _ (j : ℕ) (v : Value) (found : meaning objects name ≡ Some (Some j)) (cell : slice_get st.objects j ≡ Some (pointing v)) where
      pub int_passes : KnowsOf outer type.Void int_parameter g → meaning outer name ≡ Some (entity.Object type.Int) → (x : ℕ) → v ≡ Word x → Passes (Word x)
      unfolding ◌>>=◌ after give unless objects_now read_cell load used pointer_to value_at place_named value_named call
      int_passes known is x e = rw (known.1, is, found, cell, e) refl

      pub unsigned_passes : KnowsOf outer type.Void unsigned_parameter g → meaning outer name ≡ Some (entity.Object type.Unsigned) → (x : ℕ) → v ≡ Word x → Passes (Word x)
      unfolding ◌>>=◌ after give unless objects_now read_cell load used pointer_to value_at place_named value_named call
      unsigned_passes known is x e = rw (known.1, is, found, cell, e) refl

      pub pointer_passes : KnowsOf outer type.Void string_parameter g → meaning outer name ≡ Some (entity.Object (type.Pointer type.Char)) → IsPointer v → Passes v
      unfolding ◌>>=◌ after give unless objects_now read_cell load used pointer_to value_at place_named value_named call
      pointer_passes known is k = rw (known.1, is, found, cell, k.kind, k.uses, k.same) refl

      pub int_stops : KnowsOf outer type.Void int_parameter g → meaning outer name ≡ Some (entity.Object type.Int) → is_of Number v ≡ false → Stops
      unfolding ◌>>=◌ after give undefined unless objects_now read_cell load used pointer_to value_at place_named value_named call
      int_stops known is kind = rw (known.1, is, found, cell, kind) (refl, refl)

      pub unsigned_stops : KnowsOf outer type.Void unsigned_parameter g → meaning outer name ≡ Some (entity.Object type.Unsigned) → is_of Number v ≡ false → Stops
      unfolding ◌>>=◌ after give undefined unless objects_now read_cell load used pointer_to value_at place_named value_named call
      unsigned_stops known is kind = rw (known.1, is, found, cell, kind) (refl, refl)

      pub pointer_stops : KnowsOf outer type.Void string_parameter g → meaning outer name ≡ Some (entity.Object (type.Pointer type.Char)) → is_of ObjectPointer v ≡ false → Stops
      unfolding ◌>>=◌ after give undefined unless objects_now read_cell load used pointer_to value_at place_named value_named call
      pointer_stops known is kind = rw (known.1, is, found, cell, kind) (refl, refl)

    -- an argument that is missing
    module _ (found : meaning objects name ≡ Some None) where
      pub int_lacks : KnowsOf outer type.Void int_parameter g → meaning outer name ≡ Some (entity.Object type.Int) → Stops
      unfolding ◌>>=◌ after give undefined place_named value_named call
      int_lacks known is = rw (known.1, is, found) (refl, refl)

      pub unsigned_lacks : KnowsOf outer type.Void unsigned_parameter g → meaning outer name ≡ Some (entity.Object type.Unsigned) → Stops
      unfolding ◌>>=◌ after give undefined place_named value_named call
      unsigned_lacks known is = rw (known.1, is, found) (refl, refl)

      pub pointer_lacks : KnowsOf outer type.Void string_parameter g → meaning outer name ≡ Some (entity.Object (type.Pointer type.Char)) → Stops
      unfolding ◌>>=◌ after give undefined place_named value_named call
      pointer_lacks known is = rw (known.1, is, found) (refl, refl)
