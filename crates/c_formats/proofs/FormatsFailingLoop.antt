-- The loop of the function of strings is undefined where the string is.
use Rattle.std.proofs.Common.{◌≡◌, ℕ, zero, suc, ◌%◌, ◌^◌, ◌<◌, List, [], ◌∷◌, ◌++◌, length, drop, Option, Some, None, Bool, true, false, slice_get, slice_set, refl, sym, ap, ◌∙◌, subst, arith}
use Rattle.std.specs.Prelude.{pos, not}
use Rattle.std.proofs.lemmas.Bool.{ne_eqb}
use Rattle.c_types.specs.Types.{Tags}
use Rattle.c_types.specs.Scope.{Names}
use Rattle.c_eval.specs.State.{Value, Word, Null, Point, Letter, Function, Missing, Cell, Unset, Holds, Object, State, Gives, Run}
use Rattle.c_eval.specs.Run.{◌>>=◌, after, give, undefined, choose, paid, spend, spend_spare, put}
use Rattle.c_eval.specs.Memory.{cell_at, moved}
use Rattle.c_eval.specs.BuiltIns.{put_string}
use Rattle.c_eval.specs.Eval.{Flow, Next, turned, loop, condition, does}
use Rattle.c_helpers.specs.Functions.{unit_name, piece_name}
use Rattle.c_helpers.specs.Meanings.{piece_put}
use Rattle.c_formats.specs.StringsLaws.{KnowsUnit, KnowsPiece}
use Rattle.c_formats.proofs.Turn.{next_character, string_turn}
use Rattle.c_formats.proofs.Loop.{first_cell, more_cells, below_length}
use Rattle.c_failing.specs.Failing.{Fails, FailsAs}
use Rattle.c_failing.proofs.Lists.{set_same, none_from}
use Rattle.c_failing.proofs.Parts.{fails_then}
use Rattle.c_formats.proofs.FormatsFailingTurn.{IsPointer, IsNoCharacter, here, pointing, world, test_is, turn_goes, test_fails}

pub loop_on : (d : ℕ) (test : Run Bool) (body : Run Flow) (st st1 : State) (k : ℕ) → test st ≡ Gives true st → st.spare ≡ suc k → body (record st { spare = k }) ≡ Gives Next st1 → loop true (suc d) test (give tt) body st ≡ loop true d test (give tt) body st1
unfolding loop ◌>>=◌ after give choose paid spend_spare turned
loop_on d test body st st1 k e f g =
    ap (λ z. after z (λ b. choose b (paid true (body >>= λ flow. turned flow (give tt >>= λ (x : Unit {0}). loop true d test (give tt) body))) (give Next))) e
    ∙ (ap (λ z. spend_spare (body >>= λ flow. turned flow (give tt >>= λ (x : Unit {0}). loop true d test (give tt) body)) z st) f ∙ ap (λ z. after z (λ flow. turned flow (give tt >>= λ (x : Unit {0}). loop true d test (give tt) body))) g)

pub loop_fails_at : (taken : ℕ) (output : List ℕ) (d : ℕ) (test : Run Bool) (body : Run Flow) (st : State) → Fails taken output (test st) → Fails taken output (loop true (suc d) test (give tt) body st)
unfolding loop
loop_fails_at taken output d test body st h = fails_then taken output test _ st h

module _ (tags : Tags) (names : Names) (defined : List (List ℕ)) (unit : KnowsUnit names) (piece : KnowsPiece names) (input : List ℕ) (owner : Option (List ℕ)) (calls : List ℕ → List Value → Run Value) (ration : ℕ) (unit_is : calls unit_name [] ≡ paid false (give Missing)) (piece_is : (c : ℕ) → calls piece_name (Word c ∷ []) ≡ piece_put ration (Word c)) (deep own next : ℕ) (some : 0 < ration)
    (at : ℕ → Value) (cells : List Cell) (pointer : (k : ℕ) → IsPointer (at k)) (Reads : List Object → Type 0)
    (cell : (k : ℕ) (os : List Object) → Reads os → cell_at os (at k) ≡ slice_get cells k)
    (moves : (k : ℕ) (st : State) → Reads st.objects → k < length cells → moved (at k) (pos 1) st ≡ Gives (at (suc k)) st)
    (kept : (os : List Object) (x : Object) → Reads os → Reads (slice_set os own x)) where
  abbrev test : Run Bool
  test = condition next_character (world tags names defined unit piece input owner calls ration unit_is piece_is deep own) (here tags names defined own next 0)

  abbrev body : Run Flow
  body = does string_turn deep (world tags names defined unit piece input owner calls ration unit_is piece_is deep own) (here tags names defined own next 0)

  -- a moment of the loop, from one of the string alone
  abbrev moment : (left spare words : ℕ) (os : List Object) → State → State
  moment left spare words os st = record st { left = left; spare = spare; words = words; objects = os }

  at_once : (k d left spare words : ℕ) (os : List Object) (st : State) (c : Option Cell) → slice_get os own ≡ Some (pointing (at k)) → Reads os → slice_get cells k ≡ c → IsNoCharacter c → Fails st.taken st.output (loop true (suc d) test (give tt) body (moment left spare words os st))
  at_once k d left spare words os st c o reads e blank =
      loop_fails_at st.taken st.output d test body (moment left spare words os st)
      (test_fails tags names defined unit piece input owner calls ration unit_is piece_is deep own next 0 (at k) c (moment left spare words os st) (pointer k) o (cell k os reads ∙ e) blank)

  pub loop_fails : (cs : List Cell) (k d left spare words : ℕ) (os : List Object) (st : State) → drop k cells ≡ cs → slice_get os own ≡ Some (pointing (at k)) → Reads os → left < d → 0 < spare
      → FailsAs (put_string false cs (record st { left = left })) (loop true d test (give tt) body (moment left spare words os st))
  unfolding put_string give undefined paid spend put ◌>>=◌ after
  loop_fails cs k zero left spare words os st e o reads lt more = absurd (omega (arith, lt))
  loop_fails [] k (suc d) left spare words os st e o reads lt more = at_once k d left spare words os st None o reads (none_from cells k e) tt
  loop_fails (Unset ∷ cs) k (suc d) left spare words os st e o reads lt more = at_once k d left spare words os st (Some Unset) o reads (first_cell cells k Unset cs e) tt
  loop_fails (Holds Null ∷ cs) k (suc d) left spare words os st e o reads lt more = at_once k d left spare words os st (Some (Holds Null)) o reads (first_cell cells k (Holds Null) cs e) tt
  loop_fails (Holds (Point a i) ∷ cs) k (suc d) left spare words os st e o reads lt more = at_once k d left spare words os st (Some (Holds (Point a i))) o reads (first_cell cells k (Holds (Point a i)) cs e) tt
  loop_fails (Holds (Letter f j text i) ∷ cs) k (suc d) left spare words os st e o reads lt more = at_once k d left spare words os st (Some (Holds (Letter f j text i))) o reads (first_cell cells k (Holds (Letter f j text i)) cs e) tt
  loop_fails (Holds (Function f) ∷ cs) k (suc d) left spare words os st e o reads lt more = at_once k d left spare words os st (Some (Holds (Function f))) o reads (first_cell cells k (Holds (Function f)) cs e) tt
  loop_fails (Holds Missing ∷ cs) k (suc d) left spare words os st e o reads lt more = at_once k d left spare words os st (Some (Holds Missing)) o reads (first_cell cells k (Holds Missing) cs e) tt
  loop_fails (Holds (Word zero) ∷ cs) k (suc d) left spare words os st e o reads lt more = tt
  loop_fails (Holds (Word (suc c)) ∷ cs) k (suc d) zero spare words os st e o reads lt more = tt
  loop_fails (Holds (Word (suc c)) ∷ cs) k (suc d) (suc left) zero words os st e o reads lt more = absurd (omega (arith, more))
  loop_fails (Holds (Word (suc c)) ∷ cs) k (suc d) (suc left) (suc spare) words os st e o reads lt more =
      let is : slice_get cells k ≡ Some (Holds (Word (suc c))) = first_cell cells k (Holds (Word (suc c))) cs e in
      let written : List ℕ = st.output ++ suc c % 2 ^ 8 ∷ [] in
      let after_it : List Object = slice_set os own (pointing (at (suc k))) in
      subst (λ z. FailsAs (put_string false cs (record st { left = left; output = written })) z)
      (sym (loop_on d test body (moment (suc left) (suc spare) words os st) (moment left ration words after_it (record st { output = written })) spare
      (test_is tags names defined unit piece input owner calls ration unit_is piece_is deep own next 0 (at k) (suc c) true (moment (suc left) (suc spare) words os st) (pointer k) o (cell k os reads ∙ is) (ap not (ne_eqb (suc c) 0 (λ z. absurd (omega (arith, z)))))) refl
      (turn_goes tags names defined unit piece input owner calls ration unit_is piece_is deep own next 0 (at k) (at (suc k)) (suc c) left spare (record st { words = words; objects = os }) (pointer k) (pointer (suc k)) o (cell k os reads ∙ is)
      (λ left spare output. moves k (moment left spare words os (record st { output = output })) reads (below_length cells k (Holds (Word (suc c))) cs e)))))
      (loop_fails cs (suc k) d left ration words after_it (record st { output = written }) (more_cells cells k (Holds (Word (suc c))) cs e) (set_same os own (pointing (at k)) (pointing (at (suc k))) o) (kept os (pointing (at (suc k))) reads) (omega (arith, lt)) some)
