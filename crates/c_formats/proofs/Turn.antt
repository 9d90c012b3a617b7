-- A turn of the function of strings writes a character.
use Rattle.std.proofs.Common.{◌≡◌, ℕ, zero, suc, ◌+◌, ◌%◌, ◌^◌, List, [], ◌∷◌, ◌++◌, Option, Some, Bool, true, false, refl, sym, subst}
use Rattle.std.specs.Prelude.{pos, not, ◌==◌, if◌then◌else◌}
use Rattle.std.specs.Str.{bytes_eq}
use Rattle.std.proofs.lemmas.Slice.Eq.{bytes_eq-Decides}
use Rattle.c_syntax.specs.Plain.{CExpr, CStmt}
use Rattle.c_types.specs.Types as type
use Rattle.c_types.specs.Types.{Tags}
use Rattle.c_types.specs.Scope as entity
use Rattle.c_types.specs.Scope.{Names}
use Rattle.c_eval.specs.State.{Value, Word, Null, Point, Letter, Function, Missing, Holds, Object, State, Run}
use Rattle.c_eval.specs.Run.{unless, give, put, paid, ◌>>=◌, after, objects_now}
use Rattle.c_eval.specs.Memory.{cell_at, read_cell, load, is_within, extent_of, moved}
use Rattle.c_eval.specs.Operators.{used, of_word, sum, operated, pointer_sum, pointer_to, value_at, pointed_value}
use Rattle.c_eval.specs.Environment.{Environment}
use Rattle.c_eval.specs.Eval.{Flow, Next}
use Rattle.c_eval.specs.Text.{Text}
use Rattle.c_eval.specs.Helpers.{Helpers, refill, known_or, helper_calls}
use Rattle.c_helpers.specs.Terms.{variable, pointed, block}
use Rattle.c_helpers.specs.Functions.{p, unit_name, piece_name, spend_unit, put_piece, raised}
use Rattle.c_helpers.specs.Meanings.{Action, of_one, piece_put}
use Rattle.c_syntax.specs.Plain as plain
use Rattle.c_apart.proofs.Apart.{Done, Paused, Stuck, Part, p_after, p_bind, p_give, p_stuck, p_choose, p_run, p_unit, p_given, p_outer, p_named, p_read, p_load, p_put, p_write, p_store, p_own_value, p_assigned, p_variable, p_used, p_unary, p_operated, p_combined, p_cast, p_assignment, p_call, p_condition, p_go_on, p_within, p_enter, p_leave, p_value, p_does}
use Rattle.c_apart.proofs.Splitting.{Split, itself, stuck_splits, unit_splits, give_splits}
use Rattle.c_formats.specs.StringsLaws.{KnowsUnit, KnowsPiece, Known}

-- ---- what helper functions alone call

unfoldable pub p_piece : ℕ → List Value → Part Value
p_piece ration (Word c ∷ []) st own = Done Missing (record st { spare = ration; output = st.output ++ c % 2 ^ 8 ∷ [] }) own
p_piece ration _ st own = Stuck

unfoldable pub p_known : ℕ → ℕ → List ℕ → List Value → Part Value
p_known ration zero name vs = p_stuck
p_known ration (suc deep) name vs = if bytes_eq name unit_name then p_unit (p_give Missing) else if bytes_eq name piece_name then p_piece ration vs else p_stuck

known_call : (n : ℕ) (o : Option Action) (f : Action) (vs : List Value) (m : Run Value) (s : Part Value) → o ≡ Some f → Split n itself s (f vs) → Split n itself s (known_or o vs m)
unfolding known_or
known_call n o f vs m s e h = subst (λ z. Split n itself s (known_or z vs m)) (sym e) h

module _ (h : Helpers) (t : Text) (input : List ℕ) (known : Known h) where
  unit_call : (deep n : ℕ) (vs : List Value) → Split n itself (p_unit (p_give Missing)) (helper_calls (suc deep) h t input unit_name vs)
  unfolding helper_calls
  unit_call deep n vs = known_call n (h.known unit_name) (λ vs. paid false (give Missing)) vs _ (p_unit (p_give Missing)) (known unit_name) (unit_splits (give_splits n itself Missing))

  piece_splits : (n : ℕ) (vs : List Value) → Split n itself (p_piece h.ration vs) (of_one (piece_put h.ration) vs)
  unfolding p_piece of_one piece_put refill of_word put give ◌>>=◌ after
  piece_splits n (Word c ∷ []) = record { follows = λ st own l. (refl, l) }
  piece_splits n [] = record { follows = λ st own l. tt }
  piece_splits n (Word c ∷ y ∷ vs) = record { follows = λ st own l. tt }
  piece_splits n (Null ∷ vs) = record { follows = λ st own l. tt }
  piece_splits n (Point o k ∷ vs) = record { follows = λ st own l. tt }
  piece_splits n (Letter f i text k ∷ vs) = record { follows = λ st own l. tt }
  piece_splits n (Function f ∷ vs) = record { follows = λ st own l. tt }
  piece_splits n (Missing ∷ vs) = record { follows = λ st own l. tt }

  piece_call : (deep n : ℕ) (vs : List Value) → Split n itself (p_piece h.ration vs) (helper_calls (suc deep) h t input piece_name vs)
  unfolding helper_calls
  piece_call deep n vs = known_call n (h.known piece_name) (of_one (piece_put h.ration)) vs _ (p_piece h.ration vs) (known piece_name) (piece_splits n vs)

  pub known_splits : (deep n : ℕ) (name : List ℕ) (vs : List Value) → Split n itself (p_known h.ration deep name vs) (helper_calls deep h t input name vs)
  unfolding p_known
  known_splits zero n name vs = stuck_splits
  known_splits (suc deep) n name vs = first (bytes_eq name unit_name) refl
    where
      second : (b : Bool) → bytes_eq name piece_name ≡ b → Split n itself (if b then p_piece h.ration vs else p_stuck) (helper_calls (suc deep) h t input name vs)
      second true e = subst (λ z. Split n itself (p_piece h.ration vs) (helper_calls (suc deep) h t input z vs)) (sym ((bytes_eq-Decides name piece_name).0 e)) (piece_call deep n vs)
      second false e = stuck_splits

      first : (b : Bool) → bytes_eq name unit_name ≡ b → Split n itself (if b then p_unit (p_give Missing) else if bytes_eq name piece_name then p_piece h.ration vs else p_stuck) (helper_calls (suc deep) h t input name vs)
      first true e = subst (λ z. Split n itself (p_unit (p_give Missing)) (helper_calls (suc deep) h t input z vs)) (sym ((bytes_eq-Decides name unit_name).0 e)) (unit_call deep n vs)
      first false e = second (bytes_eq name piece_name) refl

-- ---- a turn

-- the parameter, which points to the next character
abbrev pub pointing : Bool → Value → List Object
pointing live v = record { live = live; cells = Holds v ∷ [] } ∷ []

-- the place of the loop
abbrev pub here : Tags → Names → List (List ℕ) → Environment
here tags names defined = record {
  scope = record { tags = tags; block = []; outer = (p, entity.Object (type.Pointer type.Char)) ∷ names; defined = defined };
  objects = (p, Some 0) ∷ [];
  next = 1;
  literals_before = 0;
}

abbrev pub next_character : CExpr
next_character = pointed plain.Char (variable p)

abbrev pub string_turn : CStmt
string_turn = block (spend_unit ∷ put_piece next_character ∷ raised p ∷ [])

module _ (tags : Tags) (names : Names) (defined : List (List ℕ)) (deep ration : ℕ) (unit : KnowsUnit names) (piece : KnowsPiece names) where
  abbrev pub calls : List ℕ → List Value → Part Value
  calls = p_known ration (suc deep)

  abbrev pub test : Part Bool
  test = p_condition (p_value next_character calls (here tags names defined))

  abbrev pub body : Part Flow
  body = p_does string_turn (suc deep) calls (here tags names defined)

  pub point_test : (o k w : ℕ) (b : Bool) (st : State) → cell_at st.objects (Point o k) ≡ Some (Holds (Word w)) → not (w == 0) ≡ b → test st (pointing true (Point o k)) ≡ Done b st (pointing true (Point o k))
  unfolding p_after p_bind p_give p_choose p_given p_outer p_named p_read p_load p_own_value p_variable p_used p_unary p_cast p_condition used give unless pointer_to value_at pointed_value load read_cell objects_now ◌>>=◌ after
  point_test o k w b st cell e = rw (cell, e) refl

  pub point_turn : (o k w n s : ℕ) (st : State) → cell_at st.objects (Point o k) ≡ Some (Holds (Word w)) → is_within (pos (k + 1)) (extent_of st.objects (Point o k)) ≡ true
      → body (record st { left = suc n; spare = s }) (pointing true (Point o k)) ≡ Done Next (record st { left = n; spare = ration; output = st.output ++ w % 2 ^ 8 ∷ [] }) (pointing true (Point o (k + 1)))
  unfolding p_known p_piece p_after p_bind p_give p_stuck p_choose p_run p_unit p_given p_outer p_named p_read p_load p_put p_write p_store p_own_value p_assigned p_variable p_used p_unary p_operated p_combined p_cast p_assignment p_call p_go_on p_within p_enter p_leave used give unless of_word sum operated pointer_sum moved pointer_to value_at pointed_value load read_cell objects_now ◌>>=◌ after
  point_turn o k w n s st cell inside = rw (unit.1, piece.1, cell, inside) refl

  pub point_pause : (o k s : ℕ) (st : State) → body (record st { left = 0; spare = s }) (pointing true (Point o k)) ≡ Paused (record st { left = 0; spare = s }) (pointing true (Point o k))
  unfolding p_known p_after p_bind p_give p_stuck p_choose p_run p_unit p_call p_go_on p_within p_enter
  point_pause o k s st = rw unit.1 refl

  pub letter_test : (f : Option (List ℕ)) (j : ℕ) (text : List ℕ) (k w : ℕ) (b : Bool) (st : State) → cell_at st.objects (Letter f j text k) ≡ Some (Holds (Word w)) → not (w == 0) ≡ b → test st (pointing true (Letter f j text k)) ≡ Done b st (pointing true (Letter f j text k))
  unfolding p_after p_bind p_give p_choose p_given p_outer p_named p_read p_load p_own_value p_variable p_used p_unary p_cast p_condition used give unless pointer_to value_at pointed_value load read_cell objects_now ◌>>=◌ after
  letter_test f j text k w b st cell e = rw (cell, e) refl

  pub letter_turn : (f : Option (List ℕ)) (j : ℕ) (text : List ℕ) (k w n s : ℕ) (st : State) → cell_at st.objects (Letter f j text k) ≡ Some (Holds (Word w)) → is_within (pos (k + 1)) (extent_of st.objects (Letter f j text k)) ≡ true
      → body (record st { left = suc n; spare = s }) (pointing true (Letter f j text k)) ≡ Done Next (record st { left = n; spare = ration; output = st.output ++ w % 2 ^ 8 ∷ [] }) (pointing true (Letter f j text (k + 1)))
  unfolding p_known p_piece p_after p_bind p_give p_stuck p_choose p_run p_unit p_given p_outer p_named p_read p_load p_put p_write p_store p_own_value p_assigned p_variable p_used p_unary p_operated p_combined p_cast p_assignment p_call p_go_on p_within p_enter p_leave used give unless of_word sum operated pointer_sum moved pointer_to value_at pointed_value load read_cell objects_now ◌>>=◌ after
  letter_turn f j text k w n s st cell inside = rw (unit.1, piece.1, cell, inside) refl

  pub letter_pause : (f : Option (List ℕ)) (j : ℕ) (text : List ℕ) (k s : ℕ) (st : State) → body (record st { left = 0; spare = s }) (pointing true (Letter f j text k)) ≡ Paused (record st { left = 0; spare = s }) (pointing true (Letter f j text k))
  unfolding p_known p_after p_bind p_give p_stuck p_choose p_run p_unit p_call p_go_on p_within p_enter
  letter_pause f j text k s st = rw unit.1 refl
