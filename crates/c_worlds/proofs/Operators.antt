-- Operators and built-in functions give no pointer to a function that isn't named.
use Rattle.std.proofs.Common.{ℕ, zero, suc, List, [], ◌∷◌, Option, Some, None, Bool, true, false}
use Rattle.std.specs.Prelude.{not, ◌-◌, ◌^◌, ◌&&◌, ◌||◌, ◌==◌, if◌then◌else◌, codes}
use Rattle.std.specs.Str.{bytes_eq}
use Rattle.c_syntax.specs.declared.tree.UnOp.{UnOp}
use Rattle.c_syntax.specs.declared.tree.BinOp.{BinOp}
use Rattle.c_syntax.specs.declared.tree.BinOp.TheVariants as binary
use Rattle.c_types.specs.Types as type
use Rattle.c_types.specs.Types.{CType, CTypes, NoType, MoreType, is_pointer, is_null, Tags}
use Rattle.c_types.specs.Constants as constant
use Rattle.c_types.specs.Constants.{Constant}
use Rattle.c_eval.specs.State.{Value, Word, Null, Point, Letter, Function, Missing, Cell, Unset, Holds, ZeroDivisor, OutsideObject, OtherKind, UnsetCell, ShiftCount, NoResult, HelperLimit, Run}
use Rattle.c_eval.specs.Run.{put_all}
use Rattle.c_eval.specs.Memory.{kind_of, cells_at, offset_of}
use Rattle.c_eval.specs.Operators.{used, of_word, as_pointer, converted, all_converted, word_act, word_result, on_words, pointer_sum, pointer_less, sum, difference, compared_kind, equality, order, operated, on_word, pointer_to, value_at, pointed_value, assigned, updated}
use Rattle.c_eval.specs.BuiltIns.{put_string, put_string_at, cells_from, convert, with_argument, put_format, printf, character, with_one, built_in}
use Rattle.c_worlds.specs.Named.{IsNamed, AreNamed}
use Rattle.c_worlds.proofs.Parts.{Any, Goes, bind_goes, give_goes, undefined_goes, exit_goes, if_goes, paid_goes, put_goes, next_byte_goes, objects_now_goes, load_goes, store_goes, moved_goes, equal_pointers_goes, pointer_before_goes, pointer_difference_goes}

module _ (P : List ℕ → Type 0) (limit : ℕ) where
  abbrev N : Value → Type 0
  N = IsNamed P

  -- a part that does what it does, and keeps what is named
  abbrev Still : {A : Type 0} → (A → Type 0) → Run A → Type 0
  Still G m = Goes P limit G m m

  -- ---- values

  as_pointer_named : (v : Value) → N v → N (as_pointer v)
  as_pointer_named (Word n) a = by_zero (n == 0)
    where
      by_zero : (b : Bool) → N (if b then Null else Word n)
      by_zero true = tt
      by_zero false = tt
  as_pointer_named Null a = tt
  as_pointer_named (Point o k) a = tt
  as_pointer_named (Letter f i text k) a = tt
  as_pointer_named (Function f) a = a
  as_pointer_named Missing a = tt

  pub converted_named : (t : CType) (v : Value) → N v → N (converted t v)
  converted_named t v a = by_type (is_pointer t || is_null t)
    where
      by_type : (b : Bool) → N (if b then as_pointer v else v)
      by_type true = as_pointer_named v a
      by_type false = a

  pub all_converted_named : (ts : CTypes) (vs : List Value) → AreNamed P vs → AreNamed P (all_converted ts vs)
  all_converted_named NoType vs a = a
  all_converted_named (MoreType t ts) [] a = tt
  all_converted_named (MoreType t ts) (v ∷ vs) a = (converted_named t v a.0, all_converted_named ts vs a.1)

  pub used_goes : (v : Value) → N v → Still N (used v)
  unfolding used
  used_goes Missing a = undefined_goes P limit NoResult
  used_goes (Word n) a = give_goes P limit (Word n) tt
  used_goes Null a = give_goes P limit Null tt
  used_goes (Point o k) a = give_goes P limit (Point o k) tt
  used_goes (Letter f i text k) a = give_goes P limit (Letter f i text k) tt
  used_goes (Function f) a = give_goes P limit (Function f) a

  pub of_word_goes : {A : Type 0} {G : A → Type 0} (v : Value) {f g : ℕ → Run A} → ((n : ℕ) → Goes P limit G (f n) (g n)) → Goes P limit G (of_word v f) (of_word v g)
  unfolding of_word
  of_word_goes (Word n) t = t n
  of_word_goes Missing t = undefined_goes P limit OtherKind
  of_word_goes Null t = undefined_goes P limit OtherKind
  of_word_goes (Point o k) t = undefined_goes P limit OtherKind
  of_word_goes (Letter f i text k) t = undefined_goes P limit OtherKind
  of_word_goes (Function f) t = undefined_goes P limit OtherKind

  word_act_goes : (op : BinOp) → Still N (word_act op)
  unfolding word_act
  word_act_goes binary.Div = undefined_goes P limit ZeroDivisor
  word_act_goes binary.Mod = undefined_goes P limit ZeroDivisor
  word_act_goes binary.Shl = undefined_goes P limit ShiftCount
  word_act_goes binary.Shr = undefined_goes P limit ShiftCount
  word_act_goes op = undefined_goes P limit OtherKind

  word_result_goes : (op : BinOp) (c : Constant) → Still N (word_result op c)
  unfolding word_result
  word_result_goes op (constant.Value n) = give_goes P limit (Word n) tt
  word_result_goes op (constant.Undefined at) = word_act_goes op
  word_result_goes op constant.NotConstant = undefined_goes P limit OtherKind

  on_words_goes : (op : BinOp) (t u : CType) (x y : Value) → Still N (on_words op t u x y)
  unfolding on_words
  on_words_goes op t u x y = of_word_goes x (λ m. of_word_goes y (λ n. word_result_goes op _))

  pointer_sum_goes : (tags : Tags) (t u : CType) (p y : Value) → N p → Still N (pointer_sum tags t u p y)
  unfolding pointer_sum
  pointer_sum_goes tags t u p y a = of_word_goes y (λ n. moved_goes P limit p _ a)

  pointer_less_goes : (tags : Tags) (t u : CType) (p y : Value) → N p → Still N (pointer_less tags t u p y)
  unfolding pointer_less
  pointer_less_goes tags t u p y a = of_word_goes y (λ n. moved_goes P limit p _ a)

  pub sum_goes : (tags : Tags) (t u : CType) (x y : Value) → N x → N y → Still N (sum tags t u x y)
  unfolding sum
  sum_goes tags t u x y a b = if_goes P limit (is_pointer t) (pointer_sum_goes tags t u x y a) (if_goes P limit (is_pointer u) (pointer_sum_goes tags u t y x b) (on_words_goes binary.Add t u x y))

  difference_goes : (tags : Tags) (t u : CType) (x y : Value) → N x → N y → Still N (difference tags t u x y)
  unfolding difference
  difference_goes tags t u x y a b =
      if_goes P limit (is_pointer t && is_pointer u) (bind_goes P limit (pointer_difference_goes P limit _ x y) (λ z _. give_goes P limit _ tt)) (if_goes P limit (is_pointer t) (pointer_less_goes tags t u x y a) (on_words_goes binary.Sub t u x y))

  equality_goes : (op : BinOp) (t u : CType) (x y : Value) (f : Bool → Bool) → Still N (equality op t u x y f)
  unfolding equality
  equality_goes op t u x y f = if_goes P limit (is_pointer t || is_pointer u || is_null t || is_null u) (bind_goes P limit (equal_pointers_goes P limit (compared_kind t u) (as_pointer x) (as_pointer y)) (λ z _. give_goes P limit _ tt)) (on_words_goes op t u x y)

  order_goes : (op : BinOp) (t u : CType) (x y : Value) {m : Run Bool} (f : Bool → Bool) → Still Any m → Still N (order op t u x y m f)
  unfolding order
  order_goes op t u x y f s = if_goes P limit (is_pointer t) (bind_goes P limit s (λ z _. give_goes P limit _ tt)) (on_words_goes op t u x y)

  pub operated_goes : (tags : Tags) (op : BinOp) (t u : CType) (x y : Value) → N x → N y → Still N (operated tags op t u x y)
  unfolding operated
  operated_goes tags binary.Add t u x y a b = sum_goes tags t u x y a b
  operated_goes tags binary.Sub t u x y a b = difference_goes tags t u x y a b
  operated_goes tags binary.Eq t u x y a b = equality_goes binary.Eq t u x y (λ z. z)
  operated_goes tags binary.Ne t u x y a b = equality_goes binary.Ne t u x y not
  operated_goes tags binary.Lt t u x y a b = order_goes binary.Lt t u x y (λ z. z) (pointer_before_goes P limit x y)
  operated_goes tags binary.Gt t u x y a b = order_goes binary.Gt t u x y (λ z. z) (pointer_before_goes P limit y x)
  operated_goes tags binary.Le t u x y a b = order_goes binary.Le t u x y not (pointer_before_goes P limit y x)
  operated_goes tags binary.Ge t u x y a b = order_goes binary.Ge t u x y not (pointer_before_goes P limit x y)
  operated_goes tags op t u x y a b = on_words_goes op t u x y

  pub on_word_goes : (op : UnOp) (x : Value) → Still N (on_word op x)
  unfolding on_word
  on_word_goes op x = of_word_goes x (λ n. word_result_goes binary.Add _)

  -- ---- places

  pub pointer_to_goes : (inner : Bool) (p : Value) → N p → Still N (pointer_to inner p)
  unfolding pointer_to
  pointer_to_goes false p a = give_goes P limit p a
  pointer_to_goes true p a = undefined_goes P limit HelperLimit

  pub value_at_goes : (inner : Bool) (t : CType) (p : Value) → N p → Still N (value_at inner t p)
  unfolding value_at
  value_at_goes inner (type.Array t n) p a = pointer_to_goes inner p a
  value_at_goes inner (type.Struct tag) p a = give_goes P limit Missing tt
  value_at_goes inner t p a = load_goes P limit (kind_of t) p

  pub pointed_value_goes : (inner : Bool) (t : CType) (p : Value) → N p → Still N (pointed_value inner t p)
  unfolding pointed_value
  pointed_value_goes inner (type.Pointer (type.Function t ts)) p a = give_goes P limit p a
  pointed_value_goes inner (type.Pointer t) p a = value_at_goes inner t p a
  pointed_value_goes inner t p a = undefined_goes P limit OtherKind

  pub assigned_goes : (t : CType) (p v : Value) → N v → Still N (assigned t p v)
  unfolding assigned
  assigned_goes t p v a = store_goes P limit (kind_of t) p _ (converted_named t v a)

  pub updated_goes : (tags : Tags) (op : BinOp) (t u : CType) (p y : Value) → N y → Still N (updated tags op t u p y)
  unfolding updated
  updated_goes tags op t u p y b = bind_goes P limit (load_goes P limit (kind_of t) p) (λ x c. bind_goes P limit (operated_goes tags op t u x y c b) (λ v d. assigned_goes t p v d))

  -- ---- built-in functions

  put_all_goes : (cs : List ℕ) → Still Any (put_all cs)
  unfolding put_all
  put_all_goes [] = give_goes P limit tt tt
  put_all_goes (c ∷ cs) = bind_goes P limit (put_goes P limit c) (λ _ _. put_all_goes cs)

  put_string_goes : (inner : Bool) (cells : List Cell) → Still Any (put_string inner cells)
  unfolding put_string
  put_string_goes inner [] = undefined_goes P limit OutsideObject
  put_string_goes inner (Unset ∷ cells) = undefined_goes P limit UnsetCell
  put_string_goes inner (Holds (Word zero) ∷ cells) = give_goes P limit tt tt
  put_string_goes inner (Holds (Word (suc c)) ∷ cells) = paid_goes P limit inner (bind_goes P limit (put_goes P limit (suc c)) (λ _ _. put_string_goes inner cells))
  put_string_goes inner (Holds Null ∷ cells) = undefined_goes P limit OtherKind
  put_string_goes inner (Holds (Point o k) ∷ cells) = undefined_goes P limit OtherKind
  put_string_goes inner (Holds (Letter f i text k) ∷ cells) = undefined_goes P limit OtherKind
  put_string_goes inner (Holds (Function f) ∷ cells) = undefined_goes P limit OtherKind
  put_string_goes inner (Holds Missing ∷ cells) = undefined_goes P limit OtherKind

  put_string_at_goes : (inner : Bool) (p : Value) → Still Any (put_string_at inner p)
  unfolding put_string_at
  put_string_at_goes inner p = bind_goes P limit (objects_now_goes P limit) (λ os _. put_string_goes inner (cells_from (cells_at os p) (offset_of p)))

  convert_goes : (inner : Bool) (letter : ℕ) (v : Value) → Still Any (convert inner letter v)
  unfolding convert
  convert_goes inner letter v =
      if_goes P limit (letter == 100) (of_word_goes v (λ n. put_all_goes _)) (if_goes P limit (letter == 117) (of_word_goes v (λ n. put_all_goes _))
      (if_goes P limit (letter == 120) (of_word_goes v (λ n. put_all_goes _)) (if_goes P limit (letter == 99) (of_word_goes v (λ n. put_goes P limit n)) (put_string_at_goes inner v))))

  with_argument_goes : (vs : List Value) {f : Value → List Value → Run (Unit {0})} → ((v : Value) (rest : List Value) → Still Any (f v rest)) → Still Any (with_argument vs f)
  unfolding with_argument
  with_argument_goes [] t = undefined_goes P limit OtherKind
  with_argument_goes (v ∷ vs) t = t v vs

  put_format_goes : (inner percent : Bool) (format : List ℕ) (vs : List Value) → Still Any (put_format inner percent format vs)
  unfolding put_format
  put_format_goes inner percent [] vs = give_goes P limit tt tt
  put_format_goes inner false (c ∷ format) vs = if_goes P limit (c == 37) (put_format_goes inner true format vs) (bind_goes P limit (put_goes P limit c) (λ _ _. put_format_goes inner false format vs))
  put_format_goes inner true (c ∷ format) vs =
      if_goes P limit (c == 37) (bind_goes P limit (put_goes P limit c) (λ _ _. put_format_goes inner false format vs))
      (with_argument_goes vs (λ v rest. bind_goes P limit (convert_goes inner c v) (λ _ _. put_format_goes inner false format rest)))

  pub printf_goes : (inner : Bool) (format : Option (List ℕ)) (vs : List Value) → Still N (printf inner format vs)
  unfolding printf
  printf_goes inner None vs = undefined_goes P limit OtherKind
  printf_goes inner (Some format) vs = bind_goes P limit (put_format_goes inner false format vs) (λ _ _. give_goes P limit Missing tt)

  with_one_goes : (vs : List Value) {f : Value → Run Value} → AreNamed P vs → ((v : Value) → N v → Still N (f v)) → Still N (with_one vs f)
  unfolding with_one
  with_one_goes [] a t = undefined_goes P limit OtherKind
  with_one_goes (v ∷ vs) a t = t v a.0

  character_named : (c : ℕ) → N (character c)
  character_named c = by_zero (c == 0)
    where
      by_zero : (b : Bool) → N (if b then Word (2 ^ 24 - 1) else Word c)
      by_zero true = tt
      by_zero false = tt

  pub built_in_goes : (input : List ℕ) (inner : Bool) (name : List ℕ) (vs : List Value) → AreNamed P vs → Still N (built_in input inner name vs)
  unfolding built_in
  built_in_goes input inner name vs a =
      if_goes P limit (bytes_eq name (codes "getchar")) (bind_goes P limit (next_byte_goes P limit input) (λ c _. give_goes P limit (character c) (character_named c)))
      (if_goes P limit (bytes_eq name (codes "__builtin_getc")) (bind_goes P limit (next_byte_goes P limit input) (λ c _. give_goes P limit (Word c) tt))
      (if_goes P limit (bytes_eq name (codes "putchar")) (with_one_goes vs a (λ v n. of_word_goes v (λ c. bind_goes P limit (put_goes P limit c) (λ _ _. give_goes P limit v n))))
      (if_goes P limit (bytes_eq name (codes "puts")) (with_one_goes vs a (λ v n. bind_goes P limit (put_string_at_goes inner v) (λ _ _. bind_goes P limit (put_goes P limit 10) (λ _ _. give_goes P limit (Word 0) tt))))
      (if_goes P limit (bytes_eq name (codes "exit")) (with_one_goes vs a (λ v n. of_word_goes v (λ n. exit_goes P limit))) (undefined_goes P limit OtherKind)))))
