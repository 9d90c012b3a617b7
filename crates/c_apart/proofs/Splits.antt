-- A run of a helper function does what its part apart does: expressions, statements, functions.
use Rattle.std.proofs.Common.{◌≡◌, ℕ, zero, suc, ◌+◌, List, [], ◌∷◌, ◌++◌, length, Option, Some, None, Bool, true, false, refl, sym, ap, ◌∙◌, subst, arith}
use Rattle.std.specs.Prelude.{codes, if◌then◌else◌}
use Rattle.std.specs.Option.{option_map}
use Rattle.std.specs.Str.{bytes_eq}
use Rattle.std.proofs.lemmas.Slice.Eq.{bytes_eq-Decides}
use Rattle.c_syntax.specs.Plain as plain
use Rattle.c_syntax.specs.Plain.{CExpr, CExprs, CValue, CDecl, CStmt, CStmts}
use Rattle.c_syntax.specs.declared.tree.UnOp.{UnOp}
use Rattle.c_syntax.specs.declared.tree.BinOp.{BinOp}
use Rattle.c_syntax.specs.declared.tree.UnOp.TheVariants as unary
use Rattle.c_syntax.specs.declared.tree.BinOp.TheVariants as binary
use Rattle.c_syntax.specs.Words.{meaning}
use Rattle.c_types.specs.Types as type
use Rattle.c_types.specs.Types.{CType, CTypes, is_pointer, is_null, is_unsigned, is_void, Tags}
use Rattle.c_types.specs.Constants.{Constant, NotConstant, counted, binary_value, unary_constant}
use Rattle.c_types.specs.Constants as constant
use Rattle.c_types.specs.Scope.{Entity, Object, Routine, BuiltIn, Printf, entity_of, entered}
use Rattle.c_types.specs.Declarations.{takes_string}
use Rattle.c_eval.specs.State.{Value, Word, Null, Point, Letter, Function, Missing, Outcome, Gives, Ended, Going, Undefined, Run}
use Rattle.c_eval.specs.Run.{after, ◌>>=◌, give, paid, put}
use Rattle.c_eval.specs.Memory.{kind_of, pointer_difference}
use Rattle.c_eval.specs.Operators.{used, of_word, is_true, converted, all_converted, word_act, word_result, on_words, pointer_sum, pointer_less, element_words, sum, difference, equality, order, operated, combined, on_word, pointer_to, value_at, pointed_value, assigned}
use Rattle.c_eval.specs.Environment.{type_in, value_type_in, object_type_in, block_objects, Environment, past, past_first, declaring, behind, in_block, Callee, Direct, Known, Format, Through, callee_in}
use Rattle.c_eval.specs.BuiltIns.{with_one, built_in}
use Rattle.c_eval.specs.Eval.{World, place_named, value_named, unary_value, unary_place, assignment, cast_value, call, used_value, condition, first_value, Flow, Next, Broke, Continued, Returned, go_on, turned, loop, returned, value_of, place_of, values_of, does, all_do}
use Rattle.c_eval.specs.Text.{Definition}
use Rattle.c_eval.specs.Meaning.{argument_objects, argument_names, body_environment, result_of, runs}
use Rattle.c_apart.proofs.Apart.{Part, p_bind, p_give, p_stuck, p_choose, p_paid, p_outer, p_named, p_own_value, Spot, Own, Outer, p_assigned, p_variable, p_used, p_unary, p_compared, p_operated, p_combined, p_cast, p_assignment, p_put_one, p_call, p_value, p_place, p_values, p_condition, p_first, p_first_value, p_go_on, p_turned, p_loop, p_returned, p_does, p_all, p_result, p_function}
use Rattle.c_apart.proofs.Splitting.{Split, itself, own_place, bind_splits, give_splits, stuck_splits, choose_splits, other_splits, paid_splits, load_splits, store_splits, give_outer, undefined_outer, unless_outer, bind_outer, put_outer, load_outer, store_outer, moved_outer, within_splits}

-- ---- places of the text, the own objects behind n others

abbrev pub moved_names : ℕ → List (List ℕ × Option ℕ) → List (List ℕ × Option ℕ)
moved_names n [] = []
moved_names n (entry ∷ names) = (entry.0, option_map (λ j. n + j) entry.1) ∷ moved_names n names

abbrev pub moved_here : ℕ → Environment → Environment
moved_here n here = record here { objects = moved_names n here.objects; next = n + here.next }

found_in : (n : ℕ) (t : Bool) (o : Option ℕ) (r r' : Option (Option ℕ)) → r ≡ option_map (λ p. option_map (λ j. n + j) p) r' → (if t then Some (option_map (λ j. n + j) o) else r) ≡ option_map (λ p. option_map (λ j. n + j) p) (if t then Some o else r')
found_in n true o r r' e = refl
found_in n false o r r' e = e

found : (n : ℕ) (name : List ℕ) (names : List (List ℕ × Option ℕ)) → meaning (moved_names n names) name ≡ option_map (λ p. option_map (λ j. n + j) p) (meaning names name)
found n name [] = refl
found n name (entry ∷ names) = found_in n (bytes_eq name entry.0) entry.1 (meaning (moved_names n names) name) (meaning names name) (found n name names)

named_splits : (n : ℕ) (name : List ℕ) (names : List (List ℕ × Option ℕ)) → Split n (own_place n) (p_named (meaning names name)) (place_named (meaning (moved_names n names) name))
unfolding p_named place_named
named_splits n name names = subst (λ z. Split n (own_place n) (p_named (meaning names name)) (place_named z)) (sym (found n name names)) (go (meaning names name))
  where
    go : (o : Option (Option ℕ)) → Split n (own_place n) (p_named o) (place_named (option_map (λ p. option_map (λ j. n + j) p) o))
    go None = stuck_splits
    go (Some None) = stuck_splits
    go (Some (Some j)) = give_splits n (own_place n) j

-- behind a declaration the next object is one farther
declaring_moved : (n : ℕ) (d : CDecl) (here : Environment) → declaring d (moved_here n here) ≡ moved_here n (declaring d here)
declaring_moved n d here = ap (λ k. record (moved_here n (declaring d here)) { next = k }) (omega arith)

-- ---- operators

pub used_outer : (n : ℕ) (v : Value) → Split n itself (p_outer (used v)) (used v)
unfolding used
used_outer n Missing = undefined_outer n _
used_outer n (Word w) = give_outer n _
used_outer n Null = give_outer n _
used_outer n (Point o k) = give_outer n _
used_outer n (Letter f i text k) = give_outer n _
used_outer n (Function f) = give_outer n _

of_word_outer : (n : ℕ) (v : Value) {f : ℕ → Run Value} → ((w : ℕ) → Split n itself (p_outer (f w)) (f w)) → Split n itself (p_outer (of_word v f)) (of_word v f)
unfolding of_word
of_word_outer n (Word w) h = h w
of_word_outer n Null h = undefined_outer n _
of_word_outer n (Point o k) h = undefined_outer n _
of_word_outer n (Letter f i text k) h = undefined_outer n _
of_word_outer n (Function f) h = undefined_outer n _
of_word_outer n Missing h = undefined_outer n _

act_outer : (n : ℕ) (op : BinOp) → Split n itself (p_outer (word_act op)) (word_act op)
unfolding word_act
act_outer n binary.Or = undefined_outer n _
act_outer n binary.And = undefined_outer n _
act_outer n binary.BitOr = undefined_outer n _
act_outer n binary.BitXor = undefined_outer n _
act_outer n binary.BitAnd = undefined_outer n _
act_outer n binary.Eq = undefined_outer n _
act_outer n binary.Ne = undefined_outer n _
act_outer n binary.Lt = undefined_outer n _
act_outer n binary.Gt = undefined_outer n _
act_outer n binary.Le = undefined_outer n _
act_outer n binary.Ge = undefined_outer n _
act_outer n binary.Shl = undefined_outer n _
act_outer n binary.Shr = undefined_outer n _
act_outer n binary.Add = undefined_outer n _
act_outer n binary.Sub = undefined_outer n _
act_outer n binary.Mul = undefined_outer n _
act_outer n binary.Div = undefined_outer n _
act_outer n binary.Mod = undefined_outer n _

result_outer : (n : ℕ) (op : BinOp) (c : Constant) → Split n itself (p_outer (word_result op c)) (word_result op c)
unfolding word_result
result_outer n op NotConstant = undefined_outer n _
result_outer n op (constant.Undefined at) = act_outer n op
result_outer n op (constant.Value w) = give_outer n _

pub words_outer : (n : ℕ) (op : BinOp) (t u : CType) (x y : Value) → Split n itself (p_outer (on_words op t u x y)) (on_words op t u x y)
unfolding on_words
words_outer n op t u x y = of_word_outer n x (λ m. of_word_outer n y (λ k. result_outer n op _))

pub word_outer : (n : ℕ) (op : UnOp) (x : Value) → Split n itself (p_outer (on_word op x)) (on_word op x)
unfolding on_word
word_outer n op x = of_word_outer n x (λ w. result_outer n binary.Add _)

if_outer : (n : ℕ) (t : Bool) {a b : Run Value} → Split n itself (p_outer a) a → Split n itself (p_outer b) b → Split n itself (p_outer (if t then a else b)) (if t then a else b)
if_outer n true h k = h
if_outer n false h k = k

moved_sum_outer : (n : ℕ) (tags : Tags) (t u : CType) (p y : Value) → Split n itself (p_outer (pointer_sum tags t u p y)) (pointer_sum tags t u p y)
unfolding pointer_sum
moved_sum_outer n tags t u p y = of_word_outer n y (λ w. moved_outer n p _)

moved_less_outer : (n : ℕ) (tags : Tags) (t u : CType) (p y : Value) → Split n itself (p_outer (pointer_less tags t u p y)) (pointer_less tags t u p y)
unfolding pointer_less
moved_less_outer n tags t u p y = of_word_outer n y (λ w. moved_outer n p _)

sum_outer : (n : ℕ) (tags : Tags) (t u : CType) (x y : Value) → Split n itself (p_outer (sum tags t u x y)) (sum tags t u x y)
unfolding sum
sum_outer n tags t u x y = if_outer n (is_pointer t) (moved_sum_outer n tags t u x y) (if_outer n (is_pointer u) (moved_sum_outer n tags u t y x) (words_outer n binary.Add t u x y))

pub between_outer : (n cells : ℕ) (p q : Value) → Split n itself (p_outer (pointer_difference cells p q)) (pointer_difference cells p q)
unfolding pointer_difference
between_outer n cells p q = unless_outer _ _ (unless_outer _ _ (give_outer n _))

difference_outer : (n : ℕ) (tags : Tags) (t u : CType) (x y : Value) → Split n itself (p_outer (difference tags t u x y)) (difference tags t u x y)
unfolding difference
difference_outer n tags t u x y =
    if_outer n _ (bind_outer (between_outer n (element_words tags t) x y) (λ z. give_outer n _)) (if_outer n (is_pointer t) (moved_less_outer n tags t u x y) (words_outer n binary.Sub t u x y))

equality_splits : (n : ℕ) (op : BinOp) (t u : CType) (x y : Value) (b : Bool) (m : Run Value) → Split n itself (p_compared b op t u x y) (if b then m else on_words op t u x y)
unfolding p_compared
equality_splits n op t u x y true m = stuck_splits
equality_splits n op t u x y false m = words_outer n op t u x y

operated_splits : (n : ℕ) (tags : Tags) (op : BinOp) (t u : CType) (x y : Value) → Split n itself (p_operated tags op t u x y) (operated tags op t u x y)
unfolding p_operated operated equality order
operated_splits n tags binary.Or t u x y = words_outer n binary.Or t u x y
operated_splits n tags binary.And t u x y = words_outer n binary.And t u x y
operated_splits n tags binary.BitOr t u x y = words_outer n binary.BitOr t u x y
operated_splits n tags binary.BitXor t u x y = words_outer n binary.BitXor t u x y
operated_splits n tags binary.BitAnd t u x y = words_outer n binary.BitAnd t u x y
operated_splits n tags binary.Eq t u x y = equality_splits n binary.Eq t u x y _ _
operated_splits n tags binary.Ne t u x y = equality_splits n binary.Ne t u x y _ _
operated_splits n tags binary.Lt t u x y = equality_splits n binary.Lt t u x y _ _
operated_splits n tags binary.Gt t u x y = equality_splits n binary.Gt t u x y _ _
operated_splits n tags binary.Le t u x y = equality_splits n binary.Le t u x y _ _
operated_splits n tags binary.Ge t u x y = equality_splits n binary.Ge t u x y _ _
operated_splits n tags binary.Shl t u x y = words_outer n binary.Shl t u x y
operated_splits n tags binary.Shr t u x y = words_outer n binary.Shr t u x y
operated_splits n tags binary.Add t u x y = sum_outer n tags t u x y
operated_splits n tags binary.Sub t u x y = difference_outer n tags t u x y
operated_splits n tags binary.Mul t u x y = words_outer n binary.Mul t u x y
operated_splits n tags binary.Div t u x y = words_outer n binary.Div t u x y
operated_splits n tags binary.Mod t u x y = words_outer n binary.Mod t u x y

two_splits : (n : ℕ) (tags : Tags) (op : BinOp) (t u : CType) {a b : Part Value} {a' b' : Run Value} → Split n itself a a' → Split n itself b b' → Split n itself (p_bind a (λ x. p_bind b (λ y. p_operated tags op t u x y))) (a' >>= λ x. b' >>= λ y. operated tags op t u x y)
two_splits n tags op t u h k = bind_splits _ h (λ x. bind_splits _ k (λ y. operated_splits n tags op t u x y))

combined_splits : (n : ℕ) (tags : Tags) (op : BinOp) (t u : CType) {a b : Part Value} {a' b' : Run Value} → Split n itself a a' → Split n itself b b' → Split n itself (p_combined tags op t u a b) (combined tags op t u a' b')
unfolding p_combined combined
combined_splits n tags binary.And t u h k = bind_splits _ h (λ x. choose_splits (is_true x) (bind_splits _ k (λ y. give_splits n itself _)) (give_splits n itself _))
combined_splits n tags binary.Or t u h k = bind_splits _ h (λ x. choose_splits (is_true x) (give_splits n itself _) (bind_splits _ k (λ y. give_splits n itself _)))
combined_splits n tags binary.BitOr t u h k = two_splits n tags binary.BitOr t u h k
combined_splits n tags binary.BitXor t u h k = two_splits n tags binary.BitXor t u h k
combined_splits n tags binary.BitAnd t u h k = two_splits n tags binary.BitAnd t u h k
combined_splits n tags binary.Eq t u h k = two_splits n tags binary.Eq t u h k
combined_splits n tags binary.Ne t u h k = two_splits n tags binary.Ne t u h k
combined_splits n tags binary.Lt t u h k = two_splits n tags binary.Lt t u h k
combined_splits n tags binary.Gt t u h k = two_splits n tags binary.Gt t u h k
combined_splits n tags binary.Le t u h k = two_splits n tags binary.Le t u h k
combined_splits n tags binary.Ge t u h k = two_splits n tags binary.Ge t u h k
combined_splits n tags binary.Shl t u h k = two_splits n tags binary.Shl t u h k
combined_splits n tags binary.Shr t u h k = two_splits n tags binary.Shr t u h k
combined_splits n tags binary.Add t u h k = two_splits n tags binary.Add t u h k
combined_splits n tags binary.Sub t u h k = two_splits n tags binary.Sub t u h k
combined_splits n tags binary.Mul t u h k = two_splits n tags binary.Mul t u h k
combined_splits n tags binary.Div t u h k = two_splits n tags binary.Div t u h k
combined_splits n tags binary.Mod t u h k = two_splits n tags binary.Mod t u h k

-- ---- places

own_value_splits : (n : ℕ) (t : CType) (j : ℕ) → Split n itself (p_own_value t j) (value_at true t (own_place n j))
unfolding p_own_value value_at
own_value_splits n (type.Array t k) j = stuck_splits
own_value_splits n (type.Struct tag) j = stuck_splits
own_value_splits n type.Void j = load_splits n _ j
own_value_splits n type.Int j = load_splits n _ j
own_value_splits n type.Unsigned j = load_splits n _ j
own_value_splits n type.Char j = load_splits n _ j
own_value_splits n type.UChar j = load_splits n _ j
own_value_splits n type.Null j = load_splits n _ j
own_value_splits n (type.Pointer t) j = load_splits n _ j
own_value_splits n (type.Function t ts) j = load_splits n _ j

value_at_outer : (n : ℕ) (t : CType) (p : Value) → Split n itself (p_outer (value_at true t p)) (value_at true t p)
unfolding value_at pointer_to
value_at_outer n (type.Array t k) p = undefined_outer n _
value_at_outer n (type.Struct tag) p = give_outer n _
value_at_outer n type.Void p = load_outer n _ p
value_at_outer n type.Int p = load_outer n _ p
value_at_outer n type.Unsigned p = load_outer n _ p
value_at_outer n type.Char p = load_outer n _ p
value_at_outer n type.UChar p = load_outer n _ p
value_at_outer n type.Null p = load_outer n _ p
value_at_outer n (type.Pointer t) p = load_outer n _ p
value_at_outer n (type.Function t ts) p = load_outer n _ p

pointed_outer : (n : ℕ) (t : CType) (p : Value) → Split n itself (p_outer (pointed_value true t p)) (pointed_value true t p)
unfolding pointed_value
pointed_outer n type.Void p = undefined_outer n _
pointed_outer n type.Int p = undefined_outer n _
pointed_outer n type.Unsigned p = undefined_outer n _
pointed_outer n type.Char p = undefined_outer n _
pointed_outer n type.UChar p = undefined_outer n _
pointed_outer n type.Null p = undefined_outer n _
pointed_outer n (type.Struct tag) p = undefined_outer n _
pointed_outer n (type.Array t k) p = undefined_outer n _
pointed_outer n (type.Function t ts) p = undefined_outer n _
pointed_outer n (type.Pointer (type.Function t ts)) p = give_outer n _
pointed_outer n (type.Pointer type.Void) p = value_at_outer n type.Void p
pointed_outer n (type.Pointer type.Int) p = value_at_outer n type.Int p
pointed_outer n (type.Pointer type.Unsigned) p = value_at_outer n type.Unsigned p
pointed_outer n (type.Pointer type.Char) p = value_at_outer n type.Char p
pointed_outer n (type.Pointer type.UChar) p = value_at_outer n type.UChar p
pointed_outer n (type.Pointer type.Null) p = value_at_outer n type.Null p
pointed_outer n (type.Pointer (type.Struct tag)) p = value_at_outer n (type.Struct tag) p
pointed_outer n (type.Pointer (type.Pointer t)) p = value_at_outer n (type.Pointer t) p
pointed_outer n (type.Pointer (type.Array t k)) p = value_at_outer n (type.Array t k) p

-- where a spot is
abbrev pub place_of_spot : ℕ → Spot → Value
place_of_spot n (Own j) = own_place n j
place_of_spot n (Outer p) = p

assigned_splits : (n : ℕ) (t : CType) (s : Spot) (v : Value) → Split n itself (p_assigned t s v) (assigned t (place_of_spot n s) v)
unfolding p_assigned assigned
assigned_splits n t (Own j) v = store_splits n (kind_of t) j (converted t v)
assigned_splits n t (Outer p) v = store_outer n (kind_of t) p (converted t v)

variable_splits : (n : ℕ) (w : World) → w.inner ≡ true → (here : Environment) (name : List ℕ) (entity : Option Entity) → Split n itself (p_variable here name entity) (value_named w (moved_here n here) name entity)
unfolding p_variable value_named
variable_splits n w inner here name None = stuck_splits
variable_splits n w inner here name (Some (Object t)) = bind_splits _ (named_splits n name here.objects) (λ j. subst (λ z. Split n itself (p_own_value t j) (value_at z t (own_place n j))) (sym inner) (own_value_splits n t j))
variable_splits n w inner here name (Some (Routine t begun)) = stuck_splits
variable_splits n w inner here name (Some (BuiltIn t)) = stuck_splits
variable_splits n w inner here name (Some Printf) = stuck_splits

used_splits : {n : ℕ} {s : Part Value} {m : Run Value} → Split n itself s m → Split n itself (p_used s) (m >>= used)
unfolding p_used
used_splits h = bind_splits _ h (λ v. used_outer _ v)

cast_splits : (n : ℕ) (t : CType) {s : Part Value} {m : Run Value} → Split n itself s m → Split n itself (p_cast t s) (cast_value t m)
unfolding p_cast cast_value
cast_splits n t h = other_splits (is_void t) _ (used_splits h)

assignment_splits : (n : ℕ) (w : World) (tags : Tags) (op : Option BinOp) (t u : CType) {s : Part Spot} {m : Run Value} {v : Part Value} {v' : Run Value} → Split n (place_of_spot n) s m → Split n itself v v' → Split n itself (p_assignment op t s v) (assignment w tags op t u m v')
unfolding p_assignment assignment
assignment_splits n w tags None t u h k = bind_splits _ h (λ p. bind_splits _ k (λ v. assigned_splits n t p v))
assignment_splits n w tags (Some op) t u h k = stuck_splits

put_one_splits : (n : ℕ) (vs : List Value) → Split n itself (p_put_one vs) (with_one vs (λ v. of_word v (λ c. put c >>= λ _. give v)))
unfolding p_put_one with_one of_word
put_one_splits n [] = stuck_splits
put_one_splits n (Word c ∷ vs) = bind_splits _ (put_outer n c) (λ _. give_splits n itself _)
put_one_splits n (Null ∷ vs) = stuck_splits
put_one_splits n (Point o k ∷ vs) = stuck_splits
put_one_splits n (Letter f i text k ∷ vs) = stuck_splits
put_one_splits n (Function f ∷ vs) = stuck_splits
put_one_splits n (Missing ∷ vs) = stuck_splits

-- ---- calls

only_put : (name : List ℕ) → bytes_eq name (codes "putchar") ≡ true → name ≡ codes "putchar"
only_put name e = (bytes_eq-Decides name (codes "putchar")).0 e

-- of the functions that are always known a helper function calls `putchar`
built_in_splits : (n : ℕ) (input name : List ℕ) (vs : List Value) (t : Bool) → bytes_eq name (codes "putchar") ≡ t → Split n itself (p_choose t (p_paid (p_put_one vs)) p_stuck) (paid true (built_in input true name vs))
unfolding built_in p_choose
built_in_splits n input name vs false e = stuck_splits
built_in_splits n input name vs true e = subst (λ z. Split n itself (p_paid (p_put_one vs)) (paid true (built_in input true z vs))) (sym (only_put name e)) (paid_splits (put_one_splits n vs))

call_splits : (n : ℕ) (w : World) → w.inner ≡ true → (sub : List ℕ → List Value → Part Value) → ((name : List ℕ) (vs : List Value) → Split n itself (sub name vs) (w.calls name vs)) →
    (callee : Callee) (format : Option (List ℕ)) (pointer : Run Value) (printed : Run (List Value)) {s : Part (List Value)} {m : Run (List Value)} → Split n itself s m → Split n itself (p_call sub callee s) (call w callee format pointer m printed)
unfolding p_call call
call_splits n w inner sub called (Direct name params) format pointer printed h = bind_splits _ h (λ vs. called name (all_converted params vs))
call_splits n w inner sub called (Known name params) format pointer printed h =
    bind_splits _ h (λ vs. subst (λ z. Split n itself (p_choose (bytes_eq name (codes "putchar")) (p_paid (p_put_one (all_converted params vs))) p_stuck) (paid z (built_in w.input z name (all_converted params vs)))) (sym inner) (built_in_splits n w.input name (all_converted params vs) (bytes_eq name (codes "putchar")) refl))
call_splits n w inner sub called Format format pointer printed h = stuck_splits
call_splits n w inner sub called (Through params) format pointer printed h = stuck_splits

-- ---- expressions and statements

-- what is given on is what it was
after_give : (r : Outcome Value) → after r give ≡ r
unfolding after give
after_give (Gives a st) = refl
after_give (Ended st) = refl
after_give (Going st) = refl
after_give (Undefined act st) = refl

given_on : (m : Run Value) → (m >>= give) ≡ m
unfolding ◌>>=◌
given_on m = λ i st. after_give (m st) i

condition_splits : (n : ℕ) (e : CExpr) (w : World) (here : Environment) {s : Part Value} → Split n itself s (value_of e w here) → Split n itself (p_condition s) (condition e w here)
unfolding p_condition condition
condition_splits n e w here h = bind_splits _ (used_splits h) (λ v. give_splits n itself _)

returned_splits : (n : ℕ) (e : CExpr) (w : World) (here : Environment) {s : Part Value} → Split n itself s (value_of e w here) → Split n itself (p_returned s) (returned (Some e) w here)
unfolding p_returned returned used_value
returned_splits n e w here h = bind_splits _ (used_splits h) (λ v. give_splits n itself _)

go_on_splits : (n : ℕ) (flow : Flow) {s : Part Flow} {m : Run Flow} → Split n itself s m → Split n itself (p_go_on flow s) (go_on flow m)
unfolding p_go_on go_on
go_on_splits n Next h = h
go_on_splits n Broke h = give_splits n itself _
go_on_splits n Continued h = give_splits n itself _
go_on_splits n (Returned v) h = give_splits n itself _

turned_splits : (n : ℕ) (flow : Flow) {s : Part Flow} {m : Run Flow} → Split n itself s m → Split n itself (p_turned flow s) (turned flow m)
unfolding p_turned turned
turned_splits n Next h = h
turned_splits n Continued h = h
turned_splits n Broke h = give_splits n itself _
turned_splits n (Returned v) h = give_splits n itself _

-- a step that does nothing
no_step : (m : Run Flow) → (give tt >>= λ (x : Unit {0}). m) ≡ m
unfolding give ◌>>=◌ after
no_step m = refl

no_step_splits : {n : ℕ} {s : Part Flow} {m : Run Flow} → Split n itself s m → Split n itself s (give tt >>= λ (x : Unit {0}). m)
no_step_splits {n = n} {s = s} {m = m} h = subst (λ z. Split n itself s z) (sym (no_step m)) h

loop_splits : (n deep : ℕ) {test : Part Bool} {test' : Run Bool} {body : Part Flow} {body' : Run Flow} → Split n itself test test' → Split n itself body body' → Split n itself (p_loop deep test body) (loop true deep test' (give tt) body')
unfolding p_loop loop
loop_splits n zero h k = stuck_splits
loop_splits n (suc deep) h k =
    bind_splits _ h (λ b. choose_splits b (paid_splits (bind_splits _ k (λ flow. turned_splits n flow (no_step_splits (loop_splits n deep h k))))) (give_splits n itself _))

module _ (n : ℕ) (w : World) (inner : w.inner ≡ true) (sub : List ℕ → List Value → Part Value) (called : (name : List ℕ) (vs : List Value) → Split n itself (sub name vs) (w.calls name vs)) where
  unary_splits : (op : UnOp) (a : CExpr) (here : Environment) (place : Run Value) {s : Part Value} {m : Run Value} → Split n itself s m → Split n itself (p_unary op (value_type_in here.scope a) s) (unary_value w here.scope op a m place)
  unfolding p_unary unary_value
  unary_splits unary.Address a here place h = stuck_splits
  unary_splits unary.Deref a here place h = bind_splits _ h (λ v. subst (λ z. Split n itself (p_outer (pointed_value true (value_type_in here.scope a) v)) (pointed_value z (value_type_in here.scope a) v)) (sym inner) (pointed_outer n (value_type_in here.scope a) v))
  unary_splits unary.Not a here place h = stuck_splits
  unary_splits unary.Plus a here place h = bind_splits _ h (λ v. word_outer n unary.Plus v)
  unary_splits unary.Minus a here place h = bind_splits _ h (λ v. word_outer n unary.Minus v)
  unary_splits unary.Invert a here place h = bind_splits _ h (λ v. word_outer n unary.Invert v)

  outer_place : {s : Part Value} {m : Run Value} → Split n itself s m → Split n (place_of_spot n) (p_bind s (λ p. p_give (Outer p))) (unary_place unary.Deref m)
  unfolding unary_place
  outer_place {s = s} {m = m} h = subst (λ z. Split n (place_of_spot n) (p_bind s (λ p. p_give (Outer p))) z) (given_on m) (bind_splits give h (λ p. give_splits n (place_of_spot n) (Outer p)))

  mutual
    value_splits : (e : CExpr) (here : Environment) → Split n itself (p_value e sub here) (value_of e w (moved_here n here))
    value_splits (plain.Number at k unsigned) here = give_splits n itself _
    value_splits (plain.Str at text) here = stuck_splits
    value_splits (plain.Null at) here = stuck_splits
    value_splits (plain.Var at name) here = variable_splits n w inner here name (entity_of here.scope name)
    value_splits (plain.Unary at op a) here = unary_splits op a here _ (used_splits (value_splits a here))
    value_splits (plain.Step at op a) here = stuck_splits
    value_splits (plain.Binary at op a b) here = combined_splits n here.scope.tags op (value_type_in here.scope a) (value_type_in here.scope b) (used_splits (value_splits a here)) (used_splits (value_splits b (past a here)))
    value_splits (plain.Assign at op a b) here = assignment_splits n w here.scope.tags op (type_in here.scope a) (value_type_in here.scope b) (place_splits a here) (used_splits (value_splits b (past a here)))
    value_splits (plain.Cond at a b c) here = stuck_splits
    value_splits (plain.Comma at a b) here = stuck_splits
    value_splits (plain.Cast at t a) here = cast_splits n (type_in here.scope (plain.Cast at t a)) (value_splits a here)
    value_splits (plain.SizeTy at t) here = stuck_splits
    value_splits (plain.SizeOf at a) here = stuck_splits
    value_splits (plain.Index at a b) here = stuck_splits
    value_splits (plain.Call at f es) here = call_splits n w inner sub called (callee_in here.scope f) _ _ _ (values_splits es (past f here))
    value_splits (plain.Member at a m) here = stuck_splits
    value_splits (plain.Arrow at a m) here = stuck_splits

    place_splits : (e : CExpr) (here : Environment) → Split n (place_of_spot n) (p_place e sub here) (place_of e w (moved_here n here))
    place_splits (plain.Number at k unsigned) here = stuck_splits
    place_splits (plain.Str at text) here = stuck_splits
    place_splits (plain.Null at) here = stuck_splits
    place_splits (plain.Var at name) here = subst (λ z. Split n (place_of_spot n) (p_bind (p_named (meaning here.objects name)) (λ j. p_give (Own j))) z) (given_on (place_named (meaning (moved_names n here.objects) name))) (bind_splits give (named_splits n name here.objects) (λ j. give_splits n (place_of_spot n) (Own j)))
    place_splits (plain.Unary at unary.Deref a) here = outer_place (used_splits (value_splits a here))
    place_splits (plain.Unary at op a) here = stuck_splits
    place_splits (plain.Step at op a) here = stuck_splits
    place_splits (plain.Binary at op a b) here = stuck_splits
    place_splits (plain.Assign at op a b) here = stuck_splits
    place_splits (plain.Cond at a b c) here = stuck_splits
    place_splits (plain.Comma at a b) here = stuck_splits
    place_splits (plain.Cast at t a) here = stuck_splits
    place_splits (plain.SizeTy at t) here = stuck_splits
    place_splits (plain.SizeOf at a) here = stuck_splits
    place_splits (plain.Index at a b) here = stuck_splits
    place_splits (plain.Call at f es) here = stuck_splits
    place_splits (plain.Member at a m) here = stuck_splits
    place_splits (plain.Arrow at a m) here = stuck_splits

    values_splits : (es : CExprs) (here : Environment) → Split n itself (p_values es sub here) (values_of es w (moved_here n here))
    values_splits plain.NoExpr here = give_splits n itself []
    values_splits (plain.MoreExpr e es) here = bind_splits _ (used_splits (value_splits e here)) (λ v. bind_splits _ (values_splits es (past e here)) (λ vs. give_splits n itself (v ∷ vs)))

  first_splits : (t : CType) (j : ℕ) (b : Bool) {s : Part Value} {m : Run Value} (other : Run (Unit {0})) → Split n itself s m → Split n itself (p_first t j b s) (if b then other else (m >>= used >>= λ v. assigned t (own_place n j) v >>= λ _. give tt))
  unfolding p_first
  first_splits t j true other h = stuck_splits
  first_splits t j false other h = bind_splits _ (used_splits h) (λ v. bind_splits _ (assigned_splits n t (Own j) v) (λ _. give_splits n itself tt))

  first_value_splits : (d : CDecl) (here : Environment) (v : Option CValue) → Split n itself (p_first_value d sub here v) (first_value d w (moved_here n here) v)
  unfolding first_value used_value
  first_value_splits d here None = give_splits n itself tt
  first_value_splits d here (Some (plain.One e)) =
      first_splits (object_type_in here.scope d) here.next (takes_string (object_type_in here.scope d) e) _ (subst (λ z. Split n itself (p_value e sub (declaring d here)) (value_of e w z)) (sym (declaring_moved n d here)) (value_splits e (declaring d here)))
  first_value_splits d here (Some (plain.Many vs)) = stuck_splits

  past_first_moved : (v : Option CValue) (here : Environment) → past_first v (moved_here n here) ≡ moved_here n (past_first v here)
  past_first_moved None here = refl
  past_first_moved (Some v) here = refl

  behind_moved : (t : CStmt) (here : Environment) → behind t (moved_here n here) ≡ moved_here n (behind t here)
  behind_moved (plain.Local d) here = ap (past_first d.first) (declaring_moved n d here) ∙ past_first_moved d.first (declaring d here)
  behind_moved (plain.Block ss) here = refl
  behind_moved (plain.Do_expr e) here = refl
  behind_moved plain.Empty here = refl
  behind_moved (plain.If e t) here = refl
  behind_moved (plain.IfElse e t u) here = refl
  behind_moved (plain.While e t) here = refl
  behind_moved (plain.Do t e) here = refl
  behind_moved (plain.For first test step t) here = refl
  behind_moved (plain.Return at e) here = refl
  behind_moved (plain.Break at) here = refl
  behind_moved (plain.Continue at) here = refl
  behind_moved (plain.Switch e ps) here = refl

  mutual
    does_splits : (t : CStmt) (deep : ℕ) (here : Environment) → Split n itself (p_does t deep sub here) (does t deep w (moved_here n here))
    does_splits (plain.Block ss) deep here = within_splits (block_objects (entered here.scope) ss) _ (λ j. all_splits ss deep (in_block j here))
    does_splits (plain.Local d) deep here = bind_splits _ (first_value_splits d here d.first) (λ _. give_splits n itself Next)
    does_splits (plain.Do_expr e) deep here = bind_splits _ (value_splits e here) (λ _. give_splits n itself Next)
    does_splits plain.Empty deep here = stuck_splits
    does_splits (plain.If e t) deep here = bind_splits _ (condition_splits n e w (moved_here n here) (value_splits e here)) (λ b. choose_splits b (does_splits t deep (past e here)) (give_splits n itself Next))
    does_splits (plain.IfElse e t u) deep here = stuck_splits
    does_splits (plain.While e t) deep here = subst (λ z. Split n itself (p_loop deep (p_condition (p_value e sub here)) (p_does t deep sub (past e here))) (loop z deep (condition e w (moved_here n here)) (give tt) (does t deep w (moved_here n (past e here))))) (sym inner) (loop_splits n deep (condition_splits n e w (moved_here n here) (value_splits e here)) (does_splits t deep (past e here)))
    does_splits (plain.Do t e) deep here = stuck_splits
    does_splits (plain.For first test step t) deep here = stuck_splits
    does_splits (plain.Return at None) deep here = stuck_splits
    does_splits (plain.Return at (Some e)) deep here = returned_splits n e w (moved_here n here) (value_splits e here)
    does_splits (plain.Break at) deep here = stuck_splits
    does_splits (plain.Continue at) deep here = stuck_splits
    does_splits (plain.Switch e ps) deep here = stuck_splits

    all_splits : (ts : CStmts) (deep : ℕ) (here : Environment) → Split n itself (p_all ts deep sub here) (all_do ts deep w (moved_here n here))
    all_splits plain.NoStmt deep here = give_splits n itself Next
    all_splits (plain.MoreStmt t ts) deep here =
        bind_splits _ (does_splits t deep here) (λ flow. go_on_splits n flow (subst (λ z. Split n itself (p_all ts deep sub (behind t here)) (all_do ts deep w z)) (sym (behind_moved t here)) (all_splits ts deep (behind t here))))

  argument_names_moved : (params : List (List ℕ)) (vs : List Value) (j : ℕ) → argument_names params vs (n + j) ++ [] ≡ moved_names n (argument_names params vs j ++ [])
  argument_names_moved [] vs j = refl
  argument_names_moved (name ∷ params) [] j = ap (λ z. (name, None) ∷ z) (argument_names_moved params [] j)
  argument_names_moved (name ∷ params) (v ∷ vs) j = ap (λ z. (name, Some (n + j)) ∷ z) (ap (λ k. argument_names params vs k ++ []) next ∙ argument_names_moved params vs (suc j))
    where
      next : suc (n + j) ≡ n + suc j
      next = omega arith

  body_moved : (f : Definition) (vs : List Value) (j : ℕ) → body_environment f [] vs (n + j) ≡ moved_here n (body_environment f [] vs j)
  body_moved f vs j = λ i. record { scope = f.scope; objects = argument_names_moved f.params vs j i; next = farther i; literals_before = 0 }
    where
      farther : n + j + length (argument_objects f.params vs) ≡ n + (j + length (argument_objects f.params vs))
      farther = omega arith

  result_splits : (t : CType) (flow : Flow) → Split n itself (p_result t flow) (result_of t flow)
  unfolding p_result result_of
  result_splits t Next = give_splits n itself _
  result_splits t Broke = give_splits n itself _
  result_splits t Continued = give_splits n itself _
  result_splits t (Returned v) = give_splits n itself _

  pub function_splits : (f : Definition) (deep : ℕ) (vs : List Value) → Split n itself (p_function f deep sub vs) (runs f [] deep w vs)
  unfolding p_function runs
  function_splits f deep vs =
      bind_splits _ (within_splits (argument_objects f.params vs) _ (λ j. subst (λ z. Split n itself (p_does f.body deep sub (body_environment f [] vs j)) (does f.body deep w z)) (sym (body_moved f vs j)) (does_splits f.body deep (body_environment f [] vs j)))) (result_splits f.result)
