-- The code of formats and strings writes what they write.
use Rattle.std.proofs.Common.{◌≡◌, ℕ, zero, suc, ◌+◌, ◌<◌, List, [], ◌∷◌, ◌++◌, length, map, Option, Some, None, Bool, true, false, refl, sym, ap, ◌∙◌, subst, arith}
use Rattle.std.specs.Prelude.{◌==◌, slice_get, drop, if◌then◌else◌, codes}
use Rattle.std.specs.Fmt.{digits, signed_decimal}
use Rattle.word24.specs.Word.{signed_of}
use Rattle.c_types.specs.Types.{CTypes, NoType, MoreType}
use Rattle.c_eval.specs.State.{Value, Word, Null, Point, Letter, Function, Missing, Cell, Unset, Holds, Object, OutsideObject, OtherKind, UnsetCell, Act, State, Gives, Run}
use Rattle.c_eval.specs.Run.{after, ◌>>=◌, give, undefined, spend, paid, put, put_all, objects_now}
use Rattle.c_eval.specs.Memory.{live_cells, letters, cells_at, offset_of, at_offset}
use Rattle.c_eval.specs.Operators.{of_word, converted, all_converted}
use Rattle.c_eval.specs.BuiltIns.{put_string, cells_from, put_string_at, convert, with_argument, put_format, printf, with_one, built_in}
use Rattle.c_eval.proofs.Following.{is_own, put_follows}
use Rattle.c_code.specs.Code as code
use Rattle.c_code.specs.Code.{Instruction, convert_code, pieces, print_code, first_converted, puts_code}
use Rattle.c_code.specs.Machine.{Control, with_top, arguments, digit_put, letter_put, step_of, step_at, drive}
use Rattle.c_flow.proofs.Leading.{Bounded, Keeps, Leads, moved, kept, keeps_then, give_keeps, undefined_keeps, spend_keeps, in_parts, leads_then, leads_self, leads_give, leads_as, leads_from, leads_to, leads_first, leads_skip}
use Rattle.c_flow.proofs.Standing.{Stands, stands_first, stands_rest, end_place, one_on}
use Rattle.c_flow.proofs.Choosing.{push_all, arguments_are, rest_is}

-- ---- values of one kind

undefined_leads : {A : Type 0} (p : Bounded) (act : Act) (h : A → Run Control) → is_own act ≡ true → Leads {A = A} p (undefined act) (undefined act) h
unfolding undefined ◌>>=◌ after
undefined_leads {A = A} p act h own = leads_from p (undefined act >>= h) (undefined act) (λ st. refl) (leads_self p (undefined act) h (undefined_keeps A act own))

pub of_word_leads : {A : Type 0} (p : Bounded) (v : Value) (r : ℕ → Run Control) (f : ℕ → Run A) (h : A → Run Control) → ((n : ℕ) → Leads p (r n) (f n) h) → Leads p (of_word v r) (of_word v f) h
unfolding of_word
of_word_leads p (Word n) r f h t = t n
of_word_leads p Null r f h t = undefined_leads p OtherKind h refl
of_word_leads p (Point o k) r f h t = undefined_leads p OtherKind h refl
of_word_leads p (Letter g i text k) r f h t = undefined_leads p OtherKind h refl
of_word_leads p (Function name) r f h t = undefined_leads p OtherKind h refl
of_word_leads p Missing r f h t = undefined_leads p OtherKind h refl

put_all_keeps : {depth : ℕ} (cs : List ℕ) → Keeps depth (put_all cs)
unfolding put_all
put_all_keeps [] = give_keeps tt
put_all_keeps (c ∷ cs) = keeps_then _ _ (kept (put_follows c)) (λ _. put_all_keeps cs)

of_word_keeps : {depth : ℕ} (v : Value) (f : ℕ → Run (Unit {0})) → ((n : ℕ) → Keeps depth (f n)) → Keeps depth (of_word v f)
unfolding of_word
of_word_keeps (Word n) f t = t n
of_word_keeps Null f t = undefined_keeps (Unit {0}) OtherKind refl
of_word_keeps (Point o k) f t = undefined_keeps (Unit {0}) OtherKind refl
of_word_keeps (Letter g i text k) f t = undefined_keeps (Unit {0}) OtherKind refl
of_word_keeps (Function name) f t = undefined_keeps (Unit {0}) OtherKind refl
of_word_keeps Missing f t = undefined_keeps (Unit {0}) OtherKind refl

-- code that takes the value on top and does what this does with it
abbrev Shows : Bounded → List Instruction → (Value → Run (Unit {0})) → Type 0
Shows p is g = (c : Control) (at to : ℕ) (v : Value) (rest : List Value) → to ≡ at + length is → Stands p.program at is → Leads p (give (moved c at (v ∷ rest))) (g v) (λ _. give (moved c to rest))

-- one instruction
one_shows : (p : Bounded) (i : Instruction) (g : Value → Run (Unit {0})) → ((v : Value) → Keeps p.depth (g v)) →
    ((c : Control) (at : ℕ) (v : Value) (rest : List Value) (st : State) → step_of p.program i (moved c at (v ∷ rest)) st ≡ (g v >>= λ _. give (moved c (suc at) rest)) st) → Shows p (i ∷ []) g
one_shows p i g t f c at to v rest e s =
    leads_to p (λ _. give (moved c (suc at) rest)) (λ _. give (moved c to rest)) (λ _ st. ap (λ k. give (moved c k rest) st) (one_on at to e))
    (leads_first p (moved c at (v ∷ rest)) (g v >>= λ _. give (moved c (suc at) rest)) i s.0 (λ st. f c at v rest st) (leads_self p (g v) (λ _. give (moved c (suc at) rest)) (t v)))

decimal_shows : (p : Bounded) → Shows p (code.Decimal ∷ []) (λ v. of_word v (λ n. put_all (signed_decimal (signed_of n))))
unfolding step_of with_top
decimal_shows p = one_shows p code.Decimal _ (λ v. of_word_keeps v _ (λ n. put_all_keeps (signed_decimal (signed_of n)))) (λ c at v rest st. refl)

unsigned_shows : (p : Bounded) → Shows p (code.Unsigned ∷ []) (λ v. of_word v (λ n. put_all (digits 10 false n)))
unfolding step_of with_top
unsigned_shows p = one_shows p code.Unsigned _ (λ v. of_word_keeps v _ (λ n. put_all_keeps (digits 10 false n))) (λ c at v rest st. refl)

character_shows : (p : Bounded) → Shows p (code.Character ∷ []) (λ v. of_word v put)
unfolding step_of with_top
character_shows p = one_shows p code.Character _ (λ v. of_word_keeps v put (λ n. kept (put_follows n))) (λ c at v rest st. refl)

-- ---- digits

digits_lead : (p : Bounded) (c : Control) (at : ℕ) (rest : List Value) (ds : List ℕ) → slice_get p.program.instructions at ≡ Some code.Digits → Leads p (give (moved c at (map Word ds ++ Missing ∷ rest))) (put_all ds) (λ _. give (moved c (suc at) rest))
unfolding put_all step_of with_top digit_put give
digits_lead p c at rest [] s = leads_skip p (moved c at (Missing ∷ rest)) (moved c (suc at) rest) code.Digits s (λ st. refl) (leads_give p (give (moved c (suc at) rest)) (λ _. give (moved c (suc at) rest)) tt (λ st. refl))
digits_lead p c at rest (d ∷ ds) s =
    leads_first p (moved c at (Word d ∷ (map Word ds ++ Missing ∷ rest))) (put d >>= λ _. give (moved c at (map Word ds ++ Missing ∷ rest))) code.Digits s (λ st. refl)
    (leads_then p (λ _. give (moved c at (map Word ds ++ Missing ∷ rest))) (leads_self p (put d) (λ _. give (moved c at (map Word ds ++ Missing ∷ rest))) (kept (put_follows d))) (λ _. digits_lead p c at rest ds s))

two_on : (at to : ℕ) → to ≡ at + 2 → suc (suc at) ≡ to
two_on at to e = omega (arith, e)

hex_shows : (p : Bounded) → Shows p (code.Hex ∷ code.Digits ∷ []) (λ v. of_word v (λ n. put_all (digits 16 false n)))
unfolding step_of with_top
hex_shows p c at to v rest e s =
    leads_first p (moved c at (v ∷ rest)) (of_word v (λ n. give (moved c (suc at) (map Word (digits 16 false n) ++ Missing ∷ rest)))) code.Hex s.0 (λ st. refl)
    (of_word_leads p v (λ n. give (moved c (suc at) (map Word (digits 16 false n) ++ Missing ∷ rest))) (λ n. put_all (digits 16 false n)) (λ _. give (moved c to rest))
    (λ n. leads_to p (λ _. give (moved c (suc (suc at)) rest)) (λ _. give (moved c to rest)) (λ _ st. ap (λ k. give (moved c k rest) st) (two_on at to e)) (digits_lead p c (suc at) rest (digits 16 false n) s.1.0)))

-- ---- strings

put_string_keeps : {depth : ℕ} (cells : List Cell) → Keeps depth (put_string false cells)
unfolding put_string paid
put_string_keeps [] = undefined_keeps (Unit {0}) OutsideObject refl
put_string_keeps (Unset ∷ cells) = undefined_keeps (Unit {0}) UnsetCell refl
put_string_keeps (Holds (Word zero) ∷ cells) = give_keeps tt
put_string_keeps {depth = depth} (Holds (Word (suc n)) ∷ cells) = λ st lt. spend_keeps depth (put (suc n) >>= λ _. put_string false cells) (keeps_then _ _ (kept (put_follows (suc n))) (λ _. put_string_keeps cells)) st st.left refl (more st.left depth lt)
  where
    more : (l depth : ℕ) → l < depth → l < suc depth
    more l depth lt = omega (arith, lt)
put_string_keeps (Holds Null ∷ cells) = undefined_keeps (Unit {0}) OtherKind refl
put_string_keeps (Holds (Point o k) ∷ cells) = undefined_keeps (Unit {0}) OtherKind refl
put_string_keeps (Holds (Letter g i text k) ∷ cells) = undefined_keeps (Unit {0}) OtherKind refl
put_string_keeps (Holds (Function name) ∷ cells) = undefined_keeps (Unit {0}) OtherKind refl
put_string_keeps (Holds Missing ∷ cells) = undefined_keeps (Unit {0}) OtherKind refl

next_drop : (cells ys : List Cell) (k : ℕ) (y : Cell) → y ∷ ys ≡ drop k cells → ys ≡ drop (suc k) cells
next_drop [] ys zero y e = absurd (cc e)
next_drop [] ys (suc k) y e = absurd (cc e)
next_drop (x ∷ cells) ys zero y e = cc e
next_drop (x ∷ cells) ys (suc k) y e = next_drop cells ys k y e

next_from : (cells : Option (List Cell)) (ys : List Cell) (k : ℕ) (y : Cell) → y ∷ ys ≡ cells_from cells k → ys ≡ cells_from cells (suc k)
next_from None ys k y e = absurd (cc e)
next_from (Some cells) ys k y e = next_drop cells ys k y e

next_cells : (os : List Object) (v : Value) (ys : List Cell) (y : Cell) → y ∷ ys ≡ cells_from (cells_at os v) (offset_of v) → ys ≡ cells_from (cells_at os (at_offset v (suc (offset_of v)))) (offset_of (at_offset v (suc (offset_of v))))
next_cells os (Point o k) ys y e = next_from (live_cells (slice_get os o)) ys k y e
next_cells os (Letter g i text k) ys y e = next_from (Some (letters text)) ys k y e
next_cells os (Word n) ys y e = absurd (cc e)
next_cells os Null ys y e = absurd (cc e)
next_cells os (Function name) ys y e = absurd (cc e)
next_cells os Missing ys y e = absurd (cc e)

one_first : (k n : ℕ) → suc k + n ≡ suc (k + n)
one_first k n = omega arith

none_first : (n : ℕ) → zero + n ≡ n
none_first n = omega arith

text_step : (p : Bounded) (c : Control) (at : ℕ) (rest : List Value) → slice_get p.program.instructions at ≡ Some code.Text → (cells : List Cell) (v : Value) (st : State) → cells ≡ cells_from (cells_at st.objects v) (offset_of v) → (j : ℕ) →
    drive p.program (suc j) (moved c at (v ∷ rest)) st ≡ after (letter_put (moved c at (v ∷ rest)) rest v cells st) (λ d. drive p.program j d)
unfolding drive step_at step_of with_top objects_now ◌>>=◌ after
text_step p c at rest s cells v st e j =
    ap (λ o. after (step_at p.program o (moved c at (v ∷ rest)) st) (λ d. drive p.program j d)) s ∙ ap (λ xs. after (letter_put (moved c at (v ∷ rest)) rest v xs st) (λ d. drive p.program j d)) (sym e)

text_paid : (p : Bounded) (c : Control) (at : ℕ) (rest : List Value) → slice_get p.program.instructions at ≡ Some code.Text → (x : ℕ) (cells : List Cell) (v : Value) (st : State) (l : ℕ) →
    ((st1 : State) → st1.objects ≡ st.objects → (k : ℕ) × ((n : ℕ) → drive p.program (k + n) (moved c at (at_offset v (suc (offset_of v)) ∷ rest)) st1 ≡ after (put_string false cells st1) (λ _. drive p.program n (moved c (suc at) rest)))) →
    (k : ℕ) × ((n : ℕ) → after (spend (put (suc x) >>= λ _. give (moved c at (at_offset v (suc (offset_of v)) ∷ rest))) l st) (λ d. drive p.program (k + n) d) ≡ after (spend (put (suc x) >>= λ _. put_string false cells) l st) (λ _. drive p.program n (moved c (suc at) rest)))
unfolding spend put ◌>>=◌ after give
text_paid p c at rest s x cells v st zero t = (zero, λ n. refl)
text_paid p c at rest s x cells v st (suc l) t = let r = t (record st { left = l; output = _ }) refl in (r.0, r.1)

text_runs : (p : Bounded) (c : Control) (at : ℕ) (rest : List Value) → slice_get p.program.instructions at ≡ Some code.Text → (cells : List Cell) (v : Value) (st : State) → cells ≡ cells_from (cells_at st.objects v) (offset_of v) →
    (k : ℕ) × ((n : ℕ) → drive p.program (k + n) (moved c at (v ∷ rest)) st ≡ after (put_string false cells st) (λ _. drive p.program n (moved c (suc at) rest)))
unfolding put_string letter_put paid undefined give after
text_runs p c at rest s [] v st e = (suc zero, λ n. ap (λ k. drive p.program k (moved c at (v ∷ rest)) st) (one_first zero n) ∙ text_step p c at rest s [] v st e (zero + n))
text_runs p c at rest s (Unset ∷ cells) v st e = (suc zero, λ n. ap (λ k. drive p.program k (moved c at (v ∷ rest)) st) (one_first zero n) ∙ text_step p c at rest s (Unset ∷ cells) v st e (zero + n))
text_runs p c at rest s (Holds (Word zero) ∷ cells) v st e =
    (suc zero, λ n. ap (λ k. drive p.program k (moved c at (v ∷ rest)) st) (one_first zero n) ∙ (text_step p c at rest s (Holds (Word zero) ∷ cells) v st e (zero + n) ∙ ap (λ k. drive p.program k (moved c (suc at) rest) st) (none_first n)))
text_runs p c at rest s (Holds (Word (suc x)) ∷ cells) v st e =
    let r = text_paid p c at rest s x cells v st st.left (λ st1 f. text_runs p c at rest s cells (at_offset v (suc (offset_of v))) st1 (later st1 f)) in
    (suc r.0, λ n. ap (λ k. drive p.program k (moved c at (v ∷ rest)) st) (one_first r.0 n) ∙ (text_step p c at rest s (Holds (Word (suc x)) ∷ cells) v st e (r.0 + n) ∙ r.1 n))
  where
    later : (st1 : State) → st1.objects ≡ st.objects → cells ≡ cells_from (cells_at st1.objects (at_offset v (suc (offset_of v)))) (offset_of (at_offset v (suc (offset_of v))))
    later st1 f = next_cells st.objects v cells (Holds (Word (suc x))) e ∙ ap (λ os. cells_from (cells_at os (at_offset v (suc (offset_of v)))) (offset_of (at_offset v (suc (offset_of v))))) (sym f)
text_runs p c at rest s (Holds Null ∷ cells) v st e = (suc zero, λ n. ap (λ k. drive p.program k (moved c at (v ∷ rest)) st) (one_first zero n) ∙ text_step p c at rest s (Holds Null ∷ cells) v st e (zero + n))
text_runs p c at rest s (Holds (Point o k) ∷ cells) v st e = (suc zero, λ n. ap (λ k. drive p.program k (moved c at (v ∷ rest)) st) (one_first zero n) ∙ text_step p c at rest s (Holds (Point o k) ∷ cells) v st e (zero + n))
text_runs p c at rest s (Holds (Letter g i text k) ∷ cells) v st e =
    (suc zero, λ n. ap (λ k. drive p.program k (moved c at (v ∷ rest)) st) (one_first zero n) ∙ text_step p c at rest s (Holds (Letter g i text k) ∷ cells) v st e (zero + n))
text_runs p c at rest s (Holds (Function name) ∷ cells) v st e =
    (suc zero, λ n. ap (λ k. drive p.program k (moved c at (v ∷ rest)) st) (one_first zero n) ∙ text_step p c at rest s (Holds (Function name) ∷ cells) v st e (zero + n))
text_runs p c at rest s (Holds Missing ∷ cells) v st e = (suc zero, λ n. ap (λ k. drive p.program k (moved c at (v ∷ rest)) st) (one_first zero n) ∙ text_step p c at rest s (Holds Missing ∷ cells) v st e (zero + n))

text_shows : (p : Bounded) → Shows p (code.Text ∷ []) (λ v. put_string_at false v)
unfolding put_string_at objects_now ◌>>=◌ after give
text_shows p c at to v rest e s =
    leads_to p (λ _. give (moved c (suc at) rest)) (λ _. give (moved c to rest)) (λ _ st. ap (λ k. give (moved c k rest) st) (one_on at to e))
    (record { leads = λ st lt. text_runs p c at rest s.0 (cells_from (cells_at st.objects v) (offset_of v)) v st refl; keeps = λ st lt. put_string_keeps (cells_from (cells_at st.objects v) (offset_of v)) st lt })

-- ---- formats

shows_if : (p : Bounded) (b : Bool) (is js : List Instruction) (f g : Value → Run (Unit {0})) → Shows p is f → Shows p js g → Shows p (if b then is else js) (λ v. if b then f v else g v)
shows_if p true is js f g t u = t
shows_if p false is js f g t u = u

convert_shows : (p : Bounded) (letter : ℕ) → Shows p (convert_code letter) (λ v. convert false letter v)
unfolding convert
convert_shows p letter =
    shows_if p (letter == 100) _ _ _ _ (decimal_shows p)
    (shows_if p (letter == 117) _ _ _ _ (unsigned_shows p) (shows_if p (letter == 120) _ _ _ _ (hex_shows p) (shows_if p (letter == 99) _ _ _ _ (character_shows p) (text_shows p))))

-- code that does this with values on the stack, the first one on top, and leaves that there was no value in their place
abbrev Prints : Bounded → List Instruction → List Value → Run (Unit {0}) → Type 0
Prints p is vs m = (c : Control) (at to : ℕ) (stack : List Value) → to ≡ at + length is → Stands p.program at is → Leads p (give (moved c at (vs ++ stack))) (m >>= λ _. give Missing) (λ v. give (moved c to (v ∷ stack)))

prints_if : (p : Bounded) (b : Bool) (is js : List Instruction) (vs : List Value) (m m' : Run (Unit {0})) → Prints p is vs m → Prints p js vs m' → Prints p (if b then is else js) vs (if b then m else m')
prints_if p true is js vs m m' t u = t
prints_if p false is js vs m m' t u = u

all_dropped : (vs stack : List Value) → drop (length vs) (vs ++ stack) ≡ stack
all_dropped [] stack = refl
all_dropped (v ∷ vs) stack = all_dropped vs stack

nothing_prints : (p : Bounded) (vs : List Value) → Prints p (code.Printed (length vs) ∷ []) vs (give tt)
unfolding step_of give ◌>>=◌ after
nothing_prints p vs c at to stack e s =
    leads_as p (give Missing) _ (λ st. refl)
    (leads_skip p (moved c at (vs ++ stack)) (moved c to (Missing ∷ stack)) (code.Printed (length vs)) s.0
    (λ st. ap (λ xs. Gives (moved c (suc at) (Missing ∷ xs)) st) (all_dropped vs stack) ∙ ap (λ k. Gives (moved c k (Missing ∷ stack)) st) (one_on at to e))
    (leads_give p (give (moved c to (Missing ∷ stack))) (λ v. give (moved c to (v ∷ stack))) Missing (λ st. refl)))

stuck_prints : (p : Bounded) (vs : List Value) → Prints p (code.Stuck ∷ []) vs (undefined OtherKind)
unfolding step_of undefined ◌>>=◌ after
stuck_prints p vs c at to stack e s =
    leads_as p (undefined OtherKind) _ (λ st. refl) (leads_first p (moved c at (vs ++ stack)) (undefined OtherKind) code.Stuck s.0 (λ st. refl) (undefined_leads p OtherKind (λ v. give (moved c to (v ∷ stack))) refl))

next_place : (at to k : ℕ) → to ≡ at + suc k → to ≡ suc at + k
next_place at to k e = omega (arith, e)

put_prints : (p : Bounded) (x : ℕ) (is : List Instruction) (vs : List Value) (m : Run (Unit {0})) → Prints p is vs m → Prints p (code.Put x ∷ is) vs (put x >>= λ _. m)
unfolding step_of
put_prints p x is vs m t c at to stack e s =
    leads_as p (put x >>= λ _. (m >>= λ _. give Missing)) _ (λ st. in_parts (put x) (λ _. m) (λ _. give Missing) st)
    (leads_first p (moved c at (vs ++ stack)) (put x >>= λ _. give (moved c (suc at) (vs ++ stack))) (code.Put x) s.0 (λ st. refl)
    (leads_then p (λ _. give (moved c (suc at) (vs ++ stack))) (leads_self p (put x) (λ _. give (moved c (suc at) (vs ++ stack))) (kept (put_follows x))) (λ _. t c (suc at) to stack (next_place at to (length is) e) s.1)))

convert_prints : (p : Bounded) (is js : List Instruction) (v : Value) (vs : List Value) (g : Value → Run (Unit {0})) (m : Run (Unit {0})) → Shows p is g → Prints p js vs m → Prints p (is ++ js) (v ∷ vs) (g v >>= λ _. m)
convert_prints p is js v vs g m t u c at to stack e s =
    leads_as p (g v >>= λ _. (m >>= λ _. give Missing)) _ (λ st. in_parts (g v) (λ _. m) (λ _. give Missing) st)
    (leads_then p (λ _. give (moved c (at + length is) (vs ++ stack))) (t c at (at + length is) v (vs ++ stack) refl (stands_first p.program at is js s))
    (λ _. u c (at + length is) to stack (end_place at to is js e) (stands_rest p.program at (at + length is) is js refl s)))

pieces_print : (p : Bounded) (percent : Bool) (format : List ℕ) (vs : List Value) → Prints p (pieces percent format (length vs)) vs (put_format false percent format vs)
unfolding put_format with_argument
pieces_print p percent [] vs = nothing_prints p vs
pieces_print p false (x ∷ format) vs = prints_if p (x == 37) _ _ vs _ _ (pieces_print p true format vs) (put_prints p x _ vs _ (pieces_print p false format vs))
pieces_print p true (x ∷ format) [] = prints_if p (x == 37) _ _ [] _ _ (put_prints p x _ [] _ (pieces_print p false format [])) (stuck_prints p [])
pieces_print p true (x ∷ format) (v ∷ vs) =
    prints_if p (x == 37) _ _ (v ∷ vs) _ _ (put_prints p x _ (v ∷ vs) _ (pieces_print p false format (v ∷ vs))) (convert_prints p (convert_code x) _ v vs (λ w. convert false x w) _ (convert_shows p x) (pieces_print p false format vs))

-- arguments that were pushed one after the other come to stand the other way round
turned_leads : {A : Type 0} (p : Bounded) (c : Control) (count : ℕ) (stack vs : List Value) {m : Run A} {h : A → Run Control} → length vs ≡ count → slice_get p.program.instructions c.at ≡ Some (code.Turn count) → c.stack ≡ push_all stack vs →
    Leads p (give (moved c (suc c.at) (vs ++ stack))) m h → Leads p (give c) m h
unfolding step_of give
turned_leads p c count stack vs l s f t =
    leads_skip p c (moved c (suc c.at) (vs ++ stack)) (code.Turn count) s
    (λ st. ap (λ xs. Gives (moved c (suc c.at) (arguments count xs ++ drop count xs)) st) f
    ∙ (ap (λ xs. Gives (moved c (suc c.at) (xs ++ drop count (push_all stack vs))) st) (arguments_are vs stack count l) ∙ ap (λ xs. Gives (moved c (suc c.at) (vs ++ xs)) st) (rest_is vs stack count l))) t

pub print_leads : (p : Bounded) (c : Control) (format : Option (List ℕ)) (count : ℕ) (stack vs : List Value) (to : ℕ) → length vs ≡ count → to ≡ c.at + length (print_code format count) → Stands p.program c.at (print_code format count) → c.stack ≡ push_all stack vs →
    Leads p (give c) (printf false format vs) (λ v. give (moved c to (v ∷ stack)))
unfolding printf step_of
print_leads p c None count stack vs to l e s f = leads_first p c (undefined OtherKind) code.Stuck s.0 (λ st. refl) (undefined_leads p OtherKind (λ v. give (moved c to (v ∷ stack))) refl)
print_leads p c (Some format) count stack vs to l e s f =
    turned_leads p c count stack vs l s.0 f
    (pieces_print p false format vs c (suc c.at) to stack (next_place c.at to (length (pieces false format (length vs))) (e ∙ ap (λ k. c.at + suc (length (pieces false format k))) (sym l))) (subst (λ k. Stands p.program (suc c.at) (pieces false format k)) (sym l) s.1))

-- ---- `puts`

after_five : (at to : ℕ) → to ≡ at + 5 → suc (suc (suc (suc (suc at)))) ≡ to
after_five at to e = omega (arith, e)

puts_end : (p : Bounded) (c : Control) (at to : ℕ) (v : Value) (vs stack : List Value) → to ≡ at + 5 → Stands p.program at (code.Text ∷ code.Put 10 ∷ code.Printed (length vs) ∷ code.Drop ∷ code.Push (Word 0) ∷ []) →
    Leads p (give (moved c at (v ∷ (vs ++ stack)))) (put_string_at false v >>= λ _. put 10 >>= λ _. give (Word 0)) (λ w. give (moved c to (w ∷ stack)))
unfolding step_of with_top give
puts_end p c at to v vs stack e s =
    leads_then p (λ _. give (moved c (suc at) (vs ++ stack))) (text_shows p c at (suc at) v (vs ++ stack) (one_more at) (s.0, tt))
    (λ _. leads_first p (moved c (suc at) (vs ++ stack)) (put 10 >>= λ _. give (moved c (suc (suc at)) (vs ++ stack))) (code.Put 10) s.1.0 (λ st. refl)
    (leads_then p (λ _. give (moved c (suc (suc at)) (vs ++ stack))) (leads_self p (put 10) (λ _. give (moved c (suc (suc at)) (vs ++ stack))) (kept (put_follows 10)))
    (λ _. leads_skip p (moved c (suc (suc at)) (vs ++ stack)) (moved c (suc (suc (suc at))) (Missing ∷ stack)) (code.Printed (length vs)) s.1.1.0 (λ st. ap (λ xs. Gives (moved c (suc (suc (suc at))) (Missing ∷ xs)) st) (all_dropped vs stack))
    (leads_skip p (moved c (suc (suc (suc at))) (Missing ∷ stack)) (moved c (suc (suc (suc (suc at)))) stack) code.Drop s.1.1.1.0 (λ st. refl)
    (leads_skip p (moved c (suc (suc (suc (suc at)))) stack) (moved c to (Word 0 ∷ stack)) (code.Push (Word 0)) s.1.1.1.1.0 (λ st. ap (λ k. Gives (moved c k (Word 0 ∷ stack)) st) (after_five at to e))
    (leads_give p (give (moved c to (Word 0 ∷ stack))) (λ w. give (moved c to (w ∷ stack))) (Word 0) (λ st. refl)))))))
  where
    one_more : (at : ℕ) → suc at ≡ at + 1
    one_more at = omega arith

puts_first : (params : CTypes) (p : Bounded) (c : Control) (at to : ℕ) (v : Value) (vs stack : List Value) → to ≡ at + length (first_converted params ++ (code.Text ∷ code.Put 10 ∷ code.Printed (length vs) ∷ code.Drop ∷ code.Push (Word 0) ∷ [])) →
    Stands p.program at (first_converted params ++ (code.Text ∷ code.Put 10 ∷ code.Printed (length vs) ∷ code.Drop ∷ code.Push (Word 0) ∷ [])) →
    Leads p (give (moved c at (v ∷ (vs ++ stack)))) (with_one (all_converted params (v ∷ vs)) (λ x. put_string_at false x >>= λ _. put 10 >>= λ _. give (Word 0))) (λ w. give (moved c to (w ∷ stack)))
unfolding with_one step_of with_top give
puts_first NoType p c at to v vs stack e s = puts_end p c at to v vs stack e s
puts_first (MoreType t ts) p c at to v vs stack e s =
    leads_skip p (moved c at (v ∷ (vs ++ stack))) (moved c (suc at) (converted t v ∷ (vs ++ stack))) (code.Convert t) s.0 (λ st. refl) (puts_end p c (suc at) to (converted t v) vs stack (next_place at to 5 e) s.1)

none_converted : (params : CTypes) → all_converted params [] ≡ []
none_converted NoType = refl
none_converted (MoreType t ts) = refl

puts_lead : (params : CTypes) (p : Bounded) (c : Control) (stack vs : List Value) (to : ℕ) → to ≡ c.at + length (puts_code params (length vs)) → Stands p.program c.at (puts_code params (length vs)) → c.stack ≡ push_all stack vs →
    Leads p (give c) (with_one (all_converted params vs) (λ x. put_string_at false x >>= λ _. put 10 >>= λ _. give (Word 0))) (λ w. give (moved c to (w ∷ stack)))
unfolding with_one step_of
puts_lead params p c stack [] to e s f =
    subst (λ xs. Leads p (give c) (with_one xs (λ x. put_string_at false x >>= λ _. put 10 >>= λ _. give (Word 0))) (λ w. give (moved c to (w ∷ stack)))) (sym (none_converted params))
    (leads_first p c (undefined OtherKind) code.Stuck s.0 (λ st. refl) (undefined_leads p OtherKind (λ w. give (moved c to (w ∷ stack))) refl))
puts_lead params p c stack (v ∷ vs) to e s f = turned_leads p c (suc (length vs)) stack (v ∷ vs) refl s.0 f (puts_first params p c (suc c.at) to v vs stack (next_place c.at to _ e) s.1)

pub puts_leads : (p : Bounded) (c : Control) (name : List ℕ) (params : CTypes) (count : ℕ) (stack vs : List Value) (to : ℕ) → name ≡ codes "puts" → length vs ≡ count → to ≡ c.at + length (puts_code params count) → Stands p.program c.at (puts_code params count) → c.stack ≡ push_all stack vs →
    Leads p (give c) (built_in p.program.input false name (all_converted params vs)) (λ w. give (moved c to (w ∷ stack)))
unfolding built_in
puts_leads p c name params count stack vs to g l e s f =
    subst (λ name. Leads p (give c) (built_in p.program.input false name (all_converted params vs)) (λ w. give (moved c to (w ∷ stack)))) (sym g)
    (puts_lead params p c stack vs to (e ∙ ap (λ k. c.at + length (puts_code params k)) (sym l)) (subst (λ k. Stands p.program c.at (puts_code params k)) (sym l) s) f)
