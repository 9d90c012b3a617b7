-- The last of a parser's stack is the first of the machine's.
use Rattle.std.proofs.Common.{◌≡◌, ℕ, zero, suc, ◌+◌, ◌-◌, ◌<◌, List, [], ◌∷◌, ◌++◌, Option, Some, None, Bool, true, false, length, drop, refl, sym, ap, ◌∙◌, subst, arith, add-zero}
use Rattle.std.specs.Prelude.{slice_get, if◌then◌else◌, Result, Ok, Err, IfOk, MatchOption}
use Rattle.std.specs.Option.{option_to_list}
use Rattle.c_grammar.specs.Grammar.{rhs, HasRoom}
use Rattle.c_grammar.specs.Nesting.{Context, Walk, Count, Hand, walk, place, counted, in_hand, counts, hands, is_operator, goes_on, other_counts, other_hands, outside}
use Rattle.c_grammar.specs.Values as machine
use Rattle.c_grammar.specs.Values.{Open, At, Value, ValueList, nil, cons, with_last, past_value, past_values, past_row, stars_in, all_stars_in, operators_in, later_in}
use Rattle.c_grammar.specs.declared.names.Symbol.{Symbol}
use Rattle.c_grammar.specs.declared.names.Production.{Production}
use Rattle.c_held.specs.View.{made_of, value_at, values_of, row_of}
use Rattle.c_held.specs.Shape.{StandsAt, StandAt}
use Rattle.c_held.specs.declared.value.Made.{Made}
use Rattle.c_held.specs.declared.value.Value.{Value as Held}
use Rattle.c_nesting.specs.Nested.{context_of, carries_at}
use Rattle.c_nesting.specs.declared.counts.Counted.{Counted}
use Rattle.c_frames.specs.Stack.{open_of, opens, walk_at, walk_of, IsSound, AreSound, StandsOn, Stands, StandsNext, Grows, GrowsByOne, IsCleared}
use Rattle.c_frames.specs.declared.frame.Frame.{Frame}
use Rattle.c_frames.proofs.Lists.{values_last, row_last, past_last, stars_last, past_row_sum, stand_last, next_counts, next_hands, later_is, last_split, drop_next}

pub opens_last : (fs : List Frame) (f : Frame) (s : List Open) → opens (fs ++ f ∷ []) s ≡ open_of f ∷ opens fs s
opens_last [] f s = refl
opens_last (g ∷ fs) f s = opens_last fs f (open_of g ∷ s)

sound_push : (fs : List Frame) (f : Frame) (s : List Open) → AreSound fs s → IsSound f (opens fs s) → AreSound (fs ++ f ∷ []) s
sound_push [] f s h g = (g, tt)
sound_push (x ∷ fs) f s h g = (h.0, sound_push fs f (open_of x ∷ s) h.1 g)

sound_rest : (fs : List Frame) (f : Frame) (s : List Open) → AreSound (fs ++ f ∷ []) s → AreSound fs s
sound_rest [] f s h = tt
sound_rest (x ∷ fs) f s h = (h.0, sound_rest fs f (open_of x ∷ s) h.1)

sound_last : (fs : List Frame) (f : Frame) (s : List Open) → AreSound (fs ++ f ∷ []) s → IsSound f (opens fs s)
sound_last [] f s h = h.0
sound_last (x ∷ fs) f s h = sound_last fs f (open_of x ∷ s) h.1

-- a stack with one more on top
pub pushed : (fs gs : List Frame) (f : Frame) → gs ≡ fs ++ f ∷ [] → StandsOn f fs → Stands gs (open_of f ∷ opens fs [])
pushed fs gs f e h =
    let P : List Frame → Type 0 = λ z. AreSound z [] in
    record {
      opens_are = ap (λ z. opens z []) e ∙ opens_last fs f [];
      sound = subst P (sym e) (sound_push fs f [] h.below h.frame);
    }

pub popped_opens : (fs gs : List Frame) (f : Frame) → gs ≡ fs ++ f ∷ [] → opens gs [] ≡ open_of f ∷ opens fs []
popped_opens fs gs f e = ap (λ z. opens z []) e ∙ opens_last fs f []

pub popped_stands : (fs gs : List Frame) (f : Frame) → gs ≡ fs ++ f ∷ [] → AreSound gs [] → StandsOn f fs
popped_stands fs gs f e h =
    let P : List Frame → Type 0 = λ z. AreSound z [] in
    let g : AreSound (fs ++ f ∷ []) [] = subst P e h in
    record { frame = sound_last fs f [] g; below = sound_rest fs f [] g }

-- what is counted above a production
abbrev pub with_declarator : Counted → ℕ → Context
with_declarator at n = record { rest = at.rest; declarator = n; cast = at.cast }

abbrev pub counted_above : Frame → Context → Context
counted_above f at = record { rest = at.rest; declarator = at.declarator + f.row_stars; cast = at.cast }

pub context_over : (f : Frame) (s : List Open) → IsSound f s → counted_above f (place (walk_of f)) ≡ machine.context_of (open_of f ∷ s)
context_over f s h =
    sym
    (past_row_sum (row_of f.row.items) (place (past_values (walk f.production (machine.context_of s)) (values_of f.done.items)))
    ∙ ap (λ w. over (place w) (all_stars_in (row_of f.row.items))) (sym h.walked)
    ∙ ap (over (place (walk_of f))) (sym h.stars))
  where
    over : Context → ℕ → Context
    over c n = record { rest = c.rest; declarator = c.declarator + n; cast = c.cast }

pub context_last : (fs : List Frame) (f : Frame) (c : Context) → AreSound fs [] → Some f ≡ slice_get fs (length fs - 1) → ((s : List Open) → IsSound f s → c ≡ machine.context_of (open_of f ∷ s)) → c ≡ machine.context_of (opens fs [])
context_last fs f c h e k =
    let r = last_split fs f e in
    let st : StandsOn f r.front = popped_stands r.front fs f r.is_split h in
    k (opens r.front []) st.frame ∙ sym (ap machine.context_of (popped_opens r.front fs f r.is_split))

pub context_none : (fs : List Frame) → None ≡ slice_get fs (length fs - 1) → outside ≡ machine.context_of (opens fs [])
context_none [] h = refl
context_none (x ∷ fs) h = absurd (none_there (x ∷ fs) (length (x ∷ fs) - 1) (omega arith) h)
  where
    none_there : (xs : List Frame) (i : ℕ) → i < length xs → None ≡ slice_get xs i → ⊥
    none_there [] i lt h = absurd (omega (arith, lt))
    none_there (y ∷ ys) zero lt h = cc (h)
    none_there (y ∷ ys) (suc i) lt h = none_there ys i (omega (arith, lt)) h

-- a production with no part
pub begun : (f : Frame) (p : Production) (fs : List Frame) → HasRoom p → AreSound fs [] → f.production ≡ p → f.done.items ≡ [] → f.row.items ≡ [] → f.row_stars ≡ 0 → context_of f.so_far ≡ machine.context_of (opens fs []) → StandsOn f fs
begun f p fs room below ep ed er es ec =
    record {
      frame = record {
        room = subst HasRoom (sym ep) room;
        stand = subst (StandAt (rhs f.production)) (sym ed) tt;
        walked = ap (λ n. walk_at f.production n (context_of f.so_far)) (ap length ed) ∙ ap (walk_at f.production 0) ec ∙ ap (λ xs. past_values (walk f.production (machine.context_of (opens fs []))) (values_of xs)) (sym ed);
        stars = es ∙ ap (λ xs. all_stars_in (row_of xs)) (sym er);
      };
      below = below;
    }

-- a value more
walk_next : (p : Production) (n : ℕ) (c : Context) (v : Value) → walk_at p (suc n) (record { rest = c.rest + later_in (carries_at p n) v; declarator = c.declarator + stars_in v; cast = c.cast }) ≡ past_value (walk_at p n c) v
walk_next p n c v = ap (λ z. walked z (drop (suc n) (hands p))) (sym (next_counts n (counts p))) ∙ ap (walked (other_counts (drop n (counts p)))) (sym (next_hands n (hands p)))
  where
    walked : List Count → List Hand → Walk
    walked ks hs = record { so_far = record { rest = c.rest + later_in (carries_at p n) v; declarator = c.declarator + stars_in v; cast = c.cast }; carries = goes_on p; then' = goes_on p; counts = ks; hands = hs }

pub length_more : (xs : List Held) (x : Held) → length (xs ++ x ∷ []) ≡ suc (length xs)
length_more [] x = refl
length_more (y ∷ ys) x = ap suc (length_more ys x)

-- what a value leaves counted behind it
abbrev pub counted_behind : Frame → ℕ → ℕ → Context
counted_behind f operators stars = record { rest = f.so_far.rest + (if carries_at f.production (length f.done.items) then operators else 0); declarator = f.so_far.declarator + stars; cast = f.so_far.cast }

sound_grown : (f g : Frame) (x : Held) (s : List Open) (k : Symbol) → g.production ≡ f.production → g.done.items ≡ f.done.items ++ x ∷ [] → g.row.items ≡ [] → g.row_stars ≡ 0 → context_of g.so_far ≡ counted_behind f (operators_in (value_at x)) (stars_in (value_at x)) → StandsAt k x → IsSound f s → StandsNext f k → IsSound g s
sound_grown f g x s k ep ed er es ec st h e =
    let n : ℕ = length f.done.items in
    let v : Value = value_at x in
    let next : Context = record { rest = f.so_far.rest + later_in (carries_at f.production n) v; declarator = f.so_far.declarator + stars_in v; cast = f.so_far.cast } in
    let c : context_of g.so_far ≡ next = ec ∙ ap (at_rest f v) (sym (later_is (carries_at f.production n) v)) in
    record {
      room = subst HasRoom (sym ep) h.room;
      stand = subst (λ p. StandAt (rhs p) g.done.items) (sym ep) (subst (StandAt (rhs f.production)) (sym ed) (stand_last (rhs f.production) f.done.items x k (drop (suc n) (rhs f.production)) h.stand (drop_next (rhs f.production) n k e) st));
      walked =
          ap (λ p. walk_at p (length g.done.items) (context_of g.so_far)) ep
          ∙ ap (λ m. walk_at f.production m (context_of g.so_far)) (ap length ed ∙ length_more f.done.items x)
          ∙ ap (walk_at f.production (suc n)) c
          ∙ walk_next f.production n (context_of f.so_far) v
          ∙ ap (λ w. past_value w v) h.walked
          ∙ sym (past_last (values_of f.done.items) (walk f.production (machine.context_of s)) v)
          ∙ ap (past_values (walk f.production (machine.context_of s))) (sym (values_last f.done.items x))
          ∙ ap (λ xs. past_values (walk f.production (machine.context_of s)) (values_of xs)) (sym ed)
          ∙ ap (λ p. past_values (walk p (machine.context_of s)) (values_of g.done.items)) (sym ep);
      stars = es ∙ ap (λ xs. all_stars_in (row_of xs)) (sym er);
    }
  where
    at_rest : Frame → Value → ℕ → Context
    at_rest f v n = record { rest = f.so_far.rest + n; declarator = f.so_far.declarator + stars_in v; cast = f.so_far.cast }

pub grown : (f g : Frame) (x : Held) (operators stars : ℕ) → operators ≡ operators_in (value_at x) → stars ≡ stars_in (value_at x) → g.production ≡ f.production → g.done.items ≡ f.done.items ++ x ∷ [] → g.row.items ≡ [] → g.row_stars ≡ 0 → context_of g.so_far ≡ counted_behind f operators stars → Grows f g x
grown f g x operators stars eo et ep ed er es ec =
    let c : context_of g.so_far ≡ counted_behind f (operators_in (value_at x)) (stars_in (value_at x)) = ec ∙ ap (λ n. counted_behind f n stars) eo ∙ ap (counted_behind f (operators_in (value_at x))) et in
    record {
      production = ep;
      done = ed;
      row = er;
      sound = λ fs k h e st. record { frame = sound_grown f g x (opens fs []) k ep ed er es c st h.frame e; below = h.below };
    }

-- with another row
kept : (f g : Frame) (s : List Open) → g.production ≡ f.production → g.done ≡ f.done → g.so_far ≡ f.so_far → g.row_stars ≡ all_stars_in (row_of g.row.items) → IsSound f s → IsSound g s
kept f g s ep ed ec es h =
    record {
      room = subst HasRoom (sym ep) h.room;
      stand = subst (λ p. StandAt (rhs p) g.done.items) (sym ep) (subst (λ d. StandAt (rhs f.production) d.items) (sym ed) h.stand);
      walked =
          ap (λ p. walk_at p (length g.done.items) (context_of g.so_far)) ep
          ∙ ap (λ d. walk_at f.production (length d.items) (context_of g.so_far)) ed
          ∙ ap (λ c. walk_at f.production (length f.done.items) (context_of c)) ec
          ∙ h.walked
          ∙ ap (λ d. past_values (walk f.production (machine.context_of s)) (values_of d.items)) (sym ed)
          ∙ ap (λ p. past_values (walk p (machine.context_of s)) (values_of g.done.items)) (sym ep);
      stars = es;
    }

pub row_grown : (f g : Frame) (m : Made) → g.production ≡ f.production → g.done ≡ f.done → g.so_far ≡ f.so_far → g.row.items ≡ f.row.items ++ m ∷ [] → g.row_stars ≡ f.row_stars + m.facts.stars → GrowsByOne f g m
row_grown f g m ep ed ec er es =
    record {
      production = ep;
      done = ap (λ d. d.items) ed;
      row = er;
      sound = λ fs h. record { frame = kept f g (opens fs []) ep ed ec (all f g m er es h.frame.stars) h.frame; below = h.below };
    }
  where
    all : (f g : Frame) (m : Made) → g.row.items ≡ f.row.items ++ m ∷ [] → g.row_stars ≡ f.row_stars + m.facts.stars → f.row_stars ≡ all_stars_in (row_of f.row.items) → g.row_stars ≡ all_stars_in (row_of g.row.items)
    all f g m er es h = es ∙ ap (λ z. z + m.facts.stars) h ∙ sym (stars_last (row_of f.row.items) (made_of m)) ∙ ap all_stars_in (sym (row_last f.row.items m)) ∙ ap (λ xs. all_stars_in (row_of xs)) (sym er)

pub cleared : (f g : Frame) → g.production ≡ f.production → g.done ≡ f.done → g.so_far ≡ f.so_far → g.row.items ≡ [] → g.row_stars ≡ 0 → IsCleared f g
cleared f g ep ed ec er es =
    record {
      production = ep;
      done = ap (λ d. d.items) ed;
      row = er;
      sound = λ fs h. record { frame = kept f g (opens fs []) ep ed ec (es ∙ ap (λ xs. all_stars_in (row_of xs)) (sym er)) h.frame; below = h.below };
    }

-- what grows without its row grows
pub row_placed : (f e g : Frame) (x : Held) → IsCleared f e → Grows e g x → Grows f g x
row_placed f e g x a b =
    record {
      production = b.production ∙ a.production;
      done = b.done ∙ ap (λ z. z ++ x ∷ []) a.done;
      row = b.row;
      sound = λ fs k h n st. b.sound fs k (a.sound fs h) (next k n) st;
    }
  where
    next : (k : Symbol) → StandsNext f k → StandsNext e k
    next k n = n ∙ ap (λ p. slice_get (rhs p) (length f.done.items)) (sym a.production) ∙ ap (λ xs. slice_get (rhs e.production) (length xs)) (sym a.done)

pub counted_over : (f : Frame) (at : Counted) (all : ℕ) (s : List Open) → context_of at ≡ place (walk_of f) → all ≡ at.declarator + f.row_stars → IsSound f s → with_declarator at all ≡ machine.context_of (open_of f ∷ s)
counted_over f at all s e k h = ap (with_declarator at) k ∙ ap (counted_above f) e ∙ context_over f s h

pub last_counted : {E : Type 0} (r : Result Counted E) (fs : List Frame) (f : Frame) → AreSound fs [] → Some f ≡ slice_get fs (length fs - 1) → IfOk r (λ c. (s : List Open) → IsSound f s → context_of c ≡ machine.context_of (open_of f ∷ s)) → IfOk r (λ c. context_of c ≡ machine.context_of (opens fs []))
last_counted (Ok c) fs f h e k = context_last fs f (context_of c) h e k
last_counted (Err x) fs f h e k = tt

-- what is taken from a stack
no_opens : (fs : List Frame) → length fs ≡ 0 → opens fs [] ≡ []
no_opens [] h = refl
no_opens (f ∷ fs) h = absurd (omega (arith, h))

none_sound : (fs : List Frame) → length fs ≡ 0 → AreSound fs []
none_sound [] h = tt
none_sound (f ∷ fs) h = absurd (omega (arith, h))

pub popped_top : (r : Option Frame) (old fs : List Frame) (a b : ℕ) → old ≡ fs ++ option_to_list r → MatchOption r ((a ≡ 0) × (b ≡ 0)) (λ _. b + 1 ≡ a) → a ≡ length old → MatchOption r (opens old [] ≡ []) (λ f. opens old [] ≡ open_of f ∷ opens fs [])
popped_top None old fs a b e h k = no_opens old (sym k ∙ h.0)
popped_top (Some f) old fs a b e h k = popped_opens fs old f e

pub popped_on : (r : Option Frame) (old fs : List Frame) (a b : ℕ) → old ≡ fs ++ option_to_list r → MatchOption r ((a ≡ 0) × (b ≡ 0)) (λ _. b + 1 ≡ a) → b ≡ length fs → AreSound old [] → MatchOption r (AreSound fs []) (λ f. StandsOn f fs)
popped_on None old fs a b e h k s = none_sound fs (sym k ∙ h.1)
popped_on (Some f) old fs a b e h k s = popped_stands fs old f e s

pub popped_len : (r : Option Frame) (old fs : List Frame) (a b : ℕ) → MatchOption r ((a ≡ 0) × (b ≡ 0)) (λ _. b + 1 ≡ a) → a ≡ length old → b ≡ length fs → MatchOption r (length fs ≡ 0) (λ _. length fs + 1 ≡ length old)
popped_len None old fs a b h k l = sym l ∙ h.1
popped_len (Some f) old fs a b h k l = omega (arith, h, k, l)
