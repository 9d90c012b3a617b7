-- Tokens that were read.
use Rattle.std.proofs.Common.{◌≡◌, ℕ, zero, suc, ◌+◌, ◌<◌, ◌≤◌, Bool, true, false, List, [], ◌∷◌, ◌++◌, Option, Some, None, length, take, drop, refl, sym, ap, ◌∙◌, subst, arith}
use Rattle.std.specs.Prelude.{slice_get, get_or}
use Rattle.c_syntax.specs.declared.token.Token.{Token}
use Rattle.c_syntax.specs.Plain.{CUnit}
use Rattle.c_grammar.specs.Class.{class_of}
use Rattle.c_grammar.specs.declared.names.Class.TheVariants as class
use Rattle.c_grammar.specs.Grammar.{rhs}
use Rattle.c_grammar.specs.declared.names.Production.TheVariants.{Whole}
use Rattle.c_grammar.specs.Machine as tokens
use Rattle.c_grammar.specs.Values as machine
use Rattle.c_grammar.specs.Values.{Open, At, ValueList, nil, depth_of, tree_of, then_run}
use Rattle.c_grammar.specs.Spells.{Spells, IsFirstBad, IsDeepAt, IsShallowBefore, IsSyntaxAt, IsTooDeepAt, IsUnitWithin}
use Rattle.c_grammar.proofs.Valued.{values_are_read, image_of, refused, counted_deep, counted_shallow, read_whole}
use Rattle.c_grammar.proofs.Endings.{WholeRead, end_is_whole}
use Rattle.c_held.specs.View.{values_of, row_of}
use Rattle.c_frames.specs.declared.frame.Frame.{Frame}
use Rattle.c_frames.specs.Stack.{open_of, opens, IsSound, AreSound, StandsOn, Stands}
use Rattle.c_progress.specs.Progress.{Reads}
use Rattle.c_parse.specs.Answer.{EndsInEnd, IsSmall, IsRead, ReadsOn, Refuses, Fails}
use Rattle.c_parse.specs.declared.fault.ParseFault.{ParseFault}
use Rattle.c_parse.specs.declared.fault.ParseFault.TheVariants.{Syntax, TooDeep, TooLarge, Memory}
use Rattle.c_progress.proofs.Begins.{whole_there}

take_next : (ts : List Token) (i : ℕ) (t : Token) → Some t ≡ slice_get ts i → take (suc i) ts ≡ take i ts ++ t ∷ []
take_next [] i t h = absurd (cc (h))
take_next (x ∷ xs) zero t h = ap (λ z. z ∷ []) (sym (cc (h)))
take_next (x ∷ xs) (suc i) t h = ap (λ z. x ∷ z) (take_next xs i t h)

there : (ts : List Token) (i : ℕ) (t : Token) → Some t ≡ slice_get ts i → i < length ts
there [] i t h = absurd (cc (h))
there (x ∷ xs) zero t h = omega arith
there (x ∷ xs) (suc i) t h = let r : i < length xs = there xs i t h in omega (arith, r)

take_whole : (ts : List Token) → take (length ts) ts ≡ ts
take_whole [] = refl
take_whole (x ∷ xs) = ap (λ z. x ∷ z) (take_whole xs)

same : {X : Type 0} (x y : X) → Some x ≡ Some y → x ≡ y
same x y h = cc (h)

-- one token more
run_one : (o : Option (List Open)) → then_run o (machine.run []) ≡ o
unfolding then_run
run_one None = refl
run_one (Some s) = refl

run_after : (xs : List Token) (t : Token) (r : List Open) (o : Option (List Open)) → ((s : List Open) → machine.run xs s ≡ Some r → machine.run (xs ++ t ∷ []) s ≡ machine.step r t) → then_run o (machine.run xs) ≡ Some r → then_run o (machine.run (xs ++ t ∷ [])) ≡ machine.step r t
unfolding then_run
run_after xs t r None k h = absurd (cc (h))
run_after xs t r (Some s) k h = k s h

run_last : (ts : List Token) (t : Token) (s r : List Open) → machine.run ts s ≡ Some r → machine.run (ts ++ t ∷ []) s ≡ machine.step r t
run_last [] t s r h = run_one (machine.step s t) ∙ ap (λ z. machine.step z t) (same s r h)
run_last (x ∷ xs) t s r h = run_after xs t r (machine.step s x) (λ s'. run_last xs t s' r) h

run_next : (ts : List Token) (i : ℕ) (t : Token) (r : List Open) → Some t ≡ slice_get ts i → machine.run (take i ts) machine.start ≡ Some r → machine.run (take (suc i) ts) machine.start ≡ machine.step r t
run_next ts i t r e h = ap (λ z. machine.run z machine.start) (take_next ts i t e) ∙ run_last (take i ts) t machine.start r h

data Lower (i j : ℕ) : Type 0 where
  Less : j < i → Lower i j
  Equal : j ≡ i → Lower i j

lower_above : (i j : ℕ) → Lower i j → Lower (suc i) (suc j)
lower_above i j (Less h) = Less (omega (arith, h))
lower_above i j (Equal h) = Equal (ap suc h)

lower : (i j : ℕ) → j ≤ i → Lower i j
lower zero zero h = Equal refl
lower zero (suc j) h = absurd (omega (arith, h))
lower (suc i) zero h = Less (omega arith)
lower (suc i) (suc j) h = lower_above i j (lower i j (omega (arith, h)))

shallow_at : (ts : List Token) (i j : ℕ) → IsShallowBefore ts i → (IsDeepAt ts i → ⊥) → Lower i j → IsDeepAt ts j → ⊥
shallow_at ts i j h g (Less l) d = h j l d
shallow_at ts i j h g (Equal e) d = g (subst (IsDeepAt ts) e d)

shallow_more : (ts : List Token) (i : ℕ) → IsShallowBefore ts i → (IsDeepAt ts i → ⊥) → IsShallowBefore ts (suc i)
shallow_more ts i h g j lt = shallow_at ts i j h g (lower i j (omega (arith, lt)))

pub nothing_read : (ts : List Token) (fs : List Frame) → opens fs [] ≡ machine.start → AreSound fs [] → IsRead ts 0 fs
nothing_read ts fs e h =
    record {
      reads = none ts ∙ ap Some (sym e);
      sound = h;
      shallow = λ j lt. absurd (omega (arith, lt));
    }
  where
    none : (ts : List Token) → machine.run (take 0 ts) machine.start ≡ Some machine.start
    none [] = refl
    none (x ∷ xs) = refl

pub read_more : (ts : List Token) (i : ℕ) (t : Token) (old fs : List Frame) → Some t ≡ slice_get ts i → IsRead ts i old → ReadsOn t old fs → IsRead ts (suc i) fs
read_more ts i t old fs e a b =
    let r : machine.run (take (suc i) ts) machine.start ≡ Some (opens fs []) = run_next ts i t (opens old []) e a.reads ∙ b.steps in
    record {
      reads = r;
      sound = b.sound;
      shallow = shallow_more ts i a.shallow (counted_shallow ts i (opens fs []) (there ts i t e) r b.depth);
    }

pub fails_there : (fault : ParseFault) (ts : List Token) (i : ℕ) (t : Token) (old fs : List Frame) → Some t ≡ slice_get ts i → IsRead ts i old → Refuses fault t old fs → Fails ts fault
fails_there (Syntax p) ts i t old fs e a b =
    record {
      k = i;
      bad = refused ts i (opens old []) a.reads (run_next ts i t (opens old []) e a.reads ∙ b.0);
      shallow = a.shallow;
      place = (t, sym e, b.1);
    }
fails_there (TooDeep p) ts i t old fs e a b =
    record {
      k = i;
      deep = counted_deep ts i (opens fs []) (there ts i t e) (run_next ts i t (opens old []) e a.reads ∙ b.0) b.1;
      shallow = a.shallow;
      place = (t, sym e, b.2);
    }
fails_there TooLarge ts i t old fs e a b = absurd b
fails_there Memory ts i t old fs e a b = tt

-- where the end was read, a unit was
ends_whole : (ts : List Token) (e : Token) (s : List Open) → class_of e ≡ class.End → machine.run (ts ++ e ∷ []) machine.start ≡ Some s → (vs : ValueList) × (s ≡ machine.whole vs)
ends_whole ts e s ce h = on (tokens.run (ts ++ e ∷ []) tokens.start) refl
  where
    on : (o : Option (List tokens.Frame)) → tokens.run (ts ++ e ∷ []) tokens.start ≡ o → (vs : ValueList) × (s ≡ machine.whole vs)
    on None k = let x : Some s ≡ None = sym h ∙ values_are_read (ts ++ e ∷ []) ∙ ap image_of k in absurd (cc (x))
    on (Some r) k =
        let w = end_is_whole ts e r ce k in
        (machine.values_of w.kids, same s (machine.whole (machine.values_of w.kids)) (sym h ∙ values_are_read (ts ++ e ∷ []) ∙ ap image_of (k ∙ ap Some w.is_whole)))

pub whole_read : (ts : List Token) (fs : List Frame) → EndsInEnd ts → IsRead ts (length ts) fs → (vs : ValueList) × (opens fs [] ≡ machine.whole vs)
whole_read ts fs e h =
    ends_whole e.before e.last (opens fs []) e.is_end (ap (λ z. machine.run z machine.start) (sym (take_whole ts ∙ e.tokens_are)) ∙ h.reads)

pub unit_within : (ts : List Token) (fs : List Frame) (vs : ValueList) (tree : CUnit) → IsRead ts (length ts) fs → opens fs [] ≡ machine.whole vs → tree ≡ tree_of vs → IsUnitWithin ts tree
unit_within ts fs vs tree h e k =
    record {
      spells = subst (Spells ts) (sym k) (read_whole ts vs (ap (λ z. machine.run z machine.start) (sym (take_whole ts)) ∙ h.reads ∙ ap Some e));
      shallow = h.shallow;
    }

-- the parts of a whole text
whole_done : (f : Frame) (s : List Open) (vs : ValueList) → open_of f ∷ s ≡ machine.whole vs → values_of f.done.items ≡ vs
whole_done f s vs e = cc (e)

whole_left : (f : Frame) (s : List Open) (vs : ValueList) → open_of f ∷ s ≡ machine.whole vs → drop (length f.done.items) (rhs f.production) ≡ []
whole_left f s vs e = cc (e)

whole_production : (f : Frame) (s : List Open) (vs : ValueList) → open_of f ∷ s ≡ machine.whole vs → f.production ≡ Whole
whole_production f s vs e = cc (e)

two_places : length (rhs Whole) ≡ 2
unfolding rhs
two_places = refl

pub whole_parts : (f : Frame) (fs : List Frame) (o : List Open) (vs : ValueList) → o ≡ open_of f ∷ opens fs [] → o ≡ machine.whole vs → StandsOn f fs → length f.done.items ≡ 2
whole_parts f fs o vs a b h =
    let e : open_of f ∷ opens fs [] ≡ machine.whole vs = sym a ∙ b in
    whole_there f (opens fs []) h.frame (whole_left f (opens fs []) vs e) ∙ ap (λ p. length (rhs p)) (whole_production f (opens fs []) vs e) ∙ two_places

pub whole_values : (f : Frame) (s o : List Open) (vs : ValueList) → o ≡ open_of f ∷ s → o ≡ machine.whole vs → values_of f.done.items ≡ vs
whole_values f s o vs a b = whole_done f s vs (sym a ∙ b)

-- a token
pub read_on : (r : Option ℕ) (d : ℕ) (t : Token) (old fs : List Frame) → r ≡ Some d → Reads r fs (machine.step (opens old []) t) → d ≤ 256 → ReadsOn t old fs
read_on r d t old fs e h k =
    let g : Reads (Some d) fs (machine.step (opens old []) t) = subst (λ z. Reads z fs (machine.step (opens old []) t)) e h in
    record { steps = g.0; depth = subst (λ n. n ≤ 256) (sym g.1) k; sound = g.2 }

pub too_deep : (r : Option ℕ) (d p : ℕ) (t : Token) (old fs : List Frame) → r ≡ Some d → Reads r fs (machine.step (opens old []) t) → 256 < d → t.pos ≡ p → Refuses (TooDeep p) t old fs
too_deep r d p t old fs e h k q =
    let g : Reads (Some d) fs (machine.step (opens old []) t) = subst (λ z. Reads z fs (machine.step (opens old []) t)) e h in
    (g.0, subst (λ n. 256 < n) (sym g.1) k, q)

pub no_token : (r : Option ℕ) (p : ℕ) (t : Token) (old fs : List Frame) → r ≡ None → Reads r fs (machine.step (opens old []) t) → t.pos ≡ p → Refuses (Syntax p) t old fs
no_token r p t old fs e h q =
    let g : Reads None fs (machine.step (opens old []) t) = subst (λ z. Reads z fs (machine.step (opens old []) t)) e h in
    (g, q)

pub token_there : (ts : List Token) (i : ℕ) (t : Token) → i < length ts → t ≡ get_or ts i t → Some t ≡ slice_get ts i
token_there [] i t h e = absurd (omega (arith, h))
token_there (x ∷ xs) zero t h e = ap Some e
token_there (x ∷ xs) (suc i) t h e = token_there xs i t (omega (arith, h)) e

-- a stack that has read nothing
pub started : (f : Frame) (fs gs : List Frame) → fs ≡ [] → f.production ≡ Whole → f.done.items ≡ [] → f.row.items ≡ [] → Stands gs (open_of f ∷ opens fs []) → opens gs [] ≡ machine.start
started f fs gs e p d r h =
    h.opens_are
    ∙ ap (λ z. open_of f ∷ opens z []) e
    ∙ ap (λ q. At q (values_of f.done.items) (row_of f.row.items) (drop (length f.done.items) (rhs q)) ∷ []) p
    ∙ ap (λ xs. At Whole (values_of xs) (row_of f.row.items) (drop (length xs) (rhs Whole)) ∷ []) d
    ∙ ap (λ ms. At Whole nil (row_of ms) (rhs Whole) ∷ []) r

pub none_sound : (fs : List Frame) → fs ≡ [] → AreSound fs []
none_sound fs e = let P : List Frame → Type 0 = λ z. AreSound z [] in subst P (sym e) tt

-- a stack that has read a whole text is not empty
pub some_whole : (s : List Open) (vs : ValueList) → s ≡ [] → s ≡ machine.whole vs → ⊥
some_whole s vs a b = let e : [] ≡ machine.whole vs = sym a ∙ b in cc (e)
