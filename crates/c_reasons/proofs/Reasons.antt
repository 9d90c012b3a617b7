-- Judgements that aren't want of memory, and how they are put together.
use Rattle.std.proofs.Common.{◌≡◌, ◌≢◌, ℕ, Bool, true, false, List, [], ◌∷◌, ◌++◌, Option, Some, None, Ok, Err, if◌then◌else◌, refl, ap}
use Rattle.std.specs.Option.{option_map_or}
use Rattle.c_types.specs.declared.fault.TypeFault.{TypeFault}
use Rattle.c_types.specs.declared.fault.TypeFault.TheVariants as fault
use Rattle.c_types.specs.Refusals.{Judged, Rule, comes_before, least, least_of, after, both, all_three, broken, keeping}

-- the refusal lies in the text
abbrev pub Lies : TypeFault → Type 0
Lies e = e ≢ fault.Memory

pub unknown : (at : ℕ) → Lies (fault.Unknown at)
unknown at e = cc

pub twice : (at : ℕ) → Lies (fault.Twice at)
twice at e = cc

pub mismatch : (at : ℕ) → Lies (fault.Mismatch at)
mismatch at e = cc

pub no_place : (at : ℕ) → Lies (fault.NotLvalue at)
no_place at e = cc

pub bad_call : (at : ℕ) → Lies (fault.BadCall at)
bad_call at e = cc

pub no_main : (at : ℕ) → Lies (fault.NoMain at)
no_main at e = cc

pub too_large : Lies fault.TooLarge
too_large e = cc

-- a judgement is none of want of memory
abbrev Told : {A : Type 0} → Judged A → Type 0
Told (Ok a) = Unit {0}
Told (Err e) = Lies e

pub record HasReason {A : Type 0} (p : Judged A) : Type 0 where
  pub told : Told p

pub fine : {A : Type 0} (a : A) → HasReason (Ok a)
fine a = record { told = tt }

pub refuses : {A : Type 0} (e : TypeFault) → Lies e → HasReason {A = A} (Err e)
refuses e h = record { told = h }

first_by : (b : Bool) (d e : TypeFault) → Lies d → Lies e → Lies (if b then e else d)
first_by true d e h k = k
first_by false d e h k = h

least_lies : (d e : TypeFault) → Lies d → Lies e → Lies (least d e)
least_lies d e h k = first_by (comes_before e d) d e h k

pub after_has : {A B : Type 0} (p : Judged A) (f : A → Judged B) → HasReason p → ((a : A) → HasReason (f a)) → HasReason (after p f)
after_has (Ok a) f h k = k a
after_has (Err e) f h k = refuses e h.told

pub both_have : {A B C : Type 0} (p : Judged A) (q : Judged B) (f : A → B → Judged C) → HasReason p → HasReason q → ((a : A) (b : B) → HasReason (f a b)) → HasReason (both p q f)
both_have (Ok a) (Ok b) f h k own = own a b
both_have (Ok a) (Err e) f h k own = refuses e k.told
both_have (Err d) (Ok b) f h k own = refuses d h.told
both_have (Err d) (Err e) f h k own = refuses (least d e) (least_lies d e h.told k.told)

pub three_have : {A B C D : Type 0} (p : Judged A) (q : Judged B) (r : Judged C) (f : A → B → C → Judged D)
    → HasReason p → HasReason q → HasReason r → ((a : A) (b : B) (c : C) → HasReason (f a b c)) → HasReason (all_three p q r f)
three_have {A} {B} {C} {D} p q r f h k l own =
    both_have p (both {A = B} {B = C} {C = B × C} q r (λ y z. Ok (y, z))) (λ x yz. f x yz.0 yz.1) h
    (both_have {A = B} {B = C} {C = B × C} q r (λ y z. Ok (y, z)) k l (λ b c. fine (b, c))) (λ a bc. own a bc.0 bc.1)

pub if_has : {A : Type 0} (b : Bool) (p q : Judged A) → HasReason p → HasReason q → HasReason (if b then p else q)
if_has true p q h k = h
if_has false p q h k = k

-- what an option gives, or else a refusal
pub option_has : {A B : Type 0} (o : Option A) (f : A → Judged B) (p : Judged B) → ((a : A) → HasReason (f a)) → HasReason p → HasReason (option_map_or f o p)
option_has None f p h k = k
option_has (Some a) f p h k = h a

-- rules whose refusals lie in the text
abbrev pub HaveReasons : List Rule → Type 0
HaveReasons [] = Unit {0}
HaveReasons (rule ∷ rules) = Lies rule.1 × HaveReasons rules

abbrev pub MayLie : Option TypeFault → Type 0
MayLie None = Unit {0}
MayLie (Some e) = Lies e

least_of_lies : (e : TypeFault) (o : Option TypeFault) → Lies e → MayLie o → Lies (least_of e o)
least_of_lies e None h k = h
least_of_lies e (Some d) h k = least_lies e d h k

broken_by : (b : Bool) (e : TypeFault) (o : Option TypeFault) → Lies e → MayLie o → MayLie (if b then o else Some (least_of e o))
broken_by true e o h k = k
broken_by false e o h k = least_of_lies e o h k

broken_lies : (rules : List Rule) → HaveReasons rules → MayLie (broken rules)
broken_lies [] h = tt
broken_lies (rule ∷ rules) h = broken_by rule.0 rule.1 (broken rules) h.0 (broken_lies rules h.1)

abbrev chosen : {A : Type 0} → Option TypeFault → A → Judged A
chosen o a = option_map_or (λ e. Err e) o (Ok a)

kept_by : {A : Type 0} (o : Option TypeFault) (a : A) → MayLie o → HasReason (chosen o a)
kept_by None a h = fine a
kept_by (Some e) a h = refuses e h

pub keeping_has : {A : Type 0} (rules : List Rule) (a : A) → HaveReasons rules → HasReason (keeping rules a)
keeping_has rules a h = kept_by (broken rules) a (broken_lies rules h)

pub keeping_more : {A : Type 0} (b : Bool) (e : TypeFault) (rules : List Rule) (a : A) → Lies e → HaveReasons rules → HasReason (keeping ((b, e) ∷ rules) a)
keeping_more b e rules a h k = keeping_has ((b, e) ∷ rules) a (h, k)

pub keeping_one : {A : Type 0} (b : Bool) (e : TypeFault) (a : A) → Lies e → HasReason (keeping ((b, e) ∷ []) a)
keeping_one b e a h = keeping_more b e [] a h tt

pub keeping_two : {A : Type 0} (b c : Bool) (d e : TypeFault) (a : A) → Lies d → Lies e → HasReason (keeping ((b, d) ∷ (c, e) ∷ []) a)
keeping_two b c d e a h k = keeping_more b d ((c, e) ∷ []) a h (k, tt)

pub joined_have : (xs ys : List Rule) → HaveReasons xs → HaveReasons ys → HaveReasons (xs ++ ys)
joined_have [] ys h k = k
joined_have (x ∷ xs) ys h k = (h.0, joined_have xs ys h.1 k)

abbrev refused : {A : Type 0} → TypeFault → Judged A
refused e = Err e

one_refusal : {A : Type 0} (d e : TypeFault) → refused {A = A} d ≡ refused e → d ≡ e
one_refusal d e h = cc

-- what is read of a judgement
pub not_memory : {A : Type 0} (p : Judged A) → HasReason p → p ≢ refused fault.Memory
not_memory (Ok a) h e = cc
not_memory {A} (Err d) h e = h.told (one_refusal {A = A} d fault.Memory e)
