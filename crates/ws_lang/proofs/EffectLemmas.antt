-- What an instruction does by the values that it meets is what the rule says.
use Rattle.std.proofs.Common.{◌≡◌, ℕ, suc, ◌+◌, Bool, true, false, cond, List, [], ◌∷◌, length, drop, Option, Some, None, ℤ, pos, negsuc, ◌+ℤ◌, ◌-ℤ◌, ◌*ℤ◌, refl, ap, ◌∙◌, arith, add-one}
use Rattle.std.specs.Prelude.{nat_lt, nat_le, int_lt, slice_get, is_some}
use Rattle.std.specs.declared.result.Result.{Result}
use Rattle.std.specs.declared.result.Result.TheVariants.{Ok, Err}
use Rattle.mach_core.specs.Sparse.{value_at}
use Rattle.ws_lang.specs.declared.effect.Effect.{Effect}
use Rattle.ws_lang.specs.declared.effect.Effect.TheVariants as effect
use Rattle.ws_lang.specs.Arithmetic.{ranged, answer_of}
use Rattle.ws_lang.specs.declared.arithmetic.Arithmetic.TheVariants as arithmetic
use Rattle.mach_core.specs.Integer.{is_zero, floor_quotient, floor_remainder, byte_of, is_in_range}
use Rattle.ws_lang.specs.Instruction.{Instruction, Push, Duplicate, Swap, Discard, Copy, Slide, Add, Subtract, Multiply, Divide, Modulo, Store, Retrieve, Mark, Call, Jump, JumpIfZero, JumpIfNegative, Return, End, WriteCharacter, WriteNumber, ReadCharacter, ReadNumber}
use Rattle.ws_lang.specs.Step.{Config, Act, Goes, Fails, with_top, with_two, computed, pushed, value_below, slid, onward, going_to, returning, act_of, is_taking}
use Rattle.ws_lang.specs.declared.resolved.Resolved.{Resolved}
use Rattle.ws_lang.specs.declared.resolved.Resolved.TheVariants as kind
use Rattle.ws_lang.specs.Resolved.{resolved_in}
use Rattle.ws_lang.specs.Stack.{pair_of, swapped}
use Rattle.ws_lang.specs.Effect.{act_for, on_top, on_two, answered, sliding, effect_of, takes_with}

top_is : (c : Config) (s : List ℤ) (make : ℤ → Effect) (act : ℤ → List ℤ → Act) → ((x : ℤ) (rest : List ℤ) → s ≡ x ∷ rest → act_for c (make x) ≡ act x rest) → act_for c (on_top (slice_get s 0) make) ≡ with_top s act
top_is c [] make act h = refl
top_is c (x ∷ rest) make act h = h x rest refl

two_is : (c : Config) (s : List ℤ) (make : ℤ → ℤ → Effect) (act : ℤ → ℤ → List ℤ → Act) → ((x y : ℤ) (rest : List ℤ) → s ≡ y ∷ x ∷ rest → act_for c (make x y) ≡ act x y rest) → act_for c (on_two (pair_of s) make) ≡ with_two s act
two_is c [] make act h = refl
two_is c (y ∷ []) make act h = refl
two_is c (y ∷ x ∷ rest) make act h = h x y rest refl

by_cond : (b : Bool) {A B : Type 0} (f : A → B) (x y : A) (z w : B) → f x ≡ z → f y ≡ w → f (cond b x y) ≡ cond b z w
by_cond true f x y z w e g = e
by_cond false f x y z w e g = g

ranged_is : (c : Config) (z x y : ℤ) (rest : List ℤ) → c.stack ≡ y ∷ x ∷ rest → act_for c (answered (ranged z)) ≡ computed c z rest
ranged_is c z x y rest e = by_cond (is_in_range z) (λ r. act_for c (answered r)) _ _ _ _ (ap (λ s. Goes (onward c (z ∷ drop 2 s))) e) refl

divided_is : (c : Config) (z x y : ℤ) (rest : List ℤ) → c.stack ≡ y ∷ x ∷ rest → act_for c (answered (cond (is_zero y) (Err 3) (ranged z))) ≡ cond (is_zero y) (Fails 3) (computed c z rest)
divided_is c z x y rest e = by_cond (is_zero y) (λ r. act_for c (answered r)) _ _ _ _ refl (ranged_is c z x y rest e)

pushed_is : (c : Config) (o : Option ℤ) → act_for c (on_top o (λ x. effect.Put 0 x)) ≡ pushed c o
pushed_is c None = refl
pushed_is c (Some x) = refl

same_test : (n m : ℕ) → nat_lt n (suc m) ≡ nat_le n m
same_test n m = grind arith

under : (n : ℕ) (x : ℤ) (rest : List ℤ) → drop (n + 1) (x ∷ rest) ≡ drop n rest
under n x rest = ap (λ m. drop m (x ∷ rest)) (add-one n)

slid_is : (c : Config) (n x : ℤ) (rest : List ℤ) → c.stack ≡ x ∷ rest → act_for c (sliding (length c.stack) n x) ≡ slid c n x rest
slid_is c (pos n) x rest e =
    by_cond (nat_lt n (length c.stack)) (act_for c) _ _ _ _ (ap (λ s. Goes (onward c (x ∷ drop (n + 1) s))) e ∙ ap (λ s. Goes (onward c (x ∷ s))) (under n x rest)) refl
    ∙ ap (λ b. cond b (Goes (onward c (x ∷ drop n rest))) (Fails 1)) (ap (λ s. nat_lt n (length s)) e ∙ same_test n (length rest))
slid_is c (negsuc n) x rest e = refl

jump_is : (c : Config) (b : Bool) (x : ℤ) (rest : List ℤ) (place : ℕ) → c.stack ≡ x ∷ rest → act_for c (cond b (effect.Jump 1 place) (effect.Discard 1)) ≡ Goes (cond b (going_to c place rest) (onward c rest))
jump_is c true x rest place e = ap (λ s. Goes (going_to c place (drop 1 s))) e
jump_is c false x rest place e = ap (λ s. Goes (onward c (drop 1 s))) e

effect_is : (code : List Instruction) (c : Config) (i : Instruction) → act_for c (effect_of c.stack c.heap (resolved_in code i)) ≡ act_of code c i
effect_is code c (Push n) = refl
effect_is code c Duplicate = top_is c c.stack _ _ (λ x rest e. ap (λ s. Goes (onward c (x ∷ s))) e)
effect_is code c Swap = two_is c c.stack _ _ (λ x y rest e. ap (λ s. Goes (onward c (swapped s))) e)
effect_is code c Discard = top_is c c.stack _ _ (λ x rest e. ap (λ s. Goes (onward c (drop 1 s))) e)
effect_is code c (Copy n) = pushed_is c (value_below c.stack n)
effect_is code c (Slide n) = top_is c c.stack _ _ (λ x rest e. slid_is c n x rest e)
effect_is code c Add = two_is c c.stack _ _ (λ x y rest e. ranged_is c (x +ℤ y) x y rest e)
effect_is code c Subtract = two_is c c.stack _ _ (λ x y rest e. ranged_is c (x -ℤ y) x y rest e)
effect_is code c Multiply = two_is c c.stack _ _ (λ x y rest e. ranged_is c (x *ℤ y) x y rest e)
effect_is code c Divide = two_is c c.stack _ _ (λ x y rest e. divided_is c (floor_quotient x y) x y rest e)
effect_is code c Modulo = two_is c c.stack _ _ (λ x y rest e. divided_is c (floor_remainder x y) x y rest e)
effect_is code c Store = two_is c c.stack _ _ (λ x y rest e. ap (λ s. act_for (record c { stack = s }) (effect.Store x y)) e)
effect_is code c Retrieve = top_is c c.stack _ _ (λ x rest e. ap (λ s. Goes (onward c (value_at (pos 0) c.heap x ∷ drop 1 s))) e)
effect_is code c (Mark label) = refl
effect_is code c (Call label) = refl
effect_is code c (Jump label) = refl
effect_is code c (JumpIfZero label) = top_is c c.stack _ _ (λ x rest e. jump_is c (is_zero x) x rest _ e)
effect_is code c (JumpIfNegative label) = top_is c c.stack _ _ (λ x rest e. jump_is c (int_lt x (pos 0)) x rest _ e)
effect_is code c Return = refl
effect_is code c End = refl
effect_is code c WriteCharacter = top_is c c.stack _ _ (λ x rest e. ap (λ s. act_for (record c { stack = s }) (effect.Write (byte_of x))) e)
effect_is code c WriteNumber = top_is c c.stack _ _ (λ x rest e. ap (λ s. act_for (record c { stack = s }) (effect.Spell x)) e)
effect_is code c ReadCharacter = top_is c c.stack _ _ (λ x rest e. ap (λ s. act_for (record c { stack = s }) (effect.Take x)) e)
effect_is code c ReadNumber = top_is c c.stack _ _ (λ x rest e. ap (λ s. act_for (record c { stack = s }) (effect.Await x)) e)

-- an instruction does what the rule says
pub act_for-effect : (code : List Instruction) (c : Config) (i : Instruction) (step : Resolved) (effect : Effect) → step ≡ resolved_in code i → effect ≡ effect_of c.stack c.heap step → act_for c effect ≡ act_of code c i
act_for-effect code c i step effect e f = ap (act_for c) (f ∙ ap (effect_of c.stack c.heap) e) ∙ effect_is code c i

untaking_cond : (c : Config) (b : Bool) (x y : Effect) → is_taking (act_for c x) ≡ false → is_taking (act_for c y) ≡ false → is_taking (act_for c (cond b x y)) ≡ false
untaking_cond c true x y e f = e
untaking_cond c false x y e f = f
