-- For proofs only: what an instruction does, by the values that it meets.
use Rattle.std.specs.Prelude.{ℕ, ◌+◌, Bool, false, cond, is_some, List, [], ◌∷◌, length, drop, Option, Some, None, slice_get, ℤ, pos, negsuc, nat_lt, int_lt}
use Rattle.std.specs.declared.result.Result.{Result}
use Rattle.std.specs.declared.result.Result.TheVariants.{Ok, Err}
use Rattle.std.specs.Fmt.{signed_decimal}
use Rattle.mach_core.specs.Sparse.{value_at}
use Rattle.mach_core.specs.declared.machine.Status.TheVariants.{Ended}
use Rattle.ws_lang.specs.declared.effect.Effect.{Effect}
use Rattle.ws_lang.specs.declared.effect.Effect.TheVariants as effect
use Rattle.ws_lang.specs.declared.arithmetic.Arithmetic.{Arithmetic}
use Rattle.ws_lang.specs.declared.arithmetic.Arithmetic.TheVariants as arithmetic
use Rattle.ws_lang.specs.Arithmetic.{answer_of}
use Rattle.mach_core.specs.Integer.{is_zero, byte_of}
use Rattle.ws_lang.specs.declared.resolved.Resolved.{Resolved}
use Rattle.ws_lang.specs.declared.resolved.Resolved.TheVariants as kind
use Rattle.ws_lang.specs.Stack.{pair_of, swapped}
use Rattle.ws_lang.specs.Step.{Heap, Config, Blanks, Act, Goes, Writes, Takes, Fails, onward, storing, going_to, returning, value_below}

abbrev pub act_for : Config → Effect → Act
act_for c (effect.Put n value) = Goes (onward c (value ∷ drop n c.stack))
act_for c (effect.Discard n) = Goes (onward c (drop n c.stack))
act_for c effect.Swap = Goes (onward c (swapped c.stack))
act_for c (effect.Jump n place) = Goes (going_to c place (drop n c.stack))
act_for c (effect.Call place) = Goes (record c { place = place; returns = (c.place + 1) ∷ c.returns })
act_for c effect.Return = returning c c.returns
act_for c effect.End = Goes (record c { status = Ended })
act_for c (effect.Store address value) = Goes (storing c (drop 2 c.stack) address value)
act_for c (effect.Write byte) = Writes (byte ∷ []) (onward c (drop 1 c.stack))
act_for c (effect.Spell value) = Writes (signed_decimal value) (onward c (drop 1 c.stack))
act_for c (effect.Take address) = Takes (λ byte. storing c (drop 1 c.stack) address (pos byte))
act_for c (effect.Await address) = Goes (record c { stack = drop 1 c.stack; reading = Some (record { address = address; seen = Blanks }) })
act_for c (effect.Fault code) = Fails code

-- by the top, if there is one
abbrev pub on_top : Option ℤ → (ℤ → Effect) → Effect
on_top None make = effect.Fault 1
on_top (Some x) make = make x

-- by the second value and the top, if there are two
abbrev pub on_two : Option (ℤ × ℤ) → (ℤ → ℤ → Effect) → Effect
on_two None make = effect.Fault 1
on_two (Some (x, y)) make = make x y

-- a value in the place of two, or a fault
abbrev pub answered : Result ℤ ℕ → Effect
answered (Ok value) = effect.Put 2 value
answered (Err code) = effect.Fault code

-- of so many values the top in the place of itself and some under it
abbrev pub sliding : ℕ → ℤ → ℤ → Effect
sliding len (pos n) x = cond (nat_lt n len) (effect.Put (n + 1) x) (effect.Fault 1)
sliding len (negsuc n) x = effect.Fault 1

-- arithmetic on the two values at the top
abbrev pub combined : List ℤ → Arithmetic → Effect
combined stack operation = on_two (pair_of stack) (λ x y. answered (answer_of operation x y))

-- what an instruction does with this stack and this heap
abbrev pub effect_of : List ℤ → Heap → Resolved → Effect
effect_of stack heap (kind.Push n) = effect.Put 0 n
effect_of stack heap kind.Duplicate = on_top (slice_get stack 0) (λ x. effect.Put 0 x)
effect_of stack heap kind.Swap = on_two (pair_of stack) (λ x y. effect.Swap)
effect_of stack heap kind.Discard = on_top (slice_get stack 0) (λ x. effect.Discard 1)
effect_of stack heap (kind.Copy n) = on_top (value_below stack n) (λ x. effect.Put 0 x)
effect_of stack heap (kind.Slide n) = on_top (slice_get stack 0) (λ x. sliding (length stack) n x)
effect_of stack heap kind.Add = combined stack arithmetic.Add
effect_of stack heap kind.Subtract = combined stack arithmetic.Subtract
effect_of stack heap kind.Multiply = combined stack arithmetic.Multiply
effect_of stack heap kind.Divide = combined stack arithmetic.Divide
effect_of stack heap kind.Modulo = combined stack arithmetic.Modulo
effect_of stack heap kind.Store = on_two (pair_of stack) (λ address value. effect.Store address value)
effect_of stack heap kind.Retrieve = on_top (slice_get stack 0) (λ address. effect.Put 1 (value_at (pos 0) heap address))
effect_of stack heap kind.Mark = effect.Discard 0
effect_of stack heap (kind.Call place) = effect.Call place
effect_of stack heap (kind.Jump place) = effect.Jump 0 place
effect_of stack heap (kind.JumpIfZero place) = on_top (slice_get stack 0) (λ x. cond (is_zero x) (effect.Jump 1 place) (effect.Discard 1))
effect_of stack heap (kind.JumpIfNegative place) = on_top (slice_get stack 0) (λ x. cond (int_lt x (pos 0)) (effect.Jump 1 place) (effect.Discard 1))
effect_of stack heap kind.Return = effect.Return
effect_of stack heap kind.End = effect.End
effect_of stack heap kind.WriteCharacter = on_top (slice_get stack 0) (λ x. effect.Write (byte_of x))
effect_of stack heap kind.WriteNumber = on_top (slice_get stack 0) (λ x. effect.Spell x)
effect_of stack heap kind.ReadCharacter = on_top (slice_get stack 0) (λ address. effect.Take address)
effect_of stack heap kind.ReadNumber = on_top (slice_get stack 0) (λ address. effect.Await address)

-- the instruction takes a byte, with this value at the top if there is one
abbrev pub takes_with : Option ℤ → Resolved → Bool
takes_with top kind.ReadCharacter = is_some top
takes_with top _ = false
