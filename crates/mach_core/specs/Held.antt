-- Steps of a machine between the bytes that are held for it and those that it leaves, where no source is read and no sink written.
use Rattle.std.specs.Prelude.{◌≡◌, ℕ, zero, suc, Bool, true, false, cond, List, ◌∷◌, ◌++◌}
use Rattle.mach_core.specs.declared.machine.Status.TheVariants.{Going}
use Rattle.mach_core.specs.Rule.{Rule}
use Rattle.mach_core.specs.Feed.{ReadAhead}

-- what is held of a source, and what is held for a sink
pub record Buffers : Type 0 where
  pub held : ReadAhead
  pub put : List ℕ

-- the byte that is wanted is the first of those held, and is taken; where none is wanted, none is taken
abbrev pub TakesHeld : Bool → ReadAhead → ReadAhead → ℕ → Type 0
TakesHeld true old new byte = (old.bytes ≡ byte ∷ new.bytes) × (new.over ≡ old.over)
TakesHeld false old new byte = new ≡ old

-- one step by the rule of a machine that is going: it takes a byte that is held where it wants one, and what it writes is held behind the rest
pub record StepHeld {C : Type 0} (rule : Rule C) (old : C) (before : Buffers) (new : C) (after : Buffers) : Type 0 where
  pub going : rule.standing old ≡ Going
  pub byte : ℕ
  pub taken : TakesHeld (rule.wants old) before.held after.held byte
  pub next : new ≡ rule.next old (cond (rule.wants old) byte 0)
  pub put : after.put ≡ before.put ++ rule.written old (cond (rule.wants old) byte 0)

-- so many of them, one after the other
abbrev pub StepsHeld : {C : Type 0} → Rule C → C → Buffers → ℕ → C → Buffers → Type 0
StepsHeld rule old before zero new after = (new ≡ old) × (after ≡ before)
StepsHeld {C} rule old before (suc n) new after = (mid : C) × (there : Buffers) × StepsHeld rule old before n mid there × StepHeld rule mid there new after
