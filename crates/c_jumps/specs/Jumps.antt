-- Jumps, and what is open while code is emitted.
use Rattle.std.specs.Prelude.{◌≡◌, ◌+◌, ◌-◌, ℕ, suc, length, [], ◌∷◌}
use Rattle.c_code.specs.Code as code
use Rattle.c_plain.specs.declared.instruction.Instruction.TheVariants as plain
use Rattle.c_emitted.specs.declared.emitter.Emitter.{Emitter}
use Rattle.c_emitted.specs.Emits.{Emits, Fills, Reserves}

-- a test jumps behind the code that follows it and a jump, whose place is kept
pub record Turns (a b : Emitter) (test jump : ℕ) : Type 0 where
  pub distance : ℕ
  pub behind : distance + suc test ≡ length a.code
  pub filled : Emitter
  pub fills : Fills a filled test (plain.JumpUnless (distance + 1))
  pub reserves : Reserves filled b jump

-- the place of a loop's test is kept, and a turn costs a unit
pub record BeginsTurn (a b : Emitter) (test : ℕ) : Type 0 where
  pub reserved : Emitter
  pub reserves : Reserves a reserved test
  pub pays : Emits reserved b (code.Pay ∷ []) []

-- a loop that began at a place, with a test at another one, jumps back and ends; a `continue` goes on at a third place
pub record EndsLoop (a b : Emitter) (start test step : ℕ) : Type 0 where
  -- how much code stands from the loop's begin on, from the test on, and from the step on
  pub all : ℕ
  pub turn : ℕ
  pub again : ℕ
  pub from_start : all + suc start ≡ length a.code
  pub from_test : turn + suc test ≡ length a.code
  pub from_step : again + step ≡ length a.code
  pub ended : Emitter
  pub ends : Emits a ended (code.Back (all + 1) ∷ code.Done ∷ []) []
  pub turned : Emitter
  pub turns : Fills ended turned test (plain.JumpUnless (turn + 1))
  pub loops : Fills turned b start (plain.Loop (all - again) (all + 2))

-- a loop that began at a place ends with its test, which began at another one and to which a `continue` goes
pub record EndsDo (a b : Emitter) (start test : ℕ) : Type 0 where
  pub all : ℕ
  pub again : ℕ
  pub from_start : all + suc start ≡ length a.code
  pub from_test : again + test ≡ length a.code
  pub ended : Emitter
  pub ends : Emits a ended (code.JumpUnless 1 ∷ code.Back (all + 2) ∷ code.Done ∷ []) []
  pub loops : Fills ended b start (plain.Loop (all - again) (all + 3))
