-- What a reader must believe: the instructions, how a text spells them, why one is refused, and what a program does.
pub mod Instruction
pub mod Spelling
pub mod Refusal
pub mod Step
-- What the laws say of these.
pub mod Silence
pub mod Verdict
pub mod Places
pub mod Laws
-- For proofs only: what the parts of the code answer, and how their values stand for those above.
pub mod Codes
pub mod Inside
pub mod Decode
pub mod Cursor
pub mod Reading
pub mod OpInstruction
pub mod Labels
pub mod Listing
pub mod Resolved
pub mod Stack
pub mod Pages
pub mod Quiet
pub mod Arithmetic
pub mod Effect
pub mod StateInside
pub mod Acts
pub mod Progress
pub mod Machine
