-- What a reader must believe: how a text spells cells, why one is refused, and what a program does.
pub mod Text
pub mod Answers
pub mod Step
-- What the laws say of these, and when a step may find no memory.
pub mod Laws
pub mod Want
-- For proofs only: how the values of the code stand for those above.
pub mod Machine
pub mod Codes
pub mod Inside
pub mod Pages
pub mod Listed
pub mod Quiet
