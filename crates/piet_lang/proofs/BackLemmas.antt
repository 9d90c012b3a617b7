-- What is left in a vector whose slots were lent.
use Rattle.std.proofs.Common.{◌≡◌, ℕ, List, ◌++◌, length, take, drop, Result, Ok, Err, OnOk, ◌∙◌, arith}
use Rattle.std.proofs.lemmas.List.{take_all, take-append-le}

pub written_all : (slots new : List ℕ) (len : ℕ) → len ≡ length slots → length new ≡ length slots → take len (new ++ drop (length new) slots) ≡ new
written_all slots new len e same = take-append-le len new (drop (length new) slots) (omega (arith, e, same)) ∙ take_all len new (omega (arith, e, same))

pub on_ok : {T E : Type 0} (r : Result T E) (A B : Type 0) → (A → B) → OnOk r A → OnOk r B
on_ok (Ok x) A B f a = f a
on_ok (Err e) A B f a = a
