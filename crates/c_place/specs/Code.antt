-- Code as a flat list of operations: a block ends behind each jump.
use Rattle.std.specs.Prelude.{◌≡◌, ℕ, suc, Bool, true, List, [], ◌∷◌, if◌then◌else◌}
use Rattle.word24.specs.declared.word.Word.{Word}
use Rattle.eir_core.specs.declared.ops.Op.{Op}
use Rattle.eir_core.specs.Eir.{Eir, is_jump}

-- how many jumps there are
abbrev pub jumps : List Op → ℕ
jumps [] = 0
jumps (op ∷ ops) = if is_jump op then suc (jumps ops) else jumps ops

-- one more operation at the front of the first block
abbrev pub put_first : Op → List (List Op) → List (List Op)
put_first op [] = (op ∷ []) ∷ []
put_first op (b ∷ bs) = (op ∷ b) ∷ bs

-- the code, cut behind each jump
abbrev pub cut : List Op → List (List Op)
cut [] = []
cut (op ∷ ops) = if is_jump op then (op ∷ []) ∷ cut ops else put_first op (cut ops)

-- the last operation is a jump
abbrev pub IsClosed : List Op → Type 0
IsClosed [] = Unit {0}
IsClosed (op ∷ []) = is_jump op ≡ true
IsClosed (op ∷ o ∷ ops) = IsClosed (o ∷ ops)

-- the program of this code and these data words, which begins with the first operation
abbrev pub program : List Op → List Word → Eir
program ops words = record { blocks = cut ops; words = words; start = 0 }
