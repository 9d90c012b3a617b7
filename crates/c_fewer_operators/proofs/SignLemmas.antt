-- Signs of operators.
use Rattle.std.proofs.Common.{◌≡◌, ℕ, Bool, true, false, ◌||◌, List, [], ◌∷◌, ◌++◌, Option, Some, None, refl, sym, ap, if◌then◌else◌}
use Rattle.std.specs.Prelude.{codes, option_map}
use Rattle.c_syntax.specs.Plain.{CExpr}
use Rattle.c_syntax.specs.declared.tree.BinOp.{BinOp}
use Rattle.c_syntax.specs.declared.tree.BinOp.TheVariants as binary
use Rattle.c_types.specs.Types.{CType, Tags, is_unsigned}
use Rattle.c_helpers.specs.Fewer as fewer

pub counts_else : (op : BinOp) (t u : CType) → (op ≡ binary.Shr → ⊥) → (is_unsigned t || is_unsigned u) ≡ fewer.counts_unsigned op t u
counts_else binary.Shr t u h = absurd (h refl)
counts_else op t u h = refl

-- any other operator has no sign
pub sign_else : (op : BinOp) (unsigned : Bool) → (op ≡ binary.Mul → ⊥) → (op ≡ binary.Div → ⊥) → (op ≡ binary.Mod → ⊥) → (op ≡ binary.BitAnd → ⊥) → (op ≡ binary.BitOr → ⊥) → (op ≡ binary.BitXor → ⊥) → (op ≡ binary.Shl → ⊥) → (op ≡ binary.Shr → ⊥)
    → None ≡ fewer.sign_of op unsigned
sign_else binary.Mul k a b c d e f g h = absurd (a refl)
sign_else binary.Div k a b c d e f g h = absurd (b refl)
sign_else binary.Mod k a b c d e f g h = absurd (c refl)
sign_else binary.BitAnd k a b c d e f g h = absurd (d refl)
sign_else binary.BitOr k a b c d e f g h = absurd (e refl)
sign_else binary.BitXor k a b c d e f g h = absurd (f refl)
sign_else binary.Shl k a b c d e f g h = absurd (g refl)
sign_else binary.Shr k a b c d e f g h = absurd (h refl)
sign_else op k a b c d e f g h = refl

pub compound_else : (op : BinOp) (unsigned : Bool) → (op ≡ binary.Mul → ⊥) → (op ≡ binary.Div → ⊥) → (op ≡ binary.Mod → ⊥) → (op ≡ binary.BitAnd → ⊥) → (op ≡ binary.BitOr → ⊥) → (op ≡ binary.BitXor → ⊥) → (op ≡ binary.Shl → ⊥) → (op ≡ binary.Shr → ⊥)
    → None ≡ option_map (λ n. n ++ codes "=") (fewer.sign_of op unsigned)
compound_else op k a b c d e f g h = ap (λ (o : Option (List ℕ)). option_map (λ n. n ++ codes "=") o) (sign_else op k a b c d e f g h)

-- the signs that tell how operands count
pub record Compounds (unsigned : Bool) : Type 0 where
  pub quotient : Some (if unsigned then codes "unsigned /=" else codes "int /=") ≡ option_map (λ n. n ++ codes "=") (fewer.sign_of binary.Div unsigned)
  pub remainder : Some (if unsigned then codes "unsigned %=" else codes "int %=") ≡ option_map (λ n. n ++ codes "=") (fewer.sign_of binary.Mod unsigned)
  pub shift : Some (if unsigned then codes "unsigned >>=" else codes "int >>=") ≡ option_map (λ n. n ++ codes "=") (fewer.sign_of binary.Shr unsigned)

pub compound_by : (unsigned : Bool) → Compounds unsigned
compound_by true = record { quotient = refl; remainder = refl; shift = refl }
compound_by false = record { quotient = refl; remainder = refl; shift = refl }

some_name : (m n : List ℕ) → Some m ≡ Some n → m ≡ n
some_name m n e = cc

-- an assignment by its sign
pub assigned_by : (tags : Tags) (at : ℕ) (o : Option (List ℕ)) (name : List ℕ) (op : BinOp) (t u : CType) (a b : CExpr) → Some name ≡ option_map (λ n. n ++ codes "=") o
    → fewer.as_type at t (fewer.helper_call at name (fewer.address_at at a ∷ b ∷ [])) ≡ fewer.assignment_tree tags at o op t u a b
assigned_by tags at (Some sign) name op t u a b e = ap (λ (n : List ℕ). fewer.as_type at t (fewer.helper_call at n (fewer.address_at at a ∷ b ∷ []))) (some_name name (sign ++ codes "=") e)
assigned_by tags at None name op t u a b e = absurd cc

pub unassigned : (tags : Tags) (at : ℕ) (o : Option (List ℕ)) (op : BinOp) (t u : CType) (a b : CExpr) → None ≡ option_map (λ n. n ++ codes "=") o → fewer.plain_assignment tags at op t u a b ≡ fewer.assignment_tree tags at o op t u a b
unassigned tags at (Some sign) op t u a b e = absurd cc
unassigned tags at None op t u a b e = refl
