-- Sums over helper functions and over kinds of operators.
use Rattle.std.proofs.Common.{◌≡◌, ℕ, ◌+◌, ◌*◌, ◌≤◌, inl, inr, ◌⊎◌, List, [], ◌∷◌, Bool, true, false, nat_le, refl, subst, arith}
use Rattle.std.specs.Prelude.{◌==◌, ◌||◌, if◌then◌else◌}
use Rattle.std.specs.List.{list_any}
use Rattle.std.proofs.lemmas.Bool.{and_parts, leb-true, or_left, or_right, eq-eqb}
use Rattle.c_syntax.specs.Plain.{CUnit}
use Rattle.c_types.specs.Room as kind
use Rattle.c_types.specs.Room.{Kind, kinds, kind_number, count_kinds}
use Rattle.c_helpers.specs.Functions.{Helper, functions}
use Rattle.c_helpers.specs.Laws.{each, total, is_for}
use Rattle.c_compiled.specs.HelperCostsLaws.{helper_room, occurs_in, KindsPay}

-- ---- kinds

-- a kind is in a list
abbrev pub has : List Kind → Kind → Bool
has ks k = list_any (λ other. kind_number other == kind_number k) ks

pub same_number : (n : ℕ) → (n == n) ≡ true
same_number n = eq-eqb n n refl

abbrev IsIn : Kind → List Kind → Type 0
IsIn k [] = ⊥
IsIn k (j ∷ js) = (k ≡ j) ⊎ IsIn k js

all_kinds : (k : Kind) → IsIn k kinds
all_kinds kind.Multiply = inl refl
all_kinds kind.Divide = inr (inl refl)
all_kinds kind.Remainder = inr (inr (inl refl))
all_kinds kind.BitAnd = inr (inr (inr (inl refl)))
all_kinds kind.BitOr = inr (inr (inr (inr (inl refl))))
all_kinds kind.BitXor = inr (inr (inr (inr (inr (inl refl)))))
all_kinds kind.Invert = inr (inr (inr (inr (inr (inr (inl refl))))))
all_kinds kind.ShiftLeft = inr (inr (inr (inr (inr (inr (inr (inl refl)))))))
all_kinds kind.ShiftRight = inr (inr (inr (inr (inr (inr (inr (inr (inl refl))))))))
all_kinds kind.PrintSigned = inr (inr (inr (inr (inr (inr (inr (inr (inr (inl refl)))))))))
all_kinds kind.PrintUnsigned = inr (inr (inr (inr (inr (inr (inr (inr (inr (inr (inl refl))))))))))
all_kinds kind.PrintHex = inr (inr (inr (inr (inr (inr (inr (inr (inr (inr (inr (inl refl)))))))))))
all_kinds kind.PrintString = inr (inr (inr (inr (inr (inr (inr (inr (inr (inr (inr (inr (inl refl))))))))))))
all_kinds kind.PutString = inr (inr (inr (inr (inr (inr (inr (inr (inr (inr (inr (inr (inr (inl refl)))))))))))))
all_kinds kind.PointerArithmetic = inr (inr (inr (inr (inr (inr (inr (inr (inr (inr (inr (inr (inr (inr (inl refl))))))))))))))
all_kinds kind.PointerDifference = inr (inr (inr (inr (inr (inr (inr (inr (inr (inr (inr (inr (inr (inr (inr (inl refl)))))))))))))))

-- one of a list that passes the test
pub record Found (occurs : Kind → Bool) (ks : List Kind) : Type 0 where
  pub it : Kind
  pub passes : occurs it ≡ true
  pub there : has ks it ≡ true

pub any_found : (occurs : Kind → Bool) (ks : List Kind) → list_any occurs ks ≡ true → Found occurs ks
any_found occurs [] e = absurd (cc e)
any_found occurs (k ∷ ks) e = go (occurs k) refl e (λ l. any_found occurs ks l)
  where
    go : (b : Bool) → occurs k ≡ b → (b || list_any occurs ks) ≡ true → (list_any occurs ks ≡ true → Found occurs ks) → Found occurs (k ∷ ks)
    go true l e more = record { it = k; passes = l; there = or_left (kind_number k == kind_number k) (has ks k) (same_number (kind_number k)) }
    go false l e more = let m = more e in record { it = m.it; passes = m.passes; there = or_right (kind_number k == kind_number m.it) (has ks m.it) m.there }

-- ---- sums

-- what the helper functions of a kind cost
abbrev of_kind : Kind → List Helper → ℕ
of_kind k hs = total (λ h. if is_for k h then helper_room h else 0) hs

-- over the kinds that occur
abbrev by_kinds : (Kind → Bool) → List Kind → List Helper → ℕ
by_kinds occurs [] hs = 0
by_kinds occurs (k ∷ ks) hs = (if occurs k then of_kind k hs else 0) + by_kinds occurs ks hs

module _ (occurs : Kind → Bool) where
  -- a helper function alone, and others
  apart : (ks : List Kind) (h : Helper) (hs : List Helper) → by_kinds occurs ks (h ∷ []) + by_kinds occurs ks hs ≡ by_kinds occurs ks (h ∷ hs)
  apart [] h hs = refl
  apart (k ∷ ks) h hs = go (occurs k) (apart ks h hs)
    where
      go : (b : Bool) → by_kinds occurs ks (h ∷ []) + by_kinds occurs ks hs ≡ by_kinds occurs ks (h ∷ hs)
          → (if b then of_kind k (h ∷ []) else 0) + by_kinds occurs ks (h ∷ []) + ((if b then of_kind k hs else 0) + by_kinds occurs ks hs) ≡ (if b then of_kind k (h ∷ hs) else 0) + by_kinds occurs ks (h ∷ hs)
      go true e = omega (arith, e)
      go false e = omega (arith, e)

  -- a helper function of a kind that occurs is in the sum
  counted : (k : Kind) (h : Helper) → occurs k ≡ true → is_for k h ≡ true → (ks : List Kind) → IsIn k ks → helper_room h ≤ by_kinds occurs ks (h ∷ [])
  counted k h o f [] i = absurd i
  counted k h o f (j ∷ js) (inl e) = subst (λ z. helper_room h ≤ (if occurs z then of_kind z (h ∷ []) else 0) + by_kinds occurs js (h ∷ [])) e (go (occurs k) (is_for k h) o f)
    where
      go : (b c : Bool) → b ≡ true → c ≡ true → helper_room h ≤ (if b then (if c then helper_room h else 0) + 0 else 0) + by_kinds occurs js (h ∷ [])
      go true true o f = omega arith
      go true false o f = absurd (cc f)
      go false c o f = absurd (cc o)
  counted k h o f (j ∷ js) (inr i) = let le = counted k h o f js i in omega (arith, le)

  alone : (h : Helper) → (if list_any occurs h.kinds then helper_room h else 0) ≤ by_kinds occurs kinds (h ∷ [])
  alone h = go (list_any occurs h.kinds) refl
    where
      go : (b : Bool) → list_any occurs h.kinds ≡ b → (if b then helper_room h else 0) ≤ by_kinds occurs kinds (h ∷ [])
      go true e = let f = any_found occurs h.kinds e in counted f.it h f.passes f.there kinds (all_kinds f.it)
      go false e = omega arith

  all_counted : (hs : List Helper) → total (λ h. if list_any occurs h.kinds then helper_room h else 0) hs ≤ by_kinds occurs kinds hs
  all_counted [] = omega arith
  all_counted (h ∷ hs) = subst (λ z. total (λ h. if list_any occurs h.kinds then helper_room h else 0) (h ∷ hs) ≤ z) (apart kinds h hs) (let a = alone h in let b = all_counted hs in omega (arith, a, b))

-- ---- the room of a kind

abbrev fits : List Kind → Bool
fits ks = each (λ k. nat_le (of_kind k functions) 2048) ks

kinds_fit : fits kinds ≡ true
kinds_fit = refl

within : (u : CUnit) (ks : List Kind) → fits ks ≡ true → by_kinds (occurs_in u) ks functions ≤ 2048 * count_kinds ks u
within u [] f = omega arith
within u (k ∷ ks) f =
    let p = and_parts (nat_le (of_kind k functions) 2048) (fits ks) f in
    go (occurs_in u k) (of_kind k functions) (leb-true (of_kind k functions) 2048 p.0) (within u ks p.1)
  where
    go : (b : Bool) (n : ℕ) → n ≤ 2048 → by_kinds (occurs_in u) ks functions ≤ 2048 * count_kinds ks u → (if b then n else 0) + by_kinds (occurs_in u) ks functions ≤ 2048 * ((if b then 1 else 0) + count_kinds ks u)
    go true n le more = omega (arith, le, more)
    go false n le more = omega (arith, le, more)

-- the helper functions of kinds that occur in a text fit its room
pub kinds_pay : KindsPay
kinds_pay u = let a = all_counted (occurs_in u) functions in let b = within u kinds kinds_fit in omega (arith, a, b)
