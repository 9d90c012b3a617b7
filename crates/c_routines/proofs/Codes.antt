-- Code in pieces, one after the other.
use Rattle.std.proofs.Common.{◌≡◌, ℕ, zero, suc, ◌+◌, ◌-◌, ◌<◌, ◌≤◌, Bool, true, false, if◌then◌else◌, List, [], ◌∷◌, ◌++◌, Result, Ok, Err, OnOk, append_assoc, append-nil, refl, sym, ap, ◌∙◌, subst, arith}
use Rattle.c_routines.specs.declared.item.Item.{Item}
use Rattle.c_routines.specs.declared.item.Item.TheVariants.{Label}
use Rattle.c_routines.specs.declared.routine.Routine.{Routine}
use Rattle.c_routines.specs.declared.routine.Used.{Used}
use Rattle.c_routines.specs.Product.{higher, turn}
use Rattle.c_routines.specs.Routines.{needs, entry, code_of, routine_of}

-- what code in pieces is joined by
pub ruleset codes = (append_assoc, append-nil)

-- the bit of a level above the lowest
pub turn_is : (base k : ℕ) → 0 < k → turn base k [] ≡ higher base k []
turn_is base zero lt = absurd (omega (arith, lt))
turn_is base (suc k) lt = refl

-- what stands after a bit
pub turn_on : (base k : ℕ) (rest : List Item) → turn base k rest ≡ turn base k [] ++ rest
turn_on base zero rest = refl
turn_on base (suc k) rest = refl

-- and of the lowest
pub turn_lowest : (base k : ℕ) → k ≡ 0 → turn base k [] ≡ turn base 0 []
turn_lowest base k e = ap (λ z. turn base z []) e

-- a piece more of code by levels that fall
pub piece_down : (piece f : ℕ → List Item) → ((j : ℕ) → f (suc j) ≡ piece j ++ f j) → (k : ℕ) → 0 < k → (x y whole : List Item) → y ≡ x ++ piece (k - 1) → x ++ f k ≡ whole → y ++ f (k - 1) ≡ whole
piece_down piece f more zero lt x y whole e is = absurd (omega (arith, lt))
piece_down piece f more (suc k) lt x y whole e is =
    let below : suc k - 1 ≡ k = omega arith in
    let here : y ≡ x ++ piece k = subst (λ z. y ≡ x ++ piece z) below e in
    ap (λ z. y ++ f z) below ∙ (ap (λ z. z ++ f k) here ∙ (append_assoc x (piece k) (f k) ∙ (ap (λ z. x ++ z) (sym (more k)) ∙ is)))

-- and of code by levels that rise, up to level n
pub piece_up : (piece : ℕ → List Item) (g : (above k : ℕ) → List Item) → ((a k : ℕ) → g (suc a) k ≡ piece k ++ g a (suc k)) → (n k : ℕ) → k < n → (x y whole : List Item) → y ≡ x ++ piece k → x ++ g (n - k) k ≡ whole → y ++ g (n - (k + 1)) (k + 1) ≡ whole
piece_up piece g more n k lt x y whole e is =
    let above : n - k ≡ suc (n - (k + 1)) = omega (arith, lt) in
    let next : k + 1 ≡ suc k = omega arith in
    ap (λ z. z ++ g (n - (k + 1)) (k + 1)) e ∙ (append_assoc x (piece k) (g (n - (k + 1)) (k + 1)) ∙ (ap (λ z. x ++ (piece k ++ g (n - (k + 1)) z)) next ∙ (ap (λ z. x ++ z) (sym (more (n - (k + 1)) k)) ∙ (ap (λ z. x ++ g z k) (sym above) ∙ is))))

-- the levels have come to their end
pub piece_end : {T E : Type 0} (r : Result T E) (f : ℕ → List Item) (last : List Item) → f 0 ≡ last → (k : ℕ) → k ≤ 0 → (x y whole : List Item) → x ++ f k ≡ whole → OnOk r (y ≡ x ++ last) → OnOk r (y ≡ whole)
piece_end (Ok v) f last e k le x y whole is h =
    let none : 0 ≡ k = omega (arith, le) in
    h ∙ (ap (λ z. x ++ z) (sym e) ∙ (ap (λ z. x ++ f z) none ∙ is))
piece_end (Err v) f last e k le x y whole is h = h

-- and up to level n
pub piece_top : {T E : Type 0} (r : Result T E) (g : (above k : ℕ) → List Item) (n k : ℕ) → k ≤ n → n ≤ k → (x y whole : List Item) → x ++ g (n - k) k ≡ whole → OnOk r (y ≡ x ++ g 0 n) → OnOk r (y ≡ whole)
piece_top (Ok v) g n k le ge x y whole is h =
    let none : 0 ≡ n - k = omega (arith, ge) in
    let same : n ≡ k = omega (arith, le, ge) in
    h ∙ (ap (λ z. x ++ g z n) none ∙ (ap (λ z. x ++ g (n - k) z) same ∙ is))
piece_top (Err v) g n k le ge x y whole is h = h

-- three pieces, one after the other
pub three_put : {T E : Type 0} (r : Result T E) (x p q t m n y : List Item) → m ≡ x ++ p → n ≡ m ++ q → OnOk r (y ≡ n ++ t) → OnOk r (y ≡ x ++ (p ++ (q ++ t)))
three_put (Ok v) x p q t m n y e f h = h ∙ (ap (λ z. z ++ t) f ∙ (append_assoc m q t ∙ (ap (λ z. z ++ (q ++ t)) e ∙ append_assoc x p (q ++ t))))
three_put (Err v) x p q t m n y e f h = h

-- a routine that isn't needed, and one that is
pub not_needed : (u : Used) (base first : ℕ) (r : Routine) → needs u r ≡ false → routine_of u base first r ≡ []
unfolding routine_of
not_needed u base first r e = ap (λ t. if t then Label (entry base r) ∷ code_of base first r else []) e

pub needed : (u : Used) (base first : ℕ) (r : Routine) → needs u r ≡ true → routine_of u base first r ≡ Label (entry base r) ∷ code_of base first r
unfolding routine_of
needed u base first r e = ap (λ t. if t then Label (entry base r) ∷ code_of base first r else []) e
