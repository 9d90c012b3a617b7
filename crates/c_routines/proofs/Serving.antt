-- Each routine that is needed serves where the routines stand.
use Rattle.std.proofs.Common.{◌≡◌, ℕ, zero, suc, ◌+◌, ◌^◌, ◌<◌, ◌≤◌, Bool, true, false, List, [], ◌∷◌, Some as Present, slice_get, refl, ap, ◌∙◌, subst, arith, if◌then◌else◌}
use Rattle.std.specs.Prelude.{◌||◌}
use Rattle.eir_core.specs.Eir.{Eir}
use Rattle.c_place.specs.Place.{Place, front}
use Rattle.c_routines.specs.declared.item.Item.{Item}
use Rattle.c_routines.specs.declared.item.Item.TheVariants.{Label}
use Rattle.c_routines.specs.declared.radix.Radix.TheVariants.{Ten, Sixteen}
use Rattle.c_routines.specs.declared.routine.Routine.{Routine}
use Rattle.c_routines.specs.declared.routine.Routine.TheVariants.{Product, Divide, SignedDivide, Both, Some, One, Left, Right, SignedRight, Unsigned, Decimal, Hexadecimal, Text}
use Rattle.c_routines.specs.declared.routine.Used.{Used}
use Rattle.c_routines.specs.Items.{Stands}
use Rattle.c_routines.specs.Cuts.{Numbered}
use Rattle.c_routines.specs.Routines.{all, number, needs, entry, own, code_of, routine_of, each_of, routines, ServesAs, RoutinesServe}
use Rattle.c_routines.proofs.Parts.{numbered_front, numbered_rest, stands_front, stands_rest, two_blocks}
use Rattle.c_routines.proofs.Divides.{divides}
use Rattle.c_routines.proofs.Products.{multiplies}
use Rattle.c_routines.proofs.SignedDivides.{signed_divides}
use Rattle.c_routines.proofs.Boths.{boths}
use Rattle.c_routines.proofs.Somes.{somes}
use Rattle.c_routines.proofs.Lefts.{lefts}
use Rattle.c_routines.proofs.Rights.{rights}
use Rattle.c_routines.proofs.SignedRights.{signed_rights}
use Rattle.c_routines.proofs.Numerals.{numerals}
use Rattle.c_routines.proofs.Decimals.{decimals}
use Rattle.c_routines.proofs.Texts.{texts}

or_left : (a b : Bool) → a ≡ true → (a || b) ≡ true
or_left true b e = refl
or_left false b e = absurd (cc (e))

or_right : (a b : Bool) → b ≡ true → (a || b) ≡ true
or_right true b e = refl
or_right false b e = e

-- the routine of this number is the one there
in_order : (r : Routine) → slice_get all (number r) ≡ Present r
in_order Product = refl
in_order Divide = refl
in_order SignedDivide = refl
in_order Both = refl
in_order Some = refl
in_order One = refl
in_order Left = refl
in_order Right = refl
in_order SignedRight = refl
in_order Unsigned = refl
in_order Decimal = refl
in_order Hexadecimal = refl
in_order Text = refl

module _ (p : Eir) (at : ℕ → ℕ) (u : Used) (base first : ℕ) (room : first + 26 ≤ 2 ^ 24) where
  -- a routine that is needed stands at the block of its entry, and is numbered
  record Found (r : Routine) : Type 0 where
    small : at (entry base r) < 2 ^ 24
    stands : Stands p at (front (at (entry base r))) (code_of base first r)
    k : ℕ
    numbered : Numbered at k false (code_of base first r)

  taken : (r : Routine) (s : Place) (k : ℕ) (w : Bool) → Stands p at s (Label (entry base r) ∷ code_of base first r) → Numbered at k w (Label (entry base r) ∷ code_of base first r) → Found r
  taken r s k true h n = record { small = h.1; stands = subst (λ z. Stands p at z (code_of base first r)) h.0 h.2; k = suc k; numbered = n.2 }
  taken r s k false h n = record { small = h.1; stands = subst (λ z. Stands p at z (code_of base first r)) h.0 h.2; k = k; numbered = n.2 }

  here : (r : Routine) → needs u r ≡ true → routine_of u base first r ≡ Label (entry base r) ∷ code_of base first r
  unfolding routine_of
  here r e = ap (λ t. if t then Label (entry base r) ∷ code_of base first r else []) e

  found : (rs : List Routine) (i : ℕ) (r : Routine) (s : Place) (k : ℕ) (w : Bool) → slice_get rs i ≡ Present r → needs u r ≡ true → Stands p at s (each_of rs u base first) → Numbered at k w (each_of rs u base first) → Found r
  found [] i r s k w e need h n = absurd (cc (e))
  found (x ∷ rs) zero r s k w e need h n =
      let same : x ≡ r = cc (e) in
      let piece : List Item = routine_of u base first x in
      let is : routine_of u base first x ≡ Label (entry base r) ∷ code_of base first r = ap (routine_of u base first) same ∙ here r need in
      taken r s k w
      (subst (Stands p at s) is (stands_front at p (routine_of u base first x) (each_of rs u base first) s h))
      (subst (Numbered at k w) is (numbered_front at (routine_of u base first x) (each_of rs u base first) k w n))
  found (x ∷ rs) (suc i) r s k w e need h n =
      let y = stands_rest at p (routine_of u base first x) (each_of rs u base first) s h in
      let z = numbered_rest at (routine_of u base first x) (each_of rs u base first) k w n in
      found rs i r y.0 z.0 z.1 e need y.1 z.2

  module _ (s : Place) (k : ℕ) (w : Bool) (h : Stands p at s (routines u base first)) (n : Numbered at k w (routines u base first)) where
    get : (r : Routine) → needs u r ≡ true → Found r
    get r need = found all (number r) r s k w (in_order r) need h n

    divider : needs u Divide ≡ true → ServesAs p first (front (at (entry base Divide))) Divide
    divider need = divides p at (own base Divide) first (front (at (entry base Divide))) (omega (arith, room)) (get Divide need).stands

    giver : needs u Both ≡ true → ServesAs p first (front (at (entry base Both))) Both
    giver need = boths p at (own base Both) first (front (at (entry base Both))) (omega (arith, room)) (get Both need).stands

    shifter : needs u Right ≡ true → ServesAs p first (front (at (entry base Right))) Right
    shifter need =
        let f = get Right need in
        rights p at (own base Right) first (front (at (entry base Right))) (two_blocks at (own base Right) f.k false f.numbered) f.stands

    writer : needs u Unsigned ≡ true → ServesAs p first (front (at (entry base Unsigned))) Unsigned
    writer need = numerals Ten p at (own base Unsigned) first (front (at (entry base Unsigned))) (omega (arith, room)) (get Unsigned need).stands

    serves_as : (r : Routine) → needs u r ≡ true → ServesAs p first (front (at (entry base r))) r
    serves_as Product need = multiplies p at (own base Product) first (front (at (entry base Product))) (omega (arith, room)) (get Product need).stands
    serves_as Divide need = divider need
    serves_as SignedDivide need =
        let other : needs u Divide ≡ true = or_right u.divide u.signed_divide need in
        signed_divides p at (entry base Divide) (own base SignedDivide) first (front (at (entry base SignedDivide))) room (get Divide other).small (divider other) (get SignedDivide need).stands
    serves_as Both need = giver need
    serves_as Some need =
        let other : needs u Both ≡ true = or_left (u.both || u.some) u.one (or_right u.both u.some need) in
        somes.some p at (entry base Both) (own base Some) first (front (at (entry base Some))) room (get Both other).small (giver other) (get Some need).stands
    serves_as One need =
        let other : needs u Both ≡ true = or_right (u.both || u.some) u.one need in
        somes.one p at (entry base Both) (own base One) first (front (at (entry base One))) room (get Both other).small (giver other) (get One need).stands
    serves_as Left need = lefts p at (own base Left) first (front (at (entry base Left))) (omega (arith, room)) (get Left need).stands
    serves_as Right need = shifter need
    serves_as SignedRight need =
        let other : needs u Right ≡ true = or_right u.right u.signed_right need in
        signed_rights p at (entry base Right) (own base SignedRight) first (front (at (entry base SignedRight))) room (get Right other).small (shifter other) (get SignedRight need).stands
    serves_as Unsigned need = writer need
    serves_as Decimal need =
        let other : needs u Unsigned ≡ true = or_right u.unsigned u.decimal need in
        decimals p at (entry base Unsigned) (own base Decimal) first (front (at (entry base Decimal))) (get Unsigned other).small (writer other) (get Decimal need).stands
    serves_as Hexadecimal need = numerals Sixteen p at (own base Hexadecimal) first (front (at (entry base Hexadecimal))) (omega (arith, room)) (get Hexadecimal need).stands
    serves_as Text need = texts p at (own base Text) (front (at (entry base Text))) (get Text need).stands

    all_serve : (r : Routine) → needs u r ≡ true → (at (entry base r) < 2 ^ 24) × ServesAs p first (front (at (entry base r))) r
    all_serve r need = ((get r need).small, serves_as r need)

pub routines_serve : RoutinesServe
routines_serve p at u base first k w s room n h r need = all_serve p at u base first room s k w h n r need
