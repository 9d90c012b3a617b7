-- The law of the crate.
use Rattle.std.proofs.Common.{◌≡◌, ℕ, List, [], ◌∷◌, Some, Bool, true, false, refl, subst, cond}
use Rattle.std.specs.Str.{bytes_eq}
use Rattle.c_syntax.specs.Words.{meaning}
use Rattle.c_helpers.specs.Functions.{Helper}
use Rattle.c_fewer_items.specs.FewerHeadsLaws.{all_functions, HelpersAreTyped}
use Rattle.c_fewer_items.proofs.Typed.{IsChecked, Every, IsListed, defined_typed}

-- each has its name in the list
pub all_listed : Every IsListed all_functions
all_listed = (refl, (refl, (refl, (refl, (refl, (refl, (refl, (refl, (refl, (refl, (refl, (refl, (refl, (refl, (refl, (refl, (refl, (refl, (refl, (refl, (refl, (refl, (refl, (refl, (refl, (refl, (refl, (refl, (refl, (refl, (refl, (refl, (refl, (refl, (refl, (refl, (refl, (refl, (refl, (refl, tt))))))))))))))))))))))))))))))))))))))))

all_checked : Every (λ c. IsChecked c.1) all_functions
all_checked = (record { head = λ s. refl; block = refl; simple = refl; typed = λ tags begun names defined. refl }, (record { head = λ s. refl; block = refl; simple = refl; typed = λ tags begun names defined. refl }, (record { head = λ s. refl; block = refl; simple = refl; typed = λ tags begun names defined. refl }, (record { head = λ s. refl; block = refl; simple = refl; typed = λ tags begun names defined. refl }, (record { head = λ s. refl; block = refl; simple = refl; typed = λ tags begun names defined. refl }, (record { head = λ s. refl; block = refl; simple = refl; typed = λ tags begun names defined. refl }, (record { head = λ s. refl; block = refl; simple = refl; typed = λ tags begun names defined. refl }, (record { head = λ s. refl; block = refl; simple = refl; typed = λ tags begun names defined. refl }, (record { head = λ s. refl; block = refl; simple = refl; typed = λ tags begun names defined. refl }, (record { head = λ s. refl; block = refl; simple = refl; typed = λ tags begun names defined. refl }, (record { head = λ s. refl; block = refl; simple = refl; typed = λ tags begun names defined. refl }, (record { head = λ s. refl; block = refl; simple = refl; typed = λ tags begun names defined. refl }, (record { head = λ s. refl; block = refl; simple = refl; typed = λ tags begun names defined. refl }, (record { head = λ s. refl; block = refl; simple = refl; typed = λ tags begun names defined. refl }, (record { head = λ s. refl; block = refl; simple = refl; typed = λ tags begun names defined. refl }, (record { head = λ s. refl; block = refl; simple = refl; typed = λ tags begun names defined. refl }, (record { head = λ s. refl; block = refl; simple = refl; typed = λ tags begun names defined. refl }, (record { head = λ s. refl; block = refl; simple = refl; typed = λ tags begun names defined. refl }, (record { head = λ s. refl; block = refl; simple = refl; typed = λ tags begun names defined. refl }, (record { head = λ s. refl; block = refl; simple = refl; typed = λ tags begun names defined. refl }, (record { head = λ s. refl; block = refl; simple = refl; typed = λ tags begun names defined. refl }, (record { head = λ s. refl; block = refl; simple = refl; typed = λ tags begun names defined. refl }, (record { head = λ s. refl; block = refl; simple = refl; typed = λ tags begun names defined. refl }, (record { head = λ s. refl; block = refl; simple = refl; typed = λ tags begun names defined. refl }, (record { head = λ s. refl; block = refl; simple = refl; typed = λ tags begun names defined. refl }, (record { head = λ s. refl; block = refl; simple = refl; typed = λ tags begun names defined. refl }, (record { head = λ s. refl; block = refl; simple = refl; typed = λ tags begun names defined. refl }, (record { head = λ s. refl; block = refl; simple = refl; typed = λ tags begun names defined. refl }, (record { head = λ s. refl; block = refl; simple = refl; typed = λ tags begun names defined. refl }, (record { head = λ s. refl; block = refl; simple = refl; typed = λ tags begun names defined. refl }, (record { head = λ s. refl; block = refl; simple = refl; typed = λ tags begun names defined. refl }, (record { head = λ s. refl; block = refl; simple = refl; typed = λ tags begun names defined. refl }, (record { head = λ s. refl; block = refl; simple = refl; typed = λ tags begun names defined. refl }, (record { head = λ s. refl; block = refl; simple = refl; typed = λ tags begun names defined. refl }, (record { head = λ s. refl; block = refl; simple = refl; typed = λ tags begun names defined. refl }, (record { head = λ s. refl; block = refl; simple = refl; typed = λ tags begun names defined. refl }, (record { head = λ s. refl; block = refl; simple = refl; typed = λ tags begun names defined. refl }, (record { head = λ s. refl; block = refl; simple = refl; typed = λ tags begun names defined. refl }, (record { head = λ s. refl; block = refl; simple = refl; typed = λ tags begun names defined. refl }, (record { head = λ s. refl; block = refl; simple = refl; typed = λ tags begun names defined. refl }, tt))))))))))))))))))))))))))))))))))))))))

found_checked : (cs : List (List ℕ × Helper)) → Every (λ c. IsChecked c.1) cs → (name : List ℕ) (g : Helper) → meaning cs name ≡ Some g → IsChecked g
found_checked [] h name g e = absurd (cc e)
found_checked (c ∷ cs) h name g e = go (bytes_eq name c.0) e (λ k. found_checked cs h.1 name g k)
  where
    go : (b : Bool) → cond b (Some c.1) (meaning cs name) ≡ Some g → (meaning cs name ≡ Some g → IsChecked g) → IsChecked g
    go true e more = let same : c.1 ≡ g = cc e in subst (λ z. IsChecked z) same h.0
    go false e more = more e

pub checked_of : (name : List ℕ) (g : Helper) → meaning all_functions name ≡ Some g → IsChecked g
checked_of name g e = found_checked all_functions all_checked name g e

pub helpers_are_typed : HelpersAreTyped
helpers_are_typed name g e begun s k = defined_typed begun s g k (checked_of name g e) all_listed
