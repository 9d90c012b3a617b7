-- The bits of some and of one.
use Rattle.std.proofs.Common.{◌≡◌, ℕ, ◌+◌, ◌%◌, ◌^◌, ◌<◌, ◌≤◌, List, [], append-nil, refl, sym, ap, ◌∙◌, subst, arith, mod-eq_of_lt}
use Rattle.std.proofs.lemmas.Nat.{and_le_l, or_lt, xor_lt}
use Rattle.std.specs.Int.Bits.{bit_and, bit_or, bit_xor, or_add_and, xor_add_and}
use Rattle.word24.specs.Word.{sum_word, difference_word}
use Rattle.eir_core.specs.Eir.{Eir}
use Rattle.eir_core.specs.Memory.{Memory, word_at}
use Rattle.eir_core.proofs.WordAt.{word_at-with_word_same}
use Rattle.c_place.specs.Place.{Place, Machine, made_all}
use Rattle.c_routines.specs.Items.{Stands, label_of}
use Rattle.c_routines.specs.Lands.{Kept, Lands}
use Rattle.c_routines.specs.Laws.{GivesBoth, SomeLands}
use Rattle.c_routines.specs.Some.{sum_kept, sum_less, sum_less_twice, some, one}
use Rattle.c_routines.proofs.Steps.{kept_store}
use Rattle.c_routines.proofs.Using.{used}

less_both : (x y : ℕ) → x < 2 ^ 24 → y < 2 ^ 24 → difference_word (sum_word x y) (bit_and x y) ≡ bit_or x y
less_both x y lx ly = omega (arith, or_add_and x y, or_lt 24 x y lx ly, and_le_l x y)

less_both_twice : (x y : ℕ) → x < 2 ^ 24 → y < 2 ^ 24 → difference_word (difference_word (sum_word x y) (bit_and x y)) (bit_and x y) ≡ bit_xor x y
less_both_twice x y lx ly = omega (arith, xor_add_and x y, xor_lt 24 x y lx ly, and_le_l x y)

module _ (p : Eir) (at : ℕ → ℕ) (entry base first : ℕ) (s : Place) (room : first + 26 ≤ 2 ^ 24) (small : at entry < 2 ^ 24) (serves : GivesBoth p first (at entry)) (input : List ℕ) (m : Machine) (taken : ℕ) (output : List ℕ) (word_a : m.regs.a < 2 ^ 24) (word_b : m.regs.b < 2 ^ 24) where
  spare : (first + 25) % 2 ^ 24 ≡ first + 25
  spare = mod-eq_of_lt (omega (arith, room))

  waits : Kept first 26 m.memory (made_all (sum_kept first) m).memory
  waits = kept_store first 26 25 ((first + 25) % 2 ^ 24) (sum_word m.regs.a m.regs.b) m.memory (omega arith) spare

  -- the sum is found again
  found : (mem : Memory) → word_at mem (first + 25) ≡ word_at (made_all (sum_kept first) m).memory (first + 25) → word_at mem ((first + 25) % 2 ^ 24) ≡ sum_word m.regs.a m.regs.b
  found mem e = ap (word_at mem) spare ∙ (e ∙ (ap (word_at (made_all (sum_kept first) m).memory) (sym spare) ∙ word_at-with_word_same m.memory ((first + 25) % 2 ^ 24) (sum_word m.regs.a m.regs.b)))

  pub some_lands : Stands p at s (some entry base first) → Lands p input first 26 s m taken output output 162 (λ a c. a ≡ bit_or m.regs.a m.regs.b)
  some_lands h =
      used p at input taken output first 0 entry (label_of base 0) 151 (λ x y. Unit {0}) (λ x y a c. a ≡ bit_and x y) (λ a c. a ≡ bit_or m.regs.a m.regs.b) (sum_kept first) (sum_less first) [] s m room small (omega arith) serves (tt, (tt, (tt, tt))) (tt, (tt, (tt, tt))) h word_a word_b tt
      (record {
        d = refl;
        sp = refl;
        bp = refl;
        memory = waits;
        d_after = λ n. refl;
        bp_after = λ n. refl;
        memory_after = λ n. refl;
        result = λ n w q. ap (λ z. difference_word z n.regs.a) (found n.memory w) ∙ (ap (difference_word (sum_word m.regs.a m.regs.b)) q ∙ less_both m.regs.a m.regs.b word_a word_b);
      })

  pub one_lands : Stands p at s (one entry base first) → Lands p input first 26 s m taken output output 163 (λ a c. a ≡ bit_xor m.regs.a m.regs.b)
  one_lands h =
      used p at input taken output first 0 entry (label_of base 0) 151 (λ x y. Unit {0}) (λ x y a c. a ≡ bit_and x y) (λ a c. a ≡ bit_xor m.regs.a m.regs.b) (sum_kept first) (sum_less_twice first) [] s m room small (omega arith) serves (tt, (tt, (tt, tt))) (tt, (tt, (tt, (tt, tt)))) h word_a word_b tt
      (record {
        d = refl;
        sp = refl;
        bp = refl;
        memory = waits;
        d_after = λ n. refl;
        bp_after = λ n. refl;
        memory_after = λ n. refl;
        result = λ n w q. ap (λ z. difference_word (difference_word z n.regs.a) n.regs.a) (found n.memory w) ∙ (ap (λ z. difference_word (difference_word (sum_word m.regs.a m.regs.b) z) z) q ∙ less_both_twice m.regs.a m.regs.b word_a word_b);
      })

pub somes : SomeLands
somes = record {
  some = λ p at entry base first s room small serves h. record { lands = λ input m taken output word_a word_b needs. subst (λ z. Lands p input first 26 s m taken output z 162 (λ a c. a ≡ bit_or m.regs.a m.regs.b)) (sym (append-nil output)) (some_lands p at entry base first s room small serves input m taken output word_a word_b h) };
  one = λ p at entry base first s room small serves h. record { lands = λ input m taken output word_a word_b needs. subst (λ z. Lands p input first 26 s m taken output z 163 (λ a c. a ≡ bit_xor m.regs.a m.regs.b)) (sym (append-nil output)) (one_lands p at entry base first s room small serves input m taken output word_a word_b h) };
}
