-- The blocks that have been made, and the program of them.
use Rattle.std.proofs.Common.{◌≡◌, ℕ, zero, suc, ◌+◌, List, [], ◌∷◌, ◌++◌, length, map, take, Some, slice_get, Vec, Global, refl, sym, ap, ◌∙◌, add-one}
use Rattle.std.proofs.Math.Seq.{take-length}
use Rattle.std.proofs.lemmas.List.{map-append}
use Rattle.word24.specs.declared.word.Word.{Word}
use Rattle.eir_core.specs.declared.ops.Op.{Op}
use Rattle.eir_core.specs.Eir.{Eir, program_of}
use Rattle.eir_opt.specs.Optimised.{with_blocks}

take-zero : {A : Type 0} (xs : List A) → take 0 xs ≡ []
take-zero [] = refl
take-zero (x ∷ xs) = refl

take_next : {A : Type 0} (xs : List A) (k : ℕ) (x : A) → slice_get xs k ≡ Some x → take (suc k) xs ≡ take k xs ++ x ∷ []
take_next [] zero x e = absurd (cc)
take_next [] (suc k) x e = absurd (cc)
take_next (y ∷ ys) zero x e = let same : y ≡ x = cc in ap (λ zs. y ∷ zs) (take-zero ys) ∙ ap (λ z. z ∷ []) same
take_next (y ∷ ys) (suc k) x e = ap (λ zs. y ∷ zs) (take_next ys k x e)

-- one block more
pub block_made : (change : List Op → List Op) (blocks : List (List Op)) (k : ℕ) (ops : List Op) (old new : List (Vec Op Global)) (made : Vec Op Global)
    → slice_get blocks k ≡ Some ops → made.items ≡ change ops → new ≡ old ++ made ∷ [] → map (λ v. v.items) old ≡ map change (take k blocks)
    → map (λ v. v.items) new ≡ map change (take (k + 1) blocks)
block_made change blocks k ops old new made here changed pushed before =
    ap (map (λ (v : Vec Op Global). v.items)) pushed
    ∙ (map-append (λ (v : Vec Op Global). v.items) old (made ∷ [])
    ∙ (ap (λ xs. xs ++ made.items ∷ []) before
    ∙ (ap (λ x. map change (take k blocks) ++ x ∷ []) changed
    ∙ (sym (map-append change (take k blocks) (ops ∷ []))
    ∙ ap (map change) (sym (ap (λ n. take n blocks) (add-one k) ∙ take_next blocks k ops here))))))

-- the program of all blocks
pub program_made : (change : List Op → List Op) (p : Eir) (k : ℕ) (blocks : List (Vec Op Global)) (words : List Word) (start : ℕ)
    → k ≡ length p.blocks → map (λ v. v.items) blocks ≡ map change (take k p.blocks) → words ≡ p.words → start ≡ p.start
    → program_of blocks words start ≡ with_blocks change p
program_made change p k blocks words start all made words_same start_same =
    let whole : map (λ (v : Vec Op Global). v.items) blocks ≡ map change p.blocks = made ∙ ap (map change) (ap (λ n. take n p.blocks) all ∙ take-length p.blocks) in
    let of_parts : List (List Op) → List Word → ℕ → Eir = λ bs ws s. record { blocks = bs; words = ws; start = s } in
    ap (λ bs. of_parts bs words start) whole ∙ (ap (λ ws. of_parts (map change p.blocks) ws start) words_same ∙ ap (of_parts (map change p.blocks) p.words) start_same)
