use Rattle.std.proofs.Common.{◌≡◌, ℕ, ◌+◌, ◌∷◌, [], ◌++◌, length, take, drop, refl, sym, ap, subst, ◌∙◌, arith}
use Rattle.piet_lang.specs.Chart.{index_of, Filling}
use Rattle.piet_lang.specs.Blocks.{Found}
use Rattle.piet_lang.proofs.BackLemmas.{written_all, on_ok}
use Rattle.piet_lang.proofs.FoundLemmas.{found_block}
use Rattle.piet_lang.proofs.find.number_block.Goals as goal

pub returns : goal.returns
returns c =
    let im = c.args.image.now in
    let old = c.args.blocks.now in
    let numbers = old.numbers.items in
    let new = c.fill.new.numbers in
    let members = c.fill.new.members.items in
    let number : ℕ = c.len.result + 1 in
    let state = subst (λ xs. Filling im c.args.hue c.args.light c.args.start number xs new members) c.deref_mut.ensures.value c.in_ok-fill.ensures.filled in
    let given : number ≡ length old.sizes.items + 1 = ap (λ n. n + 1) (c.len.ensures ∙ old.sizes.ok.0) in
    let some : number ≡ 0 → ⊥ = λ e. absurd (omega arith) in
    let back = written_all numbers new old.numbers.len old.numbers.ok.0 state.size in
    let sizes : c.push.new.self.items ≡ old.sizes.items ++ length members ∷ [] = c.in_ok-push.ensures.items ∙ ap (λ n. old.sizes.items ++ n ∷ []) (c.len-2.ensures ∙ c.fill.new.members.ok.0) in
    on_ok c.add_exits.result _ _
    (λ adds.
    let all = found_block im c.args.hue c.args.light c.args.start number numbers new members old.sizes.items old.exits.items c.add_exits.new.exits.items (index_of im c.args.start) c.requires.found state c.in_ok-fill.ensures.explored adds given some refl in
    subst (λ xs. Found im (take old.numbers.len (new ++ drop (length new) numbers)) xs c.add_exits.new.exits.items (index_of im c.args.start + 1)) (sym sizes)
    (subst (λ xs. Found im xs (old.sizes.items ++ length members ∷ []) c.add_exits.new.exits.items (index_of im c.args.start + 1)) (sym back) all))
    (rw (sym c.deref.ensures.value) c.add_exits.ensures)
