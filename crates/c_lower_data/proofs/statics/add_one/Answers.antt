use Rattle.std.proofs.Common.{◌≡◌, ℕ, Bool, List, [], ◌∷◌, ◌++◌, length, map, sym, ap, ◌∙◌, if◌then◌else◌}
use Rattle.std.specs.Option.{option_map}
use Rattle.c_syntax.specs.Plain as tree
use Rattle.c_syntax.specs.View.{expr_of}
use Rattle.c_eval.specs.State as run
use Rattle.c_eval.specs.State.{Cell, Holds}
use Rattle.c_eval.specs.Eval.{array_text}
use Rattle.c_eval.specs.Operators.{converted}
use Rattle.c_eval.specs.Text.{static_value, static_cells}
use Rattle.c_static.proofs.StringLemmas.{taken_by, not_taken_by, taken_literal}
use Rattle.c_lowered.specs.Whole.{word_of, cell_word, words_from}
use Rattle.c_applied.proofs.LeadsLemmas.{as_count, on_ok}
use Rattle.c_lower_data.proofs.StaticLemmas.{bytes_words, converted_word, always}
use Rattle.c_lower_data.proofs.statics.add_one.Goals as goal

pub returns-in_ok-add_bytes-in-Some-clause-words : goal.returns-in_ok-add_bytes-in-Some-clause-words
returns-in_ok-add_bytes-in-Some-clause-words c = λ t w env has at quiet.
    let e = expr_of c.args.e.now in
    let p = taken_by t e c.in-Some.bytes.items (sym (ap (option_map (λ v. v.items)) c.in-Some.is) ∙ c.in_ok-text.ensures t has) in
    let l = taken_literal t e p.taken in
    let spelled : List Cell = map (λ (n : ℕ). Holds (run.Word n)) (array_text t e) in
    let other : List Cell = Holds (converted t (static_value env e)) ∷ [] in
    let cells : spelled ≡ static_cells (tree.One e) t env = sym (ap (λ (x : Bool). if x then spelled else other) p.taken) in
    let bytes : c.as_slice.result.now ≡ map (cell_word w) (static_cells (tree.One e) t env) =
    c.as_slice.ensures.value ∙ (p.bytes_are ∙ (sym (bytes_words w (array_text t e)) ∙ ap (λ (cs : List Cell). map (cell_word w) cs) cells)) in
    record {
      words = c.in_ok-add_bytes-in-Some.ensures ∙ ap (λ (ns : List ℕ). c.args.words.now.items ++ words_from ns) bytes;
      emits = as_count (sym (ap (λ (ls : List (List ℕ)). length ls) (l.literals env.scope))) (c.pass.ensures.passed 1 (record { next = c.behind-left.ensures.next; end = c.behind-left.ensures.end }));
    }

pub returns-in_ok-add_bytes-in-Some-clause-keeps : goal.returns-in_ok-add_bytes-in-Some-clause-keeps
returns-in_ok-add_bytes-in-Some-clause-keeps c = c.pass.ensures.keeps

pub returns-in_ok-number-in-None-clause-words : goal.returns-in_ok-number-in-None-clause-words
returns-in_ok-number-in-None-clause-words c = λ t w env has at quiet.
    let e = expr_of c.args.e.now in
    let none = not_taken_by t e (sym (ap (option_map (λ v. v.items)) c.in-None.is) ∙ c.in_ok-text.ensures t has) in
    let v = static_value env e in
    let spelled : List Cell = map (λ (n : ℕ). Holds (run.Word n)) (array_text t e) in
    let other : List Cell = Holds (converted t v) ∷ [] in
    let cells : other ≡ static_cells (tree.One e) t env = sym (ap (λ (x : Bool). if x then spelled else other) none) in
    let number : word_of w v ∷ [] ≡ map (cell_word w) (static_cells (tree.One e) t env) = ap (λ (n : ℕ). n ∷ []) (sym (converted_word w t v)) ∙ ap (λ (cs : List Cell). map (cell_word w) cs) cells in
    on_ok c.add_number.result
    (λ is. record { words = is ∙ ap (λ (ns : List ℕ). c.args.words.now.items ++ words_from ns) number; emits = c.in_ok-number-in-None.ensures.emits w env at quiet })
    (c.add_number.ensures (word_of w v) (c.in_ok-number-in-None.ensures.word w env at quiet))

pub returns-in_ok-number-in-None-clause-keeps : goal.returns-in_ok-number-in-None-clause-keeps
returns-in_ok-number-in-None-clause-keeps c = always c.add_number.result c.in_ok-number-in-None.ensures.keeps
