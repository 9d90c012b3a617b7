-- The whole program stands for the EIR program.
use Rattle.std.proofs.Common.{◌≡◌, ℕ, zero, suc, ◌+◌, ◌-◌, ◌*◌, ◌^◌, ◌≤◌, max, List, [], ◌∷◌, ◌++◌, length, map, slice_get, slice_index, sum_by, Some, refl, sym, ap, subst, ◌∙◌, arith, append-nil, length-append}
use Rattle.std.proofs.lemmas.List.{length-map}
use Rattle.std.proofs.lemmas.List.Sums.{sum_by-take-le}
use Rattle.std.proofs.lemmas.Option.{slice_get_within}
use Rattle.std.proofs.Math.Nat.{mul_assoc, mul_comm, suc-mul}
use Rattle.mach_core.specs.Rule.{IsInput}
use Rattle.word24.specs.declared.word.Word.{Word}
use Rattle.word24.specs.Word.{number_of}
use Rattle.eir_core.specs.declared.ops.Op.{Op}
use Rattle.eir_core.specs.declared.ops.Op.TheVariants.{Mov, Add, Sub, Load, Store, Putc, Getc, Set, Exit, Jump, JumpIf}
use Rattle.eir_core.specs.Eir.{Eir, IsEir, size_of}
use Rattle.eir_core.specs.Reach.{near_of, near_at}
use Rattle.eir_core.specs.Step.{Regs, value_of, eir_start}
use Rattle.sim_trait.specs.Digits.{digit_count}
use Rattle.bf_lang.specs.declared.command.Command.{Command}
use Rattle.bf_lang.specs.declared.command.Command.TheVariants.{Close}
use Rattle.bf_lang.specs.Balance.{IsBalanced}
use Rattle.bf_lang.specs.Text.{byte_of}
use Rattle.bf_lang.proofs.Partners.{balanced_append, balanced_loop}
use Rattle.bf_lang.proofs.Spelled.{are_spelled}
use Rattle.bf_tape.specs.Does.{Does, loop}
use Rattle.bf_tape.specs.Code.{while_code}
use Rattle.bf_tape.specs.Piece.{Piece, joined}
use Rattle.bf_memory.specs.Row.{near, steps_to}
use Rattle.bf_ops.specs.Perform.{steps_of}
use Rattle.bf_choice.specs.Choice.{chosen, digits_of}
use Rattle.bf_turn.specs.Number.{op_count, number_at, first_numbers, digits_in}
use Rattle.bf_turn.specs.Turn.{turn_most, choosing, IsTurn}
use Rattle.bf_turn.proofs.Listed.{sum_more}
use Rattle.bf_turn.proofs.Eirs.{found, jumps_to}
use Rattle.bf_turn.proofs.Turned.{digits_few}
use Rattle.bf_back.specs.Data.{blank, loaded, Begins}
use Rattle.bf_back.specs.Whole.{words_of, Opens, IsWhole, StandsFor}
use Rattle.bf_back.proofs.Laid.{loaded_settled}
use Rattle.bf_back.proofs.Simulated.{follows, loads_all, stands_as}

-- a product is no less than its parts
product : (b s : ℕ) → 2 ≤ s → 2 * suc b + s ≤ suc b * s + 2
product zero s h = omega (arith, suc-mul 0 s)
product (suc b) s h = omega (arith, suc-mul (suc b) s, product b s h)

enough : (x s r b : ℕ) → r ≡ suc b → 2 ≤ s → x ≤ 16777216 * (2 * r + s - 2) → x ≤ 16777216 * s * r
enough x s r b is h le =
    let e : r * s ≡ suc b * s = ap (λ k. k * s) is in
    let turned : 16777216 * s * r ≡ 16777216 * (r * s) = mul_assoc 16777216 s r ∙ ap (λ k. 16777216 * k) (mul_comm s r) in
    omega (arith, turned, e, is, product b s h)

-- the steps of an operation
of_access : (a blocks size words : ℕ) → 1 ≤ blocks → blocks + 1 ≤ size → blocks ≤ 16384 → steps_to a + 2 ^ 14 + 2 * (blocks * 2 ^ 14 + 2 ^ 23) + 2 ≤ 16777216 * (size + 1) * (max words (near a) + 1)
of_access a blocks size words some fewer few =
    let r : ℕ = max words (near a) + 1 in
    enough (steps_to a + 2 ^ 14 + 2 * (blocks * 2 ^ 14 + 2 ^ 23) + 2) (size + 1) r (max words (near a)) (omega arith) (omega arith) (below (near a) words blocks size some fewer few)
  where
    below : (n words blocks size : ℕ) → 1 ≤ blocks → blocks + 1 ≤ size → blocks ≤ 16384 → 25165824 * (n + 1) + 16384 + 2 * (blocks * 16384 + 8388608) + 2 ≤ 16777216 * (2 * (max words n + 1) + (size + 1) - 2)
    below n words blocks size some fewer few = omega arith

of_other : (blocks size words : ℕ) → 1 ≤ blocks → blocks + 1 ≤ size → blocks ≤ 16384 → 2 ^ 24 + 2 * (blocks * 2 ^ 14 + 2 ^ 23) + 2 ≤ 16777216 * (size + 1) * (max words 0 + 1)
of_other blocks size words some fewer few =
    let r : ℕ = max words 0 + 1 in
    enough (2 ^ 24 + 2 * (blocks * 2 ^ 14 + 2 ^ 23) + 2) (size + 1) r (max words 0) (omega arith) (omega arith) (omega arith)

step_bound : (r : Regs) (op : Op) (blocks size words : ℕ) → 1 ≤ blocks → blocks + 1 ≤ size → blocks ≤ 16384 → steps_of op r + 2 * (blocks * 2 ^ 14 + 2 ^ 23) + 2 ≤ 16777216 * (size + 1) * (max words (near_of r (Some op)) + 1)
step_bound r (Mov x v) blocks size words some fewer few = of_other blocks size words some fewer few
step_bound r (Add x v) blocks size words some fewer few = of_other blocks size words some fewer few
step_bound r (Sub x v) blocks size words some fewer few = of_other blocks size words some fewer few
step_bound r (Load x v) blocks size words some fewer few = of_access (value_of r v) blocks size words some fewer few
step_bound r (Store x v) blocks size words some fewer few = of_access (value_of r v) blocks size words some fewer few
step_bound r (Putc v) blocks size words some fewer few = of_other blocks size words some fewer few
step_bound r (Getc x) blocks size words some fewer few = of_other blocks size words some fewer few
step_bound r (Set test x v) blocks size words some fewer few = of_other blocks size words some fewer few
step_bound r Exit blocks size words some fewer few = of_other blocks size words some fewer few
step_bound r (Jump v) blocks size words some fewer few = of_other blocks size words some fewer few
step_bound r (JumpIf test v x w) blocks size words some fewer few = of_other blocks size words some fewer few

load_bound : (words blocks size : ℕ) → words + blocks ≤ size → words * 2 ^ 15 + 2 ^ 22 + (blocks * 2 ^ 14 + 2 ^ 23) + 2 ≤ 16777216 * (size + 1) * (words + 1)
load_bound words blocks zero a = omega arith
load_bound words blocks (suc size) a = enough (words * 2 ^ 15 + 2 ^ 22 + (blocks * 2 ^ 14 + 2 ^ 23) + 2) (suc size + 1) (words + 1) words (omega arith) (omega arith) (omega arith)

-- where an operation is, the blocks are fewer than the size
some_op : (blocks : List (List Op)) (b i : ℕ) (ops : List Op) (op : Op) → slice_get blocks b ≡ Some ops → slice_get ops i ≡ Some op → 1 ≤ sum_by length blocks
some_op blocks b i ops op there here = omega (arith, sum_more blocks b ops there, sum_by-take-le length blocks (b + 1), slice_get_within ops i op here)

pub stands_for : (p : Eir) (code : List Command) → IsEir p → size_of p ≤ 2 ^ 14 → IsWhole p code → StandsFor p code
stands_for p code sound small w =
    let nil : IsInput [] = λ k d h. absurd (omega arith) in
    let balanced : IsBalanced code = subst IsBalanced (sym w.parts) (balanced_append w.setup (loop w.body) (w.begins [] nil).balanced (balanced_loop w.body w.balanced)) in
    let digits : digits_in p ≤ 14 = digits_few p (digits_in p) (op_count p) small refl refl in
    record {
      short = omega (arith, length-map code byte_of, w.short, small);
      spelled = (are_spelled code).text balanced;
      simulates = record {
        counts = omega arith;
        loads = λ input is. let l = loads_all p sound code w input is (loaded_settled p small digits) in (l.0, omega (arith, l.1, load_bound (length p.words) (length p.blocks) (size_of p) (omega arith)), l.2);
        steps = λ input s m is alike going.
            let f = follows p sound code w input s m is alike going in
            let op : Op = f.0 in
            let at = found p s.config.block s.config.index op f.1 in
            let some : 1 ≤ op_count p = some_op p.blocks s.config.block s.config.index at.ops op at.there at.here in
            let most : steps_of op s.config.regs + 2 * turn_most p + 2 ≤ 16777216 * (size_of p + 1) * (max (length p.words) (near_of s.config.regs (Some op)) + 1) = step_bound s.config.regs op (length p.blocks) (size_of p) (length p.words) (omega (arith, slice_get_within p.blocks s.config.block at.ops at.there)) (omega (arith, some)) (omega (arith, small)) in
            let near_is : near_at p s.config ≡ near_of s.config.regs (Some op) = ap (near_of s.config.regs) f.1 in
            (f.2.0, f.2.1, subst (λ n. f.2.0 ≤ 16777216 * (size_of p + 1) * (max (length p.words) n + 1)) (sym near_is) (omega (arith, f.2.2, most)), f.2.3);
        stands = λ c d rel. stands_as p sound code w c d rel;
      };
    }

-- from the pieces
pub whole_of : {first last : Piece} (body : Piece) (p : Eir) → size_of p ≤ 2 ^ 14 → Opens p first.commands → first.cell ≡ 0 → IsBalanced body.commands → IsTurn p body.commands → last ≡ joined first (while_code first.cell 0 body.commands) 0 → IsWhole p last.commands
whole_of {first = first} {last = last} body p small opens home balanced turn is =
    let parts : last.commands ≡ first.commands ++ loop body.commands =
    ap (λ p. p.commands) is ∙ (ap (λ h. first.commands ++ while_code h 0 body.commands) home ∙ ap (λ xs. first.commands ++ loop xs) (append-nil body.commands)) in
    record {
      setup = first.commands;
      body = body.commands;
      parts = parts;
      balanced = balanced;
      short = omega (arith, ap length parts, length-append first.commands (loop body.commands), length-append body.commands (Close ∷ []), opens.short, turn.short, small);
      turn = turn;
      begins = opens.begins;
    }

pub opens_of : {first last : Piece} (p : Eir) (words : List Word) (digits count start : ℕ) (numbers : List ℕ) → IsEir p → first ≡ record { commands = []; cell = 0 } → last.cell ≡ 0 → words ≡ p.words → count ≡ op_count p → digits ≡ digit_count count → numbers ≡ first_numbers 1 p.blocks
    → start ≡ slice_index numbers p.start → Begins first last (map number_of words) digits start → Opens p last.commands
opens_of {first = first} {last = last} p words digits count start numbers sound from home words_is count_is digits_is numbers_is start_is b =
    let e : digits ≡ digits_in p = digits_is ∙ ap digit_count count_is in
    let s : start ≡ number_at p p.start 0 = start_is ∙ (ap (λ ns. slice_index ns p.start) numbers_is ∙ sym (jumps_to p p.start)) in
    let ws : map number_of words ≡ words_of p = ap (map number_of) words_is in
    let code : last.commands ≡ b.added = b.commands ∙ ap (λ (q : Piece). q.commands ++ b.added) from in
    let many : length (map number_of words) ≡ length p.words = length-map words number_of ∙ ap length words_is in
    record {
      sound = sound;
      short = omega (arith, ap length code, many, b.short);
      begins = λ input is.
          let all : Does input b.added first.cell blank last.cell (chosen digits (digits_of digits start) (loaded (map number_of words))) (length (map number_of words) * 2 ^ 15 + 2 ^ 22) = b.does input is in
          let there : chosen digits (digits_of digits start) (loaded (map number_of words)) ≡ choosing p (eir_start p) (loaded (words_of p)) = λ i. chosen (e i) (digits_of (e i) (s i)) (loaded (ws i)) in
          subst (λ n. Does input last.commands 0 blank 0 (choosing p (eir_start p) (loaded (words_of p))) (n * 2 ^ 15 + 2 ^ 22)) many
          (subst (λ y. Does input last.commands 0 blank y (choosing p (eir_start p) (loaded (words_of p))) (length (map number_of words) * 2 ^ 15 + 2 ^ 22)) home
          (subst (λ y. Does input last.commands y blank last.cell (choosing p (eir_start p) (loaded (words_of p))) (length (map number_of words) * 2 ^ 15 + 2 ^ 22)) (ap (λ q. q.cell) from)
          (subst (λ t. Does input last.commands first.cell blank last.cell t (length (map number_of words) * 2 ^ 15 + 2 ^ 22)) there
          (subst (λ xs. Does input xs first.cell blank last.cell (chosen digits (digits_of digits start) (loaded (map number_of words))) (length (map number_of words) * 2 ^ 15 + 2 ^ 22)) (sym code) all))));
    }
