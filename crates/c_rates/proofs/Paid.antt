-- Units of fuel pay for the operations of bodies.
use Rattle.std.proofs.Common.{◌≡◌, ℕ, zero, suc, ◌+◌, ◌-◌, ◌*◌, ◌^◌, ◌≤◌, sym, ap, ◌∙◌, subst, arith}
use Rattle.c_syntax.specs.Plain.{CStmt}
use Rattle.c_types.specs.Scope.{Scope}
use Rattle.c_types.specs.Census.{body_sum}
use Rattle.c_types.specs.Limits.{weight_of}
use Rattle.c_eval.specs.Text.{Definition}
use Rattle.c_helpers.specs.Cost.{stmt_cost}
use Rattle.c_helpers.specs.Fewer.{fewer_in_body}
use Rattle.c_memory.specs.Follows.{worth}
use Rattle.c_stated.specs.Counts.{stmt_words}
use Rattle.c_stated.specs.Statements.{stmt_steps}
use Rattle.c_stated.specs.Worth.{stmt_calls}
use Rattle.c_stated.proofs.WorthStatements.{stmt_more}
use Rattle.c_stated.proofs.Costs.{stmt_fits}
use Rattle.c_limited.proofs.Sums.{weight}
use Rattle.c_rates.proofs.Statements.{body_sound}
use Rattle.c_rates.specs.Rates.{ration, spare_rate, pieces, uses, rate_of, RatesFit, UnitsPay}
use Rattle.c_rates.proofs.Words.{body_spelled}
use Rattle.c_rates.proofs.Bodies.{body_within}

worth_is : (d n : ℕ) → worth d n ≡ d * n
unfolding worth
worth_is d zero = omega arith
worth_is d (suc n) = let e = worth_is d n in more d n (worth d n) e
  where
    more : (d n w : ℕ) → w ≡ d * n → d + w ≡ d * suc n
    more d n w e = omega (arith, e)

pieces_are : pieces ≡ 522752
pieces_are = worth_is spare_rate ration

uses_are : uses ≡ 523773
uses_are = ap (λ n. spare_rate + n) pieces_are

-- of a number of bytes
format_is : (n : ℕ) → worth (30 + 2 * pieces) n ≡ 1045534 * n
format_is n = ap (λ p. worth (30 + 2 * p) n) pieces_are ∙ worth_is 1045534 n

fit_in : (w n p : ℕ) → p ≡ 1045534 * n → n ≤ w → p ≤ 2 ^ 20 * (w + 1) - 5
fit_in w n p e le = omega (arith, e, le)

pub rates_fit : RatesFit
rates_fit u = record {
  some = some (weight_of u);
  spelled = spelled (weight_of u) pieces pieces_are;
  put = put (weight_of u) pieces pieces_are;
  printed = λ n le. fit_in (weight_of u) n (worth (30 + 2 * pieces) n) (format_is n) le;
  bound = bound (weight_of u);
  short = short uses uses_are;
}
  where
    some : (w : ℕ) → 1 ≤ 2 ^ 20 * (w + 1) - 5
    some w = omega arith

    spelled : (w p : ℕ) → p ≡ 522752 → 30 + p ≤ 2 ^ 20 * (w + 1) - 5
    spelled w p e = omega (arith, e)

    put : (w p : ℕ) → p ≡ 522752 → 60 + 2 * p ≤ 2 ^ 20 * (w + 1) - 5
    put w p e = omega (arith, e)

    bound : (w : ℕ) → 2 ^ 20 * (w + 1) - 5 + 5 ≡ 2 ^ 20 * (w + 1)
    bound w = omega arith

    short : (n : ℕ) → n ≡ 523773 → n ≤ 2 ^ 19
    short n e = omega (arith, e)

-- from what is counted
paid_by : (w n steps start cost words calls most : ℕ) → most ≡ 523773 * calls → steps ≤ start + most → start ≤ cost + 4 * words → cost ≤ 30 * n → words ≤ n → calls ≤ n → n ≤ w → steps + 2 ≤ 2 ^ 20 * (w + 1) - 5
paid_by w n steps start cost words calls most e s h c d k le = omega (arith, e, s, h, c, d, k, le)

pub units_pay : UnitsPay
units_pay u test reached name f g site typed names found stands here =
    let k = body_within u name f typed found in
    let tags : site.scope.tags ≡ f.scope.tags = ap (λ (z : Scope). z.tags) here ∙ (ap (λ (z : Definition). z.scope.tags) stands.is ∙ sym stands.stand.tags) in
    let b = body_sound weight (λ s e. omega arith) (omega arith) f.body f.scope stands.around stands.behind names stands.short stands.typed in
    let words = body_spelled f.body f.scope stands.around stands.behind k.laid stands.short stands.typed site.scope tags in
    subst (λ (z : Definition). stmt_steps uses z.body site + 2 ≤ rate_of u) (sym stands.is)
    (let t : CStmt = fewer_in_body f.scope f.body in
    paid_by (weight_of u) (body_sum weight f.scope f.body) (stmt_steps uses t site) (stmt_steps 0 t site) (stmt_cost t) (stmt_words site.scope t) (stmt_calls t) (uses * stmt_calls t) (ap (λ n. n * stmt_calls t) uses_are) (stmt_more uses t site) (stmt_fits t site) b.1 words b.2 k.light)
