use Rattle.std.proofs.Common.{◌≡◌, ℕ, zero, suc, ◌+◌, ◌-◌, ◌*◌, ◌%◌, ◌<◌, [], ◌∷◌, get_or, sym, ◌∙◌, ap, arith}
use Rattle.ring_ntt.specs.Nodes.{powers, undone}
use Rattle.ring_ntt.proofs.Congruence.{add_same}
use Rattle.ring_ntt.proofs.Places.{few_places}
use Rattle.ring_ntt.proofs.Slots.{four_written, four_read}
use Rattle.ring_ntt.proofs.Bases.{undone_four, back_same}
use Rattle.ring_ntt.proofs.backward.four.Goals as goal

pub overflow_mul-k : goal.overflow_mul-k
overflow_mul-k c = omega (arith, c.requires.place, few_places c.args.table.now.levels c.args.table.now.few_levels)

pub overflow_mul-k-2 : goal.overflow_mul-k-2
overflow_mul-k-2 c = omega (arith, c.requires.place, few_places c.args.table.now.levels c.args.table.now.few_levels)

pub overflow_add-k : goal.overflow_add-k
overflow_add-k c = omega (arith, c.requires.place, few_places c.args.table.now.levels c.args.table.now.few_levels)

-- two lists of four entries, equal modulo q at each place
all_same : (q a b c d x y z u i : ℕ) → i < 4 → a % q ≡ x % q → b % q ≡ y % q → c % q ≡ z % q → d % q ≡ u % q →
    get_or (a ∷ b ∷ c ∷ d ∷ []) i 0 % q ≡ get_or (x ∷ y ∷ z ∷ u ∷ []) i 0 % q
all_same q a b c d x y z u zero l e f g h = e
all_same q a b c d x y z u (suc zero) l e f g h = f
all_same q a b c d x y z u (suc (suc zero)) l e f g h = g
all_same q a b c d x y z u (suc (suc (suc zero))) l e f g h = h
all_same q a b c d x y z u (suc (suc (suc (suc i)))) l e f g h = absurd (omega arith)

pub returns-clause-same : goal.returns-clause-same
returns-clause-same c = λ i h.
    let t = c.args.table.now in
    let q = t.modulus in
    let a = c.args.a.now in
    let zs = powers q t.levels t.base in
    let k = c.args.k in
    let w = get_or zs k 0 in
    let w2 = get_or zs (2 * k) 0 in
    let w3 = get_or zs (2 * k + 1) 0 in
    let a0 = get_or a 0 0 in
    let a1 = get_or a 1 0 in
    let a2 = get_or a 2 0 in
    let a3 = get_or a 3 0 in
    let x0 = c.reunion-x0.ensures.sum in
    let x1 = c.reunion-x0.ensures.difference ∙ ap (λ z. z * (a0 + (q - 1) * a1) % q) c.factor.ensures.root in
    let x2 = c.reunion-x2.ensures.sum in
    let x3 = c.reunion-x2.ensures.difference ∙ ap (λ z. z * (a2 + (q - 1) * a3) % q) c.factor-2.ensures.root in
    let v1 = w2 * (a0 + (q - 1) * a1) in
    let v3 = w3 * (a2 + (q - 1) * a3) in
    let y0 = c.reunion-y0.ensures.sum ∙ add_same q c.reunion-x0.result.0 (a0 + a1) c.reunion-x2.result.0 (a2 + a3) x0 x2 in
    let y1 = c.reunion-y1.ensures.sum ∙ add_same q c.reunion-x0.result.1 v1 c.reunion-x2.result.1 v3 x1 x3 in
    let y2 = c.reunion-y0.ensures.difference ∙ ap (λ z. z * (c.reunion-x0.result.0 + (q - 1) * c.reunion-x2.result.0) % q) c.factor-upper.ensures.root
    ∙ back_same q w c.reunion-x0.result.0 c.reunion-x2.result.0 (a0 + a1) (a2 + a3) x0 x2 in
    let y3 = c.reunion-y1.ensures.difference ∙ ap (λ z. z * (c.reunion-x0.result.1 + (q - 1) * c.reunion-x2.result.1) % q) c.factor-upper.ensures.root
    ∙ back_same q w c.reunion-x0.result.1 c.reunion-x2.result.1 v1 v3 x1 x3 in
    ap (λ z. get_or z i 0 % q) (four_written a c.reunion-y0.result.0 c.reunion-y1.result.0 c.reunion-y0.result.1 c.reunion-y1.result.1 c.requires.count)
    ∙ all_same q c.reunion-y0.result.0 c.reunion-y1.result.0 c.reunion-y0.result.1 c.reunion-y1.result.1
    (a0 + a1 + (a2 + a3)) (v1 + v3) (w * (a0 + a1 + (q - 1) * (a2 + a3))) (w * (v1 + (q - 1) * v3)) i h y0 y1 y2 y3
    ∙ ap (λ z. z % q) (sym (undone_four q zs k a0 a1 a2 a3 i h) ∙ ap (λ z. undone q zs 2 k z i) (sym (four_read a c.requires.count)))
