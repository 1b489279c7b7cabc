use Rattle.std.proofs.Common.{◌≡◌, ℕ, zero, suc, ◌+◌, ◌-◌, ◌*◌, ◌%◌, ◌<◌, [], ◌∷◌, get_or, sym, ◌∙◌, ap, arith}
use Rattle.ring_ntt.specs.Nodes.{powers, undone}
use Rattle.ring_ntt.proofs.Slots.{two_written, two_read}
use Rattle.ring_ntt.proofs.Bases.{undone_two}
use Rattle.ring_ntt.proofs.backward.two.Goals as goal

-- two lists of two entries, equal modulo q at each place
both_same : (q a b x y i : ℕ) → i < 2 → a % q ≡ x % q → b % q ≡ y % q → get_or (a ∷ b ∷ []) i 0 % q ≡ get_or (x ∷ y ∷ []) i 0 % q
both_same q a b x y zero l e h = e
both_same q a b x y (suc zero) l e h = h
both_same q a b x y (suc (suc i)) l e h = absurd (omega arith)

pub returns-clause-same : goal.returns-clause-same
returns-clause-same c = λ i h.
    let t = c.args.table.now in
    let q = t.modulus in
    let a = c.args.a.now in
    let zs = powers q t.levels t.base in
    let k = c.args.k in
    let x = get_or a 0 0 in
    let y = get_or a 1 0 in
    ap (λ z. get_or z i 0 % q) (two_written a c.reunion-x.result.0 c.reunion-x.result.1 c.requires.count)
    ∙ both_same q c.reunion-x.result.0 c.reunion-x.result.1 (x + y) (get_or zs k 0 * (x + (q - 1) * y)) i h
    c.reunion-x.ensures.sum
    (c.reunion-x.ensures.difference ∙ ap (λ z. z * (x + (q - 1) * y) % q) c.factor.ensures.root)
    ∙ ap (λ z. z % q) (sym (undone_two q zs k x y i h) ∙ ap (λ z. undone q zs 1 k z i) (sym (two_read a c.requires.count)))
