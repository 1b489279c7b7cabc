-- Each coefficient is the sum of both.
use Rattle.std.proofs.Common.{◌≡◌, ◌++◌, ℕ, List, length, take, drop, ap, sym, subst, ◌∙◌, arith, rules}
use Rattle.std.specs.Prelude.{All}
use Rattle.ring_spec.specs.Ring.{IsPoly, ring_sum}
use Rattle.share_spec.specs.Dealing.{value_at}
use Rattle.share_laws.proofs.Values.{value_sum}
use Rattle.shamir_ring.proofs.Added.{sums_fit, written}
use Rattle.shamir_ring.proofs.dealing.Dealing.add.Goals as goal

pub returns-clause-values : goal.returns-clause-values
returns-clause-values c p =
    let m = c.args.ring.now.params in
    let was = c.as_mut_slice.result.now in
    let others = c.as_slice.result.now in
    let now = c.add_each.new.sums in
    let left : was ≡ c.args.self.now = (first_of (search rules, cc)) in
    let right : others ≡ c.args.other.now = (first_of (search rules, cc)) in
    let sum = value_sum m.q m.n p was others now (omega arith) (ap length right ∙ c.requires.number ∙ sym (ap length left)) c.add_each.ensures.number c.add_each.ensures.each in
    let long : length now ≡ c.self.inside.coefficients.len = (first_of (omega arith, omega (arith, c.add_each.ensures.number), search rules)) in
    subst (λ (x : List (List ℕ)). value_at m.q m.n x p ≡ ring_sum m.q m.n (value_at m.q m.n c.args.self.now p) (value_at m.q m.n c.args.other.now p))
    (sym (written c.self.inside.coefficients.len now (drop (length now) c.self.inside.coefficients.items) long))
    (subst (λ (x : List (List ℕ)). value_at m.q m.n now p ≡ ring_sum m.q m.n (value_at m.q m.n x p) (value_at m.q m.n c.args.other.now p)) left
    (subst (λ (x : List (List ℕ)). value_at m.q m.n now p ≡ ring_sum m.q m.n (value_at m.q m.n was p) (value_at m.q m.n x p)) right sum))

pub returns-clause-fits : goal.returns-clause-fits
returns-clause-fits c =
    let m = c.args.ring.now.params in
    let now = c.add_each.new.sums in
    let long : length now ≡ c.self.inside.coefficients.len = (first_of (omega arith, omega (arith, c.add_each.ensures.number), search rules)) in
    subst (All (IsPoly m.q m.n)) (sym (written c.self.inside.coefficients.len now (drop (length now) c.self.inside.coefficients.items) long))
    (sums_fit m.q m.n c.as_mut_slice.result.now c.as_slice.result.now now (omega arith) c.add_each.ensures.number c.add_each.ensures.each)
