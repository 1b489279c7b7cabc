-- The parts sum to the secret, which is at most as large as there are dealers.
use Rattle.std.proofs.Common.{◌≡◌, ◌≤◌, ℕ, List, length, subst, sym, ap, ◌∙◌, arith}
use Rattle.ring_spec.specs.Ring.{size}
use Rattle.ring_spec.specs.Aggregate.{ring_total}
use Rattle.share_spec.specs.Dealing.{secret}
use Rattle.share_laws.proofs.Shares.{parts_sum, secret_small}
use Rattle.shamir_ring.proofs.Sums.{if_ok}
use Rattle.shamir_ring.proofs.parts.reconstruct.Goals as goal

pub returns-clause-secret : goal.returns-clause-secret
returns-clause-secret c t seed dealers set some many parts =
    let p = c.args.ring.now.params in
    if_ok c.combine.result (λ f. f ≡ ring_total p.q p.n c.args.parts.now) (λ f. f ≡ secret p.q p.n seed dealers)
    (λ f e. e ∙ ap (ring_total p.q p.n) parts ∙ parts_sum p.q p.n t seed dealers set (omega arith) p.no_small_factor some many)
    c.combine.ensures.value

pub returns-clause-small : goal.returns-clause-small
returns-clause-small c t seed dealers set some many parts =
    let p = c.args.ring.now.params in
    if_ok c.combine.result (λ f. f ≡ ring_total p.q p.n c.args.parts.now) (λ f. size p.q f ≤ length dealers)
    (λ f e.
    let is : f ≡ secret p.q p.n seed dealers = e ∙ ap (ring_total p.q p.n) parts ∙ parts_sum p.q p.n t seed dealers set (omega arith) p.no_small_factor some many in
    let P : List ℕ → Type 0 = λ x. size p.q x ≤ length dealers in
    subst P (sym is) (secret_small p.q p.n seed dealers (omega arith)))
    c.combine.ensures.value
