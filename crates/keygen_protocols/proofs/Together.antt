-- The shares of several parties sum to a public key of the sum of their parts.
use Rattle.std.proofs.Common.{◌≡◌, ℕ, suc, ◌*◌, ◌<◌, List, [], ◌∷◌, length, refl, ap, subst}
use Rattle.ring_spec.specs.Aggregate.{ring_total}
use Rattle.bfv_spec.specs.Scheme.{IsPublicKey}
use Rattle.bfv_spec.specs.Members.{Member, parts, noises, key_shares}
use Rattle.bfv_laws.proofs.Parties.{joint_key}
use Rattle.keygen_protocols.specs.Together.{IsKeyOfAll}

-- there is one noise for each party
noises-length : (ps : List Member) → length (noises ps) ≡ length ps
noises-length [] = refl
noises-length (p ∷ ps) = ap suc (noises-length ps)

pub key-of-all : (q n : ℕ) (a sum p0 p1 : List ℕ) → p0 ≡ sum → p1 ≡ a → 0 < q → IsKeyOfAll q n a sum (record { p0 = p0; p1 = p1 })
key-of-all q n a sum p0 p1 e f h ps b s p l =
    rw (e, s, f) (subst (λ (k : ℕ). IsPublicKey q n (ring_total q n (parts ps)) (k * b) (record { p0 = ring_total q n (key_shares q n a ps); p1 = a })) (noises-length ps)
    (joint_key q n b a ps h p l))
