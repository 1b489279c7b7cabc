-- The shares of several parties open what the ciphertext carries.
use Rattle.std.proofs.Common.{◌≡◌, ℕ, suc, ◌+◌, ◌*◌, ◌^◌, ◌<◌, ◌≤◌, List, [], ◌∷◌, length, refl, ap, sym, subst, ◌∙◌}
use Rattle.ring_spec.specs.Ring.{ring_sum}
use Rattle.bfv_spec.specs.Scheme.{limit, decryption}
use Rattle.bfv_spec.specs.Members.{Member, noises}
use Rattle.bfv_laws.proofs.Decryptions.{parameters_fit}
use Rattle.bfv_laws.proofs.Parties.{joint_limit_decrypts}
use Rattle.decrypt_protocol.specs.Together.{OpensForAll}

-- there is one noise for each party
noises-length : (ps : List Member) → length (noises ps) ≡ length ps
noises-length [] = refl
noises-length (p ∷ ps) = ap suc (noises-length ps)

pub opens-for-all : (q n t d : ℕ) (c0 sum opened : List ℕ) → 0 < t → t ≤ 65537 → 2 ^ 40 ≤ q → opened ≡ decryption q t (ring_sum q n c0 sum) →
    OpensForAll q n t d c0 sum opened
opens-for-all q n t d c0 sum opened ht lt lq e ps c1 m v s p l pm carried within =
    let all : v + length (noises ps) * d ≤ limit q t = subst (λ (k : ℕ). v + k * d ≤ limit q t) (sym (noises-length ps)) within in
    e ∙ ap (λ f. decryption q t (ring_sum q n c0 f)) s
    ∙ joint_limit_decrypts q n t v d (record { c0 = c0; c1 = c1 }) m ps ht (parameters_fit q t ht lt lq) pm carried p l all
