-- Relinearisation: the phase of the triple, and what the switch adds.
use Rattle.std.proofs.Common.{ℕ, ◌<◌, List, arith}
use Rattle.std.specs.Prelude.{ℤ}
use Rattle.ring_spec.specs.Ring.{wrapped, plus, minus, coefficient, IsWithin, IsPoly, ring_sum, ring_difference, ring_product, centred}
use Rattle.ring_spec.specs.Pairs.{Cipher}
use Rattle.bfv_spec.specs.Scheme.{cipher_sum, phase}
use Rattle.gadget_spec.specs.Digits.{Gadget, Serves}
use Rattle.gadget_spec.specs.Switching.{KeyRow, IsSwitchKey, key_switch}
use Rattle.tensor_spec.specs.Tensors.{Triple, rescaled, scaled, tensor, triple_phase, relinearisation}
use Rattle.ring_laws.specs.Congruence.{Agree}
use Rattle.gadget_laws.specs.Switching.{switch_noise}
use Rattle.tensor_laws.specs.Relinearising.{TensorsFit, RelinearisationsFit, RelinearisationsAddLittle}
use Rattle.ring_laws.proofs.Integers.{sums}
use Rattle.ring_laws.proofs.Products.{wrapped_sum_left}
use Rattle.ring_laws.proofs.Congruences.{agree_equal, agree_self, agree_chain, agree_back, agree_sum, agree_product}
use Rattle.ring_laws.proofs.Residues.{residues_poly, sum_poly, difference_poly}
use Rattle.ring_laws.proofs.Rings.{sum_agrees, difference_agrees, product_agrees}
use Rattle.ring_laws.proofs.Sizes.{size_within}
use Rattle.gadget_laws.proofs.Phases.{opened, phase_agrees}
use Rattle.gadget_laws.proofs.Switches.{switch_is}

pub tensors_fit : TensorsFit
unfolding tensor rescaled
tensors_fit q n t c d h = record {
  o0 = residues_poly q n (scaled q t (wrapped n (centred q c.c0) (centred q d.c0))) h;
  o1 = residues_poly q n (scaled q t (plus (wrapped n (centred q c.c0) (centred q d.c1)) (wrapped n (centred q c.c1) (centred q d.c0)))) h;
  o2 = residues_poly q n (scaled q t (wrapped n (centred q c.c1) (centred q d.c1))) h;
}

pub relinearisations_fit : RelinearisationsFit
unfolding relinearisation cipher_sum
relinearisations_fit q n g key x h = record {
  c0 = sum_poly q n x.o0 (key_switch q n g key x.o2).c0 h;
  c1 = sum_poly q n x.o1 (key_switch q n g key x.o2).c1 h;
}

-- the coefficients of the phase of a triple
pub triple_phase_agrees : {q n : ℕ} {A B C : ℕ → ℤ} (x : Triple) (s : List ℕ) → 0 < q → Agree q n (coefficient x.o0) A → Agree q n (coefficient x.o1) B → Agree q n (coefficient x.o2) C →
    Agree q n (coefficient (triple_phase q n s x)) (plus (opened n s A B) (wrapped n C (wrapped n (coefficient s) (coefficient s))))
unfolding triple_phase
triple_phase_agrees {q} {n} x s h at0 at1 at2 =
    let S = agree_self q n (coefficient s) in let ss = ring_product q n s s in
    sum_agrees (ring_sum q n x.o0 (ring_product q n x.o1 s)) (ring_product q n x.o2 ss) h
    (sum_agrees x.o0 (ring_product q n x.o1 s) h at0 (product_agrees x.o1 s h at1 S))
    (product_agrees x.o2 ss h at2 (product_agrees s s h S S))

-- the phase of a triple that is relinearised
pub record IsRelinearised (q n : ℕ) (s : List ℕ) (v : ℕ) (x : Triple) (c : Cipher) : Type 0 where
  pub noise : ℕ → ℤ
  pub agrees : Agree q n (coefficient (phase q n s c)) (plus (coefficient (triple_phase q n s x)) noise)
  pub within : IsWithin n v noise

pub relinearised : (q n v : ℕ) (g : Gadget) (s : List ℕ) (key : List KeyRow) (x : Triple) → 0 < q → Serves q g → IsPoly q n x.o2 → IsSwitchKey q n g s (ring_product q n s s) v key →
    IsRelinearised q n s (switch_noise n g v) x (relinearisation q n g key x)
unfolding relinearisation cipher_sum
relinearised q n v g s key x h serves p owns =
    let ss = ring_product q n s s in let S = coefficient s in
    let k = key_switch q n g key x.o2 in
    let switched = switch_is q n v g s ss key x.o2 h serves p owns in
    let A = coefficient x.o0 in let B = coefficient x.o1 in let C = coefficient x.o2 in
    let K0 = coefficient k.c0 in let K1 = coefficient k.c1 in
    let SS = wrapped n S S in
    let at_all : Agree q n (coefficient (phase q n s (relinearisation q n g key x))) (opened n s (plus A K0) (plus B K1)) =
    phase_agrees (relinearisation q n g key x) s h (sum_agrees x.o0 k.c0 h (agree_self q n A) (agree_self q n K0)) (sum_agrees x.o1 k.c1 h (agree_self q n B) (agree_self q n K1)) in
    let parts : Agree q n (opened n s (plus A K0) (plus B K1)) (plus (opened n s A B) (opened n s K0 K1)) =
    agree_equal q n (opened n s (plus A K0) (plus B K1)) (plus (opened n s A B) (opened n s K0 K1)) (λ i l. omega (arith, sums, wrapped_sum_left n B K1 S i)) in
    let at_k : Agree q n (opened n s K0 K1) (plus (wrapped n C SS) switched.noise) =
    agree_chain (agree_back (phase_agrees k s h (agree_self q n K0) (agree_self q n K1)))
    (agree_chain switched.agrees (agree_sum (agree_product (agree_self q n C) (product_agrees s s h (agree_self q n S) (agree_self q n S))) (agree_self q n switched.noise))) in
    let shuffle : Agree q n (plus (opened n s A B) (plus (wrapped n C SS) switched.noise)) (plus (plus (opened n s A B) (wrapped n C SS)) switched.noise) =
    agree_equal q n (plus (opened n s A B) (plus (wrapped n C SS) switched.noise)) (plus (plus (opened n s A B) (wrapped n C SS)) switched.noise) (λ i l. omega (arith, sums)) in
    record {
      noise = switched.noise;
      agrees = agree_chain at_all (agree_chain parts (agree_chain (agree_sum (agree_self q n (opened n s A B)) at_k) (agree_chain shuffle
          (agree_sum (agree_back (triple_phase_agrees x s h (agree_self q n A) (agree_self q n B) (agree_self q n C))) (agree_self q n switched.noise)))));
      within = switched.within;
    }

pub relinearisations_add_little : RelinearisationsAddLittle
relinearisations_add_little q n v g s key x h serves p owns =
    let c = relinearisation q n g key x in
    let all = relinearised q n v g s key x h serves p owns in
    let F = coefficient (triple_phase q n s x) in
    size_within (switch_noise n g v) (ring_difference q n (phase q n s c) (triple_phase q n s x)) all.noise
    (difference_poly q n (phase q n s c) (triple_phase q n s x) h)
    (agree_chain (difference_agrees (phase q n s c) (triple_phase q n s x) h all.agrees (agree_self q n F))
    (agree_equal q n (minus (plus F all.noise) F) all.noise (λ i l. omega (arith, sums))))
    all.within
