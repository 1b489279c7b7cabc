-- A rotation: the phase with X^e for X, and what the switch adds; so it carries the plaintext with X^e for X.
use Rattle.std.proofs.Common.{◌≡◌, ℕ, ◌+◌, ◌*◌, ◌%◌, ◌<◌, List, replicate, sym, ap, subst, arith}
use Rattle.std.specs.Prelude.{ℤ, pos, neg_ℤ}
use Rattle.std.proofs.lemmas.List.{get_or-replicate}
use Rattle.ring_spec.specs.Ring.{wrapped, turned, plus, minus, times, coefficient, size, IsWithin, residues, ring_difference, ring_multiple, ring_turned, centred}
use Rattle.ring_spec.specs.Pairs.{Cipher}
use Rattle.bfv_spec.specs.Scheme.{delta, remainder, cipher_sum, phase, Carries}
use Rattle.gadget_spec.specs.Digits.{Gadget, Serves}
use Rattle.gadget_spec.specs.Switching.{KeyRow, IsSwitchKey, key_switch, rotation}
use Rattle.ring_laws.specs.Congruence.{Agree}
use Rattle.gadget_laws.specs.Switching.{switch_noise, RotationsAddLittle, RotationsCarry}
use Rattle.ring_laws.proofs.Integers.{sums}
use Rattle.ring_laws.proofs.Products.{wrapped_sum_left, wrapped_zero_left}
use Rattle.ring_laws.proofs.Congruences.{agree_equal, agree_self, agree_chain, agree_back, agree_sum, agree_difference, agree_product}
use Rattle.ring_laws.proofs.Residues.{difference_poly, entry_below}
use Rattle.ring_laws.proofs.Rings.{sum_agrees, difference_agrees, multiple_agrees}
use Rattle.ring_laws.proofs.Sizes.{size_within, within_sum, within_more, centred_agrees, centred_within}
use Rattle.ring_laws.proofs.Turns.{turned_sum, turned_times, turned_negative, turned_product, agree_turned, turned_agrees, turned_poly}
use Rattle.ring_laws.proofs.TurnSizes.{turned_within}
use Rattle.gadget_laws.proofs.Phases.{opened, phase_agrees}
use Rattle.gadget_laws.proofs.Reduced.{reduced_carries}
use Rattle.gadget_laws.proofs.Switches.{switch_is}

-- the phase of a rotation
record Turned (q n : ℕ) (s : List ℕ) (e v : ℕ) (c t : Cipher) : Type 0 where
  noise : ℕ → ℤ
  agrees : Agree q n (coefficient (phase q n s t)) (plus (turned n e (coefficient (phase q n s c))) noise)
  within : IsWithin n v noise

rotation_is : (q n e v : ℕ) (g : Gadget) (s : List ℕ) (key : List KeyRow) (c : Cipher) → 0 < q → e % 2 ≡ 1 → Serves q g → IsSwitchKey q n g s (ring_turned q n e s) v key →
    Turned q n s e (switch_noise n g v) c (rotation q n g key e c)
unfolding rotation cipher_sum
rotation_is q n e v g s key c h odd serves owns =
    let C0 = coefficient c.c0 in let C1 = coefficient c.c1 in let S = coefficient s in
    let f0 = ring_turned q n e c.c0 in let f1 = ring_turned q n e c.c1 in let z = ring_turned q n e s in
    let k = key_switch q n g key f1 in
    let switched = switch_is q n v g s z key f1 h serves (turned_poly q n e c.c1 h) owns in
    let K0 = coefficient k.c0 in let K1 = coefficient k.c1 in
    let T0 = turned n e C0 in let T1 = turned n e C1 in let TS = turned n e S in
    let nothing = λ (i : ℕ). pos 0 in
    let at_nothing : Agree q n (coefficient (replicate n 0)) nothing = agree_equal q n (coefficient (replicate n 0)) nothing (λ i p. ap pos (get_or-replicate n i 0 0 p)) in
    let at_all : Agree q n (coefficient (phase q n s (rotation q n g key e c))) (opened n s (plus T0 K0) (plus nothing K1)) =
    phase_agrees (rotation q n g key e c) s h
    (sum_agrees f0 k.c0 h (turned_agrees e c.c0 h (agree_self q n C0)) (agree_self q n K0))
    (sum_agrees (replicate n 0) k.c1 h at_nothing (agree_self q n K1)) in
    let at_k : Agree q n (opened n s K0 K1) (plus (wrapped n T1 TS) switched.noise) =
    agree_chain (agree_back (phase_agrees k s h (agree_self q n K0) (agree_self q n K1)))
    (agree_chain switched.agrees (agree_sum (agree_product (turned_agrees e c.c1 h (agree_self q n C1)) (turned_agrees e s h (agree_self q n S))) (agree_self q n switched.noise))) in
    let parts : Agree q n (opened n s (plus T0 K0) (plus nothing K1)) (plus T0 (opened n s K0 K1)) =
    agree_equal q n (opened n s (plus T0 K0) (plus nothing K1)) (plus T0 (opened n s K0 K1))
    (λ i p. omega (arith, sums, wrapped_sum_left n nothing K1 S i, wrapped_zero_left n S i)) in
    let back : Agree q n (plus T0 (plus (wrapped n T1 TS) switched.noise)) (plus (turned n e (opened n s C0 C1)) switched.noise) =
    agree_equal q n (plus T0 (plus (wrapped n T1 TS) switched.noise)) (plus (turned n e (opened n s C0 C1)) switched.noise)
    (λ i p. omega (arith, sums, turned_sum n e C0 (wrapped n C1 S) i p, turned_product n e C1 S i p odd)) in
    record {
      noise = switched.noise;
      agrees = agree_chain at_all (agree_chain parts (agree_chain (agree_sum (agree_self q n T0) at_k) (agree_chain back
          (agree_sum (agree_turned e (agree_back (phase_agrees c s h (agree_self q n C0) (agree_self q n C1)))) (agree_self q n switched.noise)))));
      within = switched.within;
    }

pub rotations_add_little : RotationsAddLittle
rotations_add_little q n e v g s key c h odd serves owns =
    let t = rotation q n g key e c in
    let all = rotation_is q n e v g s key c h odd serves owns in
    let F = coefficient (phase q n s c) in
    size_within (switch_noise n g v) (ring_difference q n (phase q n s t) (ring_turned q n e (phase q n s c))) all.noise
    (difference_poly q n (phase q n s t) (ring_turned q n e (phase q n s c)) h)
    (agree_chain (difference_agrees (phase q n s t) (ring_turned q n e (phase q n s c)) h all.agrees (turned_agrees e (phase q n s c) h (agree_self q n F)))
    (agree_equal q n (minus (plus (turned n e F) all.noise) (turned n e F)) all.noise (λ i l. omega (arith, sums))))
    all.within

pub rotations_carry : RotationsCarry
unfolding ring_turned
rotations_carry q n d t e v w g s key c m h ht power odd serves pm carried owns =
    let D = delta q t in let M = coefficient m in
    let f = phase q n s c in let F = coefficient f in
    let off = ring_difference q n f (ring_multiple q n D m) in
    let E = centred q off in
    let r = rotation q n g key e c in
    let all = rotation_is q n e w g s key c h odd serves owns in
    let at_off : Agree q n (minus F (times (pos D) M)) E =
    agree_chain (agree_back (difference_agrees f (ring_multiple q n D m) h (agree_self q n F) (multiple_agrees D m h (agree_self q n M)))) (centred_agrees q n off) in
    let P = turned n e M in
    let parts : Agree q n (minus (plus (turned n e F) all.noise) (times (pos D) P)) (plus (turned n e (minus F (times (pos D) M))) all.noise) =
    agree_equal q n (minus (plus (turned n e F) all.noise) (times (pos D) P)) (plus (turned n e (minus F (times (pos D) M))) all.noise)
    (λ i l. omega (arith, sums, turned_sum n e F (λ j. neg_ℤ (times (pos D) M j)) i l, turned_negative n e (times (pos D) M) i l, turned_times n e (pos D) M i l)) in
    let at : Agree q n (minus (coefficient (phase q n s r)) (times (pos D) P)) (plus (turned n e E) all.noise) =
    agree_chain (agree_difference all.agrees (agree_self q n (times (pos D) P))) (agree_chain parts (agree_sum (agree_turned e at_off) (agree_self q n all.noise))) in
    let turn : (u : ℕ) (a : ℕ → ℤ) → IsWithin n u a → IsWithin n u (turned n e a) =
    λ u a l. subst (λ (x : ℕ). IsWithin x u (turned x e a)) (sym power) (turned_within d e u a odd (subst (λ (x : ℕ). IsWithin x u a) power l)) in
    let few : IsWithin n (1 * t) P = turn (1 * t) M (λ i l. omega (arith, entry_below t n m i pm l)) in
    let little : IsWithin n v E = within_more n (size q off) v E carried.noise (centred_within q n off (difference_poly q n f (ring_multiple q n D m) h)) in
    let result = reduced_carries q n t (v + switch_noise n g w) 1 r s P (plus (turned n e E) all.noise) h ht at
    (within_sum n v (switch_noise n g w) (turned n e E) all.noise (turn v E little) all.within) few in
    let bound : v + switch_noise n g w + remainder q t * 1 ≡ v + remainder q t + switch_noise n g w = omega arith in
    subst (λ (x : ℕ). Carries q n t s x r (residues t n P)) bound result
