-- What the ledger admits, parties that act within its threshold, keys that serve a circuit, decryptions of one, and
-- that the premises of the laws on admissions and answers are met together.
use Rattle.std.proofs.Common.{◌≡◌, ℕ, ◌<◌, ◌≤◌, true, inl, inr, List, [], ◌∷◌, length, refl, ap, arith, Some, None}
use Rattle.ring_spec.specs.Pairs.{Key}
use Rattle.bfv_spec.specs.Drawn.{uniform_poly}
use Rattle.bfv_spec.specs.Shares.{pk_from}
use Rattle.share_spec.specs.Sets.{has, members_to, members, count}
use Rattle.param_set.specs.Moduli.{binary_digits, digits_up_to}
use Rattle.circuit_form.specs.Circuits.{owners}
use Rattle.noise_ledger.specs.declared.over.Place.TheVariants.{Node as AtNode}
use Rattle.noise_ledger.specs.Bounds.{input_bound, sum_bound, output_bound}
use Rattle.noise_ledger.specs.Ledger.{node_bound, bounds_from, node_bounds, place_bound, first_above, first_over}
use Rattle.cipher_spec.specs.Keys.{no_key}
use Rattle.proto_names.specs.declared.signature.Signature.TheVariants.{Pk, Dec}
use Rattle.session_rules.specs.States.{plan, is_admitted}
use Rattle.session_rules.specs.Fixing.{begins_as, plan_of, fixed_from}
use Rattle.session_spec.specs.Settings.{rules, IsSetting, HasValues, NeedsNoSwitch}
use Rattle.session_spec.specs.Shares.{key_of}
use Rattle.session_laws.specs.Laws.{Admits, ActsWithin, IsDecryption, Serves}
use Rattle.spec_rows.proofs.Settings.{w, p, framed, setting, has_values, needs_no_switch}
use Rattle.spec_rows.proofs.Stores.{role}

-- ---- what the ledger admits

-- a circuit asked about with the parameters' threshold of 2 and with 3; with one that is too large its first input is
-- above the limit
pub admits : Admits p framed 2 0 × Admits p framed 3 0
unfolding first_over first_above place_bound output_bound node_bounds bounds_from node_bound input_bound sum_bound
admits = (refl, refl)

pub admits_above : Admits p framed 1000000000000000 0 → ⊥
unfolding first_over first_above place_bound output_bound node_bounds bounds_from node_bound input_bound sum_bound
admits_above e = let above : Some (AtNode 0) ≡ None = e in cc

-- ---- parties that act within a threshold

-- two parties, where two reconstruct the secret: within 2, and within more
pub acts : ActsWithin w 2 (role Pk 7 5 0) × ActsWithin w 3 (role Pk 7 5 0)
unfolding members members_to has
acts = (record { parties = refl; most = omega arith }, record { parties = refl; most = omega arith })

-- a set that is larger than the ledger's threshold
pub acts_above : ActsWithin w 1 (role Pk 7 5 0) → ⊥
unfolding members members_to has
acts_above a = let most : 2 ≤ 1 = a.most in absurd (omega (arith, most))

-- one party, and three, within whatever threshold
pub acts_alone : (threshold : ℕ) → ActsWithin w threshold (role Pk 7 4 0) → ⊥
unfolding members members_to has
acts_alone threshold a = let parties : 1 ≡ 2 = a.parties in absurd (omega (arith, parties))

pub acts_with_all : (threshold : ℕ) → ActsWithin w threshold (role Pk 7 7 0) → ⊥
unfolding members members_to has
acts_with_all threshold a = let parties : 3 ≡ 2 = a.parties in absurd (omega (arith, parties))

-- ---- keys that serve

-- any where a circuit has no input; else that of an instance of two parties
pub serves_constant : (seeds : List (List ℕ)) → Serves w 2 seeds 0 no_key
unfolding owners
serves_constant seeds = inl refl

pub serves : (seeds : List (List ℕ)) → Serves w 2 seeds 1 (key_of w seeds (role Pk 7 5 0))
serves seeds = inr (record { role = role Pk 7 5 0; signature = refl; acts = acts.0; made = refl })

pub no_key_serves : (seeds : List (List ℕ)) → Serves w 2 seeds 1 no_key → ⊥
unfolding owners key_of pk_from uniform_poly
no_key_serves seeds (inl e) = absurd (omega (arith, e))
no_key_serves seeds (inr k) = let lengths : 0 ≡ 2 = ap (λ (key : Key). length key.p1) k.made in absurd (omega (arith, lengths))

-- no key of two parties where the ledger is asked with 1
pub serves_above : (seeds : List (List ℕ)) (key : Key) → Serves w 1 seeds 1 key → ⊥
unfolding owners
serves_above seeds key (inl e) = absurd (omega (arith, e))
serves_above seeds key (inr k) =
    let acts = k.acts in
    let parties : count k.role.set.bits ≡ 2 = acts.parties in
    absurd (omega (arith, parties, acts.most))

-- ---- decryptions

pub decrypts : IsDecryption w 2 1 (role (Dec 1) 7 5 0)
unfolding members members_to has
decrypts = record { signature = refl; acts = record { parties = refl; most = omega arith } }

-- of another circuit, of one party, and of a set that is larger than the ledger's threshold
pub decrypts_another : IsDecryption w 2 1 (role (Dec 0) 7 5 0) → ⊥
decrypts_another d = let same : Dec 0 ≡ Dec 1 = d.signature in cc

pub decrypts_alone : IsDecryption w 2 1 (role (Dec 1) 7 4 0) → ⊥
unfolding members members_to has
decrypts_alone d = let acts = d.acts in let parties : 1 ≡ 2 = acts.parties in absurd (omega (arith, parties))

pub decrypts_above : IsDecryption w 1 1 (role (Dec 1) 7 5 0) → ⊥
unfolding members members_to has
decrypts_above d = let acts = d.acts in let most : 2 ≤ 1 = acts.most in absurd (omega (arith, most))

-- ---- the premises of the laws

-- on what the rules admit
pub admission_premises : IsSetting p framed × (0 < length framed.offers) × (is_admitted (plan (rules framed) 0) ≡ true)
unfolding rules fixed_from plan_of begins_as owners first_over first_above place_bound output_bound node_bounds bounds_from node_bound input_bound sum_bound binary_digits digits_up_to
admission_premises = (setting, omega arith, refl)

-- on answers, where the ledger is asked with more than the parameters' threshold
pub answer_premises : (a b c : List ℕ) → IsSetting p framed × HasValues p framed × NeedsNoSwitch framed × (length (a ∷ b ∷ c ∷ []) ≡ p.parties) × (0 < length framed.offers)
    × Admits p framed 3 0 × IsDecryption framed 3 0 (role (Dec 0) 2 3 0) × Serves framed 3 (a ∷ b ∷ c ∷ []) 0 (key_of framed (a ∷ b ∷ c ∷ []) (role Pk 1 3 0))
unfolding members members_to has
answer_premises a b c = (
  setting,
  has_values,
  needs_no_switch,
  refl,
  omega arith,
  admits.1,
  record { signature = refl; acts = record { parties = refl; most = omega arith } },
  inr (record { role = role Pk 1 3 0; signature = refl; acts = record { parties = refl; most = omega arith }; made = refl }),
)
