-- The keys that the sums of honest shares make are switch keys under the secret.
use Rattle.std.proofs.Common.{◌≡◌, ℕ, ◌+◌, ◌*◌, ◌≤◌, ◌<◌, List, [], length, map, get_or, sym, subst, arith}
use Rattle.std.proofs.lemmas.Nat.{mul-le}
use Rattle.std.proofs.lemmas.List.FromFn.{get_or-map-range_with_len}
use Rattle.param_set.specs.declared.params.Params.{Params}
use Rattle.param_set.specs.Numbers.{Numbers, numbers_of}
use Rattle.ring_spec.specs.Ring.{ring_product, ring_turned}
use Rattle.ring_spec.specs.Aggregate.{ring_total}
use Rattle.gadget_spec.specs.Digits.{Gadget}
use Rattle.gadget_spec.specs.Switching.{KeyRow, IsSwitchKey}
use Rattle.noise_ledger.specs.Bounds.{numbers_for, rotation_noise, relin_noise}
use Rattle.cipher_spec.specs.Keys.{gadget_of}
use Rattle.key_laws.proofs.RotationKeys.{rotation_keys_are_keys}
use Rattle.key_laws.proofs.RelinKeys.{relin_keys_are_keys}
use Rattle.share_spec.specs.Sets.{members, count}
use Rattle.share_spec.specs.Dealing.{parts as parts_by}
use Rattle.share_spec.specs.Seeds.{seed_in, secret, part, parts}
use Rattle.share_laws.proofs.Seeds.{parts_sum, secret_small}
use Rattle.circuit_laws.specs.Switches.{IsKeyUnder}
use Rattle.proto_names.specs.Names.{rows_of}
use Rattle.proto_names.specs.declared.signature.Signature.{Signature}
use Rattle.proto_names.specs.declared.signature.Signature.TheVariants.{Rlk2, Rot}
use Rattle.proto_names.specs.Roles.{Role}
use Rattle.session_spec.specs.Settings.{Setting, Offer, gadget_rows}
use Rattle.session_spec.specs.Shares.{first_round_share, second_round_share, rotation_share, rows_by, share_row, sum_row, sum_rows, full_sums, first_round, first_sums, relin_rows, rotation_rows}
use Rattle.session_laws.specs.Laws.{ActsWithin}
use Rattle.answer_laws.specs.SwitchKeys.{RotationKeysBelong, RelinKeysBelong}
use Rattle.answer_laws.proofs.Acting.{setting_of}

-- a key within a noise is one within a greater one
quieter : (q n : ℕ) (g : Gadget) (s z : List ℕ) (v w : ℕ) (key : List KeyRow) → v ≤ w → IsSwitchKey q n g s z v key → IsSwitchKey q n g s z w key
quieter q n g s z v w key few k = record { rows = k.rows; noise = λ i l. omega (arith, k.noise i l, few) }

-- the parts of as many members as the threshold sum to the secret
parts_total : (p : Params) (seeds : List (List ℕ)) (set : ℕ) → count set ≡ p.threshold → ring_total p.q p.n (map (part p.q p.n p.threshold seeds set) (members set)) ≡ secret p.q p.n seeds
unfolding parts parts_by part
parts_total p seeds set many = parts_sum p.q p.n p.threshold seeds set (omega arith) p.no_small_factor (omega arith) (omega arith)

-- row r of the sums is the sum of the rows r
sum_at : (w : Setting) (seeds : List (List ℕ)) (role : Role) (polys : List (List ℕ)) (r : ℕ) → r < rows_of role.signature (gadget_rows w) →
    get_or (full_sums w seeds role polys) r [] ≡ ring_total w.numbers.q w.numbers.n (map (share_row w seeds role polys r) (members role.set.bits))
unfolding sum_rows sum_row
sum_at w seeds role polys r l = get_or-map-range_with_len (sum_row w seeds role polys role.set.bits) 0 (rows_of role.signature (gadget_rows w)) r r [] l (omega arith)

-- ---- rotations

rotation_is : (p : Params) (public : List ℕ) (offers : List Offer) (threshold : ℕ) (seeds : List (List ℕ)) (role : Role) (g : ℕ) → ActsWithin (setting_of p public offers) threshold role →
    IsKeyUnder p (secret p.q p.n seeds) (ring_turned p.q p.n g (secret p.q p.n seeds)) (rotation_noise (numbers_for p threshold))
    (rotation_rows (setting_of p public offers) seeds (record role { signature = Rot g }))
unfolding rotation_rows rows_by rotation_share rows_of
rotation_is p public offers threshold seeds role g acts =
    let w = setting_of p public offers in
    let x = secret p.q p.n seeds in
    let js = members role.set.bits in
    let turning : Role = record role { signature = Rot g } in
    let sums = full_sums w seeds turning [] in
    quieter p.q p.n (gadget_of (numbers_of p)) x (ring_turned p.q p.n g x) (length js * p.err) (threshold * p.err) (rotation_rows w seeds turning)
    (mul-le (length js) p.err threshold p.err acts.most (omega arith))
    (rotation_keys_are_keys p.q p.n p.err g role.id (gadget_of (numbers_of p)) public x (seed_in seeds) (part p.q p.n p.threshold seeds role.set.bits) js sums
    (omega arith) (parts_total p seeds role.set.bits acts.parties) record { each = λ r l. sum_at w seeds turning [] r l })

pub rotation_keys_belong : RotationKeysBelong
rotation_keys_belong p w threshold seeds role g numbers turns acts =
    let x = secret p.q p.n seeds in
    let P : Numbers → Type 0 =
    λ z. ActsWithin (record { numbers = z; public = w.public; offers = w.offers }) threshold role
    → IsKeyUnder p x (ring_turned p.q p.n g x) (rotation_noise (numbers_for p threshold))
    (rotation_rows (record { numbers = z; public = w.public; offers = w.offers }) seeds (record role { signature = Rot g })) in
    subst (λ (z : Signature). IsKeyUnder p x (ring_turned p.q p.n g x) (rotation_noise (numbers_for p threshold)) (rotation_rows w seeds (record role { signature = z })))
    (sym turns) (subst P (sym numbers) (rotation_is p w.public w.offers threshold seeds role g) acts)

-- ---- both rounds

relin_is : (p : Params) (public : List ℕ) (offers : List Offer) (threshold : ℕ) (seeds : List (List ℕ)) (role : Role) → length seeds ≡ p.parties → ActsWithin (setting_of p public offers) threshold role →
    IsKeyUnder p (secret p.q p.n seeds) (ring_product p.q p.n (secret p.q p.n seeds) (secret p.q p.n seeds)) (relin_noise (numbers_for p threshold))
    (relin_rows (setting_of p public offers) seeds (record role { signature = Rlk2 }))
unfolding relin_rows first_sums rows_by first_round_share second_round_share rows_of
relin_is p public offers threshold seeds role all acts =
    let w = setting_of p public offers in
    let x = secret p.q p.n seeds in
    let js = members role.set.bits in
    let few : length js ≤ threshold = acts.most in
    let second : Role = record role { signature = Rlk2 } in
    let firsts = first_sums w seeds second in
    let h : 0 < p.q = omega arith in
    let others : p.n * (p.parties + length js) ≤ p.n * (p.parties + threshold) = mul-le p.n (p.parties + length js) p.n (p.parties + threshold) (omega arith) (omega (arith, few)) in
    let noises : length js * p.err ≤ threshold * p.err = mul-le (length js) p.err threshold p.err few (omega arith) in
    quieter p.q p.n (gadget_of (numbers_of p)) x (ring_product p.q p.n x x) (length js * p.err * (p.n * (p.parties + length js) + 2)) (relin_noise (numbers_for p threshold)) (relin_rows w seeds second)
    (mul-le (length js * p.err) (p.n * (p.parties + length js) + 2) (threshold * p.err) (p.n * (p.parties + threshold) + 2) noises (omega (arith, others)))
    (relin_keys_are_keys p.q p.n p.err p.parties role.round1 role.id (gadget_of (numbers_of p)) public x (seed_in seeds) (part p.q p.n p.threshold seeds role.set.bits) js firsts (full_sums w seeds second firsts)
    h (parts_total p seeds role.set.bits acts.parties) (omega (arith, secret_small p.q p.n seeds h, all))
    record { each = λ r l. sum_at w seeds (first_round second) [] r l } record { each = λ r l. sum_at w seeds second firsts r l })

pub relin_keys_belong : RelinKeysBelong
relin_keys_belong p w threshold seeds role numbers all round acts =
    let x = secret p.q p.n seeds in
    let P : Numbers → Type 0 =
    λ z. ActsWithin (record { numbers = z; public = w.public; offers = w.offers }) threshold role
    → IsKeyUnder p x (ring_product p.q p.n x x) (relin_noise (numbers_for p threshold))
    (relin_rows (record { numbers = z; public = w.public; offers = w.offers }) seeds (record role { signature = Rlk2 })) in
    subst (λ (z : Signature). IsKeyUnder p x (ring_product p.q p.n x x) (relin_noise (numbers_for p threshold)) (relin_rows w seeds (record role { signature = z })))
    (sym round) (subst P (sym numbers) (relin_is p w.public w.offers threshold seeds role all) acts)
