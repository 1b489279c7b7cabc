-- The key that honest shares of parties that act within a threshold make is a public key of the secret.
use Rattle.std.proofs.Common.{◌≡◌, ℕ, ◌*◌, ◌≤◌, ◌<◌, List, [], length, slice_index_or, sym, ap, subst, ◌∙◌, arith}
use Rattle.std.proofs.lemmas.Nat.{mul-le}
use Rattle.param_set.specs.declared.params.Params.{Params}
use Rattle.ring_spec.specs.Ring.{IsPoly, size}
use Rattle.ring_spec.specs.Aggregate.{ring_total}
use Rattle.draw_spec.specs.Streams.{instance_stream}
use Rattle.bfv_spec.specs.Scheme.{IsPublicKey}
use Rattle.bfv_spec.specs.Drawn.{small_poly}
use Rattle.bfv_spec.specs.Shares.{common_poly, honest_pk, pk_from}
use Rattle.bfv_spec.specs.Members.{parts, noises, key_shares}
use Rattle.bfv_laws.proofs.Draws.{small_poly_is, size_small_poly}
use Rattle.bfv_laws.proofs.Parties.{joint_key}
use Rattle.share_spec.specs.Sets.{members}
use Rattle.share_spec.specs.Seeds.{seed_in, secret}
use Rattle.proto_names.specs.Names.{rows_of}
use Rattle.proto_names.specs.declared.signature.Signature.{Signature}
use Rattle.proto_names.specs.declared.signature.Signature.TheVariants.{Pk}
use Rattle.proto_names.specs.Roles.{Role}
use Rattle.session_spec.specs.Settings.{Offer}
use Rattle.session_spec.specs.Shares.{part_of, public_key_share, rows_by, sum_row, sum_rows, full_sums, key_of}
use Rattle.session_laws.specs.Laws.{ActsWithin}
use Rattle.answer_laws.proofs.Acting.{setting_of, acting, noises_all, noises_count, key_shares_acting, acting_sum}

-- the noise that point j adds to its share of the public key of an instance
abbrev key_noise : Params → List (List ℕ) → Role → ℕ → List ℕ
key_noise p seeds role j = small_poly p.q p.n p.err (seed_in seeds j) (instance_stream role.id) 0

-- the row of the sums is the sum of the shares of those who act
key_row : (p : Params) (public : List ℕ) (offers : List Offer) (seeds : List (List ℕ)) (role : Role) → role.signature ≡ Pk →
    ring_total p.q p.n (key_shares p.q p.n (common_poly p.q p.n public role.id 0) (acting (part_of (setting_of p public offers) seeds role) (key_noise p seeds role) (members role.set.bits)))
    ≡ slice_index_or (full_sums (setting_of p public offers) seeds role []) 0 []
unfolding sum_rows sum_row rows_by public_key_share honest_pk rows_of
key_row p public offers seeds role e =
    ap (ring_total p.q p.n) (key_shares_acting p.q p.n (common_poly p.q p.n public role.id 0) (part_of (setting_of p public offers) seeds role) (key_noise p seeds role) (members role.set.bits))
    ∙ sym (ap (λ (z : Signature). slice_index_or (full_sums (setting_of p public offers) seeds (record role { signature = z }) []) 0 []) e)

pub key_is : (p : Params) (public : List ℕ) (offers : List Offer) (threshold : ℕ) (seeds : List (List ℕ)) (role : Role) → role.signature ≡ Pk → ActsWithin (setting_of p public offers) threshold role →
    IsPublicKey p.q p.n (secret p.q p.n seeds) (threshold * p.err) (key_of (setting_of p public offers) seeds role)
unfolding key_of pk_from
key_is p public offers threshold seeds role e acts =
    let a = common_poly p.q p.n public role.id 0 in
    let part = part_of (setting_of p public offers) seeds role in
    let noise = key_noise p seeds role in
    let ps = acting part noise (members role.set.bits) in
    let h : 0 < p.q = omega arith in
    let joint : IsPublicKey p.q p.n (ring_total p.q p.n (parts ps)) (length (noises ps) * p.err) (record { p0 = ring_total p.q p.n (key_shares p.q p.n a ps); p1 = a }) =
    joint_key p.q p.n p.err a ps h
    (noises_all (IsPoly p.q p.n) part noise (members role.set.bits) (λ j. small_poly_is p.q p.n p.err (seed_in seeds j) (instance_stream role.id) 0 h))
    (noises_all (λ f. size p.q f ≤ p.err) part noise (members role.set.bits) (λ j. size_small_poly p.q p.n p.err (seed_in seeds j) (instance_stream role.id) 0 h)) in
    let few : length (noises ps) ≤ threshold = omega (arith, noises_count part noise (members role.set.bits), acts.most) in
    let counted : IsPublicKey p.q p.n (ring_total p.q p.n (parts ps)) (threshold * p.err) (record { p0 = ring_total p.q p.n (key_shares p.q p.n a ps); p1 = a }) =
    record { noise = omega (arith, joint.noise, mul-le (length (noises ps)) p.err threshold p.err few (omega arith)) } in
    let whole : IsPublicKey p.q p.n (secret p.q p.n seeds) (threshold * p.err) (record { p0 = ring_total p.q p.n (key_shares p.q p.n a ps); p1 = a }) =
    subst (λ (s : List ℕ). IsPublicKey p.q p.n s (threshold * p.err) (record { p0 = ring_total p.q p.n (key_shares p.q p.n a ps); p1 = a }))
    (acting_sum p public offers seeds role noise acts.parties) counted in
    subst (λ (f : List ℕ). IsPublicKey p.q p.n (secret p.q p.n seeds) (threshold * p.err) (record { p0 = f; p1 = a })) (key_row p public offers seeds role e) whole
