-- The decryption of what opens, with honest shares of parties that act within its threshold, is what it carries.
use Rattle.std.proofs.Common.{◌≡◌, ℕ, ◌+◌, ◌*◌, ◌≤◌, ◌<◌, List, [], ◌∷◌, length, slice_index_or, sym, ap, subst, ◌∙◌, arith}
use Rattle.std.proofs.lemmas.Nat.{mul-le}
use Rattle.param_set.specs.declared.params.Params.{Params}
use Rattle.ring_spec.specs.Ring.{IsPoly, size, ring_sum}
use Rattle.ring_spec.specs.Pairs.{Cipher}
use Rattle.ring_spec.specs.Aggregate.{ring_total}
use Rattle.draw_spec.specs.Streams.{instance_stream}
use Rattle.bfv_spec.specs.Scheme.{limit, decryption, Carries}
use Rattle.dec_spec.specs.Decrypting.{flood, honest_dec}
use Rattle.bfv_spec.specs.Members.{parts, noises, decryption_shares}
use Rattle.bfv_laws.proofs.Draws.{wide_poly_is, size_wide_poly}
use Rattle.bfv_laws.proofs.Decryptions.{parameters_fit}
use Rattle.bfv_laws.proofs.Parties.{joint_limit_decrypts}
use Rattle.share_spec.specs.Sets.{members}
use Rattle.share_spec.specs.Seeds.{seed_in, secret}
use Rattle.circuit_laws.specs.Carrying.{Opens}
use Rattle.proto_names.specs.Names.{rows_of}
use Rattle.proto_names.specs.declared.signature.Signature.{Signature}
use Rattle.proto_names.specs.declared.signature.Signature.TheVariants.{Dec}
use Rattle.proto_names.specs.Roles.{Role}
use Rattle.session_spec.specs.Settings.{Offer}
use Rattle.session_spec.specs.Shares.{part_of, decryption_share, rows_by, sum_row, sum_rows, full_sums}
use Rattle.session_laws.specs.Laws.{IsDecryption}
use Rattle.answer_laws.proofs.Acting.{setting_of, acting, noises_all, noises_count, decryption_shares_acting, acting_sum}

-- the flood that point j adds to its share of a decryption
abbrev dec_noise : Params → List (List ℕ) → Role → ℕ → List ℕ
dec_noise p seeds role j = flood p.q p.n p.flood (seed_in seeds j) role.id

-- the row of the sums is the sum of the shares of those who act
dec_row : (p : Params) (public : List ℕ) (offers : List Offer) (seeds : List (List ℕ)) (c : ℕ) (role : Role) (c1 : List ℕ) → role.signature ≡ Dec c →
    slice_index_or (full_sums (setting_of p public offers) seeds role (c1 ∷ [])) 0 []
    ≡ ring_total p.q p.n (decryption_shares p.q p.n c1 (acting (part_of (setting_of p public offers) seeds role) (dec_noise p seeds role) (members role.set.bits)))
unfolding sum_rows sum_row rows_by decryption_share honest_dec rows_of
dec_row p public offers seeds c role c1 e =
    ap (λ (z : Signature). slice_index_or (full_sums (setting_of p public offers) seeds (record role { signature = z }) (c1 ∷ [])) 0 []) e
    ∙ ap (ring_total p.q p.n) (sym (decryption_shares_acting p.q p.n c1 (part_of (setting_of p public offers) seeds role) (dec_noise p seeds role) (members role.set.bits)))

pub decrypts : (p : Params) (public : List ℕ) (offers : List Offer) (threshold : ℕ) (seeds : List (List ℕ)) (c : ℕ) (role : Role) (out : Cipher) (m : List ℕ) → IsDecryption (setting_of p public offers) threshold c role →
    Opens p threshold (secret p.q p.n seeds) out m →
    decryption p.q p.t (ring_sum p.q p.n out.c0 (slice_index_or (full_sums (setting_of p public offers) seeds role (out.c1 ∷ [])) 0 [])) ≡ m
decrypts p public offers threshold seeds c role out m of opens =
    let acts = of.acts in
    let part = part_of (setting_of p public offers) seeds role in
    let noise = dec_noise p seeds role in
    let ps = acting part noise (members role.set.bits) in
    let h : 0 < p.q = omega arith in
    let carried : Carries p.q p.n p.t (ring_total p.q p.n (parts ps)) opens.noise out m =
    subst (λ (s : List ℕ). Carries p.q p.n p.t s opens.noise out m) (sym (acting_sum p public offers seeds role noise acts.parties)) opens.carries in
    let room : opens.noise + threshold * p.flood ≤ limit p.q p.t = opens.within in
    let few : length (noises ps) ≤ threshold = omega (arith, noises_count part noise (members role.set.bits), acts.most) in
    let within : opens.noise + length (noises ps) * p.flood ≤ limit p.q p.t =
    omega (arith, room, mul-le (length (noises ps)) p.flood threshold p.flood few (omega arith)) in
    ap (λ (row : List ℕ). decryption p.q p.t (ring_sum p.q p.n out.c0 row)) (dec_row p public offers seeds c role out.c1 of.signature)
    ∙ joint_limit_decrypts p.q p.n p.t opens.noise p.flood out m ps (omega arith) (parameters_fit p.q p.t (omega arith) (omega arith) (omega arith)) opens.plain carried
    (noises_all (IsPoly p.q p.n) part noise (members role.set.bits) (λ j. wide_poly_is p.q p.n p.flood (seed_in seeds j) (instance_stream role.id) 0 h))
    (noises_all (λ f. size p.q f ≤ p.flood) part noise (members role.set.bits) (λ j. size_wide_poly p.q p.n p.flood (seed_in seeds j) (instance_stream role.id) 0 h)) within
