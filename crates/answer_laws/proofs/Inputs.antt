-- The inputs of a session's circuits carry their values.
use Rattle.std.proofs.Common.{◌≡◌, ℕ, ◌+◌, ◌*◌, ◌<◌, List, [], length, slice_index_or, get_or, sym, ap, subst, ◌∙◌, inl, inr, arith}
use Rattle.std.specs.Prelude.{All, Option, unwrap_or}
use Rattle.std.specs.List.{range_with_len}
use Rattle.std.proofs.lemmas.List.Elements.{All-map}
use Rattle.std.proofs.lemmas.List.FromFn.{length-map-range_with_len, get_or-map-range_with_len}
use Rattle.param_set.specs.declared.params.Params.{Params}
use Rattle.ring_spec.specs.Ring.{IsPoly, ring_sum, ring_product, ring_multiple}
use Rattle.ring_spec.specs.Pairs.{Cipher, Key, CipherFits}
use Rattle.ring_laws.proofs.Residues.{sum_poly}
use Rattle.draw_spec.specs.Streams.{input_stream}
use Rattle.bfv_spec.specs.Scheme.{delta, encryption, Carries, IsPublicKey}
use Rattle.bfv_spec.specs.Drawn.{ternary_poly, small_poly, drawn_encryption}
use Rattle.bfv_laws.proofs.Noise.{drawn_carries}
use Rattle.share_spec.specs.Seeds.{seed_in, secret}
use Rattle.share_laws.proofs.Seeds.{secret_is, secret_small}
use Rattle.noise_ledger.specs.Bounds.{numbers_for, input_bound}
use Rattle.cipher_spec.specs.Ciphers.{no_cipher}
use Rattle.circuit_laws.specs.Carrying.{AreInputs}
use Rattle.session_spec.specs.Settings.{Offer, nodes_at, no_offer, values_at, value_at, owner_at, input_count, Tells}
use Rattle.session_spec.specs.Outputs.{input_of, inputs_of}
use Rattle.session_laws.specs.Laws.{IsSessionKey, Serves}
use Rattle.answer_laws.proofs.Acting.{setting_of}
use Rattle.answer_laws.proofs.Keys.{key_is}

-- ---- inputs

-- an encryption's parts are polynomials of the ring, under whatever key
drawn_fits : (q n t b : ℕ) (key : Key) (m seed : List ℕ) (stream k : ℕ) → 0 < q → CipherFits q n (drawn_encryption q n t b key m seed stream k)
unfolding drawn_encryption encryption
drawn_fits q n t b key m seed stream k h =
    let u = ternary_poly q n seed stream k in
    record {
      c0 = sum_poly q n (ring_sum q n (ring_product q n u key.p0) (small_poly q n b seed stream (k + n))) (ring_multiple q n (delta q t) m) h;
      c1 = sum_poly q n (ring_product q n u key.p1) (small_poly q n b seed stream (k + 2 * n)) h;
    }

-- input k under a key that belongs to the secret
input_carries : (p : Params) (public : List ℕ) (offers : List Offer) (threshold : ℕ) (seeds : List (List ℕ)) (c k : ℕ) (key : Key) → length seeds ≡ p.parties →
    IsSessionKey (setting_of p public offers) threshold seeds key →
    Carries p.q p.n p.t (secret p.q p.n seeds) (input_bound (numbers_for p threshold)) (input_of (setting_of p public offers) seeds key c k) (value_at (setting_of p public offers) c k)
unfolding input_of input_bound
input_carries p public offers threshold seeds c k key all y =
    let w = setting_of p public offers in
    drawn_carries p.q p.n p.t threshold p.err p.parties key (value_at w c k) (secret p.q p.n seeds) (seed_in seeds (owner_at w c k)) (input_stream c k) 0
    (omega arith) (secret_is p.q p.n seeds (omega arith))
    (subst (λ (z : Key). IsPublicKey p.q p.n (secret p.q p.n seeds) (threshold * p.err) z) (sym y.made) (key_is p public offers threshold seeds y.role y.signature y.acts))
    (omega (arith, secret_small p.q p.n seeds (omega arith)))

-- so does each where the key serves the circuit: one of no input has none
served : (p : Params) (public : List ℕ) (offers : List Offer) (threshold : ℕ) (seeds : List (List ℕ)) (c k : ℕ) (key : Key) → length seeds ≡ p.parties →
    Serves (setting_of p public offers) threshold seeds c key → k < input_count (setting_of p public offers) c →
    Carries p.q p.n p.t (secret p.q p.n seeds) (input_bound (numbers_for p threshold)) (input_of (setting_of p public offers) seeds key c k) (value_at (setting_of p public offers) c k)
served p public offers threshold seeds c k key all (inl none) l = absurd (omega arith)
served p public offers threshold seeds c k key all (inr y) l = input_carries p public offers threshold seeds c k key all y

pub are_inputs : (p : Params) (public : List ℕ) (offers : List Offer) (threshold : ℕ) (seeds : List (List ℕ)) (c : ℕ) (key : Key) → length seeds ≡ p.parties → c < length offers →
    Tells p (slice_index_or offers c no_offer) → Serves (setting_of p public offers) threshold seeds c key →
    AreInputs p threshold (secret p.q p.n seeds) (nodes_at (setting_of p public offers) c) (values_at (setting_of p public offers) c) (inputs_of (setting_of p public offers) seeds key c)
unfolding input_of
are_inputs p public offers threshold seeds c key all l tells serves =
    let w = setting_of p public offers in
    let s = secret p.q p.n seeds in
    let many = input_count w c in
    let told : values_at w c ≡ tells.values = ap (λ (o : Option (List (List ℕ))). unwrap_or o []) tells.told in
    record {
      ciphers = length-map-range_with_len (input_of w seeds key c) 0 many;
      polys = ap length told ∙ tells.number;
      fit = All-map (CipherFits p.q p.n) (input_of w seeds key c) (range_with_len 0 many)
          (λ i d r. let k = get_or (range_with_len 0 many) i d in
          drawn_fits p.q p.n p.t p.err key (value_at w c k) (seed_in seeds (owner_at w c k)) (input_stream c k) 0 (omega arith));
      plain = subst (All (IsPoly p.t p.n)) (sym told) tells.plain;
      carry = λ k r.
          subst (λ (z : Cipher). Carries p.q p.n p.t s (input_bound (numbers_for p threshold)) z (value_at w c k))
          (sym (get_or-map-range_with_len (input_of w seeds key c) 0 many k k no_cipher r (omega arith)))
          (served p public offers threshold seeds c k key all serves r);
    }
