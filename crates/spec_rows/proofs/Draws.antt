-- Where the draws of each purpose stand: the seed, the stream and the place of each word, with the words left
-- as they are. Polynomials have two coefficients, and q is 17.
use Rattle.std.proofs.Common.{◌≡◌, ℕ, ◌+◌, false, List, [], ◌∷◌, refl}
use Rattle.ring_spec.specs.Ring.{residue, residues, ring_sum, ring_difference, ring_product, ring_turned}
use Rattle.ring_spec.specs.Pairs.{Key}
use Rattle.draw_spec.specs.Draws.{uniform, small, wide, ternary}
use Rattle.draw_spec.specs.Streams.{part_stream, instance_stream, input_stream}
use Rattle.bfv_spec.specs.Scheme.{encryption, pk_share}
use Rattle.bfv_spec.specs.Drawn.{uniform_poly, small_poly, wide_poly, ternary_poly, drawn_encryption}
use Rattle.bfv_spec.specs.Shares.{common_polys, honest_pk, pk_from}
use Rattle.gadget_spec.specs.Digits.{Gadget, weight}
use Rattle.key_spec.specs.Rounds.{switch_share}
use Rattle.key_spec.specs.Rotations.{rotation_row, honest_rotation}
use Rattle.key_spec.specs.Relinearisation.{ephemeral, first_round_rows, honest_first_round, second_round_rows, honest_second_round}
use Rattle.dec_spec.specs.Decrypting.{honest_dec}
use Rattle.share_spec.specs.Dealing.{own_part, dealing_at}

-- the streams of the instance 5, and of input 2 of circuit 1
pub streams : (part_stream ≡ 0) × (instance_stream 5 ≡ 72057594037927941) × (input_stream 1 2 ≡ 144115188075921410)
streams = (refl, refl, refl)

-- ---- polynomials, from place 3 of stream 9 on

-- four words a coefficient
pub uniforms : (seed : List ℕ) → uniform_poly 17 2 seed 9 3 ≡ uniform seed 9 17 3 ∷ uniform seed 9 17 7 ∷ []
unfolding uniform_poly
uniforms seed = refl

-- one word a coefficient
pub smalls : (seed : List ℕ) → small_poly 17 2 1 seed 9 3 ≡ residue 17 (small seed 9 1 3) ∷ residue 17 (small seed 9 1 4) ∷ []
unfolding small_poly residues
smalls seed = refl

-- two words a coefficient
pub wides : (seed : List ℕ) → wide_poly 17 2 1 seed 9 3 ≡ residue 17 (wide seed 9 1 3) ∷ residue 17 (wide seed 9 1 5) ∷ []
unfolding wide_poly residues
wides seed = refl

pub ternaries : (seed : List ℕ) → ternary_poly 17 2 seed 9 3 ≡ residue 17 (ternary seed 9 3) ∷ residue 17 (ternary seed 9 4) ∷ []
unfolding ternary_poly residues
ternaries seed = refl

-- ---- a party's own stream: its part, and behind its two words what it deals, eight words each

pub parts : (seed : List ℕ) → own_part 17 2 seed ≡ residue 17 (ternary seed 0 0) ∷ residue 17 (ternary seed 0 1) ∷ []
unfolding own_part ternary_poly residues
parts seed = refl

pub first_dealt : (seed : List ℕ) → dealing_at 17 2 seed 1 ≡ uniform seed 0 17 2 ∷ uniform seed 0 17 6 ∷ []
unfolding dealing_at uniform_poly
first_dealt seed = refl

pub second_dealt : (seed : List ℕ) → dealing_at 17 2 seed 2 ≡ uniform seed 0 17 10 ∷ uniform seed 0 17 14 ∷ []
unfolding dealing_at uniform_poly
second_dealt seed = refl

-- ---- the stream of instance 5

-- the common polynomials, from the public seed
pub commons : (public : List ℕ) → common_polys 17 2 public 5 2 ≡ (uniform public 72057594037927941 17 0 ∷ uniform public 72057594037927941 17 4 ∷ []) ∷ (uniform public 72057594037927941 17 8 ∷ uniform public 72057594037927941 17 12 ∷ []) ∷ []
unfolding common_polys uniform_poly
commons public = refl

-- a share of the public key: the common polynomial by the public seed, the noise by the party's
pub key_shares : (public seed part : List ℕ) → honest_pk 17 2 1 public seed 5 part
    ≡ pk_share 17 2 (uniform public 72057594037927941 17 0 ∷ uniform public 72057594037927941 17 4 ∷ []) part (residue 17 (small seed 72057594037927941 1 0) ∷ residue 17 (small seed 72057594037927941 1 1) ∷ [])
unfolding honest_pk uniform_poly small_poly residues
key_shares public seed part = refl

pub keys : (public sum : List ℕ) → pk_from 17 2 public 5 sum ≡ record { p0 = sum; p1 = uniform public 72057594037927941 17 0 ∷ uniform public 72057594037927941 17 4 ∷ [] }
unfolding pk_from uniform_poly
keys public sum = refl

-- a share of a decryption: the flood by the party's seed
pub decryption_shares : (seed c1 part : List ℕ) → honest_dec 17 2 1 seed 5 c1 part
    ≡ ring_sum 17 2 (ring_product 17 2 c1 part) (residue 17 (wide seed 72057594037927941 1 0) ∷ residue 17 (wide seed 72057594037927941 1 2) ∷ [])
unfolding honest_dec wide_poly residues
decryption_shares seed c1 part = refl

-- ---- keys for switches, with two digits of three bits, of the weights 1 and 8

abbrev pub two_digits : Gadget
two_digits = record { bits = 3; rows = 2; balanced = false }

-- two draws of a polynomial from a place of the stream of instance 5 on
abbrev pub common_at : List ℕ → ℕ → List ℕ
common_at public k = uniform public 72057594037927941 17 k ∷ uniform public 72057594037927941 17 (k + 4) ∷ []

abbrev pub noise_at : List ℕ → ℕ → List ℕ
noise_at seed k = residue 17 (small seed 72057594037927941 1 k) ∷ residue 17 (small seed 72057594037927941 1 (k + 1)) ∷ []

abbrev pub secret_in : List ℕ → ℕ → List ℕ
secret_in seed stream = residue 17 (ternary seed stream 0) ∷ residue 17 (ternary seed stream 1) ∷ []

-- the first round: two words of the party's ephemeral secret, then the noises of both rows of each digit
pub first_rounds : (public seed part : List ℕ) → honest_first_round 17 2 two_digits 1 public seed 5 part
    ≡ switch_share 17 2 1 (common_at public 0) (secret_in seed 72057594037927941) part (noise_at seed 2)
    ∷ ring_sum 17 2 (ring_product 17 2 part (common_at public 0)) (noise_at seed 4)
    ∷ switch_share 17 2 8 (common_at public 8) (secret_in seed 72057594037927941) part (noise_at seed 6)
    ∷ ring_sum 17 2 (ring_product 17 2 part (common_at public 8)) (noise_at seed 8) ∷ []
unfolding honest_first_round first_round_rows weight uniform_poly small_poly ternary_poly ephemeral residues
first_rounds public seed part = refl

-- its second round: the same ephemeral secret, of the stream of the first round 4, and the noises of the rows of each digit
pub second_rounds : (seed part h00 h10 h01 h11 : List ℕ) → honest_second_round 17 2 two_digits 1 seed 4 5 (h00 ∷ h10 ∷ h01 ∷ h11 ∷ []) part
    ≡ ring_sum 17 2 (ring_product 17 2 part h00) (noise_at seed 0)
    ∷ ring_sum 17 2 (ring_product 17 2 (ring_difference 17 2 (secret_in seed 72057594037927940) part) h10) (noise_at seed 2)
    ∷ ring_sum 17 2 (ring_product 17 2 part h01) (noise_at seed 4)
    ∷ ring_sum 17 2 (ring_product 17 2 (ring_difference 17 2 (secret_in seed 72057594037927940) part) h11) (noise_at seed 6) ∷ []
unfolding honest_second_round second_round_rows small_poly ternary_poly ephemeral residues
second_rounds seed part h00 h10 h01 h11 = refl

-- the rotation by 3: one noise for each digit
pub rotation_shares : (public seed part : List ℕ) → honest_rotation 17 2 two_digits 1 3 public seed 5 part
    ≡ switch_share 17 2 1 (common_at public 0) part (ring_turned 17 2 3 part) (noise_at seed 0)
    ∷ switch_share 17 2 8 (common_at public 8) part (ring_turned 17 2 3 part) (noise_at seed 2) ∷ []
unfolding honest_rotation rotation_row weight uniform_poly small_poly residues
rotation_shares public seed part = refl

-- ---- an encryption from place 3 of stream 9 on: u, then e0, then e1

pub encryptions : (seed m : List ℕ) (key : Key) → drawn_encryption 17 2 4 1 key m seed 9 3
    ≡ encryption 17 2 4 key m (residue 17 (ternary seed 9 3) ∷ residue 17 (ternary seed 9 4) ∷ []) (residue 17 (small seed 9 1 5) ∷ residue 17 (small seed 9 1 6) ∷ []) (residue 17 (small seed 9 1 7) ∷ residue 17 (small seed 9 1 8) ∷ [])
unfolding drawn_encryption ternary_poly small_poly residues
encryptions seed m key = refl
