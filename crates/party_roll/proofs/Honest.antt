-- The rows of an honest share, from the master seed of the roll.
use Rattle.std.proofs.Common.{◌≡◌, ℕ, ◌≤◌, List, [], ◌∷◌}
use Rattle.std.specs.Prelude.{slice_index_or}
use Rattle.draw_spec.specs.Streams.{party_seed}
use Rattle.bfv_spec.specs.Shares.{honest_pk}
use Rattle.dec_spec.specs.Decrypting.{honest_dec}
use Rattle.share_spec.specs.Seeds.{part}
use Rattle.param_set.specs.declared.params.Params.{Params}
use Rattle.param_set.specs.Numbers.{numbers_of}
use Rattle.proto_names.specs.declared.signature.Signature.TheVariants.{Pk, Dec}
use Rattle.instance_table.specs.declared.brief.Brief.{Brief}
use Rattle.session_spec.specs.Settings.{Setting}
use Rattle.session_spec.specs.Shares.{share_rows, rows_by, public_key_share, decryption_share}
use Rattle.instance_table.specs.Tables.{brief_role}
use Rattle.party_roll.specs.Seeds.{seeds_of}
use Rattle.party_roll.proofs.Told.{seed_of_roll}

-- by a brief of the public key, and of a decryption
pub key_rows : (p : Params) (w : Setting) (master : List ℕ) (b : Brief) (j : ℕ)
    → b.signature ≡ Pk → w.numbers ≡ numbers_of p → w.public ≡ party_seed master 0 → 1 ≤ j → j ≤ p.parties
    → honest_pk p.q p.n p.err (party_seed master 0) (party_seed master j) b.id (part p.q p.n p.threshold (seeds_of master p.parties) b.set.bits j) ∷ []
    ≡ share_rows w (seeds_of master p.parties) (brief_role b) b.polys j
unfolding rows_by public_key_share
key_rows p w master b j its same seed first last =
    rw (its, same, seed, seed_of_roll master p.parties j first last)

pub dec_rows : (p : Params) (w : Setting) (master : List ℕ) (c : ℕ) (b : Brief) (j : ℕ)
    → b.signature ≡ Dec c → w.numbers ≡ numbers_of p → 1 ≤ j → j ≤ p.parties
    → honest_dec p.q p.n p.flood (party_seed master j) b.id (slice_index_or b.polys 0 []) (part p.q p.n p.threshold (seeds_of master p.parties) b.set.bits j) ∷ []
    ≡ share_rows w (seeds_of master p.parties) (brief_role b) b.polys j
unfolding rows_by decryption_share
dec_rows p w master c b j its same first last =
    rw (its, same, seed_of_roll master p.parties j first last)
