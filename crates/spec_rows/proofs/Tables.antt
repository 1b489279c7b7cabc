-- Sets of parties, instances by their numbers, and the sums that a table keeps beside them.
use Rattle.std.proofs.Common.{◌≡◌, ℕ, List, [], ◌∷◌, true, false, Some, None, refl}
use Rattle.ring_spec.specs.Ring.{residue, residues, ring_sum}
use Rattle.share_spec.specs.Sets.{has, members_to, members}
use Rattle.proto_names.specs.Names.{same, rows_of, polys_of_brief}
use Rattle.proto_names.specs.Groups.{with_party, without_party, set_of, least_of, is_outside, first_outside, number_outside}
use Rattle.proto_names.specs.Roles.{role_of}
use Rattle.proto_names.specs.Instances.{instance, lives, is_done, fresh, lacks, missing, with_share, after_share, after_void, after_lost, owed_shares}
use Rattle.proto_names.specs.declared.signature.Signature.{Signature}
use Rattle.proto_names.specs.declared.signature.Signature.TheVariants.{Pk, Rlk1, Rlk2, Rot, Dec}
use Rattle.proto_names.specs.declared.instance.Instance.{Instance}
use Rattle.proto_names.specs.declared.instance.Stage.{Stage}
use Rattle.proto_names.specs.declared.instance.Stage.TheVariants.{Opened, Complete, Void}
use Rattle.instance_table.specs.declared.share.Count.TheVariants.{Counted, Completed}
use Rattle.instance_table.specs.Tables.{row_sum, rows_sum, after_rows, awaits, stands, told, outcome, count_of}
use Rattle.instance_table.specs.Totals.{added, rows_of_all}

-- ---- sets of parties: 5 is that of the parties 1 and 3

pub members_change : (with_party 5 2 ≡ 7) × (with_party 5 3 ≡ 5) × (with_party 0 32 ≡ 2147483648) × (without_party 7 2 ≡ 5) × (without_party 5 2 ≡ 5) × (without_party 4294967295 32 ≡ 2147483647)
unfolding with_party without_party
members_change = (refl, refl, refl, refl, refl, refl)

pub sets : (set_of (3 ∷ 1 ∷ []) ≡ 5) × (set_of [] ≡ 0) × (least_of 2 13 ≡ 5) × (least_of 0 13 ≡ 0) × (least_of 4 13 ≡ 13)
unfolding set_of least_of members members_to has
sets = (refl, refl, refl, refl, refl)

-- of the parties 1, 3 and 4 those that aren't in the set of 1 and 2
pub outside : (first_outside 13 3 ≡ Some 3) × (first_outside 3 7 ≡ None) × (number_outside 13 3 ≡ 2) × (number_outside 3 7 ≡ 0)
unfolding first_outside number_outside is_outside has
outside = (refl, refl, refl, refl)

-- ---- signatures: the same where both protocol and subject are

pub signatures : (same (Rot 3) (Rot 3) ≡ true) × (same (Rot 3) (Rot 5) ≡ false) × (same (Rot 3) (Dec 3) ≡ false) × (same Rlk1 Rlk2 ≡ false) × (same Pk Pk ≡ true)
unfolding same
signatures = (refl, refl, refl, refl, refl)

-- rows of a share for a gadget of seven
pub rows : (rows_of Pk 7 ≡ 1) × (rows_of Rlk1 7 ≡ 14) × (rows_of Rlk2 7 ≡ 14) × (rows_of (Rot 3) 7 ≡ 7) × (rows_of (Dec 0) 7 ≡ 1)
unfolding rows_of
rows = (refl, refl, refl, refl, refl)

-- polynomials that its shares are made from
pub polys : (polys_of_brief Pk 7 ≡ 0) × (polys_of_brief Rlk1 7 ≡ 0) × (polys_of_brief Rlk2 7 ≡ 14) × (polys_of_brief (Rot 3) 7 ≡ 0) × (polys_of_brief (Dec 0) 7 ≡ 1)
polys = (refl, refl, refl, refl, refl)

-- ---- instances

abbrev pub issued : ℕ → Signature → ℕ → ℕ → ℕ → Stage → ℕ → Instance
issued id σ set attempt sent stage round1 =
    record { id = id; signature = σ; set = record { bits = set }; attempt = attempt; sent = record { bits = sent }; stage = stage; round1 = round1; group = 0 }

-- a key that was given up, and one that waits for party 3
abbrev pub both : List Instance
both = issued 1 Pk 3 1 1 (Void 2) 0 ∷ issued 2 Pk 5 2 1 Opened 0 ∷ []

pub by_number : (instance both 0 ≡ None) × (instance both 1 ≡ Some (issued 1 Pk 3 1 1 (Void 2) 0)) × (instance both 2 ≡ Some (issued 2 Pk 5 2 1 Opened 0)) × (instance both 3 ≡ None)
unfolding instance
by_number = (refl, refl, refl, refl)

-- the third attempt is number 3, and that of another signature is its first; one is for the first group, one for
-- the third
pub next : (fresh both Pk (record { bits = 6 }) 0 0 ≡ issued 3 Pk 6 3 0 Opened 0)
    × (fresh both Rlk2 (record { bits = 6 }) 1 2 ≡ record (issued 3 Rlk2 6 1 0 Opened 1) { group = 2 })
unfolding fresh same
next = (refl, refl)

-- what waits for a party is opened, has it, and hasn't its share
pub waits : (lacks 3 (issued 2 Pk 5 2 1 Opened 0) ≡ true) × (lacks 1 (issued 2 Pk 5 2 1 Opened 0) ≡ false) × (lacks 2 (issued 2 Pk 5 2 1 Opened 0) ≡ false)
    × (lacks 2 (issued 1 Pk 3 1 1 (Void 2) 0) ≡ false) × (owed_shares 3 both ≡ 2 ∷ []) × (owed_shares 2 both ≡ [])
unfolding lacks owed_shares has
waits = (refl, refl, refl, refl, refl, refl)

-- one of three shares, and the last of two
pub counts : (missing 3 (issued 2 Pk 13 2 1 Opened 0) ≡ 1) × (with_share 3 (issued 2 Pk 13 2 1 Opened 0) ≡ issued 2 Pk 13 2 5 Opened 0) × (with_share 3 (issued 2 Pk 5 2 1 Opened 0) ≡ issued 2 Pk 5 2 5 Complete 0)
    × (after_share 2 3 both ≡ issued 1 Pk 3 1 1 (Void 2) 0 ∷ issued 2 Pk 5 2 5 Complete 0 ∷ [])
unfolding after_share with_share missing with_party number_outside is_outside has
counts = (refl, refl, refl, refl)

-- given up by number, and with a party whose share is lacking; what was given up before stays so by its party
pub given_up : (after_void 2 3 both ≡ issued 1 Pk 3 1 1 (Void 2) 0 ∷ issued 2 Pk 5 2 1 (Void 3) 0 ∷ []) × (after_lost 3 both ≡ issued 1 Pk 3 1 1 (Void 2) 0 ∷ issued 2 Pk 5 2 1 (Void 3) 0 ∷ []) × (after_lost 1 both ≡ both)
unfolding after_void after_lost lacks has
given_up = (refl, refl, refl)

pub by_signature : (lives Pk (issued 1 Pk 3 1 1 (Void 2) 0) ≡ false) × (lives Pk (issued 2 Pk 5 2 1 Opened 0) ≡ true) × (lives Rlk1 (issued 2 Pk 5 2 1 Opened 0) ≡ false)
    × (is_done Pk (issued 2 Pk 5 2 1 Opened 0) ≡ false) × (is_done Pk (issued 2 Pk 5 2 5 Complete 0) ≡ true)
unfolding lives is_done same
by_signature = (refl, refl, refl, refl, refl)

-- ---- sums, modulo 17

pub row_sums : rows_sum 17 2 ((16 ∷ 3 ∷ []) ∷ (1 ∷ 2 ∷ []) ∷ []) ((2 ∷ 4 ∷ []) ∷ (5 ∷ 5 ∷ []) ∷ []) ≡ (1 ∷ 7 ∷ []) ∷ (6 ∷ 7 ∷ []) ∷ []
unfolding rows_sum row_sum ring_sum residues residue
row_sums = refl

-- those of instance 2 alone change
pub after : after_rows 17 2 2 ((2 ∷ 4 ∷ []) ∷ []) (((9 ∷ 9 ∷ []) ∷ []) ∷ ((16 ∷ 3 ∷ []) ∷ []) ∷ []) ≡ ((9 ∷ 9 ∷ []) ∷ []) ∷ ((1 ∷ 7 ∷ []) ∷ []) ∷ []
unfolding after_rows rows_sum row_sum ring_sum residues residue
after = refl

pub shares_added : added 17 2 (((2 ∷ 4 ∷ []) ∷ []) ∷ ((3 ∷ 3 ∷ []) ∷ []) ∷ []) ((16 ∷ 3 ∷ []) ∷ []) ≡ (4 ∷ 10 ∷ []) ∷ []
unfolding added rows_sum row_sum ring_sum residues residue
shares_added = refl

pub second_rows : rows_of_all 1 (((2 ∷ []) ∷ (4 ∷ []) ∷ []) ∷ ((3 ∷ []) ∷ (5 ∷ []) ∷ []) ∷ []) ≡ (4 ∷ []) ∷ (5 ∷ []) ∷ []
second_rows = refl

-- ---- what a table tells of its instances

pub awaited : (awaits both 2 3 ≡ true) × (awaits both 2 1 ≡ false) × (awaits both 1 2 ≡ false) × (awaits both 0 3 ≡ false) × (awaits both 3 3 ≡ false)
unfolding awaits instance lacks has
awaited = (refl, refl, refl, refl, refl)

pub standing : (stands both 0 ≡ false) × (stands both 1 ≡ false) × (stands both 2 ≡ true) × (stands both 3 ≡ false)
unfolding stands instance
standing = (refl, refl, refl, refl)

pub entries : (told {X = ℕ} both (7 ∷ 8 ∷ []) 1 ≡ None) × (told {X = ℕ} both (7 ∷ 8 ∷ []) 2 ≡ Some 8) × (told {X = ℕ} both (7 ∷ 8 ∷ []) 3 ≡ None)
unfolding told stands instance
entries = (refl, refl, refl)

pub outcomes : (outcome 0 ≡ Completed) × (outcome 2 ≡ Counted 2) × (count_of both 2 3 ≡ Some Completed) × (count_of both 3 3 ≡ None)
unfolding outcome count_of instance missing with_party number_outside is_outside has
outcomes = (refl, refl, refl, refl)

pub roles : role_of (issued 2 Rlk2 5 1 0 Opened 1)
    ≡ record { signature = Rlk2; id = 2; set = record { bits = 5 }; round1 = 1; group = 0 }
roles = refl
