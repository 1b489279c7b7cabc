-- Which stores go with a state, and which of them are those of honest parties: for a circuit of the constant 3 + 2X
-- alone, of which all but the shares of the decryption can be computed.
use Rattle.std.proofs.Common.{◌≡◌, ℕ, ◌-◌, ◌<◌, zero, suc, Bool, true, false, cond, nat_eq, inl, inr, List, [], ◌∷◌, length, get_or, Option, Some, None, refl, sym, ap, subst, ◌∙◌, true≢false, arith}
use Rattle.std.specs.Prelude.{unwrap_or}
use Rattle.std.specs.List.{slice_get}
use Rattle.std.proofs.lemmas.Option.{slice_get_within}
use Rattle.ring_spec.specs.Ring.{residue, residues, ring_sum, ring_multiple}
use Rattle.ring_spec.specs.Pairs.{Cipher}
use Rattle.ring_spec.specs.Aggregate.{ring_total}
use Rattle.bfv_spec.specs.Scheme.{encryption, trivial}
use Rattle.bfv_spec.specs.Drawn.{drawn_encryption}
use Rattle.dec_spec.specs.Decrypting.{honest_dec}
use Rattle.share_spec.specs.Sets.{has, members_to, members}
use Rattle.param_set.specs.Moduli.{binary_digits, digits_up_to}
use Rattle.circuit_form.specs.Circuits.{owners}
use Rattle.circuit_form.specs.Values.{node_value, given_after, values_from, plain_value}
use Rattle.cipher_spec.specs.Keys.{Keys}
use Rattle.cipher_spec.specs.Ciphers.{node_cipher, ciphers_from, output_cipher}
use Rattle.proto_names.specs.Names.{same, rows_of}
use Rattle.proto_names.specs.Instances.{instance, lacks, is_done}
use Rattle.proto_names.specs.Roles.{role_of}
use Rattle.proto_names.specs.declared.signature.Signature.TheVariants.{Dec, Pk}
use Rattle.proto_names.specs.declared.instance.Instance.{Instance}
use Rattle.proto_names.specs.declared.instance.Stage.TheVariants.{Opened, Complete}
use Rattle.session_rules.specs.declared.reply.Reply.TheVariants as reply
use Rattle.session_rules.specs.declared.deed.Deed.TheVariants.{Joins, Counts, Gives, Turns}
use Rattle.session_rules.specs.declared.state.CircuitState.TheVariants.{Idle, Taken, Evaluated, Answered}
use Rattle.session_rules.specs.States.{State, seen, is_given, has_done}
use Rattle.session_rules.specs.Steps.{finish, is_input, input}
use Rattle.session_rules.proofs.Marks.{instance_within}
use Rattle.session_rules.proofs.Contained.{contains_nil, contains_cases}
use Rattle.session_spec.specs.Settings.{Setting, plain_at, rules}
use Rattle.session_spec.specs.Shares.{decryption_share, rows_by, sum_row, sum_rows}
use Rattle.session_spec.specs.Outputs.{key_in, keys_in, input_of, output_of, told_by, polys_of, share_of, sums_of}
use Rattle.session_spec.specs.Stores.{Store, cipher_or, share_brought, cipher_brought, nothing_brought}
use Rattle.session_spec.specs.Honesty.{Matches, IsHonest, BringsShare, BringsOutput, BringsInput, Brings}
use Rattle.spec_rows.proofs.Tables.{issued}
use Rattle.session_rules.specs.Fixing.{begins_as, plan_of, fixed_from}
use Rattle.noise_ledger.specs.Bounds.{input_bound, sum_bound, output_bound}
use Rattle.noise_ledger.specs.Ledger.{node_bound, bounds_from, node_bounds, place_bound, first_above, first_over}
use Rattle.spec_rows.proofs.Settings.{numbers, constant, w}
use Rattle.spec_rows.proofs.Stores.{role}

abbrev pub v : Setting
v = record { numbers = numbers; public = 9 ∷ []; offers = constant ∷ [] }

-- the circuit is evaluated, and its decryption is issued
abbrev pub decryption : Instance
decryption = issued 1 (Dec 0) 3 1 0 Opened 0

abbrev pub evaluated : State
evaluated = seen 3 (decryption ∷ []) ([] ∷ []) (Evaluated ∷ [])

abbrev pub output : Cipher
output = record { c0 = 756 ∷ 504 ∷ []; c1 = 0 ∷ 0 ∷ [] }

abbrev pub kept : Store
kept = record { told = ((0 ∷ 0 ∷ []) ∷ []) ∷ []; sums = ((0 ∷ 0 ∷ []) ∷ []) ∷ []; inputs = [] ∷ []; outputs = Some output ∷ []; answers = None ∷ [] }

-- ---- as many entries as there are instances, circuits and inputs

pub matches : Matches v evaluated kept
unfolding owners
matches = record { told = refl; sums = refl; inputs = refl; outputs = refl; answers = refl }

pub told_too_few : Matches v evaluated (record kept { told = [] }) → ⊥
told_too_few m = absurd (omega (arith, m.told))

pub sums_too_many : Matches v (seen 3 [] ([] ∷ []) (Evaluated ∷ [])) (record kept { told = [] }) → ⊥
sums_too_many m = absurd (omega (arith, m.sums))

pub input_too_many : Matches v evaluated (record kept { inputs = (None ∷ []) ∷ [] }) → ⊥
unfolding owners
input_too_many m = let lengths : 1 ≡ 0 = ap (λ (xs : List ℕ). get_or xs 0 0) m.inputs in absurd (omega (arith, lengths))

pub answer_wanting : Matches v evaluated (record kept { answers = [] }) → ⊥
answer_wanting m = absurd (omega (arith, m.answers))

-- ---- a store of honest parties

-- the one instance
found : (id : ℕ) (i : Instance) → instance (decryption ∷ []) id ≡ Some i → decryption ≡ i
found id i e = elim (contains_cases decryption [] i (instance_within (decryption ∷ []) id i e)) [
  | inl same ↦ same
  | inr m ↦ absurd (contains_nil i m)
]

past_zero : (id : ℕ) (i : Instance) (b : Bool) → cond b None (slice_get (decryption ∷ []) (id - 1)) ≡ Some i → slice_get (decryption ∷ []) (id - 1) ≡ Some i
past_zero id i true e = cc
past_zero id i false e = e

number_is : (id : ℕ) (i : Instance) → instance (decryption ∷ []) id ≡ Some i → id ≡ 1
unfolding instance
number_is zero i e = cc
number_is (suc k) i e = let within : suc k - 1 < 1 = slice_get_within (decryption ∷ []) (suc k - 1) i (past_zero (suc k) i (nat_eq (suc k) 0) e) in omega (arith, within)

told_so : (seeds : List (List ℕ)) (keys : ℕ → Keys) → polys_of v seeds keys (role_of decryption) ≡ (0 ∷ 0 ∷ []) ∷ []
unfolding told_by output_of output_cipher ciphers_from node_cipher given_after owners trivial ring_multiple residues residue
told_so seeds keys = refl

summed_so : (seeds : List (List ℕ)) (keys : ℕ → Keys) → sums_of v seeds keys decryption ≡ (0 ∷ 0 ∷ []) ∷ []
unfolding sums_of sum_rows sum_row rows_of ring_total residues residue members members_to has
summed_so seeds keys = refl

output_so : (seeds : List (List ℕ)) (keys : Keys) → output_of v seeds keys 0 ≡ output
unfolding output_of output_cipher ciphers_from node_cipher given_after owners trivial ring_multiple residues residue
output_so seeds keys = refl

plain_so : plain_at v 0 ≡ 3 ∷ 2 ∷ []
unfolding plain_at plain_value values_from node_value given_after
plain_so = refl

none_given : (c k : ℕ) → is_given evaluated c k ≡ true → ⊥
none_given zero k h = true≢false (sym h)
none_given (suc c) k h = true≢false (sym h)

output_held : (seeds : List (List ℕ)) (keys : ℕ → Keys) (c : ℕ) → c < 1 → get_or (Some output ∷ []) c None ≡ Some (output_of v seeds (keys c) c)
output_held seeds keys zero l = ap Some (sym (output_so seeds (keys 0)))
output_held seeds keys (suc c) l = absurd (omega (arith, l))

unanswered : (c : ℕ) → c < 1 → get_or (Evaluated ∷ []) c Answered ≡ Answered → ⊥
unanswered zero l e = cc
unanswered (suc c) l e = absurd (omega (arith, l))

pub honest : (seeds : List (List ℕ)) → IsHonest v seeds evaluated kept
honest seeds =
    let keys = keys_in v seeds (decryption ∷ []) in
    record {
      told = λ id i e l. subst (λ (k : ℕ). get_or kept.told (k - 1) [] ≡ polys_of v seeds keys (role_of i)) (sym (number_is id i e))
          (subst (λ (j : Instance). ((0 ∷ 0 ∷ []) ∷ []) ≡ polys_of v seeds keys (role_of j)) (found id i e) (sym (told_so seeds keys)));
      sums = λ id i e l. subst (λ (k : ℕ). get_or kept.sums (k - 1) [] ≡ sums_of v seeds keys i) (sym (number_is id i e))
          (subst (λ (j : Instance). ((0 ∷ 0 ∷ []) ∷ []) ≡ sums_of v seeds keys j) (found id i e) (sym (summed_so seeds keys)));
      inputs = λ c k h. absurd (none_given c k h);
      outputs = λ c l h. output_held seeds keys c l;
      answers = λ c l e. absurd (unanswered c l e);
    }

-- ---- and some that aren't

-- the first coefficient of the first polynomial
abbrev first_of : List (List ℕ) → ℕ
first_of rows = get_or (get_or rows 0 []) 0 0

pub other_told : (seeds : List (List ℕ)) → IsHonest v seeds evaluated (record kept { told = ((1 ∷ 0 ∷ []) ∷ []) ∷ [] }) → ⊥
unfolding instance
other_told seeds h =
    let entry : 1 ≡ 0 = ap first_of (h.told 1 decryption refl refl ∙ told_so seeds (keys_in v seeds (decryption ∷ []))) in absurd (omega (arith, entry))

pub other_sums : (seeds : List (List ℕ)) → IsHonest v seeds evaluated (record kept { sums = ((1 ∷ 0 ∷ []) ∷ []) ∷ [] }) → ⊥
unfolding instance
other_sums seeds h =
    let entry : 1 ≡ 0 = ap first_of (h.sums 1 decryption refl refl ∙ summed_so seeds (keys_in v seeds (decryption ∷ []))) in absurd (omega (arith, entry))

pub no_output : (seeds : List (List ℕ)) → IsHonest v seeds evaluated (record kept { outputs = None ∷ [] }) → ⊥
no_output seeds h = let same : None ≡ Some (output_of v seeds (keys_in v seeds (decryption ∷ []) 0) 0) = h.outputs 0 (omega arith) refl in cc

pub other_output : (seeds : List (List ℕ)) → IsHonest v seeds evaluated (record kept { outputs = Some (record output { c0 = 755 ∷ 504 ∷ [] }) ∷ [] }) → ⊥
other_output seeds h =
    let keys = keys_in v seeds (decryption ∷ []) 0 in
    let same : record output { c0 = 755 ∷ 504 ∷ [] } ≡ output = ap cipher_or (h.outputs 0 (omega arith) refl) ∙ output_so seeds keys in
    let entry : 755 ≡ 756 = ap (λ (c : Cipher). get_or c.c0 0 0) same in absurd (omega (arith, entry))

-- an answer that isn't the plain value 3 + 2X
pub other_answer : (seeds : List (List ℕ)) → IsHonest v seeds (seen 3 [] ([] ∷ []) (Answered ∷ [])) (record kept { answers = Some (3 ∷ 3 ∷ []) ∷ [] }) → ⊥
other_answer seeds h =
    let same : 3 ∷ 3 ∷ [] ≡ 3 ∷ 2 ∷ [] = ap (λ (o : Option (List ℕ)). unwrap_or o []) (h.answers 0 (omega arith) refl) ∙ plain_so in
    let entry : 3 ≡ 2 = ap (λ (xs : List ℕ). get_or xs 1 0) same in absurd (omega (arith, entry))

-- an input that is given, and isn't there
pub input_is_lost : (seeds : List (List ℕ)) → IsHonest w seeds (seen 3 [] ([] ∷ (true ∷ false ∷ []) ∷ []) (Idle ∷ Idle ∷ Idle ∷ [])) (record kept { inputs = [] ∷ (None ∷ None ∷ []) ∷ [] }) → ⊥
input_is_lost seeds h = let same : None ≡ Some (input_of w seeds (key_in w seeds []) 1 0) = h.inputs 1 0 refl in cc

-- ---- what calls bring

-- caller 1 has taken the circuit, so its output is the circuit's; what caller 2 brings is refused, whatever it is
abbrev pub taken : State
taken = seen 3 [] ([] ∷ []) (Taken 1 ∷ [])

pub brings_output : (seeds : List (List ℕ)) → BringsOutput v seeds taken 1 0 output
brings_output seeds e = sym (output_so seeds (keys_in v seeds [] 0))

pub brings_other_output : (seeds : List (List ℕ)) → BringsOutput v seeds taken 1 0 (record output { c0 = 755 ∷ 504 ∷ [] }) → ⊥
unfolding finish
brings_other_output seeds b =
    let entry : 755 ≡ 756 = ap (λ (c : Cipher). get_or c.c0 0 0) (b refl ∙ output_so seeds (keys_in v seeds [] 0)) in absurd (omega (arith, entry))

pub brings_in_vain : (seeds : List (List ℕ)) → BringsOutput v seeds taken 2 0 (record output { c0 = 755 ∷ 504 ∷ [] })
unfolding finish
brings_in_vain seeds e = cc

share_so : (seeds : List (List ℕ)) (keys : ℕ → Keys) → share_of v seeds keys decryption 2 ≡ decryption_share v seeds (role (Dec 0) 1 3 0) (0 ∷ 0 ∷ []) 2 ∷ []
unfolding share_of rows_by told_by output_of output_cipher ciphers_from node_cipher given_after owners trivial ring_multiple residues residue
share_so seeds keys = refl

-- a share of one row for the decryption is the honest one, and has two coefficients; one of no row is
-- refused
pub brings_share : (seeds : List (List ℕ)) → BringsShare v seeds evaluated 1 2 (decryption_share v seeds (role (Dec 0) 1 3 0) (0 ∷ 0 ∷ []) 2 ∷ [])
brings_share seeds i e awaited shape = subst (λ (j : Instance). (decryption_share v seeds (role (Dec 0) 1 3 0) (0 ∷ 0 ∷ []) 2 ∷ []) ≡ share_of v seeds (keys_in v seeds (decryption ∷ [])) j 2) (found 1 i e) (sym (share_so seeds (keys_in v seeds (decryption ∷ []))))

pub brings_short_share : (seeds : List (List ℕ)) → BringsShare v seeds evaluated 1 2 ((5 ∷ []) ∷ []) → ⊥
unfolding instance lacks has rows_of binary_digits digits_up_to decryption_share honest_dec ring_sum residues
brings_short_share seeds b =
    let same : (5 ∷ []) ∷ [] ≡ decryption_share v seeds (role (Dec 0) 1 3 0) (0 ∷ 0 ∷ []) 2 ∷ [] = b decryption refl refl refl ∙ share_so seeds (keys_in v seeds (decryption ∷ [])) in
    let lengths : 1 ≡ 2 = ap (λ (rows : List (List ℕ)). length (get_or rows 0 [])) same in absurd (omega (arith, lengths))

pub brings_no_row : (seeds : List (List ℕ)) → BringsShare v seeds evaluated 1 2 []
unfolding rows_of binary_digits digits_up_to
brings_no_row seeds i e awaited shape =
    let rows : 0 ≡ 1 = shape ∙ ap (λ (j : Instance). rows_of j.signature 2) (sym (found 1 i e)) in absurd (omega (arith, rows))

-- an input whose owner is present is the encryption of its value, once there is a key; before that it is refused
abbrev pub keyed : ℕ → State
keyed present = seen present (issued 1 Pk 3 1 3 Complete 0 ∷ []) ([] ∷ (false ∷ false ∷ []) ∷ (false ∷ false ∷ []) ∷ []) (Idle ∷ Idle ∷ Idle ∷ [])

pub brings_input : (seeds : List (List ℕ)) → BringsInput w seeds (keyed 7) 1 0 (input_of w seeds (key_in w seeds (issued 1 Pk 3 1 3 Complete 0 ∷ [])) 1 0)
brings_input seeds e = refl

pub brings_no_cipher : (seeds : List (List ℕ)) → BringsInput w seeds (keyed 7) 1 0 (record { c0 = []; c1 = [] }) → ⊥
unfolding rules fixed_from plan_of begins_as owners first_over first_above place_bound output_bound node_bounds bounds_from node_bound input_bound sum_bound binary_digits digits_up_to input is_input has_done is_done same has input_of drawn_encryption encryption ring_sum residues
brings_no_cipher seeds b = let lengths : 0 ≡ 2 = ap (λ (c : Cipher). length c.c0) (b refl) in absurd (omega (arith, lengths))

pub owner_is_absent : (seeds : List (List ℕ)) → BringsInput w seeds (keyed 5) 1 0 (record { c0 = []; c1 = [] })
unfolding rules fixed_from plan_of begins_as owners first_over first_above place_bound output_bound node_bounds bounds_from node_bound input_bound sum_bound binary_digits digits_up_to input is_input has_done is_done same has
owner_is_absent seeds e = let said : reply.Absent ≡ reply.Given = e in cc

-- ---- what is brought to a deed

-- a decryption's share by party 2, the circuit's output, and nothing else
pub brings_deeds : (seeds : List (List ℕ)) → Brings v seeds evaluated (Counts decryption 2) (share_brought (decryption_share v seeds (role (Dec 0) 1 3 0) (0 ∷ 0 ∷ []) 2 ∷ []))
    × Brings v seeds taken (Turns 0 Evaluated) (cipher_brought output) × Brings v seeds taken (Turns 0 Idle) nothing_brought × Brings v seeds evaluated (Joins 3) nothing_brought
brings_deeds seeds = (sym (share_so seeds (keys_in v seeds (decryption ∷ []))), sym (output_so seeds (keys_in v seeds [] 0)), tt, tt)

pub brings_input_deed : (seeds : List (List ℕ)) → Brings w seeds (keyed 7) (Gives 1 0) (cipher_brought (input_of w seeds (key_in w seeds (issued 1 Pk 3 1 3 Complete 0 ∷ [])) 1 0))
brings_input_deed seeds = refl

-- an output of other coefficients, and a share and an input that aren't there
pub deed_of_other_output : (seeds : List (List ℕ)) → Brings v seeds taken (Turns 0 Evaluated) (cipher_brought (record output { c0 = 755 ∷ 504 ∷ [] })) → ⊥
deed_of_other_output seeds b =
    let entry : 755 ≡ 756 = ap (λ (c : Cipher). get_or c.c0 0 0) (b ∙ output_so seeds (keys_in v seeds [] 0)) in absurd (omega (arith, entry))

pub deed_of_no_share : (seeds : List (List ℕ)) → Brings v seeds evaluated (Counts decryption 2) nothing_brought → ⊥
deed_of_no_share seeds b = let lengths : 0 ≡ 1 = ap length (b ∙ share_so seeds (keys_in v seeds (decryption ∷ []))) in absurd (omega (arith, lengths))

pub deed_of_no_cipher : (seeds : List (List ℕ)) → Brings w seeds (keyed 7) (Gives 1 0) nothing_brought → ⊥
unfolding input_of drawn_encryption encryption ring_sum residues
deed_of_no_cipher seeds b = let lengths : 0 ≡ 2 = ap (λ (c : Cipher). length c.c0) b in absurd (omega (arith, lengths))
